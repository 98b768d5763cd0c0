-- What a state stands for after each of its steps.
use Rattle.std.proofs.Common.{◌≡◌, ℕ, ◌+◌, ◌-◌, ◌*◌, ◌/◌, ◌%◌, ◌^◌, ◌<◌, ◌≤◌, false, nat_lt, if◌then◌else◌, List, length, refl, sym, ap, ◌∙◌, subst, arith}
use Rattle.std.proofs.lemmas.Bool.Decides.{nat_tests}
use Rattle.std.proofs.lemmas.Nat.{mul-le, pow-add}
use Rattle.std.proofs.Math.Nat.{pow-le-pow_right}
use Rattle.celt_base.specs.Intervals.{Part, Interval, InBits, depth, narrowed, grown, after}
use Rattle.celt_base.specs.Paces.{narrowed_pace, grown_pace, after_pace}
use Rattle.celt_base.proofs.Narrowing.{depth_le, grown_stays, grown_grows, wider}
use Rattle.celt_base.proofs.PaceSteps.{faster}
use Rattle.range_coder.specs.declared.sender.Sender.{Sender}
use Rattle.range_coder.specs.FrameBits.{number}
use Rattle.range_coder.specs.Windows.{IsCut}
use Rattle.range_coder.specs.Senders.{sender_pace, IsSent, Matches}
use Rattle.range_coder.proofs.Numbers.{number_small, front_small}
use Rattle.range_coder.proofs.Showing.{pace_with}

-- narrowed: the low end rises by what is above the part's lower end
sent_narrowed : (room : List ℕ) (s r : Sender) (i j : Interval) (rise : ℕ) → j.low ≡ i.low + rise → r.low ≡ s.low + rise
    → r.sent ≡ s.sent → j.bits ≡ i.bits → IsSent room s i → IsSent room r j
sent_narrowed room s r i j rise low own sent bits is =
    let before = is.low in
    record {
      front = is.front;
      low = omega arith;
      number_is = is.number_is ∙ ap (λ n. is.front * 2 ^ (8 * (length room - n)) + i.bits) (sym sent)
          ∙ ap (λ n. is.front * 2 ^ (8 * (length room - r.sent)) + n) (sym bits);
    }

pub narrowed_matches : (room : List ℕ) (s r : Sender) (i : Interval) (part : Part) (lower upper : ℕ) → IsCut s.width part lower upper
    → lower ≤ s.width → r.low ≡ s.low + (s.width - lower) → r.width ≡ lower - upper → r.sent ≡ s.sent → r.raw ≡ s.raw
    → Matches room s i → Matches room r (narrowed part i)
unfolding narrowed
narrowed_matches room s r i part lower upper cut within low width sent raw is =
    let from : lower ≡ depth i.width part.total part.from = cut.from ∙ ap (λ n. depth n part.total part.from) is.width in
    let to : upper ≡ depth i.width part.total part.to = cut.to ∙ ap (λ n. depth n part.total part.to) is.width in
    let own = is.width in
    let shift = is.shift in
    let bits = is.raw in
    let below = is.below in
    let most = depth_le i.width part.total part.from in
    record {
      width = omega arith;
      shift = omega arith;
      raw = omega arith;
      below = omega arith;
      bits = is.bits;
      sent = λ fits. sent_narrowed room s r i _ (s.width - lower) (omega arith) low sent refl (is.sent (omega arith));
    }

pub narrowed_sender_pace : (s : Sender) (part : Part) (lower upper width bits : ℕ) → IsCut s.width part lower upper
    → width ≡ lower - upper → bits ≡ 33 + 8 * s.sent + s.raw → pace_with width bits ≡ narrowed_pace part (sender_pace s)
unfolding narrowed_pace
narrowed_sender_pace s part lower upper width bits cut narrow same =
    let from = cut.from in
    let to = cut.to in
    let left : width ≡ depth s.width part.total part.from - depth s.width part.total part.to = omega arith in
    ap (λ n. pace_with n bits) left ∙ ap (λ n. pace_with (depth s.width part.total part.from - depth s.width part.total part.to) n) same

-- a wide interval stays, of a narrow one a byte is sent
pub wide_matches : (room : List ℕ) (s : Sender) (i : Interval) → 2 ^ 23 < s.width → Matches room s i → Matches room s (grown i)
wide_matches room s i wide is =
    let same = is.width in
    subst (Matches room s) (sym (grown_stays i (let e : 2 ^ 23 < i.width = omega arith in e))) is

-- what a byte more leaves fits the room
fits_room : (len front bits sent raw : ℕ) → front < 2 ^ (8 * sent) → bits < 2 ^ raw → 8 * sent + raw ≤ 8 * len
    → front * 2 ^ (8 * (len - sent)) + bits < 2 ^ (8 * len)
fits_room len front bits sent raw first rest fits =
    subst (λ n. front * 2 ^ (8 * (len - sent)) + bits < 2 ^ n) (let e : 8 * sent + 8 * (len - sent) ≡ 8 * len = omega arith in e)
    (number_small front bits (8 * sent) raw (8 * (len - sent)) first rest (omega arith))

-- the number with a byte more
byte_more : (len front bits sent top : ℕ) → sent + 1 ≤ len
    → front * 2 ^ (8 * (len - sent)) + bits + top * 2 ^ (8 * (len - (sent + 1))) ≡ (front * 256 + top) * 2 ^ (8 * (len - (sent + 1))) + bits
byte_more len front bits sent top within =
    let unit = 2 ^ (8 * (len - (sent + 1))) in
    let eight : 2 ^ (8 * (len - sent)) ≡ unit * 256 =
    ap (λ n. 2 ^ n) (let e : 8 * (len - sent) ≡ 8 * (len - (sent + 1)) + 8 = omega arith in e) ∙ pow-add 2 (8 * (len - (sent + 1))) 8 in
    let first : front * 2 ^ (8 * (len - sent)) ≡ front * 256 * unit = ap (λ n. front * n) eight ∙ omega arith in
    omega arith

sent_more : (old new : List ℕ) (s r : Sender) (i : Interval) → length new ≡ length old → Matches old s i
    → s.width ≤ 2 ^ 23 → r.low ≡ s.low % 2 ^ 23 * 256 → r.sent ≡ s.sent + 1
    → (number old + s.low / 2 ^ 23 * 2 ^ (8 * (length old - (s.sent + 1))) < 2 ^ (8 * length old)
    → number new ≡ number old + s.low / 2 ^ 23 * 2 ^ (8 * (length old - (s.sent + 1))))
    → 8 * (s.sent + 1) + s.raw ≤ 8 * length old → IsSent new r (wider i)
sent_more old new s r i len is narrow low sent adds fits =
    let was = is.sent (omega arith) in
    let top = s.low / 2 ^ 23 in
    let before = was.low in
    let below = is.below in
    let shift = is.shift in
    let own = is.width in
    let raw = is.raw in
    let some = s.some in
    let front = was.front * 256 + top in
    let eight : 2 ^ (31 + (i.shift + 8)) ≡ 2 ^ (31 + i.shift) * 256 = ap (λ n. 2 ^ n) (let e : 31 + (i.shift + 8) ≡ (31 + i.shift) + 8 = omega arith in e) ∙ pow-add 2 (31 + i.shift) 8 in
    let same : 2 ^ (31 + (i.shift + 8)) ≡ 2 ^ (31 + 8 * (s.sent + 1)) = ap (λ n. 2 ^ n) (let e : 31 + (i.shift + 8) ≡ 31 + 8 * (s.sent + 1) = omega arith in e) in
    let low_is : i.low * 256 ≡ front * 2 ^ 31 + s.low % 2 ^ 23 * 256 = omega arith in
    let first = front_small front 31 (8 * (s.sent + 1)) (omega arith) in
    let rest : i.bits < 2 ^ s.raw = subst (λ n. i.bits < 2 ^ n) raw is.bits in
    let more = byte_more (length old) was.front i.bits s.sent top (omega arith) in
    let small = fits_room (length old) front i.bits (s.sent + 1) s.raw first rest fits in
    let number_was = was.number_is in
    let new_is : number new ≡ front * 2 ^ (8 * (length old - (s.sent + 1))) + i.bits = adds (omega arith) ∙ ap (λ n. n + top * 2 ^ (8 * (length old - (s.sent + 1)))) number_was ∙ more in
    record {
      front = front;
      low = low_is ∙ ap (λ n. front * 2 ^ 31 + n) (sym low);
      number_is = new_is ∙ ap (λ n. front * 2 ^ (8 * (n - (s.sent + 1))) + i.bits) (sym len)
          ∙ ap (λ n. front * 2 ^ (8 * (length new - n)) + i.bits) (sym sent);
    }

pub more_matches : (old new : List ℕ) (s r : Sender) (i : Interval) → length new ≡ length old
    → s.width ≤ 2 ^ 23 → r.low ≡ s.low % 2 ^ 23 * 256 → r.width ≡ s.width * 256 → r.sent ≡ s.sent + 1 → r.raw ≡ s.raw
    → (8 * (s.sent + 1) + s.raw ≤ 8 * length old
    → number old + s.low / 2 ^ 23 * 2 ^ (8 * (length old - (s.sent + 1))) < 2 ^ (8 * length old)
    → number new ≡ number old + s.low / 2 ^ 23 * 2 ^ (8 * (length old - (s.sent + 1))))
    → Matches old s i → Matches new r (grown i)
more_matches old new s r i len narrow low width sent raw adds is =
    let own = is.width in
    let shift = is.shift in
    let bits = is.raw in
    let below = is.below in
    let small : i.width ≤ 2 ^ 23 = omega arith in
    let eight : 2 ^ (31 + (i.shift + 8)) ≡ 2 ^ (31 + i.shift) * 256 = ap (λ n. 2 ^ n) (let e : 31 + (i.shift + 8) ≡ (31 + i.shift) + 8 = omega arith in e) ∙ pow-add 2 (31 + i.shift) 8 in
    let matches : Matches new r (wider i) =
    record {
      width = omega arith;
      shift = omega arith;
      raw = omega arith;
      below = omega arith;
      bits = is.bits;
      sent = λ fits. let held : 8 * (s.sent + 1) + s.raw ≤ 8 * length old = omega arith in
          sent_more old new s r i len is narrow low sent (adds held) held;
    } in
    subst (Matches new r) (sym (grown_grows i small)) matches

pub more_pace : (s : Sender) (width bits : ℕ) → s.width ≤ 2 ^ 23 → width ≡ s.width * 256 → bits ≡ 33 + 8 * s.sent + s.raw + 8
    → pace_with width bits ≡ grown_pace (sender_pace s)
unfolding grown_pace
more_pace s width bits narrow wider_is more =
    let test : nat_lt (2 ^ 23) s.width ≡ false = grind (arith, nat_tests) in
    ap (λ n. pace_with n bits) wider_is
    ∙ ap (λ n. pace_with (s.width * 256) n) more
    ∙ ap (λ b. if b then sender_pace s else faster (sender_pace s)) (sym test)

-- raw bits
shifted : (number low high : ℕ) → number * 2 ^ low * 2 ^ high ≡ number * 2 ^ (low + high)
shifted number low high = let power = pow-add 2 low high in
    let product : number * 2 ^ (low + high) ≡ number * (2 ^ low * 2 ^ high) = ap (λ n. number * n) power in omega arith

raw_place : (number raw value : ℕ) → value ≡ number * 2 ^ (raw % 8) → value * 2 ^ (8 * (raw / 8)) ≡ number * 2 ^ raw
raw_place number raw value e =
    ap (λ n. n * 2 ^ (8 * (raw / 8))) e ∙ shifted number (raw % 8) (8 * (raw / 8))
    ∙ ap (λ n. number * 2 ^ n) (let q : raw % 8 + 8 * (raw / 8) ≡ raw = omega arith in q)

bits_small : (bits raw count number : ℕ) → bits < 2 ^ raw → number < 2 ^ count → bits + number * 2 ^ raw < 2 ^ (raw + count)
bits_small bits raw count number rest below =
    let power = pow-add 2 raw count in
    let product = mul-le (number + 1) (2 ^ raw) (2 ^ count) (2 ^ raw) (omega arith) (omega arith) in
    omega arith

raw_sent : (old new : List ℕ) (s r : Sender) (i : Interval) (count number_is value : ℕ) → length new ≡ length old → Matches old s i
    → r.low ≡ s.low → r.sent ≡ s.sent → number_is < 2 ^ count → 1 ≤ count → value ≡ number_is * 2 ^ (s.raw % 8)
    → (number old + value * 2 ^ (8 * (length old - ((length old - 1 - s.raw / 8) + 1))) < 2 ^ (8 * length old)
    → number new ≡ number old + value * 2 ^ (8 * (length old - ((length old - 1 - s.raw / 8) + 1))))
    → 8 * s.sent + s.raw + count ≤ 8 * length old → IsSent new r (after i (InBits count number_is))
unfolding after
raw_sent old new s r i count number_is value len is low sent below some value_is adds fits =
    let was = is.sent (omega arith) in
    let before = was.low in
    let below_end = is.below in
    let shift = is.shift in
    let own = is.width in
    let raw = is.raw in
    let least = s.some in
    let place : 8 * (length old - ((length old - 1 - s.raw / 8) + 1)) ≡ 8 * (s.raw / 8) = omega arith in
    let number_was = was.number_is in
    let unit : value * 2 ^ (8 * (length old - ((length old - 1 - s.raw / 8) + 1))) ≡ number_is * 2 ^ s.raw =
    ap (λ n. value * 2 ^ n) place ∙ raw_place number_is s.raw value value_is in
    let rest : i.bits < 2 ^ s.raw = subst (λ n. i.bits < 2 ^ n) raw is.bits in
    let all = bits_small i.bits s.raw count number_is rest below in
    let same : 2 ^ (31 + i.shift) ≡ 2 ^ (31 + 8 * s.sent) = ap (λ n. 2 ^ (31 + n)) shift in
    let first = front_small was.front 31 (8 * s.sent) (omega arith) in
    let small = fits_room (length old) was.front (i.bits + number_is * 2 ^ s.raw) s.sent (s.raw + count) first all (omega arith) in
    let sum : was.front * 2 ^ (8 * (length old - s.sent)) + i.bits + number_is * 2 ^ s.raw
    ≡ was.front * 2 ^ (8 * (length old - s.sent)) + (i.bits + number_is * 2 ^ s.raw) = omega arith in
    let new_is = adds (omega arith) ∙ ap (λ n. number old + n) unit ∙ ap (λ n. n + number_is * 2 ^ s.raw) number_was ∙ sum in
    record {
      front = was.front;
      low = omega arith;
      number_is = new_is ∙ ap (λ n. was.front * 2 ^ (8 * (n - s.sent)) + (i.bits + number_is * 2 ^ s.raw)) (sym len)
          ∙ ap (λ n. was.front * 2 ^ (8 * (length new - n)) + (i.bits + number_is * 2 ^ s.raw)) (sym sent)
          ∙ ap (λ n. was.front * 2 ^ (8 * (length new - r.sent)) + (i.bits + number_is * 2 ^ n)) (sym raw);
    }

pub raw_matches : (old new : List ℕ) (s r : Sender) (i : Interval) (count number_is value : ℕ) → length new ≡ length old
    → r.low ≡ s.low → r.width ≡ s.width → r.sent ≡ s.sent → r.raw ≡ s.raw + count
    → number_is < 2 ^ count → 1 ≤ count → value ≡ number_is * 2 ^ (s.raw % 8)
    → (8 * s.sent + s.raw + count ≤ 8 * length old
    → number old + value * 2 ^ (8 * (length old - ((length old - 1 - s.raw / 8) + 1))) < 2 ^ (8 * length old)
    → number new ≡ number old + value * 2 ^ (8 * (length old - ((length old - 1 - s.raw / 8) + 1))))
    → Matches old s i → Matches new r (after i (InBits count number_is))
unfolding after
raw_matches old new s r i count number_is value len low width sent raw below some value_is adds is =
    let own = is.width in
    let shift = is.shift in
    let bits = is.raw in
    let rest : i.bits < 2 ^ i.raw = is.bits in
    let all = bits_small i.bits i.raw count number_is rest below in
    record {
      width = omega arith;
      shift = omega arith;
      raw = omega arith;
      below = is.below;
      bits = all;
      sent = λ fits. let held : 8 * s.sent + s.raw + count ≤ 8 * length old = omega arith in
          raw_sent old new s r i count number_is value len is low sent below some value_is (adds held) held;
    }

-- raw bits in their byte fit
pub shift_small : (number_is count low : ℕ) → number_is < 2 ^ count → count ≤ 24 → low < 8 → number_is * 2 ^ low < 2 ^ 31
shift_small number_is count low below few least =
    let most : 2 ^ count ≤ 2 ^ 24 = pow-le-pow_right {n = 2} (omega arith) few in
    let seven : low ≤ 7 = omega arith in
    let unit : 2 ^ low ≤ 2 ^ 7 = pow-le-pow_right {n = 2} (omega arith) seven in
    let product = mul-le number_is (2 ^ low) (2 ^ 24 - 1) (2 ^ 7) (omega arith) unit in
    omega arith

pub bits_pace : (s : Sender) (bits count number_is : ℕ) → bits ≡ 33 + 8 * s.sent + s.raw + count
    → pace_with s.width bits ≡ after_pace (sender_pace s) (InBits count number_is)
unfolding after_pace
bits_pace s bits count number_is more = ap (pace_with s.width) more
