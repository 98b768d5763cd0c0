-- A window that takes the part of an answer takes the answer.
use Rattle.std.proofs.Common.{◌≡◌, ℕ, zero, suc, ◌+◌, ◌-◌, ◌*◌, ◌/◌, ◌%◌, ◌^◌, ◌<◌, ◌≤◌, min, List, [], ◌∷◌, ℤ, pos, refl, sym, ap, ◌∙◌, subst, arith}
use Rattle.std.specs.List.{fold}
use Rattle.std.proofs.lemmas.Nat.{mul-le, shr_below, leading_length, div_below, le-div}
use Rattle.std.proofs.Math.Nat.{div-mul-le_self, pow-le-pow_right}
use Rattle.celt_base.specs.declared.question.Question.{Question}
use Rattle.celt_base.specs.declared.question.Question.TheVariants.{Uniform, Raw}
use Rattle.celt_base.specs.Intervals.{Part, InPart, InBits, Interval, narrowed, after}
use Rattle.celt_base.specs.Paces.{Pace, after_pace, paced}
use Rattle.celt_base.specs.Questions.{Row, start, part_of, IsAnswer, steps, low_steps, bit_length, low_bits, uniform_row}
use Rattle.celt_base.proofs.Fillings.{sum_start, uniform_sum}
use Rattle.range_coder.specs.declared.window.Window.{Window}
use Rattle.range_coder.specs.FrameBits.{tail}
use Rattle.range_coder.proofs.Tails.{tail_none}
use Rattle.range_coder.specs.Reading.{Holds, IsGiven}
use Rattle.range_coder.specs.Windows.{Shows, window_pace, TakesPart, TakesAnswer}

pub takes_part : (frame : List ℕ) (w r : Window) (q : Question) (a : ℤ) (part : Part) → IsAnswer q a → steps q a ≡ InPart part ∷ []
    → ((i : Interval) → Holds frame (narrowed part i) → IsGiven frame i q a) → TakesPart frame w part r → TakesAnswer frame w q a r
unfolding paced
takes_part frame w r q a part is e given takes =
    record {
      is_answer = is;
      given = λ i shows. given i (takes.holds i shows);
      shows = λ i shows. subst (λ s. Shows frame r (fold after i s)) (sym e) (takes.shows i shows);
      pace = takes.pace ∙ ap (λ s. fold after_pace (window_pace w) s) (sym e);
    }

-- the part of a row from its two ends
pub row_part : (row : Row) (n from to total : ℕ) → from ≡ start row n → to ≡ start row (suc n) → total ≡ row.total
    → (record { from = from; to = to; total = total }) ≡ part_of row n
row_part row n from to total lower upper all =
    ap (λ k. let part : Part = record { from = k; to = to; total = total } in part) lower
    ∙ ap (λ k. let part : Part = record { from = start row n; to = k; total = total } in part) upper
    ∙ ap (λ k. let part : Part = record { from = start row n; to = start row (suc n); total = k } in part) all

pub takes_row : (frame : List ℕ) (w r : Window) (q : Question) (a : ℤ) (row : Row) (n from to total : ℕ) → IsAnswer q a
    → steps q a ≡ InPart (part_of row n) ∷ []
    → ((i : Interval) → Holds frame (narrowed (part_of row n) i) → IsGiven frame i q a)
    → from ≡ start row n → to ≡ start row (suc n) → total ≡ row.total
    → TakesPart frame w (record { from = from; to = to; total = total }) r → TakesAnswer frame w q a r
takes_row frame w r q a row n from to total is e given lower upper all takes =
    takes_part frame w r q a (part_of row n) is e given (subst (λ part. TakesPart frame w part r) (row_part row n from to total lower upper all) takes)

-- a part of as many shares
pub takes_total : (frame : List ℕ) (w r : Window) (from to total other : ℕ) → total ≡ other
    → TakesPart frame w (record { from = from; to = to; total = total }) r
    → TakesPart frame w (record { from = from; to = to; total = other }) r
takes_total frame w r from to total other e =
    subst (λ n. TakesPart frame w (record { from = from; to = to; total = n }) r) e

-- raw bits
pub takes_raw : (frame : List ℕ) (w r : Window) (count number : ℕ) → number < 2 ^ count
    → ((i : Interval) → Shows frame w i → tail frame i.raw count ≡ number)
    → ((i : Interval) (n : ℕ) → Shows frame w i → Shows frame r (after i (InBits count n)))
    → ((n : ℕ) → window_pace r ≡ after_pace (window_pace w) (InBits count n))
    → TakesAnswer frame w (Raw count) (pos number) r
unfolding paced
takes_raw frame w r count number below value shows pace =
    record {
      is_answer = below;
      given = λ i shown. (value i shown, tt);
      shows = λ i shown. shows i number shown;
      pace = pace number;
    }

-- a number below a limit has at most eight bits above its low ones
pub top_small : (limit : ℕ) → limit < 2 ^ 32 → (limit - 1) / 2 ^ low_bits limit + 1 ≤ 2 ^ 8
top_small limit fits =
    let last : limit - 1 < 2 ^ 32 = omega arith in
    let length = leading_length 32 (limit - 1) last in
    let size = length.1 in
    let bits : bit_length (limit - 1) ≡ length.0 = omega arith in
    let enough : 2 ^ length.0 ≤ 2 ^ (8 + low_bits limit) = pow-le-pow_right {n = 2} (omega arith) (omega arith) in
    let below = length.2 in
    let top = shr_below (limit - 1) 8 (low_bits limit) (omega arith) in
    omega arith

pub low_few : (limit : ℕ) → low_bits limit ≤ 24
low_few limit = omega arith

-- the number from its top and its low bits, the last one at most
pub number_fits : (top low raw : ℕ) → top < 2 ^ 8 → low ≤ 24 → raw < 2 ^ low → top * 2 ^ low + raw < 2 ^ 32
number_fits top low raw small few below =
    let power : 2 ^ low ≤ 2 ^ 24 = pow-le-pow_right {n = 2} (omega arith) few in
    let most = mul-le (top + 1) (2 ^ low) (2 ^ 8) (2 ^ 24) (omega arith) power in
    omega arith

pub record HasTop (last low top raw number : ℕ) : Type 0 where
  pub top_is : number / 2 ^ low ≡ top
  pub number_is : number ≡ min last (number / 2 ^ low * 2 ^ low + raw)

pub has_top : (last low top raw number : ℕ) → 0 < 2 ^ low → top ≤ last / 2 ^ low → raw < 2 ^ low → number ≡ min (top * 2 ^ low + raw) last
    → HasTop last low top raw number
has_top last low top raw number some within below e =
    let fits = mul-le top (2 ^ low) (last / 2 ^ low) (2 ^ low) within (omega arith) in
    let whole = div-mul-le_self last (2 ^ low) in
    let least = le-div top number (2 ^ low) some (omega arith) in
    let most = div_below number (2 ^ low) (top + 1) some (omega arith) in
    let top_is : number / 2 ^ low ≡ top = omega arith in
    let product : number / 2 ^ low * 2 ^ low ≡ top * 2 ^ low = ap (λ n. n * 2 ^ low) top_is in
    record { top_is = top_is; number_is = omega arith }

low_after : (low n : ℕ) (i : Interval) → 1 ≤ low → after i (InBits low (n % 2 ^ low)) ≡ fold after i (low_steps low n)
low_after zero n i some = absurd (omega arith)
low_after (suc k) n i some = refl

low_pace : (low n : ℕ) (p : Pace) → 1 ≤ low → after_pace p (InBits low (n % 2 ^ low)) ≡ fold after_pace p (low_steps low n)
low_pace zero n p some = absurd (omega arith)
low_pace (suc k) n p some = refl

pub uniform_part : (limit top : ℕ) → top < (limit - 1) / 2 ^ low_bits limit + 1
    → (record { from = top; to = top + 1; total = (limit - 1) / 2 ^ low_bits limit + 1 }) ≡ part_of (uniform_row limit) top
uniform_part limit top within =
    let row = uniform_row limit in
    let own = sum_start row ((limit - 1) / 2 ^ low_bits limit + 1) (λ n. n) (uniform_sum limit) top (omega arith) in
    let next = sum_start row ((limit - 1) / 2 ^ low_bits limit + 1) (λ n. n) (uniform_sum limit) (suc top) (omega arith) in
    row_part row top top (top + 1) ((limit - 1) / 2 ^ low_bits limit + 1) (sym own) (let e : top + 1 ≡ suc top = omega arith in e ∙ sym next) refl

-- a wide number: first its top part, then its low bits
pub takes_wide : (frame : List ℕ) (w m r : Window) (limit top raw number : ℕ) → 2 ≤ limit → 1 ≤ low_bits limit
    → top < (limit - 1) / 2 ^ low_bits limit + 1 → raw < 2 ^ low_bits limit → 0 < 2 ^ low_bits limit
    → number ≡ min (top * 2 ^ low_bits limit + raw) (limit - 1)
    → TakesPart frame w (record { from = top; to = top + 1; total = (limit - 1) / 2 ^ low_bits limit + 1 }) m
    → ((i : Interval) → Shows frame w i → tail frame i.raw (low_bits limit) ≡ raw)
    → ((i : Interval) (n : ℕ) → Shows frame m i → Shows frame r (after i (InBits (low_bits limit) n)))
    → ((n : ℕ) → window_pace r ≡ after_pace (window_pace m) (InBits (low_bits limit) n))
    → TakesAnswer frame w (Uniform limit) (pos number) r
unfolding paced
takes_wide frame w m r limit top raw number two some within below power e part value shows pace =
    let low = low_bits limit in
    let is = has_top (limit - 1) low top raw number power (omega arith) below e in
    let at : part_of (uniform_row limit) (number / 2 ^ low) ≡ part_of (uniform_row limit) top = ap (part_of (uniform_row limit)) is.top_is in
    let takes = subst (λ p. TakesPart frame w p m) (uniform_part limit top within ∙ sym at) part in
    record {
      is_answer = omega arith;
      given = λ i shown.
          record {
            top = takes.holds i shown;
            number = is.number_is ∙ ap (λ n. min (limit - 1) (number / 2 ^ low * 2 ^ low + n)) (sym (value i shown));
          };
      shows = λ i shown. subst (Shows frame r) (low_after low number (after i (InPart (part_of (uniform_row limit) (number / 2 ^ low)))) some)
          (shows (after i (InPart (part_of (uniform_row limit) (number / 2 ^ low)))) (number % 2 ^ low) (takes.shows i shown));
      pace = pace (number % 2 ^ low) ∙ ap (λ p. after_pace p (InBits low (number % 2 ^ low))) takes.pace
          ∙ low_pace low number (after_pace (window_pace w) (InPart (part_of (uniform_row limit) (number / 2 ^ low)))) some;
    }

-- a narrow one: the part alone
pub narrow_steps : (low n : ℕ) → low ≡ 0 → low_steps low n ≡ []
narrow_steps low n e = ap (λ k. low_steps k n) e

no_tail : (frame : List ℕ) (from count : ℕ) → count ≡ 0 → tail frame from count ≡ 0
no_tail frame from count e = ap (tail frame from) e ∙ tail_none frame from

pub takes_narrow : (frame : List ℕ) (w r : Window) (limit top : ℕ) → 2 ≤ limit → low_bits limit ≡ 0
    → top < (limit - 1) / 2 ^ low_bits limit + 1
    → TakesPart frame w (record { from = top; to = top + 1; total = (limit - 1) / 2 ^ low_bits limit + 1 }) r
    → TakesAnswer frame w (Uniform limit) (pos top) r
takes_narrow frame w r limit top two none within part =
    let low = low_bits limit in
    let one : 2 ^ low ≡ 1 = ap (λ n. 2 ^ n) none in
    let whole : top / 2 ^ low ≡ top = ap (λ n. top / n) one ∙ omega arith in
    let last : (limit - 1) / 2 ^ low ≡ limit - 1 = ap (λ n. (limit - 1) / n) one ∙ omega arith in
    let product : top / 2 ^ low * 2 ^ low ≡ top = ap (λ n. n * 2 ^ low) whole ∙ ap (λ n. top * n) one ∙ omega arith in
    let at : part_of (uniform_row limit) (top / 2 ^ low) ≡ part_of (uniform_row limit) top = ap (part_of (uniform_row limit)) whole in
    let steps_are : steps (Uniform limit) (pos top) ≡ InPart (part_of (uniform_row limit) top) ∷ [] =
    ap (λ s. InPart (part_of (uniform_row limit) (top / 2 ^ low)) ∷ s) (narrow_steps low top none) ∙ ap (λ p. InPart p ∷ []) at in
    takes_part frame w r (Uniform limit) (pos top) (part_of (uniform_row limit) top) (omega arith) steps_are
    (λ i holds. record {
      top = subst (λ p. Holds frame (narrowed p i)) (sym at) holds;
      number = let none_left = no_tail frame i.raw low none in omega arith;
    })
    (subst (λ p. TakesPart frame w p r) (uniform_part limit top within) part)

-- the same with the number of low bits as the code has it
pub wide_by : (frame : List ℕ) (w m r : Window) (limit low top raw number : ℕ) → low_bits limit ≡ low → 2 ≤ limit → 1 ≤ low
    → top < (limit - 1) / 2 ^ low + 1 → raw < 2 ^ low → 0 < 2 ^ low → number ≡ min (top * 2 ^ low + raw) (limit - 1)
    → TakesPart frame w (record { from = top; to = top + 1; total = (limit - 1) / 2 ^ low + 1 }) m
    → ((i : Interval) → Shows frame w i → tail frame i.raw low ≡ raw)
    → ((i : Interval) (n : ℕ) → Shows frame m i → Shows frame r (after i (InBits low n)))
    → ((n : ℕ) → window_pace r ≡ after_pace (window_pace m) (InBits low n))
    → TakesAnswer frame w (Uniform limit) (pos number) r
wide_by frame w m r limit low top raw number e two =
    subst
    (λ k. 1 ≤ k → top < (limit - 1) / 2 ^ k + 1 → raw < 2 ^ k → 0 < 2 ^ k → number ≡ min (top * 2 ^ k + raw) (limit - 1)
    → TakesPart frame w (record { from = top; to = top + 1; total = (limit - 1) / 2 ^ k + 1 }) m
    → ((i : Interval) → Shows frame w i → tail frame i.raw k ≡ raw)
    → ((i : Interval) (n : ℕ) → Shows frame m i → Shows frame r (after i (InBits k n)))
    → ((n : ℕ) → window_pace r ≡ after_pace (window_pace m) (InBits k n))
    → TakesAnswer frame w (Uniform limit) (pos number) r)
    e (takes_wide frame w m r limit top raw number two)

pub narrow_by : (frame : List ℕ) (w r : Window) (limit low top : ℕ) → low_bits limit ≡ low → 2 ≤ limit → low ≡ 0
    → top < (limit - 1) / 2 ^ low + 1
    → TakesPart frame w (record { from = top; to = top + 1; total = (limit - 1) / 2 ^ low + 1 }) r
    → TakesAnswer frame w (Uniform limit) (pos top) r
narrow_by frame w r limit low top e two =
    subst
    (λ k. k ≡ 0 → top < (limit - 1) / 2 ^ k + 1
    → TakesPart frame w (record { from = top; to = top + 1; total = (limit - 1) / 2 ^ k + 1 }) r
    → TakesAnswer frame w (Uniform limit) (pos top) r)
    e (takes_narrow frame w r limit top two)

pub top_by : (limit low : ℕ) → low_bits limit ≡ low → limit < 2 ^ 32 → (limit - 1) / 2 ^ low + 1 ≤ 2 ^ 8
top_by limit low e fits = subst (λ k. (limit - 1) / 2 ^ k + 1 ≤ 2 ^ 8) e (top_small limit fits)
