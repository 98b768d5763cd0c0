-- What a window shows after each of its steps.
use Rattle.std.proofs.Common.{◌≡◌, ℕ, ◌+◌, ◌-◌, ◌*◌, ◌/◌, ◌%◌, ◌^◌, ◌<◌, ◌≤◌, true, false, nat_lt, if◌then◌else◌, List, slice_index, sym, ap, ◌∙◌, subst, arith}
use Rattle.std.proofs.lemmas.Bool.Decides.{nat_tests}
use Rattle.celt_base.specs.Intervals.{Part, Interval, whole, depth, narrowed, grown}
use Rattle.celt_base.specs.Paces.{Pace, narrowed_pace, grown_pace}
use Rattle.celt_base.proofs.Narrowing.{depth_le, grown_stays, grown_grows, wider}
use Rattle.celt_base.proofs.PaceSteps.{faster}
use Rattle.range_coder.specs.declared.window.Window.{Window}
use Rattle.range_coder.specs.FrameBits.{head}
use Rattle.range_coder.specs.Reading.{Holds}
use Rattle.range_coder.specs.Windows.{Shows, IsCut, window_pace}
use Rattle.range_coder.proofs.Bits.{head_start, head_more}

-- at the start
pub shows_whole : (frame : List ℕ) (w : Window) → w.width ≡ 2 ^ 31 → w.bits ≡ 33 → w.taken ≡ 4 → w.last ≡ slice_index frame 3
    → w.distance + (((slice_index frame 0 * 256 + slice_index frame 1) * 256 + slice_index frame 2) * 256 + slice_index frame 3) / 2 ≡ 2 ^ 31 - 1
    → Shows frame w whole
shows_whole frame w width bits taken last distance =
    let number = head_start frame in
    record {
      width = width;
      bits = bits;
      taken = omega arith;
      last = last ∙ ap (slice_index frame) (let e : 3 ≡ w.taken - 1 = omega arith in e);
      number = omega arith;
    }

abbrev pub pace_with : ℕ → ℕ → Pace
pace_with width bits = record { width = width; bits = bits }

-- the ends of a part round the number
record Ends (width distance from to : ℕ) : Type 0 where
  within : from ≤ width
  above : to ≤ distance
  below : distance < from

ends : (w : Window) (i : Interval) (part : Part) (lower upper : ℕ) → IsCut w.width part lower upper → w.width ≡ i.width
    → upper ≤ w.distance → w.distance < lower
    → Ends i.width w.distance (depth i.width part.total part.from) (depth i.width part.total part.to)
ends w i part lower upper cut same above below =
    let from : lower ≡ depth i.width part.total part.from = cut.from ∙ ap (λ n. depth n part.total part.from) same in
    let to : upper ≡ depth i.width part.total part.to = cut.to ∙ ap (λ n. depth n part.total part.to) same in
    record { within = depth_le i.width part.total part.from; above = omega arith; below = omega arith }

pub narrowed_holds : (frame : List ℕ) (w : Window) (i : Interval) (part : Part) (lower upper : ℕ) → IsCut w.width part lower upper
    → upper ≤ w.distance → w.distance < lower → Shows frame w i → Holds frame (narrowed part i)
unfolding narrowed
narrowed_holds frame w i part lower upper cut above below shows =
    let e = ends w i part lower upper cut shows.width above below in
    let number = shows.number in
    let within = e.within in
    let over = e.above in
    let under = e.below in
    record { above = omega arith; below = omega arith }

pub narrowed_shows : (frame : List ℕ) (w r : Window) (i : Interval) (part : Part) (lower upper : ℕ) → IsCut w.width part lower upper
    → upper ≤ w.distance → w.distance < lower → r.width ≡ lower - upper → r.distance ≡ w.distance - upper
    → r.bits ≡ w.bits → r.taken ≡ w.taken → r.last ≡ w.last → Shows frame w i → Shows frame r (narrowed part i)
unfolding narrowed
narrowed_shows frame w r i part lower upper cut above below width distance bits taken last shows =
    let from : lower ≡ depth i.width part.total part.from = cut.from ∙ ap (λ n. depth n part.total part.from) shows.width in
    let to : upper ≡ depth i.width part.total part.to = cut.to ∙ ap (λ n. depth n part.total part.to) shows.width in
    let within = depth_le i.width part.total part.from in
    let number = shows.number in
    let same = shows.bits in
    let bytes = shows.taken in
    record {
      width = omega arith;
      bits = omega arith;
      taken = omega arith;
      last = last ∙ shows.last ∙ ap (λ n. slice_index frame (n - 1)) (sym taken);
      number = omega arith;
    }

pub narrowed_paces : (w : Window) (part : Part) (lower upper width bits : ℕ) → IsCut w.width part lower upper
    → width ≡ lower - upper → bits ≡ w.bits → pace_with width bits ≡ narrowed_pace part (window_pace w)
unfolding narrowed_pace
narrowed_paces w part lower upper width bits cut narrow same =
    let from = cut.from in
    let to = cut.to in
    let left : width ≡ depth w.width part.total part.from - depth w.width part.total part.to = omega arith in
    ap (λ n. pace_with n bits) left ∙ ap (λ n. pace_with (depth w.width part.total part.from - depth w.width part.total part.to) n) same

-- a wide window stays, and a narrow one takes a byte
pub wide_shows : (frame : List ℕ) (w : Window) (i : Interval) → 2 ^ 23 < w.width → Shows frame w i → Shows frame w (grown i)
wide_shows frame w i wide shows =
    let same = shows.width in
    subst (Shows frame w) (sym (grown_stays i (let e : 2 ^ 23 < i.width = omega arith in e))) shows

pub wide_paces : (pace : Pace) → 2 ^ 23 < pace.width → pace ≡ grown_pace pace
unfolding grown_pace
wide_paces pace wide =
    let test : nat_lt (2 ^ 23) pace.width ≡ true = grind (arith, nat_tests) in
    ap (λ b. if b then pace else faster pace) (sym test)

pub more_shows : (frame : List ℕ) (w r : Window) (i : Interval) → w.width ≤ 2 ^ 23
    → slice_index frame w.taken < 256 → w.last < 256
    → r.width ≡ w.width * 256
    → r.distance ≡ w.distance * 256 + 255 - (w.last % 2 * 128 + slice_index frame w.taken / 2)
    → r.bits ≡ w.bits + 8 → r.taken ≡ w.taken + 1 → r.last ≡ slice_index frame w.taken → Shows frame w i → Shows frame r (grown i)
more_shows frame w r i narrow byte last width distance bits taken next shows =
    let same = shows.width in
    let counted = shows.bits in
    let bytes = shows.taken in
    let number = shows.number in
    let small : i.width ≤ 2 ^ 23 = omega arith in
    let before : (w.taken - 1) + 1 ≡ w.taken = omega arith in
    let head_is : head frame (31 + (i.shift + 8)) ≡ head frame (31 + i.shift) * 256 + (w.last % 2 * 128 + slice_index frame w.taken / 2) =
    head_more frame (w.taken - 1) i.shift (omega arith)
    ∙ ap (λ n. head frame (31 + i.shift) * 256 + (n % 2 * 128 + slice_index frame ((w.taken - 1) + 1) / 2)) (sym shows.last)
    ∙ ap (λ n. head frame (31 + i.shift) * 256 + (w.last % 2 * 128 + slice_index frame n / 2)) before in
    let shown : Shows frame r (wider i) =
    record {
      width = omega arith;
      bits = omega arith;
      taken = omega arith;
      last = next ∙ ap (slice_index frame) (let e : w.taken ≡ r.taken - 1 = omega arith in e);
      number = omega arith;
    } in
    subst (Shows frame r) (sym (grown_grows i small)) shown

pub more_paces : (w : Window) (width bits : ℕ) → w.width ≤ 2 ^ 23 → width ≡ w.width * 256 → bits ≡ w.bits + 8
    → pace_with width bits ≡ grown_pace (window_pace w)
unfolding grown_pace
more_paces w width bits narrow wider_is more =
    let test : nat_lt (2 ^ 23) w.width ≡ false = grind (arith, nat_tests) in
    ap (λ n. pace_with n bits) wider_is
    ∙ ap (λ n. pace_with (w.width * 256) n) more
    ∙ ap (λ b. if b then window_pace w else faster (window_pace w)) (sym test)
