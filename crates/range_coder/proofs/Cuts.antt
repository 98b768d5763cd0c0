-- A place of a total against the frame's number, and the window behind a part.
use Rattle.std.proofs.Common.{◌≡◌, ℕ, zero, suc, ◌+◌, ◌-◌, ◌*◌, ◌/◌, ◌^◌, ◌<◌, ◌≤◌, List, slice_index, ap, ◌∙◌, arith}
use Rattle.std.proofs.lemmas.Nat.{le-div}
use Rattle.std.proofs.Math.Nat.{div-mul-le_self, mul-le-mul_left, lt-mul-div-succ}
use Rattle.celt_base.specs.Intervals.{Part, Interval, InBits, depth, narrowed, grown, after}
use Rattle.celt_base.specs.Paces.{narrowed_pace, grown_pace, after_pace}
use Rattle.range_coder.specs.declared.window.Window.{Window}
use Rattle.range_coder.specs.Reading.{Holds}
use Rattle.range_coder.specs.Windows.{Shows, window_pace, value_of, TakesPart}
use Rattle.range_coder.proofs.Showing.{pace_with}

-- what one of a total takes of a wide width
pub unit_wide : (width total : ℕ) → 2 ^ 23 < width → 1 ≤ total → total ≤ 2 ^ 15 → 2 ^ 8 ≤ width / total
unit_wide width total wide some most = le-div (2 ^ 8) width total some (omega arith)

-- a place above the number's is within the distance, and the number's place and those below it are not
pub depth_within : (w : Window) (total to : ℕ) → 0 < w.width / total → value_of w total < to → to ≤ total → depth w.width total to ≤ w.distance
depth_within w total zero unit below within = absurd (omega arith)
depth_within w total (suc k) unit below within =
    let place = w.distance / (w.width / total) in
    let few : total - suc k ≤ place = omega arith in
    omega (arith, mul-le-mul_left (w.width / total) few, div-mul-le_self w.distance (w.width / total))

pub depth_above : (w : Window) (total from : ℕ) → 0 < w.width / total → from ≤ value_of w total → 1 ≤ total → w.distance < depth w.width total from
depth_above w total zero unit above some = w.inside
depth_above w total (suc f) unit above some =
    let place = w.distance / (w.width / total) in
    let many : place + 1 ≤ total - suc f = omega arith in
    omega (arith, mul-le-mul_left (w.width / total) many, lt-mul-div-succ w.distance unit)

-- no part is narrower than one of the total
pub part_wide : (width total from to : ℕ) → from < to → to ≤ total → width / total ≤ depth width total from - depth width total to
part_wide width total from zero some within = absurd (omega arith)
part_wide width total zero (suc k) some within =
    let unit = width / total in
    let split : unit * total ≡ unit * ((total - suc k) + suc k) = ap (λ n. unit * n) (let e : total ≡ (total - suc k) + suc k = omega arith in e) in
    let whole = div-mul-le_self width total in
    omega arith
part_wide width total (suc f) (suc k) some within =
    let unit = width / total in
    let split : unit * (total - suc f) ≡ unit * ((total - suc k) + (k - f)) = ap (λ n. unit * n) (let e : total - suc f ≡ (total - suc k) + (k - f) = omega arith in e) in
    let one = mul-le-mul_left unit (let e : 1 ≤ k - f = omega arith in e) in
    omega arith

-- narrowed to a part and then grown
pub taken_part : (frame : List ℕ) (w n r : Window) (part : Part)
    → ((i : Interval) → Shows frame w i → Shows frame n (narrowed part i))
    → ((i : Interval) → Shows frame w i → Holds frame (narrowed part i))
    → window_pace n ≡ narrowed_pace part (window_pace w)
    → ((i : Interval) → Shows frame n i → Shows frame r (grown (grown (grown i))))
    → window_pace r ≡ grown_pace (grown_pace (grown_pace (window_pace n)))
    → TakesPart frame w part r
unfolding after after_pace
taken_part frame w n r part shows holds pace grow grow_pace =
    record {
      holds = holds;
      shows = λ i shown. grow (narrowed part i) (shows i shown);
      pace = grow_pace ∙ ap (λ p. grown_pace (grown_pace (grown_pace p))) pace;
    }

-- behind raw bits
pub passed_shows : (frame : List ℕ) (w r : Window) (i : Interval) (count number : ℕ) → r.width ≡ w.width → r.distance ≡ w.distance
    → r.bits ≡ w.bits + count → r.taken ≡ w.taken → r.last ≡ w.last → Shows frame w i → Shows frame r (after i (InBits count number))
unfolding after
passed_shows frame w r i count number width distance bits taken last shows =
    let same = shows.width in
    let counted = shows.bits in
    let bytes = shows.taken in
    let place = shows.number in
    record {
      width = omega arith;
      bits = omega arith;
      taken = omega arith;
      last = last ∙ shows.last ∙ ap (λ n. slice_index frame (n - 1)) (let e : w.taken ≡ r.taken = omega arith in e);
      number = omega arith;
    }

pub passed_paces : (w : Window) (bits count number : ℕ) → bits ≡ w.bits + count
    → pace_with w.width bits ≡ after_pace (window_pace w) (InBits count number)
unfolding after_pace
passed_paces w bits count number more = ap (pace_with w.width) more
