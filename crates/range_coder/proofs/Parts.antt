-- The parts of a bit as cuts, and that the parts of a row hold no number twice.
use Rattle.std.proofs.Common.{◌≡◌, ℕ, suc, ◌-◌, ◌*◌, ◌/◌, ◌^◌, ◌<◌, ◌≤◌, inl, inr, List, refl, sym, ap, ◌∙◌, arith}
use Rattle.std.proofs.lemmas.Bool.{cases_order}
use Rattle.std.proofs.Math.Nat.{pow-le-pow_right}
use Rattle.celt_base.specs.Intervals.{Interval, depth, narrowed}
use Rattle.celt_base.specs.Questions.{Row, start, part_of, bit_row}
use Rattle.celt_base.proofs.Narrowing.{depth_le, depth_falls}
use Rattle.celt_base.proofs.Rows.{start_rises}
use Rattle.range_coder.specs.Reading.{Holds}
use Rattle.range_coder.specs.Windows.{IsCut}

pub bit_total : (p : ℕ) → 1 ≤ p → p ≤ 15 → (2 ≤ 2 ^ p) × (2 ^ p ≤ 2 ^ 15)
bit_total p some most =
    let two : 2 ^ 1 ≤ 2 ^ p = pow-le-pow_right {n = 2} (omega arith) some in
    (omega arith, pow-le-pow_right {n = 2} (omega arith) most)

-- the place between 0 and 1, one below the total
bit_middle : (width p : ℕ) → 1 ≤ p → width / 2 ^ p ≡ depth width (2 ^ p) (start (bit_row p) 1)
bit_middle width p some =
    let two : 2 ^ 1 ≤ 2 ^ p = pow-le-pow_right {n = 2} (omega arith) some in
    let place : start (bit_row p) 1 ≡ suc (2 ^ p - 2) = omega arith in
    let one : 2 ^ p - suc (2 ^ p - 2) ≡ 1 = omega arith in
    let last : width / 2 ^ p ≡ width / 2 ^ p * 1 = omega arith in
    last ∙ ap (λ n. width / 2 ^ p * n) (sym one) ∙ ap (depth width (2 ^ p)) (sym place)

bit_end : (width p : ℕ) → 1 ≤ p → 0 ≡ depth width (2 ^ p) (start (bit_row p) 2)
bit_end width p some =
    let two : 2 ^ 1 ≤ 2 ^ p = pow-le-pow_right {n = 2} (omega arith) some in
    let place : start (bit_row p) 2 ≡ suc (2 ^ p - 1) = omega arith in
    let none : 2 ^ p - suc (2 ^ p - 1) ≡ 0 = omega arith in
    let last : 0 ≡ width / 2 ^ p * 0 = omega arith in
    last ∙ ap (λ n. width / 2 ^ p * n) (sym none) ∙ ap (depth width (2 ^ p)) (sym place)

pub one_is_cut : (width p : ℕ) → 1 ≤ p → IsCut width (part_of (bit_row p) 1) (width / 2 ^ p) 0
one_is_cut width p some = record { from = bit_middle width p some; to = bit_end width p some }

pub zero_is_cut : (width p : ℕ) → 1 ≤ p → IsCut width (part_of (bit_row p) 0) width (width / 2 ^ p)
zero_is_cut width p some = record { from = refl; to = bit_middle width p some }

apart : (frame : List ℕ) (i : Interval) (row : Row) (m n : ℕ) → m < n
    → Holds frame (narrowed (part_of row m) i) → Holds frame (narrowed (part_of row n) i) → ⊥
unfolding narrowed
apart frame i row m n less first second =
    let rises = start_rises row m (suc m) (omega arith) in
    let next = start_rises row (suc m) n (omega arith) in
    let own = depth_falls i.width row.total (start row m) (start row (suc m)) rises in
    let falls = depth_falls i.width row.total (start row (suc m)) (start row n) next in
    let within = depth_le i.width row.total (start row m) in
    let below = first.below in
    let above = second.above in
    absurd (omega arith)

pub place_determined : (frame : List ℕ) (i : Interval) (row : Row) (m n : ℕ)
    → Holds frame (narrowed (part_of row m) i) → Holds frame (narrowed (part_of row n) i) → m ≡ n
place_determined frame i row m n first second =
    elim (cases_order m n) [
      | inl same ↦ same
      | inr (inl less) ↦ absurd (apart frame i row m n less first second)
      | inr (inr more) ↦ absurd (apart frame i row n m more second first)
    ]
