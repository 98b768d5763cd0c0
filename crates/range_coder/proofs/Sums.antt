-- The places of a triangle.
use Rattle.std.proofs.Common.{◌≡◌, ℕ, suc, ◌+◌, ◌-◌, ◌*◌, ◌/◌, ◌<◌, ◌≤◌, inl, inr, ap, arith}
use Rattle.std.proofs.lemmas.Bool.{cases_lt}
use Rattle.std.proofs.lemmas.Nat.{mul-le}
use Rattle.celt_base.proofs.Fillings.{sum_to, twice_sum_to}

pub half_product : (n : ℕ) → n * (n + 1) / 2 ≡ sum_to n
half_product n = let twice = twice_sum_to n in omega arith

-- a number below the middle's sum is below the middle
pub root_below : (sum n half : ℕ) → n * (n + 1) ≤ 2 * sum → sum < half * (half + 1) / 2 → n < half
root_below sum n half low below =
    elim (cases_lt n half) [
      | inl less ↦ less
      | inr more ↦ let product = mul-le half (half + 1) n (n + 1) more (omega arith) in absurd (omega arith)
    ]

-- a part of the lower half
pub record LowPlace (value n from : ℕ) : Type 0 where
  pub begins : from ≡ sum_to n
  pub next : from + n + 1 ≡ sum_to (suc n)
  pub above : from ≤ value
  pub below : value < from + n + 1

pub low_place : (value n : ℕ) → n * (n + 1) ≤ 2 * value → 2 * value < (n + 1) * (n + 2) → LowPlace value n (n * (n + 1) / 2)
low_place value n low high =
    let half = half_product n in
    let twice = twice_sum_to n in
    record { begins = half; next = omega arith; above = omega arith; below = omega arith }

-- and of the upper half, counted from the end
pub record HighPlace (half value left to : ℕ) : Type 0 where
  pub few : left ≤ half
  pub room : left + 1 ≤ to
  pub begins : to - left - 1 ≡ (half + 1) * (half + 1) - sum_to (suc left)
  pub ends : to ≡ (half + 1) * (half + 1) - sum_to left
  pub within : to ≤ (half + 1) * (half + 1)
  pub above : to - left - 1 ≤ value
  pub below : value < to

pub high_place : (half value left : ℕ) → value < (half + 1) * (half + 1) → half * (half + 1) / 2 ≤ value
    → left * (left + 1) ≤ 2 * ((half + 1) * (half + 1) - 1 - value) → 2 * ((half + 1) * (half + 1) - 1 - value) < (left + 1) * (left + 2)
    → HighPlace half value left ((half + 1) * (half + 1) - left * (left + 1) / 2)
high_place half value left inside upper low high =
    let middle = twice_sum_to half in
    let own = twice_sum_to left in
    let half_of = half_product left in
    let few : left ≤ half =
    elim (cases_lt half left) [
      | inl more ↦ let product = mul-le (half + 1) (half + 2) left (left + 1) (omega arith) (omega arith) in absurd (omega arith)
      | inr less ↦ less
    ] in
    let product = mul-le (left + 1) (left + 2) (half + 1) (half + 2) (omega arith) (omega arith) in
    record {
      few = few;
      room = omega arith;
      begins = omega arith;
      ends = ap (λ n. (half + 1) * (half + 1) - n) half_of;
      within = omega arith;
      above = omega arith;
      below = omega arith;
    }
