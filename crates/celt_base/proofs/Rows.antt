-- The parts of a row follow each other.
use Rattle.std.proofs.Common.{◌≡◌, ℕ, zero, suc, ◌^◌, ◌<◌, ◌≤◌, inl, inr, subst, arith}
use Rattle.std.proofs.lemmas.Bool.{cases_lt}
use Rattle.std.proofs.lemmas.Nat.{pow_pos}
use Rattle.std.proofs.Math.Nat.{pow-le-pow_right}
use Rattle.celt_base.specs.Questions.{Row, start, Fills, bit_row}

pub start_le : (row : Row) (n : ℕ) → start row n ≤ row.total
start_le row zero = omega arith
start_le row (suc n) = omega arith

-- a part ends before a later one begins
pub start_rises : (row : Row) (m n : ℕ) → m ≤ n → start row m ≤ start row n
start_rises row m zero le = let e : zero ≡ m = omega arith in subst (λ k. start row k ≤ start row zero) e (omega arith)
start_rises row m (suc n) le =
    elim (cases_lt m (suc n)) [
      | inl below ↦ let before = start_rises row m n (omega arith) in let within = start_le row n in omega arith
      | inr above ↦ let e : suc n ≡ m = omega arith in subst (λ k. start row k ≤ start row (suc n)) e (omega arith)
    ]

bit_some : (p n : ℕ) → 1 ≤ p → n < 2 → start (bit_row p) n < start (bit_row p) (suc n)
bit_some p zero some two = let e : 2 ^ 1 ≤ 2 ^ p = pow-le-pow_right {n = 2} (omega arith) some in omega arith
bit_some p (suc zero) some two = let e = pow_pos p in omega arith
bit_some p (suc (suc n)) some two = absurd (omega arith)

pub bit_fills : (p : ℕ) → 1 ≤ p → Fills (bit_row p) 2
bit_fills p some = record { some = λ n two. bit_some p n some two; all = let e = pow_pos p in omega arith }
