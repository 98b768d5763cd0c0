-- The counts: how they begin, grow with the numbers, and what bounds the place of a vector.
use Rattle.std.proofs.Common.{◌≡◌, ◌^◌, ℕ, zero, suc, ◌+◌, ◌*◌, ◌<◌, ◌≤◌, inl, inr, refl, sym, arith, add-one}
use Rattle.std.specs.Prelude.{ℤ, pos, negsuc, true, false, ◌-◌, unsigned_abs}
use Rattle.std.specs.Int.Signed.{lt_z}
use Rattle.std.proofs.lemmas.Bool.{cases_lt}
use Rattle.std.proofs.lemmas.Int.{ints}
use Rattle.pulse_vectors.specs.Rows.{count_below, stand_before}
use Rattle.pulse_vectors.specs.Vectors.{count_of}
use Rattle.pulse_vectors.proofs.Places.{count-suc, below-suc, below-zero, below_rises}
use Rattle.pulse_vectors.proofs.RowSteps.{count-none}

pub count-no-pulses : (n : ℕ) → count_of n 0 ≡ 1
count-no-pulses zero = count-none
count-no-pulses (suc n) = omega (arith, count-suc n 0, below-zero n, count-no-pulses n)

pub count-three : (n k : ℕ) → count_of (n + 1) (k + 1) ≡ count_of n (k + 1) + count_of (n + 1) k + count_of n k
count-three n k = rw (add-one n, add-one k) (omega (arith, count-suc n (suc k), count-suc n k, below-suc n k))

pub count_grows : (n m k : ℕ) → n ≤ m → count_of n k ≤ count_of m k
count_grows n zero k h = let e : n ≡ 0 = omega arith in rw e (omega arith)
count_grows n (suc m) k h = elim (cases_lt m n) [
  | inl last ↦ let e : n ≡ suc m = omega arith in rw e (omega arith)
  | inr within ↦ omega (arith, count-suc m k, count_grows n m k within)
]

pub count-by-sum : (n k : ℕ) → 2 * count_below n k + count_of n k ≡ count_of (n + 1) k
count-by-sum n k = rw add-one (omega (arith, count-suc n k))

-- One step of next_top's sum.
pub record Summed (n j fewer : ℕ) : Type 0 where
  pub sum : fewer ≡ count_below n j
  pub bound : fewer ≤ j * 2 ^ 32

pub summed-start : (n : ℕ) → Summed n 0 0
summed-start n = record { sum = sym (below-zero n); bound = omega arith }

pub summed-next : (n j fewer v : ℕ) → Summed n j fewer → v ≡ count_of n j → v < 2 ^ 32 → Summed n (j + 1) (fewer + v)
summed-next n j fewer v s e h = record { sum = rw add-one (omega (arith, s.sum, below-suc n j)); bound = omega (arith, s.bound) }

-- Two counts of one place, the row taken up between them, give the sum before the place.
pub raised-by-sum : (n m t low high : ℕ) → low ≡ count_of n t → m ≡ n + 1 → high ≡ count_of m t → high ≡ low + 2 * count_below n t
raised-by-sum n m t low high e1 e2 e3 = let e3' = rw e2 at e3 in omega (arith, count-by-sum n t)

pub stand-negative : (x : ℤ) → lt_z x (pos 0) ≡ true → (n t here : ℕ) → here ≡ t + unsigned_abs x
    → stand_before n t x ≡ count_below n here + count_of n here + count_below n t
unfolding stand_before
stand-negative (pos a) e n t here h = absurd (grind (arith, ints))
stand-negative (negsuc a) e n t here h = let k : suc a + t ≡ here = omega arith in rw k (omega (arith, below-suc n here))

pub stand-other : (x : ℤ) → lt_z x (pos 0) ≡ false → (n t : ℕ) → stand_before n t x ≡ count_below n t
unfolding stand_before
stand-other (pos a) e n t = refl
stand-other (negsuc a) e n t = absurd (grind (arith, ints))

pub next-top : (n m k j fewer last : ℕ) → Summed n j fewer → k ≡ m → j ≡ k → last ≡ count_of n k → 2 * fewer + last ≡ count_of (n + 1) m
next-top n m k j fewer last s e1 e2 e3 =
    let sum = rw (e2, e1) at s.sum in
    let top = rw e1 at e3 in
    omega (arith, count-by-sum n m)

pub below-next : (n t index r v : ℕ) → index ≡ count_below n t + r → v ≡ count_of n t → v ≤ r → index ≡ count_below n (t + 1) + (r - v)
below-next n t index r v e1 e2 h = rw add-one (omega (arith, below-suc n t))

pub below-end : (n t index r v most : ℕ) → index ≡ count_below n t + r → v ≡ count_of n t → v ≤ r → index < count_below n (most + 1) → t + 1 ≤ most
below-end n t index r v most e1 e2 h b = elim (cases_lt t most) [
  | inl less ↦ omega arith
  | inr past ↦
      let next = below-next n t index r v e1 e2 h in
      absurd (omega (arith, below_rises n (most + 1) (t + 1) (omega arith)))
]

pub below-positive : (n t : ℕ) → 0 < count_below n t → 1 ≤ t
below-positive n zero h = absurd (omega (arith, below-zero n))
below-positive n (suc t) h = omega arith

pub no-fewer : (n t : ℕ) → t ≡ 0 → 0 ≡ count_below n t
no-fewer n t e = rw e (sym (below-zero n))
