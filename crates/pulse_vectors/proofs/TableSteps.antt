-- What has a place in the table, and how its rows are made.
use Rattle.std.proofs.Common.{◌≡◌, ◌^◌, ℕ, suc, ◌+◌, ◌-◌, ◌<◌, ◌≤◌, inl, inr, refl, arith, add-one}
use Rattle.std.proofs.lemmas.Bool.{cases_lt}
use Rattle.pulse_vectors.specs.Rows.{count_below}
use Rattle.pulse_vectors.specs.Tables.{HasPlace, start_of, sum_at}
use Rattle.pulse_vectors.specs.Vectors.{count_of}
use Rattle.pulse_vectors.proofs.Places.{count-suc, below-suc, below_rises}
use Rattle.pulse_vectors.proofs.RowSteps.{count_rises}
use Rattle.pulse_vectors.proofs.Counts.{count_grows}
use Rattle.pulse_vectors.proofs.RankSteps.{count-rises}
use Rattle.pulse_vectors.proofs.TableFacts.{table-facts}

-- Every place is in the table, and so is the one before it.
pub place-inside : (m t : ℕ) → HasPlace m t → start_of m + suc t < 2139
place-inside m t p = omega (arith, p.within, (table-facts m p.numbers).last)

-- S(m, t), and S(m, t - 1).
pub sum-here : (m t : ℕ) → HasPlace m t → sum_at (start_of m + t + 1) ≡ count_below m (t + 1)
unfolding sum_at
sum-here m t p =
    let e : start_of m + t + 1 ≡ start_of m + (t + 1) = omega arith in
    rw e ((table-facts m p.numbers).sums (t + 1) (omega (arith, p.within)))

pub sum-before : (m t : ℕ) → HasPlace m t → sum_at (start_of m + t) ≡ count_below m t
unfolding sum_at
sum-before m t p = (table-facts m p.numbers).sums t (omega (arith, p.within))

-- What has a place is for fewer than 2^32 vectors of one number more.
pub place-fits : (m t : ℕ) → HasPlace m t → count_of (suc m) t < 2 ^ 32
place-fits m t p =
    let f = table-facts m p.numbers in
    omega (arith, f.fits, count_rises m t (start_of (suc m) - start_of m - 2) (omega (arith, p.within)))

-- And everything else has one, up to 128 pulses.
pub has-place : (m t : ℕ) → m < 176 → t ≤ 128 → count_of (suc m) t < 2 ^ 32 → HasPlace m t
has-place m t h l f =
    let facts = table-facts m h in
    elim facts.enough [
      | inl full ↦ record { numbers = h; within = omega arith }
      | inr more ↦ elim (cases_lt t (start_of (suc m) - start_of m - 1)) [
        | inl inside ↦ record { numbers = h; within = omega arith }
        | inr past ↦ absurd (omega (arith, count_rises m (start_of (suc m) - start_of m - 1) t past))
      ]
    ]

-- V(n, t) from two sums of one number fewer.
pub count-by-two : (n m t a b : ℕ) → n ≡ suc m → a ≡ count_below m (t + 1) → b ≡ count_below m t → a + b ≡ count_of n t
count-by-two n m t a b e e1 e2 =
    let e1' = rw add-one at e1 in
    rw e (omega (arith, count-suc m t, below-suc m t))

pub count-by-two-fits : (m t a b : ℕ) → HasPlace m t → a ≡ count_below m (t + 1) → b ≡ count_below m t → a + b < 2 ^ 32
count-by-two-fits m t a b p e1 e2 = omega (arith, count-by-two (suc m) m t a b refl e1 e2, place-fits m t p)

-- The vectors that stand before a negative first number.
pub sum-fits : (m t here place a b : ℕ) → here ≡ place → HasPlace m place → a ≡ count_below m (here + 1) → b ≡ count_below m t → t ≤ here → a + b < 2 ^ 32
sum-fits m t here place a b e p e1 e2 h =
    let e1' = rw e at e1 in
    omega (arith, count-by-two-fits m place a (count_below m place) p e1' refl, below_rises m t place (omega arith))

-- What a vector of n numbers with k pulses asks for is in the table.
pub place-of : (n k m t : ℕ) → m < n → n ≤ 176 → k ≤ 128 → t ≤ k → count_of n k < 2 ^ 32 → HasPlace m t
place-of n k m t h l b c f =
    has-place m t (omega arith) (omega arith)
    (omega (arith, count_grows (suc m) n t (omega arith), count-rises n t k (omega arith) c))
