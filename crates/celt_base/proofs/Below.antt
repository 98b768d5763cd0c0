-- A test of each number below a count is a fact of each of them.
use Rattle.std.proofs.Common.{◌≡◌, ℕ, zero, suc, ◌<◌, ◌≤◌, Bool, true, ◌&&◌, nat_lt, nat_le, inl, inr, sym, subst, arith}
use Rattle.std.proofs.lemmas.Bool.{cases_eq, and_parts}
use Rattle.std.proofs.lemmas.Bool.Decides.{nat_tests}

abbrev pub all_below : (ℕ → Bool) → ℕ → Bool
all_below test zero = true
all_below test (suc n) = all_below test n && test n

pub at_each : (test : ℕ → Bool) (count k : ℕ) → all_below test count ≡ true → k < count → test k ≡ true
at_each test zero k all below = absurd (omega arith)
at_each test (suc n) k all below =
    elim (cases_eq k n) [
      | inl e ↦ subst (λ j. test j ≡ true) (sym e) (and_parts (all_below test n) (test n) all).1
      | inr ne ↦ at_each test n k (and_parts (all_below test n) (test n) all).0 (omega arith)
    ]

pub less : (a b : ℕ) → nat_lt a b ≡ true → a < b
less a b test = grind (arith, nat_tests)

pub at_most : (a b : ℕ) → nat_le a b ≡ true → a ≤ b
at_most a b test = grind (arith, nat_tests)
