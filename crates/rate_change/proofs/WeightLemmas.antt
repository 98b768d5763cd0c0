-- Distances, heights and weights: their sizes, and that the code's steps fit their types.
use Rattle.std.proofs.Common.{inl, inr, List, length, ◌≡◌, ℕ, zero, suc, ◌+◌, ◌*◌, ◌^◌, ◌<◌, ◌≤◌, sym, subst, arith, ◌∙◌}
use Rattle.std.specs.Prelude.{ℤ, pos, negsuc, ◌-ℤ◌, ◌*ℤ◌, ◌≤ℤ◌, unsigned_abs, FitsSigned, int_div}
use Rattle.std.specs.Int.{w64}
use Rattle.std.proofs.lemmas.Nat.{mul-le}
use Rattle.std.proofs.lemmas.Int.{ints, fits_signed_from_abs}
use Rattle.std.proofs.Math.IntN.{negsuc-*ℤ-pos, zero-*ℤ}
use Rattle.std.specs.Prelude.{slice_set}
use Rattle.std.proofs.lemmas.Bool.{cases_eq}
use Rattle.std.proofs.lemmas.List.{get_or-set_same, get_or-set_other}
use Rattle.fixed_math.specs.Items.{item}
use Rattle.fixed_math.proofs.RoundingLemmas.{product_within, quotient_within}
use Rattle.rate_change.specs.Resampling.{distance, weight}

pub distance_near : (up f : ℕ) (j : ℤ) → 1 ≤ f → f < up → negsuc 14 ≤ℤ j → j ≤ℤ pos 16 → unsigned_abs (distance up f j) ≤ 16 * up
distance_near up f (pos a) s l low high = omega (arith, ints, mul-le a up 16 up (omega (arith, ints)) (omega arith))
distance_near up f (negsuc b) s l low high = omega (arith, ints, negsuc-*ℤ-pos b up, mul-le (suc b) up 15 up (omega (arith, ints)) (omega arith))

pub distance_apart : (up f : ℕ) (j : ℤ) → 1 ≤ f → f < up → 1 ≤ unsigned_abs (distance up f j)
distance_apart up f (pos zero) s l = omega (arith, ints, zero-*ℤ (pos up))
distance_apart up f (pos (suc a)) s l = omega (arith, ints, mul-le 1 up (suc a) up (omega arith) (omega arith))
distance_apart up f (negsuc b) s l = omega (arith, ints, negsuc-*ℤ-pos b up)

pub place_low : (t : ℕ) → negsuc 14 ≤ℤ (pos t -ℤ pos 15)
place_low t = omega (arith, ints)

pub place_high : (t : ℕ) → t < 32 → (pos t -ℤ pos 15) ≤ℤ pos 16
place_high t h = omega (arith, ints)

-- ---- the wave

pub record WaveSteps (d u : ℤ) : Type 0 where
  pub product : FitsSigned w64 (pos 7680 *ℤ d)
  pub quotient : FitsSigned w64 (int_div (pos 7680 *ℤ d) u)

pub wave_steps : (d u : ℤ) → unsigned_abs d ≤ 2560 → WaveSteps d u
wave_steps d u h =
    let a : unsigned_abs (pos 7680 *ℤ d) ≤ 7680 * 2560 = product_within (pos 7680) d 7680 2560 (omega arith) h in
    let b : unsigned_abs (int_div (pos 7680 *ℤ d) u) ≤ 7680 * 2560 = quotient_within (pos 7680 *ℤ d) u (7680 * 2560) a in
    record {
      product = fits_signed_from_abs w64 (pos 7680 *ℤ d) (omega arith);
      quotient = fits_signed_from_abs w64 (int_div (pos 7680 *ℤ d) u) (omega arith);
    }

-- ---- the height

pub record HeightSteps (m s : ℤ) : Type 0 where
  pub product : FitsSigned w64 (m *ℤ s)
  pub height : FitsSigned w64 (m *ℤ s *ℤ pos 16)
  pub size : unsigned_abs (m *ℤ s *ℤ pos 16) ≤ 2 ^ 34

pub height_steps : (m s : ℤ) → unsigned_abs m ≤ 2 ^ 15 → unsigned_abs s ≤ 2 ^ 15 → HeightSteps m s
height_steps m s p q =
    let a : unsigned_abs (m *ℤ s) ≤ 2 ^ 15 * 2 ^ 15 = product_within m s (2 ^ 15) (2 ^ 15) p q in
    let b : unsigned_abs (m *ℤ s *ℤ pos 16) ≤ 2 ^ 30 * 16 = product_within (m *ℤ s) (pos 16) (2 ^ 30) 16 (omega arith) (omega arith) in
    record {
      product = fits_signed_from_abs w64 (m *ℤ s) (omega arith);
      height = fits_signed_from_abs w64 (m *ℤ s *ℤ pos 16) (omega arith);
      size = omega arith;
    }

-- ---- a weight put to its place

abbrev pub StandsAt : List ℤ → ℕ → ℕ → ℕ → Type 0
StandsAt weights up f p = (item weights p ≡ weight up f (pos p -ℤ pos 15)) × (unsigned_abs (item weights p) ≤ 2 ^ 34)

pub put_weight : (xs : List ℤ) (t up f : ℕ) (w : ℤ) → t < length xs → w ≡ weight up f (pos t -ℤ pos 15) → unsigned_abs w ≤ 2 ^ 34 → ((p : ℕ) → p < t → StandsAt xs up f p) → (p : ℕ) → p < t + 1 → StandsAt (slice_set xs t w) up f p
put_weight xs t up f w l e s h p q = elim (cases_eq p t) [
  | inl r ↦
      let g : item (slice_set xs t w) t ≡ w = get_or-set_same xs t w (pos 0) l in
      subst (StandsAt (slice_set xs t w) up f) (sym r) (g ∙ e, subst (λ z. unsigned_abs z ≤ 2 ^ 34) (sym g) s)
  | inr n ↦
      let g : item (slice_set xs t w) p ≡ item xs p = get_or-set_other xs t p w (pos 0) n in
      let b = h p (smaller p t q n) in
      (g ∙ b.0, subst (λ z. unsigned_abs z ≤ 2 ^ 34) (sym g) b.1)
]
  where
    smaller : (p t : ℕ) → p < t + 1 → (p ≡ t → ⊥) → p < t
    smaller p t q n = omega arith
