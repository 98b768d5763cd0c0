-- The energies that an encoder goes by are those of the frame, and what is wanted brings them nearest to their targets.
use Rattle.std.proofs.Common.{◌≡◌, ℕ, zero, suc, ◌-◌, ◌^◌, ◌<◌, ◌≤◌, Bool, true, false, if◌then◌else◌, List, [], get_or, refl, ap, subst, arith}
use Rattle.std.specs.Prelude.{ℤ, pos, negsuc, ◌+ℤ◌, ◌-ℤ◌, ◌*ℤ◌, ◌≤ℤ◌, ◌<ℤ◌, unsigned_abs, int_le, slice_index, None, Some}
use Rattle.std.specs.Int.{int_shr}
use Rattle.std.proofs.lemmas.Int.{ints}
use Rattle.celt_base.specs.declared.kind.Kind.{Kind}
use Rattle.celt_base.specs.declared.state.Allocation.{Allocation}
use Rattle.band_energy.specs.declared.energy.Energy.{Energy}
use Rattle.band_energy.specs.EnergyValues.{fine_of, last_of, energy_by, energy_at}
use Rattle.band_energy.specs.WantedEnergies.{predicted, energy_by_coarse, wanted_coarse, energy_by_fine, wanted_fine, wanted_last}
use Rattle.band_energy.proofs.EnergyLaws.{coded}

pub single : (kind : Kind) (intra : Bool) (a : Allocation) (e : Energy) (old : List (List ℤ)) (channel band : ℕ)
    → channel < kind.channels → band < kind.end
    → energy_at kind intra a e old channel band
    ≡ energy_by_fine (energy_by_coarse kind intra old e.coarse channel band) (slice_index a.fine band) (get_or (get_or e.fine channel []) band 0)
    +ℤ last_of (slice_index a.fine band) (get_or (get_or e.last channel []) band None)
unfolding energy_by energy_by_coarse energy_by_fine predicted
single kind intra a e old channel band below inside = coded kind intra a e old channel band below inside

-- a shift is the floor of a quotient
record IsFloor (z w : ℤ) (m : ℕ) : Type 0 where
  low : (w *ℤ pos m) ≤ℤ z
  high : z <ℤ (w *ℤ pos m +ℤ pos m)

steps_floor : (z : ℤ) → IsFloor z (int_shr z 17) (2 ^ 17)
steps_floor (pos a) = record { low = omega (arith, ints); high = omega (arith, ints) }
steps_floor (negsuc a) = record { low = omega (arith, ints); high = omega (arith, ints) }

parts_floor : (z : ℤ) → IsFloor z (int_shr z 10) (2 ^ 10)
parts_floor (pos a) = record { low = omega (arith, ints); high = omega (arith, ints) }
parts_floor (negsuc a) = record { low = omega (arith, ints); high = omega (arith, ints) }

near : (p t v w d : ℤ) → v -ℤ w ≡ d → IsFloor (t *ℤ pos 128 -ℤ p +ℤ pos (2 ^ 16)) w (2 ^ 17)
    → unsigned_abs (p +ℤ w *ℤ pos (2 ^ 17) -ℤ t *ℤ pos 128) ≤ unsigned_abs (p +ℤ v *ℤ pos (2 ^ 17) -ℤ t *ℤ pos 128)
near p t v w (pos zero) apart floor = omega (arith, ints, apart)
near p t v w (pos (suc n)) apart floor = let low = floor.low in let high = floor.high in omega (arith, ints, low, high, apart)
near p t v w (negsuc n) apart floor = let low = floor.low in let high = floor.high in omega (arith, ints, low, high, apart)

pub coarse_nearest : (kind : Kind) (intra : Bool) (old coarse : List (List ℤ)) (channel band : ℕ) (target value : ℤ)
    → unsigned_abs (predicted kind intra old coarse channel band
    +ℤ wanted_coarse kind intra old coarse channel band target *ℤ pos (2 ^ 17) -ℤ target *ℤ pos 128)
    ≤ unsigned_abs (predicted kind intra old coarse channel band +ℤ value *ℤ pos (2 ^ 17) -ℤ target *ℤ pos 128)
unfolding wanted_coarse
coarse_nearest kind intra old coarse channel band target value =
    let p = predicted kind intra old coarse channel band in
    let w = wanted_coarse kind intra old coarse channel band target in
    near p target value w (value -ℤ w) refl (steps_floor (target *ℤ pos 128 -ℤ p +ℤ pos (2 ^ 16)))

-- A fine energy stands for the middle of its part.
half_part : (t e : ℤ) (bits fine : ℕ) → bits ≤ 8 → IsFloor ((t -ℤ e +ℤ pos 512) *ℤ pos (2 ^ bits)) (pos fine) (2 ^ 10)
    → unsigned_abs (energy_by_fine e bits fine -ℤ t) ≤ 2 ^ (9 - bits)
unfolding energy_by_fine fine_of
half_part t e zero fine few floor = let low = floor.low in let high = floor.high in omega (arith, ints, low, high)
half_part t e (suc zero) fine few floor = let low = floor.low in let high = floor.high in omega (arith, ints, low, high)
half_part t e (suc (suc zero)) fine few floor = let low = floor.low in let high = floor.high in omega (arith, ints, low, high)
half_part t e (suc (suc (suc zero))) fine few floor = let low = floor.low in let high = floor.high in omega (arith, ints, low, high)
half_part t e (suc (suc (suc (suc zero)))) fine few floor = let low = floor.low in let high = floor.high in omega (arith, ints, low, high)
half_part t e (suc (suc (suc (suc (suc zero))))) fine few floor = let low = floor.low in let high = floor.high in omega (arith, ints, low, high)
half_part t e (suc (suc (suc (suc (suc (suc zero)))))) fine few floor = let low = floor.low in let high = floor.high in omega (arith, ints, low, high)
half_part t e (suc (suc (suc (suc (suc (suc (suc zero))))))) fine few floor = let low = floor.low in let high = floor.high in omega (arith, ints, low, high)
half_part t e (suc (suc (suc (suc (suc (suc (suc (suc zero)))))))) fine few floor = let low = floor.low in let high = floor.high in omega (arith, ints, low, high)
half_part t e (suc (suc (suc (suc (suc (suc (suc (suc (suc bits))))))))) fine few floor = absurd (omega (arith, few))

pub fine_near : (target energy : ℤ) (bits fine : ℕ) → bits ≤ 8 → wanted_fine target energy bits ≡ pos fine
    → unsigned_abs (energy_by_fine energy bits fine -ℤ target) ≤ 2 ^ (9 - bits)
unfolding wanted_fine
fine_near target energy bits fine few is =
    half_part target energy bits fine few
    (subst (λ w. IsFloor ((target -ℤ energy +ℤ pos 512) *ℤ pos (2 ^ bits)) w (2 ^ 10)) is (parts_floor ((target -ℤ energy +ℤ pos 512) *ℤ pos (2 ^ bits))))

-- A last bit goes as far down as up.
half_step : (bits : ℕ) → bits ≤ 8 → (last_of bits (Some 0) ≡ pos 0 -ℤ pos (2 ^ (8 - bits))) × (last_of bits (Some 1) ≡ pos (2 ^ (8 - bits)))
unfolding last_of
half_step zero few = (refl, refl)
half_step (suc zero) few = (refl, refl)
half_step (suc (suc zero)) few = (refl, refl)
half_step (suc (suc (suc zero))) few = (refl, refl)
half_step (suc (suc (suc (suc zero)))) few = (refl, refl)
half_step (suc (suc (suc (suc (suc zero))))) few = (refl, refl)
half_step (suc (suc (suc (suc (suc (suc zero)))))) few = (refl, refl)
half_step (suc (suc (suc (suc (suc (suc (suc zero))))))) few = (refl, refl)
half_step (suc (suc (suc (suc (suc (suc (suc (suc zero)))))))) few = (refl, refl)
half_step (suc (suc (suc (suc (suc (suc (suc (suc (suc bits))))))))) few = absurd (omega (arith, few))

at_most : (a b : ℤ) → int_le a b ≡ true → a ≤ℤ b
at_most a b test = grind (arith, ints)

above : (a b : ℤ) → int_le a b ≡ false → b ≤ℤ a
above a b test = grind (arith, ints)

step_up : (t e : ℤ) (bits other : ℕ) → bits ≤ 8 → other < 2 → e ≤ℤ t
    → unsigned_abs (e +ℤ last_of bits (Some 1) -ℤ t) ≤ unsigned_abs (e +ℤ last_of bits (Some other) -ℤ t)
step_up t e bits zero few two below = let steps = half_step bits few in let down = steps.0 in let up = steps.1 in omega (arith, ints, down, up, below)
step_up t e bits (suc zero) few two below = omega arith
step_up t e bits (suc (suc n)) few two below = absurd (omega (arith, two))

step_down : (t e : ℤ) (bits other : ℕ) → bits ≤ 8 → other < 2 → t ≤ℤ e
    → unsigned_abs (e +ℤ last_of bits (Some 0) -ℤ t) ≤ unsigned_abs (e +ℤ last_of bits (Some other) -ℤ t)
step_down t e bits zero few two below = omega arith
step_down t e bits (suc zero) few two below = let steps = half_step bits few in let down = steps.0 in let up = steps.1 in omega (arith, ints, down, up, below)
step_down t e bits (suc (suc n)) few two below = absurd (omega (arith, two))

pub last_near : (target energy : ℤ) (bits bit other : ℕ) → bits ≤ 8 → other < 2 → wanted_last target energy ≡ pos bit
    → unsigned_abs (energy +ℤ last_of bits (Some bit) -ℤ target) ≤ unsigned_abs (energy +ℤ last_of bits (Some other) -ℤ target)
unfolding wanted_last
last_near target energy bits bit other few two is = by_test (int_le energy target) refl is
  where
    goes : ℕ → Type 0
    goes n = unsigned_abs (energy +ℤ last_of bits (Some n) -ℤ target) ≤ unsigned_abs (energy +ℤ last_of bits (Some other) -ℤ target)

    by_test : (test : Bool) → int_le energy target ≡ test → (if test then pos 1 else pos 0) ≡ pos bit → goes bit
    by_test true test same = subst goes (ap unsigned_abs same) (step_up target energy bits other few two (at_most energy target test))
    by_test false test same = subst goes (ap unsigned_abs same) (step_down target energy bits other few two (above energy target test))
