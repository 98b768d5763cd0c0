-- What is known of a frame before its first question, by its analysis.
use Rattle.std.specs.Prelude.{ℕ, ◌+◌, ◌-◌, ◌*◌, nat_lt, Bool, ◌&&◌, int_le, ℤ, pos, neg_ℤ, ◌-ℤ◌, ◌*ℤ◌, int_div, List, map}
use Rattle.std.specs.Int.{int_max, int_min}
use Rattle.std.specs.List.{range_with_len}
use Rattle.celt_base.specs.declared.kind.Kind.{Kind}
use Rattle.fixed_math.specs.Items.{listed}
use Rattle.celt_analysis.specs.Analyses.{Analysis, height_in, target_in}
use Rattle.celt_analysis.specs.Sums.{signed_sum}
use Rattle.celt_encode.specs.Outsets.{Outset}
use Rattle.celt_encode.specs.Spreads.{spread_for}
use Rattle.celt_encode.specs.Units.{units_for, dual_for}

-- the energies that are wanted, by channels and bands
abbrev pub targets_for : Analysis → List (List ℤ)
targets_for a = map (λ c. listed 21 (target_in a c)) (range_with_len 0 2)

-- A band between two others stands out: it is higher than their mean by 3072 or more, which is eight times the amplitude.
unfoldable pub stands_out : ℕ → (ℕ → ℤ) → ℕ → Bool
stands_out end h i = nat_lt 0 i && (nat_lt i (end - 1) && int_le (pos 6144) (pos 2 *ℤ h i -ℤ h (i - 1) -ℤ h (i + 1)))

-- the bands that are to be boosted
abbrev pub boosts_for : Kind → Analysis → List Bool
boosts_for kind a = map (stands_out kind.end (height_in a)) (range_with_len 0 21)

-- how the heights rise: their sum, each as often as twice the way of its band from the middle
unfoldable pub rise_of : ℕ → (ℕ → ℤ) → ℤ
rise_of end h = signed_sum (λ i. h i *ℤ (pos (2 * i + 1) -ℤ pos end)) end

-- the tilt of the allocation that is wanted: 5 where the heights neither rise nor fall, at least 3 and at most 7
unfoldable pub trim_for : Kind → Analysis → ℤ
trim_for kind a = pos 5 -ℤ int_max (neg_ℤ (pos 2)) (int_min (int_div (rise_of kind.end (height_in a)) (pos (6144 * (kind.end - 1)))) (pos 2))

-- The kind, the bytes, whether a frame was made before and the energies after it stay as they are.
abbrev pub settled : Outset → Analysis → Outset
settled f a = record f {
  silent = a.silent;
  transient = a.transient;
  setting = a.setting;
  spread = spread_for f.kind a;
  dual = dual_for f.kind (units_for f.kind a);
  boosts = boosts_for f.kind a;
  trim = trim_for f.kind a;
  targets = targets_for a;
  units = units_for f.kind a;
}
