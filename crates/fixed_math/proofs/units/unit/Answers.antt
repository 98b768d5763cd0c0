use Rattle.std.proofs.Common.{◌≡◌, ℕ, ◌*◌, ◌<◌, ◌≤◌, ◌^◌, arith, get_or, length, List, ap, sym, subst, ◌∙◌, rules}
use Rattle.std.specs.Prelude.{ℤ, pos, ◌*ℤ◌, int_div, map, All, FitsSigned, unsigned_abs}
use Rattle.std.specs.Int.{w64}
use Rattle.std.proofs.lemmas.Int.{ints, to_z-of_z, to_z_pos, fits_signed_from_abs}
use Rattle.fixed_math.specs.Unit.{energy, norm, unit_of, reciprocal_of, by_reciprocal}
use Rattle.fixed_math.proofs.UnitLemmas.{energy_wide, unit-zero, norm-from, norm_low, norm_share, norm_small, norm_wide, product_fits, unit_reciprocal, unit_division, unit_size}
use Rattle.fixed_math.proofs.units.unit.Goals as goal

pub returns-then-energy-eq0-clause-value : goal.returns-then-energy-eq0-clause-value
returns-then-energy-eq0-clause-value c = unit-zero c.args.g c.args.v.now (sym c.energy_of-energy.ensures ∙ c.if-energy-eq0.true)

pub returns-then-energy-lt68719476736-clause-value : goal.returns-then-energy-lt68719476736-clause-value
returns-then-energy-lt68719476736-clause-value c =
    let v : List ℤ = c.args.v.now in
    let r : ℕ = c.isq-length.result in
    let en : c.energy_of-energy.result ≡ energy v = c.energy_of-energy.ensures in
    let wide : energy v < 2 ^ 88 = energy_wide v c.requires.count c.requires.items in
    let some : 0 < energy v = omega arith in
    let nr : r ≡ norm v = norm-from v c.energy_of-energy.result r en wide c.isq-length.ensures in
    let fg = c.ranges.g in
    let fm : FitsSigned w64 c.reciprocal.result = search rules in
    let er : c.reciprocal.result ≡ pos (reciprocal_of (unsigned_abs c.args.g) r) = simp to_z-of_z at c.reciprocal.ensures in
    let em : c.multiply_all.new.v ≡ map (by_reciprocal (unsigned_abs c.reciprocal.result)) v = simp to_z-of_z at c.multiply_all.ensures in
    let same : c.multiply_all.new.v ≡ unit_of c.args.g v = em ∙ ap (λ z. map (by_reciprocal (unsigned_abs z)) v) er ∙ ap (λ n. map (by_reciprocal (reciprocal_of (unsigned_abs c.args.g) n)) v) nr ∙ unit_reciprocal c.args.g v c.requires.gain_low some (omega arith) in
    same

pub returns-else-energy-lt68719476736-clause-value : goal.returns-else-energy-lt68719476736-clause-value
returns-else-energy-lt68719476736-clause-value c =
    let v : List ℤ = c.args.v.now in
    let r : ℕ = c.isq-length.result in
    let en : c.energy_of-energy.result ≡ energy v = c.energy_of-energy.ensures in
    let wide : energy v < 2 ^ 88 = energy_wide v c.requires.count c.requires.items in
    let some : 0 < energy v = omega arith in
    let nr : r ≡ norm v = norm-from v c.energy_of-energy.result r en wide c.isq-length.ensures in
    let fg = c.ranges.g in
    let fp : FitsSigned w64 (c.args.g *ℤ pos 2048) = fits_signed_from_abs w64 (c.args.g *ℤ pos 2048) (omega (arith, ints)) in
    let high : r < 2 ^ 56 = omega (arith, norm_wide v wide) in
    let rp = to_z_pos w64 r (omega arith) in
    let em : c.divide_all.new.v ≡ map (λ x. int_div (x *ℤ (c.args.g *ℤ pos 2048)) (pos r)) v = simp (to_z-of_z, rp) at c.divide_all.ensures in
    let same : c.divide_all.new.v ≡ unit_of c.args.g v = em ∙ ap (λ n. map (λ x. int_div (x *ℤ (c.args.g *ℤ pos 2048)) (pos n)) v) nr ∙ unit_division c.args.g v c.requires.gain_low some in
    same

pub returns-then-energy-lt68719476736-clause-size : goal.returns-then-energy-lt68719476736-clause-size
returns-then-energy-lt68719476736-clause-size c =
    let v : List ℤ = c.args.v.now in
    let r : ℕ = c.isq-length.result in
    let en : c.energy_of-energy.result ≡ energy v = c.energy_of-energy.ensures in
    let wide : energy v < 2 ^ 88 = energy_wide v c.requires.count c.requires.items in
    let some : 0 < energy v = omega arith in
    let nr : r ≡ norm v = norm-from v c.energy_of-energy.result r en wide c.isq-length.ensures in
    let fg = c.ranges.g in
    let fm : FitsSigned w64 c.reciprocal.result = search rules in
    let er : c.reciprocal.result ≡ pos (reciprocal_of (unsigned_abs c.args.g) r) = simp to_z-of_z at c.reciprocal.ensures in
    let em : c.multiply_all.new.v ≡ map (by_reciprocal (unsigned_abs c.reciprocal.result)) v = simp to_z-of_z at c.multiply_all.ensures in
    let same : c.multiply_all.new.v ≡ unit_of c.args.g v = em ∙ ap (λ z. map (by_reciprocal (unsigned_abs z)) v) er ∙ ap (λ n. map (by_reciprocal (reciprocal_of (unsigned_abs c.args.g) n)) v) nr ∙ unit_reciprocal c.args.g v c.requires.gain_low some (omega arith) in
    subst (λ ys. All (λ y. 2 * unsigned_abs y ≤ unsigned_abs c.args.g) ys) (sym same) (unit_size c.args.g v c.requires.gain_low some wide)

pub returns-else-energy-lt68719476736-clause-size : goal.returns-else-energy-lt68719476736-clause-size
returns-else-energy-lt68719476736-clause-size c =
    let v : List ℤ = c.args.v.now in
    let r : ℕ = c.isq-length.result in
    let en : c.energy_of-energy.result ≡ energy v = c.energy_of-energy.ensures in
    let wide : energy v < 2 ^ 88 = energy_wide v c.requires.count c.requires.items in
    let some : 0 < energy v = omega arith in
    let nr : r ≡ norm v = norm-from v c.energy_of-energy.result r en wide c.isq-length.ensures in
    let fg = c.ranges.g in
    let fp : FitsSigned w64 (c.args.g *ℤ pos 2048) = fits_signed_from_abs w64 (c.args.g *ℤ pos 2048) (omega (arith, ints)) in
    let high : r < 2 ^ 56 = omega (arith, norm_wide v wide) in
    let rp = to_z_pos w64 r (omega arith) in
    let em : c.divide_all.new.v ≡ map (λ x. int_div (x *ℤ (c.args.g *ℤ pos 2048)) (pos r)) v = simp (to_z-of_z, rp) at c.divide_all.ensures in
    let same : c.divide_all.new.v ≡ unit_of c.args.g v = em ∙ ap (λ n. map (λ x. int_div (x *ℤ (c.args.g *ℤ pos 2048)) (pos n)) v) nr ∙ unit_division c.args.g v c.requires.gain_low some in
    subst (λ ys. All (λ y. 2 * unsigned_abs y ≤ unsigned_abs c.args.g) ys) (sym same) (unit_size c.args.g v c.requires.gain_low some wide)

pub reciprocal-requires-clause-length : goal.reciprocal-requires-clause-length
reciprocal-requires-clause-length c =
    let v : List ℤ = c.args.v.now in
    let r : ℕ = c.isq-length.result in
    let en : c.energy_of-energy.result ≡ energy v = c.energy_of-energy.ensures in
    let wide : energy v < 2 ^ 88 = energy_wide v c.requires.count c.requires.items in
    let some : 0 < energy v = omega arith in
    let nr : r ≡ norm v = norm-from v c.energy_of-energy.result r en wide c.isq-length.ensures in
    omega (arith, norm_low v wide some)

pub multiply_all-requires-clause-sizes : goal.multiply_all-requires-clause-sizes
multiply_all-requires-clause-sizes c =
    let v : List ℤ = c.args.v.now in
    let r : ℕ = c.isq-length.result in
    let en : c.energy_of-energy.result ≡ energy v = c.energy_of-energy.ensures in
    let wide : energy v < 2 ^ 88 = energy_wide v c.requires.count c.requires.items in
    let some : 0 < energy v = omega arith in
    let nr : r ≡ norm v = norm-from v c.energy_of-energy.result r en wide c.isq-length.ensures in
    let fg = c.ranges.g in
    let fm : FitsSigned w64 c.reciprocal.result = search rules in
    let er : c.reciprocal.result ≡ pos (reciprocal_of (unsigned_abs c.args.g) r) = simp to_z-of_z at c.reciprocal.ensures in
    let gain : unsigned_abs c.args.g ≤ 2 ^ 15 = omega (arith, ints) in
    let high : r < 2 ^ 30 = omega (arith, norm_small v (omega arith)) in
    let fit = λ (k : ℕ) (d : ℤ) (l : k < length v). product_fits (unsigned_abs c.args.g) r (unsigned_abs (get_or v k d)) gain high (subst (λ n. unsigned_abs (get_or v k d) * 4096 ≤ n) (sym nr) (norm_share v k d wide l)) in
    let sizes : All (λ x. unsigned_abs x * unsigned_abs c.reciprocal.result < 2 ^ 63) v = subst (λ z. All (λ x. unsigned_abs x * unsigned_abs z < 2 ^ 63) v) (sym er) fit in
    simp to_z-of_z sizes

pub overflow_cast-length : goal.overflow_cast-length
overflow_cast-length c =
    let v : List ℤ = c.args.v.now in
    let r : ℕ = c.isq-length.result in
    let en : c.energy_of-energy.result ≡ energy v = c.energy_of-energy.ensures in
    let wide : energy v < 2 ^ 88 = energy_wide v c.requires.count c.requires.items in
    let some : 0 < energy v = omega arith in
    let nr : r ≡ norm v = norm-from v c.energy_of-energy.result r en wide c.isq-length.ensures in
    let high : r < 2 ^ 56 = omega (arith, norm_wide v wide) in
    fits_signed_from_abs w64 (pos r) (omega arith)

pub divide_all-requires-clause-length : goal.divide_all-requires-clause-length
divide_all-requires-clause-length c =
    let v : List ℤ = c.args.v.now in
    let r : ℕ = c.isq-length.result in
    let en : c.energy_of-energy.result ≡ energy v = c.energy_of-energy.ensures in
    let wide : energy v < 2 ^ 88 = energy_wide v c.requires.count c.requires.items in
    let some : 0 < energy v = omega arith in
    let nr : r ≡ norm v = norm-from v c.energy_of-energy.result r en wide c.isq-length.ensures in
    let high : r < 2 ^ 56 = omega (arith, norm_wide v wide) in
    let low : 4096 ≤ r = omega (arith, norm_low v wide some) in
    omega (arith, ints)

pub divide_all-requires-clause-sizes : goal.divide_all-requires-clause-sizes
divide_all-requires-clause-sizes c =
    let v : List ℤ = c.args.v.now in
    let r : ℕ = c.isq-length.result in
    let en : c.energy_of-energy.result ≡ energy v = c.energy_of-energy.ensures in
    let wide : energy v < 2 ^ 88 = energy_wide v c.requires.count c.requires.items in
    let some : 0 < energy v = omega arith in
    let nr : r ≡ norm v = norm-from v c.energy_of-energy.result r en wide c.isq-length.ensures in
    let high : r < 2 ^ 56 = omega (arith, norm_wide v wide) in
    λ k d l. (c.requires.items k d l, rw (to_z_pos w64 r (omega arith)) (omega (arith, norm_share v k d wide l)))
