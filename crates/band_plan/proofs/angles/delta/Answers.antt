use Rattle.std.proofs.Common.{◌≡◌, ◌≤◌, ◌<◌, ◌-◌, ◌*◌, ◌^◌, arith, subst, sym, ap, ◌∙◌}
use Rattle.std.specs.Prelude.{pos, ◌*ℤ◌, unsigned_abs, FitsSigned}
use Rattle.std.specs.Int.{w64, w32}
use Rattle.std.proofs.lemmas.Int.{ints, to_z-of_z}
use Rattle.fixed_math.specs.Rounding.{rounded}
use Rattle.fixed_math.specs.Bitexact.{log2_tangent}
use Rattle.fixed_math.proofs.RoundingLemmas.{product_within, product_rounded}
use Rattle.band_plan.proofs.AngleSteps.{delta_none, delta_right, delta_some}
use Rattle.band_plan.proofs.angles.delta.Goals as goal

pub returns-then-theta-eq0-clause-value : goal.returns-then-theta-eq0-clause-value
returns-then-theta-eq0-clause-value c = delta_none c.args.n c.args.theta c.if-theta-eq0.true

pub returns-then-theta-eq16384-clause-value : goal.returns-then-theta-eq16384-clause-value
returns-then-theta-eq16384-clause-value c = delta_right c.args.n c.args.theta c.if-theta-eq16384.true

pub mulr-requires-clause-product : goal.mulr-requires-clause-product
mulr-requires-clause-product c =
    let n = c.requires.n.1 in
    let f1 : FitsSigned w32 c.bitexact_log2tan-tangent.result = record { sfits = c.bitexact_log2tan-tangent.type_inv } in
    let f2 : FitsSigned w64 c.from.result = record { sfits = c.from.type_inv } in
    let f3 : FitsSigned w64 c.from-2.result = record { sfits = c.from-2.type_inv } in
    let i = c.bitexact_log2tan-tangent.type_inv in
    let e : c.from-2.result ≡ c.bitexact_log2tan-tangent.result = simp to_z-of_z at c.from-2.ensures in
    let a : unsigned_abs c.from.result ≤ 22400 = subst (λ z. unsigned_abs z ≤ 22400) (sym c.from.ensures) (omega (arith, n)) in
    let b : unsigned_abs c.from-2.result ≤ 2 ^ 31 = subst (λ z. unsigned_abs z ≤ 2 ^ 31) (sym e) (omega (arith, ints, i)) in
    let p = product_within c.from.result c.from-2.result 22400 (2 ^ 31) a b in
    let m : unsigned_abs (c.from.result *ℤ c.from-2.result) < 2 ^ 62 = omega (arith, p) in
    simp to_z-of_z m

pub returns-clause-value : goal.returns-clause-value
returns-clause-value c =
    let f0 : FitsSigned w64 c.mulr.result = record { sfits = c.mulr.type_inv } in
    let f1 : FitsSigned w32 c.bitexact_log2tan-tangent.result = record { sfits = c.bitexact_log2tan-tangent.type_inv } in
    let f2 : FitsSigned w64 c.from.result = record { sfits = c.from.type_inv } in
    let f3 : FitsSigned w64 c.from-2.result = record { sfits = c.from-2.type_inv } in
    let f4 : FitsSigned w32 c.gain.result = record { sfits = c.gain.type_inv } in
    let f5 : FitsSigned w32 c.gain-2.result = record { sfits = c.gain-2.type_inv } in
    let e : c.from-2.result ≡ c.bitexact_log2tan-tangent.result = simp to_z-of_z at c.from-2.ensures in
    let v : c.mulr.result ≡ rounded (c.from.result *ℤ c.from-2.result) 15 = simp to_z-of_z at c.mulr.ensures.value in
    let t : c.bitexact_log2tan-tangent.result ≡ log2_tangent (unsigned_abs c.gain.result) (unsigned_abs c.gain-2.result) = simp to_z-of_z at c.bitexact_log2tan-tangent.ensures in
    let w : c.mulr.result ≡ rounded (pos ((c.args.n - 1) * 128) *ℤ c.from-2.result) 15 = v ∙ ap (λ z. rounded (z *ℤ c.from-2.result) 15) c.from.ensures in
    simp to_z-of_z (w ∙ delta_some c.args.n c.args.theta c.gain-2.result c.gain.result c.from-2.result c.if-theta-eq0.false c.if-theta-eq16384.false c.gain-2.ensures.value c.gain.ensures.value (e ∙ t))

pub returns-clause-size : goal.returns-clause-size
returns-clause-size c =
    let n = c.requires.n.1 in
    let f0 : FitsSigned w64 c.mulr.result = record { sfits = c.mulr.type_inv } in
    let f1 : FitsSigned w32 c.bitexact_log2tan-tangent.result = record { sfits = c.bitexact_log2tan-tangent.type_inv } in
    let f2 : FitsSigned w64 c.from.result = record { sfits = c.from.type_inv } in
    let f3 : FitsSigned w64 c.from-2.result = record { sfits = c.from-2.type_inv } in
    let i = c.bitexact_log2tan-tangent.type_inv in
    let e : c.from-2.result ≡ c.bitexact_log2tan-tangent.result = simp to_z-of_z at c.from-2.ensures in
    let v : c.mulr.result ≡ rounded (c.from.result *ℤ c.from-2.result) 15 = simp to_z-of_z at c.mulr.ensures.value in
    let a : unsigned_abs c.from.result ≤ 22400 = subst (λ z. unsigned_abs z ≤ 22400) (sym c.from.ensures) (omega (arith, n)) in
    let b : unsigned_abs c.from-2.result ≤ 2 ^ 31 = subst (λ z. unsigned_abs z ≤ 2 ^ 31) (sym e) (omega (arith, ints, i)) in
    let r : unsigned_abs c.mulr.result ≤ 2 ^ 31 = subst (λ z. unsigned_abs z ≤ 2 ^ 31) (sym v) (product_rounded c.from.result c.from-2.result 15 22400 (2 ^ 31) (2 ^ 31) (omega arith) a b (omega arith)) in
    simp to_z-of_z r
