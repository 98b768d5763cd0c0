use Rattle.std.proofs.Common.{arith, rules, refl, ◌-◌, get_or}
use Rattle.std.specs.Prelude.{pos}
use mir.Val.{SFits}
use mir.Syntax.{w32}
use Rattle.std.proofs.lemmas.Int.{to_z-of_z}
use Rattle.pulse_vectors.proofs.RankSteps.{ranked-start, next-fits, ranked-next-at, ranked-below, ranked-end, ranked-value, ranked-only}
use Rattle.pulse_vectors.proofs.TableSteps.{place-of}
use Rattle.pulse_vectors.proofs.table.PulseTable.rank.Goals as goal

pub loop-i-init : goal.loop-i-init
loop-i-init c = ranked-start _ _ refl

pub before-place-requires : goal.before-place-requires
before-place-requires c =
    let f : SFits w32 (get_or c.args.y.now (c.loop-i.i - 1) (pos 0)) = search rules in
    simp to_z-of_z (place-of _ _ _ _ (omega arith) (omega arith) (omega arith) (next-fits _ _ (c.loop-i.i - 1) _ _ (omega arith) c.loop-i.invariant) c.requires.fits)

pub overflow_add-place : goal.overflow_add-place
overflow_add-place c =
    let f : SFits w32 (get_or c.args.y.now (c.loop-i.i - 1) (pos 0)) = search rules in
    let ahead = simp to_z-of_z at c.before-place.ensures in
    let next = ranked-next-at _ _ (c.loop-i.i - 1) _ _ _ _ _ (omega arith) (omega arith) c.loop-i.invariant refl ahead in
    omega (arith, c.requires.fits, ranked-below _ _ _ _ next (omega arith))

pub overflow_add-behind : goal.overflow_add-behind
overflow_add-behind c =
    let f : SFits w32 (get_or c.args.y.now (c.loop-i.i - 1) (pos 0)) = search rules in
    let size = simp to_z-of_z at c.unsigned_abs-behind.ensures.value in
    omega (arith, next-fits _ _ (c.loop-i.i - 1) _ _ (omega arith) c.loop-i.invariant)

pub loop-i-preserved : goal.loop-i-preserved
loop-i-preserved c =
    let f : SFits w32 (get_or c.args.y.now (c.loop-i.i - 1) (pos 0)) = search rules in
    let size = simp to_z-of_z at c.unsigned_abs-behind.ensures.value in
    let ahead = simp to_z-of_z at c.before-place.ensures in
    ranked-next-at _ c.loop-i.i _ _ _ _ _ _ (omega arith) (omega arith) c.loop-i.invariant size ahead

pub returns-clause-below : goal.returns-clause-below
returns-clause-below c = ranked-below _ _ _ _ c.loop-i.invariant (omega arith)

pub returns-clause-stands : goal.returns-clause-stands
returns-clause-stands c = ranked-end _ _ _ _ (omega arith) c.loop-i.invariant

pub returns-clause-only : goal.returns-clause-only
returns-clause-only c = λ i g. ranked-only _ _ _ _ i (omega arith) c.loop-i.invariant g

pub returns-clause-value : goal.returns-clause-value
returns-clause-value c = ranked-value _ _ _ _ (omega arith) c.loop-i.invariant
