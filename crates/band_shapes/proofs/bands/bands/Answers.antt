use Rattle.std.proofs.Common.{◌≡◌, ◌∙◌, subst, arith, refl}
use Rattle.band_plan.proofs.PlanSteps.{end_most}
use Rattle.band_shapes.specs.Frames.{symbols_of, sofar_of, bands_of, IsSound}
use Rattle.band_shapes.proofs.FormFacts.{form_here, can_shape}
use Rattle.band_shapes.proofs.FrameLemmas.{start_made, start_sound}
use Rattle.band_shapes.proofs.NextLemmas.{more_next, rest_here}
use Rattle.band_shapes.proofs.bands.bands.Goals as goal

pub loop-i-init : goal.loop-i-init
loop-i-init c =
    (start_made c.args.frame.now.kind (symbols_of c.args.frame.now.symbols.now) c.args.frame.now.invert c.args.seed c.args.lines.now _ refl, start_sound c.args.frame.now.kind (symbols_of c.args.frame.now.symbols.now) c.args.seed c.args.lines.now _ refl)

pub next_band-requires-clause-band : goal.next_band-requires-clause-band
next_band-requires-clause-band c = let few = end_most c.args.frame.now.kind in let e = c.from-i-end.ensures in omega (arith, few, e, c.loop-i-test.true)

pub next_band-requires-clause-can : goal.next_band-requires-clause-can
next_band-requires-clause-can c = let e = c.from-i-end.ensures in can_shape c.args.frame.now.kind c.args.frame.now.symbols.now c.loop-i.i c.requires (omega (arith, e, c.loop-i-test.true))

pub next_band-requires-clause-sound : goal.next_band-requires-clause-sound
next_band-requires-clause-sound c = c.loop-i.invariant.1

pub next_band-requires-clause-form : goal.next_band-requires-clause-form
next_band-requires-clause-form c =
    let e = c.from-i-end.ensures in
    form_here c.args.frame.now.kind c.args.frame.now.symbols.now c.args.frame.now.invert c.args.seed c.loop-i.i _ c.requires (omega (arith, e, c.loop-i-test.true))
    (rest_here c.args.frame.now.kind (symbols_of c.args.frame.now.symbols.now) c.loop-i.i c.loop-i.lines c.loop-i.walked _ c.loop-i.invariant.0)

pub loop-i-preserved : goal.loop-i-preserved
loop-i-preserved c =
    (c.next_band.ensures.made ∙ more_next c.args.frame.now.kind (symbols_of c.args.frame.now.symbols.now) c.args.frame.now.invert c.args.seed c.loop-i.i _ c.loop-i.invariant.0, c.next_band.ensures.sound)

pub returns-clause-made : goal.returns-clause-made
returns-clause-made c =
    let f = c.from-i-end.ensures in
    let e : c.loop-i.i ≡ c.args.frame.now.kind.end = omega (arith, c.loop-i-test.false, c.loop-i.auto.i-end, f) in
    subst (λ n. sofar_of c.args.frame.now.kind (symbols_of c.args.frame.now.symbols.now) n c.loop-i.lines c.loop-i.walked ≡ bands_of c.args.frame.now.kind (symbols_of c.args.frame.now.symbols.now) c.args.frame.now.invert c.args.seed n) e c.loop-i.invariant.0

pub returns-clause-sound : goal.returns-clause-sound
returns-clause-sound c =
    let f = c.from-i-end.ensures in
    let e : c.loop-i.i ≡ c.args.frame.now.kind.end = omega (arith, c.loop-i-test.false, c.loop-i.auto.i-end, f) in
    subst (λ n. IsSound c.args.frame.now.kind (symbols_of c.args.frame.now.symbols.now) n c.loop-i.lines c.loop-i.walked) e c.loop-i.invariant.1
