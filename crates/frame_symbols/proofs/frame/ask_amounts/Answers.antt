use Rattle.std.proofs.Common.{◌∙◌, ap, arith}
use Rattle.std.specs.Prelude.{FitsSigned}
use Rattle.std.specs.Int.{w32}
use Rattle.std.proofs.lemmas.Int.{to_z-of_z, to_z_pos}
use Rattle.frame_symbols.proofs.FrameSteps.{amounts_walked, total_same, rest_small}
use Rattle.frame_symbols.specs.Frames.{reserve_of}
use Rattle.frame_symbols.proofs.frame.ask_amounts.Goals as goal

pub returns-clause-walked : goal.returns-clause-walked
returns-clause-walked g c =
    let rest = c.rest_of-rest.result in
    let small = rest_small rest c.rest_of-rest.ensures.most c.rest_of-rest.ensures.least in
    let fits : FitsSigned w32 rest = record { sfits = c.rest_of-rest.type_inv } in
    amounts_walked c.args.kind c.args.len c.tell_frac.result c.reserve_of-reserve.result c.args.shaping.now rest _ _ c.allocate-allocation.result
    c.tell_frac.ensures.value c.rest_of-rest.ensures.value
    (c.reserve_of-reserve.ensures.value ∙ ap (reserve_of c.args.kind c.args.shaping.now.settings.transient) (to_z-of_z w32 rest fits))
    (total_same rest c.reserve_of-reserve.result fits small c.reserve_of-reserve.ensures.most)
    (to_z_pos w32 c.args.shaping.now.trim (let most = c.requires.trim in omega (arith, most)))
    c.allocate-allocation.ensures.walked
