use Rattle.std.proofs.Common.{◌*◌, ◌∙◌, ap, rules, get_or}
use Rattle.std.specs.Prelude.{pos, int_lt, FitsSigned}
use Rattle.std.specs.Int.{w32}
use Rattle.std.proofs.lemmas.Int.{to_z-of_z}
use Rattle.band_shapes.specs.Frames.{is_rich}
use Rattle.band_shapes.proofs.plans.is_rich.Goals as goal

pub returns : goal.returns
unfolding is_rich
returns c =
    let f : FitsSigned w32 (get_or c.args.s.now.amounts c.args.i (pos 0)) = search rules in
    c.is_above.ensures ∙ ap (int_lt (pos (8 * c.args.count))) (to_z-of_z w32 (get_or c.args.s.now.amounts c.args.i (pos 0)) f)
