use Rattle.std.proofs.Common.{◌∙◌}
use Rattle.std.specs.Int.{w64}
use Rattle.std.proofs.lemmas.Int.{to_z-of_z}
use Rattle.celt_encode.proofs.VectorSteps.{stereo_is}
use Rattle.celt_encode.specs.Outsets.{outset_of}
use Rattle.celt_encode.proofs.vectors.stereo_number.Goals as goal

pub returns : goal.returns
returns c =
    to_z-of_z w64 c.steps_between.result (record { sfits = c.steps_between.type_inv })
    ∙ c.steps_between.ensures
    ∙ stereo_is (outset_of c.args.frame.now) c.args.band c.args.qn c.root_of-m.result c.root_of-s.result c.energy_beside.result c.energy_beside-2.result
    c.energy_beside.ensures.value c.energy_beside-2.ensures.value c.root_of-m.ensures.value c.root_of-s.ensures.value
