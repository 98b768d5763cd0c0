use Rattle.std.proofs.Common.{ap, ◌+◌, ◌∙◌}
use Rattle.std.specs.Int.{w64}
use Rattle.std.proofs.lemmas.Int.{to_z-of_z}
use Rattle.celt_encode.proofs.VectorSteps.{split_is}
use Rattle.celt_encode.specs.Vectors.{vector_of, part_of}
use Rattle.celt_encode.proofs.vectors.split_number.Goals as goal

pub returns : goal.returns
returns c =
    to_z-of_z w64 c.steps_between.result (record { sfits = c.steps_between.type_inv })
    ∙ c.steps_between.ensures
    ∙ split_is (vector_of c.args.x.now) c.part_from.result.now c.part_from-2.result.now c.args.offset c.args.n c.args.qn c.length_of-m.result c.length_of-s.result
    (c.part_from.ensures.value ∙ ap (λ xs. part_of xs c.args.offset c.args.n) c.items_of-items.ensures.value)
    (c.part_from-2.ensures.value ∙ ap (λ xs. part_of xs (c.args.offset + c.args.n) c.args.n) c.items_of-items.ensures.value) c.length_of-m.ensures.value c.length_of-s.ensures.value
