use Rattle.celt_encode.proofs.VectorSteps.{products_test}
use Rattle.celt_encode.proofs.vectors.is_less.Goals as goal

pub returns : goal.returns
returns c = products_test c.args.a.value c.args.b.value c.args.c.value c.args.d.value c.args.a.small c.args.b.small c.args.c.small c.args.d.small
