use Rattle.std.proofs.Common.{arith}
use Rattle.opus_stream.proofs.Sizes.{few, short}
use Rattle.opus_stream.proofs.pages.bound.Goals as goal

pub returns-clause-few : goal.returns-clause-few
returns-clause-few c = few c.args.page.now (λ k. let f = c.type_inv.page k in omega arith)

pub returns-clause-short : goal.returns-clause-short
returns-clause-short c = short c.args.page.now (λ k. let f = c.type_inv.page k in omega arith)
