use Rattle.std.proofs.Common.{◌^◌, ◌<◌, sym, subst, unsigned_abs, All}
use Rattle.celt_encode.proofs.ChangeSteps.{blocks_small}
use Rattle.celt_encode.proofs.changes.put_blocks.Goals as goal

pub returns-then-named-clause-small : goal.returns-then-named-clause-small
returns-then-named-clause-small c =
    subst (λ xs. All (λ v. unsigned_abs v < 2 ^ 20) xs) (sym c.order.ensures.value) (blocks_small c.args.g.count c.args.g.stride c.args.hadamard c.args.x.now c.requires.small)
