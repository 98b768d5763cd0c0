use Rattle.std.proofs.Common.{sym, subst}
use Rattle.celt_base.proofs.Writing.{Wrote, wrote_more}
use Rattle.celt_base.proofs.standard.write_bytes.Goals as goal

pub loop-rest-preserved : goal.loop-rest-preserved
loop-rest-preserved g c =
    let held = g.W.Write.contents in
    subst (Wrote (held c.args.inner.now) (held c.write.new.self) c.args.bytes.now) (sym c.split_at.ensures.back)
    (wrote_more (held c.args.inner.now) (held c.loop-rest.inner) (held c.write.new.self) c.args.bytes.now c.loop-rest.rest.now c.in-Ok.count c.loop-rest.invariant c.in-Ok.ensures.bytes)
