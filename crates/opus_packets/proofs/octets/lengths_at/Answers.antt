use Rattle.std.proofs.Common.{◌≤◌, ℕ, List, length, ap, ◌∙◌, sym, subst}
use Rattle.opus_packets.specs.Packet.{length_at}
use Rattle.opus_packets.proofs.Codings.{reading_more, reading_none, reading_end}
use Rattle.opus_packets.proofs.octets.lengths_at.Goals as goal

pub returns-in_err-length-clause-value : goal.returns-in_err-length-clause-value
returns-in_err-length-clause-value c =
    let none = sym (c.in_err-length.ensures.value ∙ ap length_at c.split_at.ensures.back) in
    c.from_residual.ensures ∙ sym (reading_none c.args.n c.loop.counter c.loop.taken c.args.bytes.now c.loop.values.items c.loop.invariant c.loop-test.true none)

pub loop-preserved : goal.loop-preserved
loop-preserved c =
    let some = sym (c.in_ok-length.ensures.value ∙ ap length_at c.split_at.ensures.back) in
    let fits = subst (λ (bs : List ℕ). c.in_ok-length.length.taken ≤ length bs) c.split_at.ensures.back c.in_ok-length.ensures.within in
    reading_more c.args.n c.loop.counter c.loop.taken c.args.bytes.now c.loop.values.items _ c.in_ok-length.length c.loop.invariant
    c.loop-test.true some fits c.in_ok-length.ensures.short c.in_ok-length.ensures.bound c.push.ensures.items

pub returns-clause-value : goal.returns-clause-value
returns-clause-value c = sym (reading_end c.args.n c.loop.counter c.loop.taken c.args.bytes.now c.loop.values.items c.loop.invariant c.loop-test.false)
