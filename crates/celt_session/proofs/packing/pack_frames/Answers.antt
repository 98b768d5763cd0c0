use Rattle.std.proofs.Common.{◌≡◌, ◌≤◌, length, sym, ◌∙◌, subst, arith, false, ◌++◌, drop}
use Rattle.std.specs.Prelude.{None}
use Rattle.opus_packets.specs.Cut.{equal_parts}
use Rattle.opus_packets.specs.Form.{spelled, Many}
use Rattle.celt_session.proofs.PacketLemmas.{packet_many, front_is, code_none, parts_count}
use Rattle.celt_session.proofs.packing.pack_frames.Goals as goal

pub returns-clause-packet : goal.returns-clause-packet
returns-clause-packet c =
    let fs = equal_parts c.args.count c.args.frames.now in
    let many : 2 ≤ length fs = let e = parts_count c.args.count c.args.frames.now in let h = c.requires.some in let n = c.if-count-eq1.false in omega arith in
    front_is c.pack_group.result (spelled (c.args.toc) (Many false None fs)) c.args.out.now c.pack_group.new.out
    (subst (λ t. c.pack_group.new.out ≡ spelled t (Many false None fs) ++ drop c.pack_group.result c.args.out.now) (code_none c.args.toc c.requires.code) c.pack_group.ensures.bytes)
    c.pack_group.auto.out (let h = c.requires.room in let e = c.pack_group.ensures.len in omega arith)
    ∙ sym (packet_many c.args.toc fs many)
