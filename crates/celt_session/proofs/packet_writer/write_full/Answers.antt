use Rattle.std.proofs.Common.{◌≡◌, refl, arith}
use Rattle.celt_session.proofs.PacketLemmas.{wrote_none, wrote_one}
use Rattle.celt_session.proofs.packet_writer.write_full.Goals as goal

pub returns-then-packer-plan-clause-packed : goal.returns-then-packer-plan-clause-packed
returns-then-packer-plan-clause-packed g c = λ frame done long h. wrote_none c.args.plan frame (g.K.Sink.held c.args.output.now) done c.args.packer.now h

pub returns-clause-packed : goal.returns-clause-packed
returns-clause-packed g c = λ frame done long h.
    let e = c.write_packet.ensures in
    let full : c.args.packer.now.count ≡ c.args.plan.group = let f = c.requires.few in let n = c.if-packer-plan.false in omega arith in
    wrote_one c.args.plan frame (g.K.Sink.held c.args.output.now) done c.args.packer.now c.write_packet.new.packer (g.K.Sink.held c.write_packet.new.output) _ c.write_packet.result h full refl e.packets e.count
    (e.page frame done long h)
