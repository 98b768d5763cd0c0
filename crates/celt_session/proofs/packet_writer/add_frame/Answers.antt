use Rattle.std.proofs.Common.{◌≡◌, ◌+◌, ◌-◌, ◌*◌, ap, ◌∙◌, length}
use borrow.Rule.Slice.PartMut.{put_mid, same_len_mid}
use Rattle.celt_session.proofs.PacketLemmas.{wrote_some, put_frame}
use Rattle.celt_session.proofs.packet_writer.add_frame.Goals as goal

pub returns-in_default-clause-packed : goal.returns-in_default-clause-packed
returns-in_default-clause-packed g c = λ frame done long h is.
    wrote_some c.args.plan frame (g.K.Sink.held c.args.output.now) done 1 c.args.packer.now.packets (g.K.Sink.held c.write_full.new.output) (c.in_default.ensures.packed frame done long h)

pub returns-clause-packed : goal.returns-clause-packed
returns-clause-packed g c = λ frame done long h is.
    let part : c.copy_from_slice.new.self ≡ c.args.bytes.now = c.copy_from_slice.ensures.after in
    let len : length c.copy_from_slice.new.self ≡ c.args.plan.bytes = ap length part ∙ c.requires.len in
    let at = c.write_full.new.packer.count * c.args.plan.bytes in
    let kept : length (put_mid at (at + c.args.plan.bytes - at) c.deref_mut.result.now c.copy_from_slice.new.self) ≡ length c.deref_mut.result.now = same_len_mid at (at + c.args.plan.bytes - at) c.deref_mut.result.now c.copy_from_slice.new.self c.copy_from_slice.ensures.len in
    put_frame c.args.plan frame (g.K.Sink.held c.args.output.now) done c.args.packer.now.packets c.copy_from_slice.new.self c.deref_mut.result.now c.write_full.new.packer (g.K.Sink.held c.write_full.new.output)
    c.in-Ok.ensures.rooms c.in-Ok.ensures.less len (part ∙ is) c.deref_mut.ensures.value kept (c.in-Ok.ensures.packed frame done long h)

pub returns-in_default-clause-failed : goal.returns-in_default-clause-failed
returns-in_default-clause-failed g c = λ frame done long h. c.in_default.ensures.packed frame done long h
