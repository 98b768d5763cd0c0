use Rattle.std.proofs.Common.{◌≤◌, slice_index, arith}
use Rattle.opus_packets.specs.Packet.{config_of}
use Rattle.opus_packets.proofs.Sums.{few_frames}
use Rattle.opus_packets.proofs.packet.frames_with_lengths.Goals as goal

pub overflow_add-used-4 : goal.overflow_add-used-4
overflow_add-used-4 c =
    let few : c.args.count ≤ 48 = few_frames c.args.count (config_of (slice_index c.args.packet.now 0)) c.requires.short in
    omega (arith, c.requires.padded c.in-Some.padding c.in-Some.is, c.in-Some-lengths_at.ensures.short, c.taken.ensures, c.total.ensures.bound)
