use Rattle.std.proofs.Common.{sym, length, ◌∙◌, ap, to_z-of_z, w64}
use Rattle.std.specs.Int.{cast_unsigned}
use Rattle.byteorder.specs.Endian.{little_bytes}
use Rattle.ogg_pages.proofs.Written.{length-packet_lacing, header_from}
use Rattle.ogg_pages.proofs.writer.blank_header.Goals as goal

pub returns : goal.returns
returns c =
    let same = ap (λ z. little_bytes 8 (cast_unsigned w64 z)) (to_z-of_z c.ranges.granule) in
    header_from c.args.flags (cast_unsigned w64 c.args.granule) c.args.sequence c.args.packet.now c.to_le_bytes.result c.to_le_bytes-2.result _
    (c.to_le_bytes.ensures ∙ same) c.to_le_bytes-2.ensures (sym (length-packet_lacing (length c.args.packet.now)))
