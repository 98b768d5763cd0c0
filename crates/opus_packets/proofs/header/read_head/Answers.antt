use Rattle.std.proofs.Common.{◌≡◌, ◌⊎◌, slice_index, ◌∙◌, inl, inr, true, arith}
use Rattle.opus_packets.specs.Header.{begins_head}
use Rattle.opus_packets.proofs.Headers.{head_read, read_number, read_signed}
use Rattle.opus_packets.proofs.header.read_head.Goals as goal
use Rattle.opus_packets.proofs.header.read_head.Goals.{else-packet-ne1-via-then-packet-ne1+else-packet-ne2, else-packet-ne1-via-else-packet-ne1}

pub returns : goal.returns
returns c =
    let xs = c.args.packet.now in
    let begins : begins_head xs ≡ true = cc (c.begins_head.ensures.value) in
    let channels : (slice_index xs 9 ≡ 1) ⊎ (slice_index xs 9 ≡ 2) =
    elim c.else-packet-ne1.branch [
      | else-packet-ne1-via-then-packet-ne1+else-packet-ne2 w ↦ inr (omega arith)
      | else-packet-ne1-via-else-packet-ne1 w ↦ inl (omega arith)
    ] in
    head_read xs _ c.read_i16.result _ begins c.if-packet-ne0.false channels (c.read_u16.ensures ∙ read_number 10 xs)
    (read_signed 16 xs _ c.type_inv.packet c.read_i16.ensures)
