use Rattle.std.proofs.Common.{ap, length, arith}
use Rattle.opus_stream.proofs.step.take_page.Goals as goal

pub unwrap-requires : goal.unwrap-requires
unwrap-requires c =
    let f = ap length c.bytes.ensures in
    let g = c.lacing.ensures.fits in
    let n = c.clear.ensures.len in
    let k = c.clear.ensures.capacity in
    let held = c.requires.capacity in
    c.extend_from_slice.ensures.succeeds (omega arith)
