use Rattle.std.proofs.Common.{◌≡◌, ◌+◌, ◌-◌, ◌%◌, ◌++◌, List, ℕ, length, take, drop, IsOkAnd, ap, ◌∙◌, sym, subst, arith}
use Rattle.opus_packets.specs.Cut.{frames_of, equal_parts}
use Rattle.opus_packets.specs.Packet.{cut_of}
use Rattle.opus_packets.proofs.Groups.{group_spelled, group_written}
use Rattle.opus_packets.proofs.spelling.pack_group.Goals as goal

pub returns-clause-bytes : goal.returns-clause-bytes
returns-clause-bytes c =
    c.put.ensures.bytes ∙ ap (λ xs. xs ++ drop c.put.result c.args.out.now) (sym (group_spelled (c.args.toc - c.args.toc % 4) c.args.count c.args.frames.now c.requires.equal))

pub returns-clause-frames : goal.returns-clause-frames
returns-clause-frames c =
    let frames = c.args.frames.now in
    let n = c.put.result in
    let size : n ≡ 2 + length frames = omega (arith, c.put.ensures.len) in
    subst (λ (xs : List ℕ). IsOkAnd (cut_of (take n xs)) (λ cut. frames_of cut ≡ equal_parts c.args.count frames)) (sym c.put.ensures.bytes)
    (group_written c.args.toc c.args.count frames (drop n c.args.out.now) n c.requires.some c.requires.equal c.requires.limited c.requires.short size)
