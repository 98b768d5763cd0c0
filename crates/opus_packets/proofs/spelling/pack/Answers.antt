use Rattle.std.proofs.Common.{◌≡◌, ◌+◌, List, ℕ, [], ◌∷◌, length, take, drop, IsOkAnd, sym, subst, arith}
use Rattle.opus_packets.specs.Cut.{frames_of}
use Rattle.opus_packets.specs.Packet.{cut_of}
use Rattle.opus_packets.proofs.Groups.{one_written}
use Rattle.opus_packets.proofs.spelling.pack.Goals as goal

pub returns-clause-frames : goal.returns-clause-frames
returns-clause-frames c =
    let frame = c.args.frame.now in
    let n = c.put.result in
    let size : n ≡ length frame + 1 = omega (arith, c.put.ensures.len) in
    subst (λ (xs : List ℕ). IsOkAnd (cut_of (take n xs)) (λ cut. frames_of cut ≡ frame ∷ [])) (sym c.put.ensures.bytes)
    (one_written c.args.toc frame (drop n c.args.out.now) n c.requires.code c.requires.limited size)
