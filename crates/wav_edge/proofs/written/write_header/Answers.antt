use Rattle.std.proofs.Common.{ℕ, ◌*◌, ap, ◌∙◌, arith}
use Rattle.byteorder.specs.Endian.{little_bytes}
use Rattle.wav_edge.proofs.SpellingLemmas.{header_bytes}
use Rattle.wav_edge.proofs.written.write_header.Goals as goal

pub returns : goal.returns
returns c =
    header_bytes c.args.channels c.to_le_bytes.result c.to_le_bytes-2.result (omega arith)
    (c.to_le_bytes.ensures ∙ ap (λ (n : ℕ). little_bytes 4 (96000 * n)) c.from.ensures)
    (c.to_le_bytes-2.ensures ∙ ap (λ (n : ℕ). little_bytes 2 (2 * n)) c.from-2.ensures)
