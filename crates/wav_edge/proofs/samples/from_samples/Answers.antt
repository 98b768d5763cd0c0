use Rattle.std.proofs.Common.{◌≡◌, ℕ, ℤ, pos, List, [], ◌∷◌, get_or, ap, ◌∙◌, arith, of_z, FitsSigned, rules}
use Rattle.std.specs.Int.{w16, to_le_bytes}
use Rattle.std.proofs.Math.Facts.{to_z-of_z}
use Rattle.wav_edge.proofs.SampleLemmas.{bytes_put, all_bytes_put}
use Rattle.wav_edge.proofs.samples.from_samples.Goals as goal

pub loop-i-preserved : goal.loop-i-preserved
loop-i-preserved c =
    let x = get_or c.args.samples.now c.loop-i.i (pos 0) in
    let fits : FitsSigned w16 x = search rules in
    let bytes : c.to_le_bytes.result ≡ to_le_bytes w16 (of_z w16 x) = c.to_le_bytes.ensures ∙ ap (λ (z : ℤ). to_le_bytes w16 (of_z w16 z)) (to_z-of_z {w = w16} {z = x} fits) in
    bytes_put c.args.samples.now c.loop-i.out c.loop-i.i (get_or c.to_le_bytes.result 0 0) (get_or c.to_le_bytes.result 1 0) (pos 0) (omega arith) (omega arith)
    (ap (λ (bs : List ℕ). get_or bs 0 0 ∷ get_or bs 1 0 ∷ []) bytes) c.loop-i.invariant

pub returns : goal.returns
returns c = all_bytes_put c.args.samples.now c.loop-i.out c.loop-i.i (omega arith) (omega arith) c.loop-i.invariant
