use Rattle.std.proofs.Common.{◌≡◌, ◌+◌, ◌*◌, [], ◌∷◌, get_or, arith, to_z, of_z, FitsSigned, rules}
use Rattle.std.specs.Int.{w16, cast_signed, from_le_bytes}
use Rattle.std.proofs.Math.Facts.{to_z-of_z}
use Rattle.wav_edge.proofs.SampleLemmas.{sample_put, samples_put}
use Rattle.wav_edge.proofs.samples.to_samples.Goals as goal

pub loop-i-preserved : goal.loop-i-preserved
loop-i-preserved c =
    let bytes = c.args.bytes.now in
    let i = c.loop-i.i in
    let r = c.from_le_bytes.result in
    let fits : FitsSigned w16 r = search rules in
    let kept = to_z-of_z {w = w16} {z = r} fits in
    let is : to_z w16 (of_z w16 r) ≡ cast_signed w16 (from_le_bytes w16 (get_or bytes (2 * i) 0 ∷ get_or bytes (2 * i + 1) 0 ∷ [])) =
    cc (kept, c.from_le_bytes.ensures) in
    sample_put bytes c.loop-i.out i (to_z w16 (of_z w16 r)) (omega arith) (omega arith) is c.loop-i.invariant

pub returns : goal.returns
returns c = samples_put c.args.bytes.now c.loop-i.out c.loop-i.i (omega arith) (omega arith) c.loop-i.invariant
