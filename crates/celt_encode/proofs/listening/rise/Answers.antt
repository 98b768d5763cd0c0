use Rattle.std.proofs.Common.{◌≡◌, ℕ, ◌+◌, ◌*◌, ap, arith, ◌∙◌}
use Rattle.std.specs.Prelude.{pos, ◌+ℤ◌, ◌-ℤ◌, ◌*ℤ◌, FitsSigned}
use Rattle.std.specs.Int.{w64, cast_signed as to_z}
use Rattle.std.proofs.lemmas.Int.{to_z-of_z, fits_signed_from_abs}
use Rattle.celt_base.proofs.BandEnds.{end_most}
use Rattle.celt_analysis.specs.Analyses.{height_in}
use Rattle.celt_analysis.specs.Sums.{signed_sum}
use Rattle.celt_encode.specs.Listening.{rise_of}
use Rattle.celt_encode.proofs.ListeningLemmas.{sum_first, sum_next}
use Rattle.celt_encode.proofs.listening.rise.Goals as goal

pub loop-band-init : goal.loop-band-init
loop-band-init c = sum_first (λ i. height_in c.args.a.now i *ℤ (pos (2 * i + 1) -ℤ pos c.args.kind.end))

pub loop-band-preserved : goal.loop-band-preserved
loop-band-preserved c =
    let n : ℕ = c.loop-band.band in
    let few = end_most c.args.kind in
    let fh : FitsSigned w64 c.height.result = record { sfits = c.height.type_inv } in
    let fv : FitsSigned w64 c.lever-sum.result = record { sfits = c.lever-sum.type_inv } in
    let v : c.lever-sum.result ≡ c.height.result *ℤ (pos (2 * n + 1) -ℤ pos c.args.kind.end) = simp to_z-of_z at c.lever-sum.ensures.value in
    let h : c.height.result ≡ height_in c.args.a.now n = c.height.ensures.value in
    let s = sum_next (λ i. height_in c.args.a.now i *ℤ (pos (2 * i + 1) -ℤ pos c.args.kind.end)) (to_z w64 c.loop-band.sum-bits) c.lever-sum.result n (v ∙ ap (λ z. z *ℤ (pos (2 * n + 1) -ℤ pos c.args.kind.end)) h) c.lever-sum.ensures.size c.loop-band.invariant in
    let fs : FitsSigned w64 (to_z w64 c.loop-band.sum-bits +ℤ c.lever-sum.result) = fits_signed_from_abs w64 _ (omega (arith, s.size, few, c.loop-band-test.true)) in
    simp to_z-of_z s

pub returns-clause-value : goal.returns-clause-value
unfolding rise_of
returns-clause-value c =
    let e : c.loop-band.band ≡ c.args.kind.end = omega arith in
    c.loop-band.invariant.value ∙ ap (signed_sum (λ i. height_in c.args.a.now i *ℤ (pos (2 * i + 1) -ℤ pos c.args.kind.end))) e
