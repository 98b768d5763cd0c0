use Rattle.std.proofs.Common.{◌≡◌, ℕ, ◌∙◌, ap, arith}
use Rattle.post_filter.specs.Comb.{scaled, centre_tap, near_tap, far_tap}
use Rattle.post_filter.proofs.TapLemmas.{taps_sum}
use Rattle.post_filter.proofs.taps.taps_of.Goals as goal

pub invariant_of-result-clause-sum : goal.invariant_of-result-clause-sum
invariant_of-result-clause-sum c =
    let g : ℕ = c.args.setting.gain in
    let t : ℕ = c.args.setting.tapset in
    let a : c.share_of.result ≡ scaled g (centre_tap t) = c.share_of.ensures.value ∙ ap (scaled g) c.centre_of.ensures.value in
    let b : c.share_of-2.result ≡ scaled g (near_tap t) = c.share_of-2.ensures.value ∙ ap (scaled g) c.near_of.ensures.value in
    let d : c.share_of-3.result ≡ scaled g (far_tap t) = c.share_of-3.ensures.value ∙ ap (scaled g) c.far_of.ensures.value in
    omega (arith, taps_sum g t c.args.setting.most_gain)
