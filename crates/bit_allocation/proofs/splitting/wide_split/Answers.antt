use Rattle.std.proofs.Common.{◌≡◌, ◌≤◌, ◌∙◌, ◌-◌, ℕ, ap, arith}
use Rattle.std.specs.Prelude.{min, get_or}
use Rattle.bit_allocation.specs.Amounts.{most_of}
use Rattle.bit_allocation.specs.Shares.{wide_split, numbers_of, raised_bits, fine_of}
use Rattle.bit_allocation.proofs.AmountLemmas.{most_of_most, band_inside}
use Rattle.bit_allocation.proofs.SplitLemmas.{wide_with}
use Rattle.bit_allocation.proofs.splitting.wide_split.Goals as goal

pub raised_bits-raised-requires-clause-bits : goal.raised_bits-raised-requires-clause-bits
raised_bits-raised-requires-clause-bits c =
    let k = c.args.bands.now.request.kind in
    let m : most_of k c.args.band ≤ 26752 = most_of_most k c.args.band (band_inside k c.args.band c.requires) in
    let e : get_or c.args.bands.now.most c.args.band 0 ≡ most_of k c.args.band = c.args.bands.now.most_are c.args.band c.requires in
    let kept = c.min-kept.ensures in
    omega (arith, e, m, kept)

pub returns-clause-value : goal.returns-clause-value
unfolding wide_split
returns-clause-value c =
    let k = c.args.bands.now.request.kind in
    let bits = c.args.bits in
    let e : get_or c.args.bands.now.most c.args.band 0 ≡ most_of k c.args.band = c.args.bands.now.most_are c.args.band c.requires in
    let n = c.numbers-numbers.result in
    let r = c.raised_bits-raised.result in
    let kept = c.min-kept.result in
    let b : ℕ = min bits (most_of k c.args.band) in
    let n2 : ℕ = numbers_of k c.args.stereo c.args.band in
    ap (wide_with c.each-bit.result kept n r c.fine-fine.result) c.saturating_sub.ensures
    ∙ ap (λ m. wide_with c.each-bit.result kept n r c.fine-fine.result (bits - m)) e
    ∙ ap (λ f. wide_with c.each-bit.result kept n r f (bits - most_of k c.args.band)) c.fine-fine.ensures.value
    ∙ ap (λ x. wide_with c.each-bit.result kept n x (fine_of k.channels n x kept) (bits - most_of k c.args.band)) c.raised_bits-raised.ensures.value
    ∙ ap (λ x. wide_with c.each-bit.result kept x (raised_bits k x c.args.band kept) (fine_of k.channels x (raised_bits k x c.args.band kept) kept) (bits - most_of k c.args.band)) c.numbers-numbers.ensures.value
    ∙ ap (λ x. wide_with c.each-bit.result x n2 (raised_bits k n2 c.args.band x) (fine_of k.channels n2 (raised_bits k n2 c.args.band x) x) (bits - most_of k c.args.band)) (c.min-kept.ensures ∙ ap (min bits) e)
    ∙ ap (λ x. wide_with x b n2 (raised_bits k n2 c.args.band b) (fine_of k.channels n2 (raised_bits k n2 c.args.band b) b) (bits - most_of k c.args.band)) c.each-bit.ensures.value
