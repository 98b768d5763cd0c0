use Rattle.std.proofs.Common.{◌≡◌, ◌+◌, ◌/◌, ℕ, arith, ◌∙◌}
use Rattle.std.specs.Prelude.{slice_index}
use Rattle.bit_allocation.specs.Counts.{counts_of, boosted_of}
use Rattle.bit_allocation.proofs.CountLemmas.{counts_same}
use Rattle.bit_allocation.proofs.SearchLemmas.{quality_most, quality_fits, quality_over}
use Rattle.bit_allocation.proofs.searching.quality.Goals as goal

pub loop-fits-init : goal.loop-fits-init
loop-fits-init c =
    let m = quality_most c.args.bands.now.request c.args.rest in
    record { low = omega arith; high = omega (arith, m); most = omega arith }

pub loop-fits-preserved : goal.loop-fits-preserved
loop-fits-preserved c =
    let r = c.args.bands.now.request in
    let middle : ℕ = (c.loop-fits.fits + c.loop-fits.over) / 2 in
    let i = c.loop-fits.invariant in
    let low = i.low in
    let most = i.most in
    let t = c.loop-fits-test.true in
    let sum : c.count.result.sum ≡ counts_of r.kind (boosted_of r middle) =
    c.count.ensures.sum ∙ counts_same r.kind (slice_index c.boosted.result) (boosted_of r middle) c.boosted.ensures in
    let over = c.if-count-rest.false in
    record {
      low = low;
      high = quality_over r c.args.rest middle (omega (arith, t)) (omega (arith, sum, over));
      most = omega (arith, most, t);
    }

pub loop-fits-preserved-then-count-rest : goal.loop-fits-preserved-then-count-rest
loop-fits-preserved-then-count-rest c =
    let r = c.args.bands.now.request in
    let middle : ℕ = (c.loop-fits.fits + c.loop-fits.over) / 2 in
    let i = c.loop-fits.invariant in
    let most = i.most in
    let t = c.loop-fits-test.true in
    let sum : c.count.result.sum ≡ counts_of r.kind (boosted_of r middle) =
    c.count.ensures.sum ∙ counts_same r.kind (slice_index c.boosted.result) (boosted_of r middle) c.boosted.ensures in
    let fits = c.if-count-rest.true in
    record {
      low = quality_fits r c.args.rest middle (omega (arith, most, t)) (omega (arith, sum, fits));
      high = i.high;
      most = most;
    }
