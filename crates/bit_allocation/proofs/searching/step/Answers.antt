use Rattle.std.proofs.Common.{◌≡◌, ◌+◌, ◌/◌, ℕ, arith, ◌∙◌}
use Rattle.bit_allocation.specs.Counts.{counts_of, stepped_of}
use Rattle.bit_allocation.proofs.SearchLemmas.{step_most, step_fits, step_over, stepped_same}
use Rattle.bit_allocation.proofs.searching.step.Goals as goal

pub loop-fits-init : goal.loop-fits-init
loop-fits-init c =
    let m = step_most c.args.bands.now.request c.args.quality c.args.rest in
    record { low = omega arith; high = omega (arith, m); most = omega arith }

pub loop-fits-preserved : goal.loop-fits-preserved
loop-fits-preserved c =
    let r = c.args.bands.now.request in
    let middle : ℕ = (c.loop-fits.fits + c.loop-fits.over) / 2 in
    let i = c.loop-fits.invariant in
    let low = i.low in
    let most = i.most in
    let t = c.loop-fits-test.true in
    let sum : c.count.result.sum ≡ counts_of r.kind (stepped_of r c.args.quality middle) =
    c.count.ensures.sum
    ∙ stepped_same r c.args.quality middle c.args.rise.now.firsts c.args.rise.now.seconds c.stepped.result c.requires.firsts c.requires.seconds c.stepped.ensures in
    let over = c.if-count-rest.false in
    record {
      low = low;
      high = step_over r c.args.quality c.args.rest middle (omega (arith, t)) (omega (arith, sum, over));
      most = omega (arith, most, t);
    }

pub loop-fits-preserved-then-count-rest : goal.loop-fits-preserved-then-count-rest
loop-fits-preserved-then-count-rest c =
    let r = c.args.bands.now.request in
    let middle : ℕ = (c.loop-fits.fits + c.loop-fits.over) / 2 in
    let i = c.loop-fits.invariant in
    let most = i.most in
    let t = c.loop-fits-test.true in
    let sum : c.count.result.sum ≡ counts_of r.kind (stepped_of r c.args.quality middle) =
    c.count.ensures.sum
    ∙ stepped_same r c.args.quality middle c.args.rise.now.firsts c.args.rise.now.seconds c.stepped.result c.requires.firsts c.requires.seconds c.stepped.ensures in
    let fits = c.if-count-rest.true in
    record {
      low = step_fits r c.args.quality c.args.rest middle (omega (arith, most, t)) (omega (arith, sum, fits));
      high = i.high;
      most = most;
    }
