use Rattle.std.proofs.Common.{◌+◌, arith, rules}
use Rattle.std.specs.Prelude.{FitsSigned}
use Rattle.std.specs.Int.{w32, int_wrap}
use Rattle.std.proofs.lemmas.Int.{to_z-of_z}
use Rattle.fixed_math.specs.Items.{item}
use Rattle.celt_analysis.specs.Sums.{correlation}
use Rattle.celt_analysis.proofs.PlaceLemmas.{put-start, put-more}
use Rattle.celt_analysis.proofs.karatsuba.correlate_short.Goals as goal

pub loop-t-init : goal.loop-t-init
loop-t-init c = put-start (λ k. int_wrap w32 (correlation (item c.args.s.now) (item c.args.s.now) (c.args.at + k) c.args.from 64)) c.args.out.now c.args.to

pub loop-t-preserved : goal.loop-t-preserved
loop-t-preserved c =
    let fr : FitsSigned w32 c.sixty_four.result = search rules in
    simp to_z-of_z (put-more (λ k. int_wrap w32 (correlation (item c.args.s.now) (item c.args.s.now) (c.args.at + k) c.args.from 64)) c.args.out.now c.loop-t.out c.args.to c.loop-t.t c.sixty_four.result (omega (arith, c.requires.room)) c.sixty_four.ensures c.loop-t.invariant)
