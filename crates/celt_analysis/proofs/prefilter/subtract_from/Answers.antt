use Rattle.std.proofs.Common.{◌≡◌, ◌∙◌, ℕ, ◌+◌, ◌^◌, ◌≤◌, arith, List, length}
use Rattle.std.specs.Prelude.{ℤ, ◌-ℤ◌, FitsSigned}
use Rattle.std.specs.Int.{w64}
use Rattle.std.proofs.lemmas.Int.{to_z-of_z}
use Rattle.fixed_math.specs.Items.{item}
use Rattle.post_filter.specs.Comb.{term}
use Rattle.celt_analysis.specs.Signals.{filtered_from}
use Rattle.celt_analysis.proofs.FillLemmas.{filled_next, filled_list, filled_sizes}
use Rattle.celt_analysis.proofs.SignalLemmas.{filtered_is}
use Rattle.celt_analysis.proofs.prefilter.subtract_from.Goals as goal

pub loop-t-preserved : goal.loop-t-preserved
loop-t-preserved c =
    let p : List ℤ = c.args.p.now in
    let at : ℕ = c.args.at in
    let t : ℕ = c.loop-t.t in
    let r : ℤ = c.subtract.result in
    let fr : FitsSigned w64 r = record { sfits = c.subtract.type_inv } in
    let e : r ≡ item p (at + t) -ℤ term c.args.from c.args.to (c.args.fade + t) p (at + t) = c.subtract.ensures.value in
    let start : 1024 ≤ at + t = omega (arith, c.requires.start) in
    let same = e ∙ filtered_is c.args.from c.args.to (c.args.fade + t) p (at + t) start in
    simp to_z-of_z (filled_next (filtered_from c.args.from c.args.to c.args.fade (item p) at) (2 ^ 29) t c.loop-t.out r (omega (arith, c.loop-t-test.true, c.loop-t.auto.out, c.loop-t.auto.t-end)) same c.subtract.ensures.size c.loop-t.invariant)

pub returns-clause-value : goal.returns-clause-value
returns-clause-value c =
    filled_list (filtered_from c.args.from c.args.to c.args.fade (item c.args.p.now) c.args.at) (2 ^ 29) c.loop-t.t (length c.args.out.now) c.loop-t.out (omega (arith, c.loop-t.auto.out)) (omega (arith, c.loop-t-test.false)) c.loop-t.invariant

pub returns-clause-sizes : goal.returns-clause-sizes
returns-clause-sizes c =
    filled_sizes (filtered_from c.args.from c.args.to c.args.fade (item c.args.p.now) c.args.at) (2 ^ 29) c.loop-t.t c.loop-t.out (omega (arith, c.loop-t.auto.out, c.loop-t-test.false)) c.loop-t.invariant
