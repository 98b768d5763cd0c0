use Rattle.std.proofs.Common.{◌≡◌, ℕ, ◌<◌, arith, rules, ap, ◌∙◌, get_or}
use Rattle.std.specs.Prelude.{pos, ◌-ℤ◌, FitsSigned}
use Rattle.std.specs.Int.{w64}
use Rattle.std.proofs.lemmas.Int.{to_z-of_z}
use Rattle.std.proofs.lemmas.List.{get_or_default, length-set}
use Rattle.fixed_math.specs.Items.{item}
use Rattle.rate_change.specs.Resampling.{weight, weight_at}
use Rattle.rate_change.proofs.WeightLemmas.{distance_near, distance_apart, place_low, place_high, put_weight}
use Rattle.rate_change.proofs.sums.weights_of.Goals as goal

pub weight_of-requires-clause-near : goal.weight_of-requires-clause-near
weight_of-requires-clause-near c =
    let t : ℕ = c.loop-t.t in
    let d = c.distance_to.ensures in
    let l : t < 32 = omega arith in
    rw d.parts (rw d.up (distance_near c.args.up c.args.f (pos t -ℤ pos 15) c.requires.some c.requires.part (place_low t) (place_high t l)))

pub weight_of-requires-clause-apart : goal.weight_of-requires-clause-apart
weight_of-requires-clause-apart c =
    rw c.distance_to.ensures.parts (distance_apart c.args.up c.args.f (pos c.loop-t.t -ℤ pos 15) c.requires.some c.requires.part)

pub loop-t-preserved : goal.loop-t-preserved
loop-t-preserved c =
    let t : ℕ = c.loop-t.t in
    let d = c.distance_to.ensures in
    let f : FitsSigned w64 c.weight_of.result = search rules in
    let e : c.weight_of.result ≡ weight c.args.up c.args.f (pos t -ℤ pos 15) = c.weight_of.ensures.value ∙ ap (λ u. weight_at u c.distance_to.result.parts) d.up ∙ ap (weight_at c.args.up) d.parts in
    let long = c.loop-t.invariant.0 in
    simp to_z-of_z (length-set c.loop-t.weights t c.weight_of.result ∙ long, put_weight c.loop-t.weights t c.args.up c.args.f c.weight_of.result (omega arith) e c.weight_of.ensures.size c.loop-t.invariant.1)

pub returns-clause-small : goal.returns-clause-small
returns-clause-small c = λ k d l.
    let e : get_or c.loop-t.weights k d ≡ item c.loop-t.weights k = get_or_default c.loop-t.weights k d (pos 0) l in
    let long = c.loop-t.invariant.0 in
    let all = c.loop-t-test.false in
    rw e (c.loop-t.invariant.1 k (omega arith)).1
