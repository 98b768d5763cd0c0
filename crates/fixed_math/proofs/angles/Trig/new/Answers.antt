use Rattle.std.proofs.Common.{◌≡◌, arith, ◌∙◌, rules, length-set}
use Rattle.std.specs.Prelude.{pos}
use Rattle.fixed_math.specs.Circle.{quarter_cosine}
use Rattle.fixed_math.proofs.AngleLemmas.{point-start, small_here, point-next, quarter_entry}
use Rattle.fixed_math.proofs.TableLemmas.{put_more}
use Rattle.fixed_math.proofs.angles.Trig.new.Goals as goal

pub loop-a-init : goal.loop-a-init
loop-a-init c = record { here = point-start; done = λ k p. absurd (omega arith); room = search rules }

pub cosine_of-requires-clause-low : goal.cosine_of-requires-clause-low
cosine_of-requires-clause-low c = (small_here c.loop-a.p c.loop-a.a c.loop-a.invariant.here (omega arith)).x

pub cosine_of-requires-clause-high : goal.cosine_of-requires-clause-high
cosine_of-requires-clause-high c = (small_here c.loop-a.p c.loop-a.a c.loop-a.invariant.here (omega arith)).cosine_low

pub next_point-p-requires-clause-x_size : goal.next_point-p-requires-clause-x_size
next_point-p-requires-clause-x_size c = (small_here c.loop-a.p c.loop-a.a c.loop-a.invariant.here (omega arith)).x

pub next_point-p-requires-clause-y_size : goal.next_point-p-requires-clause-y_size
next_point-p-requires-clause-y_size c = (small_here c.loop-a.p c.loop-a.a c.loop-a.invariant.here (omega arith)).y

pub loop-a-preserved : goal.loop-a-preserved
loop-a-preserved c =
    let i = c.loop-a.invariant in
    record {
      room = simp length-set i.room;
      here = c.next_point-p.ensures ∙ point-next c.loop-a.p c.loop-a.a i.here;
      done = put_more (λ k n. pos n ≡ quarter_cosine k) c.loop-a.cosines c.loop-a.a c.cosine_of.result (omega arith) i.done (quarter_entry c.loop-a.p c.loop-a.a c.cosine_of.result i.here c.cosine_of.ensures);
    }
