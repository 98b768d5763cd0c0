use Rattle.std.proofs.Common.{◌≡◌, ◌+◌, arith, rules, subst, ap, ◌∙◌, to_z, of_z}
use Rattle.std.specs.Prelude.{ℤ, FitsSigned}
use Rattle.std.specs.Int.{w16}
use Rattle.std.proofs.lemmas.Int.{to_z-of_z}
use Rattle.celt_cli.specs.GenPairs.{GavePairs}
use Rattle.celt_cli.proofs.PutPairs.{next_put}
use Rattle.celt_cli.proofs.windows.put_pairs.Goals as goal

pub loop-k-preserved : goal.loop-k-preserved
loop-k-preserved c =
    let fl : FitsSigned w16 c.next-left.result.0 = search rules in
    let fr : FitsSigned w16 c.next-left.result.1 = search rules in
    next_put c.args.items.now c.loop-k.items c.args.pairs.now c.loop-k.pairs c.next-left.new.self c.loop-k.k
    (to_z w16 (of_z w16 c.next-left.result.0)) (to_z w16 (of_z w16 c.next-left.result.1)) (omega arith) c.loop-k.invariant
    (λ settings count h. to_z-of_z w16 c.next-left.result.0 fl ∙ ap (λ (p : ℤ × ℤ). p.0) (c.next-left.ensures.pair settings count h))
    (λ settings count h. to_z-of_z w16 c.next-left.result.1 fr ∙ ap (λ (p : ℤ × ℤ). p.1) (c.next-left.ensures.pair settings count h))
    c.next-left.ensures.gave

pub returns-clause-left : goal.returns-clause-left
returns-clause-left c = λ settings count h k less. c.loop-k.invariant.left settings count h k (omega arith)

pub returns-clause-right : goal.returns-clause-right
returns-clause-right c = λ settings count h k less. c.loop-k.invariant.right settings count h k (omega arith)

pub returns-clause-gave : goal.returns-clause-gave
returns-clause-gave c = λ settings count h.
    let e : count + c.loop-k.k ≡ count + 960 = omega arith in
    subst (λ n. GavePairs settings n c.loop-k.pairs) e (c.loop-k.invariant.gave settings count h)
