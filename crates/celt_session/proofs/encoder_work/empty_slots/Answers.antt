use Rattle.std.proofs.Common.{◌≡◌, true, ◌+◌, ◌++◌, [], ◌∷◌, subst, sym, ◌∙◌, arith}
use Rattle.std.specs.Result.{is_ok}
use Rattle.std.proofs.lemmas.Bool.{cond-true}
use Rattle.celt_session.proofs.EncoderWorkSteps.{Emptied, emptied_more}
use Rattle.celt_session.proofs.encoder_work.empty_slots.Goals as goal

pub loop-i-preserved : goal.loop-i-preserved
loop-i-preserved c =
    let ok : is_ok c.push.result ≡ true = grind (arith, c.is_err.ensures.negation, c.if-is_err.false) in
    let more = c.loop-i.slots.items ++ c.in-Ok.slot ∷ [] in
    let is : c.push.new.self.items ≡ more = c.push.ensures.items ∙ cond-true (is_ok c.push.result) more c.loop-i.slots.items ok in
    subst (λ xs. Emptied c.args.kind xs (c.loop-i.i + 1)) (sym is) (emptied_more c.args.kind c.loop-i.slots.items c.in-Ok.slot c.loop-i.i c.in-Ok.ensures c.loop-i.invariant)
