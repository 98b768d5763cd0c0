use Rattle.std.proofs.Common.{◌∙◌, sym, ◌+◌, ◌*◌, inl, inr, subst, slice_index, arith}
use Rattle.std.proofs.lemmas.Bool.Decides.{nat_tests}
use Rattle.celt_cli.proofs.Digits.{Counted, not_digit, one_counted, other_found, all_counted, in_length}
use Rattle.celt_cli.proofs.words.number.Goals as goal
use Rattle.celt_cli.proofs.words.number.Goals.{then-code-lt48-via-then-code-lt48, then-code-lt48-via-else-code-lt48+then-code-gt57}

pub returns-then-code-lt48 : goal.returns-then-code-lt48
returns-then-code-lt48 c =
    let text = c.args.text.now in
    let next = c.loop-next.next in
    sym (in_length text (grind (arith, nat_tests)) c.loop-next.invariant.short
    ∙ other_found text next c.loop-next.number c.loop-next.invariant (grind (arith, nat_tests))
    (elim c.then-code-lt48.branch [
      | then-code-lt48-via-then-code-lt48 w ↦ not_digit (slice_index text next) (inl w.if-code-lt48.true)
      | then-code-lt48-via-else-code-lt48+then-code-gt57 w ↦ not_digit (slice_index text next) (inr w.if-code-gt57.true)
    ]))

pub loop-next-preserved : goal.loop-next-preserved
loop-next-preserved c =
    let text = c.args.text.now in
    let next = c.loop-next.next in
    subst (λ n. Counted text (next + 1) (10 * c.loop-next.number + n)) (sym c.from.ensures)
    (one_counted text next c.loop-next.number c.loop-next.invariant (grind (arith, nat_tests)) c.if-code-lt48.false c.if-code-gt57.false)

pub returns : goal.returns
returns c =
    let text = c.args.text.now in
    sym (in_length text (grind (arith, nat_tests)) c.loop-next.invariant.short
    ∙ all_counted text c.loop-next.next c.loop-next.number c.loop-next.invariant (grind (arith, nat_tests)))
