use Rattle.std.proofs.Common.{◌+◌, sym, subst, ap, ◌∙◌, arith, [], ◌∷◌, ◌++◌}
use Rattle.std.specs.Prelude.{Some}
use Rattle.std.proofs.lemmas.Option.{none-some}
use Rattle.rate_reservoir.specs.Runs.{IsBrokenAt}
use Rattle.rate_reservoir.proofs.RunLemmas.{length-more, none_of, some_of, excess_next, broken_kept, broken_now, broken_before}
use Rattle.rate_reservoir.proofs.budget.Budget.note.Goals as goal

pub returns-then-excess-from-clause-longer : goal.returns-then-excess-from-clause-longer
returns-then-excess-from-clause-longer c = λ bytes most lengths h.
    let x = c.args.len in
    let none = none_of _ _ c.is_none.ensures c.if-is_none.true in
    let excess = excess_next bytes lengths x _ _ _ h.bytes_is c.excess_with-excess.ensures (h.excess_is none) in
    let most_is = h.most_is in
    let old = subst (IsBrokenAt bytes most lengths) none h.broken_is in
    let long = length-more lengths x in
    record {
      bytes_is = h.bytes_is;
      most_is = h.most_is;
      frames_is = ap (λ n. n + 1) h.frames_is ∙ sym long;
      broken_is = subst (IsBrokenAt bytes most (lengths ++ x ∷ [])) (sym none) (broken_kept bytes most lengths x _ old excess (omega arith));
      excess_is = λ _. excess;
    }

pub returns-else-excess-from-clause-longer : goal.returns-else-excess-from-clause-longer
returns-else-excess-from-clause-longer c = λ bytes most lengths h.
    let x = c.args.len in
    let none = none_of _ _ c.is_none.ensures c.if-is_none.true in
    let excess = excess_next bytes lengths x _ _ _ h.bytes_is c.excess_with-excess.ensures (h.excess_is none) in
    let most_is = h.most_is in
    let old = subst (IsBrokenAt bytes most lengths) none h.broken_is in
    let long = length-more lengths x in
    record {
      bytes_is = h.bytes_is;
      most_is = h.most_is;
      frames_is = ap (λ n. n + 1) h.frames_is ∙ sym long;
      broken_is = subst (λ f. IsBrokenAt bytes most (lengths ++ x ∷ []) (Some f)) (sym h.frames_is) (broken_now bytes most lengths x _ old excess (omega arith));
      excess_is = λ e. absurd (none-some _ (sym e));
    }

pub returns-else-is_none-clause-longer : goal.returns-else-is_none-clause-longer
returns-else-is_none-clause-longer c = λ bytes most lengths h.
    let x = c.args.len in
    let some = some_of _ _ c.is_none.ensures c.if-is_none.false in
    let old = subst (IsBrokenAt bytes most lengths) some.1 h.broken_is in
    let long = length-more lengths x in
    record {
      bytes_is = h.bytes_is;
      most_is = h.most_is;
      frames_is = ap (λ n. n + 1) h.frames_is ∙ sym long;
      broken_is = subst (IsBrokenAt bytes most (lengths ++ x ∷ [])) (sym some.1) (broken_before bytes most lengths x some.0 old);
      excess_is = λ e. absurd (none-some some.0 (sym e ∙ some.1));
    }
