use Rattle.std.proofs.Common.{◌≡◌, ◌+◌, ◌-◌, pos, negsuc, w64, to_z, refl, sym, ap, ◌∙◌, arith}
use Rattle.std.proofs.lemmas.Int.{to_z-of_z}
use Rattle.celt_base.specs.declared.question.Question.TheVariants.{Laplace}
use Rattle.range_coder.proofs.PlacesLemmas.{moved, minus_want, plus_want, zero_is, minus_is, plus_is, past_next, before}
use Rattle.range_coder.proofs.places.laplace_choice.Goals as goal

pub returns-then-want-eq0-clause-choice : goal.returns-then-want-eq0-clause-choice
returns-then-want-eq0-clause-choice c =
    let zero : c.args.want ≡ pos 0 = sym (to_z-of_z w64 c.args.want c.ranges.want) ∙ ap (to_z w64) c.if-want-eq0.true in
    let q = Laplace c.args.fs c.args.decay in
    moved q (pos 0) c.args.want c.choice_of.result.answer c.choice_of.result.answer _ zero refl
    (c.choice_of.ensures.choice q (pos 0) (zero_is c.args.fs c.args.decay c.requires.valid))

pub returns-then-want-lt0-clause-choice : goal.returns-then-want-lt0-clause-choice
returns-then-want-lt0-clause-choice c =
    let sides = c.sides_up_to-sides.result in
    let is = c.sides_up_to-sides.ensures in
    let size = c.unsigned_abs.result in
    let within = is.within in
    let q = Laplace c.args.fs c.args.decay in
    moved q (negsuc (size - 1)) c.args.want (negsuc sides.smaller) c.minus_choice.result.answer _ (minus_want c.args.want size c.ranges.want c.if-want-lt0.true c.unsigned_abs.ensures.value) c.minus_choice.ensures.answer
    (minus_is c.args.fs c.args.decay sides.smaller sides.from sides.spread (size - 1) _ _ _ is.from is.spread is.inside (omega arith)
    (λ less. is.last (omega arith)) c.minus_choice.ensures.from c.minus_choice.ensures.to c.minus_choice.ensures.total)

pub returns-then-sides-lt32768-clause-choice : goal.returns-then-sides-lt32768-clause-choice
returns-then-sides-lt32768-clause-choice c =
    let sides = c.sides_up_to-sides.result in
    let is = c.sides_up_to-sides.ensures in
    let size = c.unsigned_abs.result in
    let q = Laplace c.args.fs c.args.decay in
    moved q (pos size) c.args.want (pos (sides.smaller + 1)) c.plus_choice.result.answer _ (plus_want c.args.want size c.ranges.want c.if-want-lt0.false c.unsigned_abs.ensures.value) c.plus_choice.ensures.answer
    (plus_is c.args.fs c.args.decay sides.smaller sides.from sides.spread size _ _ _ is.from is.spread c.if-sides-lt32768.true is.within
    (λ less. past_next c.args.fs c.args.decay sides.smaller sides.from sides.spread is.from is.spread (is.last less))
    c.plus_choice.ensures.from c.plus_choice.ensures.to c.plus_choice.ensures.total)

pub returns-else-sides-lt32768-clause-choice : goal.returns-else-sides-lt32768-clause-choice
returns-else-sides-lt32768-clause-choice c =
    let sides = c.sides_up_to-sides.result in
    let is = c.sides_up_to-sides.ensures in
    let lower = c.sides_up_to.result in
    let has = c.sides_up_to.ensures in
    let cut = c.if-sides-lt32768.false in
    let less = has.within in
    let same = c.from.ensures in
    let within = is.within in
    let is_before = before c.args.fs c.args.decay sides.smaller sides.from sides.spread lower.smaller lower.from lower.spread is.from is.spread is.inside (omega arith)
    has.from has.spread (omega arith) (λ more. has.last (omega arith)) in
    let next = is_before.next in
    let size = c.unsigned_abs.result in
    let q = Laplace c.args.fs c.args.decay in
    moved q (pos size) c.args.want (pos (lower.smaller + 1)) c.plus_choice-else-sides-lt32768.result.answer _ (plus_want c.args.want size c.ranges.want c.if-want-lt0.false c.unsigned_abs.ensures.value) c.plus_choice-else-sides-lt32768.ensures.answer
    (plus_is c.args.fs c.args.decay lower.smaller lower.from lower.spread size _ _ _ has.from has.spread is_before.inside (omega arith)
    (λ less. is_before.last)
    c.plus_choice-else-sides-lt32768.ensures.from c.plus_choice-else-sides-lt32768.ensures.to c.plus_choice-else-sides-lt32768.ensures.total)

pub returns-else-sides-lt32768-clause-some : goal.returns-else-sides-lt32768-clause-some
returns-else-sides-lt32768-clause-some c =
    let sides = c.sides_up_to-sides.result in
    let is = c.sides_up_to-sides.ensures in
    let lower = c.sides_up_to.result in
    let has = c.sides_up_to.ensures in
    let cut = c.if-sides-lt32768.false in
    let less = has.within in
    let same = c.from.ensures in
    let is_before = before c.args.fs c.args.decay sides.smaller sides.from sides.spread lower.smaller lower.from lower.spread is.from is.spread is.inside (omega arith)
    has.from has.spread (omega arith) (λ more. has.last (omega arith)) in
    let inside = is_before.inside in
    let begins = c.plus_choice-else-sides-lt32768.ensures.from in
    let ends = c.plus_choice-else-sides-lt32768.ensures.to in
    omega arith
