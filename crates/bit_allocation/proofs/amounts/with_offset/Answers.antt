use Rattle.std.proofs.Common.{◌≡◌, arith, ◌∙◌, ap}
use Rattle.std.specs.Prelude.{pos, ◌+ℤ◌, ◌<ℤ◌, ◌≤ℤ◌, unsigned_abs}
use Rattle.std.specs.Int.{w32, cast_signed as to_z, cast_unsigned as of_z}
use Rattle.std.proofs.lemmas.Int.{ints}
use Rattle.bit_allocation.proofs.AmountLemmas.{with_none, with_some, raised_low, raised_high}
use Rattle.bit_allocation.proofs.amounts.with_offset.Goals as goal

pub returns-then-amount-eq0-clause-value : goal.returns-then-amount-eq0-clause-value
returns-then-amount-eq0-clause-value c = with_none c.args.offset c.args.amount c.if-amount-eq0.true

pub returns-then-sum-lt0-clause-value : goal.returns-then-sum-lt0-clause-value
returns-then-sum-lt0-clause-value c =
    let low : (pos c.args.amount +ℤ c.args.offset) <ℤ pos 0 = grind (arith, ints, c.if-sum-lt0.true, c.requires.offset, c.requires.amount) in
    raised_low (pos c.args.amount +ℤ c.args.offset) low ∙ with_some c.args.offset c.args.amount c.if-amount-eq0.false

pub returns-else-sum-lt0-clause-value : goal.returns-else-sum-lt0-clause-value
returns-else-sum-lt0-clause-value c =
    let high : pos 0 ≤ℤ (pos c.args.amount +ℤ c.args.offset) = grind (arith, ints, c.if-sum-lt0.false, c.requires.offset, c.requires.amount) in
    let same : to_z w32 (of_z w32 (to_z w32 c.args.amount +ℤ to_z w32 (of_z w32 c.args.offset))) ≡ pos c.args.amount +ℤ c.args.offset = omega (arith, ints, c.requires.offset, c.requires.amount) in
    ap unsigned_abs same ∙ raised_high (pos c.args.amount +ℤ c.args.offset) high ∙ with_some c.args.offset c.args.amount c.if-amount-eq0.false
