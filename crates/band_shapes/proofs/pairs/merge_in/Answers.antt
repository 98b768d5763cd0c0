use Rattle.std.proofs.Common.{◌<◌, ◌^◌, ◌∙◌, sym, subst, arith}
use Rattle.std.specs.Prelude.{pos, ◌≤ℤ◌, All, unsigned_abs, FitsSigned, true, false}
use Rattle.std.specs.Int.{w64}
use Rattle.std.proofs.lemmas.Int.{to_z-of_z, ints, fits_signed_from_abs}
use Rattle.band_shapes.proofs.PairLemmas.{front_is, all_wider, merged_by}
use Rattle.band_shapes.proofs.pairs.merge_in.Goals as goal

pub merge-requires-clause-mid_low : goal.merge-requires-clause-mid_low
merge-requires-clause-mid_low c =
    let f : FitsSigned w64 c.middle_of.result = fits_signed_from_abs w64 c.middle_of.result (omega (arith, ints, c.middle_of.ensures.low, c.middle_of.ensures.high)) in
    let e = to_z-of_z w64 c.middle_of.result f in
    rw e c.middle_of.ensures.low

pub merge-requires-clause-mid_high : goal.merge-requires-clause-mid_high
merge-requires-clause-mid_high c =
    let f : FitsSigned w64 c.middle_of.result = fits_signed_from_abs w64 c.middle_of.result (omega (arith, ints, c.middle_of.ensures.low, c.middle_of.ensures.high)) in
    let e = to_z-of_z w64 c.middle_of.result f in
    rw e c.middle_of.ensures.high

pub merge-requires-clause-middle : goal.merge-requires-clause-middle
merge-requires-clause-middle c = all_wider c.split_at_mut-left.result.0.now (subst (All (λ v. unsigned_abs v < 2 ^ 19)) (sym c.split_at_mut-left.ensures.front) c.requires.middle)

pub merge-requires-clause-side : goal.merge-requires-clause-side
merge-requires-clause-side c = all_wider c.split_at_mut-right.result.0.now (subst (All (λ v. unsigned_abs v < 2 ^ 19)) (sym c.split_at_mut-right.ensures.front) c.requires.side)

pub returns-clause-left : goal.returns-clause-left
returns-clause-left c =
    let f : FitsSigned w64 c.middle_of.result = fits_signed_from_abs w64 c.middle_of.result (omega (arith, ints, c.middle_of.ensures.low, c.middle_of.ensures.high)) in
    let e = to_z-of_z w64 c.middle_of.result f ∙ c.middle_of.ensures.value in
    front_is c.args.n c.merge.new.x _ (c.merge.auto.x ∙ c.split_at_mut-left.ensures.front_len) ∙ (c.merge.ensures.left ∙ merged_by _ _ false _ _ _ _ e c.split_at_mut-left.ensures.front c.split_at_mut-right.ensures.front)

pub returns-clause-right : goal.returns-clause-right
returns-clause-right c =
    let f : FitsSigned w64 c.middle_of.result = fits_signed_from_abs w64 c.middle_of.result (omega (arith, ints, c.middle_of.ensures.low, c.middle_of.ensures.high)) in
    let e = to_z-of_z w64 c.middle_of.result f ∙ c.middle_of.ensures.value in
    front_is c.args.n c.merge.new.y _ (c.merge.auto.y ∙ c.split_at_mut-right.ensures.front_len) ∙ (c.merge.ensures.right ∙ merged_by _ _ true _ _ _ _ e c.split_at_mut-left.ensures.front c.split_at_mut-right.ensures.front)

pub returns-clause-low : goal.returns-clause-low
returns-clause-low c = subst (λ z. pos 0 ≤ℤ z) c.middle_of.ensures.value c.middle_of.ensures.low

pub returns-clause-high : goal.returns-clause-high
returns-clause-high c = subst (λ z. z ≤ℤ pos 32767) c.middle_of.ensures.value c.middle_of.ensures.high
