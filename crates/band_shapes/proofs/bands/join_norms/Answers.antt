use Rattle.std.proofs.Common.{◌≤◌, ◌^◌, ◌∙◌, sym, subst}
use Rattle.std.specs.Prelude.{All, unsigned_abs}
use Rattle.band_shapes.proofs.BandLemmas.{joined_yes, joined_no, means_by}
use Rattle.band_shapes.proofs.PairLemmas.{front_is}
use Rattle.band_shapes.proofs.bands.join_norms.Goals as goal

pub mean_of-requires-clause-left : goal.mean_of-requires-clause-left
mean_of-requires-clause-left c = subst (All (λ v. unsigned_abs v ≤ 2 ^ 19)) (sym c.split_at_mut-here.ensures.front) c.requires.left_size

pub mean_of-requires-clause-right : goal.mean_of-requires-clause-right
mean_of-requires-clause-right c = subst (All (λ v. unsigned_abs v ≤ 2 ^ 19)) (sym c.split_at.ensures.front) c.requires.right_size

pub returns-then-now-clause-value : goal.returns-then-now-clause-value
returns-then-now-clause-value c =
    front_is c.args.count c.mean_of.new.left _ (c.mean_of.auto.left ∙ c.split_at_mut-here.ensures.front_len)
    ∙ (c.mean_of.ensures.value ∙ (means_by _ _ _ _ c.split_at_mut-here.ensures.front c.split_at.ensures.front ∙ joined_yes c.args.now _ _ c.if-now.true))

pub returns-then-now-clause-size : goal.returns-then-now-clause-size
returns-then-now-clause-size c = subst (All (λ v. unsigned_abs v ≤ 2 ^ 19)) (sym (front_is c.args.count c.mean_of.new.left _ (c.mean_of.auto.left ∙ c.split_at_mut-here.ensures.front_len))) c.mean_of.ensures.size

pub returns-else-now-clause-value : goal.returns-else-now-clause-value
returns-else-now-clause-value c = joined_no c.args.now _ _ c.if-now.false
