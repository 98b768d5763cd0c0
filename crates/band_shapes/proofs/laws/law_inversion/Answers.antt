use Rattle.std.proofs.Common.{◌*◌, ◌^◌, ap}
use Rattle.band_shapes.specs.Frames.{Line, padded, shapes_of}
use Rattle.band_shapes.proofs.InversionLemmas.{bands_alike}
use Rattle.band_shapes.proofs.laws.law_inversion.Goals as goal

pub returns-clause-left : goal.returns-clause-left
unfolding shapes_of
returns-clause-left c = λ kind s a b seed. ap (λ (l : Line). padded (100 * 2 ^ kind.lm) l.vector) (bands_alike kind s a b seed kind.end).left

pub returns-clause-left_masks : goal.returns-clause-left_masks
unfolding shapes_of
returns-clause-left_masks c = λ kind s a b seed. ap (λ (l : Line). l.masks) (bands_alike kind s a b seed kind.end).left

pub returns-clause-right_masks : goal.returns-clause-right_masks
unfolding shapes_of
returns-clause-right_masks c = λ kind s a b seed. (bands_alike kind s a b seed kind.end).masks

pub returns-clause-seed : goal.returns-clause-seed
unfolding shapes_of
returns-clause-seed c = λ kind s a b seed. (bands_alike kind s a b seed kind.end).seed
