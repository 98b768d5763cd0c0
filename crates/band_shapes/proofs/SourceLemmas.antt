-- Where every leaf has pulses, the source is not read.
use Rattle.std.proofs.Common.{◌≡◌, ℕ, ◌/◌, sym, refl, ap, ◌∙◌, List, take, drop, Bool, true, false}
use Rattle.std.specs.Prelude.{ℤ, ◌||◌, if◌then◌else◌}
use Rattle.std.proofs.lemmas.Bool.{false≢true}
use Rattle.band_shapes.specs.declared.node.Wish.{Wish}
use Rattle.band_shapes.specs.Tree.{Part, Leaf, Split}
use Rattle.band_shapes.specs.Parts.{Shape, silent_shape, pulse_shape, leaf_shape, joined, in_turn, first_wish, second_wish, part_shape, has_silent}

joined_same : (b : ℕ) (p q r s : Shape) (u v : ℕ) → p ≡ q → r ≡ s → u ≡ v → joined b p r u ≡ joined b q s v
joined_same b p q r s u v e f g = rw e (rw f (rw g refl))

turn_same : (b : Bool) (blocks : ℕ) (f h g k : ℕ → Shape) (s : ℕ) → ((t : ℕ) → f t ≡ h t) → ((t : ℕ) → g t ≡ k t) → in_turn b blocks f g s ≡ in_turn b blocks h k s
unfolding in_turn
turn_same true blocks f h g k s p q =
    let e : f (g s).seed ≡ h (k s).seed = p (g s).seed ∙ ap (λ z. h z.seed) (q s) in
    joined_same blocks (f (g s).seed) (h (k s).seed) (g s) (k s) _ _ e (q s) (ap (λ z. z.seed) e)
turn_same false blocks f h g k s p q =
    let e : g (f s).seed ≡ k (h s).seed = q (f s).seed ∙ ap (λ z. k z.seed) (p s) in
    joined_same blocks (f s) (h s) (g (f s).seed) (k (h s).seed) _ _ (p s) e (ap (λ z. z.seed) e)

or_left : (a b : Bool) → (a || b) ≡ false → a ≡ false
or_left true b e = e
or_left false b e = refl

or_right : (a b : Bool) → (a || b) ≡ false → b ≡ false
or_right true b e = absurd (false≢true (sym e))
or_right false b e = e

pub source_unread : (spread n : ℕ) (p : Part) (xs ys : List ℤ) (w : Wish) (s : ℕ) → has_silent p ≡ false → part_shape spread n p xs w s ≡ part_shape spread n p ys w s
unfolding part_shape has_silent leaf_shape
source_unread spread n (Leaf k index) xs ys w s e =
    ap (λ b. if b then silent_shape n xs w s else pulse_shape spread n k index w s) e ∙ sym (ap (λ b. if b then silent_shape n ys w s else pulse_shape spread n k index w s) e)
source_unread spread n (Split cut first second) xs ys w s e =
    turn_same cut.second_first w.blocks _ _ _ _ s
    (λ t. source_unread spread (n / 2) first (take (n / 2) xs) (take (n / 2) ys) (first_wish cut.theta w) t (or_left (has_silent first) (has_silent second) e))
    (λ t. source_unread spread (n / 2) second (drop (n / 2) xs) (drop (n / 2) ys) (second_wish cut.theta w) t (or_right (has_silent first) (has_silent second) e))
