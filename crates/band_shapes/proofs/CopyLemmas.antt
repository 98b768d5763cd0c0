-- Copies of shapes.
use Rattle.std.proofs.Common.{◌≡◌, ℕ, ◌*◌, ◌^◌, ◌<◌, ◌≤◌, sym, subst, arith, refl, ap, ◌∙◌, List, length, get_or, ◌∷◌, [], Bool, true, false}
use Rattle.std.specs.Prelude.{ℤ, pos, neg_ℤ, unsigned_abs, All, map, if◌then◌else◌}
use Rattle.std.proofs.lemmas.List.{length-map, get_or-map, get_or_default}
use Rattle.fixed_math.specs.Root as X
use Rattle.fixed_math.specs.Root.{root, IsRoot}
use Rattle.fixed_math.specs.Bitexact.{product}
use Rattle.fixed_math.specs.Items.{item}
use Rattle.fixed_math.proofs.ItemLemmas.{same_items}
use Rattle.fixed_math.proofs.RootLemmas.{root_small, root-is}
use Rattle.fixed_math.proofs.RoundingLemmas.{product_rounded}
use Rattle.band_shapes.specs.Bands.{sign_of}
use Rattle.band_shapes.specs.Channels.{copied}

pub root_below : (n : ℕ) → n ≤ 176 → root (n * 2 ^ 22) ≤ 2 ^ 15
root_below n h = omega (arith, root_small (n * 2 ^ 22) (root (n * 2 ^ 22)) 32768 (omega arith) (root-is (n * 2 ^ 22) (omega arith)).low)

pub copy_end : (xs out : List ℤ) (f : ℕ) → length out ≡ length xs → f ≡ root (length xs * 2 ^ 22) → ((p : ℕ) → p < length xs → item out p ≡ product (pos f) (item xs p)) → out ≡ copied xs
unfolding copied
copy_end xs out f l e h =
    let g : ℤ → ℤ = product (pos (root (length xs * 2 ^ 22))) in
    same_items out (map g xs) (l ∙ sym (length-map xs g))
    (λ p q.
    let r : p < length xs = omega arith in
    h p r ∙ (ap (λ z. product (pos z) (item xs p)) e ∙ sym (get_or-map g xs p (pos 0) (pos 0) r)))

pub copy_size : (xs out : List ℤ) (f : ℕ) → length out ≡ length xs → f ≤ 2 ^ 15 → All (λ v. unsigned_abs v < 2 ^ 19) xs → ((p : ℕ) → p < length xs → item out p ≡ product (pos f) (item xs p)) → All (λ v. unsigned_abs v ≤ 2 ^ 19) out
copy_size xs out f l s a h k d q =
    let r : k < length xs = omega arith in
    let e : get_or out k d ≡ product (pos f) (item xs k) = get_or_default out k d (pos 0) q ∙ h k r in
    subst (λ v. unsigned_abs v ≤ 2 ^ 19) (sym e) (product_rounded (pos f) (item xs k) 15 (2 ^ 15) (2 ^ 19) (2 ^ 19) (omega arith) s (omega (arith, a k (pos 0) r)) (omega arith))

pub copy_sign : (negative : Bool) → copied (sign_of negative ∷ []) ≡ (if negative then neg_ℤ (pos 1024) else pos 1024) ∷ []
unfolding copied sign_of root X.root_by
copy_sign true = refl
copy_sign false = refl
