-- What a room keeps of a frame.
use Rattle.std.proofs.Common.{◌≡◌, ℕ, zero, suc, ◌-◌, ◌*◌, ◌^◌, ◌<◌, ◌≤◌, sym, subst, arith, refl, ap, ◌∙◌, List, [], ◌∷◌, ◌++◌, length, take, length-take, Bool}
use Rattle.std.specs.Prelude.{ℤ, pos, unsigned_abs, All, replicate, slice_set}
use Rattle.std.proofs.lemmas.Nat.{mul-le}
use Rattle.std.proofs.lemmas.List.Elements.{All-append}
use Rattle.celt_base.specs.declared.kind.Kind.{Kind}
use Rattle.celt_tables.specs.Tables.{edge_of}
use Rattle.band_shapes.specs.declared.bands.Lines.{Lines}
use Rattle.band_shapes.specs.declared.bands.Walked.{Walked}
use Rattle.band_shapes.specs.Frames.{Symbols, Line, Sofar, padded, start_of, sofar_of, line_of, bands_of, shapes_of}
use Rattle.band_shapes.proofs.PairLemmas.{zeros_small}
use Rattle.band_shapes.proofs.PlanLemmas.{edge_small}

take_zeros : (k n : ℕ) → k ≤ n → take k (replicate n (pos 0)) ≡ replicate k (pos 0)
take_zeros zero n h = refl
take_zeros (suc k) zero h = absurd (omega (arith, h))
take_zeros (suc k) (suc n) h = ap (λ z. pos 0 ∷ z) (take_zeros k n (omega (arith, h)))

take_append : (k : ℕ) (xs ys : List ℤ) → length xs ≤ k → take k (xs ++ ys) ≡ xs ++ take (k - length xs) ys
take_append k [] ys h = let e : k ≡ k - 0 = omega arith in ap (λ n. take n ys) e
take_append zero (x ∷ xs) ys h = absurd (omega (arith, h))
take_append (suc k) (x ∷ xs) ys h =
    let e : k - length xs ≡ suc k - length (x ∷ xs) = omega arith in
    ap (λ z. x ∷ z) (take_append k xs ys (omega (arith, h)) ∙ ap (λ n. xs ++ take n ys) e)

-- the first items of a line, with zeros behind them
pub kept : (size end : ℕ) (xs front zs : List ℤ) → end ≤ size → size ≤ length xs → front ≡ take end xs → zs ≡ replicate (length xs - end) (pos 0) → take size (front ++ zs) ≡ padded size (take end xs)
unfolding padded
kept size end xs front zs l m ef ez =
    let len : length (take end xs) ≡ end = omega (arith, length-take end xs, l, m) in
    let a : take size (front ++ zs) ≡ take size (take end xs ++ replicate (length xs - end) (pos 0)) = ap (λ z. take size (z ++ zs)) ef ∙ ap (λ z. take size (take end xs ++ z)) ez in
    let b = take_append size (take end xs) (replicate (length xs - end) (pos 0)) (omega (arith, len, l)) in
    let c = take_zeros (size - length (take end xs)) (length xs - end) (omega (arith, len, l, m)) in
    a ∙ (b ∙ ap (λ z. take end xs ++ z) c)

pub padded_small : (n m : ℕ) (xs : List ℤ) → 0 < m → All (λ v. unsigned_abs v < m) xs → All (λ v. unsigned_abs v < m) (padded n xs)
unfolding padded
padded_small n m xs some h = All-append (λ v. unsigned_abs v < m) xs (replicate (n - length xs) (pos 0)) h (zeros_small (n - length xs) m some)

pub size_is : (kind : Kind) → start_of kind 21 ≡ 100 * 2 ^ kind.lm
unfolding start_of
size_is kind = refl

pub pair_set : (xss : List (List ℕ)) (ls rs : List ℕ) → length xss ≡ 2 → slice_set (slice_set xss 0 ls) 1 rs ≡ ls ∷ rs ∷ []
pair_set [] ls rs e = absurd (omega (arith, e))
pair_set (x ∷ []) ls rs e = absurd (omega (arith, e))
pair_set (x ∷ (y ∷ [])) ls rs e = refl
pair_set (x ∷ (y ∷ (z ∷ zs))) ls rs e = absurd (omega (arith, e))

pub end_below : (kind : Kind) (j : ℕ) → j ≤ 21 → start_of kind j ≤ start_of kind 21
unfolding start_of
end_below kind j h = mul-le (edge_of j) (2 ^ kind.lm) 100 (2 ^ kind.lm) (edge_small j h) (omega arith)

left_of : (kind : Kind) (s : Symbols) (l : Lines) (w : Walked) → (sofar_of kind s kind.end l w).left ≡ line_of (start_of kind kind.end) l.left l.left_norm w.left
unfolding sofar_of
left_of kind s l w = refl

right_of : (kind : Kind) (s : Symbols) (l : Lines) (w : Walked) → (sofar_of kind s kind.end l w).right ≡ line_of (start_of kind kind.end) l.right l.right_norm w.right
unfolding sofar_of
right_of kind s l w = refl

seed_of : (kind : Kind) (s : Symbols) (l : Lines) (w : Walked) → (sofar_of kind s kind.end l w).seed ≡ w.seed
unfolding sofar_of
seed_of kind s l w = refl

-- what the walk leaves, as the definition has it
pub left_vector : (kind : Kind) (s : Symbols) (invert : Bool) (seed : ℕ) (l : Lines) (w : Walked) (n end : ℕ) → sofar_of kind s kind.end l w ≡ bands_of kind s invert seed kind.end → n ≡ start_of kind 21 → end ≡ start_of kind kind.end → padded n (take end l.left) ≡ (shapes_of kind s invert seed).left
unfolding shapes_of
left_vector kind s invert seed l w n end h en ee =
    ap (λ k. padded k (take end l.left)) (en ∙ size_is kind)
    ∙ (ap (λ k. padded (100 * 2 ^ kind.lm) (take k l.left)) ee
    ∙ ap (λ (z : Line). padded (100 * 2 ^ kind.lm) z.vector) (sym (left_of kind s l w) ∙ ap (λ (z : Sofar). z.left) h))

pub right_vector : (kind : Kind) (s : Symbols) (invert : Bool) (seed : ℕ) (l : Lines) (w : Walked) (n end : ℕ) → sofar_of kind s kind.end l w ≡ bands_of kind s invert seed kind.end → n ≡ start_of kind 21 → end ≡ start_of kind kind.end → padded n (take end l.right) ≡ (shapes_of kind s invert seed).right
unfolding shapes_of
right_vector kind s invert seed l w n end h en ee =
    ap (λ k. padded k (take end l.right)) (en ∙ size_is kind)
    ∙ (ap (λ k. padded (100 * 2 ^ kind.lm) (take k l.right)) ee
    ∙ ap (λ (z : Line). padded (100 * 2 ^ kind.lm) z.vector) (sym (right_of kind s l w) ∙ ap (λ (z : Sofar). z.right) h))

pub both_masks : (kind : Kind) (s : Symbols) (invert : Bool) (seed : ℕ) (l : Lines) (w : Walked) (xss : List (List ℕ)) → sofar_of kind s kind.end l w ≡ bands_of kind s invert seed kind.end → length xss ≡ 2
    → slice_set (slice_set xss 0 w.left) 1 w.right ≡ (shapes_of kind s invert seed).left_masks ∷ (shapes_of kind s invert seed).right_masks ∷ []
unfolding shapes_of
both_masks kind s invert seed l w xss h e =
    let a = ap (λ (z : Line). z.masks) (sym (left_of kind s l w) ∙ ap (λ (z : Sofar). z.left) h) in
    let b = ap (λ (z : Line). z.masks) (sym (right_of kind s l w) ∙ ap (λ (z : Sofar). z.right) h) in
    pair_set xss w.left w.right e ∙ (ap (λ (z : List ℕ). z ∷ w.right ∷ []) a ∙ ap (λ (z : List ℕ). (shapes_of kind s invert seed).left_masks ∷ z ∷ []) b)

pub last_seed : (kind : Kind) (s : Symbols) (invert : Bool) (seed : ℕ) (l : Lines) (w : Walked) → sofar_of kind s kind.end l w ≡ bands_of kind s invert seed kind.end → w.seed ≡ (shapes_of kind s invert seed).seed
unfolding shapes_of
last_seed kind s invert seed l w h = sym (seed_of kind s l w) ∙ ap (λ (z : Sofar). z.seed) h

pub front_small : (kind : Kind) (n end : ℕ) (xs vs : List ℤ) → end ≡ start_of kind kind.end → vs ≡ padded n (take end xs) → All (λ v. unsigned_abs v < 2 ^ 20) (take (start_of kind kind.end) xs) → All (λ v. unsigned_abs v < 2 ^ 20) vs
front_small kind n end xs vs ee ev h =
    subst (All (λ v. unsigned_abs v < 2 ^ 20)) (sym ev) (padded_small n (2 ^ 20) (take end xs) (omega arith) (subst (λ k. All (λ v. unsigned_abs v < 2 ^ 20) (take k xs)) (sym ee) h))
