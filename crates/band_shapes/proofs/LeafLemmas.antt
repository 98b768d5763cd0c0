-- What a leaf leaves.
use Rattle.std.proofs.Common.{◌≡◌, ◌≢◌, ℕ, ◌-◌, ◌*◌, ◌%◌, ◌^◌, ◌<◌, ◌≤◌, sym, subst, arith, refl, ap, ◌∙◌, ne_eqb, List, [], ◌∷◌, length, get_or, false}
use Rattle.std.specs.Prelude.{ℤ, pos, ◌≤ℤ◌, unsigned_abs, All, nat_eq, replicate, slice_get, Some, FitsSigned, if◌then◌else◌}
use Rattle.std.specs.Int.{w64}
use Rattle.std.proofs.lemmas.Int.{fits_signed_from_abs}
use Rattle.std.proofs.lemmas.Int.{ints}
use Rattle.std.proofs.lemmas.Nat.{pow_pos, mod_below}
use Rattle.std.proofs.lemmas.List.Sums.{get_or-le-sum_by}
use Rattle.std.proofs.lemmas.Option.{get_or_from_slice_get}
use Rattle.std.proofs.lemmas.List.{get_or-replicate, length-replicate}
use Rattle.fixed_math.specs.Unit.{unit_of}
use Rattle.spread_fold.specs.Masks.{mask}
use Rattle.spread_fold.specs.Noise.{seed_after, noise_items, folded}
use Rattle.spread_fold.specs.Spreading.{spread_by}
use Rattle.pulse_vectors.specs.Vectors.{vectors, pulse_sum}
use Rattle.band_shapes.specs.declared.node.Wish.{Wish}
use Rattle.band_shapes.specs.Parts.{IsMade, pulses_at, pulse_shape, filled_shape, silent_shape, leaf_shape}

-- an item of unit is small
pub unit_small : (g : ℤ) (xs : List ℤ) → pos 0 ≤ℤ g → g ≤ℤ pos 32768 → All (λ v. 2 * unsigned_abs v ≤ unsigned_abs g) xs → All (λ v. unsigned_abs v ≤ 2 ^ 17) xs
unit_small g xs l h s k d i = omega (arith, ints, s k d i)

pub zeros_small : (n : ℕ) → All (λ v. unsigned_abs v ≤ 2 ^ 17) (replicate n (pos 0))
zeros_small n k d l = let h : k < n = omega (arith, length-replicate {A = ℤ} n (pos 0)) in
    rw (get_or-replicate {A = ℤ} n k (pos 0) d h) (omega arith)

pub silent_none : (n s : ℕ) (source xs : List ℤ) (w : Wish) → w.fill % 2 ^ w.blocks ≡ 0 → xs ≡ replicate n (pos 0) → IsMade w.blocks (silent_shape n source w s) xs 0 s
unfolding silent_shape
silent_none n s source xs w e x =
    let t : silent_shape n source w s ≡ record { vector = replicate n (pos 0); mask = 0; seed = s } = ap (λ f. if nat_eq f 0 then record { vector = replicate n (pos 0); mask = 0; seed = s } else filled_shape n source f w s) e in
    subst (λ z. IsMade w.blocks z xs 0 s) (sym t) (record {
      vector = x;
      mask = refl;
      seed = refl;
      size = subst (All (λ v. unsigned_abs v ≤ 2 ^ 17)) (sym x) (zeros_small n);
      small = pow_pos w.blocks;
    })

-- with a fill there is noise or a fold
filled : (n s : ℕ) (source : List ℤ) (w : Wish) → w.fill % 2 ^ w.blocks ≢ 0 → silent_shape n source w s ≡ filled_shape n source (w.fill % 2 ^ w.blocks) w s
unfolding silent_shape
filled n s source w h = ap (λ b. if b then record { vector = replicate n (pos 0); mask = 0; seed = s } else filled_shape n source (w.fill % 2 ^ w.blocks) w s) (ne_eqb (w.fill % 2 ^ w.blocks) 0 h)

pub silent_noise : (n s t m : ℕ) (source xs : List ℤ) (w : Wish) → w.fill % 2 ^ w.blocks ≢ 0 → length source ≡ 0 → xs ≡ unit_of w.gain (noise_items n s) → t ≡ seed_after n s → m ≡ 2 ^ w.blocks - 1 → All (λ v. unsigned_abs v ≤ 2 ^ 17) xs → IsMade w.blocks (silent_shape n source w s) xs m t
unfolding filled_shape
silent_noise n s t m [] xs w h e x y z a = subst (λ q. IsMade w.blocks q xs m t) (sym (filled n s [] w h)) (record {
  vector = x;
  mask = z;
  seed = y;
  size = a;
  small = omega (arith, pow_pos w.blocks);
})
silent_noise n s t m (v ∷ vs) xs w h e x y z a = absurd (omega arith)

pub silent_fold : (n s t m : ℕ) (source xs : List ℤ) (w : Wish) → w.fill % 2 ^ w.blocks ≢ 0 → length source ≢ 0 → xs ≡ unit_of w.gain (folded s source) → t ≡ seed_after n s → m ≡ w.fill % 2 ^ w.blocks → All (λ v. unsigned_abs v ≤ 2 ^ 17) xs → IsMade w.blocks (silent_shape n source w s) xs m t
unfolding filled_shape
silent_fold n s t m [] xs w h e x y z a = absurd (e refl)
silent_fold n s t m (v ∷ vs) xs w h e x y z a = subst (λ q. IsMade w.blocks q xs m t) (sym (filled n s (v ∷ vs) w h)) (record {
  vector = x;
  mask = z;
  seed = y;
  size = a;
  small = rw z (mod_below w.fill (2 ^ w.blocks) (pow_pos w.blocks));
})

pub pulse_made : (spread n k index s m : ℕ) (ys xs : List ℤ) (w : Wish) → slice_get (vectors n k) index ≡ Some ys → xs ≡ spread_by w.blocks k spread false (unit_of w.gain ys) → m ≡ mask w.blocks ys → m < 2 ^ w.blocks → All (λ v. unsigned_abs v ≤ 2 ^ 17) xs → IsMade w.blocks (pulse_shape spread n k index w s) xs m s
unfolding pulse_shape pulses_at
pulse_made spread n k index s m ys xs w e x y l a =
    let r : get_or (vectors n k) index [] ≡ ys = get_or_from_slice_get (vectors n k) index ys [] e in
    record {
      vector = x ∙ ap (λ z. spread_by w.blocks k spread false (unit_of w.gain z)) (sym r);
      mask = y ∙ ap (mask w.blocks) (sym r);
      seed = refl;
      size = a;
      small = l;
    }

pub leaf_none : (spread n k index s : ℕ) (source : List ℤ) (w : Wish) → k ≡ 0 → leaf_shape spread n k index source w s ≡ silent_shape n source w s
unfolding leaf_shape
leaf_none spread n k index s source w e = ap (λ z. if nat_eq z 0 then silent_shape n source w s else pulse_shape spread n k index w s) e

pub leaf_some : (spread n k index s : ℕ) (source : List ℤ) (w : Wish) → k ≢ 0 → leaf_shape spread n k index source w s ≡ pulse_shape spread n k index w s
unfolding leaf_shape
leaf_some spread n k index s source w e = ap (λ b. if b then silent_shape n source w s else pulse_shape spread n k index w s) (ne_eqb k 0 e)

pub made_none : (spread n k index s m t : ℕ) (source xs : List ℤ) (w : Wish) → k ≡ 0 → IsMade w.blocks (silent_shape n source w s) xs m t → IsMade w.blocks (leaf_shape spread n k index source w s) xs m t
made_none spread n k index s m t source xs w e p = subst (λ z. IsMade w.blocks z xs m t) (sym (leaf_none spread n k index s source w e)) p

pub made_some : (spread n k index s m t : ℕ) (source xs : List ℤ) (w : Wish) → k ≢ 0 → IsMade w.blocks (pulse_shape spread n k index w s) xs m t → IsMade w.blocks (leaf_shape spread n k index source w s) xs m t
made_some spread n k index s m t source xs w e p = subst (λ z. IsMade w.blocks z xs m t) (sym (leaf_some spread n k index s source w e)) p

-- no pulse is more than all
pub pulses_small : (k : ℕ) (ys : List ℤ) → pulse_sum ys ≡ k → k ≤ 128 → All (λ v. unsigned_abs v < 2 ^ 40) ys
unfolding pulse_sum
pulses_small k ys e l i d h = omega (arith, get_or-le-sum_by unsigned_abs ys i d h)

pub gain_fits : (g : ℤ) → pos 0 ≤ℤ g → g ≤ℤ pos 32768 → FitsSigned w64 g
gain_fits g l h = fits_signed_from_abs w64 g (omega (arith, ints))
