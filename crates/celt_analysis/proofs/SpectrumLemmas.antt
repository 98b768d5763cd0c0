-- Spectra of blocks.
use Rattle.std.proofs.Common.{◌≡◌, ℕ, suc, ◌+◌, ◌*◌, ◌/◌, ◌%◌, ◌^◌, ◌<◌, ◌≤◌, sym, subst, inl, inr, arith, ap, ◌∙◌, List, length, Bool, true, false}
use Rattle.std.specs.Prelude.{◌≢◌, ℤ, pos, unsigned_abs, slice_set, take, drop, All}
use Rattle.std.proofs.lemmas.Bool.{cases_lt, cases_eq}
use Rattle.std.proofs.lemmas.Nat.{mul-le, mod_below, div_below, div-add-mod'}
use Rattle.std.proofs.lemmas.List.{length-set, get_or-set_same, get_or-set_other, get_or_default, get_or-take, get_or-drop, length-take-le, length-drop}
use Rattle.fixed_math.specs.Items.{item}
use Rattle.fixed_math.proofs.ItemLemmas.{item_below, listed_from}
use Rattle.mdct_fixed.specs.Mdct.{forward_of}
use Rattle.celt_analysis.specs.Spectra.{block, spectrum, IsSpread}

-- the part of the values that is a block
pub block_is : (vs : List ℤ) (b : ℕ) → 120 * b + 240 ≤ length vs → take 240 (drop (120 * b) vs) ≡ block vs b
block_is vs b h =
    let l : 240 ≤ length (drop (120 * b) vs) = subst (λ k. 240 ≤ k) (sym (length-drop (120 * b) vs)) (omega (arith, h)) in
    listed_from (take 240 (drop (120 * b) vs)) 240 (λ t. item vs (120 * b + t)) (length-take-le 240 (drop (120 * b) vs) l)
    (λ t q. get_or-take 240 (drop (120 * b) vs) t (pos 0) q ∙ get_or-drop (120 * b) vs t (pos 0))

-- a frame that is no transient
pub frame_spectrum : (vs xs : List ℤ) (m n : ℕ) (transient : Bool) → n ≡ 120 * m → transient ≡ false → xs ≡ forward_of n vs → xs ≡ spectrum m transient vs
unfolding spectrum
frame_spectrum vs xs m n transient e f s = s ∙ ap (λ k. forward_of k vs) e ∙ ap (λ t. spectrum m t vs) (sym f)

-- places of different rows or blocks differ
pub places_differ : (m b c i j : ℕ) → b < m → c < m → i < j → i * m + b ≢ j * m + c
places_differ m b c i j hb hc l e =
    let p : suc i * m ≤ j * m = mul-le (suc i) m j m (omega (arith, l)) (omega arith) in
    let s : suc i * m ≡ i * m + m = omega arith in
    omega (arith, e, p, s, hb)

pub spread_next : (xs : List ℤ) (m b n : ℕ) (old new : List ℤ) (v : ℤ) → b < m → n * m + b < length new → v ≡ item xs n → IsSpread xs m b n old new → IsSpread xs m b (n + 1) old (slice_set new (n * m + b) v)
spread_next xs m b n old new v some room e h = record {
  count = length-set new (n * m + b) v ∙ h.count;
  here = λ j l. elim (cases_eq j n) [
    | inl a ↦ subst (λ k. item (slice_set new (n * m + b) v) (k * m + b) ≡ item xs k) (sym a) (get_or-set_same new (n * m + b) v (pos 0) room ∙ e)
    | inr ne ↦
        let less : j < n = omega (arith, l, ne) in
        get_or-set_other new (n * m + b) (j * m + b) v (pos 0) (places_differ m b b j n some some less) ∙ h.here j less
  ];
  others = λ p q.
      let ne : p ≢ n * m + b = q n (omega arith) in
      get_or-set_other new (n * m + b) p v (pos 0) ne ∙ h.others p (λ j l. q j (omega (arith, l)));
}

-- the spectra of the first n blocks of m stand at their places
pub record AreBlocks (vs : List ℤ) (m n : ℕ) (xs : List ℤ) : Type 0 where
  pub count : length xs ≡ 120 * m
  pub here : (b j : ℕ) → b < n → j < 120 → item xs (j * m + b) ≡ item (forward_of 120 (block vs b)) j
  pub sizes : (b j : ℕ) → b < n → j < 120 → unsigned_abs (item xs (j * m + b)) < 2 ^ 38

pub blocks_none : (vs : List ℤ) (m : ℕ) (xs : List ℤ) → length xs ≡ 120 * m → AreBlocks vs m 0 xs
blocks_none vs m xs e = record {
  count = e;
  here = λ b j h l. absurd (omega (arith, h));
  sizes = λ b j h l. absurd (omega (arith, h));
}

pub blocks_next : (vs : List ℤ) (m n : ℕ) (ys old new : List ℤ) → n < m → ys ≡ forward_of 120 (block vs n) → All (λ x. unsigned_abs x < 2 ^ 38) ys → IsSpread ys m n 120 old new → AreBlocks vs m n old → AreBlocks vs m (n + 1) new
blocks_next vs m n ys old new some e s h k = record {
  count = h.count ∙ k.count;
  here = λ b j l q. elim (cases_eq b n) [
    | inl a ↦ subst (λ c. item new (j * m + c) ≡ item (forward_of 120 (block vs c)) j) (sym a) (h.here j q ∙ ap (λ zs. item zs j) e)
    | inr ne ↦ let less : b < n = omega (arith, l, ne) in kept b j less ∙ k.here b j less q
  ];
  sizes = λ b j l q. elim (cases_eq b n) [
    | inl a ↦ subst (λ c. unsigned_abs (item new (j * m + c)) < 2 ^ 38) (sym a) (subst (λ z. unsigned_abs z < 2 ^ 38) (sym (h.here j q)) (item_below ys (2 ^ 38) j (omega arith) s))
    | inr ne ↦ let less : b < n = omega (arith, l, ne) in subst (λ z. unsigned_abs z < 2 ^ 38) (sym (kept b j less)) (k.sizes b j less q)
  ];
}
  where
    kept : (b j : ℕ) → b < n → item new (j * m + b) ≡ item old (j * m + b)
    kept b j l = h.others (j * m + b) (λ i q a. elim (cases_eq i j) [
      | inl same ↦ let z : j * m + b ≡ j * m + n = a ∙ ap (λ c. c * m + n) same in omega (arith, z, l)
      | inr ne ↦ elim (cases_lt i j) [
        | inl less ↦ places_differ m n b i j some (omega (arith, l, some)) less (sym a)
        | inr more ↦ places_differ m b n j i (omega (arith, l, some)) some (omega (arith, more, ne)) a
      ]
    ])

pub blocks_whole : (vs : List ℤ) (m : ℕ) (xs : List ℤ) → 0 < m → AreBlocks vs m m xs → xs ≡ spectrum m true vs
unfolding spectrum
blocks_whole vs m xs some h = listed_from xs (120 * m) (λ p. item (forward_of 120 (block vs (p % m))) (p / m)) h.count (λ p l.
    let row : p / m < 120 = div_below p m 120 some l in
    let place : p / m * m + p % m ≡ p = div-add-mod' p m in
    ap (item xs) (sym place) ∙ h.here (p % m) (p / m) (mod_below p m some) row)

pub blocks_sizes : (vs : List ℤ) (m : ℕ) (xs : List ℤ) → 0 < m → AreBlocks vs m m xs → All (λ x. unsigned_abs x < 2 ^ 38) xs
blocks_sizes vs m xs some h = λ p d l.
    let inside : p < 120 * m = omega (arith, l, h.count) in
    let row : p / m < 120 = div_below p m 120 some inside in
    let place : p / m * m + p % m ≡ p = div-add-mod' p m in
    let s : unsigned_abs (item xs (p / m * m + p % m)) < 2 ^ 38 = h.sizes (p % m) (p / m) (mod_below p m some) row in
    let t : unsigned_abs (item xs p) < 2 ^ 38 = subst (λ k. unsigned_abs (item xs k) < 2 ^ 38) place s in
    subst (λ z. unsigned_abs z < 2 ^ 38) (sym (get_or_default xs p d (pos 0) l)) t
