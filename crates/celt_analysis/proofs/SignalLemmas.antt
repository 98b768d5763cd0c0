-- Pre-emphasis and the pre-filter.
use Rattle.std.proofs.Common.{◌≡◌, ℕ, zero, suc, ◌+◌, ◌-◌, ◌*◌, ◌^◌, ◌<◌, ◌≤◌, sym, subst, inl, inr, arith, ap, ◌∙◌, List, length, ◌++◌, nat_lt, true, false}
use Rattle.std.specs.Prelude.{ℤ, pos, negsuc, ◌+ℤ◌, ◌-ℤ◌, ◌*ℤ◌, unsigned_abs, FitsSigned, take, drop, All}
use Rattle.std.specs.Int.{int_shr, w16, w32, w64}
use Rattle.std.proofs.lemmas.Int.{ints, fits_signed_from_abs}
use Rattle.std.proofs.lemmas.Bool.{cases_lt}
use Rattle.std.proofs.lemmas.Bool.Decides.{nat_tests}
use Rattle.std.proofs.lemmas.List.{get_or_append_left, get_or-append_right, length-append, take_at, length-drop, length-take-le, get_or-take, get_or-drop}
use Rattle.std.proofs.lemmas.List.Elements.{All-take, All-drop}
use Rattle.fixed_math.specs.Items.{item, listed}
use Rattle.fixed_math.specs.Rounding.{rounded}
use Rattle.fixed_math.proofs.RoundingLemmas.{shr_scaled}
use Rattle.fixed_math.proofs.ItemLemmas.{item-listed, length-listed, listed_from}
use Rattle.celt_base.specs.declared.state.Setting.{Setting}
use Rattle.post_filter.specs.Comb.{term}
use Rattle.post_filter.proofs.EchoLemmas.{term_same, term_silent}
use Rattle.celt_analysis.specs.Signals.{emphasized, filtered, filtered_from, setting_of, value_at, values_in}

pub fits_short : (z : ℤ) → FitsSigned w16 z → unsigned_abs z ≤ 2 ^ 15
fits_short (pos n) f = omega (arith, ints, f.sfits)
fits_short (negsuc n) f = omega (arith, ints, f.sfits)

-- ---- the code's steps, of sample a and the one before, b

pub record EmphasisSteps (a b : ℤ) : Type 0 where
  pub a_fits : FitsSigned w32 a
  pub b_fits : FitsSigned w32 b
  pub product : FitsSigned w32 (pos 27853 *ℤ b)
  pub sum : FitsSigned w32 (pos 27853 *ℤ b +ℤ pos 4)
  pub kept : FitsSigned w32 (int_shr (pos 27853 *ℤ b +ℤ pos 4) 3)
  pub scaled : FitsSigned w32 (pos 4096 *ℤ a)
  pub difference : FitsSigned w32 (pos 4096 *ℤ a -ℤ int_shr (pos 27853 *ℤ b +ℤ pos 4) 3)
  pub wide : FitsSigned w64 (pos 4096 *ℤ a -ℤ int_shr (pos 27853 *ℤ b +ℤ pos 4) 3)
  pub size : unsigned_abs (pos 4096 *ℤ a -ℤ int_shr (pos 27853 *ℤ b +ℤ pos 4) 3) < 2 ^ 28

pub emphasis_steps : (a b : ℤ) → FitsSigned w16 a → FitsSigned w16 b → EmphasisSteps a b
emphasis_steps a b fa fb =
    let la : unsigned_abs a ≤ 2 ^ 15 = fits_short a fa in
    let lb : unsigned_abs b ≤ 2 ^ 15 = fits_short b fb in
    let p : unsigned_abs (pos 27853 *ℤ b +ℤ pos 4) ≤ 114085889 * 2 ^ 3 = omega (arith, ints, lb) in
    let k : unsigned_abs (int_shr (pos 27853 *ℤ b +ℤ pos 4) 3) ≤ 114085889 = shr_scaled (pos 27853 *ℤ b +ℤ pos 4) 3 114085889 p in
    let s : unsigned_abs (pos 4096 *ℤ a -ℤ int_shr (pos 27853 *ℤ b +ℤ pos 4) 3) < 2 ^ 28 = omega (arith, ints, la, k) in
    record {
      a_fits = fits_signed_from_abs w32 _ (omega arith);
      b_fits = fits_signed_from_abs w32 _ (omega arith);
      product = fits_signed_from_abs w32 _ (omega (arith, ints, lb));
      sum = fits_signed_from_abs w32 _ (omega (arith, ints, lb));
      kept = fits_signed_from_abs w32 _ (omega arith);
      scaled = fits_signed_from_abs w32 _ (omega (arith, ints, la));
      difference = fits_signed_from_abs w32 _ (omega arith);
      wide = fits_signed_from_abs w64 _ (omega arith);
      size = s;
    }

-- ---- a signal at its first place, and at each other

pub emphasized_first : (x : ℕ → ℤ) → pos 4096 *ℤ x 0 -ℤ rounded (pos 27853 *ℤ pos 0) 3 ≡ emphasized x 0
unfolding emphasized
emphasized_first x = omega (arith, ints)

pub emphasized_next : (x : ℕ → ℤ) (n : ℕ) → 1 ≤ n → pos 4096 *ℤ x n -ℤ rounded (pos 27853 *ℤ x (n - 1)) 3 ≡ emphasized x n
unfolding emphasized
emphasized_next x zero l = elim l [ ]
emphasized_next x (suc n) l = ap (λ k. pos 4096 *ℤ x (suc n) -ℤ rounded (pos 27853 *ℤ x k) 3) (same n)
  where
    same : (n : ℕ) → suc n - 1 ≡ n
    same n = omega arith

-- ---- a value that is filtered, from the list of all emphasized samples

pub filtered_is : (from to : Setting) (i : ℕ) (ps : List ℤ) (n : ℕ) → 1024 ≤ n → item ps n -ℤ term from to i ps n ≡ filtered from to i (item ps) n
unfolding filtered
filtered_is from to i ps n l =
    ap (λ t. item ps n -ℤ t) (term_same from to i ps (listed n (item ps)) n l (λ q h. sym (item-listed n (item ps) q h)))

-- signals that agree up to a place have one value there
pub filtered_same : (from to : Setting) (i : ℕ) (p q : ℕ → ℤ) (n : ℕ) → ((k : ℕ) → k ≤ n → p k ≡ q k) → filtered from to i p n ≡ filtered from to i q n
unfolding filtered
filtered_same from to i p q n h =
    let e : listed n p ≡ listed n q = listed_from (listed n p) n q (length-listed n p) (λ k l. item-listed n p k l ∙ h k (omega (arith, l))) in
    ap (λ z. z -ℤ term from to i (listed n p) n) (h n (omega arith)) ∙ ap (λ ps. q n -ℤ term from to i ps n) e

-- a part of the values by other names of its numbers
pub part_is : (p : ℕ → ℤ) (at k n i j : ℕ) (a a2 b b2 : Setting) (xs : List ℤ) → xs ≡ listed k (filtered_from a b i p at) → k ≡ n → i ≡ j → a ≡ a2 → b ≡ b2 → xs ≡ listed n (filtered_from a2 b2 j p at)
part_is p at k n i j a a2 b b2 xs e ek ei ea eb =
    e ∙ ap (λ l. listed l (filtered_from a b i p at)) ek ∙ ap (λ l. listed n (filtered_from a b l p at)) ei ∙ ap (λ l. listed n (filtered_from l b j p at)) ea ∙ ap (λ l. listed n (filtered_from a2 l j p at)) eb

-- the values of a window are 120 of the frame before, and those of the frame
pub values_join : (n : ℕ) (settings : List Setting) (p : ℕ → ℤ) (xs ys : List ℤ)
    → xs ≡ listed 120 (filtered_from (setting_of settings 0) (setting_of settings 1) (n - 120) p 1025)
    → ys ≡ listed n (filtered_from (setting_of settings 1) (setting_of settings 2) 0 p 1145)
    → xs ++ ys ≡ listed (n + 120) (value_at n settings p)
unfolding value_at
values_join n settings p xs ys ex ey =
    let f : ℕ → ℤ = filtered_from (setting_of settings 0) (setting_of settings 1) (n - 120) p 1025 in
    let g : ℕ → ℤ = filtered_from (setting_of settings 1) (setting_of settings 2) 0 p 1145 in
    let lx : length xs ≡ 120 = ap length ex ∙ length-listed 120 f in
    let ly : length ys ≡ n = ap length ey ∙ length-listed n g in
    let whole : length (xs ++ ys) ≡ n + 120 = length-append xs ys ∙ omega (arith, lx, ly) in
    listed_from (xs ++ ys) (n + 120) (value_at n settings p) whole (λ t h. elim (cases_lt t 120) [
      | inl l ↦
          let less : nat_lt t 120 ≡ true = grind (arith, nat_tests, l) in
          let inside : t < length xs = omega (arith, lx, l) in
          rw less (get_or_append_left xs ys (pos 0) t inside ∙ ap (λ zs. item zs t) ex ∙ item-listed 120 f t l)
      | inr l ↦
          let more : nat_lt t 120 ≡ false = grind (arith, nat_tests, l) in
          let q : t - 120 < n = omega (arith, h, l) in
          rw more (get_or-append_right xs ys 120 t (pos 0) lx l ∙ ap (λ zs. item zs (t - 120)) ey ∙ item-listed n g (t - 120) q)
    ])

-- signals that agree in a window have the same values
pub value_same : (n : ℕ) (settings : List Setting) (p q : ℕ → ℤ) (t : ℕ) → t < n + 120 → ((k : ℕ) → k < 1145 + n → p k ≡ q k) → value_at n settings p t ≡ value_at n settings q t
unfolding value_at
value_same n settings p q t l h = elim (cases_lt t 120) [
  | inl a ↦
      let less : nat_lt t 120 ≡ true = grind (arith, nat_tests, a) in
      rw less (filtered_same (setting_of settings 0) (setting_of settings 1) (n - 120 + t) p q (1025 + t) (λ k b. h k (omega (arith, b, l))))
  | inr a ↦
      let more : nat_lt t 120 ≡ false = grind (arith, nat_tests, a) in
      rw more (filtered_same (setting_of settings 1) (setting_of settings 2) (0 + (t - 120)) p q (1145 + (t - 120)) (λ k b. h k (omega (arith, b, l, a))))
]

-- the values that the code makes of a window's samples x
pub values_made : (n k : ℕ) (settings : List Setting) (x : ℕ → ℤ) (ps xs ys : List ℤ) → k ≡ n + 120
    → ps ≡ listed (1145 + n) (emphasized x)
    → xs ≡ listed k (value_at (k - 120) settings (item ps))
    → take (n + 120) (xs ++ ys) ≡ values_in n settings x
values_made n k settings x ps xs ys ek ep ex =
    let lx : length xs ≡ n + 120 = ap length ex ∙ length-listed k _ ∙ ek in
    let back : k - 120 ≡ n = omega (arith, ek) in
    let front : take (n + 120) (xs ++ ys) ≡ xs = take_at xs ys (n + 120) lx in
    front ∙ listed_from xs (n + 120) (value_at n settings (emphasized x)) lx (λ t l.
    let here : t < k = omega (arith, l, ek) in
    ap (λ zs. item zs t) ex ∙ item-listed k (value_at (k - 120) settings (item ps)) t here
    ∙ ap (λ j. value_at j settings (item ps) t) back
    ∙ value_same n settings (item ps) (emphasized x) t l (λ j b. ap (λ zs. item zs j) ep ∙ item-listed (1145 + n) (emphasized x) j b))

-- where both settings are off the values stay
pub copied_values : (from to : Setting) (i : ℕ) (ps : List ℤ) (at n : ℕ) (xs : List ℤ) → from.gain ≡ 0 → to.gain ≡ 0 → 1024 ≤ at → at + n ≤ length ps
    → xs ≡ take n (drop at ps) → xs ≡ listed n (filtered_from from to i (item ps) at)
copied_values from to i ps at n xs ef et far room e =
    let behind : n ≤ length (drop at ps) = subst (λ k. n ≤ k) (sym (length-drop at ps)) (omega (arith, room)) in
    let whole : length xs ≡ n = ap length e ∙ length-take-le n (drop at ps) behind in
    listed_from xs n (filtered_from from to i (item ps) at) whole (λ t l.
    let far_on : 1024 ≤ at + t = omega (arith, far) in
    ap (λ zs. item zs t) e ∙ get_or-take n (drop at ps) t (pos 0) l ∙ get_or-drop at ps t (pos 0)
    ∙ whole_of (item ps (at + t)) ∙ sym (ap (λ z. item ps (at + t) -ℤ z) (term_silent from to (i + t) ps (at + t) ef et)) ∙ filtered_is from to (i + t) ps (at + t) far_on)
  where
    whole_of : (z : ℤ) → z ≡ z -ℤ pos 0
    whole_of z = omega (arith, ints)

pub copied_sizes : (ps : List ℤ) (at n : ℕ) (xs : List ℤ) → xs ≡ take n (drop at ps) → All (λ v. unsigned_abs v < 2 ^ 28) ps → All (λ v. unsigned_abs v < 2 ^ 29) xs
copied_sizes ps at n xs e h =
    let small : All (λ v. unsigned_abs v < 2 ^ 28) xs = subst (All (λ v. unsigned_abs v < 2 ^ 28)) (sym e) (All-take (λ v. unsigned_abs v < 2 ^ 28) n (drop at ps) (All-drop (λ v. unsigned_abs v < 2 ^ 28) at ps h)) in
    λ k d l. omega (arith, small k d l)
