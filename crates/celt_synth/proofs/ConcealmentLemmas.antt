-- Bands of noise one behind the other.
use Rattle.std.proofs.Common.{◌≡◌, ℕ, zero, suc, ◌+◌, ◌-◌, ◌*◌, ◌/◌, ◌^◌, ◌<◌, ◌≤◌, nat_eq, nat_lt, get_or, if◌then◌else◌, Bool, true, false, refl, sym, subst, arith, ap, ◌∙◌, add-one, List, [], ◌++◌, take, drop, length}
use Rattle.std.specs.Prelude.{ℤ, pos, unsigned_abs, All}
use Rattle.std.proofs.lemmas.Bool.Decides.{nat_tests}
use Rattle.std.proofs.lemmas.List.{append_assoc, take_at, length-append, get_or-take}
use Rattle.celt_base.specs.declared.kind.Kind.{Kind}
use Rattle.celt_tables.specs.Tables.{edge_of, width_of}
use Rattle.spread_fold.specs.Noise.{seed_after}
use Rattle.fixed_math.specs.Items.{item}
use Rattle.fixed_math.proofs.ItemLemmas.{item-listed, length-listed, listed_from}
use Rattle.celt_synth.specs.Amplitude.{amplified, power_at, band_of, spectrum_item, spectrum_of}
use Rattle.celt_synth.specs.Blocks.{blocks_of}
use Rattle.celt_synth.specs.Concealment.{noise_band, both_noise, left_noise, right_noise, noise_shapes, IsNoiseBand, AreNoise}
use Rattle.celt_synth.specs.Shapes.{Shapes, shapes_of}
use Rattle.celt_synth.proofs.AmplitudeLemmas.{edge_le}

-- a part that is replaced by one of its length leaves the length
pub put_back : (front here made tail behind xs : List ℤ) → length made ≡ length here → behind ≡ here ++ tail → xs ≡ front ++ behind → length (front ++ (made ++ tail)) ≡ length xs
put_back front here made tail behind xs e f g =
    let a = length-append front (made ++ tail) in
    let b = length-append made tail in
    let c = length-append front behind in
    let d = length-append here tail in
    let h : length behind ≡ length (here ++ tail) = ap length f in
    let k : length xs ≡ length (front ++ behind) = ap length g in
    omega (arith, a, b, c, d, e, h, k)

-- the items up to the end of a band that replaces what stood there
pub front_two : (s n : ℕ) (xs ys zs : List ℤ) → length xs ≡ s → length ys ≡ n → take (s + n) (xs ++ (ys ++ zs)) ≡ xs ++ ys
front_two s n xs ys zs e f =
    let h : length (xs ++ ys) ≡ s + n = omega (arith, length-append xs ys) in
    ap (take (s + n)) (sym (append_assoc xs ys zs)) ∙ take_at (xs ++ ys) zs (s + n) h

band_end : (m b : ℕ) → b < 21 → m * edge_of b + m * width_of b ≡ m * edge_of (b + 1)
band_end m b l =
    let rises : edge_of b ≤ edge_of (b + 1) = edge_le b (b + 1) (omega arith) (omega arith) in
    joined (edge_of b) (edge_of (b + 1)) rises
  where
    joined : (e f : ℕ) → e ≤ f → m * e + m * (f - e) ≡ m * f
    joined e f h =
        let g : f - e + e ≡ f = omega arith in
        subst (λ n. m * e + m * (f - e) ≡ m * n) g (omega arith)

pub band_made : (kind : Kind) (b seed m e w : ℕ) (old front made tail new : List ℤ) → b < 21 → m ≡ blocks_of kind → e ≡ edge_of b → w ≡ width_of b
    → front ≡ take (m * e) old → length front ≡ m * e → length made ≡ m * w → made ≡ noise_band (length made) seed → new ≡ front ++ (made ++ tail)
    → take (blocks_of kind * edge_of (b + 1)) new ≡ take (blocks_of kind * edge_of b) old ++ noise_band (blocks_of kind * width_of b) seed
band_made kind b seed m e w old front made tail new l hm he hw hf lf lm hd hn =
    let start : m * e ≡ blocks_of kind * edge_of b = λ k. hm k * he k in
    let count : m * w ≡ blocks_of kind * width_of b = λ k. hm k * hw k in
    let end : blocks_of kind * edge_of (b + 1) ≡ m * e + m * w = sym ((λ k. start k + count k) ∙ band_end (blocks_of kind) b l) in
    let value : made ≡ noise_band (blocks_of kind * width_of b) seed = hd ∙ ap (λ n. noise_band n seed) (lm ∙ count) in
    (λ k. take (end k) (hn k)) ∙ front_two (m * e) (m * w) front made tail lf lm ∙ (λ k. hf k ++ value k) ∙ ap (λ n. take n old ++ noise_band (blocks_of kind * width_of b) seed) start

next : (n : ℕ) → suc n ≡ n + 1
next n = omega arith

noise_two : (kind : Kind) (n seed : ℕ) → kind.channels ≡ 2
    → noise_shapes kind (n + 1) seed ≡ right_noise (blocks_of kind * width_of n) (left_noise (blocks_of kind * width_of n) (noise_shapes kind n seed))
unfolding noise_shapes both_noise
noise_two kind n seed two = subst (λ j. noise_shapes kind j seed ≡ right_noise (blocks_of kind * width_of n) (left_noise (blocks_of kind * width_of n) (noise_shapes kind n seed))) (next n) (chosen (nat_eq kind.channels 2) _ _ (is_two kind.channels two))
  where
    chosen : (t : Bool) (x y : Shapes) → t ≡ true → (if t then x else y) ≡ x
    chosen true x y e = refl
    chosen false x y e = absurd (Rattle.std.proofs.Common.true≢false (sym e))

    is_two : (k : ℕ) → k ≡ 2 → nat_eq k 2 ≡ true
    is_two k e = rw e refl

noise_one : (kind : Kind) (n seed : ℕ) → kind.channels ≡ 1 → noise_shapes kind (n + 1) seed ≡ left_noise (blocks_of kind * width_of n) (noise_shapes kind n seed)
unfolding noise_shapes both_noise
noise_one kind n seed one = subst (λ j. noise_shapes kind j seed ≡ left_noise (blocks_of kind * width_of n) (noise_shapes kind n seed)) (next n) (other (nat_eq kind.channels 2) _ _ (is_one kind.channels one))
  where
    other : (t : Bool) (x y : Shapes) → t ≡ false → (if t then x else y) ≡ y
    other true x y e = absurd (Rattle.std.proofs.Common.true≢false e)
    other false x y e = refl

    is_one : (k : ℕ) → k ≡ 1 → nat_eq k 2 ≡ false
    is_one k e = rw e refl

pub noise_none : (kind : Kind) (seed : ℕ) (left right : List ℤ) → All (λ v. unsigned_abs v < 2 ^ 20) left → All (λ v. unsigned_abs v < 2 ^ 20) right → AreNoise kind 0 seed left right seed
unfolding noise_shapes
noise_none kind seed left right a b = record {
  left_is = ap (λ n. take n left) (empty (blocks_of kind));
  right_is = λ two. ap (λ n. take n right) (empty (blocks_of kind));
  state_is = refl;
  left_sizes = a;
  right_sizes = b;
}
  where
    empty : (m : ℕ) → m * edge_of 0 ≡ 0
    empty m = omega arith

pub noise_both : (kind : Kind) (n seed state first second : ℕ) (left right us vs : List ℤ) → kind.channels ≡ 2
    → IsNoiseBand (blocks_of kind) n state left us → first ≡ seed_after (blocks_of kind * width_of n) state
    → IsNoiseBand (blocks_of kind) n first right vs → second ≡ seed_after (blocks_of kind * width_of n) first
    → AreNoise kind n seed left right state → AreNoise kind (n + 1) seed us vs second
noise_both kind n seed state first second left right us vs two hu hs hv ht r =
    let m : ℕ = blocks_of kind * width_of n in
    let s : Shapes = noise_shapes kind n seed in
    let e = noise_two kind n seed two in
    let next : first ≡ seed_after m s.seed = hs ∙ ap (seed_after m) r.state_is in
    record {
      left_is = hu.value ∙ (λ k. r.left_is k ++ noise_band m (r.state_is k)) ∙ sym (ap (λ t. t.left) e);
      right_is = λ h. hv.value ∙ (λ k. r.right_is two k ++ noise_band m (next k)) ∙ sym (ap (λ t. t.right) e);
      state_is = ht ∙ ap (seed_after m) next ∙ sym (ap (λ t. t.seed) e);
      left_sizes = hu.sizes;
      right_sizes = hv.sizes;
    }

pub noise_left : (kind : Kind) (n seed state first : ℕ) (left right us : List ℤ) → kind.channels ≡ 1
    → IsNoiseBand (blocks_of kind) n state left us → first ≡ seed_after (blocks_of kind * width_of n) state
    → AreNoise kind n seed left right state → AreNoise kind (n + 1) seed us right first
noise_left kind n seed state first left right us one hu hs r =
    let m : ℕ = blocks_of kind * width_of n in
    let e = noise_one kind n seed one in
    record {
      left_is = hu.value ∙ (λ k. r.left_is k ++ noise_band m (r.state_is k)) ∙ sym (ap (λ t. t.left) e);
      right_is = λ h. absurd (omega (arith, one, h));
      state_is = hs ∙ ap (seed_after m) r.state_is ∙ sym (ap (λ t. t.seed) e);
      left_sizes = hu.sizes;
      right_sizes = r.right_sizes;
    }

-- what stands behind the last band of a frame is not read
pub spectrum_cut : (m end : ℕ) (row xs ys : List ℤ) → take (m * edge_of end) xs ≡ ys → spectrum_of m end row xs ≡ spectrum_of m end row ys
unfolding spectrum_item
spectrum_cut m end row xs ys e =
    listed_from (spectrum_of m end row xs) (120 * m) (spectrum_item m end row ys) (length-listed (120 * m) (spectrum_item m end row xs))
    (λ p l. item-listed (120 * m) (spectrum_item m end row xs) p l ∙ by_test p (nat_lt p (m * edge_of end)) refl)
  where
    by_test : (p : ℕ) (t : Bool) → nat_lt p (m * edge_of end) ≡ t
        → (if t then amplified (power_at (get_or row (band_of (p / m)) (pos 0)) (band_of (p / m))) (item xs p) else pos 0)
        ≡ (if t then amplified (power_at (get_or row (band_of (p / m)) (pos 0)) (band_of (p / m))) (item ys p) else pos 0)
    by_test p true h =
        let l : p < m * edge_of end = grind (arith, nat_tests) in
        let same : item xs p ≡ item ys p = sym (get_or-take (m * edge_of end) xs p (pos 0) l) ∙ ap (λ zs. item zs p) e in
        ap (amplified (power_at (get_or row (band_of (p / m)) (pos 0)) (band_of (p / m)))) same
    by_test p false h = refl
