-- De-emphasis and samples, item by item.
use Rattle.std.proofs.Common.{◌≡◌, ◌≢◌, ℕ, zero, suc, ◌+◌, ◌*◌, ◌<◌, ◌≤◌, refl, arith, ap, ◌∙◌, List, length}
use Rattle.std.specs.Prelude.{ℤ, ◌+ℤ◌}
use Rattle.fixed_math.specs.Items.{item}
use Rattle.post_filter.specs.Deemphasis.{before, remainder, IsDeemphasis, output_before}
use Rattle.post_filter.specs.Samples.{sample_of, ArePut}
use Rattle.celt_synth.specs.Filters.{AreEmitted}

emphasis_undone : (memory : ℤ) (xs ys : List ℤ) → IsDeemphasis memory xs ys → (n : ℕ) → n < length xs → item ys n ≡ output_before memory (item xs) (suc n)
unfolding output_before
emphasis_undone memory xs ys r zero l = r.each zero l
emphasis_undone memory xs ys r (suc n) l =
    r.each (suc n) l ∙ ap (λ z. item xs (suc n) +ℤ remainder z) (emphasis_undone memory xs ys r n (omega arith))

pub remembered : (memory : ℤ) (xs ys : List ℤ) → IsDeemphasis memory xs ys → (n : ℕ) → n ≤ length xs → before memory ys n ≡ output_before memory (item xs) n
unfolding output_before
remembered memory xs ys r zero l = refl
remembered memory xs ys r (suc n) l = emphasis_undone memory xs ys r n (omega arith)

-- the samples of what de-emphasis leaves in place of a list
pub emitted : (gain memory : ℤ) (xs ys : List ℤ) (start stride : ℕ) (old new : List ℤ) → IsDeemphasis memory xs ys → ArePut gain ys start stride (length ys) old new
    → AreEmitted gain memory (item xs) start stride (length xs) old new
emitted gain memory xs ys start stride old new r p =
    let count = r.count in
    record {
      here = λ t l. p.here t (omega (arith, count, l)) ∙ ap (sample_of gain) (emphasis_undone memory xs ys r t l);
      others = λ q h. p.others q (λ i l. h i (omega (arith, count, l)));
    }

-- signals that agree have the same outputs of de-emphasis, and the same samples
pub output_agree : (memory : ℤ) (x y : ℕ → ℤ) (n : ℕ) → ((t : ℕ) → t < n → x t ≡ y t) → (k : ℕ) → k ≤ n → output_before memory x k ≡ output_before memory y k
unfolding output_before
output_agree memory x y n h zero l = refl
output_agree memory x y n h (suc k) l =
    ap (λ z. z +ℤ remainder (output_before memory x k)) (h k (omega arith)) ∙ ap (λ z. y k +ℤ remainder z) (output_agree memory x y n h k (omega arith))

pub emitted_agree : (gain memory : ℤ) (x y : ℕ → ℤ) (start stride n : ℕ) (old new : List ℤ) → ((t : ℕ) → t < n → x t ≡ y t) → AreEmitted gain memory x start stride n old new → AreEmitted gain memory y start stride n old new
emitted_agree gain memory x y start stride n old new h r = record {
  here = λ t l. r.here t l ∙ ap (sample_of gain) (output_agree memory x y n h (suc t) (omega (arith, l)));
  others = r.others;
}
