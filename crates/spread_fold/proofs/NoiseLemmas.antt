-- The noise, item by item.
use Rattle.std.proofs.Common.{◌≡◌, ℕ, suc, ◌+◌, ◌/◌, ◌%◌, ◌^◌, ◌<◌, ◌≤◌, sym, arith, refl, ap, ◌∙◌, add-one, List, length, Bool, true, false}
use Rattle.std.specs.Prelude.{ℤ, pos, neg_ℤ, ◌+ℤ◌, ◌-ℤ◌, ◌≤ℤ◌, ◌<ℤ◌, unsigned_abs, slice_set, All, nat_eq, if◌then◌else◌}
use Rattle.std.specs.Int.{w32, cast_signed}
use Rattle.std.proofs.lemmas.Int.{ints}
use Rattle.fixed_math.specs.Rounding.{noise_after}
use Rattle.fixed_math.proofs.RoundingLemmas.{shr_low, shr_high}
use Rattle.fixed_math.specs.Items.{item}
use Rattle.spread_fold.specs.Noise.{seed_after, noise_item, noise_items, folded_item, folded}
use Rattle.fixed_math.proofs.ItemLemmas.{put_next, listed_from, all_listed, item_within}

-- after i items: what they are, and the state
pub record Filled (i seed state : ℕ) (f : ℕ → ℤ) (out : List ℤ) : Type 0 where
  pub here : (p : ℕ) → p < i → item out p ≡ f p
  pub stepped : state ≡ seed_after i seed

pub filled_start : (seed : ℕ) (f : ℕ → ℤ) (out : List ℤ) → Filled 0 seed seed f out
unfolding seed_after
filled_start seed f out = record { here = λ p h. absurd (omega arith); stepped = refl }

pub step_more : (i seed state : ℕ) → state ≡ seed_after i seed → noise_after state ≡ seed_after (suc i) seed
unfolding seed_after
step_more i seed state e = ap noise_after e

pub filled_more : (i seed state next : ℕ) (f : ℕ → ℤ) (out : List ℤ) (v : ℤ) → i < length out → next ≡ noise_after state → Filled i seed state f out → (next ≡ seed_after (suc i) seed → v ≡ f i) → Filled (i + 1) seed next f (slice_set out i v)
filled_more i seed state next f out v l e r g =
    let n : next ≡ seed_after (suc i) seed = e ∙ step_more i seed state r.stepped in
    record {
      here = put_next out i f v l (g n) r.here;
      stepped = rw add-one n;
    }

-- a noise item takes 12 bits
pub noise_low : (s : ℕ) → neg_ℤ (pos (2 ^ 11)) ≤ℤ noise_item s
noise_low s = omega (arith, ints, shr_low (cast_signed w32 s) 20, shr_high (cast_signed w32 s) 20)

pub noise_high : (s : ℕ) → noise_item s <ℤ pos (2 ^ 11)
noise_high s = omega (arith, ints, shr_low (cast_signed w32 s) 20, shr_high (cast_signed w32 s) 20)

pub noise_end : (n i seed state : ℕ) (out : List ℤ) → length out ≡ n → i ≡ n → Filled i seed state (λ j. noise_item (seed_after (suc j) seed)) out → out ≡ noise_items n seed
unfolding noise_items
noise_end n i seed state out l e r = listed_from out n (λ j. noise_item (seed_after (suc j) seed)) l (λ p h. r.here p (omega arith))

pub noise_size : (n seed : ℕ) (out : List ℤ) → out ≡ noise_items n seed → All (λ v. (neg_ℤ (pos (2 ^ 11)) ≤ℤ v) × (v <ℤ pos (2 ^ 11))) out
unfolding noise_items
noise_size n seed out e =
    all_listed (λ v. (neg_ℤ (pos (2 ^ 11)) ≤ℤ v) × (v <ℤ pos (2 ^ 11))) out n (λ j. noise_item (seed_after (suc j) seed)) e (λ p h. (noise_low (seed_after (suc p) seed), noise_high (seed_after (suc p) seed)))

pub fold_end : (n i seed state : ℕ) (xs out : List ℤ) → length xs ≡ n → length out ≡ n → i ≡ n → Filled i seed state (λ j. folded_item (seed_after (suc j) seed) (item xs j)) out → out ≡ folded seed xs
unfolding folded
fold_end n i seed state xs out m l e r =
    listed_from out (length xs) (λ j. folded_item (seed_after (suc j) seed) (item xs j)) (l ∙ sym m) (λ p h. r.here p (omega arith))

either_four : (t : Bool) (v : ℤ) (m : ℕ) → unsigned_abs v ≤ m → unsigned_abs (if t then v +ℤ pos 4 else v -ℤ pos 4) ≤ m + 4
either_four true v m h = omega (arith, ints)
either_four false v m h = omega (arith, ints)

pub fold_size : (seed m : ℕ) (xs out : List ℤ) → out ≡ folded seed xs → All (λ v. unsigned_abs v ≤ m) xs → All (λ v. unsigned_abs v ≤ m + 4) out
unfolding folded
fold_size seed m xs out e h =
    all_listed (λ v. unsigned_abs v ≤ m + 4) out (length xs) (λ j. folded_item (seed_after (suc j) seed) (item xs j)) e (λ p l. either_four (nat_eq (seed_after (suc p) seed / 32768 % 2) 1) (item xs p) m (item_within xs m p h))
