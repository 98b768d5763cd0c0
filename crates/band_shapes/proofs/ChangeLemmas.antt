-- Steps of a change, one by one.
use Rattle.std.proofs.Common.{◌≡◌, ◌≢◌, inl, inr, ℕ, zero, suc, ◌+◌, ◌-◌, ◌*◌, ◌/◌, ◌%◌, ◌^◌, ◌<◌, ◌≤◌, sym, subst, arith, refl, ap, ◌∙◌, add-one, ne_eqb, List, length}
use Rattle.std.specs.Prelude.{ℤ, unsigned_abs, All, if◌then◌else◌}
use Rattle.std.specs.Int.RustNames.{bit_or}
use Rattle.std.proofs.lemmas.Nat.{or_lt, pow_pos, mul-le, pow-add, shl_whole}
use Rattle.std.proofs.Math.Nat.{mul-lt-mul_of_pos_right, div-le_self}
use Rattle.std.proofs.Math.Nat.{pow-le-pow_right}
use Rattle.tf_change.specs.Haar.{haar_of}
use Rattle.tf_change.proofs.HaarLemmas.{length-haar, haar_growth}
use Rattle.band_shapes.specs.declared.change.Change.{Change}
use Rattle.band_shapes.specs.Tree.{IsBlocks}
use Rattle.band_shapes.specs.Channels.{haar_up, haar_down, fill_paired, fill_doubled, fill_in, mask_folded, halvings, grown, IsChange}

-- runs at step k of so many
pub record RunsAt (n s k count : ℕ) : Type 0 where
  pub even : n / 2 ^ k % 2 ≡ 0
  pub runs : count ≡ n / 2 ^ k * (s * 2 ^ k)

pub runs_at : (n s k steps count : ℕ) → k < steps → steps ≤ 3 → n % 2 ^ steps ≡ 0 → count ≡ n * s → RunsAt n s k count
runs_at n s zero (suc zero) count h l e c = let q : n ≡ n / 1 * 1 = omega arith in record { even = omega arith; runs = omega (arith, c, ap (λ z. z * s) q) }
runs_at n s zero (suc (suc zero)) count h l e c = let q : n ≡ n / 1 * 1 = omega arith in record { even = omega arith; runs = omega (arith, c, ap (λ z. z * s) q) }
runs_at n s zero (suc (suc (suc zero))) count h l e c = let q : n ≡ n / 1 * 1 = omega arith in record { even = omega arith; runs = omega (arith, c, ap (λ z. z * s) q) }
runs_at n s (suc zero) (suc (suc zero)) count h l e c = let q : n ≡ n / 2 * 2 = omega arith in record { even = omega arith; runs = omega (arith, c, ap (λ z. z * s) q) }
runs_at n s (suc zero) (suc (suc (suc zero))) count h l e c = let q : n ≡ n / 2 * 2 = omega arith in record { even = omega arith; runs = omega (arith, c, ap (λ z. z * s) q) }
runs_at n s (suc (suc zero)) (suc (suc (suc zero))) count h l e c = let q : n ≡ n / 4 * 4 = omega arith in record { even = omega arith; runs = omega (arith, c, ap (λ z. z * s) q) }
runs_at n s k zero count h l e c = absurd (omega arith)
runs_at n s (suc k) (suc zero) count h l e c = absurd (omega arith)
runs_at n s (suc (suc k)) (suc (suc zero)) count h l e c = absurd (omega arith)
runs_at n s (suc (suc (suc k))) (suc (suc (suc zero))) count h l e c = absurd (omega arith)
runs_at n s k (suc (suc (suc (suc steps)))) count h l e c = absurd (omega arith)

pub length-up : (s k : ℕ) (xs : List ℤ) → length (haar_up s k xs) ≡ length xs
unfolding haar_up
length-up s zero xs = refl
length-up s (suc k) xs = length-haar (s * 2 ^ k) (haar_up s k xs) ∙ length-up s k xs

pub length-down : (s k : ℕ) (xs : List ℤ) → length (haar_down s k xs) ≡ length xs
unfolding haar_down
length-down s zero xs = refl
length-down s (suc k) xs = length-down s k (haar_of (s * 2 ^ k) xs) ∙ length-haar (s * 2 ^ k) xs

pub up_growth : (s k m : ℕ) (xs : List ℤ) → All (λ v. unsigned_abs v ≤ m) xs → All (λ v. unsigned_abs v ≤ grown k m) (haar_up s k xs)
unfolding haar_up grown
up_growth s zero m xs h = h
up_growth s (suc k) m xs h = haar_growth (haar_up s k xs) (s * 2 ^ k) (grown k m) (up_growth s k m xs h)

-- a step first
pub grown_more : (k m : ℕ) → grown k (m + m / 2 + 1) ≡ grown (suc k) m
unfolding grown
grown_more zero m = refl
grown_more (suc k) m = ap (λ z. z + z / 2 + 1) (grown_more k m)

pub down_growth : (s k m : ℕ) (xs : List ℤ) → All (λ v. unsigned_abs v ≤ m) xs → All (λ v. unsigned_abs v ≤ grown k m) (haar_down s k xs)
unfolding haar_down grown
down_growth s zero m xs h = h
down_growth s (suc k) m xs h =
    subst (λ z. All (λ v. unsigned_abs v ≤ z) (haar_down s k (haar_of (s * 2 ^ k) xs))) (grown_more k m)
    (down_growth s k (m + m / 2 + 1) (haar_of (s * 2 ^ k) xs) (haar_growth xs (s * 2 ^ k) m h))

pub grown_small : (k : ℕ) → k ≤ 3 → grown k (2 ^ 30) < 2 ^ 40
unfolding grown
grown_small zero h = omega arith
grown_small (suc zero) h = omega arith
grown_small (suc (suc zero)) h = omega arith
grown_small (suc (suc (suc zero))) h = omega arith
grown_small (suc (suc (suc (suc k)))) h = absurd (omega arith)

pub all_below : (m : ℕ) (xs : List ℤ) → m < 2 ^ 40 → All (λ v. unsigned_abs v ≤ m) xs → All (λ v. unsigned_abs v < 2 ^ 40) xs
all_below m xs h a k d l = omega (arith, a k d l)

pub up_small : (s k : ℕ) (xs ys : List ℤ) → k ≤ 3 → ys ≡ haar_up s k xs → All (λ v. unsigned_abs v ≤ 2 ^ 30) xs → All (λ v. unsigned_abs v < 2 ^ 40) ys
up_small s k xs ys h e a = all_below (grown k (2 ^ 30)) ys (grown_small k h) (subst (All (λ v. unsigned_abs v ≤ grown k (2 ^ 30))) (sym e) (up_growth s k (2 ^ 30) xs a))

pub up_more : (s t k : ℕ) (xs ys zs : List ℤ) → t ≡ s * 2 ^ k → ys ≡ haar_up s k xs → zs ≡ haar_of t ys → zs ≡ haar_up s (suc k) xs
unfolding haar_up
up_more s t k xs ys zs h e f = f ∙ (ap (λ z. haar_of z ys) h ∙ ap (haar_of (s * 2 ^ k)) e)

pub down_more : (s t k : ℕ) (ys zs ws : List ℤ) → t ≡ s * 2 ^ k → zs ≡ haar_of t ys → haar_down s (suc k) ys ≡ ws → haar_down s k zs ≡ ws
unfolding haar_down
down_more s t k ys zs ws h f e = ap (haar_down s k) (f ∙ ap (λ z. haar_of z ys) h) ∙ e

-- one step more behind those that were made
pub grown_next : (m steps k : ℕ) (xs : List ℤ) → 0 < k → k ≤ steps → All (λ v. unsigned_abs v ≤ grown (steps - k) m + grown (steps - k) m / 2 + 1) xs → All (λ v. unsigned_abs v ≤ grown (steps - (k - 1)) m) xs
unfolding grown
grown_next m steps k xs h l a =
    let e : suc (steps - k) ≡ steps - (k - 1) = omega arith in
    subst (λ z. All (λ v. unsigned_abs v ≤ grown z m) xs) e a

pub down_small : (steps k : ℕ) (xs : List ℤ) → steps ≤ 3 → All (λ v. unsigned_abs v ≤ grown (steps - k) (2 ^ 30)) xs → All (λ v. unsigned_abs v < 2 ^ 40) xs
down_small steps k xs h a = all_below (grown (steps - k) (2 ^ 30)) xs (grown_small (steps - k) (omega arith)) a

pub least_stride : (s k : ℕ) → 1 ≤ s → 1 ≤ s * 2 ^ k
least_stride s k h = omega (arith, mul-le 1 1 s (2 ^ k) h (pow_pos k))

pub twice_below : (m b : ℕ) → m < 2 ^ b → bit_or m (m * 2 ^ b) < 2 ^ (b + b)
twice_below m b h =
    let p : m * 2 ^ b < 2 ^ b * 2 ^ b = mul-lt-mul_of_pos_right h (pow_pos b) in
    let q : 2 ^ (b + b) ≡ 2 ^ b * 2 ^ b = pow-add 2 b b in
    let r : 2 ^ b ≤ 2 ^ (b + b) = pow-le-pow_right {n = 2} (omega arith) {i = b} {j = b + b} (omega arith) in
    or_lt (b + b) m (m * 2 ^ b) (omega arith) (rw q p)

pub twice_shift : (m b : ℕ) → b ≤ 16 → m < 2 ^ b → m * 2 ^ b % 4294967296 ≡ m * 2 ^ b
twice_shift m b l h = shl_whole m b b 32 h (omega arith)

-- the double of blocks, so many times
pub doubled_next : (b k : ℕ) → b * 2 ^ k + b * 2 ^ k ≡ b * 2 ^ (k + 1)
doubled_next b k = rw (pow-add 2 k 1) (omega arith)

pub fill_next : (b k fill all next d : ℕ) → d ≡ b * 2 ^ k → all ≡ fill_doubled b k fill → next ≡ bit_or all (all * 2 ^ d) → next < 2 ^ (d + d) → (next ≡ fill_doubled b (k + 1) fill) × (next < 2 ^ (b * 2 ^ (k + 1)))
unfolding fill_doubled
fill_next b k fill all next d h e f l = (
  rw add-one (f ∙ (ap (λ z. bit_or z (z * 2 ^ d)) e ∙ ap (λ z. bit_or (fill_doubled b k fill) (fill_doubled b k fill * 2 ^ z)) h)),
  subst (λ z. next < 2 ^ z) (ap (λ z. z + z) h ∙ doubled_next b k) l,
)

pub most_before : (b k steps : ℕ) → k < steps → b * 2 ^ steps ≤ 16 → b * 2 ^ k ≤ 16
most_before b k steps h l =
    omega (arith, mul-le b (2 ^ k) b (2 ^ steps) (omega arith) (pow-le-pow_right {n = 2} (omega arith) {i = k} {j = steps} (omega arith)))

pub blocks_most : (b steps : ℕ) → b * 2 ^ steps ≤ 16 → b ≤ 16
blocks_most b steps l = omega (arith, mul-le b 1 b (2 ^ steps) (omega arith) (pow_pos steps))

pub fill_none : (b fill : ℕ) → fill < 2 ^ b → (fill ≡ fill_doubled b 0 fill) × (fill < 2 ^ (b * 2 ^ 0))
unfolding fill_doubled
fill_none b fill h = let e : b ≡ b * 2 ^ 0 = omega arith in (refl, subst (λ z. fill < 2 ^ z) e h)

pub fold_next : (b k all d w : ℕ) → d ≡ b * 2 ^ k → all < 2 ^ 16 → mask_folded b (suc k) all ≡ w → (mask_folded b k (bit_or all (all / 2 ^ d)) ≡ w) × (bit_or all (all / 2 ^ d) < 2 ^ 16)
unfolding mask_folded
fold_next b k all d w h l e = (
  ap (λ z. mask_folded b k (bit_or all (all / 2 ^ z))) h ∙ e,
  or_lt 16 all (all / 2 ^ d) l (omega (arith, div-le_self all (2 ^ d))),
)

-- one of both changes is none
pub up_none : (n b : ℕ) (c : Change) → IsChange n b c → c.down ≢ 0 → c.up ≡ 0
up_none n b c h d = elim h.one [
  | inl e ↦ e
  | inr e ↦ absurd (d e)
]

pub fill_up : (b fill r : ℕ) (c : Change) → c.down ≡ 0 → r ≡ fill_paired c.up fill → r ≡ fill_in b c fill
unfolding fill_in fill_doubled
fill_up b fill r c d e = e ∙ sym (ap (λ k. fill_doubled b k (fill_paired c.up fill)) d)

pub fill_down : (n b fill r : ℕ) (c : Change) → IsChange n b c → c.down ≢ 0 → r ≡ fill_doubled b c.down fill → r ≡ fill_in b c fill
unfolding fill_in fill_paired
fill_down n b fill r c h d e = e ∙ sym (ap (λ k. fill_doubled b c.down (fill_paired k fill)) (up_none n b c h d))

pub grown_start : (m steps : ℕ) (xs : List ℤ) → All (λ v. unsigned_abs v ≤ m) xs → All (λ v. unsigned_abs v ≤ grown (steps - steps) m) xs
unfolding grown
grown_start m steps xs a = let e : 0 ≡ steps - steps = omega arith in subst (λ z. All (λ v. unsigned_abs v ≤ grown z m) xs) e a

pub fill_fits : (fill b most : ℕ) → b ≤ most → most ≤ 16 → fill < 2 ^ b → fill < 2 ^ 16
fill_fits fill b most l m h = omega (arith, pow-le-pow_right {n = 2} (omega arith) {i = b} {j = 16} (omega arith))

pub blocks_within : (b : ℕ) → IsBlocks b → b ≤ 16
blocks_within b h = elim h [
  | inl e ↦ omega arith
  | inr (inl e) ↦ omega arith
  | inr (inr (inl e)) ↦ omega arith
  | inr (inr (inr (inl e))) ↦ omega arith
  | inr (inr (inr (inr e))) ↦ omega arith
]

pub blocks_some : (b : ℕ) → IsBlocks b → 1 ≤ b
blocks_some b h = elim h [
  | inl e ↦ omega arith
  | inr (inl e) ↦ omega arith
  | inr (inr (inl e)) ↦ omega arith
  | inr (inr (inr (inl e))) ↦ omega arith
  | inr (inr (inr (inr e))) ↦ omega arith
]

pub halved_none : (most u : ℕ) → most ≡ 0 → 0 ≡ halvings most u
unfolding halvings
halved_none most u e = rw e refl

pub halved_odd : (most u : ℕ) → (u % 2 ≡ 0 → ⊥) → 0 ≡ halvings most u
unfolding halvings
halved_odd zero u h = refl
halved_odd (suc most) u h = sym (ap (λ b. if b then suc (halvings most (u / 2)) else 0) (ne_eqb (u % 2) 0 h))

pub halved_more : (most j u r : ℕ) → most ≡ suc j → u % 2 ≡ 0 → r ≡ halvings j (u / 2) → r + 1 ≡ halvings most u
unfolding halvings
halved_more most j u r e h f = rw e (rw h (rw f (rw add-one refl)))
