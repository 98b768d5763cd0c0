-- Products of weights, the sums of a tapset's taps, and the fade.
use Rattle.std.proofs.Common.{◌≡◌, ℕ, zero, suc, ◌+◌, ◌-◌, ◌*◌, ◌/◌, ◌%◌, ◌^◌, ◌<◌, ◌≤◌, refl, sym, subst, inl, inr, arith, Bool, true, false, ◌&&◌, nat_eq, nat_lt}
use Rattle.std.specs.Prelude.{pos, ◌*ℤ◌}
use Rattle.std.proofs.lemmas.Nat.{mul-le}
use Rattle.std.proofs.lemmas.Bool.{lt-ltb, le-ltb, and_parts, cases_lt}
use Rattle.std.proofs.lemmas.Bool.Decides.{nat_tests}
use Rattle.celt_base.proofs.Below.{all_below, at_each}
use Rattle.celt_tables.specs.Tables.{window_entry}
use Rattle.celt_tables.proofs.Entries.{window_most, window_rises}
use Rattle.fixed_math.specs.Rounding.{rounded}
use Rattle.post_filter.specs.Comb.{scaled, centre_tap, near_tap, far_tap, fade}

-- a share of a number
pub scaled_most : (a b : ℕ) → a ≤ 2 ^ 15 → scaled a b ≤ b
unfolding scaled
scaled_most a b h = omega (arith, mul-le a b (2 ^ 15) b h (omega arith))

pub scaled_high : (a b : ℕ) → 2 ^ 15 * scaled a b ≤ a * b + 2 ^ 14
unfolding scaled
scaled_high a b = omega arith

pub scaled_zero : (b : ℕ) → scaled 0 b ≡ 0
unfolding scaled
scaled_zero b = omega arith

pub scaled_none : (a : ℕ) → scaled a 0 ≡ 0
unfolding scaled
scaled_none a = omega arith

pub scaled_whole : (b : ℕ) → scaled (2 ^ 15) b ≡ b
unfolding scaled
scaled_whole b = omega arith

-- the third tapset, and the far taps behind the first
pub centre_third : (t : ℕ) → (t ≡ 0 → ⊥) → (t ≡ 1 → ⊥) → 26208 ≡ centre_tap t
unfolding centre_tap
centre_third zero a b = absurd (a refl)
centre_third (suc zero) a b = absurd (b refl)
centre_third (suc (suc t)) a b = refl

pub near_third : (t : ℕ) → (t ≡ 0 → ⊥) → (t ≡ 1 → ⊥) → 3280 ≡ near_tap t
unfolding near_tap
near_third zero a b = absurd (a refl)
near_third (suc zero) a b = absurd (b refl)
near_third (suc (suc t)) a b = refl

pub far_later : (t : ℕ) → (t ≡ 0 → ⊥) → 0 ≡ far_tap t
unfolding far_tap
far_later zero a = absurd (a refl)
far_later (suc t) a = refl

pub taps_whole : (tapset : ℕ) → centre_tap tapset + 2 * near_tap tapset + 2 * far_tap tapset ≡ 2 ^ 15
unfolding centre_tap near_tap far_tap
taps_whole zero = refl
taps_whole (suc zero) = refl
taps_whole (suc (suc tapset)) = refl

pub scaled_rounded : (a b : ℕ) → pos (scaled a b) ≡ rounded (pos a *ℤ pos b) 15
unfolding scaled
scaled_rounded a b = refl

-- the taps of a setting together, those beside the period twice
pub taps_sum : (gain tapset : ℕ) → gain ≤ 24576 → scaled gain (centre_tap tapset) + 2 * scaled gain (near_tap tapset) + 2 * scaled gain (far_tap tapset) ≤ 24576
unfolding scaled centre_tap near_tap far_tap
taps_sum gain zero h = omega arith
taps_sum gain (suc zero) h = omega arith
taps_sum gain (suc (suc tapset)) h = omega arith

-- and of shares of two settings
one_share : (r c n f : ℕ) → c + 2 * n + 2 * f ≤ 24576 → 2 ^ 15 * (scaled r c + 2 * scaled r n + 2 * scaled r f) ≤ r * 24576 + 5 * 2 ^ 14
one_share r c n f h =
    let m : r * (c + 2 * n + 2 * f) ≤ r * 24576 = mul-le r (c + 2 * n + 2 * f) r 24576 (omega arith) h in
    omega (arith, scaled_high r c, scaled_high r n, scaled_high r f)

pub two_shares : (s c n f d m g : ℕ) → s ≤ 2 ^ 15 → c + 2 * n + 2 * f ≤ 24576 → d + 2 * m + 2 * g ≤ 24576
    → (scaled (2 ^ 15 - s) c + 2 * scaled (2 ^ 15 - s) n + 2 * scaled (2 ^ 15 - s) f) + (scaled s d + 2 * scaled s m + 2 * scaled s g) ≤ 24581
two_shares s c n f d m g h p q = omega (arith, one_share (2 ^ 15 - s) c n f p, one_share s d m g q)

-- the fade
pub fade_inside : (i : ℕ) → i < 120 → fade i ≡ scaled (window_entry i) (window_entry i)
unfolding fade
fade_inside i h = let e : nat_lt i 120 ≡ true = lt-ltb i 120 h in rw e refl

pub fade_behind : (i : ℕ) → 120 ≤ i → fade i ≡ 2 ^ 15
unfolding fade
fade_behind i h = let e : nat_lt i 120 ≡ false = le-ltb i 120 h in rw e refl

window_rises_at : (i : ℕ) → i + 1 < 120 → scaled (window_entry i) (window_entry i) ≤ scaled (window_entry (i + 1)) (window_entry (i + 1))
unfolding scaled
window_rises_at i h =
    let r : window_entry i ≤ window_entry (i + 1) = window_rises i (omega arith) in
    omega (arith, mul-le (window_entry i) (window_entry i) (window_entry (i + 1)) (window_entry (i + 1)) r r)

window_share : (i : ℕ) → i < 120 → scaled (window_entry i) (window_entry i) ≤ 2 ^ 15
window_share i h =
    let w : window_entry i ≤ 2 ^ 15 = omega (arith, window_most i h) in
    omega (arith, scaled_most (window_entry i) (window_entry i) w)

pub fade_most : (i : ℕ) → fade i ≤ 2 ^ 15
fade_most i = elim (cases_lt i 120) [
  | inl h ↦ subst (λ f. f ≤ 2 ^ 15) (sym (fade_inside i h)) (window_share i h)
  | inr h ↦ subst (λ f. f ≤ 2 ^ 15) (sym (fade_behind i h)) (omega arith)
]

pub fade_rises : (i : ℕ) → fade i ≤ fade (i + 1)
fade_rises i = elim (cases_lt (i + 1) 120) [
  | inl h ↦
      let a : fade i ≡ scaled (window_entry i) (window_entry i) = fade_inside i (omega arith) in
      omega (arith, fade_inside (i + 1) h, window_rises_at i h)
  | inr h ↦ subst (λ f. fade i ≤ f) (sym (fade_behind (i + 1) h)) (fade_most i)
]

-- The shares of one setting add up to its taps, where its gain is a multiple of 3072: at each of the 120 places, for each
-- of the 9 gains and 3 tapsets.
abbrev splits : ℕ → ℕ → Bool
splits s g = nat_eq (scaled (2 ^ 15 - s) g + scaled s g) g

abbrev splits_setting : ℕ → ℕ → ℕ → Bool
splits_setting s gain tapset =
    splits s (scaled gain (centre_tap tapset)) && (splits s (scaled gain (near_tap tapset)) && splits s (scaled gain (far_tap tapset)))

abbrev splits_all : ℕ → Bool
splits_all s = all_below (λ k. splits_setting s (3072 * (k / 3)) (k % 3)) 27

every_place : all_below (λ i. splits_all (scaled (window_entry i) (window_entry i))) 120 ≡ true
unfolding scaled centre_tap near_tap far_tap
every_place = refl

pub equal : (a b : ℕ) → nat_eq a b ≡ true → a ≡ b
equal a b test = grind (arith, nat_tests)

pub record Split (s g : ℕ) : Type 0 where
  pub adds : scaled (2 ^ 15 - s) g + scaled s g ≡ g

split_behind : (g : ℕ) → scaled (2 ^ 15 - 2 ^ 15) g + scaled (2 ^ 15) g ≡ g
split_behind g = omega (arith, scaled_zero g, scaled_whole g)

pub record SplitSetting (s gain tapset : ℕ) : Type 0 where
  pub centre : scaled (2 ^ 15 - s) (scaled gain (centre_tap tapset)) + scaled s (scaled gain (centre_tap tapset)) ≡ scaled gain (centre_tap tapset)
  pub near : scaled (2 ^ 15 - s) (scaled gain (near_tap tapset)) + scaled s (scaled gain (near_tap tapset)) ≡ scaled gain (near_tap tapset)
  pub far : scaled (2 ^ 15 - s) (scaled gain (far_tap tapset)) + scaled s (scaled gain (far_tap tapset)) ≡ scaled gain (far_tap tapset)

split_setting : (s gain tapset : ℕ) → splits_setting s gain tapset ≡ true → SplitSetting s gain tapset
split_setting s gain tapset e =
    let c : Bool = splits s (scaled gain (centre_tap tapset)) in
    let n : Bool = splits s (scaled gain (near_tap tapset)) in
    let f : Bool = splits s (scaled gain (far_tap tapset)) in
    let p = and_parts c (n && f) e in
    let q = and_parts n f p.1 in
    record {
      centre = equal _ _ p.0;
      near = equal _ _ q.0;
      far = equal _ _ q.1;
    }

pub split_at : (i gain tapset : ℕ) → gain % 3072 ≡ 0 → gain ≤ 24576 → tapset ≤ 2 → SplitSetting (fade i) gain tapset
split_at i gain tapset step most sets = elim (cases_lt i 120) [
  | inl h ↦
      let s : ℕ = scaled (window_entry i) (window_entry i) in
      let all : splits_all s ≡ true = at_each (λ k. splits_all (scaled (window_entry k) (window_entry k))) 120 i every_place h in
      let k : ℕ = 3 * (gain / 3072) + tapset in
      let test : splits_setting s (3072 * (k / 3)) (k % 3) ≡ true = at_each (λ k. splits_setting s (3072 * (k / 3)) (k % 3)) 27 k all (omega arith) in
      let eg : 3072 * (k / 3) ≡ gain = omega arith in
      let et : k % 3 ≡ tapset = omega arith in
      let r : SplitSetting s (3072 * (k / 3)) (k % 3) = split_setting s (3072 * (k / 3)) (k % 3) test in
      subst (λ f. SplitSetting f gain tapset) (sym (fade_inside i h)) (subst (λ t. SplitSetting s gain t) et (subst (λ g. SplitSetting s g (k % 3)) eg r))
  | inr h ↦
      subst (λ f. SplitSetting f gain tapset) (sym (fade_behind i h)) (record {
        centre = split_behind (scaled gain (centre_tap tapset));
        near = split_behind (scaled gain (near_tap tapset));
        far = split_behind (scaled gain (far_tap tapset));
      })
]
