-- The mask, block by block.
use Rattle.std.proofs.Common.{◌≡◌, ◌≢◌, ℕ, suc, ◌+◌, ◌*◌, ◌/◌, ◌^◌, ◌<◌, ◌≤◌, refl, ap, ◌∙◌, add-one, List, length, drop, take, drop-cons, true, false}
use Rattle.std.specs.Prelude.{ℤ, pos, unsigned_abs, nat_eq, ◌||◌, not, if◌then◌else◌}
use Rattle.std.proofs.lemmas.Bool.{ne_eqb}
use Rattle.std.proofs.Math.ListN.{drop_of_length-le}
use Rattle.fixed_math.specs.Items.{item}
use Rattle.spread_fold.specs.Masks.{has_pulse, block_bits, mask}

pub pulse_here : (y : List ℤ) (i : ℕ) → i < length y → unsigned_abs (item y i) ≢ 0 → has_pulse (drop i y) ≡ true
unfolding has_pulse
pulse_here y i l n =
    let e : nat_eq (unsigned_abs (item y i)) 0 ≡ false = ne_eqb (unsigned_abs (item y i)) 0 n in
    ap has_pulse (drop-cons y i (pos 0) l) ∙ ap (λ b. not b || has_pulse (drop (suc i) y)) e

pub pulse_next : (y : List ℤ) (i : ℕ) → i < length y → item y i ≡ pos 0 → has_pulse (drop i y) ≡ has_pulse (drop (i + 1) y)
unfolding has_pulse
pulse_next y i l z =
    let e : has_pulse (drop i y) ≡ has_pulse (drop (suc i) y) = ap has_pulse (drop-cons y i (pos 0) l) ∙ ap (λ v. not (nat_eq (unsigned_abs v) 0) || has_pulse (drop (suc i) y)) z in
    rw add-one e

pub pulse_none : (y : List ℤ) (i : ℕ) → length y ≤ i → has_pulse (drop i y) ≡ false
unfolding has_pulse
pulse_none y i l = ap has_pulse (drop_of_length-le y l)

pub bits_more : (n k m b : ℕ) (y : List ℤ) → m ≡ block_bits n y k → b ≡ (if has_pulse (take n (drop (k * n) y)) then 2 ^ k else 0) → m + b ≡ block_bits n y (k + 1)
unfolding block_bits
bits_more n k m b y e f = rw (add-one, e, f) refl

pub mask_one : (blocks : ℕ) (y : List ℤ) → blocks ≡ 1 → 1 ≡ mask blocks y
unfolding mask
mask_one blocks y e = rw e refl

pub mask_more : (blocks : ℕ) (y : List ℤ) → blocks ≢ 1 → block_bits (length y / blocks) y blocks ≡ mask blocks y
unfolding mask
mask_more blocks y n = let e : nat_eq blocks 1 ≡ false = ne_eqb blocks 1 n in rw e refl
