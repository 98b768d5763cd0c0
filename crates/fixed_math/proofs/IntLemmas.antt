-- Products of signed numbers: over sums, in any order, and of negated numbers; and the rounding shift of a
-- negated number.
use Rattle.std.proofs.Common.{◌≡◌, zero, suc, sym, ap, arith, ◌∙◌}
use Rattle.std.specs.Prelude.{ℤ, pos, negsuc, neg_ℤ, ◌+ℤ◌, ◌-ℤ◌, ◌*ℤ◌}
use Rattle.std.specs.Int.{int_shr}
use Rattle.std.proofs.lemmas.Int.{ints}
use Rattle.std.proofs.Math.IntN.{suc_ℤ-+ℤ, pred_ℤ-+ℤ, suc_ℤ-*ℤ, pred_ℤ-*ℤ, +ℤ_idl, +ℤ_invl, zero-*ℤ, *ℤ_comm}
use Rattle.fixed_math.proofs.RoundingLemmas.{shr_low, shr_high}

-- a product over a sum
pub +ℤ-*ℤ : (a b c : ℤ) → (a +ℤ b) *ℤ c ≡ a *ℤ c +ℤ b *ℤ c
+ℤ-*ℤ (pos zero) b c = ap (λ z. z *ℤ c) (+ℤ_idl b) ∙ sym (ap (λ z. z +ℤ b *ℤ c) (zero-*ℤ c) ∙ +ℤ_idl (b *ℤ c))
+ℤ-*ℤ (pos (suc n)) b c =
    ap (λ z. z *ℤ c) (suc_ℤ-+ℤ (pos n) b) ∙ suc_ℤ-*ℤ (pos n +ℤ b) c ∙ ap (λ z. z +ℤ c) (+ℤ-*ℤ (pos n) b c) ∙ shuffled (pos n *ℤ c) (b *ℤ c) c ∙ sym (ap (λ z. z +ℤ b *ℤ c) (suc_ℤ-*ℤ (pos n) c))
  where
    shuffled : (x y z : ℤ) → (x +ℤ y) +ℤ z ≡ (x +ℤ z) +ℤ y
    shuffled x y z = omega (arith, ints)
+ℤ-*ℤ (negsuc zero) b c =
    ap (λ z. z *ℤ c) (pred_ℤ-+ℤ (pos zero) b) ∙ pred_ℤ-*ℤ (pos zero +ℤ b) c ∙ ap (λ z. z *ℤ c -ℤ c) (+ℤ_idl b) ∙ turned (b *ℤ c) c (pos zero *ℤ c) (zero-*ℤ c) ∙ sym (ap (λ z. z +ℤ b *ℤ c) (pred_ℤ-*ℤ (pos zero) c))
  where
    turned : (y z x : ℤ) → x ≡ pos zero → y -ℤ z ≡ (x -ℤ z) +ℤ y
    turned y z x e = omega (arith, ints)
+ℤ-*ℤ (negsuc (suc n)) b c =
    ap (λ z. z *ℤ c) (pred_ℤ-+ℤ (negsuc n) b) ∙ pred_ℤ-*ℤ (negsuc n +ℤ b) c ∙ ap (λ z. z -ℤ c) (+ℤ-*ℤ (negsuc n) b c) ∙ shuffled (negsuc n *ℤ c) (b *ℤ c) c ∙ sym (ap (λ z. z +ℤ b *ℤ c) (pred_ℤ-*ℤ (negsuc n) c))
  where
    shuffled : (x y z : ℤ) → (x +ℤ y) -ℤ z ≡ (x -ℤ z) +ℤ y
    shuffled x y z = omega (arith, ints)

pub *ℤ-+ℤ : (a b c : ℤ) → a *ℤ (b +ℤ c) ≡ a *ℤ b +ℤ a *ℤ c
*ℤ-+ℤ a b c = *ℤ_comm a (b +ℤ c) ∙ +ℤ-*ℤ b c a ∙ ap (λ z. z +ℤ c *ℤ a) (*ℤ_comm b a) ∙ ap (λ z. a *ℤ b +ℤ z) (*ℤ_comm c a)

-- a product with a negated number
pub neg_ℤ-*ℤ : (a b : ℤ) → neg_ℤ a *ℤ b ≡ neg_ℤ (a *ℤ b)
neg_ℤ-*ℤ a b =
    let e : neg_ℤ a *ℤ b +ℤ a *ℤ b ≡ pos 0 = sym (+ℤ-*ℤ (neg_ℤ a) a b) ∙ ap (λ z. z *ℤ b) (+ℤ_invl a) ∙ zero-*ℤ b in
    opposite (neg_ℤ a *ℤ b) (a *ℤ b) e
  where
    opposite : (x y : ℤ) → x +ℤ y ≡ pos 0 → x ≡ neg_ℤ y
    opposite x y e = omega (arith, ints)

pub *ℤ-neg_ℤ : (a b : ℤ) → a *ℤ neg_ℤ b ≡ neg_ℤ (a *ℤ b)
*ℤ-neg_ℤ a b = *ℤ_comm a (neg_ℤ b) ∙ neg_ℤ-*ℤ b a ∙ ap neg_ℤ (*ℤ_comm b a)

-- a product over a difference
pub -ℤ-*ℤ : (a b c : ℤ) → (a -ℤ b) *ℤ c ≡ a *ℤ c -ℤ b *ℤ c
-ℤ-*ℤ a b c = +ℤ-*ℤ a (neg_ℤ b) c ∙ ap (λ z. a *ℤ c +ℤ z) (neg_ℤ-*ℤ b c)

zero_assoc : (b c : ℤ) → (pos zero *ℤ b) *ℤ c ≡ pos zero *ℤ (b *ℤ c)
zero_assoc b c = ap (λ z. z *ℤ c) (zero-*ℤ b) ∙ zero-*ℤ c ∙ sym (zero-*ℤ (b *ℤ c))

-- products in any order
pub *ℤ_assoc : (a b c : ℤ) → (a *ℤ b) *ℤ c ≡ a *ℤ (b *ℤ c)
*ℤ_assoc (pos zero) b c = zero_assoc b c
*ℤ_assoc (pos (suc n)) b c =
    ap (λ z. z *ℤ c) (suc_ℤ-*ℤ (pos n) b) ∙ +ℤ-*ℤ (pos n *ℤ b) b c ∙ ap (λ z. z +ℤ b *ℤ c) (*ℤ_assoc (pos n) b c) ∙ sym (suc_ℤ-*ℤ (pos n) (b *ℤ c))
*ℤ_assoc (negsuc zero) b c =
    ap (λ z. z *ℤ c) (pred_ℤ-*ℤ (pos zero) b) ∙ -ℤ-*ℤ (pos zero *ℤ b) b c ∙ ap (λ z. z -ℤ b *ℤ c) (zero_assoc b c) ∙ sym (pred_ℤ-*ℤ (pos zero) (b *ℤ c))
*ℤ_assoc (negsuc (suc n)) b c =
    ap (λ z. z *ℤ c) (pred_ℤ-*ℤ (negsuc n) b) ∙ -ℤ-*ℤ (negsuc n *ℤ b) b c ∙ ap (λ z. z -ℤ b *ℤ c) (*ℤ_assoc (negsuc n) b c) ∙ sym (pred_ℤ-*ℤ (negsuc n) (b *ℤ c))

-- a shift of a negated number is the shift that rounds the other way, negated
pub rounded-neg_ℤ : (p : ℤ) → int_shr (neg_ℤ p +ℤ pos 16384) 15 ≡ neg_ℤ (int_shr (p +ℤ pos 16383) 15)
rounded-neg_ℤ p = omega (arith, ints, shr_low (neg_ℤ p +ℤ pos 16384) 15, shr_high (neg_ℤ p +ℤ pos 16384) 15, shr_low (p +ℤ pos 16383) 15, shr_high (p +ℤ pos 16383) 15)
