-- Turns of neighbours with the shared item carried: the list with the carried item put back is the turned list.
use Rattle.std.proofs.Common.{◌≡◌, ◌≢◌, ℕ, suc, ◌+◌, ◌<◌, refl, sym, arith, ap, ◌∙◌, List, length}
use Rattle.std.specs.Prelude.{ℤ, pos, neg_ℤ, ◌+ℤ◌, ◌-ℤ◌, ◌*ℤ◌, slice_set}
use Rattle.std.proofs.lemmas.List.{get_or-set_same, get_or-set_other, set-set, set_comm, set-get_or}
use Rattle.std.proofs.Math.IntN.{+ℤ_idl}
use Rattle.fixed_math.specs.Items.{item}
use Rattle.fixed_math.specs.Rounding.{rounded}
use Rattle.fixed_math.proofs.IntLemmas.{*ℤ-neg_ℤ}
use Rattle.spread_fold.specs.Spreading.{clamped, turned_first, turned_second, pair_turned, turned_up, turned_down}

-- the pair at p, whose first item is carried
first_carried : (c s : ℤ) (p : ℕ) (xs : List ℤ) (v a b : ℤ) → p + 1 < length xs → a ≡ turned_first c s v (item xs (p + 1)) → b ≡ turned_second c s v (item xs (p + 1))
    → slice_set (slice_set xs p a) (p + 1) b ≡ pair_turned 1 c s p (slice_set xs p v)
unfolding pair_turned
first_carried c s p xs v a b h e f =
    let ys : List ℤ = slice_set xs p v in
    let ne : p + 1 ≢ p = λ q. absurd (omega arith) in
    let x : item ys p ≡ v = get_or-set_same xs p v (pos 0) (omega arith) in
    let y : item ys (p + 1) ≡ item xs (p + 1) = get_or-set_other xs p (p + 1) v (pos 0) ne in
    let d : a ≡ turned_first c s (item ys p) (item ys (p + 1)) = e ∙ sym (ap (λ z. turned_first c s z (item ys (p + 1))) x ∙ ap (turned_first c s v) y) in
    let g : b ≡ turned_second c s (item ys p) (item ys (p + 1)) = f ∙ sym (ap (λ z. turned_second c s z (item ys (p + 1))) x ∙ ap (turned_second c s v) y) in
    ap (λ zs. slice_set zs (p + 1) b) (sym (set-set xs p v a)) ∙ ap (λ z. slice_set (slice_set ys p z) (p + 1) b) d ∙ ap (λ z. slice_set (slice_set ys p (turned_first c s (item ys p) (item ys (p + 1)))) (p + 1) z) g

-- the pair at p, whose second item is carried
pub second_carried : (c s : ℤ) (p : ℕ) (xs : List ℤ) (v a b : ℤ) → p + 1 < length xs → a ≡ turned_first c s (item xs p) v → b ≡ turned_second c s (item xs p) v
    → slice_set (slice_set xs (p + 1) b) p a ≡ pair_turned 1 c s p (slice_set xs (p + 1) v)
unfolding pair_turned
second_carried c s p xs v a b h e f =
    let ys : List ℤ = slice_set xs (p + 1) v in
    let ne : p ≢ p + 1 = λ q. absurd (omega arith) in
    let en : p + 1 ≢ p = λ q. absurd (omega arith) in
    let x : item ys p ≡ item xs p = get_or-set_other xs (p + 1) p v (pos 0) ne in
    let y : item ys (p + 1) ≡ v = get_or-set_same xs (p + 1) v (pos 0) h in
    let d : a ≡ turned_first c s (item ys p) (item ys (p + 1)) = e ∙ sym (ap (λ z. turned_first c s z (item ys (p + 1))) x ∙ ap (turned_first c s (item xs p)) y) in
    let g : b ≡ turned_second c s (item ys p) (item ys (p + 1)) = f ∙ sym (ap (λ z. turned_second c s z (item ys (p + 1))) x ∙ ap (turned_second c s (item xs p)) y) in
    let put : slice_set (slice_set xs (p + 1) b) p a ≡ slice_set (slice_set ys p a) (p + 1) b =
    ap (λ zs. slice_set zs p a) (sym (set-set xs (p + 1) v b)) ∙ set_comm ys (p + 1) p b a en in
    put ∙ ap (λ z. slice_set (slice_set ys p z) (p + 1) b) d ∙ ap (λ z. slice_set (slice_set ys p (turned_first c s (item ys p) (item ys (p + 1)))) (p + 1) z) g

-- one pair more upwards
pub up_carried : (c s : ℤ) (i : ℕ) (old xs : List ℤ) (v a b : ℤ) → i + 1 < length xs → slice_set xs i v ≡ turned_up 1 c s i old
    → a ≡ turned_first c s v (item xs (i + 1)) → b ≡ turned_second c s v (item xs (i + 1))
    → slice_set (slice_set xs i a) (i + 1) b ≡ turned_up 1 c s (i + 1) old
unfolding turned_up
up_carried c s i old xs v a b h e f g =
    let r : slice_set (slice_set xs i a) (i + 1) b ≡ pair_turned 1 c s i (turned_up 1 c s i old) =
    first_carried c s i xs v a b h f g ∙ ap (pair_turned 1 c s i) e in
    let n : suc i ≡ i + 1 = omega arith in
    r ∙ ap (λ k. turned_up 1 c s k old) n

-- and downwards, where i + 1 are left
pub down_carried : (c s : ℤ) (i : ℕ) (old xs : List ℤ) (v a b : ℤ) → i + 1 < length xs → turned_down 1 c s (i + 1) (slice_set xs (i + 1) v) ≡ old
    → a ≡ turned_first c s (item xs i) v → b ≡ turned_second c s (item xs i) v
    → turned_down 1 c s i (slice_set (slice_set xs (i + 1) b) i a) ≡ old
unfolding turned_down
down_carried c s i old xs v a b h e f g =
    let n : suc i ≡ i + 1 = omega arith in
    let d : turned_down 1 c s (suc i) (slice_set xs (i + 1) v) ≡ old = ap (λ k. turned_down 1 c s k (slice_set xs (i + 1) v)) n ∙ e in
    ap (turned_down 1 c s i) (second_carried c s i xs v a b h f g) ∙ d

-- an item put back where it stood
pub put_back : (xs : List ℤ) (p : ℕ) → p < length xs → slice_set xs p (item xs p) ≡ xs
put_back xs p h = set-get_or xs p (pos 0)

-- the code's negated sine
pub first_is : (a c b s : ℤ) → clamped (rounded (a *ℤ c +ℤ b *ℤ (pos 0 -ℤ s)) 15) ≡ turned_first c s a b
first_is a c b s = ap (λ z. clamped (rounded (a *ℤ c +ℤ b *ℤ z) 15)) (+ℤ_idl (neg_ℤ s)) ∙ ap (λ z. clamped (rounded (a *ℤ c +ℤ z) 15)) (*ℤ-neg_ℤ b s)

-- no pairs
pub none_up : (c s : ℤ) (k : ℕ) (xs : List ℤ) → k ≡ 0 → xs ≡ turned_up 1 c s k xs
unfolding turned_up
none_up c s k xs e = rw e refl

pub none_down : (c s : ℤ) (k : ℕ) (xs : List ℤ) → k ≡ 0 → xs ≡ turned_down 1 c s k xs
unfolding turned_down
none_down c s k xs e = rw e refl

-- the whole passes
pub up_start : (c s : ℤ) (xs : List ℤ) → 0 < length xs → slice_set xs 0 (item xs 0) ≡ turned_up 1 c s 0 xs
unfolding turned_up
up_start c s xs h = put_back xs 0 h

pub down_end : (c s : ℤ) (k : ℕ) (xs ys : List ℤ) (v : ℤ) → k ≡ 0 → turned_down 1 c s k (slice_set xs k v) ≡ ys → slice_set xs 0 v ≡ ys
unfolding turned_down
down_end c s k xs ys v e f =
    let h : turned_down 1 c s 0 (slice_set xs 0 v) ≡ ys = ap (λ n. turned_down 1 c s n (slice_set xs n v)) (sym e) ∙ f in
    h
