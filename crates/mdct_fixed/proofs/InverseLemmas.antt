-- The inverse transform by places: the middle from the turned items, and the windowed edges from their mirrors.
use Rattle.std.proofs.Common.{◌≡◌, ℕ, ◌+◌, ◌-◌, ◌*◌, ◌/◌, ◌%◌, ◌<◌, ◌≤◌, sym, subst, inl, inr, arith, ap, ◌∙◌, List}
use Rattle.std.specs.Prelude.{ℤ, neg_ℤ, unsigned_abs, nat_eq, nat_lt}
use Rattle.std.proofs.lemmas.Int.{ints}
use Rattle.std.proofs.lemmas.Bool.{cases_lt, cases_eq, lt-ltb, le-ltb, cond-true, cond-false}
use Rattle.std.proofs.lemmas.Nat.{mul-le}
use Rattle.std.proofs.Math.IntN.{neg_ℤ-neg_ℤ}
use Rattle.fixed_math.specs.Items.{item}
use Rattle.mdct_fixed.specs.declared.complex.Complex.{Complex}
use Rattle.mdct_fixed.specs.Numbers.{turned, IsWithin}
use Rattle.mdct_fixed.specs.Digits.{IsLength}
use Rattle.mdct_fixed.specs.Mdct.{IsSize, turn_angle, turned_pairs, turned_back, kernel, unfolded, windowed, weighted, inverse_value}
use Rattle.mdct_fixed.specs.Transform.{fourier, growth, radices}
use Rattle.mdct_fixed.proofs.PlanLemmas.{turned_within, plan_of}
use Rattle.mdct_fixed.proofs.FourierLemmas.{wider, length_facts}
use Rattle.mdct_fixed.proofs.MdctLemmas.{angle_in, size_facts, weighted_size}

-- ---- sizes

pub half_length : (n : ℕ) → IsSize n → IsLength (n / 2)
half_length n s = elim s [
  | inl e ↦ inl (ap (λ x. x / 2) e)
  | inr o ↦ elim o [
    | inl e ↦ inr (inl (ap (λ x. x / 2) e))
    | inr p ↦ elim p [
      | inl e ↦ inr (inr (inl (ap (λ x. x / 2) e)))
      | inr e ↦ inr (inr (inr (ap (λ x. x / 2) e)))
    ]
  ]
]

pub pairs_within : (n i m : ℕ) (s : ℕ → ℤ) → IsSize n → i < n / 2 → ((j : ℕ) → j < n → unsigned_abs (s j) ≤ m) → IsWithin (2 * m) (turned_pairs n s i)
unfolding turned_pairs
pairs_within n i m s z h w =
    let f = size_facts n z in
    let even = f.even in
    let a : turn_angle n i < 3840 = angle_in n i z h in
    turned_within (record { re = s (2 * i); im = s (n - 1 - 2 * i) }) (turn_angle n i) m (omega arith) (record { re = w (2 * i) (omega arith); im = w (n - 1 - 2 * i) (omega arith) })

pub growth_within : (n m : ℕ) (z : Complex) → IsLength n → IsWithin (growth (radices n) * m) z → IsWithin (6615 * m) z
growth_within n m z l w =
    let f = length_facts n l in
    let low = f.low in
    let g = (plan_of n (omega arith) f.divides).growth in
    wider (growth (radices n) * m) (6615 * m) z (mul-le (growth (radices n)) m 6615 m g (omega arith)) w

-- ---- the kernel at even and odd places

pub kernel_even : (n k : ℕ) (s : ℕ → ℤ) → kernel n s (2 * k) ≡ (turned_back n s k).re
unfolding kernel
kernel_even n k s =
    let a : 2 * k % 2 ≡ 0 = omega arith in
    let b : 2 * k / 2 ≡ k = omega arith in
    cond-true (nat_eq (2 * k % 2) 0) _ _ (ap (λ x. nat_eq x 0) a) ∙ ap (λ x. (turned_back n s x).re) b

pub kernel_odd : (n h k : ℕ) (s : ℕ → ℤ) → n ≡ 2 * h → k < h → kernel n s (n - 1 - 2 * k) ≡ neg_ℤ (turned_back n s k).im
unfolding kernel
kernel_odd n h k s e l =
    let a : (n - 1 - 2 * k) % 2 ≡ 1 = omega arith in
    let b : (n - 1 - (n - 1 - 2 * k)) / 2 ≡ k = omega arith in
    cond-false (nat_eq ((n - 1 - 2 * k) % 2) 0) _ _ (ap (λ x. nat_eq x 0) a) ∙ ap (λ x. neg_ℤ (turned_back n s x).im) b

pub back_is : (n h k : ℕ) (s : ℕ → ℤ) (z : Complex) → n ≡ 2 * h → z ≡ fourier (n / 2) (turned_pairs n s) k → turned z (turn_angle (2 * h) k) ≡ turned_back n s k
unfolding turned_back
back_is n h k s z e f = ap (λ x. turned z (turn_angle x k)) (sym e) ∙ ap (λ x. turned x (turn_angle n k)) f

-- the places that turned items fill hold the negated kernel, from the end on
pub middle_value : (n h : ℕ) (s : ℕ → ℤ) (v : ℕ → Complex) (out : List ℤ) → n ≡ 2 * h → ((k : ℕ) → k < h → v k ≡ fourier (n / 2) (turned_pairs n s) k)
    → ((k : ℕ) → k < h → item out (60 + 2 * k) ≡ (turned (v k) (turn_angle (2 * h) k)).im) → ((k : ℕ) → k < h → item out (2 * h + 59 - 2 * k) ≡ neg_ℤ (turned (v k) (turn_angle (2 * h) k)).re)
    → (p : ℕ) → 60 ≤ p → p < n + 60 → item out p ≡ neg_ℤ (kernel n s (n + 59 - p))
middle_value n h s v out e f up down p l r = elim (cases_eq (p % 2) 0) [
  | inl w ↦
      let k : ℕ = (p - 60) / 2 in
      let b : k < h = omega arith in
      let i : p ≡ 60 + 2 * k = omega arith in
      let j : n + 59 - p ≡ n - 1 - 2 * k = omega arith in
      ap (item out) i ∙ up k b ∙ ap (λ z. z.im) (back_is n h k s (v k) e (f k b)) ∙ sym (ap neg_ℤ (ap (kernel n s) j ∙ kernel_odd n h k s e b) ∙ neg_ℤ-neg_ℤ (turned_back n s k).im)
  | inr w ↦
      let k : ℕ = (n + 59 - p) / 2 in
      let b : k < h = omega arith in
      let i : p ≡ 2 * h + 59 - 2 * k = omega arith in
      let j : n + 59 - p ≡ 2 * k = omega arith in
      ap (item out) i ∙ down k b ∙ ap (λ z. neg_ℤ z.re) (back_is n h k s (v k) e (f k b)) ∙ sym (ap neg_ℤ (ap (kernel n s) j ∙ kernel_even n k s))
]

negated_within : (z : ℤ) (n : ℕ) → unsigned_abs z ≤ n → unsigned_abs (neg_ℤ z) ≤ n
negated_within z n h = omega (arith, ints)

-- and they are small
pub middle_within : (n h m : ℕ) (v : ℕ → Complex) (out : List ℤ) → IsSize n → n ≡ 2 * h → ((k : ℕ) → k < h → IsWithin m (v k))
    → ((k : ℕ) → k < h → item out (60 + 2 * k) ≡ (turned (v k) (turn_angle (2 * h) k)).im) → ((k : ℕ) → k < h → item out (2 * h + 59 - 2 * k) ≡ neg_ℤ (turned (v k) (turn_angle (2 * h) k)).re)
    → (p : ℕ) → 60 ≤ p → p < n + 60 → unsigned_abs (item out p) ≤ 2 * m
middle_within n h m v out z e f up down p l r = elim (cases_eq (p % 2) 0) [
  | inl w ↦
      let k : ℕ = (p - 60) / 2 in
      let b : k < h = omega arith in
      let i : p ≡ 60 + 2 * k = omega arith in
      subst (λ x. unsigned_abs x ≤ 2 * m) (sym (ap (item out) i ∙ up k b)) (small k b).im
  | inr w ↦
      let k : ℕ = (n + 59 - p) / 2 in
      let b : k < h = omega arith in
      let i : p ≡ 2 * h + 59 - 2 * k = omega arith in
      subst (λ x. unsigned_abs x ≤ 2 * m) (sym (ap (item out) i ∙ down k b)) (negated_within (turned (v k) (turn_angle (2 * h) k)).re (2 * m) (small k b).re)
]
  where
    small : (k : ℕ) → k < h → IsWithin (2 * m) (turned (v k) (turn_angle (2 * h) k))
    small k b =
        let q : k < n / 2 = omega arith in
        let a : turn_angle n k < 3840 = angle_in n k z q in
        let c : turn_angle n k ≡ turn_angle (2 * h) k = ap (λ x. turn_angle x k) e in
        turned_within (v k) (turn_angle (2 * h) k) m (omega arith) (f k b)

-- ---- values by places

unfolded_low : (n h i : ℕ) (q : ℕ → ℤ) → n ≡ 2 * h → i < h → unfolded n q i ≡ q (i + h)
unfolding unfolded
unfolded_low n h i q e l =
    let a : n / 2 ≡ h = omega arith in
    cond-true (nat_lt i (n / 2)) _ _ (lt-ltb i (n / 2) (omega arith)) ∙ ap (λ x. q (i + x)) a

unfolded_middle : (n h i : ℕ) (q : ℕ → ℤ) → n ≡ 2 * h → h ≤ i → i < 3 * h → unfolded n q i ≡ neg_ℤ (q (3 * h - 1 - i))
unfolding unfolded
unfolded_middle n h i q e l r =
    let a : n / 2 ≡ h = omega arith in
    cond-false (nat_lt i (n / 2)) _ _ (le-ltb i (n / 2) (omega arith)) ∙ cond-true (nat_lt i (3 * (n / 2))) _ _ (lt-ltb i (3 * (n / 2)) (omega arith)) ∙ ap (λ x. neg_ℤ (q (3 * x - 1 - i))) a

unfolded_high : (n h i : ℕ) (q : ℕ → ℤ) → n ≡ 2 * h → 3 * h ≤ i → unfolded n q i ≡ neg_ℤ (q (i - 3 * h))
unfolding unfolded
unfolded_high n h i q e l =
    let a : n / 2 ≡ h = omega arith in
    cond-false (nat_lt i (n / 2)) _ _ (le-ltb i (n / 2) (omega arith)) ∙ cond-false (nat_lt i (3 * (n / 2))) _ _ (le-ltb i (3 * (n / 2)) (omega arith)) ∙ ap (λ x. neg_ℤ (q (i - 3 * x))) a

pub windowed_low : (n t : ℕ) (z : ℕ → ℤ) → t < 120 → windowed n z t ≡ weighted (z t) t
unfolding windowed
windowed_low n t z l = cond-true (nat_lt t 120) _ _ (lt-ltb t 120 l)

pub windowed_middle : (n t : ℕ) (z : ℕ → ℤ) → 120 ≤ t → t < n → windowed n z t ≡ z t
unfolding windowed
windowed_middle n t z l r = cond-false (nat_lt t 120) _ _ (le-ltb t 120 l) ∙ cond-true (nat_lt t n) _ _ (lt-ltb t n r)

pub windowed_high : (n t : ℕ) (z : ℕ → ℤ) → 120 ≤ t → n ≤ t → windowed n z t ≡ weighted (z t) (n + 119 - t)
unfolding windowed
windowed_high n t z l r = cond-false (nat_lt t 120) _ _ (le-ltb t 120 l) ∙ cond-false (nat_lt t n) _ _ (le-ltb t n r)

-- what the places hold before the window
before_low : (n h t : ℕ) (s : ℕ → ℤ) → n ≡ 2 * h → 60 ≤ h → t < 60 → unfolded n (kernel n s) ((n - 120) / 2 + t) ≡ kernel n s (n + 59 - (119 - t))
before_low n h t s e z l =
    let a : (n - 120) / 2 + t + h ≡ n + 59 - (119 - t) = omega arith in
    unfolded_low n h ((n - 120) / 2 + t) (kernel n s) e (omega arith) ∙ ap (kernel n s) a

before_middle : (n h t : ℕ) (s : ℕ → ℤ) → n ≡ 2 * h → 60 ≤ h → 60 ≤ t → t < n + 60 → unfolded n (kernel n s) ((n - 120) / 2 + t) ≡ neg_ℤ (kernel n s (n + 59 - t))
before_middle n h t s e z l r =
    let a : 3 * h - 1 - ((n - 120) / 2 + t) ≡ n + 59 - t = omega arith in
    unfolded_middle n h ((n - 120) / 2 + t) (kernel n s) e (omega arith) (omega arith) ∙ ap (λ x. neg_ℤ (kernel n s x)) a

before_high : (n h t : ℕ) (s : ℕ → ℤ) → n ≡ 2 * h → 60 ≤ h → n + 60 ≤ t → t < n + 120 → unfolded n (kernel n s) ((n - 120) / 2 + t) ≡ neg_ℤ (kernel n s (n + 59 - (n + 59 - (t - n - 60))))
before_high n h t s e z l r =
    let a : (n - 120) / 2 + t - 3 * h ≡ n + 59 - (n + 59 - (t - n - 60)) = omega arith in
    unfolded_high n h ((n - 120) / 2 + t) (kernel n s) e (omega arith) ∙ ap (λ x. neg_ℤ (kernel n s x)) a

-- ---- the whole

pub record IsWindowed (n : ℕ) (mid start new : List ℤ) : Type 0 where
  pub first : (t : ℕ) → t < 60 → item start t ≡ weighted (neg_ℤ (item mid (119 - t))) t
  pub second : (t : ℕ) → t < 60 → item start (119 - t) ≡ weighted (item mid (119 - t)) (119 - t)
  pub behind : (i : ℕ) → 120 ≤ i → item start i ≡ item mid i
  pub third : (t : ℕ) → t < 60 → item new (n + 59 - t) ≡ weighted (item start (n + 59 - t)) (60 + t)
  pub fourth : (t : ℕ) → t < 60 → item new (n + 60 + t) ≡ weighted (item start (n + 59 - t)) (59 - t)
  pub before : (i : ℕ) → i < n → item new i ≡ item start i

pub whole_value : (n h : ℕ) (s : ℕ → ℤ) (mid start new : List ℤ) → n ≡ 2 * h → 60 ≤ h → ((p : ℕ) → 60 ≤ p → p < n + 60 → item mid p ≡ neg_ℤ (kernel n s (n + 59 - p))) → IsWindowed n mid start new → (p : ℕ) → p < n + 120 → item new p ≡ inverse_value n s p
unfolding inverse_value
whole_value n h s mid start new e z m w p l = elim (cases_lt p 60) [
  | inl a ↦
      w.before p (omega arith) ∙ w.first p a ∙ ap (λ x. weighted (neg_ℤ x) p) (m (119 - p) (omega arith) (omega arith)) ∙ ap (λ x. weighted x p) (neg_ℤ-neg_ℤ (kernel n s (n + 59 - (119 - p))) ∙ sym (before_low n h p s e z a))
      ∙ sym (windowed_low n p (λ u. unfolded n (kernel n s) ((n - 120) / 2 + u)) (omega arith))
  | inr a ↦ elim (cases_lt p 120) [
    | inl b ↦
        let f : 119 - (119 - p) ≡ p = omega arith in
        w.before p (omega arith) ∙ subst (λ x. item start x ≡ weighted (item mid x) x) f (w.second (119 - p) (omega arith))
        ∙ ap (λ x. weighted x p) (m p a (omega arith) ∙ sym (before_middle n h p s e z a (omega arith)))
        ∙ sym (windowed_low n p (λ u. unfolded n (kernel n s) ((n - 120) / 2 + u)) b)
    | inr b ↦ elim (cases_lt p n) [
      | inl d ↦
          w.before p d ∙ w.behind p b ∙ m p a (omega arith) ∙ sym (before_middle n h p s e z a (omega arith))
          ∙ sym (windowed_middle n p (λ u. unfolded n (kernel n s) ((n - 120) / 2 + u)) b d)
      | inr d ↦ elim (cases_lt p (n + 60)) [
        | inl g ↦
            let f : n + 59 - (n + 59 - p) ≡ p = omega arith in
            let k : 60 + (n + 59 - p) ≡ n + 119 - p = omega arith in
            subst (λ x. item new x ≡ weighted (item start x) (60 + (n + 59 - p))) f (w.third (n + 59 - p) (omega arith))
            ∙ ap (λ x. weighted (item start p) x) k ∙ ap (λ x. weighted x (n + 119 - p)) (w.behind p b ∙ m p a g ∙ sym (before_middle n h p s e z a g))
            ∙ sym (windowed_high n p (λ u. unfolded n (kernel n s) ((n - 120) / 2 + u)) b d)
        | inr g ↦
            let t : ℕ = p - n - 60 in
            let f : n + 60 + t ≡ p = omega arith in
            let k : 59 - t ≡ n + 119 - p = omega arith in
            ap (item new) (sym f) ∙ w.fourth t (omega arith) ∙ ap (λ x. weighted (item start (n + 59 - t)) x) k
            ∙ ap (λ x. weighted x (n + 119 - p)) (w.behind (n + 59 - t) (omega arith) ∙ m (n + 59 - t) (omega arith) (omega arith) ∙ sym (before_high n h p s e z g l))
            ∙ sym (windowed_high n p (λ u. unfolded n (kernel n s) ((n - 120) / 2 + u)) b d)
      ]
    ]
  ]
]

pub whole_within : (n m : ℕ) (mid start new : List ℤ) → 120 ≤ n → ((p : ℕ) → 60 ≤ p → p < n + 60 → unsigned_abs (item mid p) ≤ m) → IsWindowed n mid start new → (p : ℕ) → p < n + 120 → unsigned_abs (item new p) ≤ m
whole_within n m mid start new z f w p l = elim (cases_lt p 60) [
  | inl a ↦
      subst (λ x. unsigned_abs x ≤ m) (sym (w.before p (omega arith) ∙ w.first p a))
      (weighted_size (neg_ℤ (item mid (119 - p))) p m (omega arith) (negated_within (item mid (119 - p)) m (f (119 - p) (omega arith) (omega arith))))
  | inr a ↦ elim (cases_lt p 120) [
    | inl b ↦
        let g : 119 - (119 - p) ≡ p = omega arith in
        subst (λ x. unsigned_abs x ≤ m) (sym (w.before p (omega arith) ∙ subst (λ x. item start x ≡ weighted (item mid x) x) g (w.second (119 - p) (omega arith))))
        (weighted_size (item mid p) p m b (f p a (omega arith)))
    | inr b ↦ elim (cases_lt p n) [
      | inl d ↦ subst (λ x. unsigned_abs x ≤ m) (sym (w.before p d ∙ w.behind p b)) (f p a (omega arith))
      | inr d ↦ elim (cases_lt p (n + 60)) [
        | inl g ↦
            let k : n + 59 - (n + 59 - p) ≡ p = omega arith in
            subst (λ x. unsigned_abs x ≤ m) (sym (subst (λ x. item new x ≡ weighted (item start x) (60 + (n + 59 - p))) k (w.third (n + 59 - p) (omega arith)) ∙ ap (λ x. weighted x (60 + (n + 59 - p))) (w.behind p b)))
            (weighted_size (item mid p) (60 + (n + 59 - p)) m (omega arith) (f p a g))
        | inr g ↦
            let t : ℕ = p - n - 60 in
            let k : n + 60 + t ≡ p = omega arith in
            subst (λ x. unsigned_abs x ≤ m) (sym (ap (item new) (sym k) ∙ w.fourth t (omega arith) ∙ ap (λ x. weighted x (59 - t)) (w.behind (n + 59 - t) (omega arith))))
            (weighted_size (item mid (n + 59 - t)) (59 - t) m (omega arith) (f (n + 59 - t) (omega arith) (omega arith)))
      ]
    ]
  ]
]
