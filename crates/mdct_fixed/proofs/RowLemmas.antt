-- Rows: turns by parts of the circle, sums of turned items, and items that are put one after the other.
use Rattle.std.proofs.Common.{◌≡◌, ◌≢◌, ℕ, suc, ◌+◌, ◌*◌, ◌%◌, ◌<◌, ◌≤◌, refl, sym, subst, inl, inr, arith, ap, ◌∙◌}
use Rattle.std.specs.Prelude.{ℤ, neg_ℤ, ◌+ℤ◌}
use Rattle.std.proofs.lemmas.Int.{ints}
use Rattle.std.proofs.lemmas.Nat.{mul-le}
use Rattle.std.proofs.lemmas.Bool.{cases_eq}
use Rattle.std.proofs.Math.IntN.{neg_ℤ-neg_ℤ}
use Rattle.fixed_math.specs.Circle.{cosine, sine}
use Rattle.fixed_math.proofs.AngleLemmas.{quarter_turn, quarter_turn_cosine}
use Rattle.mdct_fixed.specs.declared.complex.Complex.{Complex}
use Rattle.mdct_fixed.specs.declared.complex.Angle.{Angle}
use Rattle.mdct_fixed.specs.declared.rows.Four.{Four}
use Rattle.mdct_fixed.specs.declared.rows.ThreeAngles.{ThreeAngles}
use Rattle.mdct_fixed.specs.Numbers.{plus, spun, turned, angle_at, IsWithin, IsPut}
use Rattle.mdct_fixed.specs.Rows.{AreFourSums, AreThreeAngles, IsAngle, AreFourWithin, IsRowJoined}
use Rattle.mdct_fixed.specs.Transform.{turned_sum}
use Rattle.mdct_fixed.proofs.NumberLemmas.{pair_is}

-- ---- turns by an angle and parts of the circle

same_turn : (z : Complex) (a b d e : ℤ) → a ≡ d → b ≡ e → spun z a b ≡ spun z d e
same_turn z a b d e p q = ap (λ v. spun z v b) p ∙ ap (λ v. spun z d v) q

pub turned_none : (z : Complex) (w : Angle) (b a : ℕ) → w ≡ angle_at b → a ≡ b → turned z a ≡ spun z w.cosine w.sine
unfolding turned
turned_none z w b a e h =
    same_turn z (cosine a) (sine a) w.cosine w.sine (ap cosine h ∙ sym (ap (λ v. v.cosine) e)) (ap sine h ∙ sym (ap (λ v. v.sine) e))

pub turned_one : (z : Complex) (w : Angle) (b a : ℕ) → w ≡ angle_at b → b < 15360 → a ≡ (b + 3840) % 15360 → turned z a ≡ spun z (neg_ℤ w.sine) w.cosine
unfolding turned
turned_one z w b a e l h =
    same_turn z (cosine a) (sine a) (neg_ℤ w.sine) w.cosine
    (ap cosine h ∙ quarter_turn_cosine b l ∙ sym (ap (λ v. neg_ℤ v.sine) e))
    (ap sine h ∙ quarter_turn b l ∙ sym (ap (λ v. v.cosine) e))

half_cosine : (b : ℕ) → b < 15360 → cosine ((b + 7680) % 15360) ≡ neg_ℤ (cosine b)
half_cosine b l =
    let p : (b + 3840) % 15360 < 15360 = omega arith in
    let e : (b + 7680) % 15360 ≡ ((b + 3840) % 15360 + 3840) % 15360 = omega arith in
    ap cosine e ∙ quarter_turn_cosine ((b + 3840) % 15360) p ∙ ap neg_ℤ (quarter_turn b l)

half_sine : (b : ℕ) → b < 15360 → sine ((b + 7680) % 15360) ≡ neg_ℤ (sine b)
half_sine b l =
    let p : (b + 3840) % 15360 < 15360 = omega arith in
    let e : (b + 7680) % 15360 ≡ ((b + 3840) % 15360 + 3840) % 15360 = omega arith in
    ap sine e ∙ quarter_turn ((b + 3840) % 15360) p ∙ quarter_turn_cosine b l

pub turned_two : (z : Complex) (w : Angle) (b a : ℕ) → w ≡ angle_at b → b < 15360 → a ≡ (b + 7680) % 15360 → turned z a ≡ spun z (neg_ℤ w.cosine) (neg_ℤ w.sine)
unfolding turned
turned_two z w b a e l h =
    same_turn z (cosine a) (sine a) (neg_ℤ w.cosine) (neg_ℤ w.sine)
    (ap cosine h ∙ half_cosine b l ∙ sym (ap (λ v. neg_ℤ v.cosine) e))
    (ap sine h ∙ half_sine b l ∙ sym (ap (λ v. neg_ℤ v.sine) e))

pub turned_three : (z : Complex) (w : Angle) (b a : ℕ) → w ≡ angle_at b → b < 15360 → a ≡ (b + 11520) % 15360 → turned z a ≡ spun z w.sine (neg_ℤ w.cosine)
unfolding turned
turned_three z w b a e l h =
    let p : (b + 7680) % 15360 < 15360 = omega arith in
    let g : (b + 11520) % 15360 ≡ ((b + 7680) % 15360 + 3840) % 15360 = omega arith in
    let f : cosine ((b + 11520) % 15360) ≡ sine b = ap cosine g ∙ quarter_turn_cosine ((b + 7680) % 15360) p ∙ ap neg_ℤ (half_sine b l) ∙ neg_ℤ-neg_ℤ (sine b) in
    let d : sine ((b + 11520) % 15360) ≡ neg_ℤ (cosine b) = ap sine g ∙ quarter_turn ((b + 7680) % 15360) p ∙ half_cosine b l in
    same_turn z (cosine a) (sine a) w.sine (neg_ℤ w.cosine)
    (ap cosine h ∙ f ∙ sym (ap (λ v. v.sine) e))
    (ap sine h ∙ d ∙ sym (ap (λ v. neg_ℤ v.cosine) e))

-- ---- sums of turned items

pub two_terms : (g : ℕ → Complex) (a : ℕ) (x : Complex) → turned (g 1) (a * 1 % 15360) ≡ x → turned_sum g a 1 ≡ plus (g 0) x
unfolding turned_sum
two_terms g a x e = ap (λ v. plus (g 0) v) e

pub three_terms : (g : ℕ → Complex) (a : ℕ) (x y : Complex) → turned (g 1) (a * 1 % 15360) ≡ x → turned (g 2) (a * 2 % 15360) ≡ y → turned_sum g a 2 ≡ plus (plus (g 0) x) y
unfolding turned_sum
three_terms g a x y e h = ap (λ v. plus (plus (g 0) v) (turned (g 2) (a * 2 % 15360))) e ∙ ap (λ v. plus (plus (g 0) x) v) h

pub four_terms : (g : ℕ → Complex) (a : ℕ) (x y z : Complex) → turned (g 1) (a * 1 % 15360) ≡ x → turned (g 2) (a * 2 % 15360) ≡ y → turned (g 3) (a * 3 % 15360) ≡ z → turned_sum g a 3 ≡ plus (plus (plus (g 0) x) y) z
unfolding turned_sum
four_terms g a x y z e h i =
    ap (λ v. plus (plus (plus (g 0) v) (turned (g 2) (a * 2 % 15360))) (turned (g 3) (a * 3 % 15360))) e
    ∙ ap (λ v. plus (plus (plus (g 0) x) v) (turned (g 3) (a * 3 % 15360))) h
    ∙ ap (λ v. plus (plus (plus (g 0) x) y) v) i

pub five_terms : (g : ℕ → Complex) (a : ℕ) (x y z u : Complex) → turned (g 1) (a * 1 % 15360) ≡ x → turned (g 2) (a * 2 % 15360) ≡ y → turned (g 3) (a * 3 % 15360) ≡ z → turned (g 4) (a * 4 % 15360) ≡ u → turned_sum g a 4 ≡ plus (plus (plus (plus (g 0) x) y) z) u
unfolding turned_sum
five_terms g a x y z u e h i j =
    ap (λ v. plus (plus (plus (plus (g 0) v) (turned (g 2) (a * 2 % 15360))) (turned (g 3) (a * 3 % 15360))) (turned (g 4) (a * 4 % 15360))) e
    ∙ ap (λ v. plus (plus (plus (plus (g 0) x) v) (turned (g 3) (a * 3 % 15360))) (turned (g 4) (a * 4 % 15360))) h
    ∙ ap (λ v. plus (plus (plus (plus (g 0) x) y) v) (turned (g 4) (a * 4 % 15360))) i
    ∙ ap (λ v. plus (plus (plus (plus (g 0) x) y) z) v) j

-- ---- items that are put one after the other

-- the r items that stand m places apart from p on are those of f
pub record ArePut (r m p : ℕ) (f : ℕ → Complex) (old new : ℕ → Complex) : Type 0 where
  pub here : (q : ℕ) → q < r → new (p + q * m) ≡ f q
  pub others : (i : ℕ) → ((q : ℕ) → q < r → i ≢ p + q * m) → new i ≡ old i

pub put_none : (m p : ℕ) (f : ℕ → Complex) (old : ℕ → Complex) → ArePut 0 m p f old old
put_none m p f old = record { here = λ q h. absurd (omega arith); others = λ i h. refl }

apart : (p m q r : ℕ) → 0 < m → q < r → p + q * m ≢ p + r * m
apart p m q r h l e =
    let a : (q + 1) * m ≤ r * m = mul-le (q + 1) m r m (omega arith) (omega arith) in
    omega arith

pub put_more : (r m p i : ℕ) (f old mid new : ℕ → Complex) (z : Complex) → 0 < m → i ≡ p + r * m → z ≡ f r → IsPut i z mid new → ArePut r m p f old mid → ArePut (suc r) m p f old new
put_more r m p i f old mid new z h e v t s = record { here = here; others = others }
  where
    here : (q : ℕ) → q < suc r → new (p + q * m) ≡ f q
    here q l = elim (cases_eq q r) [
      | inl w ↦ rw w (ap new (sym e) ∙ t.here ∙ v)
      | inr w ↦
          let less : q < r = smaller q r l w in
          let ne : p + q * m ≢ i = λ d. apart p m q r h less (d ∙ e) in
          t.others (p + q * m) ne ∙ s.here q less
    ]
      where
        smaller : (q r : ℕ) → q < suc r → (q ≡ r → ⊥) → q < r
        smaller q r l w = omega arith

    others : (k : ℕ) → ((q : ℕ) → q < suc r → k ≢ p + q * m) → new k ≡ old k
    others k g =
        let ne : k ≢ i = λ d. g r (omega arith) (d ∙ e) in
        t.others k ne ∙ s.others k (λ q l. g q (omega arith))

pub first_within : (old : ℕ → Complex) (p m r n k : ℕ) (x : Complex) → ((q : ℕ) → q < r → IsWithin n (old (p + q * m))) → 0 < r → x ≡ old p → n ≤ k → IsWithin k x
first_within old p m r n k x h l e f =
    let d : p + 0 * m ≡ p = omega arith in
    wider n k x f (subst (IsWithin n) (ap old d ∙ sym e) (h 0 l))
  where
    wider : (n k : ℕ) (x : Complex) → n ≤ k → IsWithin n x → IsWithin k x
    wider n k x f w =
        let a = w.re in
        let b = w.im in
        record { re = omega arith; im = omega arith }

pub row_within : (old : ℕ → Complex) (p m r n q i : ℕ) (x : Complex) → ((q : ℕ) → q < r → IsWithin n (old (p + q * m))) → q < r → i ≡ p + q * m → x ≡ old i → IsWithin n x
row_within old p m r n q i x h l d e = subst (IsWithin n) (sym (e ∙ ap old d)) (h q l)

-- ---- radix 2

pub two_joined : (m p a : ℕ) (old one two : ℕ → Complex) (x y z u : Complex) (w : Angle) → 0 < m → IsAngle a w → x ≡ old p → y ≡ old (p + m) → z ≡ plus x (spun y w.cosine w.sine) → u ≡ plus x (spun y (neg_ℤ w.cosine) (neg_ℤ w.sine)) → IsPut p z old one → IsPut (p + m) u one two → IsRowJoined 2 m p a old two
two_joined m p a old one two x y z u w h e ex ey ez eu s t =
    let r = put_more 1 m p (p + m) f old one two u h (omega arith) second t (put_more 0 m p p f old old one z h (omega arith) first s (put_none m p f old)) in
    record { sums = r.here; others = r.others }
  where
    g : ℕ → Complex
    g j = old (p + j * m)

    f : ℕ → Complex
    f q = turned_sum g (a + 7680 * q) 1

    start : x ≡ g 0
    start = let d : p ≡ p + 0 * m = omega arith in ex ∙ ap old d

    next : y ≡ g 1
    next = let d : p + m ≡ p + 1 * m = omega arith in ey ∙ ap old d

    first : z ≡ f 0
    first =
        let d : (a + 7680 * 0) * 1 % 15360 ≡ a % 15360 = omega arith in
        ez ∙ ap (λ v. plus v (spun y w.cosine w.sine)) start ∙ ap (λ v. plus (g 0) (spun v w.cosine w.sine)) next
        ∙ sym (two_terms g (a + 7680 * 0) (spun (g 1) w.cosine w.sine) (turned_none (g 1) w (a % 15360) _ e d))

    second : u ≡ f 1
    second =
        let d : (a + 7680 * 1) * 1 % 15360 ≡ (a % 15360 + 7680) % 15360 = omega arith in
        let l : a % 15360 < 15360 = omega arith in
        eu ∙ ap (λ v. plus v (spun y (neg_ℤ w.cosine) (neg_ℤ w.sine))) start ∙ ap (λ v. plus (g 0) (spun v (neg_ℤ w.cosine) (neg_ℤ w.sine))) next
        ∙ sym (two_terms g (a + 7680 * 1) (spun (g 1) (neg_ℤ w.cosine) (neg_ℤ w.sine)) (turned_two (g 1) w (a % 15360) _ e l d))

-- ---- radix 4

-- the sum with the third item added first is the same
pub in_order : (a b d e : Complex) → plus (plus (plus a d) b) e ≡ plus (plus (plus a b) d) e
in_order a b d e = pair_is _ _ _ _ (moved a.re b.re d.re e.re) (moved a.im b.im d.im e.im)
  where
    moved : (a b d e : ℤ) → a +ℤ d +ℤ b +ℤ e ≡ a +ℤ b +ℤ d +ℤ e
    moved a b d e = omega (arith, ints)

-- the same with each term as it was worked out
pub reordered : (y x1 x2 x3 : Complex) → {r s b0 d0 e0 : Complex} → r ≡ plus (plus s b0) e0 → s ≡ plus y d0 → b0 ≡ x1 → d0 ≡ x2 → e0 ≡ x3 → r ≡ plus (plus (plus y x1) x2) x3
reordered y x1 x2 x3 {r} {s} {b0} {d0} {e0} er es eb ed ee =
    er ∙ ap (λ v. plus (plus v b0) e0) es ∙ in_order y b0 d0 e0
    ∙ ap (λ v. plus (plus (plus y v) d0) e0) eb ∙ ap (λ v. plus (plus (plus y x1) v) e0) ed ∙ ap (λ v. plus (plus (plus y x1) x2) v) ee

pub record IsFourOf (old : ℕ → Complex) (p m : ℕ) (y : Four) : Type 0 where
  pub first : y.first ≡ old p
  pub second : y.second ≡ old (p + m)
  pub third : y.third ≡ old (p + 2 * m)
  pub fourth : y.fourth ≡ old (p + 3 * m)

pub four_within : (old : ℕ → Complex) (p m n : ℕ) (y : Four) → ((q : ℕ) → q < 4 → IsWithin n (old (p + q * m))) → IsFourOf old p m y → AreFourWithin n y
four_within old p m n y h s =
    let d : p + 0 * m ≡ p = omega arith in
    let e : p + 1 * m ≡ p + m = omega arith in
    record {
      first = subst (IsWithin n) (ap old d ∙ sym s.first) (h 0 (omega arith));
      second = subst (IsWithin n) (ap old e ∙ sym s.second) (h 1 (omega arith));
      third = subst (IsWithin n) (sym s.third) (h 2 (omega arith));
      fourth = subst (IsWithin n) (sym s.fourth) (h 3 (omega arith));
    }

pub four_joined : (m p a : ℕ) (old one two three four : ℕ → Complex) (y z : Four) (w : ThreeAngles) → 0 < m → AreThreeAngles a w → IsFourOf old p m y → AreFourSums y w z → IsPut p z.first old one → IsPut (p + m) z.second one two → IsPut (p + 2 * m) z.third two three → IsPut (p + 3 * m) z.fourth three four → IsRowJoined 4 m p a old four
four_joined m p a old one two three four y z w h e i j s t u v =
    let r1 = put_more 0 m p p f old old one z.first h (omega arith) first s (put_none m p f old) in
    let r2 = put_more 1 m p (p + m) f old one two z.second h (omega arith) second t r1 in
    let r3 = put_more 2 m p (p + 2 * m) f old two three z.third h refl third u r2 in
    let r4 = put_more 3 m p (p + 3 * m) f old three four z.fourth h refl fourth v r3 in
    record { sums = r4.here; others = r4.others }
  where
    g : ℕ → Complex
    g k = old (p + k * m)

    f : ℕ → Complex
    f q = turned_sum g (a + 3840 * q) 3

    start : y.first ≡ g 0
    start = let d : p ≡ p + 0 * m = omega arith in i.first ∙ ap old d

    next : y.second ≡ g 1
    next = let d : p + m ≡ p + 1 * m = omega arith in i.second ∙ ap old d

    of_row : (x : Complex) (c1 s1 c2 s2 c3 s3 : ℤ) → x ≡ plus (plus (plus y.first (spun y.second c1 s1)) (spun y.third c2 s2)) (spun y.fourth c3 s3) → x ≡ plus (plus (plus (g 0) (spun (g 1) c1 s1)) (spun (g 2) c2 s2)) (spun (g 3) c3 s3)
    of_row x c1 s1 c2 s2 c3 s3 d =
        d ∙ ap (λ v. plus (plus (plus v (spun y.second c1 s1)) (spun y.third c2 s2)) (spun y.fourth c3 s3)) start
        ∙ ap (λ v. plus (plus (plus (g 0) (spun v c1 s1)) (spun y.third c2 s2)) (spun y.fourth c3 s3)) next
        ∙ ap (λ v. plus (plus (plus (g 0) (spun (g 1) c1 s1)) (spun v c2 s2)) (spun y.fourth c3 s3)) i.third
        ∙ ap (λ v. plus (plus (plus (g 0) (spun (g 1) c1 s1)) (spun (g 2) c2 s2)) (spun v c3 s3)) i.fourth

    l1 : a * 1 % 15360 < 15360
    l1 = omega arith

    l2 : a * 2 % 15360 < 15360
    l2 = omega arith

    l3 : a * 3 % 15360 < 15360
    l3 = omega arith

    first : z.first ≡ f 0
    first =
        let d1 : (a + 3840 * 0) * 1 % 15360 ≡ a * 1 % 15360 = omega arith in
        let d2 : (a + 3840 * 0) * 2 % 15360 ≡ a * 2 % 15360 = omega arith in
        let d3 : (a + 3840 * 0) * 3 % 15360 ≡ a * 3 % 15360 = omega arith in
        of_row z.first _ _ _ _ _ _ j.first
        ∙ sym (four_terms g (a + 3840 * 0) _ _ _ (turned_none (g 1) w.second (a * 1 % 15360) _ e.second d1) (turned_none (g 2) w.third (a * 2 % 15360) _ e.third d2) (turned_none (g 3) w.fourth (a * 3 % 15360) _ e.fourth d3))

    second : z.second ≡ f 1
    second =
        let d1 : (a + 3840 * 1) * 1 % 15360 ≡ (a * 1 % 15360 + 3840) % 15360 = omega arith in
        let d2 : (a + 3840 * 1) * 2 % 15360 ≡ (a * 2 % 15360 + 7680) % 15360 = omega arith in
        let d3 : (a + 3840 * 1) * 3 % 15360 ≡ (a * 3 % 15360 + 11520) % 15360 = omega arith in
        of_row z.second _ _ _ _ _ _ j.second
        ∙ sym (four_terms g (a + 3840 * 1) _ _ _ (turned_one (g 1) w.second (a * 1 % 15360) _ e.second l1 d1) (turned_two (g 2) w.third (a * 2 % 15360) _ e.third l2 d2) (turned_three (g 3) w.fourth (a * 3 % 15360) _ e.fourth l3 d3))

    third : z.third ≡ f 2
    third =
        let d1 : (a + 3840 * 2) * 1 % 15360 ≡ (a * 1 % 15360 + 7680) % 15360 = omega arith in
        let d2 : (a + 3840 * 2) * 2 % 15360 ≡ a * 2 % 15360 = omega arith in
        let d3 : (a + 3840 * 2) * 3 % 15360 ≡ (a * 3 % 15360 + 7680) % 15360 = omega arith in
        of_row z.third _ _ _ _ _ _ j.third
        ∙ sym (four_terms g (a + 3840 * 2) _ _ _ (turned_two (g 1) w.second (a * 1 % 15360) _ e.second l1 d1) (turned_none (g 2) w.third (a * 2 % 15360) _ e.third d2) (turned_two (g 3) w.fourth (a * 3 % 15360) _ e.fourth l3 d3))

    fourth : z.fourth ≡ f 3
    fourth =
        let d1 : (a + 3840 * 3) * 1 % 15360 ≡ (a * 1 % 15360 + 11520) % 15360 = omega arith in
        let d2 : (a + 3840 * 3) * 2 % 15360 ≡ (a * 2 % 15360 + 7680) % 15360 = omega arith in
        let d3 : (a + 3840 * 3) * 3 % 15360 ≡ (a * 3 % 15360 + 3840) % 15360 = omega arith in
        of_row z.fourth _ _ _ _ _ _ j.fourth
        ∙ sym (four_terms g (a + 3840 * 3) _ _ _ (turned_three (g 1) w.second (a * 1 % 15360) _ e.second l1 d1) (turned_two (g 2) w.third (a * 2 % 15360) _ e.third l2 d2) (turned_one (g 3) w.fourth (a * 3 % 15360) _ e.fourth l3 d3))
