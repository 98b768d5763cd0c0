-- Fifths and thirds of the circle, and rows of radix 3 and 5.
use Rattle.std.proofs.Common.{◌≡◌, ℕ, ◌+◌, ◌-◌, ◌*◌, ◌%◌, ◌^◌, ◌<◌, ◌≤◌, refl, sym, subst, arith, ap, ◌∙◌}
use Rattle.std.specs.Prelude.{ℤ, pos, negsuc, neg_ℤ, ◌+ℤ◌, ◌-ℤ◌, ◌*ℤ◌, unsigned_abs, FitsSigned}
use Rattle.std.specs.Int.{w64}
use Rattle.std.proofs.lemmas.Int.{ints, fits_signed_from_abs}
use Rattle.fixed_math.specs.Circle.{cosine, sine, narrowed, point_by}
use Rattle.fixed_math.specs.Rounding.{rounded}
use Rattle.fixed_math.proofs.AngleLemmas.{at, cosine_first, cosine_second, sine_first, sine_second, quarter_cosine-at, mirror_cosine, mirror_sine, cosine-zero, sine-zero}
use Rattle.fixed_math.proofs.IntLemmas.{*ℤ-neg_ℤ}
use Rattle.fixed_math.proofs.RoundingLemmas.{shr_low, shr_high}
use Rattle.mdct_fixed.specs.declared.complex.Complex.{Complex}
use Rattle.mdct_fixed.specs.declared.complex.Angle.{Angle}
use Rattle.mdct_fixed.specs.declared.rows.Five.{Five}
use Rattle.mdct_fixed.specs.declared.rows.Parts.{Parts}
use Rattle.mdct_fixed.specs.declared.rows.TwoAngles.{TwoAngles}
use Rattle.mdct_fixed.specs.declared.rows.SixAngles.{SixAngles}
use Rattle.mdct_fixed.specs.Numbers.{plus, spun, swapped, turned, angle_at, IsWithin, IsPut}
use Rattle.mdct_fixed.specs.Rows.{AreTwoAngles, AreSixAngles, AreFiveWithin, AreFiveSums, ArePartsWithin, IsRowJoined}
use Rattle.mdct_fixed.specs.Transform.{turned_sum}
use Rattle.mdct_fixed.proofs.NumberLemmas.{pair_is}
use Rattle.mdct_fixed.proofs.RowLemmas.{turned_none, three_terms, five_terms, put_none, put_more}

-- ---- the cosines and sines of fifths

entry_3072 : narrowed (at 3072).x ≡ pos 10126
unfolding at point_by
entry_3072 = refl

entry_768 : narrowed (at 768).x ≡ pos 31164
unfolding at point_by
entry_768 = refl

entry_1536 : narrowed (at 1536).x ≡ pos 26510
unfolding at point_by
entry_1536 = refl

entry_2304 : narrowed (at 2304).x ≡ pos 19261
unfolding at point_by
entry_2304 = refl

angle_is : (c s d t : ℤ) → c ≡ d → s ≡ t → ◌≡◌ {A = Angle} (record { cosine = c; sine = s }) (record { cosine = d; sine = t })
angle_is c s d t p q = ap (λ v. record { cosine = v; sine = s }) p ∙ ap (λ v. record { cosine = d; sine = v }) q

pub fifth_is : ◌≡◌ {A = Angle} (record { cosine = pos 10126; sine = pos 31164 }) (angle_at 3072)
fifth_is =
    angle_is _ _ _ _
    (sym (cosine_first 3072 (omega arith) ∙ quarter_cosine-at 3072 ∙ entry_3072))
    (sym (sine_first 3072 (omega arith) ∙ quarter_cosine-at 768 ∙ entry_768))

pub two_fifths_are : ◌≡◌ {A = Angle} (record { cosine = negsuc 26509; sine = pos 19261 }) (angle_at 6144)
two_fifths_are =
    angle_is _ _ _ _
    (sym (cosine_second 6144 (omega arith) (omega arith) ∙ ap neg_ℤ (quarter_cosine-at 1536 ∙ entry_1536)))
    (sym (sine_second 6144 (omega arith) (omega arith) ∙ quarter_cosine-at 2304 ∙ entry_2304))

-- ---- and of a third

entry_2560 : narrowed (at 2560).x ≡ pos 16384
unfolding at point_by
entry_2560 = refl

entry_1280 : narrowed (at 1280).x ≡ pos 28378
unfolding at point_by
entry_1280 = refl

pub third_is : ◌≡◌ {A = Angle} (record { cosine = negsuc 16383; sine = pos 28378 }) (angle_at 5120)
third_is =
    angle_is _ _ _ _
    (sym (cosine_second 5120 (omega arith) (omega arith) ∙ ap neg_ℤ (quarter_cosine-at 2560 ∙ entry_2560)))
    (sym (sine_second 5120 (omega arith) (omega arith) ∙ quarter_cosine-at 1280 ∙ entry_1280))

-- ---- turns forwards and backwards

pub ahead_is : (z : Complex) (w : Angle) (a : ℕ) → w ≡ angle_at a → (spun z w.cosine w.sine).re ≡ (turned z a).re
unfolding turned
ahead_is z w a e = ap (λ v. (spun z v.cosine v.sine).re) e

pub behind_is : (z : Complex) (w : Angle) (a b : ℕ) → w ≡ angle_at a → 0 < a → a < 15360 → b ≡ 15360 - a → (spun z w.cosine (neg_ℤ w.sine)).re ≡ (turned z b).re
unfolding turned
behind_is z w a b e l h f =
    ap (λ v. (spun z v.cosine (neg_ℤ v.sine)).re) e
    ∙ ap (λ v. rounded (z.re *ℤ v +ℤ z.im *ℤ neg_ℤ (sine a)) 15) (sym (ap cosine f ∙ mirror_cosine a l h))
    ∙ ap (λ v. rounded (z.re *ℤ cosine b +ℤ z.im *ℤ v) 15) (sym (ap sine f ∙ mirror_sine a l h))

-- the second part of a turn is the first of the exchanged number, turned backwards
pub swapped_is : (z : Complex) (a b : ℕ) → 0 < a → a < 15360 → b ≡ 15360 - a → (turned (swapped z) b).re ≡ (turned z a).im
unfolding turned
swapped_is z a b l h f =
    ap (λ v. rounded (z.im *ℤ v +ℤ z.re *ℤ sine b) 15) (ap cosine f ∙ mirror_cosine a l h)
    ∙ ap (λ v. rounded (z.im *ℤ cosine a +ℤ z.re *ℤ v) 15) (ap sine f ∙ mirror_sine a l h)
    ∙ ap (λ v. rounded (z.im *ℤ cosine a +ℤ v) 15) (*ℤ-neg_ℤ z.re (sine a))

pub not_turned : (z : Complex) → turned z 0 ≡ z
unfolding turned
not_turned z = pair_is _ _ _ _ re im
  where
    re : rounded (z.re *ℤ cosine 0 +ℤ z.im *ℤ sine 0) 15 ≡ z.re
    re = ap (λ v. rounded (z.re *ℤ v +ℤ z.im *ℤ sine 0) 15) cosine-zero ∙ ap (λ v. rounded (z.re *ℤ pos 32768 +ℤ z.im *ℤ v) 15) sine-zero ∙ same z.re z.im
      where
        same : (x y : ℤ) → rounded (x *ℤ pos 32768 +ℤ y *ℤ pos 0) 15 ≡ x
        same x y = omega (arith, ints, shr_low (x *ℤ pos 32768 +ℤ y *ℤ pos 0 +ℤ pos 16384) 15, shr_high (x *ℤ pos 32768 +ℤ y *ℤ pos 0 +ℤ pos 16384) 15)

    im : rounded (z.im *ℤ cosine 0 -ℤ z.re *ℤ sine 0) 15 ≡ z.im
    im = ap (λ v. rounded (z.im *ℤ v -ℤ z.re *ℤ sine 0) 15) cosine-zero ∙ ap (λ v. rounded (z.im *ℤ pos 32768 -ℤ z.re *ℤ v) 15) sine-zero ∙ same z.im z.re
      where
        same : (x y : ℤ) → rounded (x *ℤ pos 32768 -ℤ y *ℤ pos 0) 15 ≡ x
        same x y = omega (arith, ints, shr_low (x *ℤ pos 32768 -ℤ y *ℤ pos 0 +ℤ pos 16384) 15, shr_high (x *ℤ pos 32768 -ℤ y *ℤ pos 0 +ℤ pos 16384) 15)

-- ---- sums of five

pub record FiveSteps (a b d e f : ℤ) : Type 0 where
  pub first : FitsSigned w64 a
  pub second : FitsSigned w64 b
  pub third : FitsSigned w64 d
  pub fourth : FitsSigned w64 e
  pub fifth : FitsSigned w64 f
  pub two : FitsSigned w64 (a +ℤ b)
  pub three : FitsSigned w64 (a +ℤ b +ℤ d)
  pub four : FitsSigned w64 (a +ℤ b +ℤ d +ℤ e)
  pub five : FitsSigned w64 (a +ℤ b +ℤ d +ℤ e +ℤ f)

pub five_steps : (a b d e f : ℤ) → unsigned_abs a ≤ 2 ^ 48 → unsigned_abs b ≤ 2 ^ 48 → unsigned_abs d ≤ 2 ^ 48 → unsigned_abs e ≤ 2 ^ 48 → unsigned_abs f ≤ 2 ^ 48 → FiveSteps a b d e f
five_steps a b d e f p q r s t = record {
  first = fits a (omega arith);
  second = fits b (omega arith);
  third = fits d (omega arith);
  fourth = fits e (omega arith);
  fifth = fits f (omega arith);
  two = fits (a +ℤ b) (omega (arith, ints));
  three = fits (a +ℤ b +ℤ d) (omega (arith, ints));
  four = fits (a +ℤ b +ℤ d +ℤ e) (omega (arith, ints));
  five = fits (a +ℤ b +ℤ d +ℤ e +ℤ f) (omega (arith, ints));
}
  where
    fits : (z : ℤ) → unsigned_abs z < 2 ^ 63 → FitsSigned w64 z
    fits z h = fits_signed_from_abs w64 z h

pub same_five : {a b d e f s t u v w : ℤ} → a ≡ s → b ≡ t → d ≡ u → e ≡ v → f ≡ w → a +ℤ b +ℤ d +ℤ e +ℤ f ≡ s +ℤ t +ℤ u +ℤ v +ℤ w
same_five {a} {b} {d} {e} {f} {s} {t} {u} {v} {w} p q r x y =
    ap (λ n. n +ℤ b +ℤ d +ℤ e +ℤ f) p ∙ ap (λ n. s +ℤ n +ℤ d +ℤ e +ℤ f) q ∙ ap (λ n. s +ℤ t +ℤ n +ℤ e +ℤ f) r ∙ ap (λ n. s +ℤ t +ℤ u +ℤ n +ℤ f) x ∙ ap (λ n. s +ℤ t +ℤ u +ℤ v +ℤ n) y

pub four_steps : (x a b d e p q r s : ℤ) → p ≡ x +ℤ a → q ≡ p +ℤ b → r ≡ q +ℤ d → s ≡ r +ℤ e → s ≡ x +ℤ a +ℤ b +ℤ d +ℤ e
four_steps x a b d e p q r s f g h i =
    i ∙ ap (λ v. v +ℤ e) h ∙ ap (λ v. v +ℤ d +ℤ e) g ∙ ap (λ v. v +ℤ b +ℤ d +ℤ e) f

pub parts_wider : (m n : ℕ) (p : Parts) → m ≤ n → ArePartsWithin m p → ArePartsWithin n p
parts_wider m n p h w =
    let a = w.second in
    let b = w.third in
    let d = w.fourth in
    let e = w.fifth in
    record { second = omega arith; third = omega arith; fourth = omega arith; fifth = omega arith }

pub record AreSwapped (y x : Five) : Type 0 where
  pub first : x.first ≡ swapped y.first
  pub second : x.second ≡ swapped y.second
  pub third : x.third ≡ swapped y.third
  pub fourth : x.fourth ≡ swapped y.fourth
  pub fifth : x.fifth ≡ swapped y.fifth

pub swapped_within : (n : ℕ) (y x : Complex) → x ≡ swapped y → IsWithin n y → IsWithin n x
swapped_within n y x e h = subst (IsWithin n) (sym e) (record { re = h.im; im = h.re })

pub five_swapped_within : (n : ℕ) (y x : Five) → AreSwapped y x → AreFiveWithin n y → AreFiveWithin n x
five_swapped_within n y x s h = record {
  first = swapped_within n y.first x.first s.first h.first;
  second = swapped_within n y.second x.second s.second h.second;
  third = swapped_within n y.third x.third s.third h.third;
  fourth = swapped_within n y.fourth x.fourth s.fourth h.fourth;
  fifth = swapped_within n y.fifth x.fifth s.fifth h.fifth;
}

-- a second part from the sums of the exchanged items
pub second_part : (y x : Five) (a b d e a2 b2 d2 e2 : ℕ) (v : ℤ) → AreSwapped y x → v ≡ x.first.re +ℤ (turned x.second a).re +ℤ (turned x.third b).re +ℤ (turned x.fourth d).re +ℤ (turned x.fifth e).re
    → (0 < a2) × (a2 < 15360) × (a ≡ 15360 - a2) → (0 < b2) × (b2 < 15360) × (b ≡ 15360 - b2) → (0 < d2) × (d2 < 15360) × (d ≡ 15360 - d2) → (0 < e2) × (e2 < 15360) × (e ≡ 15360 - e2)
    → v ≡ y.first.im +ℤ (turned y.second a2).im +ℤ (turned y.third b2).im +ℤ (turned y.fourth d2).im +ℤ (turned y.fifth e2).im
second_part y x a b d e a2 b2 d2 e2 v s h p q r t =
    h ∙ same_five (ap (λ n. n.re) s.first)
    (ap (λ n. (turned n a).re) s.second ∙ swapped_is y.second a2 a p.0 p.1 p.2)
    (ap (λ n. (turned n b).re) s.third ∙ swapped_is y.third b2 b q.0 q.1 q.2)
    (ap (λ n. (turned n d).re) s.fourth ∙ swapped_is y.fourth d2 d r.0 r.1 r.2)
    (ap (λ n. (turned n e).re) s.fifth ∙ swapped_is y.fifth e2 e t.0 t.1 t.2)

-- ---- radix 5

pub record IsFiveOf (old : ℕ → Complex) (p m : ℕ) (y : Five) : Type 0 where
  pub first : y.first ≡ old p
  pub second : y.second ≡ old (p + m)
  pub third : y.third ≡ old (p + 2 * m)
  pub fourth : y.fourth ≡ old (p + 3 * m)
  pub fifth : y.fifth ≡ old (p + 4 * m)

pub five_within : (old : ℕ → Complex) (p m n : ℕ) (y : Five) → ((q : ℕ) → q < 5 → IsWithin n (old (p + q * m))) → IsFiveOf old p m y → AreFiveWithin n y
five_within old p m n y h s =
    let d : p + 0 * m ≡ p = omega arith in
    let e : p + 1 * m ≡ p + m = omega arith in
    record {
      first = subst (IsWithin n) (ap old d ∙ sym s.first) (h 0 (omega arith));
      second = subst (IsWithin n) (ap old e ∙ sym s.second) (h 1 (omega arith));
      third = subst (IsWithin n) (sym s.third) (h 2 (omega arith));
      fourth = subst (IsWithin n) (sym s.fourth) (h 3 (omega arith));
      fifth = subst (IsWithin n) (sym s.fifth) (h 4 (omega arith));
    }

pub five_joined : (m p : ℕ) (old one two three four five : ℕ → Complex) (y z : Five) → 0 < m → IsFiveOf old p m y → AreFiveSums y z → IsPut p z.first old one → IsPut (p + m) z.second one two → IsPut (p + 2 * m) z.third two three → IsPut (p + 3 * m) z.fourth three four → IsPut (p + 4 * m) z.fifth four five → IsRowJoined 5 m p 0 old five
five_joined m p old one two three four five y z h i j s t u v w =
    let r1 = put_more 0 m p p f old old one z.first h (omega arith) first s (put_none m p f old) in
    let r2 = put_more 1 m p (p + m) f old one two z.second h (omega arith) (of_row z.second 1 3072 6144 9216 12288 refl refl refl refl j.second) t r1 in
    let r3 = put_more 2 m p (p + 2 * m) f old two three z.third h refl (of_row z.third 2 6144 12288 3072 9216 refl refl refl refl j.third) u r2 in
    let r4 = put_more 3 m p (p + 3 * m) f old three four z.fourth h refl (of_row z.fourth 3 9216 3072 12288 6144 refl refl refl refl j.fourth) v r3 in
    let r5 = put_more 4 m p (p + 4 * m) f old four five z.fifth h refl (of_row z.fifth 4 12288 9216 6144 3072 refl refl refl refl j.fifth) w r4 in
    record { sums = r5.here; others = r5.others }
  where
    g : ℕ → Complex
    g k = old (p + k * m)

    f : ℕ → Complex
    f q = turned_sum g (0 + 3072 * q) 4

    start : y.first ≡ g 0
    start = let d : p ≡ p + 0 * m = omega arith in i.first ∙ ap old d

    next : y.second ≡ g 1
    next = let d : p + m ≡ p + 1 * m = omega arith in i.second ∙ ap old d

    -- item q from its four angles
    of_row : (x : Complex) (q a b d e : ℕ) → (0 + 3072 * q) * 1 % 15360 ≡ a → (0 + 3072 * q) * 2 % 15360 ≡ b → (0 + 3072 * q) * 3 % 15360 ≡ d → (0 + 3072 * q) * 4 % 15360 ≡ e → x ≡ plus (plus (plus (plus y.first (turned y.second a)) (turned y.third b)) (turned y.fourth d)) (turned y.fifth e) → x ≡ f q
    of_row x q a b d e ea eb ed ee l =
        l ∙ ap (λ n. plus (plus (plus (plus n (turned y.second a)) (turned y.third b)) (turned y.fourth d)) (turned y.fifth e)) start
        ∙ ap (λ n. plus (plus (plus (plus (g 0) (turned n a)) (turned y.third b)) (turned y.fourth d)) (turned y.fifth e)) next
        ∙ ap (λ n. plus (plus (plus (plus (g 0) (turned (g 1) a)) (turned n b)) (turned y.fourth d)) (turned y.fifth e)) i.third
        ∙ ap (λ n. plus (plus (plus (plus (g 0) (turned (g 1) a)) (turned (g 2) b)) (turned n d)) (turned y.fifth e)) i.fourth
        ∙ ap (λ n. plus (plus (plus (plus (g 0) (turned (g 1) a)) (turned (g 2) b)) (turned (g 3) d)) (turned n e)) i.fifth
        ∙ sym (five_terms g (0 + 3072 * q) _ _ _ _ (ap (turned (g 1)) ea) (ap (turned (g 2)) eb) (ap (turned (g 3)) ed) (ap (turned (g 4)) ee))

    first : z.first ≡ f 0
    first =
        j.first ∙ ap (λ n. plus (plus (plus (plus n y.second) y.third) y.fourth) y.fifth) start
        ∙ ap (λ n. plus (plus (plus (plus (g 0) n) y.third) y.fourth) y.fifth) next
        ∙ ap (λ n. plus (plus (plus (plus (g 0) (g 1)) n) y.fourth) y.fifth) i.third
        ∙ ap (λ n. plus (plus (plus (plus (g 0) (g 1)) (g 2)) n) y.fifth) i.fourth
        ∙ ap (λ n. plus (plus (plus (plus (g 0) (g 1)) (g 2)) (g 3)) n) i.fifth
        ∙ sym (five_terms g (0 + 3072 * 0) (g 1) (g 2) (g 3) (g 4) (not_turned (g 1)) (not_turned (g 2)) (not_turned (g 3)) (not_turned (g 4)))

-- ---- radix 3

pub three_value : (g : ℕ → Complex) (a : ℕ) (x y z u : Complex) (w : TwoAngles) → AreTwoAngles a w → x ≡ g 0 → y ≡ g 1 → z ≡ g 2 → u ≡ plus (plus x (spun y w.second.cosine w.second.sine)) (spun z w.third.cosine w.third.sine) → u ≡ turned_sum g a 2
three_value g a x y z u w h ex ey ez eu =
    eu ∙ ap (λ v. plus (plus v (spun y w.second.cosine w.second.sine)) (spun z w.third.cosine w.third.sine)) ex
    ∙ ap (λ v. plus (plus (g 0) (spun v w.second.cosine w.second.sine)) (spun z w.third.cosine w.third.sine)) ey
    ∙ ap (λ v. plus (plus (g 0) (spun (g 1) w.second.cosine w.second.sine)) (spun v w.third.cosine w.third.sine)) ez
    ∙ sym (three_terms g a _ _ (turned_none (g 1) w.second (a * 1 % 15360) _ h.second refl) (turned_none (g 2) w.third (a * 2 % 15360) _ h.third refl))

pub three_joined : (m p a : ℕ) (old one two three : ℕ → Complex) (x y z u1 u2 u3 : Complex) (w : SixAngles) → 0 < m → AreSixAngles a w → x ≡ old p → y ≡ old (p + m) → z ≡ old (p + 2 * m)
    → u1 ≡ plus (plus x (spun y w.first.second.cosine w.first.second.sine)) (spun z w.first.third.cosine w.first.third.sine)
    → u2 ≡ plus (plus x (spun y w.second.second.cosine w.second.second.sine)) (spun z w.second.third.cosine w.second.third.sine)
    → u3 ≡ plus (plus x (spun y w.third.second.cosine w.third.second.sine)) (spun z w.third.third.cosine w.third.third.sine)
    → IsPut p u1 old one → IsPut (p + m) u2 one two → IsPut (p + 2 * m) u3 two three → IsRowJoined 3 m p a old three
three_joined m p a old one two three x y z u1 u2 u3 w h e ex ey ez e1 e2 e3 s t u =
    let r1 = put_more 0 m p p f old old one u1 h (omega arith) (three_value g (a + 5120 * 0) x y z u1 w.first e.first start next ez e1) s (put_none m p f old) in
    let r2 = put_more 1 m p (p + m) f old one two u2 h (omega arith) (three_value g (a + 5120 * 1) x y z u2 w.second e.second start next ez e2) t r1 in
    let r3 = put_more 2 m p (p + 2 * m) f old two three u3 h refl (three_value g (a + 5120 * 2) x y z u3 w.third e.third start next ez e3) u r2 in
    record { sums = r3.here; others = r3.others }
  where
    g : ℕ → Complex
    g k = old (p + k * m)

    f : ℕ → Complex
    f q = turned_sum g (a + 5120 * q) 2

    start : x ≡ g 0
    start = let d : p ≡ p + 0 * m = omega arith in ex ∙ ap old d

    next : y ≡ g 1
    next = let d : p + m ≡ p + 1 * m = omega arith in ey ∙ ap old d

-- a row whose angles are thirds of the circle
pub thirds_joined : (m p : ℕ) (old one two three : ℕ → Complex) (x y z u1 u2 u3 : Complex) → 0 < m → x ≡ old p → y ≡ old (p + m) → z ≡ old (p + 2 * m)
    → u1 ≡ plus (plus x y) z → u2 ≡ plus (plus x (turned y 5120)) (turned z 10240) → u3 ≡ plus (plus x (turned y 10240)) (turned z 5120)
    → IsPut p u1 old one → IsPut (p + m) u2 one two → IsPut (p + 2 * m) u3 two three → IsRowJoined 3 m p 0 old three
thirds_joined m p old one two three x y z u1 u2 u3 h ex ey ez e1 e2 e3 s t u =
    let r1 = put_more 0 m p p f old old one u1 h (omega arith) (of_row u1 0 y z (next ∙ sym (not_turned (g 1))) (ez ∙ sym (not_turned (g 2))) e1) s (put_none m p f old) in
    let r2 = put_more 1 m p (p + m) f old one two u2 h (omega arith) (of_row u2 1 (turned y 5120) (turned z 10240) (ap (λ v. turned v 5120) next) (ap (λ v. turned v 10240) ez) e2) t r1 in
    let r3 = put_more 2 m p (p + 2 * m) f old two three u3 h refl (of_row u3 2 (turned y 10240) (turned z 5120) (ap (λ v. turned v 10240) next) (ap (λ v. turned v 5120) ez) e3) u r2 in
    record { sums = r3.here; others = r3.others }
  where
    g : ℕ → Complex
    g k = old (p + k * m)

    f : ℕ → Complex
    f q = turned_sum g (0 + 5120 * q) 2

    start : x ≡ g 0
    start = let d : p ≡ p + 0 * m = omega arith in ex ∙ ap old d

    next : y ≡ g 1
    next = let d : p + m ≡ p + 1 * m = omega arith in ey ∙ ap old d

    of_row : (v : Complex) (q : ℕ) (a b : Complex) → a ≡ turned (g 1) ((0 + 5120 * q) * 1 % 15360) → b ≡ turned (g 2) ((0 + 5120 * q) * 2 % 15360) → v ≡ plus (plus x a) b → v ≡ f q
    of_row v q a b ea eb e = e ∙ ap (λ n. plus (plus n a) b) start ∙ sym (three_terms g (0 + 5120 * q) a b (sym ea) (sym eb))
