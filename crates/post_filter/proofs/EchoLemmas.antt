-- Echoes: those of no weight, sums of two, their sizes, and that they look back alone.
use Rattle.std.proofs.Common.{◌≡◌, ℕ, ◌+◌, ◌-◌, ◌*◌, ◌%◌, ◌^◌, ◌<◌, ◌≤◌, refl, sym, arith, ap, ◌∙◌, List, Bool, true, false, if◌then◌else◌}
use Rattle.std.specs.Prelude.{ℤ, pos, ◌+ℤ◌, ◌*ℤ◌, unsigned_abs, FitsSigned, min}
use Rattle.std.specs.Int.{w64, cast_signed as to_z}
use Rattle.std.proofs.lemmas.Nat.{mul-le}
use Rattle.std.proofs.lemmas.Int.{ints, fits_signed_from_abs, to_z_pos}
use Rattle.std.proofs.Math.IntN.{zero-*ℤ}
use Rattle.fixed_math.specs.Items.{item}
use Rattle.fixed_math.specs.Rounding.{rounded}
use Rattle.fixed_math.proofs.IntLemmas.{+ℤ-*ℤ}
use Rattle.fixed_math.proofs.RoundingLemmas.{product_within, round_within}
use Rattle.celt_base.specs.declared.state.Setting.{Setting}
use Rattle.post_filter.specs.declared.taps.Taps.{Taps}
use Rattle.post_filter.specs.Comb.{scaled, centre_tap, near_tap, far_tap, centre, near, far, echo, fade, part, term, alone}
use Rattle.post_filter.proofs.TapLemmas.{scaled_zero, scaled_none, scaled_whole, fade_behind, fade_most, taps_sum, split_at, two_shares}

-- no weight, and no third weight
pub echo_zero : (period : ℕ) (vs : List ℤ) (p : ℕ) → echo 0 0 0 period vs p ≡ pos 0
unfolding echo
echo_zero period vs p =
    omega (arith, ints, zero-*ℤ (item vs (p - period)), zero-*ℤ (item vs (p - period + 1) +ℤ item vs (p - period - 1)), zero-*ℤ (item vs (p - period + 2) +ℤ item vs (p - period - 2)))

pub echo_near : (c n f period : ℕ) (vs : List ℤ) (p : ℕ) → f ≡ 0 → pos c *ℤ item vs (p - period) +ℤ pos n *ℤ (item vs (p - period + 1) +ℤ item vs (p - period - 1)) ≡ echo c n f period vs p
unfolding echo
echo_near c n f period vs p e =
    rw e (omega (arith, ints, zero-*ℤ (item vs (p - period + 2) +ℤ item vs (p - period - 2))))

-- a product with a sum of weights
over_sum : (a b : ℕ) (x : ℤ) → pos (a + b) *ℤ x ≡ pos a *ℤ x +ℤ pos b *ℤ x
over_sum a b x = let e : pos (a + b) ≡ pos a +ℤ pos b = omega (arith, ints) in ap (λ z. z *ℤ x) e ∙ +ℤ-*ℤ (pos a) (pos b) x

pub echo_sum : (c n f d m g period : ℕ) (vs : List ℤ) (p : ℕ) → echo c n f period vs p +ℤ echo d m g period vs p ≡ echo (c + d) (n + m) (f + g) period vs p
unfolding echo
echo_sum c n f d m g period vs p =
    added (item vs (p - period)) (item vs (p - period + 1) +ℤ item vs (p - period - 1)) (item vs (p - period + 2) +ℤ item vs (p - period - 2))
  where
    added : (x y z : ℤ) → (pos c *ℤ x +ℤ pos n *ℤ y +ℤ pos f *ℤ z) +ℤ (pos d *ℤ x +ℤ pos m *ℤ y +ℤ pos g *ℤ z) ≡ pos (c + d) *ℤ x +ℤ pos (n + m) *ℤ y +ℤ pos (f + g) *ℤ z
    added x y z = omega (arith, ints, over_sum c d x, over_sum n m y, over_sum f g z)

-- an echo looks back alone
pub echo_same : (c n f period : ℕ) (us vs : List ℤ) (p : ℕ) → 15 ≤ period → period ≤ 1022 → 1024 ≤ p → ((q : ℕ) → q < p → item us q ≡ item vs q) → echo c n f period us p ≡ echo c n f period vs p
unfolding echo
echo_same c n f period us vs p low high far h =
    let q : ℕ = p - period in
    let a : item us q ≡ item vs q = h q (omega arith) in
    let b : item us (q + 1) ≡ item vs (q + 1) = h (q + 1) (omega arith) in
    let d : item us (q - 1) ≡ item vs (q - 1) = h (q - 1) (omega arith) in
    let e : item us (q + 2) ≡ item vs (q + 2) = h (q + 2) (omega arith) in
    let g : item us (q - 2) ≡ item vs (q - 2) = h (q - 2) (omega arith) in
    rw a (rw b (rw d (rw e (rw g refl))))

-- and is within its weights' sum of what it looks at
pub echo_within : (c n f period : ℕ) (vs : List ℤ) (p m : ℕ) → 15 ≤ period → period ≤ 1022 → 1024 ≤ p → ((q : ℕ) → q < p → unsigned_abs (item vs q) ≤ m)
    → unsigned_abs (echo c n f period vs p) ≤ c * m + 2 * (n * m) + 2 * (f * m)
unfolding echo
echo_within c n f period vs p m low high start h =
    let q : ℕ = p - period in
    let x : ℤ = item vs q in
    let y : ℤ = item vs (q + 1) +ℤ item vs (q - 1) in
    let z : ℤ = item vs (q + 2) +ℤ item vs (q - 2) in
    let ux : unsigned_abs x ≤ m = h q (omega arith) in
    let uy : unsigned_abs y ≤ 2 * m = omega (arith, ints, h (q + 1) (omega arith), h (q - 1) (omega arith)) in
    let uz : unsigned_abs z ≤ 2 * m = omega (arith, ints, h (q + 2) (omega arith), h (q - 2) (omega arith)) in
    let a : unsigned_abs (pos c *ℤ x) ≤ c * m = product_within (pos c) x c m (omega arith) ux in
    let b : unsigned_abs (pos n *ℤ y) ≤ n * (2 * m) = product_within (pos n) y n (2 * m) (omega arith) uy in
    let d : unsigned_abs (pos f *ℤ z) ≤ f * (2 * m) = product_within (pos f) z f (2 * m) (omega arith) uz in
    omega (arith, ints)

-- weights of at most the whole
pub within_whole : (k m : ℕ) → k ≤ 2 ^ 15 → k * m ≤ m * 2 ^ 15
within_whole k m h = omega (arith, mul-le k m (2 ^ 15) m h (omega arith))

-- echoes by the shares of two settings are together within what they look at
pub faded_within : (s : ℕ) (from to old new : Taps) (y z : ℤ) (m : ℕ) → s ≤ 2 ^ 15
    → old.centre ≡ scaled (2 ^ 15 - s) from.centre → old.near ≡ scaled (2 ^ 15 - s) from.near → old.far ≡ scaled (2 ^ 15 - s) from.far
    → new.centre ≡ scaled s to.centre → new.near ≡ scaled s to.near → new.far ≡ scaled s to.far
    → unsigned_abs y ≤ old.centre * m + 2 * (old.near * m) + 2 * (old.far * m)
    → unsigned_abs z ≤ new.centre * m + 2 * (new.near * m) + 2 * (new.far * m)
    → unsigned_abs (y +ℤ z) ≤ m * 2 ^ 15
faded_within s from to old new y z m h a b c d e f p q =
    let k : ℕ = (old.centre + 2 * old.near + 2 * old.far) + (new.centre + 2 * new.near + 2 * new.far) in
    let low : k ≤ 2 ^ 15 = omega (arith, two_shares s from.centre from.near from.far to.centre to.near to.far h from.sum to.sum) in
    omega (arith, ints, within_whole k m low)

pub echo_as : (c n f t d m g u : ℕ) (vs : List ℤ) (p : ℕ) → c ≡ d → n ≡ m → f ≡ g → t ≡ u → echo c n f t vs p ≡ echo d m g u vs p
echo_as c n f t d m g u vs p a b e r = rw a (rw b (rw e (rw r refl)))

-- and an echo by taps
pub taps_within : (taps : Taps) (y : ℤ) (m : ℕ) → unsigned_abs y ≤ taps.centre * m + 2 * (taps.near * m) + 2 * (taps.far * m) → unsigned_abs y ≤ m * 2 ^ 15
taps_within taps y m h =
    let k : ℕ = taps.centre + 2 * taps.near + 2 * taps.far in
    let low : k ≤ 2 ^ 15 = omega (arith, taps.sum) in
    omega (arith, within_whole k m low)

-- taps of no weight add nothing
pub silent_taps : (taps : Taps) (vs : List ℤ) (p : ℕ) → taps.centre ≡ 0 → taps.near ≡ 0 → taps.far ≡ 0 → pos 0 ≡ rounded (echo taps.centre taps.near taps.far taps.period vs p) 15
silent_taps taps vs p a b c = sym (ap (λ z. rounded z 15) (echo_as _ _ _ taps.period _ _ _ _ vs p a b c refl ∙ echo_zero taps.period vs p))

-- settings of no gain
silent_part : (share : ℕ) (setting : Setting) (vs : List ℤ) (p : ℕ) → setting.gain ≡ 0 → part share setting vs p ≡ pos 0
silent_part share setting vs p e =
    let c : scaled share (centre setting) ≡ 0 = ap (λ g. scaled share (scaled g (centre_tap setting.tapset))) e ∙ ap (scaled share) (scaled_zero (centre_tap setting.tapset)) ∙ scaled_none share in
    let n : scaled share (near setting) ≡ 0 = ap (λ g. scaled share (scaled g (near_tap setting.tapset))) e ∙ ap (scaled share) (scaled_zero (near_tap setting.tapset)) ∙ scaled_none share in
    let f : scaled share (far setting) ≡ 0 = ap (λ g. scaled share (scaled g (far_tap setting.tapset))) e ∙ ap (scaled share) (scaled_zero (far_tap setting.tapset)) ∙ scaled_none share in
    rw c (rw n (rw f (echo_zero setting.period vs p)))

-- the whole of a setting, and none of it
whole_part : (setting : Setting) (vs : List ℤ) (p : ℕ) → part (2 ^ 15) setting vs p ≡ echo (centre setting) (near setting) (far setting) setting.period vs p
whole_part setting vs p =
    let c : scaled (2 ^ 15) (centre setting) ≡ centre setting = scaled_whole (centre setting) in
    let n : scaled (2 ^ 15) (near setting) ≡ near setting = scaled_whole (near setting) in
    let f : scaled (2 ^ 15) (far setting) ≡ far setting = scaled_whole (far setting) in
    rw c (rw n (rw f refl))

no_part : (setting : Setting) (vs : List ℤ) (p : ℕ) → part 0 setting vs p ≡ pos 0
no_part setting vs p =
    let c : scaled 0 (centre setting) ≡ 0 = scaled_zero (centre setting) in
    let n : scaled 0 (near setting) ≡ 0 = scaled_zero (near setting) in
    let f : scaled 0 (far setting) ≡ 0 = scaled_zero (far setting) in
    rw c (rw n (rw f (echo_zero setting.period vs p)))

zero_first : (a b : ℤ) → a ≡ pos 0 → a +ℤ b ≡ b
zero_first a b e = omega (arith, ints)

-- behind the fade
pub term_behind : (from to : Setting) (i : ℕ) (vs : List ℤ) (p : ℕ) → 120 ≤ i → term from to i vs p ≡ alone to vs p
unfolding term alone
term_behind from to i vs p h =
    let e : fade i ≡ 2 ^ 15 = fade_behind i h in
    rw e (ap (λ z. rounded z 15) (zero_first (part 0 from vs p) (part (2 ^ 15) to vs p) (no_part from vs p) ∙ whole_part to vs p))

-- where both are off
pub term_off : (from to : Setting) (i : ℕ) (vs : List ℤ) (p : ℕ) → from.gain ≡ 0 → to.gain ≡ 0 → term from to i vs p ≡ alone to vs p
unfolding term alone
term_off from to i vs p e f =
    let a : part (2 ^ 15 - fade i) from vs p ≡ pos 0 = silent_part (2 ^ 15 - fade i) from vs p e in
    let b : part (fade i) to vs p ≡ pos 0 = silent_part (fade i) to vs p f in
    let c : part (2 ^ 15) to vs p ≡ pos 0 = silent_part (2 ^ 15) to vs p f in
    ap (λ z. rounded z 15) (zero_first (part (2 ^ 15 - fade i) from vs p) (part (fade i) to vs p) a ∙ b ∙ sym c ∙ whole_part to vs p)

pub term_silent : (from to : Setting) (i : ℕ) (vs : List ℤ) (p : ℕ) → from.gain ≡ 0 → to.gain ≡ 0 → term from to i vs p ≡ pos 0
unfolding term
term_silent from to i vs p e f =
    ap (λ z. rounded z 15) (zero_first (part (2 ^ 15 - fade i) from vs p) (part (fade i) to vs p) (silent_part (2 ^ 15 - fade i) from vs p e) ∙ silent_part (fade i) to vs p f)

-- where they are one whose shares add up
one_part : (i gain tapset period : ℕ) (vs : List ℤ) (p : ℕ) → gain % 3072 ≡ 0 → gain ≤ 24576 → tapset ≤ 2
    → echo (scaled (2 ^ 15 - fade i) (scaled gain (centre_tap tapset))) (scaled (2 ^ 15 - fade i) (scaled gain (near_tap tapset))) (scaled (2 ^ 15 - fade i) (scaled gain (far_tap tapset))) period vs p
    +ℤ echo (scaled (fade i) (scaled gain (centre_tap tapset))) (scaled (fade i) (scaled gain (near_tap tapset))) (scaled (fade i) (scaled gain (far_tap tapset))) period vs p
    ≡ echo (scaled gain (centre_tap tapset)) (scaled gain (near_tap tapset)) (scaled gain (far_tap tapset)) period vs p
one_part i gain tapset period vs p step most sets =
    let s = split_at i gain tapset step most sets in
    echo_sum _ _ _ _ _ _ period vs p
    ∙ ap (λ k. echo k (scaled (2 ^ 15 - fade i) (scaled gain (near_tap tapset)) + scaled (fade i) (scaled gain (near_tap tapset))) (scaled (2 ^ 15 - fade i) (scaled gain (far_tap tapset)) + scaled (fade i) (scaled gain (far_tap tapset))) period vs p) s.centre
    ∙ ap (λ k. echo (scaled gain (centre_tap tapset)) k (scaled (2 ^ 15 - fade i) (scaled gain (far_tap tapset)) + scaled (fade i) (scaled gain (far_tap tapset))) period vs p) s.near
    ∙ ap (λ k. echo (scaled gain (centre_tap tapset)) (scaled gain (near_tap tapset)) k period vs p) s.far

pub term_one : (from to : Setting) (i : ℕ) (vs : List ℤ) (p : ℕ) → from.gain ≡ to.gain → from.period ≡ to.period → from.tapset ≡ to.tapset → to.gain % 3072 ≡ 0 → term from to i vs p ≡ alone to vs p
unfolding term alone
term_one from to i vs p eg ep et step =
    let r : ℕ = 2 ^ 15 - fade i in
    let e : part r from vs p ≡ part r to vs p = rw eg (rw ep (rw et refl)) in
    ap (λ z. rounded (z +ℤ part (fade i) to vs p) 15) e ∙ ap (λ z. rounded z 15) (one_part i to.gain to.tapset to.period vs p step to.most_gain to.most_tapset)

-- what is added looks back alone
pub taps_same : (taps : Taps) (us vs : List ℤ) (p : ℕ) → 1024 ≤ p → ((q : ℕ) → q < p → item us q ≡ item vs q) → rounded (echo taps.centre taps.near taps.far taps.period us p) 15 ≡ rounded (echo taps.centre taps.near taps.far taps.period vs p) 15
taps_same taps us vs p start h = ap (λ z. rounded z 15) (echo_same taps.centre taps.near taps.far taps.period us vs p taps.least_period taps.most_period start h)

pub term_same : (from to : Setting) (i : ℕ) (us vs : List ℤ) (p : ℕ) → 1024 ≤ p → ((q : ℕ) → q < p → item us q ≡ item vs q) → term from to i us p ≡ term from to i vs p
unfolding term
term_same from to i us vs p start h =
    ap (λ z. rounded (z +ℤ part (fade i) to us p) 15) (echo_same _ _ _ from.period us vs p from.least_period from.most_period start h)
    ∙ ap (λ z. rounded (part (2 ^ 15 - fade i) from vs p +ℤ z) 15) (echo_same _ _ _ to.period us vs p to.least_period to.most_period start h)

-- and is within them
part_within : (share : ℕ) (setting : Setting) (vs : List ℤ) (p m : ℕ) → 1024 ≤ p → ((q : ℕ) → q < p → unsigned_abs (item vs q) ≤ m)
    → unsigned_abs (part share setting vs p) ≤ scaled share (centre setting) * m + 2 * (scaled share (near setting) * m) + 2 * (scaled share (far setting) * m)
part_within share setting vs p m start h = echo_within _ _ _ setting.period vs p m setting.least_period setting.most_period start h

pub term_within : (from to : Setting) (i : ℕ) (vs : List ℤ) (p m : ℕ) → 1024 ≤ p → ((q : ℕ) → q < p → unsigned_abs (item vs q) ≤ m) → unsigned_abs (term from to i vs p) ≤ m
unfolding term
term_within from to i vs p m start h =
    let s : ℕ = fade i in
    let y : ℤ = part (2 ^ 15 - s) from vs p in
    let z : ℤ = part s to vs p in
    let a = part_within (2 ^ 15 - s) from vs p m start h in
    let b = part_within s to vs p m start h in
    let k : ℕ = (scaled (2 ^ 15 - s) (centre from) + 2 * scaled (2 ^ 15 - s) (near from) + 2 * scaled (2 ^ 15 - s) (far from)) + (scaled s (centre to) + 2 * scaled s (near to) + 2 * scaled s (far to)) in
    let low : k ≤ 2 ^ 15 = omega (arith, two_shares s (centre from) (near from) (far from) (centre to) (near to) (far to) (fade_most i) (taps_sum from.gain from.tapset from.most_gain) (taps_sum to.gain to.tapset to.most_gain)) in
    let r : unsigned_abs (y +ℤ z) ≤ m * 2 ^ 15 = omega (arith, ints, within_whole k m low) in
    round_within (y +ℤ z) 15 m (omega arith) r

-- what taps of a setting add is what it adds
pub record TapsOf (setting : Setting) (taps : Taps) : Type 0 where
  pub period : taps.period ≡ setting.period
  pub centre : taps.centre ≡ scaled setting.gain (centre_tap setting.tapset)
  pub near : taps.near ≡ scaled setting.gain (near_tap setting.tapset)
  pub far : taps.far ≡ scaled setting.gain (far_tap setting.tapset)

pub taps_alone : (setting : Setting) (taps : Taps) (vs : List ℤ) (p : ℕ) → TapsOf setting taps → rounded (echo taps.centre taps.near taps.far taps.period vs p) 15 ≡ alone setting vs p
unfolding alone
taps_alone setting taps vs p t = ap (λ z. rounded z 15) (echo_as _ _ _ _ _ _ _ _ vs p t.centre t.near t.far t.period)

pub taps_faded : (from to : Setting) (old new : Taps) (s i : ℕ) (vs : List ℤ) (p : ℕ) → s ≡ fade i → TapsOf from old → TapsOf to new
    → rounded (echo (scaled (2 ^ 15 - s) old.centre) (scaled (2 ^ 15 - s) old.near) (scaled (2 ^ 15 - s) old.far) old.period vs p +ℤ echo (scaled s new.centre) (scaled s new.near) (scaled s new.far) new.period vs p) 15
    ≡ term from to i vs p
unfolding term
taps_faded from to old new s i vs p e t u =
    let a : echo (scaled (2 ^ 15 - s) old.centre) (scaled (2 ^ 15 - s) old.near) (scaled (2 ^ 15 - s) old.far) old.period vs p ≡ part (2 ^ 15 - s) from vs p =
    echo_as _ _ _ _ _ _ _ _ vs p (ap (scaled (2 ^ 15 - s)) t.centre) (ap (scaled (2 ^ 15 - s)) t.near) (ap (scaled (2 ^ 15 - s)) t.far) t.period in
    let b : echo (scaled s new.centre) (scaled s new.near) (scaled s new.far) new.period vs p ≡ part s to vs p =
    echo_as _ _ _ _ _ _ _ _ vs p (ap (scaled s) u.centre) (ap (scaled s) u.near) (ap (scaled s) u.far) u.period in
    ap (λ z. rounded (z +ℤ echo (scaled s new.centre) (scaled s new.near) (scaled s new.far) new.period vs p) 15) a ∙ ap (λ z. rounded (part (2 ^ 15 - s) from vs p +ℤ z) 15) b ∙ ap (λ k. rounded (part (2 ^ 15 - k) from vs p +ℤ part k to vs p) 15) e

-- the places behind those that are faded
pub term_later : (from to : Setting) (steady : Bool) (n faded i : ℕ) (vs : List ℤ) (p : ℕ) → faded ≡ (if steady then 0 else min n 120) → i < n - faded
    → (steady ≡ true → (j : ℕ) (us : List ℤ) (q : ℕ) → term from to j us q ≡ alone to us q) → term from to (faded + i) vs p ≡ alone to vs p
term_later from to true n faded i vs p e h s = s refl (faded + i) vs p
term_later from to false n faded i vs p e h s =
    let g : faded ≡ min n 120 = e in
    term_behind from to (faded + i) vs p (omega arith)

-- ---- the code's steps at 64 bits

pub record EchoSteps (c n f : ℕ) (x y1 y2 z1 z2 : ℤ) : Type 0 where
  pub x_fits : FitsSigned w64 x
  pub y1_fits : FitsSigned w64 y1
  pub y2_fits : FitsSigned w64 y2
  pub z1_fits : FitsSigned w64 z1
  pub z2_fits : FitsSigned w64 z2
  pub first : to_z w64 c ≡ pos c
  pub second : to_z w64 n ≡ pos n
  pub third : to_z w64 f ≡ pos f
  pub here : FitsSigned w64 (pos c *ℤ x)
  pub beside : FitsSigned w64 (y1 +ℤ y2)
  pub behind : FitsSigned w64 (z1 +ℤ z2)
  pub near : FitsSigned w64 (pos n *ℤ (y1 +ℤ y2))
  pub far : FitsSigned w64 (pos f *ℤ (z1 +ℤ z2))
  pub two : FitsSigned w64 (pos c *ℤ x +ℤ pos n *ℤ (y1 +ℤ y2))
  pub all : FitsSigned w64 (pos c *ℤ x +ℤ pos n *ℤ (y1 +ℤ y2) +ℤ pos f *ℤ (z1 +ℤ z2))

steps_of : (c n f : ℕ) (x y1 y2 z1 z2 : ℤ) → c + 2 * n + 2 * f ≤ 24576 → unsigned_abs x ≤ 2 ^ 30 → unsigned_abs y1 ≤ 2 ^ 30 → unsigned_abs y2 ≤ 2 ^ 30 → unsigned_abs z1 ≤ 2 ^ 30 → unsigned_abs z2 ≤ 2 ^ 30 → EchoSteps c n f x y1 y2 z1 z2
steps_of c n f x y1 y2 z1 z2 w ux u1 u2 t1 t2 =
    let a : unsigned_abs (pos c *ℤ x) ≤ 24576 * 2 ^ 30 = product_within (pos c) x 24576 (2 ^ 30) (omega arith) ux in
    let ub : unsigned_abs (y1 +ℤ y2) ≤ 2 ^ 31 = omega (arith, ints) in
    let ud : unsigned_abs (z1 +ℤ z2) ≤ 2 ^ 31 = omega (arith, ints) in
    let b : unsigned_abs (pos n *ℤ (y1 +ℤ y2)) ≤ 24576 * 2 ^ 31 = product_within (pos n) (y1 +ℤ y2) 24576 (2 ^ 31) (omega arith) ub in
    let d : unsigned_abs (pos f *ℤ (z1 +ℤ z2)) ≤ 24576 * 2 ^ 31 = product_within (pos f) (z1 +ℤ z2) 24576 (2 ^ 31) (omega arith) ud in
    let t : unsigned_abs (pos c *ℤ x +ℤ pos n *ℤ (y1 +ℤ y2)) ≤ 24576 * 2 ^ 32 = omega (arith, ints) in
    let s : unsigned_abs (pos c *ℤ x +ℤ pos n *ℤ (y1 +ℤ y2) +ℤ pos f *ℤ (z1 +ℤ z2)) ≤ 24576 * 2 ^ 33 = omega (arith, ints) in
    record {
      x_fits = fits_signed_from_abs w64 x (omega arith);
      y1_fits = fits_signed_from_abs w64 y1 (omega arith);
      y2_fits = fits_signed_from_abs w64 y2 (omega arith);
      z1_fits = fits_signed_from_abs w64 z1 (omega arith);
      z2_fits = fits_signed_from_abs w64 z2 (omega arith);
      first = to_z_pos w64 c (omega arith);
      second = to_z_pos w64 n (omega arith);
      third = to_z_pos w64 f (omega arith);
      here = fits_signed_from_abs w64 (pos c *ℤ x) (omega arith);
      beside = fits_signed_from_abs w64 (y1 +ℤ y2) (omega arith);
      behind = fits_signed_from_abs w64 (z1 +ℤ z2) (omega arith);
      near = fits_signed_from_abs w64 (pos n *ℤ (y1 +ℤ y2)) (omega arith);
      far = fits_signed_from_abs w64 (pos f *ℤ (z1 +ℤ z2)) (omega arith);
      two = fits_signed_from_abs w64 (pos c *ℤ x +ℤ pos n *ℤ (y1 +ℤ y2)) (omega arith);
      all = fits_signed_from_abs w64 (pos c *ℤ x +ℤ pos n *ℤ (y1 +ℤ y2) +ℤ pos f *ℤ (z1 +ℤ z2)) (omega arith);
    }

-- the steps of an echo
abbrev pub StepsAt : ℕ → ℕ → ℕ → ℕ → List ℤ → ℕ → Type 0
StepsAt c n f period vs p = EchoSteps c n f (item vs (p - period)) (item vs (p - period + 1)) (item vs (p - period - 1)) (item vs (p - period + 2)) (item vs (p - period - 2))

pub steps_at : (taps : Taps) (vs : List ℤ) (p : ℕ) → 1024 ≤ p → ((q : ℕ) → q < p → unsigned_abs (item vs q) ≤ 2 ^ 30) → StepsAt taps.centre taps.near taps.far taps.period vs p
steps_at taps vs p start h =
    let q : ℕ = p - taps.period in
    let low : 15 ≤ taps.period = taps.least_period in
    let high : taps.period ≤ 1022 = taps.most_period in
    steps_of taps.centre taps.near taps.far (item vs q) (item vs (q + 1)) (item vs (q - 1)) (item vs (q + 2)) (item vs (q - 2)) taps.sum
    (h q (omega arith)) (h (q + 1) (omega arith)) (h (q - 1) (omega arith)) (h (q + 2) (omega arith)) (h (q - 2) (omega arith))
