-- Stereo bands of two coefficients.
use Rattle.std.proofs.Common.{◌≡◌, ℕ, zero, suc, ◌^◌, ◌<◌, ◌≤◌, sym, subst, arith, refl, ap, ◌∙◌, List, [], ◌∷◌, length, take, length-take, Bool, true, false}
use Rattle.std.specs.Prelude.{ℤ, pos, neg_ℤ, ◌≤ℤ◌, unsigned_abs, All, slice_set, if◌then◌else◌}
use Rattle.std.proofs.lemmas.Int.{ints}
use Rattle.std.proofs.lemmas.Bool.{false≢true}
use Rattle.fixed_math.specs.Bitexact.{product}
use Rattle.band_shapes.specs.declared.node.Cut.{Cut}
use Rattle.band_shapes.specs.declared.node.Layout.{Layout}
use Rattle.band_shapes.specs.declared.node.MadePair.{MadePair}
use Rattle.band_shapes.specs.declared.node.Two.{Two}
use Rattle.band_shapes.specs.Bands.{two_in, listed, upright, weighed, sum, difference, is_side, mid_duo, side_duo, inverted, duo_pair, IsPair, IsTwoBelow}
use Rattle.band_shapes.specs.Channels.{IsChannel}
use Rattle.band_shapes.specs.Parts.{Shape, mid_of, side_of}
use Rattle.fixed_math.proofs.RoundingLemmas.{product_rounded}
use Rattle.band_shapes.proofs.PairLemmas.{inverted_size}

pub two_small : (m : ℕ) (xs : List ℤ) → length xs ≡ 2 → All (λ v. unsigned_abs v < m) xs → IsTwoBelow m (two_in xs)
two_small m xs n h = (h 0 (pos 0) (omega (arith, n)), h 1 (pos 0) (omega (arith, n)))

pub listed_small : (m : ℕ) (v : Two) → IsTwoBelow m v → All (λ z. unsigned_abs z < m) (listed v)
listed_small m v h zero d l = h.0
listed_small m v h (suc zero) d l = h.1
listed_small m v h (suc (suc k)) d l = absurd (omega (arith, l))

pub two_set : (xs : List ℤ) (a b : ℤ) → 2 ≤ length xs → take 2 (slice_set (slice_set xs 0 a) 1 b) ≡ a ∷ b ∷ []
two_set [] a b e = absurd (omega (arith, e))
two_set (x ∷ []) a b e = absurd (omega (arith, e))
two_set (x ∷ (y ∷ zs)) a b e = refl

pub two_front : (xs : List ℤ) → 2 ≤ length xs → two_in xs ≡ two_in (take 2 xs)
two_front [] e = absurd (omega (arith, e))
two_front (x ∷ []) e = absurd (omega (arith, e))
two_front (x ∷ (y ∷ zs)) e = refl

-- left and right of a coded vector
pub duo_made : (e : Layout) (theta : ℤ) (negative turned : Bool) (s : Shape) (k : ℕ) (v x y l r : Two) (us vs zs : List ℤ) (m : MadePair) → e.two ≡ false → IsChannel e.blocks s zs k m.seed → m.left ≡ k → m.right ≡ k
    → v ≡ two_in zs → x ≡ mid_duo theta negative v → y ≡ side_duo theta negative v → l ≡ difference x y → r ≡ sum x y → IsTwoBelow (2 ^ 20) l → IsTwoBelow (2 ^ 20) r
    → us ≡ listed l → vs ≡ inverted turned (listed r) → IsPair e (duo_pair theta negative turned s) us vs zs m
unfolding duo_pair
duo_made e theta negative turned s k v x y l r us vs zs m nt h el er ev ex ey fl fr sl sr eu ew =
    let ez : v ≡ two_in s.vector = ev ∙ ap (λ z. two_in z) h.vector in
    let ex' : x ≡ mid_duo theta negative (two_in s.vector) = ex ∙ ap (mid_duo theta negative) ez in
    let ey' : y ≡ side_duo theta negative (two_in s.vector) = ey ∙ ap (side_duo theta negative) ez in
    record {
      left = eu ∙ ap (λ (z : Two). listed z) (fl ∙ (ap (λ z. difference z y) ex' ∙ ap (difference (mid_duo theta negative (two_in s.vector))) ey'));
      right = ew ∙ ap (λ (z : Two). inverted turned (listed z)) (fr ∙ (ap (λ z. sum z y) ex' ∙ ap (sum (mid_duo theta negative (two_in s.vector))) ey'));
      copy = h.vector;
      left_mask = el ∙ h.mask;
      right_mask = er ∙ h.mask;
      seed = h.seed;
      left_size = subst (All (λ z. unsigned_abs z < 2 ^ 20)) (sym eu) (listed_small (2 ^ 20) l sl);
      right_size = subst (All (λ z. unsigned_abs z < 2 ^ 20)) (sym ew) (inverted_size (2 ^ 20) turned (listed r) (listed_small (2 ^ 20) r sr));
      right_apart = λ t. absurd (false≢true (sym nt ∙ t));
      copy_size = h.size;
      left_small = subst (λ z. z < 2 ^ e.blocks) (sym el) h.small;
      right_small = subst (λ z. z < 2 ^ e.blocks) (sym er) h.small;
    }

pub scaled_small : (w v : ℤ) → pos 0 ≤ℤ w → w ≤ℤ pos 32767 → unsigned_abs v < 2 ^ 19 → unsigned_abs (product w v) < 2 ^ 19
scaled_small w v low high s =
    let a : unsigned_abs w ≤ 32767 = omega (arith, ints, low, high) in
    let b : unsigned_abs v ≤ 524287 = omega (arith, s) in
    let c : unsigned_abs (product w v) ≤ 524287 = product_rounded w v 15 32767 524287 524287 (omega arith) a b (omega arith) in
    omega (arith, c)

abbrev pub two_by : ℤ → ℤ → Two
two_by a b = record { first = a; second = b }

pub upright_yes : (b : Bool) (v : Two) (x : ℤ) → b ≡ true → x ≡ neg_ℤ v.first → two_by v.second x ≡ upright b v
unfolding upright
upright_yes b v x h e = ap (λ z. two_by v.second z) e ∙ sym (ap (λ z. if z then two_by v.second (neg_ℤ v.first) else two_by (neg_ℤ v.second) v.first) h)

pub upright_no : (b : Bool) (v : Two) (x : ℤ) → b ≡ false → x ≡ neg_ℤ v.second → two_by x v.first ≡ upright b v
unfolding upright
upright_no b v x h e = ap (λ z. two_by z v.first) e ∙ sym (ap (λ z. if z then two_by v.second (neg_ℤ v.first) else two_by (neg_ℤ v.second) v.first) h)

pub weighed_by : (w : ℤ) (v : Two) (a b : ℤ) → a ≡ product w v.first → b ≡ product w v.second → two_by a b ≡ weighed w v
unfolding weighed
weighed_by w v a b e f = ap (λ z. two_by z b) e ∙ ap (two_by (product w v.first)) f

pub mid_yes : (theta : ℤ) (negative : Bool) (v : Two) → is_side theta ≡ true → weighed (mid_of theta) (upright negative v) ≡ mid_duo theta negative v
unfolding mid_duo
mid_yes theta negative v h = sym (ap (λ b. weighed (mid_of theta) (if b then upright negative v else v)) h)

pub mid_no : (theta : ℤ) (negative : Bool) (v : Two) → is_side theta ≡ false → weighed (mid_of theta) v ≡ mid_duo theta negative v
unfolding mid_duo
mid_no theta negative v h = sym (ap (λ b. weighed (mid_of theta) (if b then upright negative v else v)) h)

pub side_yes : (theta : ℤ) (negative : Bool) (v : Two) → is_side theta ≡ true → weighed (side_of theta) v ≡ side_duo theta negative v
unfolding side_duo
side_yes theta negative v h = sym (ap (λ b. weighed (side_of theta) (if b then v else upright negative v)) h)

pub side_no : (theta : ℤ) (negative : Bool) (v : Two) → is_side theta ≡ false → weighed (side_of theta) (upright negative v) ≡ side_duo theta negative v
unfolding side_duo
side_no theta negative v h = sym (ap (λ b. weighed (side_of theta) (if b then v else upright negative v)) h)

pub two_below : (m n : ℕ) (xs : List ℤ) (v : Two) → n ≡ 2 → 2 ≤ length xs → v ≡ two_in (take 2 xs) → All (λ z. unsigned_abs z < m) (take n xs) → IsTwoBelow m v
two_below m n xs v e l f h =
    let len : length (take 2 xs) ≡ 2 = omega (arith, length-take 2 xs, l) in
    rw f (two_small m (take 2 xs) len (subst (λ k. All (λ z. unsigned_abs z < m) (take k xs)) e h))

pub two_size : (m : ℕ) (xs : List ℤ) (v : Two) → take 2 xs ≡ listed v → IsTwoBelow m v → All (λ z. unsigned_abs z < m) (take 2 xs)
two_size m xs v e h = subst (All (λ z. unsigned_abs z < m)) (sym e) (listed_small m v h)

-- where the code has them
pub duo_here : (e : Layout) (cut d : Cut) (a b : Bool) (t u : Bool) (s : Shape) (k : ℕ) (v x y l r : Two) (us vs zs : List ℤ) (n : ℕ) (m : MadePair) → cut ≡ d → a ≡ b → t ≡ u → n ≡ 2 → e.two ≡ false → IsChannel e.blocks s (take n zs) k m.seed → m.left ≡ k → m.right ≡ k
    → v ≡ two_in (take 2 zs) → x ≡ mid_duo cut.theta a v → y ≡ side_duo cut.theta a v → l ≡ difference x y → r ≡ sum x y → IsTwoBelow (2 ^ 20) l → IsTwoBelow (2 ^ 20) r
    → take 2 us ≡ listed l → take 2 vs ≡ inverted t (listed r) → IsPair e (duo_pair d.theta b u s) (take n us) (take n vs) (take n zs) m
duo_here e cut d a b t u s k v x y l r us vs zs n m ec eb et en nt h el er ev ex ey fl fr sl sr eu ew =
    rw en (duo_made e d.theta b u s k v x y l r (take 2 us) (take 2 vs) (take 2 zs) m nt (subst (λ z. IsChannel e.blocks s (take z zs) k m.seed) en h) el er ev
    (ex ∙ (ap (λ (z : Cut). mid_duo z.theta a v) ec ∙ ap (λ z. mid_duo d.theta z v) eb))
    (ey ∙ (ap (λ (z : Cut). side_duo z.theta a v) ec ∙ ap (λ z. side_duo d.theta z v) eb))
    fl fr sl sr eu (ew ∙ ap (λ z. inverted z (listed r)) et))
