-- The two channels, item by item.
use Rattle.std.proofs.Common.{◌≡◌, ◌≢◌, ◌⊎◌, ℕ, ◌+◌, ◌*◌, ◌^◌, ◌<◌, ◌≤◌, sym, subst, inl, inr, arith, refl, ap, ◌∙◌, List, length, Bool, true, false}
use Rattle.std.specs.Prelude.{ℤ, pos, ◌+ℤ◌, ◌-ℤ◌, ◌*ℤ◌, ◌≤ℤ◌, unsigned_abs, slice_set, All, nat_lt, ◌||◌, if◌then◌else◌}
use Rattle.std.proofs.lemmas.Int.{ints}
use Rattle.std.proofs.lemmas.Bool.{lt-ltb, le-ltb, cases_lt}
use Rattle.std.proofs.lemmas.List.{get_or-set_other}
use Rattle.std.proofs.lemmas.List.FromFn.{sum_by-map-range_with_len_more}
use Rattle.fixed_math.specs.Rounding.{rounded}
use Rattle.fixed_math.specs.Unit.{square, energy, unit_of}
use Rattle.fixed_math.proofs.RoundingLemmas.{product_rounded}
use Rattle.fixed_math.proofs.UnitLemmas.{energy_wide, unit_size}
use Rattle.fixed_math.specs.Items.{item, listed}
use Rattle.spread_fold.specs.Stereo.{channel_item, channel, is_faint, merged}
use Rattle.fixed_math.proofs.ItemLemmas.{put_next, length-listed, listed_from, all_listed, item_below}

-- the sum of the squares so far
pub record Summed (i sum : ℕ) (f : ℕ → ℤ) : Type 0 where
  pub same : sum ≡ energy (listed i f)
  pub within : sum ≤ i * 2 ^ 42

pub summed_start : (f : ℕ → ℤ) → Summed 0 0 f
summed_start f = record { same = refl; within = omega arith }

pub summed_more : (i sum v : ℕ) (f : ℕ → ℤ) → v ≡ square (f i) → v ≤ 2 ^ 42 → Summed i sum f → Summed (i + 1) (sum + v) f
summed_more i sum v f e l r = record {
  same = ap (λ n. n + v) r.same ∙ ap (λ n. energy (listed i f) + n) e ∙ sym (sum_by-map-range_with_len_more square f 0 i i (omega arith));
  within = omega (arith, r.within);
}

pub summed_end : (mid : ℤ) (right : Bool) (xs ys : List ℤ) (i sum : ℕ) → i ≡ length xs → Summed i sum (λ j. channel_item mid right (item xs j) (item ys j)) → sum ≡ energy (channel mid right xs ys)
unfolding channel
summed_end mid right xs ys i sum e r = r.same ∙ ap (λ n. energy (listed n (λ j. channel_item mid right (item xs j) (item ys j)))) e

-- the places below i are channels and the others as they were
pub record Separated (i : ℕ) (mid : ℤ) (xs ys left right : List ℤ) : Type 0 where
  pub lefts : (p : ℕ) → p < i → item left p ≡ channel_item mid false (item xs p) (item ys p)
  pub rights : (p : ℕ) → p < i → item right p ≡ channel_item mid true (item xs p) (item ys p)
  pub middles : (p : ℕ) → i ≤ p → item left p ≡ item xs p
  pub sides : (p : ℕ) → i ≤ p → item right p ≡ item ys p

pub separated_start : (mid : ℤ) (xs ys : List ℤ) → Separated 0 mid xs ys xs ys
separated_start mid xs ys = record {
  lefts = λ p h. absurd (omega arith);
  rights = λ p h. absurd (omega arith);
  middles = λ p h. refl;
  sides = λ p h. refl;
}

set_after : (xs ys : List ℤ) (i : ℕ) (v : ℤ) → ((p : ℕ) → i ≤ p → item xs p ≡ item ys p) → (p : ℕ) → i + 1 ≤ p → item (slice_set xs i v) p ≡ item ys p
set_after xs ys i v h p l =
    let ne : p ≢ i = omega arith in
    get_or-set_other xs i p v (pos 0) ne ∙ h p (omega arith)

pub separated_more : (i : ℕ) (mid : ℤ) (xs ys left right : List ℤ) (v w : ℤ) → i < length left → i < length right → v ≡ channel_item mid false (item left i) (item right i) → w ≡ channel_item mid true (item left i) (item right i) → Separated i mid xs ys left right → Separated (i + 1) mid xs ys (slice_set left i v) (slice_set right i w)
separated_more i mid xs ys left right v w l m e f r =
    let a : item left i ≡ item xs i = r.middles i (omega arith) in
    let b : item right i ≡ item ys i = r.sides i (omega arith) in
    record {
      lefts = put_next left i (λ p. channel_item mid false (item xs p) (item ys p)) v l (e ∙ ap (λ z. channel_item mid false z (item right i)) a ∙ ap (λ z. channel_item mid false (item xs i) z) b) r.lefts;
      rights = put_next right i (λ p. channel_item mid true (item xs p) (item ys p)) w m (f ∙ ap (λ z. channel_item mid true z (item right i)) a ∙ ap (λ z. channel_item mid true (item xs i) z) b) r.rights;
      middles = set_after left xs i v r.middles;
      sides = set_after right ys i w r.sides;
    }

pub channel_from : (mid : ℤ) (right : Bool) (xs ys zs : List ℤ) (i : ℕ) → length zs ≡ length xs → i ≡ length xs → ((p : ℕ) → p < i → item zs p ≡ channel_item mid right (item xs p) (item ys p)) → zs ≡ channel mid right xs ys
unfolding channel
channel_from mid right xs ys zs i l e h = listed_from zs (length xs) (λ p. channel_item mid right (item xs p) (item ys p)) l (λ p q. h p (omega arith))

-- a channel's items stay small
middle_size : (mid v : ℤ) → pos 0 ≤ℤ mid → mid ≤ℤ pos 32767 → unsigned_abs v < 2 ^ 20 → unsigned_abs (rounded (mid *ℤ v) 15) ≤ 2 ^ 20
middle_size mid v p q h = product_rounded mid v 15 32768 (2 ^ 20) (2 ^ 20) (omega arith) (omega (arith, ints)) (omega arith) (omega arith)

either_channel : (right : Bool) (m w : ℤ) → unsigned_abs m ≤ 2 ^ 20 → unsigned_abs w < 2 ^ 20 → unsigned_abs (if right then m +ℤ w else m -ℤ w) < 2 ^ 40
either_channel true m w p q = omega (arith, ints)
either_channel false m w p q = omega (arith, ints)

pub channel_size : (mid : ℤ) (right : Bool) (xs ys zs : List ℤ) → pos 0 ≤ℤ mid → mid ≤ℤ pos 32767 → All (λ v. unsigned_abs v < 2 ^ 20) xs → All (λ v. unsigned_abs v < 2 ^ 20) ys → zs ≡ channel mid right xs ys → All (λ v. unsigned_abs v < 2 ^ 40) zs
unfolding channel
channel_size mid right xs ys zs a b h g e =
    all_listed (λ v. unsigned_abs v < 2 ^ 40) zs (length xs) (λ i. channel_item mid right (item xs i) (item ys i)) e
    (λ p l. either_channel right (rounded (mid *ℤ item xs p) 15) (item ys p) (middle_size mid (item xs p) a b (item_below xs (2 ^ 20) p (omega arith) h)) (item_below ys (2 ^ 20) p (omega arith) g))

or_true : (a b : Bool) → (a ≡ true) ⊎ (b ≡ true) → (a || b) ≡ true
or_true true b h = refl
or_true false b h = elim h [ inl e ↦ absurd (cc) | inr e ↦ e ]

pub merged_faint : (mid : ℤ) (right : Bool) (xs ys : List ℤ) → (energy (channel mid false xs ys) < 161061) ⊎ (energy (channel mid true xs ys) < 161061) → xs ≡ merged mid right xs ys
unfolding merged
merged_faint mid right xs ys h =
    let a = nat_lt (energy (channel mid false xs ys)) 161061 in
    let b = nat_lt (energy (channel mid true xs ys)) 161061 in
    let e : is_faint mid xs ys ≡ true = elim h [
      | inl l ↦ or_true a b (inl (lt-ltb _ _ l))
      | inr l ↦ or_true a b (inr (lt-ltb _ _ l))
    ] in
    sym (ap (λ t. if t then xs else unit_of (pos 32768) (channel mid right xs ys)) e)

pub merged_whole : (mid : ℤ) (right : Bool) (xs ys : List ℤ) → 161061 ≤ energy (channel mid false xs ys) → 161061 ≤ energy (channel mid true xs ys) → unit_of (pos 32768) (channel mid right xs ys) ≡ merged mid right xs ys
unfolding merged
merged_whole mid right xs ys l m =
    let a : nat_lt (energy (channel mid false xs ys)) 161061 ≡ false = le-ltb _ _ l in
    let b : nat_lt (energy (channel mid true xs ys)) 161061 ≡ false = le-ltb _ _ m in
    rw (a, b) refl

-- a merged channel's items are those of the middle, or at most 2^14 in size
length-channel : (mid : ℤ) (right : Bool) (xs ys : List ℤ) → length (channel mid right xs ys) ≡ length xs
unfolding channel
length-channel mid right xs ys = length-listed (length xs) (λ i. channel_item mid right (item xs i) (item ys i))

some_energy : (mid : ℤ) (right : Bool) (xs ys : List ℤ) → 161061 ≤ energy (channel mid false xs ys) → 161061 ≤ energy (channel mid true xs ys) → 0 < energy (channel mid right xs ys)
some_energy mid false xs ys l g = omega arith
some_energy mid true xs ys l g = omega arith

unit_within : (m : ℕ) (xs : List ℤ) → 2 ^ 14 ≤ m → All (λ v. 2 * unsigned_abs v ≤ 32768) xs → All (λ v. unsigned_abs v ≤ m) xs
unit_within m xs s h = λ k d l. omega (arith, h k d l)

pub merged_size : (mid : ℤ) (right : Bool) (xs ys zs : List ℤ) (m : ℕ) → pos 0 ≤ℤ mid → mid ≤ℤ pos 32767 → length xs ≤ 176 → All (λ v. unsigned_abs v < 2 ^ 20) xs → All (λ v. unsigned_abs v < 2 ^ 20) ys → zs ≡ merged mid right xs ys → 2 ^ 14 ≤ m → All (λ v. unsigned_abs v ≤ m) xs → All (λ v. unsigned_abs v ≤ m) zs
merged_size mid right xs ys zs m low high n a b e s h = subst (All (λ v. unsigned_abs v ≤ m)) (sym e)
    (elim (cases_lt (energy (channel mid false xs ys)) 161061) [
      | inl l ↦ subst (All (λ v. unsigned_abs v ≤ m)) (merged_faint mid right xs ys (inl l)) h
      | inr l ↦ elim (cases_lt (energy (channel mid true xs ys)) 161061) [
        | inl g ↦ subst (All (λ v. unsigned_abs v ≤ m)) (merged_faint mid right xs ys (inr g)) h
        | inr g ↦
            let us : List ℤ = channel mid right xs ys in
            let wide = energy_wide us (omega (arith, length-channel mid right xs ys)) (channel_size mid right xs ys us low high a b refl) in
            subst (All (λ v. unsigned_abs v ≤ m)) (merged_whole mid right xs ys l g)
            (unit_within m (unit_of (pos 32768) us) s (unit_size (pos 32768) us (omega (arith, ints)) (some_energy mid right xs ys l g) wide))
      ]
    ])
