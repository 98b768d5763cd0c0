-- The sizes of the vectors that are entered, and that each band can take the changes of its settings and be split as often as its
-- level says: looked at for every band, size and change.
use Rattle.std.proofs.Common.{◌≡◌, ◌≢◌, ℕ, zero, suc, ◌+◌, ◌*◌, ◌/◌, ◌%◌, ◌^◌, ◌<◌, ◌≤◌, Bool, true, false, refl, sym, ◌∙◌, subst, arith, List, length, drop, length-take, length-drop}
use Rattle.std.specs.Prelude.{ℤ, pos, ◌&&◌, ◌||◌, if◌then◌else◌, int_lt, min, nat_eq, nat_le, nat_lt, slice_index_or, unsigned_abs, []}
use Rattle.std.proofs.lemmas.Bool.{eqb-true, leb-true, false≢true, and_parts}
use Rattle.std.proofs.lemmas.Bool.Decides.{nat_tests}
use Rattle.band_plan.specs.declared.channels.Band.{Band}
use Rattle.band_plan.specs.declared.symbols.BandSettings.{BandSettings}
use Rattle.band_plan.specs.Channels.{blocks_of, more_blocks}
use Rattle.band_plan.specs.Plans.{IsChange, frame_blocks, band_of}
use Rattle.celt_base.proofs.Below.{all_below, at_each}
use Rattle.celt_base.proofs.BandEnds.{end_most}
use Rattle.celt_base.specs.declared.coder.Enter.{Enter}
use Rattle.celt_tables.specs.Tables.{edge_of, width_of, size_of, change_of}
use Rattle.fixed_math.proofs.ItemLemmas.{length-listed}
use Rattle.tf_change.specs.Haar.{haar_of}
use Rattle.tf_change.proofs.HaarLemmas.{length-haar}
use Rattle.tf_change.proofs.OrderLemmas.{length-ordered}
use Rattle.celt_encode.specs.declared.answers.Answers.{Answers}
use Rattle.celt_encode.specs.Changes.{Runs, halved, joined, in_blocks, fewer, more, changed}
use Rattle.celt_encode.specs.Leaves.{are_blocks}
use Rattle.celt_encode.specs.Outsets.{Outset}
use Rattle.celt_encode.specs.Places.{HasBand, HasRows, can_change, CanChange}
use Rattle.celt_encode.specs.Vectors.{part_of, unit_in, sum_of, difference_of, is_alone, takes_side, mixed, plain_vector, entered_vector}

-- ---- no change changes the size

length_if : (b : Bool) (xs ys : List ℤ) (n : ℕ) → length xs ≡ n → length ys ≡ n → length (if b then xs else ys) ≡ n
length_if true xs ys n a b = a
length_if false xs ys n a b = b

abbrev items_of : Runs → List ℤ
items_of r = r.items

length_halved : (r : Runs) → length (halved r).items ≡ length r.items
unfolding halved
length_halved r = by_test (nat_eq (r.count % 2) 0)
  where
    by_test : (b : Bool) → length (items_of (if b then record { items = haar_of r.stride r.items; count = r.count / 2; stride = r.stride * 2 } else r)) ≡ length r.items
    by_test true = length-haar r.stride r.items
    by_test false = refl

length_joined : (times : ℕ) (r : Runs) → length (joined times r).items ≡ length r.items
unfolding joined
length_joined zero r = refl
length_joined (suc times) r = length_halved (joined times r) ∙ length_joined times r

length_in_blocks : (n s : ℕ) (hadamard : Bool) (xs : List ℤ) → length (in_blocks n s hadamard xs) ≡ length xs
unfolding in_blocks
length_in_blocks n s hadamard xs = length_if _ _ xs (length xs) (length-ordered n s hadamard xs) refl

length_fewer : (times blocks : ℕ) (xs : List ℤ) → length (fewer times blocks xs) ≡ length xs
unfolding fewer
length_fewer times blocks xs =
    let r : Runs = joined times (record { items = xs; count = length xs; stride = 1 }) in
    let e : length r.items ≡ length xs = length_joined times (record { items = xs; count = length xs; stride = 1 }) in
    length_if (nat_lt 1 (blocks / 2 ^ times)) _ r.items (length xs) (length_in_blocks _ _ _ r.items ∙ e) e

length_more : (times blocks : ℕ) (xs : List ℤ) → length (more times blocks xs) ≡ length xs
unfolding more
length_more times blocks xs =
    let r : Runs = joined times (record { items = xs; count = length xs / blocks; stride = blocks }) in
    let e : length r.items ≡ length xs = length_joined times (record { items = xs; count = length xs / blocks; stride = blocks }) in
    length_if (nat_lt 1 r.stride) _ r.items (length xs) (length_in_blocks _ _ _ r.items ∙ e) e

length_changed : (tf : ℤ) (blocks : ℕ) (xs : List ℤ) → length (changed tf blocks xs) ≡ length xs
unfolding changed
length_changed tf blocks xs =
    length_if _ xs _ (length xs) refl
    (length_if (int_lt tf (pos 0)) _ _ (length xs) (length_more (min (unsigned_abs tf) 3) blocks xs) (length_fewer (min (unsigned_abs tf) 3) blocks xs))

-- ---- the vectors of a band

-- the bands lie within 800 items
unfoldable end_test : ℕ → Bool
end_test band = all_below (λ lm. nat_le (edge_of band * 2 ^ lm + width_of band * 2 ^ lm) 800) 4

all_ends : all_below end_test 21 ≡ true
unfolding end_test
all_ends = refl

band_inside : (band lm : ℕ) → band < 21 → lm < 4 → edge_of band * 2 ^ lm + width_of band * 2 ^ lm ≤ 800
unfolding end_test
band_inside band lm below small =
    leb-true (edge_of band * 2 ^ lm + width_of band * 2 ^ lm) 800
    (at_each (λ lm. nat_le (edge_of band * 2 ^ lm + width_of band * 2 ^ lm) 800) 4 lm (at_each end_test 21 band all_ends below) small)

pub length_part : (xs : List ℤ) (offset n : ℕ) → offset + n ≤ length xs → length (part_of xs offset n) ≡ n
length_part xs offset n inside = omega (arith, length-take n (drop offset xs), length-drop offset xs, inside)

unit_inside : (f : Outset) (channel band : ℕ) (b : Bool) → b ≡ true → 800 ≤ length (slice_index_or f.units channel [])
    → edge_of band * 2 ^ f.kind.lm + width_of band * 2 ^ f.kind.lm ≤ 800
    → length (if b then part_of (slice_index_or f.units channel []) (edge_of band * 2 ^ f.kind.lm) (width_of band * 2 ^ f.kind.lm) else []) ≡ size_of f.kind band
unit_inside f channel band true e long inside =
    length_part (slice_index_or f.units channel []) (edge_of band * 2 ^ f.kind.lm) (width_of band * 2 ^ f.kind.lm) (omega (arith, long, inside))
unit_inside f channel band false e long inside = absurd (false≢true e)

pub length_unit : (f : Outset) (channel band : ℕ) → HasRows f → HasBand f.kind channel band → length (unit_in f channel band) ≡ size_of f.kind band
unfolding unit_in
length_unit f channel band rows has =
    let most = f.kind.two_channels in
    let c : channel < 2 = let d = has.channel_is in omega (arith, d, most) in
    let b : band < 21 = let d = has.band_is in let e = end_most f.kind in omega (arith, d, e) in
    unit_inside f channel band (nat_lt channel 2 && nat_lt band 21) (grind (arith, nat_tests, c, b)) (rows.units channel c)
    (band_inside band f.kind.lm b (let s = f.kind.sized in omega (arith, s)))

least_same : (m n k : ℕ) → m ≡ k → n ≡ k → min m n ≡ k
least_same m n k a b = rw a (rw b (omega arith))

length_mixed : (side inverted : Bool) (l r : List ℤ) (n : ℕ) → length l ≡ n → length r ≡ n → length (mixed side inverted l r) ≡ n
unfolding mixed sum_of difference_of
length_mixed side inverted l r n a b =
    length_if side _ _ n (length-listed _ _ ∙ least_same (length r) (length l) n b a)
    (length_if inverted _ _ n (length-listed _ _ ∙ least_same (length l) (length r) n a b) (length-listed _ _ ∙ least_same (length l) (length r) n a b))

not_first : (x y : Bool) → (x || y) ≡ false → x ≡ false
not_first true y e = absurd (false≢true (sym e))
not_first false y e = refl

pub length_plain : (f : Outset) (a : Answers) (channel band : ℕ) → HasRows f → HasBand f.kind channel band → length (plain_vector f a channel band) ≡ size_of f.kind band
unfolding plain_vector is_alone
length_plain f a channel band rows has = by_test (is_alone f a band (length (unit_in f 0 band))) refl
  where
    by_test : (b : Bool) → is_alone f a band (length (unit_in f 0 band)) ≡ b
        → length (if b then unit_in f channel band else mixed (takes_side a band channel (length (unit_in f 0 band))) (slice_index_or a.inverted band false) (unit_in f 0 band) (unit_in f 1 band))
        ≡ size_of f.kind band
    by_test true e = length_unit f channel band rows has
    by_test false e =
        let two : nat_lt f.kind.channels 2 ≡ false = not_first _ _ e in
        let more : 1 < f.kind.channels = grind (arith, nat_tests, two) in
        let below = has.band_is in
        length_mixed _ _ (unit_in f 0 band) (unit_in f 1 band) (size_of f.kind band)
        (length_unit f 0 band rows (record { channel_is = omega (arith, more); band_is = below }))
        (length_unit f 1 band rows (record { channel_is = more; band_is = below }))

-- what is entered is as long as the band
pub length_entered : (f : Outset) (a : Answers) (at : Enter) → HasRows f → HasBand f.kind at.channel at.band → length (entered_vector f a at) ≡ size_of f.kind at.band
unfolding entered_vector
length_entered f a at rows has = length_changed at.tf at.blocks (plain_vector f a at.channel at.band) ∙ length_plain f a at.channel at.band rows has

-- ---- every band, size and change

-- A part of this level may have pulses in its blocks, and so may its halves, where it can be split.
unfoldable pub parts_fit : ℕ → ℕ → ℕ → Bool
parts_fit zero n blocks = nat_le 2 n && (nat_le n 176 && are_blocks n blocks)
parts_fit (suc level) n blocks =
    nat_le 2 n && (nat_le n 176 && (are_blocks n blocks && (nat_le n 2 || (nat_eq (n % 2) 0 && parts_fit level (n / 2) ((blocks + 1) / 2)))))

unfoldable enter_test : ℤ → ℕ → ℕ → Bool
enter_test tf blocks n =
    nat_le 1 n && (nat_le 1 blocks && (nat_eq (n % blocks) 0 && (nat_le (unsigned_abs tf) 3 && can_change tf blocks n)))

abbrev frame_blocks_of : ℕ → Bool → ℕ
frame_blocks_of lm transient = if transient then 2 ^ lm else 1

unfoldable change_test : ℕ → ℕ → Bool → Bool → Bool → Bool
change_test band lm transient select flag =
    let n = width_of band * 2 ^ lm in
    let blocks = frame_blocks_of lm transient in
    let tf = change_of lm transient select flag in
    (nat_eq lm 0 && transient) || (nat_eq n 1 || (enter_test tf blocks n && parts_fit (lm + 1) n (blocks_of n blocks tf)))

abbrev both_ways : (Bool → Bool) → Bool
both_ways test = test true && test false

unfoldable band_test : ℕ → Bool
band_test band = all_below (λ lm. both_ways (λ t. both_ways (λ s. both_ways (change_test band lm t s)))) 4

all_bands : all_below band_test 21 ≡ true
unfolding band_test change_test enter_test parts_fit can_change blocks_of more_blocks are_blocks joined halved
all_bands = refl

at_way : (test : Bool → Bool) (b : Bool) → both_ways test ≡ true → test b ≡ true
at_way test true e = (and_parts (test true) (test false) e).0
at_way test false e = (and_parts (test true) (test false) e).1

change_at : (band lm : ℕ) (t s f : Bool) → band < 21 → lm < 4 → change_test band lm t s f ≡ true
unfolding band_test
change_at band lm t s f below small =
    at_way (change_test band lm t s) f (at_way (λ z. both_ways (change_test band lm t z)) s (at_way (λ y. both_ways (λ z. both_ways (change_test band lm y z))) t
    (at_each (λ lm. both_ways (λ t. both_ways (λ s. both_ways (change_test band lm t s)))) 4 lm (at_each band_test 21 band all_bands below) small)))

-- ---- what follows of a band

-- A part of a vector that may have pulses in its blocks.
pub record IsWhole (n blocks : ℕ) : Type 0 where
  pub least : 2 ≤ n
  pub most : n ≤ 176
  pub are : are_blocks n blocks ≡ true

whole_by : (n blocks : ℕ) (rest : Bool) → (nat_le 2 n && (nat_le n 176 && (are_blocks n blocks && rest))) ≡ true → IsWhole n blocks
whole_by n blocks rest e =
    let a = and_parts (nat_le 2 n) _ e in
    let b = and_parts (nat_le n 176) _ a.1 in
    record { least = leb-true 2 n a.0; most = leb-true n 176 b.0; are = (and_parts (are_blocks n blocks) rest b.1).0 }

pub part_is : (level n blocks : ℕ) → parts_fit level n blocks ≡ true → IsWhole n blocks
unfolding parts_fit
part_is zero n blocks e =
    let a = and_parts (nat_le 2 n) _ e in
    let b = and_parts (nat_le n 176) _ a.1 in
    record { least = leb-true 2 n a.0; most = leb-true n 176 b.0; are = b.1 }
part_is (suc level) n blocks e = whole_by n blocks _ e

second_or : (x y : Bool) → (x || y) ≡ true → x ≡ false → y ≡ true
second_or true y e none = absurd (false≢true (sym none))
second_or false y e none = e

pub part_splits : (level n blocks : ℕ) → parts_fit (suc level) n blocks ≡ true → 2 < n → parts_fit level (n / 2) ((blocks + 1) / 2) ≡ true
unfolding parts_fit
part_splits level n blocks e more =
    let a = and_parts (nat_le 2 n) _ e in
    let b = and_parts (nat_le n 176) _ a.1 in
    let c = and_parts (are_blocks n blocks) _ b.1 in
    let d = second_or (nat_le n 2) _ c.1 (grind (arith, nat_tests, more)) in
    (and_parts (nat_eq (n % 2) 0) _ d).1

can_change_by : (tf : ℤ) (blocks n : ℕ) → enter_test tf blocks n ≡ true → CanChange tf blocks n
unfolding enter_test
can_change_by tf blocks n e =
    let a = and_parts (nat_le 1 n) _ e in
    let b = and_parts (nat_le 1 blocks) _ a.1 in
    let c = and_parts (nat_eq (n % blocks) 0) _ b.1 in
    let d = and_parts (nat_le (unsigned_abs tf) 3) _ c.1 in
    record {
      some = leb-true 1 n a.0;
      some_blocks = leb-true 1 blocks b.0;
      divides = eqb-true (n % blocks) 0 c.0;
      few = leb-true (unsigned_abs tf) 3 d.0;
      fits = d.1;
    }

-- A band of the frame, that its changes and its parts fit.
pub record FitsBand (f : Outset) (b : Band) : Type 0 where
  pub below : b.band < f.kind.end
  pub size : b.n ≡ size_of f.kind b.band
  pub changes : b.n ≢ 1 → CanChange b.tf b.blocks b.n
  pub parts : b.n ≢ 1 → parts_fit b.level b.n (blocks_of b.n b.blocks b.tf) ≡ true

not_both : (x y : Bool) → x ≡ false → (x && y) ≡ false
not_both true y e = absurd (false≢true (sym e))
not_both false y e = refl

no_short : (lm : ℕ) (transient : Bool) → (lm ≡ 0 → transient ≡ false) → (nat_eq lm 0 && transient) ≡ false
no_short zero transient long = long refl
no_short (suc lm) transient long = not_both (nat_eq (suc lm) 0) transient (grind (arith, nat_tests))

not_one : (n : ℕ) → n ≢ 1 → nat_eq n 1 ≡ false
not_one n several = grind (arith, nat_tests, several)

-- where the tests of a band hold, and it has more than one coefficient
fits_by : (band lm : ℕ) (t s f : Bool) → band < 21 → lm < 4 → (lm ≡ 0 → t ≡ false) → width_of band * 2 ^ lm ≢ 1
    → (enter_test (change_of lm t s f) (frame_blocks_of lm t) (width_of band * 2 ^ lm)
    && parts_fit (lm + 1) (width_of band * 2 ^ lm) (blocks_of (width_of band * 2 ^ lm) (frame_blocks_of lm t) (change_of lm t s f))) ≡ true
unfolding change_test
fits_by band lm t s f below small long several =
    second_or (nat_eq (width_of band * 2 ^ lm) 1) _ (second_or (nat_eq lm 0 && t) _ (change_at band lm t s f below small) (no_short lm t long))
    (not_one (width_of band * 2 ^ lm) several)

pub fits_at : (f : Outset) (settings : BandSettings) (intensity band : ℕ) → band < f.kind.end → (f.kind.lm ≡ 0 → settings.transient ≡ false)
    → IsChange f.kind.lm settings.transient (slice_index_or settings.tf band (pos 0))
    → FitsBand f (band_of f.kind settings intensity band)
unfolding band_of frame_blocks
fits_at f settings intensity band below long change = record {
  below = below;
  size = refl;
  changes = λ more. subst (λ tf. CanChange tf blocks n) (sym change.value) (can_change_by (change_of lm t change.select change.flag) blocks n (both more).0);
  parts = λ more. subst (λ tf. parts_fit (lm + 1) n (blocks_of n blocks tf) ≡ true) (sym change.value) (both more).1;
}
  where
    lm : ℕ
    lm = f.kind.lm

    t : Bool
    t = settings.transient

    n : ℕ
    n = width_of band * 2 ^ lm

    blocks : ℕ
    blocks = frame_blocks_of lm t

    both : n ≢ 1 → (enter_test (change_of lm t change.select change.flag) blocks n ≡ true) × (parts_fit (lm + 1) n (blocks_of n blocks (change_of lm t change.select change.flag)) ≡ true)
    both more = and_parts _ _ (fits_by band lm t change.select change.flag (let e = end_most f.kind in omega (arith, e, below)) (let s = f.kind.sized in omega (arith, s)) long more)
