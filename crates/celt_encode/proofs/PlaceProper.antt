-- Where a place is one that the frame has, what is wanted there is not what a guard says.
use Rattle.std.proofs.Common.{◌≡◌, ℕ, zero, suc, ◌*◌, ◌/◌, ◌%◌, ◌^◌, ◌<◌, ◌≤◌, Bool, true, false, List, length, refl, sym, ◌∙◌, ap, subst, arith, [], get_or}
use Rattle.std.specs.Prelude.{ℤ, pos, ◌&&◌, ◌||◌, not, if◌then◌else◌, nat_eq, nat_lt, int_lt, min, unsigned_abs}
use Rattle.std.proofs.lemmas.Bool.{false≢true}
use Rattle.std.proofs.lemmas.Bool.Decides.{nat_tests}
use Rattle.band_energy.specs.WantedEnergies.{energy_by_fine, wanted_coarse, wanted_fine, wanted_last}
use Rattle.celt_base.proofs.BandEnds.{end_most}
use Rattle.celt_base.specs.declared.coder.Enter.{Enter}
use Rattle.celt_base.specs.declared.coder.Place.TheVariants.{Coarse, Fine, Last, Skip, Pulses}
use Rattle.celt_base.specs.declared.kind.Kind.{Kind}
use Rattle.celt_tables.specs.Tables.{size_of, width_of}
use Rattle.pulse_vectors.specs.Rows.{rank_of}
use Rattle.tf_change.specs.Haar.{haar_of}
use Rattle.tf_change.specs.Order.{ordered}
use Rattle.celt_encode.specs.Changes.{Runs, halved, joined, in_blocks, changed, more, fewer}
use Rattle.celt_encode.specs.EnergiesWanted.{target_at, coarse_energy, fine_energy, coarse_wanted, fine_wanted, last_wanted}
use Rattle.celt_encode.specs.Leaves.{may_have, are_blocks, pulses_for, pulses_wanted}
use Rattle.celt_encode.specs.declared.answers.Answers.{Answers}
use Rattle.celt_encode.specs.Outsets.{Outset}
use Rattle.celt_encode.specs.Places.{HasRows, HasBand, IsKnown, IsPlace, IsEntered, CanChange, fit_blocks}
use Rattle.celt_encode.specs.Standing.{Standing, vector_in, entered_in}
use Rattle.celt_encode.specs.Vectors.{part_of, plain_vector, entered_vector}
use Rattle.celt_encode.specs.Wanted.{flag_of, is_rich, wanted}
use Rattle.celt_encode.proofs.PlaceVectors.{length_part, length_plain}

if_true : {A : Type 0} (b : Bool) (x y : A) → b ≡ true → (if b then x else y) ≡ x
if_true true x y e = refl
if_true false x y e = absurd (false≢true e)

first_true : (x y : Bool) → x ≡ true → (x && y) ≡ y
first_true true y e = refl
first_true false y e = absurd (false≢true e)

band_there : (kind : Kind) (channel band : ℕ) → HasBand kind channel band → (nat_lt channel 2 && nat_lt band 21) ≡ true
band_there kind channel band has =
    let a = has.channel_is in
    let b = has.band_is in
    let c = kind.two_channels in
    let d = end_most kind in
    let e : channel < 2 = omega (arith, a, c) in
    let g : band < 21 = omega (arith, b, d) in
    grind (arith, nat_tests, e, g)

pub coarse_proper : (s : Standing) (band channel : ℕ) → IsPlace s.frame.kind s (Coarse band channel)
    → wanted s (Coarse band channel) ≡ wanted_coarse s.frame.kind s.answers.intra s.frame.energies s.answers.coarse channel band (target_at s.frame channel band)
unfolding IsPlace wanted coarse_wanted
coarse_proper s band channel has = if_true _ _ _ (band_there s.frame.kind channel band has)

pub last_proper : (s : Standing) (band channel : ℕ) → IsPlace s.frame.kind s (Last band channel)
    → wanted s (Last band channel) ≡ wanted_last (target_at s.frame channel band) (fine_energy s.frame s.answers channel band)
unfolding IsPlace wanted last_wanted
last_proper s band channel has = if_true _ _ _ (band_there s.frame.kind channel band has)

both_are : (x y : Bool) → x ≡ true → y ≡ true → (x && y) ≡ true
both_are true y a b = b
both_are false y a b = absurd (false≢true a)

pub pulses_proper : (s : Standing) (band channel offset n k blocks : ℕ) → IsPlace s.frame.kind s (Pulses band channel offset n k blocks)
    → wanted s (Pulses band channel offset n k blocks) ≡ pos (rank_of (pulses_for blocks k s.answers.spread (part_of (vector_in s channel) offset n)))
unfolding IsPlace wanted pulses_wanted
pulses_proper s band channel offset n k blocks is =
    let e : length (part_of (vector_in s channel) offset n) ≡ n = length_part (vector_in s channel) offset n is.2.inside in
    if_true _ _ _ (by_size (length (part_of (vector_in s channel) offset n)) e)
  where
    by_size : (m : ℕ) → m ≡ n → (may_have m k && are_blocks m blocks) ≡ true
    by_size m e = subst (λ x. (may_have x k && are_blocks x blocks) ≡ true) (sym e) (both_are (may_have n k) (are_blocks n blocks) is.3 is.4)

pub fine_proper : (s : Standing) (band channel bits : ℕ) → IsPlace s.frame.kind s (Fine band channel bits)
    → wanted s (Fine band channel bits) ≡ wanted_fine (target_at s.frame channel band) (coarse_energy s.frame s.answers channel band) bits
unfolding IsPlace wanted fine_wanted
fine_proper s band channel bits is =
    let few = is.1 in
    let e : min bits 8 ≡ bits = omega (arith, few) in
    if_true _ _ _ (band_there s.frame.kind channel band is.0)
    ∙ ap (wanted_fine (target_at s.frame channel band) (coarse_energy s.frame s.answers channel band)) e

pub skip_proper : (s : Standing) (band : ℕ) (bits : ℤ) → IsPlace s.frame.kind s (Skip band bits)
    → wanted s (Skip band bits) ≡ flag_of (int_lt (pos (7 * width_of band * 2 ^ s.frame.kind.lm * 8 / 16)) bits)
unfolding IsPlace wanted is_rich
skip_proper s band bits below =
    let e = end_most s.frame.kind in
    let g : nat_lt band 21 ≡ true = grind (arith, nat_tests, e, below) in
    ap flag_of (first_true _ _ g)

-- ---- what is entered

no_guard : (size blocks : ℕ) → 1 ≤ size → 1 ≤ blocks → size % blocks ≡ 0 → (nat_eq blocks 0 || (nat_eq size 0 || not (nat_eq (size % blocks) 0))) ≡ false
no_guard size blocks some some_blocks divides =
    let a : nat_eq blocks 0 ≡ false = grind (arith, nat_tests, some_blocks) in
    let b : nat_eq size 0 ≡ false = grind (arith, nat_tests, some) in
    let c : nat_eq (size % blocks) 0 ≡ true = grind (arith, nat_tests, divides) in
    rw a (rw b (rw c refl))

if_false : {A : Type 0} (b : Bool) (x y : A) → b ≡ false → (if b then x else y) ≡ y
if_false true x y e = absurd (false≢true (sym e))
if_false false x y e = refl

changed_proper : (tf : ℤ) (blocks : ℕ) (xs : List ℤ) → CanChange tf blocks (length xs)
    → changed tf blocks xs ≡ (if int_lt tf (pos 0) then more (unsigned_abs tf) blocks xs else fewer (unsigned_abs tf) blocks xs)
unfolding changed
changed_proper tf blocks xs can =
    let few = can.few in
    let e : min (unsigned_abs tf) 3 ≡ unsigned_abs tf = omega (arith, few) in
    if_false _ _ _ (no_guard (length xs) blocks can.some can.some_blocks can.divides)
    ∙ ap (λ n. if int_lt tf (pos 0) then more n blocks xs else fewer n blocks xs) e

vector_entered : (s : Standing) (at : Enter) → vector_in (entered_in s at) at.channel ≡ entered_vector s.frame s.answers at
unfolding entered_in
vector_entered s at = by_test (nat_eq at.channel 0)
  where
    vector_of_two : Bool → Standing → List ℤ
    vector_of_two b s = if b then s.first else s.second

    by_test : (b : Bool) → vector_of_two b (if b then record s { first = entered_vector s.frame s.answers at } else record s { second = entered_vector s.frame s.answers at })
        ≡ entered_vector s.frame s.answers at
    by_test true = refl
    by_test false = refl

pub entered_proper : (s : Standing) (at : Enter) → HasRows s.frame → IsEntered s.frame.kind s at
    → vector_in (entered_in s at) at.channel
    ≡ (if int_lt at.tf (pos 0)
    then more (unsigned_abs at.tf) at.blocks (plain_vector s.frame s.answers at.channel at.band)
    else fewer (unsigned_abs at.tf) at.blocks (plain_vector s.frame s.answers at.channel at.band))
unfolding IsEntered entered_vector
entered_proper s at rows is =
    let xs : List ℤ = plain_vector s.frame s.answers at.channel at.band in
    let e : length xs ≡ size_of s.frame.kind at.band = length_plain s.frame s.answers at.channel at.band rows is.0 in
    vector_entered s at ∙ changed_proper at.tf at.blocks xs (subst (CanChange at.tf at.blocks) (sym e) is.1)

pub energy_proper : (f : Outset) (a : Answers) (channel band : ℕ) → IsKnown a
    → fine_energy f a channel band
    ≡ energy_by_fine (coarse_energy f a channel band) (get_or (get_or a.bits channel []) band 0) (get_or (get_or a.fine channel []) band 0)
energy_proper f a channel band known =
    let few = known.few_bits channel band in
    let e : min (get_or (get_or a.bits channel []) band 0) 8 ≡ get_or (get_or a.bits channel []) band 0 = omega (arith, few) in
    ap (λ n. energy_by_fine (coarse_energy f a channel band) n (get_or (get_or a.fine channel []) band 0)) e

pub blocks_proper : (n s : ℕ) (hadamard : Bool) (xs : List ℤ) → fit_blocks n s hadamard (length xs) ≡ true → in_blocks n s hadamard xs ≡ ordered n s hadamard xs
unfolding in_blocks
blocks_proper n s hadamard xs fits = if_true _ _ _ fits

-- how many runs there are, and how long they are, does not depend on the items
count_after : ℕ → ℕ
count_after n = if nat_eq (n % 2) 0 then n / 2 else n

stride_after : ℕ → ℕ → ℕ
stride_after n s = if nat_eq (n % 2) 0 then s * 2 else s

halved_runs : (r : Runs) → ((halved r).count ≡ count_after r.count) × ((halved r).stride ≡ stride_after r.count r.stride)
unfolding halved count_after stride_after
halved_runs r = by_test (nat_eq (r.count % 2) 0)
  where
    runs_by : Bool → Runs
    runs_by b = if b then record { items = haar_of r.stride r.items; count = r.count / 2; stride = r.stride * 2 } else r

    by_test : (b : Bool) → ((runs_by b).count ≡ (if b then r.count / 2 else r.count)) × ((runs_by b).stride ≡ (if b then r.stride * 2 else r.stride))
    by_test true = (refl, refl)
    by_test false = (refl, refl)

pub runs_same : (times count stride : ℕ) (xs : List ℤ)
    → ((joined times (record { items = xs; count = count; stride = stride })).count ≡ (joined times (record { items = []; count = count; stride = stride })).count)
    × ((joined times (record { items = xs; count = count; stride = stride })).stride ≡ (joined times (record { items = []; count = count; stride = stride })).stride)
unfolding joined
runs_same zero count stride xs = (refl, refl)
runs_same (suc times) count stride xs =
    let before = runs_same times count stride xs in
    let r : Runs = joined times (record { items = xs; count = count; stride = stride }) in
    let q : Runs = joined times (record { items = []; count = count; stride = stride }) in
    let a = halved_runs r in
    let b = halved_runs q in (
      a.0 ∙ ap count_after before.0 ∙ sym b.0,
      a.1 ∙ ap (λ n. stride_after n r.stride) before.0 ∙ ap (stride_after q.count) before.1 ∙ sym b.1,
    )
