-- What is known of the answers has an entry for each channel and band, whatever was told.
use Rattle.std.proofs.Common.{◌≡◌, ℕ, zero, suc, ◌<◌, ◌≤◌, List, [], length, Bool, true, false, get_or, replicate, inl, inr, refl, sym, ◌∙◌, ap, subst, arith}
use Rattle.std.specs.Prelude.{ℤ, negsuc, ◌&&◌, if◌then◌else◌, nat_lt, slice_set, slice_index_or}
use Rattle.std.proofs.lemmas.Bool.{cases_eq}
use Rattle.std.proofs.lemmas.Bool.Decides.{nat_tests}
use Rattle.std.proofs.lemmas.List.{get_or-set_same, get_or-set_other, length-set}
use Rattle.celt_base.specs.declared.coder.Place.{Place}
use Rattle.celt_base.specs.declared.coder.Place.TheVariants.{Silence, Filter, Octave, Period, Gain, Tapset, Transient, Intra, Coarse, Tf, TfSelect, Spread, Boost, Trim, Skip, Intensity, Dual, Fine, Theta, Inversion, SideSign, Pulses, Sign, Collapse, Last}
use Rattle.celt_base.specs.declared.kind.Kind.{Kind}
use Rattle.celt_encode.specs.Known.{put_at, put_flag, told_of, no_answers}
use Rattle.celt_encode.specs.Places.{AreRows, IsKnown, IsPlace}
use Rattle.celt_encode.specs.Standing.{Standing}

module _ {A : Type 0} where
  set_rows : (rows : List (List A)) (channel band : ℕ) (value : A) → AreRows rows → channel < 2 → AreRows (slice_set rows channel (slice_set (slice_index_or rows channel []) band value))
  set_rows rows channel band value are inside = record {
    channels = length-set rows channel _ ∙ are.channels;
    bands = λ other below. elim (cases_eq other channel) [
      | inl same ↦
          subst (λ n. length (get_or (slice_set rows channel (slice_set (slice_index_or rows channel []) band value)) n []) ≡ 21) (sym same)
          (ap length (get_or-set_same rows channel (slice_set (slice_index_or rows channel []) band value) [] (let c = are.channels in omega (arith, c, inside)))
          ∙ length-set (slice_index_or rows channel []) band value ∙ are.bands channel inside)
      | inr apart ↦ ap length (get_or-set_other rows channel other (slice_set (slice_index_or rows channel []) band value) [] apart) ∙ are.bands other below
    ];
  }

  put_rows : (rows : List (List A)) (channel band : ℕ) (value : A) → AreRows rows → AreRows (put_at rows channel band value)
  unfolding put_at
  put_rows rows channel band value are = by_test (nat_lt channel 2 && nat_lt band 21) (λ e. grind (arith, nat_tests, e))
    where
      by_test : (b : Bool) → (b ≡ true → channel < 2) → AreRows (if b then slice_set rows channel (slice_set (slice_index_or rows channel []) band value) else rows)
      by_test true inside = set_rows rows channel band value are (inside refl)
      by_test false inside = are

put_flags : (flags : List Bool) (band : ℕ) (flag : Bool) → length flags ≡ 21 → length (put_flag flags band flag) ≡ 21
unfolding put_flag
put_flags flags band flag are = by_test (nat_lt band 21)
  where
    by_test : (b : Bool) → length (if b then slice_set flags band flag else flags) ≡ 21
    by_test true = length-set flags band flag ∙ are
    by_test false = are

entry_few : (row : List ℕ) (band value at : ℕ) → band < length row → value ≤ 8 → ((j : ℕ) → get_or row j 0 ≤ 8) → get_or (slice_set row band value) at 0 ≤ 8
entry_few row band value at inside small few =
    elim (cases_eq at band) [
      | inl same ↦ subst (λ n. n ≤ 8) (sym (ap (λ j. get_or (slice_set row band value) j 0) same ∙ get_or-set_same row band value 0 inside)) small
      | inr apart ↦ subst (λ n. n ≤ 8) (sym (get_or-set_other row band at value 0 apart)) (few at)
    ]

set_few : (rows : List (List ℕ)) (channel band value : ℕ) → AreRows rows → channel < 2 → band < 21 → value ≤ 8
    → ((c b : ℕ) → get_or (get_or rows c []) b 0 ≤ 8)
    → (c b : ℕ) → get_or (get_or (slice_set rows channel (slice_set (slice_index_or rows channel []) band value)) c []) b 0 ≤ 8
set_few rows channel band value are inside below small few c b =
    let row : List ℕ = slice_index_or rows channel [] in
    let e = are.channels in
    let g : length row ≡ 21 = are.bands channel inside in
    elim (cases_eq c channel) [
      | inl same ↦
          subst (λ (xs : List ℕ). get_or xs b 0 ≤ 8)
          (sym (ap (λ j. get_or (slice_set rows channel (slice_set row band value)) j []) same
          ∙ get_or-set_same rows channel (slice_set row band value) [] (omega (arith, e, inside))))
          (entry_few row band value b (omega (arith, g, below)) small (few channel))
      | inr apart ↦ subst (λ (xs : List ℕ). get_or xs b 0 ≤ 8) (sym (get_or-set_other rows channel c (slice_set row band value) [] apart)) (few c b)
    ]

put_few : (rows : List (List ℕ)) (channel band value : ℕ) → AreRows rows → value ≤ 8 → ((c b : ℕ) → get_or (get_or rows c []) b 0 ≤ 8)
    → (c b : ℕ) → get_or (get_or (put_at rows channel band value) c []) b 0 ≤ 8
unfolding put_at
put_few rows channel band value are small few = by_test (nat_lt channel 2 && nat_lt band 21) (λ e. grind (arith, nat_tests, e)) (λ e. grind (arith, nat_tests, e))
  where
    by_test : (t : Bool) → (t ≡ true → channel < 2) → (t ≡ true → band < 21)
        → (c b : ℕ) → get_or (get_or (if t then slice_set rows channel (slice_set (slice_index_or rows channel []) band value) else rows) c []) b 0 ≤ 8
    by_test true inside below = set_few rows channel band value are (inside refl) (below refl) small few
    by_test false inside below = few

-- one more answer
pub told_known : (kind : Kind) (s : Standing) (at : Place) (answer : ℤ) → IsPlace kind s at → IsKnown s.answers → IsKnown (told_of s.answers at answer)
unfolding told_of IsPlace
told_known kind s Silence answer place is = is
told_known kind s Filter answer place is = is
told_known kind s Octave answer place is = is
told_known kind s (Period octave) answer place is = is
told_known kind s Gain answer place is = is
told_known kind s Tapset answer place is = is
told_known kind s Transient answer place is = record { coarse = is.coarse; fine = is.fine; bits = is.bits; few_bits = is.few_bits; leans = is.leans; inverted = is.inverted }
told_known kind s Intra answer place is = record { coarse = is.coarse; fine = is.fine; bits = is.bits; few_bits = is.few_bits; leans = is.leans; inverted = is.inverted }
told_known kind s (Coarse band channel) answer place is =
    record { coarse = put_rows s.answers.coarse channel band _ is.coarse; fine = is.fine; bits = is.bits; few_bits = is.few_bits; leans = is.leans; inverted = is.inverted }
told_known kind s (Tf band current) answer place is = is
told_known kind s TfSelect answer place is = is
told_known kind s Spread answer place is = record { coarse = is.coarse; fine = is.fine; bits = is.bits; few_bits = is.few_bits; leans = is.leans; inverted = is.inverted }
told_known kind s (Boost band turn) answer place is = is
told_known kind s Trim answer place is = is
told_known kind s (Skip band bits) answer place is = is
told_known kind s (Intensity coded) answer place is = record { coarse = is.coarse; fine = is.fine; bits = is.bits; few_bits = is.few_bits; leans = is.leans; inverted = is.inverted }
told_known kind s Dual answer place is = record { coarse = is.coarse; fine = is.fine; bits = is.bits; few_bits = is.few_bits; leans = is.leans; inverted = is.inverted }
told_known kind s (Fine band channel bits) answer place is =
    record { coarse = is.coarse; fine = put_rows s.answers.fine channel band _ is.fine; bits = put_rows s.answers.bits channel band bits is.bits; few_bits = put_few s.answers.bits channel band bits is.bits place.1 is.few_bits; leans = is.leans; inverted = is.inverted }
told_known kind s (Theta band channel offset n qn false) answer place is = is
told_known kind s (Theta band channel offset n qn true) answer place is =
    record { coarse = is.coarse; fine = is.fine; bits = is.bits; few_bits = is.few_bits; leans = put_flags s.answers.leans band _ is.leans; inverted = is.inverted }
told_known kind s (Inversion band) answer place is =
    record { coarse = is.coarse; fine = is.fine; bits = is.bits; few_bits = is.few_bits; leans = is.leans; inverted = put_flags s.answers.inverted band _ is.inverted }
told_known kind s (SideSign band theta) answer place is = is
told_known kind s (Pulses band channel offset n k blocks) answer place is = is
told_known kind s (Sign band channel) answer place is = is
told_known kind s Collapse answer place is = is
told_known kind s (Last band channel) answer place is = is

rows_of : {A : Type 0} (value : A) → AreRows (replicate 2 (replicate 21 value))
rows_of value = record { channels = refl; bands = by_channel }
  where
    by_channel : (channel : ℕ) → channel < 2 → length (get_or (replicate 2 (replicate 21 value)) channel []) ≡ 21
    by_channel zero below = refl
    by_channel (suc zero) below = refl
    by_channel (suc (suc n)) below = absurd (omega (arith, below))

zero_few : (n i : ℕ) → get_or (replicate n 0) i 0 ≤ 8
zero_few zero i = omega arith
zero_few (suc n) zero = omega arith
zero_few (suc n) (suc i) = zero_few n i

none_few : (c b : ℕ) → get_or (get_or (replicate 2 (replicate 21 0)) c []) b 0 ≤ 8
none_few zero b = zero_few 21 b
none_few (suc zero) b = zero_few 21 b
none_few (suc (suc c)) b = omega arith

-- before the first question
pub none_known : IsKnown no_answers
none_known = record { coarse = rows_of (negsuc 0); fine = rows_of 0; bits = rows_of 0; few_bits = none_few; leans = refl; inverted = refl }
