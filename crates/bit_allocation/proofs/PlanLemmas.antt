-- What holds of a plan.
use Rattle.std.proofs.Common.{◌≡◌, ◌≢◌, ℕ, zero, suc, ◌-◌, ◌*◌, ◌/◌, ◌<◌, ◌≤◌, Bool, true, false, ◌&&◌, nat_le, nat_lt, nat_eq, if◌then◌else◌, List, refl, sym, ◌∙◌, ap, subst, inl, inr, arith}
use Rattle.std.specs.Prelude.{min, slice_index, ℤ, pos, negsuc, ◌≤ℤ◌, ◌<ℤ◌}
use Rattle.std.proofs.lemmas.Bool.{cases_eq, cases_lt}
use Rattle.std.proofs.lemmas.Bool.Decides.{nat_tests}
use Rattle.std.proofs.lemmas.Int.{ints}
use Rattle.std.proofs.lemmas.List.{get_or_past}
use Rattle.std.proofs.lemmas.List.FromFn.{get_or-map-range_with_len, length-map-range_with_len}
use Rattle.bit_allocation.specs.declared.plan.Plan.{Plan}
use Rattle.bit_allocation.specs.declared.plan.Reserves.{Reserves}
use Rattle.bit_allocation.specs.declared.request.Request.{Request}
use Rattle.bit_allocation.specs.Amounts.{raised, boost_of, value_of, tilted, usual_of, bit_each, most_of}
use Rattle.bit_allocation.specs.Counts.{sum_below, count_of, counts_of, boosted_of, first_of, stepped_of, quality_of, step_of, is_reached}
use Rattle.bit_allocation.specs.Facts.{IsPlan, whole_of}
use Rattle.bit_allocation.specs.Plans.{intensity_bits, skip_reserve, intensity_reserve, dual_reserve, reserves_of, boosted_top, bands_to, plan_of}
use Rattle.bit_allocation.specs.Requests.{IsRequest}
use Rattle.bit_allocation.proofs.AmountLemmas.{end_least, band_inside, usual_is}
use Rattle.celt_base.proofs.BandEnds.{end_most}
use Rattle.bit_allocation.proofs.CountLemmas.{sum_same, counts_same, below_end, from_end}
use Rattle.celt_base.proofs.Fronts.{front_all}
use Rattle.bit_allocation.proofs.SearchLemmas.{quality_passes, step_passes, no_step}
use Rattle.celt_base.proofs.Below.{at_each}
use Rattle.celt_tables.specs.Tables.{allocation_entry, coefficients_of}
use Rattle.celt_base.specs.declared.kind.Kind.{Kind}

-- a list of the bands below the end, by places
pub bands_at : (end : ℕ) (f : ℕ → ℕ) (k : ℕ) → k < end → end ≤ 21 → slice_index (bands_to end f) k ≡ f k
bands_at end f k below inside =
    get_or-map-range_with_len (λ band. if nat_lt band end then f band else 0) 0 21 k k 0 (omega arith) (omega arith) ∙ below_end k end (f k) 0 below

pub bands_past : (end : ℕ) (f : ℕ → ℕ) (k : ℕ) → end ≤ k → slice_index (bands_to end f) k ≡ 0
bands_past end f k above = elim (cases_lt k 21) [
  | inl below ↦ get_or-map-range_with_len (λ band. if nat_lt band end then f band else 0) 0 21 k k 0 below (omega arith) ∙ from_end k end (f k) 0 above
  | inr past ↦ get_or_past (bands_to end f) k 0 (let l = length-map-range_with_len (λ band. if nat_lt band end then f band else 0) 0 21 in omega (arith, l, past))
]

pub bands_same : (end : ℕ) (f g : ℕ → ℕ) → ((b : ℕ) → b < end → f b ≡ g b) → bands_to end f ≡ bands_to end g
bands_same end f g same =
    front_all 0 (bands_to end f) (λ band. if nat_lt band end then g band else 0)
    (record {
      whole = length-map-range_with_len (λ band. if nat_lt band end then f band else 0) 0 21;
      done = λ k below.
          get_or-map-range_with_len (λ band. if nat_lt band end then f band else 0) 0 21 k k 0 below (omega arith)
          ∙ elim (cases_lt k end) [
            | inl inside ↦ below_end k end (f k) 0 inside ∙ same k inside ∙ sym (below_end k end (g k) 0 inside)
            | inr past ↦ from_end k end (f k) 0 past ∙ sym (from_end k end (g k) 0 past)
          ];
    })

pub bands_sum : (end : ℕ) (f : ℕ → ℕ) → end ≤ 21 → sum_below (slice_index (bands_to end f)) end ≡ sum_below f end
bands_sum end f inside = sum_same (slice_index (bands_to end f)) f end (λ b below. bands_at end f b below inside)

pub counts_read : (kind : Kind) (v : ℕ → ℕ) → counts_of kind v ≡ sum_below (slice_index (bands_to kind.end (count_of kind v))) kind.end
unfolding counts_of
counts_read kind v = sym (bands_sum kind.end (count_of kind v) (end_most kind))

-- the highest band with a boost
pub boosted_here : (r : Request) (n band : ℕ) → n ≡ suc band → 0 < boost_of r band → boosted_top r n ≡ band
unfolding boosted_top
boosted_here r n band e some = let t : nat_lt 0 (boost_of r band) ≡ true = grind (arith, nat_tests) in rw (e, t) refl

pub boosted_below : (r : Request) (n band : ℕ) → n ≡ suc band → boost_of r band ≡ 0 → boosted_top r n ≡ boosted_top r band
unfolding boosted_top
boosted_below r n band e none = let t : nat_lt 0 (boost_of r band) ≡ false = grind (arith, nat_tests) in rw (e, t) refl

pub boosted_none : (r : Request) → boosted_top r 0 ≡ 0
unfolding boosted_top
boosted_none r = refl

pub no_boost : (z : ℤ) → z ≤ℤ pos 0 → raised z ≡ 0
no_boost (pos n) low = omega (arith, ints, low)
no_boost (negsuc n) low = refl

pub some_boost : (z : ℤ) → pos 0 <ℤ z → 0 < raised z
some_boost (pos n) high = omega (arith, ints, high)
some_boost (negsuc n) high = absurd (omega (arith, ints, high))

-- the records of the code
abbrev pub reserves_with : ℕ → ℕ → ℕ → ℕ → Reserves
reserves_with total skip intensity dual = record { skip = skip; intensity = intensity; dual = dual; rest = total - skip - intensity - dual }

abbrev pub plan_with : Kind → Reserves → ℕ → List ℕ → Plan
plan_with kind reserves start bits = record { kind = kind; reserves = reserves; start = start; bits = bits }

pub boosted_within : (r : Request) (band : ℕ) → boosted_top r (suc band) ≤ band
unfolding boosted_top
boosted_within r zero = within (nat_lt 0 (boost_of r 0))
  where
    within : (b : Bool) → (if b then 0 else 0) ≤ 0
    within true = omega arith
    within false = omega arith
boosted_within r (suc band) = either (nat_lt 0 (boost_of r (suc band))) (boosted_top r (suc band)) (boosted_within r band)
  where
    either : (b : Bool) (m : ℕ) → m ≤ band → (if b then suc band else m) ≤ suc band
    either true m low = omega arith
    either false m low = omega (arith, low)

-- no amount counts for more than it is
count_within : (kind : Kind) (v : ℕ → ℕ) (band : ℕ) → count_of kind v band ≤ v band
unfolding count_of
count_within kind v band = either (is_reached kind v band) (v band) (most_of kind band) (bit_each kind)
  where
    either : (b : Bool) (n most each : ℕ) → (if b then min n most else (if nat_le each n then each else 0)) ≤ n
    either true n most each = omega arith
    either false n most each = grind (arith, nat_tests)

sum_zero : (f : ℕ → ℕ) (n : ℕ) → ((b : ℕ) → b < n → f b ≡ 0) → sum_below f n ≡ 0
unfolding sum_below
sum_zero f zero none = refl
sum_zero f (suc n) none =
    let a = sum_zero f n (λ b below. none b (omega arith)) in
    let b = none n (omega arith) in
    omega (arith, a, b)

counts_zero : (kind : Kind) (v : ℕ → ℕ) → ((b : ℕ) → b < kind.end → v b ≡ 0) → counts_of kind v ≡ 0
unfolding counts_of
counts_zero kind v none =
    sum_zero (count_of kind v) kind.end (λ b below. let w = count_within kind v b in let z = none b below in omega (arith, w, z))

first_zero : (r : Request) (band : ℕ) → band < 21 → value_of r 0 band ≡ 0
unfolding value_of tilted
first_zero r band inside =
    let e : allocation_entry 0 band ≡ 0 = equal (allocation_entry 0 band) (at_each (λ k. nat_eq (allocation_entry 0 k) 0) 21 band refl inside) in
    let u : usual_of r.kind 0 band ≡ 0 = usual_is r.kind 0 band (omega arith) ∙ ap (λ n. coefficients_of r.kind band * n / 4) e ∙ omega arith in
    rw u refl
  where
    equal : (n : ℕ) → nat_eq n 0 ≡ true → n ≡ 0
    equal n t = grind (arith, nat_tests)

-- the amounts of the greatest quality fit, without a step
pub first_fits : (r : Request) (rest : ℕ) → counts_of r.kind (first_of r (quality_of r rest)) ≤ rest
first_fits r rest = elim (cases_eq (quality_of r rest) 0) [
  | inl none ↦
      let z : counts_of r.kind (first_of r (quality_of r rest)) ≡ 0 =
      counts_zero r.kind (first_of r (quality_of r rest)) (λ b below. first_none r (quality_of r rest) b none (band_inside r.kind b below)) in
      omega (arith, z)
  | inr some ↦
      let same : counts_of r.kind (first_of r (quality_of r rest)) ≡ counts_of r.kind (boosted_of r (quality_of r rest)) =
      counts_same r.kind (first_of r (quality_of r rest)) (boosted_of r (quality_of r rest)) (λ b below. first_some r (quality_of r rest) b some) in
      let fits = quality_passes r rest some in
      omega (arith, same, fits)
]
  where
    first_none : (r : Request) (quality band : ℕ) → quality ≡ 0 → band < 21 → first_of r quality band ≡ 0
    first_none r quality band none inside = rw none (let z = first_zero r band inside in omega (arith, z))

    first_some : (r : Request) (quality band : ℕ) → quality ≢ 0 → first_of r quality band ≡ boosted_of r quality band
    first_some r quality band some = let t : nat_eq quality 0 ≡ false = grind (arith, nat_tests) in rw t refl

-- the amounts at the greatest step fit
pub bits_fit : (r : Request) (rest : ℕ) → counts_of r.kind (stepped_of r (quality_of r rest) (step_of r (quality_of r rest) rest)) ≤ rest
bits_fit r rest = elim (cases_eq (step_of r (quality_of r rest) rest) 0) [
  | inl none ↦
      let same : counts_of r.kind (stepped_of r (quality_of r rest) (step_of r (quality_of r rest) rest)) ≡ counts_of r.kind (first_of r (quality_of r rest)) =
      counts_same r.kind (stepped_of r (quality_of r rest) (step_of r (quality_of r rest) rest)) (first_of r (quality_of r rest))
      (λ b below. no_step r (quality_of r rest) (step_of r (quality_of r rest) rest) b none) in
      let fits = first_fits r rest in
      omega (arith, same, fits)
  | inr some ↦ step_passes r (quality_of r rest) rest some
]

-- what is laid aside
skip_within : (total : ℕ) → skip_reserve total ≤ total
skip_within total = grind (arith, nat_tests)

intensity_within : (kind : Kind) (left : ℕ) → intensity_reserve kind left ≤ left
intensity_within kind left = either (nat_eq kind.channels 2) (nat_le (intensity_bits kind.end) left) (intensity_bits kind.end) refl
  where
    either : (a b : Bool) (bits : ℕ) → nat_le bits left ≡ b → (if a && b then bits else 0) ≤ left
    either true true bits t = grind (arith, nat_tests)
    either true false bits t = omega arith
    either false b bits t = omega arith

dual_within : (intensity left : ℕ) → dual_reserve intensity left ≤ left
dual_within intensity left = either (nat_lt 0 intensity) (nat_le 8 left) refl
  where
    either : (a b : Bool) → nat_le 8 left ≡ b → (if a && b then 8 else 0) ≤ left
    either true true t = grind (arith, nat_tests)
    either true false t = omega arith
    either false b t = omega arith

intensity_is : (test : Bool) (n : ℕ) → (if test then n else 0) ≡ (if nat_eq (if test then n else 0) 0 then 0 else n)
intensity_is true n = grind (arith, nat_tests)
intensity_is false n = refl

intensity_mono : (kind : Kind) (left : ℕ) → kind.channels ≡ 1 → intensity_reserve kind left ≡ 0
intensity_mono kind left one = let t : nat_eq kind.channels 2 ≡ false = grind (arith, nat_tests) in rw t refl

dual_none : (intensity left : ℕ) → intensity ≡ 0 → dual_reserve intensity left ≡ 0
dual_none intensity left none = rw none refl

pub plan_is : (r : Request) → IsRequest r → IsPlan (plan_of r)
unfolding plan_of reserves_of
plan_is r is =
    let kind = r.kind in
    let total : ℕ = raised r.total in
    let skip : ℕ = skip_reserve total in
    let intensity : ℕ = intensity_reserve kind (total - skip) in
    let dual : ℕ = dual_reserve intensity (total - skip - intensity) in
    let rest : ℕ = total - skip - intensity - dual in
    let s = skip_within total in
    let h = intensity_within kind (total - skip) in
    let d = dual_within intensity (total - skip - intensity) in
    let t = raised_most r.total is.total in
    let some = end_least kind in
    let bits = bits_fit r rest in
    record {
      start = start_below r kind.end some;
      intensity = intensity_is (nat_eq kind.channels 2 && nat_le (intensity_bits kind.end) (total - skip)) (intensity_bits kind.end);
      mono = intensity_mono kind (total - skip);
      dual = dual_none intensity (total - skip - intensity);
      whole = omega (arith, s, h, d, t);
      length_is = length-map-range_with_len (λ band. if nat_lt band kind.end then count_of kind (stepped_of r (quality_of r rest) (step_of r (quality_of r rest) rest)) band else 0) 0 21;
      fits = subst (λ n. n ≤ rest) (counts_read kind (stepped_of r (quality_of r rest) (step_of r (quality_of r rest) rest))) bits;
      beyond = bands_past kind.end (count_of kind (stepped_of r (quality_of r rest) (step_of r (quality_of r rest) rest)));
    }
  where
    start_below : (r : Request) (n : ℕ) → 0 < n → boosted_top r n < n
    start_below r zero some = absurd (omega (arith, some))
    start_below r (suc n) some = let w = boosted_within r n in omega (arith, w)

    raised_most : (z : ℤ) → z ≤ℤ pos 81600 → raised z ≤ 81600
    raised_most (pos n) most = omega (arith, ints, most)
    raised_most (negsuc n) most = omega arith

-- what is laid aside and what is left are the total
pub whole_is : (kind : Kind) (total : ℕ) → whole_of (reserves_of kind total) ≡ total
unfolding reserves_of
whole_is kind total =
    let skip : ℕ = skip_reserve total in
    let intensity : ℕ = intensity_reserve kind (total - skip) in
    let dual : ℕ = dual_reserve intensity (total - skip - intensity) in
    let s = skip_within total in
    let h = intensity_within kind (total - skip) in
    let d = dual_within intensity (total - skip - intensity) in
    omega (arith, s, h, d)
