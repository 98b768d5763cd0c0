-- What the script of an allocation may give, and how many questions it asks.
use Rattle.std.proofs.Common.{◌≡◌, ◌≢◌, ℕ, zero, suc, ◌+◌, ◌-◌, ◌*◌, ◌<◌, ◌≤◌, Bool, true, false, true≢false, ◌||◌, nat_le, nat_eq, if◌then◌else◌, List, refl, sym, ◌∙◌, ap, subst, inl, inr, arith}
use Rattle.std.specs.Prelude.{ℤ, pos, negsuc, ◌≤ℤ◌, max, slice_index, slice_index_or, slice_set}
use Rattle.std.proofs.lemmas.Bool.{cases_eq, cases_lt}
use Rattle.std.proofs.lemmas.Bool.Decides.{nat_tests}
use Rattle.std.proofs.lemmas.List.FromFn.{get_or-map-range_with_len}
use Rattle.std.proofs.Math.Nat.{zero-div}
use Rattle.bit_allocation.specs.declared.plan.Plan.{Plan}
use Rattle.bit_allocation.specs.declared.request.Request.{Request}
use Rattle.bit_allocation.specs.declared.splitting.Split.{Split}
use Rattle.bit_allocation.specs.declared.stereo.Stereo.{Stereo}
use Rattle.bit_allocation.specs.declared.turns.Skipped.{Skipped}
use Rattle.bit_allocation.specs.declared.turns.Turn.{Turn}
use Rattle.bit_allocation.specs.declared.turns.Turn.TheVariants.{Stays, Goes}
use Rattle.bit_allocation.specs.Amounts.{raised, bit_each, threshold_of, most_of}
use Rattle.bit_allocation.specs.Counts.{sum_below, few, IsGreatest}
use Rattle.bit_allocation.specs.Facts.{IsPlan, IsTurn, IsSkipped, IsStereo, whole_of}
use Rattle.bit_allocation.specs.Plans.{plan_of}
use Rattle.bit_allocation.specs.Requests.{AreBoosts, IsTrim}
use Rattle.bit_allocation.specs.Scripts.{intensity_now, left_of, offer_of, turn_script, after_turn, skipped, skip_script, intensity_script, dual_script, stereo_script, plan_script, allocation_script}
use Rattle.bit_allocation.specs.Shares.{balance_of, split_at, skipped_split, by_bands, allocation_of}
use Rattle.bit_allocation.specs.Totals.{given_of, taken_of, IsBlank}
use Rattle.bit_allocation.proofs.AllocationLemmas.{allocation_is, request_with, band_skipped, valid_for}
use Rattle.celt_base.proofs.BandEnds.{end_most}
use Rattle.bit_allocation.proofs.CountLemmas.{sum_same}
use Rattle.bit_allocation.proofs.PlanLemmas.{plan_is, whole_is}
use Rattle.bit_allocation.proofs.SkipSteps.{IsOn, on_start, on_left, on_next, on_end}
use Rattle.bit_allocation.proofs.SplitLemmas.{even_within, skipped_with}
use Rattle.bit_allocation.proofs.StereoSteps.{first_none}
use Rattle.bit_allocation.proofs.TotalLemmas.{total_within}
use Rattle.celt_base.specs.declared.coder.Place.TheVariants.{Skip, Intensity, Dual}
use Rattle.celt_base.specs.declared.kind.Kind.{Kind}
use Rattle.celt_base.specs.declared.question.Question.TheVariants.{Uniform}
use Rattle.celt_base.specs.declared.state.Allocation.{Allocation}
use Rattle.celt_base.specs.Questions.{IsBelow}
use Rattle.celt_base.specs.States.{IsAllocation}
use Rattle.celt_base.specs.WalkOrders.{AtMost, MayGive}
use Rattle.celt_base.specs.WalkScripts.{Script, Done, Look, Ask, Begin, and_then, asks_at, asks_bit}
use Rattle.celt_base.proofs.WalkOrders.{gave, most_more, most_then, most_answer, most_bit}

-- two greatest numbers are one
pub one_greatest : (test : ℕ → Bool) (most m n : ℕ) → IsGreatest test most m → IsGreatest test most n → m ≡ n
one_greatest test most m n first second = elim (cases_lt m n) [
  | inl less ↦ absurd (over test most m n first second less)
  | inr more ↦ elim (cases_eq n m) [
    | inl same ↦ sym same
    | inr ne ↦ absurd (over test most n m second first (omega (arith, more, ne)))
  ]
]
  where
    over : (test : ℕ → Bool) (most m n : ℕ) → IsGreatest test most m → IsGreatest test most n → m < n → ⊥
    over test most m n first second less =
        let w = second.within in
        true≢false (sym (second.passes (omega (arith, less))) ∙ first.none_above n less w)

-- the offer is what the band has and what is left
offer_within : (p : Plan) (band asked : ℕ) (bits : List ℕ) → band < 21 → offer_of p band asked bits ≤ slice_index bits band + left_of p (band + 1) asked bits
unfolding offer_of
offer_within p band asked bits inside =
    let w = even_within (left_of p (band + 1) asked bits) (band + 1) band (omega arith) (omega (arith, inside)) in
    omega (arith, w)

few_within : (kind : Kind) (amount : ℕ) → (few kind amount ≤ amount) × (few kind amount ≤ 16)
few_within kind amount = by_test (nat_le (bit_each kind) amount) refl
  where
    by_test : (b : Bool) → nat_le (bit_each kind) amount ≡ b → ((if b then bit_each kind else 0) ≤ amount) × ((if b then bit_each kind else 0) ≤ 16)
    by_test true e = let two = kind.two_channels in (grind (arith, nat_tests), omega (arith, two))
    by_test false e = (omega arith, omega arith)

turn_may : (kind : Kind) (band offer : ℕ) (turn : Turn) → MayGive (turn_script kind band offer) turn → IsTurn offer turn
unfolding turn_script
turn_may kind band offer turn = by_test (nat_le (max (threshold_of kind band) (bit_each kind + 8)) offer) refl
  where
    by_answer : (stays : Bool) → max (threshold_of kind band) (bit_each kind + 8) ≤ offer → turn ≡ (if stays then Stays else Goes 1 (few kind (offer - 8))) → IsTurn offer turn
    by_answer true enough e = subst (IsTurn offer) (sym e) tt
    by_answer false enough e = subst (IsTurn offer) (sym e) (let f = few_within kind (offer - 8) in let w = f.0 in (omega arith, f.1, omega (arith, w, enough)))

    by_test : (b : Bool) → nat_le (max (threshold_of kind band) (bit_each kind + 8)) offer ≡ b
        → MayGive (if b then and_then (asks_bit (Skip band (pos offer)) 1) (λ stays. Done (if stays then Stays else Goes 1 (few kind (offer - 8)))) else Done (Goes 0 (few kind offer))) turn
        → IsTurn offer turn
    by_test true e m =
        let enough : max (threshold_of kind band) (bit_each kind + 8) ≤ offer = grind (arith, nat_tests) in
        let g = gave (asks_bit (Skip band (pos offer)) 1) (λ stays. Done (if stays then Stays else Goes 1 (few kind (offer - 8)))) turn m in
        by_answer g.value enough g.second
    by_test false e m = subst (IsTurn offer) (sym m) (let f = few_within kind offer in let w = f.0 in (omega arith, f.1, omega (arith, w)))

-- one band of skipping, where what follows is known
skip_step : (p : Plan) (band asked used : ℕ) (bits : List ℕ) (s : Skipped) → IsOn p (suc band) asked used bits
    → ((a u : ℕ) (b : List ℕ) → IsOn p band a u b → MayGive (skip_script p band a b) s → IsSkipped p s)
    → (test : Bool) → nat_le band p.start ≡ test
    → MayGive (if test then Done (skipped p (suc band) asked bits p.reserves.skip) else and_then (turn_script p.kind band (offer_of p band asked bits))
    (after_turn (Done (skipped p (suc band) asked bits 0)) (λ more share. skip_script p band (asked + more) (slice_set bits band share)))) s
    → IsSkipped p s
skip_step p band asked used bits s is follow true e m =
    subst (IsSkipped p) (sym m)
    (on_end p (suc band) asked used p.reserves.skip (left_of p (suc band) asked bits + p.reserves.skip) bits is (omega arith)
    (ap (λ n. n + p.reserves.skip) (sym (on_left p (suc band) asked used bits is))))
skip_step p band asked used bits s is follow false e m =
    let g = gave (turn_script p.kind band (offer_of p band asked bits)) (after_turn (Done (skipped p (suc band) asked bits 0)) (λ more share. skip_script p band (asked + more) (slice_set bits band share))) s m in
    by_turn g.value (turn_may p.kind band (offer_of p band asked bits) g.value g.first) g.second
  where
    add_one : (n : ℕ) → n + 1 ≡ suc n
    add_one n = omega arith

    within : offer_of p band asked bits ≤ slice_index bits band + ((p.reserves.rest + p.reserves.intensity) - (used + intensity_now p (suc band)))
    within =
        let end = end_most p.kind in
        let most = is.most in
        let w = offer_within p band asked bits (omega (arith, end, most)) in
        let l : left_of p (band + 1) asked bits ≡ (p.reserves.rest + p.reserves.intensity) - (used + intensity_now p (suc band)) =
        ap (λ n. left_of p n asked bits) (add_one band) ∙ sym (on_left p (suc band) asked used bits is) in
        omega (arith, w, l)

    by_turn : (turn : Turn) → IsTurn (offer_of p band asked bits) turn
        → MayGive (after_turn (Done (skipped p (suc band) asked bits 0)) (λ more share. skip_script p band (asked + more) (slice_set bits band share)) turn) s
        → IsSkipped p s
    by_turn Stays turn m =
        subst (IsSkipped p) (sym m)
        (on_end p (suc band) asked used 0 (left_of p (suc band) asked bits + 0) bits is (omega arith)
        (ap (λ n. n + 0) (sym (on_left p (suc band) asked used bits is))))
    by_turn (Goes more share) turn m =
        let above : p.start < band = grind (arith, nat_tests) in
        follow (asked + more) (used + 8 * more + share - slice_index bits band) (slice_set bits band share)
        (on_next p (suc band) band asked used more share ((p.reserves.rest + p.reserves.intensity) - (used + intensity_now p (suc band))) (offer_of p band asked bits) bits refl above is refl within turn) m

skip_may : (p : Plan) (coded asked used : ℕ) (bits : List ℕ) (s : Skipped) → IsOn p coded asked used bits → MayGive (skip_script p coded asked bits) s → IsSkipped p s
unfolding skip_script
skip_may p zero asked used bits s is m = let above = is.above in absurd (omega (arith, above))
skip_may p (suc band) asked used bits s is m =
    skip_step p band asked used bits s is (λ a u b i n. skip_may p band a u b s i n) (nat_le band p.start) refl m

intensity_may : (p : Plan) (coded i : ℕ) → MayGive (intensity_script p coded) i → (i ≤ coded) × (p.reserves.intensity ≡ 0 → i ≡ 0)
unfolding intensity_script asks_at
intensity_may p coded i = by_test (nat_eq p.reserves.intensity 0) refl
  where
    within : (z : ℤ) → IsBelow (coded + 1) z → raised z ≤ coded
    within (pos n) below = omega (arith, below)
    within (negsuc n) below = absurd below

    by_test : (b : Bool) → nat_eq p.reserves.intensity 0 ≡ b
        → MayGive (if b then Done 0 else Ask (Intensity coded) (Uniform (coded + 1)) (λ answer. Done (raised answer))) i
        → (i ≤ coded) × (p.reserves.intensity ≡ 0 → i ≡ 0)
    by_test true e m = (omega (arith, m), λ none. m)
    by_test false e m =
        let some : p.reserves.intensity ≢ 0 = grind (arith, nat_tests) in
        let w = within m.0 m.1 in
        let v = m.2 in
        (omega (arith, w, v), λ none. absurd (some none))

dual_may : (p : Plan) (i : ℕ) (d : Bool) → i ≡ 0 → MayGive (dual_script p i) d → d ≡ false
unfolding dual_script
dual_may p i d none = by_test (nat_eq i 0 || nat_eq p.reserves.dual 0) (first_none i p.reserves.dual none)
  where
    by_test : (b : Bool) → b ≡ true → MayGive (if b then Done false else asks_bit Dual 1) d → d ≡ false
    by_test true e m = m
    by_test false e m = absurd (true≢false (sym e))

stereo_may : (p : Plan) (coded : ℕ) (t : Stereo) → IsPlan p → MayGive (stereo_script p coded) t → IsStereo p coded t
unfolding stereo_script
stereo_may p coded t is m =
    let g = gave (intensity_script p coded) (λ intensity. and_then (dual_script p intensity) (λ dual. Done (record { intensity = intensity; dual = dual }))) t m in
    let h = gave (dual_script p g.value) (λ dual. Done (record { intensity = g.value; dual = dual })) t g.second in
    let i = intensity_may p coded g.value g.first in
    subst (IsStereo p coded) (sym h.second) (record {
      within = i.0;
      mono = λ one. i.1 (is.mono one);
      mono_dual = λ one. dual_may p g.value h.value (i.1 (is.mono one)) h.first;
    })

-- what stands behind an allocation that may be given
pub record IsGiven (r : Request) (a : Allocation) : Type 0 where
  pub s : Skipped
  pub t : Stereo
  pub plan : IsPlan (plan_of r)
  pub is : IsSkipped (plan_of r) s
  pub stereo : IsStereo (plan_of r) s.coded t
  pub value : a ≡ allocation_of (plan_of r) s t

pub allocation_may : (kind : Kind) (total : ℤ) (boosts : List ℤ) (trim : ℤ) (a : Allocation)
    → total ≤ℤ pos 81600 → AreBoosts kind boosts → IsTrim trim
    → MayGive (allocation_script kind total boosts trim) a
    → IsGiven (request_with kind total boosts trim) a
unfolding allocation_script plan_script
allocation_may kind total boosts trim a most boosts_are trim_is m =
    let r = request_with kind total boosts trim in
    let p : Plan = plan_of r in
    let plan : IsPlan p = plan_is r (record { total = most; boosts = boosts_are; trim = trim_is }) in
    let g = gave (skip_script p p.kind.end 0 p.bits) (λ s. and_then (stereo_script p s.coded) (λ t. Done (allocation_of p s t))) a m in
    let h = gave (stereo_script p g.value.coded) (λ t. Done (allocation_of p g.value t)) a g.second in
    record {
      s = g.value;
      t = h.value;
      plan = plan;
      is = skip_may p p.kind.end 0 (sum_below (slice_index p.bits) p.kind.end) p.bits g.value (on_start p plan) g.first;
      stereo = stereo_may p g.value.coded h.value plan h.first;
      value = h.second;
    }

plan_kind : (r : Request) → (plan_of r).kind ≡ r.kind
unfolding plan_of
plan_kind r = refl

plan_whole : (r : Request) → whole_of (plan_of r).reserves ≡ raised r.total
unfolding plan_of
plan_whole r = whole_is r.kind (raised r.total)

given_is : (p : Plan) (s : Skipped) (t : Stereo) → given_of p.kind (allocation_of p s t) ≡ sum_below (taken_of p s t) 21 + balance_of p s t 21
unfolding allocation_of
given_is p s t =
    ap (λ n. n + balance_of p s t 21)
    (sum_same
    (λ band. raised (slice_index_or (by_bands (λ b. pos (split_at p s t b).pulses)) band (pos 0)) + bit_each p.kind * slice_index (by_bands (λ b. (split_at p s t b).fine)) band)
    (taken_of p s t) 21
    (λ band below.
    ap (λ n. raised n + bit_each p.kind * slice_index (by_bands (λ b. (split_at p s t b).fine)) band)
    (get_or-map-range_with_len (λ b. pos (split_at p s t b).pulses) 0 21 band band (pos 0) below (omega arith))
    ∙ ap (λ n. (split_at p s t band).pulses + bit_each p.kind * n)
    (get_or-map-range_with_len (λ b. (split_at p s t b).fine) 0 21 band band 0 below (omega arith))))

pub total_law : (kind : Kind) (total : ℤ) (boosts : List ℤ) (trim : ℤ) (a : Allocation)
    → total ≤ℤ pos 81600 → AreBoosts kind boosts → IsTrim trim
    → MayGive (allocation_script kind total boosts trim) a
    → given_of kind a ≤ raised total
total_law kind total boosts trim a most boosts_are trim_is m =
    let r = request_with kind total boosts trim in
    let g = allocation_may kind total boosts trim a most boosts_are trim_is m in
    let p : Plan = plan_of r in
    let w = total_within p g.s g.t 21 (omega arith) g.is in
    let e : given_of kind a ≡ given_of p.kind (allocation_of p g.s g.t) =
    ap (given_of kind) g.value ∙ ap (λ k. given_of k (allocation_of p g.s g.t)) (sym (plan_kind r)) in
    let f = given_is p g.s g.t in
    let t = plan_whole r in
    omega (arith, w, e, f, t)

pub valid_law : (kind : Kind) (total : ℤ) (boosts : List ℤ) (trim : ℤ) (a : Allocation)
    → total ≤ℤ pos 81600 → AreBoosts kind boosts → IsTrim trim
    → MayGive (allocation_script kind total boosts trim) a
    → IsAllocation (λ band. pos (most_of kind band)) kind a
valid_law kind total boosts trim a most boosts_are trim_is m =
    let r = request_with kind total boosts trim in
    let g = allocation_may kind total boosts trim a most boosts_are trim_is m in
    let p : Plan = plan_of r in
    valid_for p kind a (plan_kind r)
    (subst (IsAllocation (λ band. pos (most_of p.kind band)) p.kind) (sym g.value) (allocation_is p g.s g.t g.plan g.is g.stereo))

-- a band from the end on
blank_split : (p : Plan) (s : Skipped) (t : Stereo) (band : ℕ) → IsSkipped p s → p.kind.end ≤ band
    → split_at p s t band ≡ (record { pulses = 0; fine = 0; priority = true; balance = balance_of p s t band })
unfolding split_at skipped_split
blank_split p s t band is past =
    let most = is.most in
    sym (band_skipped p s t band (balance_of p s t band) p.kind refl (omega (arith, most, past)))
    ∙ ap (λ n. skipped_split p.kind n (balance_of p s t band)) (is.beyond band past)
    ∙ ap (λ n. skipped_with n (balance_of p s t band)) (zero-div (bit_each p.kind))

blank_band : (p : Plan) (s : Skipped) (t : Stereo) (band : ℕ) → IsSkipped p s → p.kind.end ≤ band → band < 21 → IsBlank (allocation_of p s t) band
unfolding allocation_of
blank_band p s t band is past inside =
    let e = blank_split p s t band is past in
    record {
      pulses = get_or-map-range_with_len (λ b. pos (split_at p s t b).pulses) 0 21 band band (pos 0) inside (omega arith) ∙ ap (λ (x : Split). pos x.pulses) e;
      fine = get_or-map-range_with_len (λ b. (split_at p s t b).fine) 0 21 band band 0 inside (omega arith) ∙ ap (λ (x : Split). x.fine) e;
      priority = get_or-map-range_with_len (λ b. (split_at p s t b).priority) 0 21 band band true inside (omega arith) ∙ ap (λ (x : Split). x.priority) e;
    }

pub blank_law : (kind : Kind) (total : ℤ) (boosts : List ℤ) (trim : ℤ) (a : Allocation)
    → total ≤ℤ pos 81600 → AreBoosts kind boosts → IsTrim trim
    → MayGive (allocation_script kind total boosts trim) a
    → (band : ℕ) → kind.end ≤ band → band < 21 → IsBlank a band
blank_law kind total boosts trim a most boosts_are trim_is m band past inside =
    let r = request_with kind total boosts trim in
    let g = allocation_may kind total boosts trim a most boosts_are trim_is m in
    let p : Plan = plan_of r in
    let k : p.kind ≡ kind = plan_kind r in
    let e : p.kind.end ≡ kind.end = ap (λ (x : Kind). x.end) k in
    subst (λ x. IsBlank x band) (sym g.value) (blank_band p g.s g.t band g.is (omega (arith, e, past)) inside)

-- ---- how many questions

most_turn : (kind : Kind) (band offer : ℕ) → AtMost 1 (turn_script kind band offer)
unfolding turn_script
most_turn kind band offer = by_test (nat_le (max (threshold_of kind band) (bit_each kind + 8)) offer)
  where
    by_test : (b : Bool) → AtMost 1 (if b then and_then (asks_bit (Skip band (pos offer)) 1) (λ stays. Done (if stays then Stays else Goes 1 (few kind (offer - 8)))) else Done (Goes 0 (few kind offer)))
    by_test true = most_then (asks_bit (Skip band (pos offer)) 1) (λ stays. Done (if stays then Stays else Goes 1 (few kind (offer - 8)))) 1 0 (most_bit (Skip band (pos offer)) 1) (λ stays m. tt)
    by_test false = tt

most_step : (p : Plan) (band asked : ℕ) (bits : List ℕ) (n : ℕ) → band ≤ n
    → ((k a : ℕ) (b : List ℕ) → band ≤ suc k → AtMost k (skip_script p band a b))
    → (test : Bool) → nat_le band p.start ≡ test
    → AtMost n (if test then Done (skipped p (suc band) asked bits p.reserves.skip) else and_then (turn_script p.kind band (offer_of p band asked bits))
    (after_turn (Done (skipped p (suc band) asked bits 0)) (λ more share. skip_script p band (asked + more) (slice_set bits band share))))
most_step p band asked bits n below follow true e = tt
most_step p band asked bits n below follow false e =
    let above : p.start < band = grind (arith, nat_tests) in
    most_more (and_then (turn_script p.kind band (offer_of p band asked bits)) (after_turn (Done (skipped p (suc band) asked bits 0)) (λ more share. skip_script p band (asked + more) (slice_set bits band share))))
    (1 + (n - 1)) n (omega (arith, above, below))
    (most_then (turn_script p.kind band (offer_of p band asked bits)) (after_turn (Done (skipped p (suc band) asked bits 0)) (λ more share. skip_script p band (asked + more) (slice_set bits band share)))
    1 (n - 1) (most_turn p.kind band (offer_of p band asked bits)) (λ turn m. by_turn turn))
  where
    by_turn : (turn : Turn) → AtMost (n - 1) (after_turn (Done (skipped p (suc band) asked bits 0)) (λ more share. skip_script p band (asked + more) (slice_set bits band share)) turn)
    by_turn Stays = tt
    by_turn (Goes more share) = follow (n - 1) (asked + more) (slice_set bits band share) (omega (arith, below))

most_skip : (p : Plan) (coded asked : ℕ) (bits : List ℕ) (n : ℕ) → coded ≤ suc n → AtMost n (skip_script p coded asked bits)
unfolding skip_script
most_skip p zero asked bits n below = tt
most_skip p (suc band) asked bits n below =
    most_step p band asked bits n (omega (arith, below)) (λ k a b l. most_skip p band a b k l) (nat_le band p.start) refl

most_intensity : (p : Plan) (coded : ℕ) → AtMost 1 (intensity_script p coded)
unfolding intensity_script
most_intensity p coded = by_test (nat_eq p.reserves.intensity 0)
  where
    by_test : (b : Bool) → AtMost 1 (if b then Done 0 else and_then (asks_at (Intensity coded) (Uniform (coded + 1))) (λ answer. Done (raised answer)))
    by_test true = tt
    by_test false = most_then (asks_at (Intensity coded) (Uniform (coded + 1))) (λ answer. Done (raised answer)) 1 0 (most_answer (Intensity coded) (Uniform (coded + 1))) (λ answer m. tt)

most_dual : (p : Plan) (i : ℕ) → AtMost 1 (dual_script p i)
unfolding dual_script
most_dual p i = by_test (nat_eq i 0 || nat_eq p.reserves.dual 0)
  where
    by_test : (b : Bool) → AtMost 1 (if b then Done false else asks_bit Dual 1)
    by_test true = tt
    by_test false = most_bit Dual 1

most_stereo : (p : Plan) (coded : ℕ) → AtMost 2 (stereo_script p coded)
unfolding stereo_script
most_stereo p coded =
    most_then (intensity_script p coded) (λ intensity. and_then (dual_script p intensity) (λ dual. Done (record { intensity = intensity; dual = dual }))) 1 1 (most_intensity p coded)
    (λ i m. most_then (dual_script p i) (λ dual. Done (record { intensity = i; dual = dual })) 1 0 (most_dual p i) (λ dual n. tt))

pub questions_law : (kind : Kind) (total : ℤ) (boosts : List ℤ) (trim : ℤ) → AtMost 22 (allocation_script kind total boosts trim)
unfolding allocation_script plan_script
questions_law kind total boosts trim =
    let r = request_with kind total boosts trim in
    let p : Plan = plan_of r in
    let end = end_most p.kind in
    most_then (skip_script p p.kind.end 0 p.bits) (λ s. and_then (stereo_script p s.coded) (λ t. Done (allocation_of p s t))) 20 2
    (most_skip p p.kind.end 0 p.bits 20 (omega (arith, end)))
    (λ s m. most_then (stereo_script p s.coded) (λ t. Done (allocation_of p s t)) 2 0 (most_stereo p s.coded) (λ t n. tt))
