-- Each question of an allocation is valid, and its fine energies have few bits, whatever the total, the boosts and the trim.
use Rattle.std.proofs.Common.{◌≡◌, ◌≢◌, ℕ, zero, suc, ◌+◌, ◌-◌, ◌/◌, ◌<◌, ◌≤◌, Bool, true, false, ◌||◌, nat_le, nat_eq, if◌then◌else◌, List, [], ◌∷◌, IsTrue, refl, sym, ap, subst, inl, inr, arith}
use Rattle.std.specs.Prelude.{⊤, ℤ, pos, max, slice_index, slice_set}
use Rattle.std.proofs.lemmas.Bool.{cases_lt}
use Rattle.std.proofs.lemmas.Bool.Decides.{nat_tests}
use Rattle.std.proofs.lemmas.List.FromFn.{get_or-map-range_with_len}
use Rattle.std.proofs.Math.Nat.{div-le_self}
use Rattle.bit_allocation.specs.declared.plan.Plan.{Plan}
use Rattle.bit_allocation.specs.declared.splitting.Split.{Split}
use Rattle.bit_allocation.specs.declared.stereo.Stereo.{Stereo}
use Rattle.bit_allocation.specs.declared.turns.Skipped.{Skipped}
use Rattle.bit_allocation.specs.declared.turns.Turn.{Turn}
use Rattle.bit_allocation.specs.declared.turns.Turn.TheVariants.{Stays, Goes}
use Rattle.bit_allocation.specs.Amounts.{bit_each, threshold_of}
use Rattle.bit_allocation.specs.Counts.{few}
use Rattle.bit_allocation.specs.Plans.{plan_of}
use Rattle.bit_allocation.specs.Scripts.{offer_of, turn_script, after_turn, skipped, skip_script, intensity_script, dual_script, stereo_script, plan_script, allocation_script}
use Rattle.bit_allocation.specs.Shares.{share_of, left_after, skipped_split, band_split, balance_of, split_at, allocation_of}
use Rattle.bit_allocation.proofs.AllocationLemmas.{request_with, band_coded, band_skipped}
use Rattle.bit_allocation.proofs.TotalLemmas.{split_is}
use Rattle.celt_base.proofs.BandEnds.{end_most}
use Rattle.celt_base.proofs.WalkOrders.{gave}
use Rattle.celt_base.specs.declared.coder.Place.TheVariants.{Skip}
use Rattle.celt_base.specs.declared.kind.Kind.{Kind}
use Rattle.celt_base.specs.declared.question.Question.TheVariants.{Uniform}
use Rattle.celt_base.specs.declared.state.Allocation.{Allocation}
use Rattle.celt_base.specs.Ends.{is_band_end}
use Rattle.celt_base.specs.WalkOrders.{MayGive}
use Rattle.celt_base.specs.WalkScripts.{Script, Done, and_then, asks_bit}
use Rattle.frame_symbols.specs.Validity.{IsAllValid}
use Rattle.frame_symbols.proofs.ValiditySteps.{valid_done, valid_given, valid_then, valid_if, valid_answer, valid_bit}

band_end_some : (n : ℕ) → IsTrue (is_band_end n) → 1 ≤ n
band_end_some n is = grind (arith, nat_tests)

-- what a turn leaves
abbrev IsSmall : Turn → Type 0
IsSmall Stays = ⊤
IsSmall (Goes asked share) = share ≤ 16

few_small : (kind : Kind) (amount : ℕ) → few kind amount ≤ 16
few_small kind amount = by_test (nat_le (bit_each kind) amount)
  where
    by_test : (b : Bool) → (if b then bit_each kind else 0) ≤ 16
    by_test true = let two = kind.two_channels in omega (arith, two)
    by_test false = omega arith

turn_small : (kind : Kind) (band offer : ℕ) (turn : Turn) → MayGive (turn_script kind band offer) turn → IsSmall turn
unfolding turn_script
turn_small kind band offer turn = by_test (nat_le (max (threshold_of kind band) (bit_each kind + 8)) offer)
  where
    by_answer : (stays : Bool) → turn ≡ (if stays then Stays else Goes 1 (few kind (offer - 8))) → IsSmall turn
    by_answer true e = subst IsSmall (sym e) tt
    by_answer false e = subst IsSmall (sym e) (few_small kind (offer - 8))

    by_test : (b : Bool)
        → MayGive (if b then and_then (asks_bit (Skip band (pos offer)) 1) (λ stays. Done (if stays then Stays else Goes 1 (few kind (offer - 8)))) else Done (Goes 0 (few kind offer))) turn
        → IsSmall turn
    by_test true m =
        let g = gave (asks_bit (Skip band (pos offer)) 1) (λ stays. Done (if stays then Stays else Goes 1 (few kind (offer - 8)))) turn m in
        by_answer g.value g.second
    by_test false m = subst IsSmall (sym m) (few_small kind offer)

-- the bands that are coded, and the few bits of those above them
record AreCoded (p : Plan) (s : Skipped) : Type 0 where
  some : 1 ≤ s.coded
  most : s.coded ≤ 21
  small : (band : ℕ) → s.coded ≤ band → band < p.kind.end → slice_index s.bits band ≤ 16

set_small : (bits : List ℕ) (at value band : ℕ) → value ≤ 16 → (band ≢ at → slice_index bits band ≤ 16) → slice_index (slice_set bits at value) band ≤ 16
set_small [] at value band small other = omega arith
set_small (x ∷ bits) zero value zero small other = small
set_small (x ∷ bits) zero value (suc band) small other = other (omega arith)
set_small (x ∷ bits) (suc at) value zero small other = other (omega arith)
set_small (x ∷ bits) (suc at) value (suc band) small other = set_small bits at value band small (λ ne. other (omega (arith, ne)))

skip_step : (p : Plan) (band asked : ℕ) (bits : List ℕ) (s : Skipped) → band < 21
    → ((k : ℕ) → suc band ≤ k → k < p.kind.end → slice_index bits k ≤ 16)
    → ((a : ℕ) (b : List ℕ) → 1 ≤ band → ((k : ℕ) → band ≤ k → k < p.kind.end → slice_index b k ≤ 16) → MayGive (skip_script p band a b) s → AreCoded p s)
    → (test : Bool) → nat_le band p.start ≡ test
    → MayGive (if test then Done (skipped p (suc band) asked bits p.reserves.skip) else and_then (turn_script p.kind band (offer_of p band asked bits))
    (after_turn (Done (skipped p (suc band) asked bits 0)) (λ more share. skip_script p band (asked + more) (slice_set bits band share)))) s
    → AreCoded p s
skip_step p band asked bits s inside small follow true e m = subst (AreCoded p) (sym m) (record { some = omega arith; most = inside; small = small })
skip_step p band asked bits s inside small follow false e m =
    let g = gave (turn_script p.kind band (offer_of p band asked bits)) (after_turn (Done (skipped p (suc band) asked bits 0)) (λ more share. skip_script p band (asked + more) (slice_set bits band share))) s m in
    by_turn g.value (turn_small p.kind band (offer_of p band asked bits) g.value g.first) g.second
  where
    by_turn : (turn : Turn) → IsSmall turn
        → MayGive (after_turn (Done (skipped p (suc band) asked bits 0)) (λ more share. skip_script p band (asked + more) (slice_set bits band share)) turn) s
        → AreCoded p s
    by_turn Stays turn m = subst (AreCoded p) (sym m) (record { some = omega arith; most = inside; small = small })
    by_turn (Goes more share) turn m =
        let above : p.start < band = grind (arith, nat_tests) in
        follow (asked + more) (slice_set bits band share) (omega (arith, above))
        (λ k from below. set_small bits band share k turn (λ ne. small k (omega (arith, from, ne)) below)) m

skip_coded : (p : Plan) (coded asked : ℕ) (bits : List ℕ) (s : Skipped) → 1 ≤ coded → coded ≤ 21
    → ((k : ℕ) → coded ≤ k → k < p.kind.end → slice_index bits k ≤ 16)
    → MayGive (skip_script p coded asked bits) s → AreCoded p s
unfolding skip_script
skip_coded p zero asked bits s some most small m = absurd (omega (arith, some))
skip_coded p (suc band) asked bits s some most small m =
    skip_step p band asked bits s (omega (arith, most)) small (λ a b one few gives. skip_coded p band a b s one (omega (arith, most)) few gives) (nat_le band p.start) refl m

-- the questions
turn_valid : (kind : Kind) (band offer : ℕ) → IsAllValid (turn_script kind band offer)
unfolding turn_script
turn_valid kind band offer =
    valid_if (nat_le (max (threshold_of kind band) (bit_each kind + 8)) offer) (valid_then (valid_bit _ 1 (omega arith) (omega arith)) (λ stays. valid_done)) valid_done

after_valid : {A : Type 0} {stays : Script A} {goes : ℕ → ℕ → Script A} (turn : Turn) → IsAllValid stays → ((asked share : ℕ) → IsAllValid (goes asked share)) → IsAllValid (after_turn stays goes turn)
after_valid Stays a b = a
after_valid (Goes asked share) a b = b asked share

skip_valid : (p : Plan) (coded asked : ℕ) (bits : List ℕ) → IsAllValid (skip_script p coded asked bits)
unfolding skip_script
skip_valid p zero asked bits = valid_done
skip_valid p (suc band) asked bits =
    valid_if (nat_le band p.start) valid_done
    (valid_then (turn_valid p.kind band (offer_of p band asked bits)) (λ turn. after_valid turn valid_done (λ more share. skip_valid p band (asked + more) (slice_set bits band share))))

stereo_valid : (p : Plan) (coded : ℕ) → 1 ≤ coded → coded ≤ 21 → IsAllValid (stereo_script p coded)
unfolding stereo_script intensity_script dual_script
stereo_valid p coded some most =
    valid_then (valid_if (nat_eq p.reserves.intensity 0) valid_done (valid_then (valid_answer _ (Uniform (coded + 1)) (omega (arith, some)) (omega (arith, most))) (λ answer. valid_done))) (λ intensity.
    valid_then (valid_if (nat_eq intensity 0 || nat_eq p.reserves.dual 0) valid_done (valid_bit _ 1 (omega arith) (omega arith))) (λ dual. valid_done))

all_coded : (p : Plan) (s : Skipped) → MayGive (skip_script p p.kind.end 0 p.bits) s → AreCoded p s
all_coded p s gives =
    skip_coded p p.kind.end 0 p.bits s (band_end_some p.kind.end p.kind.ended) (end_most p.kind) (λ k from below. absurd (omega (arith, from, below))) gives

plan_valid : (p : Plan) → IsAllValid (plan_script p)
unfolding plan_script
plan_valid p =
    valid_given (skip_valid p p.kind.end 0 p.bits) (λ s gives.
    let c = all_coded p s gives in
    valid_then (stereo_valid p s.coded c.some c.most) (λ t. valid_done))

pub allocation_valid : (kind : Kind) (total : ℤ) (boosts : List ℤ) (trim : ℤ) → IsAllValid (allocation_script kind total boosts trim)
unfolding allocation_script
allocation_valid kind total boosts trim = plan_valid (plan_of (request_with kind total boosts trim))

-- the bits of the fine energies
skipped_fine : (kind : Kind) (bits before : ℕ) → bits ≤ 16 → (skipped_split kind bits before).fine ≤ 24
unfolding skipped_split
skipped_fine kind bits before small =
    let d = div-le_self bits (bit_each kind) in
    let w : bits / bit_each kind ≤ 24 = omega (arith, d, small) in
    w

band_fine : (p : Plan) (s : Skipped) (t : Stereo) (band before : ℕ) → band < 21 → (s.coded ≤ band → slice_index s.bits band ≤ 16) → (band_split p s t band before).fine ≤ 24
band_fine p s t band before inside small = elim (cases_lt band s.coded) [
  | inl below ↦
      let share = share_of (slice_index s.bits band) (left_after p s t) s.coded band in
      let f = (split_is p.kind t band share before inside).fine in
      let e = ap (λ (x : Split). x.fine) (band_coded p s t band before p.kind refl below) in
      omega (arith, f, e)
  | inr above ↦
      let f = skipped_fine p.kind (slice_index s.bits band) before (small above) in
      let e = ap (λ (x : Split). x.fine) (band_skipped p s t band before p.kind refl above) in
      omega (arith, f, e)
]

split_fine : (p : Plan) (s : Skipped) (t : Stereo) (band : ℕ) → band < 21 → (s.coded ≤ band → slice_index s.bits band ≤ 16) → slice_index (allocation_of p s t).fine band ≤ 24
unfolding allocation_of split_at
split_fine p s t band inside small =
    let f = band_fine p s t band (balance_of p s t band) inside small in
    let e = get_or-map-range_with_len (λ b. (split_at p s t b).fine) 0 21 band band 0 inside (omega arith) in
    omega (arith, f, e)

plan_fine : (p : Plan) (a : Allocation) → MayGive (plan_script p) a → (band : ℕ) → band < p.kind.end → slice_index a.fine band ≤ 24
unfolding plan_script
plan_fine p a m band inside =
    let end = end_most p.kind in
    let g = gave (skip_script p p.kind.end 0 p.bits) (λ s. and_then (stereo_script p s.coded) (λ t. Done (allocation_of p s t))) a m in
    let h = gave (stereo_script p g.value.coded) (λ t. Done (allocation_of p g.value t)) a g.second in
    let c = all_coded p g.value g.first in
    subst (λ (b : Allocation). slice_index b.fine band ≤ 24) (sym h.second)
    (split_fine p g.value h.value band (omega (arith, end, inside)) (λ above. c.small band above inside))

pub allocation_fine : (kind : Kind) (total : ℤ) (boosts : List ℤ) (trim : ℤ) (a : Allocation) → MayGive (allocation_script kind total boosts trim) a
    → (band : ℕ) → band < kind.end → slice_index a.fine band ≤ 24
unfolding allocation_script plan_of
allocation_fine kind total boosts trim a m band inside = plan_fine (plan_of (request_with kind total boosts trim)) a m band inside
