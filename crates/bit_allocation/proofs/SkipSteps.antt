-- A walk of skipping on its way.
use Rattle.std.proofs.Common.{◌≡◌, ℕ, zero, suc, ◌+◌, ◌-◌, ◌*◌, ◌<◌, ◌≤◌, Bool, true, false, nat_le, nat_eq, if◌then◌else◌, List, length, refl, sym, ◌∙◌, ap, subst, inl, inr, arith}
use Rattle.std.specs.Prelude.{max, ℤ, pos, slice_index, slice_set}
use Rattle.std.proofs.lemmas.Bool.{cases_eq}
use Rattle.std.proofs.lemmas.Bool.Decides.{nat_tests}
use Rattle.std.proofs.lemmas.List.{get_or-set_same, get_or-set_other, length-set}
use Rattle.bit_allocation.specs.declared.plan.Plan.{Plan}
use Rattle.bit_allocation.specs.declared.turns.Skipped.{Skipped}
use Rattle.bit_allocation.specs.declared.turns.Turn.{Turn}
use Rattle.bit_allocation.specs.declared.turns.Turn.TheVariants.{Stays, Goes}
use Rattle.bit_allocation.specs.Amounts.{threshold_of, bit_each}
use Rattle.bit_allocation.specs.Counts.{sum_below, few}
use Rattle.bit_allocation.specs.Facts.{IsPlan, IsTurn, IsSkipped}
use Rattle.bit_allocation.specs.Plans.{intensity_bits}
use Rattle.bit_allocation.specs.Scripts.{intensity_now, left_of, offer_of, turn_script, after_turn, skipped, skip_script}
use Rattle.bit_allocation.specs.Shares.{even_of, beyond_of}
use Rattle.celt_base.proofs.BandEnds.{end_most}
use Rattle.bit_allocation.proofs.CountLemmas.{sum_same}
use Rattle.celt_base.specs.declared.coder.Place.TheVariants.{Skip}
use Rattle.celt_base.specs.declared.kind.Kind.{Kind}
use Rattle.celt_base.specs.WalkCalls.{CoderCalls, ChooserCalls}
use Rattle.celt_base.specs.WalkScripts.{Done, and_then, asks_bit}
use Rattle.celt_base.specs.Walks.{Walked}
use Rattle.celt_base.proofs.Below.{at_each, at_most}
use Rattle.celt_base.proofs.WalkSteps.{Going, start, walk, end, when_true, when_false, no_walk}
use Rattle.celt_tables.specs.Tables.{width_of}

-- sums of a list in which one item is changed
pub sum_set : (bits : List ℕ) (band share n : ℕ) → band < length bits → band < n
    → sum_below (slice_index (slice_set bits band share)) n + slice_index bits band ≡ sum_below (slice_index bits) n + share
unfolding sum_below
sum_set bits band share zero whole inside = absurd (omega (arith, inside))
sum_set bits band share (suc n) whole inside = elim (cases_eq band n) [
  | inl e ↦
      let low : sum_below (slice_index (slice_set bits band share)) n ≡ sum_below (slice_index bits) n =
      sum_same (slice_index (slice_set bits band share)) (slice_index bits) n (λ b below. get_or-set_other bits band b share 0 (omega (arith, below, e))) in
      let at : slice_index (slice_set bits band share) n ≡ share = ap (slice_index (slice_set bits band share)) (sym e) ∙ get_or-set_same bits band share 0 whole in
      let old : slice_index bits band ≡ slice_index bits n = ap (slice_index bits) e in
      omega (arith, low, at, old)
  | inr ne ↦
      let low = sum_set bits band share n whole (omega (arith, inside, ne)) in
      let at : slice_index (slice_set bits band share) n ≡ slice_index bits n = get_or-set_other bits band n share 0 (λ e. ne (sym e)) in
      omega (arith, low, at)
]

pub part_within : (f : ℕ → ℕ) (band n : ℕ) → band < n → f band ≤ sum_below f n
unfolding sum_below
part_within f band zero inside = absurd (omega (arith, inside))
part_within f band (suc n) inside = elim (cases_eq band n) [
  | inl e ↦ let at : f band ≡ f n = ap f e in omega (arith, at)
  | inr ne ↦ let low = part_within f band n (omega (arith, inside, ne)) in omega (arith, low)
]

-- what is laid aside for the choice falls with the bands
intensity_falls : (p : Plan) (band : ℕ) → band < 21 → intensity_now p band ≤ intensity_now p (suc band)
intensity_falls p band inside = either (nat_eq p.reserves.intensity 0)
  where
    bits_rise : intensity_bits band ≤ intensity_bits (suc band)
    bits_rise = at_most (intensity_bits band) (intensity_bits (suc band)) (at_each (λ k. nat_le (intensity_bits k) (intensity_bits (suc k))) 21 band refl inside)

    either : (b : Bool) → (if b then 0 else intensity_bits band) ≤ (if b then 0 else intensity_bits (suc band))
    either true = omega arith
    either false = bits_rise

-- Where so many bands are coded, and all bands have these bits.
pub record IsOn (p : Plan) (coded asked used : ℕ) (bits : List ℕ) : Type 0 where
  pub above : p.start < coded
  pub most : coded ≤ p.kind.end
  pub length_is : length bits ≡ 21
  pub used_is : used ≡ sum_below (slice_index bits) p.kind.end + 8 * asked
  pub fits : used + intensity_now p coded ≤ p.reserves.rest + p.reserves.intensity
  pub beyond : (band : ℕ) → p.kind.end ≤ band → slice_index bits band ≡ 0
  pub few_bits : (band : ℕ) → coded ≤ band → slice_index bits band ≤ 16

pub on_start : (p : Plan) → IsPlan p → IsOn p p.kind.end 0 (sum_below (slice_index p.bits) p.kind.end) p.bits
on_start p is =
    let fits = is.fits in
    let intensity = is.intensity in
    record {
      above = is.start;
      most = omega arith;
      length_is = is.length_is;
      used_is = omega arith;
      fits = omega (arith, fits, intensity);
      beyond = is.beyond;
      few_bits = λ band above. let z = is.beyond band above in omega (arith, z);
    }

-- what is left, and the offer
pub on_left : (p : Plan) (coded asked used : ℕ) (bits : List ℕ) → IsOn p coded asked used bits
    → (p.reserves.rest + p.reserves.intensity) - (used + intensity_now p coded) ≡ left_of p coded asked bits
unfolding left_of
on_left p coded asked used bits is = let u = is.used_is in omega (arith, u)

pub on_offer : (p : Plan) (band asked left offer : ℕ) (bits : List ℕ) → left ≡ left_of p (band + 1) asked bits
    → offer ≡ slice_index bits band + even_of left (band + 1) * width_of band + beyond_of left (band + 1) band
    → offer ≡ offer_of p band asked bits
unfolding offer_of
on_offer p band asked left offer bits e o = o ∙ ap (λ l. slice_index bits band + even_of l (band + 1) * width_of band + beyond_of l (band + 1) band) e

-- a band's bits are among those of all bands
pub bit_used : (p : Plan) (coded asked used : ℕ) (bits : List ℕ) (band : ℕ) → IsOn p coded asked used bits → band < p.kind.end → slice_index bits band ≤ used
bit_used p coded asked used bits band is inside =
    let u = is.used_is in let w = part_within (slice_index bits) band p.kind.end inside in omega (arith, u, w)

-- the highest band goes
pub on_next : (p : Plan) (coded band asked used more share left offer : ℕ) (bits : List ℕ)
    → coded ≡ suc band
    → p.start < band
    → IsOn p coded asked used bits
    → left ≡ (p.reserves.rest + p.reserves.intensity) - (used + intensity_now p coded)
    → offer ≤ slice_index bits band + left
    → IsTurn offer (Goes more share)
    → IsOn p band (asked + more) (used + 8 * more + share - slice_index bits band) (slice_set bits band share)
on_next p coded band asked used more share left offer bits e above is left_is within turn =
    let end = end_most p.kind in
    let most = is.most in
    let whole = is.length_is in
    let sum = sum_set bits band share p.kind.end (omega (arith, whole, most, e, end)) (omega (arith, most, e)) in
    let bit = bit_used p coded asked used bits band is (omega (arith, most, e)) in
    let used_is = is.used_is in
    let fits = is.fits in
    let falls : intensity_now p band ≤ intensity_now p coded = subst (λ n. intensity_now p band ≤ intensity_now p n) (sym e) (intensity_falls p band (omega (arith, most, e, end))) in
    let given = turn.2 in
    let small = turn.1 in
    record {
      above = above;
      most = omega (arith, most, e);
      length_is = length-set bits band share ∙ whole;
      used_is = omega (arith, used_is, sum, bit);
      fits = omega (arith, fits, falls, given, within, left_is, bit);
      beyond = λ k past. get_or-set_other bits band k share 0 (omega (arith, past, most, e)) ∙ is.beyond k past;
      few_bits = λ k high. elim (cases_eq k band) [
        | inl s ↦ rw s (let same : slice_index (slice_set bits band share) band ≡ share = get_or-set_same bits band share 0 (omega (arith, whole, most, e, end)) in omega (arith, same, small))
        | inr ne ↦ let same : slice_index (slice_set bits band share) k ≡ slice_index bits k = get_or-set_other bits band k share 0 ne in let old = is.few_bits k (omega (arith, high, ne, e)) in omega (arith, same, old)
      ];
    }

-- what stands after skipping
pub on_end : (p : Plan) (coded asked used back left : ℕ) (bits : List ℕ) → IsOn p coded asked used bits → back ≤ p.reserves.skip
    → left ≡ (p.reserves.rest + p.reserves.intensity) - (used + intensity_now p coded) + back
    → IsSkipped p (record { coded = coded; left = left; bits = bits })
on_end p coded asked used back left bits is few left_is =
    let above = is.above in
    let used_is = is.used_is in
    let fits = is.fits in
    record {
      some = omega (arith, above);
      most = is.most;
      length_is = is.length_is;
      fits = omega (arith, used_is, fits, few, left_is);
      beyond = is.beyond;
      few = is.few_bits;
    }

-- ---- the walks

pub enough_is : (kind : Kind) (band enough threshold each : ℕ)
    → enough ≡ max threshold (each + 8)
    → threshold ≡ threshold_of kind band
    → each ≡ bit_each kind
    → enough ≡ max (threshold_of kind band) (bit_each kind + 8)
enough_is kind band enough threshold each e t b = e ∙ ap (λ n. max n (each + 8)) t ∙ ap (λ n. max (threshold_of kind band) (n + 8)) b

module _ {C H : Type 0} {coder : CoderCalls C} {chooser : ChooserCalls H} where
  -- a turn without a question
  pub turn_unasked : {c : C} {h : H} (kind : Kind) (band offer enough share : ℕ)
      → enough ≡ max (threshold_of kind band) (bit_each kind + 8)
      → offer < enough
      → share ≡ few kind offer
      → Walked coder chooser (turn_script kind band offer) (Goes 0 share) c h c h
  unfolding turn_script
  turn_unasked {c = c} {h = h} kind band offer enough share e low s =
      let t : nat_le (max (threshold_of kind band) (bit_each kind + 8)) offer ≡ false = grind (arith, nat_tests) in
      when_false (nat_le (max (threshold_of kind band) (bit_each kind + 8)) offer) _ _ t
      (subst (λ n. Walked coder chooser (Done (Goes 0 n)) (Goes 0 share) c h c h) s no_walk)

  -- one with a question
  pub turn_stays : {c d : C} {h k : H} (kind : Kind) (band offer enough : ℕ)
      → enough ≡ max (threshold_of kind band) (bit_each kind + 8)
      → enough ≤ offer
      → (bits : ℤ) → bits ≡ pos offer
      → (one : Bool) → one ≡ true
      → Walked coder chooser (asks_bit (Skip band bits) 1) one c h d k
      → Walked coder chooser (turn_script kind band offer) Stays c h d k
  unfolding turn_script
  turn_stays {c = c} {d = d} {h = h} {k = k} kind band offer enough e high bits b one is_one asked =
      let w : Walked coder chooser (asks_bit (Skip band (pos offer)) 1) true c h d k =
      subst (λ x. Walked coder chooser (asks_bit (Skip band x) 1) true c h d k) b
      (subst (λ x. Walked coder chooser (asks_bit (Skip band bits) 1) x c h d k) is_one asked) in
      let t : nat_le (max (threshold_of kind band) (bit_each kind + 8)) offer ≡ true = grind (arith, nat_tests) in
      when_true (nat_le (max (threshold_of kind band) (bit_each kind + 8)) offer) _ _ t (end (walk _ start w))

  pub turn_goes : {c d : C} {h k : H} (kind : Kind) (band offer enough share : ℕ)
      → enough ≡ max (threshold_of kind band) (bit_each kind + 8)
      → enough ≤ offer
      → share ≡ few kind (offer - 8)
      → (bits : ℤ) → bits ≡ pos offer
      → (one : Bool) → one ≡ false
      → Walked coder chooser (asks_bit (Skip band bits) 1) one c h d k
      → Walked coder chooser (turn_script kind band offer) (Goes 1 share) c h d k
  unfolding turn_script
  turn_goes {c = c} {d = d} {h = h} {k = k} kind band offer enough share e high s bits b one is_one asked =
      let w : Walked coder chooser (asks_bit (Skip band (pos offer)) 1) false c h d k =
      subst (λ x. Walked coder chooser (asks_bit (Skip band x) 1) false c h d k) b
      (subst (λ x. Walked coder chooser (asks_bit (Skip band bits) 1) x c h d k) is_one asked) in
      let t : nat_le (max (threshold_of kind band) (bit_each kind + 8)) offer ≡ true = grind (arith, nat_tests) in
      when_true (nat_le (max (threshold_of kind band) (bit_each kind + 8)) offer) _ _ t
      (subst (λ n. Walked coder chooser (and_then (asks_bit (Skip band (pos offer)) 1) (λ stays. Done (if stays then Stays else Goes 1 (few kind (offer - 8))))) (Goes 1 n) c h d k) (sym s)
      (end (walk _ start w)))

pub record Skipping {C H : Type 0} (coder : CoderCalls C) (chooser : ChooserCalls H) (p : Plan) (coded used : ℕ) (bits : List ℕ)
    (c : C) (h : H) (d : C) (k : H) : Type 0 where
  pub asked : ℕ
  pub is : IsOn p coded asked used bits
  pub going : Going coder chooser (skip_script p p.kind.end 0 p.bits) (skip_script p coded asked bits) c h d k
  pub count : coder.count d + coded ≤ coder.count c + p.kind.end

-- the script where the highest band may go, and where it may not
skip_turn : (p : Plan) (coded band asked : ℕ) (bits : List ℕ) → coded ≡ suc band → p.start < band
    → skip_script p coded asked bits
    ≡ and_then (turn_script p.kind band (offer_of p band asked bits))
    (after_turn (Done (skipped p (suc band) asked bits 0)) (λ more share. skip_script p band (asked + more) (slice_set bits band share)))
unfolding skip_script
skip_turn p coded band asked bits e above = let t : nat_le band p.start ≡ false = grind (arith, nat_tests) in rw (e, t) refl

skip_done : (p : Plan) (coded band asked : ℕ) (bits : List ℕ) → coded ≡ suc band → band ≤ p.start
    → skip_script p coded asked bits ≡ Done (skipped p coded asked bits p.reserves.skip)
unfolding skip_script
skip_done p coded band asked bits e low = let t : nat_le band p.start ≡ true = grind (arith, nat_tests) in rw (e, t) refl

abbrev skipped_with : ℕ → ℕ → List ℕ → Skipped
skipped_with coded left bits = record { coded = coded; left = left; bits = bits }

add_one : (n : ℕ) → n + 1 ≡ suc n
add_one n = omega arith

-- What is left and the offer, in the words of the script.
record AreOffered (p : Plan) (coded band asked left offer : ℕ) (bits : List ℕ) : Type 0 where
  left_is : left ≡ left_of p coded asked bits
  offer_is : offer ≡ offer_of p band asked bits

offered : (p : Plan) (coded band asked used left offer : ℕ) (bits : List ℕ)
    → coded ≡ suc band
    → IsOn p coded asked used bits
    → left ≡ (p.reserves.rest + p.reserves.intensity) - (used + intensity_now p coded)
    → offer ≡ slice_index bits band + even_of left (band + 1) * width_of band + beyond_of left (band + 1) band
    → AreOffered p coded band asked left offer bits
offered p coded band asked used left offer bits e is left_is offer_is =
    let l : left ≡ left_of p coded asked bits = left_is ∙ on_left p coded asked used bits is in
    record {
      left_is = l;
      offer_is = on_offer p band asked left offer bits (l ∙ ap (λ n. left_of p n asked bits) (e ∙ sym (add_one band))) offer_is;
    }

module _ {C H : Type 0} {coder : CoderCalls C} {chooser : ChooserCalls H} where
  pub skip_start : {c : C} {h : H} (p : Plan) (coded used : ℕ) → IsPlan p → coded ≡ p.kind.end → used ≡ sum_below (slice_index p.bits) p.kind.end
      → Skipping coder chooser p coded used p.bits c h c h
  skip_start {c = c} {h = h} p coded used is e u =
      subst (λ n. Skipping coder chooser p n used p.bits c h c h) (sym e)
      (subst (λ n. Skipping coder chooser p p.kind.end n p.bits c h c h) (sym u)
      (record { asked = 0; is = on_start p is; going = start; count = omega arith }))

  -- a turn of the highest band, on its way
  turned : {c d e : C} {h k m : H} (p : Plan) (coded band asked left offer : ℕ) (bits : List ℕ) (kind : Kind) (turn : Turn)
      → coded ≡ suc band
      → p.start < band
      → kind ≡ p.kind
      → AreOffered p coded band asked left offer bits
      → Going coder chooser (skip_script p p.kind.end 0 p.bits) (skip_script p coded asked bits) c h d k
      → Walked coder chooser (turn_script kind band offer) turn d k e m
      → Going coder chooser (skip_script p p.kind.end 0 p.bits)
      (after_turn (Done (skipped p (suc band) asked bits 0)) (λ more share. skip_script p band (asked + more) (slice_set bits band share)) turn) c h e m
  turned {c = c} {d = d} {e = e} {h = h} {k = k} {m = m} p coded band asked left offer bits kind turn one above same are going w =
      let w2 : Walked coder chooser (turn_script p.kind band (offer_of p band asked bits)) turn d k e m =
      subst (λ o. Walked coder chooser (turn_script p.kind band o) turn d k e m) are.offer_is
      (subst (λ x. Walked coder chooser (turn_script x band offer) turn d k e m) same w) in
      walk (after_turn (Done (skipped p (suc band) asked bits 0)) (λ more share. skip_script p band (asked + more) (slice_set bits band share)))
      (subst (λ x. Going coder chooser (skip_script p p.kind.end 0 p.bits) x c h d k) (skip_turn p coded band asked bits one above) going)
      w2

  -- the highest band stays
  pub skip_stays : {c d e : C} {h k m : H} (p : Plan) (coded band used left offer : ℕ) (bits : List ℕ) (kind : Kind)
      → coded ≡ suc band
      → p.start < band
      → kind ≡ p.kind
      → Skipping coder chooser p coded used bits c h d k
      → left ≡ (p.reserves.rest + p.reserves.intensity) - (used + intensity_now p coded)
      → offer ≡ slice_index bits band + even_of left (band + 1) * width_of band + beyond_of left (band + 1) band
      → Walked coder chooser (turn_script kind band offer) Stays d k e m
      → Walked coder chooser (skip_script p p.kind.end 0 p.bits) (record { coded = coded; left = left; bits = bits }) c h e m
  skip_stays {c = c} {e = e} {h = h} {m = m} p coded band used left offer bits kind one above same s left_is offer_is w =
      let are = offered p coded band s.asked used left offer bits one s.is left_is offer_is in
      let value : skipped p (suc band) s.asked bits 0 ≡ skipped_with coded left bits =
      ap (λ n. skipped_with n (left_of p n s.asked bits + 0) bits) (sym one)
      ∙ ap (λ l. skipped_with coded l bits) (let l = are.left_is in omega (arith, l)) in
      subst (λ v. Walked coder chooser (skip_script p p.kind.end 0 p.bits) v c h e m) value
      (end (turned p coded band s.asked left offer bits kind Stays one above same are s.going w))

  -- it goes
  pub skip_goes : {c d e : C} {h k m : H} (p : Plan) (coded band used left offer more share : ℕ) (bits : List ℕ) (kind : Kind)
      → coded ≡ suc band
      → p.start < band
      → kind ≡ p.kind
      → Skipping coder chooser p coded used bits c h d k
      → left ≡ (p.reserves.rest + p.reserves.intensity) - (used + intensity_now p coded)
      → offer ≡ slice_index bits band + even_of left (band + 1) * width_of band + beyond_of left (band + 1) band
      → offer ≤ slice_index bits band + left
      → IsTurn offer (Goes more share)
      → coder.count e ≤ coder.count d + 1
      → Walked coder chooser (turn_script kind band offer) (Goes more share) d k e m
      → Skipping coder chooser p band (used + 8 * more + share - slice_index bits band) (slice_set bits band share) c h e m
  skip_goes p coded band used left offer more share bits kind one above same s left_is offer_is within turn counted w =
      let are = offered p coded band s.asked used left offer bits one s.is left_is offer_is in
      let n = s.count in
      record {
        asked = s.asked + more;
        is = on_next p coded band s.asked used more share left offer bits one above s.is left_is within turn;
        going = turned p coded band s.asked left offer bits kind (Goes more share) one above same are s.going w;
        count = omega (arith, n, one, counted);
      }

  -- no band may go
  pub skip_ends : {c d : C} {h k : H} (p : Plan) (coded band used left : ℕ) (bits : List ℕ)
      → coded ≡ suc band
      → band ≤ p.start
      → Skipping coder chooser p coded used bits c h d k
      → left ≡ (p.reserves.rest + p.reserves.intensity) - (used + intensity_now p coded)
      → Walked coder chooser (skip_script p p.kind.end 0 p.bits) (record { coded = coded; left = left + p.reserves.skip; bits = bits }) c h d k
  skip_ends {c = c} {d = d} {h = h} {k = k} p coded band used left bits one low s left_is =
      let l : left ≡ left_of p coded s.asked bits = left_is ∙ on_left p coded s.asked used bits s.is in
      subst (λ n. Walked coder chooser (skip_script p p.kind.end 0 p.bits) (skipped_with coded (n + p.reserves.skip) bits) c h d k) (sym l)
      (end (subst (λ x. Going coder chooser (skip_script p p.kind.end 0 p.bits) x c h d k) (skip_done p coded band s.asked bits one low) s.going))
