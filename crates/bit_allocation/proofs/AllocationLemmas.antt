-- The allocation of what stands after the questions: its bands, and that it is valid.
use Rattle.std.proofs.Common.{◌≡◌, ℕ, suc, ◌+◌, ◌<◌, ◌≤◌, Bool, List, refl, sym, ◌∙◌, ap, subst, arith}
use Rattle.std.specs.Prelude.{ℤ, pos, slice_index}
use Rattle.std.proofs.lemmas.Int.{ints}
use Rattle.std.proofs.lemmas.List.FromFn.{get_or-map-range_with_len}
use Rattle.bit_allocation.specs.declared.plan.Plan.{Plan}
use Rattle.bit_allocation.specs.declared.request.Request.{Request}
use Rattle.bit_allocation.specs.declared.stereo.Stereo.{Stereo}
use Rattle.bit_allocation.specs.declared.turns.Skipped.{Skipped}
use Rattle.bit_allocation.specs.Amounts.{most_of}
use Rattle.bit_allocation.specs.Facts.{IsPlan, IsSkipped, IsStereo}
use Rattle.bit_allocation.specs.Shares.{share_of, split_of, skipped_split, left_after, band_split, balance_of, split_at, by_bands, allocation_of}
use Rattle.bit_allocation.specs.Plans.{plan_of}
use Rattle.bit_allocation.specs.Scripts.{skip_script, stereo_script, plan_script, allocation_script}
use Rattle.celt_base.specs.WalkCalls.{CoderCalls, ChooserCalls}
use Rattle.celt_base.specs.Walks.{Walked}
use Rattle.celt_base.proofs.WalkSteps.{start, walk, end}
use Rattle.bit_allocation.proofs.AmountLemmas.{band_inside, most_of_most}
use Rattle.bit_allocation.proofs.CountLemmas.{below_end, from_end}
use Rattle.bit_allocation.proofs.SkipSteps.{part_within}
use Rattle.bit_allocation.proofs.TotalLemmas.{band_is, total_within, left_whole}
use Rattle.celt_base.specs.declared.kind.Kind.{Kind}
use Rattle.celt_base.specs.declared.state.Allocation.{Allocation}
use Rattle.celt_base.specs.States.{IsAllocation, IsShare}

pub band_coded : (p : Plan) (s : Skipped) (t : Stereo) (band before : ℕ) (kind : Kind) → p.kind ≡ kind → band < s.coded
    → split_of kind t band (share_of (slice_index s.bits band) (left_after p s t) s.coded band) before ≡ band_split p s t band before
unfolding band_split
band_coded p s t band before kind same below =
    ap (λ k. split_of k t band (share_of (slice_index s.bits band) (left_after p s t) s.coded band) before) (sym same)
    ∙ sym (below_end band s.coded (split_of p.kind t band (share_of (slice_index s.bits band) (left_after p s t) s.coded band) before) (skipped_split p.kind (slice_index s.bits band) before) below)

pub band_skipped : (p : Plan) (s : Skipped) (t : Stereo) (band before : ℕ) (kind : Kind) → p.kind ≡ kind → s.coded ≤ band
    → skipped_split kind (slice_index s.bits band) before ≡ band_split p s t band before
unfolding band_split
band_skipped p s t band before kind same above =
    ap (λ k. skipped_split k (slice_index s.bits band) before) (sym same)
    ∙ sym (from_end band s.coded (split_of p.kind t band (share_of (slice_index s.bits band) (left_after p s t) s.coded band) before) (skipped_split p.kind (slice_index s.bits band) before) above)

pub band_room : (p : Plan) (s : Skipped) (t : Stereo) (band : ℕ) → IsPlan p → IsSkipped p s → band < s.coded → slice_index s.bits band + left_after p s t ≤ 81600
band_room p s t band plan is below =
    let most = is.most in
    let w = left_whole p s t is in
    let part = part_within (slice_index s.bits) band p.kind.end (omega (arith, below, most)) in
    let whole = plan.whole in
    omega (arith, w, part, whole)

pub balance_start : (p : Plan) (s : Skipped) (t : Stereo) → 0 ≡ balance_of p s t 0
unfolding balance_of
balance_start p s t = refl

pub balance_now : (p : Plan) (s : Skipped) (t : Stereo) (band : ℕ) → band ≤ 21 → IsPlan p → IsSkipped p s → balance_of p s t band ≤ 81600
balance_now p s t band inside plan is = let w = total_within p s t band inside is in let m = plan.whole in omega (arith, w, m)

-- the split of a band, and the balance after it
pub split_now : (p : Plan) (s : Skipped) (t : Stereo) (band before : ℕ) → before ≡ balance_of p s t band → band_split p s t band before ≡ split_at p s t band
unfolding split_at
split_now p s t band before e = ap (band_split p s t band) e

balance_next : (p : Plan) (s : Skipped) (t : Stereo) (band n : ℕ) → n ≡ suc band → (split_at p s t band).balance ≡ balance_of p s t n
unfolding split_at balance_of
balance_next p s t band n e = rw e refl

pub split_next : (p : Plan) (s : Skipped) (t : Stereo) (band : ℕ) → (split_at p s t band).balance ≡ balance_of p s t (band + 1)
split_next p s t band = balance_next p s t band (band + 1) (omega arith)

pub split_is_band : (p : Plan) (s : Skipped) (t : Stereo) (band : ℕ) → band < 21 → IsSkipped p s → ((split_at p s t band).pulses ≤ most_of p.kind band) × ((split_at p s t band).fine ≤ 8)
unfolding split_at
split_is_band p s t band inside is = let b = band_is p s t band (balance_of p s t band) inside is in (b.pulses, b.fine)

pub pulses_small : (p : Plan) (s : Skipped) (t : Stereo) (band : ℕ) → band < 21 → IsSkipped p s → (split_at p s t band).pulses ≤ 26752
pulses_small p s t band inside is =
    let w = (split_is_band p s t band inside is).0 in let m = most_of_most p.kind band inside in omega (arith, w, m)

abbrev pub allocation_with : ℕ → Stereo → ℤ → List ℤ → List ℕ → List Bool → Allocation
allocation_with coded t balance pulses fine priority = record {
  coded = coded;
  intensity = t.intensity;
  dual = t.dual;
  balance = balance;
  pulses = pulses;
  fine = fine;
  priority = priority;
}

pub allocation_from : (p : Plan) (s : Skipped) (t : Stereo) (balance : ℤ) (pulses : List ℤ) (fine : List ℕ) (priority : List Bool)
    → balance ≡ pos (balance_of p s t 21)
    → pulses ≡ by_bands (λ band. pos (split_at p s t band).pulses)
    → fine ≡ by_bands (λ band. (split_at p s t band).fine)
    → priority ≡ by_bands (λ band. (split_at p s t band).priority)
    → allocation_with s.coded t balance pulses fine priority ≡ allocation_of p s t
unfolding allocation_of
allocation_from p s t balance pulses fine priority b u f r =
    ap (λ x. allocation_with s.coded t x pulses fine priority) b
    ∙ ap (λ x. allocation_with s.coded t (pos (balance_of p s t 21)) x fine priority) u
    ∙ ap (λ x. allocation_with s.coded t (pos (balance_of p s t 21)) (by_bands (λ band. pos (split_at p s t band).pulses)) x priority) f
    ∙ ap (λ x. allocation_with s.coded t (pos (balance_of p s t 21)) (by_bands (λ band. pos (split_at p s t band).pulses)) (by_bands (λ band. (split_at p s t band).fine)) x) r

share_is : (most n : ℕ) → n ≤ most → IsShare (pos most) (pos n)
share_is most n within = record { least = omega (arith, ints); most = omega (arith, ints, within) }

pub allocation_is : (p : Plan) (s : Skipped) (t : Stereo) → IsPlan p → IsSkipped p s → IsStereo p s.coded t
    → IsAllocation (λ band. pos (most_of p.kind band)) p.kind (allocation_of p s t)
unfolding allocation_of
allocation_is p s t plan is stereo = record {
  some_coded = is.some;
  most_coded = is.most;
  most_intensity = stereo.within;
  balance = share_is 81600 (balance_of p s t 21) (balance_now p s t 21 (omega arith) plan is);
  pulses = λ band below.
      subst (IsShare (pos (most_of p.kind band)))
      (sym (get_or-map-range_with_len (λ b. pos (split_at p s t b).pulses) 0 21 band band (pos 0) (band_inside p.kind band below) (omega arith)))
      (share_is (most_of p.kind band) (split_at p s t band).pulses (split_is_band p s t band (band_inside p.kind band below) is).0);
  fine = λ band below.
      subst (λ n. n ≤ 8)
      (sym (get_or-map-range_with_len (λ b. (split_at p s t b).fine) 0 21 band band 0 (band_inside p.kind band below) (omega arith)))
      (split_is_band p s t band (band_inside p.kind band below) is).1;
  mono_intensity = stereo.mono;
  mono_dual = stereo.mono_dual;
}

module _ {C H : Type 0} {coder : CoderCalls C} {chooser : ChooserCalls H} where
  pub plan_walked : {c d e : C} {h k m : H} (p : Plan) (s : Skipped) (t : Stereo)
      → Walked coder chooser (skip_script p p.kind.end 0 p.bits) s c h d k
      → Walked coder chooser (stereo_script p s.coded) t d k e m
      → Walked coder chooser (plan_script p) (allocation_of p s t) c h e m
  unfolding plan_script
  plan_walked p s t v w = end (walk _ (walk _ start v) w)

  pub allocation_walked : {c d : C} {h k : H} (kind : Kind) (total : ℤ) (boosts : List ℤ) (trim : ℤ) (p : Plan) (a : Allocation)
      → p ≡ plan_of (record { kind = kind; total = total; boosts = boosts; trim = trim })
      → Walked coder chooser (plan_script p) a c h d k
      → Walked coder chooser (allocation_script kind total boosts trim) a c h d k
  unfolding allocation_script
  allocation_walked {c = c} {d = d} {h = h} {k = k} kind total boosts trim p a e w =
      subst (λ q. Walked coder chooser (plan_script q) a c h d k) e w

pub valid_for : (p : Plan) (kind : Kind) (a : Allocation) → p.kind ≡ kind
    → IsAllocation (λ band. pos (most_of p.kind band)) p.kind a
    → IsAllocation (λ band. pos (most_of kind band)) kind a
valid_for p kind a same valid = subst (λ k. IsAllocation (λ band. pos (most_of k band)) k a) same valid

abbrev pub request_with : Kind → ℤ → List ℤ → ℤ → Request
request_with kind total boosts trim = record { kind = kind; total = total; boosts = boosts; trim = trim }
