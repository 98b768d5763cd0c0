use Rattle.std.proofs.Common.{◌≡◌, ℕ, ◌+◌, ◌-◌, ◌||◌, arith, refl, sym, ◌∙◌, ap, inl, inr}
use Rattle.std.specs.Prelude.{slice_index, nat_le, nat_lt, min, if◌then◌else◌}
use Rattle.std.proofs.lemmas.Bool.{cases_eq}
use Rattle.std.proofs.lemmas.List.{get_or-set_same, get_or-set_other, length-set}
use Rattle.bit_allocation.specs.Amounts.{threshold_of, most_of}
use Rattle.bit_allocation.specs.Counts.{count_of, counts_of, few, is_reached, sum_below}
use Rattle.celt_base.proofs.BandEnds.{end_most}
use Rattle.bit_allocation.proofs.CountLemmas.{one_none, one_next, sum_next, below_end, from_end}
use Rattle.celt_base.proofs.Fronts.{blank_item, front_all}
use Rattle.bit_allocation.proofs.counting.count.Goals as goal

pub loop-band-init : goal.loop-band-init
unfolding counts_of
loop-band-init c =
    let kind = c.args.bands.now.request.kind in
    let v : ℕ → ℕ = slice_index c.args.amounts.now in
    let n = c.from-band.ensures in
    record {
      inside = omega (arith, n);
      reached = sym (one_none (λ b. nat_le (threshold_of kind b) (v b)) (kind.end - c.from-band.result) c.from-band.result (omega (arith, n)));
      sum = ap (λ e. 0 + sum_below (count_of kind v) e) n ∙ omega arith;
      most = omega (arith, n);
      whole = refl;
      done = λ k above. blank_item 21 k ∙ sym (from_end k kind.end (count_of kind v k) 0 (omega (arith, n)));
    }

pub overflow_add-sum : goal.overflow_add-sum
overflow_add-sum c =
    let e = end_most c.args.bands.now.request.kind in
    let m = c.loop-band.invariant.most in
    let b = c.count_of-bit.ensures.most in
    omega (arith, e, m, b)

pub loop-band-preserved : goal.loop-band-preserved
unfolding count_of
loop-band-preserved c =
    let kind = c.args.bands.now.request.kind in
    let v : ℕ → ℕ = slice_index c.args.amounts.now in
    let band : ℕ = c.loop-band.band - 1 in
    let i = c.loop-band.invariant in
    let low = c.loop-band-test.true in
    let inside = i.inside in
    let end = end_most kind in
    let whole = i.whole in
    let reached : c.is_reached-reached.result ≡ is_reached kind v band =
    c.is_reached-reached.ensures
    ∙ ap (λ x. nat_le (threshold_of kind band) (v band) || x) i.reached
    ∙ sym (one_next (λ b. nat_le (threshold_of kind b) (v b)) (kind.end - band) band c.loop-band.band (kind.end - c.loop-band.band) (omega (arith, low, inside)) (omega (arith, low))) in
    let bit : c.count_of-bit.result ≡ count_of kind v band =
    c.count_of-bit.ensures.value ∙ ap (λ r. if r then min (v band) (most_of kind band) else few kind (v band)) reached in
    let next : sum_below (count_of kind v) c.loop-band.band ≡ sum_below (count_of kind v) band + count_of kind v band =
    sum_next (count_of kind v) c.loop-band.band band (omega (arith, low)) in
    let sum = i.sum in
    let most = i.most in
    let small = c.count_of-bit.ensures.most in
    record {
      inside = omega (arith, inside);
      reached = reached;
      sum = omega (arith, sum, next, bit);
      most = omega (arith, most, small, low);
      whole = length-set c.loop-band.bits band c.count_of-bit.result ∙ whole;
      done = λ k above. elim (cases_eq k band) [
        | inl s ↦ rw s (get_or-set_same c.loop-band.bits band c.count_of-bit.result 0 (omega (arith, whole, low, inside, end))
            ∙ bit ∙ sym (below_end band kind.end (count_of kind v band) 0 (omega (arith, low, inside))))
        | inr ne ↦ get_or-set_other c.loop-band.bits band k c.count_of-bit.result 0 ne ∙ i.done k (omega (arith, above, ne))
      ];
    }

pub returns-clause-bits : goal.returns-clause-bits
returns-clause-bits c =
    let kind = c.args.bands.now.request.kind in
    let v : ℕ → ℕ = slice_index c.args.amounts.now in
    let i = c.loop-band.invariant in
    let z = c.loop-band-test.false in
    front_all 0 c.loop-band.bits (λ k. if nat_lt k kind.end then count_of kind v k else 0)
    (record { whole = i.whole; done = λ k below. i.done k (omega (arith, z)) })

pub returns-clause-sum : goal.returns-clause-sum
unfolding sum_below
returns-clause-sum c =
    let kind = c.args.bands.now.request.kind in
    let v : ℕ → ℕ = slice_index c.args.amounts.now in
    let i = c.loop-band.invariant.sum in
    let z : c.loop-band.band ≡ 0 = let t = c.loop-band-test.false in omega (arith, t) in
    let e : c.loop-band.sum + sum_below (count_of kind v) 0 ≡ counts_of kind v = ap (λ b. c.loop-band.sum + sum_below (count_of kind v) b) (sym z) ∙ i in
    let s : sum_below (count_of kind v) 0 ≡ 0 = refl in
    omega (arith, e, s)
