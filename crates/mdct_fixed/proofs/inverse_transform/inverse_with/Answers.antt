use Rattle.std.proofs.Common.{◌≡◌, ℕ, ◌+◌, ◌*◌, ◌/◌, ◌^◌, ◌<◌, ◌≤◌, ◌∙◌, ap, sym, subst, arith, length}
use Rattle.std.specs.Prelude.{pos, unsigned_abs}
use Rattle.fixed_math.specs.Items.{item}
use Rattle.fixed_math.proofs.ItemLemmas.{listed_from}
use Rattle.mdct_fixed.specs.declared.complex.Complex.{Complex}
use Rattle.std.proofs.lemmas.List.{get_or_default}
use Rattle.mdct_fixed.specs.Digits.{IsLength}
use Rattle.mdct_fixed.specs.Numbers.{at, IsWithin}
use Rattle.mdct_fixed.specs.Transform.{fourier}
use Rattle.mdct_fixed.specs.Mdct.{turned_pairs, inverse_value}
use Rattle.mdct_fixed.proofs.FourierLemmas.{wider}
use Rattle.mdct_fixed.proofs.MdctLemmas.{size_facts}
use Rattle.mdct_fixed.proofs.InverseLemmas.{half_length, pairs_within, growth_within, middle_value, middle_within, whole_value, whole_within, IsWindowed}
use Rattle.mdct_fixed.proofs.inverse_transform.inverse_with.Goals as goal

pub transform-requires-clause-within : goal.transform-requires-clause-within
transform-requires-clause-within c = λ i l.
    let n : ℕ = length c.args.spectrum.now in
    let h : i < n / 2 = omega arith in
    subst (IsWithin (2 ^ 31)) (sym (c.turn_pairs.ensures i h)) (pairs_within n i (2 ^ 30) (item c.args.spectrum.now) c.requires.size h (λ j k. c.requires.items j (pos 0) k))

pub turn_out-requires-clause-small : goal.turn_out-requires-clause-small
turn_out-requires-clause-small c = λ k l.
    let n : ℕ = length c.args.spectrum.now in
    let q : length c.turn_pairs.new.re ≡ n / 2 = omega arith in
    let w : (i : ℕ) → i < length c.turn_pairs.new.re → IsWithin (2 ^ 31) (at c.turn_pairs.new.re c.turn_pairs.new.im i) = λ i j. let h : i < n / 2 = omega arith in subst (IsWithin (2 ^ 31)) (sym (c.turn_pairs.ensures i h)) (pairs_within n i (2 ^ 30) (item c.args.spectrum.now) c.requires.size h (λ a b. c.requires.items a (pos 0) b)) in
    let small : (k : ℕ) → k < length c.transform.new.re → IsWithin (6615 * 2 ^ 31) (at c.transform.new.re c.transform.new.im k) = λ k l. growth_within (length c.turn_pairs.new.re) (2 ^ 31) (at c.transform.new.re c.transform.new.im k) (subst IsLength (sym q) (half_length n c.requires.size)) (c.transform.ensures.size (2 ^ 31) w k (omega arith)) in
    wider (6615 * 2 ^ 31) (2 ^ 45) (at c.transform.new.re c.transform.new.im k) (omega arith) (small k l)

pub window_start-requires-clause-small : goal.window_start-requires-clause-small
window_start-requires-clause-small c = λ p a b.
    let n : ℕ = length c.args.spectrum.now in
    let q : length c.turn_pairs.new.re ≡ n / 2 = omega arith in
    let w : (i : ℕ) → i < length c.turn_pairs.new.re → IsWithin (2 ^ 31) (at c.turn_pairs.new.re c.turn_pairs.new.im i) = λ i j. let h : i < n / 2 = omega arith in subst (IsWithin (2 ^ 31)) (sym (c.turn_pairs.ensures i h)) (pairs_within n i (2 ^ 30) (item c.args.spectrum.now) c.requires.size h (λ a b. c.requires.items a (pos 0) b)) in
    let small : (k : ℕ) → k < length c.transform.new.re → IsWithin (6615 * 2 ^ 31) (at c.transform.new.re c.transform.new.im k) = λ k l. growth_within (length c.turn_pairs.new.re) (2 ^ 31) (at c.transform.new.re c.transform.new.im k) (subst IsLength (sym q) (half_length n c.requires.size)) (c.transform.ensures.size (2 ^ 31) w k (omega arith)) in
    let f = size_facts n c.requires.size in
    let even = f.even in
    let low = f.low in
    let h : ℕ = length c.transform.new.re in
    let e : n ≡ 2 * h = omega arith in
    let bounded : (p : ℕ) → 60 ≤ p → p < n + 60 → unsigned_abs (item c.turn_out.new.out p) ≤ 2 * (6615 * 2 ^ 31) = middle_within n h (6615 * 2 ^ 31) (at c.transform.new.re c.transform.new.im) c.turn_out.new.out c.requires.size e small c.turn_out.ensures.upwards c.turn_out.ensures.downwards in
    let g = bounded p a (omega arith) in
    omega arith

pub window_end-requires-clause-small : goal.window_end-requires-clause-small
window_end-requires-clause-small c = λ p a b.
    let n : ℕ = length c.args.spectrum.now in
    let q : length c.turn_pairs.new.re ≡ n / 2 = omega arith in
    let w : (i : ℕ) → i < length c.turn_pairs.new.re → IsWithin (2 ^ 31) (at c.turn_pairs.new.re c.turn_pairs.new.im i) = λ i j. let h : i < n / 2 = omega arith in subst (IsWithin (2 ^ 31)) (sym (c.turn_pairs.ensures i h)) (pairs_within n i (2 ^ 30) (item c.args.spectrum.now) c.requires.size h (λ a b. c.requires.items a (pos 0) b)) in
    let small : (k : ℕ) → k < length c.transform.new.re → IsWithin (6615 * 2 ^ 31) (at c.transform.new.re c.transform.new.im k) = λ k l. growth_within (length c.turn_pairs.new.re) (2 ^ 31) (at c.transform.new.re c.transform.new.im k) (subst IsLength (sym q) (half_length n c.requires.size)) (c.transform.ensures.size (2 ^ 31) w k (omega arith)) in
    let f = size_facts n c.requires.size in
    let even = f.even in
    let low = f.low in
    let h : ℕ = length c.transform.new.re in
    let e : n ≡ 2 * h = omega arith in
    let bounded : (p : ℕ) → 60 ≤ p → p < n + 60 → unsigned_abs (item c.turn_out.new.out p) ≤ 2 * (6615 * 2 ^ 31) = middle_within n h (6615 * 2 ^ 31) (at c.transform.new.re c.transform.new.im) c.turn_out.new.out c.requires.size e small c.turn_out.ensures.upwards c.turn_out.ensures.downwards in
    let g = bounded p (omega arith) (omega arith) in
    let same = c.window_start.ensures.others p (omega arith) in
    subst (λ x. unsigned_abs x ≤ 2 ^ 46) (sym same) (omega arith)

pub returns-clause-value : goal.returns-clause-value
returns-clause-value c =
    let n : ℕ = length c.args.spectrum.now in
    let q : length c.turn_pairs.new.re ≡ n / 2 = omega arith in
    let f = size_facts n c.requires.size in
    let even = f.even in
    let low = f.low in
    let h : ℕ = length c.transform.new.re in
    let e : n ≡ 2 * h = omega arith in
    let s : ℕ → Complex = turned_pairs n (item c.args.spectrum.now) in
    let v : (k : ℕ) → k < h → at c.transform.new.re c.transform.new.im k ≡ fourier (n / 2) s k = λ k l. c.transform.ensures.value s (λ i j. c.turn_pairs.ensures i (omega arith)) k (omega arith) ∙ ap (λ x. fourier x s k) q in
    let m = middle_value n h (item c.args.spectrum.now) (at c.transform.new.re c.transform.new.im) c.turn_out.new.out e v c.turn_out.ensures.upwards c.turn_out.ensures.downwards in
    let windowed : IsWindowed n c.turn_out.new.out c.window_start.new.out c.window_end.new.out = record { first = c.window_start.ensures.first; second = c.window_start.ensures.second; behind = c.window_start.ensures.others; third = c.window_end.ensures.first; fourth = c.window_end.ensures.second; before = c.window_end.ensures.others } in
    listed_from c.window_end.new.out (n + 120) (inverse_value n (item c.args.spectrum.now)) (omega arith) (whole_value n h (item c.args.spectrum.now) c.turn_out.new.out c.window_start.new.out c.window_end.new.out e (omega arith) m windowed)

pub returns-clause-bound : goal.returns-clause-bound
returns-clause-bound c = λ k d l.
    let n : ℕ = length c.args.spectrum.now in
    let q : length c.turn_pairs.new.re ≡ n / 2 = omega arith in
    let w : (i : ℕ) → i < length c.turn_pairs.new.re → IsWithin (2 ^ 31) (at c.turn_pairs.new.re c.turn_pairs.new.im i) = λ i j. let h : i < n / 2 = omega arith in subst (IsWithin (2 ^ 31)) (sym (c.turn_pairs.ensures i h)) (pairs_within n i (2 ^ 30) (item c.args.spectrum.now) c.requires.size h (λ a b. c.requires.items a (pos 0) b)) in
    let small : (k : ℕ) → k < length c.transform.new.re → IsWithin (6615 * 2 ^ 31) (at c.transform.new.re c.transform.new.im k) = λ k l. growth_within (length c.turn_pairs.new.re) (2 ^ 31) (at c.transform.new.re c.transform.new.im k) (subst IsLength (sym q) (half_length n c.requires.size)) (c.transform.ensures.size (2 ^ 31) w k (omega arith)) in
    let f = size_facts n c.requires.size in
    let even = f.even in
    let low = f.low in
    let h : ℕ = length c.transform.new.re in
    let e : n ≡ 2 * h = omega arith in
    let bounded : (p : ℕ) → 60 ≤ p → p < n + 60 → unsigned_abs (item c.turn_out.new.out p) ≤ 2 * (6615 * 2 ^ 31) = middle_within n h (6615 * 2 ^ 31) (at c.transform.new.re c.transform.new.im) c.turn_out.new.out c.requires.size e small c.turn_out.ensures.upwards c.turn_out.ensures.downwards in
    let windowed : IsWindowed n c.turn_out.new.out c.window_start.new.out c.window_end.new.out = record { first = c.window_start.ensures.first; second = c.window_start.ensures.second; behind = c.window_start.ensures.others; third = c.window_end.ensures.first; fourth = c.window_end.ensures.second; before = c.window_end.ensures.others } in
    let b : unsigned_abs (item c.window_end.new.out k) ≤ 2 * (6615 * 2 ^ 31) = whole_within n (2 * (6615 * 2 ^ 31)) c.turn_out.new.out c.window_start.new.out c.window_end.new.out low bounded windowed k (omega arith) in
    let same = get_or_default c.window_end.new.out k d (pos 0) l in
    subst (λ x. unsigned_abs x < 2 ^ 46) (sym same) (omega arith)
