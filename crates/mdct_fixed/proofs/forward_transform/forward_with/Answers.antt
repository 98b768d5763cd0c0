use Rattle.std.proofs.Common.{◌≡◌, ℕ, ◌*◌, ◌/◌, ◌^◌, ◌<◌, ◌≤◌, ◌∙◌, ap, sym, subst, arith, length}
use Rattle.std.specs.Prelude.{ℤ, pos, unsigned_abs}
use Rattle.std.proofs.lemmas.List.{get_or_default}
use Rattle.fixed_math.specs.Items.{item}
use Rattle.fixed_math.proofs.ItemLemmas.{listed_from}
use Rattle.mdct_fixed.specs.Digits.{IsLength}
use Rattle.mdct_fixed.specs.Numbers.{at, IsWithin}
use Rattle.mdct_fixed.specs.Transform.{fourier, growth, radices}
use Rattle.mdct_fixed.specs.Mdct.{turned_pairs, windowed, placed, folded, forward_value}
use Rattle.mdct_fixed.proofs.FourierLemmas.{wider}
use Rattle.mdct_fixed.proofs.MdctLemmas.{size_facts}
use Rattle.mdct_fixed.proofs.InverseLemmas.{half_length, pairs_within, growth_within}
use Rattle.mdct_fixed.proofs.ForwardLemmas.{IsFold, fold_from, fold_small, fold_value, same_pairs, whole_forward, back_within, growth_share}
use Rattle.mdct_fixed.proofs.forward_transform.forward_with.Goals as goal

pub turn_pairs-requires-clause-small : goal.turn_pairs-requires-clause-small
turn_pairs-requires-clause-small c = λ i l.
    let n : ℕ = length c.args.out.now in
    let f = size_facts n c.requires.size in
    let even = f.even in
    let low = f.low in
    let long_middle : n ≡ length c.fold_middle.new.out = omega arith in
    let fold : IsFold n c.args.values.now c.fold_middle.new.out c.fold_edges.new.out = fold_from n (length c.fold_middle.new.out) c.args.values.now c.fold_middle.new.out c.fold_edges.new.out long_middle c.fold_middle.ensures c.fold_edges.ensures.first c.fold_edges.ensures.last c.fold_edges.ensures.others in
    let tiny : (i : ℕ) → i < n → unsigned_abs (item c.fold_edges.new.out i) ≤ 2 ^ 30 = fold_small n c.args.values.now c.fold_middle.new.out c.fold_edges.new.out low (λ j l. let b : unsigned_abs (item c.args.values.now j) < 2 ^ 29 = c.requires.items j (pos 0) (omega arith) in omega arith) fold in
    tiny i (omega arith)

pub transform-requires-clause-within : goal.transform-requires-clause-within
transform-requires-clause-within c = λ i l.
    let n : ℕ = length c.args.out.now in
    let f = size_facts n c.requires.size in
    let even = f.even in
    let low = f.low in
    let long_middle : n ≡ length c.fold_middle.new.out = omega arith in
    let fold : IsFold n c.args.values.now c.fold_middle.new.out c.fold_edges.new.out = fold_from n (length c.fold_middle.new.out) c.args.values.now c.fold_middle.new.out c.fold_edges.new.out long_middle c.fold_middle.ensures c.fold_edges.ensures.first c.fold_edges.ensures.last c.fold_edges.ensures.others in
    let tiny : (i : ℕ) → i < n → unsigned_abs (item c.fold_edges.new.out i) ≤ 2 ^ 30 = fold_small n c.args.values.now c.fold_middle.new.out c.fold_edges.new.out low (λ j l. let b : unsigned_abs (item c.args.values.now j) < 2 ^ 29 = c.requires.items j (pos 0) (omega arith) in omega arith) fold in
    let long : length c.fold_edges.new.out ≡ n = omega arith in
    let q : length c.turn_pairs.new.re ≡ n / 2 = omega arith in
    let w : (i : ℕ) → i < length c.turn_pairs.new.re → IsWithin (2 ^ 31) (at c.turn_pairs.new.re c.turn_pairs.new.im i) = λ i j. let h : i < n / 2 = omega arith in subst (IsWithin (2 ^ 31)) (sym (c.turn_pairs.ensures i (omega arith) ∙ ap (λ x. turned_pairs x (item c.fold_edges.new.out) i) long)) (pairs_within n i (2 ^ 30) (item c.fold_edges.new.out) c.requires.size h tiny) in
    w i l

pub turn_back-requires-clause-small : goal.turn_back-requires-clause-small
turn_back-requires-clause-small c = λ k l.
    let n : ℕ = length c.args.out.now in
    let f = size_facts n c.requires.size in
    let even = f.even in
    let low = f.low in
    let long_middle : n ≡ length c.fold_middle.new.out = omega arith in
    let fold : IsFold n c.args.values.now c.fold_middle.new.out c.fold_edges.new.out = fold_from n (length c.fold_middle.new.out) c.args.values.now c.fold_middle.new.out c.fold_edges.new.out long_middle c.fold_middle.ensures c.fold_edges.ensures.first c.fold_edges.ensures.last c.fold_edges.ensures.others in
    let tiny : (i : ℕ) → i < n → unsigned_abs (item c.fold_edges.new.out i) ≤ 2 ^ 30 = fold_small n c.args.values.now c.fold_middle.new.out c.fold_edges.new.out low (λ j l. let b : unsigned_abs (item c.args.values.now j) < 2 ^ 29 = c.requires.items j (pos 0) (omega arith) in omega arith) fold in
    let long : length c.fold_edges.new.out ≡ n = omega arith in
    let q : length c.turn_pairs.new.re ≡ n / 2 = omega arith in
    let w : (i : ℕ) → i < length c.turn_pairs.new.re → IsWithin (2 ^ 31) (at c.turn_pairs.new.re c.turn_pairs.new.im i) = λ i j. let h : i < n / 2 = omega arith in subst (IsWithin (2 ^ 31)) (sym (c.turn_pairs.ensures i (omega arith) ∙ ap (λ x. turned_pairs x (item c.fold_edges.new.out) i) long)) (pairs_within n i (2 ^ 30) (item c.fold_edges.new.out) c.requires.size h tiny) in
    let grown : (k : ℕ) → k < length c.transform.new.re → IsWithin (growth (radices (length c.turn_pairs.new.re)) * 2 ^ 31) (at c.transform.new.re c.transform.new.im k) = λ k l. c.transform.ensures.size (2 ^ 31) w k (omega arith) in
    wider (6615 * 2 ^ 31) (2 ^ 45) (at c.transform.new.re c.transform.new.im k) (omega arith)
    (growth_within (length c.turn_pairs.new.re) (2 ^ 31) (at c.transform.new.re c.transform.new.im k) (subst IsLength (sym q) (half_length n c.requires.size)) (grown k l))

pub returns-clause-value : goal.returns-clause-value
returns-clause-value c =
    let n : ℕ = length c.args.out.now in
    let f = size_facts n c.requires.size in
    let even = f.even in
    let low = f.low in
    let long_middle : n ≡ length c.fold_middle.new.out = omega arith in
    let fold : IsFold n c.args.values.now c.fold_middle.new.out c.fold_edges.new.out = fold_from n (length c.fold_middle.new.out) c.args.values.now c.fold_middle.new.out c.fold_edges.new.out long_middle c.fold_middle.ensures c.fold_edges.ensures.first c.fold_edges.ensures.last c.fold_edges.ensures.others in
    let q : length c.turn_pairs.new.re ≡ n / 2 = omega arith in
    let h : ℕ = length c.transform.new.re in
    let e : n ≡ 2 * h = omega arith in
    let s : ℕ → ℤ = folded n (placed n (windowed n (item c.args.values.now))) in
    let same : (j : ℕ) → j < n → item c.fold_edges.new.out j ≡ s j = fold_value n h c.args.values.now c.fold_middle.new.out c.fold_edges.new.out e (omega arith) fold in
    let long : length c.fold_edges.new.out ≡ n = omega arith in
    let pair : (i : ℕ) → i < length c.turn_pairs.new.re → at c.turn_pairs.new.re c.turn_pairs.new.im i ≡ turned_pairs n s i = λ i j. c.turn_pairs.ensures i (omega arith) ∙ ap (λ x. turned_pairs x (item c.fold_edges.new.out) i) long ∙ same_pairs n i (item c.fold_edges.new.out) s c.requires.size (omega arith) same in
    let v : (k : ℕ) → k < h → at c.transform.new.re c.transform.new.im k ≡ fourier (n / 2) (turned_pairs n s) k = λ k l. c.transform.ensures.value (turned_pairs n s) pair k (omega arith) ∙ ap (λ x. fourier x (turned_pairs n s) k) q in
    listed_from c.turn_back.new.out n (forward_value n (item c.args.values.now)) (omega arith) (whole_forward n h (item c.args.values.now) (at c.transform.new.re c.transform.new.im) c.turn_back.new.out e v c.turn_back.ensures.upwards c.turn_back.ensures.downwards)

pub returns-clause-bound : goal.returns-clause-bound
returns-clause-bound c = λ k d l.
    let n : ℕ = length c.args.out.now in
    let f = size_facts n c.requires.size in
    let even = f.even in
    let low = f.low in
    let long_middle : n ≡ length c.fold_middle.new.out = omega arith in
    let fold : IsFold n c.args.values.now c.fold_middle.new.out c.fold_edges.new.out = fold_from n (length c.fold_middle.new.out) c.args.values.now c.fold_middle.new.out c.fold_edges.new.out long_middle c.fold_middle.ensures c.fold_edges.ensures.first c.fold_edges.ensures.last c.fold_edges.ensures.others in
    let tiny : (i : ℕ) → i < n → unsigned_abs (item c.fold_edges.new.out i) ≤ 2 ^ 30 = fold_small n c.args.values.now c.fold_middle.new.out c.fold_edges.new.out low (λ j l. let b : unsigned_abs (item c.args.values.now j) < 2 ^ 29 = c.requires.items j (pos 0) (omega arith) in omega arith) fold in
    let long : length c.fold_edges.new.out ≡ n = omega arith in
    let q : length c.turn_pairs.new.re ≡ n / 2 = omega arith in
    let w : (i : ℕ) → i < length c.turn_pairs.new.re → IsWithin (2 ^ 31) (at c.turn_pairs.new.re c.turn_pairs.new.im i) = λ i j. let h : i < n / 2 = omega arith in subst (IsWithin (2 ^ 31)) (sym (c.turn_pairs.ensures i (omega arith) ∙ ap (λ x. turned_pairs x (item c.fold_edges.new.out) i) long)) (pairs_within n i (2 ^ 30) (item c.fold_edges.new.out) c.requires.size h tiny) in
    let grown : (k : ℕ) → k < length c.transform.new.re → IsWithin (growth (radices (length c.turn_pairs.new.re)) * 2 ^ 31) (at c.transform.new.re c.transform.new.im k) = λ k l. c.transform.ensures.size (2 ^ 31) w k (omega arith) in
    let h : ℕ = length c.transform.new.re in
    let e : n ≡ 2 * h = omega arith in
    let g : growth (radices (length c.turn_pairs.new.re)) ≤ 7 * n = subst (λ x. growth (radices x) ≤ 7 * n) (sym q) (growth_share n c.requires.size) in
    let b : unsigned_abs (item c.turn_back.new.out k) < 2 ^ 38 = back_within n h (growth (radices (length c.turn_pairs.new.re))) (at c.transform.new.re c.transform.new.im) c.turn_back.new.out c.requires.size e g grown c.turn_back.ensures.upwards c.turn_back.ensures.downwards k (omega arith) in
    let same = get_or_default c.turn_back.new.out k d (pos 0) l in
    subst (λ x. unsigned_abs x < 2 ^ 38) (sym same) b
