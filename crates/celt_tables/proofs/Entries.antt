-- A test of each entry of a table is a fact of each entry.
use Rattle.std.proofs.Common.{◌≡◌, ℕ, ◌+◌, ◌*◌, ◌/◌, ◌%◌, ◌<◌, ◌≤◌, Bool, true, false, ◌&&◌, if◌then◌else◌, nat_lt, nat_le, refl, ap, ◌∙◌, subst, arith}
use Rattle.std.proofs.lemmas.Bool.{and_parts}
use Rattle.celt_base.specs.declared.question.Question.TheVariants.{Laplace}
use Rattle.celt_base.specs.Questions.{IsValid}
use Rattle.celt_base.proofs.Below.{all_below, at_each, less, at_most}
use Rattle.celt_tables.specs.Tables.{edge_of, caps_entry, allocation_entry, model_entry, fs_of, decay_of, window_entry}

-- each row and place, the rows of 21 one after the other
at_both : (test : ℕ → ℕ → Bool) (rows row i : ℕ) → all_below (λ k. test (k / 21) (k % 21)) (21 * rows) ≡ true → row < rows → i < 21
    → test row i ≡ true
at_both test rows row i all below inside =
    let at = at_each (λ k. test (k / 21) (k % 21)) (21 * rows) (21 * row + i) all (omega arith) in
    let row_is : (21 * row + i) / 21 ≡ row = omega arith in
    let place_is : (21 * row + i) % 21 ≡ i = omega arith in
    subst (λ n. test row n ≡ true) place_is (subst (λ n. test n ((21 * row + i) % 21) ≡ true) row_is at)

pub edges_rise : (i : ℕ) → i < 21 → edge_of i < edge_of (i + 1)
edges_rise i inside = less (edge_of i) (edge_of (i + 1)) (at_each (λ k. nat_lt (edge_of k) (edge_of (k + 1))) 21 i refl inside)

pub caps_most : (row i : ℕ) → row < 8 → i < 21 → caps_entry row i ≤ 240
caps_most row i below inside = at_most (caps_entry row i) 240 (at_both (λ r k. nat_le (caps_entry r k) 240) 8 row i refl below inside)

pub allocation_most : (row i : ℕ) → row < 11 → i < 21 → allocation_entry row i ≤ 200
allocation_most row i below inside = at_most (allocation_entry row i) 200 (at_both (λ r k. nat_le (allocation_entry r k) 200) 11 row i refl below inside)

pub allocation_rises : (row i : ℕ) → row < 10 → i < 21 → allocation_entry row i ≤ allocation_entry (row + 1) i
allocation_rises row i below inside =
    at_most (allocation_entry row i) (allocation_entry (row + 1) i) (at_both (λ r k. nat_le (allocation_entry r k) (allocation_entry (r + 1) k)) 10 row i refl below inside)

pub window_rises : (k : ℕ) → k < 119 → window_entry k ≤ window_entry (k + 1)
window_rises k inside = at_most (window_entry k) (window_entry (k + 1)) (at_each (λ n. nat_le (window_entry n) (window_entry (n + 1))) 119 k refl inside)

pub window_most : (k : ℕ) → k < 120 → window_entry k < 32768
window_most k inside = less (window_entry k) 32768 (at_each (λ n. nat_lt (window_entry n) 32768) 120 k refl inside)

-- the models, size by size and inter before intra: eight rows of 42
abbrev pub model_test : ℕ → Bool
model_test k =
    let entry = model_entry (k / 84) (k / 42 % 2) (k % 42) in nat_le 1 entry && nat_le entry 192

model_is : (lm intra place : ℕ) → lm < 4 → intra < 2 → place < 42 → (1 ≤ model_entry lm intra place) × (model_entry lm intra place ≤ 192)
model_is lm intra place size two inside =
    let k = 84 * lm + 42 * intra + place in
    let at = at_each model_test 336 k refl (omega arith) in
    let size_is : k / 84 ≡ lm = omega arith in
    let intra_is : k / 42 % 2 ≡ intra = omega arith in
    let place_is : k % 42 ≡ place = omega arith in
    let same : model_entry (k / 84) (k / 42 % 2) (k % 42) ≡ model_entry lm intra place =
    ap (λ n. model_entry n (k / 42 % 2) (k % 42)) size_is
    ∙ ap (λ n. model_entry lm n (k % 42)) intra_is
    ∙ ap (λ n. model_entry lm intra n) place_is in
    let both = and_parts (nat_le 1 (model_entry (k / 84) (k / 42 % 2) (k % 42))) (nat_le (model_entry (k / 84) (k / 42 % 2) (k % 42)) 192) at in
    let low = at_most 1 (model_entry (k / 84) (k / 42 % 2) (k % 42)) both.0 in
    let high = at_most (model_entry (k / 84) (k / 42 % 2) (k % 42)) 192 both.1 in
    (omega arith, omega arith)

pub model_within : (lm : ℕ) (intra : Bool) (place : ℕ) → lm < 4 → place < 42
    → (1 ≤ model_entry lm (if intra then 1 else 0) place) × (model_entry lm (if intra then 1 else 0) place ≤ 192)
model_within lm true place size inside = model_is lm 1 place size (omega arith) inside
model_within lm false place size inside = model_is lm 0 place size (omega arith) inside

pub model_valid : (lm : ℕ) (intra : Bool) (band : ℕ) → lm < 4 → band < 21 → IsValid (Laplace (fs_of lm intra band) (decay_of lm intra band))
model_valid lm intra band size inside =
    let fs = model_within lm intra (2 * band) size (omega arith) in
    let decay = model_within lm intra (2 * band + 1) size (omega arith) in
    let least = fs.0 in
    let most = fs.1 in
    let falls = decay.1 in
    (omega arith, omega arith, omega arith)
