-- What codes the nearest answer of each kind of question.
use Rattle.std.proofs.Common.{◌≡◌, ◌↔◌, ℕ, zero, suc, ◌+◌, ◌-◌, ◌*◌, ◌/◌, ◌%◌, ◌^◌, ◌<◌, ◌≤◌, min, true, false, nat_lt, inl, inr, List, [], ◌∷◌, ℤ, pos, negsuc, unsigned_abs, w64, FitsSigned, to_z, of_z, refl, sym, ap, ◌∙◌, subst, arith}
use Rattle.std.specs.Int.Signed.{lt_z}
use Rattle.std.specs.List.{fold}
use Rattle.std.proofs.lemmas.Bool.{cases_lt}
use Rattle.std.proofs.lemmas.Int.{ints, to_z-of_z}
use Rattle.std.proofs.lemmas.Nat.{mul-le, le-div, pow_pos, div-add-mod'}
use Rattle.std.proofs.Math.Nat.{div-mul-le_self}
use Rattle.celt_base.specs.declared.question.Question.{Question}
use Rattle.celt_base.specs.declared.question.Question.TheVariants.{Uniform, Laplace, Raw}
use Rattle.celt_base.specs.declared.question.TableId.{TableId}
use Rattle.celt_base.specs.declared.question.TableId.TheVariants.{Tapset, Small, Spread, Trim}
use Rattle.celt_base.specs.Intervals.{Part, Symbol, InPart, InBits, Interval, after}
use Rattle.celt_base.specs.Paces.{Pace, after_pace, paced}
use Rattle.celt_base.specs.Questions.{Row, start, part_of, steps, after_answer, low_steps, low_bits, uniform_row, table_row, answers_of, laplace_row, spread_of, IsBelow, IsAnswer, IsLaplace}
use Rattle.celt_base.proofs.Below.{all_below, at_each, less}
use Rattle.celt_base.proofs.Rows.{start_rises}
use Rattle.range_coder.specs.Nearest.{IsNearest, IsChoice}
use Rattle.range_coder.proofs.LaplaceWalk.{sides, zero_ends, minus_ends, plus_ends}
use Rattle.range_coder.proofs.NearestLemmas.{wanted, nearest_same, minus_nearest, plus_nearest}
use Rattle.range_coder.proofs.Taking.{row_part, uniform_part, narrow_steps}

-- the part of a row from its two ends
pub row_choice : (q : Question) (want a : ℤ) (row : Row) (n from to total : ℕ) → IsNearest q want a → steps q a ≡ InPart (part_of row n) ∷ []
    → from ≡ start row n → to ≡ start row (suc n) → total ≡ row.total
    → IsChoice q want a (record { from = from; to = to; total = total })
row_choice q want a row n from to total nearest e lower upper all =
    record { nearest = nearest; codes = e ∙ ap (λ part. InPart part ∷ []) (sym (row_part row n from to total lower upper all)) }

-- what an answer codes, in an interval and in a pace
pub coded_after : (q : Question) (a : ℤ) (symbols : List Symbol) (i : Interval) → steps q a ≡ symbols
    → fold after i symbols ≡ after_answer i (record { question = q; answer = a })
unfolding after_answer
coded_after q a symbols i e = ap (λ s. fold after i s) (sym e)

pub coded_pace : (q : Question) (a : ℤ) (symbols : List Symbol) (pace : Pace) → steps q a ≡ symbols → fold after_pace pace symbols ≡ paced q a pace
unfolding paced
coded_pace q a symbols pace e = ap (λ s. fold after_pace pace s) (sym e)

-- a table: nothing is cut
table_within : (t : TableId) → all_below (λ n. nat_lt (start (table_row t) n + (table_row t).len n) (suc (table_row t).total)) (answers_of t) ≡ true
table_within Tapset = refl
table_within Small = refl
table_within Spread = refl
table_within Trim = refl

table_total : (t : TableId) → (table_row t).total ≤ 128
table_total Tapset = omega arith
table_total Small = omega arith
table_total Spread = omega arith
table_total Trim = omega arith

pub table_next : (t : TableId) (n from : ℕ) → n < answers_of t → from ≡ start (table_row t) n
    → (from + (table_row t).len n ≡ start (table_row t) (suc n)) × (from + (table_row t).len n ≤ 128)
table_next t n from below e =
    let within = less (start (table_row t) n + (table_row t).len n) (suc (table_row t).total)
    (at_each (λ k. nat_lt (start (table_row t) k + (table_row t).len k) (suc (table_row t).total)) (answers_of t) n (table_within t) below) in
    let total = table_total t in
    (omega arith, omega arith)

-- the first numbers, wanted by an i64 of the code
pub number_nearest : (q : Question) (count number : ℕ) (want : ℤ) → FitsSigned w64 want → ((a : ℤ) → IsAnswer q a ↔ IsBelow count a)
    → ((q : Question) → ((a : ℤ) → IsAnswer q a ↔ IsBelow count a) → IsNearest q (to_z w64 (of_z w64 want)) (pos number))
    → IsNearest q want (pos number)
number_nearest q count number want fits answers nearest = wanted q want (pos number) fits (nearest q answers)

-- raw bits
pub raw_answers : (count power : ℕ) → power ≡ 2 ^ count → (a : ℤ) → IsAnswer (Raw count) a ↔ IsBelow power a
raw_answers count power e a = (subst (λ n. IsBelow n a) (sym e), subst (λ n. IsBelow n a) e)

-- a number: the upper bits are a part
top_within : (number last low : ℕ) → number ≤ last → number / 2 ^ low ≤ last / 2 ^ low
top_within number last low most =
    let whole = div-mul-le_self number (2 ^ low) in le-div (number / 2 ^ low) last (2 ^ low) (pow_pos low) (omega arith)

pub top_inside : (limit number low : ℕ) → number < limit → number / 2 ^ low < (limit - 1) / 2 ^ low + 1
top_inside limit number low below = let within = top_within number (limit - 1) low (omega arith) in omega arith

pub number_narrow : (limit low number : ℕ) → low_bits limit ≡ low → number < limit → low ≡ 0
    → steps (Uniform limit) (pos number)
    ≡ InPart (record { from = number / 2 ^ low; to = number / 2 ^ low + 1; total = (limit - 1) / 2 ^ low + 1 }) ∷ []
number_narrow limit low number e below =
    subst
    (λ k. k ≡ 0 → steps (Uniform limit) (pos number)
    ≡ InPart (record { from = number / 2 ^ k; to = number / 2 ^ k + 1; total = (limit - 1) / 2 ^ k + 1 }) ∷ [])
    e
    (λ none. ap (λ s. InPart (part_of (uniform_row limit) (number / 2 ^ low_bits limit)) ∷ s) (narrow_steps (low_bits limit) number none)
    ∙ ap (λ p. InPart p ∷ []) (sym (uniform_part limit (number / 2 ^ low_bits limit) (top_inside limit number (low_bits limit) below))))

wide_steps : (low n : ℕ) → 1 ≤ low → low_steps low n ≡ InBits low (n % 2 ^ low) ∷ []
wide_steps zero n some = absurd (omega arith)
wide_steps (suc k) n some = refl

pub number_wide : (limit low number bits : ℕ) → low_bits limit ≡ low → number < limit → bits ≡ number % 2 ^ low → 1 ≤ low
    → steps (Uniform limit) (pos number)
    ≡ InPart (record { from = number / 2 ^ low; to = number / 2 ^ low + 1; total = (limit - 1) / 2 ^ low + 1 }) ∷ InBits low bits ∷ []
number_wide limit low number bits e below =
    subst
    (λ k. bits ≡ number % 2 ^ k → 1 ≤ k → steps (Uniform limit) (pos number)
    ≡ InPart (record { from = number / 2 ^ k; to = number / 2 ^ k + 1; total = (limit - 1) / 2 ^ k + 1 }) ∷ InBits k bits ∷ [])
    e
    (λ is some. ap (λ s. InPart (part_of (uniform_row limit) (number / 2 ^ low_bits limit)) ∷ s) (wide_steps (low_bits limit) number some)
    ∙ ap (λ n. InPart (part_of (uniform_row limit) (number / 2 ^ low_bits limit)) ∷ InBits (low_bits limit) n ∷ []) (sym is)
    ∙ ap (λ p. InPart p ∷ InBits (low_bits limit) bits ∷ []) (sym (uniform_part limit (number / 2 ^ low_bits limit) (top_inside limit number (low_bits limit) below))))

-- the bits below the upper ones
pub low_number : (number low product : ℕ) → product ≡ number / 2 ^ low * 2 ^ low → number - product ≡ number % 2 ^ low
low_number number low product e = let whole = div-add-mod' number (2 ^ low) in omega arith

-- a signed number, wanted by an i64 of the code
minus_size : (want : ℤ) (size : ℕ) → lt_z want (pos 0) ≡ true → size ≡ unsigned_abs want → want ≡ negsuc (size - 1)
minus_size (pos m) size below e = absurd (grind (arith, ints))
minus_size (negsuc m) size below e = ap negsuc (omega (arith, ints))

pub minus_want : (want : ℤ) (size : ℕ) → FitsSigned w64 want → lt_z (to_z w64 (of_z w64 want)) (pos 0) ≡ true
    → size ≡ unsigned_abs (to_z w64 (of_z w64 want)) → want ≡ negsuc (size - 1)
minus_want want size fits =
    subst (λ w. lt_z w (pos 0) ≡ true → size ≡ unsigned_abs w → want ≡ negsuc (size - 1)) (sym (to_z-of_z w64 want fits)) (minus_size want size)

plus_size : (want : ℤ) (size : ℕ) → lt_z want (pos 0) ≡ false → size ≡ unsigned_abs want → want ≡ pos size
plus_size (pos m) size above e = ap pos (omega (arith, ints))
plus_size (negsuc m) size above e = absurd (grind (arith, ints))

pub plus_want : (want : ℤ) (size : ℕ) → FitsSigned w64 want → lt_z (to_z w64 (of_z w64 want)) (pos 0) ≡ false
    → size ≡ unsigned_abs (to_z w64 (of_z w64 want)) → want ≡ pos size
plus_want want size fits =
    subst (λ w. lt_z w (pos 0) ≡ false → size ≡ unsigned_abs w → want ≡ pos size) (sym (to_z-of_z w64 want fits)) (plus_size want size)

pub moved : (q : Question) (w want a answer : ℤ) (part : Part) → want ≡ w → answer ≡ a → IsChoice q w a part → IsChoice q want answer part
moved q w want a answer part same equal is = subst (λ x. IsChoice q x answer part) (sym same) (subst (λ x. IsChoice q w x part) (sym equal) is)

pub zero_is : (fs decay : ℕ) → IsLaplace fs decay → IsChoice (Laplace fs decay) (pos 0) (pos 0) (record { from = 0; to = fs; total = 2 ^ 15 })
zero_is fs decay is =
    let both = zero_ends fs decay is in
    row_choice (Laplace fs decay) (pos 0) (pos 0) (laplace_row fs decay) 0 0 fs (2 ^ 15)
    (nearest_same (Laplace fs decay) (pos 0) (omega arith)) refl both.0 both.1 refl

pub minus_is : (fs decay k from spread m first to total : ℕ) → from ≡ start (laplace_row fs decay) (2 * k + 1) → spread ≡ spread_of fs decay k
    → from < 2 ^ 15 → k ≤ m → (k < m → 2 ^ 15 ≤ from + 2 * (spread + 1))
    → first ≡ from → to ≡ min (from + spread + 1) (2 ^ 15) → total ≡ 2 ^ 15
    → IsChoice (Laplace fs decay) (negsuc m) (negsuc k) (record { from = first; to = to; total = total })
minus_is fs decay k from spread m first to total begins length inside within last lower upper all =
    let both = sides fs decay k from spread begins length in
    let next = both.1 in
    row_choice (Laplace fs decay) (negsuc m) (negsuc k) (laplace_row fs decay) (2 * k + 1) first to total
    (minus_nearest fs decay m k (omega arith) within (λ less. let past = last less in omega arith))
    refl (lower ∙ begins) (upper ∙ minus_ends fs decay k from spread begins length) all

pub plus_is : (fs decay k from spread m first to total : ℕ) → from ≡ start (laplace_row fs decay) (2 * k + 1) → spread ≡ spread_of fs decay k
    → from + spread + 1 < 2 ^ 15 → k < m → (k + 1 < m → 2 ^ 15 ≤ start (laplace_row fs decay) (2 * (k + 1) + 2))
    → first ≡ from + spread + 1 → to ≡ min (from + spread + 1 + spread + 1) (2 ^ 15) → total ≡ 2 ^ 15
    → IsChoice (Laplace fs decay) (pos m) (pos (k + 1)) (record { from = first; to = to; total = total })
plus_is fs decay k from spread m first to total begins length inside within last lower upper all =
    let both = plus_ends fs decay k from spread begins length (omega arith) in
    let own = both.0 in
    row_choice (Laplace fs decay) (pos m) (pos (k + 1)) (laplace_row fs decay) (2 * (k + 1)) first to total
    (plus_nearest fs decay m (k + 1) (omega arith) (omega arith) last)
    refl (lower ∙ both.0) (upper ∙ both.1) all

-- where the next size is cut, so is the size after it
pub past_next : (fs decay k from spread : ℕ) → from ≡ start (laplace_row fs decay) (2 * k + 1) → spread ≡ spread_of fs decay k
    → 2 ^ 15 ≤ from + 2 * (spread + 1) → 2 ^ 15 ≤ start (laplace_row fs decay) (2 * (k + 1) + 2)
past_next fs decay k from spread begins length past =
    let both = sides fs decay k from spread begins length in
    let next = both.1 in
    let rises = start_rises (laplace_row fs decay) (2 * k + 3) (2 * (k + 1) + 2) (omega arith) in
    omega arith

-- the size below one that has only its minus
pub record IsBefore (fs decay k j from spread : ℕ) : Type 0 where
  pub next : j + 1 ≡ k
  pub inside : from + spread + 1 < 2 ^ 15
  pub last : 2 ^ 15 ≤ start (laplace_row fs decay) (2 * (j + 1) + 2)

pub before : (fs decay k above wide j from spread : ℕ) → above ≡ start (laplace_row fs decay) (2 * k + 1) → wide ≡ spread_of fs decay k
    → above < 2 ^ 15 → 2 ^ 15 ≤ above + wide + 1
    → from ≡ start (laplace_row fs decay) (2 * j + 1) → spread ≡ spread_of fs decay j → j < k → (j + 1 < k → 2 ^ 15 ≤ from + 2 * (spread + 1))
    → IsBefore fs decay k j from spread
before fs decay k above wide j from spread begins length inside cut own size less last =
    let row = laplace_row fs decay in
    let here = sides fs decay k above wide begins length in
    let there = sides fs decay j from spread own size in
    let upper = here.0 in
    let middle = there.0 in
    let end = there.1 in
    let e : j + 1 ≡ k =
    elim (cases_lt (j + 1) k) [
      | inl more ↦
          let past = last more in
          let rises = start_rises row (2 * j + 3) (2 * k + 1) (omega arith) in
          absurd (omega arith)
      | inr same ↦ omega arith
    ] in
    let rises = start_rises row (2 * j + 2) (2 * k + 1) (omega arith) in
    let at : start row (2 * k + 2) ≡ start row (2 * (j + 1) + 2) = ap (λ n. start row (2 * n + 2)) (sym e) in
    record { next = e; inside = omega arith; last = omega arith }

-- size 1 has both signs
pub first_has_both : (fs decay k from spread : ℕ) → IsLaplace fs decay → from ≡ start (laplace_row fs decay) (2 * k + 1) → spread ≡ spread_of fs decay k
    → 2 ^ 15 ≤ from + spread + 1 → 1 ≤ k
first_has_both fs decay zero from spread is begins length cut =
    let most = is.1 in
    let product = mul-le (2 ^ 15 - 32 - fs) (2 ^ 14 - decay) (2 ^ 15 - 32 - fs) (2 ^ 14) (omega arith) (omega arith) in
    absurd (omega arith)
first_has_both fs decay (suc k) from spread is begins length cut = omega arith
