-- The code that is computed has room in its frame.
use Rattle.std.proofs.Common.{◌≡◌, ℕ, ◌+◌, ◌-◌, ◌*◌, ◌/◌, ◌^◌, ◌<◌, ◌≤◌, true, false, inl, inr, List, sym, ap, subst, ◌∙◌, arith}
use Rattle.std.proofs.lemmas.Bool.{cases_lt, le-leb}
use Rattle.std.proofs.lemmas.Nat.{pow_pos, div_below, mul-le}
use Rattle.celt_base.specs.Intervals.{Interval}
use Rattle.celt_base.specs.Questions.{Answered, interval_of}
use Rattle.fixed_math.specs.Search.{least}
use Rattle.fixed_math.proofs.SearchLemmas.{first_passes, first_least}
use Rattle.range_coder.specs.Codes.{IsBlock, IsCode, AreAnswers, FitTypes, told}
use Rattle.range_coder.proofs.CodeLaws.{list_apart}
use Rattle.range_coder.proofs.CodeReading.{interval_fits}
use Rattle.range_coder.proofs.CodeSpelled.{has_code}
use Rattle.celt_encode.specs.Codes.{lowest_block, has_block, fewest_bits, code_of}
use Rattle.celt_encode.specs.Frames.{chosen_list, silence_list, kept_of, frame_of}
use Rattle.celt_encode.specs.Outsets.{Outset}
use Rattle.celt_encode.specs.Rooms.{HasRoom}
use Rattle.celt_encode.proofs.CodeSteps.{code_is}
use Rattle.celt_encode.proofs.WritingSteps.{kept_whole, kept_over, silence_told}

pub code_computed : (list : List Answered) (len : ℕ) → AreAnswers list → FitTypes list → told list ≤ 8 * len → IsCode list len (code_of list len)
code_computed list len are fit fits =
    let c = has_code list len are fit fits in
    subst (IsCode list len) (code_is list len c.0 c.1) c.1

-- ---- the block that is found

ceiling_least : (low p f : ℕ) → 0 < p → low ≤ f * p → (low + (p - 1)) / p ≤ f
ceiling_least low p f some h =
    let e : (f + 1) * p ≡ f * p + p = omega arith in
    let below = div_below (low + (p - 1)) p (f + 1) some (omega (arith, e)) in
    omega (arith, below)

has_some : (i : Interval) (k f : ℕ) → IsBlock i k f → has_block i k ≡ true
unfolding has_block lowest_block
has_some i k f block =
    let p : ℕ = 2 ^ (31 - k) in
    let low = ceiling_least i.low p f (pow_pos (31 - k)) block.above in
    let product : ((i.low + (p - 1)) / p + 1) * p ≤ (f + 1) * p = mul-le ((i.low + (p - 1)) / p + 1) p (f + 1) p (omega (arith, low)) (omega arith) in
    let below = block.below in
    le-leb (((i.low + (p - 1)) / p + 1) * p) (i.low + i.width) (omega (arith, product, below))

found_at : (i : Interval) (k f : ℕ) → IsBlock i k f → has_block i (fewest_bits i) ≡ true
unfolding fewest_bits
found_at i k f block = let few = block.few in first_passes (has_block i) 32 0 k (omega arith) (omega (arith, few)) (has_some i k f block)

few_at : (i : Interval) (k f : ℕ) → IsBlock i k f → fewest_bits i ≤ k
unfolding fewest_bits
few_at i k f block =
    let few = block.few in
    elim (cases_lt k (least (has_block i) 32)) [
      | inl less ↦
          let e : has_block i k ≡ false = first_least (has_block i) 32 0 k (omega arith) less in
          let h = has_some i k f block in
          absurd (cc (e, h))
      | inr more ↦ more
    ]

-- the bits that are found do not meet the raw ones
pub has_room : (list : List Answered) (len : ℕ) → AreAnswers list → FitTypes list → told list ≤ 8 * len → HasRoom (interval_of list) len
has_room list len are fit fits =
    let c = has_code list len are fit fits in
    let i : Interval = interval_of list in
    let k : ℕ = c.1.code.bits in
    let f : ℕ = c.1.code.first in
    let block = c.1.code.ending.block in
    let least = few_at i k f block in
    let few = block.few in
    let apart = list_apart list k f c.1.code.ending in
    record {
      few = omega (arith, least, few);
      found = found_at i k f block;
      apart = omega (arith, least, apart, fits);
      bits = interval_fits list are;
    }

-- ---- what is kept

pub kept_fits : (f : Outset) → 2 ≤ f.len → told (kept_of f) ≤ 8 * f.len
kept_fits f least = elim (cases_lt (8 * f.len) (told (chosen_list f))) [
  | inl over ↦ let e : told (kept_of f) ≡ 16 = sym (ap told (kept_over f over)) ∙ silence_told in omega (arith, e, least)
  | inr fits ↦ let e : told (kept_of f) ≡ told (chosen_list f) = sym (ap told (kept_whole f fits)) in omega (arith, e, fits)
]

silence_answers : AreAnswers silence_list
unfolding silence_list
silence_answers = ((omega arith, omega arith), omega arith, tt)

silence_types : FitTypes silence_list
unfolding silence_list
silence_types = (tt, tt)

-- what is kept is answers, where the choice is
pub kept_answers : (f : Outset) → AreAnswers (chosen_list f) → FitTypes (chosen_list f) → AreAnswers (kept_of f) × FitTypes (kept_of f)
kept_answers f are fit = elim (cases_lt (8 * f.len) (told (chosen_list f))) [
  | inl over ↦ let e = kept_over f over in (subst AreAnswers e silence_answers, subst FitTypes e silence_types)
  | inr fits ↦ let e = kept_whole f fits in (subst AreAnswers e are, subst FitTypes e fit)
]

pub frame_code : (f : Outset) → 2 ≤ f.len → AreAnswers (chosen_list f) → FitTypes (chosen_list f) → IsCode (kept_of f) f.len (frame_of f)
unfolding frame_of
frame_code f least are fit =
    let k = kept_answers f are fit in
    code_computed (kept_of f) f.len k.0 k.1 (kept_fits f least)
