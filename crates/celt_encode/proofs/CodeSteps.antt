-- A code is the one that is computed.
use Rattle.std.proofs.Common.{◌≡◌, ℕ, zero, suc, ◌+◌, ◌-◌, ◌*◌, ◌/◌, ◌%◌, ◌^◌, ◌<◌, ◌≤◌, true, false, inl, inr, List, [], ◌∷◌, length, refl, sym, ap, ◌∙◌, arith, slice_index}
use Rattle.std.specs.Prelude.{nat_le}
use Rattle.std.proofs.lemmas.Bool.{cases_lt, leb-true, le-leb}
use Rattle.std.proofs.lemmas.Nat.{pow_pos, div-add-mod', mod_below, div_below, div-mul-add, mod-mul-add, mul-add-lt, mul-le}
use Rattle.celt_base.specs.Intervals.{Interval}
use Rattle.celt_base.specs.Questions.{Answered, interval_of}
use Rattle.fixed_math.specs.Search.{least}
use Rattle.fixed_math.proofs.SearchLemmas.{first_passes, first_least}
use Rattle.range_coder.specs.Codes.{IsBlock, IsEnding, IsCodeOf, IsCode}
use Rattle.range_coder.specs.FrameBits.{front, number}
use Rattle.range_coder.proofs.Bits.{front_more}
use Rattle.celt_encode.specs.Codes.{bytes_of, lowest_block, has_block, fewest_bits, code_number, code_of}

le_true : (a b : ℕ) → nat_le a b ≡ true → a ≤ b
le_true a b e = leb-true a b e

le_is : (a b : ℕ) → a ≤ b → nat_le a b ≡ true
le_is a b h = le-leb a b h

-- ---- the block

ceiling_above : (low p : ℕ) → 0 < p → low ≤ (low + (p - 1)) / p * p
ceiling_above low p some =
    let whole = div-add-mod' (low + (p - 1)) p in
    let rest = mod_below (low + (p - 1)) p some in
    omega (arith, whole, rest)

ceiling_least : (low p f : ℕ) → 0 < p → low ≤ f * p → (low + (p - 1)) / p ≤ f
ceiling_least low p f some h =
    let e : (f + 1) * p ≡ f * p + p = omega arith in
    let below = div_below (low + (p - 1)) p (f + 1) some (omega (arith, e)) in
    omega (arith, below)

block_of : (i : Interval) (k : ℕ) → k ≤ 31 → has_block i k ≡ true → IsBlock i k (lowest_block i k)
unfolding has_block lowest_block
block_of i k few e = record {
  few = few;
  above = ceiling_above i.low (2 ^ (31 - k)) (pow_pos (31 - k));
  below = le_true ((lowest_block i k + 1) * 2 ^ (31 - k)) (i.low + i.width) e;
}

lowest_least : (i : Interval) (k f : ℕ) → IsBlock i k f → lowest_block i k ≤ f
unfolding lowest_block
lowest_least i k f block = ceiling_least i.low (2 ^ (31 - k)) f (pow_pos (31 - k)) block.above

has_of : (i : Interval) (k f : ℕ) → IsBlock i k f → has_block i k ≡ true
unfolding has_block
has_of i k f block =
    let p : ℕ = 2 ^ (31 - k) in
    let low = lowest_least i k f block in
    let product : (lowest_block i k + 1) * p ≤ (f + 1) * p = mul-le (lowest_block i k + 1) p (f + 1) p (omega arith) (omega arith) in
    let below = block.below in
    le_is ((lowest_block i k + 1) * p) (i.low + i.width) (omega (arith, product, below))

-- the block of an ending is the one that is computed
bits_is : (i : Interval) (k f : ℕ) → IsEnding i k f → k ≡ fewest_bits i
unfolding fewest_bits
bits_is i k f ending =
    let m : ℕ = least (has_block i) 32 in
    let few = ending.block.few in
    let has = has_of i k f ending.block in
    elim (cases_lt k m) [
      | inl less ↦ let e : has_block i k ≡ false = first_least (has_block i) 32 0 k (omega arith) less in absurd (cc (e, has))
      | inr more ↦
          let passes : has_block i m ≡ true = first_passes (has_block i) 32 0 k (omega arith) (omega arith) has in
          let fewest = ending.fewest m (lowest_block i m) (block_of i m (omega arith) passes) in
          omega (arith, fewest, more)
    ]

first_is : (i : Interval) (k f : ℕ) → IsEnding i k f → f ≡ lowest_block i k
first_is i k f ending =
    let low = lowest_least i k f ending.block in
    let high = ending.lowest (lowest_block i k) (block_of i k ending.block.few (has_of i k f ending.block)) in
    omega (arith, low, high)

-- ---- the bytes

front_cons : (b : ℕ) (bs : List ℕ) (count : ℕ) → front (b ∷ bs) (suc count) ≡ b * 256 ^ count + front bs count
unfolding front
front_cons b bs zero = omega arith
front_cons b bs (suc count) =
    let before = front_cons b bs count in
    let more = front_more (b ∷ bs) (suc count) in
    let own = front_more bs count in
    let power : 256 ^ suc count ≡ 256 ^ count * 256 = omega arith in
    let product = ap (λ n. b * n) power in
    omega (arith, before, more, own, product)

number_cons : (b : ℕ) (bs : List ℕ) → number (b ∷ bs) ≡ b * 256 ^ length bs + number bs
unfolding number
number_cons b bs = front_cons b bs (length bs)

number_none : number [] ≡ 0
unfolding number front
number_none = refl

number_below : (bs : List ℕ) → ((place : ℕ) → slice_index bs place < 256) → number bs < 256 ^ length bs
number_below [] bytes = let e = number_none in omega (arith, e)
number_below (b ∷ bs) bytes =
    let rest = number_below bs (λ place. bytes (suc place)) in
    let e = number_cons b bs in
    let own = mul-add-lt b (256 ^ length bs) (number bs) 256 (bytes zero) rest in
    let power : 256 ^ suc (length bs) ≡ 256 ^ length bs * 256 = omega arith in
    omega (arith, e, own, power)

bytes_is : (bs : List ℕ) → ((place : ℕ) → slice_index bs place < 256) → bs ≡ bytes_of (length bs) (number bs)
unfolding bytes_of
bytes_is [] bytes = refl
bytes_is (b ∷ bs) bytes =
    let p : ℕ = 256 ^ length bs in
    let e = number_cons b bs in
    let rest = number_below bs (λ place. bytes (suc place)) in
    let high : number (b ∷ bs) / p ≡ b = ap (λ n. n / p) e ∙ div-mul-add b p (number bs) rest in
    let low : number (b ∷ bs) % p ≡ number bs = ap (λ n. n % p) e ∙ mod-mul-add b p (number bs) rest in
    ap (λ xs. b ∷ xs) (bytes_is bs (λ place. bytes (suc place)))
    ∙ ap (λ n. b ∷ bytes_of (length bs) n) (sym low)
    ∙ ap (λ h. h ∷ bytes_of (length bs) (number (b ∷ bs) % p)) (sym high)

-- ---- the code

number_is : (i : Interval) (len : ℕ) (frame : List ℕ) → IsCodeOf i len frame → number frame ≡ code_number i len
unfolding code_number
number_is i len frame code =
    code.number_is
    ∙ ap (λ f. f * 2 ^ (8 * len - (i.shift + code.bits)) + i.bits) (first_is i code.bits code.first code.ending)
    ∙ ap (λ k. lowest_block i k * 2 ^ (8 * len - (i.shift + k)) + i.bits) (bits_is i code.bits code.first code.ending)

pub code_is : (list : List Answered) (len : ℕ) (frame : List ℕ) → IsCode list len frame → frame ≡ code_of list len
unfolding code_of
code_is list len frame is =
    bytes_is frame is.code.bytes
    ∙ ap (λ n. bytes_of n (number frame)) is.code.length_is
    ∙ ap (bytes_of len) (number_is (interval_of list) len frame is.code)
