-- The ending of an interval: one at most, of few bits, and one where the interval is not empty.
use Rattle.std.proofs.Common.{◌≡◌, ◌⊎◌, ℕ, zero, suc, ◌+◌, ◌-◌, ◌*◌, ◌/◌, ◌^◌, ◌<◌, ◌≤◌, inl, inr, sym, subst, arith}
use Rattle.std.proofs.lemmas.Bool.{cases_lt}
use Rattle.std.proofs.lemmas.Nat.{leading_top, mul-le, pow_pos}
use Rattle.std.proofs.Math.Nat.{div-mul-le_self, lt-mul-div-succ}
use Rattle.celt_base.specs.Intervals.{Interval}
use Rattle.celt_base.specs.Questions.{bit_length}
use Rattle.celt_base.specs.Paces.{pace_of, tell_of}
use Rattle.range_coder.specs.Codes.{IsBlock, IsEnding}

-- the first multiple of a unit that is not below a number
abbrev up : ℕ → ℕ → ℕ
up low unit = (low + unit - 1) / unit

record IsUp (low unit multiple : ℕ) : Type 0 where
  above : low ≤ multiple * unit
  near : multiple * unit < low + unit

up_is : (low unit : ℕ) → 0 < unit → IsUp low unit (up low unit)
up_is low unit some =
    let most = div-mul-le_self (low + unit - 1) unit in
    let least = lt-mul-div-succ (low + unit - 1) some in
    record { above = omega arith; near = omega arith }

up_least : (low unit other : ℕ) → 0 < unit → low ≤ other * unit → up low unit ≤ other
up_least low unit other some above =
    elim (cases_lt other (up low unit)) [
      | inl less ↦
          let is = up_is low unit some in
          let near = is.near in
          let product = mul-le (other + 1) unit (up low unit) unit (omega arith) (omega arith) in
          absurd (omega arith)
      | inr enough ↦ enough
    ]

-- an interval of two units holds a block of one
wide_block : (i : Interval) (free : ℕ) → free ≤ 31 → 2 ^ suc free ≤ i.width → IsBlock i (31 - free) (up i.low (2 ^ free))
wide_block i free most wide =
    let is = up_is i.low (2 ^ free) (pow_pos free) in
    let above = is.above in
    let near = is.near in
    let left : 31 - (31 - free) ≡ free = omega arith in
    record {
      few = omega arith;
      above = subst (λ k. i.low ≤ up i.low (2 ^ free) * 2 ^ k) (sym left) above;
      below = subst (λ k. (up i.low (2 ^ free) + 1) * 2 ^ k ≤ i.low + i.width) (sym left) (omega arith);
    }

few_by : (i : Interval) (bits first top : ℕ) → IsEnding i bits first → suc top ≤ 32 → 2 ^ top ≤ i.width → bits + suc top ≤ 33
few_by i bits first zero is most wide = let few = is.block.few in omega arith
few_by i bits first (suc free) is most wide =
    let few = is.fewest (31 - free) (up i.low (2 ^ free)) (wide_block i free (omega arith) wide) in
    omega arith

-- the bits of an ending and the length of the width are 33 at most
pub ending_few : (i : Interval) (bits first : ℕ) → i.width ≤ 2 ^ 31 → IsEnding i bits first → bits + bit_length i.width ≤ 33
ending_few i bits first narrow is =
    let above = is.block.above in
    let below = is.block.below in
    let some = pow_pos (31 - bits) in
    let top = leading_top 32 i.width (omega arith) (omega arith) in
    let size : suc top.0 ≡ bit_length i.width = let e = top.1 in omega arith in
    let few = few_by i bits first top.0 is (let e = top.1 in omega arith) top.2 in
    omega arith

-- so the head and the tail of a code have no more bits than are told
pub ending_apart : (i : Interval) (bits first : ℕ) → i.width ≤ 2 ^ 31 → IsEnding i bits first → i.shift + bits + i.raw ≤ tell_of (pace_of i)
unfolding tell_of
ending_apart i bits first narrow is = let few = ending_few i bits first narrow is in omega arith

-- there is one ending at most
pub record SameEnding (bits first other_bits other : ℕ) : Type 0 where
  pub bits_are : bits ≡ other_bits
  pub first_is : first ≡ other

pub ending_one : (i : Interval) (bits first other_bits other : ℕ) → IsEnding i bits first → IsEnding i other_bits other → SameEnding bits first other_bits other
ending_one i bits first other_bits other one two =
    let least = one.fewest other_bits other two.block in
    let most = two.fewest bits first one.block in
    let same : bits ≡ other_bits = omega arith in
    let low = one.lowest other (subst (λ k. IsBlock i k other) (sym same) two.block) in
    let high = two.lowest first (subst (λ k. IsBlock i k first) same one.block) in
    record { bits_are = same; first_is = omega arith }

-- and there is one, found by trying the numbers of bits in turn
record IsLeast (i : Interval) (bits : ℕ) : Type 0 where
  first : ℕ
  block : IsBlock i bits first
  lowest : (other : ℕ) → IsBlock i bits other → first ≤ other

least_block : (i : Interval) (bits : ℕ) → bits ≤ 31 → IsLeast i bits ⊎ ((other : ℕ) → IsBlock i bits other → ⊥)
least_block i bits few =
    let unit = 2 ^ (31 - bits) in
    let some = pow_pos (31 - bits) in
    let first = up i.low unit in
    let is = up_is i.low unit some in
    elim (cases_lt (i.low + i.width) ((first + 1) * unit)) [
      | inl past ↦ inr (λ other block.
          let least = up_least i.low unit other some block.above in
          let below = block.below in
          let product = mul-le (first + 1) unit (other + 1) unit (omega arith) (omega arith) in
          absurd (omega arith))
      | inr inside ↦ inl (record {
        first = first;
        block = record { few = few; above = is.above; below = inside };
        lowest = λ other block. up_least i.low unit other some block.above;
      })
    ]

pub record HasEnding (i : Interval) : Type 0 where
  pub bits : ℕ
  pub first : ℕ
  pub is : IsEnding i bits first

last_block : (i : Interval) → 1 ≤ i.width → IsBlock i 31 i.low
last_block i some = record { few = omega arith; above = omega arith; below = omega arith }

least_ending : (i : Interval) (bits : ℕ) → IsLeast i bits → ((fewer other : ℕ) → fewer < bits → IsBlock i fewer other → ⊥) → HasEnding i
least_ending i bits least none =
    record {
      bits = bits;
      first = least.first;
      is = record {
        block = least.block;
        fewest = λ fewer other block. elim (cases_lt fewer bits) [
          | inl less ↦ absurd (none fewer other less block)
          | inr enough ↦ enough
        ];
        lowest = least.lowest;
      };
    }

ending_from : (i : Interval) (left bits : ℕ) → 1 ≤ i.width → bits + left ≡ 31
    → ((fewer other : ℕ) → fewer < bits → IsBlock i fewer other → ⊥) → HasEnding i
ending_from i zero bits some e none =
    elim (least_block i bits (omega arith)) [
      | inl least ↦ least_ending i bits least none
      | inr empty ↦
          let last : 31 ≡ bits = omega arith in
          absurd (empty i.low (subst (λ k. IsBlock i k i.low) last (last_block i some)))
    ]
ending_from i (suc left) bits some e none =
    elim (least_block i bits (omega arith)) [
      | inl least ↦ least_ending i bits least none
      | inr empty ↦
          ending_from i left (suc bits) some (omega arith)
          (λ fewer other less block. elim (cases_lt fewer bits) [
            | inl below ↦ none fewer other below block
            | inr above ↦ let same : fewer ≡ bits = omega arith in empty other (subst (λ k. IsBlock i k other) same block)
          ])
    ]

pub has_ending : (i : Interval) → 1 ≤ i.width → HasEnding i
has_ending i some = ending_from i 31 0 some (omega arith) (λ fewer other less block. absurd (omega arith))
