-- The end of a code from the state of a writer: the front was sent, and the last bits name the block.
use Rattle.std.proofs.Common.{◌≡◌, ℕ, suc, ◌+◌, ◌-◌, ◌*◌, ◌/◌, ◌^◌, ◌<◌, ◌≤◌, inl, inr, length, sym, ap, ◌∙◌, subst, arith}
use Rattle.std.proofs.lemmas.Bool.{cases_lt}
use Rattle.std.proofs.lemmas.Nat.{mul-le, pow-add, pow_pos, leading_top, leading_length}
use Rattle.std.proofs.Math.Nat.{pow-le-pow_right, div-mul-le_self, lt-mul-div-succ}
use Rattle.celt_base.specs.Intervals.{Interval}
use Rattle.celt_base.specs.Questions.{bit_length}
use Rattle.range_coder.specs.Codes.{IsBlock, IsEnding}
use Rattle.range_coder.proofs.Numbers.{front_small}

-- a number in units of a power of two, rounded up
pub record IsCeiling (low power first : ℕ) : Type 0 where
  pub above : low ≤ first * 2 ^ power
  pub near : first * 2 ^ power < low + 2 ^ power

pub is_ceiling : (low power first : ℕ) → first ≡ (low + (2 ^ power - 1)) / 2 ^ power → IsCeiling low power first
is_ceiling low power first e =
    let some = pow_pos power in
    let most = div-mul-le_self (low + (2 ^ power - 1)) (2 ^ power) in
    let least = lt-mul-div-succ (low + (2 ^ power - 1)) some in
    let product : first * 2 ^ power ≡ (low + (2 ^ power - 1)) / 2 ^ power * 2 ^ power = ap (λ n. n * 2 ^ power) e in
    record { above = omega arith; near = omega arith }

-- the front stands above the bits
lifted : (front bits power first : ℕ) → bits + power ≡ 31 → (front * 2 ^ bits + first) * 2 ^ (31 - bits) ≡ front * 2 ^ 31 + first * 2 ^ power
lifted front bits power first sum =
    let left : 31 - bits ≡ power = omega arith in
    let both : 2 ^ 31 ≡ 2 ^ bits * 2 ^ power = ap (λ n. 2 ^ n) (sym sum) ∙ pow-add 2 bits power in
    let whole : front * 2 ^ 31 ≡ front * (2 ^ bits * 2 ^ power) = ap (λ n. front * n) both in
    ap (λ n. (front * 2 ^ bits + first) * 2 ^ n) left ∙ omega arith

-- what an end owes to its interval
pub record At (i : Interval) (front low width bits power : ℕ) : Type 0 where
  pub low_is : i.low ≡ front * 2 ^ 31 + low
  pub width_is : i.width ≡ width
  pub sum : bits + power ≡ 31
  pub wide : 2 ^ power ≤ width
  pub narrow : width < 2 ^ (power + 1)

is_block : (i : Interval) (front low width bits power first : ℕ) → i.low ≡ front * 2 ^ 31 + low → i.width ≡ width → bits + power ≡ 31
    → IsCeiling low power first → first * 2 ^ power + 2 ^ power ≤ low + width → IsBlock i bits (front * 2 ^ bits + first)
is_block i front low width bits power first low_is width_is sum is fits =
    let above = is.above in
    let here = lifted front bits power first sum in
    let next = lifted front bits power (first + 1) sum in
    let product : (first + 1) * 2 ^ power ≡ first * 2 ^ power + 2 ^ power = omega arith in
    let more : (front * 2 ^ bits + first) + 1 ≡ front * 2 ^ bits + (first + 1) = omega arith in
    let below : ((front * 2 ^ bits + first) + 1) * 2 ^ (31 - bits) ≡ front * 2 ^ 31 + (first * 2 ^ power + 2 ^ power) =
    ap (λ n. n * 2 ^ (31 - bits)) more ∙ next ∙ ap (λ n. front * 2 ^ 31 + n) product in
    record { few = omega arith; above = omega arith; below = omega arith }

-- no block of more numbers fits, and none is lower
no_fewer : (i : Interval) (power k other : ℕ) → i.width < 2 ^ (power + 1) → k + power < 31 → IsBlock i k other → ⊥
no_fewer i power k other narrow less block =
    let above = block.above in
    let below = block.below in
    let size : 2 ^ (power + 1) ≤ 2 ^ (31 - k) = pow-le-pow_right {n = 2} (omega arith) (omega arith) in
    absurd (omega arith)

no_lower : (i : Interval) (front low width bits power first other : ℕ) → i.low ≡ front * 2 ^ 31 + low → bits + power ≡ 31
    → IsCeiling low power first → IsBlock i bits other → front * 2 ^ bits + first ≤ other
no_lower i front low width bits power first other low_is sum is block =
    elim (cases_lt other (front * 2 ^ bits + first)) [
      | inl less ↦
          let near = is.near in
          let above = block.above in
          let left : 31 - bits ≡ power = omega arith in
          let unit : 2 ^ (31 - bits) ≡ 2 ^ power = ap (λ n. 2 ^ n) left in
          let here = lifted front bits power first sum in
          let product = mul-le (other + 1) (2 ^ (31 - bits)) (front * 2 ^ bits + first) (2 ^ (31 - bits)) (omega arith) (omega arith) in
          absurd (omega arith)
      | inr enough ↦ enough
    ]

-- the block of the width's own power fits
pub wide_ending : (i : Interval) (front low width bits power first : ℕ) → At i front low width bits power → IsCeiling low power first
    → first * 2 ^ power + 2 ^ power ≤ low + width → IsEnding i bits (front * 2 ^ bits + first)
wide_ending i front low width bits power first at is fits =
    let sum = at.sum in
    let width_is = at.width_is in
    let narrow = at.narrow in
    record {
      block = is_block i front low width bits power first at.low_is at.width_is sum is fits;
      fewest = λ k other block. elim (cases_lt k bits) [
        | inl less ↦ absurd (no_fewer i power k other (omega arith) (omega arith) block)
        | inr enough ↦ enough
      ];
      lowest = λ other block. no_lower i front low width bits power first other at.low_is sum is block;
    }

-- it does not, and one of half as many numbers is taken
pub half_ending : (i : Interval) (front low width bits power first next : ℕ) → At i front low width bits (power + 1)
    → IsCeiling low (power + 1) first → low + width < first * 2 ^ (power + 1) + 2 ^ (power + 1)
    → IsCeiling low power next → IsEnding i (bits + 1) (front * 2 ^ (bits + 1) + next)
half_ending i front low width bits power first next at is past half =
    let sum = at.sum in
    let width_is = at.width_is in
    let low_is = at.low_is in
    let narrow = at.narrow in
    let wide = at.wide in
    let near = half.near in
    let twice : 2 ^ (power + 1) ≡ 2 ^ power * 2 ^ 1 = pow-add 2 power 1 in
    let own : (bits + 1) + power ≡ 31 = omega arith in
    record {
      block = is_block i front low width (bits + 1) power next low_is width_is own half (omega arith);
      fewest = λ k other block. elim (cases_lt k (bits + 1)) [
        | inl less ↦ elim (cases_lt k bits) [
          | inl fewer ↦ absurd (no_fewer i (power + 1) k other (omega arith) (omega arith) block)
          | inr same ↦
              let e : k ≡ bits = omega arith in
              let own_block = subst (λ n. IsBlock i n other) e block in
              let least = no_lower i front low width bits (power + 1) first other low_is sum is own_block in
              let below = own_block.below in
              let next_first = lifted front bits (power + 1) (first + 1) sum in
              let product : (first + 1) * 2 ^ (power + 1) ≡ first * 2 ^ (power + 1) + 2 ^ (power + 1) = omega arith in
              let most = mul-le (front * 2 ^ bits + (first + 1)) (2 ^ (31 - bits)) (other + 1) (2 ^ (31 - bits)) (omega arith) (omega arith) in
              absurd (omega arith)
        ]
        | inr enough ↦ enough
      ];
      lowest = λ other block. no_lower i front low width (bits + 1) power next other low_is own half block;
    }

-- the power of two at or below a width
pub record HasPower (width length : ℕ) : Type 0 where
  pub least : 24 ≤ length
  pub most : length ≤ 32
  pub wide : 2 ^ (31 - (32 - length)) ≤ width
  pub narrow : width < 2 ^ (31 - (32 - length) + 1)

record IsFew (top all : ℕ) : Type 0 where
  least : 24 ≤ all
  most : top ≤ 31

length_few : (top all width : ℕ) → 2 ^ top ≤ width → width < 2 ^ all → 2 ^ 23 < width → width ≤ 2 ^ 31 → IsFew top all
length_few top all width below above wide narrow =
    record {
      least = elim (cases_lt all 24) [
        | inl less ↦ let few : all ≤ 23 = omega arith in let small : 2 ^ all ≤ 2 ^ 23 = pow-le-pow_right {n = 2} (omega arith) few in absurd (omega arith)
        | inr enough ↦ enough
      ];
      most = elim (cases_lt 31 top) [
        | inl more ↦ let enough : 32 ≤ top = omega arith in let great : 2 ^ 32 ≤ 2 ^ top = pow-le-pow_right {n = 2} (omega arith) enough in absurd (omega arith)
        | inr few ↦ few
      ];
    }

pub has_power : (width length : ℕ) → 2 ^ 23 < width → width ≤ 2 ^ 31 → length ≡ bit_length width → HasPower width length
has_power width length wide narrow e =
    let top = leading_top 32 width (omega arith) (omega arith) in
    let all = leading_length 32 width (omega arith) in
    let top_is : suc top.0 ≡ length = let is = top.1 in omega arith in
    let all_is : all.0 ≡ length = let is = all.1 in omega arith in
    let below : 2 ^ top.0 ≤ width = top.2 in
    let above : width < 2 ^ all.0 = all.2 in
    let few = length_few top.0 all.0 width below above wide narrow in
    let least = few.least in
    let most = few.most in
    let power : top.0 ≡ 31 - (32 - length) = omega arith in
    let next : all.0 ≡ 31 - (32 - length) + 1 = omega arith in
    record {
      least = omega arith;
      most = omega arith;
      wide = subst (λ n. 2 ^ n ≤ width) power below;
      narrow = subst (λ n. width < 2 ^ n) next above;
    }

-- the number of the last bits is small
pub first_few : (low width bits power first : ℕ) → bits + power ≡ 31 → 2 ^ power ≤ width → low + width < 2 ^ 32 → IsCeiling low power first
    → first ≤ 2 ^ (bits + 1)
first_few low width bits power first sum wide within is =
    let near = is.near in
    let all : 2 ^ (power + (bits + 1)) ≡ 2 ^ 32 = ap (λ n. 2 ^ n) (let e : power + (bits + 1) ≡ 32 = omega arith in e) in
    let less = front_small first power (bits + 1) (omega arith) in
    omega arith
