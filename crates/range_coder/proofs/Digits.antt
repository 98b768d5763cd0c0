-- The digits of a logarithm: squares of numbers of 16 bits, and the length of a width.
use Rattle.std.proofs.Common.{◌≡◌, ℕ, zero, suc, ◌+◌, ◌-◌, ◌*◌, ◌/◌, ◌^◌, ◌<◌, ◌≤◌, inl, inr, refl, ap, ◌∙◌, subst, arith}
use Rattle.std.proofs.lemmas.Bool.{cases_lt}
use Rattle.std.proofs.lemmas.Nat.{leading_top, mul-le, pow-add, le-div, div_below, pow_pos}
use Rattle.std.proofs.Math.Nat.{pow-le-pow_right}
use Rattle.celt_base.specs.Paces.{square_of, digit_of, leading_after}
use Rattle.celt_base.specs.Questions.{bit_length}

-- the square of 16 leading bits, without its lowest 15
pub record IsSquare (square : ℕ) : Type 0 where
  low : 2 ^ 15 ≤ square
  high : square < 2 ^ 17

square_is : (leading : ℕ) → 2 ^ 15 ≤ leading → leading < 2 ^ 16 → IsSquare (square_of leading)
square_is leading low high =
    let least = mul-le (2 ^ 15) (2 ^ 15) leading leading low low in
    let most = mul-le leading leading (2 ^ 16 - 1) (2 ^ 16 - 1) (omega arith) (omega arith) in
    record { low = omega arith; high = omega arith }

digit_one : (square : ℕ) → IsSquare square → square / 2 ^ 16 ≤ 1
digit_one square is = let high = is.high in omega arith

-- what follows a digit has 16 bits again
pub record HasSixteen (leading : ℕ) : Type 0 where
  pub low : 2 ^ 15 ≤ leading
  pub high : leading < 2 ^ 16

sixteen_by : (square digit : ℕ) → IsSquare square → square / 2 ^ 16 ≡ digit → HasSixteen (square / 2 ^ digit)
sixteen_by square zero is e = let low = is.low in let high = is.high in record { low = omega arith; high = omega arith }
sixteen_by square (suc zero) is e = let low = is.low in let high = is.high in record { low = omega arith; high = omega arith }
sixteen_by square (suc (suc n)) is e = absurd (let high = is.high in omega arith)

pub square_fits : (leading : ℕ) → leading < 2 ^ 16 → leading * leading < 2 ^ 32
square_fits leading high = let most = mul-le leading leading (2 ^ 16 - 1) (2 ^ 16 - 1) (omega arith) (omega arith) in omega arith

pub digit_at_most : (leading : ℕ) → 2 ^ 15 ≤ leading → leading < 2 ^ 16 → digit_of leading ≤ 1
digit_at_most leading low high = digit_one (square_of leading) (square_is leading low high)

pub sixteen_after : (leading : ℕ) → 2 ^ 15 ≤ leading → leading < 2 ^ 16 → HasSixteen (leading_after leading)
sixteen_after leading low high = sixteen_by (square_of leading) (digit_of leading) (square_is leading low high) refl

-- the length of a wide width
pub record HasLength (width length : ℕ) : Type 0 where
  pub least : 24 ≤ length
  pub most : length ≤ 32
  pub leading : HasSixteen (width / 2 ^ (length - 16))

length_by : (width j : ℕ) → 2 ^ 23 < width → width < 2 ^ 32 → 2 ^ j ≤ width → width < 2 ^ suc j → suc j ≤ 32 → HasLength width (suc j)
length_by width j wide fits low high most =
    let least : 23 ≤ j =
    elim (cases_lt j 23) [
      | inl less ↦ absurd (let short : 2 ^ suc j ≤ 2 ^ 23 = pow-le-pow_right {n = 2} (omega arith) (let e : suc j ≤ 23 = omega arith in e) in omega arith)
      | inr enough ↦ enough
    ] in
    let split : 2 ^ j ≡ 2 ^ 15 * 2 ^ (suc j - 16) = ap (λ n. 2 ^ n) (let e : j ≡ 15 + (suc j - 16) = omega arith in e) ∙ pow-add 2 15 (suc j - 16) in
    let more : 2 ^ suc j ≡ 2 ^ 16 * 2 ^ (suc j - 16) = ap (λ n. 2 ^ n) (let e : suc j ≡ 16 + (suc j - 16) = omega arith in e) ∙ pow-add 2 16 (suc j - 16) in
    record {
      least = omega arith;
      most = most;
      leading = record {
        low = le-div (2 ^ 15) width (2 ^ (suc j - 16)) (pow_pos (suc j - 16)) (omega arith);
        high = div_below width (2 ^ (suc j - 16)) (2 ^ 16) (pow_pos (suc j - 16)) (omega arith);
      };
    }

pub length_is : (width : ℕ) → 2 ^ 23 < width → width < 2 ^ 32 → HasLength width (bit_length width)
length_is width wide fits =
    let top = leading_top 32 width (omega arith) fits in
    let same : suc top.0 ≡ bit_length width = let e = top.1 in omega arith in
    subst (HasLength width) same (length_by width top.0 wide fits top.2 top.3 (let e = top.1 in omega arith))
