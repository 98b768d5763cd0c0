-- The pairs of a generator, one after the other.
use Rattle.std.proofs.Common.{◌≡◌, ℕ, suc, ◌*◌, ◌/◌, ◌%◌, ◌<◌, ◌≤◌, ap, ap₂, ◌∙◌, arith, refl}
use Rattle.std.specs.Prelude.{ℤ, pos, neg_ℤ, ◌+ℤ◌, ◌-ℤ◌, ◌≤ℤ◌}
use Rattle.std.specs.Int.{w32, cast_signed}
use Rattle.std.proofs.lemmas.Int.{ints}
use Rattle.fixed_math.proofs.RoundingLemmas.{shr_low, shr_high}
use Rattle.fixed_math.specs.Rounding.{noise_after}
use Rattle.celt_cli.specs.Generator.{noise_behind, share_of, sample_of, left_of, right_of}

pub no_noise : (seed : ℕ) → seed ≡ noise_behind seed 0
unfolding noise_behind
no_noise seed = refl

pub next_noise : (seed count noise first second : ℕ) → noise ≡ noise_behind seed count → first ≡ noise_after noise → second ≡ noise_after first → second ≡ noise_behind seed (suc count)
unfolding noise_behind
next_noise seed count noise first second n f s = s ∙ ap noise_after (f ∙ ap noise_after n)

pub left_is : (seed count noise left first : ℕ) (r : ℤ) → noise ≡ noise_behind seed count → left ≡ count % 200 → first ≡ noise_after noise → r ≡ sample_of 200 left first → r ≡ left_of seed count
left_is seed count noise left first r n l f e = e ∙ ap₂ (sample_of 200) l (f ∙ ap noise_after n)

pub right_is : (seed count right second : ℕ) (r : ℤ) → second ≡ noise_behind seed (suc count) → right ≡ count % 151 → r ≡ sample_of 151 right second → r ≡ right_of seed count
right_is seed count right second r s l e = e ∙ ap₂ (sample_of 151) l s

-- ---- THE SIZE OF A SAMPLE

-- a share of the noise takes ten bits
share_low : (state : ℕ) → neg_ℤ (pos 512) ≤ℤ share_of state
share_low state = omega (arith, ints, shr_low (cast_signed w32 state) 22, shr_high (cast_signed w32 state) 22)

share_high : (state : ℕ) → share_of state ≤ℤ pos 511
share_high state = omega (arith, ints, shr_low (cast_signed w32 state) 22, shr_high (cast_signed w32 state) 22)

left_rise : (place : ℕ) → place < 200 → place * 8000 / 200 ≤ 7960
left_rise place h = omega arith

right_rise : (place : ℕ) → place < 151 → place * 8000 / 151 ≤ 7947
right_rise place h = omega arith

within_low : (rise : ℕ) (share : ℤ) → neg_ℤ (pos 512) ≤ℤ share → neg_ℤ (pos 4512) ≤ℤ ((pos rise -ℤ pos 4000) +ℤ share)
within_low rise share s = omega (arith, ints)

within_high : (rise : ℕ) (share : ℤ) → rise ≤ 7960 → share ≤ℤ pos 511 → ((pos rise -ℤ pos 4000) +ℤ share) ≤ℤ pos 4471
within_high rise share r s = omega (arith, ints)

pub left_low : (seed number : ℕ) → neg_ℤ (pos 4512) ≤ℤ left_of seed number
left_low seed number =
    let state = noise_after (noise_behind seed number) in
    within_low (number % 200 * 8000 / 200) (share_of state) (share_low state)

pub left_high : (seed number : ℕ) → left_of seed number ≤ℤ pos 4471
left_high seed number =
    let state = noise_after (noise_behind seed number) in
    let place : number % 200 < 200 = omega arith in
    within_high (number % 200 * 8000 / 200) (share_of state) (left_rise (number % 200) place) (share_high state)

pub right_low : (seed number : ℕ) → neg_ℤ (pos 4512) ≤ℤ right_of seed number
right_low seed number =
    let state = noise_behind seed (suc number) in
    within_low (number % 151 * 8000 / 151) (share_of state) (share_low state)

pub right_high : (seed number : ℕ) → right_of seed number ≤ℤ pos 4471
right_high seed number =
    let state = noise_behind seed (suc number) in
    let place : number % 151 < 151 = omega arith in
    let rise : number % 151 * 8000 / 151 ≤ 7947 = right_rise (number % 151) place in
    let most : number % 151 * 8000 / 151 ≤ 7960 = omega arith in
    within_high (number % 151 * 8000 / 151) (share_of state) most (share_high state)
