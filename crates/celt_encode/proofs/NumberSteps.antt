-- The octave of a period.
use Rattle.std.proofs.Common.{◌≡◌, ℕ, zero, suc, ◌+◌, ◌-◌, ◌*◌, ◌^◌, ◌<◌, ◌≤◌, inl, inr, subst, sym, arith}
use Rattle.std.specs.Prelude.{nat_le}
use Rattle.std.proofs.lemmas.Bool.{cases_lt, le-leb, lt-leb}
use Rattle.std.proofs.Math.Nat.{pow-le-pow_right}
use Rattle.fixed_math.specs.Search.{greatest}
use Rattle.celt_encode.proofs.NearestSteps.{greatest_is}

-- every higher octave begins above the period
pub record Lowering (period octave : ℕ) : Type 0 where
  pub few : octave ≤ 5
  pub above : (higher : ℕ) → octave < higher → higher < 6 → period + 1 < 16 * 2 ^ higher

pub lowering_first : (period : ℕ) → Lowering period 5
lowering_first period = record { few = omega arith; above = λ higher h g. absurd (omega arith) }

pub lowering_next : (period octave : ℕ) → Lowering period octave → period + 1 < 16 * 2 ^ octave → Lowering period (octave - 1)
lowering_next period octave l past = record {
  few = let f = l.few in omega (arith, f);
  above = λ higher h g.
      elim (cases_lt octave higher) [
        | inl more ↦ l.above higher more g
        | inr same ↦ let e : higher ≡ octave = omega arith in subst (λ o. period + 1 < 16 * 2 ^ o) (sym e) past
      ];
}

pub octave_found : (period octave : ℕ) → Lowering period octave → 16 * 2 ^ octave ≤ period + 1
    → octave ≡ greatest (λ octave. nat_le (16 * 2 ^ octave) (period + 1)) 6
octave_found period octave l within =
    let few = l.few in
    sym (greatest_is (λ octave. nat_le (16 * 2 ^ octave) (period + 1)) 6 octave (omega (arith, few)) (le-leb (16 * 2 ^ octave) (period + 1) within)
    (λ higher h g. lt-leb (16 * 2 ^ higher) (period + 1) (l.above higher h g)))

pub octave_small : (octave : ℕ) → octave ≤ 5 → 16 * 2 ^ octave ≤ 512
octave_small octave few = let e : 2 ^ octave ≤ 2 ^ 5 = pow-le-pow_right {n = 2} (omega arith) few in omega (arith, e)

-- the lowest octave begins at 16
pub some_octave : (period octave : ℕ) → 15 ≤ period → period + 1 < 16 * 2 ^ octave → 0 < octave
some_octave period zero least past = absurd (omega (arith, least, past))
some_octave period (suc octave) least past = omega arith
