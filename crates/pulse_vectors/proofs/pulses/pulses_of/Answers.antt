use Rattle.std.proofs.Common.{arith, ◌≡◌, ◌≤◌, ◌*◌, ◌+◌, ◌-◌, ◌/◌, ◌%◌, ◌^◌, inl, inr, mul-le-mul}
use Rattle.std.proofs.lemmas.Bool.{cases_lt}
use Rattle.std.proofs.Math.Nat.{pow-le-pow_right}
use Rattle.pulse_vectors.proofs.pulses.pulses_of.Goals as goal

pub returns-else-index-lt8-clause-most : goal.returns-else-index-lt8-clause-most
returns-else-index-lt8-clause-most c = elim (cases_lt c.args.index 40) [
  | inl less ↦
      let power : 2 ^ (c.args.index / 8 - 1) ≤ 2 ^ 3 = let e : c.args.index / 8 - 1 ≤ 3 = omega arith in pow-le-pow_right {n = 2} (omega arith) e in
      let product : (8 + c.args.index % 8) * 2 ^ (c.args.index / 8 - 1) ≤ 15 * 2 ^ 3 = let e : 8 + c.args.index % 8 ≤ 15 = omega arith in mul-le-mul e power in
      omega arith
  | inr last ↦ let e : c.args.index ≡ 40 = omega arith in rw e (omega arith)
]
