use Rattle.std.proofs.Common.{ℕ, ◌+◌, ◌-◌, ◌*◌, ◌/◌, ◌≤◌, arith}
use Rattle.std.proofs.lemmas.Nat.{mul-le}
use Rattle.bit_allocation.specs.Requests.{quantum_of}
use Rattle.celt_tables.specs.Tables.{caps_entry}
use Rattle.celt_tables.proofs.Entries.{caps_most}
use Rattle.celt_tables.specs.Tables.{coefficients_of}
use Rattle.frame_symbols.proofs.laws.law_boosts_end.Goals as goal

within : (entry v : ℕ) → entry ≤ 240 → (entry + 64) * v / 4 ≤ 76 * quantum_of v
within entry v most =
    let p : (entry + 64) * v ≤ 304 * v = mul-le (entry + 64) v 304 v (omega (arith, most)) (omega arith) in
    let q : v ≤ quantum_of v = omega arith in
    omega (arith, p, q)

pub returns : goal.returns
returns c = λ kind band inside.
    within (caps_entry (2 * kind.lm + kind.channels - 1) band) (coefficients_of kind band)
    (caps_most (2 * kind.lm + kind.channels - 1) band (omega (arith, kind.sized, kind.two_channels)) inside)
