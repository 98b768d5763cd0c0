use Rattle.std.proofs.Common.{◌≡◌, ◌≤◌, ◌<◌, ◌*◌, ℕ, arith, sym, subst}
use Rattle.std.specs.Prelude.{pos}
use Rattle.std.specs.Int.{w32, cast_signed as to_z}
use Rattle.std.proofs.lemmas.Int.{ints, to_z_pos}
use Rattle.bit_allocation.specs.Amounts.{most_of}
use Rattle.celt_tables.specs.Tables.{size_of}
use Rattle.bit_allocation.specs.Requests.{IsBoost, quantum_of}
use Rattle.bit_allocation.proofs.AmountLemmas.{most_of_most, size_least, some_coefficients}
use Rattle.bit_allocation.proofs.tests.boost.Goals as goal
use Rattle.celt_base.specs.declared.kind.Kind.{Kind}

boost_from : (kind : Kind) (band n : ℕ) → band < 21 → n ≤ most_of kind band → IsBoost kind band (to_z w32 n)
boost_from kind band n inside within =
    let m = most_of_most kind band inside in
    let some = some_coefficients kind.channels (size_of kind band) (size_least kind band inside) in
    let one = kind.some_channel in
    let quantum : 1 ≤ quantum_of (kind.channels * size_of kind band) = omega (arith, some, one) in
    let e : to_z w32 n ≡ pos n = to_z_pos w32 n (omega (arith, m, within)) in
    subst (IsBoost kind band) (sym e) (record {
      least = omega (arith, ints);
      most = omega (arith, ints, within, quantum);
    })

pub returns : goal.returns
returns c =
    let v = c.greatest_amount.ensures.value in
    let m = c.min.ensures in
    boost_from c.args.kind c.args.band c.min.result (omega (arith, c.requires)) (omega (arith, v, m))
