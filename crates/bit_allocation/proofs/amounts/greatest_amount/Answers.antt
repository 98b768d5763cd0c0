use Rattle.std.proofs.Common.{arith}
use Rattle.std.proofs.lemmas.Int.{ints}
use Rattle.bit_allocation.proofs.AmountLemmas.{most_of_least, most_of_most}
use Rattle.bit_allocation.proofs.amounts.greatest_amount.Goals as goal

pub returns-clause-least : goal.returns-clause-least
returns-clause-least c =
    let p = most_of_least c.args.kind c.args.band (omega (arith, c.requires)) in
    let m = most_of_most c.args.kind c.args.band (omega (arith, c.requires)) in
    omega (arith, ints, c.cap.ensures, p, m)

pub returns-clause-most : goal.returns-clause-most
returns-clause-most c =
    let m = most_of_most c.args.kind c.args.band (omega (arith, c.requires)) in
    omega (arith, ints, c.cap.ensures, m)
