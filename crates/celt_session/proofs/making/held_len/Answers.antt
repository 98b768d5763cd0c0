use Rattle.std.proofs.Common.{◌+◌, ◌*◌, ◌≤◌, arith}
use Rattle.std.proofs.lemmas.Nat.{mul-le}
use Rattle.celt_session.proofs.MakerLemmas.{plan_sizes}
use Rattle.celt_session.proofs.making.held_len.Goals as goal

pub returns-clause-most : goal.returns-clause-most
returns-clause-most c =
    let p = c.args.plan in
    let s = plan_sizes p in
    let few = mul-le c.args.count p.samples 16 960 c.requires s.1 in
    let from : c.from.result ≤ 2 = let e = c.from.ensures in let h = p.kind.two_channels in omega arith in
    let all = mul-le c.from.result (1145 + c.args.count * p.samples) 2 16505 from (omega arith) in
    omega arith
