use Rattle.std.proofs.Common.{◌≤◌, ◌^◌, arith}
use Rattle.std.proofs.Math.Nat.{pow-le-pow_right}
use Rattle.celt_session.proofs.batching.samples_in.Goals as goal

pub returns-clause-most : goal.returns-clause-most
returns-clause-most c = let p : 2 ^ c.args.kind.lm ≤ 2 ^ 3 = pow-le-pow_right (omega arith) c.args.kind.sized in omega arith
