use Rattle.std.proofs.Common.{◌^◌, ◌≤◌, arith}
use Rattle.std.proofs.Math.Nat.{pow-le-pow_right}
use Rattle.celt_analysis.proofs.pitches.frame_size.Goals as goal

pub returns-clause-size : goal.returns-clause-size
returns-clause-size c =
    let p : 2 ^ c.args.lm ≤ 2 ^ 3 = pow-le-pow_right {n = 2} (omega arith) c.requires in
    omega arith
