use Rattle.std.proofs.Common.{◌≡◌, ℕ, ◌-◌, ◌≤◌, ◌^◌, arith, get_or}
use Rattle.std.specs.Prelude.{pos, unsigned_abs}
use Rattle.std.proofs.lemmas.Int.{ints}
use Rattle.fixed_math.specs.Circle.{quarter_cosine}
use Rattle.fixed_math.proofs.AngleLemmas.{quarter_size}
use Rattle.fixed_math.proofs.angles.Trig.half_circle.Goals as goal

pub returns-then-a-le3840-clause-size : goal.returns-then-a-le3840-clause-size
returns-then-a-le3840-clause-size c =
    let e : pos (get_or c.args.self.now.cosines c.args.a 0) ≡ quarter_cosine c.args.a = c.args.self.now.is_quarter.value c.args.a (omega arith) in
    let s : unsigned_abs (quarter_cosine c.args.a) ≤ 2 ^ 15 = quarter_size c.args.a (omega arith) in
    omega (arith, ints)

pub returns-else-a-le3840-clause-size : goal.returns-else-a-le3840-clause-size
returns-else-a-le3840-clause-size c =
    let b : ℕ = 7680 - c.args.a in
    let e : pos (get_or c.args.self.now.cosines b 0) ≡ quarter_cosine b = c.args.self.now.is_quarter.value b (omega arith) in
    let s : unsigned_abs (quarter_cosine b) ≤ 2 ^ 15 = quarter_size b (omega arith) in
    omega (arith, ints)
