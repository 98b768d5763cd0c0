use Rattle.std.proofs.Common.{◌≡◌, ◌+◌, ◌*◌, ◌^◌, ◌≤◌, arith, length}
use Rattle.std.proofs.lemmas.Int.{to_z-of_z}
use Rattle.std.proofs.lemmas.Bool.{leb-true}
use Rattle.fixed_math.specs.Unit.{square, energy}
use Rattle.spread_fold.proofs.CalmLemmas.{calm_start}
use Rattle.spread_fold.proofs.calm.is_calm.Goals as goal

pub returns : goal.returns
returns c = λ q.
    let fc = c.ranges.c in
    let fs = c.ranges.s in
    let x : c.square_of.result ≡ square c.args.c = simp to_z-of_z at c.square_of.ensures.value in
    let y : c.square_of-2.result ≡ square c.args.s = simp to_z-of_z at c.square_of-2.ensures.value in
    let angle : square c.args.c + square c.args.s ≤ 2 ^ 30 + 2 ^ 16 = omega (arith, x, y, c.if-square_of-gt-CIRCLE.false) in
    let low : c.energy_of.result ≤ 8589934592 = leb-true c.energy_of.result 8589934592 q in
    let sum : energy c.args.x.now ≤ 2 ^ 33 = omega (arith, low, c.energy_of.ensures) in
    calm_start c.args.c c.args.s (length c.args.x.now) c.args.x.now angle sum c.requires.count
