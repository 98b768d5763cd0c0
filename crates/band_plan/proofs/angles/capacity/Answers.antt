use Rattle.std.proofs.Common.{◌+◌, ◌≤◌, ◌^◌, arith, subst, sym}
use Rattle.std.specs.Prelude.{pos, ◌+ℤ◌, ◌*ℤ◌, int_div, unsigned_abs, FitsSigned}
use Rattle.std.specs.Int.{w32}
use Rattle.std.proofs.lemmas.Int.{to_z-of_z, to_z_pos}
use Rattle.band_plan.proofs.AngleSteps.{capacity_steps, capacity-is}
use Rattle.band_plan.proofs.angles.capacity.Goals as goal

pub returns-clause-value : goal.returns-clause-value
returns-clause-value c =
    let t = capacity_steps c.args.numbers c.args.shift c.args.bits c.requires.numbers.1 c.requires.shift c.requires.bits in
    let f : FitsSigned w32 c.args.bits = c.ranges.bits in
    let g : FitsSigned w32 c.args.shift = c.ranges.shift in
    let p = t.product in
    let s = t.sum in
    let e = capacity-is c.args.numbers c.args.shift c.args.bits in
    let q : FitsSigned w32 (int_div (c.args.bits +ℤ pos c.args.numbers *ℤ c.args.shift) (pos c.args.numbers)) = subst (FitsSigned w32) (sym e) t.quotient in
    rw (to_z_pos w32 c.args.numbers (let n = c.requires.numbers.1 in omega (arith, n))) (simp to_z-of_z e)

pub returns-clause-size : goal.returns-clause-size
returns-clause-size c =
    let t = capacity_steps c.args.numbers c.args.shift c.args.bits c.requires.numbers.1 c.requires.shift c.requires.bits in
    subst (λ z. unsigned_abs z ≤ 2 ^ 30 + 21060) (sym (returns-clause-value c)) t.size
