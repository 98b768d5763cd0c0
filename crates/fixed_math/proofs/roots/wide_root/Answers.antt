use Rattle.std.proofs.Common.{◌≡◌, ℕ, ◌+◌, ◌-◌, ◌*◌, ◌/◌, ◌%◌, ◌^◌, ◌<◌, ◌≤◌, arith, refl}
use Rattle.std.specs.Int.Count.{count_leading_zeros}
use Rattle.std.proofs.lemmas.Nat.{one_shl, pow_pos}
use Rattle.fixed_math.proofs.RootLemmas.{start_small, start_above, newton_quotient, newton_above, root_positive}
use Rattle.fixed_math.proofs.roots.wide_root.Goals as goal

pub overflow_add-y : goal.overflow_add-y
overflow_add-y c =
    let s : ℕ = (129 - count_leading_zeros 128 c.args.v) / 2 in
    let e : 1 * 2 ^ s % 2 ^ 128 ≡ 2 ^ s = one_shl s 128 (omega arith) in
    let m : 2 ^ s ≤ 2 ^ 64 = start_small 64 128 (2 ^ s) (count_leading_zeros 128 c.args.v) refl refl in
    let q : c.args.v / 2 ^ s ≤ 2 ^ s + 3 = newton_quotient c.args.v (2 ^ s) (pow_pos s) (start_above 128 c.args.v (2 ^ s) (omega arith) refl) in
    rw e (omega arith)

pub loop-y-init : goal.loop-y-init
loop-y-init c =
    let s : ℕ = (129 - count_leading_zeros 128 c.args.v) / 2 in
    let e : 1 * 2 ^ s % 2 ^ 128 ≡ 2 ^ s = one_shl s 128 (omega arith) in
    rw e (record {
      some = omega arith;
      positive = pow_pos s;
      small = start_small 64 128 (2 ^ s) (count_leading_zeros 128 c.args.v) refl refl;
      above = start_above 128 c.args.v (2 ^ s) (omega arith) refl;
      next = refl;
    })

pub loop-y-preserved : goal.loop-y-preserved
loop-y-preserved c =
    let i = c.loop-y.invariant in
    let above : c.args.v < (c.loop-y.y + 1) * (c.loop-y.y + 1) = newton_above c.args.v c.loop-y.x c.loop-y.y i.positive i.next in
    record {
      some = i.some;
      positive = root_positive c.args.v c.loop-y.y i.some above;
      small = omega arith;
      above = above;
      next = refl;
    }
