use Rattle.std.proofs.Common.{◌≡◌, ◌+◌, ◌-◌, ◌*◌, ◌%◌, ◌^◌, ◌<◌, min, sym, ap, ◌∙◌, subst, arith}
use Rattle.std.proofs.lemmas.Nat.{one_shl, pow_pos}
use Rattle.range_coder.proofs.Taking.{wide_by, narrow_by, number_fits, takes_total}
use Rattle.range_coder.proofs.answers.read_uniform.Goals as goal

pub returns-then-low-eq0-clause-takes : goal.returns-then-low-eq0-clause-takes
returns-then-low-eq0-clause-takes c =
    let top = c.value_of-top.result in
    let total = c.of-shares.ensures.total in
    let below = c.value_of-top.ensures.below in
    narrow_by c.args.frame.now c.args.window c.take_part-after.result c.args.limit c.low_bits-low.result top
    c.low_bits-low.ensures.value c.requires.valid c.if-low-eq0.true (omega arith)
    (takes_total c.args.frame.now c.args.window c.take_part-after.result top (top + 1) _ _ total c.take_part-after.ensures.takes)

pub overflow_add-number : goal.overflow_add-number
overflow_add-number c =
    let low = c.low_bits-low.result in
    let few = c.low_bits-low.ensures.few in
    let one : (1 * 2 ^ low) % 2 ^ 32 ≡ 2 ^ low = one_shl low 32 (omega arith) in
    let small = c.low_bits-low.ensures.top in
    let total = c.of-shares.ensures.total in
    let below = c.value_of-top.ensures.below in
    let fits = number_fits c.value_of-top.result low c.raw_bits.result (omega arith) few c.raw_bits.ensures.below in
    let sum : c.value_of-top.result * ((1 * 2 ^ low) % 2 ^ 32) + c.raw_bits.result < 2 ^ 32 = subst (λ n. c.value_of-top.result * n + c.raw_bits.result < 2 ^ 32) (sym one) fits in
    omega (arith, sum)

pub returns-clause-takes : goal.returns-clause-takes
returns-clause-takes c =
    let top = c.value_of-top.result in
    let low = c.low_bits-low.result in
    let few = c.low_bits-low.ensures.few in
    let wide = c.if-low-eq0.false in
    let total = c.of-shares.ensures.total in
    let below = c.value_of-top.ensures.below in
    let one : (1 * 2 ^ low) % 2 ^ 32 ≡ 2 ^ low = one_shl low 32 (omega arith) in
    let number : c.min.result ≡ min (top * 2 ^ low + c.raw_bits.result) (c.args.limit - 1) =
    c.min.ensures ∙ ap (λ n. min (top * n + c.raw_bits.result) (c.args.limit - 1)) one in
    wide_by c.args.frame.now c.args.window c.take_part-after.result c.pass_bits.result c.args.limit low top c.raw_bits.result c.min.result
    c.low_bits-low.ensures.value c.requires.valid (omega arith) (omega arith) c.raw_bits.ensures.below (pow_pos low) number
    (takes_total c.args.frame.now c.args.window c.take_part-after.result top (top + 1) _ _ total c.take_part-after.ensures.takes)
    c.raw_bits.ensures.value (λ i n. c.pass_bits.ensures.shows c.args.frame.now i n) c.pass_bits.ensures.pace
