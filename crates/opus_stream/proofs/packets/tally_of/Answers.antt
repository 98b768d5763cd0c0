use Rattle.std.proofs.Common.{◌+◌, drop, subst, sym, ◌∙◌, arith}
use Rattle.std.proofs.Common.{◌-◌}
use Rattle.std.proofs.lemmas.Bool.{ltb-true, ltb-false}
use Rattle.opus_stream.proofs.Tallying.{Tallying, start, longer, ended, refused, done, too_long, not_too_long, rest_cons, rest_none, is_255, is_below}
use Rattle.opus_stream.proofs.packets.tally_of.Goals as goal

pub loop-value-init : goal.loop-value-init
loop-value-init c = start c.args.lacing.now c.args.bytes.now c.args.before c.args.number c.requires.body

pub loop-value-preserved-then-value : goal.loop-value-preserved-then-value
loop-value-preserved-then-value c =
    let l = c.loop-value in
    let t = l.tally in
    let xs = c.args.lacing.now in
    let rest = rest_cons xs l.value-index c.from-end.result c.loop-value-test.true c.from-end.ensures in
    let here = subst (λ r. Tallying xs c.args.bytes.now c.args.before c.args.number t.packets t.samples t.len l.end r) rest l.invariant in
    longer xs c.args.bytes.now c.args.before c.args.number t.packets t.samples t.len l.end c.from-end.result (drop (l.value-index + 1) xs)
    (is_255 _ _ c.from-end.ensures c.if-value.true) here

pub returns-in-Err : goal.returns-in-Err
returns-in-Err c =
    let l = c.loop-value in
    let t = l.tally in
    let xs = c.args.lacing.now in
    let rest = rest_cons xs l.value-index c.from-end.result c.loop-value-test.true c.from-end.ensures in
    let here = subst (λ r. Tallying xs c.args.bytes.now c.args.before c.args.number t.packets t.samples t.len l.end r) rest l.invariant in
    refused xs c.args.bytes.now c.args.before c.args.number t.packets t.samples t.len l.end c.from-end.result (drop (l.value-index + 1) xs) c.in-Err.fault
    (is_below _ _ c.from-end.ensures (let f = c.type_inv.lacing l.value-index in omega arith) c.if-value.false)
    (sym c.in-Err.ensures.fault) here

pub loop-value-preserved : goal.loop-value-preserved
loop-value-preserved c =
    let l = c.loop-value in
    let t = l.tally in
    let xs = c.args.lacing.now in
    let rest = rest_cons xs l.value-index c.from-end.result c.loop-value-test.true c.from-end.ensures in
    let here = subst (λ r. Tallying xs c.args.bytes.now c.args.before c.args.number t.packets t.samples t.len l.end r) rest l.invariant in
    ended xs c.args.bytes.now c.args.before c.args.number t.packets t.samples t.len l.end c.from-end.result c.in-Ok.samples (drop (l.value-index + 1) xs)
    (is_below _ _ c.from-end.ensures (let f = c.type_inv.lacing l.value-index in omega arith) c.if-value.false)
    (sym c.in-Ok.ensures.fault) c.in-Ok.ensures.value c.in-Ok.ensures.bound here

pub returns-then-is_too_long : goal.returns-then-is_too_long
returns-then-is_too_long c =
    let l = c.loop-value in
    let t = l.tally in
    let xs = c.args.lacing.now in
    let d = done xs c.args.bytes.now c.args.before c.args.number t.packets t.samples t.len l.end
    (subst (λ r. Tallying xs c.args.bytes.now c.args.before c.args.number t.packets t.samples t.len l.end r) (rest_none xs l.value-index c.loop-value-test.false) l.invariant) in
    d.fault ∙ too_long (c.args.number + t.packets) c.args.bytes.now t.len l.end d.all (ltb-true 61440 (l.end - t.len) (sym c.is_too_long.ensures ∙ c.if-is_too_long.true))

pub returns : goal.returns
returns c =
    let l = c.loop-value in
    let t = l.tally in
    let xs = c.args.lacing.now in
    let inv = l.invariant in
    let d = done xs c.args.bytes.now c.args.before c.args.number t.packets t.samples t.len l.end
    (subst (λ r. Tallying xs c.args.bytes.now c.args.before c.args.number t.packets t.samples t.len l.end r) (rest_none xs l.value-index c.loop-value-test.false) inv) in
    let all = d.all in
    let ahead = d.ahead in
    let few = inv.few in
    let near = ltb-false 61440 (l.end - t.len) (sym c.is_too_long.ensures ∙ c.if-is_too_long.false) in
    record {
      sound = d.fault ∙ not_too_long (c.args.number + t.packets) c.args.bytes.now t.len l.end d.all near;
      packets = d.packets_are;
      samples = d.samples_are;
      len = d.len_is;
      inside = omega (arith, all, ahead);
      behind = omega (arith, all, ahead, near);
      few = omega (arith, few);
      short = inv.short;
    }
