use Rattle.std.proofs.Common.{◌∙◌, ◌<◌, ap, sym, arith, Some, get_or}
use Rattle.opus_stream.proofs.Tallying.{look, look_longer, look_next, look_found, look_none}
use Rattle.opus_stream.proofs.packets.packet_at.Goals as goal

pub loop-value-init : goal.loop-value-init
loop-value-init c = look c.args.lacing.now c.args.bytes.now c.args.before c.args.i

pub loop-value-preserved-then-value : goal.loop-value-preserved-then-value
loop-value-preserved-then-value c =
    let l = c.loop-value in
    look_longer c.args.lacing.now c.args.bytes.now c.args.before c.args.i l.count l.start l.end l.value-index c.from-end.result c.loop-value-test.true c.from-end.ensures c.if-value.true l.invariant

pub loop-value-preserved : goal.loop-value-preserved
loop-value-preserved c =
    let l = c.loop-value in
    let xs = c.args.lacing.now in
    let small : get_or xs l.value-index 0 < 256 = let f = c.type_inv.lacing l.value-index in omega arith in
    look_next xs c.args.bytes.now c.args.before c.args.i l.count l.start l.end l.value-index c.from-end.result c.loop-value-test.true c.from-end.ensures small c.if-value.false c.if-count-i.false l.invariant

pub returns-then-count-i : goal.returns-then-count-i
returns-then-count-i c = λ all there.
    let l = c.loop-value in
    let xs = c.args.lacing.now in
    let small : get_or xs l.value-index 0 < 256 = let f = c.type_inv.lacing l.value-index in omega arith in
    let found = look_found xs c.args.bytes.now c.args.before c.args.i l.count l.start l.end l.value-index c.from-end.result c.loop-value-test.true c.from-end.ensures small c.if-value.false c.if-count-i.true l.invariant all there in
    found.1 ∙ ap Some (sym (c.between.ensures found.0))

pub returns : goal.returns
returns c = λ all there.
    let l = c.loop-value in
    absurd (look_none c.args.lacing.now c.args.bytes.now c.args.before c.args.i l.count l.start l.end l.value-index c.loop-value-test.false l.invariant all there)
