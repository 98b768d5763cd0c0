use Rattle.std.proofs.Common.{◌≡◌, ◌+◌, min, slice_index, arith, ◌<◌, ap, sym, ◌∙◌}
use Rattle.opus_packets.proofs.Codings.{padded_more, padded_long, padded_last, padded_none}
use Rattle.opus_packets.proofs.octets.padding_within.Goals as goal

pub returns-then-i-value-clause-value : goal.returns-then-i-value-clause-value
returns-then-i-value-clause-value c =
    let bytes = c.args.bytes.now in
    let byte : slice_index bytes c.loop-i.i < 256 = omega (arith, c.type_inv.bytes c.loop-i.i) in
    let value = ap (λ m. c.loop-i.value + m) (c.min-value.ensures ∙ ap (λ m. min m 254) c.from.ensures) in
    sym (padded_long bytes c.loop-i.i c.loop-i.value _ c.loop-i.invariant c.loop-i-test.true byte value c.if-i-value.true)

pub returns-then-octet-lt255-clause-value : goal.returns-then-octet-lt255-clause-value
returns-then-octet-lt255-clause-value c =
    let value = ap (λ m. c.loop-i.value + m) (c.min-value.ensures ∙ ap (λ m. min m 254) c.from.ensures) in
    sym (padded_last c.args.bytes.now c.loop-i.i c.loop-i.value _ c.loop-i.invariant c.loop-i-test.true c.if-octet-lt255.true value c.if-i-value.false)

pub loop-i-preserved : goal.loop-i-preserved
loop-i-preserved c =
    let bytes = c.args.bytes.now in
    let full : slice_index bytes c.loop-i.i ≡ 255 = omega (arith, c.type_inv.bytes c.loop-i.i, c.if-octet-lt255.false) in
    let value = ap (λ m. c.loop-i.value + m) (c.min-value.ensures ∙ ap (λ m. min m 254) c.from.ensures) in
    padded_more bytes c.loop-i.i c.loop-i.value _ c.loop-i.invariant c.loop-i-test.true full value c.if-i-value.false

pub returns-clause-value : goal.returns-clause-value
returns-clause-value c = sym (padded_none c.args.bytes.now c.loop-i.i c.loop-i.value c.loop-i.invariant c.loop-i-test.false)
