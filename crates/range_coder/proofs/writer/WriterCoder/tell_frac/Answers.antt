use Rattle.std.proofs.Common.{◌-◌, ◌*◌, ◌+◌, ◌/◌, ◌^◌, sym, subst, arith, ap, ◌∙◌}
use Rattle.celt_base.specs.Paces.{tell_frac_of, eighths_from}
use Rattle.range_coder.proofs.Digits.{HasLength, length_is}
use Rattle.range_coder.proofs.writer.WriterCoder.tell_frac.Goals as goal

pub overflow_sub-length : goal.overflow_sub-length
overflow_sub-length c =
    let sender = c.args.self.now.sender in
    let narrow = sender.narrow in
    let is = subst (HasLength sender.width) (sym c.bit_length-length.ensures) (length_is sender.width c.args.self.now.wide (omega arith)) in
    let least = is.least in
    omega arith

pub eighths_from-requires-clause-low : goal.eighths_from-requires-clause-low
eighths_from-requires-clause-low c =
    let sender = c.args.self.now.sender in
    let narrow = sender.narrow in
    (subst (HasLength sender.width) (sym c.bit_length-length.ensures) (length_is sender.width c.args.self.now.wide (omega arith))).leading.low

pub eighths_from-requires-clause-high : goal.eighths_from-requires-clause-high
eighths_from-requires-clause-high c =
    let sender = c.args.self.now.sender in
    let narrow = sender.narrow in
    (subst (HasLength sender.width) (sym c.bit_length-length.ensures) (length_is sender.width c.args.self.now.wide (omega arith))).leading.high

pub returns-clause-value : goal.returns-clause-value
unfolding tell_frac_of
returns-clause-value c =
    let sender = c.args.self.now.sender in
    ap (λ n. 8 * n - c.eighths_from.result) c.bits.ensures.value
    ∙ ap (λ n. 8 * (33 + 8 * sender.sent + sender.raw) - n) (c.eighths_from.ensures.value ∙ ap (λ n. eighths_from n (sender.width / 2 ^ (n - 16))) c.bit_length-length.ensures)
