use Rattle.std.proofs.Common.{◌-◌, ◌*◌, ◌/◌, ◌^◌, sym, subst, arith, ap, ◌∙◌}
use Rattle.celt_base.specs.Paces.{tell_frac_of, eighths_from}
use Rattle.range_coder.proofs.Digits.{HasLength, length_is}
use Rattle.range_coder.proofs.reader.ReaderCoder.tell_frac.Goals as goal

length_of : (c : goal.After-bit_length-length) → HasLength c.args.self.now.window.width c.bit_length-length.result
length_of c =
    let window = c.args.self.now.window in
    let narrow = window.narrow in
    subst (HasLength window.width) (sym c.bit_length-length.ensures) (length_is window.width c.args.self.now.wide (omega arith))

pub overflow_sub-length : goal.overflow_sub-length
overflow_sub-length c = let least = (length_of c).least in omega arith

pub eighths_from-requires-clause-low : goal.eighths_from-requires-clause-low
eighths_from-requires-clause-low c = (length_of c).leading.low

pub eighths_from-requires-clause-high : goal.eighths_from-requires-clause-high
eighths_from-requires-clause-high c = (length_of c).leading.high

pub returns-clause-value : goal.returns-clause-value
unfolding tell_frac_of
returns-clause-value c =
    let window = c.args.self.now.window in
    ap (λ n. 8 * window.bits - n) (c.eighths_from.ensures.value ∙ ap (λ n. eighths_from n (window.width / 2 ^ (n - 16))) c.bit_length-length.ensures)
