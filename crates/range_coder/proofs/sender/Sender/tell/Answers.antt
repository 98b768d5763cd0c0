use Rattle.std.proofs.Common.{◌+◌, ◌-◌, ◌*◌, ap, ◌∙◌}
use Rattle.celt_base.specs.Paces.{tell_of}
use Rattle.range_coder.proofs.sender.Sender.tell.Goals as goal

pub returns : goal.returns
unfolding tell_of
returns c =
    let s = c.args.self in
    record {
      value = ap (λ n. n - c.bit_length.result) c.bits.ensures.value ∙ ap (λ n. (33 + 8 * s.sent + s.raw) - n) c.bit_length.ensures;
    }
