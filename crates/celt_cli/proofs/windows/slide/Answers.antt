use Rattle.std.proofs.Common.{◌≡◌, ◌+◌, ◌-◌, arith, ap, ◌∙◌, pos}
use Rattle.fixed_math.specs.Items.{item}
use Rattle.celt_cli.proofs.windows.slide.Goals as goal

pub returns : goal.returns
returns c = λ place h.
    let e : 1920 + (place - 0) ≡ place + 1920 = omega arith in
    c.copy_within.ensures.by_index.0 place (pos 0) (omega arith) (omega arith) ∙ ap (item c.args.items.now) e
