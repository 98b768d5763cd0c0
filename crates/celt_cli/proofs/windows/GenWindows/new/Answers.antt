use Rattle.std.proofs.Common.{ap, ◌∙◌, ◌+◌}
use Rattle.fixed_math.specs.Items.{item}
use Rattle.celt_cli.proofs.Windowing.{none_held}
use Rattle.celt_cli.proofs.windows.GenWindows.new.Goals as goal

pub returns : goal.returns
returns c = record { pairs = c.new.ensures; held = λ place h. ap (λ l. item l (place + 1920)) c.no_items.ensures ∙ none_held c.args.settings place h }
