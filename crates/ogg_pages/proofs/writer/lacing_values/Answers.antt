use Rattle.ogg_pages.proofs.Written.{lacing_set}
use Rattle.ogg_pages.proofs.writer.lacing_values.Goals as goal

pub returns : goal.returns
returns c = lacing_set c.args.len c.requires
