use Rattle.celt_base.specs.Questions.{interval_of}
use Rattle.range_coder.proofs.Coding.{finished}
use Rattle.range_coder.proofs.writer.Writer.finish.Goals as goal

pub returns-clause-finished : goal.returns-clause-finished
returns-clause-finished c =
    λ list coded. finished c.finish.new.room list c.finish.result (c.finish.ensures.finished (interval_of list) coded.matches)
