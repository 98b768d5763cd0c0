use Rattle.std.proofs.Common.{◌∙◌, ap, subst}
use Rattle.std.specs.Io.KnownBytes.{Appends}
use Rattle.celt_base.specs.Outside.{AppendsFront}
use Rattle.celt_cli.specs.GenLines.{gen_line, line_of}
use Rattle.celt_cli.proofs.generating.write_generated.Goals as goal

pub returns-in-Ok-write_all-clause-line : goal.returns-in-Ok-write_all-clause-line
unfolding gen_line
returns-in-Ok-write_all-clause-line g c = λ shows.
    subst (Appends (g.K.Sink.held c.args.output.now) (g.K.Sink.held c.write_all.new.self))
    (c.split_at.ensures.front ∙ c.put_report-len.ensures.line ∙ ap line_of (c.reported-report.ensures shows)) c.in-Ok-write_all.ensures.bytes

pub returns-clause-line : goal.returns-clause-line
unfolding gen_line
returns-clause-line g c = λ shows.
    subst (AppendsFront (g.K.Sink.held c.args.output.now) (g.K.Sink.held c.write_all.new.self))
    (c.split_at.ensures.front ∙ c.put_report-len.ensures.line ∙ ap line_of (c.reported-report.ensures shows)) c.in-Err.ensures.bytes
