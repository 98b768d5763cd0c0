use Rattle.celt_cli.proofs.DoneCommands.{gen_step, gen_samples}
use Rattle.celt_cli.proofs.Generated.{gen_answers, gen_wrote}
use Rattle.celt_cli.proofs.program.run_command.Goals as goal

pub returns-in-Gen-clause-status : goal.returns-in-Gen-clause-status
returns-in-Gen-clause-status g c = gen_answers c.args.command c.in-Gen.settings (g.S.Source.left c.args.input.now) c.run_gen.result c.in-Gen.is c.run_gen.ensures.status

pub returns-in-Gen-clause-output : goal.returns-in-Gen-clause-output
returns-in-Gen-clause-output g c =
    gen_wrote c.args.command c.in-Gen.settings (g.S.Source.left c.args.input.now) (g.S.Source.left c.args.input.now) (g.K.Sink.held c.args.output.now) (g.K.Sink.held c.run_gen.new.output) c.run_gen.result c.in-Gen.is c.run_gen.ensures.line

pub returns-in-Gen-clause-in_step : goal.returns-in-Gen-clause-in_step
returns-in-Gen-clause-in_step g c = gen_step c.args.command c.in-Gen.settings (g.S.Source.left c.args.input.now) c.run_gen.result c.in-Gen.is

pub returns-in-Gen-clause-samples_kept : goal.returns-in-Gen-clause-samples_kept
returns-in-Gen-clause-samples_kept g c = gen_samples c.args.command c.in-Gen.settings (g.S.Source.left c.args.input.now) c.run_gen.result c.in-Gen.is
