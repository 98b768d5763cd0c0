use Rattle.celt_cli.proofs.program.run_gen.Goals as goal

pub returns-clause-line : goal.returns-clause-line
returns-clause-line g c = c.write_generated.ensures.line c.in-Ok.ensures
