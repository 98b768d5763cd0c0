use Rattle.std.proofs.Common.{refl}
use Rattle.celt_cli.proofs.GivenPairs.{no_noise}
use Rattle.celt_cli.proofs.generator.GenSamples.new.Goals as goal

pub returns : goal.returns
returns c = record { noise = no_noise c.args.seed; left = refl; right = refl }
