use Rattle.celt_cli.proofs.HearingLemmas.{gen_length}
use Rattle.celt_cli.proofs.hearing.hear_frame.Goals as goal

pub frame-requires-clause-out : goal.frame-requires-clause-out
frame-requires-clause-out g c = gen_length c.kind.result c.args.decoder.now.channels c.kind.ensures c.requires.channels
