use Rattle.frame_symbols.proofs.ChangeSteps.{flags_start, flags_next, flags_last}
use Rattle.frame_symbols.proofs.changes.ask_flags.Goals as goal

pub loop-band-init : goal.loop-band-init
loop-band-init g c = flags_start c.args.transient c.args.budget c.args.kind.end

pub loop-band-preserved : goal.loop-band-preserved
loop-band-preserved g c =
    flags_next c.ask_bit_within-turns.result c.turned-next.result c.weight_of-weight.result c.loop-band.invariant c.loop-band-test.true
    c.weight_of-weight.ensures.value c.turned-next.ensures c.ask_bit_within-turns.ensures.walked c.ask_bit_within-turns.ensures.count

pub returns-clause-walked : goal.returns-clause-walked
returns-clause-walked g c = flags_last c.loop-band.invariant c.loop-band-test.false
