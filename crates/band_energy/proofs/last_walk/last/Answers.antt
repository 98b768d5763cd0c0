use Rattle.std.proofs.Common.{◌-◌, ap, ◌∙◌, arith}
use Rattle.celt_base.proofs.BandEnds.{end_most}
use Rattle.band_energy.proofs.LastRounds.{both_rounds, rounds_walked}
use Rattle.band_energy.proofs.last_walk.last.Goals as goal

pub ask_round-first-requires : goal.ask_round-first-requires
ask_round-first-requires g c =
    let both = both_rounds c.args.a.now c.args.kind.end in
    let most = end_most c.args.kind in
    let few = c.requires.few in
    record { few = omega (arith, both, most, few) }

pub ask_round-second-requires : goal.ask_round-second-requires
ask_round-second-requires g c =
    let both = both_rounds c.args.a.now c.args.kind.end in
    let most = end_most c.args.kind in
    let few = c.requires.few in
    let first = c.ask_round-first.ensures.count in
    record { few = omega (arith, both, most, few, first) }

pub returns-clause-walked : goal.returns-clause-walked
returns-clause-walked g c =
    rounds_walked c.args.kind c.args.a.now c.args.budget c.saturating_sub-left.result c.ask_round-first.new.left c.ask_round-first.result c.ask_round-second.result
    c.row_of_rounds.result c.row_of_rounds-2.result c.args.kind.two_channels
    (c.saturating_sub-left.ensures ∙ ap (λ n. c.args.budget - n) c.tell.ensures.value)
    c.ask_round-first.ensures.walked c.ask_round-first.ensures.left c.ask_round-second.ensures.walked c.row_of_rounds.ensures c.row_of_rounds-2.ensures

pub returns-clause-count : goal.returns-clause-count
returns-clause-count g c =
    let both = both_rounds c.args.a.now c.args.kind.end in
    let most = end_most c.args.kind in
    let first = c.ask_round-first.ensures.count in
    let second = c.ask_round-second.ensures.count in
    omega (arith, both, most, first, second)
