use Rattle.std.proofs.Common.{◌+◌, ◌*◌, ◌<◌, nat_le, IfSome, None, ◌∙◌, arith}
use Rattle.celt_base.proofs.WalkTables.{first_entry, next_entry, next_band, last_band}
use Rattle.band_energy.specs.EnergyScripts.{bands_in}
use Rattle.celt_base.proofs.WalkEntries.{at_start, blank_kept, entry_at}
use Rattle.band_energy.proofs.LastRounds.{reached_is, entry_script, rest_more, count_entry, count_more, few_more}
use Rattle.band_energy.proofs.last_walk.ask_round.Goals as goal

pub loop-band-init : goal.loop-band-init
loop-band-init g c = record {
  at = at_start None c.args.kind.channels c.args.kind.end c.args.kind.two_channels c.args.kind.ended;
  sizes = blank_kept (λ b v. IfSome v (λ bit. bit < 2)) None (λ b. tt);
  rest = omega arith;
  count = omega arith;
}

pub loop-channel-init : goal.loop-channel-init
loop-channel-init g c = record {
  at = first_entry c.loop-band.invariant.at c.loop-band-test.true;
  sizes = c.loop-band.invariant.sizes;
  count = let n = c.loop-band.invariant.count in omega (arith, n);
}

pub loop-channel-preserved : goal.loop-channel-preserved
loop-channel-preserved g c =
    let kind = c.args.kind in
    let at = c.loop-channel.invariant.at in
    let reached = c.is_enough-reached.result in record {
      at =
          next_entry c.ask_last.result at c.loop-channel-test.true
          (entry_script kind.channels c.args.left.now c.loop-band.band c.loop-channel.channel c.args.a.now c.args.second reached
          (c.is_enough-reached.ensures
          ∙ reached_is kind.channels c.args.left.now c.loop-band.rest c.loop-band.band c.args.a.now c.args.second c.is_in_round-counted.result
          kind.some_channel c.is_in_round-counted.ensures c.loop-band.invariant.rest)
          c.ask_last.ensures.walked);
      sizes = entry_at (λ b v. IfSome v (λ bit. bit < 2)) c.ask_last.result at c.loop-channel-test.true c.ask_last.ensures.bit c.loop-channel.invariant.sizes;
      count = count_entry (g.C.Coder.calls.count c.args.coder.now + 2 * bands_in c.args.a.now c.args.second c.loop-band.band) _ _ c.loop-channel.channel reached c.loop-channel.invariant.count c.ask_last.ensures.count;
    }

pub loop-band-preserved : goal.loop-band-preserved
loop-band-preserved g c =
    let kind = c.args.kind in record {
      at = next_band c.loop-channel.invariant.at c.loop-channel-test.false;
      sizes = c.loop-channel.invariant.sizes;
      rest =
          rest_more kind.channels c.args.left.now c.loop-band.rest c.bits_after-rest.result c.loop-band.band c.args.a.now c.args.second
          c.is_in_round-counted.result c.is_in_round-counted.ensures c.loop-band.invariant.rest c.bits_after-rest.ensures;
      count =
          count_more (g.C.Coder.calls.count c.args.coder.now) _ c.loop-band.band c.loop-channel.channel kind.channels c.args.a.now c.args.second
          c.is_in_round-counted.result (nat_le kind.channels c.loop-band.rest) c.is_enough-reached.result c.is_in_round-counted.ensures c.is_enough-reached.ensures
          c.loop-channel.invariant.count c.loop-channel.auto.channel-end kind.two_channels;
    }

pub ask_last-requires : goal.ask_last-requires
ask_last-requires g c =
    let kind = c.args.kind in record {
      few =
          few_more (g.C.Coder.calls.count c.args.coder.now) _ c.loop-band.band c.loop-channel.channel kind.channels kind.end c.args.a.now c.args.second
          c.is_in_round-counted.result (nat_le kind.channels c.loop-band.rest) c.is_enough-reached.result c.is_in_round-counted.ensures c.is_enough-reached.ensures
          c.loop-channel.invariant.count c.loop-channel-test.true kind.two_channels c.loop-band-test.true c.requires.few;
    }

pub returns-clause-walked : goal.returns-clause-walked
returns-clause-walked g c = last_band c.loop-band.invariant.at c.loop-band-test.false
