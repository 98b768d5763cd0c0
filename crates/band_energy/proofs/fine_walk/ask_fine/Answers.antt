use Rattle.std.proofs.Common.{◌<◌, ◌^◌, slice_index, arith}
use Rattle.std.proofs.lemmas.Nat.{pow_pos}
use Rattle.celt_base.proofs.WalkTables.{first_entry, next_entry, next_band, last_band}
use Rattle.band_energy.specs.EnergyScripts.{fine_at}
use Rattle.celt_base.proofs.WalkEntries.{at_start, blank_kept, entry_at}
use Rattle.band_energy.proofs.fine_walk.ask_fine.Goals as goal

pub loop-band-init : goal.loop-band-init
loop-band-init g c = record {
  at = at_start 0 c.args.kind.channels c.args.kind.end c.args.kind.two_channels c.args.kind.ended;
  sizes = blank_kept (λ b v. v < 2 ^ slice_index c.args.bits.now b) 0 (λ b. pow_pos (slice_index c.args.bits.now b));
  count = omega arith;
}

pub loop-channel-init : goal.loop-channel-init
loop-channel-init g c = record {
  at = first_entry c.loop-band.invariant.at c.loop-band-test.true;
  sizes = c.loop-band.invariant.sizes;
  count = let n = c.loop-band.invariant.count in omega (arith, n);
}

pub loop-channel-preserved : goal.loop-channel-preserved
unfolding fine_at
loop-channel-preserved g c =
    let at = c.loop-channel.invariant.at in record {
      at = next_entry c.ask_bits.result at c.loop-channel-test.true c.ask_bits.ensures.walked;
      sizes = entry_at (λ b v. v < 2 ^ slice_index c.args.bits.now b) c.ask_bits.result at c.loop-channel-test.true c.ask_bits.ensures.size c.loop-channel.invariant.sizes;
      count = let n = c.loop-channel.invariant.count in let m = c.ask_bits.ensures.count in omega (arith, n, m);
    }

pub loop-band-preserved : goal.loop-band-preserved
loop-band-preserved g c = record {
  at = next_band c.loop-channel.invariant.at c.loop-channel-test.false;
  sizes = c.loop-channel.invariant.sizes;
  count = let n = c.loop-channel.invariant.count in let all = c.loop-channel.auto.channel-end in let two = c.args.kind.two_channels in omega (arith, n, all, two);
}

pub returns-clause-walked : goal.returns-clause-walked
returns-clause-walked g c = last_band c.loop-band.invariant.at c.loop-band-test.false
