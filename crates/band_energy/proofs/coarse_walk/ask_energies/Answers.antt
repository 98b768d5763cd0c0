use Rattle.std.proofs.Common.{◌≤◌, ◌^◌, unsigned_abs, w32, pos, arith}
use Rattle.std.proofs.lemmas.Int.{to_z-of_z, fits_signed_from_abs}
use Rattle.celt_base.proofs.WalkTables.{first_entry, next_entry, next_band, last_band}
use Rattle.celt_base.proofs.WalkEntries.{at_start, blank_kept, entry_at}
use Rattle.band_energy.proofs.coarse_walk.ask_energies.Goals as goal

pub loop-band-init : goal.loop-band-init
loop-band-init g c = record {
  at = at_start (pos 0) c.args.terms.kind.channels c.args.terms.kind.end c.args.terms.kind.two_channels c.args.terms.kind.ended;
  sizes = blank_kept (λ b v. unsigned_abs v ≤ 2 ^ 14) (pos 0) (λ b. omega arith);
  count = omega arith;
}

pub loop-channel-init : goal.loop-channel-init
loop-channel-init g c = record {
  at = first_entry c.loop-band.invariant.at c.loop-band-test.true;
  sizes = c.loop-band.invariant.sizes;
  count = let n = c.loop-band.invariant.count in omega (arith, n);
}

pub loop-channel-preserved : goal.loop-channel-preserved
loop-channel-preserved g c =
    let at = c.loop-channel.invariant.at in
    rw (to_z-of_z w32 c.ask_energy.result (fits_signed_from_abs w32 c.ask_energy.result (omega (arith, c.ask_energy.ensures.size)))) record {
      at = next_entry c.ask_energy.result at c.loop-channel-test.true c.ask_energy.ensures.walked;
      sizes = entry_at (λ b v. unsigned_abs v ≤ 2 ^ 14) c.ask_energy.result at c.loop-channel-test.true c.ask_energy.ensures.size c.loop-channel.invariant.sizes;
      count = let n = c.loop-channel.invariant.count in let m = c.ask_energy.ensures.count in omega (arith, n, m);
    }

pub loop-band-preserved : goal.loop-band-preserved
loop-band-preserved g c = record {
  at = next_band c.loop-channel.invariant.at c.loop-channel-test.false;
  sizes = c.loop-channel.invariant.sizes;
  count =
      let n = c.loop-channel.invariant.count in let all = c.loop-channel.auto.channel-end in let two = c.args.terms.kind.two_channels in omega (arith, n, all, two);
}

pub returns-clause-walked : goal.returns-clause-walked
returns-clause-walked g c = last_band c.loop-band.invariant.at c.loop-band-test.false
