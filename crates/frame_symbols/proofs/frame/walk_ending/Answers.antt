use Rattle.std.proofs.Common.{◌∙◌, ◌*◌, ◌-◌, sym, refl, subst, arith}
use Rattle.std.specs.Int.{w32}
use Rattle.std.proofs.lemmas.Int.{to_z_pos}
use Rattle.band_energy.specs.EnergyRows.{FitsFineBits}
use Rattle.celt_base.specs.WalkTables.{HoldsRows}
use Rattle.frame_symbols.proofs.FrameSteps.{ending_walked}
use Rattle.frame_symbols.proofs.frame.walk_ending.Goals as goal

pub returns-clause-walked : goal.returns-clause-walked
returns-clause-walked g c =
    let fine = c.fine.ensures.walked in
    let bands = c.walk_bands.ensures.walked in
    let last = c.last.ensures.walked in
    record {
      sound = λ rows. record {
        opening = c.args.out.now.opening;
        coarse = rows;
        shaping = c.args.settled.now.shaping;
        amounts = c.args.settled.now.amounts;
        fine = fine.rows;
        plans = bands.plans;
        collapse = c.ask_collapse-out.result;
        last = last.rows;
      };
      walked = λ rows.
          ending_walked c.args.kind c.args.len c.args.out.now.opening rows c.args.settled.now.shaping c.args.settled.now.amounts fine.rows bands.plans c.ask_collapse-out.result last.rows _
          (to_z_pos w32 (64 * c.args.len - c.args.settled.now.amounts.reserve) (let short = c.requires.len in omega (arith, short)))
          fine.walked bands.walked c.ask_collapse-out.ensures.walked last.walked;
      holds = λ rows. record {
        opening = refl;
        coarse_kept = c.last.ensures.coarse ∙ c.fine.ensures.coarse;
        fine = subst (λ e. HoldsRows 0 e fine.rows) (sym c.last.ensures.fine) fine.holds;
        fine_fits = subst (FitsFineBits c.args.settled.now.amounts.allocation.fine) (sym c.last.ensures.fine) c.fine.ensures.sizes;
        last = last.holds;
        last_bits = c.last.ensures.bits;
        allocation = refl;
        bands = bands.holds;
        trees = c.walk_bands.ensures.trees;
        collapse = refl;
        shaping_is = refl;
        amounts_is = refl;
        opening_is = refl;
      };
      rows_are = λ rows. refl;
    }
