use Rattle.std.proofs.Common.{sym, subst}
use Rattle.frame_symbols.proofs.FrameSteps.{sound_walked, ending_holds}
use Rattle.frame_symbols.specs.Openings.{IsPostFilter}
use Rattle.frame_symbols.specs.declared.fields.Opening.{Opening}
use Rattle.frame_symbols.proofs.frame.walk_sound.Goals as goal

pub returns-clause-walked : goal.returns-clause-walked
returns-clause-walked g c =
    let coarse = c.coarse.ensures.walked in
    let ending = c.walk_ending.ensures.walked in
    let o = c.ask_opening-opening.result in
    let s = c.ask_shaping-shaping.result in
    let a = c.ask_amounts-amounts.result in
    record {
      sound = ending.sound coarse.rows;
      walked =
          sound_walked c.args.kind c.args.len o coarse.rows s a (ending.sound coarse.rows)
          c.ask_opening-opening.ensures.walked coarse.walked c.ask_shaping-shaping.ensures.walked c.ask_amounts-amounts.ensures.walked (ending.walked coarse.rows);
      holds = λ silent.
          ending_holds c.args.kind c.walk_ending.new.out o s a _ coarse.rows (ending.sound coarse.rows) (ending.holds coarse.rows) (ending.rows_are coarse.rows) coarse.holds
          c.coarse.ensures.sizes c.ask_shaping-shaping.ensures.transient c.ask_amounts-amounts.ensures.valid silent;
    }

pub returns-clause-post_filter : goal.returns-clause-post_filter
returns-clause-post_filter g c = subst (λ (o : Opening). IsPostFilter o.post_filter) (sym c.walk_ending.ensures.opening) c.ask_opening-opening.ensures.post_filter
