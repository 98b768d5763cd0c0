use Rattle.std.proofs.Common.{rules, ◌++◌, ap, ◌∙◌}
use Rattle.celt_base.specs.Walks.{answered_in}
use Rattle.frame_symbols.specs.Recorders.{WalkedList, answered_of}
use Rattle.frame_symbols.proofs.RecorderSteps.{kept_after}
use Rattle.frame_symbols.proofs.recorder.walk_recorded.Goals as goal

pub returns-clause-walked : goal.returns-clause-walked
returns-clause-walked g c =
    let w = c.walk_frame.ensures.walked in
    let kept = kept_after w.walked.through in
    let name = kept.same_list in
    let lent = kept.same_coder in
    let r = c.walk_frame.new.coder in
    let whole : WalkedList g.C.Coder.calls g.H.Chooser.calls c.args.kind c.args.len r.list.now.items c.walk_frame.new.out c.args.coder.now c.args.chooser.now r.inner.now c.walk_frame.new.chooser =
    record {
      value = w.value;
      walked = record { events = w.walked.events; adds = w.walked.adds; through = kept.through; pace = w.walked.pace; count = w.walked.count };
      list_is = kept.list_is ∙ ap (λ l. answered_of l ++ answered_in w.walked.events) c.clear.ensures.items;
      holds = w.holds;
    } in
    search (rules, name, lent, whole)

pub returns-clause-room : goal.returns-clause-room
returns-clause-room g c =
    let name = (kept_after c.walk_frame.ensures.walked.walked.through).same_list in
    let room = c.walk_frame.new.coder.room in
    search (rules, name, room)
