use Rattle.std.proofs.Common.{◌≡◌, ◌<◌, ◌≤◌, sym, ◌∙◌, arith}
use Rattle.celt_session.proofs.Batched.{lined_none, lined_more, lined_failed, lined_all}
use Rattle.celt_session.specs.FrameBatches.{frames_in}
use Rattle.celt_session.proofs.Gathering.{emptied_frames, frames_count}
use Rattle.celt_session.proofs.lines.write_page.Goals as goal

pub batches-init : goal.batches-init
batches-init g c = record {
  rooms = c.requires.rooms;
  few = omega arith;
  within = omega arith;
  count = omega arith;
  goes = λ heard is. lined_none c.args.first heard.packets (g.K.Sink.held c.args.output.now);
  kept = omega arith;
}

pub batches-preserved : goal.batches-preserved
batches-preserved g c =
    let i = c.batches.invariant in
    let f = c.fill-place.ensures in
    let frames = frames_in c.fill-place.new.self in
    let many = frames_count c.fill-place.new.self f.rooms in
    let lines = c.in-Ok.ensures.lines in
    let count = lines.0 in
    let so_far = i.count in
    let some : 0 < c.fill-place.new.self.count = let len = c.len.ensures in let test = c.if-len-eq0.false in omega (arith, len, test) in
    let ahead = f.ahead some in
    let kept : g.K.Sink.faults c.args.output.now ≤ g.K.Sink.faults c.batches.output = i.kept in
    let more : g.K.Sink.faults c.batches.output ≤ g.K.Sink.faults c.write_batch.new.output = c.in-Ok.ensures.cause in
    record {
      rooms = f.rooms;
      few = f.few;
      within = f.within;
      count = omega (arith, many, count, so_far, ahead);
      goes = λ heard is.
          lined_more c.args.first heard.packets c.batches.place c.fill-place.result c.batches.number c.in-Ok.next frames (g.K.Sink.held c.args.output.now) (g.K.Sink.held c.batches.output) (g.K.Sink.held c.write_batch.new.output)
          (i.goes heard is) (f.frames heard is) lines.0 lines.1;
      kept = omega (arith, kept, more);
    }

pub returns-in-Err-clause-lines : goal.returns-in-Err-clause-lines
returns-in-Err-clause-lines g c = λ heard is.
    lined_failed c.args.first heard.packets c.batches.place c.fill-place.result c.batches.number (frames_in c.fill-place.new.self) (g.K.Sink.held c.args.output.now) (g.K.Sink.held c.batches.output) (g.K.Sink.held c.write_batch.new.output)
    (c.batches.invariant.goes heard is) (c.fill-place.ensures.frames heard is) c.in-Err.ensures.lines

pub returns-then-len-eq0-clause-lines : goal.returns-then-len-eq0-clause-lines
returns-then-len-eq0-clause-lines g c = λ heard is.
    let none : c.fill-place.new.self.count ≡ 0 = sym c.len.ensures ∙ c.if-len-eq0.true in
    lined_all c.args.first heard.packets c.batches.place c.fill-place.result c.batches.number (frames_in c.fill-place.new.self) (g.K.Sink.held c.args.output.now) (g.K.Sink.held c.batches.output)
    (c.batches.invariant.goes heard is) (c.fill-place.ensures.frames heard is) (emptied_frames c.fill-place.new.self none) (c.fill-place.ensures.none none heard is)
