use Rattle.std.proofs.Common.{◌-◌, ◌≡◌, ◌+◌, ◌≤◌, ℕ, List}
use Rattle.std.specs.List.{concat}
use Rattle.celt_session.specs.FrameFunctions.{frames_from}
use Rattle.celt_session.specs.Packers.{HasRooms, Packs, AreLong, WritesFull}
use Rattle.celt_session.proofs.packet_writer.add_frames.Given as goal

abbrev pub invariant-loop-made : goal.invariant-loop-made
invariant-loop-made g l = record {
  made_few : l.made ≤ l.count;
  rooms : HasRooms l.packer;
  few : l.packer.count ≤ l.plan.group;
  some : 1 ≤ l.made → 1 ≤ l.packer.count;
  sum : l.packer.packets + l.packer.count ≤ l.fn.packer.packets + l.fn.packer.count + l.made;
  packed : (frame : ℕ → List ℕ) (done : ℕ) → AreLong l.plan frame → Packs l.plan frame done l.fn.packer → l.frames ≡ concat (frames_from frame done l.count)
      → WritesFull l.plan frame (done + l.made) l.fn.packer.packets l.packer (g.K.Sink.held l.fn.output) (g.K.Sink.held l.output);
  kept : g.K.Sink.faults l.fn.output ≤ g.K.Sink.faults l.output;
}

abbrev pub decreases-loop-made : goal.decreases-loop-made
decreases-loop-made g l = l.count - l.made
