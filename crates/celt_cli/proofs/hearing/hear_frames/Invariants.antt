use Rattle.std.proofs.Common.{◌≡◌, ◌*◌, ◌≤◌}
use Rattle.celt_cli.specs.GenWindows.{GaveWindows}
use Rattle.celt_cli.proofs.HearingLemmas.{Hearing}
use Rattle.celt_cli.proofs.hearing.hear_frames.Given as goal

-- so many frames were heard
abbrev pub invariant-loop : goal.invariant-loop
invariant-loop g l = record {
  windows : GaveWindows l.fn.settings l.counter l.windows;
  channels : l.decoder.channels ≡ 2;
  few : l.heard.tally.count ≤ 1920 * l.counter;
  some : l.heard.silent ≤ l.counter;
  goes : g.M.FrameMaker.makes.Shows l.fn.maker g.M.FrameMaker.makes.function.start → Hearing g.M.FrameMaker.makes l.fn.settings l.counter l.maker l.decoder l.heard;
}
