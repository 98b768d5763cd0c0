use Rattle.celt_session.specs.EncoderPairs.{pair_work}
use Rattle.std.proofs.Common.{◌≡◌, ℕ, ◌+◌, ◌≤◌, ◌<◌, List, [], length, false}
use Rattle.std.specs.Io.KnownBytes.{Appends, Consumes}
use Rattle.celt_session.specs.FrameSessions.{given, StandsFor, Goes}
use Rattle.celt_session.proofs.streaming.encode_all.Given as goal

abbrev pub invariant-pieces : goal.invariant-pieces
invariant-pieces g l = record {
  taken : List ℕ;
  consumed : Consumes (g.S.Source.left l.fn.input) (g.S.Source.left l.input) taken;
  stands : StandsFor pair_work l.fn.session [] → StandsFor pair_work l.session taken × Appends (g.K.Sink.held l.fn.output) (g.K.Sink.held l.output) (given pair_work.function l.session.settings taken);
  settings : l.session.settings ≡ l.fn.session.settings;
  going : l.session.is_ended ≡ false;
  goes : Goes pair_work l.session;
  limit : length taken + l.left ≡ l.fn.limit;
  fed : l.session.fed + l.left ≡ l.fn.limit;
  room : 0 < length l.buf;
  reads : g.S.Source.faults l.fn.input ≤ g.S.Source.faults l.input;
  kept : g.K.Sink.faults l.fn.output ≤ g.K.Sink.faults l.output;
}

abbrev pub decreases-pieces : goal.decreases-pieces
decreases-pieces g l = l.left
