use Rattle.std.proofs.Common.{◌*◌, ◌≤◌, length, min, sym, subst}
use Rattle.std.specs.List.{slice_range}
use Rattle.std.specs.Io.KnownBytes.{Appends}
use Rattle.std.proofs.KnownBytes.{Appends-nil}
use Rattle.celt_session.proofs.Cutting.{none_behind, no_bytes}
use Rattle.celt_session.proofs.playing.write_cut.Goals as goal

pub returns-then-to-from-clause-bytes : goal.returns-then-to-from-clause-bytes
returns-then-to-from-clause-bytes g c =
    let xs = c.args.samples.now in
    let held = g.K.Sink.held c.args.output.now in
    let from = c.place_of-from.ensures in
    let to = c.place_of-to.ensures in
    let behind = c.if-to-from.true in
    let less : min (c.args.channels * c.args.span.to) (length xs) ≤ min (c.args.channels * c.args.span.from) (length xs) = subst (λ n. n ≤ min (c.args.channels * c.args.span.from) (length xs)) to (subst (λ n. c.place_of-to.result ≤ n) from behind) in
    subst (Appends held held) (sym (no_bytes (slice_range xs (c.args.channels * c.args.span.from) (c.args.channels * c.args.span.to)) (none_behind xs (c.args.channels * c.args.span.from) (c.args.channels * c.args.span.to) less))) (Appends-nil held)
