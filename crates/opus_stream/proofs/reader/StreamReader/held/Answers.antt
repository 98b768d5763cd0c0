use Rattle.std.proofs.Common.{sym, ap, subst, arith}
use Rattle.opus_stream.specs.Acceptance.{size_of}
use Rattle.opus_stream.specs.Readers.{StandsFor}
use Rattle.opus_stream.specs.contracts.reader.StreamReader.{the_view}
use Rattle.opus_stream.proofs.Reading as reading
use Rattle.opus_stream.proofs.reader.StreamReader.held.Goals as goal

pub returns : goal.returns
returns c = λ bytes given s.
    let t = subst (λ r. StandsFor r bytes given) (sym c.self.view_is) s in
    let e = ap size_of (reading.given_is (the_view c.self.inside) bytes given t) in
    let f = t.holds.fed in
    let p = t.holds.progress.placed.bytes in
    omega arith
