use Rattle.std.proofs.Common.{take, refl, sym, subst, ap, arith}
use Rattle.opus_stream.specs.Readers.{StandsFor}
use Rattle.opus_stream.specs.contracts.reader.StreamReader.{the_view}
use Rattle.opus_stream.proofs.Reading as reading
use Rattle.opus_stream.proofs.reader.StreamReader.feed.Goals as goal

pub returns-clause-longer : goal.returns-clause-longer
returns-clause-longer c = λ bytes given s.
    let t = subst (λ r. StandsFor r bytes given) (sym c.self.view_is) s in
    let more = take c.feed-count.result c.args.piece.now in
    record {
      front = t.front;
      count = t.count;
      holds = reading.fed_holds (the_view c.self.inside) _ bytes more t.front t.holds (reading.taken_small c.feed-count.result c.args.piece.now (λ k. let f = c.type_inv.piece k in omega arith)) c.feed-count.ensures.held refl refl refl refl (reading.taken_count c.feed-count.result c.args.piece.now c.self.inside.fed (let e = c.feed-count.ensures.count in omega arith)) refl
          (λ s. (c.stays_settled-self-inside.ensures.settled s, ap (λ n. take n c.args.piece.now) (c.stays_settled-self-inside.ensures.none s)));
    }
