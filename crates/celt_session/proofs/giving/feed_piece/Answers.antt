use Rattle.std.proofs.Common.{Ok, ◌+◌, ◌-◌, ◌≤◌, ◌≡◌, [], ◌++◌, length, take, drop, refl, ◌∙◌, ap, arith, length-drop, append_assoc, min}
use Rattle.std.proofs.lemmas.List.{take-append-drop}
use Rattle.celt_base.proofs.Causes.{rose_after}
use Rattle.opus_stream.specs.Readers.{bytes_fed, bytes_held, free_room}
use Rattle.celt_session.proofs.Going.{fed_start, fed_more, fed_done, fed_fault, fed_failed, settled_free, nothing_left}
use Rattle.celt_session.specs.PageWorks.{page_work}
use Rattle.celt_session.proofs.giving.feed_piece.Goals as goal

pub pieces-init : goal.pieces-init
pieces-init g c = record {
  taken = [];
  split = refl;
  goes = λ start bytes h. fed_start page_work start bytes c.args.reader.now c.args.work.now (g.K.Sink.held c.args.output.now) h;
  settled = c.requires.settled;
  few = c.requires.few;
  fed = refl;
  kept = omega arith;
}

pub feed-count-requires : goal.feed-count-requires
feed-count-requires g c =
    let fed : bytes_fed c.pieces.reader + length c.pieces.rest.now ≡ bytes_fed c.args.reader.now + length c.args.piece.now = c.pieces.invariant.fed in
    let limit : bytes_fed c.args.reader.now + length c.args.piece.now ≤ 1099511627776 = c.requires.limit in
    omega arith

pub returns-then-count-eq0-clause-feeds : goal.returns-then-count-eq0-clause-feeds
returns-then-count-eq0-clause-feeds g c = λ start bytes h.
    let i = c.pieces.invariant in
    let f = i.goes start bytes h in
    let e = c.feed-count.ensures in
    let free = settled_free c.pieces.reader (bytes ++ i.taken) _ f.fed.along.reads i.settled in
    let none = nothing_left c.pieces.reader c.pieces.rest.now c.feed-count.result e.count c.if-count-eq0.true free in
    fed_done page_work start bytes i.taken c.pieces.rest.now c.args.piece.now (take c.feed-count.result c.pieces.rest.now) c.pieces.reader c.feed-count.new.self c.pieces.work
    (g.K.Sink.held c.args.output.now) (g.K.Sink.held c.pieces.output) f i.split none (ap (λ n. take n c.pieces.rest.now) c.if-count-eq0.true) e.longer

pub returns-then-count-eq0-clause-settled : goal.returns-then-count-eq0-clause-settled
returns-then-count-eq0-clause-settled g c = λ h. c.feed-count.ensures.settled c.if-count-eq0.true ∙ c.pieces.invariant.settled

pub returns-then-count-eq0-clause-few : goal.returns-then-count-eq0-clause-few
returns-then-count-eq0-clause-few g c = λ h.
    let e = c.feed-count.ensures in
    let few : page_work.count c.pieces.work + bytes_held c.pieces.reader ≤ bytes_fed c.pieces.reader = c.pieces.invariant.few in
    let held : bytes_held c.feed-count.new.self ≡ bytes_held c.pieces.reader + c.feed-count.result = e.held in
    let fed : bytes_fed c.feed-count.new.self ≡ bytes_fed c.pieces.reader + c.feed-count.result = e.fed in
    omega arith

pub returns-then-count-eq0-clause-fed : goal.returns-then-count-eq0-clause-fed
returns-then-count-eq0-clause-fed g c =
    let fed : bytes_fed c.pieces.reader + length c.pieces.rest.now ≡ bytes_fed c.args.reader.now + length c.args.piece.now = c.pieces.invariant.fed in
    let now : bytes_fed c.feed-count.new.self ≡ bytes_fed c.pieces.reader + c.feed-count.result = c.feed-count.ensures.fed in
    let zero : c.feed-count.result ≡ 0 = c.if-count-eq0.true in
    omega arith

pub returns-then-count-eq0-clause-cause : goal.returns-then-count-eq0-clause-cause
returns-then-count-eq0-clause-cause g c = c.pieces.invariant.kept

pub give_pages-requires-clause-few : goal.give_pages-requires-clause-few
give_pages-requires-clause-few g c =
    let i = c.pieces.invariant in
    let few : page_work.count c.pieces.work + bytes_held c.pieces.reader ≤ bytes_fed c.pieces.reader = i.few in
    let fed : bytes_fed c.pieces.reader + length c.pieces.rest.now ≡ bytes_fed c.args.reader.now + length c.args.piece.now = i.fed in
    let held : bytes_held c.feed-count.new.self ≡ bytes_held c.pieces.reader + c.feed-count.result = c.feed-count.ensures.held in
    let limit : bytes_fed c.args.reader.now + length c.args.piece.now ≤ 1099511627776 = c.requires.limit in
    let count : c.feed-count.result ≡ min (length c.pieces.rest.now) (free_room c.pieces.reader) = c.feed-count.ensures.count in
    omega arith

pub pieces-preserved : goal.pieces-preserved
pieces-preserved g c =
    let i = c.pieces.invariant in
    let n = c.feed-count.result in
    let e = c.feed-count.ensures in
    let a = c.in-Ok-None.ensures in
    let part = take n c.pieces.rest.now in
    let back : c.split_at.result.1.now ≡ drop n c.pieces.rest.now = c.split_at.ensures.back in
    let len : length c.split_at.result.1.now ≡ length c.pieces.rest.now - n = ap length back ∙ length-drop n c.pieces.rest.now in
    let few : page_work.count c.pieces.work + bytes_held c.pieces.reader ≤ bytes_fed c.pieces.reader = i.few in
    let fed : bytes_fed c.pieces.reader + length c.pieces.rest.now ≡ bytes_fed c.args.reader.now + length c.args.piece.now = i.fed in
    let held : bytes_held c.feed-count.new.self ≡ bytes_held c.pieces.reader + n = e.held in
    let feeds : bytes_fed c.feed-count.new.self ≡ bytes_fed c.pieces.reader + n = e.fed in
    let gives : bytes_fed c.give_pages.new.reader ≡ bytes_fed c.feed-count.new.self = a.fed in
    let less : page_work.count c.give_pages.new.work + bytes_held c.give_pages.new.reader ≤ page_work.count c.pieces.work + bytes_held c.feed-count.new.self = a.few in
    let count : n ≡ min (length c.pieces.rest.now) (free_room c.pieces.reader) = e.count in
    let kept : g.K.Sink.faults c.args.output.now ≤ g.K.Sink.faults c.pieces.output = i.kept in
    let more : g.K.Sink.faults c.pieces.output ≤ g.K.Sink.faults c.give_pages.new.output = a.cause in
    record {
      taken = i.taken ++ part;
      split = append_assoc i.taken part c.split_at.result.1.now ∙ ap (λ l. i.taken ++ (part ++ l)) back ∙ ap (λ l. i.taken ++ l) (take-append-drop n c.pieces.rest.now) ∙ i.split;
      goes = λ start bytes h. fed_more page_work start bytes i.taken part c.pieces.reader c.feed-count.new.self c.give_pages.new.reader c.pieces.work c.give_pages.new.work
          (g.K.Sink.held c.args.output.now) (g.K.Sink.held c.pieces.output) (g.K.Sink.held c.give_pages.new.output) c.in-Ok-None.field-0 (i.goes start bytes h) c.in-Ok-None.field-0-is e.longer a.gives;
      settled = a.settled (ap Ok c.in-Ok-None.field-0-is);
      few = omega arith;
      fed = omega arith;
      kept = omega arith;
    }

pub returns-in-Ok-Some-clause-feeds : goal.returns-in-Ok-Some-clause-feeds
returns-in-Ok-Some-clause-feeds g c = λ start bytes h.
    let i = c.pieces.invariant in
    let n = c.feed-count.result in
    fed_fault page_work start bytes i.taken (take n c.pieces.rest.now) (drop n c.pieces.rest.now) c.args.piece.now c.pieces.reader c.feed-count.new.self c.give_pages.new.reader c.pieces.work c.give_pages.new.work
    (g.K.Sink.held c.args.output.now) (g.K.Sink.held c.pieces.output) (g.K.Sink.held c.give_pages.new.output) c.in-Ok-Some.field-0 c.in-Ok-Some.fault (i.goes start bytes h) c.in-Ok-Some.field-0-is
    (ap (λ l. i.taken ++ l) (take-append-drop n c.pieces.rest.now) ∙ i.split) c.feed-count.ensures.longer c.in-Ok-Some.ensures.gives

pub returns-in-Ok-Some-clause-fed : goal.returns-in-Ok-Some-clause-fed
returns-in-Ok-Some-clause-fed g c =
    let fed : bytes_fed c.pieces.reader + length c.pieces.rest.now ≡ bytes_fed c.args.reader.now + length c.args.piece.now = c.pieces.invariant.fed in
    let feeds : bytes_fed c.feed-count.new.self ≡ bytes_fed c.pieces.reader + c.feed-count.result = c.feed-count.ensures.fed in
    let gives : bytes_fed c.give_pages.new.reader ≡ bytes_fed c.feed-count.new.self = c.in-Ok-Some.ensures.fed in
    let count : c.feed-count.result ≡ min (length c.pieces.rest.now) (free_room c.pieces.reader) = c.feed-count.ensures.count in
    omega arith

pub returns-in-Ok-Some-clause-cause : goal.returns-in-Ok-Some-clause-cause
returns-in-Ok-Some-clause-cause g c =
    let kept : g.K.Sink.faults c.args.output.now ≤ g.K.Sink.faults c.pieces.output = c.pieces.invariant.kept in
    let more : g.K.Sink.faults c.pieces.output ≤ g.K.Sink.faults c.give_pages.new.output = c.in-Ok-Some.ensures.cause in
    omega arith

pub returns-in-Err-clause-feeds : goal.returns-in-Err-clause-feeds
returns-in-Err-clause-feeds g c = λ start bytes h.
    let i = c.pieces.invariant in
    let n = c.feed-count.result in
    fed_failed page_work start bytes i.taken (take n c.pieces.rest.now) (drop n c.pieces.rest.now) c.args.piece.now c.pieces.reader c.feed-count.new.self c.give_pages.new.reader c.pieces.work c.give_pages.new.work
    (g.K.Sink.held c.args.output.now) (g.K.Sink.held c.pieces.output) (g.K.Sink.held c.give_pages.new.output) c.in-Err.field-0 (i.goes start bytes h)
    (ap (λ l. i.taken ++ l) (take-append-drop n c.pieces.rest.now) ∙ i.split) c.feed-count.ensures.longer c.in-Err.ensures.gives

pub returns-in-Err-clause-fed : goal.returns-in-Err-clause-fed
returns-in-Err-clause-fed g c =
    let fed : bytes_fed c.pieces.reader + length c.pieces.rest.now ≡ bytes_fed c.args.reader.now + length c.args.piece.now = c.pieces.invariant.fed in
    let feeds : bytes_fed c.feed-count.new.self ≡ bytes_fed c.pieces.reader + c.feed-count.result = c.feed-count.ensures.fed in
    let gives : bytes_fed c.give_pages.new.reader ≡ bytes_fed c.feed-count.new.self = c.in-Err.ensures.fed in
    let count : c.feed-count.result ≡ min (length c.pieces.rest.now) (free_room c.pieces.reader) = c.feed-count.ensures.count in
    omega arith

pub returns-in-Err-clause-cause : goal.returns-in-Err-clause-cause
returns-in-Err-clause-cause g c =
    rose_after (g.K.Sink.faults c.args.output.now) (g.K.Sink.faults c.pieces.output) (g.K.Sink.faults c.give_pages.new.output) c.pieces.invariant.kept c.in-Err.ensures.cause
