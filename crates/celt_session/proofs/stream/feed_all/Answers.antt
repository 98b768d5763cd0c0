use Rattle.std.proofs.Common.{◌≡◌, ◌+◌, ◌≤◌, [], ◌++◌, length, take, sym, ◌∙◌, ap, subst, arith, length-append}
use Rattle.std.specs.Io.KnownBytes.{Consumes}
use Rattle.std.proofs.lemmas.List.{take_all}
use Rattle.std.proofs.KnownBytes.{Consumes-nil, Consumes-trans}
use Rattle.celt_session.specs.Sessions.{taken_by}
use Rattle.celt_session.specs.Outcomes.{meaning, wanted, Answers, Writes}
use Rattle.celt_session.proofs.Starting.{going}
use Rattle.celt_session.proofs.Finishing.{start_nothing, fault_answers, fault_writes, long_answers, long_writes, failed_writes, added_twice, read_len, known_end, wanted_end, answers_end, writes_end}
use Rattle.celt_session.specs.PageWorks.{page_work}
use Rattle.celt_session.proofs.stream.feed_all.Goals as goal

pub pieces-init : goal.pieces-init
pieces-init g c =
    let none : taken_by c.args.session.now ≡ 0 = c.requires.taken in
    record {
      taken = [];
      consumed = Consumes-nil (g.S.Source.left c.args.input.now);
      goes = λ start stands. (stands, start_nothing page_work.function start (g.K.Sink.held c.args.output.now));
      going = c.requires.going;
      limit = omega arith;
      fed = omega arith;
      room = c.requires.room;
      reads = omega arith;
      kept = omega arith;
    }

pub returns-then-count-eq0-clause-status : goal.returns-then-count-eq0-clause-status
returns-then-count-eq0-clause-status g c = λ start stands.
    let w = page_work.function in
    let i = c.pieces.invariant in
    let s = (i.goes start stands).0 in
    let f = going page_work start c.pieces.session i.taken i.going s in
    let b = c.in-Ok.ensures.bytes in
    let few : length i.taken + c.pieces.left ≡ c.args.limit = i.limit in
    known_end (g.S.Source.left c.args.input.now) (g.S.Source.left c.pieces.input) (g.S.Source.left c.read.new.self) i.taken (take c.in-Ok.count c.read.new.buf)
    (λ xs. Answers (wanted (meaning w start) c.args.limit xs) c.status_at_end.result) i.consumed b.0 (ap (λ n. take n c.read.new.buf) c.if-count-eq0.true) (b.1 c.if-count-eq0.true (let r = i.room in let l = c.read.auto.buf in omega arith))
    (answers_end (wanted (meaning w start) c.args.limit i.taken) c.end.result c.status_at_end.result (wanted_end w start c.args.limit i.taken c.end.result (omega arith) f.sound (c.end.ensures start i.taken s)) c.status_at_end.ensures)

pub returns-then-count-eq0-clause-output : goal.returns-then-count-eq0-clause-output
returns-then-count-eq0-clause-output g c = λ start stands.
    let w = page_work.function in
    let i = c.pieces.invariant in
    let b = c.in-Ok.ensures.bytes in
    known_end (g.S.Source.left c.args.input.now) (g.S.Source.left c.pieces.input) (g.S.Source.left c.read.new.self) i.taken (take c.in-Ok.count c.read.new.buf)
    (λ xs. Writes (meaning w start) c.args.limit xs (g.S.Source.left c.read.new.self) (g.K.Sink.held c.args.output.now) (g.K.Sink.held c.pieces.output) c.status_at_end.result)
    i.consumed b.0 (ap (λ n. take n c.read.new.buf) c.if-count-eq0.true) (b.1 c.if-count-eq0.true (let r = i.room in let l = c.read.auto.buf in omega arith))
    (writes_end w start c.args.limit i.taken (g.S.Source.left c.read.new.self) (g.K.Sink.held c.args.output.now) (g.K.Sink.held c.pieces.output) c.end.result c.status_at_end.result (i.goes start stands).1 c.status_at_end.ensures)

pub returns-in-Fault-clause-status : goal.returns-in-Fault-clause-status
returns-in-Fault-clause-status g c = λ start stands.
    let w = page_work.function in
    let i = c.pieces.invariant in
    let p = c.within.ensures ∙ ap (take c.pieces.left) c.split_at.ensures.front in
    let a = c.in-Fault.ensures.adds start i.taken (i.goes start stands).0 in
    fault_answers w start c.args.limit c.pieces.left (g.S.Source.left c.args.input.now) (g.S.Source.left c.pieces.input) (g.S.Source.left c.read.new.self) i.taken (take c.in-Ok.count c.read.new.buf) c.within.result.now
    (g.K.Sink.held c.args.output.now) (g.K.Sink.held c.pieces.output) (g.K.Sink.held c.feed.new.output) i.consumed c.in-Ok.ensures.bytes.0 p i.limit c.in-Fault.fault a.1

pub returns-in-Fault-clause-output : goal.returns-in-Fault-clause-output
returns-in-Fault-clause-output g c = λ start stands.
    let w = page_work.function in
    let i = c.pieces.invariant in
    let p = c.within.ensures ∙ ap (take c.pieces.left) c.split_at.ensures.front in
    let s = i.goes start stands in
    let a = c.in-Fault.ensures.adds start i.taken s.0 in
    fault_writes w start c.args.limit c.pieces.left (g.S.Source.left c.args.input.now) (g.S.Source.left c.pieces.input) (g.S.Source.left c.read.new.self) i.taken (take c.in-Ok.count c.read.new.buf) c.within.result.now
    (g.K.Sink.held c.args.output.now) (g.K.Sink.held c.pieces.output) (g.K.Sink.held c.feed.new.output) i.consumed c.in-Ok.ensures.bytes.0 p i.limit c.in-Fault.fault a.1 s.1 a.2

pub returns-in-WriteFault-clause-output : goal.returns-in-WriteFault-clause-output
returns-in-WriteFault-clause-output g c = λ start stands.
    let w = page_work.function in
    let i = c.pieces.invariant in
    let p = c.within.ensures ∙ ap (take c.pieces.left) c.split_at.ensures.front in
    let s = i.goes start stands in
    failed_writes w start c.args.limit c.pieces.left (g.S.Source.left c.args.input.now) (g.S.Source.left c.pieces.input) (g.S.Source.left c.read.new.self) i.taken (take c.in-Ok.count c.read.new.buf) c.within.result.now
    (g.K.Sink.held c.args.output.now) (g.K.Sink.held c.pieces.output) (g.K.Sink.held c.feed.new.output) i.consumed c.in-Ok.ensures.bytes.0 p i.limit s.1 (c.in-WriteFault.ensures.adds start i.taken s.0)

pub returns-then-count-left-clause-status : goal.returns-then-count-left-clause-status
returns-then-count-left-clause-status g c = λ start stands.
    let w = page_work.function in
    let i = c.pieces.invariant in
    let p = c.within.ensures ∙ ap (take c.pieces.left) c.split_at.ensures.front in
    let a = c.in-More.ensures.adds start i.taken (i.goes start stands).0 in
    let bound : c.in-Ok.count ≤ length c.read.new.buf = c.in-Ok.ensures.bound.0 in
    let len = read_len c.in-Ok.count c.read.new.buf bound in
    let more = c.if-count-left.true in
    long_answers w start c.args.limit c.pieces.left (g.S.Source.left c.args.input.now) (g.S.Source.left c.pieces.input) (g.S.Source.left c.read.new.self) i.taken (take c.in-Ok.count c.read.new.buf) c.within.result.now
    (g.K.Sink.held c.args.output.now) (g.K.Sink.held c.pieces.output) (g.K.Sink.held c.feed.new.output) i.consumed c.in-Ok.ensures.bytes.0 p i.limit (omega arith) a.1

pub returns-then-count-left-clause-output : goal.returns-then-count-left-clause-output
returns-then-count-left-clause-output g c = λ start stands.
    let w = page_work.function in
    let i = c.pieces.invariant in
    let p = c.within.ensures ∙ ap (take c.pieces.left) c.split_at.ensures.front in
    let s = i.goes start stands in
    let a = c.in-More.ensures.adds start i.taken s.0 in
    let bound : c.in-Ok.count ≤ length c.read.new.buf = c.in-Ok.ensures.bound.0 in
    let len = read_len c.in-Ok.count c.read.new.buf bound in
    let more = c.if-count-left.true in
    long_writes w start c.args.limit c.pieces.left (g.S.Source.left c.args.input.now) (g.S.Source.left c.pieces.input) (g.S.Source.left c.read.new.self) i.taken (take c.in-Ok.count c.read.new.buf) c.within.result.now
    (g.K.Sink.held c.args.output.now) (g.K.Sink.held c.pieces.output) (g.K.Sink.held c.feed.new.output) i.consumed c.in-Ok.ensures.bytes.0 p i.limit (omega arith) s.1 a.2

pub pieces-preserved : goal.pieces-preserved
pieces-preserved g c =
    let w = page_work.function in
    let i = c.pieces.invariant in
    let left = g.S.Source.left in
    let read = take c.in-Ok.count c.read.new.buf in
    let bound : c.in-Ok.count ≤ length c.read.new.buf = c.in-Ok.ensures.bound.0 in
    let len : length read ≡ c.in-Ok.count = read_len c.in-Ok.count c.read.new.buf bound in
    let within : c.in-Ok.count ≤ c.pieces.left = let f = c.if-count-left.false in omega arith in
    let piece : c.within.result.now ≡ read = c.within.ensures ∙ ap (take c.pieces.left) c.split_at.ensures.front ∙ take_all c.pieces.left read (omega arith) in
    let many : length c.within.result.now ≡ c.in-Ok.count = ap length piece ∙ len in
    let joined = length-append i.taken c.within.result.now in
    let limit : length i.taken + c.pieces.left ≡ c.args.limit = i.limit in
    let fed : taken_by c.pieces.session + c.pieces.left ≤ c.args.limit = i.fed in
    let more : taken_by c.feed.new.self ≤ taken_by c.pieces.session + length c.within.result.now = c.in-More.ensures.taken in
    let reads : g.S.Source.faults c.args.input.now ≤ g.S.Source.faults c.pieces.input = i.reads in
    let reads_more : g.S.Source.faults c.pieces.input ≤ g.S.Source.faults c.read.new.self = c.in-Ok.ensures.cause in
    let kept : g.K.Sink.faults c.args.output.now ≤ g.K.Sink.faults c.pieces.output = i.kept in
    let kept_more : g.K.Sink.faults c.pieces.output ≤ g.K.Sink.faults c.feed.new.output = c.in-More.ensures.cause in
    record {
      taken = i.taken ++ c.within.result.now;
      consumed = Consumes-trans (left c.args.input.now) (left c.pieces.input) (left c.read.new.self) i.taken c.within.result.now i.consumed
          (subst (Consumes (left c.pieces.input) (left c.read.new.self)) (sym piece) c.in-Ok.ensures.bytes.0);
      goes = λ start stands.
          let s = i.goes start stands in
          let a = c.in-More.ensures.adds start i.taken s.0 in
          (a.0, added_twice w start i.taken c.within.result.now (g.K.Sink.held c.args.output.now) (g.K.Sink.held c.pieces.output) (g.K.Sink.held c.feed.new.output) s.1 a.2);
      going = c.in-More.ensures.ended;
      limit = omega arith;
      fed = omega arith;
      room = let r = i.room in let l = c.read.auto.buf in omega arith;
      reads = omega arith;
      kept = omega arith;
    }
