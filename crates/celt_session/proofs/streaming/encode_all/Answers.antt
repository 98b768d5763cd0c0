use Rattle.celt_session.specs.EncoderPairs.{pair_work}
use Rattle.std.proofs.Common.{◌≡◌, ◌+◌, ◌≤◌, [], ◌++◌, length, take, sym, ◌∙◌, ap, subst, refl, arith, length-append}
use Rattle.std.specs.Prelude.{IfSome}
use Rattle.std.specs.Io.KnownBytes.{Appends, Consumes}
use Rattle.std.proofs.lemmas.List.{take_all}
use Rattle.std.proofs.KnownBytes.{Consumes-nil, Consumes-trans}
use Rattle.celt_base.specs.Outside.{AppendsFront}
use Rattle.celt_base.specs.declared.status.Status.TheVariants as statuses
use Rattle.celt_session.specs.Encodings.{AreSettings, encoding_by, full, running}
use Rattle.celt_session.specs.FrameSessions.{given, running_more}
use Rattle.celt_session.specs.Outcomes.{wanted, Answers, WritesFront}
use Rattle.celt_session.proofs.Finishing.{known_end, read_len}
use Rattle.celt_session.proofs.FeedingSamples.{given_start}
use Rattle.celt_session.proofs.StreamedFile.{ended_answers, ended_writes, known_front, fault_answers, fault_writes, failed_writes, long_answers, long_writes, long_fails, given_twice}
use Rattle.celt_session.proofs.streaming.encode_all.Goals as goal

pub pieces-init : goal.pieces-init
pieces-init g c =
    let none = c.requires.fed in
    record {
      taken = [];
      consumed = Consumes-nil (g.S.Source.left c.args.input.now);
      stands = λ h. (h, given_start pair_work.function c.args.session.now.settings (g.K.Sink.held c.args.output.now));
      settings = refl;
      going = c.requires.going;
      goes = c.requires.goes;
      limit = omega arith;
      fed = omega arith;
      room = c.requires.room;
      reads = omega arith;
      kept = omega arith;
    }

pub returns-then-count-eq0-clause-status : goal.returns-then-count-eq0-clause-status
returns-then-count-eq0-clause-status g c = λ h.
    let w = pair_work in
    let i = c.pieces.invariant in
    let s = c.pieces.session.settings in
    let st = i.stands h in
    let b = c.in-Ok.ensures.bytes in
    let ok : AreSettings s = subst AreSettings (sym i.settings) c.requires.settings in
    let few : length i.taken ≤ c.args.limit = let l = i.limit in omega arith in
    let e = c.end_session.ensures.ends i.taken st.0 in
    known_end (g.S.Source.left c.args.input.now) (g.S.Source.left c.pieces.input) (g.S.Source.left c.read.new.self) i.taken (take c.in-Ok.count c.read.new.buf)
    (λ xs. Answers (wanted (encoding_by w.function c.args.session.now.settings) c.args.limit xs) c.status_at.result) i.consumed b.0 (ap (λ n. take n c.read.new.buf) c.if-count-eq0.true) (b.1 c.if-count-eq0.true (let r = i.room in let l = c.read.auto.buf in omega arith))
    (subst (λ x. Answers (wanted (encoding_by w.function x) c.args.limit i.taken) c.status_at.result) i.settings
    (subst (Answers (wanted (encoding_by w.function s) c.args.limit i.taken)) (sym c.status_at.ensures) (ended_answers w s ok c.args.limit i.taken _ _ c.end_session.result few e)))

pub returns-then-count-eq0-clause-output : goal.returns-then-count-eq0-clause-output
returns-then-count-eq0-clause-output g c = λ h.
    let w = pair_work in
    let i = c.pieces.invariant in
    let s = c.pieces.session.settings in
    let st = i.stands h in
    let b = c.in-Ok.ensures.bytes in
    let ok : AreSettings s = subst AreSettings (sym i.settings) c.requires.settings in
    let e = c.end_session.ensures.ends i.taken st.0 in
    let old = g.K.Sink.held c.args.output.now in
    let mid = g.K.Sink.held c.pieces.output in
    let new = g.K.Sink.held c.end_session.new.output in
    known_end (g.S.Source.left c.args.input.now) (g.S.Source.left c.pieces.input) (g.S.Source.left c.read.new.self) i.taken (take c.in-Ok.count c.read.new.buf)
    (λ xs. WritesFront (encoding_by w.function c.args.session.now.settings) c.args.limit xs old new c.status_at.result) i.consumed b.0 (ap (λ n. take n c.read.new.buf) c.if-count-eq0.true) (b.1 c.if-count-eq0.true (let r = i.room in let l = c.read.auto.buf in omega arith))
    (subst (λ x. WritesFront (encoding_by w.function x) c.args.limit i.taken old new c.status_at.result) i.settings
    (subst (WritesFront (encoding_by w.function s) c.args.limit i.taken old new) (sym c.status_at.ensures) (ended_writes w s ok c.args.limit i.taken old mid new c.end_session.result st.1 e)))

pub returns-in-Fault-clause-status : goal.returns-in-Fault-clause-status
returns-in-Fault-clause-status g c = λ h.
    let w = pair_work in
    let i = c.pieces.invariant in
    let s = c.pieces.session.settings in
    let left = g.S.Source.left in
    let st = i.stands h in
    let p = c.within.ensures ∙ ap (take c.pieces.left) c.split_at.ensures.front in
    let a = c.in-Fault.ensures.adds i.taken st.0 in
    let ok : AreSettings s = subst AreSettings (sym i.settings) c.requires.settings in
    subst (λ x. IfSome (left c.args.input.now) (λ xs. wanted (encoding_by w.function x) c.args.limit xs ≡ statuses.Refused c.in-Fault.fault)) i.settings
    (fault_answers w s ok c.args.limit c.pieces.left (left c.args.input.now) (left c.pieces.input) (left c.read.new.self) i.taken (take c.in-Ok.count c.read.new.buf) c.within.result.now
    (g.K.Sink.held c.args.output.now) (g.K.Sink.held c.pieces.output) (g.K.Sink.held c.feed_session.new.output) i.consumed c.in-Ok.ensures.bytes.0 p i.limit c.in-Fault.fault a.0)

pub returns-in-Fault-clause-output : goal.returns-in-Fault-clause-output
returns-in-Fault-clause-output g c = λ h.
    let w = pair_work in
    let i = c.pieces.invariant in
    let s = c.pieces.session.settings in
    let left = g.S.Source.left in
    let st = i.stands h in
    let p = c.within.ensures ∙ ap (take c.pieces.left) c.split_at.ensures.front in
    let a = c.in-Fault.ensures.adds i.taken st.0 in
    let ok : AreSettings s = subst AreSettings (sym i.settings) c.requires.settings in
    let old = g.K.Sink.held c.args.output.now in
    let new = g.K.Sink.held c.feed_session.new.output in
    subst (λ x. IfSome (left c.args.input.now) (λ xs. Appends old new (full w.function x xs))) i.settings
    (fault_writes w s ok c.args.limit c.pieces.left (left c.args.input.now) (left c.pieces.input) (left c.read.new.self) i.taken (take c.in-Ok.count c.read.new.buf) c.within.result.now
    old (g.K.Sink.held c.pieces.output) new i.consumed c.in-Ok.ensures.bytes.0 p i.limit c.in-Fault.fault a.0 st.1 a.1)

pub returns-in-WriteFault-clause-output : goal.returns-in-WriteFault-clause-output
returns-in-WriteFault-clause-output g c = λ h.
    let w = pair_work in
    let i = c.pieces.invariant in
    let s = c.pieces.session.settings in
    let left = g.S.Source.left in
    let st = i.stands h in
    let p = c.within.ensures ∙ ap (take c.pieces.left) c.split_at.ensures.front in
    let a = c.in-WriteFault.ensures.adds i.taken st.0 in
    let ok : AreSettings s = subst AreSettings (sym i.settings) c.requires.settings in
    let old = g.K.Sink.held c.args.output.now in
    let new = g.K.Sink.held c.feed_session.new.output in
    subst (λ x. IfSome (left c.args.input.now) (λ xs. AppendsFront old new (full w.function x xs))) i.settings
    (failed_writes w s ok c.args.limit c.pieces.left (left c.args.input.now) (left c.pieces.input) (left c.read.new.self) i.taken (take c.in-Ok.count c.read.new.buf) c.within.result.now
    old (g.K.Sink.held c.pieces.output) new i.consumed c.in-Ok.ensures.bytes.0 p i.limit st.1 a)

pub pieces-preserved : goal.pieces-preserved
pieces-preserved g c =
    let w = pair_work in
    let i = c.pieces.invariant in
    let left = g.S.Source.left in
    let s = c.pieces.session.settings in
    let e = c.in-More.ensures in
    let read = take c.in-Ok.count c.read.new.buf in
    let bound : c.in-Ok.count ≤ length c.read.new.buf = c.in-Ok.ensures.bound.0 in
    let len : length read ≡ c.in-Ok.count = read_len c.in-Ok.count c.read.new.buf bound in
    let within : c.in-Ok.count ≤ c.pieces.left = let f = c.if-count-left.false in omega arith in
    let piece : c.within.result.now ≡ read = c.within.ensures ∙ ap (take c.pieces.left) c.split_at.ensures.front ∙ take_all c.pieces.left read (omega arith) in
    let many : length c.within.result.now ≡ c.in-Ok.count = ap length piece ∙ len in
    let joined = length-append i.taken c.within.result.now in
    let limit : length i.taken + c.pieces.left ≡ c.args.limit = i.limit in
    let fed : c.pieces.session.fed + c.pieces.left ≡ c.args.limit = i.fed in
    let more = e.fed in
    let reads : g.S.Source.faults c.args.input.now ≤ g.S.Source.faults c.pieces.input = i.reads in
    let reads_more : g.S.Source.faults c.pieces.input ≤ g.S.Source.faults c.read.new.self = c.in-Ok.ensures.cause in
    let kept : g.K.Sink.faults c.args.output.now ≤ g.K.Sink.faults c.pieces.output = i.kept in
    let kept_more : g.K.Sink.faults c.pieces.output ≤ g.K.Sink.faults c.feed_session.new.output = e.cause in
    let ok : AreSettings s = subst AreSettings (sym i.settings) c.requires.settings in
    record {
      taken = i.taken ++ c.within.result.now;
      consumed = Consumes-trans (left c.args.input.now) (left c.pieces.input) (left c.read.new.self) i.taken c.within.result.now i.consumed
          (subst (Consumes (left c.pieces.input) (left c.read.new.self)) (sym piece) c.in-Ok.ensures.bytes.0);
      stands = λ h.
          let st = i.stands h in
          let a = e.adds i.taken st.0 in
          let old = g.K.Sink.held c.args.output.now in
          let new = g.K.Sink.held c.feed_session.new.output in
          (a.0, subst (λ x. Appends old new (given w.function x (i.taken ++ c.within.result.now))) (sym e.settings) (given_twice w s ok i.taken c.within.result.now old (g.K.Sink.held c.pieces.output) new st.1 a.2));
      settings = e.settings ∙ i.settings;
      going = e.ended;
      goes = e.goes e.ended;
      limit = omega arith;
      fed = omega arith;
      room = let r = i.room in let l = c.read.auto.buf in omega arith;
      reads = omega arith;
      kept = omega arith;
    }

pub returns-in_default-clause-output : goal.returns-in_default-clause-output
returns-in_default-clause-output g c = λ h.
    let w = pair_work in
    let i = c.pieces.invariant in
    let s = c.pieces.session.settings in
    let ok : AreSettings s = subst AreSettings (sym i.settings) c.requires.settings in
    let old = g.K.Sink.held c.args.output.now in
    let new = g.K.Sink.held c.pieces.output in
    subst (λ x. IfSome (g.S.Source.left c.args.input.now) (λ xs. AppendsFront old new (full w.function x xs))) i.settings
    (known_front w s ok (g.S.Source.left c.args.input.now) (g.S.Source.left c.pieces.input) i.taken old new i.consumed (i.stands h).1)

pub returns-in-Ok-settle_session-clause-status : goal.returns-in-Ok-settle_session-clause-status
returns-in-Ok-settle_session-clause-status g c = λ h.
    let w = pair_work in
    let i = c.pieces.invariant in
    let s = c.pieces.session.settings in
    let left = g.S.Source.left in
    let st = i.stands h in
    let p = c.within.ensures ∙ ap (take c.pieces.left) c.split_at.ensures.front in
    let a = c.in-More.ensures.adds i.taken st.0 in
    let ok : AreSettings s = subst AreSettings (sym i.settings) c.requires.settings in
    let bound : c.in-Ok.count ≤ length c.read.new.buf = c.in-Ok.ensures.bound.0 in
    let len = read_len c.in-Ok.count c.read.new.buf bound in
    let more = c.if-count-left.true in
    subst (λ x. IfSome (left c.args.input.now) (λ xs. wanted (encoding_by w.function x) c.args.limit xs ≡ statuses.InputTooLong)) i.settings
    (long_answers w s ok c.args.limit c.pieces.left (left c.args.input.now) (left c.pieces.input) (left c.read.new.self) i.taken (take c.in-Ok.count c.read.new.buf) c.within.result.now
    (g.K.Sink.held c.args.output.now) (g.K.Sink.held c.pieces.output) (g.K.Sink.held c.feed_session.new.output) i.consumed c.in-Ok.ensures.bytes.0 p i.limit (omega arith) a.1)

pub returns-in-Ok-settle_session-clause-output : goal.returns-in-Ok-settle_session-clause-output
returns-in-Ok-settle_session-clause-output g c = λ h.
    let w = pair_work in
    let i = c.pieces.invariant in
    let s = c.pieces.session.settings in
    let left = g.S.Source.left in
    let st = i.stands h in
    let p = c.within.ensures ∙ ap (take c.pieces.left) c.split_at.ensures.front in
    let e = c.in-More.ensures in
    let a = e.adds i.taken st.0 in
    let ok : AreSettings s = subst AreSettings (sym i.settings) c.requires.settings in
    let bound : c.in-Ok.count ≤ length c.read.new.buf = c.in-Ok.ensures.bound.0 in
    let len = read_len c.in-Ok.count c.read.new.buf bound in
    let more = c.if-count-left.true in
    let old = g.K.Sink.held c.args.output.now in
    let mid = g.K.Sink.held c.feed_session.new.output in
    let new = g.K.Sink.held c.settle_session.new.output in
    let last = subst (λ x. Appends mid new (running_more w.function x (i.taken ++ c.within.result.now))) e.settings (c.in-Ok-settle_session.ensures.settled (i.taken ++ c.within.result.now) a.0) in
    subst (λ x. IfSome (left c.args.input.now) (λ xs. Appends old new (running w.function x (take c.args.limit xs)))) i.settings
    (long_writes w s ok c.args.limit c.pieces.left (left c.args.input.now) (left c.pieces.input) (left c.read.new.self) i.taken (take c.in-Ok.count c.read.new.buf) c.within.result.now
    old (g.K.Sink.held c.pieces.output) mid i.consumed c.in-Ok.ensures.bytes.0 p i.limit new (omega arith) st.1 a.2 last)

pub returns-in-Err-clause-output : goal.returns-in-Err-clause-output
returns-in-Err-clause-output g c = λ h.
    let w = pair_work in
    let i = c.pieces.invariant in
    let s = c.pieces.session.settings in
    let left = g.S.Source.left in
    let st = i.stands h in
    let p = c.within.ensures ∙ ap (take c.pieces.left) c.split_at.ensures.front in
    let e = c.in-More.ensures in
    let a = e.adds i.taken st.0 in
    let ok : AreSettings s = subst AreSettings (sym i.settings) c.requires.settings in
    let old = g.K.Sink.held c.args.output.now in
    let mid = g.K.Sink.held c.feed_session.new.output in
    let new = g.K.Sink.held c.settle_session.new.output in
    let last = subst (λ x. AppendsFront mid new (running_more w.function x (i.taken ++ c.within.result.now))) e.settings (c.in-Err.ensures.settled (i.taken ++ c.within.result.now) a.0) in
    subst (λ x. IfSome (left c.args.input.now) (λ xs. AppendsFront old new (full w.function x xs))) i.settings
    (long_fails w s ok c.args.limit c.pieces.left (left c.args.input.now) (left c.pieces.input) (left c.read.new.self) i.taken (take c.in-Ok.count c.read.new.buf) c.within.result.now
    old (g.K.Sink.held c.pieces.output) mid i.consumed c.in-Ok.ensures.bytes.0 p i.limit new st.1 a.2 last)
