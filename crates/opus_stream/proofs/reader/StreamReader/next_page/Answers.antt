use Rattle.std.proofs.Common.{◌+◌, ◌<◌, [], ◌∷◌, ◌++◌, length, refl, sym, ◌∙◌, ap, subst, arith, length-append}
use Rattle.ogg_pages.specs.Spelling.{AreBytes}
use Rattle.opus_stream.specs.Acceptance.{answer_of}
use Rattle.opus_stream.specs.Readers.{StandsFor}
use Rattle.opus_stream.specs.contracts.reader.StreamReader.{the_view}
use Rattle.opus_stream.proofs.Reading as reading
use Rattle.opus_stream.proofs.reader.StreamReader.next_page.Goals as goal

pub returns-in-Some-clause-answer : goal.returns-in-Some-clause-answer
returns-in-Some-clause-answer c = λ bytes given s.
    let t = subst (λ r. StandsFor r bytes given) (sym c.self.view_is) s in
    sym (ap (answer_of bytes) (sym t.count) ∙ reading.stopped_answer (the_view c.self.inside) bytes t.front c.in-Some.fault c.in-Some.is t.holds)

pub returns-then-held-gt0-clause-answer : goal.returns-then-held-gt0-clause-answer
returns-then-held-gt0-clause-answer c = λ bytes given s.
    let t = subst (λ r. StandsFor r bytes given) (sym c.self.view_is) s in
    let n = c.held.ensures in
    let h = c.if-held-gt0.true in
    ap Rattle.opus_stream.specs.declared.answers.Accept.TheVariants.Fault c.fault.ensures
    ∙ sym (ap (answer_of bytes) (sym t.count) ∙ reading.after_answer (the_view c.self.inside) bytes t.front c.in_default.is c.if-self.true (omega arith) t.holds)

pub returns-then-self-clause-answer : goal.returns-then-self-clause-answer
returns-then-self-clause-answer c = λ bytes given s.
    let t = subst (λ r. StandsFor r bytes given) (sym c.self.view_is) s in
    let n = c.held.ensures in
    let h = c.if-held-gt0.false in
    let none = reading.no_byte c.self.inside.pages (omega arith) in
    sym (ap (answer_of bytes) (sym t.count) ∙ reading.ended_answer (the_view c.self.inside) bytes t.front c.in_default.is c.if-self.true none t.holds)

pub returns-then-self-clause-longer : goal.returns-then-self-clause-longer
returns-then-self-clause-longer c = λ bytes given s.
    let t = subst (λ r. StandsFor r bytes given) (sym c.self.view_is) s in
    let n = c.held.ensures in
    let h = c.if-held-gt0.false in
    let none = reading.no_byte c.self.inside.pages (omega arith) in
    record {
      front = t.front;
      count = t.count;
      holds = reading.settled_holds (the_view c.self.inside) _ bytes t.front t.holds refl refl refl refl refl refl refl (λ d. reading.drained_end (the_view c.self.inside) _ c.in_default.is none refl refl);
    }

pub returns-in-Page-clause-answer : goal.returns-in-Page-clause-answer
returns-in-Page-clause-answer c = λ bytes given s.
    let t = subst (λ r. StandsFor r bytes given) (sym c.self.view_is) s in
    let step = c.in-Page.ensures.step in
    let a = step.1 t.front t.holds.progress in
    sym (ap (answer_of bytes) (sym t.count) ∙ reading.page_answer (the_view c.self.inside) bytes c.take_page.new.page.items c.take_page.new.pages t.front c.in_default.is step.0 a.0 t.holds)

pub returns-in-Page-clause-longer : goal.returns-in-Page-clause-longer
returns-in-Page-clause-longer c = λ bytes given s.
    let t = subst (λ r. StandsFor r bytes given) (sym c.self.view_is) s in
    let step = c.in-Page.ensures.step in
    let a = step.1 t.front t.holds.progress in
    let view = c.take_page.new.page.items in
    record {
      front = t.front ++ Rattle.ogg_pages.specs.Fields.page_of view ∷ [];
      count = length-append t.front (Rattle.ogg_pages.specs.Fields.page_of view ∷ []) ∙ ap (λ n. n + 1) t.count;
      holds = reading.page_holds (the_view c.self.inside) _ bytes view c.take_page.new.pages t.front c.in_default.is step.0 t.holds a.0 a.1 a.2 refl refl refl c.in_default.is refl;
    }

pub returns-in-Page-clause-shorter : goal.returns-in-Page-clause-shorter
returns-in-Page-clause-shorter c = λ h.
    let t = c.in-Page.ensures.step.0 in
    subst (λ r. length c.take_page.new.pages < length r.pages) c.self.view_is (reading.page_shorter c.self.inside.pages c.take_page.new.pages c.take_page.new.page.items t)

pub returns-in-Need-clause-answer : goal.returns-in-Need-clause-answer
returns-in-Need-clause-answer c = λ bytes given s.
    let t = subst (λ r. StandsFor r bytes given) (sym c.self.view_is) s in
    let step = c.in-Need.ensures.step in
    sym (ap (answer_of bytes) (sym t.count) ∙ reading.need_answer (the_view c.self.inside) bytes t.front c.in_default.is c.if-self.false step.0 t.holds)

pub returns-in-Need-clause-longer : goal.returns-in-Need-clause-longer
returns-in-Need-clause-longer c = λ bytes given s.
    let t = subst (λ r. StandsFor r bytes given) (sym c.self.view_is) s in
    let step = c.in-Need.ensures.step in
    let same = step.1 in
    record {
      front = t.front;
      count = t.count;
      holds = reading.settled_holds (the_view c.self.inside) _ bytes t.front t.holds same.held refl refl same.room same.page refl refl
          (λ d. reading.drained_need (the_view c.self.inside) _ c.in_default.is c.if-self.false step.0 same.held refl refl);
    }

pub returns-in-Need-clause-room : goal.returns-in-Need-clause-room
returns-in-Need-clause-room c = λ h.
    let step = c.in-Need.ensures.step in
    let e = ap length step.1.held in
    let f = reading.cut_short c.self.inside.pages c.self.invariant.4 step.0 in
    omega arith

pub invariant_of-self-in-Need : goal.invariant_of-self-in-Need
invariant_of-self-in-Need c =
    let i = c.self.invariant in
    let inside = i.0 in
    let step = c.in-Need.ensures.step in
    let e = ap length step.1.held in
    let f = reading.cut_short c.self.inside.pages i.4 step.0 in
    (omega arith, i.1, c.in-Need.ensures.capacity, i.3, subst AreBytes (sym step.1.held) i.4, λ settled. omega arith)

pub returns-in-Broken-clause-answer : goal.returns-in-Broken-clause-answer
returns-in-Broken-clause-answer c = λ bytes given s.
    let t = subst (λ r. StandsFor r bytes given) (sym c.self.view_is) s in
    let step = c.in-Broken.ensures.step in
    ap Rattle.opus_stream.specs.declared.answers.Accept.TheVariants.Fault (c.fault-in-Broken.ensures ∙ ap (λ n. Rattle.opus_stream.specs.Audio.fault_at n c.self.inside.progress.pages) step.0.2)
    ∙ sym (ap (answer_of bytes) (sym t.count) ∙ reading.broken_answer (the_view c.self.inside) bytes t.front step.0.0 c.in_default.is c.if-self.false step.0.1 t.holds)

pub returns-in-Refused-clause-answer : goal.returns-in-Refused-clause-answer
returns-in-Refused-clause-answer c = λ bytes given s.
    let t = subst (λ r. StandsFor r bytes given) (sym c.self.view_is) s in
    let step = c.in-Refused.ensures.step in
    let a = step.0.2 t.front t.holds.progress in
    sym (ap (answer_of bytes) (sym t.count) ∙ reading.refused_answer (the_view c.self.inside) bytes step.0.0 c.take_page.new.pages t.front c.in-Refused.fault c.in_default.is step.0.1 a t.holds)

pub returns-in-Refused-clause-longer : goal.returns-in-Refused-clause-longer
returns-in-Refused-clause-longer c = λ bytes given s.
    let t = subst (λ r. StandsFor r bytes given) (sym c.self.view_is) s in
    let step = c.in-Refused.ensures.step in
    let a = step.0.2 t.front t.holds.progress in
    record {
      front = t.front;
      count = t.count;
      holds = reading.refused_holds (the_view c.self.inside) _ bytes step.0.0 c.take_page.new.pages t.front c.in-Refused.fault c.in_default.is c.if-self.false step.0.1 t.holds a
          refl refl step.2 step.3 step.1 refl refl refl;
    }
