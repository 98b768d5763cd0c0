use Rattle.std.proofs.Common.{◌+◌, ◌<◌, ◌≤◌, refl, ◌∙◌, arith}
use Rattle.opus_stream.specs.Readers.{bytes_held}
use Rattle.celt_session.proofs.Going.{went_start, went_page, went_failed, went_need, went_fault}
use Rattle.celt_session.specs.PageWorks.{page_work}
use Rattle.celt_session.proofs.giving.give_pages.Goals as goal

pub pages-init : goal.pages-init
pages-init g c = record {
  goes = λ start bytes front a. went_start page_work start bytes front c.args.reader.now c.args.work.now (g.K.Sink.held c.args.output.now) a;
  few = omega arith;
  fed = refl;
  kept = omega arith;
}

pub pages-preserved : goal.pages-preserved
pages-preserved g c =
    let i = c.pages.invariant in
    let p = c.in-Page.ensures in
    let count = page_work.count in
    let few : count c.pages.work + bytes_held c.pages.reader ≤ count c.args.work.now + bytes_held c.args.reader.now = i.few in
    let one : count c.page.new.self ≤ count c.pages.work + 1 = c.in-Ok.ensures.count in
    let less : bytes_held c.next_page.new.self < bytes_held c.pages.reader = p.shorter refl in
    let kept : g.K.Sink.faults c.args.output.now ≤ g.K.Sink.faults c.pages.output = i.kept in
    let more : g.K.Sink.faults c.pages.output ≤ g.K.Sink.faults c.page.new.output = c.in-Ok.ensures.cause in
    record {
      goes = λ start bytes front a. went_page page_work start bytes front c.pages.reader c.next_page.new.self c.pages.work c.page.new.self
          (g.K.Sink.held c.args.output.now) (g.K.Sink.held c.pages.output) (g.K.Sink.held c.page.new.output) c.in-Ok.field-0
          (i.goes start bytes front a) p.answer p.longer c.in-Ok.ensures.works;
      few = omega arith;
      fed = p.fed ∙ i.fed;
      kept = omega arith;
    }

pub returns-in_default-clause-gives : goal.returns-in_default-clause-gives
returns-in_default-clause-gives g c = λ start bytes front a.
    let p = c.in-Page.ensures in
    went_failed page_work start bytes front c.pages.reader c.next_page.new.self c.pages.work c.page.new.self
    (g.K.Sink.held c.args.output.now) (g.K.Sink.held c.pages.output) (g.K.Sink.held c.page.new.output) c.in_default.field-0
    (c.pages.invariant.goes start bytes front a) p.answer p.longer c.in_default.ensures.works

pub returns-in-Need-clause-gives : goal.returns-in-Need-clause-gives
returns-in-Need-clause-gives g c = λ start bytes front a.
    let p = c.in-Need.ensures in
    went_need page_work start bytes front c.pages.reader c.next_page.new.self c.pages.work (g.K.Sink.held c.args.output.now) (g.K.Sink.held c.pages.output)
    (c.pages.invariant.goes start bytes front a) p.answer p.longer

pub returns-in-Fault-clause-gives : goal.returns-in-Fault-clause-gives
returns-in-Fault-clause-gives g c = λ start bytes front a.
    went_fault page_work start bytes front c.pages.reader c.next_page.new.self c.pages.work (g.K.Sink.held c.args.output.now) (g.K.Sink.held c.pages.output) c.in-Fault.fault
    (c.pages.invariant.goes start bytes front a) c.in-Fault.ensures.answer
