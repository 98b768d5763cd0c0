use Rattle.std.proofs.Common.{sym, ◌∙◌}
use Rattle.link_chain.specs.Pages.{NotedPage}
use Rattle.link_chain.proofs.PageLemmas.{starts_more, place_more}
use Rattle.link_chain.proofs.chain.Chain.accept.Goals as goal

pub returns-clause-longer : goal.returns-clause-longer
returns-clause-longer c = λ pages h.
    let page : NotedPage = record { flags = c.args.flags; packets = c.args.packets } in
    record {
      place_is = place_more pages page c.args.self.now.next _ _ h.place_is c.is_last-last.ensures c.from.ensures;
      starts_is = c.is_last-last.ensures ∙ sym (starts_more pages page);
    }
