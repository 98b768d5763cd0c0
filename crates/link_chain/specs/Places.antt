-- The place behind the pages of a chain.
use Rattle.std.specs.Prelude.{List, length, sum_by}
use Rattle.link_chain.specs.declared.chain.LinkPlace.{LinkPlace}
use Rattle.link_chain.specs.Pages.{NotedPage, link_behind}

-- links that ended, pages, and packets that ended on them
abbrev pub place_behind : List NotedPage → LinkPlace
place_behind pages = record { link = link_behind pages; page = length pages; packet = sum_by (λ page. page.packets) pages }
