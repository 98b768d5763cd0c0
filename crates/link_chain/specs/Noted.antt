-- What a chain stands for: the pages that it noted.
use Rattle.std.specs.Prelude.{◌≡◌, ℕ, Bool, List}
use Rattle.link_chain.specs.declared.chain.Chain.{Chain}
use Rattle.link_chain.specs.declared.chain.LinkPlace.{LinkPlace}
use Rattle.link_chain.specs.Pages.{NotedPage, starts_link}
use Rattle.link_chain.specs.Places.{place_behind}

-- how many pages it noted
abbrev pub pages_noted : Chain → ℕ
pages_noted chain = chain.next.page

-- its answers
abbrev pub place_in : Chain → LinkPlace
place_in chain = chain.next

abbrev pub starts_in : Chain → Bool
starts_in chain = chain.starts

pub record HasNoted (chain : Chain) (pages : List NotedPage) : Type 0 where
  pub place_is : chain.next ≡ place_behind pages
  pub starts_is : chain.starts ≡ starts_link pages
