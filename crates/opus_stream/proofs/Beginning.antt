-- The identification header of a page 0 that was accepted.
use Rattle.std.proofs.Common.{◌≡◌, ℕ, List, [], ◌∷◌, ◌++◌, length, refl, sym, ◌∙◌, ap, Option, Some, None}
use Rattle.celt_base.specs.declared.status.Fault.{Fault}
use Rattle.ogg_pages.specs.Fields.{Page}
use Rattle.ogg_pages.specs.Stream.{stream}
use Rattle.opus_stream.specs.Tests.{form_fault, head_fault, page_fault}
use Rattle.opus_stream.specs.Acceptance.{accepted_after, accepted, ok_head, head_in}
use Rattle.opus_stream.specs.Readers.{Reader, StandsFor}
use Rattle.opus_stream.proofs.Lasting.{accepted_one, accepted_stop, accepted_none}
use Rattle.opus_stream.proofs.Reading.{first}
use Rattle.opus_stream.proofs.Recovered.{Opens, opens}
use Rattle.opus_stream.proofs.Spanning.{passes_tests}

first_passes : (pages : List Page) (page : Page) (rest : List Page) → accepted_after [] pages ≡ page ∷ rest → page_fault [] page ≡ None
first_passes [] page rest h = let f : [] ≡ page ∷ rest = sym (accepted_none []) ∙ h in let g : ⊥ = cc in absurd g
first_passes (p ∷ ps) page rest h = by_fault (page_fault [] p) refl where
  by_fault : (f : Option Fault) → page_fault [] p ≡ f → page_fault [] page ≡ None
  by_fault None e =
      let same : p ∷ accepted_after (p ∷ []) ps ≡ page ∷ rest = sym (accepted_one [] p ps e) ∙ h in
      let is : p ≡ page = cc in
      ap (page_fault []) (sym is) ∙ e
  by_fault (Some fault) e = let f : [] ≡ page ∷ rest = sym (accepted_stop [] p ps fault e) ∙ h in let g : ⊥ = cc in absurd g

form_is : (page : Page) → form_fault [] page ≡ head_fault page
unfolding form_fault
form_is page = refl

accepted_first : (bytes : List ℕ) (page : Page) (rest : List Page) → accepted bytes ≡ page ∷ rest → Opens page
unfolding accepted
accepted_first bytes page rest h = opens page (sym (form_is page) ∙ (passes_tests [] page (first_passes (stream bytes).pages page rest h)).1)

some_head : (page : Page) (pages : List Page) → Opens page → head_in (page ∷ pages) ≡ None → ⊥
unfolding head_in
some_head page pages o h = let e : Some o.says ≡ None = sym (ap ok_head o.says_is) ∙ h in cc

-- a header is missing only before page 0
pub none_given : (r : Reader) (bytes : List ℕ) (given : ℕ) (s : StandsFor r bytes given) → head_in s.front ≡ None → given ≡ 0
none_given r bytes given s h = by_front s.front refl where
  by_front : (front : List Page) → s.front ≡ front → given ≡ 0
  by_front [] e = sym s.count ∙ ap length e
  by_front (page ∷ pages) e =
      let f = first r bytes s.front s.holds in
      let o = accepted_first bytes page (pages ++ f.rest) (f.all ∙ ap (λ l. l ++ f.rest) e) in
      absurd (some_head page pages o (ap head_in (sym e) ∙ h))
