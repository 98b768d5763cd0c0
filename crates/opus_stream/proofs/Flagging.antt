-- Every accepted page passes the tests behind the pages before it, that of the first page's flag among them.
use Rattle.std.proofs.Common.{◌≡◌, ℕ, List, [], ◌∷◌, ◌++◌, length, take, sym, ◌∙◌, ap, append_assoc, None}
use Rattle.std.proofs.Math.Seq.{take-append_seam}
use Rattle.std.proofs.lemmas.List.{same_from_push}
use Rattle.ogg_pages.specs.Fields.{Page}
use Rattle.opus_stream.specs.Tests.{is_first, page_fault}
use Rattle.opus_stream.specs.Acceptance.{accepted}
use Rattle.opus_stream.specs.Carrying.{is_none_of}
use Rattle.opus_stream.proofs.Linking.{Any, any_all}
use Rattle.opus_stream.proofs.Recovered.{follows_by, opens, first_form}
use Rattle.opus_stream.proofs.Spanning.{Steps, passes_tests}
use Rattle.opus_stream.proofs.Telling.{accepted_fronts}

abbrev LastPasses : List Page → Type 0
LastPasses pages = (before : List Page) (page : Page) → pages ≡ before ++ page ∷ [] → page_fault before page ≡ None

none_last : LastPasses []
none_last [] page e = let f : ⊥ = cc in absurd f
none_last (x ∷ xs) page e = let f : ⊥ = cc in absurd f

last_next : Steps Any LastPasses
last_next front page p passes q = λ before last e.
    let same = same_from_push front before page last e in
    (λ i. page_fault (sym same.0 i) (sym same.1 i)) ∙ passes

pub accepted_passes : (bytes : List ℕ) (before rest : List Page) (page : Page) → accepted bytes ≡ before ++ page ∷ rest → page_fault before page ≡ None
accepted_passes bytes before rest page e =
    let front = before ++ page ∷ [] in
    let all : accepted bytes ≡ front ++ rest = e ∙ sym (append_assoc before (page ∷ []) rest) in
    accepted_fronts Any LastPasses none_last last_next bytes (any_all bytes) (length front) before page (ap (take (length front)) all ∙ take-append_seam front rest)

pub first_flag : (bytes : List ℕ) (before rest : List Page) (page : Page) → accepted bytes ≡ before ++ page ∷ rest → is_first page ≡ is_none_of before
first_flag bytes [] rest page e = (opens page (sym (first_form page) ∙ (passes_tests [] page (accepted_passes bytes [] rest page e)).1)).first
first_flag bytes (head ∷ others) rest page e = (follows_by head others page (passes_tests (head ∷ others) page (accepted_passes bytes (head ∷ others) rest page e)).0).later
