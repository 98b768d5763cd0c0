use Rattle.std.proofs.Common.{◌++◌, length, drop, sym, ◌∙◌, ap}
use Rattle.std.proofs.lemmas.List.{take-append-drop}
use Rattle.opus_stream.specs.Acceptance.{accepted}
use Rattle.opus_stream.proofs.Prefixes.{pages_go_on}
use Rattle.opus_stream.proofs.laws.law_pages_go_on.Goals as goal

pub returns-clause-first : goal.returns-clause-first
returns-clause-first c = pages_go_on

pub returns-clause-more : goal.returns-clause-more
returns-clause-more c = λ bytes more.
    let n = length (accepted bytes) in
    let pages = accepted (bytes ++ more) in
    sym (take-append-drop n pages) ∙ ap (λ l. l ++ drop n pages) (pages_go_on bytes more)
