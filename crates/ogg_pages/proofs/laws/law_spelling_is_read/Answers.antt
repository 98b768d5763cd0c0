use Rattle.std.proofs.Common.{◌∙◌, ap}
use Rattle.std.proofs.Math.Seq.{take-append_seam}
use Rattle.ogg_pages.specs.Fields.{page_of}
use Rattle.ogg_pages.specs.Spelling.{spelling}
use Rattle.ogg_pages.proofs.Spelled.{spelling_read, spelling_page}
use Rattle.ogg_pages.proofs.laws.law_spelling_is_read.Goals as goal

pub returns-clause-taken : goal.returns-clause-taken
returns-clause-taken c = spelling_read

pub returns-clause-fields : goal.returns-clause-fields
returns-clause-fields c = λ p more is. ap page_of (take-append_seam (spelling p) more) ∙ spelling_page p is
