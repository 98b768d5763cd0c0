use Rattle.ogg_pages.proofs.Readings.{read_is_page, read_is_spelling}
use Rattle.ogg_pages.proofs.Spelled.{spelling_only}
use Rattle.ogg_pages.proofs.laws.law_page_is_spelled.Goals as goal

pub returns-clause-fields : goal.returns-clause-fields
returns-clause-fields c = read_is_page

pub returns-clause-bytes : goal.returns-clause-bytes
returns-clause-bytes c = read_is_spelling

pub returns-clause-only : goal.returns-clause-only
returns-clause-only c = spelling_only
