use Rattle.ogg_pages.proofs.Joined.{joined_pages, joined_ending}
use Rattle.ogg_pages.proofs.laws.law_joined_spellings.Goals as goal

pub returns-clause-pages : goal.returns-clause-pages
returns-clause-pages c = joined_pages

pub returns-clause-ending : goal.returns-clause-ending
returns-clause-ending c = joined_ending
