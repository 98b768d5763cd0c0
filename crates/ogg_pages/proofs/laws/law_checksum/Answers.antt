use Rattle.ogg_pages.proofs.Readings.{read_remainder}
use Rattle.ogg_pages.proofs.Remainders.{checksum_is_remainder, one_remainder}
use Rattle.ogg_pages.proofs.laws.law_checksum.Goals as goal

pub returns-clause-remainder : goal.returns-clause-remainder
returns-clause-remainder c = checksum_is_remainder

pub returns-clause-held : goal.returns-clause-held
returns-clause-held c = read_remainder

pub returns-clause-only : goal.returns-clause-only
returns-clause-only c = one_remainder
