use Rattle.std.proofs.Common.{◌∙◌, ap}
use Rattle.ogg_pages.specs.Spelling.{packet_lacing}
use Rattle.ogg_pages.proofs.Laced.{packet_ends, packet_sum, packet_only}
use Rattle.ogg_pages.proofs.laws.law_packet_lacing.Goals as goal

pub returns-clause-ends : goal.returns-clause-ends
returns-clause-ends c = packet_ends

pub returns-clause-total : goal.returns-clause-total
returns-clause-total c = packet_sum

pub returns-clause-only : goal.returns-clause-only
returns-clause-only c = λ len values ends total. packet_only values ends ∙ ap packet_lacing total
