use Rattle.std.proofs.Common.{◌≤◌}
use Rattle.link_chain.specs.Noted.{pages_noted}
use Rattle.link_chain.proofs.tests.pages_of_links.Given as goal

abbrev pub invariant-loop-row : goal.invariant-loop-row
invariant-loop-row g l = pages_noted l.chain ≤ l.row-index
