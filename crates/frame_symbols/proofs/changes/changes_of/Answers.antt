use Rattle.std.proofs.Common.{◌∙◌}
use Rattle.std.specs.Int.{w32}
use Rattle.std.proofs.lemmas.Int.{to_z-of_z}
use Rattle.frame_symbols.proofs.ChangeSteps.{changes_start, changes_next, changes_last, changes_all}
use Rattle.frame_symbols.proofs.changes.changes_of.Goals as goal

pub loop-band-init : goal.loop-band-init
loop-band-init c = changes_start c.args.kind c.args.transient c.args.select c.args.flags

pub loop-band-preserved : goal.loop-band-preserved
loop-band-preserved c =
    changes_next _ c.loop-band.invariant c.loop-band-test.true (to_z-of_z w32 c.tf_of.result (record { sfits = c.tf_of.type_inv }) ∙ c.tf_of.ensures)

pub returns-clause-value : goal.returns-clause-value
returns-clause-value c = changes_last c.loop-band.invariant c.loop-band-test.false

pub returns-clause-changes : goal.returns-clause-changes
returns-clause-changes c = changes_all c.loop-band.invariant c.loop-band-test.false
