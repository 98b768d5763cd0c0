use Rattle.std.proofs.Common.{ℕ}
use Rattle.celt_base.specs.declared.state.Setting.{Setting}
use Rattle.celt_session.specs.Hearings.{HoldOwn}
use Rattle.celt_session.proofs.HearingSteps.{Passing}
use Rattle.celt_session.proofs.hearing.pass_settings.Given as goal

abbrev pub invariant-loop-k : goal.invariant-loop-k
invariant-loop-k l = (own : ℕ → Setting) → HoldOwn own l.fn.slots → Passing own l.fn.trail l.fn.slots l.slots l.now l.k
