-- Settings are equal where their numbers are.
use mathlib.Core.HLevel.{is_prop→PathP}
use native.Mathlib.Bridge.{le_prop}
use Rattle.std.proofs.Common.{◌≡◌, ◌≤◌}
use Rattle.celt_base.specs.declared.state.Setting.{Setting}
use Rattle.celt_base.specs.States.{IsOff}
use Rattle.celt_analysis.specs.Signals.{off}

pub setting_same : (a b : Setting) → a.period ≡ b.period → a.gain ≡ b.gain → a.tapset ≡ b.tapset → a ≡ b
setting_same a b p g t = λ k. record {
  period = p k;
  gain = g k;
  tapset = t k;
  least_period = is_prop→PathP (λ l. 15 ≤ p l) (λ l. le_prop) a.least_period b.least_period k;
  most_period = is_prop→PathP (λ l. p l ≤ 1022) (λ l. le_prop) a.most_period b.most_period k;
  most_gain = is_prop→PathP (λ l. g l ≤ 24576) (λ l. le_prop) a.most_gain b.most_gain k;
  most_tapset = is_prop→PathP (λ l. t l ≤ 2) (λ l. le_prop) a.most_tapset b.most_tapset k;
}

pub off_is : (s : Setting) → IsOff s → s ≡ off
off_is s o = setting_same s off o.period o.gain o.tapset
