-- `gen` encodes no file, so nothing is said of one.
use Rattle.std.proofs.Common.{◌≡◌, List, sym, subst, Option}
use Rattle.std.specs.Prelude.{ℕ}
use Rattle.celt_base.specs.declared.status.Status.{Status}
use Rattle.celt_base.specs.declared.status.Status.TheVariants as statuses
use Rattle.celt_cli.specs.declared.generator.GenSettings.{GenSettings}
use Rattle.celt_cli.specs.declared.words.Command.{Command}
use Rattle.celt_cli.specs.declared.words.Command.TheVariants.{Gen}
use Rattle.celt_cli.specs.Runs.{IfReads, KeepsStep, KeepsSamples}

-- where the status is Done, something holds of what the command read
abbrev pub AtDone : (Command → List ℕ → Type 0) → Option (List ℕ) → Status → Command → Type 0
AtDone P left status command = IfReads command left (λ bytes. status ≡ statuses.Done → P command bytes)

pub gen_step : (command : Command) (settings : GenSettings) (left : Option (List ℕ)) (status : Status) → command ≡ Gen settings → AtDone KeepsStep left status command
gen_step command settings left status is = subst (AtDone KeepsStep left status) (sym is) (λ done. tt)

pub gen_samples : (command : Command) (settings : GenSettings) (left : Option (List ℕ)) (status : Status) → command ≡ Gen settings → AtDone KeepsSamples left status command
gen_samples command settings left status is = subst (AtDone KeepsSamples left status) (sym is) (λ done. tt)
