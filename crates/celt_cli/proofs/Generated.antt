-- What the program answers to `gen`, which reads nothing.
use Rattle.std.proofs.Common.{◌≡◌, ℕ, ◌^◌, List, [], refl, sym, subst, Option}
use Rattle.celt_base.specs.declared.status.Status.{Status}
use Rattle.celt_base.specs.declared.status.Status.TheVariants as statuses
use Rattle.celt_session.specs.Outcomes.{wanted, Answers}
use Rattle.celt_cli.specs.declared.words.Command.{Command}
use Rattle.celt_cli.specs.declared.words.Command.TheVariants.{Gen}
use Rattle.celt_cli.specs.declared.generator.GenSettings.{GenSettings}
use Rattle.celt_cli.specs.EncodingMakers.{encoding_makers}
use Rattle.celt_cli.specs.GenLines.{AddsLine, gen_line, generating}
use Rattle.celt_cli.specs.Makers.{Makers}
use Rattle.celt_cli.specs.Runs.{IfReads, Wrote, meaning_of}

-- it has no fault, and reads nothing
gen_done : {M : Type 0} (m : Makers M) (settings : GenSettings) → wanted (generating m settings) (2 ^ 40) [] ≡ statuses.Done
unfolding wanted
gen_done m settings = refl

pub gen_answers : (command : Command) (settings : GenSettings) (left : Option (List ℕ)) (status : Status) → command ≡ Gen settings → Answers statuses.Done status
    → IfReads command left (λ bytes. Answers (wanted (meaning_of command) (2 ^ 40) bytes) status)
gen_answers command settings left status is done =
    subst (λ (c : Command). IfReads c left (λ bytes. Answers (wanted (meaning_of c) (2 ^ 40) bytes) status)) (sym is)
    (subst (λ (want : Status). Answers want status) (sym (gen_done encoding_makers settings)) done)

pub gen_wrote : (command : Command) (settings : GenSettings) (left now : Option (List ℕ)) (old new : Option (List ℕ)) (status : Status) → command ≡ Gen settings → AddsLine (gen_line encoding_makers settings) old new status
    → IfReads command left (λ bytes. Wrote command (2 ^ 40) bytes now old new status)
gen_wrote command settings left now old new status is line =
    subst (λ (c : Command). IfReads c left (λ bytes. Wrote c (2 ^ 40) bytes now old new status)) (sym is) line
