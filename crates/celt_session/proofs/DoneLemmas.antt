-- What Done says of an input that was encoded: it has no fault and no byte behind the limit, so its frames are in step and its samples kept.
use Rattle.std.proofs.Common.{◌≡◌, ℕ, ◌*◌, ◌^◌, ◌≤◌, Bool, true, false, List, length, take, refl, subst, arith}
use Rattle.std.specs.Prelude.{⊤, nat_lt, Option, None, Some, IfSome}
use Rattle.std.proofs.lemmas.Bool.{ltb-false}
use Rattle.std.proofs.lemmas.List.{take_all}
use Rattle.celt_base.specs.declared.status.Fault.{Fault}
use Rattle.celt_base.specs.declared.status.FaultName.{FaultName}
use Rattle.celt_base.specs.declared.status.Status.{Status}
use Rattle.celt_base.specs.declared.status.Status.TheVariants as statuses
use Rattle.celt_session.specs.declared.settings.Settings.{Settings}
use Rattle.celt_session.specs.EncodedFrames.{encoded_frames}
use Rattle.celt_session.specs.Encodings.{AreSettings, encoding_by}
use Rattle.celt_session.specs.Keeping.{IsKept}
use Rattle.celt_session.specs.Lockstep.{AreInStep}
use Rattle.celt_session.specs.Outcomes.{Meaning, ended_status, cut_status_by, cut_status, status_by, wanted, Answers}
use Rattle.celt_session.proofs.KeepingFrames.{encoding_kept}
use Rattle.celt_session.proofs.LockstepLemmas.{are_in_step}

abbrev NotDone : Status → Type 0
NotDone statuses.Done = ⊥
NotDone (statuses.Refused fault) = ⊤
NotDone statuses.Usage = ⊤
NotDone statuses.ReadFault = ⊤
NotDone statuses.WriteFault = ⊤
NotDone statuses.NoMemory = ⊤
NotDone statuses.InputTooLong = ⊤

done_none : (fault : Option Fault) → ended_status fault ≡ statuses.Done → fault ≡ None
done_none None e = refl
done_none (Some fault) e = absurd (subst NotDone e tt)

not_cut_by : (early : Bool) (fault : Fault) → cut_status_by early fault ≡ statuses.Done → ⊥
not_cut_by true fault e = subst NotDone e tt
not_cut_by false fault e = subst NotDone e tt

not_cut : (is_end : FaultName → Bool) (fault : Option Fault) → cut_status is_end fault ≡ statuses.Done → ⊥
not_cut is_end None e = subst NotDone e tt
not_cut is_end (Some fault) e = not_cut_by (is_end fault.name) fault e

done_by : (is_end : FaultName → Bool) (long : Bool) (fault : Option Fault) → status_by is_end long fault ≡ statuses.Done
    → (long ≡ false) × (fault ≡ None)
done_by is_end true fault e = absurd (not_cut is_end fault e)
done_by is_end false fault e = (refl, done_none fault e)

pub done_is : (m : Meaning) (limit : ℕ) (bytes : List ℕ) → wanted m limit bytes ≡ statuses.Done
    → (length bytes ≤ limit) × (m.fault_of bytes ≡ None)
unfolding wanted
done_is m limit bytes e =
    let d = done_by m.is_end (nat_lt limit (length bytes)) (m.fault_of (take limit bytes)) e in
    let few : length bytes ≤ limit = ltb-false limit (length bytes) d.0 in
    (few, subst (λ l. m.fault_of l ≡ None) (take_all limit bytes few) d.1)

-- ---- the clauses of an encoding

pub done_in_step : (settings : Settings) (left : Option (List ℕ)) (status : Status) → AreSettings settings
    → IfSome left (λ bytes. status ≡ statuses.Done → AreInStep settings bytes)
done_in_step settings None status are = tt
done_in_step settings (Some bytes) status are = λ done. are_in_step settings bytes are

pub done_kept : (settings : Settings) (limit : ℕ) (left : Option (List ℕ)) (status : Status) → AreSettings settings → limit ≤ 2 ^ 40
    → IfSome left (λ bytes. Answers (wanted (encoding_by encoded_frames settings) limit bytes) status)
    → IfSome left (λ bytes. status ≡ statuses.Done → IsKept encoded_frames settings bytes)
done_kept settings limit None status are most answers = tt
done_kept settings limit (Some bytes) status are most answers = λ done.
    let d = done_is (encoding_by encoded_frames settings) limit bytes (subst (Answers (wanted (encoding_by encoded_frames settings) limit bytes)) done answers) in
    encoding_kept settings bytes are (omega (arith, d.0, most)) d.1
