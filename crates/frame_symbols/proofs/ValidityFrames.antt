-- Each question of a frame is valid.
use Rattle.std.proofs.Common.{ℕ, ◌*◌, ◌<◌, ◌≤◌, Bool, true, false, List, sym, subst, arith}
use Rattle.std.specs.Prelude.{ℤ, pos, ◌-ℤ◌, slice_index}
use Rattle.bit_allocation.specs.Scripts.{allocation_script}
use Rattle.celt_base.proofs.WalkOrders.{gave}
use Rattle.celt_base.specs.declared.kind.Kind.{Kind}
use Rattle.celt_base.specs.declared.state.Allocation.{Allocation}
use Rattle.celt_base.specs.Paces.{tell_frac_of}
use Rattle.celt_base.specs.WalkOrders.{MayGive}
use Rattle.celt_base.specs.WalkScripts.{Done}
use Rattle.frame_symbols.specs.declared.fields.Amounts.{Amounts}
use Rattle.frame_symbols.specs.declared.fields.Opening.{Opening}
use Rattle.frame_symbols.specs.declared.fields.Shaping.{Shaping}
use Rattle.frame_symbols.specs.Frames.{rest_of, reserve_of, amounts_by, amounts_script, ending_script, sound_script, unless_silent, frame_script}
use Rattle.frame_symbols.specs.Validity.{IsAllValid}
use Rattle.frame_symbols.proofs.ValidityBands.{bands_valid}
use Rattle.frame_symbols.proofs.ValidityParts.{opening_valid, coarse_valid, fine_valid, last_valid, shaping_valid, collapse_valid}
use Rattle.frame_symbols.proofs.ValidityShares.{allocation_valid, allocation_fine}
use Rattle.frame_symbols.proofs.ValiditySteps.{valid_done, valid_look, valid_given, valid_then, valid_bit}

-- fine energies of few bits
abbrev FineFew : Kind → Amounts → Type 0
FineFew kind m = (band : ℕ) → band < kind.end → slice_index m.allocation.fine band ≤ 24

abbrev amounts_as : Allocation → ℕ → Amounts
amounts_as a reserve = record { allocation = a; reserve = reserve }

amounts_few : (kind : Kind) (s : Shaping) (rest : ℤ) (reserve : ℕ) (m : Amounts) → MayGive (amounts_by kind s rest reserve) m → FineFew kind m
unfolding amounts_by
amounts_few kind s rest reserve m gives =
    let g = gave (allocation_script kind (rest -ℤ pos reserve) s.boosts (pos s.trim)) (λ a. Done (amounts_as a reserve)) m gives in
    subst (FineFew kind) (sym g.second) (allocation_fine kind (rest -ℤ pos reserve) s.boosts (pos s.trim) g.value g.first)

all_few : (kind : Kind) (len : ℕ) (s : Shaping) (m : Amounts) → MayGive (amounts_script kind len s) m → FineFew kind m
unfolding amounts_script
all_few kind len s m gives =
    let rest = rest_of len (tell_frac_of gives.0) in amounts_few kind s rest (reserve_of kind s.settings.transient rest) m gives.1

amounts_valid : (kind : Kind) (len : ℕ) (s : Shaping) → IsAllValid (amounts_script kind len s)
unfolding amounts_script amounts_by
amounts_valid kind len s = valid_look (λ pace. valid_then (allocation_valid kind _ s.boosts (pos s.trim)) (λ a. valid_done))

ending_valid : (kind : Kind) (len : ℕ) (o : Opening) (coarse : List (List ℤ)) (s : Shaping) (m : Amounts) → FineFew kind m
    → IsAllValid (ending_script kind len o coarse s m)
unfolding ending_script
ending_valid kind len o coarse s m few =
    valid_then (fine_valid kind m.allocation few) (λ fine.
    valid_then (bands_valid kind s.settings m.allocation _) (λ plans.
    valid_then (collapse_valid m.reserve) (λ collapse.
    valid_then (last_valid kind m.allocation (8 * len)) (λ last. valid_done))))

sound_valid : (kind : Kind) (len : ℕ) → IsAllValid (sound_script kind len)
unfolding sound_script
sound_valid kind len =
    valid_then (opening_valid kind (8 * len)) (λ o.
    valid_then (coarse_valid kind o.intra (8 * len)) (λ coarse.
    valid_then (shaping_valid kind o.transient len) (λ s.
    valid_given (amounts_valid kind len s) (λ m gives. ending_valid kind len o coarse s m (all_few kind len s m gives)))))

unless_valid : (kind : Kind) (len : ℕ) (silent : Bool) → IsAllValid (unless_silent kind len silent)
unless_valid kind len true = valid_done
unless_valid kind len false = valid_then (sound_valid kind len) (λ sound. valid_done)

pub frame_valid : (kind : Kind) (len : ℕ) → IsAllValid (frame_script kind len)
unfolding frame_script
frame_valid kind len = valid_then (valid_bit _ 15 (omega arith) (omega arith)) (λ silent. unless_valid kind len silent)
