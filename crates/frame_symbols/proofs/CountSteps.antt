-- How many questions the parts of a frame ask at most.
use Rattle.std.proofs.Common.{◌≡◌, ℕ, zero, suc, ◌+◌, ◌-◌, ◌*◌, List, Bool, true, false, ◌&&◌, nat_eq, nat_le, subst, arith}
use Rattle.std.specs.Prelude.{ℤ, pos}
use Rattle.band_energy.specs.EnergyScripts.{coarse_script, fine_script, last_script}
use Rattle.band_energy.proofs.EnergyLaws.{coarse_most, fine_most, last_most}
use Rattle.bit_allocation.specs.Scripts.{allocation_script}
use Rattle.celt_base.proofs.BandEnds.{end_most}
use Rattle.bit_allocation.proofs.LawLemmas.{questions_law}
use Rattle.band_plan.proofs.CountLaws.{most_bands}
use Rattle.celt_base.specs.declared.coder.Place.{Place}
use Rattle.celt_base.specs.declared.kind.Kind.{Kind}
use Rattle.celt_base.specs.declared.question.Question.{Question}
use Rattle.celt_base.specs.Paces.{tell_of, tell_frac_of}
use Rattle.celt_base.specs.WalkOrders.{IsMost}
use Rattle.celt_base.proofs.CountSteps.{most_none, with_most, then_most, more_most, look_most, most_if, answer_most, bit_most, number_most, within_most}
use Rattle.frame_symbols.specs.declared.boosts.Band.{Band}
use Rattle.frame_symbols.specs.declared.fields.Amounts.{Amounts}
use Rattle.frame_symbols.specs.declared.fields.Opening.{Opening}
use Rattle.frame_symbols.specs.declared.fields.Shaping.{Shaping}
use Rattle.frame_symbols.specs.Askings.{number_within, number_within_eighths}
use Rattle.band_plan.specs.Plans.{bands_script}
use Rattle.frame_symbols.specs.Boosts.{band_of, may_boost, turn_script, turns_script, boosts_from, boosts_script, trim_script}
use Rattle.frame_symbols.specs.Changes.{flags_script, select_script, differ, kept_of, changes_by, changes_script, any_below, turned}
use Rattle.frame_symbols.specs.Openings.{on_script, filter_script, transient_script}
use Rattle.frame_symbols.specs.Frames.{opening_script, spread_script, shaping_script, amounts_by, amounts_script, collapse_script, ending_script, sound_script, unless_silent, frame_script}

number_within_most : (at : Place) (question : Question) (cost budget other : ℕ) → IsMost 1 (number_within at question cost budget other)
unfolding number_within
number_within_most at question cost budget other = look_most (λ pace. most_if 1 (nat_le (tell_of pace + cost) budget) (number_most at question) most_none)

eighths_most : (at : Place) (question : Question) (cost budget other : ℕ) → IsMost 1 (number_within_eighths at question cost budget other)
unfolding number_within_eighths
eighths_most at question cost budget other = look_most (λ pace. most_if 1 (nat_le (tell_frac_of pace + cost) budget) (number_most at question) most_none)

on_most : (budget : ℕ) → IsMost 4 (on_script budget)
unfolding on_script
on_most budget = then_most 1 3 (number_most _ _) (λ octave. then_most 1 2 (number_most _ _) (λ place. then_most 1 1 (number_most _ _) (λ gain. then_most 1 0 (number_within_most _ _ _ _ _) (λ tapset. most_none))))

filter_most : (budget : ℕ) → IsMost 5 (filter_script budget)
unfolding filter_script
filter_most budget = then_most 1 4 (within_most _ _ _ _) (λ on. most_if 4 on (on_most budget) most_none)

transient_most : (kind : Kind) (budget : ℕ) → IsMost 1 (transient_script kind budget)
unfolding transient_script
transient_most kind budget = most_if 1 (nat_eq kind.lm 0) most_none (within_most _ _ _ _)

opening_most : (kind : Kind) (budget : ℕ) → IsMost 7 (opening_script kind budget)
unfolding opening_script
opening_most kind budget =
    then_most 5 2 (filter_most budget) (λ post_filter.
    then_most 1 1 (transient_most kind budget) (λ transient.
    then_most 1 0 (within_most _ _ _ _) (λ intra. most_none)))

flags_most : (transient : Bool) (budget left band : ℕ) (flag : Bool) (flags : List Bool) → IsMost left (flags_script transient budget left band flag flags)
unfolding flags_script
flags_most transient budget zero band flag flags = most_none
flags_most transient budget (suc left) band flag flags =
    let e : 1 + left ≡ suc left = omega arith in
    subst (λ n. IsMost n (flags_script transient budget (suc left) band flag flags)) e
    (then_most 1 left (within_most _ _ _ _) (λ turns. flags_most transient budget left (band + 1) (turned turns flag) _))

select_most : (lm : ℕ) (transient : Bool) (kept : ℕ) (any : Bool) → IsMost 1 (select_script lm transient kept any)
unfolding select_script
select_most lm transient kept any = most_if 1 (nat_eq kept 1 && differ lm transient any) (bit_most _ _) most_none

changes_most : (kind : Kind) (transient : Bool) (budget : ℕ) → IsMost 22 (changes_script kind transient budget)
unfolding changes_script changes_by
changes_most kind transient budget = look_most (λ pace.
    let kept = kept_of kind.lm transient budget (tell_of pace) in
    then_most 21 1 (more_most kind.end 21 (end_most kind) (flags_most transient (budget - kept) kind.end 0 false _)) (λ flags.
    then_most 1 0 (select_most kind.lm transient kept (any_below flags 21)) (λ select. most_none)))

turns_most : (b : Band) (left turn : ℕ) → IsMost left (turns_script b left turn)
unfolding turns_script turn_script
turns_most b zero turn = most_none
turns_most b (suc left) turn =
    let e : 1 + left ≡ suc left = omega arith in
    subst (λ n. IsMost n (turns_script b (suc left) turn)) e
    (then_most 1 left
    (look_most (λ pace. most_if 1 (may_boost b turn (tell_frac_of pace)) (bit_most _ _) most_none))
    (λ more. most_if left more (turns_most b left (turn + 1)) most_none))

boosts_most : (kind : Kind) (eighths left band : ℕ) (boosts : List ℤ) → IsMost (left * 76) (boosts_from kind eighths left band boosts)
unfolding boosts_from
boosts_most kind eighths zero band boosts = most_none
boosts_most kind eighths (suc left) band boosts =
    let e : 76 + left * 76 ≡ suc left * 76 = omega arith in
    subst (λ n. IsMost n (boosts_from kind eighths (suc left) band boosts)) e
    (then_most 76 (left * 76) (turns_most (band_of kind eighths boosts band) 76 0) (λ turns. boosts_most kind eighths left (band + 1) _))

shaping_most : (kind : Kind) (transient : Bool) (len : ℕ) → IsMost 1620 (shaping_script kind transient len)
unfolding shaping_script spread_script boosts_script trim_script
shaping_most kind transient len =
    then_most 22 1598 (changes_most kind transient (8 * len)) (λ changes.
    then_most 1 1597 (number_within_most _ _ _ _ _) (λ spread.
    then_most 1596 1 (more_most (kind.end * 76) 1596 (let e = end_most kind in omega (arith, e)) (boosts_most kind (64 * len) kind.end 0 _)) (λ boosts.
    then_most 1 0 (eighths_most _ _ _ _ _) (λ trim. most_none))))

amounts_most : (kind : Kind) (len : ℕ) (s : Shaping) → IsMost 22 (amounts_script kind len s)
unfolding amounts_script amounts_by
amounts_most kind len s = look_most (λ pace. then_most 22 0 (with_most 22 (allocation_script kind _ s.boosts (pos s.trim)) (questions_law kind _ s.boosts (pos s.trim))) (λ a. most_none))

collapse_most : (reserve : ℕ) → IsMost 1 (collapse_script reserve)
unfolding collapse_script
collapse_most reserve = most_if 1 (nat_eq reserve 0) most_none (then_most 1 0 (answer_most _ _) (λ answer. most_none))

ending_most : (kind : Kind) (len : ℕ) (o : Opening) (coarse : List (List ℤ)) (s : Shaping) (m : Amounts) → IsMost 1408 (ending_script kind len o coarse s m)
unfolding ending_script
ending_most kind len o coarse s m =
    then_most 42 1366 (with_most 42 (fine_script kind m.allocation) (fine_most kind m.allocation)) (λ fine.
    then_most 1323 43 (with_most 1323 (bands_script kind s.settings m.allocation _) (most_bands kind s.settings m.allocation _)) (λ plans.
    then_most 1 42 (collapse_most m.reserve) (λ collapse.
    then_most 42 0 (with_most 42 (last_script kind m.allocation (8 * len)) (last_most kind m.allocation (8 * len))) (λ last. most_none))))

sound_most : (kind : Kind) (len : ℕ) → IsMost 3099 (sound_script kind len)
unfolding sound_script
sound_most kind len =
    then_most 7 3092 (opening_most kind (8 * len)) (λ o.
    then_most 42 3050 (with_most 42 (coarse_script kind o.intra (8 * len)) (coarse_most kind o.intra (8 * len))) (λ coarse.
    then_most 1620 1430 (shaping_most kind o.transient len) (λ s.
    then_most 22 1408 (amounts_most kind len s) (λ m. ending_most kind len o coarse s m))))

unless_most : (kind : Kind) (len : ℕ) (silent : Bool) → IsMost 3099 (unless_silent kind len silent)
unless_most kind len true = most_none
unless_most kind len false = then_most 3099 0 (sound_most kind len) (λ sound. most_none)

pub frame_most : (kind : Kind) (len : ℕ) → IsMost 3100 (frame_script kind len)
unfolding frame_script
frame_most kind len = then_most 1 3099 (bit_most _ _) (λ silent. unless_most kind len silent)
