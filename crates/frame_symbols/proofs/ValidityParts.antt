-- Each question of the openings, of the energies, of the changes and of the boosts is valid.
use Rattle.std.proofs.Common.{ℕ, zero, suc, ◌+◌, ◌-◌, ◌*◌, ◌<◌, ◌≤◌, List, Bool, true, false, ◌&&◌, nat_eq, nat_le, if◌then◌else◌, arith}
use Rattle.std.specs.Prelude.{ℤ, max, Option, None, Some, IfSome, slice_index}
use Rattle.band_energy.specs.EnergyScripts.{question_for, value_script, coarse_at, coarse_script, bits_script, fine_at, fine_script, is_reached, last_bit, last_at, round_script, last_script, bands_in}
use Rattle.celt_base.proofs.BandEnds.{end_most}
use Rattle.celt_base.specs.declared.coder.Place.TheVariants.{Octave, Period, Gain, Tapset, Spread, Trim, Coarse, Fine, Last}
use Rattle.celt_base.specs.declared.kind.Kind.{Kind}
use Rattle.celt_base.specs.declared.question.Question.{Question}
use Rattle.celt_base.specs.declared.question.Question.TheVariants.{Bit, Table, Uniform, Laplace, Raw}
use Rattle.celt_base.specs.declared.question.TableId.TheVariants.{Tapset as TapsetTable, Small, Spread as SpreadTable, Trim as TrimTable}
use Rattle.celt_base.specs.declared.state.Allocation.{Allocation}
use Rattle.celt_base.specs.Paces.{tell_of, tell_frac_of}
use Rattle.celt_base.specs.Questions.{IsValid}
use Rattle.celt_tables.specs.Tables.{fs_of, decay_of}
use Rattle.celt_tables.proofs.Entries.{model_valid}
use Rattle.frame_symbols.specs.declared.boosts.Band.{Band}
use Rattle.frame_symbols.specs.Boosts.{band_of, weight_of as boost_weight, may_boost, turn_script, turns_script, boosts_from, boosts_script, trim_script, taken_below, boosted_below}
use Rattle.frame_symbols.specs.Changes.{weight_of, flags_script, select_script, differ, kept_of, changes_by, changes_script, any_below, turned}
use Rattle.frame_symbols.specs.Openings.{on_script, filter_script, transient_script}
use Rattle.frame_symbols.specs.Frames.{opening_script, spread_script, shaping_script, collapse_script}
use Rattle.frame_symbols.specs.Validity.{IsAllValid}
use Rattle.frame_symbols.proofs.ValiditySteps.{valid_done, valid_look, valid_given, valid_then, valid_if, valid_answer, valid_value, valid_number, valid_bit, valid_bit_within, valid_number_within, valid_eighths_within, valid_table, number_below}
use Rattle.range_coder.specs.Codes.{FitsType}

-- openings
period_valid : (octave : ℕ) → octave < 6 → IsValid (Raw (4 + octave))
period_valid octave below = (omega arith, omega (arith, below))

on_valid : (budget : ℕ) → IsAllValid (on_script budget)
unfolding on_script
on_valid budget =
    valid_given (valid_number Octave (Uniform 6) (omega arith) (omega arith)) (λ octave gives.
    valid_then (valid_number (Period octave) (Raw (4 + octave)) (period_valid octave (number_below Octave 6 octave gives)) tt) (λ place.
    valid_then (valid_number Gain (Raw 3) (omega arith, omega arith) tt) (λ gain.
    valid_then (valid_number_within Tapset (Table TapsetTable) 2 budget 0 tt tt) (λ tapset. valid_done))))

filter_valid : (budget : ℕ) → IsAllValid (filter_script budget)
unfolding filter_script
filter_valid budget = valid_then (valid_bit_within _ 1 16 budget (omega arith) (omega arith)) (λ on. valid_if on (on_valid budget) valid_done)

transient_valid : (kind : Kind) (budget : ℕ) → IsAllValid (transient_script kind budget)
unfolding transient_script
transient_valid kind budget = valid_if (nat_eq kind.lm 0) valid_done (valid_bit_within _ 3 3 budget (omega arith) (omega arith))

pub opening_valid : (kind : Kind) (budget : ℕ) → IsAllValid (opening_script kind budget)
unfolding opening_script
opening_valid kind budget =
    valid_then (filter_valid budget) (λ post_filter.
    valid_then (transient_valid kind budget) (λ transient.
    valid_then (valid_bit_within _ 3 3 budget (omega arith) (omega arith)) (λ intra. valid_done)))

-- energies
FitsEnergy : Question → Type 0
FitsEnergy question = IsValid question × FitsType question

question_fits : (lm : ℕ) (intra : Bool) (band left : ℕ) → lm < 4 → band < 21 → IfSome (question_for lm intra band left) FitsEnergy
unfolding question_for FitsEnergy
question_fits lm intra band left size inside = by_tests (nat_le 15 left) (nat_le 2 left) (nat_le 1 left)
  where
    by_tests : (a b c : Bool)
        → IfSome (if a then Some (Laplace (fs_of lm intra band) (decay_of lm intra band)) else (if b then Some (Table Small) else (if c then Some (Bit 1) else None))) FitsEnergy
    by_tests true b c = (model_valid lm intra band size inside, tt)
    by_tests false true c = (tt, tt)
    by_tests false false true = ((omega arith, omega arith), tt)
    by_tests false false false = tt

value_valid : (band channel : ℕ) (question : Option Question) → IfSome question FitsEnergy → IsAllValid (value_script band channel question)
unfolding value_script FitsEnergy
value_valid band channel None fits = valid_done
value_valid band channel (Some question) fits = valid_value (Coarse band channel) question fits.0 fits.1

coarse_at_valid : (lm : ℕ) (intra : Bool) (budget band channel : ℕ) → lm < 4 → band < 21 → IsAllValid (coarse_at lm intra budget band channel)
unfolding coarse_at
coarse_at_valid lm intra budget band channel size inside =
    valid_look (λ pace. value_valid band channel (question_for lm intra band (budget - tell_of pace)) (question_fits lm intra band (budget - tell_of pace) size inside))

pub coarse_valid : (kind : Kind) (intra : Bool) (budget : ℕ) → IsAllValid (coarse_script kind intra budget)
unfolding coarse_script
coarse_valid kind intra budget =
    let size = kind.sized in
    let end = end_most kind in
    valid_table (coarse_at kind.lm intra budget) kind.channels kind.end
    (λ band channel inside. coarse_at_valid kind.lm intra budget band channel (omega (arith, size)) (omega (arith, end, inside)))

bits_valid : (band channel bits : ℕ) → bits ≤ 24 → IsAllValid (bits_script band channel bits)
unfolding bits_script
bits_valid band channel zero few = valid_done
bits_valid band channel (suc bits) few =
    valid_then (valid_answer (Fine band channel (suc bits)) (Raw (suc bits)) (omega arith, few) tt) (λ answer. valid_done)

pub fine_valid : (kind : Kind) (a : Allocation) → ((band : ℕ) → band < kind.end → slice_index a.fine band ≤ 24) → IsAllValid (fine_script kind a)
unfolding fine_script fine_at
fine_valid kind a few =
    valid_table (fine_at a.fine) kind.channels kind.end (λ band channel inside. bits_valid band channel (slice_index a.fine band) (few band inside))

last_bit_valid : (band channel : ℕ) → IsAllValid (last_bit band channel)
unfolding last_bit
last_bit_valid band channel = valid_then (valid_answer (Last band channel) (Raw 1) (omega arith, omega arith) tt) (λ answer. valid_done)

round_valid : (kind : Kind) (a : Allocation) (second : Bool) (left : ℕ) → IsAllValid (round_script kind a second left)
unfolding last_at
round_valid kind a second left =
    valid_table (last_at kind.channels a second left) kind.channels kind.end
    (λ band channel inside. valid_if (is_reached kind.channels a second left band) (last_bit_valid band channel) valid_done)

pub last_valid : (kind : Kind) (a : Allocation) (budget : ℕ) → IsAllValid (last_script kind a budget)
unfolding last_script
last_valid kind a budget =
    valid_look (λ pace.
    valid_then (round_valid kind a false (budget - tell_of pace)) (λ first.
    valid_then (round_valid kind a true (budget - tell_of pace - kind.channels * bands_in a false kind.end)) (λ second. valid_done)))

-- changes
weight_is : (transient : Bool) (band : ℕ) → (1 ≤ weight_of transient band) × (weight_of transient band ≤ 15)
unfolding weight_of
weight_is transient band = by_tests transient (nat_eq band 0)
  where
    by_tests : (transient first : Bool)
        → (1 ≤ (if first then (if transient then 2 else 4) else (if transient then 4 else 5)))
        × ((if first then (if transient then 2 else 4) else (if transient then 4 else 5)) ≤ 15)
    by_tests true true = (omega arith, omega arith)
    by_tests true false = (omega arith, omega arith)
    by_tests false true = (omega arith, omega arith)
    by_tests false false = (omega arith, omega arith)

flags_valid : (transient : Bool) (budget left band : ℕ) (flag : Bool) (flags : List Bool) → IsAllValid (flags_script transient budget left band flag flags)
unfolding flags_script
flags_valid transient budget zero band flag flags = valid_done
flags_valid transient budget (suc left) band flag flags =
    let w = weight_is transient band in
    valid_then (valid_bit_within _ (weight_of transient band) (weight_of transient band) budget w.0 w.1) (λ turns.
    flags_valid transient budget left (band + 1) (turned turns flag) _)

select_valid : (lm : ℕ) (transient : Bool) (kept : ℕ) (any : Bool) → IsAllValid (select_script lm transient kept any)
unfolding select_script
select_valid lm transient kept any = valid_if (nat_eq kept 1 && differ lm transient any) (valid_bit _ 1 (omega arith) (omega arith)) valid_done

changes_valid : (kind : Kind) (transient : Bool) (budget : ℕ) → IsAllValid (changes_script kind transient budget)
unfolding changes_script changes_by
changes_valid kind transient budget = valid_look (λ pace.
    let kept = kept_of kind.lm transient budget (tell_of pace) in
    valid_then (flags_valid transient (budget - kept) kind.end 0 false _) (λ flags.
    valid_then (select_valid kind.lm transient kept (any_below flags 21)) (λ select. valid_done)))

-- boosts
first_is : (boosted : ℕ) → (1 ≤ max 2 (6 - boosted)) × (max 2 (6 - boosted) ≤ 15)
first_is boosted = (omega arith, omega arith)

boost_weight_is : (b : Band) (turn : ℕ) → (1 ≤ b.first) × (b.first ≤ 15) → (1 ≤ boost_weight b turn) × (boost_weight b turn ≤ 15)
unfolding boost_weight
boost_weight_is b turn first = by_test (nat_eq turn 0)
  where
    by_test : (t : Bool) → (1 ≤ (if t then b.first else 1)) × ((if t then b.first else 1) ≤ 15)
    by_test true = first
    by_test false = (omega arith, omega arith)

turns_valid : (b : Band) (left turn : ℕ) → (1 ≤ b.first) × (b.first ≤ 15) → IsAllValid (turns_script b left turn)
unfolding turns_script turn_script
turns_valid b zero turn first = valid_done
turns_valid b (suc left) turn first =
    let w = boost_weight_is b turn first in
    valid_then (valid_look (λ pace. valid_if (may_boost b turn (tell_frac_of pace)) (valid_bit _ (boost_weight b turn) w.0 w.1) valid_done))
    (λ more. valid_if more (turns_valid b left (turn + 1) first) valid_done)

boosts_valid : (kind : Kind) (eighths left band : ℕ) (boosts : List ℤ) → IsAllValid (boosts_from kind eighths left band boosts)
unfolding boosts_from
boosts_valid kind eighths zero band boosts = valid_done
boosts_valid kind eighths (suc left) band boosts =
    valid_then (turns_valid (band_of kind eighths boosts band) 76 0 (first_is (boosted_below boosts band))) (λ turns.
    boosts_valid kind eighths left (band + 1) _)

pub shaping_valid : (kind : Kind) (transient : Bool) (len : ℕ) → IsAllValid (shaping_script kind transient len)
unfolding shaping_script spread_script boosts_script trim_script
shaping_valid kind transient len =
    valid_then (changes_valid kind transient (8 * len)) (λ changes.
    valid_then (valid_number_within Spread (Table SpreadTable) 4 (8 * len) 2 tt tt) (λ spread.
    valid_then (boosts_valid kind (64 * len) kind.end 0 _) (λ boosts.
    valid_then (valid_eighths_within Trim (Table TrimTable) (48 + taken_below boosts 21) (64 * len) 5 tt tt) (λ trim. valid_done))))

pub collapse_valid : (reserve : ℕ) → IsAllValid (collapse_script reserve)
unfolding collapse_script
collapse_valid reserve =
    valid_if (nat_eq reserve 0) valid_done (valid_then (valid_answer _ (Raw 1) (omega arith, omega arith) tt) (λ answer. valid_done))
