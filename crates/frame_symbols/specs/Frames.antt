-- The questions of a whole frame in their order (RFC 6716, section 4.3, table 56), for every kind of frame and every number
-- of bytes. Bits are whole; what `64 * len` and `tell_frac_of` count is eighths of a bit.
use Rattle.std.specs.Prelude.{ℕ, ◌+◌, ◌-◌, ◌*◌, nat_eq, nat_le, Bool, true, false, ◌&&◌, if◌then◌else◌, List, ℤ, pos, ◌-ℤ◌, int_le, Option, None, Some}
use Rattle.band_energy.specs.EnergyScripts.{coarse_script, fine_script, last_script}
use Rattle.bit_allocation.specs.Scripts.{allocation_script}
use Rattle.celt_base.specs.declared.coder.Place.TheVariants.{Spread, Collapse}
use Rattle.celt_base.specs.declared.kind.Kind.{Kind}
use Rattle.celt_base.specs.declared.question.Question.TheVariants.{Table, Raw}
use Rattle.celt_base.specs.declared.question.TableId.TheVariants.{Spread as SpreadTable}
use Rattle.celt_base.specs.Paces.{Pace, pace_of, tell_frac_of}
use Rattle.celt_base.specs.Intervals.{whole}
use Rattle.celt_base.specs.Questions.{Answered}
use Rattle.celt_base.specs.WalkOrders.{Next, next}
use Rattle.celt_base.specs.WalkScripts.{Script, Done, Look, and_then, asks_at, is_one}
use Rattle.frame_symbols.specs.declared.fields.Amounts.{Amounts}
use Rattle.frame_symbols.specs.declared.fields.Opening.{Opening}
use Rattle.frame_symbols.specs.declared.fields.Shaping.{Shaping}
use Rattle.frame_symbols.specs.Askings.{number_within}
use Rattle.band_plan.specs.Plans.{Planned, bands_script}
use Rattle.frame_symbols.specs.Boosts.{boosts_script, trim_script}
use Rattle.frame_symbols.specs.Changes.{changes_script}
use Rattle.frame_symbols.specs.Openings.{silence_script, filter_script, transient_script, intra_script}

-- The post-filter, short blocks, and energies without the frame before.
unfoldable pub opening_script : Kind → ℕ → Script Opening
opening_script kind budget =
    and_then (filter_script budget) (λ post_filter.
    and_then (transient_script kind budget) (λ transient.
    and_then (intra_script budget) (λ intra. Done (record { post_filter = post_filter; transient = transient; intra = intra }))))

unfoldable pub spread_script : ℕ → Script ℕ
spread_script budget = number_within Spread (Table SpreadTable) 4 budget 2

-- The time-frequency changes, the spreading, the boosts and the trim.
unfoldable pub shaping_script : Kind → Bool → ℕ → Script Shaping
shaping_script kind transient len =
    and_then (changes_script kind transient (8 * len)) (λ changes.
    and_then (spread_script (8 * len)) (λ spread.
    and_then (boosts_script kind (64 * len)) (λ boosts.
    and_then (trim_script (64 * len) boosts) (λ trim.
    Done (record { settings = record { transient = transient; spread = spread; tf = changes }; boosts = boosts; trim = trim })))))

-- what is left of the frame behind the trim, in eighths of a bit
abbrev pub rest_of : ℕ → ℕ → ℤ
rest_of len tell = (pos (64 * len) -ℤ pos tell) -ℤ pos 1

-- A bit is kept for the filling of collapsed blocks.
unfoldable pub reserve_of : Kind → Bool → ℤ → ℕ
reserve_of kind transient rest =
    if transient && (nat_le 2 kind.lm && int_le (pos (8 * (kind.lm + 2))) rest) then 8 else 0

unfoldable pub amounts_by : Kind → Shaping → ℤ → ℕ → Script Amounts
amounts_by kind s rest reserve =
    and_then (allocation_script kind (rest -ℤ pos reserve) s.boosts (pos s.trim)) (λ a. Done (record { allocation = a; reserve = reserve }))

-- The allocation, and what is kept.
unfoldable pub amounts_script : Kind → ℕ → Shaping → Script Amounts
amounts_script kind len s =
    Look (λ pace. amounts_by kind s (rest_of len (tell_frac_of pace)) (reserve_of kind s.settings.transient (rest_of len (tell_frac_of pace))))

unfoldable pub collapse_script : ℕ → Script Bool
collapse_script reserve =
    if nat_eq reserve 0 then Done false else and_then (asks_at Collapse (Raw 1)) (λ answer. Done (is_one answer))

-- What the questions of a frame that is not silent came to. The energies have a row for each band.
pub record Sound : Type 0 where
  pub opening : Opening
  pub coarse : List (List ℤ)
  pub shaping : Shaping
  pub amounts : Amounts
  pub fine : List (List ℕ)
  pub plans : List Planned
  pub collapse : Bool
  pub last : List (List (Option ℕ))

unfoldable pub ending_script : Kind → ℕ → Opening → List (List ℤ) → Shaping → Amounts → Script Sound
ending_script kind len o coarse s m =
    and_then (fine_script kind m.allocation) (λ fine.
    and_then (bands_script kind s.settings m.allocation (pos (64 * len - m.reserve))) (λ plans.
    and_then (collapse_script m.reserve) (λ collapse.
    and_then (last_script kind m.allocation (8 * len)) (λ last. Done (record {
      opening = o;
      coarse = coarse;
      shaping = s;
      amounts = m;
      fine = fine;
      plans = plans;
      collapse = collapse;
      last = last;
    })))))

unfoldable pub sound_script : Kind → ℕ → Script Sound
sound_script kind len =
    and_then (opening_script kind (8 * len)) (λ o.
    and_then (coarse_script kind o.intra (8 * len)) (λ coarse.
    and_then (shaping_script kind o.transient len) (λ s.
    and_then (amounts_script kind len s) (λ m. ending_script kind len o coarse s m))))

abbrev pub unless_silent : Kind → ℕ → Bool → Script (Option Sound)
unless_silent kind len true = Done None
unless_silent kind len false = and_then (sound_script kind len) (λ sound. Done (Some sound))

-- A frame of `len` bytes; None where it is silent.
unfoldable pub frame_script : Kind → ℕ → Script (Option Sound)
frame_script kind len = and_then silence_script (unless_silent kind len)

-- the pace at the start of a frame
abbrev pub first_pace : Pace
first_pace = pace_of whole

-- The place and the question that follow a list of questions with answers, or the end.
abbrev pub frame_next : Kind → ℕ → List Answered → Next
frame_next kind len list = next (frame_script kind len) first_pace list
