-- The first questions of a frame (RFC 6716, sections 4.3 and 4.3.7.1): the post-filter, whether the frame has short blocks,
-- and whether its energies are coded without the frame before.
use Rattle.std.specs.Prelude.{ℕ, ◌+◌, ◌-◌, ◌*◌, ◌^◌, ◌≤◌, Bool, false, if◌then◌else◌, nat_eq}
use Rattle.celt_base.specs.declared.coder.Place.TheVariants.{Silence, Filter, Octave, Period, Gain, Tapset, Transient, Intra}
use Rattle.celt_base.specs.declared.kind.Kind.{Kind}
use Rattle.celt_base.specs.declared.question.Question.TheVariants.{Table, Uniform, Raw}
use Rattle.celt_base.specs.declared.question.TableId.TheVariants.{Tapset as TapsetTable}
use Rattle.celt_base.specs.WalkScripts.{Script, Done, and_then, asks_bit, asks_number, bit_within}
use Rattle.frame_symbols.specs.declared.opening.PostFilter.{PostFilter}
use Rattle.frame_symbols.specs.Askings.{number_within}

abbrev pub silence_script : Script Bool
silence_script = asks_bit Silence 15

abbrev pub off : PostFilter
off = record { period = 15; gain = 0; tapset = 0 }

abbrev pub post_filter_of : ℕ → ℕ → ℕ → ℕ → PostFilter
post_filter_of octave place gain tapset =
    record { period = 2 ^ octave * 16 + place - 1; gain = 3072 * (gain + 1); tapset = tapset }

unfoldable pub on_script : ℕ → Script PostFilter
on_script budget =
    and_then (asks_number Octave (Uniform 6)) (λ octave.
    and_then (asks_number (Period octave) (Raw (4 + octave))) (λ place.
    and_then (asks_number Gain (Raw 3)) (λ gain.
    and_then (number_within Tapset (Table TapsetTable) 2 budget 0) (λ tapset. Done (post_filter_of octave place gain tapset)))))

-- The post-filter of a frame of `budget` bits.
unfoldable pub filter_script : ℕ → Script PostFilter
filter_script budget =
    and_then (bit_within Filter 1 16 budget) (λ on. if on then on_script budget else Done off)

unfoldable pub transient_script : Kind → ℕ → Script Bool
transient_script kind budget = if nat_eq kind.lm 0 then Done false else bit_within Transient 3 3 budget

abbrev pub intra_script : ℕ → Script Bool
intra_script budget = bit_within Intra 3 3 budget

-- A setting that the post-filter may have.
pub record IsPostFilter (post_filter : PostFilter) : Type 0 where
  pub least : 15 ≤ post_filter.period
  pub most : post_filter.period ≤ 1022
  pub gain : post_filter.gain ≤ 24576
  pub tapset : post_filter.tapset ≤ 2
