-- The boosts of the bands (RFC 6716, section 4.3.3), in eighths of a bit, and the trim. What is left of the frame is its
-- size less the quanta of the boosts so far.
use Rattle.std.specs.Prelude.{ℕ, zero, suc, ◌+◌, ◌-◌, ◌*◌, max, nat_eq, nat_lt, Bool, false, ◌&&◌, if◌then◌else◌, List, slice_index_or, slice_set, replicate, ℤ, pos, unsigned_abs}
use Rattle.bit_allocation.specs.Amounts.{most_of}
use Rattle.celt_tables.specs.Tables.{coefficients_of}
use Rattle.bit_allocation.specs.Requests.{quantum_of}
use Rattle.celt_base.specs.declared.coder.Place.TheVariants.{Boost, Trim}
use Rattle.celt_base.specs.declared.kind.Kind.{Kind}
use Rattle.celt_base.specs.declared.question.Question.TheVariants.{Table}
use Rattle.celt_base.specs.declared.question.TableId.TheVariants.{Trim as TrimTable}
use Rattle.celt_base.specs.Paces.{tell_frac_of}
use Rattle.celt_base.specs.WalkScripts.{Script, Done, Look, and_then, asks_bit}
use Rattle.frame_symbols.specs.declared.boosts.Band.{Band}
use Rattle.frame_symbols.specs.Askings.{number_within_eighths}

abbrev pub boost_at : List ℤ → ℕ → ℕ
boost_at boosts band = unsigned_abs (slice_index_or boosts band (pos 0))

-- what the bands below this one took, and how many of them are boosted
abbrev pub taken_below : List ℤ → ℕ → ℕ
taken_below boosts zero = 0
taken_below boosts (suc band) = taken_below boosts band + boost_at boosts band

abbrev pub boosted_below : List ℤ → ℕ → ℕ
boosted_below boosts zero = 0
boosted_below boosts (suc band) = boosted_below boosts band + (if nat_eq (boost_at boosts band) 0 then 0 else 1)

-- The first boost of a band has the probability 2^-p: p is 6, and one less for each boosted band, down to 2.
abbrev pub first_weight : List ℤ → ℕ → ℕ
first_weight boosts band = max 2 (6 - boosted_below boosts band)

-- A band before its boosts, in a frame of so many eighths of a bit.
abbrev pub band_of : Kind → ℕ → List ℤ → ℕ → Band
band_of kind eighths boosts band = record {
  band = band;
  quantum = quantum_of (coefficients_of kind band);
  cap = most_of kind band;
  first = first_weight boosts band;
  taken = taken_below boosts band;
  eighths = eighths;
}

-- Each boost of a band but the first has the probability 1/2.
unfoldable pub weight_of : Band → ℕ → ℕ
weight_of b turn = if nat_eq turn 0 then b.first else 1

-- There is room for one more boost, and the band is below its cap.
unfoldable pub may_boost : Band → ℕ → ℕ → Bool
may_boost b turn tell =
    nat_lt (tell + 8 * weight_of b turn + (b.taken + turn * b.quantum)) b.eighths && nat_lt (turn * b.quantum) b.cap

unfoldable pub turn_script : Band → ℕ → Script Bool
turn_script b turn =
    Look (λ pace. if may_boost b turn (tell_frac_of pace) then asks_bit (Boost b.band turn) (weight_of b turn) else Done false)

-- How many boosts a band has: at most `left` more than these.
unfoldable pub turns_script : Band → ℕ → ℕ → Script ℕ
turns_script b zero turn = Done turn
turns_script b (suc left) turn =
    and_then (turn_script b turn) (λ more. if more then turns_script b left (turn + 1) else Done turn)

-- The boosts of the bands from one on. No band's cap is beyond 76 boosts.
unfoldable pub boosts_from : Kind → ℕ → ℕ → ℕ → List ℤ → Script (List ℤ)
boosts_from kind eighths zero band boosts = Done boosts
boosts_from kind eighths (suc left) band boosts =
    and_then (turns_script (band_of kind eighths boosts band) 76 0) (λ turns.
    boosts_from kind eighths left (band + 1) (slice_set boosts band (pos (turns * quantum_of (coefficients_of kind band)))))

-- The boosts of a frame of so many eighths of a bit.
unfoldable pub boosts_script : Kind → ℕ → Script (List ℤ)
boosts_script kind eighths = boosts_from kind eighths kind.end 0 (replicate 21 (pos 0))

-- The trim, where six bits are left behind the boosts; else it is 5.
unfoldable pub trim_script : ℕ → List ℤ → Script ℕ
trim_script eighths boosts =
    number_within_eighths Trim (Table TrimTable) (48 + taken_below boosts 21) eighths 5
