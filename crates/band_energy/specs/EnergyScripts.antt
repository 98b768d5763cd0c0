-- Which questions of the energies are asked, and what comes of the answers (RFC 6716, section 4.3.2). Each script's value
-- is a row for each band, with an entry for each channel.
use Rattle.std.specs.Prelude.{ℕ, zero, suc, ◌+◌, ◌-◌, ◌*◌, nat_le, nat_lt, Bool, true, false, ◌&&◌, if◌then◌else◌, List, [], ◌∷◌, slice_index, slice_index_or, ℤ, negsuc, unsigned_abs, Option, None, Some}
use Rattle.celt_base.specs.declared.coder.Place.TheVariants.{Coarse, Fine, Last}
use Rattle.celt_base.specs.declared.kind.Kind.{Kind}
use Rattle.celt_base.specs.declared.question.Question.{Question}
use Rattle.celt_base.specs.declared.question.Question.TheVariants.{Bit, Table, Laplace, Raw}
use Rattle.celt_base.specs.declared.question.TableId.TheVariants.{Small}
use Rattle.celt_base.specs.declared.state.Allocation.{Allocation}
use Rattle.celt_base.specs.Paces.{tell_of}
use Rattle.celt_base.specs.WalkScripts.{Script, Done, Look, and_then, asks_at, asks_value_at, table}
use Rattle.celt_tables.specs.Tables.{fs_of, decay_of}

-- The question of a coarse energy where `left` bits of the budget are left: by the energy's model from 15 bits on, the
-- small table from 2, a bit from 1, and none without a bit (RFC 6716, section 4.3.2.1).
unfoldable pub question_for : ℕ → Bool → ℕ → ℕ → Option Question
question_for lm intra band left =
    if nat_le 15 left then Some (Laplace (fs_of lm intra band) (decay_of lm intra band))
    else (if nat_le 2 left then Some (Table Small) else (if nat_le 1 left then Some (Bit 1) else None))

-- Its value; where nothing is asked it is -1.
unfoldable pub value_script : ℕ → ℕ → Option Question → Script ℤ
value_script band channel None = Done (negsuc 0)
value_script band channel (Some question) = asks_value_at (Coarse band channel) question

unfoldable pub coarse_at : ℕ → Bool → ℕ → ℕ → ℕ → Script ℤ
coarse_at lm intra budget band channel =
    Look (λ pace. value_script band channel (question_for lm intra band (budget - tell_of pace)))

-- The coarse energies of a frame of `budget` bits.
unfoldable pub coarse_script : Kind → Bool → ℕ → Script (List (List ℤ))
coarse_script kind intra budget = table (coarse_at kind.lm intra budget) kind.channels kind.end

-- A fine energy of so many bits is that number of raw bits; of none it is 0 (RFC 6716, section 4.3.2.2).
unfoldable pub bits_script : ℕ → ℕ → ℕ → Script ℕ
bits_script band channel zero = Done 0
bits_script band channel (suc bits) =
    and_then (asks_at (Fine band channel (suc bits)) (Raw (suc bits))) (λ answer. Done (unsigned_abs answer))

unfoldable pub fine_at : List ℕ → ℕ → ℕ → Script ℕ
fine_at fine band channel = bits_script band channel (slice_index fine band)

-- The fine energies of a frame.
unfoldable pub fine_script : Kind → Allocation → Script (List (List ℕ))
fine_script kind a = table (fine_at a.fine) kind.channels kind.end

-- The bits that are left at the end go to the bands in two rounds: in the first to those without priority, in the second
-- to those with it. Bands with a fine energy of eight bits or more are passed over (RFC 6716, section 4.3.2.2).
abbrev pub is_same : Bool → Bool → Bool
is_same true b = b
is_same false true = false
is_same false false = true

abbrev pub is_in_round : Allocation → Bool → ℕ → Bool
is_in_round a second band = nat_lt (slice_index a.fine band) 8 && is_same (slice_index_or a.priority band false) second

-- How many bands below `n` are in the round.
abbrev pub bands_in : Allocation → Bool → ℕ → ℕ
bands_in a second zero = 0
bands_in a second (suc n) = bands_in a second n + (if is_in_round a second n then 1 else 0)

-- A band of the round is reached where a bit for each channel is left, those before it having theirs.
unfoldable pub is_reached : ℕ → Allocation → Bool → ℕ → ℕ → Bool
is_reached channels a second left band =
    is_in_round a second band && nat_le (channels * bands_in a second band + channels) left

unfoldable pub last_bit : ℕ → ℕ → Script (Option ℕ)
last_bit band channel = and_then (asks_at (Last band channel) (Raw 1)) (λ answer. Done (Some (unsigned_abs answer)))

unfoldable pub last_at : ℕ → Allocation → Bool → ℕ → ℕ → ℕ → Script (Option ℕ)
last_at channels a second left band channel =
    if is_reached channels a second left band then last_bit band channel else Done None

-- A round, where `left` bits are left at its start.
abbrev pub round_script : Kind → Allocation → Bool → ℕ → Script (List (List (Option ℕ)))
round_script kind a second left = table (last_at kind.channels a second left) kind.channels kind.end

-- A band has its bit from the first round or else from the second.
abbrev pub either : Option ℕ → Option ℕ → Option ℕ
either (Some bit) other = Some bit
either None other = other

abbrev pub each_either : List (Option ℕ) → List (Option ℕ) → List (Option ℕ)
each_either [] ys = []
each_either (x ∷ xs) [] = []
each_either (x ∷ xs) (y ∷ ys) = either x y ∷ each_either xs ys

abbrev pub rows_either : List (List (Option ℕ)) → List (List (Option ℕ)) → List (List (Option ℕ))
rows_either [] ys = []
rows_either (x ∷ xs) [] = []
rows_either (x ∷ xs) (y ∷ ys) = each_either x y ∷ rows_either xs ys

abbrev pub rounds_script : Kind → Allocation → ℕ → Script (List (List (Option ℕ)))
rounds_script kind a left =
    and_then (round_script kind a false left) (λ first.
    and_then (round_script kind a true (left - kind.channels * bands_in a false kind.end)) (λ second. Done (rows_either first second)))

-- The last bits of the energies of a frame of `budget` bits.
unfoldable pub last_script : Kind → Allocation → ℕ → Script (List (List (Option ℕ)))
last_script kind a budget = Look (λ pace. rounds_script kind a (budget - tell_of pace))
