-- What the definitions say: the entries of the energies, the numbers of questions, and the order of the last bits.
use Rattle.std.proofs.Common.{◌≡◌, ℕ, zero, suc, ◌+◌, ◌-◌, ◌*◌, ◌<◌, ◌≤◌, ◌&&◌, Bool, true, false, if◌then◌else◌, nat_le, nat_lt, List, [], ◌∷◌, ◌++◌, map, get_or, sym, ◌∙◌, ap, subst, add-one, refl, arith, rules, ◌^◌}
use Rattle.std.specs.Prelude.{ℤ, pos, negsuc, ◌+ℤ◌, ◌*ℤ◌, neg_ℤ, Option, None, Some, unsigned_abs, slice_index, slice_index_or}
use Rattle.std.specs.Int.{int_shr, int_max}
use Rattle.std.specs.List.{range_with_len}
use Rattle.std.proofs.lemmas.Bool.{and_parts}
use Rattle.std.proofs.lemmas.List.FromFn.{get_or-map-range_with_len}
use Rattle.std.proofs.lemmas.Nat.{mul-le}
use Rattle.celt_base.specs.declared.coder.Place.TheVariants.{Coarse, Fine, Last}
use Rattle.celt_base.specs.declared.question.Question.{Question}
use Rattle.celt_base.specs.declared.question.Question.TheVariants.{Raw}
use Rattle.celt_base.proofs.Below.{at_most}
use Rattle.std.proofs.lemmas.Bool.Decides.{nat_tests}
use Rattle.celt_base.specs.declared.kind.Kind.{Kind}
use Rattle.celt_base.specs.declared.state.Allocation.{Allocation}
use Rattle.celt_base.specs.Paces.{tell_of}
use Rattle.celt_base.specs.WalkOrders.{AtMost}
use Rattle.celt_base.specs.WalkScripts.{Done, and_then, asks_at, row_of, rows_of, table}
use Rattle.celt_base.proofs.WalkOrders.{most_more, most_then, most_each, most_table, most_answer, most_value}
use Rattle.band_energy.specs.declared.energy.Energy.{Energy}
use Rattle.band_energy.specs.EnergyScripts.{question_for, value_script, coarse_at, coarse_script, bits_script, fine_at, fine_script, is_same, is_in_round, bands_in, is_reached, last_bit, last_at, round_script, rounds_script, rows_either, last_script}
use Rattle.band_energy.specs.EnergyValues.{alpha_of, beta_of, kept_of, energy_by, energy_at, energies_of, carried, energy_from, fine_of, last_of}
use Rattle.celt_base.proofs.BandEnds.{end_most}
use Rattle.band_energy.proofs.LastRounds.{bands_rise, both_rounds}

pub entries : (kind : Kind) (intra : Bool) (a : Allocation) (e : Energy) (old : List (List ℤ)) (channel band : ℕ)
    → channel < 2 → band < 21
    → get_or (get_or (energies_of kind intra a e old) channel []) band (pos 0) ≡ energy_at kind intra a e old channel band
unfolding energies_of
entries kind intra a e old channel band two inside =
    ap (λ row. get_or row band (pos 0))
    (get_or-map-range_with_len (λ c. map (energy_at kind intra a e old c) (range_with_len 0 21)) 0 2 channel channel [] two (omega arith))
    ∙ get_or-map-range_with_len (energy_at kind intra a e old channel) 0 21 band band (pos 0) inside (omega arith)

-- an intra frame
zero_times : (z : ℤ) → pos 0 *ℤ z ≡ pos 0
zero_times (pos n) = ap pos (omega arith)
zero_times (negsuc n) = ap (λ k. neg_ℤ (pos k)) (let e : 0 * suc n ≡ 0 = omega arith in e)

none_kept : (old other : ℤ) → kept_of 0 old ≡ kept_of 0 other
unfolding kept_of
none_kept old other =
    ap (λ p. int_shr (p +ℤ pos 128) 8) (zero_times (int_max (neg_ℤ (pos 9216)) old) ∙ sym (zero_times (int_max (neg_ℤ (pos 9216)) other)))

same_energy : (beta : ℕ) (bits : List ℕ) (e : Energy) (channel : ℕ) (row other : List ℤ) (band : ℕ)
    → energy_by 0 beta bits e channel row band ≡ energy_by 0 beta bits e channel other band
unfolding energy_by
same_energy beta bits e channel row other band =
    let values : List ℤ = get_or e.coarse channel [] in
    ap
    (λ kept. energy_from (kept +ℤ carried beta values band +ℤ get_or values band (pos 0) *ℤ pos (2 ^ 17))
    +ℤ fine_of (slice_index bits band) (get_or (get_or e.fine channel []) band 0)
    +ℤ last_of (slice_index bits band) (get_or (get_or e.last channel []) band None))
    (none_kept (get_or row band (pos 0)) (get_or other band (pos 0)))

is_less : (a b : ℕ) → a < b → nat_lt a b ≡ true
is_less a b below = grind (arith, nat_tests)

and_true : (a b : Bool) → a ≡ true → b ≡ true → (a && b) ≡ true
and_true true b is_a is_b = is_b
and_true false b is_a is_b = is_a

pub coded : (kind : Kind) (intra : Bool) (a : Allocation) (e : Energy) (old : List (List ℤ)) (channel band : ℕ)
    → channel < kind.channels → band < kind.end
    → energy_at kind intra a e old channel band
    ≡ energy_by (alpha_of kind.lm intra) (beta_of kind.lm intra) a.fine e channel (get_or old channel []) band
unfolding energy_at
coded kind intra a e old channel band below inside =
    ap
    (λ t. if t then energy_by (alpha_of kind.lm intra) (beta_of kind.lm intra) a.fine e channel (get_or old channel []) band
    else get_or (get_or old channel []) band (pos 0))
    (and_true (nat_lt channel kind.channels) (nat_lt band kind.end) (is_less channel kind.channels below) (is_less band kind.end inside))

pub intra_same : (kind : Kind) (a : Allocation) (e : Energy) (old other : List (List ℤ)) (channel band : ℕ)
    → channel < kind.channels → band < kind.end
    → get_or (get_or (energies_of kind true a e old) channel []) band (pos 0)
    ≡ get_or (get_or (energies_of kind true a e other) channel []) band (pos 0)
intra_same kind a e old other channel band below inside =
    let two = kind.two_channels in
    let most = end_most kind in
    entries kind true a e old channel band (omega (arith, two, below)) (omega (arith, most, inside))
    ∙ coded kind true a e old channel band below inside
    ∙ same_energy 4915 a.fine e channel (get_or old channel []) (get_or other channel []) band
    ∙ sym (coded kind true a e other channel band below inside)
    ∙ sym (entries kind true a e other channel band (omega (arith, two, below)) (omega (arith, most, inside)))

-- at most one question an entry
most_asked : (band channel : ℕ) (question : Option Question) → AtMost 1 (value_script band channel question)
unfolding value_script
most_asked band channel None = tt
most_asked band channel (Some question) = most_value (Coarse band channel) question

most_coarse : (lm : ℕ) (intra : Bool) (budget band channel : ℕ) → AtMost 1 (coarse_at lm intra budget band channel)
unfolding coarse_at
most_coarse lm intra budget band channel = λ pace. most_asked band channel (question_for lm intra band (budget - tell_of pace))

most_fine : (band channel bits : ℕ) → AtMost 1 (bits_script band channel bits)
unfolding bits_script
most_fine band channel zero = tt
most_fine band channel (suc bits) =
    most_then (asks_at (Fine band channel (suc bits)) (Raw (suc bits))) (λ answer. Done (unsigned_abs answer)) 1 0 (most_answer (Fine band channel (suc bits)) (Raw (suc bits))) (λ value gives. tt)

most_last : (band channel : ℕ) → AtMost 1 (last_bit band channel)
unfolding last_bit
most_last band channel = most_then (asks_at (Last band channel) (Raw 1)) (λ answer. Done (Some (unsigned_abs answer))) 1 0 (most_answer (Last band channel) (Raw 1)) (λ value gives. tt)

kind_most : (kind : Kind) → kind.end * (kind.channels * 1) ≤ 42
kind_most kind =
    let two = kind.two_channels in
    mul-le kind.end (kind.channels * 1) 21 2 (end_most kind) (omega (arith, two))

pub coarse_most : (kind : Kind) (intra : Bool) (budget : ℕ) → AtMost 42 (coarse_script kind intra budget)
unfolding coarse_script
coarse_most kind intra budget =
    most_more (table (coarse_at kind.lm intra budget) kind.channels kind.end) (kind.end * (kind.channels * 1)) 42 (kind_most kind)
    (most_table (coarse_at kind.lm intra budget) 1 kind.channels kind.end (λ band channel inside below. most_coarse kind.lm intra budget band channel))

pub fine_most : (kind : Kind) (a : Allocation) → AtMost 42 (fine_script kind a)
unfolding fine_script fine_at
fine_most kind a =
    most_more (table (fine_at a.fine) kind.channels kind.end) (kind.end * (kind.channels * 1)) 42 (kind_most kind)
    (most_table (fine_at a.fine) 1 kind.channels kind.end (λ band channel inside below. most_fine band channel (slice_index a.fine band)))

-- how many bands of a round are reached
reached_below : ℕ → Allocation → Bool → ℕ → ℕ → ℕ
reached_below channels a second start zero = 0
reached_below channels a second start (suc n) =
    reached_below channels a second start n + (if is_reached channels a second start n then 1 else 0)

reached_rise : (channels : ℕ) (a : Allocation) (second : Bool) (start m left : ℕ)
    → reached_below channels a second start m ≤ reached_below channels a second start (m + left)
unfolding reached_below
reached_rise channels a second start m zero =
    let e : m + 0 ≡ m = omega arith in let f = ap (reached_below channels a second start) e in omega (arith, f)
reached_rise channels a second start m (suc left) =
    let before = reached_rise channels a second start m left in
    let e : m + suc left ≡ suc (m + left) = omega arith in
    let f = ap (reached_below channels a second start) e in omega (arith, before, f)

-- they are bands of the round, and there are bits for each of them
reached_few : (channels : ℕ) (a : Allocation) (second : Bool) (start n : ℕ)
    → (reached_below channels a second start n ≤ bands_in a second n) × (channels * reached_below channels a second start n ≤ start)
unfolding reached_below is_reached
reached_few channels a second start zero = (omega arith, omega arith)
reached_few channels a second start (suc n) =
    let before = reached_few channels a second start n in
    by_tests (is_in_round a second n) (nat_le (channels * bands_in a second n + channels) start) before.0 before.1
    (λ test. at_most (channels * bands_in a second n + channels) start test)
  where
    by_tests : (counted enough : Bool)
        → reached_below channels a second start n ≤ bands_in a second n
        → channels * reached_below channels a second start n ≤ start
        → (enough ≡ true → channels * bands_in a second n + channels ≤ start)
        → (reached_below channels a second start n + (if counted && enough then 1 else 0) ≤ bands_in a second n + (if counted then 1 else 0))
        × (channels * (reached_below channels a second start n + (if counted && enough then 1 else 0)) ≤ start)
    by_tests true true few bits test =
        let room = test refl in
        let fewer = mul-le channels (reached_below channels a second start n) channels (bands_in a second n) (omega arith) few in
        (omega arith, omega (arith, room, fewer))
    by_tests true false few bits test = (omega arith, omega (arith, bits))
    by_tests false enough few bits test = (omega arith, omega (arith, bits))

-- one band of a round
most_entry : (band channel : ℕ) (reached : Bool) → AtMost (if reached then 1 else 0) (if reached then last_bit band channel else Done None)
most_entry band channel true = most_last band channel
most_entry band channel false = tt

most_row : (channels : ℕ) (a : Allocation) (second : Bool) (start band : ℕ)
    → AtMost (channels * (if is_reached channels a second start band then 1 else 0)) (row_of (last_at channels a second start) band channels 0 [])
unfolding last_at
most_row channels a second start band =
    most_each (λ channel before. last_at channels a second start band channel) (if is_reached channels a second start band then 1 else 0) channels
    (λ channel before inside. most_entry band channel (is_reached channels a second start band))
    channels 0 [] (omega arith)

most_rows : (channels : ℕ) (a : Allocation) (second : Bool) (start : ℕ)
    → (left band : ℕ) (rows : List (List (Option ℕ)))
    → AtMost (channels * reached_below channels a second start (band + left) - channels * reached_below channels a second start band)
    (rows_of (last_at channels a second start) channels left band rows)
unfolding reached_below
most_rows channels a second start zero band rows = tt
most_rows channels a second start (suc left) band rows =
    let n : ℕ = if is_reached channels a second start band then 1 else 0 in
    let last : reached_below channels a second start (band + 1 + left) ≡ reached_below channels a second start (band + suc left) =
    ap (reached_below channels a second start) (omega arith) in
    let next : reached_below channels a second start (band + 1) ≡ reached_below channels a second start band + n =
    ap (reached_below channels a second start) (add-one band) in
    let rise = reached_rise channels a second start (band + 1) left in
    subst (λ k. AtMost k (rows_of (last_at channels a second start) channels (suc left) band rows))
    (sums channels (reached_below channels a second start band) n (reached_below channels a second start (band + 1))
    (reached_below channels a second start (band + 1 + left)) (reached_below channels a second start (band + suc left)) next last rise)
    (most_then (row_of (last_at channels a second start) band channels 0 [])
    (λ row. rows_of (last_at channels a second start) channels left (band + 1) (rows ++ row ∷ []))
    (channels * n)
    (channels * reached_below channels a second start (band + 1 + left) - channels * reached_below channels a second start (band + 1))
    (most_row channels a second start band)
    (λ row gives. most_rows channels a second start left (band + 1) (rows ++ row ∷ [])))
  where
    sums : (c at n next behind last : ℕ) → next ≡ at + n → behind ≡ last → next ≤ behind → c * n + (c * behind - c * next) ≡ c * last - c * at
    sums c at n next behind last is_next is_last rise =
        let m : c * next ≡ c * at + c * n = ap (λ k. c * k) is_next ∙ omega arith in
        let l : c * behind ≡ c * last = ap (λ k. c * k) is_last in
        let r = mul-le c next c behind (omega arith) rise in
        omega (arith, m, l, r)

most_round : (kind : Kind) (a : Allocation) (second : Bool) (start : ℕ)
    → AtMost (kind.channels * reached_below kind.channels a second start kind.end) (round_script kind a second start)
unfolding reached_below
most_round kind a second start =
    let same : reached_below kind.channels a second start (0 + kind.end) ≡ reached_below kind.channels a second start kind.end =
    ap (reached_below kind.channels a second start) (omega arith) in
    let e = ap (λ k. kind.channels * k) same in
    most_more (round_script kind a second start)
    (kind.channels * reached_below kind.channels a second start (0 + kind.end) - kind.channels * reached_below kind.channels a second start 0)
    (kind.channels * reached_below kind.channels a second start kind.end) (omega (arith, e))
    (most_rows kind.channels a second start kind.end 0 [])

most_rounds : (kind : Kind) (a : Allocation) (left n : ℕ)
    → kind.channels * reached_below kind.channels a false left kind.end
    + kind.channels * reached_below kind.channels a true (left - kind.channels * bands_in a false kind.end) kind.end ≤ n
    → AtMost n (rounds_script kind a left)
most_rounds kind a left n most =
    let rest = left - kind.channels * bands_in a false kind.end in
    let first = kind.channels * reached_below kind.channels a false left kind.end in
    let second = kind.channels * reached_below kind.channels a true rest kind.end in
    most_more (rounds_script kind a left) (first + (second + 0)) n (omega (arith, most))
    (most_then (round_script kind a false left) (λ rows. and_then (round_script kind a true rest) (λ others. Done (rows_either rows others))) first (second + 0)
    (most_round kind a false left)
    (λ rows gives. most_then (round_script kind a true rest) (λ others. Done (rows_either rows others)) second 0 (most_round kind a true rest) (λ others gives. tt)))

few_bits : (channels end first second round other : ℕ) → channels ≤ 2 → first ≤ round → second ≤ other → round + other ≤ end → end ≤ 21
    → channels * first + channels * second ≤ 42
few_bits channels end first second round other two few_first few_second both most =
    let m = mul-le channels (first + second) 2 21 two (omega arith) in omega (arith, m)

pub last_most : (kind : Kind) (a : Allocation) (budget : ℕ) → AtMost 42 (last_script kind a budget)
unfolding last_script
last_most kind a budget = λ pace.
    let left = budget - tell_of pace in
    let rest = left - kind.channels * bands_in a false kind.end in
    most_rounds kind a left 42
    (few_bits kind.channels kind.end (reached_below kind.channels a false left kind.end) (reached_below kind.channels a true rest kind.end)
    (bands_in a false kind.end) (bands_in a true kind.end) kind.two_channels
    (reached_few kind.channels a false left kind.end).0 (reached_few kind.channels a true rest kind.end).0 (both_rounds a kind.end) (end_most kind))

within : (channels left first second round : ℕ) → 1 ≤ channels → first ≤ round → channels * first ≤ left → channels * second ≤ left - channels * round
    → channels * first + channels * second ≤ left
within channels left first second round some few bits rest =
    let fewer = mul-le channels first channels round (omega arith) few in omega (arith, bits, rest, fewer)

-- no more bits are asked for than are left
pub rounds_within : (kind : Kind) (a : Allocation) (left : ℕ) → AtMost left (rounds_script kind a left)
rounds_within kind a left =
    let rest = left - kind.channels * bands_in a false kind.end in
    most_rounds kind a left left
    (within kind.channels left (reached_below kind.channels a false left kind.end) (reached_below kind.channels a true rest kind.end) (bands_in a false kind.end)
    kind.some_channel (reached_few kind.channels a false left kind.end).0 (reached_few kind.channels a false left kind.end).1 (reached_few kind.channels a true rest kind.end).1)

-- the order of the last bits
no_both : (small priority : Bool) → (small && is_same priority false) ≡ true → (small && is_same priority true) ≡ true → ⊥
no_both true true first second = absurd (search (rules, first))
no_both true false first second = absurd (search (rules, second))
no_both false priority first second = absurd (search (rules, first))

pub one_of_both : (a : Allocation) (band : ℕ) → is_in_round a false band ≡ true → is_in_round a true band ≡ true → ⊥
one_of_both a band = no_both (nat_lt (slice_index a.fine band) 8) (slice_index_or a.priority band false)

is_at_most : (m n : ℕ) → m ≤ n → nat_le m n ≡ true
is_at_most m n le = grind (arith, nat_tests)

reached_bits : (channels : ℕ) (a : Allocation) (second : Bool) (left band : ℕ)
    → is_reached channels a second left band ≡ true
    → channels * bands_in a second band + channels ≤ left
unfolding is_reached
reached_bits channels a second left band reached =
    at_most (channels * bands_in a second band + channels) left
    (and_parts (is_in_round a second band) (nat_le (channels * bands_in a second band + channels) left) reached).1

has_bits : (channels : ℕ) (a : Allocation) (second : Bool) (left band : ℕ)
    → is_in_round a second band ≡ true
    → channels * bands_in a second band + channels ≤ left
    → is_reached channels a second left band ≡ true
unfolding is_reached
has_bits channels a second left band counted enough =
    and_true (is_in_round a second band) (nat_le (channels * bands_in a second band + channels) left) counted
    (is_at_most (channels * bands_in a second band + channels) left enough)

pub below_reached : (channels : ℕ) (a : Allocation) (second : Bool) (left lower band : ℕ)
    → lower < band → is_in_round a second lower ≡ true → is_reached channels a second left band ≡ true
    → is_reached channels a second left lower ≡ true
below_reached channels a second left lower band below counted reached =
    let bits = reached_bits channels a second left band reached in
    let fewer = mul-le channels (bands_in a second lower) channels (bands_in a second band) (omega arith) (bands_rise a second lower band (omega arith)) in
    has_bits channels a second left lower counted (omega (arith, bits, fewer))

pub first_reached : (channels end : ℕ) (a : Allocation) (left lower band : ℕ) → 1 ≤ channels
    → lower < end → is_in_round a false lower ≡ true → is_reached channels a true (left - channels * bands_in a false end) band ≡ true
    → is_reached channels a false left lower ≡ true
first_reached channels end a left lower band some below counted reached =
    let bits = reached_bits channels a true (left - channels * bands_in a false end) band reached in
    let fewer = mul-le channels (bands_in a false lower) channels (bands_in a false end) (omega arith) (bands_rise a false lower end (omega arith)) in
    has_bits channels a false left lower counted (omega (arith, bits, fewer, some))
