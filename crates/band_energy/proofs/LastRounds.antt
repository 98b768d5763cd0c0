-- The two rounds of last bits: which bands are in them, the bits that are left, and the bits of both.
use Rattle.std.proofs.Common.{◌≡◌, ℕ, zero, suc, ◌+◌, ◌-◌, ◌*◌, ◌<◌, ◌≤◌, ◌&&◌, Bool, true, false, if◌then◌else◌, nat_le, nat_lt, List, [], ◌∷◌, length, get_or, set, inl, inr, refl, sym, ◌∙◌, ap, subst, add-one, arith}
use Rattle.std.specs.Prelude.{Option, None, slice_index, slice_index_or}
use Rattle.std.specs.List.{All}
use Rattle.std.proofs.lemmas.Bool.{cases_eq, cases_lt}
use Rattle.std.proofs.lemmas.Bool.Decides.{nat_tests}
use Rattle.std.proofs.lemmas.List.{get_or-set_same, get_or-set_other, get_or_past, length-set}
use Rattle.std.proofs.lemmas.List.Elements.{All-get_or, All-from_get_or}
use Rattle.celt_base.specs.declared.kind.Kind.{Kind}
use Rattle.celt_base.specs.declared.state.Allocation.{Allocation}
use Rattle.celt_base.specs.WalkCalls.{CoderCalls, ChooserCalls}
use Rattle.celt_base.specs.Walks.{Walked}
use Rattle.celt_base.specs.WalkScripts.{Done}
use Rattle.celt_base.specs.WalkTables.{HoldsRows, WalkedTable}
use Rattle.celt_base.specs.Paces.{tell_of}
use Rattle.celt_base.proofs.WalkSteps.{look, walk, end}
use Rattle.celt_base.proofs.WalkSteps as steps
use Rattle.band_energy.specs.EnergyRows.{WalkedRows}
use Rattle.band_energy.specs.EnergyScripts.{is_same, is_in_round, bands_in, is_reached, last_at, last_bit, round_script, last_script, either, each_either, rows_either}

-- the bits left are enough for a band
enough : (channels before left : ℕ) → 1 ≤ channels → nat_le channels (left - before) ≡ nat_le (before + channels) left
enough channels before left some = grind (arith, nat_tests)

pub reached_is : (channels left rest band : ℕ) (a : Allocation) (second counted : Bool)
    → 1 ≤ channels
    → counted ≡ is_in_round a second band
    → rest ≡ left - channels * bands_in a second band
    → (counted && nat_le channels rest) ≡ is_reached channels a second left band
unfolding is_reached
reached_is channels left rest band a second counted some in_round rest_is =
    ap (λ t. t && nat_le channels rest) in_round
    ∙ ap (λ t. is_in_round a second band && t) (ap (nat_le channels) rest_is ∙ enough channels (channels * bands_in a second band) left some)

-- an entry's script, by what the code knows of its band
pub entry_script : {C H : Type 0} {coder : CoderCalls C} {chooser : ChooserCalls H} {value : Option ℕ} {c d : C} {h k : H} (channels left band channel : ℕ) (a : Allocation) (second reached : Bool)
    → reached ≡ is_reached channels a second left band
    → Walked coder chooser (if reached then last_bit band channel else Done None) value c h d k
    → Walked coder chooser (last_at channels a second left band channel) value c h d k
unfolding last_at
entry_script {coder = coder} {chooser = chooser} {value = value} {c = c} {d = d} {h = h} {k = k} channels left band channel a second reached is w =
    subst (λ t. Walked coder chooser (if t then last_bit band channel else Done None) value c h d k) is w

-- one band more
rest_behind : (channels before left : ℕ) (counted : Bool) → left - channels * before - (if counted then channels else 0) ≡ left - channels * (before + (if counted then 1 else 0))
rest_behind channels before left true = omega arith
rest_behind channels before left false = omega arith

pub rest_more : (channels left rest after band : ℕ) (a : Allocation) (second counted : Bool)
    → counted ≡ is_in_round a second band
    → rest ≡ left - channels * bands_in a second band
    → after ≡ rest - (if counted then channels else 0)
    → after ≡ left - channels * bands_in a second (band + 1)
rest_more channels left rest after band a second counted in_round rest_is after_is =
    after_is
    ∙ ap (λ n. n - (if counted then channels else 0)) rest_is
    ∙ rest_behind channels (bands_in a second band) left counted
    ∙ ap (λ t. left - channels * (bands_in a second band + (if t then 1 else 0))) in_round
    ∙ ap (λ n. left - channels * bands_in a second n) (sym (add-one band))

count_behind : (old now before channel channels : ℕ) (counted enough : Bool)
    → now ≤ old + 2 * before + (if counted && enough then channel else 0)
    → channel ≤ channels
    → channels ≤ 2
    → now ≤ old + 2 * (before + (if counted then 1 else 0))
count_behind old now before channel channels true true most inside two = omega arith
count_behind old now before channel channels true false most inside two = omega arith
count_behind old now before channel channels false enough most inside two = omega arith

pub count_more : (old now band channel channels : ℕ) (a : Allocation) (second counted enough reached : Bool)
    → counted ≡ is_in_round a second band
    → reached ≡ (counted && enough)
    → now ≤ old + 2 * bands_in a second band + (if reached then channel else 0)
    → channel ≤ channels
    → channels ≤ 2
    → now ≤ old + 2 * bands_in a second (band + 1)
count_more old now band channel channels a second counted enough reached in_round reached_is most inside two =
    subst (λ n. now ≤ old + 2 * bands_in a second n) (sym (add-one band))
    (subst (λ t. now ≤ old + 2 * (bands_in a second band + (if t then 1 else 0))) in_round
    (count_behind old now (bands_in a second band) channel channels counted enough
    (subst (λ t. now ≤ old + 2 * bands_in a second band + (if t then channel else 0)) reached_is most) inside two))

-- how many bands are in a round
pub bands_rise : (a : Allocation) (second : Bool) (m n : ℕ) → m ≤ n → bands_in a second m ≤ bands_in a second n
bands_rise a second m zero le = let e : m ≡ zero = omega arith in subst (λ k. bands_in a second k ≤ bands_in a second zero) (sym e) (omega arith)
bands_rise a second m (suc n) le =
    elim (cases_lt m (suc n)) [
      | inl below ↦ let before = bands_rise a second m n (omega arith) in omega arith
      | inr above ↦ let e : m ≡ suc n = omega arith in subst (λ k. bands_in a second k ≤ bands_in a second (suc n)) (sym e) (omega arith)
    ]

-- a question more may be asked
pub few_more : (old now band channel channels end : ℕ) (a : Allocation) (second counted enough reached : Bool)
    → counted ≡ is_in_round a second band
    → reached ≡ (counted && enough)
    → now ≤ old + 2 * bands_in a second band + (if reached then channel else 0)
    → channel < channels
    → channels ≤ 2
    → band < end
    → old + 2 * bands_in a second end ≤ 4096
    → now + (if reached then 1 else 0) ≤ 4096
few_more old now band channel channels end a second counted enough reached in_round reached_is most inside two below few =
    let next = bands_rise a second (suc band) end (omega arith) in
    subst (λ t. now + (if t then 1 else 0) ≤ 4096) (sym reached_is)
    (by_tests counted enough (subst (λ t. now ≤ old + 2 * bands_in a second band + (if t then channel else 0)) reached_is most)
    (subst (λ t. bands_in a second band + (if t then 1 else 0) ≤ bands_in a second end) (sym in_round) next))
  where
    by_tests : (counted enough : Bool)
        → now ≤ old + 2 * bands_in a second band + (if counted && enough then channel else 0)
        → bands_in a second band + (if counted then 1 else 0) ≤ bands_in a second end
        → now + (if counted && enough then 1 else 0) ≤ 4096
    by_tests true true most next = omega arith
    by_tests true false most next = omega arith
    by_tests false enough most next = omega arith

-- no band is in both rounds
one_round : (small priority : Bool) → (if small && is_same priority false then 1 else 0) + (if small && is_same priority true then 1 else 0) ≤ 1
one_round false priority = omega arith
one_round true true = omega arith
one_round true false = omega arith

pub both_rounds : (a : Allocation) (n : ℕ) → bands_in a false n + bands_in a true n ≤ n
both_rounds a zero = omega arith
both_rounds a (suc n) =
    let before = both_rounds a n in
    let one = one_round (nat_lt (slice_index a.fine n) 8) (slice_index_or a.priority n false) in
    omega arith

-- a band more of a channel's bits
pub record RowBy (first second bits : List (Option ℕ)) (n : ℕ) : Type 0 where
  pub room : length bits ≡ 21
  pub done : (b : ℕ) → b < n → get_or bits b None ≡ either (get_or first b None) (get_or second b None)
  pub ahead : (b : ℕ) → n ≤ b → get_or bits b None ≡ get_or first b None

pub row_more : (first second bits : List (Option ℕ)) (n : ℕ) (value : Option ℕ)
    → n < 21
    → value ≡ either (get_or bits n None) (get_or second n None)
    → RowBy first second bits n
    → RowBy first second (set bits n value) (n + 1)
row_more first second bits n value below is row = record {
  room = length-set bits n value ∙ row.room;
  done = λ b within.
      elim (cases_eq b n) [
        | inl same ↦
            subst (λ m. get_or (set bits n value) m None ≡ either (get_or first m None) (get_or second m None)) (sym same)
            (get_or-set_same bits n value None (let room = row.room in omega (arith, room)) ∙ is ∙ ap (λ x. either x (get_or second n None)) (row.ahead n (omega arith)))
        | inr apart ↦ get_or-set_other bits n b value None apart ∙ row.done b (omega arith)
      ];
  ahead = λ b above. get_or-set_other bits n b value None (omega arith) ∙ row.ahead b (omega arith);
}

-- an entry more was asked for, if it was reached
pub count_entry : (old now next channel : ℕ) (reached : Bool)
    → now ≤ old + (if reached then channel else 0)
    → next ≤ now + (if reached then 1 else 0)
    → next ≤ old + (if reached then channel + 1 else 0)
count_entry old now next channel true most more = omega arith
count_entry old now next channel false most more = omega arith

-- the bits of both rounds, item by item
each_length : (xs ys : List (Option ℕ)) → length xs ≡ length ys → length (each_either xs ys) ≡ length xs
each_length [] ys same = refl
each_length (x ∷ xs) [] same = absurd (omega arith)
each_length (x ∷ xs) (y ∷ ys) same = ap suc (each_length xs ys (omega arith))

each_at : (xs ys : List (Option ℕ)) → length xs ≡ length ys → (i : ℕ) → get_or (each_either xs ys) i None ≡ either (get_or xs i None) (get_or ys i None)
each_at [] [] same i = refl
each_at [] (y ∷ ys) same i = absurd (omega arith)
each_at (x ∷ xs) [] same i = absurd (omega arith)
each_at (x ∷ xs) (y ∷ ys) same zero = refl
each_at (x ∷ xs) (y ∷ ys) same (suc i) = each_at xs ys (omega arith) i

rows_length : (xs ys : List (List (Option ℕ))) → length xs ≡ length ys → length (rows_either xs ys) ≡ length xs
rows_length [] ys same = refl
rows_length (x ∷ xs) [] same = absurd (omega arith)
rows_length (x ∷ xs) (y ∷ ys) same = ap suc (rows_length xs ys (omega arith))

rows_at : (xs ys : List (List (Option ℕ))) → length xs ≡ length ys → (i : ℕ) → get_or (rows_either xs ys) i [] ≡ each_either (get_or xs i []) (get_or ys i [])
rows_at [] [] same i = refl
rows_at [] (y ∷ ys) same i = absurd (omega arith)
rows_at (x ∷ xs) [] same i = absurd (omega arith)
rows_at (x ∷ xs) (y ∷ ys) same zero = refl
rows_at (x ∷ xs) (y ∷ ys) same (suc i) = rows_at xs ys (omega arith) i

-- rows of one shape
record AreRows (bands channels : ℕ) (rows : List (List (Option ℕ))) : Type 0 where
  bands_are : length rows ≡ bands
  channels_are : All (λ row. length row ≡ channels) rows

row_at : (bands channels i : ℕ) (rows : List (List (Option ℕ))) → AreRows bands channels rows → i < bands → length (get_or rows i []) ≡ channels
row_at bands channels i rows are inside =
    All-get_or (λ row. length row ≡ channels) rows i [] (let n = are.bands_are in omega (arith, n)) are.channels_are

same_rows : (bands channels i : ℕ) (xs ys : List (List (Option ℕ))) → AreRows bands channels xs → AreRows bands channels ys → length (get_or xs i []) ≡ length (get_or ys i [])
same_rows bands channels i xs ys x y =
    elim (cases_lt i bands) [
      | inl inside ↦ row_at bands channels i xs x inside ∙ sym (row_at bands channels i ys y inside)
      | inr past ↦
          ap length (get_or_past xs i [] (let n = x.bands_are in omega (arith, n)))
          ∙ sym (ap length (get_or_past ys i [] (let n = y.bands_are in omega (arith, n))))
    ]

past_channel : (bands channels band channel : ℕ) (rows : List (List (Option ℕ))) → AreRows bands channels rows → channels ≤ channel → get_or (get_or rows band []) channel None ≡ None
past_channel bands channels band channel rows are past =
    elim (cases_lt band bands) [
      | inl inside ↦ get_or_past (get_or rows band []) channel None (let n = row_at bands channels band rows are inside in omega (arith, n))
      | inr behind ↦ ap (λ row. get_or row channel None) (get_or_past rows band [] (let n = are.bands_are in omega (arith, n)))
    ]

entry_either : (bands channels band channel : ℕ) (xs ys : List (List (Option ℕ))) → AreRows bands channels xs → AreRows bands channels ys
    → get_or (get_or (rows_either xs ys) band []) channel None ≡ either (get_or (get_or xs band []) channel None) (get_or (get_or ys band []) channel None)
entry_either bands channels band channel xs ys x y =
    ap (λ row. get_or row channel None) (rows_at xs ys (x.bands_are ∙ sym y.bands_are) band)
    ∙ each_at (get_or xs band []) (get_or ys band []) (same_rows bands channels band xs ys x y) channel

rows_are : (bands channels : ℕ) (xs ys : List (List (Option ℕ))) → AreRows bands channels xs → AreRows bands channels ys → AreRows bands channels (rows_either xs ys)
rows_are bands channels xs ys x y =
    let count = rows_length xs ys (x.bands_are ∙ sym y.bands_are) in record {
      bands_are = count ∙ x.bands_are;
      channels_are =
          All-from_get_or (λ row. length row ≡ channels) (rows_either xs ys) []
          (λ i inside.
          ap length (rows_at xs ys (x.bands_are ∙ sym y.bands_are) i)
          ∙ each_length (get_or xs i []) (get_or ys i []) (same_rows bands channels i xs ys x y)
          ∙ row_at bands channels i xs x (let n = x.bands_are in omega (arith, n, count)));
    }

-- An array's row of a channel is from both rounds.
abbrev IsOfBoth : List (Option ℕ) → List (List (Option ℕ)) → List (List (Option ℕ)) → ℕ → Type 0
IsOfBoth row first second channel =
    (band : ℕ) → get_or row band None ≡ either (get_or (get_or first channel []) band None) (get_or (get_or second channel []) band None)

module _ (bands channels : ℕ) (two : channels ≤ 2) (left right : List (Option ℕ)) (first second xs ys : List (List (Option ℕ)))
    (x : AreRows bands channels xs) (y : AreRows bands channels ys) (holds_x : HoldsRows None first xs) (holds_y : HoldsRows None second ys) where
  both_hold : IsOfBoth left first second 0 → IsOfBoth right first second 1 → HoldsRows None (left ∷ right ∷ []) (rows_either xs ys)
  both_hold is_left is_right zero band =
      is_left band
      ∙ ap (λ b. either b (get_or (get_or second 0 []) band None)) (holds_x 0 band)
      ∙ ap (either (get_or (get_or xs band []) 0 None)) (holds_y 0 band)
      ∙ sym (entry_either bands channels band 0 xs ys x y)
  both_hold is_left is_right (suc zero) band =
      is_right band
      ∙ ap (λ b. either b (get_or (get_or second 1 []) band None)) (holds_x 1 band)
      ∙ ap (either (get_or (get_or xs band []) 1 None)) (holds_y 1 band)
      ∙ sym (entry_either bands channels band 1 xs ys x y)
  both_hold is_left is_right (suc (suc channel)) band =
      sym
      (entry_either bands channels band (suc (suc channel)) xs ys x y
      ∙ ap (λ b. either b (get_or (get_or ys band []) (suc (suc channel)) None)) (past_channel bands channels band (suc (suc channel)) xs x (omega arith))
      ∙ past_channel bands channels band (suc (suc channel)) ys y (omega arith))

-- both rounds
pub rounds_walked : {C H : Type 0} {coder : CoderCalls C} {chooser : ChooserCalls H} {c d e : C} {h k m : H} (kind : Kind) (a : Allocation) (budget before after : ℕ)
    (first second : List (List (Option ℕ))) (left right : List (Option ℕ))
    → kind.channels ≤ 2
    → before ≡ budget - tell_of (coder.pace c)
    → WalkedTable coder chooser (last_at kind.channels a false before) kind.channels kind.end None first c h d k
    → after ≡ before - kind.channels * bands_in a false kind.end
    → WalkedTable coder chooser (last_at kind.channels a true after) kind.channels kind.end None second d k e m
    → IsOfBoth left first second 0
    → IsOfBoth right first second 1
    → WalkedRows coder chooser (last_script kind a budget) kind None (left ∷ right ∷ []) c h e m
unfolding last_script
rounds_walked {coder = coder} {chooser = chooser} {c = c} {d = d} {e = e} {h = h} {k = k} {m = m} kind a budget before after first second left right two before_is x after_is y is_left is_right =
    let w = subst (λ n. Walked coder chooser (round_script kind a false n) x.rows c h d k) before_is x.walked in
    let v = subst (λ n. Walked coder chooser (round_script kind a true n) y.rows d k e m)
    (after_is ∙ ap (λ n. n - kind.channels * bands_in a false kind.end) before_is) y.walked in
    let are_x : AreRows kind.end kind.channels x.rows = record { bands_are = x.bands_are; channels_are = x.channels_are } in
    let are_y : AreRows kind.end kind.channels y.rows = record { bands_are = y.bands_are; channels_are = y.channels_are } in
    let are = rows_are kind.end kind.channels x.rows y.rows are_x are_y in
    record {
      rows = rows_either x.rows y.rows;
      walked = end (walk _ (walk _ (look steps.start) w) v);
      holds = both_hold kind.end kind.channels two left right first second x.rows y.rows are_x are_y x.holds y.holds is_left is_right;
      bands_are = are.bands_are;
      channels_are = are.channels_are;
    }
