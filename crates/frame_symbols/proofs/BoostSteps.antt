-- The walks of the boosts.
use Rattle.std.proofs.Common.{◌≡◌, ◌≢◌, ℕ, zero, suc, ◌+◌, ◌-◌, ◌*◌, ◌<◌, ◌≤◌, List, length, Bool, true, false, nat_eq, if◌then◌else◌, get_or, inl, inr, refl, sym, ◌∙◌, ap, subst, arith}
use Rattle.std.specs.Prelude.{ℤ, pos, slice_set, slice_index_or, replicate, unsigned_abs, max, ◌≤ℤ◌, ◌<ℤ◌}
use Rattle.std.proofs.lemmas.Bool.{cases_eq}
use Rattle.std.proofs.lemmas.Int.{ints, to_z-of_z}
use Rattle.std.proofs.lemmas.Nat.{mul-le}
use Rattle.std.specs.Int.{w32, cast_signed as to_z, cast_unsigned as of_z}
use Rattle.std.specs.Prelude.{nat_abs, FitsSigned}
use Rattle.std.proofs.lemmas.Bool.Decides.{nat_tests}
use Rattle.std.proofs.lemmas.List.{get_or-set_same, get_or-set_other, length-set, length-replicate}
use Rattle.celt_base.specs.declared.coder.Place.TheVariants.{Boost, Trim}
use Rattle.celt_base.specs.declared.kind.Kind.{Kind}
use Rattle.celt_base.specs.Paces.{tell_frac_of}
use Rattle.celt_base.specs.WalkCalls.{CoderCalls, ChooserCalls}
use Rattle.celt_base.specs.WalkScripts.{Done, asks_bit}
use Rattle.celt_base.specs.Walks.{Walked}
use Rattle.celt_base.proofs.WalkSteps.{Going, start, look, walk, walk_last, end, when_true, when_false, no_walk}
use Rattle.celt_tables.specs.Tables.{cap_of}
use Rattle.frame_symbols.specs.declared.boosts.Band.{Band}
use Rattle.celt_tables.specs.Tables.{coefficients_of}
use Rattle.frame_symbols.specs.Boosts.{boost_at, taken_below, boosted_below, first_weight, band_of, weight_of, may_boost, turn_script, turns_script, boosts_from, boosts_script, trim_script}
use Rattle.frame_symbols.specs.Askings.{number_within_eighths}
use Rattle.celt_base.specs.declared.question.Question.TheVariants.{Table}
use Rattle.celt_base.specs.declared.question.TableId.TheVariants.{Trim as TrimTable}
use Rattle.bit_allocation.specs.Requests.{quantum_of, IsBoost}

module _ {C H : Type 0} {coder : CoderCalls C} {chooser : ChooserCalls H} where
  pub turn_unasked : {c : C} {h : H} (b : Band) (turn tell : ℕ) → tell ≡ tell_frac_of (coder.pace c) → may_boost b turn tell ≡ false
      → Walked coder chooser (turn_script b turn) false c h c h
  unfolding turn_script
  turn_unasked b turn tell told t = walk_last (look start) (when_false _ _ _ (sym (ap (may_boost b turn) told) ∙ t) no_walk)

  pub turn_asked : {c d : C} {h k : H} {value : Bool} (b : Band) (turn tell weight : ℕ) → tell ≡ tell_frac_of (coder.pace c) → may_boost b turn tell ≡ true
      → weight ≡ weight_of b turn
      → Walked coder chooser (asks_bit (Boost b.band turn) weight) value c h d k
      → Walked coder chooser (turn_script b turn) value c h d k
  unfolding turn_script
  turn_asked {c = c} {d = d} {h = h} {k = k} {value = value} b turn tell weight told t is w =
      walk_last (look start) (when_true _ _ _ (sym (ap (may_boost b turn) told) ∙ t)
      (subst (λ p. Walked coder chooser (asks_bit (Boost b.band turn) p) value c h d k) is w))

pub below_cap : (b : Band) (turn tell : ℕ) → may_boost b turn tell ≡ true → turn * b.quantum < b.cap
unfolding may_boost
below_cap b turn tell t = grind (arith, nat_tests, t)

module _ {C H : Type 0} (coder : CoderCalls C) (chooser : ChooserCalls H) where
  -- Before a turn, those before it being answered 1.
  pub record Turning (b : Band) (c : C) (h : H) (d : C) (k : H) (turn : ℕ) : Type 0 where
    pub left : ℕ
    pub left_is : left + turn ≡ 76
    pub going : Going coder chooser (turns_script b 76 0) (turns_script b left turn) c h d k
    pub below : turn * b.quantum < b.cap + b.quantum
    pub count : coder.count d ≤ coder.count c + turn

module _ {C H : Type 0} {coder : CoderCalls C} {chooser : ChooserCalls H} where
  pub turns_start : {c : C} {h : H} (b : Band) → 8 ≤ b.quantum → Turning coder chooser b c h c h 0
  turns_start b some = record { left = 76; left_is = omega arith; going = start; below = omega (arith, some); count = omega arith }

  turns_more : {c d e : C} {h k m : H} (b : Band) (more : Bool) (turn left : ℕ) → turn < 76 → left + turn ≡ 76 → more ≡ true
      → Going coder chooser (turns_script b 76 0) (turns_script b left turn) c h d k
      → coder.count d ≤ coder.count c + turn
      → Walked coder chooser (turn_script b turn) more d k e m
      → turn * b.quantum < b.cap
      → coder.count e ≤ coder.count d + 1
      → Turning coder chooser b c h e m (turn + 1)
  unfolding turns_script
  turns_more b more turn zero inside is true_is going count w below one = absurd (omega (arith, inside, is))
  turns_more {c = c} {e = e} {h = h} {m = m} b more turn (suc left) inside is true_is going count w below one = record {
    left = left;
    left_is = omega (arith, is);
    going = subst
        (λ t. Going coder chooser (turns_script b 76 0) (if t then turns_script b left (turn + 1) else Done turn) c h e m) true_is
        (walk _ going w);
    below = let e : (turn + 1) * b.quantum ≡ turn * b.quantum + b.quantum = omega arith in omega (arith, e, below);
    count = omega (arith, count, one);
  }

  pub turns_next : {c d e : C} {h k m : H} {b : Band} (more : Bool) {turn : ℕ} → Turning coder chooser b c h d k turn → turn < 76 → more ≡ true
      → Walked coder chooser (turn_script b turn) more d k e m
      → turn * b.quantum < b.cap
      → coder.count e ≤ coder.count d + 1
      → Turning coder chooser b c h e m (turn + 1)
  turns_next {b = b} more {turn = turn} i inside true_is w below one =
      turns_more b more turn i.left inside i.left_is true_is i.going i.count w below one

  turns_stop : {c d e : C} {h k m : H} (b : Band) (more : Bool) (turn left : ℕ) → turn < 76 → left + turn ≡ 76 → more ≡ false
      → Going coder chooser (turns_script b 76 0) (turns_script b left turn) c h d k
      → Walked coder chooser (turn_script b turn) more d k e m
      → Walked coder chooser (turns_script b 76 0) turn c h e m
  unfolding turns_script
  turns_stop b more turn zero inside is false_is going w = absurd (omega (arith, inside, is))
  turns_stop {c = c} {e = e} {h = h} {m = m} b more turn (suc left) inside is false_is going w =
      end (subst
      (λ t. Going coder chooser (turns_script b 76 0) (if t then turns_script b left (turn + 1) else Done turn) c h e m) false_is
      (walk _ going w))

  pub turns_end : {c d e : C} {h k m : H} {b : Band} (more : Bool) {turn : ℕ} → Turning coder chooser b c h d k turn → turn < 76 → more ≡ false
      → Walked coder chooser (turn_script b turn) more d k e m
      → Walked coder chooser (turns_script b 76 0) turn c h e m
  turns_end {b = b} more {turn = turn} i inside false_is w = turns_stop b more turn i.left inside i.left_is false_is i.going w

  turns_whole : {c d : C} {h k : H} (b : Band) (turn left : ℕ) → turn ≡ 76 → left + turn ≡ 76
      → Going coder chooser (turns_script b 76 0) (turns_script b left turn) c h d k
      → Walked coder chooser (turns_script b 76 0) 76 c h d k
  unfolding turns_script
  turns_whole {c = c} {d = d} {h = h} {k = k} b turn zero all is going =
      subst (λ n. Walked coder chooser (turns_script b 76 0) n c h d k) all (end going)
  turns_whole b turn (suc left) all is going = absurd (omega (arith, all, is))

  pub turns_last : {c d : C} {h k : H} {b : Band} {turn : ℕ} → Turning coder chooser b c h d k turn → turn ≡ 76
      → Walked coder chooser (turns_script b 76 0) 76 c h d k
  turns_last {b = b} {turn = turn} i all = turns_whole b turn i.left all i.left_is i.going

-- the sums below a band do not see the entry of the band
pub taken_set : (boosts : List ℤ) (band at : ℕ) (boost : ℤ) → band ≤ at → taken_below (slice_set boosts at boost) band ≡ taken_below boosts band
taken_set boosts zero at boost le = refl
taken_set boosts (suc band) at boost le =
    let ne : band ≢ at = omega (arith, le) in
    let e : boost_at (slice_set boosts at boost) band ≡ boost_at boosts band = ap unsigned_abs (get_or-set_other boosts at band boost (pos 0) ne) in
    let f = taken_set boosts band at boost (omega (arith, le)) in
    omega (arith, e, f)

pub boosted_set : (boosts : List ℤ) (band at : ℕ) (boost : ℤ) → band ≤ at → boosted_below (slice_set boosts at boost) band ≡ boosted_below boosts band
boosted_set boosts zero at boost le = refl
boosted_set boosts (suc band) at boost le =
    let ne : band ≢ at = omega (arith, le) in
    let e : boost_at (slice_set boosts at boost) band ≡ boost_at boosts band = ap unsigned_abs (get_or-set_other boosts at band boost (pos 0) ne) in
    let f = boosted_set boosts band at boost (omega (arith, le)) in
    ap (λ n. n + (if nat_eq (boost_at (slice_set boosts at boost) band) 0 then 0 else 1)) f
    ∙ ap (λ n. boosted_below boosts band + (if nat_eq n 0 then 0 else 1)) e

-- bands without a boost take nothing
pub taken_above : (boosts : List ℤ) (more band : ℕ) → ((i : ℕ) → band ≤ i → boost_at boosts i ≡ 0) → taken_below boosts (more + band) ≡ taken_below boosts band
taken_above boosts zero band none = let e : 0 + band ≡ band = omega arith in ap (taken_below boosts) e
taken_above boosts (suc more) band none =
    let e = taken_above boosts more band none in
    let f = none (more + band) (omega arith) in
    let g : suc more + band ≡ suc (more + band) = omega arith in
    let h : taken_below boosts (suc (more + band)) ≡ taken_below boosts (more + band) + boost_at boosts (more + band) = refl in
    ap (taken_below boosts) g ∙ omega (arith, e, f, h)

weight_after : (boosted boost first : ℕ) → first ≡ max 2 (6 - boosted)
    → (if nat_eq boost 0 then first else max 2 (first - 1)) ≡ max 2 (6 - (boosted + (if nat_eq boost 0 then 0 else 1)))
weight_after boosted zero first is = is ∙ ap (λ n. max 2 (6 - n)) (omega arith)
weight_after boosted (suc boost) first is =
    let t : nat_eq (suc boost) 0 ≡ false = grind (arith, nat_tests) in rw t (omega (arith, is))

taken_one : (list : List ℤ) (band taken boost : ℕ) → taken ≡ taken_below list band → boost_at list band ≡ boost → taken + boost ≡ taken_below list (band + 1)
taken_one list band taken boost t e =
    let f : taken_below list (suc band) ≡ taken_below list band + boost_at list band = refl in
    let g : band + 1 ≡ suc band = omega arith in
    subst (λ n. taken + boost ≡ taken_below list n) (sym g) (omega (arith, t, e, f))

first_one : (list : List ℤ) (band boosted boost : ℕ) → boosted ≡ boosted_below list band → boost_at list band ≡ boost
    → max 2 (6 - (boosted + (if nat_eq boost 0 then 0 else 1))) ≡ first_weight list (band + 1)
first_one list band boosted boost t e =
    let g : band + 1 ≡ suc band = omega arith in
    subst (λ n. max 2 (6 - (boosted + (if nat_eq boost 0 then 0 else 1))) ≡ first_weight list n) (sym g)
    (ap (λ n. max 2 (6 - (n + (if nat_eq boost 0 then 0 else 1)))) t ∙ ap (λ n. max 2 (6 - (boosted_below list band + (if nat_eq n 0 then 0 else 1)))) (sym e))

product_most : (a b : ℕ) → a ≤ 76 → b ≤ 352 → a * b ≤ 76 * 352
product_most a b s t = mul-le a b 76 352 s t

boost_least : (n : ℕ) → pos 0 ≤ℤ pos n
boost_least n = omega (arith, ints)

boost_most : (n m : ℕ) → n < m → pos n <ℤ pos m
boost_most n m lt = omega (arith, ints, lt)

-- the band as its fields are counted
pub band_same : (kind : Kind) (eighths : ℕ) (boosts : List ℤ) (band quantum first taken : ℕ) (cap : ℤ)
    → quantum ≡ quantum_of (coefficients_of kind band)
    → FitsSigned w32 cap
    → cap ≡ pos (cap_of kind.lm kind.channels band)
    → first ≡ first_weight boosts band
    → taken ≡ taken_below boosts band
    → record { band = band; quantum = quantum; cap = nat_abs (to_z w32 (of_z w32 cap)); first = first; taken = taken; eighths = eighths }
    ≡ band_of kind eighths boosts band
band_same kind eighths boosts band quantum first taken cap q fits c f t =
    let e : nat_abs (to_z w32 (of_z w32 cap)) ≡ cap_of kind.lm kind.channels band = ap nat_abs (to_z-of_z w32 cap fits ∙ c) in
    rw (e, q, f, t) refl

pub cap_same : (kind : Kind) (band : ℕ) (cap : ℤ) → FitsSigned w32 cap → cap ≡ pos (cap_of kind.lm kind.channels band)
    → nat_abs (to_z w32 (of_z w32 cap)) ≡ cap_of kind.lm kind.channels band
cap_same kind band cap fits c = ap nat_abs (to_z-of_z w32 cap fits ∙ c)

module _ {C H : Type 0} (coder : CoderCalls C) (chooser : ChooserCalls H) where
  -- At a band, the boosts of those below it being asked.
  pub record Boosting (kind : Kind) (eighths : ℕ) (boosts : List ℤ) (taken first : ℕ) (c : C) (h : H) (d : C) (k : H) (band : ℕ) : Type 0 where
    pub left : ℕ
    pub left_is : left + band ≡ kind.end
    pub going : Going coder chooser (boosts_from kind eighths kind.end 0 (replicate 21 (pos 0))) (boosts_from kind eighths left band boosts) c h d k
    pub taken_is : taken ≡ taken_below boosts band
    pub taken_most : taken ≤ 26752 * band
    pub first_is : first ≡ first_weight boosts band
    pub room : length boosts ≡ 21
    pub blank : (i : ℕ) → band ≤ i → boost_at boosts i ≡ 0
    pub are : (i : ℕ) → i < band → IsBoost kind i (slice_index_or boosts i (pos 0))
    pub count : coder.count d ≤ coder.count c + 76 * band

zero_at : (n i : ℕ) → unsigned_abs (get_or (replicate n (pos 0)) i (pos 0)) ≡ 0
zero_at zero i = refl
zero_at (suc n) zero = refl
zero_at (suc n) (suc i) = zero_at n i

module _ {C H : Type 0} {coder : CoderCalls C} {chooser : ChooserCalls H} where
  pub boosts_start : {c : C} {h : H} (kind : Kind) (eighths : ℕ) → Boosting coder chooser kind eighths (replicate 21 (pos 0)) 0 6 c h c h 0
  boosts_start kind eighths = record {
    left = kind.end;
    left_is = omega arith;
    going = start;
    taken_is = refl;
    taken_most = omega arith;
    first_is = refl;
    room = length-replicate 21 (pos 0);
    blank = λ i le. zero_at 21 i;
    are = λ i lt. absurd (omega (arith, lt));
    count = omega arith;
  }

  boosts_going : {c d e : C} {h k m : H} (kind : Kind) (eighths : ℕ) (boosts : List ℤ) (b : Band) (turns band left : ℕ) → band < kind.end → left + band ≡ kind.end
      → Going coder chooser (boosts_from kind eighths kind.end 0 (replicate 21 (pos 0))) (boosts_from kind eighths left band boosts) c h d k
      → b ≡ band_of kind eighths boosts band
      → Walked coder chooser (turns_script b 76 0) turns d k e m
      → (more : ℕ) × (more + (band + 1) ≡ kind.end)
      × Going coder chooser (boosts_from kind eighths kind.end 0 (replicate 21 (pos 0)))
      (boosts_from kind eighths more (band + 1) (slice_set boosts band (pos (turns * quantum_of (coefficients_of kind band))))) c h e m
  unfolding boosts_from
  boosts_going kind eighths boosts b turns band zero below is going b_is w = absurd (omega (arith, below, is))
  boosts_going {d = d} {e = e} {k = k} {m = m} kind eighths boosts b turns band (suc left) below is going b_is w =
      (left, omega (arith, is), walk _ going (subst (λ x. Walked coder chooser (turns_script x 76 0) turns d k e m) b_is w))

  pub boosts_next : {c d e : C} {h k m : H} {kind : Kind} {eighths : ℕ} {boosts : List ℤ} {taken first : ℕ} (b : Band) (turns boost : ℕ) {band : ℕ}
      → Boosting coder chooser kind eighths boosts taken first c h d k band
      → band < kind.end
      → kind.end ≤ 21
      → b ≡ band_of kind eighths boosts band
      → Walked coder chooser (turns_script b 76 0) turns d k e m
      → coder.count e ≤ coder.count d + 76
      → turns ≤ 76
      → quantum_of (coefficients_of kind band) ≤ 352
      → boost ≡ turns * quantum_of (coefficients_of kind band)
      → boost < cap_of kind.lm kind.channels band + quantum_of (coefficients_of kind band)
      → Boosting coder chooser kind eighths (slice_set boosts band (pos boost)) (taken + boost) (if nat_eq boost 0 then first else max 2 (first - 1)) c h e m (band + 1)
  boosts_next {c} {d} {e} {h} {k} {m} {kind} {eighths} {boosts} {taken} {first} b turns boost {band} i below ends b_is w count most quantum is within =
      let next = boosts_going kind eighths boosts b turns band i.left below i.left_is i.going b_is w in
      let room = i.room in
      let inside : band < length boosts = omega (arith, room, below, ends) in
      let here : slice_index_or (slice_set boosts band (pos boost)) band (pos 0) ≡ pos boost = get_or-set_same boosts band (pos boost) (pos 0) inside in
      let here_abs : boost_at (slice_set boosts band (pos boost)) band ≡ boost = ap unsigned_abs here in
      let before = taken_set boosts band band (pos boost) (omega arith) in
      let boosted = boosted_set boosts band band (pos boost) (omega arith) in
      record {
        left = next.0;
        left_is = next.1;
        going = subst
            (λ n. Going coder chooser (boosts_from kind eighths kind.end 0 (replicate 21 (pos 0))) (boosts_from kind eighths next.0 (band + 1) (slice_set boosts band (pos n))) c h e m)
            (sym is) next.2;
        taken_is = let t = i.taken_is in taken_one (slice_set boosts band (pos boost)) band taken boost (t ∙ sym before) here_abs;
        taken_most =
            let t = i.taken_most in
            let p : turns * quantum_of (coefficients_of kind band) ≤ 76 * 352 = product_most turns (quantum_of (coefficients_of kind band)) most quantum in
            omega (arith, t, is, p);
        first_is = weight_after (boosted_below boosts band) boost first i.first_is
            ∙ first_one (slice_set boosts band (pos boost)) band (boosted_below boosts band) boost (sym boosted) here_abs;
        room = length-set boosts band (pos boost) ∙ room;
        blank = λ j le.
            let ne : j ≢ band = omega (arith, le) in
            ap unsigned_abs (get_or-set_other boosts band j (pos boost) (pos 0) ne) ∙ i.blank j (omega (arith, le));
        are = λ j lt. elim (cases_eq j band) [
          | inl same ↦
              subst (λ n. IsBoost kind n (slice_index_or (slice_set boosts band (pos boost)) n (pos 0))) (sym same)
              (subst (λ z. IsBoost kind band z) (sym here) (record { least = boost_least boost; most = boost_most boost _ within }))
          | inr apart ↦
              subst (λ z. IsBoost kind j z) (sym (get_or-set_other boosts band j (pos boost) (pos 0) apart)) (i.are j (omega (arith, lt, apart)))
        ];
        count = let n = i.count in omega (arith, n, count);
      }

  boosts_whole : {c d : C} {h k : H} (kind : Kind) (eighths : ℕ) (boosts : List ℤ) (band left : ℕ) → kind.end ≤ band → left + band ≡ kind.end
      → Going coder chooser (boosts_from kind eighths kind.end 0 (replicate 21 (pos 0))) (boosts_from kind eighths left band boosts) c h d k
      → Walked coder chooser (boosts_script kind eighths) boosts c h d k
  unfolding boosts_script boosts_from
  boosts_whole kind eighths boosts band zero above is going = end going
  boosts_whole kind eighths boosts band (suc left) above is going = absurd (omega (arith, above, is))

  pub boosts_last : {c d : C} {h k : H} {kind : Kind} {eighths : ℕ} {boosts : List ℤ} {taken first : ℕ} {band : ℕ}
      → Boosting coder chooser kind eighths boosts taken first c h d k band
      → kind.end ≤ band
      → Walked coder chooser (boosts_script kind eighths) boosts c h d k
  boosts_last {kind = kind} {eighths = eighths} {boosts = boosts} {band = band} i above = boosts_whole kind eighths boosts band i.left above i.left_is i.going

  pub taken_last : {c d : C} {h k : H} {kind : Kind} {eighths : ℕ} {boosts : List ℤ} {taken first : ℕ} {band : ℕ}
      → Boosting coder chooser kind eighths boosts taken first c h d k band
      → band ≤ 21
      → taken ≡ taken_below boosts 21
  taken_last {boosts = boosts} {taken = taken} {band = band} i within =
      let e : (21 - band) + band ≡ 21 = omega (arith, within) in
      i.taken_is ∙ sym (subst (λ n. taken_below boosts n ≡ taken_below boosts band) e (taken_above boosts (21 - band) band i.blank))

pub weight_within : (first boosted : ℕ) → first ≡ max 2 (6 - boosted) → (2 ≤ first) × (first ≤ 6)
weight_within first boosted is = (omega (arith, is), omega (arith, is))

module _ {C H : Type 0} {coder : CoderCalls C} {chooser : ChooserCalls H} where
  pub trim_walked : {c d : C} {h k : H} {value : ℕ} (eighths taken : ℕ) (boosts : List ℤ) → taken ≡ taken_below boosts 21
      → Walked coder chooser (number_within_eighths Trim (Table TrimTable) (48 + taken) eighths 5) value c h d k
      → Walked coder chooser (trim_script eighths boosts) value c h d k
  unfolding trim_script
  trim_walked {c} {d} {h} {k} {value} eighths taken boosts is w =
      subst (λ n. Walked coder chooser (number_within_eighths Trim (Table TrimTable) (48 + n) eighths 5) value c h d k) is w

  pub boosts_after : {c d e : C} {h k m : H} {kind : Kind} {eighths : ℕ} {boosts : List ℤ} {taken first : ℕ} (b : Band) (turns quantum next : ℕ) (value : ℤ) {band : ℕ}
      → Boosting coder chooser kind eighths boosts taken first c h d k band
      → band < kind.end
      → kind.end ≤ 21
      → quantum ≡ quantum_of (coefficients_of kind band)
      → quantum ≤ 352
      → value ≡ pos (turns * quantum)
      → next ≡ (if nat_eq (turns * quantum) 0 then first else max 2 (first - 1))
      → b ≡ band_of kind eighths boosts band
      → Walked coder chooser (turns_script b 76 0) turns d k e m
      → coder.count e ≤ coder.count d + 76
      → turns ≤ 76
      → turns * quantum < b.cap + quantum
      → Boosting coder chooser kind eighths (slice_set boosts band value) (taken + turns * quantum) next c h e m (band + 1)
  boosts_after {c} {d} {e} {h} {k} {m} {kind} {eighths} {boosts} {taken} {first} b turns quantum next value {band} i below ends q most v n b_is w count turns_most within =
      let quantum_most : quantum_of (coefficients_of kind band) ≤ 352 = subst (λ x. x ≤ 352) q most in
      let cap : b.cap ≡ cap_of kind.lm kind.channels band = ap (λ (x : Band). x.cap) b_is in
      let below_cap : turns * quantum < cap_of kind.lm kind.channels band + quantum_of (coefficients_of kind band) =
      subst (λ x. turns * quantum < cap_of kind.lm kind.channels band + x) q (subst (λ x. turns * quantum < x + quantum) cap within) in
      let whole : Boosting coder chooser kind eighths (slice_set boosts band (pos (turns * quantum))) (taken + turns * quantum)
      (if nat_eq (turns * quantum) 0 then first else max 2 (first - 1)) c h e m (band + 1) =
      boosts_next b turns (turns * quantum) i below ends b_is w count turns_most quantum_most (ap (λ x. turns * x) q) below_cap in
      subst (λ z. Boosting coder chooser kind eighths (slice_set boosts band z) (taken + turns * quantum) next c h e m (band + 1)) (sym v)
      (subst (λ x. Boosting coder chooser kind eighths (slice_set boosts band (pos (turns * quantum))) (taken + turns * quantum) x c h e m (band + 1)) (sym n) whole)
