-- The places of a frame's parts but the bands' shapes.
use Rattle.std.proofs.Common.{◌≡◌, ℕ, zero, suc, ◌+◌, ◌-◌, ◌*◌, ◌<◌, ◌≤◌, List, Bool, true, false, ◌&&◌, ◌||◌, nat_eq, nat_le, if◌then◌else◌, refl, sym, subst, arith}
use Rattle.std.specs.Prelude.{ℤ, pos, negsuc, neg_ℤ, int_lt, unsigned_abs, ◌^◌, ⊤, slice_index, slice_set, max, Option, Some, None}
use Rattle.std.proofs.lemmas.Int.{ints}
use Rattle.std.proofs.Math.Nat.{pow-le-pow_right}
use Rattle.band_plan.proofs.ShapeLaws.{gave}
use Rattle.band_energy.specs.EnergyScripts.{question_for, value_script, coarse_at, coarse_script, bits_script, fine_at, fine_script, is_reached, last_bit, last_at, last_script, round_script, bands_in}
use Rattle.bit_allocation.specs.declared.plan.Plan.{Plan}
use Rattle.bit_allocation.specs.declared.turns.Skipped.{Skipped}
use Rattle.bit_allocation.specs.declared.turns.Turn.{Turn}
use Rattle.bit_allocation.specs.declared.turns.Turn.TheVariants.{Stays, Goes as Leaves}
use Rattle.bit_allocation.specs.Amounts.{bit_each, threshold_of}
use Rattle.bit_allocation.specs.Plans.{plan_of}
use Rattle.bit_allocation.specs.Scripts.{offer_of, turn_script, skipped, after_turn, skip_script, intensity_script, dual_script, stereo_script, plan_script, allocation_script}
use Rattle.celt_base.specs.declared.coder.Place.TheVariants.{Coarse, Tf, TfSelect, Spread, Boost, Trim, Skip, Intensity, Dual, Fine, Collapse, Last}
use Rattle.celt_base.specs.declared.kind.Kind.{Kind}
use Rattle.celt_base.specs.declared.question.Question.{Question}
use Rattle.celt_base.specs.declared.question.Question.TheVariants.{Bit, Table, Uniform, Laplace, Step, Triangle, Raw}
use Rattle.celt_base.specs.declared.question.TableId.TheVariants.{Small, Spread as SpreadTable}
use Rattle.celt_base.specs.Questions.{IsAnswer, IsBelow, start, laplace_row, place_of}
use Rattle.celt_base.specs.WalkCalls.{heard, coarse_value, small_value, bit_value}
use Rattle.celt_base.specs.WalkOrders.{MayGive}
use Rattle.celt_base.proofs.BandEnds.{end_most}
use Rattle.celt_tables.specs.Tables.{fs_of, decay_of}
use Rattle.celt_base.specs.declared.state.Allocation.{Allocation}
use Rattle.celt_base.specs.Paces.{tell_of, tell_frac_of}
use Rattle.celt_base.specs.WalkScripts.{Script, Done, and_then}
use Rattle.frame_symbols.specs.declared.boosts.Band.{Band}
use Rattle.frame_symbols.specs.declared.fields.Shaping.{Shaping}
use Rattle.frame_symbols.specs.Boosts.{band_of, may_boost, turn_script as boost_script, turns_script, boosts_from, boosts_script, trim_script}
use Rattle.frame_symbols.specs.Changes.{flags_script, select_script, differ, kept_of, changes_by, changes_script, any_below, turned}
use Rattle.frame_symbols.specs.Frames.{spread_script, shaping_script, amounts_by, amounts_script, collapse_script}
use Rattle.celt_encode.specs.Known.{limited}
use Rattle.celt_encode.specs.Outsets.{Outset}
use Rattle.celt_encode.specs.Places.{IsPlace, IsTold, HasBand}
use Rattle.celt_encode.proofs.PlaceRules.{Keeps, keep_none, keep_then, keep_look, keep_if, keep_ask, keep_value, keep_bit, keep_bit_within, keep_number_within, keep_eighths_within, keep_table}

below_size : (count : ℕ) (answer : ℤ) → IsBelow count answer → unsigned_abs answer < count
below_size count (pos n) below = below
below_size count (negsuc n) below = absurd below

fine_told : (bits : ℕ) (answer : ℤ) → bits ≤ 8 → IsBelow (2 ^ bits) answer → unsigned_abs answer ≤ 255
fine_told bits answer few is =
    let a = below_size (2 ^ bits) answer is in
    let b : 2 ^ bits ≤ 2 ^ 8 = pow-le-pow_right {n = 2} (omega arith) {i = bits} {j = 8} few in
    omega (arith, a, b)

-- an answer of Laplace has its place below 32768
place_small : (fs decay n : ℕ) → start (laplace_row fs decay) n < 2 ^ 15 → n ≤ start (laplace_row fs decay) n + 1
place_small fs decay zero below = omega arith
place_small fs decay (suc zero) below = omega arith
place_small fs decay (suc (suc n)) below =
    let before : start (laplace_row fs decay) (suc n) < 2 ^ 15 = omega (arith, below) in
    let a = place_small fs decay (suc n) before in
    omega (arith, a, below)

limited_same : (value : ℤ) → unsigned_abs value ≤ 2 ^ 14 → limited value ≡ value
unfolding limited
limited_same value small =
    let a : int_lt (pos 32767) value ≡ false = grind (arith, ints, small) in
    let b : int_lt value (neg_ℤ (pos 32768)) ≡ false = grind (arith, ints, small) in
    rw a (rw b refl)

laplace_small : (fs decay : ℕ) (answer : ℤ) → start (laplace_row fs decay) (place_of answer) < 2 ^ 15 → unsigned_abs answer ≤ 2 ^ 14
laplace_small fs decay (pos n) below = let a = place_small fs decay (2 * n) below in omega (arith, a, below)
laplace_small fs decay (negsuc n) below = let a = place_small fs decay (2 * n + 1) below in omega (arith, a, below)

small_told : (answer : ℤ) → limited (small_value answer) ≡ small_value answer
unfolding small_value limited
small_told (pos zero) = refl
small_told (pos (suc zero)) = refl
small_told (pos (suc (suc zero))) = refl
small_told (pos (suc (suc (suc n)))) = refl
small_told (negsuc n) = refl

bit_told : (answer : ℤ) → limited (bit_value answer) ≡ bit_value answer
unfolding bit_value limited
bit_told (pos zero) = refl
bit_told (pos (suc zero)) = refl
bit_told (pos (suc (suc n))) = refl
bit_told (negsuc n) = refl

-- the question of a coarse energy
IsCoarse : Question → Type 0
IsCoarse (Laplace fs decay) = ⊤
IsCoarse (Table table) = ⊤
IsCoarse (Bit p) = ⊤
IsCoarse question = ⊥

MayAsk : Option Question → Type 0
MayAsk None = ⊤
MayAsk (Some question) = IsCoarse question

may_ask : (lm : ℕ) (intra : Bool) (band left : ℕ) → MayAsk (question_for lm intra band left)
unfolding question_for MayAsk IsCoarse
may_ask lm intra band left = by_tests (nat_le 15 left) (nat_le 2 left) (nat_le 1 left)
  where
    by_tests : (x y z : Bool) → MayAsk (if x then Some (Laplace (fs_of lm intra band) (decay_of lm intra band)) else (if y then Some (Table Small) else (if z then Some (Bit 1) else None)))
    by_tests true y z = tt
    by_tests false true z = tt
    by_tests false false true = tt
    by_tests false false false = tt

coarse_told : (question : Question) (answer : ℤ) → IsCoarse question → IsAnswer question answer → limited (coarse_value question answer) ≡ coarse_value question answer
unfolding coarse_value IsCoarse
coarse_told (Bit p) answer coarse is = bit_told answer
coarse_told (Table table) answer coarse is = small_told answer
coarse_told (Uniform limit) answer coarse is = absurd coarse
coarse_told (Laplace fs decay) answer coarse is = limited_same answer (laplace_small fs decay answer is)
coarse_told (Step most) answer coarse is = absurd coarse
coarse_told (Triangle most) answer coarse is = absurd coarse
coarse_told (Raw count) answer coarse is = absurd coarse

coded_at : (t s : Skipped) {n : ℕ} → s ≡ t → t.coded ≤ n → s.coded ≤ n
coded_at t s {n} e most = subst (λ (x : Skipped). x.coded ≤ n) (sym e) most

-- no more bands are coded than there are
skip_coded : (p : Plan) (coded asked : ℕ) (bits : List ℕ) (s : Skipped) → MayGive (skip_script p coded asked bits) s → s.coded ≤ coded
unfolding skip_script
skip_coded p zero asked bits s m = coded_at (skipped p 0 asked bits p.reserves.skip) s m (omega arith)
skip_coded p (suc band) asked bits s m = by_test (λ a b g. skip_coded p band a b s g) (nat_le band p.start) m
  where
    by_turn : ((a : ℕ) (b : List ℕ) → MayGive (skip_script p band a b) s → s.coded ≤ band)
        → (turn : Turn) → MayGive (after_turn (Done (skipped p (suc band) asked bits 0)) (λ more share. skip_script p band (asked + more) (slice_set bits band share)) turn) s
        → s.coded ≤ suc band
    by_turn follow Stays m = coded_at (skipped p (suc band) asked bits 0) s m (omega arith)
    by_turn follow (Leaves more share) m = let e = follow (asked + more) (slice_set bits band share) m in omega (arith, e)

    by_test : ((a : ℕ) (b : List ℕ) → MayGive (skip_script p band a b) s → s.coded ≤ band)
        → (b : Bool)
        → MayGive (if b then Done (skipped p (suc band) asked bits p.reserves.skip) else and_then (turn_script p.kind band (offer_of p band asked bits))
        (after_turn (Done (skipped p (suc band) asked bits 0)) (λ more share. skip_script p band (asked + more) (slice_set bits band share)))) s
        → s.coded ≤ suc band
    by_test follow true m = coded_at (skipped p (suc band) asked bits p.reserves.skip) s m (omega arith)
    by_test follow false m =
        let g = gave (turn_script p.kind band (offer_of p band asked bits))
        (after_turn (Done (skipped p (suc band) asked bits 0)) (λ more share. skip_script p band (asked + more) (slice_set bits band share))) s m in
        by_turn follow g.value g.second

module _ {f : Outset} {held : List ℤ → List ℤ → Type 0} where
  -- ---- energies

  value_keeps : (band channel : ℕ) (question : Option Question) → HasBand f.kind channel band → MayAsk question → Keeps f held (value_script band channel question)
  unfolding value_script IsPlace IsTold heard MayAsk
  value_keeps band channel None has coarse = keep_none
  value_keeps band channel (Some question) has coarse = keep_value (Coarse band channel) question (λ s i. has, λ answer is. coarse_told question answer coarse is)

  pub coarse_keeps : (intra : Bool) (budget : ℕ) → Keeps f held (coarse_script f.kind intra budget)
  unfolding coarse_script coarse_at
  coarse_keeps intra budget = keep_table (coarse_at f.kind.lm intra budget) f.kind.channels f.kind.end (λ band channel below inside.
      keep_look (λ pace. value_keeps band channel (question_for f.kind.lm intra band (budget - tell_of pace)) (record { channel_is = inside; band_is = below })
      (may_ask f.kind.lm intra band (budget - tell_of pace))))

  bits_keeps : (band channel bits : ℕ) → HasBand f.kind channel band → bits ≤ 8 → Keeps f held (bits_script band channel bits)
  unfolding bits_script IsPlace IsTold heard
  bits_keeps band channel zero has few = keep_none
  bits_keeps band channel (suc bits) has few =
      keep_then (keep_ask (Fine band channel (suc bits)) (Raw (suc bits)) (λ s i. (has, few), λ answer is. fine_told (suc bits) answer few is)) (λ answer m. keep_none)

  pub fine_keeps : (a : Allocation) → ((band : ℕ) → band < f.kind.end → slice_index a.fine band ≤ 8) → Keeps f held (fine_script f.kind a)
  unfolding fine_script fine_at
  fine_keeps a few = keep_table (fine_at a.fine) f.kind.channels f.kind.end (λ band channel below inside.
      bits_keeps band channel (slice_index a.fine band) (record { channel_is = inside; band_is = below }) (few band below))

  round_keeps : (a : Allocation) (second : Bool) (left : ℕ) → Keeps f held (round_script f.kind a second left)
  unfolding last_at last_bit IsPlace IsTold
  round_keeps a second left = keep_table (last_at f.kind.channels a second left) f.kind.channels f.kind.end (λ band channel below inside.
      keep_if (is_reached f.kind.channels a second left band)
      (keep_then (keep_ask (Last band channel) _ (λ s i. record { channel_is = inside; band_is = below }, λ answer is. tt)) (λ answer m. keep_none))
      keep_none)

  pub last_keeps : (a : Allocation) (budget : ℕ) → Keeps f held (last_script f.kind a budget)
  unfolding last_script
  last_keeps a budget = keep_look (λ pace.
      let left = budget - tell_of pace in
      keep_then (round_keeps a false left) (λ first m. keep_then (round_keeps a true (left - f.kind.channels * bands_in a false f.kind.end)) (λ second n. keep_none)))

  -- ---- changes, spreading, boosts and trim

  flags_keeps : (transient : Bool) (budget left band : ℕ) (flag : Bool) (flags : List Bool) → left + band ≤ f.kind.end
      → Keeps f held (flags_script transient budget left band flag flags)
  unfolding flags_script IsPlace IsTold
  flags_keeps transient budget zero band flag flags inside = keep_none
  flags_keeps transient budget (suc left) band flag flags inside =
      keep_then (keep_bit_within (Tf band flag) _ _ _ (λ s i. omega (arith, inside), λ answer is. tt)) (λ turns m.
      flags_keeps transient budget left (band + 1) (turned turns flag) _ (omega (arith, inside)))

  select_keeps : (lm : ℕ) (transient : Bool) (kept : ℕ) (any : Bool) → Keeps f held (select_script lm transient kept any)
  unfolding select_script IsPlace IsTold
  select_keeps lm transient kept any = keep_if (nat_eq kept 1 && differ lm transient any) (keep_bit TfSelect _ (λ s i. tt, λ answer is. tt)) keep_none

  changes_keeps : (transient : Bool) (budget : ℕ) → Keeps f held (changes_script f.kind transient budget)
  unfolding changes_script changes_by
  changes_keeps transient budget = keep_look (λ pace.
      let kept = kept_of f.kind.lm transient budget (tell_of pace) in
      keep_then (flags_keeps transient (budget - kept) f.kind.end 0 false _ (omega arith)) (λ flags m.
      keep_then (select_keeps f.kind.lm transient kept (any_below flags 21)) (λ select n. keep_none)))

  turns_keeps : (b : Band) (left turn : ℕ) → b.band < f.kind.end → Keeps f held (turns_script b left turn)
  unfolding turns_script boost_script IsPlace IsTold
  turns_keeps b zero turn below = keep_none
  turns_keeps b (suc left) turn below =
      keep_then (keep_look (λ pace. keep_if (may_boost b turn (tell_frac_of pace)) (keep_bit (Boost b.band turn) _ (λ s i. below, λ answer is. tt)) keep_none)) (λ more m.
      keep_if more (turns_keeps b left (turn + 1) below) keep_none)

  boosts_keeps : (eighths left band : ℕ) (boosts : List ℤ) → left + band ≤ f.kind.end → Keeps f held (boosts_from f.kind eighths left band boosts)
  unfolding boosts_from
  boosts_keeps eighths zero band boosts inside = keep_none
  boosts_keeps eighths (suc left) band boosts inside =
      keep_then (turns_keeps (band_of f.kind eighths boosts band) 76 0 (omega (arith, inside))) (λ turns m.
      boosts_keeps eighths left (band + 1) _ (omega (arith, inside)))

  pub shaping_keeps : (transient : Bool) (len : ℕ) → Keeps f held (shaping_script f.kind transient len)
  unfolding shaping_script spread_script boosts_script trim_script IsPlace IsTold heard
  shaping_keeps transient len =
      keep_then (changes_keeps transient (8 * len)) (λ changes m.
      keep_then (keep_number_within Spread (Table SpreadTable) _ _ _ (λ s i. tt, λ answer is. let b = below_size 4 answer is in omega (arith, b))) (λ spread n.
      keep_then (boosts_keeps (64 * len) f.kind.end 0 _ (omega arith)) (λ boosts o.
      keep_then (keep_eighths_within Trim _ _ _ _ (λ s i. tt, λ answer is. tt)) (λ trim p. keep_none))))

  -- ---- the allocation

  turn_keeps : (kind : Kind) (band offer : ℕ) → band < f.kind.end → Keeps f held (turn_script kind band offer)
  unfolding turn_script IsPlace IsTold
  turn_keeps kind band offer below =
      keep_if (nat_le (max (threshold_of kind band) (bit_each kind + 8)) offer)
      (keep_then (keep_bit (Skip band (pos offer)) _ (λ s i. below, λ answer is. tt)) (λ kept m. keep_none))
      keep_none

  after_keeps : {A : Type 0} (first : Script A) (later : ℕ → ℕ → Script A) (turn : Turn)
      → Keeps f held first
      → ((asked share : ℕ) → Keeps f held (later asked share))
      → Keeps f held (after_turn first later turn)
  after_keeps first later Stays a b = a
  after_keeps first later (Leaves asked share) a b = b asked share

  skip_keeps : (p : Plan) (coded asked : ℕ) (bits : List ℕ) → coded ≤ f.kind.end → Keeps f held (skip_script p coded asked bits)
  unfolding skip_script
  skip_keeps p zero asked bits inside = keep_none
  skip_keeps p (suc band) asked bits inside =
      keep_if (nat_le band p.start) keep_none
      (keep_then (turn_keeps p.kind band (offer_of p band asked bits) (omega (arith, inside))) (λ turn m.
      after_keeps _ _ turn keep_none (λ more share. skip_keeps p band (asked + more) (slice_set bits band share) (omega (arith, inside)))))

  stereo_keeps : (p : Plan) (coded : ℕ) → coded ≤ 21 → Keeps f held (stereo_script p coded)
  unfolding stereo_script intensity_script dual_script IsPlace IsTold heard
  stereo_keeps p coded most =
      keep_then (keep_if (nat_eq p.reserves.intensity 0) keep_none
      (keep_then (keep_ask (Intensity coded) (Uniform (coded + 1)) (λ s i. tt, λ answer is. let b = below_size (coded + 1) answer is in omega (arith, b, most))) (λ answer m. keep_none)))
      (λ intensity m.
      keep_then (keep_if (nat_eq intensity 0 || nat_eq p.reserves.dual 0) keep_none (keep_bit Dual _ (λ s i. tt, λ answer is. tt))) (λ dual n. keep_none))

  plan_keeps : (p : Plan) → p.kind.end ≤ f.kind.end → Keeps f held (plan_script p)
  unfolding plan_script
  plan_keeps p same = keep_then (skip_keeps p p.kind.end 0 p.bits same) (λ s m.
      let c = skip_coded p p.kind.end 0 p.bits s m in
      keep_then (stereo_keeps p s.coded (let e = end_most p.kind in omega (arith, c, e))) (λ t n. keep_none))

  allocation_keeps : (total : ℤ) (boosts : List ℤ) (trim : ℤ) → Keeps f held (allocation_script f.kind total boosts trim)
  unfolding allocation_script plan_of
  allocation_keeps total boosts trim = plan_keeps (plan_of (record { kind = f.kind; total = total; boosts = boosts; trim = trim })) (omega arith)

  pub amounts_keeps : (len : ℕ) (s : Shaping) → Keeps f held (amounts_script f.kind len s)
  unfolding amounts_script amounts_by
  amounts_keeps len s = keep_look (λ pace. keep_then (allocation_keeps _ s.boosts (pos s.trim)) (λ a m. keep_none))

  pub collapse_keeps : (reserve : ℕ) → Keeps f held (collapse_script reserve)
  unfolding collapse_script IsPlace IsTold
  collapse_keeps reserve = keep_if (nat_eq reserve 0) keep_none (keep_then (keep_ask Collapse _ (λ s i. tt, λ answer is. tt)) (λ answer m. keep_none))
