-- What the settings of a frame's bands may be: short blocks from the second size on, changes of the tables, and in a frame of one
-- channel intensity from the first band on.
use Rattle.std.proofs.Common.{◌≡◌, ℕ, zero, suc, ◌+◌, ◌-◌, ◌*◌, ◌<◌, ◌≤◌, List, Bool, true, false, ◌&&◌, nat_eq, if◌then◌else◌, refl, sym, ◌∙◌, ap, subst, replicate, arith}
use Rattle.std.specs.Prelude.{ℤ, pos, ◌-ℤ◌, slice_set, slice_index_or}
use Rattle.std.proofs.lemmas.Bool.{false≢true}
use Rattle.std.proofs.lemmas.Bool.Decides.{nat_tests}
use Rattle.band_plan.specs.Plans.{IsChange}
use Rattle.band_plan.proofs.ShapeLaws.{gave}
use Rattle.bit_allocation.specs.declared.plan.Plan.{Plan}
use Rattle.bit_allocation.specs.declared.stereo.Stereo.{Stereo}
use Rattle.bit_allocation.specs.Amounts.{raised}
use Rattle.bit_allocation.specs.Requests.{AreBoosts}
use Rattle.bit_allocation.specs.Plans.{plan_of, reserves_of}
use Rattle.bit_allocation.specs.Scripts.{skip_script, intensity_script, dual_script, stereo_script, plan_script, allocation_script}
use Rattle.bit_allocation.specs.Shares.{allocation_of}
use Rattle.celt_base.specs.declared.coder.Place.TheVariants.{Transient, Intensity}
use Rattle.celt_base.specs.declared.question.Question.TheVariants.{Uniform}
use Rattle.celt_base.specs.declared.state.Allocation.{Allocation}
use Rattle.celt_base.specs.declared.kind.Kind.{Kind}
use Rattle.celt_base.specs.Paces.{tell_of, tell_frac_of}
use Rattle.celt_base.specs.WalkOrders.{MayGive}
use Rattle.celt_base.specs.WalkScripts.{Done, and_then, asks_at, bit_within}
use Rattle.celt_tables.specs.Tables.{change_of}
use Rattle.frame_symbols.specs.declared.fields.Amounts.{Amounts}
use Rattle.frame_symbols.specs.declared.fields.Opening.{Opening}
use Rattle.frame_symbols.specs.declared.fields.Shaping.{Shaping}
use Rattle.frame_symbols.specs.Boosts.{boosts_script, trim_script}
use Rattle.frame_symbols.specs.Changes.{flags_script, select_script, kept_of, changes_of, changes_by, changes_script, any_below}
use Rattle.frame_symbols.specs.Frames.{opening_script, spread_script, shaping_script, amounts_by, amounts_script, rest_of, reserve_of}
use Rattle.frame_symbols.specs.Openings.{filter_script, transient_script, intra_script}
use Rattle.frame_symbols.proofs.ChangeSteps.{Changing, changes_start, changes_next, changes_last, changes_all}
use Rattle.celt_encode.proofs.PlaceShares.{all_boosts, trim_may}

-- ---- short blocks

none_short : (kind : Kind) (budget : ℕ) (t : Bool) → kind.lm ≡ 0 → MayGive (transient_script kind budget) t → t ≡ false
unfolding transient_script
none_short kind budget t e m = by_test (nat_eq kind.lm 0) (grind (arith, nat_tests, e)) m
  where
    by_test : (b : Bool) → b ≡ true → MayGive (if b then Done false else bit_within Transient 3 3 budget) t → t ≡ false
    by_test true e m = m
    by_test false e m = absurd (false≢true e)

pub opening_long : (kind : Kind) (budget : ℕ) (o : Opening) → MayGive (opening_script kind budget) o → kind.lm ≡ 0 → o.transient ≡ false
unfolding opening_script
opening_long kind budget o m e =
    let g = gave (filter_script budget) (λ post_filter. and_then (transient_script kind budget) (λ transient. and_then (intra_script budget) (λ intra. Done (record { post_filter = post_filter; transient = transient; intra = intra })))) o m in
    let h = gave (transient_script kind budget) (λ transient. and_then (intra_script budget) (λ intra. Done (record { post_filter = g.value; transient = transient; intra = intra }))) o g.second in
    let k = gave (intra_script budget) (λ intra. Done (record { post_filter = g.value; transient = h.value; intra = intra })) o h.second in
    let last : Opening = record { post_filter = g.value; transient = h.value; intra = k.value } in
    ap (λ (x : Opening). x.transient) {y = last} k.second ∙ none_short kind budget h.value e h.first

-- ---- changes

record Changed (kind : Kind) (transient select : Bool) (flags : List Bool) (band : ℕ) : Type 0 where
  changes : List ℤ
  is : Changing kind transient select flags changes band

changed_to : (kind : Kind) (transient select : Bool) (flags : List Bool) (band : ℕ) → band ≤ kind.end → Changed kind transient select flags band
changed_to kind transient select flags zero inside = record { changes = replicate 21 (pos 0); is = changes_start kind transient select flags }
changed_to kind transient select flags (suc band) inside =
    let g = changed_to kind transient select flags band (omega (arith, inside)) in
    let value : ℤ = change_of kind.lm transient select (slice_index_or flags band false) in
    let e : band + 1 ≡ suc band = omega arith in
    record {
      changes = slice_set g.changes band value;
      is = subst (Changing kind transient select flags (slice_set g.changes band value)) e (changes_next value g.is (omega (arith, inside)) refl);
    }

AreChanges : Kind → Bool → List ℤ → Type 0
AreChanges kind transient changes = (band : ℕ) → band < kind.end → IsChange kind.lm transient (slice_index_or changes band (pos 0))

changes_are : (kind : Kind) (transient select : Bool) (flags : List Bool) → AreChanges kind transient (changes_of kind transient select flags)
unfolding AreChanges
changes_are kind transient select flags =
    let g = changed_to kind transient select flags kind.end (omega arith) in
    let all : AreChanges kind transient g.changes = changes_all g.is (omega arith) in
    subst (AreChanges kind transient) (changes_last g.is (omega arith)) all

changes_may : (kind : Kind) (transient : Bool) (budget : ℕ) (changes : List ℤ) → MayGive (changes_script kind transient budget) changes → AreChanges kind transient changes
unfolding changes_script changes_by
changes_may kind transient budget changes m =
    let kept : ℕ = kept_of kind.lm transient budget (tell_of m.0) in
    let g = gave (flags_script transient (budget - kept) kind.end 0 false (replicate 21 false))
    (λ flags. and_then (select_script kind.lm transient kept (any_below flags 21)) (λ select. Done (changes_of kind transient select flags))) changes m.1 in
    let h = gave (select_script kind.lm transient kept (any_below g.value 21)) (λ select. Done (changes_of kind transient select g.value)) changes g.second in
    subst (AreChanges kind transient) (sym h.second) (changes_are kind transient h.value g.value)

-- what is settled of a frame's bands
pub record AreSettled (kind : Kind) (transient : Bool) (s : Shaping) : Type 0 where
  pub same : s.settings.transient ≡ transient
  pub changes : (band : ℕ) → band < kind.end → IsChange kind.lm s.settings.transient (slice_index_or s.settings.tf band (pos 0))
  pub boosts : AreBoosts kind s.boosts
  pub trim : s.trim ≤ 10

pub shaping_may : (kind : Kind) (transient : Bool) (len : ℕ) (s : Shaping) → MayGive (shaping_script kind transient len) s → AreSettled kind transient s
unfolding shaping_script AreChanges
shaping_may kind transient len s m =
    let g = gave (changes_script kind transient (8 * len)) (λ changes.
    and_then (spread_script (8 * len)) (λ spread.
    and_then (boosts_script kind (64 * len)) (λ boosts.
    and_then (trim_script (64 * len) boosts) (λ trim.
    Done (record { settings = record { transient = transient; spread = spread; tf = changes }; boosts = boosts; trim = trim }))))) s m in
    let h = gave (spread_script (8 * len)) (λ spread.
    and_then (boosts_script kind (64 * len)) (λ boosts.
    and_then (trim_script (64 * len) boosts) (λ trim.
    Done (record { settings = record { transient = transient; spread = spread; tf = g.value }; boosts = boosts; trim = trim })))) s g.second in
    let k = gave (boosts_script kind (64 * len)) (λ boosts.
    and_then (trim_script (64 * len) boosts) (λ trim.
    Done (record { settings = record { transient = transient; spread = h.value; tf = g.value }; boosts = boosts; trim = trim }))) s h.second in
    let l = gave (trim_script (64 * len) k.value) (λ trim.
    Done (record { settings = record { transient = transient; spread = h.value; tf = g.value }; boosts = k.value; trim = trim })) s k.second in
    let last : Shaping = record { settings = record { transient = transient; spread = h.value; tf = g.value }; boosts = k.value; trim = l.value } in
    subst (AreSettled kind transient) {x = last} (sym {b = last} l.second) (record { same = refl; changes = changes_may kind transient (8 * len) g.value g.first; boosts = all_boosts kind (64 * len) k.value k.first; trim = trim_may (64 * len) k.value l.value l.first })

-- ---- in a frame of one channel intensity begins at the first band

none_asked : (p : Plan) (coded i : ℕ) → p.reserves.intensity ≡ 0 → MayGive (intensity_script p coded) i → i ≡ 0
unfolding intensity_script
none_asked p coded i none m = by_test (nat_eq p.reserves.intensity 0) (grind (arith, nat_tests, none)) m
  where
    by_test : (b : Bool) → b ≡ true → MayGive (if b then Done 0 else and_then (asks_at (Intensity coded) (Uniform (coded + 1))) (λ answer. Done (raised answer))) i → i ≡ 0
    by_test true e m = m
    by_test false e m = absurd (false≢true e)

stereo_mono : (p : Plan) (coded : ℕ) (t : Stereo) → p.reserves.intensity ≡ 0 → MayGive (stereo_script p coded) t → t.intensity ≡ 0
unfolding stereo_script
stereo_mono p coded t none m =
    let g = gave (intensity_script p coded) (λ intensity. and_then (dual_script p intensity) (λ dual. Done (record { intensity = intensity; dual = dual }))) t m in
    let h = gave (dual_script p g.value) (λ dual. Done (record { intensity = g.value; dual = dual })) t g.second in
    let last : Stereo = record { intensity = g.value; dual = h.value } in
    ap (λ (x : Stereo). x.intensity) {y = last} h.second ∙ none_asked p coded g.value none g.first

reserve_none : (x y : Bool) (n : ℕ) → x ≡ false → (if x && y then n else 0) ≡ 0
reserve_none true y n e = absurd (false≢true (sym e))
reserve_none false y n e = refl

plan_mono : (kind : Kind) (total : ℤ) (boosts : List ℤ) (trim : ℤ) → kind.channels ≡ 1
    → (plan_of (record { kind = kind; total = total; boosts = boosts; trim = trim })).reserves.intensity ≡ 0
unfolding plan_of reserves_of
plan_mono kind total boosts trim one = reserve_none (nat_eq kind.channels 2) _ _ (grind (arith, nat_tests, one))

allocated_mono : (p : Plan) (a : Allocation) → p.reserves.intensity ≡ 0 → MayGive (plan_script p) a → a.intensity ≡ 0
unfolding plan_script allocation_of
allocated_mono p a none m =
    let g = gave (skip_script p p.kind.end 0 p.bits) (λ s. and_then (stereo_script p s.coded) (λ t. Done (allocation_of p s t))) a m in
    let h = gave (stereo_script p g.value.coded) (λ t. Done (allocation_of p g.value t)) a g.second in
    ap (λ (x : Allocation). x.intensity) h.second ∙ stereo_mono p g.value.coded h.value none h.first

pub amounts_mono : (kind : Kind) (len : ℕ) (s : Shaping) (x : Amounts) → MayGive (amounts_script kind len s) x → kind.channels ≡ 1 → x.allocation.intensity ≡ 0
unfolding amounts_script amounts_by allocation_script
amounts_mono kind len s x m one =
    let rest : ℤ = rest_of len (tell_frac_of m.0) in
    let reserve : ℕ = reserve_of kind s.settings.transient rest in
    let g = gave (allocation_script kind (rest -ℤ pos reserve) s.boosts (pos s.trim)) (λ a. Done (record { allocation = a; reserve = reserve })) x m.1 in
    ap (λ (y : Amounts). y.allocation.intensity) g.second ∙ allocated_mono _ g.value (plan_mono kind (rest -ℤ pos reserve) s.boosts (pos s.trim) one) g.first
