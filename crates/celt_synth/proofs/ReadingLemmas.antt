-- What the fields of a frame's symbols hold, as the definitions of its reading say it.
use Rattle.std.proofs.Common.{◌≡◌, ℕ, zero, suc, ◌+◌, ◌-◌, ◌*◌, ◌^◌, ◌<◌, ◌≤◌, min, max, nat_lt, ◌&&◌, if◌then◌else◌, Bool, true, false, true≢false, refl, sym, arith, ap, ◌∙◌, List, [], ◌∷◌, map, get_or, length}
use Rattle.std.specs.Prelude.{ℤ, pos, ◌+ℤ◌, ◌*ℤ◌, ◌≤ℤ◌, ◌<ℤ◌, Option, None, Some, slice_index, slice_index_or}
use Rattle.std.specs.List.{range_with_len}
use Rattle.std.proofs.lemmas.Bool.Decides.{nat_tests}
use Rattle.std.proofs.lemmas.Int.{ints}
use Rattle.std.proofs.lemmas.List.FromFn.{get_or-map-range_with_len}
use Rattle.band_energy.specs.declared.energy.Energy.{Energy}
use Rattle.band_energy.specs.EnergyValues.{alpha_of, beta_of, carried, coarse_of, fine_of, last_of, energy_by, energy_at, energies_of}
use Rattle.band_plan.specs.Plans.{Holds, amount_at, all_nodes}
use Rattle.band_shapes.specs.Frames.{symbols_of}
use Rattle.bit_allocation.specs.Amounts.{most_of}
use Rattle.bit_allocation.proofs.AmountLemmas.{most_of_most}
use Rattle.celt_base.specs.declared.kind.Kind.{Kind}
use Rattle.celt_base.specs.declared.state.Allocation.{Allocation}
use Rattle.celt_base.specs.declared.state.Setting.{Setting}
use Rattle.celt_base.specs.States.{IsAllocation, IsShare}
use Rattle.fixed_math.specs.Items.{listed}
use Rattle.fixed_math.proofs.ItemLemmas.{listed_from}
use Rattle.frame_symbols.specs.declared.fields.Fields.{Fields}
use Rattle.frame_symbols.specs.declared.opening.PostFilter.{PostFilter}
use Rattle.frame_symbols.specs.Frames.{Sound}
use Rattle.frame_symbols.specs.Held.{SuitsKind, HoldsSound, HoldsFrame}
use Rattle.frame_symbols.specs.Openings.{IsPostFilter}
use Rattle.frame_symbols.specs.Readings.{reading_of, range_of}
use Rattle.celt_synth.specs.Decoders.{Hears}
use Rattle.celt_synth.specs.Readings.{by_channels, energy_of, setting_of, bands_in, heard_of, shaped_by, shaped_of, frame_step, IsShaped}
use Rattle.celt_synth.specs.Rows.{greater}
use Rattle.celt_synth.specs.Shapes.{Shaped}
use Rattle.celt_synth.specs.Shared.{Heard, silent_energies}
use Rattle.celt_synth.specs.States.{State}
use Rattle.celt_synth.specs.Steps.{made_silent, made_sounding, made_of, stepped, step, conceal}
use Rattle.celt_synth.specs.declared.decoder.Shaping.{Shaping}
use Rattle.celt_synth.proofs.StepLemmas.{setting_same, end_most}

entry_by : {A : Type 0} (blank : A) (rows : List (List A)) (c b : ℕ) → c < 2 → b < 21 → get_or (get_or (by_channels blank rows) c []) b blank ≡ get_or (get_or rows b []) c blank
entry_by blank rows c b l h =
    ap (λ row. get_or row b blank) (get_or-map-range_with_len (λ channel. map (λ band. get_or (get_or rows band []) channel blank) (range_with_len 0 21)) 0 2 c c [] l (omega arith))
    ∙ get_or-map-range_with_len (λ band. get_or (get_or rows band []) c blank) 0 21 b b blank h (omega arith)

-- two tables of answers that agree entry by entry give the same energies
record SameAnswers (e f : Energy) : Type 0 where
  pub coarse : (c b : ℕ) → c < 2 → b < 21 → get_or (get_or e.coarse c []) b (pos 0) ≡ get_or (get_or f.coarse c []) b (pos 0)
  pub fine : (c b : ℕ) → c < 2 → b < 21 → get_or (get_or e.fine c []) b 0 ≡ get_or (get_or f.fine c []) b 0
  pub last : (c b : ℕ) → c < 2 → b < 21 → get_or (get_or e.last c []) b None ≡ get_or (get_or f.last c []) b None

carried_same : (beta : ℕ) (xs ys : List ℤ) (n : ℕ) → ((b : ℕ) → b < n → get_or xs b (pos 0) ≡ get_or ys b (pos 0)) → carried beta xs n ≡ carried beta ys n
carried_same beta xs ys zero h = refl
carried_same beta xs ys (suc n) h =
    let before = carried_same beta xs ys n (λ b l. h b (omega arith)) in
    let here = h n (omega arith) in
    λ k. before k +ℤ pos (2 ^ 17 - 4 * beta) *ℤ here k

entry_same : (kind : Kind) (intra : Bool) (a : Allocation) (e f : Energy) (es : List (List ℤ)) → SameAnswers e f → (c b : ℕ) → energy_at kind intra a e es c b ≡ energy_at kind intra a f es c b
unfolding energy_at energy_by
entry_same kind intra a e f es r c b = by_tests (nat_lt c kind.channels) (nat_lt b kind.end) refl refl
  where
    by_tests : (s t : Bool) → nat_lt c kind.channels ≡ s → nat_lt b kind.end ≡ t
        → (if s && t then energy_by (alpha_of kind.lm intra) (beta_of kind.lm intra) a.fine e c (get_or es c []) b else get_or (get_or es c []) b (pos 0))
        ≡ (if s && t then energy_by (alpha_of kind.lm intra) (beta_of kind.lm intra) a.fine f c (get_or es c []) b else get_or (get_or es c []) b (pos 0))
    by_tests true true p q =
        let x : c < kind.channels = grind (arith, nat_tests) in
        let y : b < kind.end = grind (arith, nat_tests) in
        let two = kind.two_channels in
        let few = end_most kind in
        let l : c < 2 = omega (arith, x, two) in
        let h : b < 21 = omega (arith, y, few) in
        let before = carried_same (beta_of kind.lm intra) (get_or e.coarse c []) (get_or f.coarse c []) b (λ j m. r.coarse c j l (omega (arith, m, h))) in
        λ k.
        coarse_of (alpha_of kind.lm intra) (get_or (get_or es c []) b (pos 0)) (before k) (r.coarse c b l h k)
        +ℤ fine_of (slice_index a.fine b) (r.fine c b l h k) +ℤ last_of (slice_index a.fine b) (r.last c b l h k)
    by_tests true false p q = refl
    by_tests false t p q = refl

energies_same : (kind : Kind) (intra : Bool) (a : Allocation) (e f : Energy) (es : List (List ℤ)) → SameAnswers e f → energies_of kind intra a e es ≡ energies_of kind intra a f es
unfolding energies_of
energies_same kind intra a e f es r = λ k. map (λ c. map (λ b. entry_same kind intra a e f es r c b k) (range_with_len 0 21)) (range_with_len 0 2)

-- the energies that the fields of a sound give
pub energies_held : (kind : Kind) (f : Fields) (s : Sound) (es : List (List ℤ)) → HoldsSound kind f s
    → energies_of kind f.opening.intra f.allocation f.energy es ≡ energies_of kind s.opening.intra s.amounts.allocation (energy_of s) es
energies_held kind f s es r =
    (λ k. energies_of kind (r.opening k).intra (r.allocation k) f.energy es)
    ∙ energies_same kind s.opening.intra s.amounts.allocation f.energy (energy_of s) es (record {
      coarse = λ c b l h. r.coarse c b ∙ sym (entry_by (pos 0) s.coarse c b l h);
      fine = λ c b l h. r.fine c b ∙ sym (entry_by 0 s.fine c b l h);
      last = λ c b l h. r.last c b ∙ sym (entry_by None s.last c b l h);
    })

-- the symbols of its bands
pub bands_held : (kind : Kind) (f : Fields) (s : Sound) → length f.bands.amounts ≡ 21 → HoldsSound kind f s → symbols_of f.bands ≡ bands_in s
bands_held kind f s count r = λ k. record {
  settings = r.bands.settings_are k;
  intensity = r.bands.intensity k;
  dual = r.bands.dual k;
  amounts = listed_from f.bands.amounts 21 (amount_at s.plans) count (λ b l. r.bands.amounts b) k;
  nodes = r.bands.nodes k;
}

-- a setting within the bounds
least_kept : (p : ℕ) → 15 ≤ p → p ≤ 1022 → p ≡ max 15 (min 1022 p)
least_kept p l h = omega arith

most_kept : (n p : ℕ) → p ≤ n → p ≡ min n p
most_kept n p h = omega arith

pub setting_held : (x : Setting) (p : PostFilter) → IsPostFilter p → x.period ≡ p.period → x.gain ≡ p.gain → x.tapset ≡ p.tapset → x ≡ setting_of p
unfolding setting_of
setting_held x p i a b c =
    setting_same x (setting_of p) (a ∙ least_kept p.period i.least i.most) (b ∙ most_kept 24576 p.gain i.gain) (c ∙ most_kept 2 p.tapset i.tapset)

-- the amounts are within their caps
pub pulses_least : (kind : Kind) (a : Allocation) → IsAllocation (λ band. pos (most_of kind band)) kind a → (b : ℕ) → b < kind.end → pos 0 ≤ℤ get_or a.pulses b (pos 0)
pulses_least kind a i b l = (i.pulses b l).least

pub pulses_most : (kind : Kind) (a : Allocation) → IsAllocation (λ band. pos (most_of kind band)) kind a → (b : ℕ) → b < kind.end → get_or a.pulses b (pos 0) <ℤ pos (2 ^ 20)
pulses_most kind a i b l =
    let few = end_most kind in
    let m = most_of_most kind b (omega (arith, few, l)) in
    let n = (i.pulses b l).most in
    omega (arith, ints, m, n)

-- what the frame step asks of a frame that is not silent
pub suits_held : (kind : Kind) (f : Fields) (value : Option Sound) → HoldsFrame kind f value → f.silent ≡ false → SuitsKind kind f
suits_held kind f None h e = absurd (true≢false (sym h.silent ∙ e))
suits_held kind f (Some s) h e = h.suits

pub hears_held : (kind : Kind) (f : Fields) (range : ℕ) (invert : Bool) (seed : ℕ) (p : Shaping) (xs ys : List ℤ) (value : Option Sound) → IsShaped kind f range invert seed p xs ys → HoldsFrame kind f value → f.silent ≡ false
    → Hears kind p xs ys (heard_of kind range value) (shaped_of kind value invert seed)
unfolding heard_of shaped_of
hears_held kind f range invert seed p xs ys None r h e = absurd (true≢false (sym h.silent ∙ e))
hears_held kind f range invert seed p xs ys (Some s) r h e =
    let bands = bands_held kind f s r.count h in
    record {
      transient_is = r.transient_is ∙ ap (λ o. o.transient) h.opening;
      collapse_is = r.collapse_is ∙ h.collapse;
      setting_is = r.setting_is ∙ ap (λ o. setting_of o.post_filter) h.opening;
      range_is = r.range_is;
      pulses_are = r.pulses_are ∙ ap (λ a. a.pulses) h.allocation;
      masks_are = r.masks_are ∙ ap (λ b. (shaped_by kind b invert seed).masks) bands;
      seed_is = r.seed_is ∙ ap (λ b. (shaped_by kind b invert seed).shapes.seed) bands;
      left_is = r.left_is ∙ ap (λ b. (shaped_by kind b invert seed).shapes.left) bands;
      right_is = λ two. r.right_is ∙ ap (λ b. (shaped_by kind b invert seed).shapes.right) bands;
    }

-- the energies of a frame that is not silent
pub changed_held : (kind : Kind) (f : Fields) (range : ℕ) (value : Option Sound) (es : List (List ℤ)) → HoldsFrame kind f value → f.silent ≡ false
    → energies_of kind f.opening.intra f.allocation f.energy es ≡ (heard_of kind range value).changed es
unfolding heard_of
changed_held kind f range None es h e = absurd (true≢false (sym h.silent ∙ e))
changed_held kind f range (Some s) es h e = energies_held kind f s es h

pub not_silent : (kind : Kind) (f : Fields) (range : ℕ) (value : Option Sound) → HoldsFrame kind f value → f.silent ≡ false → (heard_of kind range value).silent ≡ false
unfolding heard_of
not_silent kind f range None h e = absurd (true≢false (sym h.silent ∙ e))
not_silent kind f range (Some s) h e = refl

pub silent_held : (kind : Kind) (f : Fields) (range : ℕ) (value : Option Sound) → HoldsFrame kind f value → f.silent ≡ true → heard_of kind range value ≡ heard_of kind range None
silent_held kind f range None h e = refl
silent_held kind f range (Some s) h e = absurd (true≢false (sym e ∙ h.sounds))

-- the step of a frame that is silent, and of one that is not
pub step_silent : (stream : ℕ) (kind : Kind) (f : Fields) (range : ℕ) (value : Option Sound) (shaped : ℕ → Shaped) (gain : ℤ) (s : State) → HoldsFrame kind f value → f.silent ≡ true
    → stepped stream kind gain (made_silent kind range (silent_energies kind s.energies)) s ≡ step stream kind (heard_of kind range value) shaped gain s
unfolding step made_of heard_of
step_silent stream kind f range None shaped gain s h e = refl
step_silent stream kind f range (Some x) shaped gain s h e = absurd (true≢false (sym e ∙ h.sounds))

pub step_sounding : (stream : ℕ) (kind : Kind) (heard : Heard) (shaped : ℕ → Shaped) (gain : ℤ) (s : State) (es : List (List ℤ)) → heard.silent ≡ false → es ≡ heard.changed (greater kind.channels s.energies)
    → stepped stream kind gain (made_sounding kind heard (shaped s.seed) es s) s ≡ step stream kind heard shaped gain s
unfolding step made_of
step_sounding stream kind heard shaped gain s es e h =
    ap (λ x. stepped stream kind gain (made_sounding kind heard (shaped s.seed) x s) s) h
    ∙ ap (λ t. stepped stream kind gain (if t then made_silent kind heard.range (silent_energies kind s.energies) else made_sounding kind heard (shaped s.seed) (heard.changed (greater kind.channels s.energies)) s) s) (sym e)
