-- The walks of the parts of a frame, and of a whole frame.
use Rattle.std.proofs.Common.{◌≡◌, ◌≢◌, ℕ, ◌-◌, ◌*◌, ◌≤◌, List, Bool, true, false, nat_eq, sym, ◌∙◌, ap, subst, arith}
use Rattle.std.specs.Prelude.{ℤ, pos, ◌-ℤ◌, ◌≤ℤ◌, ◌^◌, Option, None, Some, unsigned_abs}
use Rattle.std.proofs.lemmas.Int.{ints, to_z-of_z, to_z_pos, fits_signed_from_abs}
use Rattle.std.specs.Int.{w32, cast_signed as to_z, cast_unsigned as of_z}
use Rattle.std.specs.Prelude.{FitsSigned, neg_ℤ}
use Rattle.std.proofs.lemmas.Bool.Decides.{nat_tests}
use Rattle.band_energy.specs.EnergyScripts.{coarse_script, fine_script, last_script}
use Rattle.bit_allocation.specs.Amounts.{most_of}
use Rattle.bit_allocation.specs.Scripts.{allocation_script}
use Rattle.celt_base.specs.States.{IsAllocation}
use Rattle.celt_base.specs.declared.coder.Place.TheVariants.{Silence, Spread, Collapse}
use Rattle.celt_base.specs.declared.kind.Kind.{Kind}
use Rattle.celt_base.specs.declared.question.Question.TheVariants.{Table, Raw}
use Rattle.celt_base.specs.declared.question.TableId.TheVariants.{Spread as SpreadTable}
use Rattle.celt_base.specs.declared.state.Allocation.{Allocation}
use Rattle.celt_base.specs.Paces.{tell_frac_of}
use Rattle.celt_base.specs.WalkCalls.{CoderCalls, ChooserCalls}
use Rattle.celt_base.specs.WalkScripts.{asks_at, asks_bit, is_one}
use Rattle.celt_base.specs.WalkTables.{HoldsRows}
use Rattle.celt_base.specs.Walks.{Walked}
use Rattle.celt_base.proofs.WalkSteps.{Going, start, look, walk, walk_last, end, when_true, when_false, no_walk}
use Rattle.band_plan.specs.declared.symbols.BandSettings.{BandSettings}
use Rattle.frame_symbols.specs.declared.fields.Amounts.{Amounts}
use Rattle.frame_symbols.specs.declared.fields.Fields.{Fields}
use Rattle.frame_symbols.specs.declared.fields.Opening.{Opening}
use Rattle.frame_symbols.specs.declared.fields.Shaping.{Shaping}
use Rattle.frame_symbols.specs.declared.opening.PostFilter.{PostFilter}
use Rattle.frame_symbols.specs.Askings.{number_within}
use Rattle.band_plan.specs.Plans.{Planned, bands_script, Holds}
use Rattle.frame_symbols.specs.Boosts.{boosts_script, trim_script}
use Rattle.frame_symbols.specs.Changes.{changes_script}
use Rattle.frame_symbols.specs.Openings.{filter_script, transient_script, intra_script}
use Rattle.frame_symbols.specs.Frames.{opening_script, spread_script, shaping_script, rest_of, reserve_of, amounts_by, amounts_script, collapse_script, Sound, ending_script, sound_script, unless_silent, frame_script}
use Rattle.frame_symbols.specs.FrameWalks.{HoldsEnding}
use Rattle.frame_symbols.specs.Held.{HoldsSound}
use Rattle.band_energy.specs.EnergyRows.{AreCoarse}

module _ {C H : Type 0} {coder : CoderCalls C} {chooser : ChooserCalls H} where
  pub opening_walked : {c d e f : C} {h k m n : H} (kind : Kind) (budget : ℕ) (post_filter : PostFilter) (transient intra : Bool)
      → Walked coder chooser (filter_script budget) post_filter c h d k
      → Walked coder chooser (transient_script kind budget) transient d k e m
      → Walked coder chooser (intra_script budget) intra e m f n
      → Walked coder chooser (opening_script kind budget) (record { post_filter = post_filter; transient = transient; intra = intra }) c h f n
  unfolding opening_script
  opening_walked kind budget post_filter transient intra u v w = end (walk _ (walk _ (walk _ start u) v) w)

  pub shaping_walked : {c d e f i : C} {h k m n j : H} (kind : Kind) (transient : Bool) (len spread trim : ℕ) (changes boosts : List ℤ)
      → Walked coder chooser (changes_script kind transient (8 * len)) changes c h d k
      → Walked coder chooser (number_within Spread (Table SpreadTable) 4 (8 * len) 2) spread d k e m
      → Walked coder chooser (boosts_script kind (64 * len)) boosts e m f n
      → Walked coder chooser (trim_script (64 * len) boosts) trim f n i j
      → Walked coder chooser (shaping_script kind transient len)
      (record { settings = record { transient = transient; spread = spread; tf = changes }; boosts = boosts; trim = trim }) c h i j
  unfolding shaping_script spread_script
  shaping_walked kind transient len spread trim changes boosts u v w x = end (walk _ (walk _ (walk _ (walk _ start u) v) w) x)

  pub amounts_walked : {c d : C} {h k : H} (kind : Kind) (len tell reserve : ℕ) (s : Shaping) (rest total tilt : ℤ) (a : Allocation)
      → tell ≡ tell_frac_of (coder.pace c)
      → rest ≡ rest_of len tell
      → reserve ≡ reserve_of kind s.settings.transient rest
      → total ≡ rest -ℤ pos reserve
      → tilt ≡ pos s.trim
      → Walked coder chooser (allocation_script kind total s.boosts tilt) a c h d k
      → Walked coder chooser (amounts_script kind len s) (record { allocation = a; reserve = reserve }) c h d k
  unfolding amounts_script amounts_by
  amounts_walked {c} {d} {h} {k} kind len tell reserve s rest total tilt a told rest_is reserve_is total_is tilt_is w =
      let e : rest ≡ rest_of len (tell_frac_of (coder.pace c)) = rest_is ∙ ap (rest_of len) told in
      let v : Walked coder chooser (allocation_script kind (rest -ℤ pos reserve) s.boosts (pos s.trim)) a c h d k =
      subst (λ t. Walked coder chooser (allocation_script kind t s.boosts (pos s.trim)) a c h d k) total_is
      (subst (λ t. Walked coder chooser (allocation_script kind total s.boosts t) a c h d k) tilt_is w) in
      let by : Walked coder chooser (amounts_by kind s rest reserve) (record { allocation = a; reserve = reserve }) c h d k = end (walk _ start v) in
      let r : Amounts = record { allocation = a; reserve = reserve } in
      walk_last (look start)
      (subst (λ x. Walked coder chooser (amounts_by kind s x (reserve_of kind s.settings.transient x)) r c h d k) e
      (subst (λ n. Walked coder chooser (amounts_by kind s rest n) r c h d k) reserve_is by))

  pub no_collapse : {c : C} {h : H} (reserve : ℕ) → reserve ≡ 0 → Walked coder chooser (collapse_script reserve) false c h c h
  unfolding collapse_script
  no_collapse reserve e = let t : nat_eq reserve 0 ≡ true = grind (arith, nat_tests) in when_true (nat_eq reserve 0) _ _ t no_walk

  pub collapse_asked : {c d : C} {h k : H} {answer : ℤ} (reserve : ℕ) → reserve ≢ 0
      → Walked coder chooser (asks_at Collapse (Raw 1)) answer c h d k
      → Walked coder chooser (collapse_script reserve) (is_one answer) c h d k
  unfolding collapse_script
  collapse_asked reserve ne w = let t : nat_eq reserve 0 ≡ false = grind (arith, nat_tests) in when_false (nat_eq reserve 0) _ _ t (end (walk _ start w))

  pub ending_walked : {c d e f i : C} {h k m n j : H} (kind : Kind) (len : ℕ) (o : Opening) (coarse : List (List ℤ)) (s : Shaping) (a : Amounts)
      (fine : List (List ℕ)) (plans : List Planned) (collapse : Bool) (last : List (List (Option ℕ))) (total : ℤ)
      → total ≡ pos (64 * len - a.reserve)
      → Walked coder chooser (fine_script kind a.allocation) fine c h d k
      → Walked coder chooser (bands_script kind s.settings a.allocation total) plans d k e m
      → Walked coder chooser (collapse_script a.reserve) collapse e m f n
      → Walked coder chooser (last_script kind a.allocation (8 * len)) last f n i j
      → Walked coder chooser (ending_script kind len o coarse s a) (record {
        opening = o;
        coarse = coarse;
        shaping = s;
        amounts = a;
        fine = fine;
        plans = plans;
        collapse = collapse;
        last = last;
      }) c h i j
  unfolding ending_script
  ending_walked {d = d} {e = e} {k = k} {m = m} kind len o coarse s a fine plans collapse last total is u v w x =
      end (walk _ (walk _ (walk _ (walk _ start u)
      (subst (λ z. Walked coder chooser (bands_script kind s.settings a.allocation z) plans d k e m) is v)) w) x)

  pub sound_walked : {c d e f i j : C} {h k m n p q : H} (kind : Kind) (len : ℕ) (o : Opening) (coarse : List (List ℤ)) (s : Shaping) (a : Amounts) (sound : Sound)
      → Walked coder chooser (opening_script kind (8 * len)) o c h d k
      → Walked coder chooser (coarse_script kind o.intra (8 * len)) coarse d k e m
      → Walked coder chooser (shaping_script kind o.transient len) s e m f n
      → Walked coder chooser (amounts_script kind len s) a f n i p
      → Walked coder chooser (ending_script kind len o coarse s a) sound i p j q
      → Walked coder chooser (sound_script kind len) sound c h j q
  unfolding sound_script
  sound_walked kind len o coarse s a sound u v w x y = walk_last (walk _ (walk _ (walk _ (walk _ start u) v) w) x) y

  pub silent_walked : {c d : C} {h k : H} (kind : Kind) (len : ℕ) (silent : Bool) → silent ≡ true
      → Walked coder chooser (asks_bit Silence 15) silent c h d k
      → Walked coder chooser (frame_script kind len) None c h d k
  unfolding frame_script
  silent_walked {c} {d} {h} {k} kind len silent is w =
      end (subst (λ b. Going coder chooser (frame_script kind len) (unless_silent kind len b) c h d k) is (walk _ start w))

  pub frame_walked : {c d e : C} {h k m : H} (kind : Kind) (len : ℕ) (silent : Bool) (sound : Sound) → silent ≡ false
      → Walked coder chooser (asks_bit Silence 15) silent c h d k
      → Walked coder chooser (sound_script kind len) sound d k e m
      → Walked coder chooser (frame_script kind len) (Some sound) c h e m
  unfolding frame_script
  frame_walked {c} {d} {e} {h} {k} {m} kind len silent sound is w v =
      end (walk _ (subst (λ b. Going coder chooser (frame_script kind len) (unless_silent kind len b) c h d k) is (walk _ start w)) v)

pub ending_holds : (kind : Kind) (f : Fields) (o : Opening) (s : Shaping) (m : Amounts) (coarse rows : List (List ℤ)) (sound : Sound)
    → HoldsEnding kind f o s m coarse sound
    → sound.coarse ≡ rows
    → HoldsRows (pos 0) coarse rows
    → AreCoarse coarse
    → s.settings.transient ≡ o.transient
    → IsAllocation (λ band. pos (most_of kind band)) kind m.allocation
    → f.silent ≡ false
    → HoldsSound kind f sound
ending_holds kind f o s m coarse rows sound h rows_are holds small transient valid silent = record {
  sounds = silent;
  opening = h.opening ∙ sym h.opening_is;
  coarse = subst (λ r. HoldsRows (pos 0) f.energy.coarse r) (sym rows_are) (subst (λ c. HoldsRows (pos 0) c rows) (sym h.coarse_kept) holds);
  fine = h.fine;
  last = h.last;
  allocation = h.allocation ∙ ap (λ (a : Amounts). a.allocation) (sym h.amounts_is);
  bands = subst (λ (a : Amounts). Holds f.bands sound.shaping.settings a.allocation sound.plans) (sym h.amounts_is)
      (subst (λ (p : Shaping). Holds f.bands p.settings m.allocation sound.plans) (sym h.shaping_is) h.bands);
  collapse = h.collapse;
  suits = record {
    coarse = subst AreCoarse (sym h.coarse_kept) small;
    fine = h.fine_fits;
    last = h.last_bits;
    allocation = subst (IsAllocation (λ band. pos (most_of kind band)) kind) (sym h.allocation) valid;
    transient =
        ap (λ (p : BandSettings). p.transient) h.bands.settings_are ∙ transient ∙ ap (λ (x : Opening). x.transient) (sym h.opening);
    trees = h.trees;
  };
}

pub total_same : (rest : ℤ) (reserve : ℕ) → FitsSigned w32 rest → unsigned_abs rest ≤ 2 ^ 22 → reserve ≤ 8
    → to_z w32 (of_z w32 (to_z w32 (of_z w32 rest) -ℤ to_z w32 reserve)) ≡ rest -ℤ pos reserve
total_same rest reserve fits small eight =
    let e : to_z w32 (of_z w32 rest) ≡ rest = to_z-of_z w32 rest fits in
    let r : to_z w32 reserve ≡ pos reserve = to_z_pos w32 reserve (omega (arith, eight)) in
    rw (e, r) (to_z-of_z w32 (rest -ℤ pos reserve) (fits_signed_from_abs w32 (rest -ℤ pos reserve) (omega (arith, ints, small, eight))))

pub total_same_of : (len reserve : ℕ) (total : ℤ) → total ≡ to_z w32 (64 * len - reserve) → len ≤ 1275 → total ≡ pos (64 * len - reserve)
total_same_of len reserve total is short = is ∙ to_z_pos w32 (64 * len - reserve) (omega (arith, short))

pub rest_small : (rest : ℤ) → rest ≤ℤ pos 81600 → neg_ℤ (pos (2 ^ 22)) ≤ℤ rest → unsigned_abs rest ≤ 2 ^ 22
rest_small rest most least = omega (arith, ints, most, least)
