-- The walks of the time-frequency flags and of their select.
use Rattle.std.proofs.Common.{◌≡◌, ℕ, zero, suc, ◌+◌, ◌-◌, ◌<◌, ◌≤◌, List, length, Bool, true, false, ◌&&◌, nat_eq, inl, inr, refl, sym, ◌∙◌, ap, subst, arith}
use Rattle.std.specs.Prelude.{ℤ, pos, slice_set, slice_index_or, replicate}
use Rattle.std.proofs.lemmas.Bool.{cases_eq}
use Rattle.celt_base.specs.declared.coder.Place.TheVariants.{Tf, TfSelect}
use Rattle.celt_base.specs.declared.kind.Kind.{Kind}
use Rattle.celt_base.specs.Paces.{tell_of}
use Rattle.celt_base.specs.WalkCalls.{CoderCalls, ChooserCalls}
use Rattle.celt_base.specs.WalkScripts.{asks_bit, bit_within}
use Rattle.celt_base.specs.Walks.{Walked}
use Rattle.celt_base.proofs.WalkSteps.{Going, start, look, walk, walk_last, end, when_true, when_false, no_walk}
use Rattle.std.proofs.lemmas.List.{get_or-set_same, get_or-set_other, length-set}
use Rattle.band_plan.specs.Plans.{IsChange}
use Rattle.celt_base.proofs.BandEnds.{end_most}
use Rattle.celt_tables.specs.Tables.{change_of}
use Rattle.frame_symbols.specs.Changes.{weight_of, turned, flags_script, any_below, kept_of, differ, select_script, set_changes, changes_of, changes_by, changes_script}

-- an entry more
entry_set : (xs : List ℤ) (entry : ℕ → ℤ) (at i : ℕ) → at < length xs → i < at + 1
    → ((j : ℕ) → j < at → slice_index_or xs j (pos 0) ≡ entry j)
    → slice_index_or (slice_set xs at (entry at)) i (pos 0) ≡ entry i
entry_set xs entry at i inside below entries =
    elim (cases_eq i at) [
      | inl same ↦
          ap (λ j. slice_index_or (slice_set xs at (entry at)) j (pos 0)) same ∙ get_or-set_same xs at (entry at) (pos 0) inside ∙ ap entry (sym same)
      | inr apart ↦ get_or-set_other xs at i (entry at) (pos 0) apart ∙ entries i (omega (arith, below, apart))
    ]

-- The changes that are left to write make the same list, and those below the band are of the tables.
pub record Changing (kind : Kind) (transient select : Bool) (flags : List Bool) (changes : List ℤ) (band : ℕ) : Type 0 where
  pub left : ℕ
  pub left_is : left + band ≡ kind.end
  pub same : set_changes kind.lm transient select flags left band changes ≡ changes_of kind transient select flags
  pub room : length changes ≡ 21
  pub below : (i : ℕ) → i < band → slice_index_or changes i (pos 0) ≡ change_of kind.lm transient select (slice_index_or flags i false)

pub changes_start : (kind : Kind) (transient select : Bool) (flags : List Bool) → Changing kind transient select flags (replicate 21 (pos 0)) 0
unfolding changes_of
changes_start kind transient select flags = record { left = kind.end; left_is = omega arith; same = refl; room = refl; below = λ i inside. absurd (omega (arith, inside)) }

changes_more : (kind : Kind) (transient select : Bool) (flags : List Bool) (changes : List ℤ) (band left : ℕ) → band < kind.end → left + band ≡ kind.end
    → set_changes kind.lm transient select flags left band changes ≡ changes_of kind transient select flags
    → length changes ≡ 21
    → ((i : ℕ) → i < band → slice_index_or changes i (pos 0) ≡ change_of kind.lm transient select (slice_index_or flags i false))
    → Changing kind transient select flags (slice_set changes band (change_of kind.lm transient select (slice_index_or flags band false))) (band + 1)
changes_more kind transient select flags changes band zero below is same room entries = absurd (omega (arith, below, is))
changes_more kind transient select flags changes band (suc left) below is same room entries = record {
  left = left;
  left_is = omega (arith, is);
  same = same;
  room = length-set changes band (change_of kind.lm transient select (slice_index_or flags band false)) ∙ room;
  below = λ i inside. entry_set changes (λ j. change_of kind.lm transient select (slice_index_or flags j false)) band i
      (let e = end_most kind in omega (arith, below, e, room)) inside entries;
}

pub changes_next : {kind : Kind} {transient select : Bool} {flags : List Bool} {changes : List ℤ} {band : ℕ} (value : ℤ) → Changing kind transient select flags changes band → band < kind.end
    → value ≡ change_of kind.lm transient select (slice_index_or flags band false)
    → Changing kind transient select flags (slice_set changes band value) (band + 1)
changes_next {kind} {transient} {select} {flags} {changes} {band} value i below is =
    subst (λ v. Changing kind transient select flags (slice_set changes band v) (band + 1)) (sym is)
    (changes_more kind transient select flags changes band i.left below i.left_is i.same i.room i.below)

changes_whole : (kind : Kind) (transient select : Bool) (flags : List Bool) (changes : List ℤ) (band left : ℕ) → kind.end ≤ band → left + band ≡ kind.end
    → set_changes kind.lm transient select flags left band changes ≡ changes_of kind transient select flags
    → changes ≡ changes_of kind transient select flags
changes_whole kind transient select flags changes band zero above is same = same
changes_whole kind transient select flags changes band (suc left) above is same = absurd (omega (arith, above, is))

pub changes_last : {kind : Kind} {transient select : Bool} {flags : List Bool} {changes : List ℤ} {band : ℕ} → Changing kind transient select flags changes band → kind.end ≤ band
    → changes ≡ changes_of kind transient select flags
changes_last {kind} {transient} {select} {flags} {changes} {band} i above = changes_whole kind transient select flags changes band i.left above i.left_is i.same

pub changes_all : {kind : Kind} {transient select : Bool} {flags : List Bool} {changes : List ℤ} {band : ℕ} → Changing kind transient select flags changes band → kind.end ≤ band
    → (i : ℕ) → i < kind.end → IsChange kind.lm transient (slice_index_or changes i (pos 0))
changes_all {select = select} {flags = flags} x above i inside =
    record { select = select; flag = slice_index_or flags i false; value = x.below i (omega (arith, above, inside)) }

module _ {C H : Type 0} (coder : CoderCalls C) (chooser : ChooserCalls H) where
  -- At a band, the flags of those before it being asked.
  pub record Flagging (transient : Bool) (budget end : ℕ) (flag : Bool) (flags : List Bool) (c : C) (h : H) (d : C) (k : H) (band : ℕ) : Type 0 where
    pub left : ℕ
    pub left_is : left + band ≡ end
    pub going :
        Going coder chooser (flags_script transient budget end 0 false (replicate 21 false)) (flags_script transient budget left band flag flags) c h d k
    pub count : coder.count d ≤ coder.count c + band

module _ {C H : Type 0} {coder : CoderCalls C} {chooser : ChooserCalls H} where
  pub flags_start : {c : C} {h : H} (transient : Bool) (budget end : ℕ)
      → Flagging coder chooser transient budget end false (replicate 21 false) c h c h 0
  flags_start transient budget end = record { left = end; left_is = omega arith; going = start; count = omega arith }

  flags_more : {c d e : C} {h k m : H} (transient : Bool) (budget end : ℕ) (flag turns : Bool) (flags : List Bool) (band left : ℕ) → band < end → left + band ≡ end
      → Going coder chooser (flags_script transient budget end 0 false (replicate 21 false)) (flags_script transient budget left band flag flags) c h d k
      → coder.count d ≤ coder.count c + band
      → Walked coder chooser (bit_within (Tf band flag) (weight_of transient band) (weight_of transient band) budget) turns d k e m
      → coder.count e ≤ coder.count d + 1
      → Flagging coder chooser transient budget end (turned turns flag) (slice_set flags band (turned turns flag)) c h e m (band + 1)
  unfolding flags_script
  flags_more transient budget end flag turns flags band zero below is going count w one = absurd (omega (arith, below, is))
  flags_more transient budget end flag turns flags band (suc left) below is going count w one =
      record { left = left; left_is = omega (arith, is); going = walk _ going w; count = omega (arith, count, one) }

  pub flags_next : {c d e : C} {h k m : H} {transient : Bool} {budget end : ℕ} {flag : Bool} (turns now : Bool) (weight : ℕ) {flags : List Bool} {band : ℕ}
      → Flagging coder chooser transient budget end flag flags c h d k band
      → band < end
      → weight ≡ weight_of transient band
      → now ≡ turned turns flag
      → Walked coder chooser (bit_within (Tf band flag) weight weight budget) turns d k e m
      → coder.count e ≤ coder.count d + 1
      → Flagging coder chooser transient budget end now (slice_set flags band now) c h e m (band + 1)
  flags_next {c} {d} {e} {h} {k} {m} {transient} {budget} {end} {flag} turns now weight {flags} {band} i below weight_is now_is w one =
      subst (λ b. Flagging coder chooser transient budget end b (slice_set flags band b) c h e m (band + 1)) (sym now_is)
      (flags_more transient budget end flag turns flags band i.left below i.left_is i.going i.count
      (subst (λ n. Walked coder chooser (bit_within (Tf band flag) n n budget) turns d k e m) weight_is w) one)

  flags_whole : {c d : C} {h k : H} (transient : Bool) (budget end : ℕ) (flag : Bool) (flags : List Bool) (band left : ℕ) → end ≤ band → left + band ≡ end
      → Going coder chooser (flags_script transient budget end 0 false (replicate 21 false)) (flags_script transient budget left band flag flags) c h d k
      → Walked coder chooser (flags_script transient budget end 0 false (replicate 21 false)) flags c h d k
  unfolding flags_script
  flags_whole transient budget last flag flags band zero above is going = end going
  flags_whole transient budget last flag flags band (suc left) above is going = absurd (omega (arith, above, is))

  pub flags_last : {c d : C} {h k : H} {transient : Bool} {budget end : ℕ} {flag : Bool} {flags : List Bool} {band : ℕ}
      → Flagging coder chooser transient budget end flag flags c h d k band
      → end ≤ band
      → Walked coder chooser (flags_script transient budget end 0 false (replicate 21 false)) flags c h d k
  flags_last {transient = transient} {budget = budget} {end = end} {flag = flag} {flags = flags} {band = band} i above =
      flags_whole transient budget end flag flags band i.left above i.left_is i.going

  pub select_asked : {c d : C} {h k : H} {value : Bool} (lm : ℕ) (transient : Bool) (kept : ℕ) (any : Bool)
      → (nat_eq kept 1 && differ lm transient any) ≡ true
      → Walked coder chooser (asks_bit TfSelect 1) value c h d k
      → Walked coder chooser (select_script lm transient kept any) value c h d k
  unfolding select_script
  select_asked lm transient kept any t w = when_true (nat_eq kept 1 && differ lm transient any) _ _ t w

  pub select_unasked : {c : C} {h : H} (lm : ℕ) (transient : Bool) (kept : ℕ) (any : Bool)
      → (nat_eq kept 1 && differ lm transient any) ≡ false
      → Walked coder chooser (select_script lm transient kept any) false c h c h
  unfolding select_script
  select_unasked lm transient kept any t = when_false (nat_eq kept 1 && differ lm transient any) _ _ t no_walk

  pub changes_walked : {c d e : C} {h k m : H} (kind : Kind) (transient : Bool) (budget kept tell left : ℕ) (flags : List Bool) (any select : Bool) (changes : List ℤ)
      → tell ≡ tell_of (coder.pace c)
      → kept ≡ kept_of kind.lm transient budget tell
      → left ≡ budget - kept
      → any ≡ any_below flags 21
      → changes ≡ changes_of kind transient select flags
      → Walked coder chooser (flags_script transient left kind.end 0 false (replicate 21 false)) flags c h d k
      → Walked coder chooser (select_script kind.lm transient kept any) select d k e m
      → Walked coder chooser (changes_script kind transient budget) changes c h e m
  unfolding changes_script changes_by
  changes_walked {c = c} {d = d} {e = e} {h = h} {k = k} {m = m} kind transient budget kept tell left flags any select changes told is left_is any_is changes_are v w =
      let at : kept ≡ kept_of kind.lm transient budget (tell_of (coder.pace c)) = is ∙ ap (kept_of kind.lm transient budget) told in
      let first : Walked coder chooser (flags_script transient (budget - kept) kind.end 0 false (replicate 21 false)) flags c h d k =
      subst (λ n. Walked coder chooser (flags_script transient n kind.end 0 false (replicate 21 false)) flags c h d k) left_is v in
      let second : Walked coder chooser (select_script kind.lm transient kept (any_below flags 21)) select d k e m =
      subst (λ b. Walked coder chooser (select_script kind.lm transient kept b) select d k e m) any_is w in
      let whole : Walked coder chooser (changes_by kind transient budget kept) (changes_of kind transient select flags) c h e m =
      end (walk _ (walk _ start first) second) in
      walk_last (look start)
      (subst (λ n. Walked coder chooser (changes_by kind transient budget n) changes c h e m) at
      (subst (λ r. Walked coder chooser (changes_by kind transient budget kept) r c h e m) (sym changes_are) whole))
