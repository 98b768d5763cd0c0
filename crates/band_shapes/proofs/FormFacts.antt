-- The trees of a frame's symbols give the form of each band and the change that it can take.
use Rattle.std.proofs.Common.{◌≡◌, ℕ, zero, suc, ◌+◌, ◌^◌, ◌<◌, ◌≤◌, sym, arith, refl, ap, ◌∙◌, subst, List, [], ◌∷◌, ◌++◌, length, get_or, drop, Bool}
use Rattle.std.specs.Prelude.{pos, unsigned_abs, if◌then◌else◌}
use Rattle.std.proofs.lemmas.List.{drop_more}
use Rattle.celt_base.specs.declared.kind.Kind.{Kind}
use Rattle.celt_tables.specs.Tables.{change_of as tf_of}
use Rattle.band_plan.specs.declared.channels.Band.{Band}
use Rattle.band_plan.specs.declared.symbols.BandSettings.{BandSettings}
use Rattle.band_plan.specs.declared.symbols.BandSymbols.{BandSymbols}
use Rattle.band_plan.specs.declared.symbols.Node.{Node}
use Rattle.band_plan.specs.Plans.{Planned, band_of, frame_blocks, is_two, all_nodes}
use Rattle.band_plan.specs.Shapes.{AreBandTrees, HasTrees, IsBandTree}
use Rattle.band_plan.specs.Trees.{Pulsed, nodes_of}
use Rattle.band_plan.proofs.PlanSteps.{size_is, end_most}
use Rattle.band_shapes.specs.Forms.{Form, ReadForm, form_of, form_at, left_before, IsForm}
use Rattle.band_shapes.specs.Bands.{form_in}
use Rattle.band_shapes.specs.Channels.{change_of, IsChange}
use Rattle.band_shapes.specs.Frames.{count_of, layout_of, tf_at, joined, band_made, band_by, band_more, bands_of, symbols_of, CanShape}
use Rattle.band_shapes.proofs.BandFacts.{width, tf_is}
use Rattle.band_shapes.proofs.FormLemmas.{IsFormRead, form_reads}

abbrev pub no_plan : Planned
no_plan = record { amount = pos 0; tree = Pulsed 0 0 (pos 0) }

-- the tree of a band
pub tree_at : (kind : Kind) (settings : BandSettings) (intensity : ℕ) (dual : Bool) (band : ℕ) (plans : List Planned) (i : ℕ) → AreBandTrees kind settings intensity dual band plans → i < length plans
    → IsBandTree (band_of kind settings intensity (i + band)) dual kind.channels (get_or plans i no_plan).tree
unfolding AreBandTrees
tree_at kind settings intensity dual band [] i h less = absurd (omega (arith, less))
tree_at kind settings intensity dual band (plan ∷ plans) zero h less =
    let e : band ≡ 0 + band = omega arith in
    subst (λ z. IsBandTree (band_of kind settings intensity z) dual kind.channels plan.tree) e h.0
tree_at kind settings intensity dual band (plan ∷ plans) (suc i) h less =
    let e : i + (band + 1) ≡ suc i + band = omega arith in
    subst (λ z. IsBandTree (band_of kind settings intensity z) dual kind.channels (get_or plans i no_plan).tree) e
    (tree_at kind settings intensity dual (band + 1) plans i h.1 (omega (arith, less)))

-- the form that a band's tree has
abbrev pub planned_form : Kind → BandSettings → ℕ → Bool → List Planned → ℕ → Form
planned_form kind settings intensity dual plans band =
    form_of (is_two (band_of kind settings intensity band) dual kind.channels) kind.channels (get_or plans band no_plan).tree

size_some : (kind : Kind) (settings : BandSettings) (intensity band : ℕ) → band < 21 → 1 ≤ (band_of kind settings intensity band).n
unfolding band_of
size_some kind settings intensity band less = (size_is kind.lm band kind.sized (omega (arith, less))).some

pub forms_at : (kind : Kind) (settings : BandSettings) (intensity : ℕ) (dual : Bool) (plans : List Planned) (i : ℕ) → length plans ≤ 21 → AreBandTrees kind settings intensity dual 0 plans → i < length plans
    → IsFormRead (form_at kind settings intensity dual i (all_nodes (drop i plans))) (band_of kind settings intensity i).n (all_nodes (drop (suc i) plans)) (planned_form kind settings intensity dual plans i)
unfolding all_nodes
forms_at kind settings intensity dual plans i few h less =
    let plan : Planned = get_or plans i no_plan in
    let b : Band = band_of kind settings intensity i in
    let none : i + 0 ≡ i = omega arith in
    let next : i + 1 ≡ suc i = omega arith in
    let rest : List Node = all_nodes (drop (suc i) plans) in
    let e : all_nodes (drop i plans) ≡ nodes_of plan.tree ++ rest =
    ap all_nodes (drop_more plans i no_plan less) ∙ ap (λ k. nodes_of plan.tree ++ all_nodes (drop k plans)) next in
    let tree : IsBandTree b dual kind.channels plan.tree =
    subst (λ z. IsBandTree (band_of kind settings intensity z) dual kind.channels plan.tree) none (tree_at kind settings intensity dual 0 plans i h less) in
    subst (λ ns. IsFormRead (form_at kind settings intensity dual i ns) b.n rest (planned_form kind settings intensity dual plans i)) (sym e)
    (form_reads b dual kind.channels plan.tree rest (size_some kind settings intensity i (omega (arith, less, few))) tree)

pub left_is : (kind : Kind) (settings : BandSettings) (intensity : ℕ) (dual : Bool) (plans : List Planned) (i : ℕ) → length plans ≤ 21 → AreBandTrees kind settings intensity dual 0 plans → i ≤ length plans
    → left_before kind settings intensity dual (all_nodes plans) i ≡ all_nodes (drop i plans)
unfolding left_before
left_is kind settings intensity dual plans zero few h less = refl
left_is kind settings intensity dual plans (suc i) few h less =
    ap (λ ns. (form_at kind settings intensity dual i ns).rest) (left_is kind settings intensity dual plans i few h (omega (arith, less)))
    ∙ ap (λ z. z.rest) (forms_at kind settings intensity dual plans i few h (omega (arith, less))).read

-- what shapes rest on: the form that is read at each band has its shape
pub form_can : (kind : Kind) (s : BandSymbols) (i : ℕ) → kind.end ≤ 21 → HasTrees kind s → i < kind.end
    → IsForm (band_of kind s.settings s.intensity i).n (form_at kind s.settings s.intensity s.dual i (left_before kind s.settings s.intensity s.dual s.nodes.items i)).form
form_can kind s i few t less =
    let l = t.bands in
    let most : length t.plans ≤ 21 = omega (arith, l, few) in
    let within : i < length t.plans = omega (arith, l, less) in
    let left : left_before kind s.settings s.intensity s.dual s.nodes.items i ≡ all_nodes (drop i t.plans) =
    ap (λ ns. left_before kind s.settings s.intensity s.dual ns i) t.nodes ∙ left_is kind s.settings s.intensity s.dual t.plans i most t.trees (omega (arith, within)) in
    let r = forms_at kind s.settings s.intensity s.dual t.plans i most t.trees within in
    let e : form_at kind s.settings s.intensity s.dual i (left_before kind s.settings s.intensity s.dual s.nodes.items i) ≡ form_at kind s.settings s.intensity s.dual i (all_nodes (drop i t.plans)) =
    ap (form_at kind s.settings s.intensity s.dual i) left in
    subst (λ (z : ReadForm). IsForm (band_of kind s.settings s.intensity i).n z.form) (sym (e ∙ r.read)) r.shaped

-- what is left of the nodes before a band of the frame
rest_more : (kind : Kind) (s : BandSymbols) (invert : Bool) (seed i : ℕ) → (bands_of kind (symbols_of s) invert seed (suc i)).rest ≡ (form_in (layout_of kind (symbols_of s) i) (bands_of kind (symbols_of s) invert seed i).rest).rest
unfolding bands_of band_more band_by band_made joined
rest_more kind s invert seed i = refl

form_same : (kind : Kind) (s : BandSymbols) (i : ℕ) (ns : List Node) → form_in (layout_of kind (symbols_of s) i) ns ≡ form_at kind s.settings s.intensity s.dual i ns
unfolding layout_of count_of band_of
form_same kind s i ns = refl

rest_none : (kind : Kind) (s : BandSymbols) (invert : Bool) (seed : ℕ) → (bands_of kind (symbols_of s) invert seed zero).rest ≡ s.nodes.items
unfolding bands_of
rest_none kind s invert seed = refl

left_none : (kind : Kind) (s : BandSymbols) → left_before kind s.settings s.intensity s.dual s.nodes.items zero ≡ s.nodes.items
unfolding left_before
left_none kind s = refl

left_more : (kind : Kind) (s : BandSymbols) (i : ℕ) → left_before kind s.settings s.intensity s.dual s.nodes.items (suc i) ≡ (form_at kind s.settings s.intensity s.dual i (left_before kind s.settings s.intensity s.dual s.nodes.items i)).rest
unfolding left_before
left_more kind s i = refl

pub rest_is : (kind : Kind) (s : BandSymbols) (invert : Bool) (seed i : ℕ) → (bands_of kind (symbols_of s) invert seed i).rest ≡ left_before kind s.settings s.intensity s.dual s.nodes.items i
rest_is kind s invert seed zero = rest_none kind s invert seed ∙ sym (left_none kind s)
rest_is kind s invert seed (suc i) =
    rest_more kind s invert seed i
    ∙ (form_step (bands_of kind (symbols_of s) invert seed i).rest (rest_is kind s invert seed i) ∙ sym (left_more kind s i))
  where
    form_step : (ns : List Node) → ns ≡ left_before kind s.settings s.intensity s.dual s.nodes.items i → (form_in (layout_of kind (symbols_of s) i) ns).rest ≡ (form_at kind s.settings s.intensity s.dual i (left_before kind s.settings s.intensity s.dual s.nodes.items i)).rest
    form_step ns e = ap (λ (z : ReadForm). z.rest) (form_same kind s i ns ∙ ap (form_at kind s.settings s.intensity s.dual i) e)

size_of : (kind : Kind) (s : BandSymbols) (i : ℕ) → (band_of kind s.settings s.intensity i).n ≡ count_of kind i
unfolding band_of count_of
size_of kind s i = refl

-- the form at a band, where the walk stands
pub form_here : (kind : Kind) (s : BandSymbols) (invert : Bool) (seed i : ℕ) (ns : List Node) → HasTrees kind s → i < kind.end → ns ≡ (bands_of kind (symbols_of s) invert seed i).rest → IsForm (count_of kind i) (form_in (layout_of kind (symbols_of s) i) ns).form
form_here kind s invert seed i ns t less e =
    let q : form_in (layout_of kind (symbols_of s) i) ns ≡ form_at kind s.settings s.intensity s.dual i (left_before kind s.settings s.intensity s.dual s.nodes.items i) =
    form_same kind s i ns ∙ ap (form_at kind s.settings s.intensity s.dual i) (e ∙ rest_is kind s invert seed i) in
    subst (λ n. IsForm n (form_in (layout_of kind (symbols_of s) i) ns).form) (size_of kind s i)
    (subst (λ (z : ReadForm). IsForm (band_of kind s.settings s.intensity i).n z.form) (sym q) (form_can kind s i (end_most kind) t less))

-- what the settings allow at a band
blocks_same : (kind : Kind) (t : Bool) → (if t then 2 ^ kind.lm else 1) ≡ frame_blocks kind t
unfolding frame_blocks
blocks_same kind t = refl

width_same : (kind : Kind) (i : ℕ) → width i kind.lm ≡ count_of kind i
unfolding width count_of
width_same kind i = refl

pub can_shape : (kind : Kind) (s : BandSymbols) (i : ℕ) → HasTrees kind s → i < kind.end → CanShape kind (symbols_of s) i
can_shape kind s i t less =
    let few = end_most kind in
    let low = kind.sized in
    let is = t.settings.changes i less in
    let r = tf_is i kind.lm s.settings.transient is.select is.flag (omega (arith, few, less)) (omega (arith, low)) t.settings.long in
    let at = tf_at (symbols_of s) i in
    record {
      spread = t.settings.spread;
      tf = subst (λ z. unsigned_abs z ≤ 3) (sym is.value) r.most;
      change = subst (λ z. IsChange (count_of kind i) (frame_blocks kind s.settings.transient) (change_of (count_of kind i) (frame_blocks kind s.settings.transient) z)) (sym is.value)
          (subst (λ b. IsChange (count_of kind i) b (change_of (count_of kind i) b (tf_of kind.lm s.settings.transient is.select is.flag))) (blocks_same kind s.settings.transient)
          (subst (λ n. IsChange n (if s.settings.transient then 2 ^ kind.lm else 1) (change_of n (if s.settings.transient then 2 ^ kind.lm else 1) (tf_of kind.lm s.settings.transient is.select is.flag))) (width_same kind i) r.change));
    }
