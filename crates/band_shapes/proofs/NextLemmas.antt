-- One band more of the frame: what it rests on, and what it leaves.
use Rattle.std.proofs.Common.{◌≡◌, ℕ, suc, ◌+◌, ◌^◌, ◌<◌, ◌≤◌, sym, subst, arith, refl, ap, ◌∙◌, List, length, take, drop, Bool, true}
use Rattle.std.specs.Prelude.{ℤ, unsigned_abs, All, slice_set}
use Rattle.celt_base.specs.declared.kind.Kind.{Kind}
use Rattle.band_plan.specs.declared.symbols.Node.{Node}
use Rattle.band_plan.specs.Plans.{frame_blocks}
use Rattle.band_shapes.specs.declared.bands.Lines.{Lines}
use Rattle.band_shapes.specs.declared.bands.Walked.{Walked}
use Rattle.band_shapes.specs.declared.node.Fills.{Fills}
use Rattle.band_shapes.specs.declared.node.Layout.{Layout}
use Rattle.band_shapes.specs.declared.node.MadePair.{MadePair}
use Rattle.band_shapes.specs.declared.plans.Plan.{Plan}
use Rattle.band_shapes.specs.Bands.{pair_shape, form_in}
use Rattle.band_shapes.specs.Channels.{IsChange}
use Rattle.band_shapes.specs.Forms.{IsForm}
use Rattle.band_shapes.specs.Frames.{Symbols, Sofar, sofar_of, band_more, bands_of, start_of, count_of, layout_of, tf_at, low_of, plan_of, fills_of, source_at, joins, norm_joined, is_rich, CanShape, CanBand, IsBandMade, IsSound}
use Rattle.band_shapes.proofs.FrameLemmas.{IsStep, own_two, step_made, step_sound}
use Rattle.band_shapes.proofs.PlanLemmas.{start_next, start_most, source_ends, fill_small}

abbrev pub pair_fills : ℕ → ℕ → Fills
pair_fills a b = record { left = a; right = b }

abbrev pub walked_by : List ℕ → List ℕ → ℕ → ℕ → ℕ → Bool → Walked
walked_by ls rs seed at low update = record { left = ls; right = rs; seed = seed; at = at; low = low; update = update }

pub plan_start : (kind : Kind) (e : Layout) (tf : ℤ) (i low : ℕ) (p : Plan) → p ≡ plan_of kind e tf i low → p.span.start ≡ start_of kind i
unfolding plan_of
plan_start kind e tf i low p h = ap (λ (z : Plan). z.span.start) h

pub plan_count : (kind : Kind) (e : Layout) (tf : ℤ) (i low : ℕ) (p : Plan) → p ≡ plan_of kind e tf i low → p.span.count ≡ e.count
unfolding plan_of
plan_count kind e tf i low p h = ap (λ (z : Plan). z.span.count) h

plan_low : (kind : Kind) (e : Layout) (tf : ℤ) (i low : ℕ) (p : Plan) → p ≡ plan_of kind e tf i low → p.low ≡ low
unfolding plan_of
plan_low kind e tf i low p h = ap (λ (z : Plan). z.low) h

pub layout_count : (kind : Kind) (s : Symbols) (i : ℕ) (e : Layout) → e ≡ layout_of kind s i → e.count ≡ count_of kind i
unfolding layout_of
layout_count kind s i e h = ap (λ (z : Layout). z.count) h

pub layout_blocks : (kind : Kind) (s : Symbols) (i : ℕ) (e : Layout) → e ≡ layout_of kind s i → e.blocks ≡ frame_blocks kind s.settings.transient
unfolding layout_of
layout_blocks kind s i e h = ap (λ (z : Layout). z.blocks) h

layout_change : (kind : Kind) (s : Symbols) (i : ℕ) (e : Layout) → e ≡ layout_of kind s i → CanShape kind s i → IsChange e.count e.blocks e.change
unfolding layout_of
layout_change kind s i e h c = rw h c.change

layout_spread : (kind : Kind) (s : Symbols) (i : ℕ) (e : Layout) → e ≡ layout_of kind s i → CanShape kind s i → e.spread ≤ 3
unfolding layout_of
layout_spread kind s i e h c = rw h c.spread

layout_level : (kind : Kind) (s : Symbols) (i : ℕ) (e : Layout) → e ≡ layout_of kind s i → e.level ≤ 4
unfolding layout_of
layout_level kind s i e h = let m = kind.sized in rw h (omega (arith, m))

layout_own : (kind : Kind) (s : Symbols) (i : ℕ) (e : Layout) → e ≡ layout_of kind s i → e.own ≡ true → e.two ≡ true
layout_own kind s i e h = rw h (own_two kind s i)

pub start_fits : (kind : Kind) (s : Symbols) (i : ℕ) (e : Layout) (p : Plan) (low : ℕ) → i ≤ 20 → e ≡ layout_of kind s i → p ≡ plan_of kind e (tf_at s i) i low → p.span.start + p.span.count ≤ 800
start_fits kind s i e p low h ee ep =
    let a = plan_start kind e (tf_at s i) i low p ep in
    let b = plan_count kind e (tf_at s i) i low p ep in
    let c = layout_count kind s i e ee in
    let d = start_next kind i h in
    let f = start_most kind (suc i) (omega (arith, h)) in
    omega (arith, a, b, c, d, f)

pub before_small : (kind : Kind) (s : Symbols) (i : ℕ) (e : Layout) (p : Plan) (low m : ℕ) (xs : List ℤ) → p ≡ plan_of kind e (tf_at s i) i low → All (λ v. unsigned_abs v ≤ m) (take (start_of kind i) xs) → All (λ v. unsigned_abs v ≤ m) (take p.span.start xs)
before_small kind s i e p low m xs ep h = subst (λ n. All (λ v. unsigned_abs v ≤ m) (take n xs)) (sym (plan_start kind e (tf_at s i) i low p ep)) h

pub can_band : (kind : Kind) (s : Symbols) (i : ℕ) (e : Layout) (p : Plan) (old mid : Lines) (w : Walked) (fills : Fills) → i ≤ 20 → CanShape kind s i → e ≡ layout_of kind s i → e.count ≤ 176 → p ≡ plan_of kind e (tf_at s i) i (low_of kind i w.low w.update) → p.low ≤ i
    → IsSound kind s i old w → All (λ v. unsigned_abs v ≤ 2 ^ 19) (take p.span.start mid.left_norm) → mid.right_norm ≡ old.right_norm
    → fills ≡ fills_of kind e.blocks p w.left w.right → CanBand e p.span fills mid
can_band kind s i e p old mid w fills h c ee n ep el d small er ef =
    let low : ℕ = low_of kind i w.low w.update in
    let pl : p.low ≡ low = plan_low kind e (tf_at s i) i low p ep in
    let pc : p.span.count ≡ e.count = plan_count kind e (tf_at s i) i low p ep in
    let ps : p.span.start ≡ start_of kind i = plan_start kind e (tf_at s i) i low p ep in
    let eb : e.blocks ≡ frame_blocks kind s.settings.transient = layout_blocks kind s i e ee in
    record {
      count_is = pc;
      count = n;
      within = start_fits kind s i e p low h ee ep;
      source = λ t.
          let has = sym (ap (λ (z : Plan). z.span.has) ep) ∙ t in
          let ends = source_ends kind e (tf_at s i) i low h (omega (arith, el, pl)) (layout_count kind s i e ee) has in
          let from : p.span.from ≡ (plan_of kind e (tf_at s i) i low).span.from = ap (λ (z : Plan). z.span.from) ep in
          omega (arith, ends, from, pc, ps);
      left_norm = small;
      right_norm = subst (λ z. All (λ v. unsigned_abs v ≤ 2 ^ 19) (take p.span.start z)) (sym er) (before_small kind s i e p low (2 ^ 19) old.right_norm ep d.right_norm);
      change = layout_change kind s i e ee c;
      spread = layout_spread kind s i e ee c;
      level = layout_level kind s i e ee;
      left_fill = fill_small kind e.blocks p w.left fills.left (ap (λ (z : Fills). z.left) ef) (subst (λ b. All (λ m. m < 2 ^ b) w.left) (sym eb) d.left_masks);
      right_fill = fill_small kind e.blocks p w.right fills.right (ap (λ (z : Fills). z.right) ef) (subst (λ b. All (λ m. m < 2 ^ b) w.right) (sym eb) d.right_masks);
      own = layout_own kind s i e ee;
    }

-- the step, with the nodes and the fills as the code has them
pub step_here : (kind : Kind) (s : Symbols) (invert : Bool) (i low : ℕ) (e : Layout) (p : Plan) (old mid new : Lines) (w v : Walked) (m : MadePair) (fills : Fills) (nodes : List Node) → e ≡ layout_of kind s i → p ≡ plan_of kind e (tf_at s i) i low
    → nodes ≡ s.nodes → fills ≡ fills_of kind e.blocks p w.left w.right
    → mid.left ≡ old.left → mid.right ≡ old.right → mid.right_norm ≡ old.right_norm
    → take p.span.start mid.left_norm ≡ norm_joined (joins s i) (take p.span.start old.left_norm) (take p.span.start old.right_norm)
    → All (λ z. unsigned_abs z ≤ 2 ^ 19) (take p.span.start mid.left_norm)
    → IsBandMade e (pair_shape e invert (source_at p.span (take p.span.start mid.left_norm)) (source_at p.span (take p.span.start mid.right_norm)) fills (form_in e (drop w.at nodes)).form w.seed) p.span mid new m
    → drop m.at nodes ≡ (form_in e (drop w.at nodes)).rest → m.at ≤ length nodes
    → v ≡ record { left = slice_set w.left i m.left; right = slice_set w.right i m.right; seed = m.seed; at = m.at; low = p.low; update = is_rich s i e.count }
    → IsStep kind s invert i e p old mid new w v m
step_here kind s invert i low e p old mid new w v m fills nodes ee ep en ef el er eo j small made rest at ew =
    record {
      start = plan_start kind e (tf_at s i) i low p ep;
      count = plan_count kind e (tf_at s i) i low p ep ∙ layout_count kind s i e ee;
      count_is = layout_count kind s i e ee;
      left = el;
      right = er;
      right_norm = eo;
      left_norm = j;
      joined_size = small;
      made = subst (λ ns. IsBandMade e (pair_shape e invert (source_at p.span (take p.span.start mid.left_norm)) (source_at p.span (take p.span.start mid.right_norm)) (fills_of kind e.blocks p w.left w.right) (form_in e (drop w.at ns)).form w.seed) p.span mid new m) en
          (subst (λ z. IsBandMade e (pair_shape e invert (source_at p.span (take p.span.start mid.left_norm)) (source_at p.span (take p.span.start mid.right_norm)) z (form_in e (drop w.at nodes)).form w.seed) p.span mid new m) ef made);
      rest = subst (λ ns. drop m.at ns ≡ (form_in e (drop w.at ns)).rest) en rest;
      within = subst (λ ns. m.at ≤ length ns) en at;
      walked = ew;
    }

pub form_as : (kind : Kind) (s : Symbols) (i : ℕ) (e : Layout) (at : ℕ) (nodes : List Node) → e ≡ layout_of kind s i → nodes ≡ s.nodes → IsForm (count_of kind i) (form_in (layout_of kind s i) (drop at s.nodes)).form → IsForm e.count (form_in e (drop at nodes)).form
form_as kind s i e at nodes ee en h =
    subst (λ ns. IsForm e.count (form_in e (drop at ns)).form) (sym en)
    (subst (λ n. IsForm n (form_in e (drop at s.nodes)).form) (sym (layout_count kind s i e ee))
    (subst (λ (z : Layout). IsForm (count_of kind i) (form_in z (drop at s.nodes)).form) (sym ee) h))

pub made_next : (kind : Kind) (s : Symbols) (invert : Bool) (i : ℕ) (e : Layout) (p : Plan) (old mid new : Lines) (w v : Walked) (m : MadePair) → i ≤ 20 → e ≡ layout_of kind s i → p ≡ plan_of kind e (tf_at s i) i (low_of kind i w.low w.update)
    → IsStep kind s invert i e p old mid new w v m → sofar_of kind s (i + 1) new v ≡ band_more kind s invert i (sofar_of kind s i old w)
made_next kind s invert i e p old mid new w v m h ee ep t =
    let next : suc i ≡ i + 1 = omega arith in
    subst (λ n. sofar_of kind s n new v ≡ band_more kind s invert i (sofar_of kind s i old w)) next (step_made kind s invert i e p old mid new w v m h ee ep t)

pub sound_next : (kind : Kind) (s : Symbols) (invert : Bool) (i : ℕ) (e : Layout) (p : Plan) (old mid new : Lines) (w v : Walked) (m : MadePair) → i ≤ 20 → e ≡ layout_of kind s i → p.low ≤ i → IsSound kind s i old w
    → IsStep kind s invert i e p old mid new w v m → IsSound kind s (i + 1) new v
sound_next kind s invert i e p old mid new w v m h ee el d t =
    let next : suc i ≡ i + 1 = omega arith in
    subst (λ n. IsSound kind s n new v) next (step_sound kind s invert i e p old mid new w v m h (layout_blocks kind s i e ee) el d t)

more_suc : (kind : Kind) (s : Symbols) (invert : Bool) (seed i : ℕ) → band_more kind s invert i (bands_of kind s invert seed i) ≡ bands_of kind s invert seed (suc i)
unfolding bands_of
more_suc kind s invert seed i = refl

pub more_next : (kind : Kind) (s : Symbols) (invert : Bool) (seed i : ℕ) (f : Sofar) → f ≡ bands_of kind s invert seed i → band_more kind s invert i f ≡ bands_of kind s invert seed (i + 1)
more_next kind s invert seed i f e =
    let next : suc i ≡ i + 1 = omega arith in
    ap (band_more kind s invert i) e ∙ (more_suc kind s invert seed i ∙ ap (bands_of kind s invert seed) next)

pub fills_are : (a b c d : ℕ) → a ≡ b → c ≡ d → pair_fills a c ≡ pair_fills b d
fills_are a b c d e f = ap (λ z. pair_fills z c) e ∙ ap (pair_fills b) f

pub joined_as : (a b : Bool) (xs ys : List ℤ) → a ≡ b → norm_joined a xs ys ≡ norm_joined b xs ys
joined_as a b xs ys e = ap (λ z. norm_joined z xs ys) e

pub walked_as : (ls rs : List ℕ) (seed at low : ℕ) (a b : Bool) → a ≡ b → walked_by ls rs seed at low a ≡ walked_by ls rs seed at low b
walked_as ls rs seed at low a b e = ap (walked_by ls rs seed at low) e

walk_rest : (kind : Kind) (s : Symbols) (i : ℕ) (l : Lines) (w : Walked) → drop w.at s.nodes ≡ (sofar_of kind s i l w).rest
unfolding sofar_of
walk_rest kind s i l w = refl

pub rest_here : (kind : Kind) (s : Symbols) (i : ℕ) (l : Lines) (w : Walked) (f : Sofar) → sofar_of kind s i l w ≡ f → drop w.at s.nodes ≡ f.rest
rest_here kind s i l w f e = walk_rest kind s i l w ∙ ap (λ (z : Sofar). z.rest) e
