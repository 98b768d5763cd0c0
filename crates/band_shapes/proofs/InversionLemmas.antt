-- What hangs on the setting `invert`: the right vectors alone.
use Rattle.std.proofs.Common.{◌≡◌, ℕ, zero, suc, subst, refl, ap, ◌∙◌, List, ◌++◌, Bool, true, false}
use Rattle.std.specs.Prelude.{ℤ, slice_set}
use Rattle.celt_base.specs.declared.kind.Kind.{Kind}
use Rattle.band_plan.specs.declared.symbols.Node.{Node}
use Rattle.band_shapes.specs.declared.node.Fills.{Fills}
use Rattle.band_shapes.specs.declared.node.Layout.{Layout}
use Rattle.band_shapes.specs.declared.plans.Plan.{Plan}
use Rattle.band_shapes.specs.Bands.{Pair, pair_shape, form_in, merged_pair, duo_pair}
use Rattle.band_shapes.specs.Channels.{copied}
use Rattle.band_shapes.specs.Forms.{Form, Single, Double, Turned, Duo, read_form, read_sides}
use Rattle.band_shapes.specs.Frames.{Symbols, Sofar, layout_of, tf_at, low_of, plan_of, source_at, fills_of, joins, joined, with_norm, right_copy, longer, band_made, band_by, band_more, bands_of}
use Rattle.band_shapes.proofs.FrameLemmas.{same_line, same_sofar, own_two}

record IsPairAlike (p q : Pair) : Type 0 where
  left : p.left ≡ q.left
  copy : p.copy ≡ q.copy
  left_mask : p.left_mask ≡ q.left_mask
  right_mask : p.right_mask ≡ q.right_mask
  seed : p.seed ≡ q.seed

pair_alike : (e : Layout) (a b : Bool) (xs ys : List ℤ) (fills : Fills) (form : Form) (seed : ℕ) → IsPairAlike (pair_shape e a xs ys fills form seed) (pair_shape e b xs ys fills form seed)
unfolding pair_shape merged_pair duo_pair
pair_alike e a b xs ys fills (Single one) seed = record { left = refl; copy = refl; left_mask = refl; right_mask = refl; seed = refl }
pair_alike e a b xs ys fills (Double one two) seed = record { left = refl; copy = refl; left_mask = refl; right_mask = refl; seed = refl }
pair_alike e a b xs ys fills (Turned cut inversion one two) seed = record { left = refl; copy = refl; left_mask = refl; right_mask = refl; seed = refl }
pair_alike e a b xs ys fills (Duo cut inversion negative one) seed = record { left = refl; copy = refl; left_mask = refl; right_mask = refl; seed = refl }

two_right : (e : Layout) (a b : Bool) (xs ys : List ℤ) (fills : Fills) (ns : List Node) (seed : ℕ) → (two : Bool) → two ≡ true
    → (pair_shape e a xs ys fills (read_form two e.channels e.count e.level ns).form seed).right ≡ (pair_shape e b xs ys fills (read_form two e.channels e.count e.level ns).form seed).right
unfolding pair_shape read_form read_sides
two_right e a b xs ys fills ns seed two h = rw h refl

-- copies of the right channel are kept only where it is coded by itself
copy_alike : (e : Layout) (a b : Bool) (xs ys : List ℤ) (fills : Fills) (ns : List Node) (seed : ℕ) → (e.own ≡ true → e.two ≡ true)
    → right_copy e.own e.count (pair_shape e a xs ys fills (form_in e ns).form seed).right ≡ right_copy e.own e.count (pair_shape e b xs ys fills (form_in e ns).form seed).right
unfolding right_copy
copy_alike e a b xs ys fills ns seed h = by_own e.own h
  where
    by_own : (own : Bool) → (own ≡ true → e.two ≡ true) → right_copy own e.count (pair_shape e a xs ys fills (form_in e ns).form seed).right ≡ right_copy own e.count (pair_shape e b xs ys fills (form_in e ns).form seed).right
    by_own true h = ap (right_copy true e.count) (two_right e a b xs ys fills ns seed e.two (h refl))
    by_own false h = refl

pub record IsAlike (f g : Sofar) : Type 0 where
  pub left : f.left ≡ g.left
  pub norm : f.right.norm ≡ g.right.norm
  pub masks : f.right.masks ≡ g.right.masks
  pub seed : f.seed ≡ g.seed
  pub low : f.low ≡ g.low
  pub update : f.update ≡ g.update
  pub rest : f.rest ≡ g.rest

alike_trans : (f g h : Sofar) → IsAlike f g → IsAlike g h → IsAlike f h
alike_trans f g h p q = record { left = p.left ∙ q.left; norm = p.norm ∙ q.norm; masks = p.masks ∙ q.masks; seed = p.seed ∙ q.seed; low = p.low ∙ q.low; update = p.update ∙ q.update; rest = p.rest ∙ q.rest }

-- the same, with another setting
by_invert : (kind : Kind) (s : Symbols) (a b : Bool) (i : ℕ) (e : Layout) (p : Plan) (f : Sofar) → (e.own ≡ true → e.two ≡ true) → IsAlike (band_by kind s a i e p f) (band_by kind s b i e p f)
unfolding band_by band_made longer
by_invert kind s a b i e p f own =
    let xs : List ℤ = source_at p.span f.left.norm in
    let ys : List ℤ = source_at p.span f.right.norm in
    let fills : Fills = fills_of kind e.blocks p f.left.masks f.right.masks in
    let q = pair_alike e a b xs ys fills (form_in e f.rest).form f.seed in
    record {
      left = same_line (band_by kind s a i e p f).left (band_by kind s b i e p f).left (ap (λ z. f.left.vector ++ z) q.left) (ap (λ z. f.left.norm ++ copied z) q.copy) (ap (λ z. slice_set f.left.masks i z) q.left_mask);
      norm = ap (λ z. f.right.norm ++ z) (copy_alike e a b xs ys fills f.rest f.seed own);
      masks = ap (λ z. slice_set f.right.masks i z) q.right_mask;
      seed = q.seed;
      low = refl;
      update = refl;
      rest = refl;
    }

more_invert : (kind : Kind) (s : Symbols) (a b : Bool) (i : ℕ) (f : Sofar) → IsAlike (band_more kind s a i f) (band_more kind s b i f)
unfolding band_more
more_invert kind s a b i f =
    by_invert kind s a b i (layout_of kind s i) (plan_of kind (layout_of kind s i) (tf_at s i) i (low_of kind i f.low f.update)) (joined (joins s i) f) (own_two kind s i)

-- the same, with another right vector before
with_right : List ℤ → Sofar → Sofar
with_right v f = record { left = f.left; right = record { vector = v; norm = f.right.norm; masks = f.right.masks }; seed = f.seed; low = f.low; update = f.update; rest = f.rest }

more_right : (kind : Kind) (s : Symbols) (b : Bool) (i : ℕ) (v : List ℤ) (f : Sofar) → IsAlike (band_more kind s b i f) (band_more kind s b i (with_right v f))
unfolding band_more band_by band_made longer joined with_norm with_right
more_right kind s b i v f = record { left = refl; norm = refl; masks = refl; seed = refl; low = refl; update = refl; rest = refl }

is_with : (f g : Sofar) → IsAlike f g → with_right g.right.vector f ≡ g
unfolding with_right
is_with f g h = same_sofar (with_right g.right.vector f) g h.left (same_line (with_right g.right.vector f).right g.right refl h.norm h.masks) h.seed h.low h.update h.rest

more_alike : (kind : Kind) (s : Symbols) (a b : Bool) (i : ℕ) (f g : Sofar) → IsAlike f g → IsAlike (band_more kind s a i f) (band_more kind s b i g)
more_alike kind s a b i f g h =
    subst (λ z. IsAlike (band_more kind s a i f) (band_more kind s b i z)) (is_with f g h)
    (alike_trans (band_more kind s a i f) (band_more kind s b i f) (band_more kind s b i (with_right g.right.vector f)) (more_invert kind s a b i f) (more_right kind s b i g.right.vector f))

pub bands_alike : (kind : Kind) (s : Symbols) (a b : Bool) (seed i : ℕ) → IsAlike (bands_of kind s a seed i) (bands_of kind s b seed i)
unfolding bands_of
bands_alike kind s a b seed zero = record { left = refl; norm = refl; masks = refl; seed = refl; low = refl; update = refl; rest = refl }
bands_alike kind s a b seed (suc i) = more_alike kind s a b i (bands_of kind s a seed i) (bands_of kind s b seed i) (bands_alike kind s a b seed i)
