-- The bands of a frame, in its buffers.
use Rattle.std.proofs.Common.{◌≡◌, ℕ, suc, ◌+◌, ◌^◌, ◌<◌, ◌≤◌, sym, subst, arith, refl, ap, ◌∙◌, List, ◌++◌, length, take, drop, Bool, true}
use Rattle.std.specs.Prelude.{ℤ, unsigned_abs, All, nat_eq, ◌&&◌, ◌||◌, slice_set, replicate}
use Rattle.std.proofs.lemmas.List.{get_or-replicate, length-replicate}
use Rattle.std.proofs.lemmas.Nat.{pow_pos}
use Rattle.std.proofs.lemmas.List.Elements.{All-append, All-set}
use Rattle.celt_base.specs.declared.kind.Kind.{Kind}
use Rattle.band_plan.specs.Plans.{frame_blocks, band_of, is_two}
use Rattle.band_shapes.specs.declared.bands.Lines.{Lines}
use Rattle.band_shapes.specs.declared.bands.Walked.{Walked}
use Rattle.band_shapes.specs.declared.node.Layout.{Layout}
use Rattle.band_shapes.specs.declared.node.MadePair.{MadePair}
use Rattle.band_shapes.specs.declared.plans.Plan.{Plan}
use Rattle.band_shapes.specs.Bands.{Pair, pair_shape, form_in}
use Rattle.band_shapes.specs.Channels.{copied}
use Rattle.band_shapes.specs.Frames.{Symbols, Line, Sofar, start_of, count_of, layout_of, tf_at, low_of, plan_of, source_at, fills_of, joins, norm_joined, joined, with_norm, right_copy, longer, is_own, is_rich, band_made, band_by, band_more, bands_of, sofar_of, line_of, IsSound, IsBandMade}
use Rattle.band_shapes.proofs.PlanLemmas.{start_next}

pub same_line : (l m : Line) → l.vector ≡ m.vector → l.norm ≡ m.norm → l.masks ≡ m.masks → l ≡ m
same_line l m e f g =
    ap (λ z. record { vector = z; norm = l.norm; masks = l.masks }) e
    ∙ (ap (λ z. record { vector = m.vector; norm = z; masks = l.masks }) f
    ∙ ap (λ z. record { vector = m.vector; norm = m.norm; masks = z }) g)

pub same_sofar : (a b : Sofar) → a.left ≡ b.left → a.right ≡ b.right → a.seed ≡ b.seed → a.low ≡ b.low → a.update ≡ b.update → a.rest ≡ b.rest → a ≡ b
same_sofar a b e1 e2 e3 e4 e5 e6 =
    ap (λ z. record { left = z; right = a.right; seed = a.seed; low = a.low; update = a.update; rest = a.rest }) e1
    ∙ (ap (λ z. record { left = b.left; right = z; seed = a.seed; low = a.low; update = a.update; rest = a.rest }) e2
    ∙ (ap (λ z. record { left = b.left; right = b.right; seed = z; low = a.low; update = a.update; rest = a.rest }) e3
    ∙ (ap (λ z. record { left = b.left; right = b.right; seed = b.seed; low = z; update = a.update; rest = a.rest }) e4
    ∙ (ap (λ z. record { left = b.left; right = b.right; seed = b.seed; low = b.low; update = z; rest = a.rest }) e5
    ∙ ap (λ z. record { left = b.left; right = b.right; seed = b.seed; low = b.low; update = b.update; rest = z }) e6))))

-- what a step of the walk leaves in the buffers and in what goes on
pub record IsStep (kind : Kind) (s : Symbols) (invert : Bool) (i : ℕ) (e : Layout) (p : Plan) (old mid new : Lines) (w v : Walked) (m : MadePair) : Type 0 where
  pub start : p.span.start ≡ start_of kind i
  pub count : p.span.count ≡ count_of kind i
  pub count_is : e.count ≡ count_of kind i
  pub left : mid.left ≡ old.left
  pub right : mid.right ≡ old.right
  pub right_norm : mid.right_norm ≡ old.right_norm
  pub left_norm : take p.span.start mid.left_norm ≡ norm_joined (joins s i) (take p.span.start old.left_norm) (take p.span.start old.right_norm)
  pub joined_size : All (λ z. unsigned_abs z ≤ 2 ^ 19) (take p.span.start mid.left_norm)
  pub made : IsBandMade e (pair_shape e invert (source_at p.span (take p.span.start mid.left_norm)) (source_at p.span (take p.span.start mid.right_norm)) (fills_of kind e.blocks p w.left w.right) (form_in e (drop w.at s.nodes)).form w.seed) p.span mid new m
  pub rest : drop m.at s.nodes ≡ (form_in e (drop w.at s.nodes)).rest
  pub within : m.at ≤ length s.nodes
  pub walked : v ≡ record { left = slice_set w.left i m.left; right = slice_set w.right i m.right; seed = m.seed; at = m.at; low = p.low; update = is_rich s i e.count }

next_start : (kind : Kind) (i n : ℕ) → i ≤ 20 → n ≡ start_of kind (suc i) → n ≡ start_of kind i + count_of kind i
next_start kind i n h e = e ∙ sym (start_next kind i h)

step_end : (kind : Kind) (s : Symbols) (invert : Bool) (i : ℕ) (e : Layout) (p : Plan) (old mid new : Lines) (w v : Walked) (m : MadePair) → i ≤ 20 → IsStep kind s invert i e p old mid new w v m → start_of kind (suc i) ≡ p.span.start + p.span.count
step_end kind s invert i e p old mid new w v m h t = let q = start_next kind i h in let a = t.start in let b = t.count in omega (arith, q, a, b)

step_by : (kind : Kind) (s : Symbols) (invert : Bool) (i : ℕ) (e : Layout) (p : Plan) (old mid new : Lines) (w v : Walked) (m : MadePair) → i ≤ 20 → IsStep kind s invert i e p old mid new w v m
    → sofar_of kind s (suc i) new v ≡ band_by kind s invert i e p (joined (joins s i) (sofar_of kind s i old w))
unfolding sofar_of band_by band_made joined with_norm longer
step_by kind s invert i e p old mid new w v m h t =
    let end = step_end kind s invert i e p old mid new w v m h t in
    let f : Sofar = joined (joins s i) (sofar_of kind s i old w) in
    let en : norm_joined (joins s i) (take (start_of kind i) old.left_norm) (take (start_of kind i) old.right_norm) ≡ take p.span.start mid.left_norm =
    ap (λ z. norm_joined (joins s i) (take z old.left_norm) (take z old.right_norm)) (sym t.start) ∙ sym t.left_norm in
    let er : take (start_of kind i) old.right_norm ≡ take p.span.start mid.right_norm =
    ap (λ z. take z old.right_norm) (sym t.start) ∙ ap (take p.span.start) (sym t.right_norm) in
    let b : Pair = pair_shape e invert (source_at p.span (take p.span.start mid.left_norm)) (source_at p.span (take p.span.start mid.right_norm)) (fills_of kind e.blocks p w.left w.right) (form_in e (drop w.at s.nodes)).form w.seed in
    let c : Pair = pair_shape e invert (source_at p.span f.left.norm) (source_at p.span f.right.norm) (fills_of kind e.blocks p f.left.masks f.right.masks) (form_in e f.rest).form f.seed in
    let bc : b ≡ c =
    ap (λ z. pair_shape e invert (source_at p.span z) (source_at p.span (take p.span.start mid.right_norm)) (fills_of kind e.blocks p w.left w.right) (form_in e (drop w.at s.nodes)).form w.seed) (sym en)
    ∙ ap (λ z. pair_shape e invert (source_at p.span f.left.norm) (source_at p.span z) (fills_of kind e.blocks p w.left w.right) (form_in e (drop w.at s.nodes)).form w.seed) (sym er) in
    let made = t.made in
    let ew = t.walked in
    same_sofar (sofar_of kind s (suc i) new v) (band_by kind s invert i e p f)
    (same_line (sofar_of kind s (suc i) new v).left (band_by kind s invert i e p f).left
    (ap (λ z. take z new.left) end ∙ (made.left ∙ (ap (λ z. take p.span.start z ++ b.left) t.left ∙ (ap (λ z. take z old.left ++ b.left) t.start ∙ ap (λ (z : Pair). take (start_of kind i) old.left ++ z.left) bc))))
    (ap (λ z. take z new.left_norm) end ∙ (made.left_norm ∙ (ap (λ z. z ++ copied b.copy) (sym en) ∙ ap (λ (z : Pair). f.left.norm ++ copied z.copy) bc)))
    (ap (λ (z : Walked). z.left) ew ∙ (ap (slice_set w.left i) made.left_mask ∙ ap (λ (z : Pair). slice_set w.left i z.left_mask) bc)))
    (same_line (sofar_of kind s (suc i) new v).right (band_by kind s invert i e p f).right
    (ap (λ z. take z new.right) end ∙ (made.right ∙ (ap (λ z. take p.span.start z ++ b.right) t.right ∙ (ap (λ z. take z old.right ++ b.right) t.start ∙ ap (λ (z : Pair). take (start_of kind i) old.right ++ z.right) bc))))
    (ap (λ z. take z new.right_norm) end ∙ (made.right_norm ∙ (ap (λ z. z ++ right_copy e.own e.count b.right) (sym er) ∙ ap (λ (z : Pair). f.right.norm ++ right_copy e.own e.count z.right) bc)))
    (ap (λ (z : Walked). z.right) ew ∙ (ap (slice_set w.right i) made.right_mask ∙ ap (λ (z : Pair). slice_set w.right i z.right_mask) bc)))
    (ap (λ (z : Walked). z.seed) ew ∙ (made.seed ∙ ap (λ (z : Pair). z.seed) bc))
    (ap (λ (z : Walked). z.low) ew)
    (ap (λ (z : Walked). z.update) ew)
    (ap (λ (z : Walked). drop z.at s.nodes) ew ∙ t.rest)

walk_low : (kind : Kind) (s : Symbols) (i : ℕ) (old : Lines) (w : Walked) → low_of kind i w.low w.update ≡ low_of kind i (sofar_of kind s i old w).low (sofar_of kind s i old w).update
unfolding sofar_of
walk_low kind s i old w = refl

pub step_made : (kind : Kind) (s : Symbols) (invert : Bool) (i : ℕ) (e : Layout) (p : Plan) (old mid new : Lines) (w v : Walked) (m : MadePair) → i ≤ 20 → e ≡ layout_of kind s i → p ≡ plan_of kind e (tf_at s i) i (low_of kind i w.low w.update)
    → IsStep kind s invert i e p old mid new w v m → sofar_of kind s (suc i) new v ≡ band_more kind s invert i (sofar_of kind s i old w)
unfolding band_more
step_made kind s invert i e p old mid new w v m h ee ep t =
    let f : Sofar = sofar_of kind s i old w in
    let el : low_of kind i w.low w.update ≡ low_of kind i f.low f.update = walk_low kind s i old w in
    step_by kind s invert i e p old mid new w v m h t
    ∙ (ap (λ z. band_by kind s invert i e z (joined (joins s i) f)) (ep ∙ ap (plan_of kind e (tf_at s i) i) el)
    ∙ ap (λ z. band_by kind s invert i z (plan_of kind z (tf_at s i) i (low_of kind i f.low f.update)) (joined (joins s i) f)) ee)

pub step_sound : (kind : Kind) (s : Symbols) (invert : Bool) (i : ℕ) (e : Layout) (p : Plan) (old mid new : Lines) (w v : Walked) (m : MadePair) → i ≤ 20 → e.blocks ≡ frame_blocks kind s.settings.transient → p.low ≤ i
    → IsSound kind s i old w → IsStep kind s invert i e p old mid new w v m → IsSound kind s (suc i) new v
step_sound kind s invert i e p old mid new w v m h eb el d t =
    let end = step_end kind s invert i e p old mid new w v m h t in
    let made = t.made in
    let n : ℕ = p.span.start in
    let ls : take n mid.left ≡ take (start_of kind i) old.left = ap (take n) t.left ∙ ap (λ z. take z old.left) t.start in
    let rs : take n mid.right ≡ take (start_of kind i) old.right = ap (take n) t.right ∙ ap (λ z. take z old.right) t.start in
    let ns : take n mid.right_norm ≡ take (start_of kind i) old.right_norm = ap (take n) t.right_norm ∙ ap (λ z. take z old.right_norm) t.start in
    let ew = t.walked in
    let b = made in
    record {
      left = subst (All (λ z. unsigned_abs z < 2 ^ 20)) (sym (ap (λ z. take z new.left) end ∙ made.left)) (All-append (λ z. unsigned_abs z < 2 ^ 20) (take n mid.left) _ (subst (All (λ z. unsigned_abs z < 2 ^ 20)) (sym ls) d.left) made.left_size);
      right = subst (All (λ z. unsigned_abs z < 2 ^ 20)) (sym (ap (λ z. take z new.right) end ∙ made.right)) (All-append (λ z. unsigned_abs z < 2 ^ 20) (take n mid.right) _ (subst (All (λ z. unsigned_abs z < 2 ^ 20)) (sym rs) d.right) made.right_size);
      left_norm = subst (All (λ z. unsigned_abs z ≤ 2 ^ 19)) (sym (ap (λ z. take z new.left_norm) end ∙ made.left_norm)) (All-append (λ z. unsigned_abs z ≤ 2 ^ 19) (take n mid.left_norm) _ t.joined_size made.left_copy);
      right_norm = subst (All (λ z. unsigned_abs z ≤ 2 ^ 19)) (sym (ap (λ z. take z new.right_norm) end ∙ made.right_norm)) (All-append (λ z. unsigned_abs z ≤ 2 ^ 19) (take n mid.right_norm) _ (subst (All (λ z. unsigned_abs z ≤ 2 ^ 19)) (sym ns) d.right_norm) made.right_copied);
      left_masks = subst (λ (z : Walked). All (λ k. k < 2 ^ frame_blocks kind s.settings.transient) z.left) (sym ew) (All-set (λ k. k < 2 ^ frame_blocks kind s.settings.transient) w.left i m.left (subst (λ z. m.left < 2 ^ z) eb made.left_small) d.left_masks);
      right_masks = subst (λ (z : Walked). All (λ k. k < 2 ^ frame_blocks kind s.settings.transient) z.right) (sym ew) (All-set (λ k. k < 2 ^ frame_blocks kind s.settings.transient) w.right i m.right (subst (λ z. m.right < 2 ^ z) eb made.right_small) d.right_masks);
      low = subst (λ (z : Walked). z.low ≤ suc i) (sym ew) (omega (arith, el));
      at = subst (λ (z : Walked). z.at ≤ length s.nodes) (sym ew) t.within;
    }

-- the start
zeros_below : (b : ℕ) → All (λ m. m < 2 ^ b) (replicate 21 0)
zeros_below b k d l = rw (get_or-replicate {A = ℕ} 21 k 0 d (omega (arith, length-replicate {A = ℕ} 21 0))) (pow_pos b)

none_small : (m n : ℕ) (xs : List ℤ) → n ≡ 0 → All (λ v. unsigned_abs v < m) (take n xs)
none_small m n xs e = rw e (λ k d l. absurd (omega arith))

none_most : (m n : ℕ) (xs : List ℤ) → n ≡ 0 → All (λ v. unsigned_abs v ≤ m) (take n xs)
none_most m n xs e = rw e (λ k d l. absurd (omega arith))

start_none : (kind : Kind) → start_of kind 0 ≡ 0
unfolding start_of
start_none kind = omega arith

pub start_made : (kind : Kind) (s : Symbols) (invert : Bool) (seed : ℕ) (l : Lines) (w : Walked) → w ≡ record { left = replicate 21 0; right = replicate 21 0; seed = seed; at = 0; low = 0; update = true } → sofar_of kind s 0 l w ≡ bands_of kind s invert seed 0
unfolding sofar_of bands_of
start_made kind s invert seed l w e =
    let z = start_none kind in
    ap (λ (v : Walked). record { left = line_of (start_of kind 0) l.left l.left_norm v.left; right = line_of (start_of kind 0) l.right l.right_norm v.right; seed = v.seed; low = v.low; update = v.update; rest = drop v.at s.nodes }) e
    ∙ ap (λ n. record { left = line_of n l.left l.left_norm (replicate 21 0); right = line_of n l.right l.right_norm (replicate 21 0); seed = seed; low = 0; update = true; rest = s.nodes }) z

pub start_sound : (kind : Kind) (s : Symbols) (seed : ℕ) (l : Lines) (w : Walked) → w ≡ record { left = replicate 21 0; right = replicate 21 0; seed = seed; at = 0; low = 0; update = true } → IsSound kind s 0 l w
start_sound kind s seed l w e = rw e (record {
  left = none_small (2 ^ 20) _ l.left (start_none kind);
  right = none_small (2 ^ 20) _ l.right (start_none kind);
  left_norm = none_most (2 ^ 19) _ l.left_norm (start_none kind);
  right_norm = none_most (2 ^ 19) _ l.right_norm (start_none kind);
  left_masks = zeros_below _;
  right_masks = zeros_below _;
  low = omega arith;
  at = omega arith;
})

-- a channel that keeps copies of its own is coded by itself
pub own_two : (kind : Kind) (s : Symbols) (i : ℕ) → (layout_of kind s i).own ≡ true → (layout_of kind s i).two ≡ true
unfolding layout_of is_own is_two band_of
own_two kind s i h = ap (λ b. b || (nat_eq kind.channels 2 && nat_eq (band_of kind s.settings s.intensity i).n 1)) h
