-- The four kinds of bands, as their nodes are read.
use Rattle.std.proofs.Common.{◌≡◌, ◌≢◌, ℕ, sym, subst, arith, ap, ◌∙◌, nat_eq, List, drop, Bool, true, false}
use Rattle.std.specs.Prelude.{ℤ, if◌then◌else◌, ◌&&◌}
use Rattle.std.specs.Int.RustNames.{bit_or}
use Rattle.std.proofs.lemmas.Nat.{or_lt}
use Rattle.std.proofs.lemmas.Bool.Decides.{nat_tests}
use Rattle.band_plan.specs.declared.symbols.Node.{Node}
use Rattle.band_shapes.specs.declared.node.Fills.{Fills}
use Rattle.band_shapes.specs.declared.node.Layout.{Layout}
use Rattle.band_shapes.specs.declared.node.MadePair.{MadePair}
use Rattle.band_shapes.specs.Bands.{side_at, side_shape, alone, apart_at, both_at, whole_wish, merged_pair, duo_pair, joined_fill, pair_shape, form_in, CanTake, IsPair}
use Rattle.band_shapes.specs.Forms.{Double, Turned, ReadForm, read_form, read_sides, read_duo, read_single, read_stereo, cut_in, turned_in, sign_in, IsSide, IsForm}
use Rattle.band_shapes.specs.Tree.{front, IsAngle}

pub joined_can : (e : Layout) (xs ys : List ℤ) (a b : ℕ) → CanTake e xs a → CanTake e ys b → CanTake e xs (bit_or a b)
joined_can e xs ys a b h k = record {
  count = h.count;
  length_is = h.length_is;
  source = h.source;
  change = h.change;
  spread = h.spread;
  level = h.level;
  fill_size = or_lt e.blocks a b h.fill_size k.fill_size;
}

form_two : (e : Layout) (ns : List Node) → e.two ≡ true → form_in e ns ≡ read_sides e.count e.level Double ns
unfolding read_form
form_two e ns h = ap (λ b. if b then read_sides e.count e.level Double ns else (if nat_eq e.channels 2 then read_stereo e.count e.level ns else read_single e.count e.level ns)) h

form_more : (e : Layout) (ns : List Node) → e.two ≡ false → form_in e ns ≡ (if nat_eq e.channels 2 then read_stereo e.count e.level ns else read_single e.count e.level ns)
unfolding read_form
form_more e ns h = ap (λ b. if b then read_sides e.count e.level Double ns else (if nat_eq e.channels 2 then read_stereo e.count e.level ns else read_single e.count e.level ns)) h

form_single : (e : Layout) (ns : List Node) → e.two ≡ false → e.channels ≢ 2 → form_in e ns ≡ read_single e.count e.level ns
form_single e ns h n =
    let t : nat_eq e.channels 2 ≡ false = grind (arith, nat_tests, n) in
    form_more e ns h ∙ ap (λ b. if b then read_stereo e.count e.level ns else read_single e.count e.level ns) t

form_stereo : (e : Layout) (ns : List Node) → e.two ≡ false → e.channels ≡ 2 → form_in e ns ≡ read_stereo e.count e.level ns
form_stereo e ns h n =
    let t : nat_eq e.channels 2 ≡ true = grind (arith, nat_tests, n) in
    form_more e ns h ∙ ap (λ b. if b then read_stereo e.count e.level ns else read_single e.count e.level ns) t

form_duo : (e : Layout) (ns : List Node) → e.two ≡ false → e.channels ≡ 2 → e.count ≡ 2 → form_in e ns ≡ read_duo e.count e.level (front ns) (drop 1 ns)
unfolding read_stereo
form_duo e ns h n c =
    let t : nat_eq e.count 2 ≡ true = grind (arith, nat_tests, c) in
    form_stereo e ns h n ∙ ap (λ b. if b then read_duo e.count e.level (front ns) (drop 1 ns) else read_sides e.count e.level (Turned (cut_in (front ns)) (turned_in (front ns))) (drop 1 ns)) t

form_turned : (e : Layout) (ns : List Node) → e.two ≡ false → e.channels ≡ 2 → e.count ≢ 2 → form_in e ns ≡ read_sides e.count e.level (Turned (cut_in (front ns)) (turned_in (front ns))) (drop 1 ns)
unfolding read_stereo
form_turned e ns h n c =
    let t : nat_eq e.count 2 ≡ false = grind (arith, nat_tests, c) in
    form_stereo e ns h n ∙ ap (λ b. if b then read_duo e.count e.level (front ns) (drop 1 ns) else read_sides e.count e.level (Turned (cut_in (front ns)) (turned_in (front ns))) (drop 1 ns)) t

-- two channels by themselves
pub two_sides : (e : Layout) (ns : List Node) → e.two ≡ true → IsForm e.count (form_in e ns).form → IsSide e.count (side_at e ns).side × IsSide e.count (side_at e (side_at e ns).rest).side
unfolding read_sides IsForm
two_sides e ns h f = subst (λ (z : ReadForm). IsForm e.count z.form) (form_two e ns h) f

pub two_shape : (e : Layout) (invert : Bool) (ns : List Node) (xs ys ls rs cs : List ℤ) (fills : Fills) (seed : ℕ) (m : MadePair) → e.two ≡ true → IsPair e (apart_at e ns xs ys fills seed) ls rs cs m → IsPair e (pair_shape e invert xs ys fills (form_in e ns).form seed) ls rs cs m
unfolding read_sides pair_shape apart_at
two_shape e invert ns xs ys ls rs cs fills seed m h p = subst (λ (z : ReadForm). IsPair e (pair_shape e invert xs ys fills z.form seed) ls rs cs m) (sym (form_two e ns h)) p

pub two_rest : (e : Layout) (ns : List Node) → e.two ≡ true → (side_at e (side_at e ns).rest).rest ≡ (form_in e ns).rest
unfolding read_sides
two_rest e ns h = sym (ap (λ (z : ReadForm). z.rest) (form_two e ns h))

-- one channel
pub single_side : (e : Layout) (ns : List Node) → e.two ≡ false → e.channels ≢ 2 → IsForm e.count (form_in e ns).form → IsSide e.count (side_at e ns).side
unfolding read_single IsForm
single_side e ns h n f = subst (λ (z : ReadForm). IsForm e.count z.form) (form_single e ns h n) f

pub single_shape : (e : Layout) (invert : Bool) (ns : List Node) (xs ys ls rs cs : List ℤ) (fills : Fills) (seed : ℕ) (m : MadePair) → e.two ≡ false → e.channels ≢ 2 → IsPair e (alone e.count (side_shape e (side_at e ns).side xs (whole_wish e (joined_fill fills)) seed)) ls rs cs m → IsPair e (pair_shape e invert xs ys fills (form_in e ns).form seed) ls rs cs m
unfolding read_single pair_shape
single_shape e invert ns xs ys ls rs cs fills seed m h n p = subst (λ (z : ReadForm). IsPair e (pair_shape e invert xs ys fills z.form seed) ls rs cs m) (sym (form_single e ns h n)) p

pub single_rest : (e : Layout) (ns : List Node) → e.two ≡ false → e.channels ≢ 2 → (side_at e ns).rest ≡ (form_in e ns).rest
unfolding read_single
single_rest e ns h n = sym (ap (λ (z : ReadForm). z.rest) (form_single e ns h n))

-- two coefficients
pub duo_side : (e : Layout) (ns : List Node) → e.two ≡ false → e.channels ≡ 2 → e.count ≡ 2 → IsForm e.count (form_in e ns).form → IsAngle (cut_in (front ns)).theta × IsSide e.count (side_at e (drop 1 (drop 1 ns))).side
unfolding read_duo IsForm
duo_side e ns h n c f =
    let g : IsForm e.count (read_duo e.count e.level (front ns) (drop 1 ns)).form = subst (λ (z : ReadForm). IsForm e.count z.form) (form_duo e ns h n c) f in
    (g.1, g.2)

pub duo_shape : (e : Layout) (invert : Bool) (ns : List Node) (xs ys ls rs cs : List ℤ) (fills : Fills) (seed : ℕ) (m : MadePair) → e.two ≡ false → e.channels ≡ 2 → e.count ≡ 2
    → IsPair e (duo_pair (cut_in (front ns)).theta (sign_in (front (drop 1 ns))) (turned_in (front ns) && invert) (side_shape e (side_at e (drop 1 (drop 1 ns))).side xs (whole_wish e (joined_fill fills)) seed)) ls rs cs m
    → IsPair e (pair_shape e invert xs ys fills (form_in e ns).form seed) ls rs cs m
unfolding read_duo pair_shape
duo_shape e invert ns xs ys ls rs cs fills seed m h n c p = subst (λ (z : ReadForm). IsPair e (pair_shape e invert xs ys fills z.form seed) ls rs cs m) (sym (form_duo e ns h n c)) p

pub duo_rest : (e : Layout) (ns : List Node) → e.two ≡ false → e.channels ≡ 2 → e.count ≡ 2 → (side_at e (drop 1 (drop 1 ns))).rest ≡ (form_in e ns).rest
unfolding read_duo
duo_rest e ns h n c = sym (ap (λ (z : ReadForm). z.rest) (form_duo e ns h n c))

-- middle and side
pub turned_sides : (e : Layout) (ns : List Node) → e.two ≡ false → e.channels ≡ 2 → e.count ≢ 2 → IsForm e.count (form_in e ns).form
    → IsAngle (cut_in (front ns)).theta × IsSide e.count (side_at e (drop 1 ns)).side × IsSide e.count (side_at e (side_at e (drop 1 ns)).rest).side
unfolding read_sides IsForm
turned_sides e ns h n c f =
    let g : IsForm e.count (read_sides e.count e.level (Turned (cut_in (front ns)) (turned_in (front ns))) (drop 1 ns)).form = subst (λ (z : ReadForm). IsForm e.count z.form) (form_turned e ns h n c) f in
    (g.1, g.2, g.3)

pub turned_shape : (e : Layout) (invert : Bool) (ns : List Node) (xs ys ls rs cs : List ℤ) (fills : Fills) (seed : ℕ) (m : MadePair) → e.two ≡ false → e.channels ≡ 2 → e.count ≢ 2
    → IsPair e (merged_pair (cut_in (front ns)).theta (turned_in (front ns) && invert) (both_at e (cut_in (front ns)) (drop 1 ns) xs (joined_fill fills) seed)) ls rs cs m
    → IsPair e (pair_shape e invert xs ys fills (form_in e ns).form seed) ls rs cs m
unfolding read_sides pair_shape both_at
turned_shape e invert ns xs ys ls rs cs fills seed m h n c p = subst (λ (z : ReadForm). IsPair e (pair_shape e invert xs ys fills z.form seed) ls rs cs m) (sym (form_turned e ns h n c)) p

pub turned_rest : (e : Layout) (ns : List Node) → e.two ≡ false → e.channels ≡ 2 → e.count ≢ 2 → (side_at e (side_at e (drop 1 ns)).rest).rest ≡ (form_in e ns).rest
unfolding read_sides
turned_rest e ns h n c = sym (ap (λ (z : ReadForm). z.rest) (form_turned e ns h n c))
