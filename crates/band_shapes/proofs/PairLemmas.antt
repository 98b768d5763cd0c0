-- Both channels of a band.
use Rattle.std.proofs.Common.{◌≡◌, inl, inr, ℕ, ◌*◌, ◌^◌, ◌<◌, ◌≤◌, sym, subst, arith, refl, ap, ◌∙◌, List, [], ◌++◌, length, take, get_or, length-take, Bool, true, false}
use Rattle.std.specs.Prelude.{ℤ, pos, neg_ℤ, ◌≤ℤ◌, unsigned_abs, All, map, replicate, if◌then◌else◌}
use Rattle.std.specs.Int.RustNames.{bit_or}
use Rattle.std.proofs.lemmas.Nat.{or_lt, pow_pos}
use Rattle.std.proofs.lemmas.Int.{ints}
use Rattle.std.proofs.lemmas.Bool.{cases_lt}
use Rattle.std.proofs.lemmas.List.{length-map, get_or-map, take_at, get_or-replicate, length-replicate}
use Rattle.fixed_math.specs.Unit.{unit_of, energy}
use Rattle.fixed_math.proofs.UnitLemmas.{unit_size, energy_wide}
use Rattle.fixed_math.proofs.ItemLemmas.{length-listed}
use Rattle.spread_fold.specs.Stereo.{channel, merged}
use Rattle.spread_fold.proofs.StereoLemmas.{merged_faint, merged_whole, channel_size}
use Rattle.band_plan.specs.declared.symbols.Node.{Node}
use Rattle.band_shapes.specs.declared.node.Cut.{Cut}
use Rattle.band_shapes.specs.declared.node.Fills.{Fills}
use Rattle.band_shapes.specs.declared.node.Layout.{Layout}
use Rattle.band_shapes.specs.declared.node.MadePair.{MadePair}
use Rattle.band_shapes.specs.declared.node.Wish.{Wish}
use Rattle.band_shapes.specs.Bands.{Pair, Both, side_at, side_shape, alone, apart, apart_at, whole_wish, mid_wish, side_wish, both, both_of, both_at, inverted, merged_pair, CanSide, CanTake, IsPair, IsBoth}
use Rattle.band_shapes.specs.Channels.{IsChannel}
use Rattle.band_shapes.specs.Forms.{Side}
use Rattle.band_shapes.specs.Parts.{Shape, mid_of}

-- what a channel may be like
pub whole_can : (e : Layout) (xs : List ℤ) (fill : ℕ) (w : Wish) → w ≡ whole_wish e fill → CanTake e xs fill → CanSide e xs w
unfolding whole_wish
whole_can e xs fill w q h = rw q (record {
  fits = record {
    count = h.count;
    source = h.length_is;
    items = λ k d l. omega (arith, h.source k d l);
    blocks = h.change.band;
    runs = h.change.runs;
    gain_low = omega (arith, ints);
    gain_high = omega (arith, ints);
  };
  source = h.source;
  change = h.change;
  spread = h.spread;
  level = h.level;
  fill = h.fill_size;
})

pub mid_can : (e : Layout) (xs : List ℤ) (fill : ℕ) (theta : ℤ) (w : Wish) → w ≡ mid_wish e fill theta → w.fill < 2 ^ e.blocks → CanTake e xs fill → CanSide e xs w
unfolding mid_wish
mid_can e xs fill theta w q l h =
    let b : e.blocks ≡ w.blocks = sym (ap (λ z. z.blocks) q) in
    record {
      fits = record {
        count = h.count;
        source = h.length_is;
        items = λ k d l. omega (arith, h.source k d l);
        blocks = rw q h.change.band;
        runs = rw q h.change.runs;
        gain_low = rw q (omega (arith, ints));
        gain_high = rw q (omega (arith, ints));
      };
      source = h.source;
      change = rw q h.change;
      spread = h.spread;
      level = h.level;
      fill = subst (λ z. w.fill < 2 ^ z) b l;
    }

pub none_small : All (λ v. unsigned_abs v ≤ 2 ^ 19) []
none_small k d l = absurd (omega arith)

none_items : All (λ v. unsigned_abs v < 2 ^ 22) []
none_items k d l = absurd (omega arith)

pub side_can : (e : Layout) (xs : List ℤ) (fill : ℕ) (theta : ℤ) (w : Wish) → w ≡ side_wish e fill theta → w.fill < 2 ^ e.blocks → pos 0 ≤ℤ w.gain → w.gain ≤ℤ pos 32768 → CanTake e xs fill → CanSide e [] w
unfolding side_wish
side_can e xs fill theta w q l low high h =
    let b : e.blocks ≡ w.blocks = sym (ap (λ z. z.blocks) q) in
    record {
      fits = record {
        count = h.count;
        source = inl refl;
        items = none_items;
        blocks = rw q h.change.band;
        runs = rw q h.change.runs;
        gain_low = low;
        gain_high = high;
      };
      source = none_small;
      change = rw q h.change;
      spread = h.spread;
      level = h.level;
      fill = subst (λ z. w.fill < 2 ^ z) b l;
    }

-- a channel by other words for the same
pub side_same : (e : Layout) (ns us : List Node) (xs out : List ℤ) (w v : Wish) (seed m s : ℕ) → ns ≡ us → w ≡ v → IsChannel w.blocks (side_shape e (side_at e ns).side xs w seed) out m s → IsChannel v.blocks (side_shape e (side_at e us).side xs v seed) out m s
side_same e ns us xs out w v seed m s en ew p =
    subst (λ (z : Wish). IsChannel z.blocks (side_shape e (side_at e us).side xs z seed) out m s) ew
    (subst (λ z. IsChannel w.blocks (side_shape e (side_at e z).side xs w seed) out m s) en p)

wider : (xs : List ℤ) → All (λ v. unsigned_abs v < 2 ^ 19) xs → All (λ v. unsigned_abs v < 2 ^ 20) xs
wider xs h k d l = omega (arith, h k d l)

pub all_wider : (xs : List ℤ) → All (λ v. unsigned_abs v < 2 ^ 19) xs → All (λ v. unsigned_abs v < 2 ^ 20) xs
all_wider = wider

pub zeros_small : (n m : ℕ) → 0 < m → All (λ v. unsigned_abs v < m) (replicate n (pos 0))
zeros_small n m some k d l = rw (get_or-replicate {A = ℤ} n k (pos 0) d (omega (arith, l, length-replicate {A = ℤ} n (pos 0)))) (omega (arith, ints, some))

-- one channel
pub single_made : (e : Layout) (s : Shape) (xs ys zs : List ℤ) (k : ℕ) (m : MadePair) → IsChannel e.blocks s xs k m.seed → k ≡ m.left → m.right ≡ 0 → ys ≡ replicate e.count (pos 0) → zs ≡ xs → IsPair e (alone e.count s) xs ys zs m
unfolding alone
single_made e s xs ys zs k m h el er ey ez = record {
  left = h.vector;
  right = ey;
  copy = ez ∙ h.vector;
  left_mask = sym el ∙ h.mask;
  right_mask = er;
  seed = h.seed;
  left_size = wider xs h.size;
  right_size = subst (All (λ v. unsigned_abs v < 2 ^ 20)) (sym ey) (zeros_small e.count (2 ^ 20) (omega arith));
  right_apart = λ t. subst (All (λ v. unsigned_abs v < 2 ^ 19)) (sym ey) (zeros_small e.count (2 ^ 19) (omega arith));
  copy_size = subst (All (λ v. unsigned_abs v < 2 ^ 19)) (sym ez) h.size;
  left_small = subst (λ z. z < 2 ^ e.blocks) el h.small;
  right_small = subst (λ z. z < 2 ^ e.blocks) (sym er) (pow_pos e.blocks);
}

-- two channels by themselves
pub apart_made : (e : Layout) (one two : Shape) (xs ys zs : List ℤ) (s : ℕ) (m : MadePair) → IsChannel e.blocks one xs m.left s → IsChannel e.blocks two ys m.right m.seed → zs ≡ xs → IsPair e (apart one two) xs ys zs m
unfolding apart
apart_made e one two xs ys zs s m h k ez = record {
  left = h.vector;
  right = k.vector;
  copy = ez ∙ h.vector;
  left_mask = h.mask;
  right_mask = k.mask;
  seed = k.seed;
  left_size = wider xs h.size;
  right_size = wider ys k.size;
  right_apart = λ t. k.size;
  copy_size = subst (All (λ v. unsigned_abs v < 2 ^ 19)) (sym ez) h.size;
  left_small = h.small;
  right_small = k.small;
}

pub apart_nodes : (e : Layout) (ns us : List Node) (xs ys ls bs cs : List ℤ) (fills : Fills) (seed s : ℕ) (m : MadePair) → us ≡ (side_at e ns).rest
    → IsChannel e.blocks (side_shape e (side_at e ns).side xs (whole_wish e fills.left) seed) ls m.left s
    → IsChannel e.blocks (side_shape e (side_at e us).side ys (whole_wish e fills.right) s) bs m.right m.seed
    → cs ≡ ls → IsPair e (apart_at e ns xs ys fills seed) ls bs cs m
unfolding apart_at
apart_nodes e ns us xs ys ls bs cs fills seed s m eu h k ec =
    let left : Shape = side_shape e (side_at e ns).side xs (whole_wish e fills.left) seed in
    let q : IsChannel e.blocks (side_shape e (side_at e (side_at e ns).rest).side ys (whole_wish e fills.right) left.seed) bs m.right m.seed =
    subst (λ z. IsChannel e.blocks (side_shape e (side_at e (side_at e ns).rest).side ys (whole_wish e fills.right) z) bs m.right m.seed) h.seed
    (subst (λ z. IsChannel e.blocks (side_shape e (side_at e z).side ys (whole_wish e fills.right) s) bs m.right m.seed) eu k) in
    apart_made e left (side_shape e (side_at e (side_at e ns).rest).side ys (whole_wish e fills.right) left.seed) ls bs cs s m h q ec

-- the side first
pub side_first : (e : Layout) (cut : Cut) (ns us : List Node) (xs ls bs : List ℤ) (fill seed s t m k : ℕ) → cut.second_first ≡ true → us ≡ (side_at e ns).rest
    → IsChannel e.blocks (side_shape e (side_at e ns).side [] (side_wish e fill cut.theta) seed) bs k s
    → IsChannel e.blocks (side_shape e (side_at e us).side xs (mid_wish e fill cut.theta) s) ls m t
    → IsBoth e.blocks (both_at e cut ns xs fill seed) ls bs (bit_or m k) t
unfolding both_at both_of both
side_first e cut ns us xs ls bs fill seed s t m k eo eu p q =
    let one : Side = (side_at e ns).side in
    let two : Side = (side_at e (side_at e ns).rest).side in
    let side : ℕ → Shape = side_shape e one [] (side_wish e fill cut.theta) in
    let mid : ℕ → Shape = side_shape e two xs (mid_wish e fill cut.theta) in
    let q' : IsChannel e.blocks (mid s) ls m t = subst (λ z. IsChannel e.blocks (side_shape e (side_at e z).side xs (mid_wish e fill cut.theta) s) ls m t) eu q in
    let r : IsChannel e.blocks (mid (side seed).seed) ls m t = subst (λ z. IsChannel e.blocks (mid z) ls m t) p.seed q' in
    let path : both_at e cut ns xs fill seed ≡ record { mid = mid (side seed).seed; side = side seed; seed = (mid (side seed).seed).seed } =
    ap (λ z. both z (side_shape e (if z then two else one) xs (mid_wish e fill cut.theta)) (side_shape e (if z then one else two) [] (side_wish e fill cut.theta)) seed) eo in
    subst (λ z. IsBoth e.blocks z ls bs (bit_or m k) t) (sym path) (record {
      mid = r.vector;
      side = p.vector;
      mask = ap (λ z. bit_or z k) r.mask ∙ ap (bit_or (mid (side seed).seed).mask) p.mask;
      seed = r.seed;
      mid_size = r.size;
      side_size = p.size;
      small = or_lt e.blocks m k r.small p.small;
    })

pub mid_first : (e : Layout) (cut : Cut) (ns us : List Node) (xs ls bs : List ℤ) (fill seed s t m k : ℕ) → cut.second_first ≡ false → us ≡ (side_at e ns).rest
    → IsChannel e.blocks (side_shape e (side_at e ns).side xs (mid_wish e fill cut.theta) seed) ls m s
    → IsChannel e.blocks (side_shape e (side_at e us).side [] (side_wish e fill cut.theta) s) bs k t
    → IsBoth e.blocks (both_at e cut ns xs fill seed) ls bs (bit_or m k) t
unfolding both_at both_of both
mid_first e cut ns us xs ls bs fill seed s t m k eo eu p q =
    let one : Side = (side_at e ns).side in
    let two : Side = (side_at e (side_at e ns).rest).side in
    let side : ℕ → Shape = side_shape e two [] (side_wish e fill cut.theta) in
    let mid : ℕ → Shape = side_shape e one xs (mid_wish e fill cut.theta) in
    let q' : IsChannel e.blocks (side s) bs k t = subst (λ z. IsChannel e.blocks (side_shape e (side_at e z).side [] (side_wish e fill cut.theta) s) bs k t) eu q in
    let r : IsChannel e.blocks (side (mid seed).seed) bs k t = subst (λ z. IsChannel e.blocks (side z) bs k t) p.seed q' in
    let path : both_at e cut ns xs fill seed ≡ record { mid = mid seed; side = side (mid seed).seed; seed = (side (mid seed).seed).seed } =
    ap (λ z. both z (side_shape e (if z then two else one) xs (mid_wish e fill cut.theta)) (side_shape e (if z then one else two) [] (side_wish e fill cut.theta)) seed) eo in
    subst (λ z. IsBoth e.blocks z ls bs (bit_or m k) t) (sym path) (record {
      mid = p.vector;
      side = r.vector;
      mask = ap (λ z. bit_or z k) p.mask ∙ ap (bit_or (mid seed).mask) r.mask;
      seed = r.seed;
      mid_size = p.size;
      side_size = r.size;
      small = or_lt e.blocks m k p.small r.small;
    })

-- a merged channel is as small as the middle, or of unit length
length-channel : (mid : ℤ) (right : Bool) (xs ys : List ℤ) → length (channel mid right xs ys) ≡ length xs
unfolding channel
length-channel mid right xs ys = length-listed (length xs) _

unit_below : (xs : List ℤ) → All (λ v. 2 * unsigned_abs v ≤ 32768) xs → All (λ v. unsigned_abs v < 2 ^ 19) xs
unit_below xs h k d l = omega (arith, h k d l)

some_energy : (mid : ℤ) (right : Bool) (xs ys : List ℤ) → 161061 ≤ energy (channel mid false xs ys) → 161061 ≤ energy (channel mid true xs ys) → 0 < energy (channel mid right xs ys)
some_energy mid false xs ys l g = omega arith
some_energy mid true xs ys l g = omega arith

pub merged_size : (mid : ℤ) (right : Bool) (xs ys : List ℤ) → pos 0 ≤ℤ mid → mid ≤ℤ pos 32767 → length xs ≤ 176 → All (λ v. unsigned_abs v < 2 ^ 19) xs → All (λ v. unsigned_abs v < 2 ^ 19) ys → All (λ v. unsigned_abs v < 2 ^ 19) (merged mid right xs ys)
merged_size mid right xs ys low high n a b =
    let zs : List ℤ = channel mid right xs ys in
    elim (cases_lt (energy (channel mid false xs ys)) 161061) [
      | inl l ↦ subst (All (λ v. unsigned_abs v < 2 ^ 19)) (merged_faint mid right xs ys (inl l)) a
      | inr l ↦ elim (cases_lt (energy (channel mid true xs ys)) 161061) [
        | inl g ↦ subst (All (λ v. unsigned_abs v < 2 ^ 19)) (merged_faint mid right xs ys (inr g)) a
        | inr g ↦
            let some : 0 < energy zs = some_energy mid right xs ys l g in
            let small = channel_size mid right xs ys zs low high (wider xs a) (wider ys b) refl in
            let wide = energy_wide zs (omega (arith, length-channel mid right xs ys)) small in
            subst (All (λ v. unsigned_abs v < 2 ^ 19)) (merged_whole mid right xs ys l g) (unit_below (unit_of (pos 32768) zs) (unit_size (pos 32768) zs (omega (arith, ints)) some wide))
      ]
    ]

neg_small : (m : ℕ) (v : ℤ) → unsigned_abs v < m → unsigned_abs (neg_ℤ v) < m
neg_small m v e = omega (arith, ints)

negated_size : (m : ℕ) (xs : List ℤ) → All (λ v. unsigned_abs v < m) xs → All (λ v. unsigned_abs v < m) (map neg_ℤ xs)
negated_size m xs h k d l =
    let q : k < length xs = omega (arith, length-map xs neg_ℤ) in
    subst (λ v. unsigned_abs v < m) (sym (get_or-map neg_ℤ xs k (pos 0) d q)) (neg_small m (get_or xs k (pos 0)) (h k (pos 0) q))

pub inverted_size : (m : ℕ) (b : Bool) (xs : List ℤ) → All (λ v. unsigned_abs v < m) xs → All (λ v. unsigned_abs v < m) (inverted b xs)
unfolding inverted
inverted_size m true xs h = negated_size m xs h
inverted_size m false xs h = h

pub wide_below : (xs : List ℤ) → All (λ v. unsigned_abs v < 2 ^ 20) xs → All (λ v. unsigned_abs v < 2 ^ 40) xs
wide_below xs h k d l = omega (arith, h k d l)

-- left and right from middle and side
pub merged_made : (e : Layout) (theta : ℤ) (b : Bool) (p : Both) (mask : ℕ) (xs ys us vs zs : List ℤ) (m : MadePair) → IsBoth e.blocks p xs ys mask m.seed
    → pos 0 ≤ℤ mid_of theta → mid_of theta ≤ℤ pos 32767 → length xs ≤ 176 → m.left ≡ mask → m.right ≡ mask
    → zs ≡ xs → us ≡ merged (mid_of theta) false xs ys → vs ≡ inverted b (merged (mid_of theta) true xs ys) → IsPair e (merged_pair theta b p) us vs zs m
unfolding merged_pair
merged_made e theta b p mask xs ys us vs zs m h low high n el er ez eu ev =
    let left : us ≡ merged (mid_of theta) false p.mid.vector p.side.vector = eu ∙ (ap (λ z. merged (mid_of theta) false z ys) h.mid ∙ ap (merged (mid_of theta) false p.mid.vector) h.side) in
    let right : merged (mid_of theta) true xs ys ≡ merged (mid_of theta) true p.mid.vector p.side.vector = ap (λ z. merged (mid_of theta) true z ys) h.mid ∙ ap (merged (mid_of theta) true p.mid.vector) h.side in
    let small : All (λ v. unsigned_abs v < 2 ^ 19) us = subst (All (λ v. unsigned_abs v < 2 ^ 19)) (sym eu) (merged_size (mid_of theta) false xs ys low high n h.mid_size h.side_size) in
    let other : All (λ v. unsigned_abs v < 2 ^ 19) vs = subst (All (λ v. unsigned_abs v < 2 ^ 19)) (sym ev) (inverted_size (2 ^ 19) b _ (merged_size (mid_of theta) true xs ys low high n h.mid_size h.side_size)) in
    record {
      left = left;
      right = ev ∙ ap (inverted b) right;
      copy = ez ∙ h.mid;
      left_mask = el ∙ h.mask;
      right_mask = er ∙ h.mask;
      seed = h.seed;
      left_size = wider us small;
      right_size = wider vs other;
      right_apart = λ t. other;
      copy_size = subst (All (λ v. unsigned_abs v < 2 ^ 19)) (sym ez) h.mid_size;
      left_small = subst (λ z. z < 2 ^ e.blocks) (sym el) h.small;
      right_small = subst (λ z. z < 2 ^ e.blocks) (sym er) h.small;
    }

-- the same pair, of the first items of longer lists
pub pair_front : (e : Layout) (p : Pair) (xs ys zs ls bs cs : List ℤ) (m : MadePair) → ls ≡ xs → bs ≡ ys → cs ≡ zs → IsPair e p xs ys zs m → IsPair e p ls bs cs m
pair_front e p xs ys zs ls bs cs m ea eb ec h = rw ea (rw eb (rw ec h))

pub zeros_most : (n m : ℕ) → All (λ v. unsigned_abs v ≤ m) (replicate n (pos 0))
zeros_most n m k d l = rw (get_or-replicate {A = ℤ} n k (pos 0) d (omega (arith, l, length-replicate {A = ℤ} n (pos 0)))) (omega (arith, ints))

pub front_is : (n : ℕ) (xs ys : List ℤ) → length xs ≡ n → take n (xs ++ ys) ≡ xs
front_is n xs ys e = take_at xs ys n e

pub inverted_yes : (b : Bool) (xs : List ℤ) → b ≡ true → map neg_ℤ xs ≡ inverted b xs
unfolding inverted
inverted_yes b xs h = sym (ap (λ z. if z then map neg_ℤ xs else xs) h)

pub inverted_no : (b : Bool) (xs : List ℤ) → b ≡ false → xs ≡ inverted b xs
unfolding inverted
inverted_no b xs h = sym (ap (λ z. if z then map neg_ℤ xs else xs) h)

pub both_front : (b : ℕ) (p : Both) (xs ys ls bs : List ℤ) (m s : ℕ) → ls ≡ xs → bs ≡ ys → IsBoth b p xs ys m s → IsBoth b p ls bs m s
both_front b p xs ys ls bs m s ea eb h = rw ea (rw eb h)

pub merged_wide : (w : ℤ) (xs ys vs : List ℤ) → pos 0 ≤ℤ w → w ≤ℤ pos 32767 → length xs ≤ 176 → All (λ v. unsigned_abs v < 2 ^ 19) xs → All (λ v. unsigned_abs v < 2 ^ 19) ys → vs ≡ merged w true xs ys → All (λ v. unsigned_abs v < 2 ^ 40) vs
merged_wide w xs ys vs low high n a b e = wide_below vs (wider vs (subst (All (λ v. unsigned_abs v < 2 ^ 19)) (sym e) (merged_size w true xs ys low high n a b)))

-- left and right, where the code has them
pub merged_here : (e : Layout) (cut d : Cut) (t u : Bool) (ns us : List Node) (source : List ℤ) (fill seed mask : ℕ) (w : ℤ) (xs ys ls rs vs zs : List ℤ) (m : MadePair)
    → cut ≡ d → t ≡ u → us ≡ ns → IsBoth e.blocks (both_at e cut us source fill seed) xs ys mask m.seed
    → w ≡ mid_of cut.theta → pos 0 ≤ℤ w → w ≤ℤ pos 32767 → length xs ≤ 176 → m.left ≡ mask → m.right ≡ mask → zs ≡ xs
    → ls ≡ merged w false xs ys → rs ≡ merged w true xs ys → vs ≡ inverted t rs
    → IsPair e (merged_pair d.theta u (both_at e d ns source fill seed)) ls vs zs m
merged_here e cut d t u ns us source fill seed mask w xs ys ls rs vs zs m ec et en h ew low high n el er ez e1 e2 e3 =
    let h' : IsBoth e.blocks (both_at e d ns source fill seed) xs ys mask m.seed =
    subst (λ z. IsBoth e.blocks (both_at e d z source fill seed) xs ys mask m.seed) en (subst (λ (z : Cut). IsBoth e.blocks (both_at e z us source fill seed) xs ys mask m.seed) ec h) in
    let q : w ≡ mid_of d.theta = ew ∙ ap (λ (z : Cut). mid_of z.theta) ec in
    merged_made e d.theta u (both_at e d ns source fill seed) mask xs ys ls vs zs m h' (subst (λ z. pos 0 ≤ℤ z) q low) (subst (λ z. z ≤ℤ pos 32767) q high) n el er ez
    (e1 ∙ ap (λ z. merged z false xs ys) q)
    (e3 ∙ (ap (inverted t) (e2 ∙ ap (λ z. merged z true xs ys) q) ∙ ap (λ b. inverted b (merged (mid_of d.theta) true xs ys)) et))

pub merged_by : (w v : ℤ) (right : Bool) (xs ys ks bs : List ℤ) → w ≡ v → xs ≡ ks → ys ≡ bs → merged w right xs ys ≡ merged v right ks bs
merged_by w v right xs ys ks bs e f g = rw e (rw f (rw g refl))

pub merged_below : (w : ℤ) (xs ys vs : List ℤ) → pos 0 ≤ℤ w → w ≤ℤ pos 32767 → length xs ≤ 176 → All (λ v. unsigned_abs v < 2 ^ 19) xs → All (λ v. unsigned_abs v < 2 ^ 19) ys → vs ≡ merged w true xs ys → All (λ v. unsigned_abs v < 2 ^ 20) vs
merged_below w xs ys vs low high n a b e = wider vs (subst (All (λ v. unsigned_abs v < 2 ^ 19)) (sym e) (merged_size w true xs ys low high n a b))

pub take_least : (n : ℕ) (xs : List ℤ) → n ≤ 176 → length (take n xs) ≤ 176
take_least n xs h = omega (arith, length-take n xs, h)
