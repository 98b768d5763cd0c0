-- Parts of a split: what they may have, and how they join.
use Rattle.std.proofs.Common.{◌≡◌, ◌⊎◌, inl, inr, ℕ, ◌+◌, ◌-◌, ◌*◌, ◌/◌, ◌%◌, ◌^◌, ◌<◌, ◌≤◌, sym, subst, arith, refl, ap, ◌∙◌, List, ◌++◌, length, take, drop, Bool, true, false, length-take, length-drop, []}
use Rattle.std.specs.Prelude.{ℤ, pos, ◌≤ℤ◌, unsigned_abs, if◌then◌else◌}
use Rattle.std.specs.Int.RustNames.{bit_or}
use Rattle.std.proofs.lemmas.Nat.{or_lt}
use Rattle.std.proofs.Math.Nat.{pow-le-pow_right}
use Rattle.std.proofs.lemmas.List.Elements.{All-take, All-drop, All-append}
use Rattle.band_shapes.specs.declared.node.Cut.{Cut}
use Rattle.band_shapes.specs.declared.node.Wish.{Wish}
use Rattle.band_plan.specs.declared.symbols.Node.{Node}
use Rattle.band_shapes.specs.Tree.{Part, Leaf, Split, Read, two_read, read_part, IsBlocks}
use Rattle.band_shapes.specs.Parts.{Shape, IsMade, CanMake, halved, first_wish, second_wish, joined, in_turn, leaf_shape, part_shape}

pub blocks_halved : (b : ℕ) → IsBlocks b → IsBlocks (halved b)
blocks_halved b h = elim h [
  | inl e ↦ rw e (inl refl)
  | inr (inl e) ↦ rw e (inl refl)
  | inr (inr (inl e)) ↦ rw e (inr (inl refl))
  | inr (inr (inr (inl e))) ↦ rw e (inr (inr (inl refl)))
  | inr (inr (inr (inr e))) ↦ rw e (inr (inr (inr (inl refl))))
]

pub runs_halved : (n b : ℕ) → IsBlocks b → n % b ≡ 0 → n % 2 ≡ 0 → (n / 2) % halved b ≡ 0
runs_halved n b h r e = elim h [
  | inl q ↦ rw q (omega arith)
  | inr (inl q) ↦ rw q (omega arith)
  | inr (inr (inl q)) ↦ let s : n % 4 ≡ 0 = subst (λ k. n % k ≡ 0) q r in rw q (omega arith)
  | inr (inr (inr (inl q))) ↦ let s : n % 8 ≡ 0 = subst (λ k. n % k ≡ 0) q r in rw q (omega arith)
  | inr (inr (inr (inr q))) ↦ let s : n % 16 ≡ 0 = subst (λ k. n % k ≡ 0) q r in rw q (omega arith)
]

pub mask_joined : (b m n : ℕ) → IsBlocks b → m < 2 ^ halved b → n < 2 ^ halved b → bit_or m (n * 2 ^ (b / 2)) < 2 ^ b
mask_joined b m n h l g = elim h [
  | inl q ↦
      let s : m < 2 ^ 1 = subst (λ k. m < 2 ^ halved k) q l in
      let t : n < 2 ^ 1 = subst (λ k. n < 2 ^ halved k) q g in
      rw q (or_lt 1 m (n * 2 ^ 0) s (omega arith))
  | inr (inl q) ↦
      let s : m < 2 ^ 1 = subst (λ k. m < 2 ^ halved k) q l in
      let t : n < 2 ^ 1 = subst (λ k. n < 2 ^ halved k) q g in
      rw q (or_lt 2 m (n * 2 ^ 1) (omega arith) (omega arith))
  | inr (inr (inl q)) ↦
      let s : m < 2 ^ 2 = subst (λ k. m < 2 ^ halved k) q l in
      let t : n < 2 ^ 2 = subst (λ k. n < 2 ^ halved k) q g in
      rw q (or_lt 4 m (n * 2 ^ 2) (omega arith) (omega arith))
  | inr (inr (inr (inl q))) ↦
      let s : m < 2 ^ 4 = subst (λ k. m < 2 ^ halved k) q l in
      let t : n < 2 ^ 4 = subst (λ k. n < 2 ^ halved k) q g in
      rw q (or_lt 8 m (n * 2 ^ 4) (omega arith) (omega arith))
  | inr (inr (inr (inr q))) ↦
      let s : m < 2 ^ 8 = subst (λ k. m < 2 ^ halved k) q l in
      let t : n < 2 ^ 8 = subst (λ k. n < 2 ^ halved k) q g in
      rw q (or_lt 16 m (n * 2 ^ 8) (omega arith) (omega arith))
]

-- the source of each half
take_source : (n : ℕ) (source : List ℤ) → (length source ≡ 0) ⊎ (length source ≡ n) → (length (take (n / 2) source) ≡ 0) ⊎ (length (take (n / 2) source) ≡ n / 2)
take_source n source (inl e) = inl (omega (arith, length-take (n / 2) source))
take_source n source (inr e) = inr (omega (arith, length-take (n / 2) source))

drop_source : (n : ℕ) (source : List ℤ) → n % 2 ≡ 0 → (length source ≡ 0) ⊎ (length source ≡ n) → (length (drop (n / 2) source) ≡ 0) ⊎ (length (drop (n / 2) source) ≡ n / 2)
drop_source n source h (inl e) = inl (omega (arith, length-drop (n / 2) source))
drop_source n source h (inr e) = inr (omega (arith, length-drop (n / 2) source))

pub first_can : (n h : ℕ) (source half : List ℤ) (theta : ℤ) (w a : Wish) → CanMake n source w → n % 2 ≡ 0 → h ≡ n / 2 → half ≡ take (n / 2) source → a ≡ first_wish theta w → pos 0 ≤ℤ a.gain → a.gain ≤ℤ pos 32768 → CanMake h half a
unfolding first_wish
first_can n h source half theta w a c e q s r low high = rw q (rw s (record {
  count = omega (arith, c.count);
  source = take_source n source c.source;
  items = All-take (λ v. unsigned_abs v < 2 ^ 22) (n / 2) source c.items;
  blocks = rw r (blocks_halved w.blocks c.blocks);
  runs = rw r (runs_halved n w.blocks c.blocks c.runs e);
  gain_low = low;
  gain_high = high;
}))

pub second_can : (n h : ℕ) (source half : List ℤ) (theta : ℤ) (w a : Wish) → CanMake n source w → n % 2 ≡ 0 → h ≡ n / 2 → half ≡ drop (n / 2) source → a ≡ second_wish theta w → pos 0 ≤ℤ a.gain → a.gain ≤ℤ pos 32768 → CanMake h half a
unfolding second_wish
second_can n h source half theta w a c e q s r low high = rw q (rw s (record {
  count = omega (arith, c.count);
  source = drop_source n source e c.source;
  items = All-drop (λ v. unsigned_abs v < 2 ^ 22) (n / 2) source c.items;
  blocks = rw r (blocks_halved w.blocks c.blocks);
  runs = rw r (runs_halved n w.blocks c.blocks c.runs e);
  gain_low = low;
  gain_high = high;
}))

-- two vectors as one
pub joined_made : (b u v m n : ℕ) (first second : Shape) (xs ys : List ℤ) (s t mask : ℕ) → IsMade (halved b) first xs m s → IsMade (halved b) second ys n t → mask ≡ bit_or m (n * 2 ^ (b / 2)) → mask < 2 ^ b → v ≡ u → IsMade b (joined b first second u) (xs ++ ys) mask v
unfolding joined
joined_made b u v m n first second xs ys s t mask p q e l h = record {
  vector = ap (λ z. z ++ ys) p.vector ∙ ap (λ z. first.vector ++ z) q.vector;
  mask = e ∙ (ap (λ k. bit_or k (n * 2 ^ (b / 2))) p.mask ∙ ap (λ k. bit_or first.mask (k * 2 ^ (b / 2))) q.mask);
  seed = h;
  size = All-append (λ v. unsigned_abs v ≤ 2 ^ 17) xs ys p.size q.size;
  small = l;
}

-- what was made, said of other words for the same
pub made_as : (spread h n level seed k s : ℕ) (xs ys : List Node) (source half : List ℤ) (a w : Wish) (out : List ℤ) → h ≡ n → half ≡ source → a ≡ w → xs ≡ ys → IsMade a.blocks (part_shape spread h (read_part level xs).part half a seed) out k s → IsMade w.blocks (part_shape spread n (read_part level ys).part source w seed) out k s
made_as spread h n level seed k s xs ys source half a w out eh es ew en p = rw (sym eh) (rw (sym es) (rw (sym ew) (rw (sym en) p)))

-- which part is which
one_second : (read : List Node → Read) (cut : Cut) (ns : List Node) → cut.second_first ≡ true → (two_read read cut ns).part ≡ Split cut (read (read ns).rest).part (read ns).part
unfolding two_read
one_second read cut ns e = ap (λ b. if b then Split cut (read (read ns).rest).part (read ns).part else Split cut (read ns).part (read (read ns).rest).part) e

one_first : (read : List Node → Read) (cut : Cut) (ns : List Node) → cut.second_first ≡ false → (two_read read cut ns).part ≡ Split cut (read ns).part (read (read ns).rest).part
unfolding two_read
one_first read cut ns e = ap (λ b. if b then Split cut (read (read ns).rest).part (read ns).part else Split cut (read ns).part (read (read ns).rest).part) e

turn_second : (b : Bool) (blocks : ℕ) (first second : ℕ → Shape) (seed : ℕ) → b ≡ true → in_turn b blocks first second seed ≡ joined blocks (first (second seed).seed) (second seed) (first (second seed).seed).seed
unfolding in_turn
turn_second b blocks first second seed e = ap (λ z. in_turn z blocks first second seed) e

turn_first : (b : Bool) (blocks : ℕ) (first second : ℕ → Shape) (seed : ℕ) → b ≡ false → in_turn b blocks first second seed ≡ joined blocks (first seed) (second (first seed).seed) (second (first seed).seed).seed
unfolding in_turn
turn_first b blocks first second seed e = ap (λ z. in_turn z blocks first second seed) e

-- the second part first
pub second_made : (spread n level : ℕ) (source : List ℤ) (ns ns2 : List Node) (cut : Cut) (w : Wish) (seed s t m k mask : ℕ) (xs ys : List ℤ)
    → cut.second_first ≡ true → ns2 ≡ (read_part level ns).rest
    → IsMade (second_wish cut.theta w).blocks (part_shape spread (n / 2) (read_part level ns).part (drop (n / 2) source) (second_wish cut.theta w) seed) ys k s
    → IsMade (first_wish cut.theta w).blocks (part_shape spread (n / 2) (read_part level ns2).part (take (n / 2) source) (first_wish cut.theta w) s) xs m t
    → mask ≡ bit_or m (k * 2 ^ (w.blocks / 2)) → mask < 2 ^ w.blocks
    → IsMade w.blocks (part_shape spread n (two_read (read_part level) cut ns).part source w seed) (xs ++ ys) mask t
unfolding first_wish second_wish part_shape
second_made spread n level source ns ns2 cut w seed s t m k mask xs ys eo e p q em l =
    let one : Part = (read_part level ns).part in
    let two : Part = (read_part level (read_part level ns).rest).part in
    let first : ℕ → Shape = part_shape spread (n / 2) two (take (n / 2) source) (first_wish cut.theta w) in
    let second : ℕ → Shape = part_shape spread (n / 2) one (drop (n / 2) source) (second_wish cut.theta w) in
    let r : IsMade (halved w.blocks) (first s) xs m t = subst (λ z. IsMade (halved w.blocks) (part_shape spread (n / 2) (read_part level z).part (take (n / 2) source) (first_wish cut.theta w) s) xs m t) e q in
    let u : IsMade (halved w.blocks) (first (second seed).seed) xs m t = subst (λ z. IsMade (halved w.blocks) (first z) xs m t) p.seed r in
    let v = joined_made w.blocks (first (second seed).seed).seed t m k (first (second seed).seed) (second seed) xs ys t s mask u p em l u.seed in
    let path = ap (λ z. part_shape spread n z source w seed) (one_second (read_part level) cut ns eo) ∙ turn_second cut.second_first w.blocks first second seed eo in
    subst (λ z. IsMade w.blocks z (xs ++ ys) mask t) (sym path) v

pub first_made : (spread n level : ℕ) (source : List ℤ) (ns ns2 : List Node) (cut : Cut) (w : Wish) (seed s t m k mask : ℕ) (xs ys : List ℤ)
    → cut.second_first ≡ false → ns2 ≡ (read_part level ns).rest
    → IsMade (first_wish cut.theta w).blocks (part_shape spread (n / 2) (read_part level ns).part (take (n / 2) source) (first_wish cut.theta w) seed) xs m s
    → IsMade (second_wish cut.theta w).blocks (part_shape spread (n / 2) (read_part level ns2).part (drop (n / 2) source) (second_wish cut.theta w) s) ys k t
    → mask ≡ bit_or m (k * 2 ^ (w.blocks / 2)) → mask < 2 ^ w.blocks
    → IsMade w.blocks (part_shape spread n (two_read (read_part level) cut ns).part source w seed) (xs ++ ys) mask t
unfolding first_wish second_wish part_shape
first_made spread n level source ns ns2 cut w seed s t m k mask xs ys eo e p q em l =
    let one : Part = (read_part level ns).part in
    let two : Part = (read_part level (read_part level ns).rest).part in
    let first : ℕ → Shape = part_shape spread (n / 2) one (take (n / 2) source) (first_wish cut.theta w) in
    let second : ℕ → Shape = part_shape spread (n / 2) two (drop (n / 2) source) (second_wish cut.theta w) in
    let r : IsMade (halved w.blocks) (second s) ys k t = subst (λ z. IsMade (halved w.blocks) (part_shape spread (n / 2) (read_part level z).part (drop (n / 2) source) (second_wish cut.theta w) s) ys k t) e q in
    let u : IsMade (halved w.blocks) (second (first seed).seed) ys k t = subst (λ z. IsMade (halved w.blocks) (second z) ys k t) p.seed r in
    let v = joined_made w.blocks (second (first seed).seed).seed t m k (first seed) (second (first seed).seed) xs ys s t mask p u em l u.seed in
    let path = ap (λ z. part_shape spread n z source w seed) (one_first (read_part level) cut ns eo) ∙ turn_first cut.second_first w.blocks first second seed eo in
    subst (λ z. IsMade w.blocks z (xs ++ ys) mask t) (sym path) v

pub mask_shift : (b n : ℕ) → IsBlocks b → n < 2 ^ halved b → n * 2 ^ (b / 2) % 4294967296 ≡ n * 2 ^ (b / 2)
mask_shift b n h g = elim h [
  | inl q ↦ let t : n < 2 ^ 1 = subst (λ k. n < 2 ^ halved k) q g in rw q (omega arith)
  | inr (inl q) ↦ let t : n < 2 ^ 1 = subst (λ k. n < 2 ^ halved k) q g in rw q (omega arith)
  | inr (inr (inl q)) ↦ let t : n < 2 ^ 2 = subst (λ k. n < 2 ^ halved k) q g in rw q (omega arith)
  | inr (inr (inr (inl q))) ↦ let t : n < 2 ^ 4 = subst (λ k. n < 2 ^ halved k) q g in rw q (omega arith)
  | inr (inr (inr (inr q))) ↦ let t : n < 2 ^ 8 = subst (λ k. n < 2 ^ halved k) q g in rw q (omega arith)
]

-- a fill's bound goes with the levels
pub fill_small : (f l : ℕ) → f < 2 ^ (24 - l) → f < 1073741824
fill_small f l h = omega (arith, pow-le-pow_right {n = 2} (omega arith) {i = 24 - l} {j = 24} (omega arith))

pub fill_below : (f l : ℕ) → 1 ≤ l → l ≤ 4 → f < 2 ^ (24 - l + 1) → f < 2 ^ (24 - (l - 1))
fill_below f l m h e = let q : 24 - l + 1 ≡ 24 - (l - 1) = omega arith in subst (λ k. f < 2 ^ k) q e

pub mask_of_first : (m : ℕ) (theta : ℤ) (w a : Wish) → a ≡ first_wish theta w → m < 2 ^ a.blocks → m < 2 ^ halved w.blocks
unfolding first_wish
mask_of_first m theta w a e h = subst (λ z. m < 2 ^ z.blocks) e h

pub mask_of_second : (m : ℕ) (theta : ℤ) (w a : Wish) → a ≡ second_wish theta w → m < 2 ^ a.blocks → m < 2 ^ halved w.blocks
unfolding second_wish
mask_of_second m theta w a e h = subst (λ z. m < 2 ^ z.blocks) e h

-- what is left behind both parts
pub cut_rest : (level : ℕ) (ns rest next last : List Node) (cut : Cut) (r : Read) → r ≡ two_read (read_part level) cut rest → next ≡ (read_part level rest).rest → last ≡ (read_part level next).rest → last ≡ r.rest
unfolding two_read
cut_rest level ns rest next last cut r e f g = g ∙ (ap (λ z. (read_part level z).rest) f ∙ sym (ap (λ z. z.rest) e))

-- a leaf read
pub leaf_made : (spread n k index s m t : ℕ) (source xs : List ℤ) (w : Wish) (r : Read) {rest : List Node} → r ≡ record { part = Leaf k index; rest = rest } → IsMade w.blocks (leaf_shape spread n k index source w s) xs m t → IsMade w.blocks (part_shape spread n r.part source w s) xs m t
unfolding part_shape
leaf_made spread n k index s m t source xs w r e p = subst (λ z. IsMade w.blocks (part_shape spread n z.part source w s) xs m t) (sym e) p

pub read_made : (spread n s m t : ℕ) (source xs : List ℤ) (w : Wish) (r q : Read) → r ≡ q → IsMade w.blocks (part_shape spread n q.part source w s) xs m t → IsMade w.blocks (part_shape spread n r.part source w s) xs m t
read_made spread n s m t source xs w r q e p = subst (λ z. IsMade w.blocks (part_shape spread n z.part source w s) xs m t) (sym e) p

-- what is said of mask and state of a part that was made, of numbers that are the same
pub seed_made : (blocks : ℕ) (shape : Shape) (xs : List ℤ) (m s t : ℕ) → t ≡ s → IsMade blocks shape xs m s → IsMade blocks shape xs m t
seed_made blocks shape xs m s t e p = subst (λ z. IsMade blocks shape xs m z) (sym e) p

pub filled_made : (blocks : ℕ) (shape : Shape) (xs : List ℤ) (m n s t : ℕ) → n ≡ m → t ≡ s → IsMade blocks shape xs m s → IsMade blocks shape xs n t
filled_made blocks shape xs m n s t em es p = subst (λ z. IsMade blocks shape xs z t) (sym em) (seed_made blocks shape xs m s t es p)

-- what can be made of a source can be made of none
pub sourceless : (n : ℕ) (xs : List ℤ) (w : Wish) → CanMake n xs w → CanMake n [] w
sourceless n xs w p = record { count = p.count; source = inl refl; items = λ i d q. absurd (omega arith); blocks = p.blocks; runs = p.runs; gain_low = p.gain_low; gain_high = p.gain_high }
