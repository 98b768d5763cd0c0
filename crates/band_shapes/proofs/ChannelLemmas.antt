-- A channel's changes: lengths and sizes.
use Rattle.std.proofs.Common.{◌≡◌, ◌≢◌, ◌⊎◌, inl, inr, ℕ, zero, suc, ◌+◌, ◌-◌, ◌*◌, ◌/◌, ◌%◌, ◌^◌, ◌<◌, ◌≤◌, sym, subst, arith, refl, ap, ◌∙◌, List, [], length, Bool, true, false}
use Rattle.std.specs.Prelude.{ℤ, unsigned_abs, All, nat_eq, nat_lt, if◌then◌else◌}
use Rattle.std.proofs.lemmas.Nat.{div-add-mod', mul-le, pow_pos}
use Rattle.std.proofs.Math.Nat.{pow-le-pow_right}
use Rattle.std.proofs.lemmas.Bool.{lt-ltb, le-ltb}
use Rattle.fixed_math.specs.Items.{item}
use Rattle.fixed_math.proofs.ItemLemmas.{item_within, all_listed, same_items}
use Rattle.tf_change.specs.Order.{HasRow, ordered, unordered, block_at, place_of}
use Rattle.tf_change.proofs.OrderLemmas.{length-ordered}
use Rattle.band_shapes.specs.declared.node.Wish.{Wish}
use Rattle.band_shapes.specs.declared.change.Change.{Change}
use Rattle.band_shapes.specs.Tree.{Part}
use Rattle.band_shapes.specs.Parts.{Shape, IsMade, CanMake, part_shape, has_silent}
use Rattle.band_shapes.specs.Channels.{haar_up, haar_down, fill_in, mask_back, source_in, turned_in, turned_back, vector_back, shape_back, after_change, changed_wish, channel_by, grown, IsChange, IsChannel}
use Rattle.band_shapes.proofs.SourceLemmas.{source_unread}
use Rattle.band_shapes.proofs.ChangeLemmas.{length-up, up_growth, down_growth}

-- orders keep every size
pub ordered_size : (n s m : ℕ) (hadamard : Bool) (xs : List ℤ) → All (λ v. unsigned_abs v ≤ m) xs → All (λ v. unsigned_abs v ≤ m) (ordered n s hadamard xs)
unfolding ordered
ordered_size n s m hadamard xs h =
    all_listed (λ v. unsigned_abs v ≤ m) (ordered n s hadamard xs) (length xs) (λ p. item xs (p % n * s + block_at hadamard s (p / n))) refl (λ p l. item_within xs m _ h)

pub unordered_size : (n s m : ℕ) (hadamard : Bool) (xs : List ℤ) → All (λ v. unsigned_abs v ≤ m) xs → All (λ v. unsigned_abs v ≤ m) (unordered n s hadamard xs)
unfolding unordered
unordered_size n s m hadamard xs h =
    all_listed (λ v. unsigned_abs v ≤ m) (unordered n s hadamard xs) (length xs) (λ p. item xs (place_of hadamard s (p % s) * n + p / s)) refl (λ p l. item_within xs m _ h)

-- the runs of an order
pub whole_runs : (n s : ℕ) → n % s ≡ 0 → n ≡ n / s * s
whole_runs n s h = omega (arith, div-add-mod' n s)

either_length : (b : Bool) (xs ys : List ℤ) (n : ℕ) → length xs ≡ n → length ys ≡ n → length (if b then xs else ys) ≡ n
either_length true xs ys n p q = p
either_length false xs ys n p q = q

either_size : (b : Bool) (xs ys : List ℤ) (m : ℕ) → All (λ v. unsigned_abs v ≤ m) xs → All (λ v. unsigned_abs v ≤ m) ys → All (λ v. unsigned_abs v ≤ m) (if b then xs else ys)
either_size true xs ys m p q = p
either_size false xs ys m p q = q

pub length-in : (b : ℕ) (c : Change) (xs : List ℤ) → length (turned_in b c xs) ≡ length xs
unfolding turned_in
length-in b c xs = either_length (nat_lt 1 c.blocks) (ordered (length xs / c.stride) c.stride (nat_eq b 1) xs) xs (length xs) (length-ordered (length xs / c.stride) c.stride (nat_eq b 1) xs) refl

pub length-source : (b : ℕ) (c : Change) (xs : List ℤ) → length (source_in b c xs) ≡ length xs
unfolding source_in
length-source b c xs = length-in b c (haar_up b c.down (haar_up 1 c.up xs)) ∙ (length-up b c.down (haar_up 1 c.up xs) ∙ length-up 1 c.up xs)

pub size-in : (b m : ℕ) (c : Change) (xs : List ℤ) → All (λ v. unsigned_abs v ≤ m) xs → All (λ v. unsigned_abs v ≤ m) (turned_in b c xs)
unfolding turned_in
size-in b m c xs h = either_size (nat_lt 1 c.blocks) (ordered (length xs / c.stride) c.stride (nat_eq b 1) xs) xs m (ordered_size (length xs / c.stride) c.stride m (nat_eq b 1) xs h) h

pub size-back : (b m : ℕ) (c : Change) (xs : List ℤ) → All (λ v. unsigned_abs v ≤ m) xs → All (λ v. unsigned_abs v ≤ m) (turned_back b c xs)
unfolding turned_back
size-back b m c xs h = either_size (nat_lt 1 c.blocks) (unordered (length xs / c.stride) c.stride (nat_eq b 1) xs) xs m (unordered_size (length xs / c.stride) c.stride m (nat_eq b 1) xs h) h

-- at most three steps in all
grown_joined : (a b m : ℕ) → (a ≡ 0) ⊎ (b ≡ 0) → grown a (grown b m) ≡ grown (a + b) m
unfolding grown
grown_joined a b m (inl e) = rw e (ap (λ z. grown z m) (none b))
  where
    none : (n : ℕ) → n ≡ 0 + n
    none n = omega arith
grown_joined a b m (inr e) = rw e (ap (λ z. grown z m) (none a))
  where
    none : (n : ℕ) → n ≡ n + 0
    none n = omega arith

steps_few : (a b : ℕ) → (a ≡ 0) ⊎ (b ≡ 0) → a ≤ 3 → b ≤ 3 → a + b ≤ 3
steps_few a b (inl e) l g = omega arith
steps_few a b (inr e) l g = omega arith

shape_grown : (k : ℕ) → k ≤ 3 → grown k (2 ^ 17) < 2 ^ 19
unfolding grown
shape_grown zero h = omega arith
shape_grown (suc zero) h = omega arith
shape_grown (suc (suc zero)) h = omega arith
shape_grown (suc (suc (suc zero))) h = omega arith
shape_grown (suc (suc (suc (suc k)))) h = absurd (omega arith)

source_grown : (k : ℕ) → k ≤ 3 → grown k (2 ^ 19) < 2 ^ 22
unfolding grown
source_grown zero h = omega arith
source_grown (suc zero) h = omega arith
source_grown (suc (suc zero)) h = omega arith
source_grown (suc (suc (suc zero))) h = omega arith
source_grown (suc (suc (suc (suc k)))) h = absurd (omega arith)

pub all_within : (m k : ℕ) (xs : List ℤ) → m < k → All (λ v. unsigned_abs v ≤ m) xs → All (λ v. unsigned_abs v < k) xs
all_within m k xs l h i d q = omega (arith, h i d q)

pub all_at_most : (m k : ℕ) (xs : List ℤ) → m ≤ k → All (λ v. unsigned_abs v ≤ m) xs → All (λ v. unsigned_abs v ≤ k) xs
all_at_most m k xs l h i d q = omega (arith, h i d q)

-- a shape after its steps back
pub shape_size : (n b : ℕ) (c : Change) (xs ys : List ℤ) → IsChange n b c → All (λ v. unsigned_abs v ≤ 2 ^ 17) xs → ys ≡ haar_up 1 c.up (haar_down b c.down xs) → All (λ v. unsigned_abs v < 2 ^ 19) ys
shape_size n b c xs ys h a e =
    let g : grown c.up (grown c.down (2 ^ 17)) < 2 ^ 19 = rw (grown_joined c.up c.down (2 ^ 17) h.one) (shape_grown (c.up + c.down) (steps_few c.up c.down h.one h.up h.down)) in
    let s = up_growth 1 c.up (grown c.down (2 ^ 17)) (haar_down b c.down xs) (down_growth b c.down (2 ^ 17) xs a) in
    subst (All (λ v. unsigned_abs v < 2 ^ 19)) (sym e) (all_within (grown c.up (grown c.down (2 ^ 17))) (2 ^ 19) (haar_up 1 c.up (haar_down b c.down xs)) g s)

either_zero : (a b : ℕ) → (a ≡ 0) ⊎ (b ≡ 0) → (b ≡ 0) ⊎ (a ≡ 0)
either_zero a b (inl e) = inr e
either_zero a b (inr e) = inl e

pub source_size : (n b : ℕ) (c : Change) (xs : List ℤ) → IsChange n b c → All (λ v. unsigned_abs v ≤ 2 ^ 19) xs → All (λ v. unsigned_abs v < 2 ^ 22) (source_in b c xs)
unfolding source_in
source_size n b c xs h a =
    let o = either_zero c.up c.down h.one in
    let g : grown c.down (grown c.up (2 ^ 19)) < 2 ^ 22 = rw (grown_joined c.down c.up (2 ^ 19) o) (source_grown (c.down + c.up) (steps_few c.down c.up o h.down h.up)) in
    let s = up_growth b c.down (grown c.up (2 ^ 19)) (haar_up 1 c.up xs) (up_growth 1 c.up (2 ^ 19) xs a) in
    all_within (grown c.down (grown c.up (2 ^ 19))) (2 ^ 22) (turned_in b c (haar_up b c.down (haar_up 1 c.up xs))) g (size-in b (grown c.down (grown c.up (2 ^ 19))) c (haar_up b c.down (haar_up 1 c.up xs)) s)

-- a stride with more than one block has a row
pub stride_row : (n b : ℕ) (c : Change) → IsChange n b c → 1 < c.blocks → HasRow c.stride
stride_row n b c h l = elim h.strides [
  | inl e ↦ absurd (omega (arith, h.joined, mul-le 2 1 c.blocks (2 ^ c.up) l (pow_pos c.up)))
  | inr r ↦ r
]

-- the band's order again
pub back_made : (b n blocks m s : ℕ) (c : Change) (shape : Shape) (ts xs : List ℤ) → 1 < c.blocks → IsMade blocks shape ts m s → length ts ≡ n → xs ≡ unordered (n / c.stride) c.stride (nat_eq b 1) ts → IsMade blocks (shape_back b c shape) xs m s
unfolding shape_back turned_back
back_made b n blocks m s c shape ts xs l p e f =
    let t : nat_lt 1 c.blocks ≡ true = lt-ltb 1 c.blocks l in
    let same : unordered (n / c.stride) c.stride (nat_eq b 1) ts ≡ (if nat_lt 1 c.blocks then unordered (length ts / c.stride) c.stride (nat_eq b 1) ts else ts) =
    ap (λ z. unordered (z / c.stride) c.stride (nat_eq b 1) ts) (sym e) ∙ sym (ap (λ z. if z then unordered (length ts / c.stride) c.stride (nat_eq b 1) ts else ts) t) in
    record {
      vector = f ∙ (same ∙ ap (λ v. if nat_lt 1 c.blocks then unordered (length v / c.stride) c.stride (nat_eq b 1) v else v) p.vector);
      mask = p.mask;
      seed = p.seed;
      size = subst (All (λ v. unsigned_abs v ≤ 2 ^ 17)) (sym f) (unordered_size (n / c.stride) c.stride (2 ^ 17) (nat_eq b 1) ts p.size);
      small = p.small;
    }

pub back_none : (b blocks m s : ℕ) (c : Change) (shape : Shape) (xs : List ℤ) → c.blocks ≤ 1 → IsMade blocks shape xs m s → IsMade blocks (shape_back b c shape) xs m s
unfolding shape_back turned_back
back_none b blocks m s c shape xs l p =
    let t : nat_lt 1 c.blocks ≡ false = le-ltb 1 c.blocks l in
    record {
      vector = p.vector ∙ sym (ap (λ z. if z then unordered (length shape.vector / c.stride) c.stride (nat_eq b 1) shape.vector else shape.vector) t);
      mask = p.mask;
      seed = p.seed;
      size = p.size;
      small = p.small;
    }

-- a channel made
pub channel_made : (n b m q s : ℕ) (c : Change) (shape : Shape) (ps xs : List ℤ) → IsChange n b c → IsMade c.blocks (shape_back b c shape) ps m s → xs ≡ haar_up 1 c.up (haar_down b c.down ps) → q ≡ mask_back b c m → q < 2 ^ b → IsChannel b (after_change b c shape) xs q s
unfolding shape_back after_change vector_back
channel_made n b m q s c shape ps xs h p e f l = record {
  vector = e ∙ ap (λ z. haar_up 1 c.up (haar_down b c.down z)) p.vector;
  mask = f ∙ ap (mask_back b c) p.mask;
  seed = p.seed;
  size = shape_size n b c ps xs h p.size e;
  small = l;
}

-- what the parts are to be like
pub inner_is : (b f : ℕ) (g : ℤ) (c : Change) (w : Wish) → f ≡ fill_in b c w.fill → g ≡ w.gain → record { fill = f; gain = g; blocks = c.blocks } ≡ changed_wish b c w
inner_is b f g c w e h = ap (λ z. record { fill = z; gain = g; blocks = c.blocks }) e ∙ ap (λ z. record { fill = fill_in b c w.fill; gain = z; blocks = c.blocks }) h

pub inner_can : (n : ℕ) (c : Change) (w : Wish) (xs : List ℤ) → IsChange n w.blocks c → CanMake n xs w → All (λ v. unsigned_abs v < 2 ^ 22) (source_in w.blocks c xs) → CanMake n (source_in w.blocks c xs) (changed_wish w.blocks c w)
inner_can n c w xs h k a = record {
  count = k.count;
  source = same_length (length xs) (length (source_in w.blocks c xs)) n (length-source w.blocks c xs) k.source;
  items = a;
  blocks = h.blocks;
  runs = h.parts;
  gain_low = k.gain_low;
  gain_high = k.gain_high;
}
  where
    same_length : (i j n : ℕ) → j ≡ i → (i ≡ 0) ⊎ (i ≡ n) → (j ≡ 0) ⊎ (j ≡ n)
    same_length i j n e (inl f) = inl (e ∙ f)
    same_length i j n e (inr f) = inr (e ∙ f)

pub source_none : (b : ℕ) (c : Change) (xs : List ℤ) → length xs ≡ 0 → source_in b c xs ≡ xs
source_none b c xs e = same_items (source_in b c xs) xs (length-source b c xs) (λ p l. absurd (omega (arith, length-source b c xs)))

pub fill_levels : (f l : ℕ) → l ≤ 4 → f < 2 ^ 16 → f < 2 ^ (24 - l)
fill_levels f l h g = omega (arith, pow-le-pow_right {n = 2} (omega arith) {i = 16} {j = 24 - l} (omega arith))

-- the source of a channel, in the order of its parts
pub source_ordered : (b : ℕ) (c : Change) (xs ys : List ℤ) (n : ℕ) → 1 < c.blocks → length (haar_up b c.down (haar_up 1 c.up xs)) ≡ n → ys ≡ ordered (n / c.stride) c.stride (nat_eq b 1) (haar_up b c.down (haar_up 1 c.up xs)) → ys ≡ source_in b c xs
unfolding source_in turned_in
source_ordered b c xs ys n l e f =
    let zs : List ℤ = haar_up b c.down (haar_up 1 c.up xs) in
    let t : nat_lt 1 c.blocks ≡ true = lt-ltb 1 c.blocks l in
    f ∙ (ap (λ z. ordered (z / c.stride) c.stride (nat_eq b 1) zs) (sym e) ∙ sym (ap (λ z. if z then ordered (length zs / c.stride) c.stride (nat_eq b 1) zs else zs) t))

pub source_plain : (b : ℕ) (c : Change) (xs ys : List ℤ) → c.blocks ≤ 1 → ys ≡ haar_up b c.down (haar_up 1 c.up xs) → ys ≡ source_in b c xs
unfolding source_in turned_in
source_plain b c xs ys l f =
    let zs : List ℤ = haar_up b c.down (haar_up 1 c.up xs) in
    let t : nat_lt 1 c.blocks ≡ false = le-ltb 1 c.blocks l in
    f ∙ sym (ap (λ z. if z then ordered (length zs / c.stride) c.stride (nat_eq b 1) zs else zs) t)

pub times_one : (n : ℕ) → n ≡ n * 1
times_one n = omega arith

pub up_bound : (s k : ℕ) (xs ys : List ℤ) → k ≤ 3 → ys ≡ haar_up s k xs → All (λ v. unsigned_abs v ≤ 2 ^ 19) xs → All (λ v. unsigned_abs v ≤ 2 ^ 30) ys
up_bound s k xs ys l e a = subst (All (λ v. unsigned_abs v ≤ 2 ^ 30)) (sym e) (all_at_most (grown k (2 ^ 19)) (2 ^ 30) (haar_up s k xs) (omega (arith, source_grown k l)) (up_growth s k (2 ^ 19) xs a))

pub down_bound : (s k : ℕ) (xs ys : List ℤ) → k ≤ 3 → ys ≡ haar_down s k xs → All (λ v. unsigned_abs v ≤ 2 ^ 17) xs → All (λ v. unsigned_abs v ≤ 2 ^ 30) ys
down_bound s k xs ys l e a = subst (All (λ v. unsigned_abs v ≤ 2 ^ 30)) (sym e) (all_at_most (grown k (2 ^ 17)) (2 ^ 30) (haar_down s k xs) (omega (arith, shape_grown k l)) (down_growth s k (2 ^ 17) xs a))

pub change_as : (n k b : ℕ) (c : Change) → k ≡ n → IsChange n b c → IsChange k b c
change_as n k b c e h = rw e h

pub all_as : (m : ℕ) (xs ys : List ℤ) → ys ≡ xs → All (λ v. unsigned_abs v ≤ m) xs → All (λ v. unsigned_abs v ≤ m) ys
all_as m xs ys e a = subst (All (λ v. unsigned_abs v ≤ m)) (sym e) a

pub channel_as : (spread n m t seed : ℕ) (part : Part) (xs ys : List ℤ) (w : Wish) (c : Change) (out : List ℤ) → ys ≡ source_in w.blocks c xs → IsChannel w.blocks (after_change w.blocks c (part_shape spread n part ys (changed_wish w.blocks c w) seed)) out m t → IsChannel w.blocks (channel_by spread n part xs w c seed) out m t
unfolding channel_by
channel_as spread n m t seed part xs ys w c out e p = subst (λ z. IsChannel w.blocks (after_change w.blocks c (part_shape spread n part z (changed_wish w.blocks c w) seed)) out m t) e p

pub source_whole : (i n : ℕ) → (i ≡ 0) ⊎ (i ≡ n) → i ≢ 0 → i ≡ n
source_whole i n (inl e) h = absurd (h e)
source_whole i n (inr e) h = e

pub none_can : (n : ℕ) (c : Change) (w : Wish) {xs : List ℤ} → IsChange n w.blocks c → CanMake n xs w → CanMake n [] (changed_wish w.blocks c w)
none_can n c w h k = record {
  count = k.count;
  source = inl refl;
  items = λ i d q. absurd (omega arith);
  blocks = h.blocks;
  runs = h.parts;
  gain_low = k.gain_low;
  gain_high = k.gain_high;
}

-- without silent leaves no source serves as well
pub channel_without : (spread n m t seed : ℕ) (part : Part) (xs : List ℤ) (w : Wish) (c : Change) (out : List ℤ) → has_silent part ≡ false → IsChannel w.blocks (after_change w.blocks c (part_shape spread n part [] (changed_wish w.blocks c w) seed)) out m t → IsChannel w.blocks (channel_by spread n part xs w c seed) out m t
unfolding channel_by
channel_without spread n m t seed part xs w c out e p =
    subst (λ z. IsChannel w.blocks (after_change w.blocks c z) out m t) (source_unread spread n part [] (source_in w.blocks c xs) (changed_wish w.blocks c w) seed e) p
