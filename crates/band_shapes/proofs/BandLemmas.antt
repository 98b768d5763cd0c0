-- One band in the buffers of a frame.
use Rattle.std.proofs.Common.{◌≡◌, ◌⊎◌, ℕ, zero, suc, ◌+◌, ◌^◌, ◌<◌, ◌≤◌, sym, subst, arith, refl, ap, ◌∙◌, List, [], ◌∷◌, ◌++◌, length, take, drop, get_or, Bool, true, false}
use Rattle.std.specs.Prelude.{ℤ, pos, ◌+ℤ◌, unsigned_abs, All, replicate, slice_set, if◌then◌else◌}
use Rattle.std.specs.Int.{int_shr}
use Rattle.band_shapes.specs.declared.bands.Lines.{Lines}
use Rattle.band_shapes.specs.declared.node.Fills.{Fills}
use Rattle.band_shapes.specs.declared.node.Layout.{Layout}
use Rattle.band_shapes.specs.declared.node.MadePair.{MadePair}
use Rattle.band_shapes.specs.declared.plans.Span.{Span}
use Rattle.band_shapes.specs.Bands.{Pair, pair_shape, CanTake, IsPair}
use Rattle.band_shapes.specs.Forms.{Form}
use Rattle.band_shapes.specs.Channels.{copied}
use Rattle.band_shapes.specs.Frames.{source_at, means, norm_joined, right_copy, CanBand, IsBandMade}
use Rattle.band_shapes.proofs.PlanLemmas.{front_two, source_length, source_small}
use Rattle.band_shapes.proofs.PairLemmas.{zeros_most}

-- the source of a channel, of the copies before the band
pub band_take : (e : Layout) (p : Span) (fills : Fills) (l : Lines) (before xs : List ℤ) (fill : ℕ) → CanBand e p fills l → length before ≡ p.start → All (λ v. unsigned_abs v ≤ 2 ^ 19) before → fill < 2 ^ e.blocks
    → xs ≡ source_at p before → CanTake e xs fill
band_take e p fills l before xs fill h len small f q =
    let n = h.count_is in
    let s : (length (source_at p before) ≡ 0) ⊎ (length (source_at p before) ≡ p.count) = source_length p before (λ t. let b = h.source t in omega (arith, b, len)) in
    record {
      count = h.count;
      length_is = subst (λ z. (length z ≡ 0) ⊎ (length z ≡ e.count)) (sym q) (subst (λ k. (length (source_at p before) ≡ 0) ⊎ (length (source_at p before) ≡ k)) n s);
      source = subst (All (λ v. unsigned_abs v ≤ 2 ^ 19)) (sym q) (source_small p (2 ^ 19) before small);
      change = h.change;
      spread = h.spread;
      level = h.level;
      fill_size = f;
    }

pub pair_as : (e : Layout) (invert : Bool) (xs ys ks bs : List ℤ) (fills : Fills) (form : Form) (seed : ℕ) (ls rs cs : List ℤ) (m : MadePair) → xs ≡ ks → ys ≡ bs → IsPair e (pair_shape e invert xs ys fills form seed) ls rs cs m → IsPair e (pair_shape e invert ks bs fills form seed) ls rs cs m
pair_as e invert xs ys ks bs fills form seed ls rs cs m p q h = subst (λ z. IsPair e (pair_shape e invert ks z fills form seed) ls rs cs m) q (subst (λ z. IsPair e (pair_shape e invert z ys fills form seed) ls rs cs m) p h)

-- what the four writes leave
pub band_is : (e : Layout) (b : Pair) (p : Span) (old new : Lines) (m : MadePair) (xs ys zs : List ℤ) → p.count ≡ e.count → (e.own ≡ true → e.two ≡ true)
    → IsPair e b (take e.count xs) (take e.count ys) (take e.count zs) m
    → take (p.start + p.count) new.left ≡ take p.start old.left ++ take p.count xs
    → take (p.start + p.count) new.right ≡ take p.start old.right ++ take p.count ys
    → take (p.start + p.count) new.left_norm ≡ take p.start old.left_norm ++ copied (take p.count zs)
    → take (p.start + p.count) new.right_norm ≡ take p.start old.right_norm ++ right_copy e.own p.count (take p.count ys)
    → All (λ v. unsigned_abs v ≤ 2 ^ 19) (copied (take p.count zs))
    → All (λ v. unsigned_abs v ≤ 2 ^ 19) (right_copy e.own p.count (take p.count ys))
    → IsBandMade e b p old new m
band_is e b p old new m xs ys zs n own h el er en eo sn so =
    let el' : take p.count xs ≡ b.left = ap (λ k. take k xs) n ∙ h.left in
    let er' : take p.count ys ≡ b.right = ap (λ k. take k ys) n ∙ h.right in
    let en' : copied (take p.count zs) ≡ copied b.copy = ap copied (ap (λ k. take k zs) n ∙ h.copy) in
    let eo' : right_copy e.own p.count (take p.count ys) ≡ right_copy e.own e.count b.right = ap (right_copy e.own p.count) er' ∙ ap (λ k. right_copy e.own k b.right) n in
    record {
      left = el ∙ ap (λ z. take p.start old.left ++ z) el';
      right = er ∙ ap (λ z. take p.start old.right ++ z) er';
      left_norm = en ∙ ap (λ z. take p.start old.left_norm ++ z) en';
      right_norm = eo ∙ ap (λ z. take p.start old.right_norm ++ z) eo';
      left_mask = h.left_mask;
      right_mask = h.right_mask;
      seed = h.seed;
      left_size = subst (All (λ v. unsigned_abs v < 2 ^ 20)) h.left h.left_size;
      right_size = subst (All (λ v. unsigned_abs v < 2 ^ 20)) h.right h.right_size;
      left_copy = subst (All (λ v. unsigned_abs v ≤ 2 ^ 19)) en' sn;
      right_copied = subst (All (λ v. unsigned_abs v ≤ 2 ^ 19)) eo' so;
      left_small = h.left_small;
      right_small = h.right_small;
    }

pub copy_small : (e : Layout) (b : Pair) (p : Span) (m : MadePair) (xs ys zs : List ℤ) → p.count ≡ e.count → IsPair e b (take e.count xs) (take e.count ys) (take e.count zs) m → All (λ v. unsigned_abs v < 2 ^ 19) (take p.count zs)
copy_small e b p m xs ys zs n h = subst (λ k. All (λ v. unsigned_abs v < 2 ^ 19) (take k zs)) (sym n) h.copy_size

pub right_small : (e : Layout) (b : Pair) (p : Span) (m : MadePair) (xs ys zs : List ℤ) → p.count ≡ e.count → (e.own ≡ true → e.two ≡ true) → IsPair e b (take e.count xs) (take e.count ys) (take e.count zs) m
    → e.own ≡ true → All (λ v. unsigned_abs v < 2 ^ 19) (take p.count ys)
right_small e b p m xs ys zs n own h t = subst (λ k. All (λ v. unsigned_abs v < 2 ^ 19) (take k ys)) (sym n) (h.right_apart (own t))

-- a list in the middle of a longer one
pub put_made : (s n : ℕ) (old front here behind items : List ℤ) → front ≡ take s old → length front ≡ s → length here ≡ n → here ≡ items → take (s + n) (front ++ (here ++ behind)) ≡ take s old ++ items
put_made s n old front here behind items ef lf lh e =
    front_two s n front here behind lf lh ∙ (ap (λ z. z ++ here) ef ∙ ap (λ z. take s old ++ z) e)

pub own_copy : (own : Bool) (n : ℕ) (xs : List ℤ) → own ≡ true → copied xs ≡ right_copy own n xs
unfolding right_copy
own_copy own n xs h = sym (ap (λ b. if b then copied xs else replicate n (pos 0)) h)

pub no_copy : (own : Bool) (n : ℕ) (xs : List ℤ) → own ≡ false → replicate n (pos 0) ≡ right_copy own n xs
unfolding right_copy
no_copy own n xs h = sym (ap (λ b. if b then copied xs else replicate n (pos 0)) h)

pub none_size : (own : Bool) (n : ℕ) (xs : List ℤ) → own ≡ false → All (λ v. unsigned_abs v ≤ 2 ^ 19) (right_copy own n xs)
none_size own n xs h = subst (All (λ v. unsigned_abs v ≤ 2 ^ 19)) (no_copy own n xs h) (zeros_most n (2 ^ 19))

-- the means of two lists, written over the first
pub means_over : (i : ℕ) (xs ys : List ℤ) (a b : ℤ) → length xs ≡ length ys → i < length xs → a ≡ get_or xs i (pos 0) → b ≡ get_or ys i (pos 0)
    → slice_set (means (take i xs) (take i ys) ++ drop i xs) i (int_shr (a +ℤ b) 1) ≡ means (take (suc i) xs) (take (suc i) ys) ++ drop (suc i) xs
unfolding means
means_over i [] ys a b e l ea eb = absurd (omega (arith, l))
means_over i (x ∷ xs) [] a b e l ea eb = absurd (omega (arith, e))
means_over zero (x ∷ xs) (y ∷ ys) a b e l ea eb = rw ea (rw eb refl)
means_over (suc i) (x ∷ xs) (y ∷ ys) a b e l ea eb =
    ap (λ z. int_shr (x +ℤ y) 1 ∷ z) (means_over i xs ys a b (omega (arith, e)) (omega (arith, l)) ea eb)

pub means_all : (xs ys : List ℤ) (n : ℕ) → length xs ≡ length ys → length xs ≤ n → means (take n xs) (take n ys) ++ drop n xs ≡ means xs ys
unfolding means
means_all [] ys zero e l = refl
means_all [] ys (suc n) e l = refl
means_all (x ∷ xs) [] n e l = absurd (omega (arith, e))
means_all (x ∷ xs) (y ∷ ys) zero e l = absurd (omega (arith, l))
means_all (x ∷ xs) (y ∷ ys) (suc n) e l = ap (λ z. int_shr (x +ℤ y) 1 ∷ z) (means_all xs ys n (omega (arith, e)) (omega (arith, l)))

pub length-means : (xs ys : List ℤ) → length xs ≡ length ys → length (means xs ys) ≡ length xs
unfolding means
length-means [] ys e = refl
length-means (x ∷ xs) [] e = absurd (omega (arith, e))
length-means (x ∷ xs) (y ∷ ys) e = let h = length-means xs ys (omega (arith, e)) in omega (arith, h)

pub joined_yes : (now : Bool) (xs ys : List ℤ) → now ≡ true → means xs ys ≡ norm_joined now xs ys
unfolding norm_joined
joined_yes now xs ys h = sym (ap (λ b. if b then means xs ys else xs) h)

pub joined_no : (now : Bool) (xs ys : List ℤ) → now ≡ false → xs ≡ norm_joined now xs ys
unfolding norm_joined
joined_no now xs ys h = sym (ap (λ b. if b then means xs ys else xs) h)

pub means_by : (xs ys ks bs : List ℤ) → xs ≡ ks → ys ≡ bs → means xs ys ≡ means ks bs
means_by xs ys ks bs e f = rw e (rw f refl)

-- what stands at the place of the next mean
means_next : (i : ℕ) (xs ys : List ℤ) (d : ℤ) → length xs ≡ length ys → i < length xs → get_or (means (take i xs) (take i ys) ++ drop i xs) i d ≡ get_or xs i d
unfolding means
means_next i [] ys d e l = absurd (omega (arith, l))
means_next i (x ∷ xs) [] d e l = absurd (omega (arith, e))
means_next zero (x ∷ xs) (y ∷ ys) d e l = refl
means_next (suc i) (x ∷ xs) (y ∷ ys) d e l = means_next i xs ys d (omega (arith, e)) (omega (arith, l))

pub means_step : (i : ℕ) (xs ys zs : List ℤ) (v : ℤ) → length xs ≡ length ys → i < length xs → zs ≡ means (take i xs) (take i ys) ++ drop i xs → v ≡ int_shr (get_or zs i (pos 0) +ℤ get_or ys i (pos 0)) 1
    → slice_set zs i v ≡ means (take (i + 1) xs) (take (i + 1) ys) ++ drop (i + 1) xs
means_step i xs ys zs v e l ez ev =
    let a : get_or zs i (pos 0) ≡ get_or xs i (pos 0) = ap (λ z. get_or z i (pos 0)) ez ∙ means_next i xs ys (pos 0) e l in
    let next : suc i ≡ i + 1 = omega arith in
    ap (λ z. slice_set z i v) ez
    ∙ (ap (slice_set (means (take i xs) (take i ys) ++ drop i xs) i) ev
    ∙ (means_over i xs ys (get_or zs i (pos 0)) (get_or ys i (pos 0)) e l a refl
    ∙ ap (λ k. means (take k xs) (take k ys) ++ drop k xs) next))

pub means_start : (xs ys : List ℤ) → xs ≡ means (take 0 xs) (take 0 ys) ++ drop 0 xs
unfolding means
means_start xs ys = refl
