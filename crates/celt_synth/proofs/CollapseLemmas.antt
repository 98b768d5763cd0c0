-- Blocks filled one after the other.
use Rattle.std.proofs.Common.{◌≡◌, ◌≢◌, ℕ, zero, suc, ◌+◌, ◌-◌, ◌*◌, ◌/◌, ◌%◌, ◌^◌, ◌<◌, ◌≤◌, min, nat_eq, nat_lt, Bool, true, false, if◌then◌else◌, refl, sym, subst, inl, inr, arith, ap, ◌∙◌, add-one, List, length}
use Rattle.std.specs.Prelude.{ℤ, pos, unsigned_abs, slice_set, All}
use Rattle.std.proofs.lemmas.Bool.{cases_lt, cases_eq}
use Rattle.std.proofs.lemmas.Bool.Decides.{nat_tests}
use Rattle.std.proofs.lemmas.Int.{ints}
use Rattle.std.proofs.lemmas.Nat.{same_from_place, mod-mul-add, div-add-mod', mod_below, div_below}
use Rattle.std.proofs.lemmas.List.{get_or-set_same, get_or-set_other, length-set}
use Rattle.fixed_math.specs.Items.{item}
use Rattle.fixed_math.specs.Rounding.{noise_after}
use Rattle.fixed_math.specs.Unit.{unit_of}
use Rattle.fixed_math.specs.Powers.{ex}
use Rattle.fixed_math.specs.Root.{root, IsRoot}
use Rattle.fixed_math.proofs.ItemLemmas.{listed_from, all_listed, item_below}
use Rattle.fixed_math.proofs.RootLemmas.{root-is, root_least}
use Rattle.spread_fold.specs.Noise.{seed_after}
use Rattle.celt_synth.specs.Collapse.{bit, empties, signed, filled_item, filled, uncollapsed, threshold, decay, level, IsFilled, IsFilling}

pub seed_more : (n seed state : ℕ) → state ≡ seed_after n seed → noise_after state ≡ seed_after (suc n) seed
unfolding seed_after
seed_more n seed state e = ap noise_after e

pub seed_none : (seed : ℕ) → seed ≡ seed_after 0 seed
unfolding seed_after
seed_none seed = refl

pub seed_behind : (m n seed : ℕ) → seed_after m (seed_after n seed) ≡ seed_after (n + m) seed
unfolding seed_after
seed_behind zero n seed = ap (λ k. seed_after k seed) (omega arith)
seed_behind (suc m) n seed =
    let e : suc (n + m) ≡ n + suc m = omega arith in
    ap noise_after (seed_behind m n seed) ∙ ap (λ k. seed_after k seed) e

-- the first n items of a block are filled, and those of all other blocks are as before
pub record BlockFilled (m k level seed : ℕ) (old new : List ℤ) (n state : ℕ) : Type 0 where
  pub count : length new ≡ length old
  pub here : (j : ℕ) → j < n → item new (j * m + k) ≡ signed level (seed_after (suc j) seed)
  pub others : (p : ℕ) → p % m ≢ k → item new p ≡ item old p
  pub stepped : state ≡ seed_after n seed

pub block_begun : (m k level seed : ℕ) (old : List ℤ) → BlockFilled m k level seed old old 0 seed
block_begun m k level seed old = record { count = refl; here = λ j l. absurd (omega arith); others = λ p h. refl; stepped = seed_none seed }

pub block_more : (m k level seed : ℕ) (old new : List ℤ) (n state next : ℕ) (v : ℤ) → k < m → n * m + k < length new → next ≡ noise_after state → v ≡ signed level next → BlockFilled m k level seed old new n state → BlockFilled m k level seed old (slice_set new (n * m + k) v) (n + 1) next
block_more m k level seed old new n state next v l inside e f r =
    let s : next ≡ seed_after (suc n) seed = e ∙ seed_more n seed state r.stepped in
    record {
      count = length-set new (n * m + k) v ∙ r.count;
      here = λ j b. elim (cases_eq j n) [
        | inl q ↦ rw q (get_or-set_same new (n * m + k) v (pos 0) inside ∙ f ∙ ap (signed level) s)
        | inr q ↦
            let ne : j * m + k ≢ n * m + k = λ g. q (same_from_place j k n k m l l g).0 in
            get_or-set_other new (n * m + k) (j * m + k) v (pos 0) ne ∙ r.here j (omega arith)
      ];
      others = λ p h.
          let ne : p ≢ n * m + k = λ g. h (ap (λ x. x % m) g ∙ mod-mul-add n m k l) in
          get_or-set_other new (n * m + k) p v (pos 0) ne ∙ r.others p h;
      stepped = rw add-one s;
    }

-- an item of an empty block, and of one that is not
item_empty : (m w mask level seed : ℕ) (xs : List ℤ) (p : ℕ) → nat_eq (bit mask (p % m)) 0 ≡ true → filled_item m w mask level seed xs p ≡ signed level (seed_after (w * empties mask (p % m) + suc (p / m)) seed)
unfolding filled_item
item_empty m w mask level seed xs p e = rw e refl

item_full : (m w mask level seed : ℕ) (xs : List ℤ) (p : ℕ) → nat_eq (bit mask (p % m)) 0 ≡ false → filled_item m w mask level seed xs p ≡ item xs p
unfolding filled_item
item_full m w mask level seed xs p e = rw e refl

empties_more : (mask n : ℕ) → nat_eq (bit mask n) 0 ≡ true → empties mask (n + 1) ≡ empties mask n + 1
unfolding empties
empties_more mask n e = rw (add-one n) (ap (λ t. empties mask n + (if t then 1 else 0)) e)

empties_same : (mask n : ℕ) → nat_eq (bit mask n) 0 ≡ false → empties mask (n + 1) ≡ empties mask n
unfolding empties
empties_same mask n e = rw (add-one n) (ap (λ t. empties mask n + (if t then 1 else 0)) e ∙ omega arith)

pub filling_begun : (m w mask level seed : ℕ) (old : List ℤ) → IsFilling m w mask level seed old old 0 seed 0
unfolding empties
filling_begun m w mask level seed old = record {
  filled = record { count = refl; done = λ p l b. absurd (omega arith); ahead = λ p b. refl };
  stepped = seed_none seed ∙ ap (λ k. seed_after k seed) (omega arith);
  counted = refl;
  few = omega arith;
}

pub filling_full : (m w mask level seed : ℕ) (old new : List ℤ) (n state count : ℕ) → nat_eq (bit mask n) 0 ≡ false → IsFilling m w mask level seed old new n state count → IsFilling m w mask level seed old new (n + 1) state count
filling_full m w mask level seed old new n state count e r =
    let same = empties_same mask n e in
    record {
      filled = record {
        count = r.filled.count;
        done = λ p l b. elim (cases_lt (p % m) n) [
          | inl below ↦ r.filled.done p l below
          | inr above ↦
              let q : p % m ≡ n = omega arith in
              r.filled.ahead p (omega arith) ∙ sym (item_full m w mask level seed old p (ap (λ k. nat_eq (bit mask k) 0) q ∙ e))
        ];
        ahead = λ p b. r.filled.ahead p (omega arith);
      };
      stepped = r.stepped ∙ ap (λ k. seed_after (w * k) seed) (sym same);
      counted = r.counted ∙ sym same;
      few = let f = r.few in omega (arith, f);
    }

pub filling_empty : (m w mask level seed : ℕ) (old new made : List ℤ) (n state count next : ℕ) → n < m → nat_eq (bit mask n) 0 ≡ true → length made ≡ length new
    → ((j : ℕ) → j < w → item made (j * m + n) ≡ signed level (seed_after (suc j) state))
    → ((p : ℕ) → p % m ≢ n → item made p ≡ item new p)
    → next ≡ seed_after w state
    → IsFilling m w mask level seed old new n state count
    → IsFilling m w mask level seed old made (n + 1) next (count + 1)
filling_empty m w mask level seed old new made n state count next l e len here others step r =
    let more = empties_more mask n e in
    let f : suc (empties mask n) ≡ empties mask n + 1 = omega arith in
    record {
      filled = record {
        count = len ∙ r.filled.count;
        done = λ p b within. elim (cases_eq (p % m) n) [
          | inl q ↦
              let j : ℕ = p / m in
              let place : j * m + n ≡ p = ap (λ k. j * m + k) (sym q) ∙ div-add-mod' p m in
              let below : j < w = div_below p m w (omega arith) (swap p b) in
              let first : item made p ≡ signed level (seed_after (suc j) state) = ap (item made) (sym place) ∙ here j below in
              let second : seed_after (suc j) state ≡ seed_after (w * empties mask n + suc j) seed = ap (seed_after (suc j)) r.stepped ∙ seed_behind (suc j) (w * empties mask n) seed in
              let third : seed_after (w * empties mask n + suc j) seed ≡ seed_after (w * empties mask (p % m) + suc j) seed = ap (λ k. seed_after (w * empties mask k + suc j) seed) (sym q) in
              first ∙ ap (signed level) (second ∙ third) ∙ sym (item_empty m w mask level seed old p (ap (λ k. nat_eq (bit mask k) 0) q ∙ e))
          | inr q ↦ others p q ∙ r.filled.done p b (omega arith)
        ];
        ahead = λ p b. let ne : p % m ≢ n = λ g. absurd (omega arith) in others p ne ∙ r.filled.ahead p (omega arith);
      };
      stepped = step ∙ ap (seed_after w) r.stepped ∙ seed_behind w (w * empties mask n) seed ∙ ap (λ k. seed_after k seed) (spread (empties mask n) (empties mask (n + 1)) more);
      counted = ap (λ k. k + 1) r.counted ∙ sym more;
      few = let g = r.few in omega (arith, g);
    }
  where
    swap : (p : ℕ) → p < m * w → p < w * m
    swap p b = omega arith

    spread : (a b : ℕ) → b ≡ a + 1 → w * a + w ≡ w * b
    spread a b q = rw q (omega arith)

pub filled_is : (m w mask level seed : ℕ) (old new : List ℤ) → 0 < m → length old ≡ m * w → IsFilled m w mask level seed old new m → new ≡ filled m w mask level seed old
filled_is m w mask level seed old new some len r =
    listed_from new (length old) (filled_item m w mask level seed old) r.count (λ p l. r.done p (omega arith) (mod_below p m some))

either_level : (t : Bool) (level : ℕ) → level < 2 ^ 24 → unsigned_abs (if t then pos level else Rattle.std.specs.Prelude.neg_ℤ (pos level)) < 2 ^ 24
either_level true level h = omega (arith, ints)
either_level false level h = omega (arith, ints)

item_small : (m w mask level seed : ℕ) (xs : List ℤ) (p : ℕ) → level < 2 ^ 24 → unsigned_abs (item xs p) < 2 ^ 20 → unsigned_abs (filled_item m w mask level seed xs p) < 2 ^ 24
item_small m w mask level seed xs p h k = by_test (nat_eq (bit mask (p % m)) 0) refl
  where
    by_test : (t : Bool) → nat_eq (bit mask (p % m)) 0 ≡ t → unsigned_abs (filled_item m w mask level seed xs p) < 2 ^ 24
    by_test true e = subst (λ z. unsigned_abs z < 2 ^ 24) (sym (item_empty m w mask level seed xs p e)) (either_level (nat_eq (seed_after (w * empties mask (p % m) + suc (p / m)) seed / 32768 % 2) 1) level h)
    by_test false e = subst (λ z. unsigned_abs z < 2 ^ 24) (sym (item_full m w mask level seed xs p e)) (omega arith)

pub filled_small : (m w mask level seed : ℕ) (old new : List ℤ) → level < 2 ^ 24 → All (λ v. unsigned_abs v < 2 ^ 20) old → new ≡ filled m w mask level seed old → All (λ v. unsigned_abs v < 2 ^ 24) new
filled_small m w mask level seed old new h s e =
    all_listed (λ v. unsigned_abs v < 2 ^ 24) new (length old) (filled_item m w mask level seed old) e (λ p l. item_small m w mask level seed old p h (item_below old (2 ^ 20) p (omega arith) s))

-- where no block is empty nothing is filled
none_empty : (mask m k : ℕ) → empties mask m ≡ 0 → k < m → nat_eq (bit mask k) 0 ≡ false
unfolding empties
none_empty mask zero k e l = absurd (omega arith)
none_empty mask (suc n) k e l = elim (cases_eq k n) [
  | inl q ↦ ap (λ j. nat_eq (bit mask j) 0) q ∙ by_test (nat_eq (bit mask n) 0) refl
  | inr q ↦ none_empty mask n k (omega (arith, e)) (smaller q)
]
  where
    by_test : (t : Bool) → nat_eq (bit mask n) 0 ≡ t → nat_eq (bit mask n) 0 ≡ false
    by_test true h =
        let f : empties mask n + 1 ≡ 0 = ap (λ b. empties mask n + (if b then 1 else 0)) (sym h) ∙ e in
        absurd (omega (arith, f))
    by_test false h = h

    smaller : (k ≡ n → ⊥) → k < n
    smaller q = omega (arith, l, q)

pub unfilled_small : (m w mask level seed : ℕ) (old new : List ℤ) → 0 < m → empties mask m ≡ 0 → All (λ v. unsigned_abs v < 2 ^ 20) old → new ≡ filled m w mask level seed old → All (λ v. unsigned_abs v < 2 ^ 20) new
unfilled_small m w mask level seed old new some none s e =
    all_listed (λ v. unsigned_abs v < 2 ^ 20) new (length old) (filled_item m w mask level seed old) e
    (λ p l. subst (λ z. unsigned_abs z < 2 ^ 20) (sym (item_full m w mask level seed old p (none_empty mask m (p % m) none (mod_below p m some)))) (item_below old (2 ^ 20) p (omega arith) s))

-- the divisor is not 0
pub root_argument : (n k : ℕ) → k ≡ n → n ≤ 176 → root (k * 1048576 % 2 ^ 128) ≡ root (n * 2 ^ 20)
root_argument n k e h = rw e (ap root (omega arith))

pub root_positive : (n r : ℕ) → 1 ≤ n → n ≤ 176 → r ≡ root (n * 2 ^ 20) → 0 < r
root_positive n r some few e =
    let i : IsRoot (n * 2 ^ 20) (root (n * 2 ^ 20)) = root-is (n * 2 ^ 20) (omega arith) in
    let a : 1 ≤ root (n * 2 ^ 20) = root_least (n * 2 ^ 20) (root (n * 2 ^ 20)) 1 i (omega arith) in
    omega (arith, a, e)

pub uncollapsed_none : (m w mask level seed : ℕ) (xs ys : List ℤ) → 0 ≡ empties mask m → ys ≡ filled m w mask level seed xs → ys ≡ uncollapsed m w mask level seed xs
unfolding uncollapsed
uncollapsed_none m w mask level seed xs ys e q = q ∙ ap (λ n. if nat_eq n 0 then filled m w mask level seed xs else unit_of (pos 32768) (filled m w mask level seed xs)) e

pub uncollapsed_some : (m w mask level seed : ℕ) (xs ys zs : List ℤ) (k : ℕ) → k ≡ empties mask m → 0 < k → ys ≡ filled m w mask level seed xs → zs ≡ unit_of (pos 32768) ys → zs ≡ uncollapsed m w mask level seed xs
unfolding uncollapsed
uncollapsed_some m w mask lev seed xs ys zs k e h q r = r ∙ ap (unit_of (pos 32768)) q ∙ by_test (nat_eq (empties mask m) 0) refl
  where
    by_test : (t : Bool) → nat_eq (empties mask m) 0 ≡ t → unit_of (pos 32768) (filled m w mask lev seed xs) ≡ (if t then filled m w mask lev seed xs else unit_of (pos 32768) (filled m w mask lev seed xs))
    by_test true f = absurd (grind (arith, nat_tests))
    by_test false f = refl

pub decay_three : (lm d r : ℕ) → lm ≡ 3 → r ≡ 2 * ex d → r * 23170 / 2 ^ 14 ≡ decay lm d
unfolding decay
decay_three lm d r e f = rw e (rw f refl)

pub decay_else : (lm d r : ℕ) → (lm ≡ 3 → ⊥) → r ≡ 2 * ex d → r ≡ decay lm d
unfolding decay
decay_else lm d r ne f = f ∙ by_test (nat_eq lm 3) refl
  where
    by_test : (t : Bool) → nat_eq lm 3 ≡ t → 2 * ex d ≡ (if t then 2 * ex d * 23170 / 2 ^ 14 else 2 * ex d)
    by_test true e = absurd (grind (arith, nat_tests))
    by_test false e = refl

pub threshold_is : (n pulses x : ℕ) → x ≡ ex (128 * ((1 + pulses) / n)) → x / 2 ≡ threshold n pulses
unfolding threshold
threshold_is n pulses x e = ap (λ k. k / 2) e

pub level_is : (lm n pulses d t r x s : ℕ) → t ≡ threshold n pulses → r ≡ decay lm d → x ≡ min t r → s ≡ root (n * 2 ^ 20) → x / 2 ^ 6 / s ≡ level lm n pulses d
unfolding level
level_is lm n pulses d t r x s e f g h = ap (λ k. k / 2 ^ 6 / s) g ∙ ap (λ k. min k r / 2 ^ 6 / s) e ∙ ap (λ k. min (threshold n pulses) k / 2 ^ 6 / s) f ∙ ap (λ k. min (threshold n pulses) (decay lm d) / 2 ^ 6 / k) h
