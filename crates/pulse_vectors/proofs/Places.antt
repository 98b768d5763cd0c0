-- Where a vector stands in the list of all vectors: the block of its first number, and the place
-- of the rest in that block.
use Rattle.std.proofs.Common.{zero-add, get_or, ◌≡◌, ℕ, zero, suc, ◌+◌, ◌-◌, ◌<◌, ◌≤◌, inl, inr, List, [], ◌∷◌, ◌++◌, map, length, refl, ◌∙◌, ap, subst, arith, length-append}
use Rattle.std.specs.Prelude.{ℤ, pos, negsuc, unsigned_abs, slice_get}
use Rattle.std.specs.declared.option.Option.TheVariants.{Some}
use Rattle.std.specs.List.{flat_map, Contains}
use Rattle.std.proofs.lemmas.Option.{slice_get-map, slice_get_within, slice_get-get_or, get_or_from_slice_get}
use Rattle.std.proofs.lemmas.Bool.{cases_lt}
use Rattle.std.proofs.lemmas.Grind.{flat_map-append}
use Rattle.std.proofs.lemmas.List.{length-map}
use Rattle.std.proofs.lemmas.List.Sums.{sum_by-cons}
use Rattle.std.proofs.Math.Nat.{eq-or-lt_of_le}
use Rattle.pulse_vectors.specs.Rows.{count_below, stand_before, rank_of}
use Rattle.pulse_vectors.specs.Vectors.{pulse_sum, minus, down_from, vectors, count_of}

-- Lists by place.

get_front : {A : Type 0} (xs ys : List A) (i : ℕ) (v : A) → slice_get xs i ≡ Some v → slice_get (xs ++ ys) i ≡ Some v
get_front [] ys i v e = cc
get_front (x ∷ xs) ys zero v e = e
get_front (x ∷ xs) ys (suc i) v e = get_front xs ys i v e

get_behind : {A : Type 0} (xs ys : List A) (i : ℕ) → slice_get (xs ++ ys) (length xs + i) ≡ slice_get ys i
get_behind [] ys i = rw (zero-add i) refl
get_behind (x ∷ xs) ys i = let e : suc (length xs) + i ≡ suc (length xs + i) = omega arith in rw e (get_behind xs ys i)

-- The vectors that begin with x.
abbrev pub block : ℕ → ℕ → ℤ → List (List ℤ)
block n k x = map (λ rest. x ∷ rest) (vectors n (k - unsigned_abs x))

-- A first number of each size.
pub record HasSizes (f : ℕ → ℤ) : Type 0 where
  pub size : (m : ℕ) → unsigned_abs (f m) ≡ m

pos_sizes : HasSizes pos
pos_sizes = record { size = λ m. refl }

pub minus_size : (m : ℕ) → unsigned_abs (minus m) ≡ m
minus_size zero = refl
minus_size (suc m) = refl

minus_sizes : HasSizes minus
minus_sizes = record { size = minus_size }

block-get : (f : ℕ → ℤ) → HasSizes f → (n k c t r : ℕ) (rest : List ℤ) → c + t ≡ k
    → slice_get (vectors n t) r ≡ Some rest → slice_get (block n k (f c)) r ≡ Some (f c ∷ rest)
block-get f h n k c t r rest e g =
    let s : k - unsigned_abs (f c) ≡ t = omega (arith, h.size c) in
    rw s (rw (slice_get-map (λ q. f c ∷ q) (vectors n t) r) (rw g refl))

length-block : (f : ℕ → ℤ) → HasSizes f → (n k c t : ℕ) → c + t ≡ k → length (block n k (f c)) ≡ count_of n t
unfolding count_of
length-block f h n k c t e =
    let s : k - unsigned_abs (f c) ≡ t = omega (arith, h.size c) in
    rw s (simp length-map)

pub below-suc : (n t : ℕ) → count_below n (suc t) ≡ count_below n t + count_of n t
unfolding count_below
below-suc n t = refl

pub below_rises : (n d t : ℕ) → d ≤ t → count_below n d ≤ count_below n t
below_rises n d zero h = let e : d ≡ 0 = omega arith in rw e (omega arith)
below_rises n d (suc t) h = elim (cases_lt t d) [
  | inl below ↦ let e : d ≡ suc t = omega arith in rw e (omega arith)
  | inr within ↦ omega (arith, below-suc n t, below_rises n d t within)
]

-- The blocks of f m, .., f 1 are as long as the counts of the rests.
length-run : (f : ℕ → ℤ) → HasSizes f → (n k m d : ℕ) → m + d ≡ k
    → length (flat_map (block n k) (down_from f m)) + count_below n d ≡ count_below n k
length-run f h n k zero d e = let s : d ≡ k = omega arith in rw s (omega arith)
length-run f h n k (suc m) d e =
    omega (arith, length-append (block n k (f (suc m))) (flat_map (block n k) (down_from f m)), length-block f h n k (suc m) d e, length-run f h n k m (suc d) (omega arith), below-suc n d)

-- The vector f c ∷ rest stands behind the blocks of f m, .., f (c + 1).
run-get : (f : ℕ → ℤ) → HasSizes f → (n k m d c t r p : ℕ) (rest : List ℤ) → m + d ≡ k → c + t ≡ k → 0 < c → c ≤ m
    → p + count_below n d ≡ count_below n t + r → slice_get (vectors n t) r ≡ Some rest
    → slice_get (flat_map (block n k) (down_from f m)) p ≡ Some (f c ∷ rest)
run-get f h n k zero d c t r p rest e1 e2 h1 h2 e3 g = absurd (omega arith)
run-get f h n k (suc m) d c t r p rest e1 e2 h1 h2 e3 g = elim (eq-or-lt_of_le h2) [
  | inl same ↦
      let s : d ≡ t = omega arith in
      let q : p ≡ r = let e3' = rw s at e3 in omega arith in
      rw (q, ← same) (get_front (block n k (f c)) _ r (f c ∷ rest) (block-get f h n k c t r rest e2 g))
  | inr below ↦
      let up : count_below n (suc d) ≤ count_below n t = below_rises n (suc d) t (omega arith) in
      let q : p ≡ length (block n k (f (suc m))) + (p - count_of n d) = omega (arith, below-suc n d, length-block f h n k (suc m) d e1) in
      rw q (get_behind (block n k (f (suc m))) _ (p - count_of n d)
      ∙ run-get f h n k m (suc d) c t r (p - count_of n d) rest (omega arith) e2 h1 (omega arith) (omega (arith, below-suc n d)) g)
]

-- A place in the blocks of f m, .., f 1: it is the r-th of the block of f c.
pub record Spot (n k m d p : ℕ) : Type 0 where
  pub c : ℕ
  pub t : ℕ
  pub r : ℕ
  pub whole : c + t ≡ k
  pub above : 0 < c
  pub within : c ≤ m
  pub place : p + count_below n d ≡ count_below n t + r
  pub inside : r < count_of n t

spot : (f : ℕ → ℤ) → HasSizes f → (n k m d p : ℕ) → m + d ≡ k → p + count_below n d < count_below n k → Spot n k m d p
spot f h n k zero d p e b = let s : d ≡ k = omega arith in let b' = rw s at b in absurd (omega arith)
spot f h n k (suc m) d p e b = elim (cases_lt p (count_of n d)) [
  | inl first ↦ record { c = suc m; t = d; r = p; whole = e; above = omega arith; within = omega arith; place = omega arith; inside = first }
  | inr later ↦
      let s : Spot n k m (suc d) (p - count_of n d) = spot f h n k m (suc d) (p - count_of n d) (omega arith) (omega (arith, below-suc n d)) in
      record { c = s.c; t = s.t; r = s.r; whole = s.whole; above = s.above; within = omega (arith, s.within); place = omega (arith, s.place, below-suc n d); inside = s.inside }
]

-- The three parts of the list: the first number is positive, zero, negative.
vectors-parts : (n k : ℕ) → vectors (suc n) k ≡ flat_map (block n k) (down_from pos k) ++ (block n k (pos 0) ++ flat_map (block n k) (down_from minus k))
unfolding vectors
vectors-parts n k = flat_map-append (block n k) (down_from pos k) (pos 0 ∷ down_from minus k)

length-side : (f : ℕ → ℤ) → HasSizes f → (n k : ℕ) → length (flat_map (block n k) (down_from f k)) ≡ count_below n k
unfolding count_below
length-side f h n k = omega (arith, length-run f h n k k 0 (omega arith))

pub count-suc : (n k : ℕ) → count_of (suc n) k ≡ count_below n k + (count_of n k + count_below n k)
unfolding count_of
count-suc n k = rw (vectors-parts n k)
    (length-append (flat_map (block n k) (down_from pos k)) _
    ∙ omega (arith, length-append (block n k (pos 0)) (flat_map (block n k) (down_from minus k)), length-side pos pos_sizes n k, length-side minus minus_sizes n k, length-block pos pos_sizes n k 0 k (omega arith)))

-- The vectors whose first number is c ≥ 0 stand behind those with fewer pulses in the rest.
pub front_place : (n k c t r : ℕ) (rest : List ℤ) → c + t ≡ k → slice_get (vectors n t) r ≡ Some rest
    → slice_get (vectors (suc n) k) (count_below n t + r) ≡ Some (pos c ∷ rest)
unfolding count_below
front_place n k zero t r rest e g =
    let s : t ≡ k = omega arith in
    let q : count_below n t + r ≡ length (flat_map (block n k) (down_from pos k)) + r = rw s (omega (arith, length-side pos pos_sizes n k)) in
    rw (vectors-parts n k, q) (get_behind (flat_map (block n k) (down_from pos k)) _ r
    ∙ get_front (block n k (pos 0)) _ r (pos 0 ∷ rest) (block-get pos pos_sizes n k 0 t r rest e g))
front_place n k (suc c) t r rest e g = rw (vectors-parts n k)
    (get_front (flat_map (block n k) (down_from pos k)) _ (count_below n t + r) (pos (suc c) ∷ rest)
    (run-get pos pos_sizes n k k 0 (suc c) t r (count_below n t + r) rest (omega arith) e (omega arith) (omega arith) (omega arith) g))

-- Those whose first number is -c, c > 0, stand behind all of those.
pub back_place : (n k c t r : ℕ) (rest : List ℤ) → c + t ≡ k → 0 < c → slice_get (vectors n t) r ≡ Some rest
    → slice_get (vectors (suc n) k) (count_below n (suc k) + (count_below n t + r)) ≡ Some (minus c ∷ rest)
unfolding count_below
back_place n k c t r rest e h g =
    let q : count_below n (suc k) + (count_below n t + r) ≡ length (flat_map (block n k) (down_from pos k)) + (length (block n k (pos 0)) + (count_below n t + r))
    = omega (arith, length-side pos pos_sizes n k, length-block pos pos_sizes n k 0 k (omega arith), below-suc n k) in
    rw (vectors-parts n k, q) (get_behind (flat_map (block n k) (down_from pos k)) _ _
    ∙ (get_behind (block n k (pos 0)) _ _
    ∙ run-get minus minus_sizes n k k 0 c t r (count_below n t + r) rest (omega arith) e h (omega arith) (omega arith) g))

pub pulse_sum-cons : (x : ℤ) (rest : List ℤ) → pulse_sum (x ∷ rest) ≡ unsigned_abs x + pulse_sum rest
unfolding pulse_sum
pulse_sum-cons x rest = sum_by-cons unsigned_abs x rest

placed : (n t r : ℕ) (rest : List ℤ) → slice_get (vectors n t) r ≡ Some rest
    → (x : ℤ) → slice_get (vectors (suc n) (unsigned_abs x + t)) (stand_before n t x + r) ≡ Some (x ∷ rest)
unfolding stand_before
placed n t r rest g (pos c) = front_place n (c + t) c t r rest refl g
placed n t r rest g (negsuc c) =
    let q : count_below n (suc (suc c + t)) + count_below n t + r ≡ count_below n (suc (suc c + t)) + (count_below n t + r) = omega arith in
    rw q (back_place n (suc c + t) (suc c) t r rest refl (omega arith) g)

-- Every vector stands at its place.
pub place-get : (y : List ℤ) → slice_get (vectors (length y) (pulse_sum y)) (rank_of y) ≡ Some y
unfolding vectors pulse_sum rank_of
place-get [] = refl
place-get (x ∷ rest) = rw (pulse_sum-cons x rest) (placed (length rest) (pulse_sum rest) (rank_of rest) rest (place-get rest) x)

-- What is known of a vector that stands at place i of the list.
pub record Stands (n k i : ℕ) (y : List ℤ) : Type 0 where
  pub long : length y ≡ n
  pub full : pulse_sum y ≡ k
  pub at : i ≡ rank_of y

-- A place among all vectors of n + 1 numbers, by the sign of the first number.
pub data Found (n k i : ℕ) : Type 0 where
  Front : (c t r : ℕ) → c + t ≡ k → i ≡ count_below n t + r → r < count_of n t → Found n k i
  Back : (c t r : ℕ) → c + t ≡ k → 0 < c → i ≡ count_below n (suc k) + (count_below n t + r) → r < count_of n t → Found n k i

pub below-zero : (n : ℕ) → count_below n 0 ≡ 0
unfolding count_below
below-zero n = refl

found : (n k i : ℕ) → i < count_of (suc n) k → Found n k i
found n k i h = elim (cases_lt i (count_below n k)) [
  | inl front ↦
      let s : Spot n k k 0 i = spot pos pos_sizes n k k 0 i (omega arith) (omega (arith, below-zero n)) in
      Front s.c s.t s.r s.whole (omega (arith, s.place, below-zero n)) s.inside
  | inr behind ↦ elim (cases_lt i (count_below n (suc k))) [
    | inl middle ↦ Front 0 k (i - count_below n k) (omega arith) (omega arith) (omega (arith, below-suc n k))
    | inr back ↦
        let s : Spot n k k 0 (i - count_below n (suc k)) = spot minus minus_sizes n k k 0 (i - count_below n (suc k)) (omega arith) (omega (arith, below-zero n, below-suc n k, count-suc n k)) in
        Back s.c s.t s.r s.whole s.above (omega (arith, s.place, below-zero n)) s.inside
  ]
]

get_within : (n k i : ℕ) → i < count_of n k → (y : List ℤ) × (slice_get (vectors n k) i ≡ Some y)
unfolding count_of
get_within n k i h = (get_or (vectors n k) i [], slice_get-get_or (vectors n k) i [] h)

pub within_count : (n k i : ℕ) (y : List ℤ) → slice_get (vectors n k) i ≡ Some y → i < count_of n k
unfolding count_of
within_count n k i y g = slice_get_within (vectors n k) i y g

front_stands : (n k i c t r : ℕ) (rest : List ℤ) → c + t ≡ k → i ≡ count_below n t + r → Stands n t r rest
    → Stands (suc n) k i (pos c ∷ rest)
unfolding rank_of stand_before
front_stands n k i c t r rest e q s =
    let l : length rest ≡ n = s.long in
    let f : pulse_sum rest ≡ t = s.full in
    record { long = omega arith; full = omega (arith, pulse_sum-cons (pos c) rest); at = rw (l, f) (omega (arith, s.at)) }

back_stands : (n k i c t r : ℕ) (rest : List ℤ) → c + t ≡ k → 0 < c → i ≡ count_below n (suc k) + (count_below n t + r) → Stands n t r rest
    → Stands (suc n) k i (minus c ∷ rest)
unfolding rank_of stand_before
back_stands n k i zero t r rest e h q s = absurd (omega arith)
back_stands n k i (suc c) t r rest e h q s =
    let l : length rest ≡ n = s.long in
    let f : pulse_sum rest ≡ t = s.full in
    record { long = omega arith; full = omega (arith, pulse_sum-cons (negsuc c) rest); at = rw (l, f, e) (omega (arith, s.at)) }

same_vector : (n k i j : ℕ) (x y : List ℤ) → i ≡ j → slice_get (vectors n k) j ≡ Some x → slice_get (vectors n k) i ≡ Some y → Stands n k i x → Stands n k i y
same_vector n k i j x y e g h s =
    let g' = rw (← e) at g in
    let q : x ≡ y = cc in
    subst (Stands n k i) q s

empty_stands : Stands 0 0 0 []
unfolding pulse_sum rank_of
empty_stands = record { long = refl; full = refl; at = refl }

-- Nothing else stands there: a vector found in the list has n numbers and k pulses, and stands at
-- its own place.
pub place-only : (n k i : ℕ) (y : List ℤ) → slice_get (vectors n k) i ≡ Some y → Stands n k i y
unfolding vectors
place-only zero zero zero y g = let e : [] ≡ y = cc in subst (Stands 0 0 0) e empty_stands
place-only zero zero (suc i) y g = cc
place-only zero (suc k) i y g = cc
place-only (suc n) k i y g = elim (found n k i (within_count (suc n) k i y g)) [
  | Front c t r e q b ↦
      let w = get_within n t r b in
      same_vector (suc n) k i (count_below n t + r) (pos c ∷ w.0) y q (front_place n k c t r w.0 e w.1) g
      (front_stands n k i c t r w.0 e q (place-only n t r w.0 w.1))
  | Back c t r e h q b ↦
      let w = get_within n t r b in
      same_vector (suc n) k i (count_below n (suc k) + (count_below n t + r)) (minus c ∷ w.0) y q (back_place n k c t r w.0 e h w.1) g
      (back_stands n k i c t r w.0 e h q (place-only n t r w.0 w.1))
]

-- What the list contains, and what is contained in it.
pub there_vector : (n k : ℕ) (y : List ℤ) → Contains (vectors n k) y → (length y ≡ n) × (pulse_sum y ≡ k)
there_vector n k y h =
    let g : slice_get (vectors n k) h.0 ≡ Some y = slice_get-get_or (vectors n k) h.0 y h.1 ∙ ap Some h.2 in
    ((place-only n k h.0 y g).long, (place-only n k h.0 y g).full)

pub vector_there : (n k : ℕ) (y : List ℤ) → (length y ≡ n) × (pulse_sum y ≡ k) → Contains (vectors n k) y
vector_there n k y h =
    let g = rw (h.0, h.1) at (place-get y) in
    (rank_of y, slice_get_within (vectors n k) (rank_of y) y g, get_or_from_slice_get (vectors n k) (rank_of y) y y g)
