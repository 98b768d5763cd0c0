-- Lists that are written from the front, and what the search writes.
use Rattle.std.proofs.Common.{◌≡◌, ℕ, zero, suc, ◌+◌, ◌<◌, ◌≤◌, refl, sym, ap, subst, arith, ◌∙◌, List, [], ◌∷◌, ◌++◌, length, get_or}
use Rattle.std.specs.Prelude.{ℤ, pos, negsuc, unsigned_abs, All, map, take, slice_set, sum_by}
use Rattle.std.proofs.lemmas.Int.{ints}
use Rattle.std.proofs.lemmas.List.{length-map, get_or-map, get_or_default}
use Rattle.std.proofs.lemmas.List.Sums.{sum_by-cons}
use Rattle.pulse_search.specs.Pulses.{AgreesInSign, pulses_by, signed, signed_all, vector_of}
use Rattle.pulse_search.proofs.PulseSteps.{total, item-le-total, pulses-length, pulses-total}

-- the list zs with its first i items those of ws
unfoldable pub over : {X : Type 0} → ℕ → List X → List X → List X
over zero ws zs = zs
over (suc i) [] zs = zs
over (suc i) (w ∷ ws) [] = []
over (suc i) (w ∷ ws) (z ∷ zs) = w ∷ over i ws zs

pub over-none : {X : Type 0} (ws zs : List X) → over 0 ws zs ≡ zs
unfolding over
over-none ws zs = refl

pub over-more : {X : Type 0} (i : ℕ) (ws zs : List X) (d w : X) → i < length ws → length ws ≤ length zs → w ≡ get_or ws i d → slice_set (over i ws zs) i w ≡ over (i + 1) ws zs
unfolding over
over-more i ws zs d w h l e =
    let n : suc i ≡ i + 1 = omega arith in
    go i ws zs d w h l e ∙ ap (λ k. over k ws zs) n
  where
    go : {X : Type 0} (i : ℕ) (ws zs : List X) (d w : X) → i < length ws → length ws ≤ length zs → w ≡ get_or ws i d → slice_set (over i ws zs) i w ≡ over (suc i) ws zs
    go i [] zs d w h l e = absurd (omega arith)
    go i (x ∷ ws) [] d w h l e = absurd (omega arith)
    go zero (x ∷ ws) (z ∷ zs) d w h l e = ap (λ v. v ∷ zs) e
    go (suc i) (x ∷ ws) (z ∷ zs) d w h l e = ap (λ vs. x ∷ vs) (go i ws zs d w (omega arith) (omega arith) e)

pub length-over : {X : Type 0} (i : ℕ) (ws zs : List X) → length (over i ws zs) ≡ length zs
unfolding over
length-over zero ws zs = refl
length-over (suc i) [] zs = refl
length-over (suc i) (w ∷ ws) [] = refl
length-over (suc i) (w ∷ ws) (z ∷ zs) = omega (arith, length-over i ws zs)

pub take-over : {X : Type 0} (ws zs : List X) → length ws ≤ length zs → take (length ws) (over (length ws) ws zs) ≡ ws
unfolding over
take-over [] zs h = refl
take-over (w ∷ ws) [] h = absurd (omega arith)
take-over (w ∷ ws) (z ∷ zs) h = ap (λ vs. w ∷ vs) (take-over ws zs (omega arith))

pub over-all : {X : Type 0} (n : ℕ) (ws zs : List X) → length zs ≡ length ws → n ≡ length zs → over n ws zs ≡ ws
unfolding over
over-all zero [] [] h e = refl
over-all zero [] (z ∷ zs) h e = absurd (omega arith)
over-all zero (w ∷ ws) zs h e = absurd (omega arith)
over-all (suc n) [] [] h e = refl
over-all (suc n) [] (z ∷ zs) h e = absurd (omega arith)
over-all (suc n) (w ∷ ws) [] h e = absurd (omega arith)
over-all (suc n) (w ∷ ws) (z ∷ zs) h e = ap (λ vs. w ∷ vs) (over-all n ws zs (omega arith) (omega arith))

-- ---- signs

pub length-signed_all : (xs : List ℤ) (ys : List ℕ) → length ys ≡ length xs → length (signed_all xs ys) ≡ length xs
unfolding signed_all
length-signed_all [] ys h = refl
length-signed_all (x ∷ xs) [] h = absurd (omega arith)
length-signed_all (x ∷ xs) (y ∷ ys) h = omega (arith, length-signed_all xs ys (omega arith))

pub signed_all-at : (xs : List ℤ) (ys : List ℕ) (i : ℕ) → length ys ≡ length xs → i < length xs → signed (get_or xs i (pos 0)) (get_or ys i 0) ≡ get_or (signed_all xs ys) i (pos 0)
unfolding signed_all
signed_all-at [] ys i h l = absurd (omega arith)
signed_all-at (x ∷ xs) [] i h l = absurd (omega arith)
signed_all-at (x ∷ xs) (y ∷ ys) zero h l = refl
signed_all-at (x ∷ xs) (y ∷ ys) (suc i) h l = signed_all-at xs ys i (omega arith) (omega arith)

signed-size : (x : ℤ) (y : ℕ) → unsigned_abs (signed x y) ≡ y
signed-size (pos n) y = refl
signed-size (negsuc n) zero = refl
signed-size (negsuc n) (suc y) = refl

signed_all-sum : (xs : List ℤ) (ys : List ℕ) → length ys ≡ length xs → sum_by unsigned_abs (signed_all xs ys) ≡ total ys
unfolding signed_all total
signed_all-sum [] [] h = refl
signed_all-sum [] (y ∷ ys) h = absurd (omega arith)
signed_all-sum (x ∷ xs) [] h = absurd (omega arith)
signed_all-sum (x ∷ xs) (y ∷ ys) h =
    let e : sum_by unsigned_abs (signed x y ∷ signed_all xs ys) ≡ unsigned_abs (signed x y) + sum_by unsigned_abs (signed_all xs ys) = sum_by-cons unsigned_abs (signed x y) (signed_all xs ys) in
    let d : unsigned_abs (signed x y) ≡ y = signed-size x y in
    omega (arith, signed_all-sum xs ys (omega arith))

pub vector-sum : (xs : List ℤ) (k : ℕ) → 0 < length xs → sum_by unsigned_abs (vector_of xs k) ≡ k
unfolding vector_of
vector-sum xs k h =
    let l : length (map unsigned_abs xs) ≡ length xs = length-map xs unsigned_abs in
    let e : length (pulses_by (map unsigned_abs xs) k) ≡ length xs = pulses-length (map unsigned_abs xs) k ∙ l in
    signed_all-sum xs (pulses_by (map unsigned_abs xs) k) e ∙ pulses-total (map unsigned_abs xs) k (omega arith)

signed-agrees : (x : ℤ) (y : ℕ) → AgreesInSign x (signed x y)
signed-agrees (pos n) y = record {
  above = λ h. omega (arith, ints);
  below = λ h. absurd (omega (arith, ints));
}
signed-agrees (negsuc n) y = record {
  above = λ h. absurd (omega (arith, ints));
  below = λ h. omega (arith, ints);
}

pub vector-agrees : (xs : List ℤ) (k i : ℕ) → i < length xs → AgreesInSign (get_or xs i (pos 0)) (get_or (vector_of xs k) i (pos 0))
unfolding vector_of
vector-agrees xs k i h =
    let e : length (pulses_by (map unsigned_abs xs) k) ≡ length xs = pulses-length (map unsigned_abs xs) k ∙ length-map xs unsigned_abs in
    subst (AgreesInSign (get_or xs i (pos 0))) (signed_all-at xs (pulses_by (map unsigned_abs xs) k) i e h) (signed-agrees (get_or xs i (pos 0)) (get_or (pulses_by (map unsigned_abs xs) k) i 0))

-- ---- the parts of the search

take-none : {X : Type 0} (zs : List X) → take 0 zs ≡ []
take-none [] = refl
take-none (z ∷ zs) = refl

pub take-front : {X : Type 0} (n : ℕ) (ys zs : List X) → length ys ≡ n → take n (ys ++ zs) ≡ ys
take-front zero [] zs h = take-none zs
take-front zero (y ∷ ys) zs h = absurd (omega arith)
take-front (suc n) [] zs h = absurd (omega arith)
take-front (suc n) (y ∷ ys) zs h = ap (λ vs. y ∷ vs) (take-front n ys zs (omega arith))

pub pulses-most : (xs : List ℕ) (k : ℕ) → 0 < length xs → k ≤ 4096 → All (λ v. v ≤ 4096) (pulses_by xs k)
pulses-most xs k h l i d p =
    let e : get_or (pulses_by xs k) i d ≡ get_or (pulses_by xs k) i 0 = get_or_default (pulses_by xs k) i d 0 p in
    let t : total (pulses_by xs k) ≡ k = pulses-total xs k h in
    omega (arith, item-le-total (pulses_by xs k) i)

pub sizes-below : (xs : List ℤ) (m : ℕ) → All (λ v. unsigned_abs v < m) xs → All (λ v. v < m) (map unsigned_abs xs)
sizes-below xs m h i d p =
    let q : i < length xs = subst (λ n. i < n) (length-map xs unsigned_abs) p in
    subst (λ v. v < m) (sym (get_or-map unsigned_abs xs i (pos 0) d q)) (h i (pos 0) q)

pub vector-from : (xs : List ℤ) (ys ss : List ℕ) (k : ℕ) → ss ≡ map unsigned_abs xs → ys ≡ pulses_by ss k → signed_all xs ys ≡ vector_of xs k
unfolding vector_of
vector-from xs ys ss k e h = ap (signed_all xs) (h ∙ ap (λ s. pulses_by s k) e)
