-- Sums after one more pulse and their bounds, the first best of a row of fractions, and lists that are
-- written from the front.
use Rattle.std.proofs.Common.{◌≡◌, ℕ, zero, suc, ◌+◌, ◌-◌, ◌*◌, ◌^◌, ◌<◌, ◌≤◌, refl, sym, ap, subst, inl, inr, arith, ◌∙◌, true, false, List, [], ◌∷◌, length, get_or}
use Rattle.std.specs.Prelude.{◌⊎◌, not, All, slice_index, replicate}
use Rattle.std.proofs.lemmas.Nat.{mul-le}
use Rattle.std.proofs.lemmas.List.{length-set, length-replicate, get_or_default}
use Rattle.std.proofs.lemmas.Bool.{cases_lt, cases_Bool, or_left, or_right, or_from, ltb-true, ltb-false, lt-ltb, le-ltb}
use Rattle.fixed_math.proofs.SearchLemmas.{least-found}
use Rattle.pulse_search.specs.Pulses.{dot, squared, match_with, energy_with, is_better, is_beaten, best_place, IsBest, IsNext, one_more, pulses_by}

-- ---- sums

unfoldable pub total : List ℕ → ℕ
total [] = 0
total (y ∷ ys) = y + total ys

pub item-le-total : (ys : List ℕ) (j : ℕ) → get_or ys j 0 ≤ total ys
unfolding total
item-le-total [] j = omega arith
item-le-total (y ∷ ys) zero = omega arith
item-le-total (y ∷ ys) (suc j) = omega (arith, item-le-total ys j)

-- a product sum is at most a bound of the one list times the total of the other
pub dot-le : (xs ys : List ℕ) (m : ℕ) → ((k : ℕ) → get_or xs k 0 ≤ m) → dot xs ys ≤ m * total ys
unfolding dot total
dot-le [] ys m h = omega arith
dot-le (x ∷ xs) [] m h = omega arith
dot-le (x ∷ xs) (y ∷ ys) m h =
    let a : x * y ≤ m * y = mul-le x y m y (h 0) (omega arith) in
    let b : dot xs ys ≤ m * total ys = dot-le xs ys m (λ k. h (suc k)) in
    omega arith

-- past the end of a list its items are 0
pub below_all : (xs : List ℕ) (m : ℕ) → All (λ v. v ≤ m) xs → (k : ℕ) → get_or xs k 0 ≤ m
below_all [] m h k = omega arith
below_all (x ∷ xs) m h zero = h 0 0 (omega arith)
below_all (x ∷ xs) m h (suc k) = below_all xs m (λ i d p. h (suc i) d (omega arith)) k

pub energy-le : (ys : List ℕ) → dot ys ys ≤ total ys * total ys
energy-le ys = dot-le ys ys (total ys) (item-le-total ys)

pub total-more : (ys : List ℕ) (j : ℕ) → j < length ys → total (one_more ys j) ≡ total ys + 1
unfolding total
total-more [] j h = absurd (omega arith)
total-more (y ∷ ys) zero h = omega arith
total-more (y ∷ ys) (suc j) h = omega (arith, total-more ys j (omega arith))

pub dot-more : (xs ys : List ℕ) (j : ℕ) → length ys ≡ length xs → j < length xs → dot xs (one_more ys j) ≡ dot xs ys + slice_index xs j
unfolding dot
dot-more [] ys j e h = absurd (omega arith)
dot-more (x ∷ xs) [] j e h = absurd (omega arith)
dot-more (x ∷ xs) (y ∷ ys) zero e h = omega arith
dot-more (x ∷ xs) (y ∷ ys) (suc j) e h = omega (arith, dot-more xs ys j (omega arith) (omega arith))

pub energy-more : (ys : List ℕ) (j : ℕ) → j < length ys → dot (one_more ys j) (one_more ys j) ≡ energy_with ys j
unfolding dot
energy-more [] j h = absurd (omega arith)
energy-more (y ∷ ys) zero h = omega arith
energy-more (y ∷ ys) (suc j) h = omega (arith, energy-more ys j (omega arith))

-- ---- the first best

-- a fraction that is not above one, which is below a third, is below that one
pub fractions : (a b c d e f : ℕ) → 0 < b → 0 < f → a * d ≤ c * b → c * f < e * d → a * f < e * b
fractions a b c d e f p q h l =
    elim (cases_lt (a * f) (e * b)) [
      | inl r ↦ r
      | inr r ↦
          let x : (a * d) * f ≤ (c * b) * f = mul-le (a * d) f (c * b) f h (omega arith) in
          let y : (c * f + 1) * b ≤ (e * d) * b = mul-le (c * f + 1) b (e * d) b (omega arith) (omega arith) in
          let z : (e * b) * d ≤ (a * f) * d = mul-le (e * b) d (a * f) d r (omega arith) in
          absurd (omega arith)
    ]

pub best-start : (xs ys : List ℕ) → IsBest xs ys 1 0
best-start xs ys = record {
  within = omega arith;
  greatest = λ i p. alone i p;
  first = λ i p. absurd (omega arith);
}
  where
    alone : (i : ℕ) → i < 1 → match_with xs ys i * energy_with ys 0 ≤ match_with xs ys 0 * energy_with ys i
    alone zero p = omega arith
    alone (suc i) p = absurd (omega arith)

last_or_below : (i n : ℕ) → i < n + 1 → (i ≡ n) ⊎ (i < n)
last_or_below i n h =
    elim (cases_lt i n) [
      | inl p ↦ inr p
      | inr p ↦ inl (omega arith)
    ]

energy_with-some : (ys : List ℕ) (j : ℕ) → 0 < energy_with ys j
energy_with-some ys j = omega arith

lt-le : (a c : ℕ) → a < c → a ≤ c
lt-le a c h = omega arith

pub best-moves : (xs ys : List ℕ) (n j : ℕ) → IsBest xs ys n j → is_better xs ys n j ≡ true → IsBest xs ys (n + 1) n
best-moves xs ys n j b t = record {
  within = omega arith;
  greatest = λ i p. upto i p;
  first = λ i p. before i p;
}
  where
    here : match_with xs ys j * energy_with ys n < match_with xs ys n * energy_with ys j
    here = ltb-true (match_with xs ys j * energy_with ys n) (match_with xs ys n * energy_with ys j) t

    before : (i : ℕ) → i < n → match_with xs ys i * energy_with ys n < match_with xs ys n * energy_with ys i
    before i p = fractions (match_with xs ys i) (energy_with ys i) (match_with xs ys j) (energy_with ys j) (match_with xs ys n) (energy_with ys n) (energy_with-some ys i) (energy_with-some ys n) (b.greatest i p) here

    upto : (i : ℕ) → i < n + 1 → match_with xs ys i * energy_with ys n ≤ match_with xs ys n * energy_with ys i
    upto i p =
        elim (last_or_below i n p) [
          | inl e ↦ subst (λ k. match_with xs ys k * energy_with ys n ≤ match_with xs ys n * energy_with ys k) (sym e) (omega arith)
          | inr q ↦ lt-le (match_with xs ys i * energy_with ys n) (match_with xs ys n * energy_with ys i) (before i q)
        ]

pub best-stays : (xs ys : List ℕ) (n j : ℕ) → IsBest xs ys n j → is_better xs ys n j ≡ false → IsBest xs ys (n + 1) j
best-stays xs ys n j b t = record {
  within = omega (arith, b.within);
  greatest = λ i p. upto i p;
  first = b.first;
}
  where
    upto : (i : ℕ) → i < n + 1 → match_with xs ys i * energy_with ys j ≤ match_with xs ys j * energy_with ys i
    upto i p =
        elim (last_or_below i n p) [
          | inl e ↦ subst (λ k. match_with xs ys k * energy_with ys j ≤ match_with xs ys j * energy_with ys k) (sym e) (ltb-false (match_with xs ys j * energy_with ys n) (match_with xs ys n * energy_with ys j) t)
          | inr q ↦ b.greatest i q
        ]

-- places that are not better change nothing
best-over : (xs ys : List ℕ) (n m j : ℕ) → IsBest xs ys n j → n ≤ m → ((i : ℕ) → n ≤ i → i < m → is_better xs ys i j ≡ false) → IsBest xs ys m j
best-over xs ys n m j b h passed = record {
  within = omega (arith, b.within);
  greatest = λ i p. upto i p;
  first = b.first;
}
  where
    upto : (i : ℕ) → i < m → match_with xs ys i * energy_with ys j ≤ match_with xs ys j * energy_with ys i
    upto i p =
        elim (cases_lt i n) [
          | inl q ↦ b.greatest i q
          | inr q ↦ ltb-false (match_with xs ys j * energy_with ys i) (match_with xs ys i * energy_with ys j) (passed i q p)
        ]

pub best-next : (xs ys : List ℕ) (n m j : ℕ) → IsBest xs ys n j → is_better xs ys n j ≡ true → IsNext xs ys n m → IsBest xs ys m n
best-next xs ys n m j b t h = best-over xs ys (n + 1) m n (best-moves xs ys n j b t) (omega (arith, h.low)) (λ i p q. h.passed i (omega arith) q)

-- ---- the definition's place

unbeaten-by : (xs ys : List ℕ) (n j : ℕ) → ((i : ℕ) → i < n → match_with xs ys i * energy_with ys j ≤ match_with xs ys j * energy_with ys i) → is_beaten xs ys n j ≡ false
unfolding is_beaten
unbeaten-by xs ys zero j h = refl
unbeaten-by xs ys (suc n) j h = or_from (is_better xs ys n j) (is_beaten xs ys n j) (le-ltb (match_with xs ys j * energy_with ys n) (match_with xs ys n * energy_with ys j) (h n (omega arith))) (unbeaten-by xs ys n j (λ i p. h i (omega arith)))

beaten-by : (xs ys : List ℕ) (n i j : ℕ) → j < n → is_better xs ys j i ≡ true → is_beaten xs ys n i ≡ true
unfolding is_beaten
beaten-by xs ys zero i j p t = absurd (omega arith)
beaten-by xs ys (suc n) i j p t =
    elim (last_or_below j n (omega arith)) [
      | inl e ↦ or_left (is_better xs ys n i) (is_beaten xs ys n i) (subst (λ k. is_better xs ys k i ≡ true) e t)
      | inr q ↦ or_right (is_better xs ys n i) (is_beaten xs ys n i) (beaten-by xs ys n i j q t)
    ]

pub best-found : (xs ys : List ℕ) (j : ℕ) → IsBest xs ys (length xs) j → j ≡ best_place xs ys
unfolding best_place
best-found xs ys j b = sym (least-found (λ i. not (is_beaten xs ys (length xs) i)) (length xs) j b.within
    (ap not (unbeaten-by xs ys (length xs) j b.greatest))
    (λ i p. ap not (beaten-by xs ys (length xs) i j b.within (lt-ltb (match_with xs ys i * energy_with ys j) (match_with xs ys j * energy_with ys i) (b.first i p)))))

best_of : (xs ys : List ℕ) (n : ℕ) → (j : ℕ) × IsBest xs ys (suc n) j
best_of xs ys zero = (0, best-start xs ys)
best_of xs ys (suc n) = next (best_of xs ys n)
  where
    next : ((j : ℕ) × IsBest xs ys (suc n) j) → (j : ℕ) × IsBest xs ys (suc (suc n)) j
    next b =
        let e : suc n + 1 ≡ suc (suc n) = omega arith in
        elim (cases_Bool (is_better xs ys (suc n) b.0)) [
          | inl t ↦ (suc n, subst (λ m. IsBest xs ys m (suc n)) e (best-moves xs ys (suc n) b.0 b.1 t))
          | inr t ↦ (b.0, subst (λ m. IsBest xs ys m b.0) e (best-stays xs ys (suc n) b.0 b.1 t))
        ]

pub best_place-is : (xs ys : List ℕ) → 0 < length xs → IsBest xs ys (length xs) (best_place xs ys)
best_place-is xs ys h =
    let e : suc (length xs - 1) ≡ length xs = omega arith in
    let b = best_of xs ys (length xs - 1) in
    let d : IsBest xs ys (length xs) b.0 = subst (λ m. IsBest xs ys m b.0) e b.1 in
    subst (IsBest xs ys (length xs)) (best-found xs ys b.0 d) d

-- ---- the pulses so far

pub pulses-length : (xs : List ℕ) (k : ℕ) → length (pulses_by xs k) ≡ length xs
unfolding pulses_by
pulses-length xs zero = length-replicate (length xs) 0
pulses-length xs (suc k) = length-set (pulses_by xs k) (best_place xs (pulses_by xs k)) (slice_index (pulses_by xs k) (best_place xs (pulses_by xs k)) + 1) ∙ pulses-length xs k

total-zeros : (n : ℕ) → total (replicate n 0) ≡ 0
unfolding total
total-zeros zero = refl
total-zeros (suc n) = omega (arith, total-zeros n)

pub pulses-total : (xs : List ℕ) (k : ℕ) → 0 < length xs → total (pulses_by xs k) ≡ k
unfolding pulses_by
pulses-total xs zero h = total-zeros (length xs)
pulses-total xs (suc k) h =
    let ys = pulses_by xs k in
    let p : best_place xs ys < length ys = subst (λ n. best_place xs ys < n) (sym (pulses-length xs k)) (best_place-is xs ys h).within in
    let e : total (one_more ys (best_place xs ys)) ≡ total ys + 1 = total-more ys (best_place xs ys) p in
    omega (arith, pulses-total xs k h)

pub pulses-start : (xs : List ℕ) → replicate (length xs) 0 ≡ pulses_by xs 0
unfolding pulses_by
pulses-start xs = refl

pub pulses-next : (xs : List ℕ) (k j : ℕ) → j ≡ best_place xs (pulses_by xs k) → one_more (pulses_by xs k) j ≡ pulses_by xs (k + 1)
unfolding pulses_by
pulses-next xs k j e =
    let n : suc k ≡ k + 1 = omega arith in
    ap (one_more (pulses_by xs k)) e ∙ ap (pulses_by xs) n

pub dot-zeros : (xs : List ℕ) (n : ℕ) → dot xs (replicate n 0) ≡ 0
unfolding dot
dot-zeros [] n = refl
dot-zeros (x ∷ xs) zero = refl
dot-zeros (x ∷ xs) (suc n) = omega (arith, dot-zeros xs n)

-- ---- bounds

pub correlations_within : (xs ys : List ℕ) (n : ℕ) → total ys ≡ n → n < 4096 → All (λ v. v < 2 ^ 20) xs → All (λ v. dot xs ys + v < 2 ^ 32) xs
correlations_within xs ys n e l h k d p =
    let a : dot xs ys ≤ (2 ^ 20 - 1) * total ys = dot-le xs ys (2 ^ 20 - 1) (below_all xs (2 ^ 20 - 1) (λ i c q. omega (arith, h i c q))) in
    omega (arith, h k d p)

pub energies_within : (ys : List ℕ) (n : ℕ) → total ys ≡ n → n < 4096 → All (λ v. dot ys ys + (2 * v + 1) ≤ 2 ^ 24) ys
energies_within ys n e l k d p =
    let a : dot ys ys ≤ total ys * total ys = energy-le ys in
    let b : total ys * total ys ≤ 4095 * 4095 = mul-le (total ys) (total ys) 4095 4095 (omega arith) (omega arith) in
    let c : get_or ys k d ≡ get_or ys k 0 = get_or_default ys k d 0 p in
    omega (arith, item-le-total ys k)

pub narrow_within : (xs ys : List ℕ) (n k m : ℕ) → total ys ≡ n → n < k → All (λ v. v ≤ m) xs → k * k * m < 2 ^ 32 → (i j : ℕ) → match_with xs ys i * energy_with ys j < 2 ^ 64
narrow_within xs ys n k m e l h s i j =
    let a : dot xs ys ≤ m * total ys = dot-le xs ys m (below_all xs m h) in
    let ae : m * total ys ≡ m * n = ap (λ t. m * t) e in
    let b : m * (n + 1) ≤ m * k = mul-le m (n + 1) m k (omega arith) (omega arith) in
    let r : dot xs ys + get_or xs i 0 ≤ m * k = omega (arith, below_all xs m h i) in
    let c : dot ys ys ≤ total ys * total ys = energy-le ys in
    let ce : total ys * total ys ≡ n * n = ap (λ t. t * t) e in
    let d : (n + 1) * (n + 1) ≤ k * k = mul-le (n + 1) (n + 1) k k (omega arith) (omega arith) in
    let q : energy_with ys j ≤ k * k = omega (arith, item-le-total ys j) in
    product (dot xs ys + get_or xs i 0) (energy_with ys j) r q
  where
    product : (r q : ℕ) → r ≤ m * k → q ≤ k * k → squared r * q < 2 ^ 64
    product r q u v =
        let f : r * r ≤ (m * k) * (m * k) = mul-le r r (m * k) (m * k) u u in
        let g : (r * r) * q ≤ ((m * k) * (m * k)) * (k * k) = mul-le (r * r) q ((m * k) * (m * k)) (k * k) f v in
        let o : (k * k * m) * (k * k * m) ≤ (2 ^ 32 - 1) * (2 ^ 32 - 1) = mul-le (k * k * m) (k * k * m) (2 ^ 32 - 1) (2 ^ 32 - 1) (omega arith) (omega arith) in
        let w : ((m * k) * (m * k)) * (k * k) ≡ (k * k * m) * (k * k * m) = omega arith in
        omega arith
