-- How far the loops of rank and unrank have come.
use Rattle.std.proofs.Common.{◌≡◌, ℕ, zero, suc, ◌+◌, ◌-◌, ◌*◌, ◌<◌, ◌≤◌, ◌&&◌, true, nat_le, nat_lt, inl, inr, List, [], ◌∷◌, length, drop, take, set, ◌++◌, get_or, replicate, refl, sym, ◌∙◌, ap, arith, add-one, length-drop, subst, append-nil}
use Rattle.std.specs.Prelude.{ℤ, pos, unsigned_abs, slice_get, Some}
use Rattle.std.proofs.Math.Seq.{drop-cons, drop-length, take-suc-set, append_snoc, take-add}
use Rattle.std.proofs.lemmas.Bool.{cases_lt, and_parts}
use Rattle.std.proofs.lemmas.Bool.Decides.{nat_tests}
use Rattle.std.proofs.lemmas.List.{take_all, length-set, length-replicate, drop-set-lt, drop-drop, take-append-drop, drop-replicate, take-replicate, append_assoc}
use Rattle.std.proofs.lemmas.List.Sums.{sum_by-take-drop}
use Rattle.pulse_vectors.specs.Rows.{count_below, stand_before, rank_of, Leads}
use Rattle.pulse_vectors.specs.Vectors.{count_of, pulse_sum, vectors, minus}
use Rattle.pulse_vectors.proofs.Places.{count-suc, below-suc, place-get, place-only, pulse_sum-cons, within_count, front_place, back_place, minus_size, below-zero}
use Rattle.pulse_vectors.proofs.RowSteps.{count_rises, count-none-suc}
use Rattle.pulse_vectors.proofs.Counts.{count_grows, count-no-pulses}

-- What a loop from the last number to the first knows, i numbers left: the pulses and the place of
-- the numbers behind.
pub record Ranked (y : List ℤ) (i behind at : ℕ) : Type 0 where
  pub within : i ≤ length y
  pub behind_is : behind ≡ pulse_sum (drop i y)
  pub at_is : at ≡ rank_of (drop i y)

-- The same with the row of the numbers behind.
pub record RankedBy (y : List ℤ) (i behind at numbers pulses : ℕ) : Type 0 where
  pub ranked : Ranked y i behind at
  pub numbers_is : numbers + i ≡ length y
  pub pulses_is : pulses ≡ pulse_sum y

pub place-cons : (x : ℤ) (rest : List ℤ) → rank_of (x ∷ rest) ≡ stand_before (length rest) (pulse_sum rest) x + rank_of rest
unfolding rank_of
place-cons x rest = refl

pub pulse_sum-drop : (i : ℕ) (y : List ℤ) → pulse_sum (drop i y) ≤ pulse_sum y
unfolding pulse_sum
pulse_sum-drop i y = omega (arith, sum_by-take-drop unsigned_abs y i)

pub ranked-start : (y : List ℤ) (i : ℕ) → i ≡ length y → Ranked y i 0 0
unfolding pulse_sum rank_of
ranked-start y i e = rw e (record { within = omega arith; behind_is = rw (drop-length y) refl; at_is = rw (drop-length y) refl })

-- The next number and those behind it.
pub next-sum : (y : List ℤ) (i : ℕ) → i < length y → pulse_sum (drop i y) ≡ unsigned_abs (get_or y i (pos 0)) + pulse_sum (drop (i + 1) y)
next-sum y i h = rw (add-one, drop-cons y i (pos 0) h) (pulse_sum-cons (get_or y i (pos 0)) (drop (suc i) y))

pub next-place : (y : List ℤ) (i : ℕ) → i < length y
    → rank_of (drop i y) ≡ stand_before (length (drop (i + 1) y)) (pulse_sum (drop (i + 1) y)) (get_or y i (pos 0)) + rank_of (drop (i + 1) y)
next-place y i h = rw (add-one, drop-cons y i (pos 0) h) (place-cons (get_or y i (pos 0)) (drop (suc i) y))

-- The pulses fit: the next number and those behind it hold no more than the vector.
pub next-fits : (y : List ℤ) (left i behind at : ℕ) → left ≡ i + 1 → Ranked y left behind at → unsigned_abs (get_or y i (pos 0)) + behind ≤ pulse_sum y
next-fits y left i behind at e r0 =
    let r = let P : ℕ → Type 0 = λ n. Ranked y n behind at in subst P e r0 in
    omega (arith, r.within, r.behind_is, next-sum y i (omega (arith, r.within)), pulse_sum-drop i y)

pub ranked-next : (y : List ℤ) (left i behind at size ahead : ℕ) → left ≡ i + 1 → Ranked y left behind at → size ≡ unsigned_abs (get_or y i (pos 0))
    → ahead ≡ stand_before (length y - left) behind (get_or y i (pos 0)) → Ranked y i (behind + size) (at + ahead)
ranked-next y left i behind at size ahead e r0 e1 e2 =
    let r = let P : ℕ → Type 0 = λ n. Ranked y n behind at in subst P e r0 in
    let l : length y - left ≡ length (drop (i + 1) y) = omega (arith, length-drop (i + 1) y) in
    let b : behind ≡ pulse_sum (drop (i + 1) y) = r.behind_is in
    let e2' = rw (l, b) at e2 in
    record {
      within = omega (arith, r.within);
      behind_is = omega (arith, r.behind_is, next-sum y i (omega (arith, r.within)));
      at_is = omega (arith, r.at_is, next-place y i (omega (arith, r.within)));
    }

pub ranked_by-next : (y : List ℤ) (left i behind at size ahead numbers pulses more same : ℕ) → left ≡ i + 1
    → RankedBy y left behind at numbers pulses → size ≡ unsigned_abs (get_or y i (pos 0)) → ahead ≡ stand_before numbers behind (get_or y i (pos 0))
    → more ≡ numbers + 1 → same ≡ pulses → RankedBy y i (behind + size) (at + ahead) more same
ranked_by-next y left i behind at size ahead numbers pulses more same e r e1 e2 e3 e4 =
    let n : numbers ≡ length y - left = omega (arith, r.numbers_is) in
    let e2' = rw n at e2 in
    record {
      ranked = ranked-next y left i behind at size ahead e r.ranked e1 e2';
      numbers_is = omega (arith, r.numbers_is);
      pulses_is = omega (arith, r.pulses_is);
    }

-- The place of the numbers behind is below the count of whole vectors.
pub place-below : (y : List ℤ) → rank_of y < count_of (length y) (pulse_sum y)
place-below y = within_count (length y) (pulse_sum y) (rank_of y) y (place-get y)

pub count-rises : (n j k : ℕ) → 0 < n → j ≤ k → count_of n j ≤ count_of n k
count-rises zero j k h b = absurd (omega arith)
count-rises (suc n) j k h b = count_rises n j k b

pub ranked-below : (y : List ℤ) (i behind at : ℕ) → Ranked y i behind at → 0 < length y → at < count_of (length y) (pulse_sum y)
ranked-below y i behind at r h =
    let within = place-below (drop i y) in
    let few = count_grows (length (drop i y)) (length y) (pulse_sum (drop i y)) (omega (arith, length-drop i y)) in
    let low = count-rises (length y) (pulse_sum (drop i y)) (pulse_sum y) (omega arith) (pulse_sum-drop i y) in
    omega (arith, r.at_is)

pub ranked-end : (y : List ℤ) (i behind at : ℕ) → i ≡ 0 → Ranked y i behind at → slice_get (vectors (length y) (pulse_sum y)) at ≡ Some y
ranked-end y i behind at e r0 =
    let r = let P : ℕ → Type 0 = λ n. Ranked y n behind at in subst P e r0 in
    let q : at ≡ rank_of y = r.at_is in rw q (place-get y)

pub ranked-value : (y : List ℤ) (i behind at : ℕ) → i ≡ 0 → Ranked y i behind at → at ≡ rank_of y
ranked-value y i behind at e r0 =
    let r = let P : ℕ → Type 0 = λ n. Ranked y n behind at in subst P e r0 in
    r.at_is

pub ranked-only : (y : List ℤ) (i behind at j : ℕ) → i ≡ 0 → Ranked y i behind at → slice_get (vectors (length y) (pulse_sum y)) j ≡ Some y → j ≡ at
ranked-only y i behind at j e r0 g =
    let r = let P : ℕ → Type 0 = λ n. Ranked y n behind at in subst P e r0 in
    let q : at ≡ rank_of y = r.at_is in
    (place-only (length y) (pulse_sum y) j y g).at ∙ sym q

-- What a loop from the first number to the last knows, the first i of them written: where the
-- vector goes on.
pub record Unranked (n k index : ℕ) (y : List ℤ) (i left at : ℕ) : Type 0 where
  pub few : left ≤ k
  pub inside : at < count_of (n - i) left
  pub joined : (rest : List ℤ) → slice_get (vectors (n - i) left) at ≡ Some rest
      → slice_get (vectors n k) index ≡ Some (take i y ++ rest)

-- The same with the row of the numbers that are left.
pub record UnrankedBy (n k index : ℕ) (y : List ℤ) (i left at numbers pulses : ℕ) : Type 0 where
  pub unranked : Unranked n k index y i left at
  pub numbers_is : numbers + i ≡ n
  pub pulses_is : pulses ≡ k

written : (y : List ℤ) (i : ℕ) (x : ℤ) (rest : List ℤ) → i < length y → take (i + 1) (set y i x) ++ rest ≡ take i y ++ (x ∷ rest)
written y i x rest h = rw (add-one, take-suc-set y i x h) (append_snoc (take i y) x rest)

pub unranked-next : (n k index : ℕ) (y : List ℤ) (i left at m : ℕ) (x : ℤ) (t r : ℕ) → length y ≡ n → n - i ≡ suc m
    → Unranked n k index y i left at → Leads m left at x t r → Unranked n k index (set y i x) (i + 1) t r
unranked-next n k index y i left at m x t r e1 e2 u l =
    let e3 : n - (i + 1) ≡ m = omega arith in
    record {
      few = omega (arith, u.few, l.pulses);
      inside = rw e3 l.within;
      joined = rw e3 (λ rest g.
          let longer = rw e2 at u.joined in
          longer (x ∷ rest) (l.joined rest g) ∙ ap Some (sym (written y i x rest (omega arith))));
    }

-- Without numbers one vector is left, the empty one.
no-numbers : (k at : ℕ) → at < count_of 0 k → slice_get (vectors 0 k) at ≡ Some []
unfolding vectors count_of
no-numbers zero zero h = refl
no-numbers zero (suc at) h = absurd (omega arith)
no-numbers (suc k) at h = absurd (omega arith)

pub unranked-end : (n k index : ℕ) (y : List ℤ) (i left at : ℕ) → length y ≡ n → n ≤ i → Unranked n k index y i left at
    → slice_get (vectors n k) index ≡ Some y
unranked-end n k index y i left at e h u =
    let none : n - i ≡ 0 = omega arith in
    let inside = rw none at u.inside in
    let joined = rw none at u.joined in
    let last = no-numbers left at inside in
    joined [] last ∙ ap Some (append-nil (take i y) ∙ take_all i y (omega arith))

pub front-leads : (n k index t r : ℕ) → t ≤ k → index ≡ count_below n t + r → r < count_of n t → Leads n k index (pos (k - t)) t r
front-leads n k index t r h e b = record {
  pulses = omega arith;
  within = b;
  joined = λ rest g. rw e (front_place n k (k - t) t r rest (omega arith) g);
}

pub back-leads : (n k index upper t r : ℕ) → t < k → upper ≡ count_below n (suc k) → index ≡ upper + (count_below n t + r) → r < count_of n t
    → Leads n k index (minus (k - t)) t r
back-leads n k index upper t r h u e b = record {
  pulses = omega (arith, minus_size (k - t));
  within = b;
  joined = λ rest g. rw (e, u) (back_place n k (k - t) t r rest (omega arith) (omega arith) g);
}

pub ranked-next-at : (y : List ℤ) (left i behind at size ahead numbers : ℕ) → left ≡ i + 1 → numbers ≡ length y - left → Ranked y left behind at
    → size ≡ unsigned_abs (get_or y i (pos 0)) → ahead ≡ stand_before numbers behind (get_or y i (pos 0)) → Ranked y i (behind + size) (at + ahead)
ranked-next-at y left i behind at size ahead numbers e n r e1 e2 =
    let e2' = rw n at e2 in
    ranked-next y left i behind at size ahead e r e1 e2'

pub stands-full : (n k index : ℕ) (y : List ℤ) → slice_get (vectors n k) index ≡ Some y → pulse_sum y ≡ k
stands-full n k index y g = (place-only n k index y g).full

-- ---- few pulses

-- Without pulses there is one vector, of zeros.
zeros-get : (n : ℕ) → slice_get (vectors n 0) 0 ≡ Some (replicate n (pos 0))
unfolding vectors
zeros-get zero = refl
zeros-get (suc n) =
    let e : count_below n 0 + 0 ≡ 0 = omega (arith, below-zero n) in
    let g = front_place n 0 0 0 0 (replicate n (pos 0)) refl (zeros-get n) in
    rw e at g

pub count-one : (n : ℕ) → count_of n 1 ≡ 2 * n
count-one zero = count-none-suc 0
count-one (suc n) = omega (arith, count-suc n 1, below-suc n 0, below-zero n, count-no-pulses n, count-one n)

-- With one pulse, from the first number to the last it is 1 ..
pub front-pulse : (n p : ℕ) → p < n → slice_get (vectors n 1) p ≡ Some (set (replicate n (pos 0)) p (pos 1))
front-pulse zero p h = absurd (omega arith)
front-pulse (suc n) zero h =
    let e : count_below n 0 + 0 ≡ 0 = omega (arith, below-zero n) in
    let g = front_place n 1 1 0 0 (replicate n (pos 0)) refl (zeros-get n) in
    rw e at g
front-pulse (suc n) (suc p) h =
    let e : count_below n 1 + p ≡ suc p = omega (arith, below-suc n 0, below-zero n, count-no-pulses n) in
    let g = front_place n 1 0 1 p (set (replicate n (pos 0)) p (pos 1)) refl (front-pulse n p (omega arith)) in
    rw e at g

-- .. and then from the last to the first -1.
pub back-pulse : (n q p : ℕ) → q < n → p + q + 1 ≡ 2 * n → slice_get (vectors n 1) p ≡ Some (set (replicate n (pos 0)) q (minus 1))
back-pulse zero q p h e = absurd (omega arith)
back-pulse (suc n) zero p h e =
    let at : count_below n 2 + (count_below n 0 + 0) ≡ p = omega (arith, below-suc n 1, below-suc n 0, below-zero n, count-no-pulses n, count-one n) in
    let g = back_place n 1 1 0 0 (replicate n (pos 0)) refl (omega arith) (zeros-get n) in
    rw at at g
back-pulse (suc n) (suc q) p h e =
    let at : count_below n 1 + (p - 1) ≡ p = omega (arith, below-suc n 0, below-zero n, count-no-pulses n) in
    let g = front_place n 1 0 1 (p - 1) (set (replicate n (pos 0)) q (minus 1)) refl (back-pulse n q (p - 1) (omega arith) (omega arith)) in
    rw at at g

-- What a loop knows that has written the first i numbers into zeros.
pub record Writing (n k index : ℕ) (y : List ℤ) (i left at : ℕ) : Type 0 where
  pub unranked : Unranked n k index y i left at
  pub within : i ≤ n
  pub long : length y ≡ n
  pub zeros : drop i y ≡ replicate (n - i) (pos 0)

pub writing-start : (n k index : ℕ) (y : List ℤ) (i : ℕ) → i ≡ 0 → y ≡ replicate n (pos 0) → index < count_of n k → Writing n k index y i k index
writing-start n k index y i e q h =
    let whole : n - 0 ≡ n = omega arith in
    rw e (record {
      unranked = record { few = omega arith; inside = rw whole h; joined = rw whole (λ rest g. g) };
      within = omega arith;
      long = rw q (length-replicate n (pos 0));
      zeros = rw whole q;
    })

-- Where pulses are left, a number is.
pub writing-more : (n k index : ℕ) (y : List ℤ) (i left at : ℕ) → 1 ≤ left → Writing n k index y i left at → i < n
writing-more n k index y i zero at h w = absurd (omega arith)
writing-more n k index y i (suc left) at h w = elim (cases_lt i n) [
  | inl more ↦ more
  | inr past ↦
      let none : n - i ≡ 0 = omega arith in
      let inside = rw none at w.unranked.inside in
      absurd (omega (arith, count-none-suc left))
]

pub writing-next : (n k index : ℕ) (y : List ℤ) (i left at m : ℕ) (x : ℤ) (t r : ℕ) → n - i ≡ suc m → Writing n k index y i left at
    → Leads m left at x t r → Writing n k index (set y i x) (i + 1) t r
writing-next n k index y i left at m x t r e w l =
    let next : n - (i + 1) ≡ m = omega arith in
    let zeros = rw e at w.zeros in
    record {
      unranked = unranked-next n k index y i left at m x t r w.long e w.unranked l;
      within = omega arith;
      long = length-set y i x ∙ w.long;
      zeros = rw next (drop-set-lt (i + 1) y i x (omega arith) ∙ sym (drop-drop 1 i y) ∙ ap (drop 1) zeros);
    }

-- From place `index` of the vectors of n numbers and k pulses, as many zeros as bring one to place `at` of those of m.
pub record Skipping (n k index m at : ℕ) : Type 0 where
  pub most : m ≤ n
  pub inside : at < count_of m k
  pub joined : (rest : List ℤ) → slice_get (vectors m k) at ≡ Some rest → slice_get (vectors n k) index ≡ Some (replicate (n - m) (pos 0) ++ rest)

pub skipping-start : (n k index : ℕ) → index < count_of n k → Skipping n k index n index
skipping-start n k index h =
    let none : n - n ≡ 0 = omega arith in
    record { most = omega arith; inside = h; joined = rw none (λ rest g. g) }

-- Where a pulse is left, a number is.
pub skipping-more : (n k index m at : ℕ) → 1 ≤ k → Skipping n k index m at → 1 ≤ m
skipping-more n zero index m at h s = absurd (omega arith)
skipping-more n (suc k) index zero at h s = absurd (omega (arith, s.inside, count-none-suc k))
skipping-more n (suc k) index (suc m) at h s = omega arith

zero-before : (a : ℕ) (rest : List ℤ) → replicate a (pos 0) ++ (pos 0 ∷ rest) ≡ replicate (suc a) (pos 0) ++ rest
zero-before zero rest = refl
zero-before (suc a) rest = ap (λ z. pos 0 ∷ z) (zero-before a rest)

pub skipping-next : (n k index m at low : ℕ) → Skipping n k index (suc m) at → low ≡ count_below m k → low ≤ at → at < count_below m (suc k)
    → Skipping n k index m (at - low)
skipping-next n k index m at low s e below above =
    let inside : at - low < count_of m k = omega (arith, e, below-suc m k) in
    let leads = front-leads m k at k (at - low) (omega arith) (omega (arith, e)) inside in
    let one : n - m ≡ suc (n - suc m) = let most = s.most in omega (arith, most) in
    let none : k - k ≡ 0 = omega arith in
    record {
      most = let most = s.most in omega (arith, most);
      inside = inside;
      joined = λ rest g. s.joined (pos 0 ∷ rest) (rw none at (leads.joined rest g)) ∙ ap Some (zero-before (n - suc m) rest ∙ ap (λ a. replicate a (pos 0) ++ rest) (sym one));
    }

-- The same in the words of the code.
test-most : (a b : ℕ) → nat_le a b ≡ true → a ≤ b
test-most a b test = grind (arith, nat_tests)

test-less : (a b : ℕ) → nat_lt a b ≡ true → a < b
test-less a b test = grind (arith, nat_tests)

pub skipping-turn : (n k index m at low : ℕ) → 1 ≤ k → Skipping n k index m at → low ≡ count_below (m - 1) k
    → (nat_le (count_below (m - 1) k) at && nat_lt at (count_below (m - 1) (k + 1))) ≡ true → Skipping n k index (m - 1) (at - low)
skipping-turn n k index m at low h s e test =
    let some = skipping-more n k index m at h s in
    let one : m ≡ suc (m - 1) = omega (arith, some) in
    let parts = and_parts (nat_le (count_below (m - 1) k) at) (nat_lt at (count_below (m - 1) (k + 1))) test in
    let below = test-most (count_below (m - 1) k) at parts.0 in
    let above = rw add-one at (test-less at (count_below (m - 1) (k + 1)) parts.1) in
    skipping-next n k index (m - 1) at low (subst (λ x. Skipping n k index x at) one s) e (omega (arith, e, below)) above

-- Numbers that are zeros are written already.
pub writing-skip : (n k index : ℕ) (y : List ℤ) (behind left at m r : ℕ) → behind ≤ n → Writing n k index y (n - behind) left at
    → Skipping behind left at m r → Writing n k index y (n - m) left r
writing-skip n k index y behind left at m r b w s =
    let same : n - (n - behind) ≡ behind = omega arith in
    let rest_is : n - (n - m) ≡ m = let most = s.most in omega (arith, most) in
    let further : n - m ≡ n - behind + (behind - m) = let most = s.most in omega (arith, most) in
    let zeros = rw same at w.zeros in
    let left_is : behind - (behind - m) ≡ m = let most = s.most in omega (arith, most) in
    let joined = rw same at w.unranked.joined in
    let front : take (n - m) y ≡ take (n - behind) y ++ replicate (behind - m) (pos 0) =
    ap (λ i. take i y) further ∙ take-add (n - behind) (behind - m) y
    ∙ ap (λ z. take (n - behind) y ++ z) (ap (take (behind - m)) zeros ∙ take-replicate (behind - m) behind (pos 0) (omega arith)) in
    record {
      unranked = record {
        few = w.unranked.few;
        inside = rw rest_is s.inside;
        joined = rw rest_is (λ rest g.
            joined (replicate (behind - m) (pos 0) ++ rest) (s.joined rest g)
            ∙ ap Some (sym (append_assoc (take (n - behind) y) (replicate (behind - m) (pos 0)) rest) ∙ ap (λ z. z ++ rest) (sym front)));
      };
      within = omega arith;
      long = w.long;
      zeros = ap (λ i. drop i y) further ∙ sym (drop-drop (behind - m) (n - behind) y) ∙ ap (drop (behind - m)) zeros
          ∙ drop-replicate (behind - m) behind (pos 0) ∙ ap (λ i. replicate i (pos 0)) (left_is ∙ sym rest_is);
    }

-- No pulse is left.
pub writing-none : (n k index : ℕ) (y : List ℤ) (i left at : ℕ) → left ≡ 0 → Writing n k index y i left at → slice_get (vectors n k) index ≡ Some y
writing-none n k index y i left at e w =
    let inside = rw (e, count-no-pulses (n - i)) at w.unranked.inside in
    let first : at ≡ 0 = omega arith in
    let joined = rw (e, first) at w.unranked.joined in
    joined (replicate (n - i) (pos 0)) (zeros-get (n - i)) ∙ ap Some (ap (λ z. take i y ++ z) (sym w.zeros) ∙ take-append-drop i y)

set-behind : (i p : ℕ) (y : List ℤ) (v : ℤ) → i ≤ length y → set y (i + p) v ≡ take i y ++ set (drop i y) p v
set-behind zero p y v h = let e : 0 + p ≡ p = omega arith in rw e refl
set-behind (suc i) p [] v h = absurd (omega arith)
set-behind (suc i) p (x ∷ xs) v h = let e : suc i + p ≡ suc (i + p) = omega arith in rw e (ap (λ z. x ∷ z) (set-behind i p xs v (omega arith)))

-- One is.
pub writing-one : (n k index : ℕ) (y : List ℤ) (i left at p : ℕ) (v : ℤ) → left ≡ 1 → Writing n k index y i left at
    → slice_get (vectors (n - i) 1) at ≡ Some (set (replicate (n - i) (pos 0)) p v) → slice_get (vectors n k) index ≡ Some (set y (i + p) v)
writing-one n k index y i left at p v e w g =
    let joined = rw e at w.unranked.joined in
    joined (set (replicate (n - i) (pos 0)) p v) g
    ∙ ap Some (ap (λ z. take i y ++ set z p v) (sym w.zeros) ∙ sym (set-behind i p y v (omega (arith, w.within, w.long))))

-- The same in the words of the code, by how many numbers are behind.
pub writing-left : (n k index : ℕ) (y : List ℤ) (behind left at : ℕ) → behind ≤ n → 1 ≤ left → Writing n k index y (n - behind) left at → 1 ≤ behind
writing-left n k index y behind left at b h w = omega (arith, writing-more n k index y (n - behind) left at h w)

pub writing-inside : (n k index : ℕ) (y : List ℤ) (behind left at : ℕ) → behind ≤ n → Writing n k index y (n - behind) left at → at < count_of behind left
writing-inside n k index y behind left at b w =
    let e : n - (n - behind) ≡ behind = omega arith in
    let h = rw e at w.unranked.inside in h

pub writing-turn : (n k index : ℕ) (y : List ℤ) (behind left at place : ℕ) (x : ℤ) (t r : ℕ) → 1 ≤ behind → behind ≤ n → place ≡ n - behind
    → Writing n k index y (n - behind) left at → Leads (behind - 1) left at x t r → Writing n k index (set y place x) (n - (behind - 1)) t r
writing-turn n k index y behind left at place x t r h b e w l =
    let next : n - (behind - 1) ≡ n - behind + 1 = omega arith in
    rw (next, e) (writing-next n k index y (n - behind) left at (behind - 1) x t r (omega arith) w l)

pub writing-end : (n k index : ℕ) (y : List ℤ) (behind left at place p : ℕ) (v : ℤ) → left ≡ 1 → behind ≤ n → place ≡ n - behind + p
    → Writing n k index y (n - behind) left at → slice_get (vectors behind 1) at ≡ Some (set (replicate behind (pos 0)) p v)
    → slice_get (vectors n k) index ≡ Some (set y place v)
writing-end n k index y behind left at place p v e b q w g =
    let same : n - (n - behind) ≡ behind = omega arith in
    rw q (writing-one n k index y (n - behind) left at p v e w (rw same g))
