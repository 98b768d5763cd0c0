-- The lengths of the table's rows: computed once, by the recurrence over the sums.
use Rattle.std.proofs.Common.{◌≡◌, ◌^◌, ℕ, zero, suc, ◌+◌, ◌-◌, ◌<◌, ◌≤◌, ◌⊎◌, inl, inr, List, [], ◌∷◌, length, take, drop, get_or, replicate, refl, sym, ◌∙◌, ap, arith}
use Rattle.std.specs.Prelude.{Bool, true, false, ◌&&◌, ◌||◌, nat_lt, nat_le, nat_eq}
use Rattle.std.proofs.lemmas.Bool.{leb-true, ltb-true, eqb-true, or_cases}
use Rattle.std.proofs.lemmas.List.{get_or-take, get_or-drop, get_or-replicate, length-take, length-replicate}
use Rattle.pulse_vectors.specs.declared.constants.TheConstants.{STARTS, SUMS}
use Rattle.pulse_vectors.specs.Rows.{count_below}
use Rattle.pulse_vectors.specs.Tables.{start_of}
use Rattle.pulse_vectors.specs.Vectors.{count_of}
use Rattle.pulse_vectors.proofs.Places.{count-suc, below-suc, below-zero}
use Rattle.pulse_vectors.proofs.RowSteps.{count-none, count-none-suc}

-- The sums of one number more, from the sums of m numbers: S(m + 1, t) = S(m + 1, t - 1) + S(m, t - 1) + S(m, t).
unfoldable pub sums_after : ℕ → ℕ → List ℕ → List ℕ
sums_after last before [] = []
sums_after last before (x ∷ xs) = let now = last + before + x in now ∷ sums_after now x xs

-- The first n items of one list are those of another.
unfoldable pub agree : ℕ → List ℕ → List ℕ → Bool
agree zero xs ys = true
agree (suc n) [] ys = false
agree (suc n) (x ∷ xs) [] = false
agree (suc n) (x ∷ xs) (y ∷ ys) = nat_eq x y && agree n xs ys

-- A row of the table that holds w sums behind its 0 and ends at end, after one of past sums: its length, and the sums that it and its neighbour stand for.
unfoldable pub row_fits : ℕ → ℕ → ℕ → List ℕ → List ℕ → Bool
row_fits past w end row table =
    nat_le 2 w && (nat_le w past && (nat_le end 2139 && (nat_lt (get_or row (w - 1) 0 + get_or row (w - 2) 0) (2 ^ 32)
    && (nat_lt (w - 1) (length row) && ((nat_eq w 129 || (nat_lt w (length row) && nat_le (2 ^ 32) (get_or row w 0 + get_or row (w - 1) 0)))
    && agree (suc w) (0 ∷ row) table)))))

-- The rows that begin at start and end at ends, the first of them the sums in row, stand at the front of the table.
unfoldable pub rows_fit : ℕ → ℕ → List ℕ → List ℕ → List ℕ → Bool
rows_fit past start [] row table = true
rows_fit past start (end ∷ ends) row table =
    nat_lt start end && (row_fits past (end - start - 1) end row table
    && rows_fit (end - start - 1) end ends (take (end - start) (sums_after 0 0 row)) (drop (end - start) table))

unfoldable pub ends : List ℕ
ends = drop_first STARTS
  where
    drop_first : List ℕ → List ℕ
    drop_first [] = []
    drop_first (x ∷ xs) = xs

table_fits : rows_fit 129 0 ends (replicate 129 1) SUMS ≡ true
unfolding rows_fit row_fits sums_after agree ends
table_fits = refl

pub both : (a b : Bool) → (a && b) ≡ true → (a ≡ true) × (b ≡ true)
both true b e = (refl, e)
both false b e = cc

-- The list is S(m, 0), S(m, 1), ..
pub record IsSumRow (m : ℕ) (row : List ℕ) : Type 0 where
  pub each : (t : ℕ) → t < length row → get_or row t 0 ≡ count_below m (suc t)

pub first_sum : (t : ℕ) → count_below 0 (suc t) ≡ 1
first_sum zero = omega (arith, below-suc 0 0, below-zero 0, count-none)
first_sum (suc t) = omega (arith, below-suc 0 (suc t), count-none-suc t, first_sum t)

pub sum_row-first : IsSumRow 0 (replicate 129 1)
sum_row-first = record { each = λ t h. get_or-replicate 129 t 1 0 (omega (arith, length-replicate {A = ℕ} 129 1)) ∙ sym (first_sum t) }

-- S(m + 1, t) = S(m + 1, t - 1) + S(m, t - 1) + S(m, t).
pub sum-step : (m t : ℕ) → count_below (suc m) (suc t) ≡ count_below (suc m) t + count_below m t + count_below m (suc t)
sum-step m t = omega (arith, below-suc (suc m) t, count-suc m t, below-suc m t)

length-sums_after : (last before : ℕ) (xs : List ℕ) → length (sums_after last before xs) ≡ length xs
unfolding sums_after
length-sums_after last before [] = refl
length-sums_after last before (x ∷ xs) = ap suc (length-sums_after (last + before + x) x xs)

get-sums_after : (m j last before : ℕ) (xs : List ℕ) → last ≡ count_below (suc m) j → before ≡ count_below m j
    → ((i : ℕ) → i < length xs → get_or xs i 0 ≡ count_below m (suc (j + i)))
    → (i : ℕ) → i < length xs → get_or (sums_after last before xs) i 0 ≡ count_below (suc m) (suc (j + i))
unfolding sums_after
get-sums_after m j last before [] e1 e2 f i h = absurd (omega arith)
get-sums_after m j last before (x ∷ xs) e1 e2 f zero h =
    let here : j + 0 ≡ j = omega arith in
    let x-is = rw here at (f 0 h) in
    rw here (omega (arith, x-is, sum-step m j))
get-sums_after m j last before (x ∷ xs) e1 e2 f (suc i) h =
    let here : j + 0 ≡ j = omega arith in
    let x-is = rw here at (f 0 (omega arith)) in
    let next : j + suc i ≡ suc j + i = omega arith in
    rw next (get-sums_after m (suc j) (last + before + x) x xs (omega (arith, x-is, sum-step m j)) x-is
    (λ k b. let e : suc j + k ≡ j + suc k = omega arith in rw e (f (suc k) (omega arith))) i (omega arith))

pub sum_row-next : (m w : ℕ) (row : List ℕ) → IsSumRow m row → IsSumRow (suc m) (take w (sums_after 0 0 row))
sum_row-next m w row r = record {
  each = λ t h.
      let short : t < w = omega (arith, length-take w (sums_after 0 0 row)) in
      let long : t < length row = omega (arith, length-take w (sums_after 0 0 row), length-sums_after 0 0 row) in
      let from : 0 + t ≡ t = omega arith in
      let all = get-sums_after m 0 0 0 row (sym (below-zero (suc m))) (sym (below-zero m))
      (λ i b. let e : 0 + i ≡ i = omega arith in rw e (r.each i b)) t long in
      get_or-take w (sums_after 0 0 row) t 0 short ∙ rw from at all;
}

-- What the test of a row says of the sums in it, and of the counts of vectors with one number more.
pub record RowFacts (m past start end : ℕ) (table : List ℕ) : Type 0 where
  pub two : start + 3 ≤ end
  pub narrow : end ≤ start + past + 1
  pub last : end ≤ 2139
  pub fits : count_of (suc m) (end - start - 2) < 2 ^ 32
  pub enough : (end ≡ start + 130) ⊎ (2 ^ 32 ≤ count_of (suc m) (end - start - 1))
  pub sums : (t : ℕ) → start + t < end → get_or table (start + t) 0 ≡ count_below m t

pub count-sums : (m t : ℕ) → count_of (suc m) (suc t) ≡ count_below m (suc (suc t)) + count_below m (suc t)
count-sums m t = omega (arith, count-suc m (suc t), below-suc m (suc t))

sums_fit : (m v : ℕ) (row : List ℕ) → IsSumRow m row → suc v < length row → get_or row (suc v) 0 + get_or row v 0 < 2 ^ 32
    → count_of (suc m) (suc v) < 2 ^ 32
sums_fit m v row r l h = omega (arith, count-sums m v, r.each (suc v) l, r.each v (omega arith))

sums_fill : (m v : ℕ) (row : List ℕ) → IsSumRow m row → suc v < length row → 2 ^ 32 ≤ get_or row (suc v) 0 + get_or row v 0
    → 2 ^ 32 ≤ count_of (suc m) (suc v)
sums_fill m v row r l h = omega (arith, count-sums m v, r.each (suc v) l, r.each v (omega arith))

row-enough : (m w u : ℕ) (row : List ℕ) → w ≡ suc u → IsSumRow m row → w < length row → 2 ^ 32 ≤ get_or row w 0 + get_or row u 0
    → 2 ^ 32 ≤ count_of (suc m) w
row-enough m w u row e r l h =
    let l' = rw e at l in
    let h' = rw e at h in
    rw e (sums_fill m u row r l' h')

pub agree-at : (n : ℕ) (xs ys : List ℕ) → agree n xs ys ≡ true → (k : ℕ) → k < n → get_or ys k 0 ≡ get_or xs k 0
unfolding agree
agree-at zero xs ys e k h = absurd (omega arith)
agree-at (suc n) [] ys e k h = cc
agree-at (suc n) (x ∷ xs) [] e k h = cc
agree-at (suc n) (x ∷ xs) (y ∷ ys) e zero h = sym (eqb-true x y (both _ _ e).0)
agree-at (suc n) (x ∷ xs) (y ∷ ys) e (suc k) h = agree-at n xs ys (both _ _ e).1 k (omega arith)

row-sums : (m w : ℕ) (row table : List ℕ) → IsSumRow m row → w ≤ length row → agree (suc w) (0 ∷ row) table ≡ true
    → (t : ℕ) → t < suc w → get_or table t 0 ≡ count_below m t
row-sums m w row table r l e zero h = agree-at (suc w) (0 ∷ row) table e 0 h ∙ sym (below-zero m)
row-sums m w row table r l e (suc t) h = agree-at (suc w) (0 ∷ row) table e (suc t) h ∙ r.each t (omega arith)

-- The table is the rest of the whole one from start on.
abbrev pub IsRest : List ℕ → ℕ → List ℕ → Type 0
IsRest all start table = (t : ℕ) → get_or table t 0 ≡ get_or all (start + t) 0

row-facts : (m past start end w : ℕ) (row table all : List ℕ) → start < end → end ≡ start + w + 1 → IsSumRow m row → IsRest all start table
    → row_fits past w end row table ≡ true → RowFacts m past start end all
unfolding row_fits
row-facts m past start end w row table all o q r rest e =
    let a = both _ _ e in
    let b = both _ _ a.1 in
    let c = both _ _ b.1 in
    let d = both _ _ c.1 in
    let f = both _ _ d.1 in
    let g = both _ _ f.1 in
    let two : 2 ≤ w = leb-true 2 w a.0 in
    let narrow : w ≤ past = leb-true w past b.0 in
    let last : end ≤ 2139 = leb-true end 2139 c.0 in
    let sum : get_or row (w - 1) 0 + get_or row (w - 2) 0 < 2 ^ 32 = ltb-true _ _ d.0 in
    let long : w - 1 < length row = ltb-true _ _ f.0 in
    let e1 : w - 1 ≡ suc (w - 2) = omega arith in
    let e2 : end - start - 2 ≡ suc (w - 2) = omega arith in
    let e3 : end - start - 1 ≡ w = omega arith in
    let sum' = rw e1 at sum in
    let long' = rw e1 at long in
    record {
      two = omega arith;
      narrow = omega arith;
      last = last;
      fits = rw e2 (sums_fit m (w - 2) row r long' sum');
      enough = elim (or_cases _ _ g.0) [
        | inl full ↦ inl (let w129 : w ≡ 129 = eqb-true _ _ full in omega arith)
        | inr more ↦
            let h = both _ _ more in
            let l : w < length row = ltb-true _ _ h.0 in
            let k : 2 ^ 32 ≤ get_or row w 0 + get_or row (w - 1) 0 = leb-true _ _ h.1 in
            inr (rw e3 (row-enough m w (w - 1) row (omega arith) r l k))
      ];
      sums = λ t h. sym (rest t) ∙ row-sums m w row table r (omega arith) g.1 t (omega arith);
    }

-- Where row j begins and ends, and how many sums the row before it holds, in a list of ends behind a start.
pub past_at : ℕ → List ℕ → ℕ → ℕ
past_at past starts zero = past
past_at past starts (suc j) = get_or starts (suc j) 0 - get_or starts j 0 - 1

pub rest-next : (all table : List ℕ) (start end : ℕ) → start < end → IsRest all start table → IsRest all end (drop (end - start) table)
rest-next all table start end o rest t =
    let e : start + (end - start + t) ≡ end + t = omega arith in
    get_or-drop (end - start) table t 0 ∙ rest (end - start + t) ∙ ap (λ k. get_or all k 0) e

rows-sound : (m past start : ℕ) (list row table all : List ℕ) → IsSumRow m row → IsRest all start table → rows_fit past start list row table ≡ true
    → (j : ℕ) → j < length list → RowFacts (m + j) (past_at past (start ∷ list) j) (get_or (start ∷ list) j 0) (get_or list j 0) all
unfolding rows_fit past_at
rows-sound m past start [] row table all r rest e j h = absurd (omega arith)
rows-sound m past start (end ∷ list) row table all r rest e zero h =
    let here : m + 0 ≡ m = omega arith in
    let o : start < end = ltb-true _ _ (both _ _ e).0 in
    rw here (row-facts m past start end (end - start - 1) row table all o (omega arith) r rest (both _ _ (both _ _ e).1).0)
rows-sound m past start (end ∷ list) row table all r rest e (suc zero) h =
    let next : m + 1 ≡ suc m + 0 = omega arith in
    let o : start < end = ltb-true _ _ (both _ _ e).0 in
    rw next (rows-sound (suc m) (end - start - 1) end list (take (end - start) (sums_after 0 0 row)) (drop (end - start) table) all
    (sum_row-next m (end - start) row r) (rest-next all table start end o rest) (both _ _ (both _ _ e).1).1 zero (omega arith))
rows-sound m past start (end ∷ list) row table all r rest e (suc (suc j)) h =
    let next : m + suc (suc j) ≡ suc m + suc j = omega arith in
    let o : start < end = ltb-true _ _ (both _ _ e).0 in
    rw next (rows-sound (suc m) (end - start - 1) end list (take (end - start) (sums_after 0 0 row)) (drop (end - start) table) all
    (sum_row-next m (end - start) row r) (rest-next all table start end o rest) (both _ _ (both _ _ e).1).1 (suc j) (omega arith))

pub ends-long : length ends ≡ 176
unfolding ends
ends-long = refl

pub rest-all : (all : List ℕ) → IsRest all 0 all
rest-all all t = let e : 0 + t ≡ t = omega arith in rw e refl

-- The facts of row m, for vectors of m + 1 numbers.
pub table-facts : (m : ℕ) → m < 176 → RowFacts m (past_at 129 STARTS m) (start_of m) (start_of (suc m)) SUMS
unfolding start_of ends
table-facts m h =
    let same : 0 + m ≡ m = omega arith in
    let f = rw same at (rows-sound 0 129 0 ends (replicate 129 1) SUMS SUMS sum_row-first (rest-all SUMS) table_fits m (omega (arith, ends-long))) in
    f

pub past-next : (m : ℕ) → past_at 129 STARTS (suc m) ≡ start_of (suc m) - start_of m - 1
unfolding past_at start_of
past-next m = refl
