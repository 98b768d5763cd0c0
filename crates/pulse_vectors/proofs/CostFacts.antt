-- The table of the costs: computed once, from the sums as they are made row by row.
use Rattle.std.proofs.Common.{◌≡◌, ℕ, zero, suc, ◌+◌, ◌-◌, ◌<◌, ◌≤◌, ◌⊎◌, inl, inr, List, [], ◌∷◌, length, take, drop, get_or, replicate, refl, ◌∙◌, ap, arith}
use Rattle.std.specs.Prelude.{Bool, true, false, ◌&&◌, ◌||◌, nat_lt, nat_le, nat_eq}
use Rattle.std.proofs.lemmas.Bool.{cases_lt, leb-true, ltb-true, eqb-true, or_cases}
use Rattle.pulse_vectors.specs.declared.constants.TheConstants.{COST_STARTS, COSTS}
use Rattle.pulse_vectors.specs.Costs.{greatest, pulses_at, log_digits, log_whole, log_eighths, cost_at}
use Rattle.pulse_vectors.specs.Tables.{start_of, cost_start_of}
use Rattle.pulse_vectors.specs.Vectors.{count_of}
use Rattle.pulse_vectors.proofs.TableFacts.{both, sums_after, ends, IsSumRow, IsRest, sum_row-first, sum_row-next, rest-next, rest-all, ends-long, count-sums}

-- What an index costs for vectors of one number more than the row's.
unfoldable pub cost_by : List ℕ → ℕ → ℕ
cost_by row zero = 0
cost_by row (suc q) = log_eighths (get_or row (pulses_at (suc q)) 0 + get_or row (pulses_at (suc q) - 1) 0)

-- The costs of the n indices from q on stand at the front of the list.
unfoldable pub costs_match : List ℕ → ℕ → ℕ → List ℕ → Bool
costs_match row q zero costs = true
costs_match row q (suc n) [] = false
costs_match row q (suc n) (c ∷ costs) = nat_eq c (cost_by row q) && (nat_le c 264 && costs_match row (suc q) n costs)

-- A row of the costs up to the index top, where the row of the sums holds w of them.
unfoldable pub costs_fit : ℕ → ℕ → List ℕ → List ℕ → Bool
costs_fit w top row costs =
    nat_le w (length row) && (nat_le top 40 && (nat_lt (pulses_at top) w && ((nat_eq top 40 || nat_le w (pulses_at (suc top)))
    && costs_match row 0 (suc top) costs)))

unfoldable pub all_costs_fit : ℕ → List ℕ → ℕ → List ℕ → List ℕ → List ℕ → Bool
all_costs_fit start [] cost_start cost_rest row costs = true
all_costs_fit start (end ∷ rest) cost_start [] row costs = false
all_costs_fit start (end ∷ rest) cost_start (cost_end ∷ cost_rest) row costs =
    (nat_lt cost_start cost_end && nat_le cost_end 1418) && (costs_fit (end - start - 1) (cost_end - cost_start - 1) row costs
    && all_costs_fit end rest cost_end cost_rest (take (end - start) (sums_after 0 0 row)) (drop (cost_end - cost_start) costs))

unfoldable pub cost_ends : List ℕ
cost_ends = drop_first COST_STARTS
  where
    drop_first : List ℕ → List ℕ
    drop_first [] = []
    drop_first (x ∷ xs) = xs

costs_tested : all_costs_fit 0 ends 0 cost_ends (replicate 129 1) COSTS ≡ true
unfolding all_costs_fit costs_fit costs_match cost_by pulses_at greatest log_digits log_whole log_eighths sums_after ends cost_ends
costs_tested = refl

-- A test that holds of each number below a bound.
unfoldable pub holds_below : (ℕ → Bool) → ℕ → Bool
holds_below p zero = true
holds_below p (suc n) = p n && holds_below p n

holds-at : (p : ℕ → Bool) (n k : ℕ) → holds_below p n ≡ true → k < n → p k ≡ true
unfolding holds_below
holds-at p zero k e h = absurd (omega arith)
holds-at p (suc n) k e h = elim (cases_lt k n) [
  | inl less ↦ holds-at p n k (both _ _ e).1 less
  | inr last ↦ let same : k ≡ n = omega arith in rw same (both _ _ e).0
]

-- An index stands for at least as many pulses, for at most 128, and the next for no fewer.
abbrev pulses_test : ℕ → Bool
pulses_test q = nat_le q (pulses_at q) && (nat_le (pulses_at q) 128 && nat_le (pulses_at (q - 1)) (pulses_at q))

pulses-tested : holds_below pulses_test 41 ≡ true
unfolding holds_below pulses_at
pulses-tested = refl

pub pulses-least : (q : ℕ) → q ≤ 40 → q ≤ pulses_at q
pulses-least q h = leb-true _ _ (both _ _ (holds-at pulses_test 41 q pulses-tested (omega arith))).0

pub pulses-most : (q : ℕ) → q ≤ 40 → pulses_at q ≤ 128
pulses-most q h = leb-true _ _ (both _ _ (both _ _ (holds-at pulses_test 41 q pulses-tested (omega arith))).1).0

pulses-next : (q : ℕ) → suc q ≤ 40 → pulses_at q ≤ pulses_at (suc q)
pulses-next q h =
    let e : suc q - 1 ≡ q = omega arith in
    let t : pulses_at (suc q - 1) ≤ pulses_at (suc q) = leb-true _ _ (both _ _ (both _ _ (holds-at pulses_test 41 (suc q) pulses-tested (omega arith))).1).1 in
    rw e at t

pub pulses_rise : (q r : ℕ) → q ≤ r → r ≤ 40 → pulses_at q ≤ pulses_at r
pulses_rise q zero h l = let e : q ≡ 0 = omega arith in rw e (omega arith)
pulses_rise q (suc r) h l = elim (cases_lt r q) [
  | inl last ↦ let e : q ≡ suc r = omega arith in rw e (omega arith)
  | inr within ↦ omega (arith, pulses_rise q r within (omega arith), pulses-next r l)
]

cost_by-is : (m q : ℕ) (row : List ℕ) → IsSumRow m row → pulses_at q < length row → q ≤ 40 → cost_by row q ≡ cost_at (suc m) q
unfolding cost_by cost_at
cost_by-is m zero row r h b = refl
cost_by-is m (suc q) row r h b = ap log_eighths (count-of-sums m (pulses_at (suc q)) row r (omega (arith, pulses-least (suc q) b)) h)
  where
    count-of-sums : (m k : ℕ) (row : List ℕ) → IsSumRow m row → 1 ≤ k → k < length row → get_or row k 0 + get_or row (k - 1) 0 ≡ count_of (suc m) k
    count-of-sums m zero row r o l = absurd (omega arith)
    count-of-sums m (suc v) row r o l =
        let e : suc v - 1 ≡ v = omega arith in
        rw e (omega (arith, count-sums m v, r.each (suc v) l, r.each v (omega arith)))

pub record IsCost (m q c : ℕ) : Type 0 where
  pub exact : c ≡ cost_at (suc m) q
  pub most : c ≤ 264

costs_match-at : (m from n : ℕ) (row costs : List ℕ) → IsSumRow m row → ((q : ℕ) → q < from + n → (pulses_at q < length row) × (q ≤ 40))
    → costs_match row from n costs ≡ true → (k : ℕ) → k < n → IsCost m (from + k) (get_or costs k 0)
unfolding costs_match
costs_match-at m from zero row costs r long e k h = absurd (omega arith)
costs_match-at m from (suc n) row [] r long e k h = cc
costs_match-at m from (suc n) row (c ∷ costs) r long e zero h =
    let here : from + 0 ≡ from = omega arith in
    rw here (record {
      exact = eqb-true c (cost_by row from) (both _ _ e).0 ∙ cost_by-is m from row r (long from (omega arith)).0 (long from (omega arith)).1;
      most = leb-true c 264 (both _ _ (both _ _ e).1).0;
    })
costs_match-at m from (suc n) row (c ∷ costs) r long e (suc k) h =
    let next : from + suc k ≡ suc from + k = omega arith in
    rw next (costs_match-at m (suc from) n row costs r (λ q l. long q (omega arith)) (both _ _ (both _ _ e).1).1 k (omega arith))

-- What the tests say of the costs of vectors with one number more than the row's, which holds w sums.
pub record CostFacts (m w start end : ℕ) (all : List ℕ) : Type 0 where
  pub some : start < end
  pub last : end ≤ 1418
  pub top : end - start - 1 ≤ 40
  pub fits : pulses_at (end - start - 1) < w
  pub past : (end - start - 1 ≡ 40) ⊎ (w ≤ pulses_at (suc (end - start - 1)))
  pub costs : (q : ℕ) → start + q < end → IsCost m q (get_or all (start + q) 0)

cost-facts : (m w start end top : ℕ) (row costs all : List ℕ) → start < end → end ≤ 1418 → end ≡ start + top + 1 → IsSumRow m row → IsRest all start costs
    → costs_fit w top row costs ≡ true → CostFacts m w start end all
unfolding costs_fit
cost-facts m w start end top row costs all o l q r rest e =
    let a = both _ _ e in
    let b = both _ _ a.1 in
    let c = both _ _ b.1 in
    let d = both _ _ c.1 in
    let same : end - start - 1 ≡ top = omega arith in
    let long : w ≤ length row = leb-true w (length row) a.0 in
    let few : top ≤ 40 = leb-true top 40 b.0 in
    let under : pulses_at top < w = ltb-true (pulses_at top) w c.0 in
    record {
      some = o;
      last = l;
      top = omega arith;
      fits = rw same under;
      past = rw same (elim (or_cases _ _ d.0) [
        | inl full ↦ inl (eqb-true top 40 full)
        | inr more ↦ inr (leb-true w (pulses_at (suc top)) more)
      ]);
      costs = λ k h. rw (← rest k) (let zero_is : 0 + k ≡ k = omega arith in
          let p = costs_match-at m 0 (suc top) row costs r (λ j b. (omega (arith, pulses_rise j top (omega arith) few), omega arith)) d.1 k (omega arith) in
          rw zero_is at p);
    }

all_costs-sound : (m start cost_start : ℕ) (list cost_list row costs all : List ℕ) → IsSumRow m row → IsRest all cost_start costs
    → all_costs_fit start list cost_start cost_list row costs ≡ true → (j : ℕ) → j < length list
    → CostFacts (m + j) (get_or list j 0 - get_or (start ∷ list) j 0 - 1) (get_or (cost_start ∷ cost_list) j 0) (get_or cost_list j 0) all
unfolding all_costs_fit
all_costs-sound m start cost_start [] cost_list row costs all r rest e j h = absurd (omega arith)
all_costs-sound m start cost_start (end ∷ list) [] row costs all r rest e j h = cc
all_costs-sound m start cost_start (end ∷ list) (cost_end ∷ cost_list) row costs all r rest e zero h =
    let a = both _ _ e in
    let b = both _ _ a.0 in
    let here : m + 0 ≡ m = omega arith in
    let o : cost_start < cost_end = ltb-true cost_start cost_end b.0 in
    let l : cost_end ≤ 1418 = leb-true cost_end 1418 b.1 in
    rw here (cost-facts m (end - start - 1) cost_start cost_end (cost_end - cost_start - 1) row costs all o l (omega arith) r rest (both _ _ a.1).0)
all_costs-sound m start cost_start (end ∷ list) (cost_end ∷ cost_list) row costs all r rest e (suc zero) h =
    let a = both _ _ e in
    let next : m + 1 ≡ suc m + 0 = omega arith in
    let o : cost_start < cost_end = ltb-true cost_start cost_end (both _ _ a.0).0 in
    rw next (all_costs-sound (suc m) end cost_end list cost_list (take (end - start) (sums_after 0 0 row)) (drop (cost_end - cost_start) costs) all
    (sum_row-next m (end - start) row r) (rest-next all costs cost_start cost_end o rest) (both _ _ a.1).1 zero (omega arith))
all_costs-sound m start cost_start (end ∷ list) (cost_end ∷ cost_list) row costs all r rest e (suc (suc j)) h =
    let a = both _ _ e in
    let next : m + suc (suc j) ≡ suc m + suc j = omega arith in
    let o : cost_start < cost_end = ltb-true cost_start cost_end (both _ _ a.0).0 in
    rw next (all_costs-sound (suc m) end cost_end list cost_list (take (end - start) (sums_after 0 0 row)) (drop (cost_end - cost_start) costs) all
    (sum_row-next m (end - start) row r) (rest-next all costs cost_start cost_end o rest) (both _ _ a.1).1 (suc j) (omega arith))

-- The costs of vectors of m + 1 numbers.
pub costs-facts : (m : ℕ) → m < 176 → CostFacts m (start_of (suc m) - start_of m - 1) (cost_start_of m) (cost_start_of (suc m)) COSTS
unfolding start_of cost_start_of ends cost_ends
costs-facts m h =
    let same : 0 + m ≡ m = omega arith in
    let f = rw same at (all_costs-sound 0 0 0 ends cost_ends (replicate 129 1) COSTS COSTS sum_row-first (rest-all COSTS) costs_tested m (omega (arith, ends-long))) in
    f
