-- The length of a page by its own fields.
use Rattle.std.proofs.Common.{◌≡◌, ℕ, suc, ◌+◌, ◌*◌, ◌<◌, ◌≤◌, List, [], ◌∷◌, length, get_or, sum, arith, length-take, get_or-drop, ◌⊎◌, inl, inr}
use Rattle.std.proofs.lemmas.List.{get_or-take, get_or_past}
use Rattle.std.proofs.lemmas.Bool.{cases_lt}
use Rattle.std.proofs.lemmas.List.Sums.{sum_by-cons}
use Rattle.ogg_pages.specs.Bounds.{segments_of, lacing_of}

-- bytes add up to at most 255 each
pub sum-bytes : (xs : List ℕ) → ((k : ℕ) → get_or xs k 0 < 256) → sum xs ≤ 255 * length xs
sum-bytes [] small = omega arith
sum-bytes (x ∷ xs) small =
    let rest = sum-bytes xs (λ k. small (suc k)) in
    let first : x < 256 = small 0 in
    let e : sum (x ∷ xs) ≡ x + sum xs = sum_by-cons (λ n. n) x xs in
    omega arith

-- there are at most 255 lacing values
pub lacing-sum : (bytes : List ℕ) → ((k : ℕ) → get_or bytes k 0 < 256) → sum (lacing_of bytes) ≤ 65025
lacing-sum bytes small =
    let some : length (lacing_of bytes) ≤ 255 = simp length-take (let s = small 26 in omega arith) in
    let each : (k : ℕ) → get_or (lacing_of bytes) k 0 < 256 = λ k. lacing_small k (cases_lt k (segments_of bytes)) in
    omega (arith, sum-bytes (lacing_of bytes) each)
  where
    lacing_small : (k : ℕ) → (k < segments_of bytes) ⊎ (segments_of bytes ≤ k) → get_or (lacing_of bytes) k 0 < 256
    lacing_small k (inl inside) = rw (get_or-take, get_or-drop) (small (27 + k))
    lacing_small k (inr past) = rw (get_or_past (lacing_of bytes) k 0 (simp length-take (omega arith))) (omega arith)
