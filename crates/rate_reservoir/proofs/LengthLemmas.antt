-- Lengths from a reservoir, and their sums.
use Rattle.std.proofs.Common.{◌≡◌, ℕ, zero, suc, ◌+◌, ◌-◌, ◌*◌, ◌≤◌, arith, refl, ap, List, [], ◌∷◌, ◌++◌, length}
use Rattle.std.specs.Prelude.{min, take, drop, sum, All, None}
use Rattle.std.proofs.lemmas.List.Sums.{sum_by-cons}
use Rattle.std.proofs.lemmas.List.Elements.{All-from_recursion, recursion_from_All}
use Rattle.std.specs.List.{AllByRecursion}
use Rattle.rate_reservoir.specs.Lengths.{frame_length, credit_behind, lengths_from, credit_from, lengths_of}
use Rattle.rate_reservoir.specs.Runs.{IsBrokenAt}

-- what a frame takes and leaves is no more than it has
within : (bytes most credit wish : ℕ) → frame_length bytes credit wish + credit_behind bytes most credit wish ≤ bytes + credit
unfolding frame_length credit_behind
within bytes most credit wish = omega arith

behind_most : (bytes most credit wish : ℕ) → credit_behind bytes most credit wish ≤ most
unfolding credit_behind
behind_most bytes most credit wish = omega arith

-- one wish more
pub lengths_more : (bytes most credit : ℕ) (wishes : List ℕ) (wish : ℕ) → lengths_from bytes most credit (wishes ++ wish ∷ []) ≡ lengths_from bytes most credit wishes ++ frame_length bytes (credit_from bytes most credit wishes) wish ∷ []
unfolding lengths_from credit_from
lengths_more bytes most credit [] wish = refl
lengths_more bytes most credit (w ∷ ws) wish = ap (λ xs. frame_length bytes credit w ∷ xs) (lengths_more bytes most (credit_behind bytes most credit w) ws wish)

pub credit_more : (bytes most credit : ℕ) (wishes : List ℕ) (wish : ℕ) → credit_from bytes most credit (wishes ++ wish ∷ []) ≡ credit_behind bytes most (credit_from bytes most credit wishes) wish
unfolding credit_from
credit_more bytes most credit [] wish = refl
credit_more bytes most credit (w ∷ ws) wish = credit_more bytes most (credit_behind bytes most credit w) ws wish

pub length-lengths : (bytes most credit : ℕ) (wishes : List ℕ) → length (lengths_from bytes most credit wishes) ≡ length wishes
unfolding lengths_from
length-lengths bytes most credit [] = refl
length-lengths bytes most credit (w ∷ ws) = ap suc (length-lengths bytes most (credit_behind bytes most credit w) ws)

-- what the code answers and keeps
pub length_is : (bytes credit wish b c m l : ℕ) → b ≡ bytes → c ≡ credit → m ≡ min wish 1275 → l ≡ min m (b + c) → l ≡ frame_length bytes credit wish
unfolding frame_length
length_is bytes credit wish b c m l e f g h = omega arith

pub credit_is : (bytes most credit wish b t c l k : ℕ) → b ≡ bytes → t ≡ most → c ≡ credit → l ≡ frame_length bytes credit wish → k ≡ min t (c + b - l) → k ≡ credit_behind bytes most credit wish
unfolding credit_behind
credit_is bytes most credit wish b t c l k e f g h i = omega arith

-- each length
one_length : (bytes credit wish : ℕ) → 2 ≤ bytes → 2 ≤ wish → (2 ≤ frame_length bytes credit wish) × (frame_length bytes credit wish ≤ 1275)
unfolding frame_length
one_length bytes credit wish b w = (omega arith, omega arith)

each_by : (bytes most credit : ℕ) (wishes : List ℕ) → 2 ≤ bytes → AllByRecursion (λ w. 2 ≤ w) wishes → AllByRecursion (λ n. (2 ≤ n) × (n ≤ 1275)) (lengths_from bytes most credit wishes)
unfolding lengths_from
each_by bytes most credit [] b h = h
each_by bytes most credit (w ∷ ws) b h = (one_length bytes credit w b h.0, each_by bytes most (credit_behind bytes most credit w) ws b h.1)

pub each_length : (bytes most : ℕ) (wishes : List ℕ) → 2 ≤ bytes → All (λ w. 2 ≤ w) wishes → All (λ n. (2 ≤ n) × (n ≤ 1275)) (lengths_of bytes most wishes)
each_length bytes most wishes b h = All-from_recursion _ _ (each_by bytes most 0 wishes b (recursion_from_All _ _ h))

-- the first m lengths
sum-cons : (x : ℕ) (xs : List ℕ) → sum (x ∷ xs) ≡ x + sum xs
sum-cons x xs = sum_by-cons (λ y. y) x xs

first_from : (bytes most credit : ℕ) (wishes : List ℕ) (m : ℕ) → sum (take m (lengths_from bytes most credit wishes)) ≤ m * bytes + credit
unfolding lengths_from
first_from bytes most credit [] zero = omega arith
first_from bytes most credit [] (suc m) = omega arith
first_from bytes most credit (w ∷ ws) zero = omega arith
first_from bytes most credit (w ∷ ws) (suc m) =
    let here = sum-cons (frame_length bytes credit w) (take m (lengths_from bytes most (credit_behind bytes most credit w) ws)) in
    let rest = first_from bytes most (credit_behind bytes most credit w) ws m in
    let one = within bytes most credit w in
    omega arith

pub first_lengths : (bytes most : ℕ) (wishes : List ℕ) (k : ℕ) → sum (take k (lengths_of bytes most wishes)) ≤ k * bytes
first_lengths bytes most wishes k = omega (arith, first_from bytes most 0 wishes k)

-- any m lengths in a row
run_from : (bytes most credit : ℕ) (wishes : List ℕ) (start m : ℕ) → credit ≤ most → sum (take m (drop start (lengths_from bytes most credit wishes))) ≤ m * bytes + most
unfolding lengths_from
run_from bytes most credit wishes zero m h = omega (arith, first_from bytes most credit wishes m)
run_from bytes most credit [] (suc start) zero h = omega arith
run_from bytes most credit [] (suc start) (suc m) h = omega arith
run_from bytes most credit (w ∷ ws) (suc start) m h = run_from bytes most (credit_behind bytes most credit w) ws start m (behind_most bytes most credit w)

pub run_lengths : (bytes most : ℕ) (wishes : List ℕ) (start m : ℕ) → sum (take m (drop start (lengths_of bytes most wishes))) ≤ m * bytes + most
run_lengths bytes most wishes start m = run_from bytes most 0 wishes start m (omega arith)

pub keeps : (bytes most : ℕ) (wishes : List ℕ) → IsBrokenAt bytes most (lengths_of bytes most wishes) None
keeps bytes most wishes f e = let r = run_lengths bytes most wishes e.start e.m in let x = e.exceeds in absurd (omega arith)
