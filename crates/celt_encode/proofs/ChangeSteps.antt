-- Joins of runs, one after the other.
use Rattle.std.proofs.Common.{◌≡◌, ℕ, ℤ, zero, suc, ◌+◌, ◌-◌, ◌*◌, ◌/◌, ◌%◌, ◌^◌, Bool, ◌<◌, ◌≤◌, List, length, refl, ◌∙◌, ap, subst, arith, unsigned_abs, All}
use Rattle.std.proofs.Common.{inl, inr}
use Rattle.std.proofs.lemmas.Bool.{cases_lt}
use Rattle.std.proofs.Math.Nat.{mod-eq_of_lt, div-mul-le_self}
use Rattle.std.proofs.lemmas.List.Elements.{All-weaker}
use Rattle.fixed_math.specs.Items.{item}
use Rattle.fixed_math.proofs.ItemLemmas.{all_listed, item_within}
use Rattle.tf_change.specs.Order.{ordered, block_at}
use Rattle.celt_encode.specs.Changes.{halved, joined, grown}

-- what a loop has made of `from` after so many joins
pub record Joining (from now : List ℤ) (count stride many run times : ℕ) : Type 0 where
  pub same : record { items = now; count = many; stride = run } ≡ joined times (record { items = from; count = count; stride = stride })
  pub len : length now ≡ length from
  pub some : 1 ≤ run
  pub runs : length now ≡ many * run
  pub within : All (λ v. unsigned_abs v ≤ grown times) now

pub joining_none : (from : List ℤ) (count stride : ℕ) → 1 ≤ stride → length from ≡ count * stride → All (λ v. unsigned_abs v ≤ 2 ^ 15) from
    → Joining from from count stride count stride 0
unfolding joined grown
joining_none from count stride some runs within = record { same = refl; len = refl; some = some; runs = runs; within = within }

pub joining_more : (from now next : List ℤ) (count stride many run left wide times : ℕ)
    → Joining from now count stride many run times
    → record { items = next; count = left; stride = wide } ≡ halved (record { items = now; count = many; stride = run })
    → length next ≡ length now
    → 1 ≤ wide
    → length next ≡ left * wide
    → ((m : ℕ) → All (λ v. unsigned_abs v ≤ m) now → All (λ v. unsigned_abs v ≤ m + m / 2 + 1) next)
    → Joining from next count stride left wide (times + 1)
unfolding joined grown
joining_more from now next count stride many run left wide times j e len some runs growth =
    let s : suc times ≡ times + 1 = omega arith in
    subst (Joining from next count stride left wide) s
    (record { same = e ∙ ap halved j.same; len = len ∙ j.len; some = some; runs = runs; within = growth (grown times) j.within })

grown_small : (times : ℕ) → times ≤ 3 → grown times < 2 ^ 20
unfolding grown
grown_small zero le = omega arith
grown_small (suc zero) le = omega arith
grown_small (suc (suc zero)) le = omega arith
grown_small (suc (suc (suc zero))) le = omega arith
grown_small (suc (suc (suc (suc n)))) le = absurd (omega arith)

pub joining_small : (xs : List ℤ) (times : ℕ) → times ≤ 3 → All (λ v. unsigned_abs v ≤ grown times) xs → All (λ v. unsigned_abs v < 2 ^ 20) xs
joining_small xs times le a =
    let e = grown_small times le in
    All-weaker (λ v. unsigned_abs v ≤ grown times) (λ v. unsigned_abs v < 2 ^ 20) (λ v p. omega (arith, e, p)) xs a

pub stride_small : (count stride len : ℕ) → 1 ≤ len → len ≤ 176 → len ≡ count * stride → stride ≤ 176
stride_small zero stride len some most e = absurd (omega (arith, e, some))
stride_small (suc n) stride len some most e = let f : suc n * stride ≡ stride + n * stride = omega arith in omega (arith, e, f, most)

pub count_small : (count stride len : ℕ) → 1 ≤ stride → len ≤ 176 → len ≡ count * stride → count ≤ 176
count_small count (suc n) len some most e = let f : count * suc n ≡ count + count * n = omega arith in omega (arith, e, f, most)
count_small count zero len some most e = absurd (omega arith)

pub halves_runs : (len count stride : ℕ) → count % 2 ≡ 0 → len ≡ count * stride → len ≡ count / 2 * (stride * 2)
halves_runs len count stride even e =
    let twice : count ≡ count / 2 * 2 = omega arith in
    let f : count / 2 * 2 * stride ≡ count / 2 * (stride * 2) = omega arith in
    e ∙ ap (λ n. n * stride) twice ∙ f

pub blocks_small : (n s : ℕ) (hadamard : Bool) (xs : List ℤ) → All (λ v. unsigned_abs v < 2 ^ 20) xs → All (λ v. unsigned_abs v < 2 ^ 20) (ordered n s hadamard xs)
unfolding ordered
blocks_small n s hadamard xs a =
    all_listed (λ v. unsigned_abs v < 2 ^ 20) (ordered n s hadamard xs) (length xs) (λ p. item xs (p % n * s + block_at hadamard s (p / n))) refl
    (λ p h. item_small xs (p % n * s + block_at hadamard s (p / n)) a)
  where
    item_small : (xs : List ℤ) (p : ℕ) → All (λ v. unsigned_abs v < 2 ^ 20) xs → unsigned_abs (item xs p) < 2 ^ 20
    item_small xs p a =
        let weak : All (λ v. unsigned_abs v ≤ 2 ^ 20 - 1) xs = All-weaker (λ v. unsigned_abs v < 2 ^ 20) (λ v. unsigned_abs v ≤ 2 ^ 20 - 1) (λ v q. omega arith) xs a in
        let e = item_within xs (2 ^ 20 - 1) p weak in omega (arith, e)

pub divisor_small : (len blocks : ℕ) → 1 ≤ len → len % blocks ≡ 0 → blocks ≤ len
divisor_small len blocks some divides =
    elim (cases_lt len blocks) [
      | inl less ↦ let e : len % blocks ≡ len = mod-eq_of_lt less in absurd (omega (arith, e, divides, some))
      | inr more ↦ more
    ]

pub multiple_small : (len blocks times : ℕ) → 1 ≤ len → len ≤ 176 → len % blocks ≡ 0 → blocks / 2 ^ times * 2 ^ times ≤ 176
multiple_small len blocks times some most divides =
    let e = divisor_small len blocks some divides in
    let f : blocks / 2 ^ times * 2 ^ times ≤ blocks = div-mul-le_self blocks (2 ^ times) in
    omega (arith, e, f, most)
