-- The walk over the sizes of a Laplace question.
use Rattle.std.proofs.Common.{◌≡◌, ℕ, suc, ◌+◌, ◌-◌, ◌*◌, ◌/◌, ◌^◌, ◌<◌, ◌≤◌, min, refl, ap, ◌∙◌, arith}
use Rattle.std.proofs.lemmas.Nat.{mul-le}
use Rattle.celt_base.specs.Questions.{start, laplace_row, spread_of, IsLaplace}

-- both sides of a size have one length
pub sides : (fs decay k from spread : ℕ) → from ≡ start (laplace_row fs decay) (2 * k + 1) → spread ≡ spread_of fs decay k
    → (start (laplace_row fs decay) (2 * k + 2) ≡ min (2 ^ 15) (from + spread + 1))
    × (start (laplace_row fs decay) (2 * k + 3) ≡ min (2 ^ 15) (from + 2 * (spread + 1)))
sides fs decay k from spread begins length =
    let row = laplace_row fs decay in
    let first : start row (2 * k + 2) ≡ start row (suc (suc (2 * k))) = ap (start row) (let e : 2 * k + 2 ≡ suc (suc (2 * k)) = omega arith in e) in
    let second : start row (2 * k + 3) ≡ start row (suc (suc (suc (2 * k)))) = ap (start row) (let e : 2 * k + 3 ≡ suc (suc (suc (2 * k))) = omega arith in e) in
    let own : start row (2 * k + 1) ≡ start row (suc (2 * k)) = ap (start row) (let e : 2 * k + 1 ≡ suc (2 * k) = omega arith in e) in
    let minus : spread_of fs decay (2 * k / 2) ≡ spread_of fs decay k = ap (spread_of fs decay) (let e : 2 * k / 2 ≡ k = omega arith in e) in
    let plus : spread_of fs decay (suc (2 * k) / 2) ≡ spread_of fs decay k = ap (spread_of fs decay) (let e : suc (2 * k) / 2 ≡ k = omega arith in e) in
    (omega arith, omega arith)

pub first_small : (fs decay : ℕ) → IsLaplace fs decay → spread_of fs decay 0 ≤ 2 ^ 14
first_small fs decay is =
    let product = mul-le (2 ^ 15 - 32 - fs) (2 ^ 14 - decay) (2 ^ 15) (2 ^ 14) (omega arith) (omega arith) in omega arith

pub next_small : (spread decay : ℕ) → spread ≤ 2 ^ 14 → decay ≤ 2 ^ 14 → 2 * spread * decay / 2 ^ 15 ≤ 2 ^ 14
next_small spread decay small falls = let product = mul-le (2 * spread) decay (2 ^ 15) (2 ^ 14) (omega arith) falls in omega arith

pub next_fits : (spread decay : ℕ) → spread ≤ 2 ^ 14 → decay ≤ 2 ^ 14 → 2 * spread * decay ≤ 2 ^ 29
next_fits spread decay small falls = let product = mul-le (2 * spread) decay (2 ^ 15) (2 ^ 14) (omega arith) falls in omega arith

pub first_fits : (fs decay : ℕ) → (32736 - fs) * (16384 - decay) ≤ 2 ^ 29
first_fits fs decay = let product = mul-le (32736 - fs) (16384 - decay) (2 ^ 15) (2 ^ 14) (omega arith) (omega arith) in omega arith

-- one size further
pub record Further (fs decay value k from spread : ℕ) : Type 0 where
  pub begins : from ≡ start (laplace_row fs decay) (2 * k + 1)
  pub length : spread ≡ spread_of fs decay k
  pub above : from ≤ value
  pub small : spread ≤ 2 ^ 14
  pub many : k ≤ from

pub further : (fs decay value k from spread : ℕ) → Further fs decay value k from spread → decay ≤ 2 ^ 14 → value < 2 ^ 15
    → from + 2 * (spread + 1) ≤ value → Further fs decay value (k + 1) (from + 2 * (spread + 1)) (2 * spread * decay / 2 ^ 15)
further fs decay value k from spread is falls below test =
    let row = laplace_row fs decay in
    let both = sides fs decay k from spread is.begins is.length in
    let next = both.1 in
    let at : start row (2 * k + 3) ≡ start row (2 * (k + 1) + 1) = ap (start row) (let e : 2 * k + 3 ≡ 2 * (k + 1) + 1 = omega arith in e) in
    let size : spread_of fs decay (suc k) ≡ spread_of fs decay (k + 1) = ap (spread_of fs decay) (let e : suc k ≡ k + 1 = omega arith in e) in
    let many = is.many in
    record {
      begins = omega arith;
      length = ap (λ n. 2 * n * decay / 2 ^ 15) is.length ∙ size;
      above = test;
      small = next_small spread decay is.small falls;
      many = omega arith;
    }

-- the places of 0, of minus a size and of the size
pub zero_ends : (fs decay : ℕ) → IsLaplace fs decay → (0 ≡ start (laplace_row fs decay) 0) × (fs ≡ start (laplace_row fs decay) (suc 0))
zero_ends fs decay is = let most = is.1 in (refl, omega arith)

pub minus_ends : (fs decay k from spread : ℕ) → from ≡ start (laplace_row fs decay) (2 * k + 1) → spread ≡ spread_of fs decay k
    → min (from + spread + 1) (2 ^ 15) ≡ start (laplace_row fs decay) (suc (2 * k + 1))
minus_ends fs decay k from spread begins length =
    let both = sides fs decay k from spread begins length in
    let first = both.0 in
    let at : start (laplace_row fs decay) (2 * k + 2) ≡ start (laplace_row fs decay) (suc (2 * k + 1)) = ap (start (laplace_row fs decay)) (let e : 2 * k + 2 ≡ suc (2 * k + 1) = omega arith in e) in
    omega arith

pub plus_ends : (fs decay k from spread : ℕ) → from ≡ start (laplace_row fs decay) (2 * k + 1) → spread ≡ spread_of fs decay k
    → from + spread + 1 ≤ 2 ^ 15
    → (from + spread + 1 ≡ start (laplace_row fs decay) (2 * (k + 1)))
    × (min (from + spread + 1 + spread + 1) (2 ^ 15) ≡ start (laplace_row fs decay) (suc (2 * (k + 1))))
plus_ends fs decay k from spread begins length within =
    let both = sides fs decay k from spread begins length in
    let first = both.0 in
    let second = both.1 in
    let at : start (laplace_row fs decay) (2 * k + 2) ≡ start (laplace_row fs decay) (2 * (k + 1)) = ap (start (laplace_row fs decay)) (let e : 2 * k + 2 ≡ 2 * (k + 1) = omega arith in e) in
    let next : start (laplace_row fs decay) (2 * k + 3) ≡ start (laplace_row fs decay) (suc (2 * (k + 1))) = ap (start (laplace_row fs decay)) (let e : 2 * k + 3 ≡ suc (2 * (k + 1)) = omega arith in e) in
    (omega arith, omega arith)
