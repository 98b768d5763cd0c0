-- Each item of a run of at least two is at most 2^17 in size after its turns, whatever came in.
use Rattle.std.proofs.Common.{◌≡◌, ◌≢◌, ℕ, zero, suc, ◌+◌, ◌-◌, ◌*◌, ◌/◌, ◌%◌, ◌^◌, ◌<◌, ◌≤◌, sym, subst, inl, inr, arith, List, length, take, drop, Bool, true, false}
use Rattle.std.specs.Prelude.{ℤ, pos, neg_ℤ, unsigned_abs, slice_set, All}
use Rattle.std.proofs.lemmas.Bool.{cases_lt, cases_eq}
use Rattle.std.proofs.lemmas.Nat.{mul-le}
use Rattle.std.proofs.lemmas.List.{get_or-set_same, get_or-set_other, get_or_default, get_or_past, length-set}
use Rattle.std.proofs.lemmas.List.Elements.{All-append}
use Rattle.std.proofs.Math.Nat.{div-add-mod}
use Rattle.fixed_math.specs.Circle.{cosine, sine}
use Rattle.fixed_math.specs.Items.{item}
use Rattle.spread_fold.specs.Spreading.{turned_first, turned_second, pair_turned, turned_up, turned, turned_far, spread_run, spread_runs, distance, spread_angle, spread_by}
use Rattle.spread_fold.proofs.SpreadLemmas.{OfSmall, clamped_size, keeps_down, keeps_far, length-take_part, length-up, length-far, by_some}

-- the item at a place is small; past the end it is 0
abbrev pub SmallAt : ℕ → List ℤ → Type 0
SmallAt q xs = unsigned_abs (item xs q) ≤ 2 ^ 17

past : (q : ℕ) (xs : List ℤ) → length xs ≤ q → SmallAt q xs
past q xs h =
    let e : item xs q ≡ pos 0 = get_or_past xs q (pos 0) h in
    subst (λ v. unsigned_abs v ≤ 2 ^ 17) (sym e) (omega arith)

-- a small number makes its place small, and no other worse
put_here : (p : ℕ) (v : ℤ) (xs : List ℤ) → unsigned_abs v ≤ 2 ^ 17 → SmallAt p (slice_set xs p v)
put_here p v xs h = elim (cases_lt p (length xs)) [
  | inl l ↦ subst (λ w. unsigned_abs w ≤ 2 ^ 17) (sym (get_or-set_same xs p v (pos 0) l)) h
  | inr l ↦ past p (slice_set xs p v) (omega (arith, length-set xs p v))
]

put_kept : (p : ℕ) (v : ℤ) (xs : List ℤ) (q : ℕ) → unsigned_abs v ≤ 2 ^ 17 → SmallAt q xs → SmallAt q (slice_set xs p v)
put_kept p v xs q h s = elim (cases_eq q p) [
  | inl e ↦ subst (λ k. SmallAt k (slice_set xs p v)) (sym e) (put_here p v xs h)
  | inr n ↦
      let ne : q ≢ p = n in
      subst (λ w. unsigned_abs w ≤ 2 ^ 17) (sym (get_or-set_other xs p q v (pos 0) ne)) s
]

-- a turned pair
pair_kept : (t : ℕ) (c s : ℤ) (p : ℕ) (xs : List ℤ) (q : ℕ) → SmallAt q xs → SmallAt q (pair_turned t c s p xs)
unfolding pair_turned
pair_kept t c s p xs q h =
    let a : ℤ = turned_first c s (item xs p) (item xs (p + t)) in
    let b : ℤ = turned_second c s (item xs p) (item xs (p + t)) in
    put_kept (p + t) b (slice_set xs p a) q (clamped_size _) (put_kept p a xs q (clamped_size _) h)

pair_first : (t : ℕ) (c s : ℤ) (p : ℕ) (xs : List ℤ) → SmallAt p (pair_turned t c s p xs)
unfolding pair_turned
pair_first t c s p xs =
    let a : ℤ = turned_first c s (item xs p) (item xs (p + t)) in
    let b : ℤ = turned_second c s (item xs p) (item xs (p + t)) in
    put_kept (p + t) b (slice_set xs p a) p (clamped_size _) (put_here p a xs (clamped_size _))

pair_second : (t : ℕ) (c s : ℤ) (p : ℕ) (xs : List ℤ) → SmallAt (p + t) (pair_turned t c s p xs)
unfolding pair_turned
pair_second t c s p xs =
    let a : ℤ = turned_first c s (item xs p) (item xs (p + t)) in
    let b : ℤ = turned_second c s (item xs p) (item xs (p + t)) in
    put_here (p + t) b (slice_set xs p a) (clamped_size _)

-- pairs of neighbours reach each item
up_reached : (c s : ℤ) (k : ℕ) (xs : List ℤ) (q : ℕ) → q ≤ k → 1 ≤ k → SmallAt q (turned_up 1 c s k xs)
unfolding turned_up
up_reached c s zero xs q h e = absurd (omega arith)
up_reached c s (suc k) xs q h e =
    let mid : List ℤ = turned_up 1 c s k xs in
    elim (cases_eq q k) [
      | inl i ↦ subst (λ p. SmallAt p (pair_turned 1 c s k mid)) (sym i) (pair_first 1 c s k mid)
      | inr n ↦ elim (cases_eq q (k + 1)) [
        | inl i ↦ subst (λ p. SmallAt p (pair_turned 1 c s k mid)) (sym i) (pair_second 1 c s k mid)
        | inr m ↦ pair_kept 1 c s k mid q (up_reached c s k xs q (before q k h n m) (more q k h n m))
      ]
    ]
  where
    before : (q k : ℕ) → q ≤ suc k → (q ≡ k → ⊥) → (q ≡ k + 1 → ⊥) → q ≤ k
    before q k h n m = omega arith

    more : (q k : ℕ) → q ≤ suc k → (q ≡ k → ⊥) → (q ≡ k + 1 → ⊥) → 1 ≤ k
    more q k h n m = omega arith

abbrev AreSmall : List ℤ → Type 0
AreSmall xs = All (λ v. unsigned_abs v ≤ 2 ^ 17) xs

keeps_small : OfSmall (λ v. unsigned_abs v ≤ 2 ^ 17)
keeps_small v h = h

near_small : (c s : ℤ) (xs : List ℤ) → 2 ≤ length xs → AreSmall (turned 1 c s xs)
unfolding turned
near_small c s xs h = keeps_down (λ v. unsigned_abs v ≤ 2 ^ 17) keeps_small 1 c s (length xs - 2 * 1) (turned_up 1 c s (length xs - 1) xs) reached
  where
    reached : AreSmall (turned_up 1 c s (length xs - 1) xs)
    reached q d l =
        let g : q < length xs = omega (arith, length-up 1 c s (length xs - 1) xs) in
        subst (λ v. unsigned_abs v ≤ 2 ^ 17) (sym (get_or_default (turned_up 1 c s (length xs - 1) xs) q d (pos 0) l)) (up_reached c s (length xs - 1) xs q (omega arith) (omega arith))

-- runs
run_small : (forward : Bool) (t : ℕ) (c s : ℤ) (xs : List ℤ) → 2 ≤ length xs → AreSmall (spread_run forward t c s xs)
unfolding spread_run
run_small true t c s xs h = keeps_far (λ v. unsigned_abs v ≤ 2 ^ 17) keeps_small t s (neg_ℤ c) (turned 1 c (neg_ℤ s) xs) (near_small c (neg_ℤ s) xs h)
run_small false t c s xs h = near_small c s (turned_far t s c xs) (omega (arith, h, length-far t s c xs))

runs_small : (forward : Bool) (t : ℕ) (c s : ℤ) (n b : ℕ) (xs : List ℤ) → b * n ≤ length xs → 2 ≤ n → AreSmall (spread_runs forward t c s n b xs)
unfolding spread_runs
runs_small forward t c s n zero xs h e = λ q d l. absurd (omega arith)
runs_small forward t c s n (suc b) xs h e =
    All-append (λ v. unsigned_abs v ≤ 2 ^ 17) (spread_runs forward t c s n b xs) (spread_run forward t c s (take n (drop (b * n) xs))) (runs_small forward t c s n b xs (omega arith) e)
    (run_small forward t c s (take n (drop (b * n) xs)) (omega (arith, length-take_part n (b * n) xs (omega arith))))

-- the blocks divide the list into runs of at least two
whole_runs : (n b : ℕ) → 1 ≤ b → b * (n / b) ≤ n
whole_runs n b h = omega (arith, div-add-mod n b)

long_runs : (n b : ℕ) → 1 ≤ b → n % b ≡ 0 → 2 * b ≤ n → 2 ≤ n / b
long_runs n b h e l = elim (cases_lt (n / b) 2) [
  | inl g ↦
      let s : n / b ≤ 1 = omega arith in
      let m : b * (n / b) ≤ b * 1 = mul-le b (n / b) b 1 (omega arith) s in
      absurd (omega (arith, div-add-mod n b))
  | inr g ↦ g
]

pub by_limit : (blocks k spread : ℕ) (forward : Bool) (xs : List ℤ) → 1 ≤ blocks → length xs % blocks ≡ 0 → 1 ≤ spread → 2 * k < length xs → 2 * blocks ≤ length xs → All (λ v. unsigned_abs v ≤ 2 ^ 17) (spread_by blocks k spread forward xs)
by_limit blocks k spread forward xs b r s p l =
    let n : ℕ = length xs in
    let some : spread ≡ 0 → ⊥ = λ e. omega arith in
    subst (All (λ v. unsigned_abs v ≤ 2 ^ 17)) (by_some blocks k spread forward xs some p)
    (runs_small forward (distance n blocks) (cosine (spread_angle n k spread)) (sine (spread_angle n k spread)) (n / blocks) blocks xs (whole_runs n blocks b) (long_runs n blocks b r l))
