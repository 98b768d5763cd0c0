-- The pulses of an index, the last index, and the costs.
use Rattle.std.proofs.Common.{◌≡◌, ◌^◌, ℕ, zero, suc, ◌+◌, ◌-◌, ◌<◌, ◌≤◌, ◌⊎◌, inl, inr, refl, sym, ap, arith}
use Rattle.std.specs.Prelude.{true, false, nat_lt, min, ℤ, pos, int_lt, int_le, unsigned_abs, ◌*ℤ◌, ◌-ℤ◌, ◌≤ℤ◌, ◌<ℤ◌}
use Rattle.std.proofs.lemmas.Bool.{cases_lt, cases_Bool, ltb-true}
use Rattle.std.proofs.lemmas.Bool.Decides.{nat_tests}
use Rattle.std.proofs.lemmas.Int.{ints}
use Rattle.pulse_vectors.specs.Costs.{pulses_at, last_of, cost_at, index_below, index_near}
use Rattle.pulse_vectors.specs.declared.constants.TheConstants.{COSTS}
use Rattle.pulse_vectors.specs.Tables.{HasPlace, start_of, cost_start_of, cost_entry}
use Rattle.pulse_vectors.specs.Vectors.{count_of}
use Rattle.pulse_vectors.proofs.Counts.{count-no-pulses}
use Rattle.pulse_vectors.proofs.RankSteps.{count-rises}
use Rattle.pulse_vectors.proofs.TableFacts.{table-facts}
use Rattle.pulse_vectors.proofs.TableSteps.{has-place}
pub use Rattle.pulse_vectors.proofs.CostFacts.{pulses-least, pulses-most}
use Rattle.pulse_vectors.proofs.CostFacts.{CostFacts, costs-facts, pulses_rise}
use Rattle.pulse_vectors.proofs.Logs.{greatest-is, greatest-passes, greatest-within, greatest-above, eighths_rise}

pulses-zero : pulses_at 0 ≡ 0
unfolding pulses_at
pulses-zero = refl

pub last-most : (n : ℕ) → last_of n ≤ 40
unfolding last_of
last-most n = greatest-within (λ q. nat_lt (count_of n (pulses_at q)) (2 ^ 32)) 40

last-fits : (n : ℕ) → count_of n (pulses_at (last_of n)) < 2 ^ 32
unfolding last_of
last-fits n = elim (greatest-passes (λ q. nat_lt (count_of n (pulses_at q)) (2 ^ 32)) 40) [
  | inl none ↦ rw (none, pulses-zero) (omega (arith, count-no-pulses n))
  | inr hit ↦ ltb-true _ _ hit
]

pub index-fits : (n q : ℕ) → 1 ≤ n → q ≤ last_of n → count_of n (pulses_at q) < 2 ^ 32
index-fits n q h l = omega (arith, last-fits n, count-rises n (pulses_at q) (pulses_at (last_of n)) h (pulses_rise q (last_of n) l (last-most n)))

pub count-some : (n k : ℕ) → 1 ≤ n → 1 ≤ count_of n k
count-some n k h = omega (arith, count-no-pulses n, count-rises n 0 k h (omega arith))

-- Costs never fall as the index rises.
pub costs_rise : (n q r : ℕ) → 1 ≤ n → q ≤ r → r ≤ last_of n → cost_at n q ≤ cost_at n r
unfolding cost_at
costs_rise n zero r h l b = omega arith
costs_rise n (suc q) zero h l b = absurd (omega arith)
costs_rise n (suc q) (suc r) h l b =
    eighths_rise (count_of n (pulses_at (suc q))) (count_of n (pulses_at (suc r))) (count-some n (pulses_at (suc q)) h)
    (count-rises n (pulses_at (suc q)) (pulses_at (suc r)) h (pulses_rise (suc q) (suc r) l (omega (arith, last-most n))))
    (index-fits n (suc r) h b)

pub count-place : (n k : ℕ) → 1 ≤ n → n ≤ 176 → k ≤ 128 → count_of n k < 2 ^ 32 → HasPlace (n - 1) k
count-place n k h l b f =
    let s : suc (n - 1) ≡ n = omega arith in
    has-place (n - 1) k (omega arith) b (rw s f)

-- No index above stands for so few pulses.
pub record LastSought (most index : ℕ) : Type 0 where
  pub within : index ≤ 40
  pub above : (q : ℕ) → index < q → q ≤ 40 → most < pulses_at q

-- The number of pulses up to which there are fewer than 2^32 vectors, or 128.
pub record IsMost (n most : ℕ) : Type 0 where
  pub below : count_of n most < 2 ^ 32
  pub enough : (k : ℕ) → k ≤ 128 → most < k → 2 ^ 32 ≤ count_of n k

pub last-end : (n most index k : ℕ) → 1 ≤ n → IsMost n most → LastSought most index → k ≡ pulses_at index → k ≤ most → index ≡ last_of n
unfolding last_of
last-end n most index k p m s e h =
    sym (greatest-is (λ q. nat_lt (count_of n (pulses_at q)) (2 ^ 32)) 40 index s.within
    (λ z.
    let fits : count_of n (pulses_at index) < 2 ^ 32 = omega (arith, m.below, count-rises n (pulses_at index) most p (omega arith)) in
    grind (arith, nat_tests))
    (λ q a b.
    let past : 2 ^ 32 ≤ count_of n (pulses_at q) = m.enough (pulses_at q) (pulses-most q b) (s.above q a b) in
    grind (arith, nat_tests)))

-- Halving: low is 0 or costs less, and from high on nothing does.
pub record Halving (n : ℕ) (b : ℤ) (last low high : ℕ) : Type 0 where
  pub ordered : low < high
  pub within : high ≤ last + 1
  pub below : 0 < low → int_lt (pos (cost_at n low)) b ≡ true
  pub above : (q : ℕ) → high ≤ q → q ≤ last → int_lt (pos (cost_at n q)) b ≡ false

pub halving-high : (n last low high middle : ℕ) (b : ℤ) → 1 ≤ n → last ≡ last_of n → Halving n b last low high → low < middle → middle ≤ high
    → int_lt (pos (cost_at n middle)) b ≡ false → Halving n b last low middle
halving-high n last low high middle b p e h l m t = record {
  ordered = l;
  within = omega (arith, h.within);
  below = h.below;
  above = λ q a c.
      let more = costs_rise n middle q p a (omega arith) in
      grind (arith, ints);
}

pub halving-end : (n last low high : ℕ) (b : ℤ) → last ≡ last_of n → Halving n b last low high → high ≤ low + 1 → low ≡ index_below n b
unfolding index_below
halving-end n last low high b e h l =
    rw (← e) (sym (greatest-is (λ q. int_lt (pos (cost_at n q)) b) last low (omega (arith, h.ordered, h.within)) h.below
    (λ q a c. h.above q (omega (arith, h.ordered)) c)))

-- What the table says of the most pulses, the last index and the costs of vectors of n numbers.
row-most : (n : ℕ) → 1 ≤ n → n ≤ 176 → IsMost n (start_of n - start_of (n - 1) - 2)
row-most n h l =
    let m : suc (n - 1) ≡ n = omega arith in
    let f = table-facts (n - 1) (omega arith) in
    let two = rw m at f.two in
    let fits = rw m at f.fits in
    let enough = rw m at f.enough in
    record {
      below = fits;
      enough = λ k a b. elim enough [
        | inl full ↦ absurd (omega arith)
        | inr more ↦ omega (arith, count-rises n (start_of n - start_of (n - 1) - 1) k h (omega arith))
      ];
    }

table-costs : (n : ℕ) → 1 ≤ n → n ≤ 176 → CostFacts (n - 1) (start_of n - start_of (n - 1) - 1) (cost_start_of (n - 1)) (cost_start_of n) COSTS
table-costs n h l =
    let m : suc (n - 1) ≡ n = omega arith in
    rw m at (costs-facts (n - 1) (omega arith))

pub last-is : (n : ℕ) → 1 ≤ n → n ≤ 176 → cost_start_of n ≡ cost_start_of (n - 1) + last_of n + 1
last-is n h l =
    let f = table-costs n h l in
    let m : suc (n - 1) ≡ n = omega arith in
    let two = rw m at (table-facts (n - 1) (omega arith)).two in
    let top : ℕ = cost_start_of n - cost_start_of (n - 1) - 1 in
    let e = last-end n (start_of n - start_of (n - 1) - 2) top (pulses_at top) h (row-most n h l)
    (record { within = f.top; above = λ q a b. over q a b two f.past }) refl (omega (arith, f.fits)) in
    omega (arith, f.some, e)
  where
    over : (q : ℕ) → cost_start_of n - cost_start_of (n - 1) - 1 < q → q ≤ 40 → start_of (n - 1) + 3 ≤ start_of n
        → (cost_start_of n - cost_start_of (n - 1) - 1 ≡ 40) ⊎ (start_of n - start_of (n - 1) - 1 ≤ pulses_at (suc (cost_start_of n - cost_start_of (n - 1) - 1)))
        → start_of n - start_of (n - 1) - 2 < pulses_at q
    over q a b two (inl full) = absurd (omega arith)
    over q a b two (inr more) =
        omega (arith, two, pulses_rise (suc (cost_start_of n - cost_start_of (n - 1) - 1)) q (omega arith) b)

pub costs-end : (n : ℕ) → 1 ≤ n → n ≤ 176 → cost_start_of n ≤ 1418
costs-end n h l = (table-costs n h l).last

pub cost-is : (n q : ℕ) → 1 ≤ n → n ≤ 176 → q ≤ last_of n → (cost_entry (cost_start_of (n - 1) + q) ≡ cost_at n q) × (cost_entry (cost_start_of (n - 1) + q) ≤ 264)
unfolding cost_entry
cost-is n q h l b =
    let m : suc (n - 1) ≡ n = omega arith in
    let i = (table-costs n h l).costs q (omega (arith, last-is n h l)) in
    let exact = rw m at i.exact in
    (exact, i.most)

-- The nearer of two neighbours.
nearer_low : (b : ℤ) (cl ch : ℕ) → (pos 2 *ℤ b) ≤ℤ pos (cl + ch) → int_le (b -ℤ pos cl) (pos ch -ℤ b) ≡ true
nearer_low b cl ch h = grind (arith, ints)

nearer_high : (b : ℤ) (cl ch : ℕ) → pos (cl + ch) <ℤ (pos 2 *ℤ b) → int_le (b -ℤ pos cl) (pos ch -ℤ b) ≡ false
nearer_high b cl ch h = grind (arith, ints)

pub near-low : (n low high last cl ch : ℕ) (b : ℤ) → low ≡ index_below n b → last ≡ last_of n → high ≡ min (low + 1) last
    → cl ≡ cost_at n low → ch ≡ cost_at n high → (pos 2 *ℤ b) ≤ℤ pos (cl + ch) → low ≡ index_near n b
unfolding index_near
near-low n low high last cl ch b e1 e2 e3 e4 e5 h =
    let t : int_le (b -ℤ pos cl) (pos ch -ℤ b) ≡ true = nearer_low b cl ch h in
    rw (← e1, ← e2, ← e3, ← e4, ← e5, t) refl

pub near-high : (n low high last cl ch : ℕ) (b : ℤ) → low ≡ index_below n b → last ≡ last_of n → high ≡ min (low + 1) last
    → cl ≡ cost_at n low → ch ≡ cost_at n high → pos (cl + ch) <ℤ (pos 2 *ℤ b) → high ≡ index_near n b
unfolding index_near
near-high n low high last cl ch b e1 e2 e3 e4 e5 h =
    let t : int_le (b -ℤ pos cl) (pos ch -ℤ b) ≡ false = nearer_high b cl ch h in
    rw (← e1, ← e2, ← e3, ← e4, ← e5, t) refl

below_bits : (c : ℕ) (b : ℤ) → int_lt (pos c) b ≡ true → pos c <ℤ b
below_bits c b h = grind (arith, ints)

above_bits : (c : ℕ) (b : ℤ) → int_lt (pos c) b ≡ false → b ≤ℤ pos c
above_bits c b h = grind (arith, ints)

at_most_bits : (x y : ℤ) → int_le x y ≡ true → x ≤ℤ y
at_most_bits x y h = grind (arith, ints)

over_bits : (x y : ℤ) → int_le x y ≡ false → y <ℤ x
over_bits x y h = grind (arith, ints)

-- The index for a number of bits is nearest: no index is nearer, and one just as near costs no less.
pub record IsNearest (chosen other : ℕ) (b : ℤ) : Type 0 where
  pub near : unsigned_abs (pos chosen -ℤ b) ≤ unsigned_abs (pos other -ℤ b)
  pub lower : unsigned_abs (pos other -ℤ b) ≡ unsigned_abs (pos chosen -ℤ b) → chosen ≤ other

low_under : (l q : ℕ) (b : ℤ) → q ≤ l → (q ≡ l) ⊎ (pos l <ℤ b) → IsNearest l q b
low_under l q b h (inl same) = record { near = rw same (omega arith); lower = λ e. omega arith }
low_under l q b h (inr less) = record { near = omega (arith, ints); lower = λ e. omega (arith, ints) }

low_over : (l high q : ℕ) (b : ℤ) → l ≤ high → high ≤ q → b ≤ℤ pos high → (b -ℤ pos l) ≤ℤ (pos high -ℤ b) → IsNearest l q b
low_over l high q b h1 h2 h3 h4 = record { near = omega (arith, ints); lower = λ e. omega arith }

high_over : (high q : ℕ) (b : ℤ) → high ≤ q → b ≤ℤ pos high → IsNearest high q b
high_over high q b h1 h2 = record { near = omega (arith, ints); lower = λ e. omega arith }

high_under : (l high q : ℕ) (b : ℤ) → q ≤ l → (high ≡ l) ⊎ (b ≤ℤ pos high) → (pos high -ℤ b) <ℤ (b -ℤ pos l) → IsNearest high q b
high_under l high q b h (inl same) less = record { near = omega (arith, ints); lower = λ e. omega (arith, ints) }
high_under l high q b h (inr more) less = record { near = omega (arith, ints); lower = λ e. omega (arith, ints) }

-- The greatest index that is 0 or costs less, by what is known of it.
index_below-within : (n : ℕ) (b : ℤ) → index_below n b ≤ last_of n
unfolding index_below
index_below-within n b = greatest-within (λ q. int_lt (pos (cost_at n q)) b) (last_of n)

index_below-less : (n : ℕ) (b : ℤ) → (index_below n b ≡ 0) ⊎ (pos (cost_at n (index_below n b)) <ℤ b)
unfolding index_below
index_below-less n b = elim (greatest-passes (λ q. int_lt (pos (cost_at n q)) b) (last_of n)) [
  | inl none ↦ inl none
  | inr hit ↦ inr (below_bits _ _ hit)
]

index_below-above : (n q : ℕ) (b : ℤ) → index_below n b < q → q ≤ last_of n → b ≤ℤ pos (cost_at n q)
unfolding index_below
index_below-above n q b h l = above_bits _ _ (greatest-above (λ q. int_lt (pos (cost_at n q)) b) (last_of n) q h l)

nearest-low : (n q low high : ℕ) (b : ℤ) → 1 ≤ n → q ≤ last_of n → low ≡ index_below n b → high ≡ min (low + 1) (last_of n)
    → (b -ℤ pos (cost_at n low)) ≤ℤ (pos (cost_at n high) -ℤ b) → IsNearest (cost_at n low) (cost_at n q) b
nearest-low n q low high b h l e1 e2 t = elim (cases_lt low q) [
  | inl over ↦ low_over (cost_at n low) (cost_at n high) (cost_at n q) b
      (costs_rise n low high h (omega arith) (omega arith)) (costs_rise n high q h (omega arith) l)
      (index_below-above n high b (omega arith) (omega arith)) t
  | inr under ↦
      let within : low ≤ last_of n = omega (arith, index_below-within n b) in
      low_under (cost_at n low) (cost_at n q) b (costs_rise n q low h under within) (elim (index_below-less n b) [
        | inl none ↦ let same : q ≡ low = omega arith in inl (ap (cost_at n) same)
        | inr less ↦ inr (rw e1 less)
      ])
]

nearest-high : (n q low high : ℕ) (b : ℤ) → 1 ≤ n → q ≤ last_of n → low ≡ index_below n b → high ≡ min (low + 1) (last_of n)
    → (pos (cost_at n high) -ℤ b) <ℤ (b -ℤ pos (cost_at n low)) → IsNearest (cost_at n high) (cost_at n q) b
nearest-high n q low high b h l e1 e2 t = elim (cases_lt low q) [
  | inl over ↦ high_over (cost_at n high) (cost_at n q) b (costs_rise n high q h (omega arith) l) (index_below-above n high b (omega arith) (omega arith))
  | inr under ↦
      let within : low ≤ last_of n = omega (arith, index_below-within n b) in
      high_under (cost_at n low) (cost_at n high) (cost_at n q) b (costs_rise n q low h under within) (elim (cases_lt low (last_of n)) [
        | inl more ↦ inr (index_below-above n high b (omega arith) (omega arith))
        | inr end ↦ let same : high ≡ low = omega arith in inl (ap (cost_at n) same)
      ]) t
]

pub index-nearest : (n q : ℕ) (b : ℤ) → 1 ≤ n → q ≤ last_of n → IsNearest (cost_at n (index_near n b)) (cost_at n q) b
unfolding index_near
index-nearest n q b h l =
    elim (cases_Bool (int_le (b -ℤ pos (cost_at n (index_below n b))) (pos (cost_at n (min (index_below n b + 1) (last_of n))) -ℤ b))) [
      | inl hit ↦ rw hit (nearest-low n q (index_below n b) (min (index_below n b + 1) (last_of n)) b h l refl refl (at_most_bits _ _ hit))
      | inr miss ↦ rw miss (nearest-high n q (index_below n b) (min (index_below n b + 1) (last_of n)) b h l refl refl (over_bits _ _ miss))
    ]
