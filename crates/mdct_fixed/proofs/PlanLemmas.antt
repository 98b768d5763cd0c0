-- Radices and their plans, the growth of a join, and the transform by joins over reversed digits.
use Rattle.std.proofs.Common.{◌≡◌, ℕ, zero, suc, ◌+◌, ◌-◌, ◌*◌, ◌/◌, ◌%◌, ◌^◌, ◌<◌, ◌≤◌, refl, sym, subst, inl, inr, arith, ap, ◌∙◌, List, [], ◌∷◌, Bool, true, false, ◌&&◌}
use Rattle.std.specs.Prelude.{ℤ, unsigned_abs, nat_eq, nat_le, if◌then◌else◌}
use Rattle.std.proofs.lemmas.Int.{ints}
use Rattle.std.proofs.lemmas.Nat.{mul-le, div-mul-add, mod-mul-add, mod_below, div_below, div-add-mod'}
use Rattle.std.proofs.lemmas.Bool.{cases_eq, and_parts, eqb-true, leb-true, ne_eqb}
use Rattle.fixed_math.specs.Circle.{cosine, sine}
use Rattle.fixed_math.proofs.AngleLemmas.{cosine_size, sine_size}
use Rattle.fixed_math.proofs.TableLemmas.{all_from, all_from-at}
use Rattle.mdct_fixed.specs.declared.complex.Complex.{Complex}
use Rattle.mdct_fixed.specs.Numbers.{plus, turned, IsWithin}
use Rattle.mdct_fixed.specs.Joins.{AreJoined}
use Rattle.mdct_fixed.specs.Transform.{turned_sum, radix, size, IsPlan, transform, radices_by, radices, reversed, joined, joined_all, growth}
use Rattle.mdct_fixed.proofs.NumberLemmas.{spun_within}
use Rattle.mdct_fixed.proofs.JoinLemmas.{same_sum, quotient_of}

-- ---- the radix of a length

pub radix_4 : (len : ℕ) → len % 4 ≡ 0 → radix len ≡ 4
unfolding radix
radix_4 len e = rw e refl

pub radix_2 : (len : ℕ) → (len % 4 ≡ 0 → ⊥) → len % 2 ≡ 0 → radix len ≡ 2
unfolding radix
radix_2 len n e = rw (ne_eqb (len % 4) 0 n) rw e refl

pub radix_3 : (len : ℕ) → (len % 4 ≡ 0 → ⊥) → (len % 2 ≡ 0 → ⊥) → len % 3 ≡ 0 → radix len ≡ 3
unfolding radix
radix_3 len n o e = rw (ne_eqb (len % 4) 0 n) rw (ne_eqb (len % 2) 0 o) rw e refl

pub radix_5 : (len : ℕ) → (len % 4 ≡ 0 → ⊥) → (len % 2 ≡ 0 → ⊥) → (len % 3 ≡ 0 → ⊥) → radix len ≡ 5
unfolding radix
radix_5 len n o p = rw (ne_eqb (len % 4) 0 n) rw (ne_eqb (len % 2) 0 o) rw (ne_eqb (len % 3) 0 p) refl

pub at_most_480 : (len : ℕ) → 480 % len ≡ 0 → len ≤ 480
at_most_480 len h = first (480 / len) len (quotient_of len h)
  where
    first : (t len : ℕ) → 480 ≡ t * len → len ≤ 480
    first zero len e = absurd (omega arith)
    first (suc t) len e = omega arith

-- an odd length from 2 on that is no multiple of 3 is 5
unfoldable five_test : ℕ → Bool
five_test len =
    if nat_eq (480 % len) 0 then (if nat_eq (len % 2) 0 then true else if nat_eq (len % 3) 0 then true else nat_eq len 5) else true

fives : all_from five_test 479 2 ≡ true
unfolding five_test
fives = refl

five_here : (len : ℕ) → five_test len ≡ true → 480 % len ≡ 0 → (len % 2 ≡ 0 → ⊥) → (len % 3 ≡ 0 → ⊥) → nat_eq len 5 ≡ true
unfolding five_test
five_here len h e o p =
    let a : nat_eq (480 % len) 0 ≡ true = ap (λ n. nat_eq n 0) e in
    let b : nat_eq (len % 2) 0 ≡ false = ne_eqb (len % 2) 0 o in
    let d : nat_eq (len % 3) 0 ≡ false = ne_eqb (len % 3) 0 p in
    sym (chosen (nat_eq (480 % len) 0) (nat_eq (len % 2) 0) (nat_eq (len % 3) 0) (nat_eq len 5) a b d) ∙ h
  where
    chosen : (a b d v : Bool) → a ≡ true → b ≡ false → d ≡ false → (if a then (if b then true else if d then true else v) else true) ≡ v
    chosen a b d v e f g = rw e rw f rw g refl

pub five_only : (len : ℕ) → 2 ≤ len → 480 % len ≡ 0 → (len % 2 ≡ 0 → ⊥) → (len % 3 ≡ 0 → ⊥) → len ≡ 5
five_only len l h o p =
    let m : len ≤ 480 = at_most_480 len h in
    let e : 2 + (len - 2) ≡ len = omega arith in
    let t : five_test (2 + (len - 2)) ≡ true = all_from-at five_test 479 2 (len - 2) fives (omega arith) in
    eqb-true len 5 (five_here len (subst (λ n. five_test n ≡ true) e t) h o p)

-- a length is its radix times the length of its runs
pub radix_whole : (len : ℕ) → 2 ≤ len → 480 % len ≡ 0 → (len ≡ radix len * (len / radix len)) × (2 ≤ radix len)
radix_whole len l h = elim (cases_eq (len % 4) 0) [
  | inl e ↦ rw (radix_4 len e) (omega arith, omega arith)
  | inr n ↦ elim (cases_eq (len % 2) 0) [
    | inl e ↦ rw (radix_2 len n e) (omega arith, omega arith)
    | inr o ↦ elim (cases_eq (len % 3) 0) [
      | inl e ↦ rw (radix_3 len n o e) (omega arith, omega arith)
      | inr p ↦
          let f : len ≡ 5 = five_only len l h o p in
          rw (radix_5 len n o p) (omega arith, omega arith)
    ]
  ]
]

-- ---- growth

pub turned_within : (z : Complex) (a n : ℕ) → a < 15360 → IsWithin n z → IsWithin (2 * n) (turned z a)
unfolding turned
turned_within z a n h w = spun_within z (cosine a) (sine a) n w (cosine_size a h) (sine_size a h)

plus_within : (x y : Complex) (m n k : ℕ) → IsWithin m x → IsWithin n y → m + n ≡ k → IsWithin k (plus x y)
plus_within x y m n k p q e =
    let a = p.re in
    let b = p.im in
    let c = q.re in
    let d = q.im in
    record { re = omega (arith, ints); im = omega (arith, ints) }

pub sum_within : (g : ℕ → Complex) (a n k : ℕ) → ((j : ℕ) → j ≤ n → IsWithin k (g j)) → IsWithin ((2 * n + 1) * k) (turned_sum g a n)
unfolding turned_sum
sum_within g a zero k h =
    let e : k ≡ (2 * 0 + 1) * k = omega arith in
    subst (λ n. IsWithin n (g 0)) e (h 0 (omega arith))
sum_within g a (suc n) k h =
    let l : a * suc n % 15360 < 15360 = omega arith in
    plus_within (turned_sum g a n) (turned (g (suc n)) (a * suc n % 15360)) ((2 * n + 1) * k) (2 * k) ((2 * suc n + 1) * k)
    (sum_within g a n k (λ j p. h j (omega arith))) (turned_within (g (suc n)) (a * suc n % 15360) k l (h (suc n) (omega arith))) (omega arith)

pub joined_all_within : (rs : List ℕ) (s : ℕ → Complex) (n : ℕ) → ((i : ℕ) → IsWithin n (s i)) → (i : ℕ) → IsWithin (growth rs * n) (joined_all rs s i)
unfolding joined_all growth
joined_all_within [] s n h i =
    let e : n ≡ 1 * n = omega arith in
    subst (λ k. IsWithin k (s i)) e (h i)
joined_all_within (r ∷ rs) s n h i =
    let e : (2 * (r - 1) + 1) * (growth rs * n) ≡ (2 * (r - 1) + 1) * growth rs * n = omega arith in
    subst (λ k. IsWithin k (joined r (size rs) (i / (r * size rs) * (r * size rs)) (joined_all rs s) (i % (r * size rs)))) e
    (sum_within (λ j. joined_all rs s (i / (r * size rs) * (r * size rs) + i % (r * size rs) % size rs + j * size rs)) (15360 / (r * size rs) * (i % (r * size rs))) (r - 1) (growth rs * n)
    (λ j p. joined_all_within rs s n h (i / (r * size rs) * (r * size rs) + i % (r * size rs) % size rs + j * size rs)))

-- ---- plans

unfoldable is_plan : List ℕ → Bool
is_plan [] = true
is_plan (r ∷ rs) = nat_eq r (radix (r * size rs)) && is_plan rs

plan_from : (rs : List ℕ) → is_plan rs ≡ true → IsPlan rs
unfolding is_plan IsPlan
plan_from [] h = tt
plan_from (r ∷ rs) h =
    let a = and_parts _ _ h in
    (eqb-true r (radix (r * size rs)) a.0, plan_from rs a.1)

unfoldable plan_test : ℕ → Bool
plan_test len =
    if nat_eq (480 % len) 0 then is_plan (radices len) && (nat_eq (size (radices len)) len && nat_le (growth (radices len)) 6615) else true

plans : all_from plan_test 480 1 ≡ true
unfolding plan_test is_plan radices_by radix size growth
plans = refl

pub record HasPlan (len : ℕ) : Type 0 where
  pub plan : IsPlan (radices len)
  pub size : size (radices len) ≡ len
  pub growth : growth (radices len) ≤ 6615

plan_here : (len : ℕ) → plan_test len ≡ true → 480 % len ≡ 0 → HasPlan len
unfolding plan_test
plan_here len h e =
    let a : nat_eq (480 % len) 0 ≡ true = ap (λ n. nat_eq n 0) e in
    let b = and_parts (is_plan (radices len)) (nat_eq (size (radices len)) len && nat_le (growth (radices len)) 6615) (sym (chosen (nat_eq (480 % len) 0) _ a) ∙ h) in
    let d = and_parts (nat_eq (size (radices len)) len) (nat_le (growth (radices len)) 6615) b.1 in
    record { plan = plan_from (radices len) b.0; size = eqb-true (size (radices len)) len d.0; growth = leb-true (growth (radices len)) 6615 d.1 }
  where
    chosen : (a v : Bool) → a ≡ true → (if a then v else true) ≡ v
    chosen a v e = rw e refl

pub plan_of : (len : ℕ) → 1 ≤ len → 480 % len ≡ 0 → HasPlan len
plan_of len l h =
    let m : len ≤ 480 = at_most_480 len h in
    let e : 1 + (len - 1) ≡ len = omega arith in
    let t : plan_test (1 + (len - 1)) ≡ true = all_from-at plan_test 480 1 (len - 1) plans (omega arith) in
    plan_here len (subst (λ n. plan_test n ≡ true) e t) h

-- ---- the transform by joins over reversed digits

-- one radix more, from what holds of all blocks of the radices behind it
law_step : (r : ℕ) (rs : List ℕ) (b : ℕ) (t s : ℕ → Complex)
    → ((c : ℕ) (u : ℕ → Complex) → ((k : ℕ) → k < size rs → t (c * size rs + k) ≡ u (reversed rs k)) → (k : ℕ) → k < size rs → joined_all rs t (c * size rs + k) ≡ transform rs u k)
    → ((k : ℕ) → k < r * size rs → t (b * (r * size rs) + k) ≡ s (reversed (r ∷ rs) k)) → (k : ℕ) → k < r * size rs → joined_all (r ∷ rs) t (b * (r * size rs) + k) ≡ transform (r ∷ rs) s k
unfolding joined_all transform reversed
law_step r rs b t s ih h k l =
    let q : (b * n + k) / n ≡ b = div-mul-add b n k l in
    let w : (b * n + k) % n ≡ k = mod-mul-add b n k l in
    ap (λ x. joined r m (x * n) (joined_all rs t) ((b * n + k) % n)) q ∙ ap (λ x. joined r m (b * n) (joined_all rs t) x) w
    ∙ same_sum (λ j. joined_all rs t (b * n + k % m + j * m)) (λ j. transform rs (λ i. s (r * i + j)) (k % m)) (15360 / n * k) (r - 1) each
  where
    m : ℕ
    m = size rs

    n : ℕ
    n = r * size rs

    some : 0 < m
    some = room r (size rs) k l
      where
        room : (r m k : ℕ) → k < r * m → 0 < m
        room r zero k l = absurd (omega arith)
        room r (suc m) k l = omega arith

    radix_some : 0 < r
    radix_some = room r (size rs) k l
      where
        room : (r m k : ℕ) → k < r * m → 0 < r
        room zero m k l = absurd (omega arith)
        room (suc r) m k l = omega arith

    inner : (j : ℕ) → j < r → (i : ℕ) → i < m → t ((b * r + j) * m + i) ≡ s (r * reversed rs i + j)
    inner j lj i li =
        let e : (b * r + j) * m + i ≡ b * (r * m) + (j * m + i) = omega arith in
        let u : (j + 1) * m ≤ r * m = mul-le (j + 1) m r m (omega arith) (omega arith) in
        let p : j * m + i < r * m = omega arith in
        let x : (j * m + i) / m ≡ j = div-mul-add j m i li in
        let y : (j * m + i) % m ≡ i = mod-mul-add j m i li in
        let z : j + r * reversed rs i ≡ r * reversed rs i + j = omega arith in
        ap t e ∙ h (j * m + i) p ∙ ap (λ v. s (v + r * reversed rs ((j * m + i) % m))) x ∙ ap (λ v. s (j + r * reversed rs v)) y ∙ ap s z

    each : (j : ℕ) → j ≤ r - 1 → joined_all rs t (b * n + k % m + j * m) ≡ transform rs (λ i. s (r * i + j)) (k % m)
    each j lj =
        let c : k % m < m = mod_below k m some in
        let e : b * (r * m) + k % m + j * m ≡ (b * r + j) * m + k % m = omega arith in
        let lr : j < r = less j r lj radix_some in
        ap (joined_all rs t) e ∙ ih (b * r + j) (λ i. s (r * i + j)) (inner j lr) (k % m) c
      where
        less : (j r : ℕ) → j ≤ r - 1 → 0 < r → j < r
        less j r p q = omega arith

pub transform_joined : (rs : List ℕ) (b : ℕ) (t s : ℕ → Complex) → ((k : ℕ) → k < size rs → t (b * size rs + k) ≡ s (reversed rs k)) → (k : ℕ) → k < size rs → joined_all rs t (b * size rs + k) ≡ transform rs s k
unfolding joined_all transform reversed size
transform_joined [] b t s h k l = h k l
transform_joined (r ∷ rs) b t s h k l = law_step r rs b t s (λ c u g. transform_joined rs c t u g) h k l

pub reversed_below : (rs : List ℕ) (k : ℕ) → k < size rs → reversed rs k < size rs
unfolding reversed size
reversed_below [] k h = omega arith
reversed_below (r ∷ rs) k h = below r (size rs) k (reversed rs (k % size rs)) h (λ z. reversed_below rs (k % size rs) (mod_below k (size rs) z))
  where
    below : (r m k v : ℕ) → k < r * m → (0 < m → v < m) → k / m + r * v < r * m
    below r zero k v h f = absurd (omega arith)
    below r (suc m) k v h f =
        let a : k / suc m < r = div_below k (suc m) r (omega arith) h in
        let b : v < suc m = f (omega arith) in
        let c : r * (v + 1) ≤ r * suc m = mul-le r (v + 1) r (suc m) (omega arith) (omega arith) in
        omega arith

-- ---- one join more

next_joined : (r : ℕ) (rs : List ℕ) (n count : ℕ) (old mid new : ℕ → Complex) → n ≡ count * (r * size rs) → ((i : ℕ) → i < n → mid i ≡ joined_all rs old i) → AreJoined r (size rs) 0 count mid new → (i : ℕ) → i < n → new i ≡ joined_all (r ∷ rs) old i
unfolding joined_all
next_joined r rs n count old mid new en ih s i li =
    let h : i < count * (r * m) = omega arith in
    let z : 0 < r * m = room count (r * m) i h in
    let k : i % (r * m) < r * m = mod_below i (r * m) z in
    let b : i / (r * m) < count = div_below i (r * m) count z h in
    let d : i / (r * m) * (r * m) + i % (r * m) ≡ i = div-add-mod' i (r * m) in
    let e : i ≡ 0 + i / (r * m) * (r * m) + i % (r * m) = omega arith in
    ap new e ∙ s.each (i / (r * m)) (i % (r * m)) b k
    ∙ same_sum (λ j. mid (0 + i / (r * m) * (r * m) + i % (r * m) % m + j * m)) (λ j. joined_all rs old (i / (r * m) * (r * m) + i % (r * m) % m + j * m)) (15360 / (r * m) * (i % (r * m))) (r - 1)
    (λ j lj.
    let f : 0 + i / (r * m) * (r * m) + i % (r * m) % m + j * m ≡ i / (r * m) * (r * m) + i % (r * m) % m + j * m = omega arith in
    ih (0 + i / (r * m) * (r * m) + i % (r * m) % m + j * m) (inside (i / (r * m)) (i % (r * m)) j b k lj) ∙ ap (joined_all rs old) f)
  where
    m : ℕ
    m = size rs

    room : (c x i : ℕ) → i < c * x → 0 < x
    room c zero i h = absurd (omega arith)
    room c (suc x) i h = omega arith

    inside : (b k j : ℕ) → b < count → k < r * m → j ≤ r - 1 → 0 + b * (r * m) + k % m + j * m < n
    inside b k j lb lk lj =
        let zm : 0 < m = room r m k lk in
        let zr : 0 < r = other r m k lk in
        let c : k % m < m = mod_below k m zm in
        let u : (b + 1) * (r * m) ≤ count * (r * m) = mul-le (b + 1) (r * m) count (r * m) (omega arith) (omega arith) in
        let v : (j + 1) * m ≤ r * m = mul-le (j + 1) m r m (omega arith) (omega arith) in
        omega arith
      where
        other : (x y k : ℕ) → k < x * y → 0 < x
        other zero y k l = absurd (omega arith)
        other (suc x) y k l = omega arith

pub joined_next : (rs : List ℕ) (len count n : ℕ) (old mid new : ℕ → Complex) → IsPlan rs → size rs ≡ len → 2 ≤ len → n ≡ count * len → (len ≡ radix len * (len / radix len)) × (2 ≤ radix len)
    → ((ts : List ℕ) → IsPlan ts → size ts ≡ len / radix len → (i : ℕ) → i < n → mid i ≡ joined_all ts old i) → AreJoined (radix len) (len / radix len) 0 count mid new → (i : ℕ) → i < n → new i ≡ joined_all rs old i
unfolding size IsPlan
joined_next [] len count n old mid new p e l en w ih s i li = absurd (omega arith)
joined_next (r ∷ rs) len count n old mid new p e l en w ih s i li =
    let er : r ≡ radix len = p.0 ∙ ap radix e in
    let em : size rs ≡ len / radix len = of_size r (size rs) len er w.1 e in
    next_joined r rs n count old mid new (en ∙ ap (λ x. count * x) (sym e)) (ih rs p.1 em)
    (subst (λ x. AreJoined x (size rs) 0 count mid new) (sym er) (subst (λ x. AreJoined (radix len) x 0 count mid new) (sym em) s)) i li
  where
    of_size : (r m len : ℕ) → r ≡ radix len → 2 ≤ radix len → r * m ≡ len → m ≡ len / radix len
    of_size r m len er lr e =
        let z : 0 < r = omega arith in
        let u : len ≡ m * r + 0 = omega arith in
        sym (ap (λ x. len / x) (sym er) ∙ ap (λ x. x / r) u ∙ div-mul-add m r 0 z)

-- ---- one run alone

pub one_run : (from len : ℕ) (old new : ℕ → Complex) → 2 ≤ len → 480 % len ≡ 0 → AreJoined (radix len) (len / radix len) from 1 old new → (k : ℕ) → k < len → new (from + k) ≡ joined (radix len) (len / radix len) from old k
one_run from len old new l h s k lk =
    let w = radix_whole len l h in
    let n : ℕ = radix len * (len / radix len) in
    let e : len ≡ n = w.0 in
    let z : from + 0 * n ≡ from = omega arith in
    let g : k < n = omega arith in
    ap (λ x. new (x + k)) (sym z) ∙ s.each 0 k (omega arith) g ∙ ap (λ x. joined (radix len) (len / radix len) x old k) z

pub run_growth : (from len : ℕ) (old new : ℕ → Complex) → 2 ≤ len → 480 % len ≡ 0 → AreJoined (radix len) (len / radix len) from 1 old new → (n : ℕ) → ((i : ℕ) → from ≤ i → i < from + len → IsWithin n (old i)) → (k : ℕ) → k < len → IsWithin ((2 * radix len - 1) * n) (new (from + k))
run_growth from len old new l h s n t k lk =
    let w = radix_whole len l h in
    let r : ℕ = radix len in
    let m : ℕ = len / radix len in
    let two : 2 ≤ r = w.1 in
    let zm : 0 < m = some r m len l w.0 in
    let c : k % m < m = mod_below k m zm in
    let e : 2 * (r - 1) + 1 ≡ 2 * r - 1 = omega arith in
    let g = sum_within (λ j. old (from + k % m + j * m)) (15360 / (r * m) * k) (r - 1) n
    (λ j lj.
    let u : (j + 1) * m ≤ r * m = mul-le (j + 1) m r m (omega arith) (omega arith) in
    let v : len ≡ r * m = w.0 in
    t (from + k % m + j * m) (omega arith) (omega arith)) in
    subst (IsWithin ((2 * r - 1) * n)) (sym (one_run from len old new l h s k lk)) (subst (λ x. IsWithin (x * n) (joined r m from old k)) e g)
  where
    some : (r m len : ℕ) → 2 ≤ len → len ≡ r * m → 0 < m
    some r zero len l e = absurd (omega arith)
    some r (suc m) len l e = omega arith

-- ---- laws

pub joins_any : (rs : List ℕ) (s : ℕ → Complex) (k : ℕ) → k < size rs → joined_all rs (λ i. s (reversed rs i)) k ≡ transform rs s k
joins_any rs s k l =
    let z : 0 * size rs + k ≡ k = omega arith in
    ap (joined_all rs (λ i. s (reversed rs i))) (sym z) ∙ transform_joined rs 0 (λ i. s (reversed rs i)) s (λ i li. let y : 0 * size rs + i ≡ i = omega arith in ap (λ v. s (reversed rs v)) y) k l

pub joins_of_length : (len : ℕ) (s : ℕ → Complex) (k : ℕ) → 1 ≤ len → 480 % len ≡ 0 → k < len → joined_all (radices len) (λ i. s (reversed (radices len) i)) k ≡ transform (radices len) s k
joins_of_length len s k l h lk =
    let e = (plan_of len l h).size in
    joins_any (radices len) s k (omega arith)

pub longest_growth : 2 * growth (radices 480) * 2 ≡ 26460
unfolding growth radices_by radix
longest_growth = refl

pub fourier_one : (s : ℕ → Complex) (k : ℕ) → transform (radices 1) s k ≡ s 0
unfolding transform radices_by
fourier_one s k = refl

-- there is one plan for a length
no_single : (r m : ℕ) → r ≡ radix (r * m) → 1 ≡ r * m → ⊥
unfolding radix
no_single r m e f =
    let five : r ≡ 5 = e ∙ ap radix (sym f) in
    let g : r * m ≡ 5 * m = ap (λ x. x * m) five in
    omega arith

same_rest : (r t m n : ℕ) → r ≡ t → 0 < r → r * m ≡ t * n → m ≡ n
same_rest r t m n e z f =
    let g : t * n ≡ r * n = ap (λ x. x * n) (sym e) in
    let u : r * m ≡ m * r + 0 = omega arith in
    let v : r * n ≡ n * r + 0 = omega arith in
    sym (div-mul-add m r 0 z) ∙ ap (λ x. x / r) (sym u ∙ f ∙ g ∙ v) ∙ div-mul-add n r 0 z

radix_some : (len : ℕ) → 0 < radix len
unfolding radix
radix_some len = some (nat_eq (len % 4) 0) (nat_eq (len % 2) 0) (nat_eq (len % 3) 0)
  where
    some : (a b c : Bool) → 0 < (if a then 4 else if b then 2 else if c then 3 else 5)
    some true b c = omega arith
    some false true c = omega arith
    some false false true = omega arith
    some false false false = omega arith

pub one_plan : (rs ts : List ℕ) → IsPlan rs → IsPlan ts → size rs ≡ size ts → rs ≡ ts
unfolding IsPlan size
one_plan [] [] p q e = refl
one_plan [] (t ∷ ts) p q e = absurd (no_single t (size ts) q.0 e)
one_plan (r ∷ rs) [] p q e = absurd (no_single r (size rs) p.0 (sym e))
one_plan (r ∷ rs) (t ∷ ts) p q e =
    let f : r ≡ t = p.0 ∙ ap radix e ∙ sym q.0 in
    let z : 0 < r = subst (λ x. 0 < x) (sym p.0) (radix_some (r * size rs)) in
    let g : rs ≡ ts = one_plan rs ts p.1 q.1 (same_rest r t (size rs) (size ts) f z e) in
    ap (λ x. x ∷ rs) f ∙ ap (λ x. t ∷ x) g

-- the radices of a length are its radix and those of the length inside
radices_more : (rs : List ℕ) (len : ℕ) (s : ℕ → Complex) (k : ℕ) → IsPlan rs → size rs ≡ len → 2 ≤ len → ((ts : List ℕ) → IsPlan ts → size ts ≡ len / radix len → radices (len / radix len) ≡ ts)
    → transform rs s k ≡ turned_sum (λ j. transform (radices (len / radix len)) (λ i. s (radix len * i + j)) (k % (len / radix len))) (15360 / len * k) (radix len - 1)
unfolding IsPlan size transform
radices_more [] len s k p e l u = absurd (omega arith)
radices_more (r ∷ rs) len s k p e l u =
    let f : r ≡ radix len = p.0 ∙ ap radix e in
    let z : 0 < r = subst (λ x. 0 < x) (sym f) (radix_some len) in
    let w : len ≡ size rs * r + 0 = omega arith in
    let m : size rs ≡ len / radix len = sym (ap (λ x. len / x) (sym f) ∙ ap (λ x. x / r) w ∙ div-mul-add (size rs) r 0 z) in
    let g : radices (len / radix len) ≡ rs = u rs p.1 m in
    ap (λ x. turned_sum (λ j. transform rs (λ i. s (r * i + j)) (k % size rs)) (15360 / x * k) (r - 1)) e
    ∙ ap (λ x. turned_sum (λ j. transform rs (λ i. s (r * i + j)) (k % x)) (15360 / len * k) (r - 1)) m
    ∙ ap (λ x. turned_sum (λ j. transform x (λ i. s (r * i + j)) (k % (len / radix len))) (15360 / len * k) (r - 1)) (sym g)
    ∙ ap (λ x. turned_sum (λ j. transform (radices (len / radix len)) (λ i. s (x * i + j)) (k % (len / radix len))) (15360 / len * k) (x - 1)) f

pub fourier_more : (len : ℕ) (s : ℕ → Complex) (k : ℕ) → 2 ≤ len → 480 % len ≡ 0 → transform (radices len) s k ≡ turned_sum (λ j. transform (radices (len / radix len)) (λ i. s (radix len * i + j)) (k % (len / radix len))) (15360 / len * k) (radix len - 1)
fourier_more len s k l h =
    let p = plan_of len (omega arith) h in
    let w = radix_whole len l h in
    let some : 1 ≤ len / radix len = room (radix len) (len / radix len) len l w.0 in
    let d : 480 % (len / radix len) ≡ 0 = divided (radix len) (len / radix len) len (480 / len) some w.0 (quotient_of len h) in
    let q = plan_of (len / radix len) some d in
    radices_more (radices len) len s k p.plan p.size l (λ ts t e. one_plan (radices (len / radix len)) ts q.plan t (q.size ∙ sym e))
  where
    room : (r m len : ℕ) → 2 ≤ len → len ≡ r * m → 1 ≤ m
    room r zero len l e = absurd (omega arith)
    room r (suc m) len l e = omega arith

    divided : (r m len t : ℕ) → 1 ≤ m → len ≡ r * m → 480 ≡ t * len → 480 % m ≡ 0
    divided r m len t z e f =
        let u : t * len ≡ t * (r * m) = ap (λ x. t * x) e in
        let v : 480 ≡ t * r * m + 0 = omega arith in
        ap (λ x. x % m) v ∙ mod-mul-add (t * r) m 0 z
