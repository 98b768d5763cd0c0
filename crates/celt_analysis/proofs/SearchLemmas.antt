-- The best of candidates: by the ratio that the best so far sets, and as the definition has it.
use Rattle.std.proofs.Common.{◌≡◌, ℕ, zero, suc, ◌+◌, ◌*◌, ◌<◌, ◌≤◌, refl, sym, ap, subst, inl, inr, arith, ◌∙◌, Bool, true, false}
use Rattle.std.specs.Prelude.{◌⊎◌, not, ◌&&◌, nat_lt}
use Rattle.std.proofs.lemmas.Nat.{mul-le}
use Rattle.std.proofs.lemmas.Bool.{cases_lt, cases_Bool, and_parts, and_from, and_left, and_right, or_left, or_right, or_from, ltb-true, lt-ltb, le-ltb, cond-true, cond-false, true≢false}
use Rattle.celt_analysis.specs.Pitch.{is_better, is_candidate, is_beaten, least, first_best}
use Rattle.celt_analysis.specs.Search.{reaches, IsNext, IsBest, IsBestFrom}

pub record Reached (slack s o c e : ℕ) : Type 0 where
  pub some : 0 < c
  pub energy : 0 < e
  pub above : s * e < c * c * o + slack

pub reached : (slack s o c e : ℕ) → reaches slack s o c e ≡ true → Reached slack s o c e
reached slack s o c e h =
    let p = and_parts (nat_lt 0 c && nat_lt 0 e) (nat_lt (s * e) (c * c * o + slack)) h in
    let q = and_parts (nat_lt 0 c) (nat_lt 0 e) p.0 in
    record {
      some = ltb-true 0 c q.0;
      energy = ltb-true 0 e q.1;
      above = ltb-true (s * e) (c * c * o + slack) p.1;
    }

pub reaching : (slack s o c e : ℕ) → 0 < c → 0 < e → s * e < c * c * o + slack → reaches slack s o c e ≡ true
reaching slack s o c e p q h = and_from (nat_lt 0 c && nat_lt 0 e) (nat_lt (s * e) (c * c * o + slack)) (and_from (nat_lt 0 c) (nat_lt 0 e) (lt-ltb 0 c p) (lt-ltb 0 e q)) (lt-ltb (s * e) (c * c * o + slack) h)

pub missed : (slack s o c e : ℕ) → 0 < c → 0 < e → reaches slack s o c e ≡ false → c * c * o + slack ≤ s * e
missed slack s o c e p q h =
    elim (cases_lt (s * e) (c * c * o + slack)) [
      | inl l ↦ absurd (true≢false (sym (reaching slack s o c e p q l) ∙ h))
      | inr l ↦ l
    ]

-- a match that is smaller does not reach what the greater one misses
pub missed-below : (slack s o c u e : ℕ) → c ≤ u → reaches slack s o u e ≡ false → reaches slack s o c e ≡ false
missed-below slack s o c u e l h =
    elim (cases_Bool (reaches slack s o c e)) [
      | inl t ↦ absurd (true≢false (sym (higher (reached slack s o c e t)) ∙ h))
      | inr f ↦ f
    ]
  where
    higher : Reached slack s o c e → reaches slack s o u e ≡ true
    higher r =
        let m : c * c ≤ u * u = mul-le c c u u l l in
        let n : (c * c) * o ≤ (u * u) * o = mul-le (c * c) o (u * u) o m (omega arith) in
        reaching slack s o u e (omega (arith, r.some)) r.energy (omega (arith, r.above))

pub candidate-some : (c e : ℕ → ℕ) (i : ℕ) → is_candidate c e i ≡ true → (0 < c i) × (0 < e i)
candidate-some c e i h =
    let q = and_parts (nat_lt 0 (c i)) (nat_lt 0 (e i)) h in
    (ltb-true 0 (c i) q.0, ltb-true 0 (e i) q.1)

pub some-candidate : (c e : ℕ → ℕ) (i : ℕ) → 0 < c i → 0 < e i → is_candidate c e i ≡ true
some-candidate c e i p q = and_from (nat_lt 0 (c i)) (nat_lt 0 (e i)) (lt-ltb 0 (c i) p) (lt-ltb 0 (e i) q)

-- a is below s over o, which is not above r: a is below r
below_through : (a e s o r f : ℕ) → a * o < s * e → s * f ≤ r * o → 0 < f → a * f < r * e
below_through a e s o r f h l p =
    elim (cases_lt (a * f) (r * e)) [
      | inl q ↦ q
      | inr q ↦
          let x : (a * o + 1) * f ≤ (s * e) * f = mul-le (a * o + 1) f (s * e) f (omega arith) (omega arith) in
          let y : (s * f) * e ≤ (r * o) * e = mul-le (s * f) e (r * o) e l (omega arith) in
          let z : (r * e) * o ≤ (a * f) * o = mul-le (r * e) o (a * f) o q (omega arith) in
          absurd (omega arith)
    ]

-- the first that reaches a ratio is the best so far
pub best-first : (c e : ℕ → ℕ) (s o n r : ℕ) → IsNext c e 1 s o 0 n r → r < n → IsBest c e (r + 1) r
best-first c e s o n r h p =
    let t = reached 1 s o (c r) (e r) (h.met p) in
    record {
      within = omega arith;
      candidate = some-candidate c e r t.some t.energy;
      greatest = λ i q g. upto i q g;
      first = λ i q g. before i q g;
    }
  where
    before : (i : ℕ) → i < r → is_candidate c e i ≡ true → c i * c i * e r < c r * c r * e i
    before i q g =
        let t = reached 1 s o (c r) (e r) (h.met p) in
        let k = candidate-some c e i g in
        let m = missed 1 s o (c i) (e i) k.0 k.1 (h.passed i (omega arith) q) in
        below_through (c i * c i) (e i) s o (c r * c r) (e r) (omega arith) (omega (arith, t.above)) t.energy

    upto : (i : ℕ) → i < r + 1 → is_candidate c e i ≡ true → c i * c i * e r ≤ c r * c r * e i
    upto i q g =
        elim (cases_lt i r) [
          | inl l ↦ (let b = before i l g in omega arith)
          | inr l ↦ (let k : i ≡ r = omega arith in subst (λ j. c j * c j * e r ≤ c r * c r * e j) (sym k) (omega arith))
        ]

-- those behind it that do not reach its ratio change nothing
pub best-over : (c e : ℕ → ℕ) (n m r k : ℕ) → IsBest c e (r + 1) r → IsNext c e 0 (c r * c r) (e r) (r + 1) n k → m ≤ k → r < m → IsBest c e m r
best-over c e n m r k b h l w = record {
  within = w;
  candidate = b.candidate;
  greatest = λ i q g. upto i q g;
  first = b.first;
}
  where
    upto : (i : ℕ) → i < m → is_candidate c e i ≡ true → c i * c i * e r ≤ c r * c r * e i
    upto i q g =
        elim (cases_lt i (r + 1)) [
          | inl p ↦ b.greatest i p g
          | inr p ↦
              (let t = candidate-some c e i g in
              let d = missed 0 (c r * c r) (e r) (c i) (e i) t.0 t.1 (h.passed i p (omega arith)) in
              omega arith)
        ]

-- a over ei is at most r over er, which is below i over ek
pub below_next : (a i r : ℕ) (ei er ek : ℕ) → a * er ≤ r * ei → r * ek < i * er → 0 < ei → a * ek < i * ei
below_next a i r ei er ek x y z =
    elim (cases_lt (a * ek) (i * ei)) [
      | inl q ↦ q
      | inr q ↦
          (let u : (a * er) * ek ≤ (r * ei) * ek = mul-le (a * er) ek (r * ei) ek x (omega arith) in
          let v : (r * ek + 1) * ei ≤ (i * er) * ei = mul-le (r * ek + 1) ei (i * er) ei (omega arith) (omega arith) in
          let w : (i * ei) * er ≤ (a * ek) * er = mul-le (i * ei) er (a * ek) er q (omega arith) in
          absurd (omega arith))
    ]

-- the next that reaches its ratio is the best so far
pub best-next : (c e : ℕ → ℕ) (n r k : ℕ) → IsBest c e (r + 1) r → IsNext c e 0 (c r * c r) (e r) (r + 1) n k → k < n → IsBest c e (k + 1) k
best-next c e n r k b h p =
    let t = reached 0 (c r * c r) (e r) (c k) (e k) (h.met p) in
    record {
      within = omega arith;
      candidate = some-candidate c e k t.some t.energy;
      greatest = λ i q g. upto i q g;
      first = λ i q g. before i q g;
    }
  where
    all : IsBest c e k r
    all = best-over c e n k r k b h (omega arith) (omega (arith, h.low))

    before : (i : ℕ) → i < k → is_candidate c e i ≡ true → c i * c i * e k < c k * c k * e i
    before i q g =
        let t = reached 0 (c r * c r) (e r) (c k) (e k) (h.met p) in
        let z = candidate-some c e i g in
        below_next (c i * c i) (c k * c k) (c r * c r) (e i) (e r) (e k) (all.greatest i q g) (omega (arith, t.above)) z.1

    upto : (i : ℕ) → i < k + 1 → is_candidate c e i ≡ true → c i * c i * e k ≤ c k * c k * e i
    upto i q g =
        elim (cases_lt i k) [
          | inl l ↦ (let b2 = before i l g in omega arith)
          | inr l ↦ (let j : i ≡ k = omega arith in subst (λ x. c x * c x * e k ≤ c k * c k * e x) (sym j) (omega arith))
        ]

-- s over o is at most r over f, and that at most k over g
through : (s o r f k g : ℕ) → s * f ≤ r * o → r * g ≤ k * f → 0 < f → s * g < k * o + 1
through s o r f k g x y p =
    elim (cases_lt (s * g) (k * o + 1)) [
      | inl q ↦ q
      | inr q ↦
          (let u : (s * f) * g ≤ (r * o) * g = mul-le (s * f) g (r * o) g x (omega arith) in
          let v : (r * g) * o ≤ (k * f) * o = mul-le (r * g) o (k * f) o y (omega arith) in
          let w : (k * o + 1) * f ≤ (s * g) * f = mul-le (k * o + 1) f (s * g) f q (omega arith) in
          absurd (omega arith))
    ]

-- what is better stays at the ratio
pub met-next : (c e : ℕ → ℕ) (s o n r k : ℕ) → reaches 1 s o (c r) (e r) ≡ true → IsNext c e 0 (c r * c r) (e r) (r + 1) n k → k < n → reaches 1 s o (c k) (e k) ≡ true
met-next c e s o n r k m h p =
    let t = reached 0 (c r * c r) (e r) (c k) (e k) (h.met p) in
    let u = reached 1 s o (c r) (e r) m in
    reaching 1 s o (c k) (e k) t.some t.energy (through s o (c r * c r) (e r) (c k * c k) (e k) (omega (arith, u.above)) (omega (arith, t.above)) u.energy)

-- the ratio may be raised to that of one of the candidates that is at it
pub best-raised : (c e : ℕ → ℕ) (s o n r k : ℕ) → k < n → reaches 1 s o (c k) (e k) ≡ true → IsBestFrom c e (c k * c k) (e k) n r → IsBestFrom c e s o n r
best-raised c e s o n r k p m b = record {
  high = b.high;
  none = λ q i l. absurd (true≢false (sym (itself (reached 1 s o (c k) (e k) m)) ∙ b.none q k p));
  best = b.best;
  met = λ q. still (reached 1 s o (c k) (e k) m) (reached 1 (c k * c k) (e k) (c r) (e r) (b.met q));
}
  where
    itself : Reached 1 s o (c k) (e k) → reaches 1 (c k * c k) (e k) (c k) (e k) ≡ true
    itself t = reaching 1 (c k * c k) (e k) (c k) (e k) t.some t.energy (omega arith)

    still : Reached 1 s o (c k) (e k) → Reached 1 (c k * c k) (e k) (c r) (e r) → reaches 1 s o (c r) (e r) ≡ true
    still t u = reaching 1 s o (c r) (e r) u.some u.energy (through s o (c k * c k) (e k) (c r * c r) (e r) (omega (arith, t.above)) (omega (arith, u.above)) t.energy)

-- ---- the definition's candidate

last_or_below : (i n : ℕ) → i < suc n → (i ≡ n) ⊎ (i < n)
last_or_below i n h =
    elim (cases_lt i n) [
      | inl p ↦ inr p
      | inr p ↦ inl (omega arith)
    ]

unbeaten-by : (c e : ℕ → ℕ) (n j : ℕ) → ((i : ℕ) → i < n → is_candidate c e i ≡ true → c i * c i * e j ≤ c j * c j * e i) → is_beaten c e n j ≡ false
unfolding is_beaten
unbeaten-by c e zero j h = refl
unbeaten-by c e (suc n) j h = or_from (is_candidate c e n && is_better c e n j) (is_beaten c e n j) (here (cases_Bool (is_candidate c e n))) (unbeaten-by c e n j (λ i p. h i (omega arith)))
  where
    here : (is_candidate c e n ≡ true) ⊎ (is_candidate c e n ≡ false) → (is_candidate c e n && is_better c e n j) ≡ false
    here (inl t) = and_right (is_candidate c e n) (is_better c e n j) (le-ltb (c j * c j * e n) (c n * c n * e j) (h n (omega arith) t))
    here (inr f) = and_left (is_candidate c e n) (is_better c e n j) f

beaten-by : (c e : ℕ → ℕ) (n i j : ℕ) → j < n → is_candidate c e j ≡ true → is_better c e j i ≡ true → is_beaten c e n i ≡ true
unfolding is_beaten
beaten-by c e zero i j p g t = absurd (omega arith)
beaten-by c e (suc n) i j p g t =
    elim (last_or_below j n p) [
      | inl k ↦ or_left (is_candidate c e n && is_better c e n i) (is_beaten c e n i) (subst (λ m. (is_candidate c e m && is_better c e m i) ≡ true) k (and_from (is_candidate c e j) (is_better c e j i) g t))
      | inr q ↦ or_right (is_candidate c e n && is_better c e n i) (is_beaten c e n i) (beaten-by c e n i j q g t)
    ]

pub least-found : (t : ℕ → Bool) (n j : ℕ) → j < n → t j ≡ true → ((i : ℕ) → i < j → t i ≡ false) → least t n ≡ j
unfolding least
least-found t zero j p h b = absurd (omega arith)
least-found t (suc n) zero p h b = cond-true (t 0) 0 (suc (least (λ i. t (suc i)) n)) h
least-found t (suc n) (suc j) p h b = cond-false (t 0) 0 (suc (least (λ i. t (suc i)) n)) (b 0 (omega arith)) ∙ ap (λ k. suc k) (least-found (λ i. t (suc i)) n j (omega arith) h (λ i q. b (suc i) (omega arith)))

pub least-passes : (t : ℕ → Bool) (n : ℕ) → least t n < n → t (least t n) ≡ true
unfolding least
least-passes t zero h = absurd (omega arith)
least-passes t (suc n) h = here (cases_Bool (t 0)) (least-passes (λ i. t (suc i)) n)
  where
    here : (t 0 ≡ true) ⊎ (t 0 ≡ false) → (least (λ i. t (suc i)) n < n → t (suc (least (λ i. t (suc i)) n)) ≡ true) → t (least t (suc n)) ≡ true
    here (inl y) more = subst (λ k. t k ≡ true) (sym (cond-true (t 0) 0 (suc (least (λ i. t (suc i)) n)) y)) y
    here (inr f) more =
        let e : least t (suc n) ≡ suc (least (λ i. t (suc i)) n) = cond-false (t 0) 0 (suc (least (λ i. t (suc i)) n)) f in
        subst (λ k. t k ≡ true) (sym e) (more (omega arith))

pub best-found : (c e : ℕ → ℕ) (n r : ℕ) → IsBest c e n r → first_best c e n ≡ r
unfolding first_best
best-found c e n r b = least-found (λ j. is_candidate c e j && not (is_beaten c e n j)) n r b.within
    (and_from (is_candidate c e r) (not (is_beaten c e n r)) b.candidate (ap not (unbeaten-by c e n r b.greatest)))
    (λ i p. before i p (cases_Bool (is_candidate c e i)))
  where
    before : (i : ℕ) → i < r → (is_candidate c e i ≡ true) ⊎ (is_candidate c e i ≡ false) → (is_candidate c e i && not (is_beaten c e n i)) ≡ false
    before i p (inl t) = and_right (is_candidate c e i) (not (is_beaten c e n i)) (ap not (beaten-by c e n i r b.within b.candidate (lt-ltb (c i * c i * e r) (c r * c r * e i) (b.first i p t))))
    before i p (inr f) = and_left (is_candidate c e i) (not (is_beaten c e n i)) f

pub first_best-candidate : (c e : ℕ → ℕ) (n : ℕ) → first_best c e n < n → is_candidate c e (first_best c e n) ≡ true
unfolding first_best
first_best-candidate c e n h =
    let t = least-passes (λ j. is_candidate c e j && not (is_beaten c e n j)) n h in
    (and_parts (is_candidate c e (first_best c e n)) (not (is_beaten c e n (first_best c e n))) t).0

-- the same, for a ratio and a candidate that are equal to those
pub raised-ratio : (c e : ℕ → ℕ) (s o n r k square energy m f : ℕ) → k < n → square ≡ c k * c k → energy ≡ e k → m ≡ c k → f ≡ e k → reaches 1 s o m f ≡ true → IsBestFrom c e square energy n r → IsBestFrom c e s o n r
raised-ratio c e s o n r k square energy m f p a b g h t w =
    let u : reaches 1 s o (c k) (e k) ≡ true = subst (λ x. reaches 1 s o x (e k) ≡ true) g (subst (λ y. reaches 1 s o m y ≡ true) h t) in
    let v : IsBestFrom c e (c k * c k) (e k) n r = subst (λ x. IsBestFrom c e x (e k) n r) a (subst (λ y. IsBestFrom c e square y n r) b w) in
    best-raised c e s o n r k p u v

-- ---- the loop of the search

pub next-of-ratio : (c e : ℕ → ℕ) (k n r slack square energy : ℕ) → slack ≡ 0 → square ≡ c k * c k → energy ≡ e k → IsNext c e slack square energy (k + 1) n r → IsNext c e 0 (c k * c k) (e k) (k + 1) n r
next-of-ratio c e k n r slack square energy l a b w = subst (λ x. IsNext c e 0 x (e k) (k + 1) n r) a (subst (λ y. IsNext c e 0 square y (k + 1) n r) b (subst (λ z. IsNext c e z square energy (k + 1) n r) l w))

pub next-of-equal : (c e : ℕ → ℕ) (s o n r slack : ℕ) → slack ≡ 1 → IsNext c e slack s o 0 n r → IsNext c e 1 s o 0 n r
next-of-equal c e s o n r slack l w = subst (λ z. IsNext c e z s o 0 n r) l w

pub not-found : (c e : ℕ → ℕ) (s o n r : ℕ) → r ≡ n → IsNext c e 1 s o 0 n r → IsBestFrom c e s o n n
not-found c e s o n r h b = record {
  high = omega arith;
  none = λ q i l. b.passed i (omega arith) (omega arith);
  best = λ q. absurd (omega arith);
  met = λ q. absurd (omega arith);
}

pub searched : (c e : ℕ → ℕ) (s o n r k : ℕ) → IsBest c e (r + 1) r → IsNext c e 0 (c r * c r) (e r) (r + 1) n k → reaches 1 s o (c r) (e r) ≡ true → n ≤ k → IsBestFrom c e s o n r
searched c e s o n r k b h m l =
    let w : r < n = omega (arith, h.low, h.high) in
    record {
      high = omega arith;
      none = λ q i p. absurd (omega arith);
      best = λ q. best-over c e n n r k b h l w;
      met = λ q. m;
    }
