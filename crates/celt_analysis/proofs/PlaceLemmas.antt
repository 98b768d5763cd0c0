-- Lists that are written place by place.
use Rattle.std.proofs.Common.{◌≡◌, ◌≢◌, ℕ, ◌+◌, ◌<◌, ◌≤◌, inl, inr, refl, sym, ap, subst, arith, ◌∙◌, List, length, get_or}
use Rattle.std.specs.Prelude.{◌⊎◌, ℤ, pos, slice_set, replicate, unsigned_abs}
use Rattle.std.proofs.lemmas.Bool.{cases_lt, cases_eq}
use Rattle.std.proofs.lemmas.List.{get_or_past, get_or-set_same, get_or-set_other, length-set, length-replicate, get_or-replicate}
use Rattle.fixed_math.specs.Items.{item}

pub item-zeros : (n k : ℕ) → item (replicate n (pos 0)) k ≡ pos 0
item-zeros n k =
    elim (cases_lt k n) [
      | inl p ↦ get_or-replicate n k (pos 0) (pos 0) p
      | inr p ↦ get_or_past (replicate n (pos 0)) k (pos 0) (subst (λ m. m ≤ k) (sym (length-replicate n (pos 0))) p)
    ]

-- the places from `to` on hold f so far, and all others are as they were
pub record Put (f : ℕ → ℤ) (old xs : List ℤ) (to i : ℕ) : Type 0 where
  pub done : (k : ℕ) → k < i → item xs (to + k) ≡ f k
  pub others : (k : ℕ) → (k < to) ⊎ (to + i ≤ k) → item xs k ≡ item old k
  pub length : length xs ≡ length old

pub put-start : (f : ℕ → ℤ) (xs : List ℤ) (to : ℕ) → Put f xs xs to 0
put-start f xs to = record {
  done = λ k p. absurd (omega arith);
  others = λ k p. refl;
  length = refl;
}

pub put-more : (f : ℕ → ℤ) (old xs : List ℤ) (to i : ℕ) (v : ℤ) → to + i < length old → v ≡ f i → Put f old xs to i → Put f old (slice_set xs (to + i) v) to (i + 1)
put-more f old xs to i v l e h = record {
  done = λ k p. upto k (cases_eq k i) p;
  others = λ k p. beside k p;
  length = length-set xs (to + i) v ∙ h.length;
}
  where
    upto : (k : ℕ) → (k ≡ i) ⊎ (k ≡ i → ⊥) → k < i + 1 → item (slice_set xs (to + i) v) (to + k) ≡ f k
    upto k (inl q) p = subst (λ j. item (slice_set xs (to + i) v) (to + j) ≡ f j) (sym q) (get_or-set_same xs (to + i) v (pos 0) (omega (arith, h.length)) ∙ e)
    upto k (inr q) p =
        let ne : to + k ≢ to + i = λ g. q (omega arith) in
        get_or-set_other xs (to + i) (to + k) v (pos 0) ne ∙ h.done k (below k q p)
      where
        below : (k : ℕ) → (k ≡ i → ⊥) → k < i + 1 → k < i
        below k q p =
            elim (cases_lt k i) [
              | inl r ↦ r
              | inr r ↦ absurd (q (omega arith))
            ]

    beside : (k : ℕ) → (k < to) ⊎ (to + (i + 1) ≤ k) → item (slice_set xs (to + i) v) k ≡ item old k
    beside k (inl p) =
        let ne : k ≢ to + i = λ g. absurd (omega arith) in
        get_or-set_other xs (to + i) k v (pos 0) ne ∙ h.others k (inl p)
    beside k (inr p) =
        let ne : k ≢ to + i = λ g. absurd (omega arith) in
        get_or-set_other xs (to + i) k v (pos 0) ne ∙ h.others k (inr (omega arith))

-- the first i places hold f, and those behind them what they did
pub record Over (f : ℕ → ℤ) (old xs : List ℤ) (i : ℕ) : Type 0 where
  pub done : (k : ℕ) → k < i → item xs k ≡ f k
  pub ahead : (k : ℕ) → i ≤ k → item xs k ≡ item old k
  pub length : length xs ≡ length old

pub over-start : (f : ℕ → ℤ) (xs : List ℤ) → Over f xs xs 0
over-start f xs = record {
  done = λ k p. absurd (omega arith);
  ahead = λ k p. refl;
  length = refl;
}

pub over-more : (f : ℕ → ℤ) (old xs : List ℤ) (i : ℕ) (v : ℤ) → i < length old → v ≡ f i → Over f old xs i → Over f old (slice_set xs i v) (i + 1)
over-more f old xs i v l e h = record {
  done = λ k p. upto k (cases_eq k i) p;
  ahead = λ k p. behind k p;
  length = length-set xs i v ∙ h.length;
}
  where
    upto : (k : ℕ) → (k ≡ i) ⊎ (k ≡ i → ⊥) → k < i + 1 → item (slice_set xs i v) k ≡ f k
    upto k (inl q) p = subst (λ j. item (slice_set xs i v) j ≡ f j) (sym q) (get_or-set_same xs i v (pos 0) (omega (arith, h.length)) ∙ e)
    upto k (inr q) p =
        elim (cases_lt k i) [
          | inl r ↦ get_or-set_other xs i k v (pos 0) q ∙ h.done k r
          | inr r ↦ absurd (q (omega arith))
        ]

    behind : (k : ℕ) → i + 1 ≤ k → item (slice_set xs i v) k ≡ item old k
    behind k p =
        let ne : k ≢ i = λ g. absurd (omega arith) in
        get_or-set_other xs i k v (pos 0) ne ∙ h.ahead k (omega arith)

pub written-within : (xs : List ℤ) (i : ℕ) (v : ℤ) (m : ℕ) → ((k : ℕ) → unsigned_abs (item xs k) ≤ m) → unsigned_abs v ≤ m → (k : ℕ) → unsigned_abs (item (slice_set xs i v) k) ≤ m
written-within xs i v m h p k =
    elim (cases_eq k i) [
      | inl q ↦ (elim (cases_lt i (length xs)) [
        | inl l ↦ subst (λ z. unsigned_abs z ≤ m) (sym (ap (item (slice_set xs i v)) q ∙ get_or-set_same xs i v (pos 0) l)) p
        | inr l ↦ subst (λ z. unsigned_abs z ≤ m) (sym (get_or_past (slice_set xs i v) k (pos 0) (omega (arith, length-set xs i v)))) (omega arith)
      ])
      | inr q ↦ subst (λ z. unsigned_abs z ≤ m) (sym (get_or-set_other xs i k v (pos 0) q)) (h k)
    ]

-- one more item that a fact holds of
pub one-more : (P : ℕ → ℕ → Type 0) (xs : List ℕ) (i v : ℕ) → i < length xs → P i v → ((k : ℕ) → k < i → P k (get_or xs k 0)) → (k : ℕ) → k < i + 1 → P k (get_or (slice_set xs i v) k 0)
one-more P xs i v l p h k q =
    elim (cases_eq k i) [
      | inl e ↦ subst (λ j. P j (get_or (slice_set xs i v) j 0)) (sym e) (subst (λ z. P i z) (sym (get_or-set_same xs i v 0 l)) p)
      | inr e ↦ (elim (cases_lt k i) [
        | inl r ↦ subst (λ z. P k z) (sym (get_or-set_other xs i k v 0 e)) (h k r)
        | inr r ↦ absurd (e (omega arith))
      ])
    ]
