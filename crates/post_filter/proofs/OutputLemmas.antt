-- Outputs in place, one after the other, one part behind the other; and that their equations have one solution.
use Rattle.std.proofs.Common.{◌≡◌, ◌≢◌, ◌⊎◌, ℕ, zero, suc, ◌+◌, ◌-◌, ◌^◌, ◌<◌, ◌≤◌, refl, sym, subst, inl, inr, arith, ap, ◌∙◌, List, length}
use Rattle.std.specs.Prelude.{ℤ, pos, neg_ℤ, ◌+ℤ◌, ◌<ℤ◌, unsigned_abs, slice_set}
use Rattle.std.proofs.lemmas.Bool.{cases_lt, cases_eq}
use Rattle.std.proofs.lemmas.Int.{ints, clamps}
use Rattle.std.proofs.lemmas.List.{get_or-set_same, get_or-set_other, length-set}
use Rattle.fixed_math.specs.Items.{item}
use Rattle.fixed_math.proofs.ItemLemmas.{same_items}
use Rattle.post_filter.specs.Comb.{limited, AreOutputs}

pub limited_size : (z : ℤ) → unsigned_abs (limited z) ≤ 2 ^ 30
unfolding limited
limited_size z = omega (arith, ints, clamps)

pub limited_inside : (z : ℤ) → unsigned_abs z ≤ 2 ^ 30 → limited z ≡ z
unfolding limited
limited_inside z h = omega (arith, ints, clamps)

pub limited_high : (z : ℤ) → pos (2 ^ 30) <ℤ z → limited z ≡ pos (2 ^ 30)
unfolding limited
limited_high z h = omega (arith, ints, clamps)

pub limited_low : (z : ℤ) → z <ℤ neg_ℤ (pos (2 ^ 30)) → limited z ≡ neg_ℤ (pos (2 ^ 30))
unfolding limited
limited_low z h = omega (arith, ints, clamps)

-- what is added at each of the n places from at on depends on the values before it alone
abbrev pub LooksBack : (ℕ → List ℤ → ℤ) → ℕ → ℕ → Type 0
LooksBack added at n = (i : ℕ) → i < n → (us vs : List ℤ) → ((q : ℕ) → q < at + i → item us q ≡ item vs q) → added i us ≡ added i vs

pub outputs_start : (added : ℕ → List ℤ → ℤ) (at : ℕ) (xs : List ℤ) → AreOutputs added at 0 xs xs
outputs_start added at xs = record {
  count = refl;
  each = λ i h. absurd (omega arith);
  others = λ p h. refl;
}

smaller : (i n : ℕ) → i < n + 1 → (i ≡ n → ⊥) → i < n
smaller i n h g = omega arith

-- one output more
pub outputs_more : (added : ℕ → List ℤ → ℤ) (at n : ℕ) (xs ys : List ℤ) (v : ℤ) → LooksBack added at (n + 1) → at + n < length ys → v ≡ limited (item ys (at + n) +ℤ added n ys) → AreOutputs added at n xs ys → AreOutputs added at (n + 1) xs (slice_set ys (at + n) v)
outputs_more added at n xs ys v back h e o =
    let below : (q : ℕ) → q < at + n → item ys q ≡ item (slice_set ys (at + n) v) q = λ q l.
    let ne : q ≢ at + n = λ r. absurd (omega arith) in
    sym (get_or-set_other ys (at + n) q v (pos 0) ne) in
    record {
      count = length-set ys (at + n) v ∙ o.count;
      each = λ i l. elim (cases_eq i n) [
        | inl q ↦
            rw q (get_or-set_same ys (at + n) v (pos 0) h ∙ e ∙ ap (λ z. limited (z +ℤ added n ys)) (o.others (at + n) (inr (omega arith)))
            ∙ ap (λ z. limited (item xs (at + n) +ℤ z)) (back n (omega arith) ys (slice_set ys (at + n) v) below))
        | inr q ↦
            let less : i < n = smaller i n l q in
            sym (below (at + i) (omega arith)) ∙ o.each i less
            ∙ ap (λ z. limited (item xs (at + i) +ℤ z)) (back i (omega arith) ys (slice_set ys (at + n) v) (λ r m. below r (omega arith)))
      ];
      others = λ p l.
          let ne : p ≢ at + n = apart p l in
          get_or-set_other ys (at + n) p v (pos 0) ne ∙ o.others p (outside p l);
    }
  where
    apart : (p : ℕ) → (p < at) ⊎ (at + (n + 1) ≤ p) → p ≡ at + n → ⊥
    apart p l e = elim l [
      | inl a ↦ omega arith
      | inr a ↦ omega arith
    ]

    outside : (p : ℕ) → (p < at) ⊎ (at + (n + 1) ≤ p) → (p < at) ⊎ (at + n ≤ p)
    outside p l = elim l [
      | inl a ↦ inl a
      | inr a ↦ inr (omega arith)
    ]

-- the sizes of what stands before the next place
pub sizes_more : (at n : ℕ) (ys : List ℤ) (v : ℤ) → at + n < length ys → unsigned_abs v ≤ 2 ^ 30 → ((p : ℕ) → p < at + n → unsigned_abs (item ys p) ≤ 2 ^ 30) → (p : ℕ) → p < at + (n + 1) → unsigned_abs (item (slice_set ys (at + n) v) p) ≤ 2 ^ 30
sizes_more at n ys v h s o p l = elim (cases_eq p (at + n)) [
  | inl q ↦ rw q (subst (λ z. unsigned_abs z ≤ 2 ^ 30) (sym (get_or-set_same ys (at + n) v (pos 0) h)) s)
  | inr q ↦
      let ne : p ≢ at + n = q in
      subst (λ z. unsigned_abs z ≤ 2 ^ 30) (sym (get_or-set_other ys (at + n) p v (pos 0) ne)) (o p (less p l q))
]
  where
    less : (p : ℕ) → p < at + (n + 1) → (p ≡ at + n → ⊥) → p < at + n
    less p l q = omega arith

-- outputs with the sizes of what stands before the next place
pub record Going (added : ℕ → List ℤ → ℤ) (at i : ℕ) (xs ys : List ℤ) : Type 0 where
  pub outputs : AreOutputs added at i xs ys
  pub sizes : (p : ℕ) → p < at + i → unsigned_abs (item ys p) ≤ 2 ^ 30

pub going_start : (added : ℕ → List ℤ → ℤ) (at : ℕ) (xs : List ℤ) → ((p : ℕ) → p < at → unsigned_abs (item xs p) ≤ 2 ^ 30) → Going added at 0 xs xs
going_start added at xs h = record {
  outputs = outputs_start added at xs;
  sizes = λ p l. h p (omega arith);
}

pub going_more : (added : ℕ → List ℤ → ℤ) (at i : ℕ) (xs ys : List ℤ) (v a : ℤ) → LooksBack added at (i + 1) → at + i < length ys → a ≡ added i ys → v ≡ limited (item ys (at + i) +ℤ a) → Going added at i xs ys → Going added at (i + 1) xs (slice_set ys (at + i) v)
going_more added at i xs ys v a back h e f g =
    let s : unsigned_abs v ≤ 2 ^ 30 = subst (λ z. unsigned_abs z ≤ 2 ^ 30) (sym f) (limited_size (item ys (at + i) +ℤ a)) in
    let r : v ≡ limited (item ys (at + i) +ℤ added i ys) = f ∙ ap (λ z. limited (item ys (at + i) +ℤ z)) e in
    record {
      outputs = outputs_more added at i xs ys v back h r g.outputs;
      sizes = sizes_more at i ys v h s g.sizes;
    }

-- the next value is as it was
pub going_ahead : (added : ℕ → List ℤ → ℤ) (at i n : ℕ) (xs ys : List ℤ) → i < n → ((p : ℕ) → at ≤ p → p < at + n → unsigned_abs (item xs p) < 2 ^ 47) → Going added at i xs ys → unsigned_abs (item ys (at + i)) < 2 ^ 47
going_ahead added at i n xs ys l h g = subst (λ z. unsigned_abs z < 2 ^ 47) (sym (g.outputs.others (at + i) (inr (omega arith)))) (h (at + i) (omega arith) (omega arith))

-- as much added
pub outputs_as : (added other : ℕ → List ℤ → ℤ) (at n : ℕ) (xs ys : List ℤ) → ((i : ℕ) → i < n → added i ys ≡ other i ys) → AreOutputs added at n xs ys → AreOutputs other at n xs ys
outputs_as added other at n xs ys e o = record {
  count = o.count;
  each = λ i l. o.each i l ∙ ap (λ z. limited (item xs (at + i) +ℤ z)) (e i l);
  others = o.others;
}

-- a part behind another
pub outputs_joined : (added : ℕ → List ℤ → ℤ) (at m n : ℕ) (xs ys zs : List ℤ) → LooksBack added at m → AreOutputs added at m xs ys → AreOutputs (λ i. added (m + i)) (at + m) n ys zs → AreOutputs added at (m + n) xs zs
outputs_joined added at m n xs ys zs back o r = record {
  count = r.count ∙ o.count;
  each = λ i l. elim (cases_lt i m) [
    | inl a ↦
        r.others (at + i) (inl (omega arith)) ∙ o.each i a
        ∙ ap (λ z. limited (item xs (at + i) +ℤ z)) (back i a ys zs (λ q b. sym (r.others q (inl (omega arith)))))
    | inr a ↦
        let j : ℕ = i - m in
        let e : i ≡ m + j = omega arith in
        let f : at + (m + j) ≡ at + m + j = omega arith in
        let s : item zs (at + m + j) ≡ limited (item ys (at + m + j) +ℤ added (m + j) zs) = r.each j (omega arith) in
        let t : item ys (at + m + j) ≡ item xs (at + m + j) = o.others (at + m + j) (inr (omega arith)) in
        rw e (rw f (s ∙ ap (λ z. limited (z +ℤ added (m + j) zs)) t))
  ];
  others = λ p l. r.others p (later p l) ∙ o.others p (first p l);
}
  where
    later : (p : ℕ) → (p < at) ⊎ (at + (m + n) ≤ p) → (p < at + m) ⊎ (at + m + n ≤ p)
    later p l = elim l [
      | inl a ↦ inl (omega arith)
      | inr a ↦ inr (omega arith)
    ]

    first : (p : ℕ) → (p < at) ⊎ (at + (m + n) ≤ p) → (p < at) ⊎ (at + m ≤ p)
    first p l = elim l [
      | inl a ↦ inl a
      | inr a ↦ inr (omega arith)
    ]

-- one solution: the outputs agree below each place
same_below : (added : ℕ → List ℤ → ℤ) (at n : ℕ) (xs ys zs : List ℤ) → LooksBack added at n → AreOutputs added at n xs ys → AreOutputs added at n xs zs → (k : ℕ) → k ≤ n → (q : ℕ) → q < at + k → item ys q ≡ item zs q
same_below added at n xs ys zs back o r zero h q l = o.others q (inl (omega arith)) ∙ sym (r.others q (inl (omega arith)))
same_below added at n xs ys zs back o r (suc k) h q l = elim (cases_lt q (at + k)) [
  | inl a ↦ same_below added at n xs ys zs back o r k (omega arith) q a
  | inr a ↦
      let e : q ≡ at + k = omega arith in
      rw e (o.each k (omega arith) ∙ ap (λ z. limited (item xs (at + k) +ℤ z)) (back k (omega arith) ys zs (same_below added at n xs ys zs back o r k (omega arith))) ∙ sym (r.each k (omega arith)))
]

pub one_solution : (added : ℕ → List ℤ → ℤ) (at n : ℕ) (xs ys zs : List ℤ) → LooksBack added at n → AreOutputs added at n xs ys → AreOutputs added at n xs zs → ys ≡ zs
one_solution added at n xs ys zs back o r = same_items ys zs (o.count ∙ sym r.count) same
  where
    same : (p : ℕ) → p < length ys → item ys p ≡ item zs p
    same p h = elim (cases_lt p (at + n)) [
      | inl a ↦ same_below added at n xs ys zs back o r n (omega arith) p a
      | inr a ↦ o.others p (inr a) ∙ sym (r.others p (inr a))
    ]
