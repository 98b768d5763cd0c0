use Rattle.std.proofs.Common.{◌≡◌, ℕ, ◌+◌, ◌*◌, ◌/◌, ◌<◌, ◌^◌, inl, inr, sym, ap, subst, arith, ◌∙◌}
use Rattle.std.specs.Prelude.{ℤ, ◌+ℤ◌, unsigned_abs}
use Rattle.std.specs.Int.{w16, w32, int_wrap}
use Rattle.std.proofs.lemmas.Int.{fits_signed_from_abs}
use Rattle.fixed_math.specs.Items.{item}
use Rattle.celt_analysis.specs.Sums.{correlation}
use Rattle.celt_analysis.proofs.KaratsubaLemmas.{Half, half-of, item-small, leaf-small, joined, lay, both-moved, low-moved, high-moved, joined-sizes, sizes-kept}
use Rattle.celt_analysis.proofs.karatsuba.+correlate.Goals as goal

pub correlate_short-requires-clause-fits : goal.correlate_short-requires-clause-fits
correlate_short-requires-clause-fits m c = λ i p. fits_signed_from_abs w16 _ (leaf-small (unsigned_abs (item c.args.s.now i)) c.args.part.places c.args.part.halvings c.requires.power (c.requires.sizes i p))

pub sums-requires-clause-first_sizes : goal.sums-requires-clause-first_sizes
sums-requires-clause-first_sizes m c =
    let q : ℕ = c.args.part.places / 2 in
    let g : Half c.args.part.places c.args.part.halvings = half-of c.args.part.places c.args.part.halvings (omega arith) c.requires.power in
    let w : q + q ≡ c.args.part.places = g.whole in
    λ i p. item-small (unsigned_abs (item c.args.s.now (c.args.part.from + i))) c.args.part.places g.least (c.requires.sizes (c.args.part.from + i) (omega (arith, c.requires.second)))

pub sums-requires-clause-second_sizes : goal.sums-requires-clause-second_sizes
sums-requires-clause-second_sizes m c =
    let q : ℕ = c.args.part.places / 2 in
    let g : Half c.args.part.places c.args.part.halvings = half-of c.args.part.places c.args.part.halvings (omega arith) c.requires.power in
    let w : q + q ≡ c.args.part.places = g.whole in
    λ i p. item-small (unsigned_abs (item c.args.s.now (c.args.part.from + q + i))) c.args.part.places g.least (c.requires.sizes (c.args.part.from + q + i) (omega (arith, c.requires.second)))

pub differences-requires-clause-first_sizes : goal.differences-requires-clause-first_sizes
differences-requires-clause-first_sizes m c =
    let q : ℕ = c.args.part.places / 2 in
    let g : Half c.args.part.places c.args.part.halvings = half-of c.args.part.places c.args.part.halvings (omega arith) c.requires.power in
    let w : q + q ≡ c.args.part.places = g.whole in
    λ i p. subst (λ z. unsigned_abs z < 2 ^ 14) (sym (c.sums.ensures.others (c.args.part.at + i) (inl (omega (arith, c.requires.first))))) (item-small (unsigned_abs (item c.args.s.now (c.args.part.at + i))) c.args.part.places g.least (c.requires.sizes (c.args.part.at + i) (omega (arith, c.requires.first))))

pub differences-requires-clause-second_sizes : goal.differences-requires-clause-second_sizes
differences-requires-clause-second_sizes m c =
    let q : ℕ = c.args.part.places / 2 in
    let g : Half c.args.part.places c.args.part.halvings = half-of c.args.part.places c.args.part.halvings (omega arith) c.requires.power in
    let w : q + q ≡ c.args.part.places = g.whole in
    λ i p. subst (λ z. unsigned_abs z < 2 ^ 14) (sym (c.sums.ensures.others (c.args.part.at + q + i) (inl (omega (arith, c.requires.first))))) (item-small (unsigned_abs (item c.args.s.now (c.args.part.at + q + i))) c.args.part.places g.least (c.requires.sizes (c.args.part.at + q + i) (omega (arith, c.requires.first))))

pub differences-requires-2-clause-first_sizes : goal.differences-requires-2-clause-first_sizes
differences-requires-2-clause-first_sizes m c =
    let q : ℕ = c.args.part.places / 2 in
    let g : Half c.args.part.places c.args.part.halvings = half-of c.args.part.places c.args.part.halvings (omega arith) c.requires.power in
    let w : q + q ≡ c.args.part.places = g.whole in
    λ i p. subst (λ z. unsigned_abs z < 2 ^ 14) (sym (c.differences.ensures.others (c.args.part.at + c.args.part.places + i) (inl (omega (arith, c.requires.first))) ∙ c.sums.ensures.others (c.args.part.at + c.args.part.places + i) (inl (omega (arith, c.requires.first))))) (item-small (unsigned_abs (item c.args.s.now (c.args.part.at + c.args.part.places + i))) c.args.part.places g.least (c.requires.sizes (c.args.part.at + c.args.part.places + i) (omega (arith, c.requires.first))))

pub differences-requires-2-clause-second_sizes : goal.differences-requires-2-clause-second_sizes
differences-requires-2-clause-second_sizes m c =
    let q : ℕ = c.args.part.places / 2 in
    let g : Half c.args.part.places c.args.part.halvings = half-of c.args.part.places c.args.part.halvings (omega arith) c.requires.power in
    let w : q + q ≡ c.args.part.places = g.whole in
    λ i p. subst (λ z. unsigned_abs z < 2 ^ 14) (sym (c.differences.ensures.others (c.args.part.at + q + i) (inl (omega (arith, c.requires.first))) ∙ c.sums.ensures.others (c.args.part.at + q + i) (inl (omega (arith, c.requires.first))))) (item-small (unsigned_abs (item c.args.s.now (c.args.part.at + q + i))) c.args.part.places g.least (c.requires.sizes (c.args.part.at + q + i) (omega (arith, c.requires.first))))

pub correlate-requires : goal.correlate-requires
correlate-requires m c =
    let q : ℕ = c.args.part.places / 2 in
    let g : Half c.args.part.places c.args.part.halvings = half-of c.args.part.places c.args.part.halvings (omega arith) c.requires.power in
    let w : q + q ≡ c.args.part.places = g.whole in
    let s0 : ℕ → ℤ = item c.args.s.now in
    let s3 : ℕ → ℤ = item c.differences-2.new.s in
    let d = c.decreases in
    let l = lay s0 (item c.sums.new.s) (item c.differences.new.s) s3 c.args.part.at c.args.part.from c.args.free q c.args.part.places w c.requires.first c.requires.second c.sums.ensures.items c.sums.ensures.others c.differences.ensures.items c.differences.ensures.others c.differences-2.ensures.items c.differences-2.ensures.others in
    let z = joined-sizes s0 s3 c.args.part.at c.args.part.from c.args.free (c.args.free + q) (c.args.free + q + c.args.part.places) (c.args.free + q + c.args.part.places + c.args.part.places) q (2 ^ 21) l (λ i p. subst (λ n. unsigned_abs (s0 i) * n < 2 ^ 21) (sym w) (c.requires.sizes i p)) in
    (omega arith, (g.power, (omega (arith, c.requires.first), (omega (arith, c.requires.second), (omega (arith, c.requires.free, c.sums.ensures.length, c.differences.ensures.length, c.differences-2.ensures.length), (omega arith, (omega (arith, c.requires.spare), z)))))))

pub correlate-requires-2 : goal.correlate-requires-2
correlate-requires-2 m c =
    let q : ℕ = c.args.part.places / 2 in
    let g : Half c.args.part.places c.args.part.halvings = half-of c.args.part.places c.args.part.halvings (omega arith) c.requires.power in
    let w : q + q ≡ c.args.part.places = g.whole in
    let s0 : ℕ → ℤ = item c.args.s.now in
    let s3 : ℕ → ℤ = item c.differences-2.new.s in
    let d = c.decreases in
    let l = lay s0 (item c.sums.new.s) (item c.differences.new.s) s3 c.args.part.at c.args.part.from c.args.free q c.args.part.places w c.requires.first c.requires.second c.sums.ensures.items c.sums.ensures.others c.differences.ensures.items c.differences.ensures.others c.differences-2.ensures.items c.differences-2.ensures.others in
    let z = joined-sizes s0 s3 c.args.part.at c.args.part.from c.args.free (c.args.free + q) (c.args.free + q + c.args.part.places) (c.args.free + q + c.args.part.places + c.args.part.places) q (2 ^ 21) l (λ i p. subst (λ n. unsigned_abs (s0 i) * n < 2 ^ 21) (sym w) (c.requires.sizes i p)) in
    (omega arith, (g.power, (omega (arith, c.requires.first), (omega (arith, c.requires.second), (omega (arith, c.requires.free, c.correlate.ensures.s_length, c.sums.ensures.length, c.differences.ensures.length, c.differences-2.ensures.length), (omega (arith, c.requires.room), (omega (arith, c.requires.spare, c.correlate.ensures.length), sizes-kept s3 (item c.correlate.new.s) _ q (2 ^ 21) c.correlate.ensures.kept z)))))))

pub correlate-requires-3 : goal.correlate-requires-3
correlate-requires-3 m c =
    let q : ℕ = c.args.part.places / 2 in
    let g : Half c.args.part.places c.args.part.halvings = half-of c.args.part.places c.args.part.halvings (omega arith) c.requires.power in
    let w : q + q ≡ c.args.part.places = g.whole in
    let s0 : ℕ → ℤ = item c.args.s.now in
    let s3 : ℕ → ℤ = item c.differences-2.new.s in
    let d = c.decreases in
    let l = lay s0 (item c.sums.new.s) (item c.differences.new.s) s3 c.args.part.at c.args.part.from c.args.free q c.args.part.places w c.requires.first c.requires.second c.sums.ensures.items c.sums.ensures.others c.differences.ensures.items c.differences.ensures.others c.differences-2.ensures.items c.differences-2.ensures.others in
    let z = joined-sizes s0 s3 c.args.part.at c.args.part.from c.args.free (c.args.free + q) (c.args.free + q + c.args.part.places) (c.args.free + q + c.args.part.places + c.args.part.places) q (2 ^ 21) l (λ i p. subst (λ n. unsigned_abs (s0 i) * n < 2 ^ 21) (sym w) (c.requires.sizes i p)) in
    (omega arith, (g.power, (omega (arith, c.requires.first), (omega (arith, c.requires.second), (omega (arith, c.requires.free, c.correlate-2.ensures.s_length, c.correlate.ensures.s_length, c.sums.ensures.length, c.differences.ensures.length, c.differences-2.ensures.length), (omega (arith, c.requires.room), (omega (arith, c.requires.spare, c.correlate-2.ensures.length, c.correlate.ensures.length), sizes-kept s3 (item c.correlate-2.new.s) _ q (2 ^ 21) (λ k p. c.correlate-2.ensures.kept k p ∙ c.correlate.ensures.kept k p) z)))))))

pub returns-clause-items : goal.returns-clause-items
returns-clause-items m c =
    let q : ℕ = c.args.part.places / 2 in
    let g : Half c.args.part.places c.args.part.halvings = half-of c.args.part.places c.args.part.halvings (omega arith) c.requires.power in
    let w : q + q ≡ c.args.part.places = g.whole in
    let s0 : ℕ → ℤ = item c.args.s.now in
    let s3 : ℕ → ℤ = item c.differences-2.new.s in
    let l = lay s0 (item c.sums.new.s) (item c.differences.new.s) s3 c.args.part.at c.args.part.from c.args.free q c.args.part.places w c.requires.first c.requires.second c.sums.ensures.items c.sums.ensures.others c.differences.ensures.items c.differences.ensures.others c.differences-2.ensures.items c.differences-2.ensures.others in
    let z = joined-sizes s0 s3 c.args.part.at c.args.part.from c.args.free (c.args.free + q) (c.args.free + q + c.args.part.places) (c.args.free + q + c.args.part.places + c.args.part.places) q (2 ^ 21) l (λ i p. subst (λ n. unsigned_abs (s0 i) * n < 2 ^ 21) (sym w) (c.requires.sizes i p)) in
    let o1 : ℕ → ℤ = item c.correlate.new.out in
    let o2 : ℕ → ℤ = item c.correlate-2.new.out in
    let o3 : ℕ → ℤ = item c.correlate-3.new.out in
    let o4 : ℕ → ℤ = item c.add_all.new.out in
    let o5 : ℕ → ℤ = item c.add_all-2.new.out in
    let p : ℕ → ℤ = λ t. o1 (c.args.spare + t) in
    let at : ℕ = c.args.part.at in
    let to : ℕ = c.args.to in
    let from : ℕ = c.args.part.from in
    let f : ℕ = c.args.free in
    let h : ℕ = c.args.part.places in
    let sp : ℕ = c.args.spare in
    let third : (t : ℕ) → t < q → o3 (sp + t) ≡ p t = λ t r. c.correlate-3.ensures.behind (sp + t) (omega (arith, c.requires.room)) (omega arith) ∙ c.correlate-2.ensures.behind (sp + t) (omega (arith, c.requires.room)) (omega arith) in
    let fourth : (t : ℕ) → t < q → o4 (sp + t) ≡ p t = λ t r. c.add_all.ensures.others (sp + t) (inr (omega (arith, c.requires.room))) ∙ third t r in
    λ t r. subst (λ n. o5 (to + t) ≡ int_wrap w32 (correlation s0 s0 (at + t) from n)) w
    (joined s0 s0 (λ j. s3 (f + q + j)) (λ j. s3 (f + q + h + j)) (λ i. s3 (f + i)) at from to q o2 o3 o4 o5 p
    (λ t r. ap o1 (zero_on sp t) ∙ c.correlate.ensures.items t r ∙ ap (int_wrap w32) (both-moved s0 s3 at from f (f + q) (f + q + h) (f + q + h + h) q t l r))
    (λ t r. c.correlate-2.ensures.items t r ∙ ap (int_wrap w32) (low-moved s0 s3 (item c.correlate.new.s) at from f (f + q) (f + q + h) (f + q + h + h) q t l c.correlate.ensures.kept r))
    (λ t r. c.correlate-3.ensures.items t r ∙ ap (int_wrap w32) (high-moved s0 s3 (item c.correlate-2.new.s) at from f (f + q) (f + q + h) (f + q + h + h) q t l (λ k y. c.correlate-2.ensures.kept k y ∙ c.correlate.ensures.kept k y) r))
    (λ t r. c.correlate-3.ensures.below (to + t) (omega arith))
    (λ t r. c.add_all.ensures.items t r ∙ ap (λ z. int_wrap w32 (o3 (to + t) +ℤ z)) (third t r))
    (λ t r. c.add_all.ensures.others (to + q + t) (inr (omega arith)))
    (λ t r. c.add_all-2.ensures.items t r ∙ ap (λ z. int_wrap w32 (o4 (to + q + t) +ℤ z)) (fourth t r))
    (λ t r. c.add_all-2.ensures.others (to + t) (inl (omega arith)))
    l.low l.high l.sums t (omega arith))
  where
    zero_on : (w i : ℕ) → w + (0 + i) ≡ w + i
    zero_on w i = omega arith
