-- What is counted of samples that are decoded frame after frame.
use Rattle.std.proofs.Common.{◌≡◌, ℕ, ℤ, ◌+◌, ◌-◌, arith, refl, sym, ap, ap₂, ◌∙◌, List, [], ◌++◌, length, drop, inl, inr, length-append, min}
use Rattle.std.specs.List.{fold}
use Rattle.std.proofs.lemmas.Bool.{cases_lt}
use Rattle.std.proofs.lemmas.List.{drop-append-le, drop_all}
use Rattle.std.proofs.lemmas.List.Sums.{fold-append}
use Rattle.std.proofs.Math.Seq.{drop-append-add}
use Rattle.celt_cli.specs.declared.tally.Tally.{Tally}
use Rattle.celt_cli.specs.GenSums.{summed, sum_of, coming_out, HasTallied}

pub none_tallied : HasTallied [] (record { dropping = 240; count = 0; sum = 0 })
unfolding sum_of
none_tallied = record { dropping = refl; count = refl; sum = refl }

-- two lists without the first n items
drop-parts : (n : ℕ) (xs ys : List ℤ) → drop n (xs ++ ys) ≡ drop n xs ++ drop (n - length xs) ys
drop-parts n xs ys = elim (cases_lt (length xs) n) [
  | inl more ↦
      let e : n ≡ length xs + (n - length xs) = omega arith in
      ap (λ k. drop k (xs ++ ys)) e ∙ drop-append-add xs ys (n - length xs) ∙ ap (λ l. l ++ drop (n - length xs) ys) (sym (drop_all n xs (omega arith)))
  | inr few ↦
      let e : n - length xs ≡ 0 = omega arith in
      drop-append-le n xs ys few ∙ ap (λ k. drop n xs ++ drop k ys) (sym e)
]

drop-min : (n : ℕ) (xs : List ℤ) → drop (min n (length xs)) xs ≡ drop n xs
drop-min n xs = elim (cases_lt n (length xs)) [
  | inl less ↦ let e : min n (length xs) ≡ n = omega arith in ap (λ k. drop k xs) e
  | inr most ↦ let e : min n (length xs) ≡ length xs = omega arith in ap (λ k. drop k xs) e ∙ drop_all (length xs) xs (omega arith) ∙ sym (drop_all n xs most)
]

pub more_tallied : (before samples heard : List ℤ) (tally : Tally) (dropped sum : ℕ) → HasTallied before tally → dropped ≡ min tally.dropping (length samples)
    → heard ≡ drop dropped samples → sum ≡ fold summed tally.sum heard
    → HasTallied (before ++ samples) (record { dropping = tally.dropping - dropped; count = tally.count + length heard; sum = sum })
unfolding sum_of
more_tallied before samples heard tally dropped sum t d h s =
    let rest : heard ≡ drop (240 - length before) samples = h ∙ ap (λ k. drop k samples) d ∙ drop-min tally.dropping samples ∙ ap (λ k. drop k samples) t.dropping in
    let parts : coming_out (before ++ samples) ≡ coming_out before ++ heard = drop-parts 240 before samples ∙ ap (λ l. coming_out before ++ l) (sym rest) in
    let both = length-append before samples in
    let dropping = t.dropping in
    record {
      dropping = omega arith;
      count = ap₂ (λ m n. m + n) t.count refl ∙ sym (ap length parts ∙ length-append (coming_out before) heard);
      sum = s ∙ ap (λ k. fold summed k heard) t.sum ∙ sym (ap (fold summed 0) parts ∙ fold-append summed 0 (coming_out before) heard);
    }
