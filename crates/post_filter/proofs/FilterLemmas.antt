-- The outputs of the comb filter as a function: they meet their equations, and what meets these is that function's list.
use Rattle.std.proofs.Common.{◌≡◌, ℕ, zero, suc, ◌+◌, ◌-◌, ◌<◌, ◌≤◌, refl, subst, arith, ap, ◌∙◌, List, length}
use Rattle.std.specs.Prelude.{ℤ, ◌+ℤ◌}
use Rattle.celt_base.specs.declared.state.Setting.{Setting}
use Rattle.fixed_math.specs.Items.{item}
use Rattle.post_filter.specs.Comb.{limited, term, AreOutputs, AreCombed, outputs, combed, filtered}
use Rattle.post_filter.proofs.EchoLemmas.{term_same}
use Rattle.post_filter.proofs.OutputLemmas.{LooksBack, outputs_start, outputs_more, one_solution}

pub outputs_are : (added : ℕ → List ℤ → ℤ) (at n : ℕ) (xs : List ℤ) → LooksBack added at n → at + n ≤ length xs → AreOutputs added at n xs (outputs added at n xs)
unfolding outputs
outputs_are added at zero xs back room = outputs_start added at xs
outputs_are added at (suc n) xs back room =
    let before : LooksBack added at n = λ i l. back i (omega arith) in
    let r = outputs_are added at n xs before (omega arith) in
    let count = r.count in
    let next : LooksBack added at (n + 1) = λ i l. back i (omega arith) in
    subst (λ k. AreOutputs added at k xs (outputs added at (suc n) xs)) (more n)
    (outputs_more added at n xs (outputs added at n xs) (limited (item (outputs added at n xs) (at + n) +ℤ added n (outputs added at n xs))) next (omega (arith, count, room)) refl r)
  where
    more : (n : ℕ) → n + 1 ≡ suc n
    more n = omega arith

pub term_back : (from to : Setting) (at n : ℕ) → 1024 ≤ at → LooksBack (λ i vs. term from to i vs (at + i)) at n
term_back from to at n start = λ i l us vs h. term_same from to i us vs (at + i) (omega arith) h

pub combed_are : (from to : Setting) (at n : ℕ) (xs : List ℤ) → 1024 ≤ at → at + n ≤ length xs → AreCombed from to at n xs (combed from to at n xs)
combed_are from to at n xs start room = outputs_are (λ i vs. term from to i vs (at + i)) at n xs (term_back from to at n start) room

pub combed_is : (from to : Setting) (at n : ℕ) (xs ys : List ℤ) → 1024 ≤ at → at + n ≤ length xs → AreCombed from to at n xs ys → ys ≡ combed from to at n xs
combed_is from to at n xs ys start room r =
    one_solution (λ i vs. term from to i vs (at + i)) at n xs ys (combed from to at n xs) (term_back from to at n start) r (combed_are from to at n xs start room)

-- a frame
pub filtered_is : (before now frame : Setting) (n : ℕ) (xs ys zs : List ℤ) → ys ≡ combed before now 1024 120 xs → zs ≡ combed now frame 1144 (n - 120) ys → zs ≡ filtered before now frame n xs
unfolding filtered
filtered_is before now frame n xs ys zs e f = f ∙ ap (combed now frame 1144 (n - 120)) e
