use Rattle.std.proofs.Common.{◌≡◌, ℕ, ◌+◌, ◌-◌, ◌<◌, ◌≤◌, ◌∙◌, ap, sym, subst, arith, List}
use Rattle.std.specs.Prelude.{ℤ}
use Rattle.fixed_math.specs.Rounding.{rounded}
use Rattle.post_filter.specs.Comb.{echo, term, AreOutputs}
use Rattle.post_filter.proofs.EchoLemmas.{TapsOf, taps_alone, term_later, term_same}
use Rattle.post_filter.proofs.OutputLemmas.{LooksBack, outputs_as, outputs_joined}
use Rattle.post_filter.proofs.FilterLemmas.{combed_is}
use Rattle.post_filter.proofs.pitch.comb.Goals as goal

pub returns-clause-value : goal.returns-clause-value
returns-clause-value c =
    let from = c.args.from in
    let to = c.args.to in
    let at : ℕ = c.args.at in
    let m : ℕ = c.places_of-faded.result in
    let k : ℕ = c.args.n - m in
    let xs : List ℤ = c.args.buf.now in
    let ys : List ℤ = c.comb_faded.new.buf in
    let zs : List ℤ = c.comb_steady.new.buf in
    let taps = c.taps_of.result in
    let added : ℕ → List ℤ → ℤ = λ j vs. term from to j vs (at + j) in
    let start : 1024 ≤ at = c.requires.start in
    let back : LooksBack added at m = λ j l us vs h. term_same from to j us vs (at + j) (omega arith) h in
    let t : TapsOf to taps = record { period = c.taps_of.ensures.period; centre = c.taps_of.ensures.centre; near = c.taps_of.ensures.near; far = c.taps_of.ensures.far } in
    let e : (j : ℕ) → j < k → rounded (echo taps.centre taps.near taps.far taps.period zs (at + m + j)) 15 ≡ added (m + j) zs = λ j l.
    let w : at + (m + j) ≡ at + m + j = omega arith in
    let s : term from to (m + j) zs (at + m + j) ≡ rounded (echo taps.centre taps.near taps.far taps.period zs (at + m + j)) 15 =
    term_later from to c.is_steady.result c.args.n m j zs (at + m + j) c.places_of-faded.ensures.value l c.is_steady.ensures ∙ sym (taps_alone to taps zs (at + m + j) t) in
    sym s ∙ ap (term from to (m + j) zs) (sym w) in
    let r : AreOutputs (λ j. added (m + j)) (at + m) k ys zs =
    outputs_as (λ j vs. rounded (echo taps.centre taps.near taps.far taps.period vs (at + m + j)) 15) (λ j. added (m + j)) (at + m) k ys zs e c.comb_steady.ensures.value in
    let n : m + k ≡ c.args.n = omega (arith, c.places_of-faded.ensures.within) in
    subst (λ i. AreOutputs added at i xs zs) n (outputs_joined added at m k xs ys zs back c.comb_faded.ensures.value r)

pub returns-clause-list : goal.returns-clause-list
returns-clause-list c = combed_is c.args.from c.args.to c.args.at c.args.n c.args.buf.now c.comb_steady.new.buf c.requires.start c.requires.room (returns-clause-value c)
