use Rattle.std.proofs.Common.{◌+◌, ◌<◌, ◌∙◌, ℕ, List, length, get_or, set, sym, subst, inl, inr, rules, arith}
use Rattle.std.specs.Prelude.{ℤ, pos, FitsSigned}
use Rattle.std.specs.Int.{w32}
use Rattle.std.proofs.lemmas.Bool.{cases_eq}
use Rattle.std.proofs.lemmas.Int.{to_z-of_z}
use Rattle.std.proofs.lemmas.List.{get_or-set_same, get_or-set_other, length-set}
use Rattle.bit_allocation.specs.Requests.{IsBoost}
use Rattle.bit_allocation.proofs.AmountLemmas.{band_inside}
use Rattle.bit_allocation.proofs.tests.boosts_of.Goals as goal
use Rattle.celt_base.specs.declared.kind.Kind.{Kind}

put_boost : (kind : Kind) (xs : List ℤ) (i : ℕ) (v : ℤ) → i < length xs → IsBoost kind i v
    → ((k : ℕ) → k < i → IsBoost kind k (get_or xs k (pos 0)))
    → (k : ℕ) → k < i + 1 → IsBoost kind k (get_or (set xs i v) k (pos 0))
put_boost kind xs i v inside is done k below = elim (cases_eq k i) [
  | inl s ↦ subst (λ n. IsBoost kind n (get_or (set xs i v) n (pos 0))) (sym s) (subst (IsBoost kind i) (sym (get_or-set_same xs i v (pos 0) inside)) is)
  | inr ne ↦ subst (IsBoost kind k) (sym (get_or-set_other xs i k v (pos 0) ne)) (done k (omega (arith, below, ne)))
]

pub loop-band-preserved : goal.loop-band-preserved
loop-band-preserved c =
    let f : FitsSigned w32 c.boost.result = search rules in
    let whole = c.loop-band.invariant.whole in
    let inside = c.loop-band-test.true in
    record {
      whole = length-set c.loop-band.boosts c.loop-band.band _ ∙ whole;
      done = put_boost c.args.kind c.loop-band.boosts c.loop-band.band _ (omega (arith, whole, inside))
          (subst (IsBoost c.args.kind c.loop-band.band) (sym (to_z-of_z w32 c.boost.result f)) c.boost.ensures) c.loop-band.invariant.done;
    }

pub returns : goal.returns
returns c = λ band below. c.loop-band.invariant.done band (let i = band_inside c.args.kind band below in let e = c.loop-band-test.false in omega (arith, i, e))
