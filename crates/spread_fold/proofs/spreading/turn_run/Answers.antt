use Rattle.std.proofs.Common.{◌≡◌, ℕ, ap, ◌∙◌, arith, subst, sym, ◌+◌, ◌*◌, ◌<◌, ◌^◌, length, List}
use Rattle.std.specs.Prelude.{ℤ, pos, neg_ℤ, ◌-ℤ◌, unsigned_abs, All, FitsSigned}
use Rattle.std.specs.Int.{w64}
use Rattle.std.proofs.lemmas.Int.{to_z-of_z, fits_signed_from_abs, ints}
use Rattle.std.proofs.Math.IntN.{+ℤ_idl}
use Rattle.spread_fold.specs.Calm.{IsCalm}
use Rattle.spread_fold.specs.Spreading.{turned, turned_far}
use Rattle.spread_fold.proofs.SpreadLemmas.{keeps_turned, keeps_far, run_forward, run_back, small_below}
use Rattle.spread_fold.proofs.CalmLemmas.{calm_fewer, calm_turned, calm_far, calm_negated, calm_exchanged, calm_turned_back}
use Rattle.spread_fold.proofs.spreading.turn_run.Goals as goal

pub turn_far-requires-clause-items : goal.turn_far-requires-clause-items
turn_far-requires-clause-items c =
    let fc = c.ranges.c in
    let fs = c.ranges.s in
    let ns : FitsSigned w64 (pos 0 -ℤ c.args.s) = fits_signed_from_abs w64 (pos 0 -ℤ c.args.s) (omega (arith, ints)) in
    let u : c.turn_near.new.x ≡ turned 1 c.args.c (pos 0 -ℤ c.args.s) c.args.x.now = simp to_z-of_z at c.turn_near.ensures in
    subst (All (λ v. unsigned_abs v < 2 ^ 20)) (sym u) (keeps_turned (λ v. unsigned_abs v < 2 ^ 20) small_below 1 c.args.c (pos 0 -ℤ c.args.s) c.args.x.now c.requires.items)

pub turn_near-requires-else-forward-clause-items : goal.turn_near-requires-else-forward-clause-items
turn_near-requires-else-forward-clause-items c =
    let fc = c.ranges.c in
    let fs = c.ranges.s in
    let u : c.turn_far-else-forward.new.x ≡ turned_far c.args.t c.args.s c.args.c c.args.x.now = simp to_z-of_z at c.turn_far-else-forward.ensures in
    subst (All (λ v. unsigned_abs v < 2 ^ 20)) (sym u) (keeps_far (λ v. unsigned_abs v < 2 ^ 20) small_below c.args.t c.args.s c.args.c c.args.x.now c.requires.items)

pub turn_near-requires-clause-calm : goal.turn_near-requires-clause-calm
turn_near-requires-clause-calm c = λ q.
    let fc = c.ranges.c in
    let fs = c.ranges.s in
    let ns : FitsSigned w64 (pos 0 -ℤ c.args.s) = fits_signed_from_abs w64 (pos 0 -ℤ c.args.s) (omega (arith, ints)) in
    let xs : List ℤ = c.args.x.now in
    let h : IsCalm (4 * length xs) c.args.c c.args.s xs = simp to_z-of_z at c.is_calm-calm.ensures q in
    simp to_z-of_z (calm_negated (2 * length xs) c.args.c c.args.s xs (calm_fewer (4 * length xs) (2 * length xs) c.args.c c.args.s xs (omega arith) h))

pub turn_far-requires-clause-calm : goal.turn_far-requires-clause-calm
turn_far-requires-clause-calm c = λ q.
    let fc = c.ranges.c in
    let fs = c.ranges.s in
    let ns : FitsSigned w64 (pos 0 -ℤ c.args.s) = fits_signed_from_abs w64 (pos 0 -ℤ c.args.s) (omega (arith, ints)) in
    let nc : FitsSigned w64 (pos 0 -ℤ c.args.c) = fits_signed_from_abs w64 (pos 0 -ℤ c.args.c) (omega (arith, ints)) in
    let xs : List ℤ = c.args.x.now in
    let ys : List ℤ = c.turn_near.new.x in
    let n : ℕ = length xs in
    let h : IsCalm (4 * n) c.args.c c.args.s xs = simp to_z-of_z at c.is_calm-calm.ensures q in
    let u : ys ≡ turned 1 c.args.c (pos 0 -ℤ c.args.s) xs = simp to_z-of_z at c.turn_near.ensures in
    let g : IsCalm (2 * n) c.args.c (pos 0 -ℤ c.args.s) (turned 1 c.args.c (pos 0 -ℤ c.args.s) xs) =
    calm_turned 1 c.args.c (pos 0 -ℤ c.args.s) (2 * n) xs (omega arith) (calm_negated (2 * n + 2 * n) c.args.c c.args.s xs (calm_fewer (4 * n) (2 * n + 2 * n) c.args.c c.args.s xs (omega arith) h)) in
    let r : IsCalm (2 * length ys) c.args.c (pos 0 -ℤ c.args.s) ys = calm_fewer (2 * n) (2 * length ys) c.args.c (pos 0 -ℤ c.args.s) ys (omega (arith, c.turn_near.auto.x)) (subst (IsCalm (2 * n) c.args.c (pos 0 -ℤ c.args.s)) (sym u) g) in
    simp to_z-of_z (calm_turned_back (2 * length ys) c.args.c c.args.s ys r)

pub turn_far-requires-else-forward-clause-calm : goal.turn_far-requires-else-forward-clause-calm
turn_far-requires-else-forward-clause-calm c = λ q.
    let fc = c.ranges.c in
    let fs = c.ranges.s in
    let xs : List ℤ = c.args.x.now in
    let h : IsCalm (4 * length xs) c.args.c c.args.s xs = simp to_z-of_z at c.is_calm-calm.ensures q in
    simp to_z-of_z (calm_exchanged (2 * length xs) c.args.c c.args.s xs (calm_fewer (4 * length xs) (2 * length xs) c.args.c c.args.s xs (omega arith) h))

pub turn_near-requires-else-forward-clause-calm : goal.turn_near-requires-else-forward-clause-calm
turn_near-requires-else-forward-clause-calm c = λ q.
    let fc = c.ranges.c in
    let fs = c.ranges.s in
    let xs : List ℤ = c.args.x.now in
    let ys : List ℤ = c.turn_far-else-forward.new.x in
    let n : ℕ = length xs in
    let h : IsCalm (4 * n) c.args.c c.args.s xs = simp to_z-of_z at c.is_calm-calm.ensures q in
    let u : ys ≡ turned_far c.args.t c.args.s c.args.c xs = simp to_z-of_z at c.turn_far-else-forward.ensures in
    let g : IsCalm (2 * n) c.args.s c.args.c (turned_far c.args.t c.args.s c.args.c xs) =
    calm_far c.args.t c.args.s c.args.c (2 * n) xs (calm_exchanged (2 * n + 2 * n) c.args.c c.args.s xs (calm_fewer (4 * n) (2 * n + 2 * n) c.args.c c.args.s xs (omega arith) h)) in
    simp to_z-of_z (calm_exchanged (2 * length ys) c.args.s c.args.c ys (calm_fewer (2 * n) (2 * length ys) c.args.s c.args.c ys (omega (arith, c.turn_far-else-forward.auto.x)) (subst (IsCalm (2 * n) c.args.s c.args.c) (sym u) g)))

pub returns-then-forward : goal.returns-then-forward
returns-then-forward c =
    let fc = c.ranges.c in
    let fs = c.ranges.s in
    let ns : FitsSigned w64 (pos 0 -ℤ c.args.s) = fits_signed_from_abs w64 (pos 0 -ℤ c.args.s) (omega (arith, ints)) in
    let nc : FitsSigned w64 (pos 0 -ℤ c.args.c) = fits_signed_from_abs w64 (pos 0 -ℤ c.args.c) (omega (arith, ints)) in
    let u : c.turn_near.new.x ≡ turned 1 c.args.c (pos 0 -ℤ c.args.s) c.args.x.now = simp to_z-of_z at c.turn_near.ensures in
    let v : c.turn_far.new.x ≡ turned_far c.args.t c.args.s (pos 0 -ℤ c.args.c) c.turn_near.new.x = simp to_z-of_z at c.turn_far.ensures in
    run_forward c.args.t c.args.c c.args.s c.args.x.now c.turn_near.new.x c.turn_far.new.x c.args.forward c.if-forward.true
    (u ∙ ap (λ z. turned 1 c.args.c z c.args.x.now) (+ℤ_idl (neg_ℤ c.args.s))) (v ∙ ap (λ z. turned_far c.args.t c.args.s z c.turn_near.new.x) (+ℤ_idl (neg_ℤ c.args.c)))

pub returns-else-forward : goal.returns-else-forward
returns-else-forward c =
    let fc = c.ranges.c in
    let fs = c.ranges.s in
    let u : c.turn_far-else-forward.new.x ≡ turned_far c.args.t c.args.s c.args.c c.args.x.now = simp to_z-of_z at c.turn_far-else-forward.ensures in
    let v : c.turn_near-else-forward.new.x ≡ turned 1 c.args.c c.args.s c.turn_far-else-forward.new.x = simp to_z-of_z at c.turn_near-else-forward.ensures in
    run_back c.args.t c.args.c c.args.s c.args.x.now c.turn_far-else-forward.new.x c.turn_near-else-forward.new.x c.args.forward c.if-forward.false u v
