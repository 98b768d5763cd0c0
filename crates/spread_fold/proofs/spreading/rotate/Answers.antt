use Rattle.std.proofs.Common.{◌≡◌, ℕ, ap, ◌∙◌, arith, rules, inl, inr, subst, sym, ◌/◌, ◌^◌, ◌≤◌, length, List}
use Rattle.std.specs.Prelude.{ℤ, unsigned_abs, All, FitsSigned}
use Rattle.std.specs.Int.{w64}
use Rattle.std.proofs.lemmas.Int.{to_z-of_z}
use Rattle.fixed_math.specs.Circle.{cosine, sine}
use Rattle.spread_fold.specs.Spreading.{spread_runs, spread_by, distance, spread_angle}
use Rattle.spread_fold.proofs.SpreadLemmas.{by_none, by_some, keeps_by}
use Rattle.spread_fold.proofs.LimitLemmas.{by_limit}
use Rattle.spread_fold.proofs.spreading.rotate.Goals as goal

pub returns-then-spread-eq0-clause-value : goal.returns-then-spread-eq0-clause-value
returns-then-spread-eq0-clause-value c = by_none c.args.blocks c.args.k c.args.spread c.args.forward c.args.x.now (inl c.if-spread-eq0.true)

pub returns-then-count-k-clause-value : goal.returns-then-count-k-clause-value
returns-then-count-k-clause-value c = by_none c.args.blocks c.args.k c.args.spread c.args.forward c.args.x.now (inr (omega arith))

pub returns-clause-value : goal.returns-clause-value
returns-clause-value c =
    let xs : List ℤ = c.args.x.now in
    let a : ℕ = c.angle_of-angle.result in
    let fc : FitsSigned w64 c.cos.result = search rules in
    let fs : FitsSigned w64 c.sin.result = search rules in
    let ea : a ≡ spread_angle (length xs) c.args.k c.args.spread = c.angle_of-angle.ensures.value in
    let et : c.distance_of-t.result ≡ distance (length xs) c.args.blocks = c.distance_of-t.ensures.value in
    let ec : c.cos.result ≡ cosine (spread_angle (length xs) c.args.k c.args.spread) = c.cos.ensures.value ∙ ap cosine ea in
    let es : c.sin.result ≡ sine (spread_angle (length xs) c.args.k c.args.spread) = c.sin.ensures.value ∙ ap sine ea in
    let r : c.turn_runs.new.x ≡ spread_runs c.args.forward c.distance_of-t.result c.cos.result c.sin.result (length xs / c.args.blocks) c.args.blocks xs = simp to_z-of_z at c.turn_runs.ensures in
    let e : c.turn_runs.new.x ≡ spread_by c.args.blocks c.args.k c.args.spread c.args.forward xs =
    r ∙ ap (λ t. spread_runs c.args.forward t c.cos.result c.sin.result (length xs / c.args.blocks) c.args.blocks xs) et
    ∙ ap (λ z. spread_runs c.args.forward (distance (length xs) c.args.blocks) z c.sin.result (length xs / c.args.blocks) c.args.blocks xs) ec
    ∙ ap (λ z. spread_runs c.args.forward (distance (length xs) c.args.blocks) (cosine (spread_angle (length xs) c.args.k c.args.spread)) z (length xs / c.args.blocks) c.args.blocks xs) es
    ∙ by_some c.args.blocks c.args.k c.args.spread c.args.forward xs c.if-spread-eq0.false (omega arith) in
    e

pub returns-clause-size : goal.returns-clause-size
returns-clause-size c = λ m g h.
    let xs : List ℤ = c.args.x.now in
    let a : ℕ = c.angle_of-angle.result in
    let fc : FitsSigned w64 c.cos.result = search rules in
    let fs : FitsSigned w64 c.sin.result = search rules in
    let ea : a ≡ spread_angle (length xs) c.args.k c.args.spread = c.angle_of-angle.ensures.value in
    let et : c.distance_of-t.result ≡ distance (length xs) c.args.blocks = c.distance_of-t.ensures.value in
    let ec : c.cos.result ≡ cosine (spread_angle (length xs) c.args.k c.args.spread) = c.cos.ensures.value ∙ ap cosine ea in
    let es : c.sin.result ≡ sine (spread_angle (length xs) c.args.k c.args.spread) = c.sin.ensures.value ∙ ap sine ea in
    let r : c.turn_runs.new.x ≡ spread_runs c.args.forward c.distance_of-t.result c.cos.result c.sin.result (length xs / c.args.blocks) c.args.blocks xs = simp to_z-of_z at c.turn_runs.ensures in
    let e : c.turn_runs.new.x ≡ spread_by c.args.blocks c.args.k c.args.spread c.args.forward xs =
    r ∙ ap (λ t. spread_runs c.args.forward t c.cos.result c.sin.result (length xs / c.args.blocks) c.args.blocks xs) et
    ∙ ap (λ z. spread_runs c.args.forward (distance (length xs) c.args.blocks) z c.sin.result (length xs / c.args.blocks) c.args.blocks xs) ec
    ∙ ap (λ z. spread_runs c.args.forward (distance (length xs) c.args.blocks) (cosine (spread_angle (length xs) c.args.k c.args.spread)) z (length xs / c.args.blocks) c.args.blocks xs) es
    ∙ by_some c.args.blocks c.args.k c.args.spread c.args.forward xs c.if-spread-eq0.false (omega arith) in
    subst (All (λ v. unsigned_abs v ≤ m)) (sym e) (keeps_by (λ v. unsigned_abs v ≤ m) (λ v q. omega arith) c.args.blocks c.args.k c.args.spread c.args.forward xs h)

pub returns-clause-limit : goal.returns-clause-limit
returns-clause-limit c = λ s p l.
    subst (All (λ v. unsigned_abs v ≤ 2 ^ 17)) (sym (returns-clause-value c)) (by_limit c.args.blocks c.args.k c.args.spread c.args.forward c.args.x.now c.requires.blocks_low c.requires.runs s p l)
