use Rattle.std.proofs.Common.{◌≡◌, ℕ, ◌<◌, ◌≤◌, ◌^◌, arith, sym, ap, subst, ◌∙◌, List, length, get_or}
use Rattle.std.specs.Prelude.{ℤ, pos, All, replicate, sum_by, take, unsigned_abs}
use Rattle.std.proofs.lemmas.List.{length-map, take-replicate}
use Rattle.pulse_search.specs.Pulses.{AgreesInSign, signed_all}
use Rattle.pulse_search.proofs.PulseSteps.{pulses-length}
use Rattle.pulse_search.proofs.FrontSteps.{take-front, pulses-most, sizes-below, vector-from, vector-sum, vector-agrees}
use Rattle.pulse_search.proofs.pulses.search.Goals as goal

pub place_pulses-requires-clause-sizes : goal.place_pulses-requires-clause-sizes
place_pulses-requires-clause-sizes c = subst (All (λ v. v < 2 ^ 20)) (sym c.sizes_of-sizes.ensures) (sizes-below c.args.x.now (2 ^ 20) c.requires.sizes)

pub place_pulses-requires-clause-zeros : goal.place_pulses-requires-clause-zeros
place_pulses-requires-clause-zeros c =
    let n : length c.args.x.now ≡ length (take (length c.args.x.now) c.sizes_of-sizes.result) = sym (ap length c.sizes_of-sizes.ensures ∙ length-map c.args.x.now unsigned_abs) in
    take-replicate (length c.args.x.now) 176 0 (omega (arith, c.requires.count.1)) ∙ ap (λ k. replicate k 0) n

pub put_signed-requires-clause-most : goal.put_signed-requires-clause-most
put_signed-requires-clause-most c =
    let xs : List ℤ = c.args.x.now in
    let ss : List ℕ = take (length xs) c.sizes_of-sizes.result in
    let ys : List ℕ = c.place_pulses.new.pulses in
    let n : length ss ≡ length xs = ap length c.sizes_of-sizes.ensures ∙ length-map xs unsigned_abs in
    let h : length ys ≡ length xs = ap length c.place_pulses.ensures ∙ pulses-length ss c.args.k ∙ n in
    let most : All (λ v. v ≤ 4096) ys = subst (All (λ v. v ≤ 4096)) (sym c.place_pulses.ensures) (pulses-most ss c.args.k (omega (arith, c.requires.count.0)) c.requires.pulses.1) in
    subst (All (λ v. v ≤ 4096)) (sym (take-front (length xs) ys _ h)) most

pub returns-clause-value : goal.returns-clause-value
returns-clause-value c =
    let xs : List ℤ = c.args.x.now in
    let ss : List ℕ = take (length xs) c.sizes_of-sizes.result in
    let ys : List ℕ = c.place_pulses.new.pulses in
    let n : length ss ≡ length xs = ap length c.sizes_of-sizes.ensures ∙ length-map xs unsigned_abs in
    let h : length ys ≡ length xs = ap length c.place_pulses.ensures ∙ pulses-length ss c.args.k ∙ n in
    c.put_signed.ensures ∙ ap (signed_all xs) (take-front (length xs) ys _ h) ∙ vector-from xs ys ss c.args.k c.sizes_of-sizes.ensures c.place_pulses.ensures

pub returns-clause-pulses : goal.returns-clause-pulses
returns-clause-pulses c = ap (sum_by unsigned_abs) (returns-clause-value c) ∙ vector-sum c.args.x.now c.args.k (omega (arith, c.requires.count.0))

pub returns-clause-signs : goal.returns-clause-signs
returns-clause-signs c = λ i p. subst (λ vs. AgreesInSign (get_or c.args.x.now i (pos 0)) (get_or vs i (pos 0))) (sym (returns-clause-value c)) (vector-agrees c.args.x.now c.args.k i p)
