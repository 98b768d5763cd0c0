use Rattle.std.proofs.Common.{◌≡◌, ◌+◌, ◌-◌, ◌*◌, ◌/◌, ◌%◌, ◌^◌, inl, inr, length, sym, ap, ◌∙◌, arith}
use Rattle.std.specs.Prelude.{slice_set}
use Rattle.std.proofs.lemmas.Bool.{cases_lt}
use Rattle.std.proofs.lemmas.List.{length-set}
use Rattle.std.proofs.lemmas.Nat.{mul-le}
use Rattle.range_coder.specs.FrameBits.{number}
use Rattle.range_coder.proofs.Numbers.{carried}
use Rattle.range_coder.proofs.carry.add.Goals as goal

pub loop-end-preserved : goal.loop-end-preserved
loop-end-preserved c =
    let l = c.loop-end in
    let fits = l.invariant.1 in
    let small = l.invariant.2 in
    let value = c.args.value in
    let sum = c.from.result + l.carry in
    let set = slice_set l.room (l.end - 1) (sum % 256) in
    let same : length set ≡ length l.room = length-set l.room (l.end - 1) (sum % 256) in
    let step = carried l.room l.end l.carry sum (omega arith) fits (ap (λ n. n + l.carry) c.from.ensures) in (
      same ∙ l.invariant.0,
      omega arith,
      omega arith,
      ap (λ n. number set + sum / 256 * 2 ^ (8 * (n - (l.end - 1)))) same ∙ step ∙ l.invariant.3
          ∙ ap (λ n. number c.args.room.now + value * 2 ^ (8 * (n - (c.args.at + 1)))) (sym same),
    )

pub returns-after-loop-end-clause-sum : goal.returns-after-loop-end-clause-sum
returns-after-loop-end-clause-sum c =
    λ fits.
    let l = c.loop-end in
    let len = l.invariant.0 in
    let value = c.args.value in
    let all = length c.args.room.now in
    let end : all - l.end ≡ all = omega arith in
    let is : number l.room + l.carry * 2 ^ (8 * all) ≡ number c.args.room.now + value * 2 ^ (8 * (all - (c.args.at + 1))) =
    ap (λ n. number l.room + l.carry * 2 ^ (8 * n)) (sym end)
    ∙ ap (λ n. number l.room + l.carry * 2 ^ (8 * (n - l.end))) (sym len)
    ∙ l.invariant.3 ∙ ap (λ n. number c.args.room.now + value * 2 ^ (8 * (n - (c.args.at + 1)))) len in
    elim (cases_lt 0 l.carry) [
      | inl some ↦ let product = mul-le 1 (2 ^ (8 * all)) l.carry (2 ^ (8 * all)) some (omega arith) in absurd (omega arith)
      | inr none ↦
          let zero : l.carry * 2 ^ (8 * all) ≡ 0 = ap (λ n. n * 2 ^ (8 * all)) (let e : l.carry ≡ 0 = omega arith in e) ∙ omega arith in
          omega arith
    ]
