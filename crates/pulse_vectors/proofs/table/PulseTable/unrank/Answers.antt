use Rattle.std.proofs.Common.{arith, rules, ◌≡◌, ◌+◌, ◌-◌, length}
use mir.Val.{SFits}
use mir.Syntax.{w32}
use Rattle.std.proofs.lemmas.Int.{to_z-of_z}
use Rattle.pulse_vectors.proofs.Counts.{count_grows}
use Rattle.pulse_vectors.proofs.RankSteps.{Skipping, count-rises, writing-skip, writing-turn, writing-end, writing-none, stands-full}
use Rattle.pulse_vectors.proofs.TableSteps.{place-of}
use Rattle.pulse_vectors.proofs.table.PulseTable.unrank.Goals as goal

pub behind_zeros-rest-requires-clause-fits : goal.behind_zeros-rest-requires-clause-fits
behind_zeros-rest-requires-clause-fits c =
    let grows = count_grows c.loop-left.behind (length c.args.y.now) c.loop-left.left c.loop-left.invariant.1 in
    let rises = count-rises (length c.args.y.now) c.loop-left.left c.args.pulses c.requires.numbers.0 c.loop-left.invariant.0.unranked.few in
    omega (arith, grows, rises, c.requires.fits)

pub first_number-number-requires-clause-place : goal.first_number-number-requires-clause-place
first_number-number-requires-clause-place c =
    let some = c.behind_zeros-rest.ensures.some in
    let most = c.behind_zeros-rest.ensures.most in
    place-of _ _ _ _ (omega (arith, some, most, c.loop-left.invariant.1)) (omega arith) (omega arith) c.loop-left.invariant.0.unranked.few c.requires.fits

pub first_number-number-requires-clause-below : goal.first_number-number-requires-clause-below
first_number-number-requires-clause-below c =
    let some = c.behind_zeros-rest.ensures.some in
    let e : c.behind_zeros-rest.result.numbers - 1 + 1 ≡ c.behind_zeros-rest.result.numbers = omega (arith, some) in
    rw e c.behind_zeros-rest.ensures.below

pub loop-left-smaller : goal.loop-left-smaller
loop-left-smaller c =
    let some = c.behind_zeros-rest.ensures.some in
    let most = c.behind_zeros-rest.ensures.most in
    omega (arith, some, most)

pub loop-left-preserved : goal.loop-left-preserved
loop-left-preserved c =
    let f : SFits w32 c.first_number-number.result.value = search rules in
    let rest = c.behind_zeros-rest.result in
    let some = c.behind_zeros-rest.ensures.some in
    let most = c.behind_zeros-rest.ensures.most in
    let before = c.loop-left.invariant in
    let zeros : Skipping c.loop-left.behind c.loop-left.left c.loop-left.place rest.numbers rest.place =
    record { most = most; inside = c.behind_zeros-rest.ensures.below; joined = c.behind_zeros-rest.ensures.joined } in
    let writing = writing-skip _ _ _ _ c.loop-left.behind c.loop-left.left c.loop-left.place rest.numbers rest.place before.1 before.0 zeros in
    let long = writing.long in (
      simp to_z-of_z (writing-turn _ _ _ _ rest.numbers _ _ _ _ _ _ some (omega (arith, most, before.1)) (omega (arith, some, most, long)) writing c.first_number-number.ensures),
      omega (arith, most, before.1),
    )

pub returns-then-left-eq1-clause-stands : goal.returns-then-left-eq1-clause-stands
returns-then-left-eq1-clause-stands c =
    let f : SFits w32 c.only_pulse-pulse.result.value = search rules in
    simp to_z-of_z (writing-end _ _ _ _ c.loop-left.behind _ _ _ c.only_pulse-pulse.result.place _ (omega arith) c.loop-left.invariant.1 (omega (arith, c.loop-left.invariant.0.long)) c.loop-left.invariant.0 c.only_pulse-pulse.ensures.stands)

pub returns-then-left-eq1-clause-pulses : goal.returns-then-left-eq1-clause-pulses
returns-then-left-eq1-clause-pulses c =
    stands-full _ _ _ _ (returns-then-left-eq1-clause-stands c)

pub returns-else-left-eq1-clause-stands : goal.returns-else-left-eq1-clause-stands
returns-else-left-eq1-clause-stands c = writing-none _ _ _ _ _ _ _ (omega arith) c.loop-left.invariant.0

pub returns-else-left-eq1-clause-pulses : goal.returns-else-left-eq1-clause-pulses
returns-else-left-eq1-clause-pulses c =
    stands-full _ _ _ _ (returns-else-left-eq1-clause-stands c)
