use Rattle.std.proofs.Common.{◌≡◌, ◌*◌, ◌≤◌, ◌∙◌, ap, arith}
use Rattle.std.specs.Int.{w32}
use Rattle.std.specs.Prelude.{pos}
use Rattle.std.proofs.lemmas.Int.{to_z_pos}
use Rattle.std.proofs.lemmas.Nat.{mul-le}
use Rattle.frame_symbols.proofs.BoostSteps.{boosts_start, boosts_last, taken_last, band_same, weight_within, boosts_after}
use Rattle.celt_base.proofs.BandEnds.{end_most}
use Rattle.celt_tables.specs.Tables.{cap_of, coefficients_of}
use Rattle.bit_allocation.specs.Requests.{quantum_of}
use Rattle.frame_symbols.proofs.boosts.ask_boosts.Goals as goal

pub loop-index-init : goal.loop-index-init
loop-index-init g c = boosts_start c.args.kind c.args.eighths

pub ask_turns-turns-requires-clause-band : goal.ask_turns-turns-requires-clause-band
ask_turns-turns-requires-clause-band g c =
    let i = c.loop-index.invariant in
    let t = c.loop-index-test.true in
    let w = weight_within c.loop-index.first _ i.first_is in
    let taken = i.taken_most in
    record {
      band = let ends = end_most c.args.kind in omega (arith, ends, t);
      some = c.quantum_of-quantum.ensures.some;
      most = c.quantum_of-quantum.ensures.most;
      least = w.0;
      greatest = w.1;
      taken = let ends = end_most c.args.kind in omega (arith, ends, t, taken);
    }

pub loop-index-preserved : goal.loop-index-preserved
loop-index-preserved g c =
    let i = c.loop-index.invariant in
    let kind = c.args.kind in
    let cap : c.cap.result ≡ pos (cap_of kind.lm kind.channels c.loop-index.index) = c.cap.ensures ∙ ap (λ n. pos (cap_of kind.lm kind.channels n)) c.from-place.ensures in
    let quantum = c.quantum_of-quantum.ensures.value ∙ ap quantum_of (c.coefficients.ensures.value ∙ ap (coefficients_of kind) c.from-place.ensures) in
    let p : c.ask_turns-turns.result * c.quantum_of-quantum.result ≤ 76 * 352 =
    mul-le c.ask_turns-turns.result c.quantum_of-quantum.result 76 352 c.ask_turns-turns.ensures.most c.quantum_of-quantum.ensures.most in
    boosts_after _ c.ask_turns-turns.result c.quantum_of-quantum.result c.next_first-next.result _ i c.loop-index-test.true (end_most kind)
    quantum c.quantum_of-quantum.ensures.most
    (to_z_pos w32 (c.ask_turns-turns.result * c.quantum_of-quantum.result) (omega (arith, p)))
    c.next_first-next.ensures
    (band_same kind c.args.eighths c.loop-index.boosts c.loop-index.index c.quantum_of-quantum.result c.loop-index.first c.loop-index.taken c.cap.result
    quantum (record { sfits = c.cap.type_inv }) cap i.first_is i.taken_is)
    c.ask_turns-turns.ensures.walked c.ask_turns-turns.ensures.count c.ask_turns-turns.ensures.most c.ask_turns-turns.ensures.below

pub returns-clause-walked : goal.returns-clause-walked
returns-clause-walked g c = boosts_last c.loop-index.invariant c.loop-index-test.false

pub returns-clause-taken : goal.returns-clause-taken
returns-clause-taken g c = taken_last c.loop-index.invariant (let ends = end_most c.args.kind in let high = c.loop-index.auto.index-end in omega (arith, ends, high))
