use Rattle.std.proofs.Common.{◌≡◌, ◌∙◌, ap, refl, subst, false, arith}
use Rattle.std.specs.Prelude.{pos}
use Rattle.std.specs.Int.{w32, cast_signed as to_z}
use Rattle.std.proofs.lemmas.Int.{to_z_pos, fits_signed_from_abs}
use Rattle.bit_allocation.specs.declared.splitting.Split.{Split}
use Rattle.bit_allocation.specs.Shares.{split_at, balance_of}
use Rattle.bit_allocation.proofs.AllocationLemmas.{allocation_from, split_now, split_next, pulses_small, balance_now, balance_start}
use Rattle.celt_base.proofs.Fronts.{IsFront, front_none, front_more, front_all}
use Rattle.bit_allocation.proofs.allocating.spread.Goals as goal

pub loop-band-init : goal.loop-band-init
loop-band-init c = record {
  pulses = front_none (pos 0) _ _ refl;
  fine = front_none 0 _ _ refl;
  priority = front_none false _ _ refl;
  balance = balance_start c.args.plan.now c.args.skipped.now c.args.stereo;
}

pub split_band-split-requires-clause-before : goal.split_band-split-requires-clause-before
split_band-split-requires-clause-before c =
    let b = balance_now c.args.plan.now c.args.skipped.now c.args.stereo c.loop-band.band (omega (arith, c.loop-band-test.true)) c.requires.plan c.requires.skipped in
    let e = c.loop-band.invariant.balance in
    omega (arith, b, e)

pub overflow_cast-pulses : goal.overflow_cast-pulses
overflow_cast-pulses c =
    let p = c.args.plan.now in
    let s = c.args.skipped.now in
    let t = c.args.stereo in
    let band = c.loop-band.band in
    let e : c.split_band-split.result ≡ split_at p s t band = c.split_band-split.ensures ∙ split_now p s t band c.loop-band.balance c.loop-band.invariant.balance in
    let u : c.split_band-split.result.pulses ≡ (split_at p s t band).pulses = ap (λ (x : Split). x.pulses) e in
    let small = pulses_small p s t band c.loop-band-test.true c.requires.skipped in
    fits_signed_from_abs w32 (pos c.split_band-split.result.pulses) (omega (arith, u, small))

pub overflow_cast-result : goal.overflow_cast-result
overflow_cast-result c =
    let high = c.loop-band.auto.band-end in
    let at = c.loop-band.invariant.balance in
    let small = balance_now c.args.plan.now c.args.skipped.now c.args.stereo c.loop-band.band high c.requires.plan c.requires.skipped in
    fits_signed_from_abs w32 (pos c.loop-band.balance) (omega (arith, at, small))

pub loop-band-preserved : goal.loop-band-preserved
loop-band-preserved c =
    let p = c.args.plan.now in
    let s = c.args.skipped.now in
    let t = c.args.stereo in
    let band = c.loop-band.band in
    let i = c.loop-band.invariant in
    let inside = c.loop-band-test.true in
    let e : c.split_band-split.result ≡ split_at p s t band = c.split_band-split.ensures ∙ split_now p s t band c.loop-band.balance i.balance in
    let u : c.split_band-split.result.pulses ≡ (split_at p s t band).pulses = ap (λ (x : Split). x.pulses) e in
    let small = pulses_small p s t band inside c.requires.skipped in
    let pulses : to_z w32 c.split_band-split.result.pulses ≡ pos (split_at p s t band).pulses =
    to_z_pos w32 c.split_band-split.result.pulses (omega (arith, u, small)) ∙ ap pos u in
    record {
      pulses = front_more (pos 0) c.loop-band.pulses (λ b. pos (split_at p s t b).pulses) band _ inside pulses i.pulses;
      fine = front_more 0 c.loop-band.fine (λ b. (split_at p s t b).fine) band _ inside (ap (λ (x : Split). x.fine) e) i.fine;
      priority = front_more false c.loop-band.priority (λ b. (split_at p s t b).priority) band _ inside (ap (λ (x : Split). x.priority) e) i.priority;
      balance = ap (λ (x : Split). x.balance) e ∙ split_next p s t band;
    }

pub returns : goal.returns
returns c =
    let p = c.args.plan.now in
    let s = c.args.skipped.now in
    let t = c.args.stereo in
    let i = c.loop-band.invariant in
    let all : c.loop-band.band ≡ 21 = let low = c.loop-band-test.false in let high = c.loop-band.auto.band-end in omega (arith, low, high) in
    let at : c.loop-band.balance ≡ balance_of p s t 21 = i.balance ∙ ap (balance_of p s t) all in
    let small = balance_now p s t 21 (omega arith) c.requires.plan c.requires.skipped in
    allocation_from p s t (to_z w32 c.loop-band.balance) c.loop-band.pulses c.loop-band.fine c.loop-band.priority
    (to_z_pos w32 c.loop-band.balance (omega (arith, at, small)) ∙ ap pos at)
    (front_all (pos 0) c.loop-band.pulses (λ b. pos (split_at p s t b).pulses) (subst (IsFront (pos 0) c.loop-band.pulses (λ b. pos (split_at p s t b).pulses)) all i.pulses))
    (front_all 0 c.loop-band.fine (λ b. (split_at p s t b).fine) (subst (IsFront 0 c.loop-band.fine (λ b. (split_at p s t b).fine)) all i.fine))
    (front_all false c.loop-band.priority (λ b. (split_at p s t b).priority) (subst (IsFront false c.loop-band.priority (λ b. (split_at p s t b).priority)) all i.priority))
