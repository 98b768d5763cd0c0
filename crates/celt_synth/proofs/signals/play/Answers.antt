use Rattle.std.proofs.Common.{◌≡◌, ◌<◌, ◌+◌, ◌-◌, ◌*◌, ◌^◌, ℕ, arith, ap, subst, sym, ◌∙◌}
use Rattle.std.specs.Prelude.{unsigned_abs}
use Rattle.fixed_math.specs.Items.{item}
use Rattle.celt_synth.proofs.BlockLemmas.{size_some, size_most}
use Rattle.celt_synth.proofs.SignalLemmas.{played}
use Rattle.celt_synth.proofs.signals.play.Goals as goal

pub filter-requires-clause-values : goal.filter-requires-clause-values
filter-requires-clause-values c = λ p l h.
    let e : 1024 + (p - 1024) ≡ p = omega arith in
    subst (λ k. unsigned_abs (item c.overlap.new.buf k) < 2 ^ 47) e (c.overlap.ensures.sizes (p - 1024) (omega (arith, l, h)))

pub returns-clause-outputs : goal.returns-clause-outputs
returns-clause-outputs c =
    let count = c.overlap.ensures.count in
    let room = c.requires.room in
    let most = size_most c.args.form.blocks c.requires.size in
    played c.args.form c.args.spectrum.now c.args.buf.now c.overlap.new.buf c.filter.new.buf
    (size_some c.args.form.blocks c.requires.size) (omega (arith, count, room, most)) c.overlap.ensures c.filter.ensures.value

pub returns-clause-overlap : goal.returns-clause-overlap
returns-clause-overlap c = λ t l.
    let n : ℕ = 120 * c.args.form.blocks in
    c.filter.ensures.behind (1024 + n + t) (omega arith) ∙ ap (item c.overlap.new.buf) (turn n t) ∙ c.overlap.ensures.here (n + t) (omega (arith, l))
  where
    turn : (n t : ℕ) → 1024 + n + t ≡ 1024 + (n + t)
    turn n t = omega arith

pub returns-clause-overlap_sizes : goal.returns-clause-overlap_sizes
returns-clause-overlap_sizes c = λ t l.
    let n : ℕ = 120 * c.args.form.blocks in
    let e : item c.filter.new.buf (1024 + n + t) ≡ item c.overlap.new.buf (1024 + (n + t)) = c.filter.ensures.behind (1024 + n + t) (omega arith) ∙ ap (item c.overlap.new.buf) (turn n t) in
    subst (λ z. unsigned_abs z < 2 ^ 46) (sym e) (c.overlap.ensures.overlap (n + t) (omega arith) (omega (arith, l)))
  where
    turn : (n t : ℕ) → 1024 + n + t ≡ 1024 + (n + t)
    turn n t = omega arith
