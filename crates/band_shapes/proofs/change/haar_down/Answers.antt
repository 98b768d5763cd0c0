use Rattle.std.proofs.Common.{◌≡◌, ◌-◌, ◌^◌, suc, subst, ◌∙◌, refl, arith, length}
use Rattle.band_shapes.specs.Channels.{haar_down, grown}
use Rattle.band_shapes.proofs.ChangeLemmas.{runs_at, down_small, down_more, least_stride, grown_next, grown_start}
use Rattle.band_shapes.proofs.change.haar_down.Goals as goal

pub loop-k-preserved : goal.loop-k-preserved
loop-k-preserved c =
    let e : c.loop-k.k ≡ suc (c.loop-k.k - 1) = omega arith in
    let before = subst (λ z. haar_down c.args.stride z c.loop-k.x ≡ haar_down c.args.stride c.args.steps c.args.x.now) e c.loop-k.invariant.0 in (
      down_more c.args.stride c.doubled.result (c.loop-k.k - 1) c.loop-k.x c.haar.new.x _ c.doubled.ensures c.haar.ensures.value before,
      grown_next (2 ^ 30) c.args.steps c.loop-k.k c.haar.new.x c.loop-k-test.true c.loop-k.auto.k (c.haar.ensures.growth (grown (c.args.steps - c.loop-k.k) (2 ^ 30)) c.loop-k.invariant.1),
    )

pub loop-k-init : goal.loop-k-init
loop-k-init c = (refl, grown_start (2 ^ 30) c.args.steps c.args.x.now c.requires.items)

pub haar-requires : goal.haar-requires
haar-requires c =
    let r = runs_at c.args.n c.args.stride (c.loop-k.k - 1) c.args.steps (length c.loop-k.x) (omega (arith, c.loop-k.auto.k, c.loop-k-test.true)) c.requires.steps c.requires.even (c.loop-k.auto.x ∙ c.requires.runs) in
    record {
      count = omega arith;
      stride = rw c.doubled.ensures (least_stride c.args.stride (c.loop-k.k - 1) c.requires.stride.0);
      pairs = r.even;
      runs = rw c.doubled.ensures r.runs;
      items = down_small c.args.steps c.loop-k.k c.loop-k.x c.requires.steps c.loop-k.invariant.1;
    }
