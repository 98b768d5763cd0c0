use Rattle.std.proofs.Common.{◌≡◌, ◌<◌, ◌*◌, ◌^◌, ℕ, ℤ, List, arith, ap, sym, ◌∙◌, subst}
use Rattle.std.specs.Prelude.{All, unsigned_abs, take, drop}
use Rattle.std.proofs.lemmas.List.Elements.{All-append, All-take, All-drop, All-same}
use Rattle.celt_synth.proofs.AntiCollapseLemmas.{band_is, seed_is}
use Rattle.celt_synth.proofs.StepLemmas.{end_most}
use Rattle.celt_synth.proofs.anti_collapse.fill_band.Goals as goal

pub returns-clause-value : goal.returns-clause-value
returns-clause-value c =
    let back = c.split_at_mut-behind.ensures.back in
    band_is c.args.grounds.now c.args.channel c.args.band c.args.seed.now c.blocks-count.result c.edge.result c.width-columns.result c.level_in-level.result c.args.x.now _ _ _ _
    (let l = end_most c.args.grounds.now.kind in let r = c.requires.band in omega (arith, l, r)) c.blocks-count.ensures.value c.edge.ensures c.width-columns.ensures.value c.level_in-level.ensures.value
    c.split_at_mut-behind.ensures.front (c.split_at_mut-here.ensures.front ∙ ap (take (c.blocks-count.result * c.width-columns.result)) back)
    (c.split_at_mut-here.ensures.back ∙ ap (drop (c.blocks-count.result * c.width-columns.result)) back) c.uncollapse.ensures.value

pub returns-clause-seed : goal.returns-clause-seed
returns-clause-seed c = seed_is c.args.grounds.now c.args.channel c.args.band c.args.seed.now _ _ _ c.blocks-count.ensures.value c.width-columns.ensures.value c.uncollapse.ensures.seed

pub returns-clause-items : goal.returns-clause-items
returns-clause-items c =
    let small = c.requires.items in
    let front = All-same (λ v. unsigned_abs v < 2 ^ 20) _ (take _ c.args.x.now) c.split_at_mut-behind.ensures.front (All-take (λ v. unsigned_abs v < 2 ^ 20) _ c.args.x.now small) in
    let back = All-same (λ v. unsigned_abs v < 2 ^ 20) _ (drop _ c.args.x.now) c.split_at_mut-behind.ensures.back (All-drop (λ v. unsigned_abs v < 2 ^ 20) _ c.args.x.now small) in
    let tail = All-same (λ v. unsigned_abs v < 2 ^ 20) _ (drop _ c.split_at_mut-behind.result.1.now) c.split_at_mut-here.ensures.back (All-drop (λ v. unsigned_abs v < 2 ^ 20) _ _ back) in
    All-append (λ v. unsigned_abs v < 2 ^ 20) c.split_at_mut-behind.result.0.now _ front (All-append (λ v. unsigned_abs v < 2 ^ 20) c.uncollapse.new.x _ c.uncollapse.ensures.items tail)
