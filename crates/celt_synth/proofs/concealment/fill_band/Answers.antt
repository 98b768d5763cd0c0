use Rattle.std.proofs.Common.{◌≡◌, ◌<◌, ◌*◌, ◌^◌, ℕ, ℤ, List, arith, ap, sym, ◌∙◌, refl, length, take, drop}
use Rattle.std.specs.Prelude.{All, unsigned_abs}
use Rattle.std.proofs.lemmas.List.Elements.{All-append, All-take, All-drop, All-same}
use Rattle.celt_tables.specs.Tables.{width_of}
use Rattle.spread_fold.specs.Noise.{seed_after}
use Rattle.celt_synth.specs.Blocks.{blocks_of}
use Rattle.celt_synth.specs.Concealment.{noise_band}
use Rattle.celt_synth.proofs.ConcealmentLemmas.{band_made, put_back}
use Rattle.celt_synth.proofs.concealment.fill_band.Goals as goal

pub returns-clause-band : goal.returns-clause-band
returns-clause-band c =
    let small = c.requires.items in
    let here = c.split_at_mut-here.ensures.front_len in
    let made = c.fill_noise.auto.x in
    let front = All-same (λ v. unsigned_abs v < 2 ^ 20) _ (take _ c.args.x.now) c.split_at_mut-behind.ensures.front (All-take (λ v. unsigned_abs v < 2 ^ 20) _ c.args.x.now small) in
    let back = All-same (λ v. unsigned_abs v < 2 ^ 20) _ (drop _ c.args.x.now) c.split_at_mut-behind.ensures.back (All-drop (λ v. unsigned_abs v < 2 ^ 20) _ c.args.x.now small) in
    let tail = All-same (λ v. unsigned_abs v < 2 ^ 20) _ (drop _ c.split_at_mut-behind.result.1.now) c.split_at_mut-here.ensures.back (All-drop (λ v. unsigned_abs v < 2 ^ 20) _ _ back) in
    record {
      value = band_made c.args.kind c.args.band c.args.seed.now _ _ _ c.args.x.now _ c.fill_noise.new.x _ _ c.requires.band c.blocks-count.ensures.value c.edge.ensures c.width.ensures.value
          c.split_at_mut-behind.ensures.front c.split_at_mut-behind.ensures.front_len (made ∙ here) (c.fill_noise.ensures.value ∙ ap (λ n. noise_band n c.args.seed.now) (sym made)) refl;
      count = put_back (c.split_at_mut-behind.result.0.now) (c.split_at_mut-here.result.0.now) c.fill_noise.new.x (c.split_at_mut-here.result.1.now) c.split_at_mut-behind.result.1.now c.args.x.now made c.split_at_mut-here.ensures.value c.split_at_mut-behind.ensures.value;
      sizes = All-append (λ v. unsigned_abs v < 2 ^ 20) c.split_at_mut-behind.result.0.now _ front (All-append (λ v. unsigned_abs v < 2 ^ 20) c.fill_noise.new.x _ c.fill_noise.ensures.items tail);
    }

pub returns-clause-seed : goal.returns-clause-seed
returns-clause-seed c =
    let count : c.blocks-count.result * c.width.result ≡ blocks_of c.args.kind * width_of c.args.band = λ k. c.blocks-count.ensures.value k * c.width.ensures.value k in
    c.fill_noise.ensures.seed ∙ ap (λ n. seed_after n c.args.seed.now) (c.split_at_mut-here.ensures.front_len ∙ count)
