use Rattle.std.proofs.Common.{length, take, ◌∙◌, ap}
use Rattle.std.proofs.Math.Seq.{take-append_seam}
use Rattle.ogg_pages.specs.Stream.{stream}
use Rattle.ogg_pages.proofs.Streams.{goes_on}
use Rattle.ogg_pages.proofs.laws.law_stream_goes_on.Goals as goal

pub returns-clause-pages : goal.returns-clause-pages
returns-clause-pages c = λ bytes more.
    let g = goes_on bytes more in
    ap (take (length (stream bytes).pages)) g.pages ∙ take-append_seam (stream bytes).pages g.more_pages

pub returns-clause-broken : goal.returns-clause-broken
returns-clause-broken c = λ bytes more. (goes_on bytes more).broken
