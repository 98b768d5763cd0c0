use Rattle.std.proofs.Common.{◌≡◌, ◌≤◌, length, arith, subst}
use Rattle.ogg_pages.specs.Bounds.{lacing_of}
use Rattle.ogg_pages.specs.Fields.{body_of}
use Rattle.ogg_pages.specs.Views.{bytes_in, page_in}
use Rattle.opus_stream.specs.Acceptance.{page_size}
use Rattle.opus_stream.proofs.Sizes.{size}
use Rattle.opus_stream.proofs.pages.lacing.Goals as goal

pub returns-clause-size : goal.returns-clause-size
returns-clause-size c = size (bytes_in c.args.page.now) c.args.page.now.whole

pub returns-clause-fits : goal.returns-clause-fits
returns-clause-fits c =
    let s : length (bytes_in c.args.page.now) ≡ page_size (page_in c.args.page.now) = size (bytes_in c.args.page.now) c.args.page.now.whole in
    let few = subst (λ l. length (lacing_of l) ≤ 255) c.bytes.ensures c.bound.ensures.few in
    let short = subst (λ l. length (body_of l) ≤ 65025) c.bytes.ensures c.bound.ensures.short in
    omega arith
