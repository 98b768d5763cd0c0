use Rattle.std.proofs.Common.{◌∙◌, ap, drop, drop-drop}
use Rattle.ogg_pages.specs.Checksum.{remainder_from}
use Rattle.ogg_pages.proofs.Register.{checksum-parts}
use Rattle.ogg_pages.proofs.checksum.checksum_of.Goals as goal

pub returns : goal.returns
returns c =
    let page = c.args.page.now in
    checksum-parts page c.register_over.result c.register_over-2.result c.register_over-3.result
    (c.register_over.ensures ∙ ap (remainder_from 0) c.split_at.ensures.front)
    c.register_over-2.ensures
    (c.register_over-3.ensures
    ∙ ap (remainder_from c.register_over-2.result) (c.split_at-2.ensures.back ∙ ap (drop 4) c.split_at.ensures.back ∙ drop-drop 4 22 page))
