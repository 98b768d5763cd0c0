use Rattle.std.proofs.Common.{◌≤◌, ap, ◌∙◌, sum, arith}
use Rattle.ogg_pages.specs.Bounds.{lacing_of}
use Rattle.ogg_pages.proofs.Lengths.{lacing-sum}
use Rattle.ogg_pages.proofs.page.page_length.Goals as goal

pub overflow_add-result-2 : goal.overflow_add-result-2
overflow_add-result-2 c =
    let small : sum (lacing_of c.args.bytes.now) ≤ 65025 = lacing-sum c.args.bytes.now (λ k. let f = c.type_inv.bytes k in omega arith) in
    let e = c.total.ensures ∙ ap sum c.lacing.ensures in
    let s = c.segment_count.ensures in
    let f = c.type_inv.bytes 26 in
    omega arith
