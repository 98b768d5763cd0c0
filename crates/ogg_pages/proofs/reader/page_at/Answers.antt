use Rattle.std.proofs.Common.{◌∙◌, sym}
use Rattle.ogg_pages.proofs.Judged.{sound_of, page_len-take}
use Rattle.ogg_pages.proofs.reader.page_at.Goals as goal

pub split_at-requires : goal.split_at-requires
split_at-requires c = (sound_of c.args.bytes.now c.in-Whole.len (sym c.judge.ensures ∙ c.in-Whole.is)).inside

pub new-requires : goal.new-requires
new-requires c =
    let held = c.args.bytes.now in
    let s = sound_of held c.in-Whole.len (sym c.judge.ensures ∙ c.in-Whole.is) in
    let e = page_len-take held c.in-Whole.len s.length_is s.inside in
    let l = c.split_at.ensures.front_len in
    rw (← c.split_at.ensures.front) at e ∙ sym l
