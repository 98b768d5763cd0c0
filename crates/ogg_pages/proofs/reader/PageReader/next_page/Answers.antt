use Rattle.std.proofs.Common.{◌∙◌, sym}
use Rattle.ogg_pages.proofs.Judged.{sound_of, page_len-take}
use Rattle.ogg_pages.proofs.reader.PageReader.next_page.Goals as goal

pub split_at-requires-in-Whole : goal.split_at-requires-in-Whole
split_at-requires-in-Whole c = (sound_of c.split_at.result.1.now c.in-Whole.len (sym c.judge.ensures ∙ c.in-Whole.is)).inside

pub new-requires : goal.new-requires
new-requires c =
    let held = c.split_at.result.1.now in
    let s = sound_of held c.in-Whole.len (sym c.judge.ensures ∙ c.in-Whole.is) in
    let e = page_len-take held c.in-Whole.len s.length_is s.inside in
    let l = c.split_at-in-Whole.ensures.front_len in
    rw (← c.split_at-in-Whole.ensures.front) at e ∙ sym l
