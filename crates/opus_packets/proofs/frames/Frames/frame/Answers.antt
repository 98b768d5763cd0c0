use Rattle.std.proofs.Common.{◌≡◌, ◌+◌, ◌-◌, ◌<◌, ap, ◌∙◌, sym, subst, get_or, length, slice_get, take, drop, Some}
use Rattle.opus_packets.specs.Cut.{Cut, frames_of, start_of}
use Rattle.opus_packets.proofs.Cuts.{parts_from}
use Rattle.opus_packets.proofs.frames.Frames.frame.Goals as goal

pub returns-clause-item : goal.returns-clause-item
returns-clause-item c =
    let i = c.args.i in
    let inside = c.self.inside in
    let less = subst (λ (v : Cut). i < length v.lengths) (sym c.self.view_is) c.requires in
    let start = c.start-start.ensures ∙ ap (λ (v : Cut). start_of v i) (sym c.self.view_is) in
    let size = c.from.ensures ∙ ap (λ xs. get_or xs i 0) c.deref.ensures.0 in
    subst (λ (v : Cut). slice_get (frames_of v) i ≡ Some (take (c.start-start.result + c.from.result - c.start-start.result) (drop c.start-start.result inside.packet.now)))
    c.self.view_is (parts_from inside.lengths.items inside.packet.now inside.first i _ _ less start size)
