use Rattle.std.proofs.Common.{ap, sym, subst, ◌∙◌, drop, length}
use Rattle.band_shapes.specs.Channels.{IsChange}
use Rattle.band_shapes.specs.Forms.{ReadSide}
use Rattle.band_shapes.specs.Tree.{read_part, IsPart}
use Rattle.band_shapes.proofs.FormLemmas.{many_read}
use Rattle.band_shapes.proofs.SideLemmas.{one_read, side_part, side_channel, side_sign}
use Rattle.band_shapes.proofs.sides.side.Goals as goal

pub returns-then-n-eq1-clause-made : goal.returns-then-n-eq1-clause-made
returns-then-n-eq1-clause-made c =
    side_sign c.args.tools.now.layout (drop c.args.place.at c.args.tools.now.nodes.now) c.args.source.now c.signed.new.x c.args.wish c.args.place.seed c.signed.result.mask c.signed.result.seed c.if-n-eq1.true c.requires.can.fits.blocks
    c.signed.ensures.value c.signed.ensures.mask c.signed.ensures.seed

pub returns-then-n-eq1-clause-rest : goal.returns-then-n-eq1-clause-rest
returns-then-n-eq1-clause-rest c =
    c.signed.ensures.rest ∙ sym (ap (λ (z : ReadSide). z.rest) (one_read c.args.tools.now.layout.count c.args.tools.now.layout.level (drop c.args.place.at c.args.tools.now.nodes.now) c.if-n-eq1.true))

pub channel-requires-clause-change : goal.channel-requires-clause-change
channel-requires-clause-change c = subst (λ n. IsChange n c.args.wish.blocks c.args.tools.now.layout.change) (sym c.requires.count) c.requires.can.change

pub channel-requires-clause-tree : goal.channel-requires-clause-tree
channel-requires-clause-tree c =
    subst (λ n. IsPart n (read_part c.args.tools.now.layout.level (drop c.args.place.at c.args.tools.now.nodes.now)).part) (sym c.requires.count)
    (side_part c.args.tools.now.layout.count c.args.tools.now.layout.level (drop c.args.place.at c.args.tools.now.nodes.now) c.if-n-eq1.false c.requires.side)

pub returns-clause-made : goal.returns-clause-made
returns-clause-made c =
    side_channel c.args.tools.now.layout (drop c.args.place.at c.args.tools.now.nodes.now) c.args.source.now c.channel.new.x c.args.wish (length c.args.x.now) c.args.place.seed c.channel.result.mask c.channel.result.seed c.requires.count c.if-n-eq1.false
    c.channel.ensures.made

pub returns-clause-rest : goal.returns-clause-rest
returns-clause-rest c =
    c.channel.ensures.rest ∙ sym (ap (λ (z : ReadSide). z.rest) (many_read c.args.tools.now.layout.count c.args.tools.now.layout.level (drop c.args.place.at c.args.tools.now.nodes.now) c.if-n-eq1.false))
