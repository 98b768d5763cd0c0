use Rattle.std.proofs.Common.{◌≡◌, ◌-◌, suc, true, not, rules, arith, ap, sym, subst, ◌∙◌}
use Rattle.std.proofs.lemmas.Int.{ints}
use Rattle.band_plan.specs.declared.orders.Share.{Share}
use Rattle.band_plan.specs.Parts.{divides, IsPiece}
use Rattle.band_plan.proofs.PartBounds.{most_at, most_some, reach_at, reach_least, reach_most, halves_range, divided, divides_some, half_piece, first_fits, later_fits, split_used}
use Rattle.band_plan.proofs.PartSteps.{part_leaf, part_split_by}
use Rattle.band_plan.proofs.parts.+part.Goals as goal

pub divides-requires-clause-n : goal.divides-requires-clause-n
divides-requires-clause-n g t c =
    let r = halves_range c.args.level c.args.piece.n c.requires.piece.halves in
    r

pub leaf-requires-clause-n : goal.leaf-requires-clause-n
leaf-requires-clause-n g t c =
    let r = halves_range c.args.level c.args.piece.n c.requires.piece.halves in
    r

pub leaf-requires-clause-few : goal.leaf-requires-clause-few
leaf-requires-clause-few g t c =
    let m = most_some c.args.level in
    let few = c.requires.few in
    omega (arith, m, few)

pub leaf-requires-clause-room : goal.leaf-requires-clause-room
leaf-requires-clause-room g t c =
    let m = most_some c.args.level in
    let room = c.requires.room in
    omega (arith, m, room)

pub returns-then-not-divides-clause-coded : goal.returns-then-not-divides-clause-coded
returns-then-not-divides-clause-coded g t c =
    part_leaf c.args.level c.args.piece c.args.share (sym c.divides.ensures ∙ c.if-not-divides.true) c.leaf.ensures.coded

pub returns-then-not-divides-clause-used : goal.returns-then-not-divides-clause-used
returns-then-not-divides-clause-used g t c =
    let m = reach_least c.args.level in
    let u = c.leaf.ensures.used in
    omega (arith, m, u)

pub returns-then-not-divides-clause-count : goal.returns-then-not-divides-clause-count
returns-then-not-divides-clause-count g t c =
    let m = most_some c.args.level in
    let u = c.leaf.ensures.count in
    omega (arith, m, u)

pub returns-then-not-divides-clause-room : goal.returns-then-not-divides-clause-room
returns-then-not-divides-clause-room g t c =
    let m = most_some c.args.level in
    let u = c.leaf.ensures.room in
    omega (arith, m, u)

pub overflow_sub-lower : goal.overflow_sub-lower
overflow_sub-lower g t c =
    let apart : divides c.args.level c.args.piece.n c.args.share.bits ≡ true = sym c.divides.ensures ∙ c.if-not-divides.false in
    let some = divides_some c.args.level c.args.piece.n c.args.share.bits apart in
    omega (arith, some)

pub ask_split-theta-requires-clause-n : goal.ask_split-theta-requires-clause-n
ask_split-theta-requires-clause-n g t c =
    let apart : divides c.args.level c.args.piece.n c.args.share.bits ≡ true = sym c.divides.ensures ∙ c.if-not-divides.false in
    let some = divides_some c.args.level c.args.piece.n c.args.share.bits apart in
    let up : c.args.level ≡ suc (c.args.level - 1) = omega (arith, some) in
    let d = divided c.args.level (c.args.level - 1) c.args.piece.n c.args.share.bits up c.requires.piece.halves apart in
    let a = d.least in
    let b = d.most in
    (a, b)

pub ask_split-theta-requires-clause-few : goal.ask_split-theta-requires-clause-few
ask_split-theta-requires-clause-few g t c =
    let m = most_some c.args.level in
    let few = c.requires.few in
    omega (arith, m, few)

pub split_order-order-requires-clause-n : goal.split_order-order-requires-clause-n
split_order-order-requires-clause-n g t c =
    let r = halves_range c.args.level c.args.piece.n c.requires.piece.halves in
    r

pub split_order-order-requires-clause-bits : goal.split_order-order-requires-clause-bits
split_order-order-requires-clause-bits g t c =
    let apart : divides c.args.level c.args.piece.n c.args.share.bits ≡ true = sym c.divides.ensures ∙ c.if-not-divides.false in
    let some = divides_some c.args.level c.args.piece.n c.args.share.bits apart in
    let up : c.args.level ≡ suc (c.args.level - 1) = omega (arith, some) in
    let r = reach_at c.args.level (c.args.level - 1) up in
    let b = c.requires.share.bits in
    omega (arith, r, b)

pub push-requires : goal.push-requires
push-requires g t c =
    let m = most_some c.args.level in
    let room = c.requires.room in
    omega (arith, m, room)

pub first_share-first-requires-clause-left : goal.first_share-first-requires-clause-left
first_share-first-requires-clause-left g t c =
    let apart : divides c.args.level c.args.piece.n c.args.share.bits ≡ true = sym c.divides.ensures ∙ c.if-not-divides.false in
    let some = divides_some c.args.level c.args.piece.n c.args.share.bits apart in
    let up : c.args.level ≡ suc (c.args.level - 1) = omega (arith, some) in
    let r = reach_at c.args.level (c.args.level - 1) up in
    let b = c.requires.share.left in
    omega (arith, r, b)

pub part-middle-requires : goal.part-middle-requires
part-middle-requires g t c κs within =
    let apart : divides c.args.level c.args.piece.n c.args.share.bits ≡ true = sym c.divides.ensures ∙ c.if-not-divides.false in
    let some = divides_some c.args.level c.args.piece.n c.args.share.bits apart in
    let up : c.args.level ≡ suc (c.args.level - 1) = omega (arith, some) in
    let m = most_at c.args.level (c.args.level - 1) up in
    let level = c.requires.level in
    let few = c.requires.few in
    let asked = c.ask_split-theta.ensures.count in
    let room = c.requires.room in
    let pushed = c.push.ensures.len in
    let piece : IsPiece (c.args.level - 1) c.half.result =
    subst (IsPiece (c.args.level - 1)) (sym c.half.ensures) (half_piece c.args.level (c.args.level - 1) c.args.piece c.args.share.bits c.split_order-order.result.second_first up c.requires.piece apart) in
    let share = first_fits c.args.level (c.args.level - 1) c.split_order-order.result c.args.share c.first_share-first.result c.ask_split-theta.result up c.requires.share c.ask_split-theta.ensures.is c.split_order-order.ensures.is c.first_share-first.ensures in
    (search rules, (within.0, (within.1, (omega (arith, level, some), (piece, (share, (omega (arith, m, few, asked), omega (arith, m, room, pushed))))))))

pub later_share-later-requires-clause-first : goal.later_share-later-requires-clause-first
later_share-later-requires-clause-first g t c =
    let apart : divides c.args.level c.args.piece.n c.args.share.bits ≡ true = sym c.divides.ensures ∙ c.if-not-divides.false in
    let some = divides_some c.args.level c.args.piece.n c.args.share.bits apart in
    let up : c.args.level ≡ suc (c.args.level - 1) = omega (arith, some) in
    let r = reach_at c.args.level (c.args.level - 1) up in
    let b = c.requires.share.bits in
    let s = c.ask_split-theta.ensures.is.spent in
    let o = c.split_order-order.ensures.is.first in
    omega (arith, ints, r, b, s, o)

pub later_share-later-requires-clause-other : goal.later_share-later-requires-clause-other
later_share-later-requires-clause-other g t c =
    let apart : divides c.args.level c.args.piece.n c.args.share.bits ≡ true = sym c.divides.ensures ∙ c.if-not-divides.false in
    let some = divides_some c.args.level c.args.piece.n c.args.share.bits apart in
    let up : c.args.level ≡ suc (c.args.level - 1) = omega (arith, some) in
    let r = reach_at c.args.level (c.args.level - 1) up in
    let b = c.requires.share.bits in
    let s = c.ask_split-theta.ensures.is.spent in
    let o = c.split_order-order.ensures.is.other in
    omega (arith, ints, r, b, s, o)

pub later_share-later-requires-clause-together : goal.later_share-later-requires-clause-together
later_share-later-requires-clause-together g t c =
    let apart : divides c.args.level c.args.piece.n c.args.share.bits ≡ true = sym c.divides.ensures ∙ c.if-not-divides.false in
    let some = divides_some c.args.level c.args.piece.n c.args.share.bits apart in
    let up : c.args.level ≡ suc (c.args.level - 1) = omega (arith, some) in
    let r = reach_at c.args.level (c.args.level - 1) up in
    let b = c.requires.share.bits in
    let s = c.ask_split-theta.ensures.is.spent in
    let o = c.split_order-order.ensures.is.together in
    omega (arith, ints, r, b, s, o)

pub later_share-later-requires-clause-used : goal.later_share-later-requires-clause-used
later_share-later-requires-clause-used g t c =
    let m = reach_most (c.args.level - 1) (let level = c.requires.level in omega (arith, level)) in
    let u = c.part-middle.ensures.used in
    omega (arith, m, u)

pub part-requires : goal.part-requires
part-requires g t c κs within =
    let apart : divides c.args.level c.args.piece.n c.args.share.bits ≡ true = sym c.divides.ensures ∙ c.if-not-divides.false in
    let some = divides_some c.args.level c.args.piece.n c.args.share.bits apart in
    let up : c.args.level ≡ suc (c.args.level - 1) = omega (arith, some) in
    let m = most_at c.args.level (c.args.level - 1) up in
    let level = c.requires.level in
    let few = c.requires.few in
    let asked = c.ask_split-theta.ensures.count in
    let first = c.part-middle.ensures.count in
    let room = c.requires.room in
    let pushed = c.push.ensures.len in
    let filled = c.part-middle.ensures.room in
    let piece : IsPiece (c.args.level - 1) c.half-2.result =
    subst (IsPiece (c.args.level - 1)) (sym c.half-2.ensures) (half_piece c.args.level (c.args.level - 1) c.args.piece c.args.share.bits (not c.split_order-order.result.second_first) up c.requires.piece apart) in
    let share = later_fits c.args.level (c.args.level - 1) c.split_order-order.result c.args.share c.first_share-first.result c.later_share-later.result c.ask_split-theta.result c.part-middle.result.left
    up c.requires.share c.ask_split-theta.ensures.is c.split_order-order.ensures.is c.first_share-first.ensures c.part-middle.ensures.used c.later_share-later.ensures in
    (search rules, (within.0, (within.1, (omega (arith, level, some), (piece, (share, (omega (arith, m, few, asked, first), omega (arith, m, room, pushed, filled))))))))

pub returns-clause-used : goal.returns-clause-used
returns-clause-used g t c =
    let apart : divides c.args.level c.args.piece.n c.args.share.bits ≡ true = sym c.divides.ensures ∙ c.if-not-divides.false in
    let some = divides_some c.args.level c.args.piece.n c.args.share.bits apart in
    let up : c.args.level ≡ suc (c.args.level - 1) = omega (arith, some) in
    split_used c.args.level (c.args.level - 1) c.args.share.left c.ask_split-theta.result.spent c.first_share-first.result.left c.part-middle.result.left c.later_share-later.result.left c.part.result.left up
    c.ask_split-theta.ensures.is.spent (ap (λ (s : Share). s.left) c.first_share-first.ensures) c.part-middle.ensures.used (ap (λ (s : Share). s.left) c.later_share-later.ensures) c.part.ensures.used

pub returns-clause-count : goal.returns-clause-count
returns-clause-count g t c =
    let apart : divides c.args.level c.args.piece.n c.args.share.bits ≡ true = sym c.divides.ensures ∙ c.if-not-divides.false in
    let some = divides_some c.args.level c.args.piece.n c.args.share.bits apart in
    let up : c.args.level ≡ suc (c.args.level - 1) = omega (arith, some) in
    let m = most_at c.args.level (c.args.level - 1) up in
    let asked = c.ask_split-theta.ensures.count in
    let first = c.part-middle.ensures.count in
    let second = c.part.ensures.count in
    omega (arith, m, asked, first, second)

pub returns-clause-room : goal.returns-clause-room
returns-clause-room g t c =
    let apart : divides c.args.level c.args.piece.n c.args.share.bits ≡ true = sym c.divides.ensures ∙ c.if-not-divides.false in
    let some = divides_some c.args.level c.args.piece.n c.args.share.bits apart in
    let up : c.args.level ≡ suc (c.args.level - 1) = omega (arith, some) in
    let m = most_at c.args.level (c.args.level - 1) up in
    let pushed = c.push.ensures.len in
    let first = c.part-middle.ensures.room in
    let second = c.part.ensures.room in
    omega (arith, m, pushed, first, second)

pub returns-clause-coded : goal.returns-clause-coded
returns-clause-coded g t c =
    let apart : divides c.args.level c.args.piece.n c.args.share.bits ≡ true = sym c.divides.ensures ∙ c.if-not-divides.false in
    let some = divides_some c.args.level c.args.piece.n c.args.share.bits apart in
    part_split_by c.args.level (c.args.level - 1) c.args.piece c.half.result c.half-2.result c.args.share c.ask_split-theta.result c.split_order-order.result c.first_share-first.result c.later_share-later.result
    c.part-middle.result.left c.part.result.left c.angle_node.result c.args.nodes.now.items c.push.new.self.items c.part-middle.new.nodes.items c.part.new.nodes.items
    (omega (arith, some)) apart c.split_order-order.ensures.value c.first_share-first.ensures c.later_share-later.ensures c.half.ensures c.half-2.ensures c.angle_node.ensures c.push.ensures.items
    c.ask_split-theta.ensures.walked c.part-middle.ensures.coded c.part.ensures.coded
