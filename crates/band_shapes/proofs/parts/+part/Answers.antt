use Rattle.std.proofs.Common.{◌≡◌, ◌-◌, ◌/◌, sym, subst, ap, ◌∙◌, arith, List, ◌++◌, length, take, drop, refl}
use Rattle.band_plan.specs.declared.symbols.Node.{Node}
use Rattle.band_shapes.specs.Tree.{read_part, IsPart}
use Rattle.band_shapes.proofs.Walk.{Cutting, cutting, leaf_read}
use Rattle.band_shapes.proofs.PartLemmas.{first_can, second_can, fill_small, fill_below, mask_of_first, mask_of_second, made_as, read_made, second_made, first_made, leaf_made, cut_rest, seed_made, filled_made, sourceless}
use Rattle.band_shapes.proofs.LeafLemmas.{made_none, made_some}
use Rattle.band_shapes.proofs.parts.+part.Goals as goal

pub overflow_sub-level : goal.overflow_sub-level
overflow_sub-level d c =
    let ns : List Node = drop c.args.place.at c.args.tools.now.nodes.now in
    let rest : List Node = drop c.next_place-at.result c.args.tools.now.nodes.now in
    let k : Cutting (length c.args.x.now) c.args.branch.level ns rest c.in-Split.cut = cutting (length c.args.x.now) c.args.branch.level ns rest c.in-Split.cut (sym c.in-Split.is ∙ c.piece_at.ensures) c.next_place-at.ensures.rest c.requires.tree in
    k.more

pub first_wish-requires : goal.first_wish-requires
first_wish-requires d c =
    let ns : List Node = drop c.args.place.at c.args.tools.now.nodes.now in
    let rest : List Node = drop c.next_place-at.result c.args.tools.now.nodes.now in
    let k : Cutting (length c.args.x.now) c.args.branch.level ns rest c.in-Split.cut = cutting (length c.args.x.now) c.args.branch.level ns rest c.in-Split.cut (sym c.in-Split.is ∙ c.piece_at.ensures) c.next_place-at.ensures.rest c.requires.tree in
    record { angle = k.angle; blocks = c.requires.fits.blocks; gain_low = c.requires.fits.gain_low; gain_high = c.requires.fits.gain_high; fill = fill_small c.args.branch.wish.fill c.args.branch.level c.requires.fill }

pub second_wish-requires : goal.second_wish-requires
second_wish-requires d c =
    let ns : List Node = drop c.args.place.at c.args.tools.now.nodes.now in
    let rest : List Node = drop c.next_place-at.result c.args.tools.now.nodes.now in
    let k : Cutting (length c.args.x.now) c.args.branch.level ns rest c.in-Split.cut = cutting (length c.args.x.now) c.args.branch.level ns rest c.in-Split.cut (sym c.in-Split.is ∙ c.piece_at.ensures) c.next_place-at.ensures.rest c.requires.tree in
    record { angle = k.angle; blocks = c.requires.fits.blocks; gain_low = c.requires.fits.gain_low; gain_high = c.requires.fits.gain_high; fill = fill_small c.args.branch.wish.fill c.args.branch.level c.requires.fill }

pub part-two-requires : goal.part-two-requires
part-two-requires d c =
    let ns : List Node = drop c.args.place.at c.args.tools.now.nodes.now in
    let rest : List Node = drop c.next_place-at.result c.args.tools.now.nodes.now in
    let k : Cutting (length c.args.x.now) c.args.branch.level ns rest c.in-Split.cut = cutting (length c.args.x.now) c.args.branch.level ns rest c.in-Split.cut (sym c.in-Split.is ∙ c.piece_at.ensures) c.next_place-at.ensures.rest c.requires.tree in
    let h : length c.split_at_mut-low.result.1.now ≡ length c.args.x.now / 2 = omega (arith, c.split_at_mut-low.ensures.front_len, c.split_at_mut-low.ensures.back_len, k.even) in (
      omega (arith, k.more),
      (
        omega (arith, c.requires.room, c.split_at_mut-low.ensures.front_len, c.split_at_mut-low.ensures.back_len, c.split_at_mut-low_room.ensures.front_len, c.split_at_mut-low_room.ensures.back_len),
        (
          second_can (length c.args.x.now) (length c.split_at_mut-low.result.1.now) c.args.source.now c.halves.result.1.now c.in-Split.cut.theta c.args.branch.wish c.second_wish.result c.requires.fits k.even h c.halves.ensures.second c.second_wish.ensures.value c.second_wish.ensures.low c.second_wish.ensures.high,
          (
            c.requires.spread,
            (
              omega (arith, c.requires.level),
              (
                fill_below c.second_wish.result.fill c.args.branch.level k.more c.requires.level (c.second_wish.ensures.size (24 - c.args.branch.level) c.requires.fill),
                (
                  c.next_place-at.ensures.within,
                  subst (λ z. IsPart z (read_part (c.args.branch.level - 1) rest).part) (sym h) k.one,
                ),
              ),
            ),
          ),
        ),
      ),
    )

pub part-one-requires : goal.part-one-requires
part-one-requires d c =
    let ns : List Node = drop c.args.place.at c.args.tools.now.nodes.now in
    let rest : List Node = drop c.next_place-at.result c.args.tools.now.nodes.now in
    let k : Cutting (length c.args.x.now) c.args.branch.level ns rest c.in-Split.cut = cutting (length c.args.x.now) c.args.branch.level ns rest c.in-Split.cut (sym c.in-Split.is ∙ c.piece_at.ensures) c.next_place-at.ensures.rest c.requires.tree in
    let h : length c.split_at_mut-low.result.0.now ≡ length c.args.x.now / 2 = omega (arith, c.split_at_mut-low.ensures.front_len, c.split_at_mut-low.ensures.back_len, k.even) in (
      omega (arith, k.more),
      (
        omega (arith, c.requires.room, c.split_at_mut-low.ensures.front_len, c.split_at_mut-low.ensures.back_len, c.split_at_mut-low_room.ensures.front_len, c.split_at_mut-low_room.ensures.back_len),
        (
          first_can (length c.args.x.now) (length c.split_at_mut-low.result.0.now) c.args.source.now c.halves.result.0.now c.in-Split.cut.theta c.args.branch.wish c.first_wish.result c.requires.fits k.even h c.halves.ensures.first c.first_wish.ensures.value c.first_wish.ensures.low c.first_wish.ensures.high,
          (
            c.requires.spread,
            (
              omega (arith, c.requires.level),
              (
                fill_below c.first_wish.result.fill c.args.branch.level k.more c.requires.level (c.first_wish.ensures.size (24 - c.args.branch.level) c.requires.fill),
                (
                  c.part-two.ensures.at,
                  subst (λ z. IsPart z (read_part (c.args.branch.level - 1) (drop c.part-two.result.at c.args.tools.now.nodes.now)).part) (sym h) (subst (λ z. IsPart (length c.args.x.now / 2) (read_part (c.args.branch.level - 1) z).part) (sym c.part-two.ensures.rest) k.two),
                ),
              ),
            ),
          ),
        ),
      ),
    )

pub part-one-requires-in-Split : goal.part-one-requires-in-Split
part-one-requires-in-Split d c =
    let ns : List Node = drop c.args.place.at c.args.tools.now.nodes.now in
    let rest : List Node = drop c.next_place-at.result c.args.tools.now.nodes.now in
    let k : Cutting (length c.args.x.now) c.args.branch.level ns rest c.in-Split.cut = cutting (length c.args.x.now) c.args.branch.level ns rest c.in-Split.cut (sym c.in-Split.is ∙ c.piece_at.ensures) c.next_place-at.ensures.rest c.requires.tree in
    let h : length c.split_at_mut-low.result.0.now ≡ length c.args.x.now / 2 = omega (arith, c.split_at_mut-low.ensures.front_len, c.split_at_mut-low.ensures.back_len, k.even) in (
      omega (arith, k.more),
      (
        omega (arith, c.requires.room, c.split_at_mut-low.ensures.front_len, c.split_at_mut-low.ensures.back_len, c.split_at_mut-low_room.ensures.front_len, c.split_at_mut-low_room.ensures.back_len),
        (
          first_can (length c.args.x.now) (length c.split_at_mut-low.result.0.now) c.args.source.now c.halves.result.0.now c.in-Split.cut.theta c.args.branch.wish c.first_wish.result c.requires.fits k.even h c.halves.ensures.first c.first_wish.ensures.value c.first_wish.ensures.low c.first_wish.ensures.high,
          (
            c.requires.spread,
            (
              omega (arith, c.requires.level),
              (
                fill_below c.first_wish.result.fill c.args.branch.level k.more c.requires.level (c.first_wish.ensures.size (24 - c.args.branch.level) c.requires.fill),
                (
                  c.next_place-at.ensures.within,
                  subst (λ z. IsPart z (read_part (c.args.branch.level - 1) rest).part) (sym h) k.one,
                ),
              ),
            ),
          ),
        ),
      ),
    )

pub part-two-requires-in-Split : goal.part-two-requires-in-Split
part-two-requires-in-Split d c =
    let ns : List Node = drop c.args.place.at c.args.tools.now.nodes.now in
    let rest : List Node = drop c.next_place-at.result c.args.tools.now.nodes.now in
    let k : Cutting (length c.args.x.now) c.args.branch.level ns rest c.in-Split.cut = cutting (length c.args.x.now) c.args.branch.level ns rest c.in-Split.cut (sym c.in-Split.is ∙ c.piece_at.ensures) c.next_place-at.ensures.rest c.requires.tree in
    let h : length c.split_at_mut-low.result.1.now ≡ length c.args.x.now / 2 = omega (arith, c.split_at_mut-low.ensures.front_len, c.split_at_mut-low.ensures.back_len, k.even) in (
      omega (arith, k.more),
      (
        omega (arith, c.requires.room, c.split_at_mut-low.ensures.front_len, c.split_at_mut-low.ensures.back_len, c.split_at_mut-low_room.ensures.front_len, c.split_at_mut-low_room.ensures.back_len),
        (
          second_can (length c.args.x.now) (length c.split_at_mut-low.result.1.now) c.args.source.now c.halves.result.1.now c.in-Split.cut.theta c.args.branch.wish c.second_wish.result c.requires.fits k.even h c.halves.ensures.second c.second_wish.ensures.value c.second_wish.ensures.low c.second_wish.ensures.high,
          (
            c.requires.spread,
            (
              omega (arith, c.requires.level),
              (
                fill_below c.second_wish.result.fill c.args.branch.level k.more c.requires.level (c.second_wish.ensures.size (24 - c.args.branch.level) c.requires.fill),
                (
                  c.part-one-in-Split.ensures.at,
                  subst (λ z. IsPart z (read_part (c.args.branch.level - 1) (drop c.part-one-in-Split.result.at c.args.tools.now.nodes.now)).part) (sym h) (subst (λ z. IsPart (length c.args.x.now / 2) (read_part (c.args.branch.level - 1) z).part) (sym c.part-one-in-Split.ensures.rest) k.two),
                ),
              ),
            ),
          ),
        ),
      ),
    )

pub joined-requires : goal.joined-requires
joined-requires d c = record {
  blocks = c.requires.fits.blocks;
  first = mask_of_first c.part-one.result.mask c.in-Split.cut.theta c.args.branch.wish c.first_wish.result c.first_wish.ensures.value c.part-one.ensures.made.small;
  second = mask_of_second c.part-two.result.mask c.in-Split.cut.theta c.args.branch.wish c.second_wish.result c.second_wish.ensures.value c.part-two.ensures.made.small;
}

pub joined-requires-in-Split : goal.joined-requires-in-Split
joined-requires-in-Split d c = record {
  blocks = c.requires.fits.blocks;
  first = mask_of_first c.part-one-in-Split.result.mask c.in-Split.cut.theta c.args.branch.wish c.first_wish.result c.first_wish.ensures.value c.part-one-in-Split.ensures.made.small;
  second = mask_of_second c.part-two-in-Split.result.mask c.in-Split.cut.theta c.args.branch.wish c.second_wish.result c.second_wish.ensures.value c.part-two-in-Split.ensures.made.small;
}

pub returns-then-cut : goal.returns-then-cut
returns-then-cut d c =
    let ns : List Node = drop c.args.place.at c.args.tools.now.nodes.now in
    let rest : List Node = drop c.next_place-at.result c.args.tools.now.nodes.now in
    let k : Cutting (length c.args.x.now) c.args.branch.level ns rest c.in-Split.cut = cutting (length c.args.x.now) c.args.branch.level ns rest c.in-Split.cut (sym c.in-Split.is ∙ c.piece_at.ensures) c.next_place-at.ensures.rest c.requires.tree in
    let h0 : length c.split_at_mut-low.result.0.now ≡ length c.args.x.now / 2 = omega (arith, c.split_at_mut-low.ensures.front_len, c.split_at_mut-low.ensures.back_len, k.even) in
    let h1 : length c.split_at_mut-low.result.1.now ≡ length c.args.x.now / 2 = omega (arith, c.split_at_mut-low.ensures.front_len, c.split_at_mut-low.ensures.back_len, k.even) in
    let p = made_as c.args.tools.now.layout.spread _ (length c.args.x.now / 2) (c.args.branch.level - 1) c.args.place.seed _ _ rest rest (drop (length c.args.x.now / 2) c.args.source.now) _ c.second_wish.result _ _ h1 c.halves.ensures.second c.second_wish.ensures.value refl c.part-two.ensures.made in
    let q = made_as c.args.tools.now.layout.spread _ (length c.args.x.now / 2) (c.args.branch.level - 1) c.part-two.result.seed _ _ (drop c.part-two.result.at c.args.tools.now.nodes.now) (drop c.part-two.result.at c.args.tools.now.nodes.now) (take (length c.args.x.now / 2) c.args.source.now) _ c.first_wish.result _ _ h0 c.halves.ensures.first c.first_wish.ensures.value refl c.part-one.ensures.made in
    let v = second_made c.args.tools.now.layout.spread (length c.args.x.now) (c.args.branch.level - 1) c.args.source.now rest (drop c.part-two.result.at c.args.tools.now.nodes.now) c.in-Split.cut c.args.branch.wish c.args.place.seed c.part-two.result.seed c.part-one.result.seed c.part-one.result.mask c.part-two.result.mask c.joined.result.mask c.part-one.new.x c.part-two.new.x
    c.if-cut.true c.part-two.ensures.rest p q c.joined.ensures.value c.joined.ensures.size in
    record {
      made = seed_made _ _ _ _ c.part-one.result.seed c.joined.result.seed c.joined.ensures.seed (read_made c.args.tools.now.layout.spread (length c.args.x.now) c.args.place.seed c.joined.result.mask c.part-one.result.seed c.args.source.now (c.part-one.new.x ++ c.part-two.new.x) c.args.branch.wish (read_part c.args.branch.level ns) _ k.read v);
      rest = ap (λ z. drop z c.args.tools.now.nodes.now) c.joined.ensures.at ∙ cut_rest (c.args.branch.level - 1) ns rest (drop c.part-two.result.at c.args.tools.now.nodes.now) _ c.in-Split.cut _ k.read c.part-two.ensures.rest c.part-one.ensures.rest;
      at = omega (arith, c.joined.ensures.at, c.part-one.ensures.at);
    }

pub returns-else-cut : goal.returns-else-cut
returns-else-cut d c =
    let ns : List Node = drop c.args.place.at c.args.tools.now.nodes.now in
    let rest : List Node = drop c.next_place-at.result c.args.tools.now.nodes.now in
    let k : Cutting (length c.args.x.now) c.args.branch.level ns rest c.in-Split.cut = cutting (length c.args.x.now) c.args.branch.level ns rest c.in-Split.cut (sym c.in-Split.is ∙ c.piece_at.ensures) c.next_place-at.ensures.rest c.requires.tree in
    let h0 : length c.split_at_mut-low.result.0.now ≡ length c.args.x.now / 2 = omega (arith, c.split_at_mut-low.ensures.front_len, c.split_at_mut-low.ensures.back_len, k.even) in
    let h1 : length c.split_at_mut-low.result.1.now ≡ length c.args.x.now / 2 = omega (arith, c.split_at_mut-low.ensures.front_len, c.split_at_mut-low.ensures.back_len, k.even) in
    let p = made_as c.args.tools.now.layout.spread _ (length c.args.x.now / 2) (c.args.branch.level - 1) c.args.place.seed _ _ rest rest (take (length c.args.x.now / 2) c.args.source.now) _ c.first_wish.result _ _ h0 c.halves.ensures.first c.first_wish.ensures.value refl c.part-one-in-Split.ensures.made in
    let q = made_as c.args.tools.now.layout.spread _ (length c.args.x.now / 2) (c.args.branch.level - 1) c.part-one-in-Split.result.seed _ _ (drop c.part-one-in-Split.result.at c.args.tools.now.nodes.now) (drop c.part-one-in-Split.result.at c.args.tools.now.nodes.now) (drop (length c.args.x.now / 2) c.args.source.now) _ c.second_wish.result _ _ h1 c.halves.ensures.second c.second_wish.ensures.value refl c.part-two-in-Split.ensures.made in
    let v = first_made c.args.tools.now.layout.spread (length c.args.x.now) (c.args.branch.level - 1) c.args.source.now rest (drop c.part-one-in-Split.result.at c.args.tools.now.nodes.now) c.in-Split.cut c.args.branch.wish c.args.place.seed c.part-one-in-Split.result.seed c.part-two-in-Split.result.seed c.part-one-in-Split.result.mask c.part-two-in-Split.result.mask c.joined-in-Split.result.mask c.part-one-in-Split.new.x c.part-two-in-Split.new.x
    c.if-cut.false c.part-one-in-Split.ensures.rest p q c.joined-in-Split.ensures.value c.joined-in-Split.ensures.size in
    record {
      made = seed_made _ _ _ _ c.part-two-in-Split.result.seed c.joined-in-Split.result.seed c.joined-in-Split.ensures.seed (read_made c.args.tools.now.layout.spread (length c.args.x.now) c.args.place.seed c.joined-in-Split.result.mask c.part-two-in-Split.result.seed c.args.source.now (c.part-one-in-Split.new.x ++ c.part-two-in-Split.new.x) c.args.branch.wish (read_part c.args.branch.level ns) _ k.read v);
      rest = ap (λ z. drop z c.args.tools.now.nodes.now) c.joined-in-Split.ensures.at ∙ cut_rest (c.args.branch.level - 1) ns rest (drop c.part-one-in-Split.result.at c.args.tools.now.nodes.now) _ c.in-Split.cut _ k.read c.part-one-in-Split.ensures.rest c.part-two-in-Split.ensures.rest;
      at = omega (arith, c.joined-in-Split.ensures.at, c.part-two-in-Split.ensures.at);
    }

pub pulse_leaf-requires : goal.pulse_leaf-requires
pulse_leaf-requires d c =
    let ns : List Node = drop c.args.place.at c.args.tools.now.nodes.now in
    let read = leaf_read c.args.branch.level ns c.in-Leaf.count c.in-Leaf.index (sym c.in-Leaf.is ∙ c.piece_at.ensures) in
    record {
      room = c.requires.room;
      fits = sourceless (length c.args.x.now) c.args.source.now c.args.branch.wish c.requires.fits;
      leaf = subst (λ z. IsPart (length c.args.x.now) z.part) read c.requires.tree;
      some = omega (arith, c.if-count-eq0.false);
      spread = c.requires.spread;
    }

pub returns-then-count-eq0 : goal.returns-then-count-eq0
returns-then-count-eq0 d c =
    let ns : List Node = drop c.args.place.at c.args.tools.now.nodes.now in
    let read = leaf_read c.args.branch.level ns c.in-Leaf.count c.in-Leaf.index (sym c.in-Leaf.is ∙ c.piece_at.ensures) in
    let p = made_none c.args.tools.now.layout.spread (length c.args.x.now) c.in-Leaf.count c.in-Leaf.index c.args.place.seed _ _ c.args.source.now c.silent_leaf.new.x c.args.branch.wish c.if-count-eq0.true c.silent_leaf.ensures in
    let q = leaf_made c.args.tools.now.layout.spread (length c.args.x.now) c.in-Leaf.count c.in-Leaf.index c.args.place.seed _ _ c.args.source.now c.silent_leaf.new.x c.args.branch.wish _ read p in
    record {
      made = filled_made _ _ _ _ _ _ _ c.made_at.ensures.mask c.made_at.ensures.seed q;
      rest = ap (λ z. drop z c.args.tools.now.nodes.now) c.made_at.ensures.at ∙ (c.next_place-at.ensures.rest ∙ sym (ap (λ z. z.rest) read));
      at = omega (arith, c.made_at.ensures.at, c.next_place-at.ensures.within);
    }

pub returns-else-count-eq0 : goal.returns-else-count-eq0
returns-else-count-eq0 d c =
    let ns : List Node = drop c.args.place.at c.args.tools.now.nodes.now in
    let read = leaf_read c.args.branch.level ns c.in-Leaf.count c.in-Leaf.index (sym c.in-Leaf.is ∙ c.piece_at.ensures) in
    let p = made_some c.args.tools.now.layout.spread (length c.args.x.now) c.in-Leaf.count c.in-Leaf.index c.args.place.seed _ _ c.args.source.now c.pulse_leaf.new.x c.args.branch.wish c.if-count-eq0.false c.pulse_leaf.ensures in
    let q = leaf_made c.args.tools.now.layout.spread (length c.args.x.now) c.in-Leaf.count c.in-Leaf.index c.args.place.seed _ _ c.args.source.now c.pulse_leaf.new.x c.args.branch.wish _ read p in
    record {
      made = filled_made _ _ _ _ _ _ _ c.made_at-in-Leaf.ensures.mask c.made_at-in-Leaf.ensures.seed q;
      rest = ap (λ z. drop z c.args.tools.now.nodes.now) c.made_at-in-Leaf.ensures.at ∙ (c.next_place-at.ensures.rest ∙ sym (ap (λ z. z.rest) read));
      at = omega (arith, c.made_at-in-Leaf.ensures.at, c.next_place-at.ensures.within);
    }
