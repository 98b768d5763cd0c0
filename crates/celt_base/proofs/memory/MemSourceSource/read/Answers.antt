use Rattle.std.proofs.Common.{◌≡◌, ◌+◌, ◌<◌, ◌∙◌, ◌++◌, length, take, drop, min, sym, ap, subst, get_or, arith, length-drop}
use Rattle.std.proofs.lemmas.Bool.Decides.{nat_tests}
use Rattle.celt_base.specs.Memory.{unread, unread_pieces, GivesOne}
use Rattle.celt_base.proofs.Unread.{front_given, some_unread, piece_given}
use Rattle.celt_base.proofs.memory.MemSourceSource.read.Goals as goal

pub returns-clause-bytes : goal.returns-clause-bytes
returns-clause-bytes c =
    let pieces = c.args.self.now.pieces.items in
    let k = c.unread_place-piece.result.0 in
    let start = c.unread_place-piece.result.1 in
    let count = c.copy_front-count.result in
    let rest = c.split_at.result.1.now in
    let inside : k < length pieces = rw (← c.deref-2.ensures.value) (let h = c.in-Some.ensures.lookup in grind (arith, nat_tests)) in
    let read : c.in-Some.bytes.now ≡ get_or pieces k c.in-Some.bytes.now = rw (← c.deref-2.ensures.value) c.in-Some.ensures.lookup.1 in
    let is_rest : rest ≡ drop start c.in-Some.bytes.now.items = c.split_at.ensures.back ∙ ap (drop start) c.deref-3.ensures.value in
    let same : unread (drop c.args.self.now.piece pieces) c.args.self.now.start ≡ unread (drop k pieces) start = rw (← c.deref.ensures.value) (sym c.unread_place-piece.ensures.same) in
    let front : take count (drop start c.in-Some.bytes.now.items) ≡ take count c.copy_front-count.new.buf = ap (take count) (sym is_rest) ∙ sym c.copy_front-count.ensures.front in (
      same ∙ front_given pieces k start count c.in-Some.bytes.now inside read ∙ ap (λ l. l ++ unread (drop k pieces) (start + count)) front,
      λ none room. absurd (let some : 0 < length rest = rw (is_rest, length-drop) (let u = some_unread pieces k start c.in-Some.bytes.now inside read (rw (← c.deref.ensures.value) c.unread_place-piece.ensures.inside) in omega arith) in let e = c.copy_front-count.ensures.count in let r = c.requires in let l = c.copy_front-count.auto.buf in omega arith),
    )

pub returns-clause-pieces : goal.returns-clause-pieces
returns-clause-pieces c =
    let pieces = c.args.self.now.pieces.items in
    let k = c.unread_place-piece.result.0 in
    let start = c.unread_place-piece.result.1 in
    let count = c.copy_front-count.result in
    let rest = c.split_at.result.1.now in
    let place = length c.args.buf.now in
    let inside : k < length pieces = rw (← c.deref-2.ensures.value) (let h = c.in-Some.ensures.lookup in grind (arith, nat_tests)) in
    let read : c.in-Some.bytes.now ≡ get_or pieces k c.in-Some.bytes.now = rw (← c.deref-2.ensures.value) c.in-Some.ensures.lookup.1 in
    let is_rest : rest ≡ drop start c.in-Some.bytes.now.items = c.split_at.ensures.back ∙ ap (drop start) c.deref-3.ensures.value in
    let unread_place = some_unread pieces k start c.in-Some.bytes.now inside read (rw (← c.deref.ensures.value) c.unread_place-piece.ensures.inside) in
    let some : 0 < length (drop start c.in-Some.bytes.now.items) = rw length-drop (omega arith) in
    let is : count ≡ min (length (drop start c.in-Some.bytes.now.items)) place = c.copy_front-count.ensures.count ∙ ap (λ xs. min (length xs) place) is_rest in
    let same : unread_pieces (drop k pieces) start ≡ unread_pieces (drop c.args.self.now.piece pieces) c.args.self.now.start = rw (← c.deref.ensures.value) c.unread_place-piece.ensures.pieces in
    subst (λ before. GivesOne before (unread_pieces (drop k pieces) (start + count)) place count) same (piece_given pieces k start count place c.in-Some.bytes.now inside read some is)
