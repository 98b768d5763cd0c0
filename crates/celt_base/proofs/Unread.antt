-- Reading from pieces of bytes.
use Rattle.std.proofs.Common.{◌≡◌, ℕ, zero, suc, ◌+◌, ◌<◌, ◌≤◌, min, List, [], ◌∷◌, ◌++◌, length, map, get_or, take, drop, refl, sym, ◌∙◌, ap, subst, append_assoc, arith}
use Rattle.std.proofs.lemmas.List.{take-append-drop}
use Rattle.std.proofs.lemmas.List.{drop-drop}
use Rattle.std.proofs.Math.Seq.{drop-cons}
use Rattle.std.specs.Prelude.{Vec}
use Rattle.std.specs.declared.alloc.Global.{Global}
use Rattle.celt_base.specs.Memory.{joined, unread, IsUnreadPlace, some_of, unread_pieces, GivesOne}

-- the piece at a place stands first in what follows
split_at_piece : (ps : List (Vec ℕ Global)) (k : ℕ) (p : Vec ℕ Global) → k < length ps → p ≡ get_or ps k p → drop k ps ≡ p ∷ drop (suc k) ps
split_at_piece ps k p inside read = drop-cons ps k p inside ∙ ap (λ x. x ∷ drop (suc k) ps) (sym read)

-- a front of what is unread of the first piece is a front of all that is unread
first_given : (p : Vec ℕ Global) (ps : List (Vec ℕ Global)) (start count : ℕ) → unread (p ∷ ps) start ≡ take count (drop start p.items) ++ unread (p ∷ ps) (start + count)
first_given p ps start count =
    ap (λ l. l ++ joined ps) (sym (take-append-drop count (drop start p.items)) ∙ ap (λ l. take count (drop start p.items) ++ l) (drop-drop count start p.items))
    ∙ append_assoc (take count (drop start p.items)) (drop (start + count) p.items) (joined ps)

pub front_given : (ps : List (Vec ℕ Global)) (k start count : ℕ) (p : Vec ℕ Global) → k < length ps → p ≡ get_or ps k p
    → unread (drop k ps) start ≡ take count (drop start p.items) ++ unread (drop k ps) (start + count)
front_given ps k start count p inside read =
    subst (λ l. unread l start ≡ take count (drop start p.items) ++ unread l (start + count)) (sym (split_at_piece ps k p inside read)) (first_given p (drop (suc k) ps) start count)

-- an unread place has an unread byte
pub some_unread : (ps : List (Vec ℕ Global)) (k start : ℕ) (p : Vec ℕ Global) → k < length ps → p ≡ get_or ps k p → IsUnreadPlace (drop k ps) start → start < length p.items
some_unread ps k start p inside read place = subst (λ l. IsUnreadPlace l start) (split_at_piece ps k p inside read) place

-- nothing is left behind the end of a list
drop_all : {A : Type 0} (k : ℕ) (xs : List A) → length xs ≤ k → drop k xs ≡ []
drop_all zero [] all = refl
drop_all zero (x ∷ xs) all = absurd (omega arith)
drop_all (suc k) [] all = refl
drop_all (suc k) (x ∷ xs) all = drop_all k xs (omega arith)

-- a piece that was read to its end is no piece any more
passed_first : (p : Vec ℕ Global) (ps : List (Vec ℕ Global)) (start : ℕ) → length p.items ≤ start → unread_pieces (p ∷ ps) start ≡ unread_pieces ps 0
passed_first p ps start all = ap (λ xs. some_of (xs ∷ map (λ p. p.items) ps)) (drop_all start p.items all) ∙ from_start ps
  where
    from_start : (ps : List (Vec ℕ Global)) → some_of (map (λ p. p.items) ps) ≡ unread_pieces ps 0
    from_start [] = refl
    from_start (q ∷ qs) = refl

unread_passed : (p : Vec ℕ Global) (ps : List (Vec ℕ Global)) (start : ℕ) → length p.items ≤ start → unread (p ∷ ps) start ≡ unread ps 0
unread_passed p ps start all = ap (λ xs. xs ++ joined ps) (drop_all start p.items all) ∙ from_start ps
  where
    from_start : (ps : List (Vec ℕ Global)) → joined ps ≡ unread ps 0
    from_start [] = refl
    from_start (q ∷ qs) = refl

pub front_passed : (ps : List (Vec ℕ Global)) (k start : ℕ) (p : Vec ℕ Global) → k < length ps → p ≡ get_or ps k p → length p.items ≤ start
    → unread (drop k ps) start ≡ unread (drop (k + 1) ps) 0
front_passed ps k start p inside read all =
    let next : suc k ≡ k + 1 = omega arith in
    subst (λ l. unread l start ≡ unread (drop (k + 1) ps) 0) (sym (split_at_piece ps k p inside read))
    (subst (λ n. unread (p ∷ drop (suc k) ps) start ≡ unread (drop n ps) 0) next (unread_passed p (drop (suc k) ps) start all))

pub piece_passed : (ps : List (Vec ℕ Global)) (k start : ℕ) (p : Vec ℕ Global) → k < length ps → p ≡ get_or ps k p → length p.items ≤ start
    → unread_pieces (drop k ps) start ≡ unread_pieces (drop (k + 1) ps) 0
piece_passed ps k start p inside read all =
    let next : suc k ≡ k + 1 = omega arith in
    subst (λ l. unread_pieces l start ≡ unread_pieces (drop (k + 1) ps) 0) (sym (split_at_piece ps k p inside read))
    (subst (λ n. unread_pieces (p ∷ drop (suc k) ps) start ≡ unread_pieces (drop n ps) 0) next (passed_first p (drop (suc k) ps) start all))

some_some : (pieces : List (List ℕ)) → some_of (some_of pieces) ≡ some_of pieces
some_some [] = refl
some_some ([] ∷ pieces) = some_some pieces
some_some ((x ∷ xs) ∷ pieces) = ap (λ l. (x ∷ xs) ∷ l) (some_some pieces)

some_behind : (xs : List ℕ) (pieces : List (List ℕ)) → some_of (xs ∷ pieces) ≡ some_of (xs ∷ some_of pieces)
some_behind [] pieces = sym (some_some pieces)
some_behind (x ∷ xs) pieces = ap (λ l. (x ∷ xs) ∷ l) (sym (some_some pieces))

some_first : (xs : List ℕ) (pieces : List (List ℕ)) → 0 < length xs → some_of (xs ∷ pieces) ≡ xs ∷ some_of pieces
some_first [] pieces some = absurd (omega arith)
some_first (x ∷ xs) pieces some = refl

-- a read of a piece that is not read to its end
one_given : (p : Vec ℕ Global) (ps : List (Vec ℕ Global)) (start count place : ℕ) → 0 < length (drop start p.items)
    → count ≡ min (length (drop start p.items)) place
    → GivesOne (unread_pieces (p ∷ ps) start) (unread_pieces (p ∷ ps) (start + count)) place count
one_given p ps start count place some is =
    let others = map (λ p. p.items) ps in
    let now : unread_pieces (p ∷ ps) (start + count) ≡ some_of (drop count (drop start p.items) ∷ some_of others) =
    ap (λ xs. some_of (xs ∷ others)) (sym (drop-drop count start p.items)) ∙ some_behind (drop count (drop start p.items)) others in
    subst (λ before. GivesOne before (unread_pieces (p ∷ ps) (start + count)) place count) (sym (some_first (drop start p.items) others some)) (is, now)

pub piece_given : (ps : List (Vec ℕ Global)) (k start count place : ℕ) (p : Vec ℕ Global) → k < length ps → p ≡ get_or ps k p → 0 < length (drop start p.items)
    → count ≡ min (length (drop start p.items)) place
    → GivesOne (unread_pieces (drop k ps) start) (unread_pieces (drop k ps) (start + count)) place count
piece_given ps k start count place p inside read some is =
    subst (λ l. GivesOne (unread_pieces l start) (unread_pieces l (start + count)) place count) (sym (split_at_piece ps k p inside read))
    (one_given p (drop (suc k) ps) start count place some is)
