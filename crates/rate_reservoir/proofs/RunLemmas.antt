-- One frame more: its runs, and the most that one has beyond its frames' bytes.
use Rattle.std.proofs.Common.{◌≡◌, ℕ, zero, suc, ◌+◌, ◌-◌, ◌*◌, ◌<◌, ◌≤◌, Bool, true, false, true≢false, sym, subst, inl, inr, arith, refl, ap, ◌∙◌, List, [], ◌∷◌, ◌++◌, length}
use Rattle.std.specs.Prelude.{take, drop, sum, Option, None, Some, is_some, not}
use Rattle.std.proofs.lemmas.Bool.{cases_lt}
use Rattle.std.proofs.lemmas.List.{drop-append-le, take-append-le, take_all, length-append, length-drop}
use Rattle.std.proofs.Math.ListN.{drop_of_length-le}
use Rattle.std.proofs.lemmas.List.Sums.{sum_by_push}
use Rattle.rate_reservoir.specs.Runs.{EndsLongRun, IsBrokenAt, IsMostExcess}

pub length-more : (xs : List ℕ) (x : ℕ) → length (xs ++ x ∷ []) ≡ length xs + 1
length-more xs x = length-append xs (x ∷ [])

-- the run from a place on, with one frame more
tail_more : (xs : List ℕ) (x start : ℕ) → start ≤ length xs → sum (drop start (xs ++ x ∷ [])) ≡ sum (drop start xs) + x
tail_more xs x start h = ap sum (drop-append-le start xs (x ∷ []) h) ∙ sum_by_push (λ y. y) (drop start xs) x

tail_none : (xs : List ℕ) (start : ℕ) → length xs ≤ start → sum (drop start xs) ≡ 0
tail_none xs start h = ap sum (drop_of_length-le xs h)

-- a run inside stays
run_same : (xs : List ℕ) (x start m : ℕ) → start + m ≤ length xs → sum (take m (drop start (xs ++ x ∷ []))) ≡ sum (take m (drop start xs))
run_same xs x start m h =
    let long = length-drop start xs in
    ap (λ ys. sum (take m ys)) (drop-append-le start xs (x ∷ []) (omega arith)) ∙ ap sum (take-append-le m (drop start xs) (x ∷ []) (omega arith))

-- a run to the end is all from its start on
run_end : (xs : List ℕ) (start m : ℕ) → start + m ≡ length xs → sum (take m (drop start xs)) ≡ sum (drop start xs)
run_end xs start m h = let long = length-drop start xs in ap sum (take_all m (drop start xs) (omega arith))

pub ends_more : (bytes most : ℕ) (xs : List ℕ) (x f : ℕ) → EndsLongRun bytes most xs f → EndsLongRun bytes most (xs ++ x ∷ []) f
ends_more bytes most xs x f e =
    let long = length-more xs x in
    let inside = e.within in
    record {
      start = e.start;
      m = e.m;
      ends = e.ends;
      within = omega arith;
      exceeds = subst (λ n. e.m * bytes + most < n) (sym (run_same xs x e.start e.m e.within)) e.exceeds;
    }

ends_less : (bytes most : ℕ) (xs : List ℕ) (x f : ℕ) → f < length xs → EndsLongRun bytes most (xs ++ x ∷ []) f → EndsLongRun bytes most xs f
ends_less bytes most xs x f h e =
    let ends = e.ends in
    let inside : e.start + e.m ≤ length xs = omega arith in
    record {
      start = e.start;
      m = e.m;
      ends = e.ends;
      within = inside;
      exceeds = subst (λ n. e.m * bytes + most < n) (run_same xs x e.start e.m inside) e.exceeds;
    }

-- The last frame ends a run with too much where the most excess is too much.
ends_last : (bytes most : ℕ) (xs : List ℕ) (f excess : ℕ) → f + 1 ≡ length xs → IsMostExcess bytes xs excess → most < excess → EndsLongRun bytes most xs f
ends_last bytes most xs f excess h g l =
    let ends = g.ends in
    let reached = g.reached in
    let same = run_end xs g.start g.m g.ends in
    record {
      start = g.start;
      m = g.m;
      ends = omega arith;
      within = omega arith;
      exceeds = omega arith;
    }

none_last : (bytes most : ℕ) (xs : List ℕ) (f excess : ℕ) → f + 1 ≡ length xs → IsMostExcess bytes xs excess → excess ≤ most → EndsLongRun bytes most xs f → ⊥
none_last bytes most xs f excess h g l e =
    let ends = e.ends in
    let to_end : e.start + e.m ≡ length xs = omega arith in
    let bound = g.bound e.start e.m to_end in
    let same = run_end xs e.start e.m to_end in
    let exceeds = e.exceeds in
    omega arith

ends_below : (bytes most : ℕ) (xs : List ℕ) (f : ℕ) → EndsLongRun bytes most xs f → f < length xs
ends_below bytes most xs f e = let ends = e.ends in let inside = e.within in omega arith

-- the most excess of one frame more
pub excess_start : (bytes : ℕ) → IsMostExcess bytes [] 0
excess_start bytes = record {
  bound = λ start m h. let none = tail_none [] start (omega arith) in omega arith;
  start = 0;
  m = 0;
  ends = refl;
  reached = omega arith;
}

pub excess_more : (bytes : ℕ) (xs : List ℕ) (x excess : ℕ) → IsMostExcess bytes xs excess → IsMostExcess bytes (xs ++ x ∷ []) (excess + x - bytes)
excess_more bytes xs x excess g = elim (cases_lt bytes (excess + x)) [
  | inl above ↦
      let long = length-more xs x in
      let ends = g.ends in
      let reached = g.reached in
      let tail = tail_more xs x g.start (omega arith) in
      record {
        bound = bound;
        start = g.start;
        m = g.m + 1;
        ends = omega arith;
        reached = omega arith;
      }
  | inr below ↦
      let long = length-more xs x in
      let none = tail_none (xs ++ x ∷ []) (length xs + 1) (omega arith) in
      record {
        bound = bound;
        start = length xs + 1;
        m = 0;
        ends = omega arith;
        reached = omega arith;
      }
]
  where
    bound : (start m : ℕ) → start + m ≡ length (xs ++ x ∷ []) → sum (drop start (xs ++ x ∷ [])) ≤ m * bytes + (excess + x - bytes)
    bound start zero h = let none = tail_none (xs ++ x ∷ []) start (omega arith) in omega arith
    bound start (suc m) h =
        let long = length-more xs x in
        let inside : start + m ≡ length xs = omega arith in
        let old = g.bound start m inside in
        let tail = tail_more xs x start (omega arith) in
        omega arith

-- whether it is broken, with one frame more
pub broken_start : (bytes most : ℕ) → IsBrokenAt bytes most [] None
broken_start bytes most f e = let b = ends_below bytes most [] f e in absurd (omega arith)

pub broken_kept : (bytes most : ℕ) (xs : List ℕ) (x excess : ℕ) → IsBrokenAt bytes most xs None → IsMostExcess bytes (xs ++ x ∷ []) excess → excess ≤ most → IsBrokenAt bytes most (xs ++ x ∷ []) None
broken_kept bytes most xs x excess old g l f e =
    let long = length-more xs x in
    let below = ends_below bytes most (xs ++ x ∷ []) f e in
    elim (cases_lt f (length xs)) [
      | inl less ↦ old f (ends_less bytes most xs x f less e)
      | inr last ↦ none_last bytes most (xs ++ x ∷ []) f excess (omega arith) g l e
    ]

pub broken_now : (bytes most : ℕ) (xs : List ℕ) (x excess : ℕ) → IsBrokenAt bytes most xs None → IsMostExcess bytes (xs ++ x ∷ []) excess → most < excess → IsBrokenAt bytes most (xs ++ x ∷ []) (Some (length xs))
broken_now bytes most xs x excess old g l =
    let long = length-more xs x in
    (ends_last bytes most (xs ++ x ∷ []) (length xs) excess (sym long) g l, first)
  where
    first : (f : ℕ) → EndsLongRun bytes most (xs ++ x ∷ []) f → length xs ≤ f
    first f e = elim (cases_lt f (length xs)) [
      | inl less ↦ absurd (old f (ends_less bytes most xs x f less e))
      | inr last ↦ omega arith
    ]

pub broken_before : (bytes most : ℕ) (xs : List ℕ) (x f : ℕ) → IsBrokenAt bytes most xs (Some f) → IsBrokenAt bytes most (xs ++ x ∷ []) (Some f)
broken_before bytes most xs x f old = (ends_more bytes most xs x f old.0, first)
  where
    inside : f < length xs
    inside = ends_below bytes most xs f old.0

    first : (h : ℕ) → EndsLongRun bytes most (xs ++ x ∷ []) h → f ≤ h
    first h e = elim (cases_lt h (length xs)) [
      | inl less ↦ old.1 h (ends_less bytes most xs x h less e)
      | inr last ↦ omega (arith, inside)
    ]

pub broken_once : (bytes most : ℕ) (lengths : List ℕ) (one other : Option ℕ) → IsBrokenAt bytes most lengths one → IsBrokenAt bytes most lengths other → one ≡ other
broken_once bytes most lengths None None a b = refl
broken_once bytes most lengths None (Some g) a b = absurd (a g b.0)
broken_once bytes most lengths (Some f) None a b = absurd (b f a.0)
broken_once bytes most lengths (Some f) (Some g) a b = let l = a.1 g b.0 in let m = b.1 f a.0 in let same : f ≡ g = omega arith in ap Some same

-- tests of an option, as the code makes them
pub none_of : (o : Option ℕ) (b : Bool) → is_some o ≡ not b → b ≡ true → o ≡ None
none_of None b e f = refl
none_of (Some x) b e f = absurd (true≢false (e ∙ ap not f))

pub some_of : (o : Option ℕ) (b : Bool) → is_some o ≡ not b → b ≡ false → (f : ℕ) × (o ≡ Some f)
some_of None b e f = absurd (true≢false (sym (e ∙ ap not f)))
some_of (Some x) b e f = (x, refl)

-- the excess that the code keeps
pub excess_next : (bytes : ℕ) (xs : List ℕ) (x old own excess : ℕ) → own ≡ bytes → excess ≡ old + x - own → IsMostExcess bytes xs old → IsMostExcess bytes (xs ++ x ∷ []) excess
excess_next bytes xs x old own excess f h g =
    let same : old + x - bytes ≡ excess = omega arith in
    subst (IsMostExcess bytes (xs ++ x ∷ [])) same (excess_more bytes xs x old g)
