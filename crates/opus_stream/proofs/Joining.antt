-- Packets over one page more.
use Rattle.std.proofs.Common.{◌≡◌, ℕ, suc, ◌+◌, ◌-◌, ◌≤◌, true, false, List, [], ◌∷◌, ◌++◌, length, take, drop, sum, get_or, refl, sym, ◌∙◌, ap, arith, append-nil, length-append, length-drop, drop-drop, ◌⊎◌, inl, inr}
use Rattle.std.specs.Prelude.{◌==◌, ◌||◌, slice_index}
use Rattle.std.specs.List.{list_any}
use Rattle.std.proofs.lemmas.Bool.{cases_Bool}
use Rattle.std.proofs.lemmas.List.{take-append-le, drop-append-le}
use Rattle.std.proofs.lemmas.List.Sums.{sum_by-cons, sum_by-append}
use Rattle.std.proofs.lemmas.List.Concat.{flat_map-append}
use Rattle.std.proofs.lemmas.List.Folds.{list_any-append}
use Rattle.opus_packets.specs.Cut.{parts}
use Rattle.ogg_pages.specs.Fields.{Page}
use Rattle.opus_stream.specs.Packets.{ends, lengths_from, lacing_in, body_in, packets_in, open_in, is_open}
use Rattle.opus_stream.specs.Pages.{open_after}
use Rattle.opus_stream.specs.Tallies.{packets_on, open_behind}
use Rattle.opus_stream.proofs.Tallying.{lengths-longer, lengths-ended, lengths-none}

pub sum-cons : (x : ℕ) (xs : List ℕ) → sum (x ∷ xs) ≡ x + sum xs
sum-cons x xs = sum_by-cons (λ n. n) x xs

pub sum-append : (xs ys : List ℕ) → sum (xs ++ ys) ≡ sum xs + sum ys
sum-append xs ys = sum_by-append (λ n. n) xs ys

-- ---- parts

pub parts-append : (ns ms xs : List ℕ) → parts (ns ++ ms) xs ≡ parts ns xs ++ parts ms (drop (sum ns) xs)
parts-append [] ms xs = refl
parts-append (n ∷ ns) ms xs =
    let behind : drop (sum ns) (drop n xs) ≡ drop (sum (n ∷ ns)) xs = drop-drop (sum ns) n xs ∙ ap (λ k. drop k xs) (sym (sum-cons n ns)) in
    ap (λ l. take n xs ∷ l) (parts-append ns ms (drop n xs) ∙ ap (λ l. parts ns (drop n xs) ++ parts ms l) behind)

pub parts-front : (ns xs ys : List ℕ) → sum ns ≤ length xs → parts ns (xs ++ ys) ≡ parts ns xs
parts-front [] xs ys h = refl
parts-front (n ∷ ns) xs ys h =
    let s = sum-cons n ns in
    let first : take n (xs ++ ys) ≡ take n xs = take-append-le n xs ys (omega arith) in
    let behind : drop n (xs ++ ys) ≡ drop n xs ++ ys = drop-append-le n xs ys (omega arith) in
    let rest : parts ns (drop n (xs ++ ys)) ≡ parts ns (drop n xs) = ap (parts ns) behind ∙ parts-front ns (drop n xs) ys (simp length-drop (omega arith)) in
    ap (λ l. l ∷ parts ns (drop n (xs ++ ys))) first ∙ ap (λ l. take n xs ∷ l) rest

pub length-parts : (ns xs : List ℕ) → length (parts ns xs) ≡ length ns
length-parts [] xs = refl
length-parts (n ∷ ns) xs = ap suc (length-parts ns (drop n xs))

-- ---- lengths

pub lengths-sum : (before : ℕ) (xs : List ℕ) → sum (lengths_from before xs) ≤ before + sum xs
lengths-sum before [] = let n = ap sum (lengths-none before) in omega arith
lengths-sum before (x ∷ xs) = by_test (cases_Bool (ends x)) (lengths-sum 0 xs) (lengths-sum (before + x) xs) where
  by_test : (ends x ≡ true) ⊎ (ends x ≡ false) → sum (lengths_from 0 xs) ≤ 0 + sum xs → sum (lengths_from (before + x) xs) ≤ (before + x) + sum xs
      → sum (lengths_from before (x ∷ xs)) ≤ before + sum (x ∷ xs)
  by_test (inl e) again longer =
      let s : sum (lengths_from before (x ∷ xs)) ≡ (before + x) + sum (lengths_from 0 xs) = ap sum (lengths-ended before x xs e) ∙ sum-cons (before + x) (lengths_from 0 xs) in
      let t = sum-cons x xs in
      omega arith
  by_test (inr e) again longer =
      let s : sum (lengths_from before (x ∷ xs)) ≡ sum (lengths_from (before + x) xs) = ap sum (lengths-longer before x xs e) in
      let t = sum-cons x xs in
      omega arith

-- no more lengths than values
pub lengths-few : (before : ℕ) (xs : List ℕ) → length (lengths_from before xs) ≤ length xs
lengths-few before [] = let n = ap length (lengths-none before) in omega arith
lengths-few before (x ∷ xs) = by_test (cases_Bool (ends x)) (lengths-few 0 xs) (lengths-few (before + x) xs) where
  by_test : (ends x ≡ true) ⊎ (ends x ≡ false) → length (lengths_from 0 xs) ≤ length xs → length (lengths_from (before + x) xs) ≤ length xs → length (lengths_from before (x ∷ xs)) ≤ length (x ∷ xs)
  by_test (inl e) again longer = let s = ap length (lengths-ended before x xs e) in omega arith
  by_test (inr e) again longer = let s = ap length (lengths-longer before x xs e) in omega arith

-- what is carried over the values before the others
pub lengths-append : (before carried : ℕ) (xs ys : List ℕ) → before + sum xs ≡ sum (lengths_from before xs) + carried
    → lengths_from before (xs ++ ys) ≡ lengths_from before xs ++ lengths_from carried ys
lengths-append before carried [] ys h =
    let n = lengths-none before in
    let s = ap sum n in
    let same : before ≡ carried = omega arith in
    ap (λ k. lengths_from k ys) same ∙ ap (λ l. l ++ lengths_from carried ys) (sym n)
lengths-append before carried (x ∷ xs) ys h = by_test (cases_Bool (ends x)) (lengths-append 0 carried xs ys) (lengths-append (before + x) carried xs ys) where
  by_test : (ends x ≡ true) ⊎ (ends x ≡ false)
      → (0 + sum xs ≡ sum (lengths_from 0 xs) + carried → lengths_from 0 (xs ++ ys) ≡ lengths_from 0 xs ++ lengths_from carried ys)
      → ((before + x) + sum xs ≡ sum (lengths_from (before + x) xs) + carried → lengths_from (before + x) (xs ++ ys) ≡ lengths_from (before + x) xs ++ lengths_from carried ys)
      → lengths_from before (x ∷ (xs ++ ys)) ≡ lengths_from before (x ∷ xs) ++ lengths_from carried ys
  by_test (inl e) again longer =
      let s : sum (lengths_from before (x ∷ xs)) ≡ (before + x) + sum (lengths_from 0 xs) = ap sum (lengths-ended before x xs e) ∙ sum-cons (before + x) (lengths_from 0 xs) in
      let t = sum-cons x xs in
      lengths-ended before x (xs ++ ys) e ∙ ap (λ l. (before + x) ∷ l) (again (omega arith)) ∙ ap (λ l. l ++ lengths_from carried ys) (sym (lengths-ended before x xs e))
  by_test (inr e) again longer =
      let s : sum (lengths_from before (x ∷ xs)) ≡ sum (lengths_from (before + x) xs) = ap sum (lengths-longer before x xs e) in
      let t = sum-cons x xs in
      lengths-longer before x (xs ++ ys) e ∙ longer (omega arith) ∙ ap (λ l. l ++ lengths_from carried ys) (sym (lengths-longer before x xs e))

-- where no value ends a packet, there is no length
pub lengths-open : (before : ℕ) (xs : List ℕ) → list_any ends xs ≡ false → lengths_from before xs ≡ []
lengths-open before [] h = lengths-none before
lengths-open before (x ∷ xs) h = by_test (cases_Bool (ends x)) (list_any-append ends (x ∷ []) xs) (lengths-open (before + x) xs) where
  by_test : (ends x ≡ true) ⊎ (ends x ≡ false) → list_any ends (x ∷ xs) ≡ (list_any ends (x ∷ []) || list_any ends xs)
      → (list_any ends xs ≡ false → lengths_from (before + x) xs ≡ []) → lengths_from before (x ∷ xs) ≡ []
  by_test (inl e) split again = let f : ⊥ = cc in absurd f
  by_test (inr e) split again = lengths-longer before x xs e ∙ again (grind arith)

-- ---- pages

pub lacing-next : (before : List Page) (page : Page) → lacing_in (before ++ page ∷ []) ≡ lacing_in before ++ page.lacing
lacing-next before page = flat_map-append (λ (p : Page). p.lacing) before (page ∷ []) ∙ ap (λ l. lacing_in before ++ l) (append-nil page.lacing)

pub body-next : (before : List Page) (page : Page) → body_in (before ++ page ∷ []) ≡ body_in before ++ page.body
body-next before page = flat_map-append (λ (p : Page). p.body) before (page ∷ []) ∙ ap (λ l. body_in before ++ l) (append-nil page.body)

last-append : (xs : List ℕ) (y : ℕ) (ys : List ℕ) → get_or (xs ++ (y ∷ ys)) (length (xs ++ (y ∷ ys)) - 1) 0 ≡ get_or (y ∷ ys) (length (y ∷ ys) - 1) 0
last-append [] y ys = refl
last-append (x ∷ xs) y ys =
    let zs = xs ++ (y ∷ ys) in
    let some : length zs ≡ length xs + length (y ∷ ys) = length-append xs (y ∷ ys) in
    let place : length (x ∷ zs) - 1 ≡ suc (length zs - 1) = omega arith in
    ap (λ k. get_or (x ∷ zs) k 0) place ∙ last-append xs y ys

open-append : (xs ys : List ℕ) → (slice_index (xs ++ ys) (length (xs ++ ys) - 1) == 255) ≡ open_after (slice_index xs (length xs - 1) == 255) ys
open-append xs [] = ap (λ l. slice_index l (length l - 1) == 255) (append-nil xs)
open-append xs (y ∷ ys) = ap (λ v. v == 255) (last-append xs y ys)

pub open-next : (before : List Page) (page : Page) → is_open (before ++ page ∷ []) ≡ open_after (is_open before) page.lacing
unfolding is_open
open-next before page = ap (λ l. slice_index l (length l - 1) == 255) (lacing-next before page) ∙ open-append (lacing_in before) page.lacing

-- ---- the packets that end on one page more

pub record Joins (before : List Page) (page : Page) : Type 0 where
  pub packets : packets_in (before ++ page ∷ []) ≡ packets_in before ++ packets_on page.lacing (open_in before ++ page.body) (length (open_in before))
  pub left : open_in (before ++ page ∷ []) ≡ open_behind page.lacing (open_in before ++ page.body) (length (open_in before))
  pub full : length (body_in (before ++ page ∷ [])) ≡ sum (lacing_in (before ++ page ∷ []))

pub joins : (before : List Page) (page : Page) → length (body_in before) ≡ sum (lacing_in before) → length page.body ≡ sum page.lacing → Joins before page
unfolding packets_in open_in
joins before page full whole =
    let lacing = lacing_in before in
    let body = body_in before in
    let lens = lengths_from 0 lacing in
    let carried = length (drop (sum lens) body) in
    let carried_is : carried ≡ length body - sum lens = length-drop (sum lens) body in
    let within : sum lens ≤ 0 + sum lacing = lengths-sum 0 lacing in
    let more = lengths_from carried page.lacing in
    let lens_next : lengths_from 0 (lacing_in (before ++ page ∷ [])) ≡ lens ++ more =
    ap (lengths_from 0) (lacing-next before page) ∙ lengths-append 0 carried lacing page.lacing (omega arith) in
    let inside : sum lens ≤ length body = omega arith in
    let behind : drop (sum lens) (body ++ page.body) ≡ drop (sum lens) body ++ page.body = drop-append-le (sum lens) body page.body inside in
    let body_is = body-next before page in
    record {
      packets = ap (λ l. parts l (body_in (before ++ page ∷ []))) lens_next ∙ ap (parts (lens ++ more)) body_is ∙ parts-append lens more (body ++ page.body)
          ∙ ap (λ l. l ++ parts more (drop (sum lens) (body ++ page.body))) (parts-front lens body page.body inside)
          ∙ ap (λ l. parts lens body ++ parts more l) behind;
      left = ap (λ l. drop (sum l) (body_in (before ++ page ∷ []))) lens_next ∙ ap (drop (sum (lens ++ more))) body_is
          ∙ ap (λ n. drop n (body ++ page.body)) (sum-append lens more) ∙ sym (drop-drop (sum more) (sum lens) (body ++ page.body))
          ∙ ap (drop (sum more)) behind;
      full = let a : length (body_in (before ++ page ∷ [])) ≡ length body + length page.body = ap length body_is ∙ length-append body page.body in
          let b : sum (lacing_in (before ++ page ∷ [])) ≡ sum lacing + sum page.lacing = ap sum (lacing-next before page) ∙ sum-append lacing page.lacing in
          omega arith;
    }
