-- One page more, and the page before.
use Rattle.std.proofs.Common.{◌≡◌, ℕ, zero, suc, ◌+◌, ◌<◌, Bool, true, false, cond, sym, arith, refl, ap, ◌∙◌, List, [], ◌∷◌, ◌++◌, length, get_or}
use Rattle.std.specs.Prelude.{take, sum_by}
use Rattle.std.proofs.lemmas.List.{take_more, take_all, length-append}
use Rattle.std.proofs.lemmas.List.Sums.{sum_by_push, sum_by-take-le}
use Rattle.std.proofs.Math.Seq.{take-take}
use mir.Val.{bool_byte}
use Rattle.link_chain.specs.Pages.{NotedPage, is_last, starts_link, link_behind}
use Rattle.link_chain.specs.Places.{place_behind}
use Rattle.link_chain.specs.declared.chain.LinkPlace.{LinkPlace}

pub starts_none : starts_link [] ≡ true
unfolding starts_link
starts_none = refl

pub starts_more : (pages : List NotedPage) (page : NotedPage) → starts_link (pages ++ page ∷ []) ≡ is_last page
unfolding starts_link
starts_more [] page = refl
starts_more (p ∷ []) page = refl
starts_more (p ∷ q ∷ pages) page = starts_more (q ∷ pages) page

-- a Bool as a number
counted : (b : Bool) → bool_byte b ≡ cond b 1 0
counted true = refl
counted false = refl

link_more : (pages : List NotedPage) (page : NotedPage) → link_behind (pages ++ page ∷ []) ≡ link_behind pages + cond (is_last page) 1 0
link_more pages page = sum_by_push (λ p. cond (is_last p) 1 0) pages page

-- the place behind one page more, as the code makes it
pub place_more : (pages : List NotedPage) (page : NotedPage) (before : LinkPlace) (ends : ℕ) (last : Bool) → before ≡ place_behind pages → last ≡ is_last page → ends ≡ bool_byte last → ◌≡◌ {A = LinkPlace} record { link = before.link + ends; page = before.page + 1; packet = before.packet + page.packets } (place_behind (pages ++ page ∷ []))
place_more pages page before ends last e is counts =
    let ended : ends ≡ cond (is_last page) 1 0 = counts ∙ counted last ∙ ap (λ b. cond b 1 0) is in
    let link : before.link + ends ≡ link_behind (pages ++ page ∷ []) = ap (λ (p : LinkPlace). p.link + ends) e ∙ ap (λ n. link_behind pages + n) ended ∙ sym (link_more pages page) in
    let number : before.page + 1 ≡ length (pages ++ page ∷ []) = ap (λ (p : LinkPlace). p.page + 1) e ∙ sym (length-append pages (page ∷ [])) in
    let packet : before.packet + page.packets ≡ sum_by (λ p. p.packets) (pages ++ page ∷ []) = ap (λ (p : LinkPlace). p.packet + page.packets) e ∙ sym (sum_by_push (λ p. p.packets) pages page) in
    ap (λ n. record { link = n; page = before.page + 1; packet = before.packet + page.packets }) link
    ∙ ap (λ n. record { link = link_behind (pages ++ page ∷ []); page = n; packet = before.packet + page.packets }) number
    ∙ ap (λ n. record { link = link_behind (pages ++ page ∷ []); page = length (pages ++ page ∷ []); packet = n }) packet

-- a list of n + 1 pages is its first n and the last
no_page : NotedPage
no_page = record { flags = 0; packets = 0 }

split_last : (pages : List NotedPage) (n : ℕ) → length pages ≡ n + 1 → pages ≡ take n pages ++ get_or pages n no_page ∷ []
split_last pages n h = sym (take_all (n + 1) pages (omega arith)) ∙ take_more pages n no_page (omega arith)

-- the link behind them is one more than that behind the first n where a link begins, else the same
last_page : (pages : List NotedPage) (n : ℕ) (b : Bool) → length pages ≡ n + 1 → starts_link pages ≡ b → link_behind pages ≡ link_behind (take n pages) + cond b 1 0
last_page pages n b h s =
    let last = get_or pages n no_page in
    let split = split_last pages n h in
    let tested : is_last last ≡ b = sym (starts_more (take n pages) last) ∙ ap starts_link (sym split) ∙ s in
    ap link_behind split ∙ link_more (take n pages) last ∙ ap (λ t. link_behind (take n pages) + cond t 1 0) tested

pub inside : (pages : List NotedPage) (n : ℕ) → starts_link pages ≡ false → length pages ≡ n + 1 → link_behind (take n pages) ≡ link_behind pages
inside pages n s h = let e = last_page pages n false h s in omega arith

pub first : (pages : List NotedPage) (i : ℕ) → starts_link pages ≡ true → i < length pages → link_behind (take i pages) < link_behind pages
first pages i s h = by (length pages) refl
  where
    by : (len : ℕ) → length pages ≡ len → link_behind (take i pages) < link_behind pages
    by zero e = absurd (omega (arith, h))
    by (suc n) e =
        let whole = last_page pages n true (omega arith) s in
        let front = sum_by-take-le (λ p. cond (is_last p) 1 0) (take n pages) i in
        let same = ap link_behind (take-take i n pages (omega (arith, h))) in
        omega arith
