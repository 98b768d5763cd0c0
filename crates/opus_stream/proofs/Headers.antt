-- The pages of the two headers.
use Rattle.std.proofs.Common.{◌≡◌, ℕ, zero, suc, ◌-◌, ◌≤◌, Bool, true, false, not, List, [], ◌∷◌, ◌++◌, length, take, drop, min, refl, sym, ◌∙◌, ap, subst, arith, length-take, nat_le, nat_lt, ◌⊎◌, inl, inr, Some, None, Ok}
use Rattle.std.specs.Prelude.{◌&&◌, ◌||◌, codes, if◌then◌else◌}
use Rattle.std.specs.Cmp.Lexicographic.{same_text}
use Rattle.std.proofs.lemmas.Bool.{cases_Bool, le-leb, le-ltb}
use Rattle.std.proofs.lemmas.List.Folds.{list_any-append}
use Rattle.celt_base.specs.declared.status.Fault.{Fault}
use Rattle.celt_base.specs.declared.status.FaultName.TheVariants.{BadTags}
use Rattle.opus_packets.specs.declared.header.Head.{Head}
use Rattle.opus_packets.specs.Header.{head_of}
use Rattle.ogg_pages.specs.Fields.{Page}
use Rattle.opus_stream.specs.declared.progress.Audio.{Audio}
use Rattle.opus_stream.specs.declared.progress.Progress.{Progress}
use Rattle.opus_stream.specs.Rooms.{Kept}
use Rattle.opus_stream.specs.Packets.{lengths_from, packets_in, open_in, body_in, ends_packet, holds_packet}
use Rattle.opus_stream.specs.Audio.{fault_at}
use Rattle.opus_stream.specs.Granules.{is_last, samples_on, end_granule, given_on, span, span_on}
use Rattle.opus_stream.specs.Tests.{has_tags, behind_tags, is_tags, tags_go_on, head_fault, form_fault, page_fault}
use Rattle.opus_stream.specs.Acceptance.{before_last, page_size, ok_head, head_in, preskip_of, audio_in, audio_packets, last_packets, last_span}
use Rattle.opus_stream.specs.Pages.{is_letters}
use Rattle.opus_stream.specs.Progressing.{order_by, IsNext, IsPlaced, IsBase, IsHeard, IsCommented, IsRead, StandsAfter}
use Rattle.opus_stream.specs.Accepted.{left_in, Gives}
use Rattle.opus_stream.proofs.Joining.{body-next}
use Rattle.opus_stream.proofs.Placing.{any-next, placed_next, fault_ordered}

-- ---- what pages without audio give

none_packets : packets_in [] ≡ []
unfolding packets_in lengths_from
none_packets = refl

none_open : open_in [] ≡ []
unfolding open_in lengths_from
none_open = refl

none_given : given_on [] ≡ 0
unfolding given_on end_granule packets_in lengths_from
none_given = refl

drop-none : {A : Type 0} (n : ℕ) → drop {A = A} n [] ≡ []
drop-none zero = refl
drop-none (suc n) = refl

pub nothing : (before room_left : ℕ) (room : Kept) (page : Page) (pages : List Page) → audio_in pages ≡ []
    → Gives (record { packets = 0; before = 0; written = record { from = 0; to = 0 } }) room page pages
unfolding last_packets last_span span_on
nothing before room_left room page pages none =
    let packets : last_packets pages ≡ [] = ap (λ l. drop (length (audio_packets (before_last pages))) (packets_in l)) none
    ∙ ap (drop (length (audio_packets (before_last pages)))) none_packets ∙ drop-none (length (audio_packets (before_last pages))) in
    record {
      packets = (ap length (sym packets), inl refl);
      span = sym (ap (λ l. span (preskip_of (head_in pages) - samples_on (audio_in (before_last pages))) (given_on l - samples_on (audio_in (before_last pages)))) none
          ∙ ap (λ n. span (preskip_of (head_in pages) - samples_on (audio_in (before_last pages))) (n - samples_on (audio_in (before_last pages)))) none_given
          ∙ empty (preskip_of (head_in pages) - samples_on (audio_in (before_last pages))) (samples_on (audio_in (before_last pages))));
    }
  where
    empty : (from n : ℕ) → span from (0 - n) ≡ record { from = 0; to = 0 }
    empty from n = let e : 0 - n ≡ 0 = omega arith in let t : nat_lt from 0 ≡ false = le-ltb from 0 (omega arith) in rw (e, t) refl

-- ---- page 0

none_before : (p : Progress) (left : List ℕ) (before : List Page) → StandsAfter p left before → p.pages ≡ 0 → before ≡ []
none_before p left [] stands none = refl
none_before p left (page ∷ pages) stands none = let n = stands.placed.pages in absurd (omega arith)

first_form : (page : Page) → form_fault [] page ≡ head_fault page
unfolding form_fault
first_form page = refl

first_head : (page : Page) (head : Head) → head_of page.body ≡ Ok head → Some head ≡ head_in (page ∷ [])
unfolding head_in
first_head page head h = sym (ap ok_head h)

first_audio : (page : Page) → audio_in (page ∷ []) ≡ []
unfolding behind_tags
first_audio page = refl

pub begin_refused : (p : Progress) (left : List ℕ) (page : Page) (fault : Fault) (before : List Page) → StandsAfter p left before → p.pages ≡ 0 → p.is_ended ≡ false
    → order_by p page ≡ None → head_fault page ≡ Some fault → page_fault before page ≡ Some fault
begin_refused p left page fault before stands none going ordered h =
    let e = none_before p left before stands none in
    let placed = subst (IsPlaced p) e stands.placed in
    subst (λ l. page_fault l page ≡ Some fault) (sym e) (fault_ordered p [] page placed going ordered ∙ first_form page ∙ h)

pub begin_passed : (p next : Progress) (room : Kept) (size : ℕ) (page : Page) (head : Head) (before : List Page) → StandsAfter p (left_in room) before → p.pages ≡ 0 → p.is_ended ≡ false
    → order_by p page ≡ None → size ≡ page_size page → head_fault page ≡ None → head_of page.body ≡ Ok head → IsNext p page size (Some head) false p.audio next
    → (page_fault before page ≡ None) × StandsAfter next (left_in room) (before ++ page ∷ [])
    × Gives (record { packets = 0; before = 0; written = record { from = 0; to = 0 } }) room page (before ++ page ∷ [])
begin_passed p next room size page head before stands none going ordered size_is sound head_is is =
    let left = left_in room in
    let e = none_before p left before stands none in
    let s = subst (StandsAfter p left) e stands in
    let read : IsCommented p.audio left [] = s.read in
    subst (λ l. (page_fault l page ≡ None) × StandsAfter next left (l ++ page ∷ []) × Gives (record { packets = 0; before = 0; written = record { from = 0; to = 0 } }) room page (l ++ page ∷ [])) (sym e) (
      fault_ordered p [] page s.placed going ordered ∙ first_form page ∙ sound,
      record {
        placed = placed_next p next [] page size (Some head) false p.audio s.placed ordered going size_is is (first_head page head head_is) refl;
        read = subst (λ a. IsCommented a left []) (sym is.audio_is) read;
      },
      nothing 0 0 room page (page ∷ []) (first_audio page),
    )

-- ---- the comment header

take-plus : (n : ℕ) (xs ys : List ℕ) → take n (xs ++ ys) ≡ take n xs ++ take (n - length xs) ys
take-plus zero [] ys = let e : 0 ≡ 0 - length {A = ℕ} [] = omega arith in ap (λ k. take k ys) e
take-plus zero (x ∷ xs) ys = let e : 0 - length (x ∷ xs) ≡ 0 = omega arith in rw e refl
take-plus (suc n) [] ys = let e : suc n ≡ suc n - length {A = ℕ} [] = omega arith in ap (λ k. take k ys) e
take-plus (suc n) (x ∷ xs) ys = let e : suc n - length (x ∷ xs) ≡ n - length xs = omega arith in rw e (ap (λ l. x ∷ l) (take-plus n xs ys))

-- the first eight bytes of more
eight-more : (xs left body : List ℕ) → left ≡ take 8 xs → take 8 (xs ++ body) ≡ left ++ take (8 - length left) body
eight-more xs left body e =
    take-plus 8 xs body ∙ ap (λ l. l ++ take (8 - length xs) body) (sym e)
    ∙ ap (λ n. left ++ take n body) (let l : length left ≡ min 8 (length xs) = ap length e ∙ length-take 8 xs in omega arith)

letters_long : (xs : List ℕ) → is_letters (take 8 xs) ≡ true → 8 ≤ length xs
letters_long xs h =
    let same = same_text (codes "OpusTags") (take 8 xs) (sym h) in
    let l : 8 ≡ min 8 (length xs) = ap length same ∙ length-take 8 xs in
    omega arith

tags_same : (xs : List ℕ) → is_letters (take 8 xs) ≡ is_tags xs
tags_same xs = by_test (cases_Bool (is_letters (take 8 xs))) where
  by_test : (is_letters (take 8 xs) ≡ true) ⊎ (is_letters (take 8 xs) ≡ false) → is_letters (take 8 xs) ≡ is_tags xs
  by_test (inl e) = e ∙ sym (ap (λ t. nat_le 8 (length xs) && t) e ∙ ap (λ t. t && true) (le-leb 8 (length xs) (letters_long xs e)))
  by_test (inr e) = e ∙ sym (ap (λ t. nat_le 8 (length xs) && t) e ∙ no (nat_le 8 (length xs))) where
    no : (b : Bool) → (b && false) ≡ false
    no true = refl
    no false = refl

pub record Commenting (p : Progress) (left : List ℕ) (before : List Page) : Type 0 where
  pub head : Page
  pub rest : List Page
  pub is : before ≡ head ∷ rest
  pub placed : IsPlaced p (head ∷ rest)
  pub untagged : has_tags rest ≡ false
  pub read : IsCommented p.audio left rest

before_tags : (p : Progress) (left : List ℕ) (before : List Page) → StandsAfter p left before → 1 ≤ p.pages → p.is_tagged ≡ false → Commenting p left before
before_tags p left [] stands some tagged = let n = stands.placed.pages in absurd (omega arith)
before_tags p left (head ∷ rest) stands some tagged =
    let t : has_tags rest ≡ false = sym stands.placed.tagged ∙ tagged in
    record { head = head; rest = rest; is = refl; placed = stands.placed; untagged = t; read = subst (λ b. IsRead b p.audio left rest) t stands.read }

-- what the code tests of the page
abbrev pub goes_on : Page → Bool → List ℕ → Bool
goes_on page whole front = if whole then holds_packet page.lacing && is_letters front else not (is_last page)

goes_on_same : (rest : List Page) (page : Page) (left front : List ℕ) (whole : Bool) → left ≡ take 8 (body_in rest) → front ≡ left ++ take (8 - length left) page.body → whole ≡ ends_packet page
    → goes_on page whole front ≡ tags_go_on rest page
unfolding tags_go_on
goes_on_same rest page left front whole left_is front_is whole_is =
    let front_same : front ≡ take 8 (body_in rest ++ page.body) = front_is ∙ sym (eight-more (body_in rest) left page.body left_is) in
    ap (λ t. goes_on page t front) whole_is
    ∙ ap (λ t. if ends_packet page then holds_packet page.lacing && t else not (is_last page)) (ap is_letters front_same ∙ tags_same (body_in rest ++ page.body))

tags_form : (head : Page) (rest : List Page) (page : Page) → has_tags rest ≡ false
    → form_fault (head ∷ rest) page ≡ (if tags_go_on rest page then None else Some (fault_at BadTags (length (head ∷ rest))))
unfolding form_fault
tags_form head rest page t = rw t refl

pub comment_refused : (p : Progress) (left front : List ℕ) (whole : Bool) (page : Page) (before : List Page) → StandsAfter p left before → 1 ≤ p.pages → p.is_tagged ≡ false → p.is_ended ≡ false
    → order_by p page ≡ None → front ≡ left ++ take (8 - length left) page.body → whole ≡ ends_packet page → goes_on page whole front ≡ false
    → page_fault before page ≡ Some (fault_at BadTags p.pages)
comment_refused p left front whole page before stands some tagged going ordered front_is whole_is h =
    let b = before_tags p left before stands some tagged in
    let test = sym (goes_on_same b.rest page left front whole b.read.left_is front_is whole_is) ∙ h in
    subst (λ l. page_fault l page ≡ Some (fault_at BadTags p.pages)) (sym b.is)
    (fault_ordered p (b.head ∷ b.rest) page b.placed going ordered ∙ tags_form b.head b.rest page b.untagged
    ∙ ap (λ t. if t then None else Some (fault_at BadTags (length (b.head ∷ b.rest)))) test
    ∙ ap (λ n. Some (fault_at BadTags n)) (sym b.placed.pages))

same-both : {A : Type 0} (b : Bool) (x : A) → (if b then x else x) ≡ x
same-both true x = refl
same-both false x = refl

-- nothing is behind the comment header where it ends
pub behind-none : (rest : List Page) (page : Page) → has_tags rest ≡ false → behind_tags (rest ++ page ∷ []) ≡ []
unfolding behind_tags
behind-none [] page h = same-both (ends_packet page) []
behind-none (p ∷ ps) page h = by_test (cases_Bool (ends_packet p)) (behind-none ps page) where
  any : has_tags (p ∷ ps) ≡ (ends_packet p || has_tags ps)
  any = list_any-append ends_packet (p ∷ []) ps ∙ ap (λ t. t || has_tags ps) (one (ends_packet p)) where
    one : (b : Bool) → (b || false) ≡ b
    one true = refl
    one false = refl

  by_test : (ends_packet p ≡ true) ⊎ (ends_packet p ≡ false) → (has_tags ps ≡ false → behind_tags (ps ++ page ∷ []) ≡ []) → behind_tags (p ∷ (ps ++ page ∷ [])) ≡ []
  by_test (inl e) again = let f : true ≡ false = sym (any ∙ ap (λ t. t || has_tags ps) e) ∙ h in let g : ⊥ = cc in absurd g
  by_test (inr e) again = let rest : has_tags ps ≡ false = sym (any ∙ ap (λ t. t || has_tags ps) e) ∙ h in rw e (again rest)

head-kept : (head : Page) (rest : List Page) (page : Page) → head_in ((head ∷ rest) ++ page ∷ []) ≡ head_in (head ∷ rest)
unfolding head_in
head-kept head rest page = refl

-- what is read after the page
read_next : (b : Bool) (audio : Audio) (left front : List ℕ) (rest : List Page) (page : Page) → has_tags rest ≡ false → IsCommented audio left rest
    → front ≡ left ++ take (8 - length left) page.body → IsRead b audio (drop (if b then length front else 0) front) (rest ++ page ∷ [])
read_next true audio left front rest page none read front_is =
    let behind = behind-none rest page none in
    subst (λ l. IsHeard audio (drop (length front) front) l) (sym behind) (record {
      packets = read.packets ∙ ap length (sym none_packets);
      samples = read.samples ∙ ap Rattle.opus_stream.specs.Audio.samples_in (sym none_packets);
      left_is = all_gone front ∙ sym none_open;
      full = refl;
      base = λ going. subst (λ o. IsBase o []) (sym read.base) refl;
    })
  where
    all_gone : (xs : List ℕ) → drop (length xs) xs ≡ []
    all_gone [] = refl
    all_gone (x ∷ xs) = all_gone xs
read_next false audio left front rest page none read front_is = record {
  packets = read.packets;
  samples = read.samples;
  base = read.base;
  left_is = front_is ∙ sym (eight-more (body_in rest) left page.body read.left_is) ∙ ap (take 8) (sym (body-next rest page));
}

pub comment_passed : (p next : Progress) (left : List ℕ) (room : Kept) (whole : Bool) (size : ℕ) (page : Page) (before : List Page) → StandsAfter p left before → 1 ≤ p.pages → p.is_tagged ≡ false → p.is_ended ≡ false
    → order_by p page ≡ None → size ≡ page_size page → room.given ≡ left ++ take (8 - length left) page.body → room.left ≡ (if whole then length room.given else 0) → whole ≡ ends_packet page
    → goes_on page whole room.given ≡ true → IsNext p page size p.head whole p.audio next
    → (page_fault before page ≡ None) × StandsAfter next (left_in room) (before ++ page ∷ [])
    × Gives (record { packets = 0; before = 0; written = record { from = 0; to = 0 } }) room page (before ++ page ∷ [])
comment_passed p next left room whole size page before stands some tagged going ordered size_is front_is left_is whole_is h is =
    let b = before_tags p left before stands some tagged in
    let rest = b.rest in
    let test = sym (goes_on_same rest page left room.given whole b.read.left_is front_is whole_is) ∙ h in
    let tags_now : has_tags (rest ++ page ∷ []) ≡ whole = any-next ends_packet rest page ∙ ap (λ t. t || ends_packet page) b.untagged ∙ sym whole_is in
    let read = read_next whole p.audio left room.given rest page b.untagged b.read front_is in
    let read_there : IsRead whole next.audio (left_in room) (rest ++ page ∷ []) =
    subst (λ l. IsRead whole next.audio l (rest ++ page ∷ [])) (ap (λ n. drop n room.given) (sym left_is)) (subst (λ a. IsRead whole a (drop (if whole then length room.given else 0) room.given) (rest ++ page ∷ [])) (sym is.audio_is) read) in
    subst (λ l. (page_fault l page ≡ None) × StandsAfter next (left_in room) (l ++ page ∷ []) × Gives (record { packets = 0; before = 0; written = record { from = 0; to = 0 } }) room page (l ++ page ∷ [])) (sym b.is) (
      fault_ordered p (b.head ∷ rest) page b.placed going ordered ∙ tags_form b.head rest page b.untagged
          ∙ ap (λ t. if t then None else Some (fault_at BadTags (length (b.head ∷ rest)))) test,
      record {
        placed = placed_next p next (b.head ∷ rest) page size p.head whole p.audio b.placed ordered going size_is is (b.placed.head ∙ sym (head-kept b.head rest page)) (sym tags_now);
        read = subst (λ t. IsRead t next.audio (left_in room) (rest ++ page ∷ [])) (sym tags_now) read_there;
      },
      nothing 0 0 room page ((b.head ∷ rest) ++ page ∷ []) (behind-none rest page b.untagged),
    )

-- what is offered of the page, by its parts
pub front_parts : (left body held_body front : List ℕ) (open_len : ℕ) → held_body ≡ body → open_len ≡ length left → front ≡ take (8 - open_len) held_body
    → left ++ front ≡ left ++ take (8 - length left) body
front_parts left body held_body front open_len e f g = ap (λ l. left ++ l) (g ∙ ap (take (8 - open_len)) e ∙ ap (λ n. take (8 - n) body) f)
