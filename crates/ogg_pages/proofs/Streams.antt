-- The pages of a byte list, page by page, and what more bytes do to them.
use Rattle.std.proofs.Common.{◌≡◌, ℕ, zero, suc, ◌<◌, ◌≤◌, List, [], ◌∷◌, ◌++◌, length, take, drop, refl, sym, ◌∙◌, ap, subst, arith, length-drop, append-nil}
use Rattle.std.proofs.lemmas.List.{drop-append-le}
use Rattle.ogg_pages.specs.declared.page.Verdict.{Verdict}
use Rattle.ogg_pages.specs.declared.page.Verdict.TheVariants.{Whole, Need, Fault}
use Rattle.ogg_pages.specs.declared.page.PageFault.{PageFault}
use Rattle.ogg_pages.specs.Verdicts.{verdict, captures}
use Rattle.ogg_pages.specs.Fields.{Page, page_of}
use Rattle.ogg_pages.specs.Stream.{Stream, Ending, Sound, Cut, Broken, ending_of, ending_by, no_page, with_page, after_verdict, stream_in, stream}
use Rattle.ogg_pages.proofs.Judged.{sound_of}
use Rattle.ogg_pages.proofs.Later.{fault_stays, whole_stays, page_of-take-append}

-- no bytes are less than a page
verdict-nil : verdict [] ≡ Need
unfolding verdict captures
verdict-nil = refl

stream_in-nil : (turns : ℕ) → stream_in turns [] ≡ no_page []
unfolding stream_in
stream_in-nil zero = refl
stream_in-nil (suc turns) = ap (after_verdict (stream_in turns) []) verdict-nil

empty : (bytes : List ℕ) → length bytes ≤ 0 → bytes ≡ []
empty [] h = refl
empty (byte ∷ bytes) h = absurd (omega arith)

-- a page has a byte, so fewer are left behind it
shorter : (bytes : List ℕ) (n : ℕ) → verdict bytes ≡ Whole n → length (drop n bytes) < length bytes
shorter bytes n h = let s = sound_of bytes n h in let i = s.inside in let l = s.length_is in rw length-drop (omega arith)

-- one turn of two streams that agree behind it
agree_once : (f g : List ℕ → Stream) (bytes : List ℕ) (v : Verdict) → verdict bytes ≡ v → ((l : List ℕ) → length l < length bytes → f l ≡ g l) → after_verdict f bytes v ≡ after_verdict g bytes v
agree_once f g bytes (Whole k) h again = ap (with_page (page_of (take k bytes))) (again (drop k bytes) (shorter bytes k h))
agree_once f g bytes Need h again = refl
agree_once f g bytes (Fault fault) h again = refl

-- any number of turns that is no less than that of the bytes serves
agree : (m n : ℕ) (bytes : List ℕ) → length bytes ≤ m → length bytes ≤ n → stream_in m bytes ≡ stream_in n bytes
unfolding stream_in
agree zero n bytes hm hn = let e = empty bytes hm in subst (λ l. stream_in zero l ≡ stream_in n l) (sym e) (stream_in-nil zero ∙ sym (stream_in-nil n))
agree (suc m) zero bytes hm hn = let e = empty bytes hn in subst (λ l. stream_in (suc m) l ≡ stream_in zero l) (sym e) (stream_in-nil (suc m) ∙ sym (stream_in-nil zero))
agree (suc m) (suc n) bytes hm hn = agree_once (stream_in m) (stream_in n) bytes (verdict bytes) refl (λ l less. agree m n l (omega arith) (omega arith))

pub stream_in-enough : (turns : ℕ) (bytes : List ℕ) → length bytes ≤ turns → stream_in turns bytes ≡ stream bytes
unfolding stream
stream_in-enough turns bytes h = agree turns (length bytes) bytes h (omega arith)

one_more : (bytes : List ℕ) → stream bytes ≡ after_verdict (stream_in (length bytes)) bytes (verdict bytes)
unfolding stream_in
one_more bytes = sym (stream_in-enough (suc (length bytes)) bytes (omega arith))

-- a page, and then the stream behind it
pub stream-Whole : (bytes : List ℕ) (n : ℕ) → verdict bytes ≡ Whole n → stream bytes ≡ with_page (page_of (take n bytes)) (stream (drop n bytes))
stream-Whole bytes n h =
    let less = shorter bytes n h in
    one_more bytes ∙ ap (after_verdict (stream_in (length bytes)) bytes) h
    ∙ ap (with_page (page_of (take n bytes))) (stream_in-enough (length bytes) (drop n bytes) (omega arith))

pub stream-Need : (bytes : List ℕ) → verdict bytes ≡ Need → stream bytes ≡ no_page bytes
stream-Need bytes h = one_more bytes ∙ ap (after_verdict (stream_in (length bytes)) bytes) h

pub stream-Fault : (bytes : List ℕ) (fault : PageFault) → verdict bytes ≡ Fault fault → stream bytes ≡ no_page bytes
stream-Fault bytes fault h = one_more bytes ∙ ap (after_verdict (stream_in (length bytes)) bytes) h

-- what follows where no page begins
pub ending_of-Fault : (bytes : List ℕ) (fault : PageFault) → verdict bytes ≡ Fault fault → ending_of bytes ≡ Broken fault
ending_of-Fault [] fault h = let f : ⊥ = cc verdict-nil in absurd f
ending_of-Fault (byte ∷ bytes) fault h = ap ending_by h

-- ---- more bytes

-- the pages go on, and what is broken stays
pub record GoesOn (before after : Stream) : Type 0 where
  pub more_pages : List Page
  pub pages : after.pages ≡ before.pages ++ more_pages
  pub broken : (fault : PageFault) → before.ending ≡ Broken fault → after ≡ before
  pub unsound : before.ending ≡ Cut → after.pages ≡ before.pages → after.ending ≡ Sound → ⊥

no_break : (bytes : List ℕ) (fault : PageFault) → verdict bytes ≡ Need → ending_of bytes ≡ Broken fault → ⊥
no_break [] fault h b = cc
no_break (byte ∷ bytes) fault h b = let c : ending_by Need ≡ Broken fault = ap ending_by (sym h) ∙ b in cc

-- bytes in which no page begins do not end soundly, but for none
not_sound : (byte : ℕ) (bytes : List ℕ) (v : Verdict) → verdict (byte ∷ bytes) ≡ v → (stream (byte ∷ bytes)).pages ≡ [] → (stream (byte ∷ bytes)).ending ≡ Sound → ⊥
not_sound byte bytes (Whole n) h none sound =
    let pages : (with_page (page_of (take n (byte ∷ bytes))) (stream (drop n (byte ∷ bytes)))).pages ≡ [] = ap (λ (s : Stream). s.pages) (sym (stream-Whole (byte ∷ bytes) n h)) ∙ none in
    cc
not_sound byte bytes Need h none sound =
    let e : ending_by Need ≡ Sound = ap ending_by (sym h) ∙ ap (λ (s : Stream). s.ending) (sym (stream-Need (byte ∷ bytes) h)) ∙ sound in
    cc
not_sound byte bytes (Fault fault) h none sound =
    let e : ending_by (Fault fault) ≡ Sound = ap ending_by (sym h) ∙ ap (λ (s : Stream). s.ending) (sym (stream-Fault (byte ∷ bytes) fault h)) ∙ sound in
    cc

cut_not_sound : (bytes more : List ℕ) → ending_of bytes ≡ Cut → (stream (bytes ++ more)).pages ≡ [] → (stream (bytes ++ more)).ending ≡ Sound → ⊥
cut_not_sound [] more c none sound = cc
cut_not_sound (byte ∷ bytes) more c none sound = not_sound byte (bytes ++ more) (verdict (byte ∷ (bytes ++ more))) refl none sound

goes_on_cut : (bytes more : List ℕ) → verdict bytes ≡ Need → GoesOn (stream bytes) (stream (bytes ++ more))
goes_on_cut bytes more h =
    subst (λ s. GoesOn s (stream (bytes ++ more))) (sym (stream-Need bytes h))
    (record { more_pages = (stream (bytes ++ more)).pages; pages = refl; broken = λ fault b. absurd (no_break bytes fault h b); unsound = λ c same sound. cut_not_sound bytes more c same sound })

broken_not_cut : (fault : PageFault) → Broken fault ≡ Cut → ⊥
broken_not_cut fault e = cc

goes_on_broken : (bytes more : List ℕ) (fault : PageFault) → verdict bytes ≡ Fault fault → GoesOn (stream bytes) (stream (bytes ++ more))
goes_on_broken bytes more fault h =
    let later = fault_stays bytes more fault h in
    let same : no_page (bytes ++ more) ≡ no_page bytes =
    ap (λ (e : Ending). record { pages = []; ending = e }) (ending_of-Fault (bytes ++ more) fault later ∙ sym (ending_of-Fault bytes fault h)) in
    let whole : stream (bytes ++ more) ≡ stream bytes = stream-Fault (bytes ++ more) fault later ∙ same ∙ sym (stream-Fault bytes fault h) in
    record {
      more_pages = [];
      pages = ap (λ (s : Stream). s.pages) whole ∙ sym (append-nil (stream bytes).pages);
      broken = λ f b. whole;
      unsound = λ c same sound. broken_not_cut fault (sym (ending_of-Fault bytes fault h) ∙ ap (λ (s : Stream). s.ending) (sym (stream-Fault bytes fault h)) ∙ c);
    }

tail_of : (page : Page) (xs ys : List Page) → page ∷ xs ≡ page ∷ ys → xs ≡ ys
tail_of page xs ys e = cc

with_page-GoesOn : (page : Page) (s t : Stream) → GoesOn s t → GoesOn (with_page page s) (with_page page t)
with_page-GoesOn page s t g =
    record {
      more_pages = g.more_pages;
      pages = ap (λ l. page ∷ l) g.pages;
      broken = λ fault b. ap (with_page page) (g.broken fault b);
      unsound = λ c same sound. g.unsound c (tail_of page t.pages s.pages same) sound;
    }

-- one page, and what goes on behind it
goes_on_once : (bytes more : List ℕ) (v : Verdict) → verdict bytes ≡ v → ((l : List ℕ) → length l < length bytes → GoesOn (stream l) (stream (l ++ more)))
    → GoesOn (stream bytes) (stream (bytes ++ more))
goes_on_once bytes more Need e again = goes_on_cut bytes more e
goes_on_once bytes more (Fault fault) e again = goes_on_broken bytes more fault e
goes_on_once bytes more (Whole n) e again =
    let s = sound_of bytes n e in
    let page = page_of (take n bytes) in
    let behind : drop n (bytes ++ more) ≡ drop n bytes ++ more = drop-append-le n bytes more s.inside in
    let after : stream (bytes ++ more) ≡ with_page page (stream (drop n bytes ++ more)) =
    stream-Whole (bytes ++ more) n (whole_stays bytes more n e)
    ∙ ap (λ p. with_page p (stream (drop n (bytes ++ more)))) (page_of-take-append bytes more n s.inside)
    ∙ ap (λ l. with_page page (stream l)) behind in
    let goes = with_page-GoesOn page (stream (drop n bytes)) (stream (drop n bytes ++ more)) (again (drop n bytes) (shorter bytes n e)) in
    subst (λ t. GoesOn (stream bytes) t) (sym after) (subst (λ s. GoesOn s (with_page page (stream (drop n bytes ++ more)))) (sym (stream-Whole bytes n e)) goes)

goes_on_by : (k : ℕ) (bytes more : List ℕ) → length bytes ≤ k → GoesOn (stream bytes) (stream (bytes ++ more))
goes_on_by zero bytes more h = goes_on_once bytes more (verdict bytes) refl (λ l less. absurd (omega arith))
goes_on_by (suc k) bytes more h = goes_on_once bytes more (verdict bytes) refl (λ l less. goes_on_by k l more (omega arith))

pub goes_on : (bytes more : List ℕ) → GoesOn (stream bytes) (stream (bytes ++ more))
goes_on bytes more = goes_on_by (length bytes) bytes more (omega arith)
