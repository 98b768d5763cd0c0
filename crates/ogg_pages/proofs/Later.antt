-- No later byte changes a page or a fault.
use Rattle.std.proofs.Common.{◌≡◌, ℕ, zero, suc, ◌<◌, ◌≤◌, List, [], ◌∷◌, ◌++◌, length, take, Bool, true, false, not, nat_lt, refl, sym, ◌∙◌, ap, arith, length-append, ◌⊎◌, inl, inr}
use Rattle.std.specs.Prelude.{◌==◌, ◌&&◌, slice_index, nat_eq, if◌then◌else◌}
use Rattle.std.specs.List.{starts_with}
use lib.Pointwise.{pointwise}
use Rattle.std.proofs.lemmas.List.{take-append-le, get_or_append_left, get_or_past}
use Rattle.std.proofs.lemmas.Bool.{cases_lt, cases_Bool, eqb-false, ltb-false, le-ltb}
use Rattle.ogg_pages.specs.declared.page.Verdict.{Verdict}
use Rattle.ogg_pages.specs.declared.page.Verdict.TheVariants.{Whole, Need, Fault}
use Rattle.ogg_pages.specs.declared.page.PageFault.{PageFault}
use Rattle.ogg_pages.specs.declared.page.PageFault.TheVariants.{BadCapture, BadPageVersion, BadChecksum}
use Rattle.ogg_pages.specs.Bounds.{page_len}
use Rattle.ogg_pages.specs.Fields.{page_of}
use Rattle.ogg_pages.specs.Verdicts.{capture, captures, summed, verdict}
use Rattle.ogg_pages.proofs.Judged.{sound_of, of_sound, page_len-append}

-- a front of n items that differs stays one that differs
differs_stays : (n : ℕ) (xs more ys : List ℕ)
    → pointwise nat_eq (take n xs) (take (length (take n xs)) ys) ≡ false
    → pointwise nat_eq (take n (xs ++ more)) (take (length (take n (xs ++ more))) ys) ≡ false
differs_stays zero xs more ys h = let f : ⊥ = cc in absurd f
differs_stays (suc n) [] more ys h = let f : ⊥ = cc in absurd f
differs_stays (suc n) (x ∷ xs) more [] h = refl
differs_stays (suc n) (x ∷ xs) more (y ∷ ys) h = step (nat_eq x y) (differs_stays n xs more ys) h where
  step : {a b : Bool} (t : Bool) → (a ≡ false → b ≡ false) → (t && a) ≡ false → (t && b) ≡ false
  step true f h = f h
  step false f h = refl

pub uncaptured_stays : (bytes more : List ℕ) → captures bytes ≡ false → captures (bytes ++ more) ≡ false
unfolding captures
uncaptured_stays bytes more h = differs_stays 4 bytes more capture h

-- what begins bytes that a page captures is captured
pub captured_before : (bytes more : List ℕ) → captures (bytes ++ more) ≡ true → captures bytes ≡ true
captured_before bytes more h = by_test (cases_Bool (captures bytes)) where
  by_test : (captures bytes ≡ true) ⊎ (captures bytes ≡ false) → captures bytes ≡ true
  by_test (inl e) = e
  by_test (inr e) = let o = uncaptured_stays bytes more e in let f : ⊥ = cc in absurd f

pub captures-append : (bytes more : List ℕ) → 4 ≤ length bytes → captures (bytes ++ more) ≡ captures bytes
unfolding captures
captures-append bytes more h = ap (starts_with nat_eq capture) (take-append-le 4 bytes more h)

-- a version that is not 0 is there
version_there : (bytes : List ℕ) → (slice_index bytes 4 == 0) ≡ false → 5 ≤ length bytes
version_there bytes h = by_length (cases_lt 4 (length bytes)) where
  by_length : (4 < length bytes) ⊎ (length bytes ≤ 4) → 5 ≤ length bytes
  by_length (inl there) = omega arith
  by_length (inr short) = absurd (eqb-false (slice_index bytes 4) 0 h (get_or_past bytes 4 0 short))

version-append : (bytes more : List ℕ) → 5 ≤ length bytes → slice_index (bytes ++ more) 4 ≡ slice_index bytes 4
version-append bytes more h = get_or_append_left bytes more 0 4 (omega arith)

-- no later byte changes a page
pub whole_stays : (bytes more : List ℕ) (n : ℕ) → verdict bytes ≡ Whole n → verdict (bytes ++ more) ≡ Whole n
whole_stays bytes more n h =
    let s = sound_of bytes n h in
    let there : page_len bytes ≤ length bytes = rw (← s.length_is) s.inside in
    let inside = s.inside in
    of_sound (bytes ++ more) n (record {
      captured = captures-append bytes more (omega arith) ∙ s.captured;
      version = version-append bytes more (omega arith) ∙ s.version;
      length_is = s.length_is ∙ sym (page_len-append bytes more there);
      inside = simp length-append (omega arith);
      sum_is = ap summed (take-append-le n bytes more inside) ∙ s.sum_is;
    })

pub page_of-take-append : (bytes more : List ℕ) (n : ℕ) → n ≤ length bytes → page_of (take n (bytes ++ more)) ≡ page_of (take n bytes)
page_of-take-append bytes more n h = ap page_of (take-append-le n bytes more h)

-- the tests of a verdict over plain values
abbrev answered : Bool → Bool → Bool → Bool → ℕ → Verdict
answered c v s k n =
    if not c then Fault BadCapture
    else (if not v then Fault BadPageVersion
    else (if s then Need
    else (if k then Whole n else Fault BadChecksum)))

-- no later byte changes a fault
pub fault_stays : (bytes more : List ℕ) (f : PageFault) → verdict bytes ≡ Fault f → verdict (bytes ++ more) ≡ Fault f
unfolding verdict
fault_stays bytes more f h =
    by_tests (captures bytes) (slice_index bytes 4 == 0) (nat_lt (length bytes) (page_len bytes)) (summed (take (page_len bytes) bytes)) refl refl refl refl h
  where
    by_tests : (c v s k : Bool) → captures bytes ≡ c → (slice_index bytes 4 == 0) ≡ v → nat_lt (length bytes) (page_len bytes) ≡ s
        → summed (take (page_len bytes) bytes) ≡ k → answered c v s k (page_len bytes) ≡ Fault f → verdict (bytes ++ more) ≡ Fault f
    by_tests false v s k ec ev es ek h = rw (uncaptured_stays bytes more ec) h
    by_tests true false s k ec ev es ek h =
        let l = version_there bytes ev in
        rw (captures-append bytes more (omega arith), ec, version-append bytes more l, ev) h
    by_tests true true true k ec ev es ek h = let e : ⊥ = cc in absurd e
    by_tests true true false true ec ev es ek h = let e : ⊥ = cc in absurd e
    by_tests true true false false ec ev es ek h =
        let there : page_len bytes ≤ length bytes = ltb-false (length bytes) (page_len bytes) es in
        let len = page_len-append bytes more there in
        let still : nat_lt (length (bytes ++ more)) (page_len bytes) ≡ false = le-ltb (length (bytes ++ more)) (page_len bytes) (simp length-append (omega arith)) in
        rw (captures-append bytes more (omega arith), ec, version-append bytes more (omega arith), ev, len, still, take-append-le (page_len bytes) bytes more there, ek) h
