-- What each verdict says of the bytes, and that no later byte changes it.
use Rattle.std.proofs.Common.{◌≡◌, ℕ, ◌+◌, ◌-◌, ◌≤◌, List, ◌++◌, length, get_or, take, drop, sum, Bool, true, false, not, nat_lt, refl, sym, ◌∙◌, ap, arith, length-take, length-drop}
use Rattle.std.specs.Prelude.{◌==◌, slice_index, if◌then◌else◌}
use Rattle.std.proofs.lemmas.List.{get_or-take, take-append-le, drop-append-le, drop-take, take-append-drop, get_or_append_left}
use Rattle.std.proofs.lemmas.Bool.{eqb-true, eq-eqb, ltb-true, ltb-false, le-ltb, lt-ltb}
use Rattle.ogg_pages.specs.declared.page.Verdict.{Verdict}
use Rattle.ogg_pages.specs.declared.page.Verdict.TheVariants.{Whole, Need, Fault}
use Rattle.ogg_pages.specs.declared.page.PageFault.TheVariants.{BadCapture, BadPageVersion, BadChecksum}
use Rattle.ogg_pages.specs.Bounds.{lacing_of, page_len}
use Rattle.ogg_pages.specs.Verdicts.{captures, summed, verdict}
use Rattle.ogg_pages.specs.Sound.{IsSound, IsCut}

-- the chain of tests over plain values
abbrev chain : Bool → Bool → Bool → Bool → ℕ → Verdict
chain c v s k n =
    if not c then Fault BadCapture
    else (if not v then Fault BadPageVersion
    else (if s then Need
    else (if k then Whole n else Fault BadChecksum)))

record Passed (c v s k : Bool) (n m : ℕ) : Type 0 where
  pub captured : c ≡ true
  pub version : v ≡ true
  pub there : s ≡ false
  pub sum_is : k ≡ true
  pub same : m ≡ n

chain-Whole : (c v s k : Bool) (n m : ℕ) → chain c v s k n ≡ Whole m → Passed c v s k n m
chain-Whole true true false true n m h = record { captured = refl; version = refl; there = refl; sum_is = refl; same = cc }
chain-Whole true true false false n m h = let f : ⊥ = cc in absurd f
chain-Whole true true true k n m h = let f : ⊥ = cc in absurd f
chain-Whole true false s k n m h = let f : ⊥ = cc in absurd f
chain-Whole false v s k n m h = let f : ⊥ = cc in absurd f

record Stopped (c v s : Bool) : Type 0 where
  pub captured : c ≡ true
  pub version : v ≡ true
  pub there : s ≡ true

chain-Need : (c v s k : Bool) (n : ℕ) → chain c v s k n ≡ Need → Stopped c v s
chain-Need true true true k n h = record { captured = refl; version = refl; there = refl }
chain-Need true true false true n h = let f : ⊥ = cc in absurd f
chain-Need true true false false n h = let f : ⊥ = cc in absurd f
chain-Need true false s k n h = let f : ⊥ = cc in absurd f
chain-Need false v s k n h = let f : ⊥ = cc in absurd f

pub sound_of : (bytes : List ℕ) (n : ℕ) → verdict bytes ≡ Whole n → IsSound bytes n
unfolding verdict
sound_of bytes n h =
    let p = chain-Whole (captures bytes) (slice_index bytes 4 == 0) (nat_lt (length bytes) (page_len bytes)) (summed (take (page_len bytes) bytes)) (page_len bytes) n h in
    record {
      captured = p.captured;
      version = eqb-true (slice_index bytes 4) 0 p.version;
      length_is = p.same;
      inside = rw p.same (ltb-false (length bytes) (page_len bytes) p.there);
      sum_is = rw p.same p.sum_is;
    }

pub of_sound : (bytes : List ℕ) (n : ℕ) → IsSound bytes n → verdict bytes ≡ Whole n
unfolding verdict
of_sound bytes n s =
    let there : nat_lt (length bytes) (page_len bytes) ≡ false = le-ltb (length bytes) (page_len bytes) (rw (← s.length_is) s.inside) in
    let sum_is : summed (take (page_len bytes) bytes) ≡ true = rw (← s.length_is) s.sum_is in
    rw (s.captured, eq-eqb (slice_index bytes 4) 0 s.version, there, sum_is) (ap Whole (sym s.length_is))

pub cut_of : (bytes : List ℕ) → verdict bytes ≡ Need → IsCut bytes
unfolding verdict
cut_of bytes h =
    let p = chain-Need (captures bytes) (slice_index bytes 4 == 0) (nat_lt (length bytes) (page_len bytes)) (summed (take (page_len bytes) bytes)) (page_len bytes) h in
    record {
      captured = p.captured;
      version = eqb-true (slice_index bytes 4) 0 p.version;
      short = ltb-true (length bytes) (page_len bytes) p.there;
    }

pub of_cut : (bytes : List ℕ) → IsCut bytes → verdict bytes ≡ Need
unfolding verdict
of_cut bytes s = rw (s.captured, eq-eqb (slice_index bytes 4) 0 s.version, lt-ltb (length bytes) (page_len bytes) s.short) refl

-- ---- bytes after a page do not matter

-- the length of a page that is there whole
pub page_len-append : (xs ys : List ℕ) → page_len xs ≤ length xs → page_len (xs ++ ys) ≡ page_len xs
page_len-append xs ys whole =
    let first : get_or (xs ++ ys) 26 0 ≡ get_or xs 26 0 = get_or_append_left xs ys 0 26 (omega arith) in
    let rest : drop 27 (xs ++ ys) ≡ drop 27 xs ++ ys = drop-append-le 27 xs ys (omega arith) in
    let lace : take (get_or xs 26 0) (drop 27 xs ++ ys) ≡ take (get_or xs 26 0) (drop 27 xs) =
    take-append-le (get_or xs 26 0) (drop 27 xs) ys (simp length-drop (omega arith)) in
    let same : lacing_of (xs ++ ys) ≡ lacing_of xs = ap (λ n. take n (drop 27 (xs ++ ys))) first ∙ ap (take (get_or xs 26 0)) rest ∙ lace in
    ap (λ n. 27 + n + sum (lacing_of (xs ++ ys))) first ∙ ap (λ l. 27 + get_or xs 26 0 + sum l) same

pub page_len-take : (bytes : List ℕ) (n : ℕ) → n ≡ page_len bytes → n ≤ length bytes → page_len (take n bytes) ≡ n
page_len-take bytes n e inside =
    let m = n - 27 in
    let n_is : n ≡ 27 + m = omega arith in
    let first : get_or (take n bytes) 26 0 ≡ get_or bytes 26 0 = get_or-take n bytes 26 0 (omega arith) in
    let rest : drop 27 (take n bytes) ≡ take m (drop 27 bytes) = ap (λ t. drop 27 (take t bytes)) n_is ∙ drop-take 27 m bytes in
    let there : get_or bytes 26 0 ≤ length (take m (drop 27 bytes)) = simp (length-take, length-drop) (omega arith) in
    let lace : take (get_or bytes 26 0) (take m (drop 27 bytes)) ≡ lacing_of bytes =
    sym (take-append-le (get_or bytes 26 0) (take m (drop 27 bytes)) (drop m (drop 27 bytes)) there)
    ∙ ap (take (get_or bytes 26 0)) (take-append-drop m (drop 27 bytes)) in
    let same : lacing_of (take n bytes) ≡ lacing_of bytes = ap (λ k. take k (drop 27 (take n bytes))) first ∙ ap (take (get_or bytes 26 0)) rest ∙ lace in
    ap (λ k. 27 + k + sum (lacing_of (take n bytes))) first ∙ ap (λ l. 27 + get_or bytes 26 0 + sum l) same ∙ sym e
