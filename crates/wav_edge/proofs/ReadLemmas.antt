-- Reading on from the middle of a part.
use Rattle.std.proofs.Common.{◌≡◌, ℕ, zero, suc, ◌+◌, ◌-◌, ◌*◌, ◌≤◌, ◌<◌, ◌⊎◌, Bool, List, [], ◌∷◌, ◌++◌, length, inl, inr, true, false, refl, sym, ap, subst, ◌∙◌, arith, Option, take, drop, slice_set, length-append}
use Rattle.celt_base.specs.declared.status.Fault.{Fault}
use Rattle.wav_edge.specs.declared.parts.Seen.{Seen}
use Rattle.wav_edge.specs.declared.parts.Part.{Part}
use Rattle.wav_edge.specs.declared.parts.Part.TheVariants.{More, Passed, Samples, Broken}
use Rattle.wav_edge.specs.Parts.{is_more, part_at}
use Rattle.wav_edge.specs.Reading.{followed, is_between, read}
use Rattle.wav_edge.specs.Reading.Outcome.{Unfinished, Faulty, Started}
use Rattle.wav_edge.proofs.PartLemmas.{Beyond, Settles, part_settles, is_more-More}
use Rattle.std.proofs.lemmas.List.{append_assoc, append-nil, take_more_set, length-take-le, take-append-drop, drop-drop}

-- bytes that are passed over
pub read_skip : (bytes more : List ℕ) (left : ℕ) (seen : Seen) (at : ℕ) → length bytes ≤ left →
    read (bytes ++ more) left seen at ≡ read more (left - length bytes) seen (at + length bytes)
unfolding read
read_skip [] more left seen at h = let e : left - 0 ≡ left = omega arith in let f : at + 0 ≡ at = omega arith in rw (e, f) refl
read_skip (byte ∷ bytes) more zero seen at h = absurd (omega arith)
read_skip (byte ∷ bytes) more (suc left) seen at h =
    let ih = read_skip bytes more left seen (at + 1) (omega arith) in
    let e : suc left - suc (length bytes) ≡ left - length bytes = omega arith in
    let f : at + suc (length bytes) ≡ at + 1 + length bytes = omega arith in
    ih ∙ (rw (e, f) refl)

-- what is said of a part of which nothing was said before
pub beyond : (k : ℕ) (p q : Part) → Settles k p q → p ≡ More → Beyond k q
beyond k p q settles e =
    elim settles [
      | inl early ↦ early.1
      | inr same ↦ let more : More ≡ q = sym (same ∙ e) in subst (Beyond k) more tt
    ]

-- what was said of a part stays
pub told_stays : (seen : Seen) (at : ℕ) (bytes more : List ℕ) (p : Part) → part_at seen at bytes ≡ p → is_more p ≡ false → part_at seen at (bytes ++ more) ≡ p
told_stays seen at bytes more p e told =
    elim (part_settles seen at bytes more) [
      | inl early ↦ let f : is_more p ≡ true = ap is_more (sym e ∙ early.0) in cc
      | inr same ↦ same ∙ e
    ]

-- a part that was told
read_told : (byte : ℕ) (bytes more : List ℕ) (seen : Seen) (at : ℕ) (p : Part) → part_at seen at (byte ∷ bytes) ≡ p → is_more p ≡ false →
    read (byte ∷ (bytes ++ more)) 0 seen at ≡ followed at p (λ left' seen'. read (bytes ++ more) left' seen' (at + 1))
unfolding read
read_told byte bytes more seen at p e told =
    ap (λ (q : Part). followed at q (λ left' seen'. read (bytes ++ more) left' seen' (at + 1))) (told_stays seen at (byte ∷ bytes) more p e told)

pub read_passed : (bytes more : List ℕ) (seen after : Seen) (at len : ℕ) → part_at seen at bytes ≡ Passed after len → 0 < length bytes → length bytes ≤ len →
    read (bytes ++ more) 0 seen at ≡ read more (len - length bytes) after (at + length bytes)
read_passed [] more seen after at len e some within = absurd (omega arith)
read_passed (byte ∷ bytes) more seen after at len e some within =
    let left : len - 1 - length bytes ≡ len - suc (length bytes) = omega arith in
    let place : at + 1 + length bytes ≡ at + suc (length bytes) = omega arith in
    read_told byte bytes more seen at (Passed after len) e refl ∙ read_skip bytes more (len - 1) after (at + 1) (omega arith)
    ∙ ap (λ (n : ℕ). read more n after (at + 1 + length bytes)) left ∙ ap (λ (n : ℕ). read more (len - suc (length bytes)) after n) place

pub read_samples : (bytes more : List ℕ) (seen : Seen) (at channels rate : ℕ) (size : Option ℕ) → part_at seen at bytes ≡ Samples channels rate size → 0 < length bytes →
    read (bytes ++ more) 0 seen at ≡ Started channels rate size (at + 8)
read_samples [] more seen at channels rate size e some = absurd (omega arith)
read_samples (byte ∷ bytes) more seen at channels rate size e some = read_told byte bytes more seen at (Samples channels rate size) e refl

pub read_broken : (bytes more : List ℕ) (seen : Seen) (at : ℕ) (fault : Fault) → part_at seen at bytes ≡ Broken fault → 0 < length bytes →
    read (bytes ++ more) 0 seen at ≡ Faulty fault
read_broken [] more seen at fault e some = absurd (omega arith)
read_broken (byte ∷ bytes) more seen at fault e some = read_told byte bytes more seen at (Broken fault) e refl

-- a product of 0 whose first factor is none
pub no_length : (a b : ℕ) → 0 < a → a * b ≡ 0 → b ≡ 0
no_length a zero h e = refl
no_length a (suc b) h e = absurd (grind arith)

-- one more byte of a part of which nothing was said
pub grown : (xs ys more : List ℕ) (byte left : ℕ) (seen : Seen) (at : ℕ) → ys ≡ xs ++ byte ∷ [] → left ≡ 0 →
    read (xs ++ byte ∷ more) left seen at ≡ read (ys ++ more) 0 seen at
grown xs ys more byte left seen at e none = rw (e, none, append_assoc xs (byte ∷ []) more) refl

pub grown_beyond : (xs ys : List ℕ) (byte : ℕ) (seen : Seen) (at : ℕ) (p : Part) → ys ≡ xs ++ byte ∷ [] → is_more (part_at seen at xs) ≡ true →
    p ≡ part_at seen at ys → Beyond (length xs) p
grown_beyond xs ys byte seen at p e untold told =
    let same : part_at seen at (xs ++ byte ∷ []) ≡ p = ap (part_at seen at) (sym e) ∙ sym told in
    subst (Beyond (length xs)) same (beyond (length xs) (part_at seen at xs) (part_at seen at (xs ++ byte ∷ [])) (part_settles seen at xs (byte ∷ [])) (is_more-More (part_at seen at xs) untold))

-- a byte put behind the first n of some, which are fewer than 34
pub record Grown (held : List ℕ) (n byte : ℕ) (ys : List ℕ) : Type 0 where
  pub joined : ys ≡ take n held ++ byte ∷ []
  pub before : length (take n held) ≡ n
  pub after : length ys ≡ n + 1

pub put_behind : (held : List ℕ) (n byte : ℕ) (ys : List ℕ) → n < length held → ys ≡ take (n + 1) (slice_set held n byte) → Grown held n byte ys
put_behind held n byte ys h e =
    let joined : ys ≡ take n held ++ byte ∷ [] = e ∙ take_more_set held n byte h in
    let before : length (take n held) ≡ n = length-take-le n held (omega arith) in
    record { joined = joined; before = before; after = ap length joined ∙ length-append (take n held) (byte ∷ []) ∙ ap (λ (k : ℕ). k + 1) before }

-- the items from place i on: the next n, and those from place i + n on
pub drop_parts : (i n : ℕ) (xs : List ℕ) → drop i xs ≡ take n (drop i xs) ++ drop (i + n) xs
drop_parts i n xs = sym (take-append-drop n (drop i xs)) ∙ ap (λ (rest : List ℕ). take n (drop i xs) ++ rest) (drop-drop n i xs ∙ ap (λ (k : ℕ). drop k xs) (omega arith))

-- bytes that end before the samples and without a fault: between two parts, or with the first bytes of one
pub ends_between : List ℕ → ℕ → Seen → Bool
ends_between [] left seen = is_between left seen
ends_between (byte ∷ bytes) left seen = false

pub unfinished : (bytes : List ℕ) (left : ℕ) (seen : Seen) (at : ℕ) → is_more (part_at seen at bytes) ≡ true → left * length bytes ≡ 0 →
    read (bytes ++ []) left seen at ≡ Unfinished (ends_between bytes left seen)
unfolding read ends_between
unfinished [] zero seen at untold apart = refl
unfinished [] (suc left) seen at untold apart = refl
unfinished (byte ∷ bytes) zero seen at untold apart =
    let whole : bytes ++ [] ≡ bytes = append-nil bytes in
    let more : part_at seen at (byte ∷ (bytes ++ [])) ≡ More = ap (λ (rest : List ℕ). part_at seen at (byte ∷ rest)) whole ∙ is_more-More (part_at seen at (byte ∷ bytes)) untold in
    ap (λ (p : Part). followed at p (λ left' seen'. read (bytes ++ []) left' seen' (at + 1))) more
unfinished (byte ∷ bytes) (suc left) seen at untold apart = absurd (grind arith)

-- the same for the first n of some bytes, or where bytes are left to be passed over
pub unfinished_inside : (held : List ℕ) (n left : ℕ) (seen : Seen) (at : ℕ) → n ≤ length held → is_more (part_at seen at (take n held)) ≡ true → left * n ≡ 0 → (0 < left) ⊎ (0 < n) →
    read (take n held ++ []) left seen at ≡ Unfinished false
unfolding read ends_between
unfinished_inside held zero zero seen at h untold apart inside = elim inside [ inl some ↦ absurd (omega arith) | inr some ↦ absurd (omega arith) ]
unfinished_inside held zero (suc left) seen at h untold apart inside = refl
unfinished_inside [] (suc n) left seen at h untold apart inside = absurd (omega arith)
unfinished_inside (byte ∷ held) (suc n) zero seen at h untold apart inside = unfinished (byte ∷ take n held) 0 seen at untold (omega arith)
unfinished_inside (byte ∷ held) (suc n) (suc left) seen at h untold apart inside = absurd (grind arith)

pub unfinished_between : (held : List ℕ) (left : ℕ) (seen : Seen) (at n : ℕ) → n ≡ 0 → left ≡ 0 → read (take n held ++ []) left seen at ≡ Unfinished (is_between 0 seen)
unfolding read
unfinished_between held left seen at n none done = rw (none, done) refl

-- either none is left to be passed over, or none of the part is there
pub apart_taken : (held : List ℕ) (n left : ℕ) → left * n ≡ 0 → left * length (take n held) ≡ 0
apart_taken held zero left e = omega arith
apart_taken held (suc n) zero e = omega arith
apart_taken held (suc n) (suc left) e = absurd (grind arith)
