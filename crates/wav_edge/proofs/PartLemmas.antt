-- What the first bytes of a part say, and what more bytes change.
use Rattle.std.proofs.Common.{◌≡◌, ℕ, zero, suc, ◌+◌, ◌*◌, ◌%◌, ◌≤◌, ◌<◌, ◌⊎◌, inl, inr, Bool, true, false, nat_eq, ◌&&◌, IsTrue, List, [], ◌∷◌, ◌++◌, length, take, drop, nat_le, nat_lt, refl, ap, ◌∙◌, arith, if◌then◌else◌, ◌==◌, Some, None, length-append}
use Rattle.std.proofs.lemmas.Bool.Decides.{nat_tests}
use Rattle.std.proofs.lemmas.List.{take-append-le, drop-append-le, drop_all, length-drop}
use Rattle.wav_edge.specs.declared.parts.Seen.{Seen}
use Rattle.wav_edge.specs.declared.parts.Seen.TheVariants.{Nothing, Form, Format}
use Rattle.wav_edge.specs.declared.parts.Part.{Part}
use Rattle.wav_edge.specs.declared.parts.Part.TheVariants.{More, Passed, Samples, Broken}
use Rattle.wav_edge.specs.Fields.{number_at, fits, riff, wave, format_letters, data_letters}
use Rattle.wav_edge.specs.Parts.{is_readable, can_follow, is_more, once, bad_riff, unsupported, form_part, size_of, chunk_length, sized, data_part, is_supported, described, coded, format_part, chunk_part, part_at}
use Rattle.wav_edge.specs.Reading.{IsHeaderFault}
use Rattle.wav_edge.proofs.FieldLemmas.{number_at-append}

-- a format that can be read has one channel or two
pub readable_channels : (channels rate : ℕ) → IsTrue (is_readable channels rate) → 1 ≤ channels
unfolding is_readable
readable_channels channels rate h = grind (arith, nat_tests)

-- a part that is passed over, or whose samples follow, is longer than k bytes
abbrev pub Beyond : ℕ → Part → Type 0
Beyond k More = Unit {0}
Beyond k (Passed seen len) = k < len
Beyond k (Samples channels rate size) = k < 8
Beyond k (Broken fault) = Unit {0}

-- what k bytes of a part say, and what they say with more after them: nothing yet, and then the part is
-- longer than they are, or the same
abbrev pub Settles : ℕ → Part → Part → Type 0
Settles k before after = ((before ≡ More) × Beyond k after) ⊎ (after ≡ before)

Beyond-le : (k n : ℕ) (p : Part) → k ≤ n → Beyond n p → Beyond k p
Beyond-le k n More h b = tt
Beyond-le k n (Passed seen len) h b = omega arith
Beyond-le k n (Samples channels rate size) h b = omega arith
Beyond-le k n (Broken fault) h b = tt

Beyond-once : (k n : ℕ) (bytes : List ℕ) (p : Part) → Beyond k p → Beyond k (once n bytes p)
Beyond-once k n bytes p b = elim (nat_le n (length bytes)) as (λ t. Beyond k (if t then p else More)) [ true ↦ b | false ↦ tt ]

pub once_short : (n : ℕ) (bytes : List ℕ) (p : Part) → length bytes < n → once n bytes p ≡ More
once_short n bytes p h = let e : nat_le n (length bytes) ≡ false = grind (arith, nat_tests) in rw e refl

pub once_there : (n : ℕ) (bytes : List ℕ) (p : Part) → n ≤ length bytes → once n bytes p ≡ p
once_there n bytes p h = let e : nat_le n (length bytes) ≡ true = grind (arith, nat_tests) in rw e refl

reached : (n k : ℕ) → (k < n) ⊎ (n ≤ k)
reached n k = elim (nat_le n k) as (λ t. nat_le n k ≡ t → (k < n) ⊎ (n ≤ k)) [ true ↦ λ e. inr (grind (arith, nat_tests)) | false ↦ λ e. inl (grind (arith, nat_tests)) ] refl

-- a test that waits for n bytes of a part that is at least so long
once_settles : (n m : ℕ) (xs ys : List ℕ) (p q : Part) → n ≡ suc m → Beyond m q →
    (n ≤ length xs → Settles (length xs) p q) → Settles (length xs) (once n xs p) (once n (xs ++ ys) q)
once_settles n m xs ys p q e far settles =
    elim (reached n (length xs)) [
      | inl short ↦ inl (once_short n xs p short, Beyond-once (length xs) n (xs ++ ys) q (Beyond-le (length xs) m q (omega arith) far))
      | inr there ↦ rw (once_there n xs p there, once_there n (xs ++ ys) q (omega (arith, length-append xs ys))) (settles there)
    ]

Beyond-if : (k : ℕ) (t : Bool) (p q : Part) → (t ≡ true → Beyond k p) → (t ≡ false → Beyond k q) → Beyond k (if t then p else q)
Beyond-if k true p q then_so else_so = then_so refl
Beyond-if k false p q then_so else_so = else_so refl

Settles-if : (k : ℕ) (t : Bool) (p q p' q' : Part) → (t ≡ true → Settles k p p') → (t ≡ false → Settles k q q') →
    Settles k (if t then p else q) (if t then p' else q')
Settles-if k true p q p' q' then_so else_so = then_so refl
Settles-if k false p q p' q' then_so else_so = else_so refl

not_less : (a b : ℕ) → nat_lt a b ≡ false → b ≤ a
not_less a b e = grind (arith, nat_tests)

described_beyond : (k codec at : ℕ) (bytes : List ℕ) → k < 8 + size_of bytes → Beyond k (described codec at bytes)
unfolding described
described_beyond k codec at bytes h =
    Beyond-if k (is_supported codec bytes) (Passed (Format (number_at 2 10 bytes) (number_at 4 12 bytes)) (chunk_length bytes)) (unsupported at bytes)
    (λ e. omega arith) (λ e. tt)

described_same : (codec at : ℕ) (xs ys : List ℕ) → 24 ≤ length xs → described codec at (xs ++ ys) ≡ described codec at xs
unfolding described is_supported
described_same codec at xs ys h =
    rw (
      number_at-append 4 4 xs ys (omega arith),
      number_at-append 2 8 xs ys (omega arith),
      number_at-append 2 10 xs ys (omega arith),
      number_at-append 4 12 xs ys (omega arith),
      number_at-append 2 22 xs ys (omega arith),
    ) refl

coded_beyond : (at : ℕ) (bytes : List ℕ) → 16 ≤ size_of bytes → Beyond 9 (coded at bytes)
unfolding coded
coded_beyond at bytes h =
    let extensible = described (number_at 2 32 bytes) at bytes in
    let plain = described (number_at 2 8 bytes) at bytes in
    Beyond-if 9 (number_at 2 8 bytes == 0xFFFE) (if nat_lt (size_of bytes) 40 then bad_riff (at + 4) else once 34 bytes extensible) (once 24 bytes plain)
    (λ e. Beyond-if 9 (nat_lt (size_of bytes) 40) (bad_riff (at + 4)) (once 34 bytes extensible)
    (λ f. tt) (λ f. Beyond-once 9 34 bytes extensible (described_beyond 9 (number_at 2 32 bytes) at bytes (omega arith))))
    (λ e. Beyond-once 9 24 bytes plain (described_beyond 9 (number_at 2 8 bytes) at bytes (omega arith)))

coded_settles : (at : ℕ) (xs ys : List ℕ) → 10 ≤ length xs → 16 ≤ size_of xs → Settles (length xs) (coded at xs) (coded at (xs ++ ys))
unfolding coded
coded_settles at xs ys there large =
    let size : size_of (xs ++ ys) ≡ size_of xs = number_at-append 4 4 xs ys (omega arith) in
    let extensible = described (number_at 2 32 xs) at xs in
    let extensible' = described (number_at 2 32 (xs ++ ys)) at (xs ++ ys) in
    let plain = described (number_at 2 8 xs) at xs in
    let plain' = described (number_at 2 8 xs) at (xs ++ ys) in
    rw (number_at-append 2 8 xs ys (omega arith), size)
    (Settles-if (length xs) (number_at 2 8 xs == 0xFFFE)
    (if nat_lt (size_of xs) 40 then bad_riff (at + 4) else once 34 xs extensible) (once 24 xs plain)
    (if nat_lt (size_of xs) 40 then bad_riff (at + 4) else once 34 (xs ++ ys) extensible') (once 24 (xs ++ ys) plain')
    (λ e. Settles-if (length xs) (nat_lt (size_of xs) 40) (bad_riff (at + 4)) (once 34 xs extensible) (bad_riff (at + 4)) (once 34 (xs ++ ys) extensible')
    (λ f. inr refl)
    (λ f. let far : 40 ≤ size_of xs = not_less (size_of xs) 40 f in
    once_settles 34 33 xs ys extensible extensible' refl (described_beyond 33 (number_at 2 32 (xs ++ ys)) at (xs ++ ys) (omega arith))
    (λ h. inr (ap (λ (n : ℕ). described n at (xs ++ ys)) (number_at-append 2 32 xs ys (omega arith)) ∙ described_same (number_at 2 32 xs) at xs ys (omega arith)))))
    (λ e. once_settles 24 23 xs ys plain plain' refl (described_beyond 23 (number_at 2 8 xs) at (xs ++ ys) (omega arith))
    (λ h. inr (described_same (number_at 2 8 xs) at xs ys h))))

sized_beyond : (channels rate at size : ℕ) → Beyond 7 (sized channels rate at size)
unfolding sized
sized_beyond channels rate at size =
    Beyond-if 7 (size == 0xFFFFFFFF) (Samples channels rate None) (if size % (2 * channels) == 0 then Samples channels rate (Some size) else bad_riff (at + 4))
    (λ e. omega arith)
    (λ e. Beyond-if 7 (size % (2 * channels) == 0) (Samples channels rate (Some size)) (bad_riff (at + 4)) (λ f. omega arith) (λ f. tt))

data_beyond : (seen : Seen) (at : ℕ) (bytes : List ℕ) → Beyond 7 (data_part seen at bytes)
unfolding data_part
data_beyond Nothing at bytes = tt
data_beyond Form at bytes = tt
data_beyond (Format channels rate) at bytes = Beyond-once 7 8 bytes _ (sized_beyond channels rate at (size_of bytes))

data_settles : (seen : Seen) (at : ℕ) (xs ys : List ℕ) → Settles (length xs) (data_part seen at xs) (data_part seen at (xs ++ ys))
unfolding data_part
data_settles Nothing at xs ys = inr refl
data_settles Form at xs ys = inr refl
data_settles (Format channels rate) at xs ys =
    once_settles 8 7 xs ys (sized channels rate at (size_of xs)) (sized channels rate at (size_of (xs ++ ys))) refl (sized_beyond channels rate at (size_of (xs ++ ys)))
    (λ h. inr (ap (sized channels rate at) (number_at-append 4 4 xs ys (omega arith))))

format_beyond : (seen : Seen) (at : ℕ) (bytes : List ℕ) → Beyond 7 (format_part seen at bytes)
unfolding format_part
format_beyond Nothing at bytes = tt
format_beyond Form at bytes =
    Beyond-once 7 8 bytes (if nat_lt (size_of bytes) 16 then bad_riff (at + 4) else once 10 bytes (coded at bytes))
    (Beyond-if 7 (nat_lt (size_of bytes) 16) (bad_riff (at + 4)) (once 10 bytes (coded at bytes)) (λ e. tt)
    (λ e. Beyond-once 7 10 bytes (coded at bytes) (Beyond-le 7 9 (coded at bytes) (omega arith) (coded_beyond at bytes (not_less (size_of bytes) 16 e)))))
format_beyond (Format channels rate) at bytes = tt

format_settles : (seen : Seen) (at : ℕ) (xs ys : List ℕ) → Settles (length xs) (format_part seen at xs) (format_part seen at (xs ++ ys))
unfolding format_part
format_settles Nothing at xs ys = inr refl
format_settles Form at xs ys =
    once_settles 8 7 xs ys (if nat_lt (size_of xs) 16 then bad_riff (at + 4) else once 10 xs (coded at xs))
    (if nat_lt (size_of (xs ++ ys)) 16 then bad_riff (at + 4) else once 10 (xs ++ ys) (coded at (xs ++ ys))) refl
    (Beyond-if 7 (nat_lt (size_of (xs ++ ys)) 16) (bad_riff (at + 4)) (once 10 (xs ++ ys) (coded at (xs ++ ys))) (λ e. tt)
    (λ e. Beyond-once 7 10 (xs ++ ys) (coded at (xs ++ ys))
    (Beyond-le 7 9 (coded at (xs ++ ys)) (omega arith) (coded_beyond at (xs ++ ys) (not_less (size_of (xs ++ ys)) 16 e)))))
    (λ h.
    let size : size_of (xs ++ ys) ≡ size_of xs = number_at-append 4 4 xs ys (omega arith) in
    rw size
    (Settles-if (length xs) (nat_lt (size_of xs) 16) (bad_riff (at + 4)) (once 10 xs (coded at xs)) (bad_riff (at + 4)) (once 10 (xs ++ ys) (coded at (xs ++ ys)))
    (λ e. inr refl)
    (λ e. let large : 16 ≤ size_of xs = not_less (size_of xs) 16 e in
    once_settles 10 9 xs ys (coded at xs) (coded at (xs ++ ys)) refl (coded_beyond at (xs ++ ys) (omega arith)) (λ there. coded_settles at xs ys there large))))
format_settles (Format channels rate) at xs ys = inr refl

-- a chunk whose letters are there
abbrev lettered : Seen → ℕ → List ℕ → List ℕ → Part
lettered seen at letters bytes =
    if fits data_letters letters then data_part seen at bytes
    else (if fits format_letters letters then format_part seen at bytes else once 8 bytes (Passed seen (chunk_length bytes)))

lettered_beyond : (seen : Seen) (at : ℕ) (letters bytes : List ℕ) → Beyond 7 (lettered seen at letters bytes)
lettered_beyond seen at letters bytes =
    Beyond-if 7 (fits data_letters letters) (data_part seen at bytes) (if fits format_letters letters then format_part seen at bytes else once 8 bytes (Passed seen (chunk_length bytes)))
    (λ e. data_beyond seen at bytes)
    (λ e. Beyond-if 7 (fits format_letters letters) (format_part seen at bytes) (once 8 bytes (Passed seen (chunk_length bytes)))
    (λ f. format_beyond seen at bytes) (λ f. Beyond-once 7 8 bytes (Passed seen (chunk_length bytes)) (omega arith)))

lettered_settles : (seen : Seen) (at : ℕ) (letters xs ys : List ℕ) → Settles (length xs) (lettered seen at letters xs) (lettered seen at letters (xs ++ ys))
lettered_settles seen at letters xs ys =
    Settles-if (length xs) (fits data_letters letters)
    (data_part seen at xs) (if fits format_letters letters then format_part seen at xs else once 8 xs (Passed seen (chunk_length xs)))
    (data_part seen at (xs ++ ys)) (if fits format_letters letters then format_part seen at (xs ++ ys) else once 8 (xs ++ ys) (Passed seen (chunk_length (xs ++ ys))))
    (λ e. data_settles seen at xs ys)
    (λ e. Settles-if (length xs) (fits format_letters letters)
    (format_part seen at xs) (once 8 xs (Passed seen (chunk_length xs)))
    (format_part seen at (xs ++ ys)) (once 8 (xs ++ ys) (Passed seen (chunk_length (xs ++ ys))))
    (λ f. format_settles seen at xs ys)
    (λ f. once_settles 8 7 xs ys (Passed seen (chunk_length xs)) (Passed seen (chunk_length (xs ++ ys))) refl (omega arith)
    (λ h. inr (ap (λ (n : ℕ). Passed seen (8 + n + n % 2)) (number_at-append 4 4 xs ys (omega arith))))))

chunk_settles : (seen : Seen) (at : ℕ) (xs ys : List ℕ) → Settles (length xs) (chunk_part seen at xs) (chunk_part seen at (xs ++ ys))
unfolding chunk_part
chunk_settles seen at xs ys =
    once_settles 4 3 xs ys (lettered seen at (take 4 xs) xs) (lettered seen at (take 4 (xs ++ ys)) (xs ++ ys)) refl
    (Beyond-le 3 7 (lettered seen at (take 4 (xs ++ ys)) (xs ++ ys)) (omega arith) (lettered_beyond seen at (take 4 (xs ++ ys)) (xs ++ ys)))
    (λ h. rw (take-append-le 4 xs ys h) (lettered_settles seen at (take 4 xs) xs ys))

and_true : (a b c : Bool) → (a && b) ≡ true → (b ≡ true → c ≡ true) → (a && c) ≡ true
and_true true b c h then_so = then_so h
and_true false b c h then_so = h

-- a word that fits a longer beginning of a field fits a shorter one
fits_shorter : (word : List ℕ) (n : ℕ) (xs ys : List ℕ) → fits word (take n (xs ++ ys)) ≡ true → fits word (take n xs) ≡ true
unfolding fits
fits_shorter word zero xs ys h = refl
fits_shorter word (suc n) [] ys h = refl
fits_shorter [] (suc n) (x ∷ xs) ys h = cc
fits_shorter (w ∷ word) (suc n) (x ∷ xs) ys h =
    and_true (nat_eq x w) (fits word (take n (xs ++ ys))) (fits word (take n xs)) h (fits_shorter word n xs ys)

-- nothing of a field is there yet
fits_nothing : (word : List ℕ) → fits word [] ≡ true
unfolding fits
fits_nothing word = refl

-- the head of the form, once its first word was tested
abbrev waved : List ℕ → Part
waved bytes = if fits wave (take 4 (drop 8 bytes)) then once 12 bytes (Passed Form 12) else bad_riff 8

same_fits : (word xs ys : List ℕ) → 4 ≤ length xs → fits word (take 4 (xs ++ ys)) ≡ fits word (take 4 xs)
same_fits word xs ys h = ap (fits word) (take-append-le 4 xs ys h)

longer_misfit : (word xs ys : List ℕ) → fits word (take 4 xs) ≡ false → fits word (take 4 (xs ++ ys)) ≡ false
longer_misfit word xs ys h =
    elim (fits word (take 4 (xs ++ ys))) as (λ t. fits word (take 4 (xs ++ ys)) ≡ t → t ≡ false) [
      | true ↦ λ e. let f = fits_shorter word 4 xs ys e in cc
      | false ↦ λ e. refl
    ] refl

waved_beyond : (k : ℕ) (bytes : List ℕ) → k < 12 → Beyond k (waved bytes)
waved_beyond k bytes h =
    Beyond-if k (fits wave (take 4 (drop 8 bytes))) (once 12 bytes (Passed Form 12)) (bad_riff 8)
    (λ e. Beyond-once k 12 bytes (Passed Form 12) h) (λ e. tt)

waved_settles : (xs ys : List ℕ) → Settles (length xs) (waved xs) (waved (xs ++ ys))
waved_settles xs ys =
    elim (reached 9 (length xs)) [
      | inl short ↦
          let none : drop 8 xs ≡ [] = drop_all 8 xs (omega arith) in
          let early : waved xs ≡ More = rw (none, fits_nothing wave) (once_short 12 xs (Passed Form 12) (omega arith)) in
          inl (early, waved_beyond (length xs) (xs ++ ys) (omega arith))
      | inr there ↦
          let seam : drop 8 (xs ++ ys) ≡ drop 8 xs ++ ys = drop-append-le 8 xs ys (omega arith) in
          let reach = waved_beyond (length xs) (xs ++ ys) in
          elim (fits wave (take 4 (drop 8 xs))) as (λ t. fits wave (take 4 (drop 8 xs)) ≡ t → Settles (length xs) (if t then once 12 xs (Passed Form 12) else bad_riff 8) (waved (xs ++ ys))) [
            | true ↦ λ e. elim (reached 12 (length xs)) [
              | inl short ↦ inl (once_short 12 xs (Passed Form 12) short, reach short)
              | inr whole ↦
                  let same : fits wave (take 4 (drop 8 xs ++ ys)) ≡ true = same_fits wave (drop 8 xs) ys (omega (arith, length-drop 8 xs)) ∙ e in
                  inr (rw (seam, same, once_there 12 (xs ++ ys) (Passed Form 12) (omega (arith, length-append xs ys)), once_there 12 xs (Passed Form 12) whole) refl)
            ]
            | false ↦ λ e. let wrong = longer_misfit wave (drop 8 xs) ys e in inr (rw (seam, wrong) refl)
          ] refl
    ]

form_settles : (xs ys : List ℕ) → Settles (length xs) (form_part xs) (form_part (xs ++ ys))
unfolding form_part
form_settles xs ys =
    elim (reached 4 (length xs)) [
      | inl short ↦
          elim (fits riff (take 4 xs)) as (λ t. fits riff (take 4 xs) ≡ t → Settles (length xs) (if t then waved xs else bad_riff 0) (form_part (xs ++ ys))) [
            | true ↦ λ e.
                let none : drop 8 xs ≡ [] = drop_all 8 xs (omega arith) in
                let early : waved xs ≡ More = rw (none, fits_nothing wave) (once_short 12 xs (Passed Form 12) (omega arith)) in
                inl (
                  early,
                  Beyond-if (length xs) (fits riff (take 4 (xs ++ ys))) (waved (xs ++ ys)) (bad_riff 0)
                      (λ f. waved_beyond (length xs) (xs ++ ys) (omega arith)) (λ f. tt),
                )
            | false ↦ λ e. let wrong = longer_misfit riff xs ys e in inr (rw wrong refl)
          ] refl
      | inr there ↦
          rw (same_fits riff xs ys there)
          (Settles-if (length xs) (fits riff (take 4 xs)) (waved xs) (bad_riff 0) (waved (xs ++ ys)) (bad_riff 0) (λ e. waved_settles xs ys) (λ e. inr refl))
    ]

-- more bytes of a part leave what was said of it, or it is longer than the bytes of which nothing was said
pub part_settles : (seen : Seen) (at : ℕ) (xs ys : List ℕ) → Settles (length xs) (part_at seen at xs) (part_at seen at (xs ++ ys))
unfolding part_at
part_settles Nothing at xs ys = form_settles xs ys
part_settles Form at xs ys = chunk_settles Form at xs ys
part_settles (Format channels rate) at xs ys = chunk_settles (Format channels rate) at xs ys

-- what k bytes of a part can say: nothing, of fewer than 34; the format of a part that is passed over can be
-- read; the samples follow eight bytes; a fault is BadRiff or UnsupportedFormat
abbrev pub IsTold : ℕ → Part → Type 0
IsTold k More = k < 34
IsTold k (Passed seen len) = can_follow seen ≡ true
IsTold k (Samples channels rate size) = (8 ≤ k) × (is_readable channels rate ≡ true)
IsTold k (Broken fault) = IsHeaderFault fault.name

told_once : (n : ℕ) (bytes : List ℕ) (p : Part) → n ≤ 34 → (n ≤ length bytes → IsTold (length bytes) p) → IsTold (length bytes) (once n bytes p)
told_once n bytes p small told =
    elim (reached n (length bytes)) [
      | inl short ↦ rw (once_short n bytes p short) (omega arith)
      | inr there ↦ rw (once_there n bytes p there) (told there)
    ]

told_if : (k : ℕ) (t : Bool) (p q : Part) → (t ≡ true → IsTold k p) → (t ≡ false → IsTold k q) → IsTold k (if t then p else q)
told_if k true p q then_so else_so = then_so refl
told_if k false p q then_so else_so = else_so refl

last_true : (a b c : Bool) → (a && b && c) ≡ true → c ≡ true
last_true true true c h = h
last_true true false c h = cc
last_true false b c h = cc

described_told : (k codec at : ℕ) (bytes : List ℕ) → IsTold k (described codec at bytes)
unfolding described is_supported
described_told k codec at bytes =
    told_if k (is_supported codec bytes) (Passed (Format (number_at 2 10 bytes) (number_at 4 12 bytes)) (chunk_length bytes)) (unsupported at bytes)
    (λ e. last_true (codec == 1) (number_at 2 22 bytes == 16) (is_readable (number_at 2 10 bytes) (number_at 4 12 bytes)) e) (λ e. tt)

coded_told : (at : ℕ) (bytes : List ℕ) → IsTold (length bytes) (coded at bytes)
unfolding coded
coded_told at bytes =
    let extensible = described (number_at 2 32 bytes) at bytes in
    let plain = described (number_at 2 8 bytes) at bytes in
    let told : (n : ℕ) → IsTold (length bytes) (described n at bytes) = λ n. described_told (length bytes) n at bytes in
    told_if (length bytes) (number_at 2 8 bytes == 0xFFFE) (if nat_lt (size_of bytes) 40 then bad_riff (at + 4) else once 34 bytes extensible) (once 24 bytes plain)
    (λ e. told_if (length bytes) (nat_lt (size_of bytes) 40) (bad_riff (at + 4)) (once 34 bytes extensible) (λ f. tt)
    (λ f. told_once 34 bytes extensible (omega arith) (λ h. told (number_at 2 32 bytes))))
    (λ e. told_once 24 bytes plain (omega arith) (λ h. told (number_at 2 8 bytes)))

format_told : (seen : Seen) (at : ℕ) (bytes : List ℕ) → IsTold (length bytes) (format_part seen at bytes)
unfolding format_part
format_told Nothing at bytes = tt
format_told Form at bytes =
    told_once 8 bytes (if nat_lt (size_of bytes) 16 then bad_riff (at + 4) else once 10 bytes (coded at bytes)) (omega arith)
    (λ h. told_if (length bytes) (nat_lt (size_of bytes) 16) (bad_riff (at + 4)) (once 10 bytes (coded at bytes)) (λ e. tt)
    (λ e. told_once 10 bytes (coded at bytes) (omega arith) (λ there. coded_told at bytes)))
format_told (Format channels rate) at bytes = tt

sized_told : (channels rate at size k : ℕ) → 8 ≤ k → is_readable channels rate ≡ true → IsTold k (sized channels rate at size)
unfolding sized
sized_told channels rate at size k h readable =
    told_if k (size == 0xFFFFFFFF) (Samples channels rate None) (if size % (2 * channels) == 0 then Samples channels rate (Some size) else bad_riff (at + 4))
    (λ e. (h, readable))
    (λ e. told_if k (size % (2 * channels) == 0) (Samples channels rate (Some size)) (bad_riff (at + 4)) (λ f. (h, readable)) (λ f. tt))

data_told : (seen : Seen) (at : ℕ) (bytes : List ℕ) → can_follow seen ≡ true → IsTold (length bytes) (data_part seen at bytes)
unfolding data_part
data_told Nothing at bytes h = tt
data_told Form at bytes h = tt
data_told (Format channels rate) at bytes h =
    told_once 8 bytes (sized channels rate at (size_of bytes)) (omega arith) (λ there. sized_told channels rate at (size_of bytes) (length bytes) there h)

chunk_told : (seen : Seen) (at : ℕ) (bytes : List ℕ) → can_follow seen ≡ true → IsTold (length bytes) (chunk_part seen at bytes)
unfolding chunk_part
chunk_told seen at bytes h =
    let letters = take 4 bytes in
    told_once 4 bytes (lettered seen at letters bytes) (omega arith) (λ there.
    told_if (length bytes) (fits data_letters letters) (data_part seen at bytes) (if fits format_letters letters then format_part seen at bytes else once 8 bytes (Passed seen (chunk_length bytes)))
    (λ e. data_told seen at bytes h)
    (λ e. told_if (length bytes) (fits format_letters letters) (format_part seen at bytes) (once 8 bytes (Passed seen (chunk_length bytes)))
    (λ f. format_told seen at bytes) (λ f. told_once 8 bytes (Passed seen (chunk_length bytes)) (omega arith) (λ whole. h))))

form_told : (bytes : List ℕ) → IsTold (length bytes) (form_part bytes)
unfolding form_part
form_told bytes =
    told_if (length bytes) (fits riff (take 4 bytes)) (waved bytes) (bad_riff 0)
    (λ e. told_if (length bytes) (fits wave (take 4 (drop 8 bytes))) (once 12 bytes (Passed Form 12)) (bad_riff 8)
    (λ f. told_once 12 bytes (Passed Form 12) (omega arith) (λ there. refl)) (λ f. tt))
    (λ e. tt)

pub part_told : (seen : Seen) (at : ℕ) (bytes : List ℕ) → can_follow seen ≡ true → IsTold (length bytes) (part_at seen at bytes)
unfolding part_at
part_told Nothing at bytes h = form_told bytes
part_told Form at bytes h = chunk_told Form at bytes h
part_told (Format channels rate) at bytes h = chunk_told (Format channels rate) at bytes h

-- no byte tells nothing
pub nothing_told : (seen : Seen) (at : ℕ) → part_at seen at [] ≡ More
unfolding part_at form_part chunk_part
nothing_told Nothing at = rw (fits_nothing riff, fits_nothing wave) refl
nothing_told Form at = refl
nothing_told (Format channels rate) at = refl

pub is_more-More : (p : Part) → IsTrue (is_more p) → p ≡ More
is_more-More More h = refl
is_more-More (Passed seen len) h = cc
is_more-More (Samples channels rate size) h = cc
is_more-More (Broken fault) h = cc
