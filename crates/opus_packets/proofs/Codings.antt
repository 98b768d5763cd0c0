-- Lemmas on lengths and padding in octets, as loops read them one by one.
use Rattle.std.proofs.Common.{◌≡◌, ℕ, suc, ◌+◌, ◌-◌, ◌*◌, ◌<◌, ◌≤◌, List, [], ◌∷◌, ◌++◌, All, length, drop, slice_index, Option, Some, None, option_map, refl, ap, arith, ◌∙◌, add-zero, zero-add, append_assoc, min, nat_lt, ◌==◌, true, false, ◌≢◌, inl, inr}
use Rattle.std.proofs.lemmas.List.{drop-drop, drop_more, drop_all, append-nil, length_push, length-drop}
use Rattle.std.proofs.Math.Nat.{sub-zero}
use Rattle.std.proofs.lemmas.Bool.{cases_eq}
use Rattle.std.proofs.lemmas.List.Elements.{All-push}
use Rattle.std.proofs.lemmas.Bool.Decides.{nat_tests}
use Rattle.opus_packets.specs.declared.octets.Coded.{Coded}
use Rattle.opus_packets.specs.Packet.{length_at, lengths_at, padding_at, fitting, Lengths, with_first, with_254_more}

-- what is read after lengths that were read before
abbrev pub joined : ℕ → List ℕ → Option Lengths → Option Lengths
joined t vs None = None
joined t vs (Some l) = Some (record { values = vs ++ l.values; taken = t + l.taken })

joined_start : (o : Option Lengths) → o ≡ joined 0 [] o
joined_start None = refl
joined_start (Some l) = rw (zero-add l.taken) refl

joined_end : (t : ℕ) (vs bytes : List ℕ) → joined t vs (lengths_at 0 bytes) ≡ Some (record { values = vs; taken = t })
unfolding lengths_at
joined_end t vs bytes = rw (append-nil vs, add-zero t) refl

joined_twice : (t : ℕ) (c : Coded) (vs : List ℕ) (o : Option Lengths) → joined t vs (option_map (with_first c) o) ≡ joined (t + c.taken) (vs ++ c.value ∷ []) o
joined_twice t c vs None = refl
joined_twice t c vs (Some l) =
    let a : t + (c.taken + l.taken) ≡ t + c.taken + l.taken = omega arith in
    rw (append_assoc, a) refl

-- one more length, which is whole
joined_more : (t n : ℕ) (vs bytes : List ℕ) (c : Coded) → length_at (drop t bytes) ≡ Some c
    → joined t vs (lengths_at (suc n) (drop t bytes)) ≡ joined (t + c.taken) (vs ++ c.value ∷ []) (lengths_at n (drop (t + c.taken) bytes))
unfolding lengths_at
joined_more t n vs bytes c e = rw (e, drop-drop c.taken t bytes) (joined_twice t c vs (lengths_at n (drop (t + c.taken) bytes)))

-- one more length, which is not
joined_none : (t n : ℕ) (vs bytes : List ℕ) → length_at (drop t bytes) ≡ None → joined t vs (lengths_at (suc n) (drop t bytes)) ≡ None
unfolding lengths_at
joined_none t n vs bytes e = rw e refl

-- k of n lengths have been read, and t octets
pub record Reading (n : ℕ) (bytes : List ℕ) (k t : ℕ) (vs : List ℕ) : Type 0 where
  pub count : length vs ≡ k
  pub within : t ≤ length bytes
  pub short : t ≤ 2 * k
  pub limited : All (λ v. v ≤ 1275) vs
  pub rest : lengths_at n bytes ≡ joined t vs (lengths_at (n - k) (drop t bytes))

pub reading_start : (n : ℕ) (bytes : List ℕ) → Reading n bytes 0 0 []
reading_start n bytes = record {
  count = refl;
  within = omega arith;
  short = omega arith;
  limited = λ k d less. absurd (omega arith);
  rest = rw (sub-zero n) (joined_start (lengths_at n bytes));
}

pub reading_more : (n k t : ℕ) (bytes vs ws : List ℕ) (c : Coded) → Reading n bytes k t vs → k < n → length_at (drop t bytes) ≡ Some c → c.taken ≤ length (drop t bytes) → c.taken ≤ 2 → c.value ≤ 1275 → ws ≡ vs ++ c.value ∷ [] → Reading n bytes (k + 1) (t + c.taken) ws
reading_more n k t bytes vs ws c r less e fits two most is =
    let left : n - k ≡ suc (n - (k + 1)) = omega arith in
    record {
      count = ap length is ∙ length_push vs c.value ∙ ap (λ m. m + 1) r.count;
      within = omega (arith, length-drop t bytes, r.within);
      short = omega (arith, r.short);
      limited = rw is (All-push (λ v. v ≤ 1275) vs c.value r.limited most);
      rest = rw is (r.rest ∙ ap (λ m. joined t vs (lengths_at m (drop t bytes))) left ∙ joined_more t (n - (k + 1)) vs bytes c e);
    }

pub reading_none : (n k t : ℕ) (bytes vs : List ℕ) → Reading n bytes k t vs → k < n → length_at (drop t bytes) ≡ None → lengths_at n bytes ≡ None
reading_none n k t bytes vs r less e =
    let left : n - k ≡ suc (n - (k + 1)) = omega arith in
    r.rest ∙ ap (λ m. joined t vs (lengths_at m (drop t bytes))) left ∙ joined_none t (n - (k + 1)) vs bytes e

pub reading_end : (n k t : ℕ) (bytes vs : List ℕ) → Reading n bytes k t vs → n ≤ k → lengths_at n bytes ≡ Some (record { values = vs; taken = t })
reading_end n k t bytes vs r end =
    let left : n - k ≡ 0 = omega arith in
    r.rest ∙ ap (λ m. joined t vs (lengths_at m (drop t bytes))) left ∙ joined_end t vs (drop t bytes)

-- what padding is read after padding that was read before
abbrev pub after : ℕ → ℕ → Option Coded → Option Coded
after v t None = None
after v t (Some c) = Some (record { value = v + c.value; taken = t + c.taken })

after_start : (o : Option Coded) → o ≡ after 0 0 o
after_start None = refl
after_start (Some c) = rw (zero-add c.value, zero-add c.taken) refl

after_more : (v t : ℕ) (o : Option Coded) → after v t (option_map with_254_more o) ≡ after (v + 254) (t + 1) o
after_more v t None = refl
after_more v t (Some c) =
    let a : v + (254 + c.value) ≡ v + 254 + c.value = omega arith in
    let b : t + (1 + c.taken) ≡ t + 1 + c.taken = omega arith in
    rw (a, b) refl

after_not_fitting : (room v t : ℕ) (o : Option Coded) → room < t + v → fitting room (after v t o) ≡ None
after_not_fitting room v t None more = refl
after_not_fitting room v t (Some c) more =
    let test : nat_lt room (t + c.taken + (v + c.value)) ≡ true = grind (arith, nat_tests) in
    rw test refl

-- the octets at place t say the rest of the padding, of which v octets were said before
pub record Padded (bytes : List ℕ) (t v : ℕ) : Type 0 where
  pub within : t + v ≤ length bytes
  pub rest : padding_at bytes ≡ after v t (padding_at (drop t bytes))

pub padded_start : (bytes : List ℕ) → Padded bytes 0 0
padded_start bytes = record { within = omega arith; rest = after_start (padding_at bytes) }

at_255 : (v t : ℕ) (rest : List ℕ) → after v t (padding_at (255 ∷ rest)) ≡ after (v + 254) (t + 1) (padding_at rest)
unfolding padding_at
at_255 v t rest = after_more v t (padding_at rest)

at_last : (v t b : ℕ) (rest : List ℕ) → b ≢ 255 → after v t (padding_at (b ∷ rest)) ≡ Some (record { value = v + b; taken = t + 1 })
unfolding padding_at
at_last v t b rest other =
    let test : (b == 255) ≡ false = grind (arith, nat_tests) in
    rw test refl

step_255 : (bytes : List ℕ) (t v : ℕ) → Padded bytes t v → t < length bytes → slice_index bytes t ≡ 255 → padding_at bytes ≡ after (v + 254) (t + 1) (padding_at (drop (t + 1) bytes))
step_255 bytes t v p less e =
    p.rest ∙ ap (λ xs. after v t (padding_at xs)) (drop_more bytes t 0 less) ∙ ap (λ b. after v t (padding_at (b ∷ drop (t + 1) bytes))) e ∙ at_255 v t (drop (t + 1) bytes)

step_last : (bytes : List ℕ) (t v : ℕ) → Padded bytes t v → t < length bytes → slice_index bytes t ≢ 255 → padding_at bytes ≡ Some (record { value = v + slice_index bytes t; taken = t + 1 })
step_last bytes t v p less other =
    p.rest ∙ ap (λ xs. after v t (padding_at xs)) (drop_more bytes t 0 less) ∙ at_last v t (slice_index bytes t) (drop (t + 1) bytes) other

pub padded_more : (bytes : List ℕ) (t v w : ℕ) → Padded bytes t v → t < length bytes → slice_index bytes t ≡ 255 → w ≡ v + min (slice_index bytes t) 254 → t + 1 + w ≤ length bytes → Padded bytes (t + 1) w
padded_more bytes t v w p less e is fits =
    let same : v + 254 ≡ w = omega arith in
    record { within = fits; rest = step_255 bytes t v p less e ∙ ap (λ x. after x (t + 1) (padding_at (drop (t + 1) bytes))) same }

pub padded_long : (bytes : List ℕ) (t v w : ℕ) → Padded bytes t v → t < length bytes → slice_index bytes t < 256 → w ≡ v + min (slice_index bytes t) 254 → length bytes < t + 1 + w → fitting (length bytes) (padding_at bytes) ≡ None
padded_long bytes t v w p less byte is long =
    elim (cases_eq (slice_index bytes t) 255) [
      | inl e ↦
          let more : length bytes < t + 1 + (v + 254) = omega arith in
          rw (step_255 bytes t v p less e) (after_not_fitting (length bytes) (v + 254) (t + 1) (padding_at (drop (t + 1) bytes)) more)
      | inr other ↦
          let test : nat_lt (length bytes) (t + 1 + (v + slice_index bytes t)) ≡ true = grind (arith, nat_tests) in
          rw (step_last bytes t v p less other, test) refl
    ]

pub padded_last : (bytes : List ℕ) (t v w : ℕ) → Padded bytes t v → t < length bytes → slice_index bytes t < 255 → w ≡ v + min (slice_index bytes t) 254 → t + 1 + w ≤ length bytes → fitting (length bytes) (padding_at bytes) ≡ Some (record { value = w; taken = t + 1 })
padded_last bytes t v w p less last is fits =
    let other : slice_index bytes t ≢ 255 = omega arith in
    let same : v + slice_index bytes t ≡ w = omega arith in
    let test : nat_lt (length bytes) (t + 1 + w) ≡ false = grind (arith, nat_tests) in
    rw (step_last bytes t v p less other, same, test) refl

pub padded_none : (bytes : List ℕ) (t v : ℕ) → Padded bytes t v → length bytes ≤ t → fitting (length bytes) (padding_at bytes) ≡ None
unfolding padding_at
padded_none bytes t v p end = rw (p.rest, drop_all t bytes end) refl
