-- Lists that are cut at two places, and the bytes of samples.
use Rattle.std.proofs.Common.{◌≡◌, ℕ, ℤ, zero, suc, ◌-◌, ◌*◌, ◌≤◌, ◌<◌, List, [], ◌∷◌, ◌++◌, length, take, drop, refl, sym, ◌∙◌, ap, arith, append_assoc, length-drop, min, ◌⊎◌, inl, inr, subst}
use Rattle.std.specs.List.{slice_range}
use Rattle.std.proofs.lemmas.List.{take_all, drop_all}
use Rattle.std.proofs.lemmas.Bool.{cases_lt}
use Rattle.wav_edge.specs.Samples.{bytes_of}
use Rattle.std.specs.Int.{w16, to_le_bytes, cast_unsigned}

take-none : {X : Type 0} (n : ℕ) → take {A = X} n [] ≡ []
take-none zero = refl
take-none (suc n) = refl

drop-none : {X : Type 0} (n : ℕ) → drop {A = X} n [] ≡ []
drop-none zero = refl
drop-none (suc n) = refl

drop-parts : {X : Type 0} (n : ℕ) (u v : List X) → drop n (u ++ v) ≡ drop n u ++ drop (n - length u) v
drop-parts n [] v = let e : n ≡ n - 0 = omega arith in ap (λ k. drop k v) e ∙ ap (λ l. l ++ drop (n - 0) v) (sym (drop-none n))
drop-parts zero (x ∷ u) v = let e : 0 ≡ 0 - length (x ∷ u) = omega arith in ap (λ k. (x ∷ u) ++ drop k v) e
drop-parts (suc n) (x ∷ u) v = let e : n - length u ≡ suc n - length (x ∷ u) = omega arith in drop-parts n u v ∙ ap (λ k. drop n u ++ drop k v) e

take-parts : {X : Type 0} (n : ℕ) (u v : List X) → take n (u ++ v) ≡ take n u ++ take (n - length u) v
take-parts n [] v = let e : n ≡ n - 0 = omega arith in ap (λ k. take k v) e ∙ ap (λ l. l ++ take (n - 0) v) (sym (take-none n))
take-parts zero (x ∷ u) v = let e : 0 ≡ 0 - length (x ∷ u) = omega arith in ap (λ k. take k v) e
take-parts (suc n) (x ∷ u) v = let e : n - length u ≡ suc n - length (x ∷ u) = omega arith in ap (λ l. x ∷ l) (take-parts n u v ∙ ap (λ k. take n u ++ take k v) e)

-- of two lists, one behind the other
pub slice-parts : {X : Type 0} (from to : ℕ) (u v : List X) → slice_range (u ++ v) from to ≡ slice_range u from to ++ slice_range v (from - length u) (to - length u)
slice-parts from to u v =
    let left = length-drop from u in
    let rest : to - from - length (drop from u) ≡ (to - length u) - (from - length u) = omega arith in
    ap (take (to - from)) (drop-parts from u v) ∙ take-parts (to - from) (drop from u) (drop (from - length u) v)
    ∙ ap (λ k. take (to - from) (drop from u) ++ take k (drop (from - length u) v)) rest

pub slice-none : {X : Type 0} (from to : ℕ) → slice_range {X = X} [] from to ≡ []
slice-none from to = ap (take (to - from)) (drop-none from) ∙ take-none (to - from)

pub bytes-append : (u v : List ℤ) → bytes_of (u ++ v) ≡ bytes_of u ++ bytes_of v
unfolding bytes_of
bytes-append [] v = refl
bytes-append (x ∷ u) v = ap (λ l. to_le_bytes w16 (cast_unsigned w16 x) ++ l) (bytes-append u v) ∙ sym (append_assoc (to_le_bytes w16 (cast_unsigned w16 x)) (bytes_of u) (bytes_of v))

-- a cut that is held within the list
pub slice-min : {X : Type 0} (xs : List X) (from to : ℕ) → slice_range xs (min from (length xs)) (min to (length xs)) ≡ slice_range xs from to
slice-min xs from to = by (cases_lt from (length xs)) where
  by : (from < length xs) ⊎ (length xs ≤ from) → slice_range xs (min from (length xs)) (min to (length xs)) ≡ slice_range xs from to
  by (inl h) =
      let left = length-drop from xs in
      let e : min from (length xs) ≡ from = omega arith in
      ap (λ n. take (min to (length xs) - n) (drop n xs)) e
      ∙ within (cases_lt to (length xs)) where
        within : (to < length xs) ⊎ (length xs ≤ to) → take (min to (length xs) - from) (drop from xs) ≡ take (to - from) (drop from xs)
        within (inl k) = let e : min to (length xs) - from ≡ to - from = omega arith in ap (λ n. take n (drop from xs)) e
        within (inr k) =
            let left = length-drop from xs in
            take_all (min to (length xs) - from) (drop from xs) (omega arith) ∙ sym (take_all (to - from) (drop from xs) (omega arith))
  by (inr h) =
      let e : min from (length xs) ≡ length xs = omega arith in
      ap (λ n. take (min to (length xs) - n) (drop n xs)) e
      ∙ ap (take (min to (length xs) - length xs)) (drop_all (length xs) xs (omega arith)) ∙ take-none (min to (length xs) - length xs)
      ∙ sym (ap (take (to - from)) (drop_all from xs h) ∙ take-none (to - from))

-- where a sample stands
pub place_is : (channels sample len : ℕ) → (channels ≡ 1) ⊎ (channels ≡ 2) → len ≤ 1920 → min (min sample 1920 * channels) len ≡ min (channels * sample) len
place_is channels sample len (inl e) h = subst (λ c. min (min sample 1920 * c) len ≡ min (c * sample) len) (sym e) (omega arith)
place_is channels sample len (inr e) h = subst (λ c. min (min sample 1920 * c) len ≡ min (c * sample) len) (sym e) (omega arith)

pub none_behind : {X : Type 0} (xs : List X) (from to : ℕ) → min to (length xs) ≤ min from (length xs) → slice_range xs from to ≡ []
none_behind xs from to h =
    let e : min to (length xs) - min from (length xs) ≡ 0 = omega arith in
    sym (slice-min xs from to) ∙ ap (λ n. take n (drop (min from (length xs)) xs)) e

-- behind so many samples
pub behind_is : (channels place count : ℕ) → (channels ≡ 1) ⊎ (channels ≡ 2) → channels * (place - count) ≡ channels * place - count * channels
behind_is channels place count (inl e) = subst (λ c. c * (place - count) ≡ c * place - count * c) (sym e) (omega arith)
behind_is channels place count (inr e) = subst (λ c. c * (place - count) ≡ c * place - count * c) (sym e) (omega arith)

pub no_bytes : (xs : List ℤ) → xs ≡ [] → bytes_of xs ≡ []
unfolding bytes_of
no_bytes xs e = ap bytes_of e
