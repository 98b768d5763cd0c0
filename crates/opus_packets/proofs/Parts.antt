-- Lemmas on parts that follow one another.
use Rattle.std.proofs.Common.{◌≡◌, ℕ, zero, suc, ◌+◌, ◌*◌, ◌≤◌, List, [], ◌∷◌, ◌++◌, map, length, take, drop, replicate, sum, refl, ap, arith, ◌∙◌, sym, append_assoc}
use Rattle.std.specs.List.{concat}
use Rattle.std.proofs.lemmas.List.{take_at, drop_at, length-append, length-take-le, length-drop}
use Rattle.std.proofs.Math.Nat.{zero-mul, suc-mul}
use Rattle.std.proofs.Math.Seq.{take-add}
use Rattle.opus_packets.specs.Cut.{parts}
use Rattle.opus_packets.proofs.Cuts.{sum_cons}

-- the parts of joined lists, by their lengths, are these lists
pub parts_of : (fs : List (List ℕ)) (rest : List ℕ) → parts (map length fs) (concat fs ++ rest) ≡ fs
parts_of [] rest = refl
parts_of (f ∷ fs) rest =
    rw (append_assoc f (concat fs) rest, take_at f (concat fs ++ rest) (length f) refl, drop_at f (concat fs ++ rest) (length f) refl, parts_of fs rest) refl

-- joined lists are as long as all of them
pub length_concat : (fs : List (List ℕ)) → length (concat fs) ≡ sum (map length fs)
length_concat [] = refl
length_concat (f ∷ fs) = length-append f (concat fs) ∙ ap (λ n. length f + n) (length_concat fs) ∙ sym (sum_cons (length f) (map length fs))

sum_product : (n m : ℕ) → m + n * m ≡ suc n * m
sum_product n m = omega (arith, suc-mul n m)

-- equal numbers add up to a product
pub sum_replicate : (n m : ℕ) → sum (replicate n m) ≡ n * m
sum_replicate zero m = sym (zero-mul m)
sum_replicate (suc n) m = sum_cons m (replicate n m) ∙ ap (λ k. m + k) (sum_replicate n m) ∙ sum_product n m

-- the parts have these lengths, where there are bytes enough
pub lengths_of_parts : (ns bytes : List ℕ) → sum ns ≤ length bytes → map length (parts ns bytes) ≡ ns
lengths_of_parts [] bytes enough = refl
lengths_of_parts (n ∷ ns) bytes enough =
    let s : sum (n ∷ ns) ≡ n + sum ns = sum_cons n ns in
    let here : n ≤ length bytes = omega arith in
    let rest : sum ns ≤ length (drop n bytes) = omega (arith, length-drop n bytes) in
    rw (length-take-le n bytes here, lengths_of_parts ns (drop n bytes) rest) refl

-- and joined again they are the front of the bytes
pub concat_parts : (ns bytes : List ℕ) → sum ns ≤ length bytes → concat (parts ns bytes) ≡ take (sum ns) bytes
concat_parts [] bytes enough = refl
concat_parts (n ∷ ns) bytes enough =
    let s : sum (n ∷ ns) ≡ n + sum ns = sum_cons n ns in
    let rest : sum ns ≤ length (drop n bytes) = omega (arith, length-drop n bytes) in
    rw (concat_parts ns (drop n bytes) rest, s) (sym (take-add n (sum ns) bytes))
