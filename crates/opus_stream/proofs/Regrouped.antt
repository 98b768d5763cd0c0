-- Lacing values and bytes that leave nothing open are those of whole packets.
use Rattle.std.proofs.Common.{◌≡◌, ℕ, zero, suc, ◌+◌, ◌-◌, ◌*◌, ◌/◌, ◌%◌, ◌<◌, ◌≤◌, Bool, true, false, List, [], ◌∷◌, ◌++◌, length, take, drop, sum, get_or, replicate, map, refl, sym, ◌∙◌, ap, subst, arith, append_assoc, append-nil, length-append, length-drop, ◌⊎◌, inl, inr}
use Rattle.std.specs.Prelude.{◌==◌, ◌&&◌, ◌||◌, slice_index}
use Rattle.std.specs.List.{flat_map, concat, list_any, list_all}
use Rattle.std.proofs.lemmas.Bool.{cases_Bool, cases_lt, lt-ltb, le-ltb, ltb-true, ltb-false, eq-eqb}
use Rattle.std.proofs.lemmas.List.{take-append-drop}
use Rattle.opus_packets.specs.Cut.{parts}
use Rattle.ogg_pages.specs.Lacings.{EndsPacket}
use Rattle.ogg_pages.specs.Spelling.{packet_lacing}
use Rattle.ogg_pages.proofs.Laced.{packet_only}
use Rattle.opus_stream.specs.Packets.{ends, lengths_from, holds_packet}
use Rattle.opus_stream.specs.Carrying.{lacing_of}
use Rattle.opus_stream.proofs.Tallying.{lengths-longer, lengths-ended, lengths-none}
use Rattle.opus_stream.proofs.Joining.{sum-cons}

-- ---- parts of a list

pub map-parts : (ns xs : List ℕ) → sum ns ≤ length xs → map length (parts ns xs) ≡ ns
map-parts [] xs h = refl
map-parts (n ∷ ns) xs h =
    let s = sum-cons n ns in
    let first : length (take n xs) ≡ n = Rattle.std.proofs.lemmas.List.length-take-le n xs (omega arith) in
    let rest = map-parts ns (drop n xs) (Rattle.std.proofs.Common.subst (λ k. sum ns ≤ k) (sym (length-drop n xs)) (omega arith)) in
    (λ i. first i ∷ rest i)

pub concat-parts : (ns xs : List ℕ) → sum ns ≡ length xs → concat (parts ns xs) ≡ xs
concat-parts [] [] h = refl
concat-parts [] (x ∷ xs) h = absurd (omega arith)
concat-parts (n ∷ ns) xs h =
    let s = sum-cons n ns in
    let l = length-drop n xs in
    ap (λ l. take n xs ++ l) (concat-parts ns (drop n xs) (omega arith)) ∙ take-append-drop n xs

-- ---- lacing values

-- 255 as often as it goes, and the rest
whole_lacing : (k v : ℕ) → v < 255 → replicate k 255 ++ v ∷ [] ≡ packet_lacing (255 * k + v)
whole_lacing k v h =
    let q : (255 * k + v) / 255 ≡ k = omega arith in
    let r : (255 * k + v) % 255 ≡ v = omega arith in
    (λ i. replicate (sym q i) 255 ++ sym r i ∷ [])

-- values that end in one below 255, or none behind whole packets
abbrev pub IsClosed : ℕ → List ℕ → Type 0
IsClosed k [] = k ≡ 0
IsClosed k (x ∷ xs) = get_or (x ∷ xs) (length (x ∷ xs) - 1) 0 < 255

replicate-more : (k : ℕ) (xs : List ℕ) → replicate k 255 ++ 255 ∷ xs ≡ replicate (suc k) 255 ++ xs
replicate-more zero xs = refl
replicate-more (suc k) xs = ap (λ l. 255 ∷ l) (replicate-more k xs)

lacing_lengths : List ℕ → List ℕ
lacing_lengths lengths = flat_map packet_lacing lengths

closed_tail : (k v : ℕ) (vs : List ℕ) → (v < 255) ⊎ (v ≡ 255) → IsClosed k (v ∷ vs) → (v < 255 → IsClosed 0 vs) × (v ≡ 255 → IsClosed (suc k) vs)
closed_tail k v [] t h = (λ x. refl, λ x. absurd (omega arith))
closed_tail k v (w ∷ ws) t h =
    let place : length (v ∷ w ∷ ws) - 1 ≡ suc (length (w ∷ ws) - 1) = omega arith in
    let same : get_or (w ∷ ws) (length (w ∷ ws) - 1) 0 < 255 = subst (λ n. get_or (v ∷ w ∷ ws) n 0 < 255) place h in
    (λ x. same, λ x. same)

pub regroup : (k : ℕ) (xs : List ℕ) → ((i : ℕ) → slice_index xs i < 256) → IsClosed k xs → replicate k 255 ++ xs ≡ flat_map packet_lacing (lengths_from (255 * k) xs)
regroup k [] small h = ap (λ n. replicate n 255 ++ []) h ∙ ap (flat_map packet_lacing) (sym (lengths-none (255 * k)))
regroup k (v ∷ vs) small h = by_value (cases_lt v 255) (regroup 0 vs (λ i. small (suc i))) (regroup (suc k) vs (λ i. small (suc i))) where
  by_value : (v < 255) ⊎ (255 ≤ v) → (IsClosed 0 vs → replicate 0 255 ++ vs ≡ flat_map packet_lacing (lengths_from (255 * 0) vs))
      → (IsClosed (suc k) vs → replicate (suc k) 255 ++ vs ≡ flat_map packet_lacing (lengths_from (255 * suc k) vs))
      → replicate k 255 ++ v ∷ vs ≡ flat_map packet_lacing (lengths_from (255 * k) (v ∷ vs))
  by_value (inl below) ended longer =
      let e : ends v ≡ true = lt-ltb v 255 below in
      let rest : vs ≡ flat_map packet_lacing (lengths_from 0 vs) = ended ((closed_tail k v vs (inl below) h).0 below) in
      let lens : flat_map packet_lacing (lengths_from (255 * k) (v ∷ vs)) ≡ packet_lacing (255 * k + v) ++ flat_map packet_lacing (lengths_from 0 vs) = ap (flat_map packet_lacing) (lengths-ended (255 * k) v vs e) in
      sym (append_assoc (replicate k 255) (v ∷ []) vs) ∙ (λ i. whole_lacing k v below i ++ rest i) ∙ sym lens
  by_value (inr high) ended longer =
      let s : v < 256 = small 0 in
      let is : v ≡ 255 = omega arith in
      let e : ends v ≡ false = le-ltb v 255 high in
      ap (λ x. replicate k 255 ++ x ∷ vs) is ∙ replicate-more k vs ∙ longer ((closed_tail k v vs (inr is) h).1 is)
      ∙ ap (flat_map packet_lacing) (ap (λ n. lengths_from n vs) (omega arith) ∙ sym (lengths-longer (255 * k) v vs e))

-- the lacing values of packets are those of their lengths
pub lacing_by_lengths : (packets : List (List ℕ)) → lacing_of packets ≡ flat_map packet_lacing (map length packets)
lacing_by_lengths [] = refl
lacing_by_lengths (p ∷ ps) = ap (λ l. packet_lacing (length p) ++ l) (lacing_by_lengths ps)

-- ---- one whole packet

holds-cons : (x y : ℕ) (ys : List ℕ) → holds_packet (x ∷ y ∷ ys) ≡ ((x == 255) && holds_packet (y ∷ ys))
unfolding holds_packet
holds-cons x y ys =
    let n : length (x ∷ y ∷ ys) - 1 ≡ suc (length (y ∷ ys) - 1) = omega arith in
    let a : Rattle.std.proofs.Common.nat_lt 0 (length (x ∷ y ∷ ys)) ≡ true = lt-ltb 0 (length (x ∷ y ∷ ys)) (omega arith) in
    let b : Rattle.std.proofs.Common.nat_lt 0 (length (y ∷ ys)) ≡ true = lt-ltb 0 (length (y ∷ ys)) (omega arith) in
    let all : list_all (λ value. value == 255) (take (length (x ∷ y ∷ ys) - 1) (x ∷ y ∷ ys)) ≡ ((x == 255) && list_all (λ value. value == 255) (take (length (y ∷ ys) - 1) (y ∷ ys))) =
    ap (λ m. list_all (λ value. value == 255) (take m (x ∷ y ∷ ys))) n
    ∙ Rattle.std.proofs.lemmas.List.Folds.list_all-append (λ value. value == 255) (x ∷ []) (take (length (y ∷ ys) - 1) (y ∷ ys))
    ∙ ap (λ t. t && list_all (λ value. value == 255) (take (length (y ∷ ys) - 1) (y ∷ ys))) (one (x == 255)) in
    let last : ends (slice_index (x ∷ y ∷ ys) (length (x ∷ y ∷ ys) - 1)) ≡ ends (slice_index (y ∷ ys) (length (y ∷ ys) - 1)) = ap (λ m. ends (slice_index (x ∷ y ∷ ys) m)) n in
    (λ i. a i && all i && last i) ∙ shuffle (x == 255) (list_all (λ value. value == 255) (take (length (y ∷ ys) - 1) (y ∷ ys))) (ends (slice_index (y ∷ ys) (length (y ∷ ys) - 1)))
    ∙ ap (λ t. (x == 255) && (t && list_all (λ value. value == 255) (take (length (y ∷ ys) - 1) (y ∷ ys)) && ends (slice_index (y ∷ ys) (length (y ∷ ys) - 1)))) (sym b)
  where
    one : (b : Bool) → (b && true) ≡ b
    one true = refl
    one false = refl

    shuffle : (p q r : Bool) → (true && (p && q) && r) ≡ (p && (true && q && r))
    shuffle true q r = refl
    shuffle false q r = refl

pub holds_ends : (xs : List ℕ) → holds_packet xs ≡ true → EndsPacket xs
unfolding holds_packet
holds_ends [] h = cc
holds_ends (x ∷ []) h = ltb-true x 255 h
holds_ends (x ∷ y ∷ ys) h =
    let b = Rattle.std.proofs.lemmas.Bool.and_parts (x == 255) (holds_packet (y ∷ ys)) (sym (holds-cons x y ys) ∙ h) in
    (Rattle.std.proofs.lemmas.Bool.eqb-true x 255 b.0, holds_ends (y ∷ ys) b.1)

pub holds_lacing : (xs : List ℕ) → holds_packet xs ≡ true → xs ≡ packet_lacing (sum xs)
holds_lacing xs h = packet_only xs (holds_ends xs h)

-- values that end no packet before those of one
pub full_before : (xs ys : List ℕ) → ((i : ℕ) → slice_index xs i < 256) → list_any ends xs ≡ false → EndsPacket ys → EndsPacket (xs ++ ys)
full_before [] ys small none h = h
full_before (x ∷ xs) ys small none h = before (xs ++ ys) (full_before xs ys (λ i. small (suc i)) rest h) where
  split : list_any ends (x ∷ xs) ≡ (list_any ends (x ∷ []) || list_any ends xs)
  split = Rattle.std.proofs.lemmas.List.Folds.list_any-append ends (x ∷ []) xs

  both : (a b : Bool) → (a || b) ≡ false → (a ≡ false) × (b ≡ false)
  both false b e = (refl, e)
  both true b e = let f : ⊥ = cc in absurd f

  one : (b : Bool) → (b || false) ≡ b
  one true = refl
  one false = refl

  rest : list_any ends xs ≡ false
  rest = (both (list_any ends (x ∷ [])) (list_any ends xs) (sym split ∙ none)).1

  high : ends x ≡ false
  high = sym (one (ends x)) ∙ (both (list_any ends (x ∷ [])) (list_any ends xs) (sym split ∙ none)).0

  is : x ≡ 255
  is = let a = ltb-false x 255 high in let s : x < 256 = small 0 in omega arith

  before : (zs : List ℕ) → EndsPacket zs → EndsPacket (x ∷ zs)
  before [] e = absurd e
  before (z ∷ zs) e = (is, e)
