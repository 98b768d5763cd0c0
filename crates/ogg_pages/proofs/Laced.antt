-- The lacing values of one packet: there is one such list for each length.
use Rattle.std.proofs.Common.{◌≡◌, ℕ, zero, suc, ◌+◌, ◌*◌, ◌/◌, ◌%◌, ◌<◌, List, [], ◌∷◌, ◌++◌, sum, replicate, refl, sym, ◌∙◌, ap, arith}
use Rattle.std.proofs.lemmas.List.Sums.{sum_by-cons}
use Rattle.ogg_pages.specs.Lacings.{EndsPacket}
use Rattle.ogg_pages.specs.Spelling.{packet_lacing}

sum-cons : (x : ℕ) (xs : List ℕ) → sum (x ∷ xs) ≡ x + sum xs
sum-cons x xs = sum_by-cons (λ n. n) x xs

ends_after : (xs : List ℕ) → EndsPacket xs → EndsPacket (255 ∷ xs)
ends_after [] h = absurd h
ends_after (x ∷ xs) h = (refl, h)

-- so many values 255 and then one below
ends_full : (n v : ℕ) → v < 255 → EndsPacket (replicate n 255 ++ v ∷ [])
ends_full zero v h = h
ends_full (suc n) v h = ends_after (replicate n 255 ++ v ∷ []) (ends_full n v h)

sum_full : (n v : ℕ) → sum (replicate n 255 ++ v ∷ []) ≡ n * 255 + v
sum_full zero v = let e = sum-cons v [] in omega arith
sum_full (suc n) v = let e = sum-cons 255 (replicate n 255 ++ v ∷ []) in let r = sum_full n v in omega arith

pub packet_ends : (len : ℕ) → EndsPacket (packet_lacing len)
packet_ends len = ends_full (len / 255) (len % 255) (omega arith)

pub packet_sum : (len : ℕ) → sum (packet_lacing len) ≡ len
packet_sum len = let e = sum_full (len / 255) (len % 255) in omega arith

-- a value 255 in front: one packet is 255 bytes longer
packet_more : (len : ℕ) → packet_lacing (255 + len) ≡ 255 ∷ packet_lacing len
packet_more len =
    let q : (255 + len) / 255 ≡ suc (len / 255) = omega arith in
    let r : (255 + len) % 255 ≡ len % 255 = omega arith in
    rw (q, r) refl

pub packet_only : (xs : List ℕ) → EndsPacket xs → xs ≡ packet_lacing (sum xs)
packet_only [] h = absurd h
packet_only (v ∷ []) h =
    let e : sum (v ∷ []) ≡ v = (let s = sum-cons v [] in omega arith) in
    let q : v / 255 ≡ 0 = omega arith in
    let r : v % 255 ≡ v = omega arith in
    rw (e, q, r) refl
packet_only (v ∷ w ∷ xs) h =
    let rest = packet_only (w ∷ xs) h.1 in
    let e : sum (v ∷ w ∷ xs) ≡ 255 + sum (w ∷ xs) = sum-cons v (w ∷ xs) ∙ ap (λ n. n + sum (w ∷ xs)) h.0 in
    ap (λ n. n ∷ w ∷ xs) h.0 ∙ ap (λ l. 255 ∷ l) rest ∙ sym (packet_more (sum (w ∷ xs))) ∙ ap packet_lacing (sym e)
