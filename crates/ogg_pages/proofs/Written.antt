-- Writing a page into its room, part by part.
use Rattle.std.proofs.Common.{◌≡◌, ℕ, ◌+◌, ◌/◌, ◌%◌, ◌<◌, ◌≤◌, List, [], ◌∷◌, ◌++◌, length, get_or, take, drop, replicate, refl, sym, ◌∙◌, ap, arith, append_assoc, length-append, drop-drop, add-one}
use Rattle.std.proofs.Math.Seq.{take-append_seam, drop-append-add, take-suc-set}
use Rattle.std.proofs.lemmas.List.{take-replicate}
use Rattle.std.proofs.Math.ListN.{length-replicate, set}
use Rattle.byteorder.specs.Endian.{little_bytes}
use Rattle.ogg_pages.specs.Fields.{Page}
use Rattle.ogg_pages.specs.Checksum.{checksum}
use Rattle.ogg_pages.specs.Spelling.{header, with_checksum, spelling, packet_lacing}

pub length-packet_lacing : (len : ℕ) → length (packet_lacing len) ≡ len / 255 + 1
length-packet_lacing len = length-append (replicate (len / 255) 255) (len % 255 ∷ []) ∙ ap (λ n. n + 1) (length-replicate (len / 255) 255)

-- bytes put behind a front
pub put_behind : (front bytes old : List ℕ) (at next : ℕ) → at ≡ length front → next ≡ at + length bytes
    → take at (front ++ drop at old) ++ (bytes ++ drop next (front ++ drop at old)) ≡ (front ++ bytes) ++ drop next old
put_behind front bytes old at next e n =
    let rest = drop at old in
    let kept : take at (front ++ rest) ≡ front = ap (λ t. take t (front ++ rest)) e ∙ take-append_seam front rest in
    let behind : drop next (front ++ rest) ≡ drop next old =
    ap (λ t. drop t (front ++ rest)) (n ∙ ap (λ t. t + length bytes) e)
    ∙ drop-append-add front rest (length bytes)
    ∙ drop-drop (length bytes) at old
    ∙ ap (λ t. drop t old) (sym n) in
    ap (λ l. l ++ (bytes ++ drop next (front ++ rest))) kept ∙ ap (λ l. front ++ (bytes ++ l)) behind ∙ sym (append_assoc front bytes (drop next old))

-- the checksum put into the header
pub sum_put : (p : Page) (s : ℕ) (rest : List ℕ) → take 22 (header p 0 ++ rest) ++ (little_bytes 4 s ++ drop 26 (header p 0 ++ rest)) ≡ header p s ++ rest
sum_put p s rest = refl

pub length-with_checksum : (p : Page) (s : ℕ) → length (with_checksum p s) ≡ 27 + length p.lacing + length p.body
length-with_checksum p s = length-append (header p s ++ p.lacing) p.body ∙ ap (λ n. n + length p.body) (length-append (header p s) p.lacing)

-- a page written with the checksum 0, and then with its own
pub page_written : (p : Page) (out old : List ℕ) (end : ℕ) → out ≡ with_checksum p 0 ++ drop end old → end ≡ length (with_checksum p 0)
    → take 22 out ++ (little_bytes 4 (checksum (take end out)) ++ drop 26 out) ≡ spelling p ++ drop end old
unfolding spelling
page_written p out old end e l =
    let rest = drop end old in
    let first : take end out ≡ with_checksum p 0 = ap (take end) e ∙ ap (λ t. take t (with_checksum p 0 ++ rest)) l ∙ take-append_seam (with_checksum p 0) rest in
    let regrouped : (s : ℕ) → with_checksum p s ++ rest ≡ header p s ++ (p.lacing ++ (p.body ++ rest)) = λ s.
    append_assoc (header p s ++ p.lacing) p.body rest ∙ append_assoc (header p s) p.lacing (p.body ++ rest) in
    let s = checksum (with_checksum p 0) in
    ap (λ l. take 22 out ++ (little_bytes 4 (checksum l) ++ drop 26 out)) first
    ∙ ap (λ l. take 22 l ++ (little_bytes 4 s ++ drop 26 l)) (e ∙ regrouped 0)
    ∙ sum_put p s (p.lacing ++ (p.body ++ rest))
    ∙ sym (regrouped s)

pub length-spelling : (p : Page) → length (spelling p) ≡ length (with_checksum p 0)
unfolding spelling
length-spelling p = length-with_checksum p (checksum (with_checksum p 0)) ∙ sym (length-with_checksum p 0)

-- the header of a page of one packet, from the bytes of its numbers
pub header_from : (flags z q : ℕ) (packet g s : List ℕ) (n : ℕ) → g ≡ little_bytes 8 z → s ≡ little_bytes 4 q → n ≡ length (packet_lacing (length packet))
    → ◌≡◌ {A = List ℕ}
    (79 ∷ 103 ∷ 103 ∷ 83 ∷ 0 ∷ flags ∷ get_or g 0 0 ∷ get_or g 1 0 ∷ get_or g 2 0 ∷ get_or g 3 0 ∷ get_or g 4 0 ∷ get_or g 5 0 ∷ get_or g 6 0 ∷ get_or g 7 0
    ∷ 1 ∷ 0 ∷ 0 ∷ 0 ∷ get_or s 0 0 ∷ get_or s 1 0 ∷ get_or s 2 0 ∷ get_or s 3 0 ∷ 0 ∷ 0 ∷ 0 ∷ 0 ∷ n ∷ [])
    (79 ∷ 103 ∷ 103 ∷ 83 ∷ 0 ∷ flags ∷ little_bytes 8 z ++ little_bytes 4 1 ++ little_bytes 4 q ++ little_bytes 4 0 ++ length (packet_lacing (length packet)) ∷ [])
header_from flags z q packet g s n eg es en = rw (eg, es, en) refl

-- the last of some lacing values written over one of many
set_last : (n i v : ℕ) → i < n → take (i + 1) (set (replicate n 255) i v) ≡ replicate i 255 ++ v ∷ []
set_last n i v h =
    let inside : i < length (replicate {A = ℕ} n 255) = rw length-replicate h in
    rw add-one (take-suc-set (replicate n 255) i v inside ∙ ap (λ l. l ++ v ∷ []) (take-replicate i n 255 (omega arith)))

pub lacing_set : (len : ℕ) → len ≤ 61440 → take (len / 255 + 1) (set (replicate 241 255) (len / 255) (len % 255)) ≡ packet_lacing len
lacing_set len h = set_last 241 (len / 255) (len % 255) (omega arith)
