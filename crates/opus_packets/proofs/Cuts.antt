-- Lemmas on the places of frames.
use Rattle.std.proofs.Common.{◌≡◌, ℕ, zero, suc, ◌+◌, ◌-◌, ◌<◌, ◌≤◌, List, [], ◌∷◌, length, take, drop, sum, slice_get, slice_index, Some, refl, ap, arith, ◌∙◌}
use Rattle.std.proofs.lemmas.List.{drop-drop}
use Rattle.std.proofs.lemmas.List.Sums.{sum_by-cons, sum_by_more, sum_by_more_le}
use Rattle.opus_packets.specs.Cut.{Cut, start_of, end_of, parts}
use Rattle.opus_packets.specs.Packet.{IsCut}

-- a sum begins with its first item
pub sum_cons : (n : ℕ) (ns : List ℕ) → sum (n ∷ ns) ≡ n + sum ns
sum_cons n ns = sum_by-cons (λ x. x) n ns

-- part i begins where those before it end
pub parts_at : (ns : List ℕ) (bytes : List ℕ) (i : ℕ) → i < length ns → slice_get (parts ns bytes) i ≡ Some (take (slice_index ns i) (drop (sum (take i ns)) bytes))
parts_at [] bytes i within = absurd (omega arith)
parts_at (n ∷ ns) bytes zero within = refl
parts_at (n ∷ ns) bytes (suc i) within =
    let less : i < length ns = omega arith in
    rw (sum_cons n (take i ns)) (parts_at ns (drop n bytes) i less ∙ ap (λ xs. Some (take (slice_index ns i) xs)) (drop-drop (sum (take i ns)) n bytes))

-- the same in a packet whose first part begins at a place of its own, by the places of both ends
pub parts_from : (ns : List ℕ) (packet : List ℕ) (first i start size : ℕ) → i < length ns → start ≡ first + sum (take i ns) → size ≡ slice_index ns i → slice_get (parts ns (drop first packet)) i ≡ Some (take (start + size - start) (drop start packet))
parts_from ns packet first i start size within es en =
    let e : start + size - start ≡ slice_index ns i = omega arith in
    rw (e, es) (parts_at ns (drop first packet) i within ∙ ap (λ xs. Some (take (slice_index ns i) xs)) (drop-drop (sum (take i ns)) first packet))

-- a frame ends where the next one begins
pub end_is_start : (cut : Cut) (i : ℕ) → i < length cut.lengths → end_of cut i ≡ start_of cut (i + 1)
end_is_start cut i less = omega (arith, sum_by_more (λ n. n) cut.lengths i 0 less)

-- and all of them within the packet
pub end_within : (cut : Cut) (i : ℕ) → IsCut cut → i < length cut.lengths → end_of cut i ≤ length cut.packet
end_within cut i is less = omega (arith, is.within, sum_by_more_le (λ n. n) cut.lengths i 0 less)
