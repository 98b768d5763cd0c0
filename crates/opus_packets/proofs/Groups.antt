-- Lemmas on the packets that are written.
use Rattle.std.proofs.Common.{◌≡◌, ℕ, ◌+◌, ◌-◌, ◌*◌, ◌/◌, ◌%◌, ◌≤◌, false, List, [], ◌∷◌, ◌++◌, All, map, length, take, replicate, sum, None, IsOkAnd, refl, ap, arith, ◌∙◌, sym}
use Rattle.std.specs.List.{concat}
use Rattle.std.proofs.lemmas.List.{append-nil, length-map, length-replicate, take_all, take_at}
use Rattle.std.proofs.lemmas.List.Elements.{All-cons, All-nil, All-head, All-tail, All-replicate}
use Rattle.std.proofs.Math.Nat.{div-add-mod}
use Rattle.opus_packets.specs.Cut.{frames_of, parts, equal_parts}
use Rattle.opus_packets.specs.Packet.{cut_of, config_of, duration_of}
use Rattle.opus_packets.specs.Form.{One, Many, spelled, IsSound}
use Rattle.opus_packets.proofs.Parts.{lengths_of_parts, concat_parts, sum_replicate}
use Rattle.opus_packets.proofs.FormsRead.{frames_written}

-- one frame
pub one_written : (toc : ℕ) (f out : List ℕ) (n : ℕ) → toc % 4 ≡ 0 → length f ≤ 1275 → n ≡ length f + 1 → IsOkAnd (cut_of (take n (spelled toc (One f) ++ out))) (λ cut. frames_of cut ≡ f ∷ [])
one_written toc f out n code short size =
    let front : take n (spelled toc (One f) ++ out) ≡ spelled toc (One f) = take_at (spelled toc (One f)) out n (omega arith) in
    rw front (frames_written toc (One f) (record { code = code; limited = All-cons (λ (g : List ℕ). length g ≤ 1275) f [] short (All-nil (λ (g : List ℕ). length g ≤ 1275)); of_code = tt }))

-- what holds of the lengths of lists holds of the lists
pub all_by_lengths : (fs : List (List ℕ)) → All (λ n. n ≤ 1275) (map length fs) → All (λ f. length f ≤ 1275) fs
all_by_lengths [] all = All-nil (λ (f : List ℕ). length f ≤ 1275)
all_by_lengths (f ∷ fs) all = All-cons (λ (g : List ℕ). length g ≤ 1275) f fs (All-head (λ n. n ≤ 1275) (length f) (map length fs) all) (all_by_lengths fs (All-tail (λ n. n ≤ 1275) (length f) (map length fs) all))

-- equal parts make up the whole
parts_whole : (count : ℕ) (bytes : List ℕ) → length bytes % count ≡ 0 → sum (replicate count (length bytes / count)) ≡ length bytes
parts_whole count bytes whole = sum_replicate count (length bytes / count) ∙ omega (arith, div-add-mod (length bytes) count)

-- how a group is spelled
pub group_spelled : (toc count : ℕ) (bytes : List ℕ) → length bytes % count ≡ 0 → spelled toc (Many false None (equal_parts count bytes)) ≡ (toc + 3) ∷ count ∷ bytes
group_spelled toc count bytes whole =
    let ns = replicate count (length bytes / count) in
    let size : sum ns ≤ length bytes = omega (arith, parts_whole count bytes whole) in
    let all : concat (parts ns bytes) ≡ bytes = concat_parts ns bytes size ∙ take_all (sum ns) bytes (omega (arith, parts_whole count bytes whole)) in
    let items : length (parts ns bytes) ≡ count = sym (length-map (parts ns bytes) length) ∙ ap length (lengths_of_parts ns bytes size) ∙ length-replicate count (length bytes / count) in
    let octet : count + 64 * 0 + 128 * 0 ≡ count = omega arith in
    rw (all, items, octet, append-nil bytes) refl

group_sound : (toc count : ℕ) (bytes : List ℕ) → toc % 4 ≡ 0 → 1 ≤ count → length bytes % count ≡ 0 → length bytes / count ≤ 1275 → count * duration_of (config_of toc) ≤ 5760
    → IsSound toc (Many false None (equal_parts count bytes))
group_sound toc count bytes code some whole limited short =
    let n = length bytes / count in
    let ns = replicate count n in
    let size : sum ns ≤ length bytes = omega (arith, parts_whole count bytes whole) in
    let lengths : map length (parts ns bytes) ≡ ns = lengths_of_parts ns bytes size in
    let items : length (parts ns bytes) ≡ count = sym (length-map (parts ns bytes) length) ∙ ap length lengths ∙ length-replicate count n in
    record {
      code = code;
      limited = all_by_lengths (parts ns bytes) (rw lengths (All-replicate (λ m. m ≤ 1275) count n limited));
      of_code = record {
        some = rw items some;
        short = rw items short;
        equal = (n, lengths ∙ ap (λ k. replicate k n) (sym items));
        padded = tt;
      };
    }

-- a group is cut into its parts; the two low bits of the octet that was handed in are passed over
pub group_written : (toc count : ℕ) (bytes out : List ℕ) (n : ℕ) → 1 ≤ count → length bytes % count ≡ 0 → length bytes / count ≤ 1275 → count * duration_of (config_of toc) ≤ 5760 → n ≡ 2 + length bytes
    → IsOkAnd (cut_of (take n ((toc - toc % 4 + 3) ∷ count ∷ (bytes ++ out)))) (λ cut. frames_of cut ≡ equal_parts count bytes)
group_written toc count bytes out n some whole limited short size =
    let base = toc - toc % 4 in
    let code : base % 4 ≡ 0 = omega arith in
    let config : config_of base ≡ config_of toc = omega arith in
    let form = Many false None (equal_parts count bytes) in
    let front : take n ((base + 3) ∷ count ∷ (bytes ++ out)) ≡ (base + 3) ∷ count ∷ bytes = take_at ((base + 3) ∷ count ∷ bytes) out n (omega arith) in
    rw (front, ← group_spelled base count bytes whole) (frames_written base form (group_sound base count bytes code some whole limited (rw config short)))
