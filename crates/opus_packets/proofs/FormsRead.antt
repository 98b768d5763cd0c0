-- The packet of each form is cut into the frames of the form.
use Rattle.std.proofs.Common.{◌≡◌, ℕ, ◌+◌, ◌-◌, ◌*◌, ◌%◌, ◌<◌, ◌≤◌, true, false, if◌then◌else◌, List, [], ◌∷◌, ◌++◌, All, map, flat_map, length, take, drop, replicate, sum, get_or, Option, Some, is_some, IsOkAnd, refl, ap, arith, ◌∙◌, sym, subst, append_assoc, lit<}
use Rattle.std.specs.List.{concat}
use Rattle.std.proofs.lemmas.List.{drop_at, length-append, append-nil, length-map, drop-drop, take_more, take_all, map_push, length-take-le}
use Rattle.std.proofs.lemmas.List.Sums.{sum_by_push}
use Rattle.std.specs.declared.result.Result.{Result}
use Rattle.opus_packets.specs.declared.fault.PacketFault.{PacketFault}
use Rattle.opus_packets.specs.Cut.{Cut, frames_of, parts}
use Rattle.opus_packets.specs.Packet.{cut_of, config_of, duration_of, length_at, padding_of, lengths_at}
use Rattle.opus_packets.specs.Form.{Form, One, TwoEqual, Two, Many, frames_in, spelled, Padding, IsSound, length_octets, lengths_octets, padding_octets, padding_bytes, count_octet}
use Rattle.opus_packets.proofs.Parts.{parts_of, length_concat, sum_replicate}
use Rattle.opus_packets.proofs.Sums.{cut_at, cut_by_0, cut_by_1, cut_by_2, one_sound, two_equal_sound, two_sound, few_frames}
use Rattle.opus_packets.proofs.Written.{coded, said, said_taken, said_value, length_written, lengths_written, padding_read, many_equal, many_given, octet_count, octet_padded, octet_given}

-- where the first frame of a form stands
abbrev pub first_in : Form → ℕ
first_in (One f) = 1
first_in (TwoEqual f g) = 1
first_in (Two f g) = 1 + length (length_octets (length f))
first_in (Many given padding fs) = 2 + (said padding).taken + length (if given then lengths_octets fs else [])

-- the padding behind the last frame
abbrev pub behind : Form → List ℕ
behind (One f) = []
behind (TwoEqual f g) = []
behind (Two f g) = []
behind (Many given padding fs) = padding_bytes padding

pub drop_cons : (n a : ℕ) (xs : List ℕ) → drop (1 + n) (a ∷ xs) ≡ drop n xs
drop_cons n a xs = sym (drop-drop n 1 (a ∷ xs))

pub drop_two : (n a b : ℕ) (xs : List ℕ) → drop (2 + n) (a ∷ b ∷ xs) ≡ drop n xs
drop_two n a b xs = sym (drop-drop n 2 (a ∷ b ∷ xs))

drop_two_parts : (a b : ℕ) (xs ys zs : List ℕ) (n : ℕ) → length xs ≡ n → drop (2 + n + length ys) (a ∷ b ∷ (xs ++ ys ++ zs)) ≡ zs
drop_two_parts a b xs ys zs n size =
    let e : 2 + n + length ys ≡ 2 + (n + length ys) = omega arith in
    let l : length (xs ++ ys) ≡ n + length ys = length-append xs ys ∙ ap (λ m. m + length ys) size in
    rw (e, drop_two (n + length ys) a b (xs ++ ys ++ zs)) (drop_at (xs ++ ys) zs (n + length ys) l)

-- from the first frame on stand the frames, and then the padding
drop_first : (toc : ℕ) (form : Form) → drop (first_in form) (spelled toc form) ≡ concat (frames_in form) ++ behind form
drop_first toc (One f) = sym (append-nil (f ++ []) ∙ append-nil f)
drop_first toc (TwoEqual f g) = sym (append-nil (f ++ (g ++ [])) ∙ ap (λ xs. f ++ xs) (append-nil g))
drop_first toc (Two f g) =
    drop_cons (length (length_octets (length f))) (toc + 2) (length_octets (length f) ++ f ++ g)
    ∙ ap (λ xs. drop (length (length_octets (length f))) xs) (append_assoc (length_octets (length f)) f g)
    ∙ drop_at (length_octets (length f)) (f ++ g) (length (length_octets (length f))) refl
    ∙ sym (append-nil (f ++ (g ++ [])) ∙ ap (λ xs. f ++ xs) (append-nil g))
drop_first toc (Many given padding fs) =
    let ls = if given then lengths_octets fs else [] in
    ap (λ xs. drop (2 + (said padding).taken + length ls) ((toc + 3) ∷ count_octet given padding (length fs) ∷ xs)) (append_assoc (padding_octets padding ++ ls) (concat fs) (padding_bytes padding))
    ∙ drop_two_parts (toc + 3) (count_octet given padding (length fs)) (padding_octets padding) ls (concat fs ++ padding_bytes padding) (said padding).taken (said_taken padding)

-- how long the packet of code 3 is
size_of_many : (a b : ℕ) (ps ls cs qs : List ℕ) → length (a ∷ b ∷ (ps ++ ls ++ cs ++ qs)) ≡ 2 + length ps + length qs + length ls + length cs
size_of_many a b ps ls cs qs = omega (arith, length-append (ps ++ ls ++ cs) qs, length-append (ps ++ ls) cs, length-append ps ls)

-- equal lengths are at most 1275 as each of them is
equal_short : (fs : List (List ℕ)) (n : ℕ) → 1 ≤ length fs → map length fs ≡ replicate (length fs) n → All (λ f. length f ≤ 1275) fs → n ≤ 1275
equal_short [] n some equal all = absurd (omega arith)
equal_short (f ∷ fs) n some equal all =
    let e : length f ≡ n = ap (λ ns. get_or ns 0 0) equal in
    let here : length f ≤ 1275 = all 0 [] (omega arith) in
    omega arith

written_equal : (toc : ℕ) (padding : Option Padding) (fs : List (List ℕ)) → IsSound toc (Many false padding fs)
    → cut_of (spelled toc (Many false padding fs)) ≡ cut_at (spelled toc (Many false padding fs)) (first_in (Many false padding fs)) (map length fs)
written_equal toc padding fs sound =
    let is = sound.of_code in
    let n = is.equal.0 in
    let packet = spelled toc (Many false padding fs) in
    let few : length fs ≤ 48 = few_frames (length fs) (config_of toc) is.short in
    let code : (toc + 3) % 4 ≡ 3 = omega (arith, sound.code) in
    let config : config_of (toc + 3) ≡ config_of toc = omega (arith, sound.code) in
    let short : length fs * duration_of (config_of (toc + 3)) ≤ 5760 = rw config is.short in
    let all : length (concat fs) ≡ length fs * n = length_concat fs ∙ ap sum is.equal.1 ∙ sum_replicate (length fs) n in
    let size : length packet ≡ 2 + (said padding).taken + (said padding).value + length fs * n =
    omega (arith, size_of_many (toc + 3) (count_octet false padding (length fs)) (padding_octets padding) [] (concat fs) (padding_bytes padding), said_taken padding, said_value padding is.padded) in
    let body : drop 2 packet ≡ padding_octets padding ++ (concat fs ++ padding_bytes padding) = append_assoc (padding_octets padding ++ []) (concat fs) (padding_bytes padding) ∙ ap (λ xs. xs ++ (concat fs ++ padding_bytes padding)) (append-nil (padding_octets padding)) in
    let enough : (said padding).value ≤ length (concat fs ++ padding_bytes padding) = omega (arith, said_value padding is.padded, length-append (concat fs) (padding_bytes padding)) in
    let read : padding_of (is_some padding) (drop 2 packet) ≡ Some (said padding) = rw body (padding_read padding (concat fs ++ padding_bytes padding) is.padded enough) in
    let first : 2 + (said padding).taken ≡ first_in (Many false padding fs) = omega arith in
    many_equal packet (is_some padding) (length fs) n (said padding).taken (said padding).value code (octet_count false padding (length fs) few)
    (octet_padded false padding (length fs) few) (octet_given false padding (length fs) few) is.some short read size (equal_short fs n is.some is.equal.1 sound.limited)
    ∙ ap (λ ns. cut_at packet (2 + (said padding).taken) ns) (sym is.equal.1) ∙ ap (λ k. cut_at packet k (map length fs)) first

-- a row ends with its last item
last_of : (fs : List (List ℕ)) → 1 ≤ length fs → fs ≡ take (length fs - 1) fs ++ get_or fs (length fs - 1) [] ∷ []
last_of fs some =
    let less : length fs - 1 < length fs = omega arith in
    let e : length fs - 1 + 1 ≡ length fs = omega arith in
    sym (take_all (length fs) fs (omega arith)) ∙ ap (λ n. take n fs) (sym e) ∙ take_more fs (length fs - 1) [] less

pub octets_by_lengths : (fs : List (List ℕ)) → flat_map (λ f. length_octets (length f)) fs ≡ flat_map length_octets (map length fs)
octets_by_lengths [] = refl
octets_by_lengths (f ∷ fs) = ap (λ xs. length_octets (length f) ++ xs) (octets_by_lengths fs)

lengths_read : (ns ls rest bytes : List ℕ) (n : ℕ) → length ns ≡ n → ls ≡ flat_map length_octets ns → bytes ≡ flat_map length_octets ns ++ rest → lengths_at n bytes ≡ Some (record { values = ns; taken = length ls })
lengths_read ns ls rest bytes n count octets is = rw (is, octets, ← count) (lengths_written ns rest)

written_given : (toc : ℕ) (padding : Option Padding) (fs : List (List ℕ)) → IsSound toc (Many true padding fs)
    → cut_of (spelled toc (Many true padding fs)) ≡ cut_at (spelled toc (Many true padding fs)) (first_in (Many true padding fs)) (map length fs)
written_given toc padding fs sound =
    let is = sound.of_code in
    let packet = spelled toc (Many true padding fs) in
    let some : 1 ≤ length fs = is.some in
    let few : length fs ≤ 48 = few_frames (length fs) (config_of toc) is.short in
    let code : (toc + 3) % 4 ≡ 3 = omega (arith, sound.code) in
    let config : config_of (toc + 3) ≡ config_of toc = omega (arith, sound.code) in
    let short : length fs * duration_of (config_of (toc + 3)) ≤ 5760 = rw config is.short in
    let front = take (length fs - 1) fs in
    let g = get_or fs (length fs - 1) [] in
    let ns = map length front in
    let ls = lengths_octets fs in
    let behind_octets = concat fs ++ padding_bytes padding in
    let split : map length fs ≡ ns ++ length g ∷ [] = ap (λ (xs : List (List ℕ)). map length xs) (last_of fs some) ∙ map_push length front g in
    let count : length ns ≡ length fs - 1 = length-map front length ∙ length-take-le (length fs - 1) fs (omega arith) in
    let all : length (concat fs) ≡ sum ns + length g = length_concat fs ∙ ap sum split ∙ sum_by_push (λ n. n) ns (length g) in
    let octets : ls ≡ flat_map length_octets ns = octets_by_lengths front in
    let limited : length g ≤ 1275 = sound.limited (length fs - 1) [] (omega arith) in
    let size : length packet ≡ 2 + (said padding).taken + (said padding).value + length ls + sum ns + length g =
    omega (arith, size_of_many (toc + 3) (count_octet true padding (length fs)) (padding_octets padding) ls (concat fs) (padding_bytes padding), said_taken padding, said_value padding is.padded) in
    let body : drop 2 packet ≡ padding_octets padding ++ (ls ++ behind_octets) = append_assoc (padding_octets padding ++ ls) (concat fs) (padding_bytes padding) ∙ append_assoc (padding_octets padding) ls behind_octets in
    let enough : (said padding).value ≤ length (ls ++ behind_octets) = omega (arith, said_value padding is.padded, length-append (concat fs) (padding_bytes padding), length-append ls behind_octets) in
    let read : padding_of (is_some padding) (drop 2 packet) ≡ Some (said padding) = rw body (padding_read padding (ls ++ behind_octets) is.padded enough) in
    let rest : drop (2 + (said padding).taken) packet ≡ flat_map length_octets ns ++ behind_octets =
    sym (drop-drop (said padding).taken 2 packet) ∙ ap (λ xs. drop (said padding).taken xs) body
    ∙ drop_at (padding_octets padding) (ls ++ behind_octets) (said padding).taken (said_taken padding) ∙ ap (λ xs. xs ++ behind_octets) octets in
    let lengths : lengths_at (length fs - 1) (drop (2 + (said padding).taken) packet) ≡ Some (record { values = ns; taken = length ls }) =
    lengths_read ns ls behind_octets _ _ count octets rest in
    many_given packet (is_some padding) (length fs) (length g) (said padding).taken (said padding).value (record { values = ns; taken = length ls }) code (octet_count true padding (length fs) few)
    (octet_padded true padding (length fs) few) (octet_given true padding (length fs) few) some short read lengths size limited
    ∙ ap (λ ms. cut_at packet (2 + (said padding).taken + length ls) ms) (sym split)

-- THE CUT OF WHAT IS SPELLED
pub cut_written : (toc : ℕ) (form : Form) → IsSound toc form → cut_of (spelled toc form) ≡ cut_at (spelled toc form) (first_in form) (map length (frames_in form))
cut_written toc (One f) sound =
    let n : length f ≤ 1275 = sound.limited 0 [] (lit< tt) in
    cut_by_0 (toc ∷ f) (omega arith) sound.code ∙ one_sound (toc ∷ f) (length f) (omega arith) n
cut_written toc (TwoEqual f g) sound =
    let n : length f ≤ 1275 = sound.limited 0 [] (lit< tt) in
    let same : length f ≡ length g = sound.of_code in
    let code : (toc + 1) % 4 ≡ 1 = omega (arith, sound.code) in
    let size : length ((toc + 1) ∷ (f ++ g)) ≡ 1 + length f + length f = omega (arith, length-append f g) in
    cut_by_1 ((toc + 1) ∷ (f ++ g)) (omega arith) code ∙ two_equal_sound ((toc + 1) ∷ (f ++ g)) (length f) size n
    ∙ ap (λ m. cut_at ((toc + 1) ∷ (f ++ g)) 1 (length f ∷ m ∷ [])) same
cut_written toc (Two f g) sound =
    let n : length g ≤ 1275 = sound.limited 1 [] (lit< tt) in
    let code : (toc + 2) % 4 ≡ 2 = omega (arith, sound.code) in
    let octets = length_octets (length f) in
    let packet = (toc + 2) ∷ (octets ++ f ++ g) in
    let size : length packet ≡ 1 + length octets + length f + length g = omega (arith, length-append (octets ++ f) g, length-append octets f) in
    let read : length_at (drop 1 packet) ≡ Some (coded (length f) (length octets)) = rw (append_assoc octets f g) (length_written (length f) (f ++ g)) in
    cut_by_2 packet (omega arith) code ∙ rw read (two_sound packet (coded (length f) (length octets)) (length g) size n)
cut_written toc (Many true padding fs) sound = written_given toc padding fs sound
cut_written toc (Many false padding fs) sound = written_equal toc padding fs sound

pub frames_written : (toc : ℕ) (form : Form) → IsSound toc form → IsOkAnd (cut_of (spelled toc form)) (λ cut. frames_of cut ≡ frames_in form)
frames_written toc form sound =
    let same : parts (map length (frames_in form)) (drop (first_in form) (spelled toc form)) ≡ frames_in form =
    ap (λ xs. parts (map length (frames_in form)) xs) (drop_first toc form) ∙ parts_of (frames_in form) (behind form) in
    subst (λ (r : Result Cut PacketFault). IsOkAnd r (λ cut. frames_of cut ≡ frames_in form)) (sym (cut_written toc form sound)) same
