-- The form that spells a packet that is cut into frames.
use Rattle.std.proofs.Common.{◌≡◌, ℕ, zero, suc, ◌+◌, ◌-◌, ◌*◌, ◌/◌, ◌%◌, ◌<◌, ◌≤◌, ◌≢◌, Bool, true, false, ◌==◌, nat_lt, if◌then◌else◌, List, [], ◌∷◌, ◌++◌, All, map, flat_map, length, take, drop, replicate, sum, Option, Some, None, IfSome, IfOk, is_some, refl, ap, arith, ◌∙◌, sym, subst, append_assoc}
use Rattle.std.specs.List.{concat}
use Rattle.std.proofs.Math.Nat.{div-add-mod}
use Rattle.std.proofs.lemmas.List.{length-drop, length-map, length-replicate, length-take-le, drop-drop, take_all, take_at, take-append-drop, take-map, nil_from_length, length_push}
use Rattle.std.proofs.lemmas.List.Sums.{sum_by_push}
use Rattle.std.proofs.lemmas.List.Elements.{All-cons, All-nil, All-push, All-replicate}
use Rattle.std.proofs.lemmas.Bool.Decides.{nat_tests}
use Rattle.opus_packets.specs.declared.octets.Coded.{Coded}
use Rattle.opus_packets.specs.Cut.{parts, frames_of}
use Rattle.opus_packets.specs.Packet.{cut_of, one_frame, two_equal_frames, two_frames, many_frames, equal_frames, given_frames, frames_with_lengths, length_at, padding_at, padding_of, fitting, lengths_at, Lengths, config_of, duration_of, is_padded, has_lengths}
use Rattle.opus_packets.specs.Form.{AreBytes, One, TwoEqual, Two, Many, Padding, IsPadding, AreEqualUnless, IsSpelled, length_octets, lengths_octets, padding_octets, padding_bytes, count_octet}
use Rattle.opus_packets.proofs.Parts.{lengths_of_parts, concat_parts, sum_replicate}
use Rattle.opus_packets.proofs.Groups.{all_by_lengths}
use Rattle.opus_packets.proofs.Sums.{cut_by_0, cut_by_1, cut_by_2, cut_by_3}
use Rattle.opus_packets.proofs.FormsRead.{drop_cons, drop_two, octets_by_lengths}
use Rattle.opus_packets.proofs.Spellings.{bytes_drop, IsLength, length_said, IsSaid, padding_said, AreLengths, lengths_said}

-- each list has at most 1275 bytes
abbrev pub AreShort : List (List ℕ) → Type 0
AreShort fs = All (λ f. length f ≤ 1275) fs

short_one : (f : List ℕ) → length f ≤ 1275 → AreShort (f ∷ [])
short_one f less = All-cons (λ (g : List ℕ). length g ≤ 1275) f [] less (All-nil (λ (g : List ℕ). length g ≤ 1275))

short_two : (f g : List ℕ) → length f ≤ 1275 → length g ≤ 1275 → AreShort (f ∷ g ∷ [])
short_two f g a b = All-cons (λ (h : List ℕ). length h ≤ 1275) f (g ∷ []) a (short_one g b)

one_spelled : (toc : ℕ) (rest : List ℕ) → toc % 4 ≡ 0 → (b : Bool) → nat_lt 1275 (suc (length rest) - 1) ≡ b → IfOk (one_frame (toc ∷ rest)) (λ cut. IsSpelled (toc ∷ rest) (frames_of cut))
unfolding one_frame
one_spelled toc rest code true t = rw t tt
one_spelled toc rest code false t =
    let less : length rest ≤ 1275 = grind (arith, nat_tests) in
    rw t (record {
      toc = toc;
      form = One rest;
      sound = record { code = code; limited = short_one rest less; of_code = tt };
      spells = refl;
      frames_are = ap (λ xs. xs ∷ []) (sym (take_all (suc (length rest) - 1) rest (omega arith)));
    })

two_equal_spelled : (toc : ℕ) (rest : List ℕ) → toc % 4 ≡ 1 → (b d : Bool) → (suc (length rest) % 2 == 0) ≡ b → nat_lt 1275 ((suc (length rest) - 1) / 2) ≡ d → IfOk (two_equal_frames (toc ∷ rest)) (λ cut. IsSpelled (toc ∷ rest) (frames_of cut))
unfolding two_equal_frames
two_equal_spelled toc rest code true d t u = rw t tt
two_equal_spelled toc rest code false true t u = rw (t, u) tt
two_equal_spelled toc rest code false false t u =
    let s = (suc (length rest) - 1) / 2 in
    let odd : suc (length rest) % 2 ≢ 0 = grind (arith, nat_tests) in
    let less : s ≤ 1275 = grind (arith, nat_tests) in
    let twice : s + s ≡ length rest = omega arith in
    let a : length (take s rest) ≡ s = length-take-le s rest (omega arith) in
    let b : length (drop s rest) ≡ s = length-drop s rest ∙ omega arith in
    let low : (toc - 1) % 4 ≡ 0 = omega arith in
    let first : toc - 1 + 1 ≡ toc = omega arith in
    rw (t, u) (record {
      toc = toc - 1;
      form = TwoEqual (take s rest) (drop s rest);
      sound = record { code = low; limited = short_two (take s rest) (drop s rest) (omega arith) (omega arith); of_code = a ∙ sym b };
      spells = ap (λ n. n ∷ (take s rest ++ drop s rest)) first ∙ ap (λ xs. toc ∷ xs) (take-append-drop s rest);
      frames_are = ap (λ xs. take s rest ∷ xs ∷ []) (sym (take_all s (drop s rest) (omega arith)));
    })

two_spelled : (toc : ℕ) (rest : List ℕ) → toc % 4 ≡ 2 → (l : Coded) → IsLength rest l → (b d : Bool) → nat_lt (suc (length rest)) (1 + l.taken + l.value) ≡ b → nat_lt 1275 (suc (length rest) - (1 + l.taken + l.value)) ≡ d
    → IfOk (two_frames (toc ∷ rest) (Some l)) (λ cut. IsSpelled (toc ∷ rest) (frames_of cut))
unfolding two_frames
two_spelled toc rest code l is true d t u = rw t tt
two_spelled toc rest code l is false true t u = rw (t, u) tt
two_spelled toc rest code l is false false t u =
    let last = suc (length rest) - (1 + l.taken + l.value) in
    let tail = drop l.taken rest in
    let fits : 1 + l.taken + l.value ≤ suc (length rest) = grind (arith, nat_tests) in
    let less : last ≤ 1275 = grind (arith, nat_tests) in
    let size : length tail ≡ length rest - l.taken = length-drop l.taken rest in
    let f = take l.value tail in
    let g = drop l.value tail in
    let a : length f ≡ l.value = length-take-le l.value tail (omega arith) in
    let b : length g ≡ last = length-drop l.value tail ∙ omega arith in
    let low : (toc - 2) % 4 ≡ 0 = omega arith in
    let first : toc - 2 + 2 ≡ toc = omega arith in
    let body : length_octets (length f) ++ f ++ g ≡ rest = append_assoc (length_octets (length f)) f g ∙ ap (λ xs. length_octets (length f) ++ xs) (take-append-drop l.value tail) ∙ ap (λ n. length_octets n ++ tail) a ∙ sym is.octets in
    rw (t, u) (record {
      toc = toc - 2;
      form = Two f g;
      sound = record { code = low; limited = short_two f g (omega (arith, is.limited)) (omega arith); of_code = tt };
      spells = ap (λ n. n ∷ (length_octets (length f) ++ f ++ g)) first ∙ ap (λ xs. toc ∷ xs) body;
      frames_are = ap (λ xs. f ∷ xs ∷ []) (sym (take_all last g (omega arith))) ∙ ap (λ xs. parts (l.value ∷ last ∷ []) xs) (sym (drop_cons l.taken toc rest));
    })

two_spelled_by : (toc : ℕ) (rest : List ℕ) → toc % 4 ≡ 2 → (o : Option Coded) → IfSome o (λ l. IsLength rest l) → IfOk (two_frames (toc ∷ rest) o) (λ cut. IsSpelled (toc ∷ rest) (frames_of cut))
unfolding two_frames
two_spelled_by toc rest code None is = tt
two_spelled_by toc rest code (Some l) is = two_spelled toc rest code l is (nat_lt (suc (length rest)) (1 + l.taken + l.value)) (nat_lt 1275 (suc (length rest) - (1 + l.taken + l.value))) refl refl

-- the padding of a form, of which the bytes are known
pub record HasPadding (b : Bool) (body : List ℕ) (p : Coded) (qs : List ℕ) : Type 0 where
  pub padding : Option Padding
  pub some : is_some padding ≡ b
  pub octets : body ≡ padding_octets padding ++ drop p.taken body
  pub bytes : padding_bytes padding ≡ qs
  pub sound : IsPadding padding

pub record IsFound (b : Bool) (body : List ℕ) (p : Coded) : Type 0 where
  pub fits : p.taken + p.value ≤ length body
  pub of_bytes : (qs : List ℕ) → length qs ≡ p.value → HasPadding b body p qs

no_padding : (body : List ℕ) → IsFound false body (record { value = 0; taken = 0 })
no_padding body = record {
  fits = omega arith;
  of_bytes = λ qs size. record { padding = None; some = refl; octets = refl; bytes = sym (nil_from_length qs size); sound = tt };
}

some_padding : (body : List ℕ) (c : Coded) → IsSaid body c → c.taken + c.value ≤ length body → IsFound true body c
some_padding body c is fits = record {
  fits = fits;
  of_bytes = λ qs size. record {
    padding = Some (record { more = is.more; last = is.last; bytes = qs });
    some = refl;
    octets = is.octets;
    bytes = refl;
    sound = (is.less, size ∙ is.value);
  };
}

found_by : (body : List ℕ) (c : Coded) → IsSaid body c → (t : Bool) → nat_lt (length body) (c.taken + c.value) ≡ t → IfSome (fitting (length body) (Some c)) (λ p. IsFound true body p)
found_by body c is true t = rw t tt
found_by body c is false t =
    let fits : c.taken + c.value ≤ length body = grind (arith, nat_tests) in
    rw t (some_padding body c is fits)

found_fitting : (body : List ℕ) (o : Option Coded) → IfSome o (λ c. IsSaid body c) → IfSome (fitting (length body) o) (λ p. IsFound true body p)
found_fitting body None is = tt
found_fitting body (Some c) is = found_by body c is (nat_lt (length body) (c.taken + c.value)) refl

padding_found : (b : Bool) (body : List ℕ) → AreBytes body → IfSome (padding_of b body) (λ p. IsFound b body p)
unfolding padding_of
padding_found true body bytes = found_fitting body (padding_at body) (padding_said body bytes)
padding_found false body bytes = no_padding body

-- the second octet of code 3 is that of what it says
bit_set : (n : ℕ) → (n == 1) ≡ true → n ≡ 1
bit_set n t = grind (arith, nat_tests)

bit_clear : (n : ℕ) → (n % 2 == 1) ≡ false → n % 2 ≡ 0
bit_clear n t =
    let other : n % 2 ≢ 1 = grind (arith, nat_tests) in
    omega arith

octet_found : (octet : ℕ) (g : Bool) (padding : Option Padding) → octet < 256 → has_lengths octet ≡ g → is_some padding ≡ is_padded octet → count_octet g padding (octet % 64) ≡ octet
octet_found octet true None byte given padded = omega (arith, bit_set (octet / 128 % 2) given, bit_clear (octet / 64) (sym padded))
octet_found octet false None byte given padded = omega (arith, bit_clear (octet / 128) given, bit_clear (octet / 64) (sym padded))
octet_found octet true (Some p) byte given padded = omega (arith, bit_set (octet / 128 % 2) given, bit_set (octet / 64 % 2) (sym padded))
octet_found octet false (Some p) byte given padded = omega (arith, bit_clear (octet / 128) given, bit_set (octet / 64 % 2) (sym padded))

-- a code 3 packet of these frames, which are parts of what stands behind the octets that say them
packet_spelled : (toc octet : ℕ) (body ls ns : List ℕ) (g : Bool) (p : Coded) (first : ℕ) → toc % 4 ≡ 3 → octet < 256 → has_lengths octet ≡ g → IsFound (is_padded octet) body p
    → length ns ≡ octet % 64 → 1 ≤ octet % 64 → octet % 64 * duration_of (config_of toc) ≤ 5760 → All (λ n. n ≤ 1275) ns
    → drop p.taken body ≡ ls ++ drop first (toc ∷ octet ∷ body)
    → length (drop first (toc ∷ octet ∷ body)) ≡ sum ns + p.value
    → ((fs : List (List ℕ)) → map length fs ≡ ns → (if g then lengths_octets fs else []) ≡ ls)
    → ((fs : List (List ℕ)) → map length fs ≡ ns → AreEqualUnless g fs)
    → IsSpelled (toc ∷ octet ∷ body) (parts ns (drop first (toc ∷ octet ∷ body)))
packet_spelled toc octet body ls ns g p first code byte given found count some short limited rest size said equal =
    let tail = drop first (toc ∷ octet ∷ body) in
    let fs = parts ns tail in
    let enough : sum ns ≤ length tail = omega arith in
    let lengths : map length fs ≡ ns = lengths_of_parts ns tail enough in
    let items : length fs ≡ octet % 64 = sym (length-map fs length) ∙ ap length lengths ∙ count in
    let qs = drop (sum ns) tail in
    let h = found.of_bytes qs (length-drop (sum ns) tail ∙ omega arith) in
    let low : (toc - 3) % 4 ≡ 0 = omega arith in
    let top : toc - 3 + 3 ≡ toc = omega arith in
    let config : config_of (toc - 3) ≡ config_of toc = omega arith in
    let second : count_octet g h.padding (length fs) ≡ octet = ap (λ n. count_octet g h.padding n) items ∙ octet_found octet g h.padding byte given h.some in
    let frames : concat fs ++ padding_bytes h.padding ≡ tail = ap (λ xs. xs ++ padding_bytes h.padding) (concat_parts ns tail enough) ∙ ap (λ xs. take (sum ns) tail ++ xs) h.bytes ∙ take-append-drop (sum ns) tail in
    let all : padding_octets h.padding ++ (if g then lengths_octets fs else []) ++ concat fs ++ padding_bytes h.padding ≡ body =
    append_assoc (padding_octets h.padding ++ (if g then lengths_octets fs else [])) (concat fs) (padding_bytes h.padding)
    ∙ append_assoc (padding_octets h.padding) (if g then lengths_octets fs else []) (concat fs ++ padding_bytes h.padding)
    ∙ ap (λ xs. padding_octets h.padding ++ ((if g then lengths_octets fs else []) ++ xs)) frames
    ∙ ap (λ xs. padding_octets h.padding ++ (xs ++ tail)) (said fs lengths)
    ∙ ap (λ xs. padding_octets h.padding ++ xs) (sym rest) ∙ sym h.octets in
    record {
      toc = toc - 3;
      form = Many g h.padding fs;
      sound = record {
        code = low;
        limited = all_by_lengths fs (subst (λ (ms : List ℕ). All (λ n. n ≤ 1275) ms) (sym lengths) limited);
        of_code = record {
          some = subst (λ (n : ℕ). 1 ≤ n) (sym items) some;
          short = rw (items, config) short;
          equal = equal fs lengths;
          padded = h.sound;
        };
      };
      spells = ap (λ n. n ∷ count_octet g h.padding (length fs) ∷ (padding_octets h.padding ++ (if g then lengths_octets fs else []) ++ concat fs ++ padding_bytes h.padding)) top
          ∙ ap (λ n. toc ∷ n ∷ (padding_octets h.padding ++ (if g then lengths_octets fs else []) ++ concat fs ++ padding_bytes h.padding)) second
          ∙ ap (λ xs. toc ∷ octet ∷ xs) all;
      frames_are = refl;
    }

equal_spelled : (toc octet : ℕ) (body : List ℕ) (p : Coded) → toc % 4 ≡ 3 → octet < 256 → has_lengths octet ≡ false → IsFound (is_padded octet) body p
    → 1 ≤ octet % 64 → octet % 64 * duration_of (config_of toc) ≤ 5760
    → (b d : Bool) → ((suc (suc (length body)) - (2 + p.taken + p.value)) % (octet % 64) == 0) ≡ b → nat_lt 1275 ((suc (suc (length body)) - (2 + p.taken + p.value)) / (octet % 64)) ≡ d
    → IfOk (equal_frames (octet % 64) (toc ∷ octet ∷ body) (Some p)) (λ cut. IsSpelled (toc ∷ octet ∷ body) (frames_of cut))
unfolding equal_frames
equal_spelled toc octet body p code byte given found some short false d t u = rw t tt
equal_spelled toc octet body p code byte given found some short true true t u = rw (t, u) tt
equal_spelled toc octet body p code byte given found some short true false t u =
    let count = octet % 64 in
    let room = suc (suc (length body)) - (2 + p.taken + p.value) in
    let n = room / count in
    let whole : room % count ≡ 0 = grind (arith, nat_tests) in
    let less : n ≤ 1275 = grind (arith, nat_tests) in
    let all : sum (replicate count n) ≡ room = sum_replicate count n ∙ omega (arith, div-add-mod room count) in
    let tail : drop (2 + p.taken) (toc ∷ octet ∷ body) ≡ drop p.taken body = drop_two p.taken toc octet body in
    let size : length (drop (2 + p.taken) (toc ∷ octet ∷ body)) ≡ sum (replicate count n) + p.value = ap length tail ∙ length-drop p.taken body ∙ omega (arith, found.fits) in
    rw (t, u) (packet_spelled toc octet body [] (replicate count n) false p (2 + p.taken) code byte given found (length-replicate count n) some short
    (All-replicate (λ m. m ≤ 1275) count n less) (sym tail) size (λ fs lengths. refl)
    (λ fs lengths. (n, lengths ∙ ap (λ k. replicate k n) (sym (sym (length-map fs length) ∙ ap length lengths ∙ length-replicate count n)))))

given_spelled : (toc octet : ℕ) (body : List ℕ) (p : Coded) (l : Lengths) → toc % 4 ≡ 3 → octet < 256 → has_lengths octet ≡ true → IsFound (is_padded octet) body p
    → 1 ≤ octet % 64 → octet % 64 * duration_of (config_of toc) ≤ 5760 → AreLengths (octet % 64 - 1) (drop p.taken body) l
    → (b d : Bool) → nat_lt (suc (suc (length body))) (2 + p.taken + p.value + l.taken + sum l.values) ≡ b → nat_lt 1275 (suc (suc (length body)) - (2 + p.taken + p.value + l.taken + sum l.values)) ≡ d
    → IfOk (given_frames (toc ∷ octet ∷ body) p (Some l)) (λ cut. IsSpelled (toc ∷ octet ∷ body) (frames_of cut))
unfolding given_frames
given_spelled toc octet body p l code byte given found some short are true d t u = rw t tt
given_spelled toc octet body p l code byte given found some short are false true t u = rw (t, u) tt
given_spelled toc octet body p l code byte given found some short are false false t u =
    let used = 2 + p.taken + p.value + l.taken + sum l.values in
    let last = suc (suc (length body)) - used in
    let ns = l.values ++ last ∷ [] in
    let fits : used ≤ suc (suc (length body)) = grind (arith, nat_tests) in
    let less : last ≤ 1275 = grind (arith, nat_tests) in
    let all : sum ns ≡ sum l.values + last = sum_by_push (λ n. n) l.values last in
    let count : length ns ≡ octet % 64 = length_push l.values last ∙ omega (arith, are.count) in
    let first : 2 + p.taken + l.taken ≡ 2 + (p.taken + l.taken) = omega arith in
    let tail : drop (2 + p.taken + l.taken) (toc ∷ octet ∷ body) ≡ drop l.taken (drop p.taken body) =
    ap (λ k. drop k (toc ∷ octet ∷ body)) first ∙ drop_two (p.taken + l.taken) toc octet body ∙ sym (drop-drop l.taken p.taken body) in
    let size : length (drop (2 + p.taken + l.taken) (toc ∷ octet ∷ body)) ≡ sum ns + p.value =
    ap length tail ∙ length-drop l.taken (drop p.taken body) ∙ omega (arith, length-drop p.taken body, all) in
    let said : (fs : List (List ℕ)) → map length fs ≡ ns → lengths_octets fs ≡ flat_map length_octets l.values =
    λ fs lengths.
    let items : length fs ≡ length l.values + 1 = sym (length-map fs length) ∙ ap length lengths ∙ length_push l.values last in
    let front : take (length fs - 1) ns ≡ l.values = take_at l.values (last ∷ []) (length fs - 1) (omega arith) in
    octets_by_lengths (take (length fs - 1) fs) ∙ ap (λ ms. flat_map length_octets ms) (sym (take-map length (length fs - 1) fs) ∙ ap (λ ms. take (length fs - 1) ms) lengths ∙ front) in
    rw (t, u) (packet_spelled toc octet body (flat_map length_octets l.values) ns true p (2 + p.taken + l.taken) code byte given found count some short
    (All-push (λ m. m ≤ 1275) l.values last are.limited less) (are.octets ∙ ap (λ xs. flat_map length_octets l.values ++ xs) (sym tail)) size said (λ fs lengths. tt))

equal_spelled_by : (toc octet : ℕ) (body : List ℕ) → toc % 4 ≡ 3 → octet < 256 → has_lengths octet ≡ false → 1 ≤ octet % 64 → octet % 64 * duration_of (config_of toc) ≤ 5760
    → (o : Option Coded) → IfSome o (λ p. IsFound (is_padded octet) body p) → IfOk (equal_frames (octet % 64) (toc ∷ octet ∷ body) o) (λ cut. IsSpelled (toc ∷ octet ∷ body) (frames_of cut))
unfolding equal_frames
equal_spelled_by toc octet body code byte given some short None found = tt
equal_spelled_by toc octet body code byte given some short (Some p) found = equal_spelled toc octet body p code byte given found some short
    ((suc (suc (length body)) - (2 + p.taken + p.value)) % (octet % 64) == 0) (nat_lt 1275 ((suc (suc (length body)) - (2 + p.taken + p.value)) / (octet % 64))) refl refl

given_spelled_by : (toc octet : ℕ) (body : List ℕ) (p : Coded) → toc % 4 ≡ 3 → octet < 256 → has_lengths octet ≡ true → IsFound (is_padded octet) body p
    → 1 ≤ octet % 64 → octet % 64 * duration_of (config_of toc) ≤ 5760
    → (o : Option Lengths) → IfSome o (λ l. AreLengths (octet % 64 - 1) (drop p.taken body) l) → IfOk (given_frames (toc ∷ octet ∷ body) p o) (λ cut. IsSpelled (toc ∷ octet ∷ body) (frames_of cut))
unfolding given_frames
given_spelled_by toc octet body p code byte given found some short None are = tt
given_spelled_by toc octet body p code byte given found some short (Some l) are = given_spelled toc octet body p l code byte given found some short are
    (nat_lt (suc (suc (length body))) (2 + p.taken + p.value + l.taken + sum l.values)) (nat_lt 1275 (suc (suc (length body)) - (2 + p.taken + p.value + l.taken + sum l.values))) refl refl

with_lengths_spelled : (toc octet : ℕ) (body : List ℕ) → AreBytes body → toc % 4 ≡ 3 → octet < 256 → has_lengths octet ≡ true → 1 ≤ octet % 64 → octet % 64 * duration_of (config_of toc) ≤ 5760
    → (o : Option Coded) → IfSome o (λ p. IsFound (is_padded octet) body p) → IfOk (frames_with_lengths (octet % 64) (toc ∷ octet ∷ body) o) (λ cut. IsSpelled (toc ∷ octet ∷ body) (frames_of cut))
unfolding frames_with_lengths
with_lengths_spelled toc octet body bytes code byte given some short None found = tt
with_lengths_spelled toc octet body bytes code byte given some short (Some p) found =
    rw (drop_two p.taken toc octet body) (given_spelled_by toc octet body p code byte given found some short (lengths_at (octet % 64 - 1) (drop p.taken body)) (lengths_said (octet % 64 - 1) (drop p.taken body) (bytes_drop p.taken body bytes)))

counted_spelled : (toc octet : ℕ) (body : List ℕ) → AreBytes body → toc % 4 ≡ 3 → octet < 256 → 1 ≤ octet % 64 → octet % 64 * duration_of (config_of toc) ≤ 5760 → (g : Bool) → has_lengths octet ≡ g
    → IfOk (if g then frames_with_lengths (octet % 64) (toc ∷ octet ∷ body) (padding_of (is_padded octet) body) else equal_frames (octet % 64) (toc ∷ octet ∷ body) (padding_of (is_padded octet) body)) (λ cut. IsSpelled (toc ∷ octet ∷ body) (frames_of cut))
counted_spelled toc octet body bytes code byte some short true given = with_lengths_spelled toc octet body bytes code byte given some short (padding_of (is_padded octet) body) (padding_found (is_padded octet) body bytes)
counted_spelled toc octet body bytes code byte some short false given = equal_spelled_by toc octet body code byte given some short (padding_of (is_padded octet) body) (padding_found (is_padded octet) body bytes)

many_spelled : (toc octet : ℕ) (body : List ℕ) → AreBytes body → toc % 4 ≡ 3 → octet < 256 → (z b : Bool) → (octet % 64 == 0) ≡ z → nat_lt 5760 (octet % 64 * duration_of (config_of toc)) ≡ b
    → IfOk (many_frames (toc ∷ octet ∷ body)) (λ cut. IsSpelled (toc ∷ octet ∷ body) (frames_of cut))
unfolding many_frames
many_spelled toc octet body bytes code byte true b t u = let e : (length (toc ∷ octet ∷ body) == 1) ≡ false = grind (arith, nat_tests) in rw (e, t) tt
many_spelled toc octet body bytes code byte false true t u = let e : (length (toc ∷ octet ∷ body) == 1) ≡ false = grind (arith, nat_tests) in rw (e, t, u) tt
many_spelled toc octet body bytes code byte false false t u =
    let e : (length (toc ∷ octet ∷ body) == 1) ≡ false = grind (arith, nat_tests) in
    let some : 1 ≤ octet % 64 = grind (arith, nat_tests) in
    let short : octet % 64 * duration_of (config_of toc) ≤ 5760 = grind (arith, nat_tests) in
    rw (e, t, u) (counted_spelled toc octet body bytes code byte some short (has_lengths octet) refl)

many_spelled_by : (toc : ℕ) (rest : List ℕ) → AreBytes (toc ∷ rest) → toc % 4 ≡ 3 → IfOk (many_frames (toc ∷ rest)) (λ cut. IsSpelled (toc ∷ rest) (frames_of cut))
unfolding many_frames
many_spelled_by toc [] bytes code = tt
many_spelled_by toc (octet ∷ body) bytes code = many_spelled toc octet body (bytes_drop 2 (toc ∷ octet ∷ body) bytes) code (bytes 1) (octet % 64 == 0) (nat_lt 5760 (octet % 64 * duration_of (config_of toc))) refl refl

-- by the four values of the code
by_code : (toc : ℕ) (rest : List ℕ) → AreBytes (toc ∷ rest) → (k : ℕ) → toc % 4 ≡ k → k < 4 → IfOk (cut_of (toc ∷ rest)) (λ cut. IsSpelled (toc ∷ rest) (frames_of cut))
by_code toc rest bytes zero code less = rw (cut_by_0 (toc ∷ rest) (omega arith) code) (one_spelled toc rest code (nat_lt 1275 (suc (length rest) - 1)) refl)
by_code toc rest bytes (suc zero) code less = rw (cut_by_1 (toc ∷ rest) (omega arith) code) (two_equal_spelled toc rest code (suc (length rest) % 2 == 0) (nat_lt 1275 ((suc (length rest) - 1) / 2)) refl refl)
by_code toc rest bytes (suc (suc zero)) code less = rw (cut_by_2 (toc ∷ rest) (omega arith) code) (two_spelled_by toc rest code (length_at rest) (length_said rest (bytes_drop 1 (toc ∷ rest) bytes)))
by_code toc rest bytes (suc (suc (suc zero))) code less = rw (cut_by_3 (toc ∷ rest) (omega arith) code) (many_spelled_by toc rest bytes code)
by_code toc rest bytes (suc (suc (suc (suc k)))) code less = absurd (omega arith)

-- EVERY PACKET THAT IS CUT IS SPELLED
pub cut_spelled : (packet : List ℕ) → AreBytes packet → IfOk (cut_of packet) (λ cut. IsSpelled packet (frames_of cut))
unfolding cut_of
cut_spelled [] bytes = tt
cut_spelled (toc ∷ rest) bytes = by_code toc rest bytes (toc % 4) refl (omega arith)
