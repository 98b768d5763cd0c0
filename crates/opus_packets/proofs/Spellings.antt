-- Every packet that is cut into frames is spelled by a form with these frames.
use Rattle.std.proofs.Common.{◌≡◌, ℕ, zero, suc, ◌+◌, ◌-◌, ◌*◌, ◌/◌, ◌%◌, ◌<◌, ◌≤◌, Bool, true, false, ◌==◌, nat_lt, List, [], ◌∷◌, ◌++◌, All, flat_map, length, drop, replicate, Option, Some, None, option_map, option_and_then, IfSome, refl, ap, arith, ◌∙◌, sym, append_assoc}
use Rattle.std.proofs.lemmas.List.{get_or-drop, length-append, drop-drop}
use Rattle.std.proofs.lemmas.List.Elements.{All-cons, All-nil}
use Rattle.std.proofs.lemmas.Bool.Decides.{nat_tests}
use Rattle.opus_packets.specs.declared.octets.Coded.{Coded}
use Rattle.opus_packets.specs.Packet.{length_at, padding_at, lengths_at, with_254_more, with_first, Lengths}
use Rattle.opus_packets.specs.Form.{AreBytes, length_octets}

pub bytes_drop : (n : ℕ) (xs : List ℕ) → AreBytes xs → AreBytes (drop n xs)
bytes_drop n xs bytes i = rw (get_or-drop n xs i 0) (bytes (n + i))

-- the octets that said a length
pub record IsLength (bytes : List ℕ) (l : Coded) : Type 0 where
  pub octets : bytes ≡ length_octets l.value ++ drop l.taken bytes
  pub taken : l.taken ≡ length (length_octets l.value)
  pub limited : l.value ≤ 1275

short_length : (f : ℕ) (rest : List ℕ) → nat_lt f 252 ≡ true → IsLength (f ∷ rest) (record { value = f; taken = 1 })
short_length f rest t =
    let less : f < 252 = grind (arith, nat_tests) in
    record { octets = rw t refl; taken = rw t refl; limited = omega arith }

long_length : (f s : ℕ) (rest : List ℕ) → f < 256 → s < 256 → nat_lt f 252 ≡ false → IsLength (f ∷ s ∷ rest) (record { value = f + 4 * s; taken = 2 })
long_length f s rest fb sb t =
    let more : 252 ≤ f = grind (arith, nat_tests) in
    let u : nat_lt (f + 4 * s) 252 ≡ false = grind (arith, nat_tests) in
    let a : 252 + (f + 4 * s) % 4 ≡ f = omega arith in
    let b : (f + 4 * s - 252) / 4 ≡ s = omega arith in
    record { octets = rw (u, a, b) refl; taken = rw u refl; limited = omega arith }

length_said_by : (f : ℕ) (rest : List ℕ) (b : Bool) → nat_lt f 252 ≡ b → AreBytes (f ∷ rest) → IfSome (length_at (f ∷ rest)) (λ l. IsLength (f ∷ rest) l)
unfolding length_at
length_said_by f rest true t bytes = rw t (short_length f rest t)
length_said_by f [] false t bytes = rw t tt
length_said_by f (s ∷ rest) false t bytes = rw t (long_length f s rest (bytes 0) (bytes 1) t)

pub length_said : (bytes : List ℕ) → AreBytes bytes → IfSome (length_at bytes) (λ l. IsLength bytes l)
unfolding length_at
length_said [] bytes = tt
length_said (f ∷ rest) bytes = length_said_by f rest (nat_lt f 252) refl bytes

-- the octets that said a padding
pub record IsSaid (bytes : List ℕ) (c : Coded) : Type 0 where
  pub more : ℕ
  pub last : ℕ
  pub less : last < 255
  pub octets : bytes ≡ replicate more 255 ++ last ∷ [] ++ drop c.taken bytes
  pub taken : c.taken ≡ more + 1
  pub value : c.value ≡ 254 * more + last

said_more : (rest : List ℕ) (o : Option Coded) → IfSome o (λ c. IsSaid rest c) → IfSome (option_map with_254_more o) (λ c. IsSaid (255 ∷ rest) c)
said_more rest None is = tt
said_more rest (Some c) is = record {
  more = suc is.more;
  last = is.last;
  less = is.less;
  octets = ap (λ xs. 255 ∷ xs) is.octets ∙ ap (λ xs. 255 ∷ (replicate is.more 255 ++ is.last ∷ [] ++ xs)) (drop-drop c.taken 1 (255 ∷ rest));
  taken = omega (arith, is.taken);
  value = omega (arith, is.value);
}

said_by : (p : ℕ) (rest : List ℕ) (b : Bool) → (p == 255) ≡ b → p < 256 → IfSome (padding_at rest) (λ c. IsSaid rest c) → IfSome (padding_at (p ∷ rest)) (λ c. IsSaid (p ∷ rest) c)
unfolding padding_at
said_by p rest true t byte is =
    let e : p ≡ 255 = grind (arith, nat_tests) in
    rw e (said_more rest (padding_at rest) is)
said_by p rest false t byte is =
    let less : p < 255 = grind (arith, nat_tests) in
    rw t (record { more = 0; last = p; less = less; octets = refl; taken = refl; value = omega arith })

pub padding_said : (bytes : List ℕ) → AreBytes bytes → IfSome (padding_at bytes) (λ c. IsSaid bytes c)
unfolding padding_at
padding_said [] bytes = tt
padding_said (p ∷ rest) bytes = said_by p rest (p == 255) refl (bytes 0) (padding_said rest (bytes_drop 1 (p ∷ rest) bytes))

-- the octets that said some lengths
pub record AreLengths (n : ℕ) (bytes : List ℕ) (l : Lengths) : Type 0 where
  pub octets : bytes ≡ flat_map length_octets l.values ++ drop l.taken bytes
  pub taken : l.taken ≡ length (flat_map length_octets l.values)
  pub count : length l.values ≡ n
  pub limited : All (λ v. v ≤ 1275) l.values

lengths_more : (n : ℕ) (bytes : List ℕ) (c : Coded) → IsLength bytes c → (o : Option Lengths) → IfSome o (λ l. AreLengths n (drop c.taken bytes) l) → IfSome (option_map (with_first c) o) (λ l. AreLengths (suc n) bytes l)
lengths_more n bytes c is None rest = tt
lengths_more n bytes c is (Some l) rest = record {
  octets = is.octets ∙ ap (λ xs. length_octets c.value ++ xs) (rest.octets ∙ ap (λ xs. flat_map length_octets l.values ++ xs) (drop-drop l.taken c.taken bytes))
      ∙ sym (append_assoc (length_octets c.value) (flat_map length_octets l.values) (drop (c.taken + l.taken) bytes));
  taken = omega (arith, is.taken, rest.taken, length-append (length_octets c.value) (flat_map length_octets l.values));
  count = ap suc rest.count;
  limited = All-cons (λ v. v ≤ 1275) c.value l.values is.limited rest.limited;
}

lengths_then : (n : ℕ) (bytes : List ℕ) → ((k : ℕ) → IfSome (lengths_at n (drop k bytes)) (λ l. AreLengths n (drop k bytes) l)) → (o : Option Coded) → IfSome o (λ c. IsLength bytes c) → IfSome (option_and_then (λ c. option_map (with_first c) (lengths_at n (drop c.taken bytes))) o) (λ l. AreLengths (suc n) bytes l)
lengths_then n bytes rest None is = tt
lengths_then n bytes rest (Some c) is = lengths_more n bytes c is (lengths_at n (drop c.taken bytes)) (rest c.taken)

pub lengths_said : (n : ℕ) (bytes : List ℕ) → AreBytes bytes → IfSome (lengths_at n bytes) (λ l. AreLengths n bytes l)
unfolding lengths_at
lengths_said zero bytes are = record { octets = refl; taken = refl; count = refl; limited = All-nil (λ v. v ≤ 1275) }
lengths_said (suc n) bytes are = lengths_then n bytes (λ k. lengths_said n (drop k bytes) (bytes_drop k bytes are)) (length_at bytes) (length_said bytes are)
