-- Lemmas on the identification header.
use Rattle.std.proofs.Common.{◌≡◌, ℕ, ◌+◌, ◌-◌, ◌⊎◌, true, List, take, drop, length, get_or, slice_index, arith, add-zero, ◌∙◌, ap, ℤ, to_z, of_z, Fits, w8, w16, ◌<◌, ◌^◌, Ok, refl, inl, inr}
use Rattle.std.proofs.lemmas.List.{get_or-drop, take_rest}
use Rattle.std.proofs.lemmas.Int.{of_z-to_z}
use Rattle.byteorder.specs.Endian.{little_number}
use Rattle.opus_packets.specs.declared.header.Head.{Head}
use Rattle.opus_packets.specs.declared.header.HeadFault.{HeadFault}
use Rattle.std.specs.declared.result.Result.{Result}
use Rattle.opus_packets.specs.Header.{number_at, begins_head, head_of, fields_of}

-- a number of two octets that is read from place i on
pub read_number : (i : ℕ) (xs : List ℕ) → little_number 2 (take (length xs - i) (drop i xs)) ≡ number_at xs i
read_number i xs = simp (take_rest, get_or-drop, add-zero) (omega arith)

-- the same for a signed number, as the code keeps it
pub read_signed : (i : ℕ) (xs : List ℕ) (z : ℤ) → ((k : ℕ) → Fits w8 (get_or xs k 0)) → z ≡ to_z w16 (little_number 2 (take (length xs - i) (drop i xs))) → to_z w16 (of_z w16 z) ≡ to_z w16 (number_at xs i)
read_signed i xs z bytes e =
    let small : number_at xs i < 2 ^ 16 = omega (arith, bytes i, bytes (i + 1)) in
    ap (λ y. to_z w16 (of_z w16 y)) (e ∙ ap (to_z w16) (read_number i xs)) ∙ ap (to_z w16) (of_z-to_z w16 (number_at xs i) small)

-- a header that passes each test
head_of_sound : (xs : List ℕ) → begins_head xs ≡ true → slice_index xs 18 ≡ 0 → (slice_index xs 9 ≡ 1) ⊎ (slice_index xs 9 ≡ 2) → head_of xs ≡ Ok (fields_of xs)
unfolding head_of
head_of_sound xs begins family (inl one) = rw (begins, family, one) refl
head_of_sound xs begins family (inr two) = rw (begins, family, two) refl

-- the same with the fields as the code has read them
pub head_read : (xs : List ℕ) (p : ℕ) (z w : ℤ) → begins_head xs ≡ true → slice_index xs 18 ≡ 0 → (slice_index xs 9 ≡ 1) ⊎ (slice_index xs 9 ≡ 2)
    → p ≡ number_at xs 10 → w ≡ to_z w16 (number_at xs 16)
    → let R : Type 0 = Result Head HeadFault in let head : R = Ok (record { channels = slice_index xs 9; preskip = p; gain = w }) in head ≡ head_of xs
head_read xs p z w begins family channels ep ew = rw (head_of_sound xs begins family channels, ep, ew) refl
