-- What a read file says of its bytes, and the fault of an end.
use Rattle.std.proofs.Common.{◌≡◌, ◌⊎◌, inl, inr, ℕ, ◌+◌, ◌-◌, ◌<◌, ◌^◌, Bool, true, false, if◌then◌else◌, List, [], ◌++◌, length, All, Option, Some, None, refl, sym, ap, subst, ◌∙◌, arith, length-append}
use Rattle.std.specs.List.{flat_map}
use Rattle.std.proofs.lemmas.List.{append-nil}
use Rattle.byteorder.specs.Endian.{little_bytes}
use Rattle.byteorder.specs.Numbers.{length-bytes_low_first}
use Rattle.celt_base.specs.declared.status.Fault.{Fault}
use Rattle.celt_base.specs.declared.status.FaultName.TheVariants.{BadRiff, UnsupportedFormat, NoData, DataTruncated}
use Rattle.wav_edge.specs.declared.parts.Seen.TheVariants.{Nothing, Form}
use Rattle.wav_edge.specs.Fields.{data_letters}
use Rattle.wav_edge.specs.Reading.{Outcome, read, outcome, is_whole, fault_at_end, end_fault}
use Rattle.wav_edge.specs.Reading.Outcome.{Unfinished, Faulty, Started}
use Rattle.wav_edge.specs.Spellings.{spelled, Opening, IsOpening, form_bytes, opening_bytes, IsDataSize, declared}
use Rattle.wav_edge.specs.Files.{HasHeader, HasFormat, IsBare, EndsWhole}
use Rattle.wav_edge.proofs.FileLemmas.{all_small, FileRead, Cut, Malformed, Bare, Opened, Unreadable, Playable, file_read, none_left}
use Rattle.wav_edge.proofs.SpellingLemmas.{passed_whole, form_told, others_read, ended_read, spelling_read}

-- ---- what is told is what stands there

same_faults : (a b : Fault) → Faulty a ≡ Faulty b → a ≡ b
same_faults a b e = cc

some_faults : (a b : Fault) → Some a ≡ Some b → a ≡ b
some_faults a b e = cc

accepted_by : (bytes : List ℕ) (channels rate : ℕ) (size : Option ℕ) (place : ℕ) → outcome bytes ≡ Started channels rate size place → FileRead bytes → HasHeader bytes channels size place
accepted_by bytes channels rate size place h (Cut e) = let f : Unfinished false ≡ Started channels rate size place = sym e ∙ h in let g : ⊥ = cc in absurd g
accepted_by bytes channels rate size place h (Malformed at e) = let f : Faulty (record { name = BadRiff; at = at }) ≡ Started channels rate size place = sym e ∙ h in let g : ⊥ = cc in absurd g
accepted_by bytes channels rate size place h (Bare e is) = let f : Unfinished true ≡ Started channels rate size place = sym e ∙ h in let g : ⊥ = cc in absurd g
accepted_by bytes channels rate size place h (Opened e is) = let f : Unfinished true ≡ Started channels rate size place = sym e ∙ h in let g : ⊥ = cc in absurd g
accepted_by bytes channels rate size place h (Unreadable c b n r at e is) =
    let f : Faulty (record { name = UnsupportedFormat c b n r; at = at }) ≡ Started channels rate size place = sym e ∙ h in let g : ⊥ = cc in absurd g
accepted_by bytes channels rate size place h (Playable n s at e is) =
    let f : Started n 48000 s at ≡ Started channels rate size place = sym e ∙ h in
    let a : n ≡ channels = cc in
    let b : s ≡ size = cc in
    let d : at ≡ place = cc in
    subst (HasHeader bytes channels size) d (subst (λ x. HasHeader bytes channels x at) b (subst (λ x. HasHeader bytes x s at) a is))

pub accepted : (bytes : List ℕ) (channels rate : ℕ) (size : Option ℕ) (place : ℕ) → All (λ byte. byte < 256) bytes → outcome bytes ≡ Started channels rate size place → HasHeader bytes channels size place
accepted bytes channels rate size place all h = accepted_by bytes channels rate size place h (file_read bytes (all_small bytes all))

refused_by : (bytes : List ℕ) (codec bits channels rate place : ℕ) → outcome bytes ≡ Faulty (record { name = UnsupportedFormat codec bits channels rate; at = place }) → FileRead bytes → HasFormat bytes codec bits channels rate place
refused_by bytes codec bits channels rate place h (Cut e) =
    let f : Unfinished false ≡ Faulty (record { name = UnsupportedFormat codec bits channels rate; at = place }) = sym e ∙ h in let g : ⊥ = cc in absurd g
refused_by bytes codec bits channels rate place h (Malformed at e) =
    let f = same_faults (record { name = BadRiff; at = at }) (record { name = UnsupportedFormat codec bits channels rate; at = place }) (sym e ∙ h) in
    let names : BadRiff ≡ UnsupportedFormat codec bits channels rate = ap (λ (x : Fault). x.name) f in
    let g : ⊥ = cc in absurd g
refused_by bytes codec bits channels rate place h (Bare e is) =
    let f : Unfinished true ≡ Faulty (record { name = UnsupportedFormat codec bits channels rate; at = place }) = sym e ∙ h in let g : ⊥ = cc in absurd g
refused_by bytes codec bits channels rate place h (Opened e is) =
    let f : Unfinished true ≡ Faulty (record { name = UnsupportedFormat codec bits channels rate; at = place }) = sym e ∙ h in let g : ⊥ = cc in absurd g
refused_by bytes codec bits channels rate place h (Unreadable c b n r at e is) =
    let f = same_faults (record { name = UnsupportedFormat c b n r; at = at }) (record { name = UnsupportedFormat codec bits channels rate; at = place }) (sym e ∙ h) in
    let names : UnsupportedFormat c b n r ≡ UnsupportedFormat codec bits channels rate = ap (λ (x : Fault). x.name) f in
    let p : c ≡ codec = cc in
    let q : b ≡ bits = cc in
    let s : n ≡ channels = cc in
    let t : r ≡ rate = cc in
    let u : at ≡ place = ap (λ (x : Fault). x.at) f in
    subst (HasFormat bytes codec bits channels rate) u (subst (λ x. HasFormat bytes codec bits channels x at) t (subst (λ x. HasFormat bytes codec bits x r at) s
    (subst (λ x. HasFormat bytes codec x n r at) q (subst (λ x. HasFormat bytes x b n r at) p is))))
refused_by bytes codec bits channels rate place h (Playable n s at e is) =
    let f : Started n 48000 s at ≡ Faulty (record { name = UnsupportedFormat codec bits channels rate; at = place }) = sym e ∙ h in let g : ⊥ = cc in absurd g

pub refused : (bytes : List ℕ) (codec bits channels rate place : ℕ) → All (λ byte. byte < 256) bytes → outcome bytes ≡ Faulty (record { name = UnsupportedFormat codec bits channels rate; at = place }) → HasFormat bytes codec bits channels rate place
refused bytes codec bits channels rate place all h = refused_by bytes codec bits channels rate place h (file_read bytes (all_small bytes all))

-- ---- an end between two parts

-- bytes that end between two parts are whole
whole_by : (bytes : List ℕ) → outcome bytes ≡ Unfinished true → FileRead bytes → EndsWhole bytes
whole_by bytes h (Cut e) = let f : Unfinished false ≡ Unfinished true = sym e ∙ h in let g : ⊥ = cc in absurd g
whole_by bytes h (Malformed at e) = let f : Faulty (record { name = BadRiff; at = at }) ≡ Unfinished true = sym e ∙ h in let g : ⊥ = cc in absurd g
whole_by bytes h (Bare e is) = inl is
whole_by bytes h (Opened e is) = inr is
whole_by bytes h (Unreadable c b n r at e is) = let f : Faulty (record { name = UnsupportedFormat c b n r; at = at }) ≡ Unfinished true = sym e ∙ h in let g : ⊥ = cc in absurd g
whole_by bytes h (Playable n s at e is) = let f : Started n 48000 s at ≡ Unfinished true = sym e ∙ h in let g : ⊥ = cc in absurd g

bare_read : (bytes : List ℕ) → IsBare bytes → outcome bytes ≡ Unfinished true
unfolding outcome
bare_read bytes b =
    let chunks = flat_map spelled b.chunks in
    ap (λ l. read l 0 Nothing 0) (b.bytes_are ∙ ap (λ l. form_bytes b.file_size ++ l) (sym (append-nil chunks)))
    ∙ passed_whole (form_bytes b.file_size) (chunks ++ []) Nothing Form 0 (form_told b.file_size) (omega arith)
    ∙ others_read b.chunks [] Form 12 b.passed refl
    ∙ none_left Form (12 + length chunks) refl

abbrev truncated_at : ℕ → Fault
truncated_at n = record { name = DataTruncated; at = n }

abbrev no_data_at : ℕ → Fault
no_data_at n = record { name = NoData; at = n }

apart : (n place : ℕ) → Some (truncated_at n) ≡ Some (no_data_at place) → ⊥
apart n place e = let names : DataTruncated ≡ NoData = ap (λ (x : Fault). x.name) (some_faults (truncated_at n) (no_data_at place) e) in cc

-- what an end after n bytes says
ends_between : (given : Outcome) (n place : ℕ) → fault_at_end given n ≡ Some (record { name = NoData; at = place }) → given ≡ Unfinished true
ends_between (Unfinished true) n place h = refl
ends_between (Unfinished false) n place h = absurd (apart n place h)
ends_between (Faulty fault) n place h = let f : ⊥ = cc in absurd f
ends_between (Started channels rate size at) n place h = by (is_whole channels size (n - at)) h where
  by : (b : Bool) → (if b then None else Some (truncated_at n)) ≡ Some (no_data_at place) → Started channels rate size at ≡ Unfinished true
  by true e = let f : ⊥ = cc in absurd f
  by false e = absurd (apart n place e)

pub no_data : (bytes : List ℕ) → EndsWhole bytes → end_fault bytes ≡ Some (record { name = NoData; at = length bytes })
unfolding end_fault
no_data bytes (inl bare) = ap (λ (given : Outcome). fault_at_end given (length bytes)) (bare_read bytes bare)
no_data bytes (inr opened) = subst (λ l. end_fault l ≡ Some (record { name = NoData; at = length l })) (sym opened.bytes_are) (ended_read opened.opening opened.is_opening)

pub only : (bytes : List ℕ) (place : ℕ) → All (λ byte. byte < 256) bytes → end_fault bytes ≡ Some (record { name = NoData; at = place }) → EndsWhole bytes
unfolding end_fault
only bytes place all h = whole_by bytes (ends_between (outcome bytes) (length bytes) place h) (file_read bytes (all_small bytes all))

pub cut : (bytes : List ℕ) (between : Bool) → All (λ byte. byte < 256) bytes → outcome bytes ≡ Unfinished between → (EndsWhole bytes → ⊥) → end_fault bytes ≡ Some (record { name = DataTruncated; at = length bytes })
unfolding end_fault
cut bytes true all h none = absurd (none (whole_by bytes h (file_read bytes (all_small bytes all))))
cut bytes false all h none = ap (λ (given : Outcome). fault_at_end given (length bytes)) h

pub held : (o : Opening) (size : ℕ) (more : List ℕ) → IsOpening o → size < 2 ^ 32 → IsDataSize o.channels size → end_fault (opening_bytes o ++ (data_letters ++ (little_bytes 4 size ++ more)))
    ≡ (if is_whole o.channels (declared size) (length more) then None else Some (record { name = DataTruncated; at = length (opening_bytes o) + 8 + length more }))
unfolding end_fault
held o size more is small whole =
    let bytes = opening_bytes o ++ (data_letters ++ (little_bytes 4 size ++ more)) in
    let n : length bytes ≡ length (opening_bytes o) + 8 + length more =
    omega (arith, length-append (opening_bytes o) (data_letters ++ (little_bytes 4 size ++ more)), length-append (little_bytes 4 size) more, length-bytes_low_first 0 4 size) in
    let behind : length (opening_bytes o) + 8 + length more - (length (opening_bytes o) + 8) ≡ length more = omega arith in
    ap (λ (given : Outcome). fault_at_end given (length bytes)) (spelling_read o size more is small whole)
    ∙ ap (fault_at_end (Started o.channels 48000 (declared size) (length (opening_bytes o) + 8))) n
    ∙ ap (λ k. if is_whole o.channels (declared size) k then None else Some (record { name = DataTruncated; at = length (opening_bytes o) + 8 + length more })) behind

named_by : (given : Outcome) (n : ℕ) (fault : Fault) → fault_at_end given n ≡ Some fault → (fault.at ≡ n) × ((fault.name ≡ NoData) ⊎ (fault.name ≡ DataTruncated))
named_by (Unfinished true) n fault h = let f : record { name = NoData; at = n } ≡ fault = cc in (ap (λ (x : Fault). x.at) (sym f), inl (ap (λ (x : Fault). x.name) (sym f)))
named_by (Unfinished false) n fault h = let f : record { name = DataTruncated; at = n } ≡ fault = cc in (ap (λ (x : Fault). x.at) (sym f), inr (ap (λ (x : Fault). x.name) (sym f)))
named_by (Faulty other) n fault h = let f : ⊥ = cc in absurd f
named_by (Started channels rate size place) n fault h = by (is_whole channels size (n - place)) h where
  by : (b : Bool) → (if b then None else Some (record { name = DataTruncated; at = n })) ≡ Some fault → (fault.at ≡ n) × ((fault.name ≡ NoData) ⊎ (fault.name ≡ DataTruncated))
  by true e = let f : ⊥ = cc in absurd f
  by false e = let f : record { name = DataTruncated; at = n } ≡ fault = cc in (ap (λ (x : Fault). x.at) (sym f), inr (ap (λ (x : Fault). x.name) (sym f)))

pub named : (bytes : List ℕ) (fault : Fault) → end_fault bytes ≡ Some fault → (fault.at ≡ length bytes) × ((fault.name ≡ NoData) ⊎ (fault.name ≡ DataTruncated))
unfolding end_fault
named bytes fault h = named_by (outcome bytes) (length bytes) fault h
