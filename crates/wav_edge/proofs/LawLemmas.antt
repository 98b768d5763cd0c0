-- What the outcome of some bytes says of longer ones, and of the format that was read.
use Rattle.std.proofs.Common.{◌≡◌, ◌≤◌, ℕ, zero, suc, ◌+◌, ◌-◌, Bool, true, false, List, [], ◌∷◌, ◌++◌, length, refl, ap, subst, ◌∙◌, arith}
use Rattle.wav_edge.specs.declared.parts.Seen.{Seen}
use Rattle.wav_edge.specs.declared.parts.Seen.TheVariants.{Nothing}
use Rattle.wav_edge.specs.declared.parts.Part.{Part}
use Rattle.wav_edge.specs.declared.parts.Part.TheVariants.{More, Passed, Samples, Broken}
use Rattle.wav_edge.specs.Parts.{is_more, is_readable, can_follow, part_at}
use Rattle.wav_edge.specs.Reading.{Outcome, IsHeaderFault, followed, read, outcome}
use Rattle.wav_edge.specs.Reading.Outcome.{Unfinished, Faulty, Started}
use Rattle.wav_edge.proofs.PartLemmas.{IsTold, part_told}
use Rattle.wav_edge.proofs.ReadLemmas.{told_stays}

-- samples or a fault
abbrev pub is_decided : Outcome → Bool
is_decided (Unfinished between) = false
is_decided (Faulty fault) = true
is_decided (Started channels rate size place) = true

-- what more bytes change in a part and what follows it
followed_stays : (at : ℕ) (p q : Part) (next next' : ℕ → Seen → Outcome) → is_decided (followed at p next) ≡ true → (is_more p ≡ false → q ≡ p) →
    ((left : ℕ) (seen : Seen) → is_decided (next left seen) ≡ true → next' left seen ≡ next left seen) → followed at q next' ≡ followed at p next
followed_stays at More q next next' decided same stays = cc
followed_stays at (Passed seen len) q next next' decided same stays =
    ap (λ (p : Part). followed at p next') (same refl) ∙ stays (len - 1) seen decided
followed_stays at (Samples channels rate size) q next next' decided same stays = ap (λ (p : Part). followed at p next') (same refl)
followed_stays at (Broken fault) q next next' decided same stays = ap (λ (p : Part). followed at p next') (same refl)

read_stays : (bytes more : List ℕ) (left : ℕ) (seen : Seen) (at : ℕ) → is_decided (read bytes left seen at) ≡ true → read (bytes ++ more) left seen at ≡ read bytes left seen at
unfolding read
read_stays [] more left seen at decided = cc
read_stays (byte ∷ bytes) more (suc left) seen at decided = read_stays bytes more left seen (at + 1) decided
read_stays (byte ∷ bytes) more zero seen at decided =
    followed_stays at (part_at seen at (byte ∷ bytes)) (part_at seen at (byte ∷ (bytes ++ more)))
    (λ left' seen'. read bytes left' seen' (at + 1)) (λ left' seen'. read (bytes ++ more) left' seen' (at + 1)) decided
    (λ told. told_stays seen at (byte ∷ bytes) more (part_at seen at (byte ∷ bytes)) refl told)
    (λ left' seen' h. read_stays bytes more left' seen' (at + 1) h)

-- a fault, or the samples, once found stay
pub outcome_stays : (bytes more : List ℕ) → is_decided (outcome bytes) ≡ true → outcome (bytes ++ more) ≡ outcome bytes
unfolding outcome
outcome_stays bytes more decided = read_stays bytes more 0 Nothing 0 decided

-- the format of samples is one that can be read, and they begin behind bytes that are there; a fault is one
-- of the two that come before samples
abbrev pub IsSound : ℕ → Outcome → Type 0
IsSound end (Unfinished between) = Unit {0}
IsSound end (Faulty fault) = IsHeaderFault fault.name
IsSound end (Started channels rate size place) = (is_readable channels rate ≡ true) × (place ≤ end)

followed_sound : (at n : ℕ) (p : Part) (next : ℕ → Seen → Outcome) → IsTold (suc n) p → ((left : ℕ) (seen : Seen) → can_follow seen ≡ true → IsSound (at + 1 + n) (next left seen)) →
    IsSound (at + 1 + n) (followed at p next)
followed_sound at n More next told sound = tt
followed_sound at n (Passed seen len) next told sound = sound (len - 1) seen told
followed_sound at n (Samples channels rate size) next told sound = let eight : 8 ≤ suc n = told.0 in (told.1, omega arith)
followed_sound at n (Broken fault) next told sound = told

read_sound : (bytes : List ℕ) (left : ℕ) (seen : Seen) (at : ℕ) → can_follow seen ≡ true → IsSound (at + length bytes) (read bytes left seen at)
unfolding read
read_sound [] left seen at can = tt
read_sound (byte ∷ bytes) (suc left) seen at can =
    let e : at + 1 + length bytes ≡ at + suc (length bytes) = omega arith in
    let P : ℕ → Type 0 = λ n. IsSound n (read bytes left seen (at + 1)) in
    subst P e (read_sound bytes left seen (at + 1) can)
read_sound (byte ∷ bytes) zero seen at can =
    let e : at + 1 + length bytes ≡ at + suc (length bytes) = omega arith in
    let next : ℕ → Seen → Outcome = λ left' seen'. read bytes left' seen' (at + 1) in
    let P : ℕ → Type 0 = λ n. IsSound n (followed at (part_at seen at (byte ∷ bytes)) next) in
    subst P e (followed_sound at (length bytes) (part_at seen at (byte ∷ bytes)) next (part_told seen at (byte ∷ bytes) can)
    (λ left' seen' h. read_sound bytes left' seen' (at + 1) h))

pub outcome_sound : (bytes : List ℕ) → IsSound (length bytes) (outcome bytes)
unfolding outcome
outcome_sound bytes = let P : ℕ → Type 0 = λ n. IsSound n (read bytes 0 Nothing 0) in let e : 0 + length bytes ≡ length bytes = omega arith in subst P e (read_sound bytes 0 Nothing 0 refl)
