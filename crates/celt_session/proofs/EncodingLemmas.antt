-- How many frames and packets a stream has, and what more bytes do to it.
use Rattle.std.proofs.Common.{◌≡◌, ℕ, zero, suc, ◌+◌, ◌-◌, ◌*◌, ◌/◌, ◌≤◌, ◌<◌, false, List, [], ◌++◌, length, take, Some, None, ◌∙◌, ap, arith}
use Rattle.std.specs.Prelude.{◌↔◌, if◌then◌else◌, is_none}
use Rattle.std.specs.List.{flat_map}
use Rattle.std.proofs.Math.Nat.{lt-div-mul-add, div-mul-le_self, le-div_iff_mul-le, add-mul}
use Rattle.std.proofs.Math.Seq.{take-append_seam}
use Rattle.std.proofs.lemmas.Nat.{pow_pos, mul-le}
use Rattle.celt_base.specs.declared.status.Fault.{Fault}
use Rattle.celt_base.specs.declared.kind.Kind.{Kind}
use Rattle.ogg_pages.specs.Spelling.{spelling}
use Rattle.wav_edge.specs.Reading.{Outcome, outcome}
use Rattle.wav_edge.specs.Reading.Outcome.{Faulty}
use Rattle.wav_edge.proofs.LawLemmas.{is_decided, outcome_stays}
use Rattle.celt_session.specs.declared.settings.Settings.{Settings}
use Rattle.celt_session.specs.Frames.{duration}
use Rattle.celt_session.specs.AudioPages.{Coded, kind_in, frame_count, last_packet, settled_packets}
use Rattle.celt_session.specs.Encodings.{AreSettings, pages_by, fault_of, full, running}
use Rattle.celt_session.specs.EncodedFrames.{encoded_frames}
use Rattle.celt_session.specs.EncoderPairs.{pair_work}
use Rattle.celt_session.specs.FrameSessions.{lasting}
use Rattle.celt_session.specs.Outcomes.{is_early_end}
use Rattle.celt_session.proofs.FeedingSamples.{fault_is, faulty_by}
use Rattle.celt_session.proofs.GivenLaws.{running_front, full_front}

-- ---- how many

some_samples : (kind : Kind) → 1 ≤ duration kind
some_samples kind = let p = pow_pos kind.lm in omega arith

pub frames_enough : (c : Coded) (n : ℕ) → 120 + n ≤ frame_count c n * duration (kind_in c)
frames_enough c n =
    let some = some_samples (kind_in c) in
    let d = duration (kind_in c) in
    let below : 120 + n + d - 1 < (120 + n + d - 1) / d * d + d = lt-div-mul-add some in
    omega arith

-- so there is one at least
some_frames : (c : Coded) (n count : ℕ) → 120 + n ≤ count * duration (kind_in c) → 1 ≤ count
some_frames c n zero h = omega arith
some_frames c n (suc count) h = omega arith

pub frames_fewest : (c : Coded) (n : ℕ) → (frame_count c n - 1) * duration (kind_in c) < 120 + n
frames_fewest c n =
    let d = duration (kind_in c) in
    let count = frame_count c n in
    let some = some_samples (kind_in c) in
    let positive = some_frames c n count (frames_enough c n) in
    let within = div-mul-le_self (120 + n + d - 1) d in
    let e : count ≡ count - 1 + 1 = omega arith in
    let split : count * d ≡ (count - 1) * d + 1 * d = ap (λ k. k * d) e ∙ add-mul (count - 1) 1 d in
    omega arith

pub last_frames : (c : Coded) (n : ℕ) → 1 ≤ c.group → (last_packet c n * c.group < frame_count c n) × (frame_count c n ≤ (last_packet c n + 1) * c.group)
last_frames c n some =
    let count = frame_count c n in
    let positive = some_frames c n count (frames_enough c n) in
    let within = div-mul-le_self (count - 1) c.group in
    let below : count - 1 < (count - 1) / c.group * c.group + c.group = lt-div-mul-add some in
    let split = add-mul (last_packet c n) 1 c.group in
    (omega arith, omega arith)

pub packets_within : (c : Coded) (n p : ℕ) → 1 ≤ c.group → (p < settled_packets c n) ↔ ((p + 1) * (c.group * duration (kind_in c)) ≤ n)
packets_within c n p some =
    let s = some_samples (kind_in c) in
    let long = mul-le 1 1 c.group (duration (kind_in c)) some s in
    let either : (p + 1 ≤ n / (c.group * duration (kind_in c))) ↔ ((p + 1) * (c.group * duration (kind_in c)) ≤ n) = le-div_iff_mul-le (omega arith) in
    (λ h. either.0 (omega arith), λ h. let more = either.1 h in omega arith)

-- ---- a fault that no later byte mends

-- it is one of the header
pub broken : (bytes : List ℕ) (fault : Fault) → fault_of bytes ≡ Some fault → is_early_end fault.name ≡ false → outcome bytes ≡ Faulty fault
broken bytes fault h name = faulty_by bytes fault (ap lasting h ∙ ap (λ b. if b then None else Some fault) name)

pub still_broken : (bytes more : List ℕ) (fault : Fault) → fault_of bytes ≡ Some fault → is_early_end fault.name ≡ false → outcome (bytes ++ more) ≡ Faulty fault
still_broken bytes more fault h name = let e = broken bytes fault h name in outcome_stays bytes more (ap is_decided e) ∙ e

pub fault_stays : (bytes more : List ℕ) (fault : Fault) → fault_of bytes ≡ Some fault → is_early_end fault.name ≡ false → fault_of (bytes ++ more) ≡ Some fault
fault_stays bytes more fault h name = fault_is (bytes ++ more) (Faulty fault) (still_broken bytes more fault h name)

pub full_broken : (settings : Settings) (bytes more : List ℕ) (fault : Fault) → fault_of bytes ≡ Some fault → is_early_end fault.name ≡ false → full encoded_frames settings (bytes ++ more) ≡ []
unfolding full
full_broken settings bytes more fault h name =
    ap (λ (o : Outcome). flat_map spelling (pages_by encoded_frames settings o (bytes ++ more) (is_none (fault_of (bytes ++ more))))) (still_broken bytes more fault h name)

pub running_broken : (settings : Settings) (bytes more : List ℕ) (fault : Fault) → fault_of bytes ≡ Some fault → is_early_end fault.name ≡ false → running encoded_frames settings (bytes ++ more) ≡ []
unfolding running
running_broken settings bytes more fault h name =
    ap (λ (o : Outcome). flat_map spelling (pages_by encoded_frames settings o (bytes ++ more) false)) (still_broken bytes more fault h name)

-- ---- more bytes only add

pub before_end : (settings : Settings) (bytes more : List ℕ) → AreSettings settings
    → take (length (running encoded_frames settings bytes)) (running encoded_frames settings (bytes ++ more)) ≡ running encoded_frames settings bytes
before_end settings bytes more ok =
    let r = running_front pair_work settings ok bytes more in
    ap (take (length (running encoded_frames settings bytes))) r.1 ∙ take-append_seam (running encoded_frames settings bytes) r.0

pub at_end : (settings : Settings) (bytes more : List ℕ) → AreSettings settings
    → take (length (running encoded_frames settings bytes)) (full encoded_frames settings (bytes ++ more)) ≡ running encoded_frames settings bytes
at_end settings bytes more ok =
    let r = full_front pair_work settings ok bytes more in
    ap (take (length (running encoded_frames settings bytes))) r.1 ∙ take-append_seam (running encoded_frames settings bytes) r.0
