-- The end of a file, by what a session has made of it.
use Rattle.std.proofs.Common.{◌≡◌, ℕ, ◌+◌, ◌-◌, ◌*◌, ◌/◌, ◌%◌, ◌≤◌, ◌<◌, ◌⊎◌, inl, inr, Bool, true, false, nat_le, List, [], ◌++◌, length, take, drop, Option, Some, None, refl, sym, ◌∙◌, ap, subst, arith, append-nil, length-drop}
use Rattle.std.specs.Prelude.{if◌then◌else◌, ◌==◌, is_none}
use Rattle.std.specs.List.{flat_map}
use Rattle.std.specs.Io.KnownBytes.{Appends}
use Rattle.std.proofs.KnownBytes.{Appends-nil}
use Rattle.std.proofs.Math.Nat.{mul_assoc, add-mul-mod_self_left, mul-add-mod_self_left}
use Rattle.std.proofs.Math.Seq.{drop-append_seam}
use Rattle.std.proofs.lemmas.Bool.{cases_lt, eqb-true, leb-true, eq-eqb, ne_eqb, le-leb, lt-leb}
use Rattle.std.proofs.lemmas.List.{length-take-le}
use Rattle.celt_base.specs.declared.status.Fault.{Fault}
use Rattle.celt_base.specs.declared.status.FaultName.TheVariants as names
use Rattle.celt_base.specs.declared.kind.Kind.{Kind}
use Rattle.ogg_pages.specs.Spelling.{spelling}
use Rattle.wav_edge.specs.Reading.{Outcome, outcome, within_size, is_whole, fault_at_end, end_fault}
use Rattle.wav_edge.specs.Reading.Outcome.{Unfinished, Started}
use Rattle.celt_session.specs.declared.plan.Plan.{Plan}
use Rattle.celt_session.specs.declared.maker.Maker.{Maker}
use Rattle.celt_session.specs.declared.recording.Recording.{Recording}
use Rattle.celt_session.specs.declared.settings.Settings.{Settings}
use Rattle.celt_session.specs.Encodings.{pages_by, fault_by, fault_of, full, running}
use Rattle.celt_session.specs.Frames.{kind_of}
use Rattle.celt_session.specs.FrameFunctions.{FrameFunction}
use Rattle.celt_session.specs.Windows.{lead}
use Rattle.celt_session.specs.FrameWorks.{FrameWorks}
use Rattle.celt_session.specs.Packers.{pages_text}
use Rattle.celt_session.specs.Makers.{group_bytes, plan_frame, GoesOn, settled_for, frames_for, last_for, ending_text}
use Rattle.celt_session.specs.FrameSessions.{given, full_more, running_more, is_complete, left_of, AmongSamples}
use Rattle.celt_session.proofs.WindowLemmas.{held-len}
use Rattle.celt_session.proofs.GivenPages.{IsPlanOf, headers_for, packets_for, packets_made, given_begins, all_ended, all_settled, kind_channels_are}
use Rattle.celt_session.proofs.FeedingSamples.{fault_is, given_none, plan_of, has_begun}
use Rattle.std.proofs.lemmas.Nat.{le-div}
use Rattle.celt_session.proofs.MakerLemmas.{plan_sizes}
use Rattle.celt_session.proofs.LastFrames.{IsRest, rest_of, settled_is, frames_are, least_last}
use Rattle.celt_session.proofs.WholeSizes.{whole_size}

-- ---- before the samples

pub header_fault : (bytes : List ℕ) (between : Bool) (fault : Fault) → outcome bytes ≡ Unfinished between → end_fault bytes ≡ Some fault → fault_of bytes ≡ Some fault
unfolding end_fault
header_fault bytes between fault e h = fault_is bytes (Unfinished between) e ∙ sym (ap (λ (o : Outcome). fault_at_end o (length bytes)) e) ∙ h

pub full_none : (f : FrameFunction) (settings : Settings) (bytes : List ℕ) (between : Bool) (held : Option (List ℕ)) → outcome bytes ≡ Unfinished between → Appends held held (full_more f settings bytes)
unfolding full_more full
full_none f settings bytes between held e =
    let none : flat_map spelling (pages_by f settings (outcome bytes) bytes (is_none (fault_of bytes))) ≡ [] = ap (λ (o : Outcome). flat_map spelling (pages_by f settings o bytes (is_none (fault_of bytes)))) e in
    subst (Appends held held) (sym (ap (λ l. drop (length l) (flat_map spelling (pages_by f settings (outcome bytes) bytes (is_none (fault_of bytes))))) (given_none f settings bytes between e) ∙ none)) (Appends-nil held)

pub running_none : (f : FrameFunction) (settings : Settings) (bytes : List ℕ) (between : Bool) (held : Option (List ℕ)) → outcome bytes ≡ Unfinished between → Appends held held (running_more f settings bytes)
unfolding running_more running
running_none f settings bytes between held e =
    let none : flat_map spelling (pages_by f settings (outcome bytes) bytes false) ≡ [] = ap (λ (o : Outcome). flat_map spelling (pages_by f settings o bytes false)) e in
    subst (Appends held held) (sym (ap (λ l. drop (length l) (flat_map spelling (pages_by f settings (outcome bytes) bytes false))) (given_none f settings bytes between e) ∙ none)) (Appends-nil held)

-- ---- whether all samples came

same_tests : (size count : ℕ) → (size - count == 0) ≡ nat_le size count
same_tests size count = by_less (cases_lt count size) where
  by_less : (count < size) ⊎ (size ≤ count) → (size - count == 0) ≡ nat_le size count
  by_less (inl less) = ne_eqb (size - count) 0 (λ e. omega arith) ∙ sym (lt-leb size count less)
  by_less (inr more) = eq-eqb (size - count) 0 (omega arith) ∙ sym (le-leb size count more)

-- what is held has the remainder of all that came
same_remainder : (channels samples done count held : ℕ) → held + group_bytes channels (done * samples) ≡ group_bytes channels lead + count → held % (2 * channels) ≡ count % (2 * channels)
same_remainder channels samples done count held e =
    let a = mul_assoc 2 channels (done * samples) in
    let b = mul_assoc 2 channels lead in
    let c : held + 2 * channels * (done * samples) ≡ 2 * channels * lead + count = omega arith in
    sym (add-mul-mod_self_left held (2 * channels) (done * samples)) ∙ ap (λ n. n % (2 * channels)) c ∙ mul-add-mod_self_left (2 * channels) lead count

complete_by : (size left : Option ℕ) (channels held : ℕ) (rest : List ℕ) (count : ℕ) → left ≡ left_of size count → held % (2 * channels) ≡ length (within_size size rest) % (2 * channels) → length rest ≡ count
    → is_complete left channels held ≡ is_whole channels size count
complete_by None left channels held rest count e same len = ap (λ l. is_complete l channels held) e ∙ ap (λ n. n == 0) (same ∙ ap (λ n. n % (2 * channels)) len)
complete_by (Some size) left channels held rest count e same len = ap (λ l. is_complete l channels held) e ∙ same_tests size count

even_by : (size : Option ℕ) (channels : ℕ) (rest : List ℕ) (count : ℕ) → length rest ≡ count → ((n : ℕ) → size ≡ Some n → n % (2 * channels) ≡ 0) → is_whole channels size count ≡ true → length (within_size size rest) % (2 * channels) ≡ 0
even_by None channels rest count len whole t = ap (λ n. n % (2 * channels)) len ∙ eqb-true (count % (2 * channels)) 0 t
even_by (Some size) channels rest count len whole t =
    let less : size ≤ count = leb-true size count t in
    let same : length (take size rest) ≡ size = length-take-le size rest (omega arith) in
    ap (λ n. n % (2 * channels)) same ∙ whole size refl

module _ {W : Type 0} (w : FrameWorks W) (settings : Settings) (r : Recording) (m : Maker W) (fed : ℕ) (bytes : List ℕ) (h : AmongSamples w settings r m fed bytes) where
  abbrev heard : List ℕ
  heard = within_size h.size (drop h.place bytes)

  plan_is : IsPlanOf r.plan settings h.channels heard bytes
  plan_is = plan_of w settings r m bytes fed h

  channels_same : r.plan.kind.channels ≡ h.channels
  channels_same = ap (λ (k : Kind). k.channels) (r.plan.kind_is ∙ ap kind_of h.toc) ∙ kind_channels_are w.function r.plan settings h.channels heard bytes plan_is

  there : h.place ≤ length bytes
  there = (has_begun bytes h.channels 48000 h.place h.size h.begun).there

  held_is : length m.framer.held.items + group_bytes r.plan.kind.channels (16 * h.batches * r.plan.samples) ≡ group_bytes r.plan.kind.channels lead + length heard
  held_is = held-len r.plan.kind.channels r.plan.samples (16 * h.batches) heard m.framer.held.items h.made.held h.made.within

  -- all samples came
  pub complete_is : is_complete r.left r.plan.kind.channels (length m.framer.held.items) ≡ is_whole h.channels h.size (length bytes - h.place)
  complete_is =
      complete_by h.size r.left r.plan.kind.channels (length m.framer.held.items) (drop h.place bytes) (length bytes - h.place) h.left
      (same_remainder r.plan.kind.channels r.plan.samples (16 * h.batches) (length heard) (length m.framer.held.items) held_is) (length-drop h.place bytes)
      ∙ ap (λ n. is_whole n h.size (length bytes - h.place)) channels_same

  -- then they are whole groups
  pub even_is : is_whole h.channels h.size (length bytes - h.place) ≡ true → length heard % (2 * r.plan.kind.channels) ≡ 0
  even_is t =
      ap (λ n. length heard % (2 * n)) channels_same ∙ even_by h.size h.channels (drop h.place bytes) (length bytes - h.place) (length-drop h.place bytes) (λ size e. whole_size bytes h.channels 48000 size h.place (subst (λ o. outcome bytes ≡ Started h.channels 48000 o h.place) e h.begun)) t

  fault_as : fault_of bytes ≡ fault_by (Started h.channels 48000 h.size h.place) (length bytes)
  fault_as = fault_is bytes (Started h.channels 48000 h.size h.place) h.begun

  pub no_fault : is_whole h.channels h.size (length bytes - h.place) ≡ true → fault_of bytes ≡ None
  no_fault t = fault_as ∙ ap (λ b. if b then None else Some (record { name = names.DataTruncated; at = length bytes })) t

  pub cut_fault : is_whole h.channels h.size (length bytes - h.place) ≡ false → fault_of bytes ≡ Some (record { name = names.DataTruncated; at = fed })
  cut_fault t = fault_as ∙ ap (λ b. if b then None else Some (record { name = names.DataTruncated; at = length bytes })) t ∙ ap (λ n. Some (record { name = names.DataTruncated; at = n })) (sym h.count)

  -- ---- their text

  abbrev plan : Plan
  plan = r.plan

  abbrev frame : ℕ → List ℕ
  frame = plan_frame w.function r.plan heard

  -- what follows the pages that were given
  behind : (all text : List ℕ) (packets : ℕ) → all ≡ headers_for h.channels ++ (pages_text plan frame 0 packets ++ text) → packets_for plan heard ≤ packets
      → drop (length (given w.function settings bytes)) all ≡ pages_text plan frame (packets_for plan heard) (packets - packets_for plan heard) ++ text
  behind all text packets e ahead =
      ap (drop (length (given w.function settings bytes))) (given_begins w.function plan settings h.channels heard bytes plan_is h.size h.place h.begun all text packets e ahead)
      ∙ drop-append_seam (given w.function settings bytes) (pages_text plan frame (packets_for plan heard) (packets - packets_for plan heard) ++ text)

  module _ (going : GoesOn r.plan m) where
    made_is : packets_for plan heard ≡ m.packer.packets
    made_is = packets_made w r.plan heard h.batches m h.made going

    rest : IsRest plan.kind.channels plan.samples (16 * h.batches) (length heard) ((length m.framer.held.items - group_bytes plan.kind.channels lead) / (2 * plan.kind.channels))
    rest = rest_of w plan heard (16 * h.batches) m h.made

    pub full_is : fault_of bytes ≡ None → full_more w.function settings bytes ≡ ending_text frame plan heard m.packer.packets
    unfolding full_more full
    full_is none =
        let o = Started h.channels 48000 h.size h.place in
        let groups = (length m.framer.held.items - group_bytes plan.kind.channels lead) / (2 * plan.kind.channels) in
        let last = (frames_for plan heard - 1) / plan.group in
        let frames = frames_are plan frame heard (16 * h.batches) m.packer.packets ((120 + groups + plan.samples - 1) / plan.samples) groups rest.all refl in
        let least = least_last plan.samples groups (plan_sizes plan).0 in
        let place = h.made.packs.place in
        let some = plan.some in
        let ahead : m.packer.packets ≤ last = le-div m.packer.packets (frames_for plan heard - 1) plan.group (omega arith) (omega arith) in
        let all : flat_map spelling (pages_by w.function settings (outcome bytes) bytes (is_none (fault_of bytes))) ≡ headers_for h.channels ++ (pages_text plan frame 0 last ++ spelling (last_for frame plan heard)) =
        ap (λ (x : Outcome). flat_map spelling (pages_by w.function settings x bytes (is_none (fault_of bytes)))) h.begun
        ∙ ap (λ (x : Option Fault). flat_map spelling (pages_by w.function settings o bytes (is_none x))) none
        ∙ all_ended w.function plan settings h.channels heard bytes plan_is h.size h.place in
        behind _ (spelling (last_for frame plan heard)) last all (subst (λ n. n ≤ last) (sym made_is) ahead)
        ∙ ap (λ n. pages_text plan frame n (last - n) ++ spelling (last_for frame plan heard)) made_is

    settled_ahead : m.packer.packets ≤ settled_for plan heard
    settled_ahead =
        let place = h.made.packs.place in
        let some = plan.some in
        let whole = rest.whole in
        subst (λ n. m.packer.packets ≤ n) (sym (settled_is plan heard (length heard / 2 / plan.kind.channels / plan.samples) refl))
        (le-div m.packer.packets (length heard / 2 / plan.kind.channels / plan.samples) plan.group (omega arith) (omega arith))

    settled_behind : (all : List ℕ) → all ≡ flat_map spelling (pages_by w.function settings (Started h.channels 48000 h.size h.place) bytes false)
        → drop (length (given w.function settings bytes)) all ≡ pages_text plan frame m.packer.packets (settled_for plan heard - m.packer.packets)
    settled_behind all e =
        let text =
        e ∙ all_settled w.function plan settings h.channels heard bytes plan_is h.size h.place
        ∙ ap (λ l. headers_for h.channels ++ l) (sym (append-nil (pages_text plan frame 0 (settled_for plan heard)))) in
        behind all [] (settled_for plan heard) text (subst (λ n. n ≤ settled_for plan heard) (sym made_is) settled_ahead)
        ∙ append-nil (pages_text plan frame (packets_for plan heard) (settled_for plan heard - packets_for plan heard))
        ∙ ap (λ n. pages_text plan frame n (settled_for plan heard - n)) made_is

    pub cut_is : (fault : Fault) → fault_of bytes ≡ Some fault → full_more w.function settings bytes ≡ pages_text plan frame m.packer.packets (settled_for plan heard - m.packer.packets)
    unfolding full_more full
    cut_is fault some =
        settled_behind _
        (ap (λ (x : Outcome). flat_map spelling (pages_by w.function settings x bytes (is_none (fault_of bytes)))) h.begun
        ∙ ap (λ (x : Option Fault). flat_map spelling (pages_by w.function settings (Started h.channels 48000 h.size h.place) bytes (is_none x))) some)

    pub running_is : running_more w.function settings bytes ≡ pages_text plan frame m.packer.packets (settled_for plan heard - m.packer.packets)
    unfolding running_more running
    running_is = settled_behind _ (ap (λ (x : Outcome). flat_map spelling (pages_by w.function settings x bytes false)) h.begun)
