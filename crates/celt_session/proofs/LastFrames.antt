-- The last frames of samples.
use Rattle.std.proofs.Common.{◌≡◌, ℕ, pos, zero, suc, ◌+◌, ◌-◌, ◌*◌, ◌/◌, ◌%◌, ◌^◌, ◌≤◌, ◌<◌, ◌⊎◌, inl, inr, List, [], ◌∷◌, ◌++◌, length, replicate, Option, Vec, Result, Ok, Err, refl, sym, ◌∙◌, ap, subst, arith, append_assoc, append-nil}
use Rattle.std.specs.declared.alloc.Global.{Global}
use Rattle.std.specs.Io.KnownBytes.{Appends}
use Rattle.std.proofs.KnownBytes.{Appends-trans}
use Rattle.std.proofs.Math.Nat.{mul_assoc, mul_comm, mul-add, div-div-eq-div-mul, mul-add-div, mul-add-div_right, div-mul-le_self}
use Rattle.std.proofs.lemmas.Bool.{cases_lt}
use Rattle.std.proofs.lemmas.Nat.{mul-le, le-div, div-mul-add}
use Rattle.std.proofs.lemmas.List.{replicate-append-replicate}
use Rattle.celt_base.specs.declared.outside.Failed.{Failed}
use Rattle.celt_base.specs.Outside.{AppendsFront, WritesAll}
use Rattle.celt_base.proofs.Causes.{longer_front, then_front}
use Rattle.wav_edge.specs.Samples.{samples_of}
use Rattle.celt_session.specs.declared.plan.Plan.{Plan}
use Rattle.celt_session.specs.declared.packer.Packer.{Packer}
use Rattle.celt_session.specs.declared.maker.Maker.{Maker}
use Rattle.celt_session.specs.FrameFunctions.{FrameFunction}
use Rattle.celt_session.specs.Windows.{lead, window_of}
use Rattle.celt_session.specs.FrameWorks.{FrameWorks, batch_len}
use Rattle.ogg_pages.specs.Spelling.{spelling}
use Rattle.celt_session.specs.AudioPages.{page_of}
use Rattle.celt_session.specs.Packers.{coded_by, Packs, pages_text, WritesFull, WritesSome, Packed}
use Rattle.celt_session.specs.Makers.{group_bytes, plan_row, plan_frame, HasMade, MakesMore, Made, settled_for, frames_for, last_for, ending_text}
use Rattle.celt_session.proofs.Sampling.{samples-join}
use Rattle.celt_session.proofs.Rows.{state-none, frame-follows}
use Rattle.celt_session.proofs.WindowLemmas.{held-len, window-filled}
use Rattle.celt_session.proofs.PacketLemmas.{text-between, full-same, some-same, wrote_on, wrote_none, wrote_some}
use Rattle.celt_session.proofs.MakerLemmas.{plan_sizes, makes_longer, with_held}

-- ---- what is left of the samples

-- Of the bytes of samples so many frames are done, and what is held behind the lead is the rest.
pub record IsRest (channels samples done count groups : ℕ) : Type 0 where
  pub all : count / 2 / channels ≡ done * samples + groups
  pub whole : count / 2 / channels / samples ≡ done + groups / samples

pub rest_is : (channels samples done count held : ℕ) → 1 ≤ channels → 1 ≤ samples → held + group_bytes channels (done * samples) ≡ group_bytes channels lead + count → group_bytes channels (done * samples) ≤ count
    → IsRest channels samples done count ((held - group_bytes channels lead) / (2 * channels))
rest_is channels samples done count held some more e within =
    let left = held - group_bytes channels lead in
    let split : count ≡ 2 * channels * (done * samples) + left = let a = mul_assoc 2 channels (done * samples) in omega arith in
    let positive : 0 < 2 * channels = omega arith in
    let all : count / 2 / channels ≡ done * samples + left / (2 * channels) = div-div-eq-div-mul count 2 channels ∙ ap (λ n. n / (2 * channels)) split ∙ mul-add-div positive (done * samples) left in
    let some_samples : 0 < samples = omega arith in
    record { all = all; whole = ap (λ n. n / samples) all ∙ mul-add-div_right some_samples done (left / (2 * channels)) }

-- so many frames of them can be made
pub rest_held : (channels samples held : ℕ) (count : ℕ) → 1 ≤ channels → 1 ≤ samples → 1 ≤ count → count ≡ (held - group_bytes channels lead) / (2 * channels) / samples → 2 * (channels * (lead + count * samples)) ≤ held
rest_held channels samples held count some more one e =
    let left = held - group_bytes channels lead in
    let groups = left / (2 * channels) in
    let a : count * samples ≤ groups = subst (λ n. n * samples ≤ groups) (sym e) (div-mul-le_self groups samples) in
    let b : groups * (2 * channels) ≤ left = div-mul-le_self left (2 * channels) in
    let c = mul-le (count * samples) (2 * channels) groups (2 * channels) a (omega arith) in
    let d : count * samples * (2 * channels) ≡ 2 * (channels * (count * samples)) = mul_comm (count * samples) (2 * channels) ∙ mul_assoc 2 channels (count * samples) in
    let f = mul-add channels lead (count * samples) in
    let g = mul-le 1 1 channels (count * samples) some (let h = mul-le 1 1 count samples one more in omega arith) in
    omega arith

pub settled_is : (plan : Plan) (heard : List ℕ) (frames : ℕ) → length heard / 2 / plan.kind.channels / plan.samples ≡ frames → settled_for plan heard ≡ frames / plan.group
settled_is plan heard frames e =
    ap (λ n. length heard / 2 / plan.kind.channels / n) (mul_comm plan.group plan.samples)
    ∙ sym (div-div-eq-div-mul (length heard / 2 / plan.kind.channels) plan.samples plan.group) ∙ ap (λ n. n / plan.group) e

module _ {W : Type 0} (w : FrameWorks W) (plan : Plan) (heard : List ℕ) (done : ℕ) (m : Maker W) (h : HasMade w plan heard done m) where
  pub rest_of : IsRest plan.kind.channels plan.samples done (length heard) ((length m.framer.held.items - group_bytes plan.kind.channels lead) / (2 * plan.kind.channels))
  rest_of =
      let s = plan_sizes plan in
      let t = s.0 in
      rest_is plan.kind.channels plan.samples done (length heard) (length m.framer.held.items) plan.kind.some_channel (omega arith) (held-len plan.kind.channels plan.samples done heard m.framer.held.items h.held h.within) h.within

-- ---- settling

module _ (plan : Plan) (frame : ℕ → List ℕ) (done packets settled : ℕ) (is : settled ≡ done / plan.group) where
  pub settles : (now : Packer) (old new : Option (List ℕ)) → WritesFull plan frame done packets now old new → now.count < plan.group → Appends old new (pages_text plan frame packets (settled - packets))
  settles now old new w less =
      let same : settled ≡ now.packets = is ∙ ap (λ n. n / plan.group) (sym w.packs.place) ∙ div-mul-add now.packets plan.group now.count less in
      subst (λ n. Appends old new (pages_text plan frame packets (n - packets))) (sym same) w.text

  pub settles_front : (old new : Option (List ℕ)) → WritesSome plan frame done packets old new → AppendsFront old new (pages_text plan frame packets (settled - packets))
  settles_front old new w =
      let some = plan.some in
      let within = w.within in
      let ahead = w.ahead in
      let most : w.until ≤ settled = subst (λ n. w.until ≤ n) (sym is) (le-div w.until done plan.group (omega arith) within) in
      subst (AppendsFront old new) (sym (text-between plan frame packets w.until settled ahead most))
      (longer_front old new (pages_text plan frame packets (w.until - packets)) (pages_text plan frame w.until (settled - w.until)) w.text)

  pub settles_all : (now : Packer) (old new : Option (List ℕ)) (result : Result (Unit {0}) Failed) → Packed plan frame done packets now old new result → now.count < plan.group → WritesAll old new result (pages_text plan frame packets (settled - packets))
  settles_all now old new (Ok written) w less = settles now old new w less
  settles_all now old new (Err failure) w less = settles_front old new w

-- what a maker wrote, as its packer has it
pub packed_of : {W : Type 0} (w : FrameWorks W) (plan : Plan) (heard : List ℕ) (done packets : ℕ) (now : Maker W) (old new : Option (List ℕ)) (result : Result (Unit {0}) Failed) → Made w plan heard done packets now old new result
    → Packed plan (plan_frame w.function plan heard) done packets now.packer old new result
packed_of w plan heard done packets now old new (Ok written) m = m.wrote
packed_of w plan heard done packets now old new (Err failure) m = m

-- ---- samples of 0 behind the last

zeros_step : (k : ℕ) → samples_of (0 ∷ 0 ∷ replicate k 0) ≡ pos 0 ∷ samples_of (replicate k 0)
unfolding samples_of
zeros_step k = refl

zeros_short : samples_of (0 ∷ []) ≡ []
unfolding samples_of
zeros_short = refl

zeros_none : samples_of [] ≡ []
unfolding samples_of
zeros_none = refl

samples_zeros : (k : ℕ) → samples_of (replicate k 0) ≡ replicate (k / 2) (pos 0)
samples_zeros zero = zeros_none
samples_zeros (suc zero) = zeros_short
samples_zeros (suc (suc k)) =
    let e : suc (suc k) / 2 ≡ suc (k / 2) = omega arith in
    zeros_step k ∙ ap (λ l. pos 0 ∷ l) (samples_zeros k) ∙ sym (ap (λ n. replicate n (pos 0)) e)

samples_filled : (heard : List ℕ) (zeros : ℕ) → length heard % 2 ≡ 0 → samples_of (heard ++ replicate zeros 0) ≡ samples_of heard ++ replicate (zeros / 2) (pos 0)
samples_filled heard zeros even =
    let k = length heard / 2 in
    let e : length heard ≡ 2 * k = omega arith in
    samples-join k heard (replicate zeros 0) e ∙ ap (λ l. samples_of heard ++ l) (samples_zeros zeros)

-- they change no frame
pub frame_filled : (f : FrameFunction) (plan : Plan) (heard : List ℕ) (zeros : ℕ) → length heard % 2 ≡ 0 → (t : ℕ) → plan_frame f plan (heard ++ replicate zeros 0) t ≡ plan_frame f plan heard t
frame_filled f plan heard zeros even t =
    let none : 0 + t ≡ t = omega arith in
    frame-follows f (plan_row f plan heard) (plan_row f plan (heard ++ replicate zeros 0)) 0 (t + 1) (record {
      kind = refl;
      from = sym (state-none f (plan_row f plan heard));
      window = λ k less.
          let same : k ≡ 0 + k = omega arith in
          ap (λ l. window_of plan.kind.channels plan.samples l k) (samples_filled heard zeros even) ∙ window-filled plan.kind.channels plan.samples k (samples_of heard) (zeros / 2)
          ∙ ap (window_of plan.kind.channels plan.samples (samples_of heard)) same;
      bytes = λ k less. refl;
    }) t (omega arith) ∙ ap (plan_frame f plan heard) none

-- more frames were made, with samples of 0 behind those that were given
pub record FillsUp {W : Type 0} (w : FrameWorks W) (plan : Plan) (heard : List ℕ) (done packets : ℕ) (now : Maker W) (old new : Option (List ℕ)) : Type 0 where
  pub zeros : ℕ
  pub makes : MakesMore w plan (heard ++ replicate zeros 0) done packets now old new

module _ {W : Type 0} (w : FrameWorks W) (plan : Plan) (heard : List ℕ) (done : ℕ) where
  pub fills_none : (m : Maker W) (old : Option (List ℕ)) → HasMade w plan heard done m → FillsUp w plan heard (done + 0) m.packer.packets m old old
  fills_none m old h =
      let none : done + 0 ≡ done = omega arith in
      record {
        zeros = 0;
        makes = subst (λ n. MakesMore w plan (heard ++ []) n m.packer.packets m old old) (sym none)
            (subst (λ l. MakesMore w plan l done m.packer.packets m old old) (sym (append-nil heard)) (record { made = h; wrote = wrote_none plan (plan_frame w.function plan heard) old done m.packer h.packs }));
      }

  -- what is held was filled up
  pub fills_held : (made packets zeros : ℕ) (m : Maker W) (held : Vec ℕ Global) (old new : Option (List ℕ)) → FillsUp w plan heard made packets m old new → held.items ≡ m.framer.held.items ++ replicate zeros 0
      → FillsUp w plan heard made packets (with_held w plan m held) old new
  fills_held made packets zeros m held old new f is = record {
    zeros = f.zeros + zeros;
    makes = subst (λ l. MakesMore w plan l made packets (with_held w plan m held) old new)
        (append_assoc heard (replicate f.zeros 0) (replicate zeros 0) ∙ ap (λ l. heard ++ l) (replicate-append-replicate f.zeros zeros 0))
        (makes_longer w plan (heard ++ replicate f.zeros 0) (replicate zeros 0) made packets m (with_held w plan m held) old new f.makes is refl refl);
  }

  -- a batch was made
  pub fills_more : (made count packets : ℕ) (m now : Maker W) (old between new : Option (List ℕ)) (f : FillsUp w plan heard (done + made) packets m old between)
      → MakesMore w plan (heard ++ replicate f.zeros 0) (done + made + count) m.packer.packets now between new → FillsUp w plan heard (done + (made + count)) packets now old new
  fills_more made count packets m now old between new f h =
      let e : done + made + count ≡ done + (made + count) = omega arith in
      record {
        zeros = f.zeros;
        makes = subst (λ n. MakesMore w plan (heard ++ replicate f.zeros 0) n packets now old new) e (record {
          made = h.made;
          wrote = wrote_on plan (plan_frame w.function plan (heard ++ replicate f.zeros 0)) old (done + made) (done + made + count) packets m.packer now.packer between new (Ok tt) f.makes.wrote h.wrote;
        });
      }

  -- a write failed
  pub fills_failed : (made count frames later packets : ℕ) (m : Maker W) (old between new : Option (List ℕ)) → length heard % 2 ≡ 0 → later ≤ done + frames → (f : FillsUp w plan heard (done + made) packets m old between)
      → WritesSome plan (plan_frame w.function plan (heard ++ replicate f.zeros 0)) later m.packer.packets between new → WritesSome plan (plan_frame w.function plan heard) (done + frames) packets old new
  fills_failed made count frames later packets m old between new even less f h =
      let filled = plan_frame w.function plan (heard ++ replicate f.zeros 0) in
      let some = wrote_on plan filled old (done + made) later packets m.packer m.packer between new (Err (record {})) f.makes.wrote h in
      let e : later + (done + frames - later) ≡ done + frames = omega arith in
      some-same plan filled (plan_frame w.function plan heard) (done + frames) (λ t within. sym (frame_filled w.function plan heard f.zeros even t)) packets old new
      (subst (λ n. WritesSome plan filled n packets old new) e (wrote_some plan filled old later (done + frames - later) packets new some))

  pub fills_before : (made count frames packets : ℕ) (m : Maker W) (old between new : Option (List ℕ)) → length heard % 2 ≡ 0 → 1 ≤ count → made + count ≤ frames → (f : FillsUp w plan heard (done + made) packets m old between)
      → WritesSome plan (plan_frame w.function plan (heard ++ replicate f.zeros 0)) (done + made + count - 1) m.packer.packets between new → WritesSome plan (plan_frame w.function plan heard) (done + frames - 1) packets old new
  fills_before made count frames packets m old between new even some less f h =
      let e : done + (frames - 1) ≡ done + frames - 1 = omega arith in
      subst (λ n. WritesSome plan (plan_frame w.function plan heard) n packets old new) e (fills_failed made count (frames - 1) (done + made + count - 1) packets m old between new even (omega arith) f h)

  -- all were made
  pub fills_all : (made frames packets : ℕ) (now : Maker W) (old new : Option (List ℕ)) → length heard % 2 ≡ 0 → made ≡ frames → FillsUp w plan heard (done + made) packets now old new
      → WritesFull plan (plan_frame w.function plan heard) (done + frames) packets now.packer old new
  fills_all made frames packets now old new even e f =
      let filled = plan_frame w.function plan (heard ++ replicate f.zeros 0) in
      subst (λ n. WritesFull plan (plan_frame w.function plan heard) (done + n) packets now.packer old new) e
      (full-same plan filled (plan_frame w.function plan heard) (done + made) (λ t within. sym (frame_filled w.function plan heard f.zeros even t)) packets now.packer old new f.makes.wrote)

-- ---- the page that ends the stream

module _ (plan : Plan) (frame : ℕ → List ℕ) (heard : List ℕ) (done packets frames groups : ℕ) (all : length heard / 2 / plan.kind.channels ≡ done * plan.samples + groups) (left : frames ≡ (120 + groups + plan.samples - 1) / plan.samples) where
  pub frames_are : frames_for plan heard ≡ done + frames
  frames_are =
      let s = plan_sizes plan in
      let t = s.0 in
      let some : 0 < plan.samples = omega arith in
      let e : 120 + length heard / 2 / plan.kind.channels + plan.samples - 1 ≡ done * plan.samples + (120 + groups + plan.samples - 1) = omega arith in
      ap (λ n. n / plan.samples) e ∙ mul-add-div_right some done (120 + groups + plan.samples - 1) ∙ ap (λ n. done + n) (sym left)

  last_at : (now : Packer) → Packs plan frame (done + frames) now → 1 ≤ now.count → now.count ≤ plan.group → (frames_for plan heard - 1) / plan.group ≡ now.packets
  last_at now h some few =
      let place = h.place in
      let e : frames_for plan heard - 1 ≡ now.packets * plan.group + (now.count - 1) = let f = frames_are in omega arith in
      ap (λ n. n / plan.group) e ∙ div-mul-add now.packets plan.group (now.count - 1) (omega arith)

  -- it was written
  pub ends_all : (now : Packer) (granule : ℕ) (old between new : Option (List ℕ)) (result : Result (Unit {0}) Failed) → WritesFull plan frame (done + frames) packets now old between → 1 ≤ now.count → now.count ≤ plan.group
      → granule ≡ 120 + done * plan.samples + groups → WritesAll between new result (spelling (page_of (coded_by plan frame) 4 granule now.packets now.count)) → WritesAll old new result (ending_text frame plan heard packets)
  ends_all now granule old between new result w some few at written = by_result result (subst (WritesAll between new result) last written) where
    at_end : (frames_for plan heard - 1) / plan.group ≡ now.packets
    at_end = last_at now w.packs some few

    last : spelling (page_of (coded_by plan frame) 4 granule now.packets now.count) ≡ spelling (last_for frame plan heard)
    last =
        let e : granule ≡ 120 + length heard / 2 / plan.kind.channels = omega (arith, at, all) in
        let place = w.packs.place in
        let f = frames_are in
        let a = ap (λ n. n * plan.group) at_end in
        let count : now.count ≡ frames_for plan heard - (frames_for plan heard - 1) / plan.group * plan.group = omega arith in
        ap (λ n. spelling (page_of (coded_by plan frame) 4 n now.packets now.count)) e
        ∙ ap (λ n. spelling (page_of (coded_by plan frame) 4 (120 + length heard / 2 / plan.kind.channels) n now.count)) (sym at_end)
        ∙ ap (λ n. spelling (page_of (coded_by plan frame) 4 (120 + length heard / 2 / plan.kind.channels) ((frames_for plan heard - 1) / plan.group) n)) count

    first : Appends old between (pages_text plan frame packets ((frames_for plan heard - 1) / plan.group - packets))
    first = subst (λ n. Appends old between (pages_text plan frame packets (n - packets))) (sym at_end) w.text

    by_result : (r : Result (Unit {0}) Failed) → WritesAll between new r (spelling (last_for frame plan heard)) → WritesAll old new r (ending_text frame plan heard packets)
    by_result (Ok done) x = Appends-trans old between new (pages_text plan frame packets ((frames_for plan heard - 1) / plan.group - packets)) (spelling (last_for frame plan heard)) first x
    by_result (Err failure) x = then_front old between new (pages_text plan frame packets ((frames_for plan heard - 1) / plan.group - packets)) (spelling (last_for frame plan heard)) first x

  -- a write failed before
  pub ends_front : (old new : Option (List ℕ)) → 1 ≤ frames → WritesSome plan frame (done + frames - 1) packets old new → AppendsFront old new (ending_text frame plan heard packets)
  ends_front old new some w =
      let last = (frames_for plan heard - 1) / plan.group in
      let f = frames_are in
      let within = w.within in
      let ahead = w.ahead in
      let most : w.until ≤ last = let g = plan.some in le-div w.until (frames_for plan heard - 1) plan.group (omega arith) (omega arith) in
      longer_front old new (pages_text plan frame packets (last - packets)) (spelling (last_for frame plan heard))
      (subst (AppendsFront old new) (sym (text-between plan frame packets w.until last ahead most))
      (longer_front old new (pages_text plan frame packets (w.until - packets)) (pages_text plan frame w.until (last - w.until)) w.text))

-- ---- sizes at the end

-- fewer than the samples of 16 frames are left
pub few_groups : (plan : Plan) (held : ℕ) → held < 2 * batch_len plan.kind 16 → (held - group_bytes plan.kind.channels lead) / (2 * plan.kind.channels) < 16 * plan.samples
few_groups plan held h = by_less (cases_lt ((held - group_bytes plan.kind.channels lead) / (2 * plan.kind.channels)) (16 * plan.samples)) where
  by_less : ((held - group_bytes plan.kind.channels lead) / (2 * plan.kind.channels) < 16 * plan.samples) ⊎ (16 * plan.samples ≤ (held - group_bytes plan.kind.channels lead) / (2 * plan.kind.channels))
      → (held - group_bytes plan.kind.channels lead) / (2 * plan.kind.channels) < 16 * plan.samples
  by_less (inl less) = less
  by_less (inr many) =
      let c = plan.kind.channels in
      let left = held - group_bytes c lead in
      let a = mul-le (16 * plan.samples) (2 * c) (left / (2 * c)) (2 * c) many (omega arith) in
      let b : left / (2 * c) * (2 * c) ≤ left = div-mul-le_self left (2 * c) in
      let d : 16 * plan.samples * (2 * c) ≡ 2 * (c * (16 * plan.samples)) = mul_comm (16 * plan.samples) (2 * c) ∙ mul_assoc 2 c (16 * plan.samples) in
      let e = mul-add c lead (16 * plan.samples) in
      let f : held < 2 * (c * (lead + 16 * plan.samples)) = subst (λ n. held < 2 * (c * (lead + 16 * n))) (sym plan.samples_is) h in
      let s = plan_sizes plan in
      let t = s.0 in
      let some = plan.kind.some_channel in
      let g = mul-le 1 1 c (16 * plan.samples) some (omega arith) in
      absurd (omega arith)

pub few_last : (samples groups : ℕ) → 120 ≤ samples → groups < 16 * samples → (120 + groups + samples - 1) / samples ≤ 17
few_last samples groups some h = by_less (cases_lt ((120 + groups + samples - 1) / samples) 18) where
  by_less : ((120 + groups + samples - 1) / samples < 18) ⊎ (18 ≤ (120 + groups + samples - 1) / samples) → (120 + groups + samples - 1) / samples ≤ 17
  by_less (inl less) = omega arith
  by_less (inr many) =
      let a = mul-le 18 samples ((120 + groups + samples - 1) / samples) samples many (omega arith) in
      let b = div-mul-le_self (120 + groups + samples - 1) samples in
      absurd (omega arith)

pub least_last : (samples groups : ℕ) → 120 ≤ samples → 1 ≤ (120 + groups + samples - 1) / samples
least_last samples groups some = le-div 1 (120 + groups + samples - 1) samples (omega arith) (omega arith)

pub granule_small : (plan : Plan) (packets count groups : ℕ) → packets + count < 2 ^ 46 → groups < 16 * plan.samples → 120 + (packets * plan.group + count) * plan.samples + groups < 2 ^ 63
granule_small plan packets count groups small less =
    let s = plan_sizes plan in
    let t = s.1 in
    let few = plan.few in
    let a = mul-le packets plan.group (2 ^ 46) 48 (omega arith) (omega arith) in
    let b = mul-le (packets * plan.group + count) plan.samples (49 * 2 ^ 46) 960 (omega arith) (omega arith) in
    omega arith

pub even_of : (channels count : ℕ) → 1 ≤ channels → channels ≤ 2 → count % (2 * channels) ≡ 0 → count % 2 ≡ 0
even_of channels count some two h = by_less (cases_lt channels 2) where
  by_less : (channels < 2) ⊎ (2 ≤ channels) → count % 2 ≡ 0
  by_less (inl less) = let e : channels ≡ 1 = omega arith in let f : count % 2 ≡ 0 = subst (λ n. count % (2 * n) ≡ 0) e h in f
  by_less (inr more) = let e : channels ≡ 2 = omega arith in let f : count % 4 ≡ 0 = subst (λ n. count % (2 * n) ≡ 0) e h in omega arith
