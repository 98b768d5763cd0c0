-- Packets of frames of one length, and the pages of full packets.
use Rattle.std.proofs.Common.{◌≡◌, ℕ, zero, suc, ◌+◌, ◌-◌, ◌*◌, ◌/◌, ◌%◌, ◌^◌, ◌≤◌, ◌<◌, Bool, false, List, [], ◌∷◌, ◌++◌, length, take, drop, slice_index, Option, None, Result, Ok, Err, Vec, refl, sym, ◌∙◌, ap, subst, arith, append_assoc, append-nil, length-append, length-drop, replicate}
use Rattle.std.specs.Prelude.{if◌then◌else◌, nat_lt}
use Rattle.std.specs.List.{concat, flat_map}
use Rattle.std.specs.Io.KnownBytes.{Appends}
use Rattle.std.proofs.KnownBytes.{Appends-nil, Appends-trans}
use Rattle.std.proofs.Math.Nat.{add-mul, one-mul, zero-add, add-suc, suc-mul}
use Rattle.std.proofs.Math.Seq.{take-append_seam}
use Rattle.std.proofs.lemmas.Bool.{le-ltb}
use Rattle.std.proofs.lemmas.List.{length-replicate, length-take-le, with_items_is}
use Rattle.std.proofs.lemmas.List.Concat.{flat_map-append}
use Rattle.std.specs.declared.alloc.Global.{Global}
use Rattle.std.specs.Vec.{with_items}
use Rattle.celt_base.specs.declared.outside.Failed.{Failed}
use Rattle.celt_base.specs.Outside.{AppendsFront, WritesAll}
use Rattle.celt_base.specs.Kinds.{config_of_toc}
use Rattle.celt_base.proofs.Causes.{then_front}
use Rattle.opus_packets.specs.Cut.{parts, equal_parts}
use Rattle.opus_packets.specs.Packet.{config_of, duration_of}
use Rattle.opus_packets.specs.Form.{spelled, Many}
use Rattle.ogg_pages.specs.Fields.{Page}
use Rattle.ogg_pages.specs.Spelling.{spelling}
use Rattle.celt_session.specs.declared.plan.Plan.{Plan}
use Rattle.celt_session.specs.declared.packer.Packer.{Packer}
use Rattle.celt_session.specs.Encoding.{audio_page}
use Rattle.celt_session.specs.Frames.{kind_of, duration}
use Rattle.celt_session.specs.FrameFunctions.{frames_from}
use Rattle.celt_session.specs.AudioPages.{Coded, kind_in, packet_of, page_of, packets_from}
use Rattle.celt_session.specs.Packers.{HasRooms, coded_by, Packs, pages_text, WritesSome, WritesFull, Packed}
use borrow.Rule.Slice.PartMut.{put_mid, mid_of}
use Rattle.std.proofs.lemmas.Nat.{mul-le}
use Rattle.celt_session.proofs.Rows.{frames-parts, frames-same, made_more}

-- ---- one packet

pub packet_many : (toc : ℕ) (frames : List (List ℕ)) → 2 ≤ length frames → packet_of toc frames ≡ spelled toc (Many false None frames)
packet_many toc [] h = absurd (omega arith)
packet_many toc (frame ∷ []) h = absurd (omega arith)
packet_many toc (frame ∷ second ∷ frames) h = refl

parts_len : (ns bytes : List ℕ) → length (parts ns bytes) ≡ length ns
parts_len [] bytes = refl
parts_len (n ∷ ns) bytes = ap suc (parts_len ns (drop n bytes))

pub parts_count : (count : ℕ) (bytes : List ℕ) → length (equal_parts count bytes) ≡ count
parts_count count bytes = parts_len (replicate count (length bytes / count)) bytes ∙ length-replicate {A = ℕ} count (length bytes / count)

-- what was put to the front of a room, the rest of which stays
pub front_is : (n : ℕ) (text old new : List ℕ) → new ≡ text ++ drop n old → length new ≡ length old → n ≤ length old → take n new ≡ text
front_is n text old new is len within =
    let joined : length (text ++ drop n old) ≡ length text + length (drop n old) = length-append text (drop n old) in
    let rest : length (drop n old) ≡ length old - n = length-drop n old in
    let all : length new ≡ length (text ++ drop n old) = ap length is in
    let same : n ≡ length text = omega arith in
    ap (take n) is ∙ ap (λ k. take k (text ++ drop n old)) same ∙ take-append_seam text (drop n old)

pub code_none : (toc : ℕ) → toc % 4 ≡ 0 → toc - toc % 4 ≡ toc
code_none toc h = omega arith

-- the samples of a frame, by its place among the four sizes
size_at : (n : ℕ) → n < 4 → slice_index (120 ∷ 240 ∷ 480 ∷ 960 ∷ []) n ≡ 120 * 2 ^ n
size_at zero h = refl
size_at (suc zero) h = refl
size_at (suc (suc zero)) h = refl
size_at (suc (suc (suc zero))) h = refl
size_at (suc (suc (suc (suc n)))) h = absurd (omega arith)

duration_from : (config : ℕ) → 16 ≤ config → duration_of config ≡ 120 * 2 ^ (config % 4)
duration_from config h =
    let by : Bool → Bool → ℕ = λ a b. if a then slice_index (480 ∷ 960 ∷ 1920 ∷ 2880 ∷ []) (config % 4) else (if b then slice_index (480 ∷ 960 ∷ []) (config % 2) else slice_index (120 ∷ 240 ∷ 480 ∷ 960 ∷ []) (config % 4)) in
    ap (λ a. by a (nat_lt config 16)) (le-ltb config 12 (omega arith)) ∙ ap (by false) (le-ltb config 16 h) ∙ size_at (config % 4) (omega arith)

pub duration_is : (toc : ℕ) → 16 ≤ config_of_toc toc → duration_of (config_of toc) ≡ duration (kind_of toc)
unfolding kind_of
duration_is toc h = duration_from (toc / 8) h

-- ---- the pages of full packets

pub packets-none : (c : Coded) (p : ℕ) → packets_from c p 0 ≡ []
unfolding packets_from
packets-none c p = refl

pub packets-more : (c : Coded) (p count : ℕ)
    → packets_from c p (suc count) ≡ packets_from c p count ++ page_of c 0 ((p + count + 1) * c.group * duration (kind_in c)) (p + count) c.group ∷ []
unfolding packets_from
packets-more c p count = refl

pub packets-join : (c : Coded) (p count more : ℕ) → packets_from c p (count + more) ≡ packets_from c p count ++ packets_from c (p + count) more
packets-join c p count zero =
    let e : count + zero ≡ count = omega arith in
    ap (packets_from c p) e ∙ sym (append-nil (packets_from c p count)) ∙ ap (λ l. packets_from c p count ++ l) (sym (packets-none c (p + count)))
packets-join c p count (suc more) =
    let e : count + suc more ≡ suc (count + more) = omega arith in
    let place : p + (count + more) ≡ p + count + more = omega arith in
    let page : ℕ → Page = λ n. page_of c 0 ((n + 1) * c.group * duration (kind_in c)) n c.group in
    ap (packets_from c p) e ∙ packets-more c p (count + more) ∙ ap (λ l. l ++ page (p + (count + more)) ∷ []) (packets-join c p count more)
    ∙ append_assoc (packets_from c p count) (packets_from c (p + count) more) (page (p + (count + more)) ∷ [])
    ∙ ap (λ n. packets_from c p count ++ (packets_from c (p + count) more ++ page n ∷ [])) place
    ∙ ap (λ l. packets_from c p count ++ l) (sym (packets-more c (p + count) more))

-- a room that was lent
pub lent_whole : {X Z : Type 0} (v : Vec X Z) (out : List X) → length out ≡ length v.items → take v.len (out ++ drop (length out) v.items) ≡ out
lent_whole v out e = with_items_is v out (e ∙ sym v.ok.0)

pub front_len : (n : ℕ) (room : List ℕ) → n ≤ length room → length (mid_of 0 (n - 0) room) ≡ n
front_len n room h = let e : n - 0 ≡ n = omega arith in ap (λ k. length (take k room)) e ∙ length-take-le n room h

-- a room whose front was lent
pub lent_front : (v : Vec ℕ Global) (n : ℕ) (out rest : List ℕ) → length out ≡ n → length (out ++ rest) ≡ length v.items → take n (take v.len ((out ++ rest) ++ drop (length (out ++ rest)) v.items)) ≡ out
lent_front v n out rest len all = ap (take n) (lent_whole v (out ++ rest) all) ∙ ap (λ k. take k (out ++ rest)) (sym len) ∙ take-append_seam out rest

-- ---- their text

module _ (plan : Plan) (frame : ℕ → List ℕ) where
  pub text-none : (p : ℕ) → pages_text plan frame p 0 ≡ []
  text-none p = ap (flat_map spelling) (packets-none (coded_by plan frame) p)

  pub text-join : (p count more : ℕ) → pages_text plan frame p (count + more) ≡ pages_text plan frame p count ++ pages_text plan frame (p + count) more
  text-join p count more =
      ap (flat_map spelling) (packets-join (coded_by plan frame) p count more)
      ∙ flat_map-append spelling (packets_from (coded_by plan frame) p count) (packets_from (coded_by plan frame) (p + count) more)

  pub text-between : (p q r : ℕ) → p ≤ q → q ≤ r → pages_text plan frame p (r - p) ≡ pages_text plan frame p (q - p) ++ pages_text plan frame q (r - q)
  text-between p q r h k =
      let e : r - p ≡ (q - p) + (r - q) = omega arith in
      let place : p + (q - p) ≡ q = omega arith in
      ap (pages_text plan frame p) e ∙ text-join p (q - p) (r - q) ∙ ap (λ n. pages_text plan frame p (q - p) ++ pages_text plan frame n (r - q)) place

  pub text_from : (p q : ℕ) → p ≤ q → pages_text plan frame 0 q ≡ pages_text plan frame 0 p ++ pages_text plan frame p (q - p)
  text_from p q h =
      let e : q ≡ p + (q - p) = omega arith in
      let none : 0 + p ≡ p = omega arith in
      ap (pages_text plan frame 0) e ∙ text-join 0 p (q - p) ∙ ap (λ n. pages_text plan frame 0 p ++ pages_text plan frame n (q - p)) none

  pub text-one : (p : ℕ) → pages_text plan frame p 1 ≡ spelling (page_of (coded_by plan frame) 0 ((p + 1) * plan.group * duration (kind_of plan.toc)) p plan.group)
  text-one p =
      let c = coded_by plan frame in
      let place : p + 0 ≡ p = omega arith in
      let page : ℕ → Page = λ n. page_of c 0 ((n + 1) * c.group * duration (kind_in c)) n c.group in
      ap (flat_map spelling) (packets-more c p 0 ∙ ap (λ l. l ++ page (p + 0) ∷ []) (packets-none c p) ∙ ap (λ n. page n ∷ []) place)
      ∙ append-nil (spelling (page p))

  -- ---- what was written, step by step

  module _ (old : Option (List ℕ)) where
    -- nothing
    pub wrote_none : (done : ℕ) (p : Packer) → Packs plan frame done p → WritesFull plan frame done p.packets p old old
    wrote_none done p h = record {
      packs = h;
      ahead = omega arith;
      text =
          let none : p.packets - p.packets ≡ 0 = omega arith in
          subst (Appends old old) (sym (ap (pages_text plan frame p.packets) none ∙ text-none p.packets)) (Appends-nil old);
    }

    -- a full packet
    pub wrote_one : (done : ℕ) (p now : Packer) (new : Option (List ℕ)) (granule : ℕ) (result : Result (Unit {0}) Failed) → Packs plan frame done p → p.count ≡ plan.group → granule ≡ (p.packets + 1) * plan.group * plan.samples
        → now.packets ≡ p.packets + 1 → now.count ≡ 0 → WritesAll old new result (spelling (page_of (coded_by plan frame) 0 granule p.packets p.count)) → Packed plan frame done p.packets now old new result
    wrote_one done p now new granule result h full at next none w = by_result result (subst (WritesAll old new result) text w) where
      c : Coded
      c = coded_by plan frame

      end_is : granule ≡ (p.packets + 1) * plan.group * duration (kind_of plan.toc)
      end_is = at ∙ ap (λ n. (p.packets + 1) * plan.group * n) (plan.samples_is ∙ ap duration plan.kind_is)

      text : spelling (page_of c 0 granule p.packets p.count) ≡ pages_text plan frame p.packets 1
      text =
          ap (λ n. spelling (page_of c 0 granule p.packets n)) full ∙ ap (λ n. spelling (page_of c 0 n p.packets plan.group)) end_is
          ∙ sym (text-one p.packets)

      ends : (p.packets + 1) * plan.group ≡ done
      ends =
          let a = add-mul p.packets 1 plan.group in
          let b = one-mul plan.group in
          let e = h.place in
          omega arith

      by_result : (r : Result (Unit {0}) Failed) → WritesAll old new r (pages_text plan frame p.packets 1) → Packed plan frame done p.packets now old new r
      by_result (Ok written) w = record {
        packs = record {
          place = let a = ap (λ n. n * plan.group) next in omega (arith, a, ends);
          frames =
              let zero_bytes : now.count * plan.bytes ≡ 0 = ap (λ n. n * plan.bytes) none ∙ Rattle.std.proofs.Math.Nat.zero-mul plan.bytes in
              ap (λ n. take n now.frames.items) zero_bytes ∙ sym (ap (λ n. concat (frames_from frame (now.packets * plan.group) n)) none ∙ ap concat (Rattle.celt_session.proofs.Rows.frames-none frame (now.packets * plan.group)));
        };
        ahead = omega arith;
        text = let one : now.packets - p.packets ≡ 1 = omega arith in subst (λ n. Appends old new (pages_text plan frame p.packets n)) (sym one) w;
      }
      by_result (Err failure) w = record {
        until = p.packets + 1;
        ahead = omega arith;
        within = omega (arith, ends);
        text = let one : p.packets + 1 - p.packets ≡ 1 = omega arith in subst (λ n. AppendsFront old new (pages_text plan frame p.packets n)) (sym one) w;
      }

    -- more after what was written
    pub wrote_on : (done later packets : ℕ) (mid now : Packer) (between new : Option (List ℕ)) (result : Result (Unit {0}) Failed) → WritesFull plan frame done packets mid old between
        → Packed plan frame later mid.packets now between new result → Packed plan frame later packets now old new result
    wrote_on done later packets mid now between new (Ok written) a b = record {
      packs = b.packs;
      ahead = let x = a.ahead in let y = b.ahead in omega arith;
      text = subst (Appends old new) (sym (text-between packets mid.packets now.packets a.ahead b.ahead))
          (Appends-trans old between new (pages_text plan frame packets (mid.packets - packets)) (pages_text plan frame mid.packets (now.packets - mid.packets)) a.text b.text);
    }
    wrote_on done later packets mid now between new (Err failure) a b = record {
      until = b.until;
      ahead = let x = a.ahead in let y = b.ahead in omega arith;
      within = b.within;
      text = subst (AppendsFront old new) (sym (text-between packets mid.packets b.until a.ahead b.ahead))
          (then_front old between new (pages_text plan frame packets (mid.packets - packets)) (pages_text plan frame mid.packets (b.until - mid.packets)) a.text b.text);
    }

    pub wrote_then : (done more packets : ℕ) (mid now : Packer) (between new : Option (List ℕ)) (result : Result (Unit {0}) Failed) → WritesFull plan frame done packets mid old between
        → Packed plan frame (done + more) mid.packets now between new result → Packed plan frame (done + more) packets now old new result
    wrote_then done more = wrote_on done (done + more)

    -- one more frame in the packet that is being filled
    pub put_frame : (done packets : ℕ) (bytes room : List ℕ) (mid : Packer) (between : Option (List ℕ)) → HasRooms mid → mid.count < plan.group → length bytes ≡ plan.bytes → bytes ≡ frame done → room ≡ mid.frames.items
        → length (put_mid (mid.count * plan.bytes) (mid.count * plan.bytes + plan.bytes - mid.count * plan.bytes) room bytes) ≡ length room → WritesFull plan frame done packets mid old between
        → WritesFull plan frame (done + 1) packets (record { frames = with_items mid.frames (put_mid (mid.count * plan.bytes) (mid.count * plan.bytes + plan.bytes - mid.count * plan.bytes) room bytes); count = mid.count + 1; packets = mid.packets; packet = mid.packet; page = mid.page }) old between
    put_frame done packets bytes room mid between rooms less len is same kept w = record {
      packs = record {
        place = let e = w.packs.place in omega arith;
        frames =
            let at = mid.count * plan.bytes in
            let size : plan.group * plan.bytes ≤ length room = let m = mul-le plan.group plan.bytes 48 1275 plan.few plan.most in let r = rooms.frames in let e = ap length same in omega arith in
            ap (take ((mid.count + 1) * plan.bytes)) (lent_whole mid.frames (put_mid at (at + plan.bytes - at) room bytes) (kept ∙ ap length same))
            ∙ made_more frame (mid.packets * plan.group) plan.bytes mid.count plan.group room bytes (ap (take at) same ∙ w.packs.frames) less size len (is ∙ ap frame (sym w.packs.place));
      };
      ahead = w.ahead;
      text = w.text;
    }

    -- a failure stays one once more frames came
    pub wrote_some : (done more packets : ℕ) (new : Option (List ℕ)) → WritesSome plan frame done packets old new → WritesSome plan frame (done + more) packets old new
    wrote_some done more packets new w = record { until = w.until; ahead = w.ahead; within = let h = w.within in omega arith; text = w.text }

    -- the start, a frame more and a failure of a loop over frames
    pub wrote_start : (done : ℕ) (p : Packer) → Packs plan frame done p → WritesFull plan frame (done + 0) p.packets p old old
    wrote_start done p h = let e : done ≡ done + 0 = omega arith in subst (λ n. WritesFull plan frame n p.packets p old old) e (wrote_none done p h)

    pub wrote_all : (done made count packets : ℕ) (now : Packer) (new : Option (List ℕ)) → made ≡ count → WritesFull plan frame (done + made) packets now old new → WritesFull plan frame (done + count) packets now old new
    wrote_all done made count packets now new e w = subst (λ n. WritesFull plan frame (done + n) packets now old new) e w

    pub wrote_more : (done made packets : ℕ) (mid now : Packer) (between new : Option (List ℕ)) → WritesFull plan frame (done + made) packets mid old between
        → WritesFull plan frame (done + made + 1) mid.packets now between new → WritesFull plan frame (done + (made + 1)) packets now old new
    wrote_more done made packets mid now between new a b =
        let e : done + made + 1 ≡ done + (made + 1) = omega arith in
        subst (λ n. WritesFull plan frame n packets now old new) e (wrote_then (done + made) 1 packets mid now between new (Ok tt) a b)

    pub wrote_before : (done made count packets : ℕ) (mid : Packer) (between new : Option (List ℕ)) → made < count → WritesFull plan frame (done + made) packets mid old between
        → WritesSome plan frame (done + made) mid.packets between new → WritesSome plan frame (done + count - 1) packets old new
    wrote_before done made count packets mid between new less a b =
        let e : done + made + (count - made - 1) ≡ done + count - 1 = omega arith in
        subst (λ n. WritesSome plan frame n packets old new) e (wrote_some (done + made) (count - made - 1) packets new (wrote_on (done + made) (done + made) packets mid mid between new (Err (record {})) a b))

    pub wrote_stop : (done made count packets : ℕ) (mid : Packer) (between new : Option (List ℕ)) → made < count → WritesFull plan frame (done + made) packets mid old between
        → WritesSome plan frame (done + made + 1) mid.packets between new → WritesSome plan frame (done + count) packets old new
    wrote_stop done made count packets mid between new less a b =
        let e : done + made + 1 + (count - made - 1) ≡ done + count = omega arith in
        subst (λ n. WritesSome plan frame n packets old new) e
        (wrote_some (done + made + 1) (count - made - 1) packets new (wrote_then (done + made) 1 packets mid mid between new (Err (record {})) a b))

-- ---- frames that are the same up to some number

module _ (plan : Plan) (frame other : ℕ → List ℕ) (done : ℕ) (same : (t : ℕ) → t < done → other t ≡ frame t) where
  same_from : (t n : ℕ) → t + n ≤ done → frames_from other t n ≡ frames_from frame t n
  same_from t n h =
      let none : 0 + t ≡ t = omega arith in
      frames-same frame other 0 done (λ k less. same k less ∙ ap frame (sym (zero-add k))) t n h ∙ ap (λ k. frames_from frame k n) none

  pub packs-same : (p : Packer) → Packs plan frame done p → Packs plan other done p
  packs-same p h = record {
    place = h.place;
    frames = h.frames ∙ sym (ap concat (same_from (p.packets * plan.group) p.count (let e = h.place in omega arith)));
  }

  pub packets-same : (p count : ℕ) → (p + count) * plan.group ≤ done → packets_from (coded_by plan other) p count ≡ packets_from (coded_by plan frame) p count
  packets-same p zero h = packets-none (coded_by plan other) p ∙ sym (packets-none (coded_by plan frame) p)
  packets-same p (suc count) h =
      let ends : (p + suc count) * plan.group ≡ (p + count) * plan.group + plan.group = ap (λ n. n * plan.group) (add-suc p count) ∙ suc-mul (p + count) plan.group in
      let page : List (List ℕ) → Page = λ l. audio_page (packet_of plan.toc l) 0 ((p + count + 1) * plan.group * duration (kind_of plan.toc)) (p + count) in
      packets-more (coded_by plan other) p count
      ∙ ap (λ l. l ++ page (frames_from other ((p + count) * plan.group) plan.group) ∷ []) (packets-same p count (omega arith))
      ∙ ap (λ l. packets_from (coded_by plan frame) p count ++ page l ∷ []) (same_from ((p + count) * plan.group) plan.group (omega arith))
      ∙ sym (packets-more (coded_by plan frame) p count)

  pub text-same : (p until : ℕ) → p ≤ until → until * plan.group ≤ done → pages_text plan other p (until - p) ≡ pages_text plan frame p (until - p)
  text-same p until h within =
      let e : p + (until - p) ≡ until = omega arith in
      let all = ap (λ n. n * plan.group) e in
      ap (flat_map spelling) (packets-same p (until - p) (omega arith))

  pub full-same : (packets : ℕ) (now : Packer) (old new : Option (List ℕ)) → WritesFull plan frame done packets now old new → WritesFull plan other done packets now old new
  full-same packets now old new w = record {
    packs = packs-same now w.packs;
    ahead = w.ahead;
    text = subst (Appends old new) (sym (text-same packets now.packets w.ahead (let e = w.packs.place in omega arith))) w.text;
  }

  pub some-same : (packets : ℕ) (old new : Option (List ℕ)) → WritesSome plan frame done packets old new → WritesSome plan other done packets old new
  some-same packets old new w = record {
    until = w.until;
    ahead = w.ahead;
    within = w.within;
    text = subst (AppendsFront old new) (sym (text-same packets w.until w.ahead w.within)) w.text;
  }
