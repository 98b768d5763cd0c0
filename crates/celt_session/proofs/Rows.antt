-- Frames that follow one another: rows with the same windows, a row that begins behind another's frames, and frames as bytes.
use Rattle.std.proofs.Common.{◌≡◌, ℕ, ℤ, zero, suc, ◌+◌, ◌-◌, ◌*◌, ◌/◌, ◌≤◌, ◌<◌, List, [], ◌∷◌, ◌++◌, length, take, drop, refl, sym, ◌∙◌, ap, subst, arith, append_assoc, append-nil, length-append}
use Rattle.std.specs.Prelude.{map, replicate}
use Rattle.std.specs.List.{concat}
use Rattle.std.proofs.Math.Nat.{mul-div_cancel_left, suc-mul, zero-mul}
use Rattle.std.proofs.lemmas.List.{map-append, replicate-append-replicate, take_all, length-take-le, length-drop}
use Rattle.std.proofs.Math.Seq.{take-append_seam, drop-append_seam}
use Rattle.std.proofs.lemmas.Nat.{mul-le}
use Rattle.std.proofs.lemmas.Slice.{take-put_mid}
use borrow.Rule.Slice.PartMut.{put_mid}
use Rattle.std.proofs.lemmas.List.Folds.{concat-append}
use Rattle.opus_packets.specs.Cut.{parts, equal_parts}
use Rattle.opus_packets.proofs.Parts.{parts_of}
use Rattle.celt_base.specs.declared.kind.Kind.{Kind}
use Rattle.celt_session.specs.FrameFunctions.{FrameFunction, Row, state_before, frame_at, frames_from}

pub frames-none : (frame : ℕ → List ℕ) (t : ℕ) → frames_from frame t 0 ≡ []
unfolding frames_from
frames-none frame t = refl

pub frames-more : (frame : ℕ → List ℕ) (t count : ℕ) → frames_from frame t (suc count) ≡ frames_from frame t count ++ frame (t + count) ∷ []
unfolding frames_from
frames-more frame t count = refl

-- frames behind frames
pub frames-join : (frame : ℕ → List ℕ) (t count more : ℕ) → frames_from frame t (count + more) ≡ frames_from frame t count ++ frames_from frame (t + count) more
unfolding frames_from
frames-join frame t count zero = let e : count + zero ≡ count = omega arith in ap (frames_from frame t) e ∙ sym (append-nil (frames_from frame t count))
frames-join frame t count (suc more) =
    let e : count + suc more ≡ suc (count + more) = omega arith in
    let place : t + (count + more) ≡ t + count + more = omega arith in
    ap (frames_from frame t) e ∙ ap (λ l. l ++ frame (t + (count + more)) ∷ []) (frames-join frame t count more)
    ∙ append_assoc (frames_from frame t count) (frames_from frame (t + count) more) (frame (t + (count + more)) ∷ [])
    ∙ ap (λ n. frames_from frame t count ++ (frames_from frame (t + count) more ++ frame n ∷ [])) place

-- frames of two rows, which are the same up to some number, the one's `before` behind the other's
pub frames-same : (frame other : ℕ → List ℕ) (before count : ℕ) → ((t : ℕ) → t < count → other t ≡ frame (before + t)) → (t n : ℕ) → t + n ≤ count → frames_from other t n ≡ frames_from frame (before + t) n
unfolding frames_from
frames-same frame other before count same t zero le = refl
frames-same frame other before count same t (suc n) le =
    let place : before + (t + n) ≡ before + t + n = omega arith in
    ap (λ l. l ++ other (t + n) ∷ []) (frames-same frame other before count same t n (omega arith))
    ∙ ap (λ x. frames_from frame (before + t) n ++ x ∷ []) (same (t + n) (omega arith))
    ∙ ap (λ k. frames_from frame (before + t) n ++ frame k ∷ []) place

-- one step
abbrev pub next_by : (f : FrameFunction) → f.State → Kind → ℕ → List ℤ → f.State
next_by f s kind bytes window = f.next s kind bytes window

-- Two rows of the same frames: `behind` begins where `row` has made `before` frames, and their windows and lengths agree for so many.
pub record Follows (f : FrameFunction) (row behind : Row f) (before count : ℕ) : Type 0 where
  pub kind : behind.kind ≡ row.kind
  pub from : behind.from ≡ state_before f row before
  pub window : (t : ℕ) → t < count → behind.window t ≡ row.window (before + t)
  pub bytes : (t : ℕ) → t < count → behind.bytes t ≡ row.bytes (before + t)

pub state-follows : (f : FrameFunction) (row behind : Row f) (before count : ℕ) → Follows f row behind before count → (t : ℕ) → t ≤ count → state_before f behind t ≡ state_before f row (before + t)
unfolding state_before
state-follows f row behind before count h zero le = let e : before + zero ≡ before = omega arith in h.from ∙ ap (state_before f row) (sym e)
state-follows f row behind before count h (suc t) le =
    let e : before + suc t ≡ suc (before + t) = omega arith in
    ap (λ s. f.next s behind.kind (behind.bytes t) (behind.window t)) (state-follows f row behind before count h t (omega arith))
    ∙ ap (λ k. f.next (state_before f row (before + t)) k (behind.bytes t) (behind.window t)) h.kind
    ∙ ap (λ b. f.next (state_before f row (before + t)) row.kind b (behind.window t)) (h.bytes t (omega arith))
    ∙ ap (λ w. f.next (state_before f row (before + t)) row.kind (row.bytes (before + t)) w) (h.window t (omega arith))
    ∙ ap (state_before f row) (sym e)

pub frame-follows : (f : FrameFunction) (row behind : Row f) (before count : ℕ) → Follows f row behind before count → (t : ℕ) → t < count → frame_at f behind t ≡ frame_at f row (before + t)
frame-follows f row behind before count h t less =
    ap (λ s. f.frame s behind.kind (behind.bytes t) (behind.window t)) (state-follows f row behind before count h t (omega arith))
    ∙ ap (λ k. f.frame (state_before f row (before + t)) k (behind.bytes t) (behind.window t)) h.kind
    ∙ ap (λ b. f.frame (state_before f row (before + t)) row.kind b (behind.window t)) (h.bytes t less)
    ∙ ap (λ w. f.frame (state_before f row (before + t)) row.kind (row.bytes (before + t)) w) (h.window t less)

pub frames-follow : (f : FrameFunction) (row behind : Row f) (before count : ℕ) → Follows f row behind before count → (t n : ℕ) → t + n ≤ count
    → frames_from (frame_at f behind) t n ≡ frames_from (frame_at f row) (before + t) n
frames-follow f row behind before count h = frames-same (frame_at f row) (frame_at f behind) before count (frame-follows f row behind before count h)

-- ---- frames of one length, as bytes

one_more : (count bytes : ℕ) → count * bytes + bytes ≡ suc count * bytes
one_more count bytes = sym (suc-mul count bytes)

one_of : (count bytes : ℕ) → 1 ≤ count → count * bytes / count ≡ bytes
one_of count bytes h = mul-div_cancel_left bytes h

replicate_one_more : (count n : ℕ) → replicate count n ++ n ∷ [] ≡ replicate (suc count) n
replicate_one_more count n = let e : count + 1 ≡ suc count = omega arith in replicate-append-replicate count 1 n ∙ ap (λ k. replicate k n) e

pub frame-len : (f : FrameFunction) (row : Row f) (bytes : ℕ) → 2 ≤ bytes → ((t : ℕ) → row.bytes t ≡ bytes) → (t : ℕ) → length (frame_at f row t) ≡ bytes
frame-len f row bytes least same t = f.sized (state_before f row t) row.kind (row.bytes t) (row.window t) (subst (λ n. 2 ≤ n) (sym (same t)) least) ∙ same t

pub frames-count : (frame : ℕ → List ℕ) (t count : ℕ) → length (frames_from frame t count) ≡ count
unfolding frames_from
frames-count frame t zero = refl
frames-count frame t (suc count) =
    let again = frames-count frame t count in
    let joined = length-append (frames_from frame t count) (frame (t + count) ∷ []) in
    omega arith

-- the bytes of one frame more
pub frames-bytes-more : (frame : ℕ → List ℕ) (t count : ℕ) → concat (frames_from frame t (suc count)) ≡ concat (frames_from frame t count) ++ frame (t + count)
frames-bytes-more frame t count =
    ap concat (frames-more frame t count) ∙ concat-append (frames_from frame t count) (frame (t + count) ∷ [])
    ∙ ap (λ l. concat (frames_from frame t count) ++ l) (append-nil (frame (t + count)))

module _ (frame : ℕ → List ℕ) (bytes : ℕ) (long : (t : ℕ) → length (frame t) ≡ bytes) where
  pub frames-bytes-len : (t count : ℕ) → length (concat (frames_from frame t count)) ≡ count * bytes
  frames-bytes-len t zero = let e = zero-mul bytes in ap (λ l. length (concat l)) (frames-none frame t) ∙ sym e
  frames-bytes-len t (suc count) =
      ap length (frames-bytes-more frame t count)
      ∙ length-append (concat (frames_from frame t count)) (frame (t + count))
      ∙ ap (λ n. n + length (frame (t + count))) (frames-bytes-len t count)
      ∙ ap (λ n. count * bytes + n) (long (t + count))
      ∙ one_more count bytes

  pub frames-lengths : (t count : ℕ) → map length (frames_from frame t count) ≡ replicate count bytes
  frames-lengths t zero = ap (λ l. map length l) (frames-none frame t)
  frames-lengths t (suc count) =
      ap (map length) (frames-more frame t count) ∙ map-append length (frames_from frame t count) (frame (t + count) ∷ [])
      ∙ ap (λ l. l ++ length (frame (t + count)) ∷ []) (frames-lengths t count)
      ∙ ap (λ n. replicate count bytes ++ n ∷ []) (long (t + count)) ∙ replicate_one_more count bytes

  -- frames of one length are the equal parts of their bytes
  pub frames-parts : (t count : ℕ) → 1 ≤ count → equal_parts count (concat (frames_from frame t count)) ≡ frames_from frame t count
  frames-parts t count some =
      let frames = frames_from frame t count in
      let each : length (concat frames) / count ≡ bytes = ap (λ n. n / count) (frames-bytes-len t count) ∙ one_of count bytes some in
      ap (λ n. parts (replicate count n) (concat frames)) each
      ∙ ap (λ l. parts l (concat frames)) (sym (frames-lengths t count))
      ∙ ap (parts (map length frames)) (sym (append-nil (concat frames))) ∙ parts_of frames []

-- ---- frames that are put into a room, one behind the other

pub made_none : (frame : ℕ → List ℕ) (bytes : ℕ) (out : List ℕ) → take (0 * bytes) out ≡ concat (frames_from frame 0 0)
made_none frame bytes out = ap (λ n. take n out) (zero-mul bytes) ∙ sym (ap concat (frames-none frame 0))

pub made_more : (frame : ℕ → List ℕ) (from bytes made count : ℕ) (out part : List ℕ) → take (made * bytes) out ≡ concat (frames_from frame from made) → made < count → count * bytes ≤ length out
    → length part ≡ bytes → part ≡ frame (from + made) → take ((made + 1) * bytes) (put_mid (made * bytes) (made * bytes + bytes - made * bytes) out part) ≡ concat (frames_from frame from (made + 1))
made_more frame from bytes made count out part before less room len is =
    let e : made + 1 ≡ suc made = omega arith in
    let place : (made + 1) * bytes ≡ made * bytes + length part = ap (λ n. n * bytes) e ∙ suc-mul made bytes ∙ ap (λ n. made * bytes + n) (sym len) in
    let within : made * bytes ≤ length out = let m = mul-le made bytes count bytes (omega arith) (omega arith) in omega (arith, m) in
    take-put_mid (made * bytes) (made * bytes + bytes - made * bytes) out part ((made + 1) * bytes) place within
    ∙ ap (λ l. l ++ part) before ∙ ap (λ l. concat (frames_from frame from made) ++ l) is
    ∙ sym (ap (λ n. concat (frames_from frame from n)) e ∙ frames-bytes-more frame from made)

pub made_all : (frame : ℕ → List ℕ) (bytes made count : ℕ) (out : List ℕ) → take (made * bytes) out ≡ concat (frames_from frame 0 made) → made ≤ count → count ≤ made → length out ≡ count * bytes
    → out ≡ concat (frames_from frame 0 count)
made_all frame bytes made count out before few most room =
    let e : made ≡ count = omega arith in
    let all : length out ≤ made * bytes = let m = ap (λ n. n * bytes) e in omega arith in
    sym (take_all (made * bytes) out all) ∙ before ∙ ap (λ n. concat (frames_from frame 0 n)) e

-- the part of a room at frame `made`
pub part_len : (made bytes count : ℕ) (out : List ℕ) → made < count → count * bytes ≤ length out → length (take (made * bytes + bytes - made * bytes) (drop (made * bytes) out)) ≡ bytes
part_len made bytes count out less room =
    let e : made * bytes + bytes - made * bytes ≡ bytes = omega arith in
    let m = mul-le (suc made) bytes count bytes (omega arith) (omega arith) in
    let s = suc-mul made bytes in
    let d = length-drop (made * bytes) out in
    ap (λ n. length (take n (drop (made * bytes) out))) e ∙ length-take-le bytes (drop (made * bytes) out) (omega arith)

-- ---- frames one behind the other, of one length, and the part of them at frame `made`

pub frames-front : (frame : ℕ → List ℕ) (t count : ℕ) → frames_from frame t (suc count) ≡ frame t ∷ frames_from frame (t + 1) count
frames-front frame t count =
    let e : suc count ≡ 1 + count = omega arith in
    let place : t + 0 ≡ t = omega arith in
    ap (frames_from frame t) e ∙ frames-join frame t 1 count
    ∙ ap (λ l. l ++ frames_from frame (t + 1) count) (frames-more frame t 0 ∙ ap (λ l. l ++ frame (t + 0) ∷ []) (frames-none frame t) ∙ ap (λ n. frame n ∷ []) place)

pub frame-part : (frame : ℕ → List ℕ) (bytes : ℕ) → ((t : ℕ) → length (frame t) ≡ bytes) → (t made count : ℕ) → made < count → take bytes (drop (made * bytes) (concat (frames_from frame t count))) ≡ frame (t + made)
frame-part frame bytes long t made count less =
    let left = count - made - 1 in
    let e : count ≡ made + suc left = omega arith in
    let before = concat (frames_from frame t made) in
    let behind = concat (frames_from frame (t + made) (suc left)) in
    let place : made * bytes ≡ length before = sym (frames-bytes-len frame bytes long t made) in
    ap (λ n. take bytes (drop (made * bytes) (concat (frames_from frame t n)))) e
    ∙ ap (λ l. take bytes (drop (made * bytes) l)) (ap concat (frames-join frame t made (suc left)) ∙ concat-append (frames_from frame t made) (frames_from frame (t + made) (suc left)))
    ∙ ap (λ n. take bytes (drop n (before ++ behind))) place ∙ ap (take bytes) (drop-append_seam before behind)
    ∙ ap (λ l. take bytes (concat l)) (frames-front frame (t + made) left)
    ∙ ap (λ n. take n (frame (t + made) ++ concat (frames_from frame (t + made + 1) left))) (sym (long (t + made)))
    ∙ take-append_seam (frame (t + made)) (concat (frames_from frame (t + made + 1) left))

pub state-none : (f : FrameFunction) (row : Row f) → state_before f row 0 ≡ row.from
unfolding state_before
state-none f row = refl
