-- The lines of frames, one after the other.
use Rattle.std.proofs.Common.{◌≡◌, ℕ, ◌+◌, ◌≤◌, List, [], ◌∷◌, ◌++◌, length, take, drop, refl, sym, ◌∙◌, ap, subst, arith, append-nil, append_assoc, length-append, Option, Some}
use Rattle.std.specs.Prelude.{slice_get}
use Rattle.std.specs.Io.KnownBytes.{Appends}
use Rattle.std.proofs.KnownBytes.{Appends-trans, Appends-nil}
use Rattle.std.proofs.Math.Numerals.{add-one}
use Rattle.std.proofs.lemmas.List.{take-append-drop, take_all, length-take-le}
use Rattle.std.proofs.lemmas.Option.{slice_get_within}
use Rattle.celt_base.specs.declared.kind.Kind.{Kind}
use Rattle.celt_base.specs.Outside.{AppendsFront}
use Rattle.celt_base.proofs.Causes.{then_front, longer_front}
use Rattle.celt_session.specs.Frames.{Frame, packet_frames, page_frames}
use Rattle.celt_session.specs.Lines.{line_of, lines_from, final_range}
use Rattle.celt_session.proofs.Framing.{next-is, page-next, frames_behind, page-split}

module _ (range_of : Kind → List ℕ → ℕ) where
  pub lines-append : (first : ℕ) (xs ys : List Frame) → lines_from range_of first (xs ++ ys) ≡ lines_from range_of first xs ++ lines_from range_of (first + length xs) ys
  unfolding lines_from
  lines-append first [] ys = let e : first ≡ first + 0 = omega arith in ap (λ n. lines_from range_of n ys) e
  lines-append first (x ∷ xs) ys =
      let line = line_of first (length x.bytes) (final_range range_of x) in
      let more : (first + 1) + length xs ≡ first + length (x ∷ xs) = let e = add-one (length xs) in omega arith in
      ap (λ l. line ++ l) (lines-append (first + 1) xs ys ∙ ap (λ n. lines_from range_of (first + 1) xs ++ lines_from range_of n ys) more)
      ∙ sym (append_assoc line (lines_from range_of (first + 1) xs) (lines_from range_of (first + length (x ∷ xs)) ys))

  lines-one : (first : ℕ) (frame : Frame) → lines_from range_of first (frame ∷ []) ≡ line_of first (length frame.bytes) (final_range range_of frame)
  unfolding lines_from
  lines-one first frame = append-nil (line_of first (length frame.bytes) (final_range range_of frame))

  pub lines-none : (first : ℕ) → lines_from range_of first [] ≡ []
  unfolding lines_from
  lines-none first = refl

  lines-next : (first : ℕ) (frames : List Frame) (i : ℕ) (frame : Frame) → slice_get frames i ≡ Some frame
      → lines_from range_of first (take (i + 1) frames) ≡ lines_from range_of first (take i frames) ++ line_of (first + i) (length frame.bytes) (final_range range_of frame)
  lines-next first frames i frame h =
      let within = slice_get_within frames i frame h in
      ap (lines_from range_of first) (next-is frames i frame h) ∙ lines-append first (take i frames) (frame ∷ [])
      ∙ ap (λ n. lines_from range_of first (take i frames) ++ lines_from range_of (first + n) (frame ∷ [])) (length-take-le i frames (omega arith))
      ∙ ap (λ l. lines_from range_of first (take i frames) ++ l) (lines-one (first + i) frame)

  -- those of a packet
  pub line_more : (first : ℕ) (frames : List Frame) (i : ℕ) (frame : Frame) (line : List ℕ) (old mid new : Option (List ℕ)) → slice_get frames i ≡ Some frame
      → line ≡ line_of (first + i) (length frame.bytes) (final_range range_of frame) → Appends old mid (lines_from range_of first (take i frames)) → Appends mid new line
      → Appends old new (lines_from range_of first (take (i + 1) frames))
  line_more first frames i frame line old mid new h e a b =
      subst (Appends old new) (sym (lines-next first frames i frame h ∙ ap (λ l. lines_from range_of first (take i frames) ++ l) (sym e)))
      (Appends-trans old mid new (lines_from range_of first (take i frames)) line a b)

  pub line_failed : (first : ℕ) (frames : List Frame) (i : ℕ) (frame : Frame) (line : List ℕ) (old mid new : Option (List ℕ)) → slice_get frames i ≡ Some frame
      → line ≡ line_of (first + i) (length frame.bytes) (final_range range_of frame) → Appends old mid (lines_from range_of first (take i frames)) → AppendsFront mid new line
      → AppendsFront old new (lines_from range_of first frames)
  line_failed first frames i frame line old mid new h e a b =
      let text = lines_from range_of first (take i frames) in
      let rest = lines_from range_of (first + length (take (i + 1) frames)) (drop (i + 1) frames) in
      let whole : lines_from range_of first frames ≡ (text ++ line) ++ rest =
      ap (lines_from range_of first) (sym (take-append-drop (i + 1) frames)) ∙ lines-append first (take (i + 1) frames) (drop (i + 1) frames)
      ∙ ap (λ l. l ++ rest) (lines-next first frames i frame h ∙ ap (λ l. text ++ l) (sym e)) in
      subst (AppendsFront old new) (sym whole) (longer_front old new (text ++ line) rest (then_front old mid new text line a b))

  pub lines_done : (first : ℕ) (frames : List Frame) (i : ℕ) (old new : Option (List ℕ)) → length frames ≤ i → Appends old new (lines_from range_of first (take i frames)) → Appends old new (lines_from range_of first frames)
  lines_done first frames i old new h a = subst (λ l. Appends old new (lines_from range_of first l)) (take_all i frames h) a

  pub lines_start : (first : ℕ) (held : Option (List ℕ)) → Appends held held (lines_from range_of first [])
  lines_start first held = subst (Appends held held) (sym (lines-none first)) (Appends-nil held)

  -- those of the packets of a page
  abbrev pub said_of : ℕ → List (List ℕ) → List ℕ
  said_of first packets = lines_from range_of first (page_frames packets)

  pub packet_more : (first : ℕ) (packets : List (List ℕ)) (i : ℕ) (packet : List ℕ) (number : ℕ) (old mid new : Option (List ℕ)) → slice_get packets i ≡ Some packet
      → number ≡ first + length (page_frames (take i packets)) → Appends old mid (said_of first (take i packets)) → Appends mid new (lines_from range_of number (packet_frames packet))
      → Appends old new (said_of first (take (i + 1) packets))
  packet_more first packets i packet number old mid new h e a b =
      let text = said_of first (take i packets) in
      let whole : said_of first (take (i + 1) packets) ≡ text ++ lines_from range_of number (packet_frames packet) =
      ap (lines_from range_of first) (page-next packets i packet h) ∙ lines-append first (page_frames (take i packets)) (packet_frames packet)
      ∙ ap (λ n. text ++ lines_from range_of n (packet_frames packet)) (sym e) in
      subst (Appends old new) (sym whole) (Appends-trans old mid new text (lines_from range_of number (packet_frames packet)) a b)

  pub number_more : (first : ℕ) (packets : List (List ℕ)) (i : ℕ) (packet : List ℕ) (number next : ℕ) → slice_get packets i ≡ Some packet
      → number ≡ first + length (page_frames (take i packets)) → next ≡ number + length (packet_frames packet) → next ≡ first + length (page_frames (take (i + 1) packets))
  number_more first packets i packet number next h e n =
      let len = ap length (page-next packets i packet h) ∙ length-append (page_frames (take i packets)) (packet_frames packet) in
      omega arith

  pub packet_failed : (first : ℕ) (packets : List (List ℕ)) (i : ℕ) (packet : List ℕ) (number : ℕ) (old mid new : Option (List ℕ)) → slice_get packets i ≡ Some packet
      → number ≡ first + length (page_frames (take i packets)) → Appends old mid (said_of first (take i packets)) → AppendsFront mid new (lines_from range_of number (packet_frames packet))
      → AppendsFront old new (said_of first packets)
  packet_failed first packets i packet number old mid new h e a b =
      let text = said_of first (take i packets) in
      let line = lines_from range_of number (packet_frames packet) in
      let rest = lines_from range_of (first + length (page_frames (take (i + 1) packets))) (frames_behind (i + 1) packets) in
      let whole : said_of first packets ≡ (text ++ line) ++ rest =
      ap (lines_from range_of first) (page-split (i + 1) packets)
      ∙ lines-append first (page_frames (take (i + 1) packets)) (frames_behind (i + 1) packets)
      ∙ ap (λ l. l ++ rest) (ap (lines_from range_of first) (page-next packets i packet h) ∙ lines-append first (page_frames (take i packets)) (packet_frames packet)
      ∙ ap (λ n. text ++ lines_from range_of n (packet_frames packet)) (sym e)) in
      subst (AppendsFront old new) (sym whole) (longer_front old new (text ++ line) rest (then_front old mid new text line a b))
