-- Pages that carry headers and audio packets are accepted, and give just these packets.
use Rattle.std.proofs.Common.{◌≡◌, ℕ, zero, suc, ◌+◌, ◌-◌, ◌*◌, ◌/◌, ◌%◌, ◌^◌, ◌<◌, ◌≤◌, Bool, true, false, not, List, [], ◌∷◌, ◌++◌, length, take, drop, sum, get_or, replicate, map, refl, sym, ◌∙◌, ap, subst, arith, append_assoc, append-nil, length-append, nat_lt, ◌⊎◌, inl, inr, Option, Some, None, Result, Ok, Err}
use Rattle.std.specs.Prelude.{◌==◌, ◌&&◌, ◌||◌, slice_index, if◌then◌else◌}
use Rattle.std.specs.List.{All, concat, list_any, list_all}
use Rattle.std.proofs.lemmas.Bool.{cases_Bool, cases_lt, lt-ltb, le-ltb, eq-eqb, ne_eqb}
use Rattle.std.proofs.lemmas.List.{drop_at, drop-append-le}
use Rattle.std.proofs.lemmas.List.Concat.{flat_map-append}
use Rattle.std.proofs.lemmas.List.Folds.{list_any-append}
use Rattle.std.proofs.lemmas.List.Elements.{All-head, All-tail}
use Rattle.celt_base.specs.declared.status.FaultName.TheVariants as names
use Rattle.opus_packets.specs.Cut.{parts}
use Rattle.opus_packets.specs.Packet.{cut_of}
use Rattle.opus_packets.specs.declared.header.Head.{Head}
use Rattle.opus_packets.specs.Header.{head_of}
use Rattle.ogg_pages.specs.Fields.{Page}
use Rattle.ogg_pages.specs.Spelling.{IsPage, packet_lacing}
use Rattle.ogg_pages.specs.Stream.{Ending, Sound}
use Rattle.opus_stream.specs.Truths.{differ}
use Rattle.opus_stream.specs.Packets.{ends, lengths_from, lacing_in, body_in, lengths_in, packets_in, open_in, is_open, ends_packet, holds_packet}
use Rattle.opus_stream.specs.Audio.{fault_at, first_fault, longest, cut_fault, packet_fault, packets_fault}
use Rattle.opus_stream.specs.Granules.{is_last, bad_granule}
use Rattle.opus_stream.specs.Tests.{is_first, is_ended, is_other, follows, breaks_packets, order_fault, read_fault, head_fault, is_tags, has_tags, behind_tags, tags_go_on, audio_fault, form_fault, page_fault}
use Rattle.opus_stream.specs.Acceptance.{accepted_after, fault_after, end_fault, audio_packets}
use Rattle.opus_stream.specs.Carrying.{is_none_of, IsFlagged, IsNumbered, lacing_of, Carries, AreSound}
use Rattle.opus_stream.proofs.Tallying.{lengths-longer, lengths-ended, lengths-none}
use Rattle.opus_stream.proofs.Joining.{sum-cons, sum-append, parts-append, parts-front, lengths-sum, lengths-append}
use Rattle.opus_stream.proofs.Spanning.{AreFull}
use Rattle.opus_stream.proofs.Lasting.{accepted_one, accepted_none, fault_one, fault_none}

-- ---- the lengths of whole packets

ends_255 : ends 255 ≡ false
ends_255 = refl

-- so many values 255 and one below
lengths_full : (before k v : ℕ) (more : List ℕ) → v < 255 → lengths_from before (replicate k 255 ++ v ∷ more) ≡ (before + (255 * k + v)) ∷ lengths_from 0 more
lengths_full before zero v more h = lengths-ended before v more (lt-ltb v 255 h) ∙ ap (λ n. n ∷ lengths_from 0 more) (omega arith)
lengths_full before (suc k) v more h =
    lengths-longer before 255 (replicate k 255 ++ v ∷ more) ends_255 ∙ lengths_full (before + 255) k v more h
    ∙ ap (λ n. n ∷ lengths_from 0 more) (omega arith)

lengths_packet : (len : ℕ) (more : List ℕ) → lengths_from 0 (packet_lacing len ++ more) ≡ len ∷ lengths_from 0 more
lengths_packet len more =
    ap (lengths_from 0) (append_assoc (replicate (len / 255) 255) ((len % 255) ∷ []) more)
    ∙ lengths_full 0 (len / 255) (len % 255) more (omega arith) ∙ ap (λ n. n ∷ lengths_from 0 more) (omega arith)

pub lengths_packets : (packets : List (List ℕ)) → lengths_from 0 (lacing_of packets) ≡ map length packets
lengths_packets [] = lengths-none 0
lengths_packets (p ∷ ps) = lengths_packet (length p) (lacing_of ps) ∙ ap (λ l. length p ∷ l) (lengths_packets ps)

pub parts_packets : (packets : List (List ℕ)) → parts (map length packets) (concat packets) ≡ packets
parts_packets [] = refl
parts_packets (p ∷ ps) =
    ap (λ l. l ∷ parts (map length ps) (drop (length p) (p ++ concat ps))) (Rattle.std.proofs.Math.Seq.take-append_seam p (concat ps))
    ∙ ap (λ l. p ∷ parts (map length ps) l) (drop_at p (concat ps) (length p) refl)
    ∙ ap (λ l. p ∷ l) (parts_packets ps)

sum_packets : (packets : List (List ℕ)) → sum (map length packets) ≡ length (concat packets)
sum_packets [] = refl
sum_packets (p ∷ ps) =
    sum-cons (length p) (map length ps) ∙ ap (λ n. length p + n) (sum_packets ps) ∙ sym (length-append p (concat ps))

-- ---- pages in two parts

pub lacing-append : (xs ys : List Page) → lacing_in (xs ++ ys) ≡ lacing_in xs ++ lacing_in ys
lacing-append xs ys = flat_map-append (λ (p : Page). p.lacing) xs ys

body-append : (xs ys : List Page) → body_in (xs ++ ys) ≡ body_in xs ++ body_in ys
body-append xs ys = flat_map-append (λ (p : Page). p.body) xs ys

pub record Parted (xs ys : List Page) : Type 0 where
  pub carried : ℕ
  pub carried_is : carried ≡ length (open_in xs)
  pub lengths : lengths_in (xs ++ ys) ≡ lengths_in xs ++ lengths_from carried (lacing_in ys)
  pub packets : packets_in (xs ++ ys) ≡ packets_in xs ++ parts (lengths_from carried (lacing_in ys)) (open_in xs ++ body_in ys)
  pub sums : sum (lacing_in xs) ≡ sum (lengths_in xs) + carried

pub parted : (xs ys : List Page) → length (body_in xs) ≡ sum (lacing_in xs) → Parted xs ys
unfolding packets_in open_in
parted xs ys full =
    let lacing = lacing_in xs in
    let body = body_in xs in
    let lens = lengths_from 0 lacing in
    let carried = length (drop (sum lens) body) in
    let carried_is : carried ≡ length body - sum lens = Rattle.std.proofs.Common.length-drop (sum lens) body in
    let within : sum lens ≤ 0 + sum lacing = lengths-sum 0 lacing in
    let more = lengths_from carried (lacing_in ys) in
    let lens_all : lengths_from 0 (lacing_in (xs ++ ys)) ≡ lens ++ more = ap (lengths_from 0) (lacing-append xs ys) ∙ lengths-append 0 carried lacing (lacing_in ys) (omega arith) in
    let inside : sum lens ≤ length body = omega arith in
    record {
      carried = carried;
      carried_is = refl;
      lengths = lens_all;
      packets = ap (λ l. parts l (body_in (xs ++ ys))) lens_all ∙ ap (parts (lens ++ more)) (body-append xs ys) ∙ parts-append lens more (body ++ body_in ys)
          ∙ ap (λ l. l ++ parts more (drop (sum lens) (body ++ body_in ys))) (parts-front lens body (body_in ys) inside)
          ∙ ap (λ l. parts lens body ++ parts more l) (drop-append-le (sum lens) body (body_in ys) inside);
      sums = omega arith;
    }

-- ---- the packets of the audio pages

pub packets_are : (audio : List Page) (packets : List (List ℕ)) → lacing_in audio ≡ lacing_of packets → body_in audio ≡ concat packets → packets_in audio ≡ packets
unfolding packets_in
packets_are audio packets l b =
    ap (λ n. parts (lengths_from 0 n) (body_in audio)) l ∙ ap (λ n. parts n (body_in audio)) (lengths_packets packets) ∙ ap (parts (map length packets)) b ∙ parts_packets packets

-- the first length behind what is carried is no less
lengths_first : (before l : ℕ) (xs ls : List ℕ) → lengths_from before xs ≡ l ∷ ls → before ≤ l
lengths_first before l [] ls h = let f : [] ≡ l ∷ ls = sym (lengths-none before) ∙ h in let g : ⊥ = cc in absurd g
lengths_first before l (x ∷ xs) ls h = by_test (cases_Bool (ends x)) (lengths_first (before + x) l xs ls) where
  first_same : (a b : ℕ) (us bs : List ℕ) → a ∷ us ≡ b ∷ bs → a ≡ b
  first_same a b us bs e = cc

  by_test : (ends x ≡ true) ⊎ (ends x ≡ false) → (lengths_from (before + x) xs ≡ l ∷ ls → before + x ≤ l) → before ≤ l
  by_test (inl e) again = let f : before + x ≡ l = first_same (before + x) l (lengths_from 0 xs) ls (sym (lengths-ended before x xs e) ∙ h) in omega arith
  by_test (inr e) again = let f = again (sym (lengths-longer before x xs e) ∙ h) in omega arith

-- ---- sound packets

abbrev IsSoundPacket : List ℕ → Type 0
IsSoundPacket packet = (number : ℕ) → packet_fault number packet ≡ None

sound_short : (packet : List ℕ) → IsSoundPacket packet → length packet ≤ 61440
unfolding packet_fault
sound_short packet h = by_test (cases_lt longest (length packet)) where
  by_test : (longest < length packet) ⊎ (length packet ≤ longest) → length packet ≤ 61440
  by_test (inr e) = e
  by_test (inl e) =
      let f : Some (fault_at names.PacketTooLong 0) ≡ None =
      sym (ap (λ t. if t then Some (fault_at names.PacketTooLong 0) else cut_fault 0 (cut_of packet)) (lt-ltb longest (length packet) e)) ∙ h 0 in
      let g : ⊥ = cc in absurd g

sound_packets : (number : ℕ) (packets : List (List ℕ)) (left : List ℕ) → All IsSoundPacket packets → length left ≤ 61440 → packets_fault number packets left ≡ None
unfolding packets_fault
sound_packets number [] left all h = let t : nat_lt longest (length left) ≡ false = le-ltb longest (length left) h in rw t refl
sound_packets number (p ∷ ps) left all h =
    ap (λ f. first_fault f (packets_fault (number + 1) ps left)) (All-head IsSoundPacket p ps all number)
    ∙ sound_packets (number + 1) ps left (All-tail IsSoundPacket p ps all) h

all-drop : (P : List ℕ → Type 0) (n : ℕ) (xs : List (List ℕ)) → All P xs → All P (drop n xs)
all-drop P zero xs all = all
all-drop P (suc n) [] all = all
all-drop P (suc n) (x ∷ xs) all = all-drop P n xs (All-tail P x xs all)

all-front : (P : List ℕ → Type 0) (xs ys : List (List ℕ)) → All P (xs ++ ys) → All P xs
all-front P [] ys all = Rattle.std.proofs.lemmas.List.Elements.All-nil P
all-front P (x ∷ xs) ys all = Rattle.std.proofs.lemmas.List.Elements.All-cons P x xs (All-head P x (xs ++ ys) all) (all-front P xs ys (All-tail P x (xs ++ ys) all))

-- the length that stands behind others in a list of short ones
short_behind : (ns ls : List ℕ) (l : ℕ) (packets : List (List ℕ)) → All IsSoundPacket packets → ns ++ l ∷ ls ≡ map length packets → l ≤ 61440
short_behind [] ls l [] all h = let f : ⊥ = cc in absurd f
short_behind [] ls l (p ∷ ps) all h = let e : l ≡ length p = first_same l (length p) ls (map length ps) h in let s = sound_short p (All-head IsSoundPacket p ps all) in omega arith where
  first_same : (a b : ℕ) (us bs : List ℕ) → a ∷ us ≡ b ∷ bs → a ≡ b
  first_same a b us bs e = cc
short_behind (n ∷ ns) ls l [] all h = let f : ⊥ = cc in absurd f
short_behind (n ∷ ns) ls l (p ∷ ps) all h = short_behind ns ls l ps (All-tail IsSoundPacket p ps all) (rest_same n (length p) (ns ++ l ∷ ls) (map length ps) h) where
  rest_same : (a b : ℕ) (us bs : List ℕ) → a ∷ us ≡ b ∷ bs → us ≡ bs
  rest_same a b us bs e = cc

-- what stays open behind the first of the audio pages is short
open_short : (now rest : List Page) (packets : List (List ℕ)) → length (body_in now) ≡ sum (lacing_in now) → lacing_in (now ++ rest) ≡ lacing_of packets → sum (lacing_of packets) ≡ sum (map length packets)
    → All IsSoundPacket packets → length (open_in now) ≤ 61440
open_short now rest packets full lacing total sound = by_lengths (lengths_from p.carried (lacing_in rest)) refl where
  p : Parted now rest
  p = parted now rest full

  all : lengths_in now ++ lengths_from p.carried (lacing_in rest) ≡ map length packets
  all = sym p.lengths ∙ ap (lengths_from 0) lacing ∙ lengths_packets packets

  by_lengths : (ls : List ℕ) → lengths_from p.carried (lacing_in rest) ≡ ls → length (open_in now) ≤ 61440
  by_lengths (l ∷ ls) e =
      let low = lengths_first p.carried l (lacing_in rest) ls e in
      let high = short_behind (lengths_in now) ls l packets sound (ap (λ x. lengths_in now ++ x) (sym e) ∙ all) in
      let c = p.carried_is in
      omega arith
  by_lengths [] e =
      let s : sum (lengths_in now) ≡ sum (map length packets) = ap sum (sym (append-nil (lengths_in now)) ∙ ap (λ x. lengths_in now ++ x) (sym e) ∙ all) in
      let t : sum (lacing_in now) + sum (lacing_in rest) ≡ sum (lacing_of packets) = sym (sum-append (lacing_in now) (lacing_in rest)) ∙ ap sum (sym (lacing-append now rest) ∙ lacing) in
      let u = p.sums in
      let c = p.carried_is in
      omega arith

sum_lacing : (len : ℕ) → sum (packet_lacing len) ≡ len
sum_lacing len = Rattle.ogg_pages.proofs.Laced.packet_sum len

pub sum_lacings : (packets : List (List ℕ)) → sum (lacing_of packets) ≡ sum (map length packets)
sum_lacings [] = refl
sum_lacings (p ∷ ps) =
    sum-append (packet_lacing (length p)) (lacing_of ps) ∙ (λ i. sum_lacing (length p) i + sum_lacings ps i) ∙ sym (sum-cons (length p) (map length ps))

-- an audio page passes
audio_passes : (number : ℕ) (before : List Page) (page : Page) (rest : List Page) (packets : List (List ℕ)) → length (body_in (before ++ page ∷ [])) ≡ sum (lacing_in (before ++ page ∷ []))
    → lacing_in (before ++ page ∷ rest) ≡ lacing_of packets → body_in (before ++ page ∷ rest) ≡ concat packets → All IsSoundPacket packets
    → bad_granule before (before ++ page ∷ []) page ≡ false → audio_fault number before page ≡ None
unfolding audio_fault
audio_passes number before page rest packets full lacing body sound granule =
    let now = before ++ page ∷ [] in
    let split : before ++ page ∷ rest ≡ now ++ rest = sym (append_assoc before (page ∷ []) rest) in
    let p = parted now rest full in
    let all : packets_in now ++ parts (lengths_from p.carried (lacing_in rest)) (open_in now ++ body_in rest) ≡ packets = sym p.packets ∙ ap packets_in (sym split) ∙ packets_are (before ++ page ∷ rest) packets lacing body in
    let some = all-front IsSoundPacket (packets_in now) (parts (lengths_from p.carried (lacing_in rest)) (open_in now ++ body_in rest)) (subst (All IsSoundPacket) (sym all) sound) in
    let short = open_short now rest packets full (ap lacing_in (sym split) ∙ lacing) (sum_lacings packets) sound in
    ap (λ f. first_fault f (if bad_granule before now page then Some (fault_at names.BadGranule number) else None))
    (sound_packets (length (packets_in before)) (drop (length (packets_in before)) (packets_in now)) (open_in now) (all-drop IsSoundPacket (length (packets_in before)) (packets_in now) some) short)
    ∙ ap (λ b. if b then Some (fault_at names.BadGranule number) else None) granule

-- ---- nothing is open behind whole packets

is_open_list : List ℕ → Bool
is_open_list xs = slice_index xs (length xs - 1) == 255

last-append : (xs : List ℕ) (y : ℕ) (ys : List ℕ) → get_or (xs ++ (y ∷ ys)) (length (xs ++ (y ∷ ys)) - 1) 0 ≡ get_or (y ∷ ys) (length (y ∷ ys) - 1) 0
last-append [] y ys = refl
last-append (x ∷ xs) y ys =
    let zs = xs ++ (y ∷ ys) in
    let some : length zs ≡ length xs + length (y ∷ ys) = length-append xs (y ∷ ys) in
    let place : length (x ∷ zs) - 1 ≡ suc (length zs - 1) = omega arith in
    ap (λ k. get_or (x ∷ zs) k 0) place ∙ last-append xs y ys

-- a packet closes what is before it
closed_packet : (xs : List ℕ) (len : ℕ) → (slice_index (xs ++ packet_lacing len) (length (xs ++ packet_lacing len) - 1) == 255) ≡ false
closed_packet xs len =
    let front = xs ++ replicate (len / 255) 255 in
    let v = len % 255 in
    let same : xs ++ packet_lacing len ≡ front ++ v ∷ [] = sym (append_assoc xs (replicate (len / 255) 255) (v ∷ [])) in
    ap (λ l. slice_index l (length l - 1) == 255) same ∙ ap (λ n. n == 255) (last-append front v []) ∙ ne_eqb v 255 (λ e. omega arith)

closed_packets : (xs : List ℕ) (packets : List (List ℕ)) → (slice_index xs (length xs - 1) == 255) ≡ false
    → (slice_index (xs ++ lacing_of packets) (length (xs ++ lacing_of packets) - 1) == 255) ≡ false
closed_packets xs [] h = ap (λ l. slice_index l (length l - 1) == 255) (append-nil xs) ∙ h
closed_packets xs (p ∷ ps) h =
    ap (λ l. slice_index l (length l - 1) == 255) (sym (append_assoc xs (packet_lacing (length p)) (lacing_of ps)))
    ∙ closed_packets (xs ++ packet_lacing (length p)) ps (closed_packet xs (length p))

-- all lacing values of the pages
all_lacing : (pages : List Page) (head tags : List ℕ) (packets : List (List ℕ)) → (c : Carries pages head tags packets)
    → lacing_in pages ≡ (packet_lacing (length head) ++ packet_lacing (length tags)) ++ lacing_of packets
all_lacing pages head tags packets c =
    ap lacing_in c.pages_are
    ∙ ap (λ l. l ++ lacing_in (c.comments ++ c.closing ∷ c.audio)) c.head_lacing
    ∙ ap (λ l. packet_lacing (length head) ++ l) (lacing-append c.comments (c.closing ∷ c.audio)
    ∙ sym (append_assoc (lacing_in c.comments) c.closing.lacing (lacing_in c.audio))
    ∙ ap (λ l. l ++ lacing_in c.audio) c.tags_lacing ∙ ap (λ l. packet_lacing (length tags) ++ l) c.audio_lacing)
    ∙ sym (append_assoc (packet_lacing (length head)) (packet_lacing (length tags)) (lacing_of packets))

pages_closed : (pages : List Page) (head tags : List ℕ) (packets : List (List ℕ)) → Carries pages head tags packets → is_open pages ≡ false
unfolding is_open
pages_closed pages head tags packets c =
    ap (λ l. slice_index l (length l - 1) == 255) (all_lacing pages head tags packets c)
    ∙ closed_packets (packet_lacing (length head) ++ packet_lacing (length tags)) packets (closed_packet (packet_lacing (length head)) (length tags))

-- ---- the pages before are not the last

not_last : (pages seen before : List Page) (page : Page) (rest : List Page) → ((b : List Page) (p : Page) (r : List Page) → pages ≡ b ++ p ∷ r → IsFlagged b p r)
    → pages ≡ seen ++ (before ++ page ∷ rest) → is_ended before ≡ false
not_last pages seen [] page rest flags h = refl
not_last pages seen (p ∷ ps) page rest flags h =
    let f = flags seen p (ps ++ page ∷ rest) h in
    let here : is_last p ≡ false = f.last ∙ some ps in
    let again = not_last pages (seen ++ p ∷ []) ps page rest flags (h ∙ sym (append_assoc seen (p ∷ []) (ps ++ page ∷ rest))) in
    list_any-append is_last (p ∷ []) ps ∙ ap (λ t. t || is_ended ps) (one (is_last p) ∙ here) ∙ again
  where
    one : (b : Bool) → (b || false) ≡ b
    one true = refl
    one false = refl

    some : (ps : List Page) → is_none_of (ps ++ page ∷ rest) ≡ false
    some [] = refl
    some (q ∷ qs) = refl

-- ---- the order of a page

none_differ : (b : Bool) → differ b b ≡ false
none_differ true = refl
none_differ false = refl

unbroken : (pages before : List Page) (page : Page) (rest : List Page) → pages ≡ before ++ page ∷ rest → IsFlagged before page rest → is_open pages ≡ false → breaks_packets before page ≡ false
unbroken pages before page rest h f closed =
    ap (λ t. differ t (is_open before) || (is_last page && is_open (before ++ page ∷ []))) f.continued
    ∙ ap (λ t. t || (is_last page && is_open (before ++ page ∷ []))) (none_differ (is_open before))
    ∙ ap (λ t. t && is_open (before ++ page ∷ [])) f.last ∙ by_rest rest h
  where
    by_rest : (r : List Page) → pages ≡ before ++ page ∷ r → (is_none_of r && is_open (before ++ page ∷ [])) ≡ false
    by_rest [] e = ap is_open (sym e) ∙ closed
    by_rest (q ∷ qs) e = refl

order_passes : (pages before : List Page) (page : Page) (rest : List Page) (first : Page) (others : List Page) → pages ≡ before ++ page ∷ rest → pages ≡ first ∷ others → IsFlagged before page rest → IsNumbered first before page
    → is_open pages ≡ false → order_fault before page ≡ None
unfolding order_fault
order_passes pages [] page rest first others h g f n closed = ap (λ b. if b then Some (fault_at names.BadContinuation 0) else None) (unbroken pages [] page rest h f closed)
order_passes pages (head ∷ tail) page rest first others h g f n closed =
    let same : first ≡ head = first_same first head others (tail ++ page ∷ rest) (sym g ∙ h) in
    let serial : (page.serial == head.serial) ≡ true = eq-eqb page.serial head.serial (n.serial ∙ ap (λ (p : Page). p.serial) same) in
    let sequence : follows head (length (head ∷ tail)) page ≡ true =
    eq-eqb page.sequence ((head.sequence + length (head ∷ tail)) % 2 ^ 32) (n.sequence ∙ ap (λ (p : Page). (p.sequence + length (head ∷ tail)) % 2 ^ 32) same) in
    let other : is_other head page ≡ false = (λ i. not (serial i) || f.first i) in
    rw (other, sequence) (ap (λ b. if b then Some (fault_at names.BadContinuation (length (head ∷ tail))) else None) (unbroken pages (head ∷ tail) page rest h f closed))
  where
    first_same : (a b : Page) (us bs : List Page) → a ∷ us ≡ b ∷ bs → a ≡ b
    first_same a b us bs e = cc

-- ---- whole packets on one page

full_all : (k v : ℕ) → list_all (λ value. value == 255) (take k (replicate k 255 ++ v ∷ [])) ≡ true
full_all zero v = refl
full_all (suc k) v =
    Rattle.std.proofs.lemmas.List.Folds.list_all-append (λ value. value == 255) (255 ∷ []) (take k (replicate k 255 ++ v ∷ []))
    ∙ full_all k v

full_last : (k v : ℕ) → get_or (replicate k 255 ++ v ∷ []) k 0 ≡ v
full_last zero v = refl
full_last (suc k) v = full_last k v

full_length : (k v : ℕ) → length (replicate {A = ℕ} k 255 ++ v ∷ []) ≡ k + 1
full_length zero v = refl
full_length (suc k) v = let e = full_length k v in omega arith

holds_full : (k v : ℕ) → v < 255 → holds_packet (replicate k 255 ++ v ∷ []) ≡ true
unfolding holds_packet
holds_full k v h =
    let l = full_length k v in
    let some : nat_lt 0 (length (replicate {A = ℕ} k 255 ++ v ∷ [])) ≡ true = lt-ltb 0 (length (replicate {A = ℕ} k 255 ++ v ∷ [])) (omega arith) in
    let n : length (replicate {A = ℕ} k 255 ++ v ∷ []) - 1 ≡ k = omega arith in
    let all : list_all (λ value. value == 255) (take (length (replicate {A = ℕ} k 255 ++ v ∷ []) - 1) (replicate k 255 ++ v ∷ [])) ≡ true =
    ap (λ m. list_all (λ value. value == 255) (take m (replicate k 255 ++ v ∷ []))) n ∙ full_all k v in
    let last : ends (slice_index (replicate k 255 ++ v ∷ []) (length (replicate {A = ℕ} k 255 ++ v ∷ []) - 1)) ≡ true =
    ap (λ m. ends (slice_index (replicate k 255 ++ v ∷ []) m)) n ∙ ap ends (full_last k v) ∙ lt-ltb v 255 h in
    (λ i. some i && all i && last i)

-- a front of the lacing values of a packet, with something behind it
pub record Front (xs ys : List ℕ) : Type 0 where
  pub none : list_any ends xs ≡ false
  pub more : ℕ
  pub last : ℕ
  pub below : last < 255
  pub rest : ys ≡ replicate more 255 ++ last ∷ []

front_of : (k v : ℕ) (xs ys : List ℕ) → v < 255 → list_any ends ys ≡ true → xs ++ ys ≡ replicate k 255 ++ v ∷ [] → Front xs ys
front_of k v [] ys h e same = record { none = refl; more = k; last = v; below = h; rest = same }
front_of zero v (x ∷ xs) ys h e same = absurd (no_rest xs ys e (rest_same x v (xs ++ ys) [] same)) where
  rest_same : (a b : ℕ) (us bs : List ℕ) → a ∷ us ≡ b ∷ bs → us ≡ bs
  rest_same a b us bs e = cc

  no_rest : (xs ys : List ℕ) → list_any ends ys ≡ true → xs ++ ys ≡ [] → ⊥
  no_rest [] [] e f = cc
  no_rest [] (y ∷ ys) e f = cc
  no_rest (x ∷ xs) ys e f = cc
front_of (suc k) v (x ∷ xs) ys h e same =
    let r = front_of k v xs ys h e (rest_same x 255 (xs ++ ys) (replicate k 255 ++ v ∷ []) same) in
    let x_is : x ≡ 255 = first_same x 255 (xs ++ ys) (replicate k 255 ++ v ∷ []) same in
    let x_full : ends x ≡ false = ap ends x_is in
    record {
      none = list_any-append ends (x ∷ []) xs ∙ ap (λ t. t || list_any ends xs) (one (ends x) ∙ x_full) ∙ r.none;
      more = r.more;
      last = r.last;
      below = r.below;
      rest = r.rest;
    }
  where
    one : (b : Bool) → (b || false) ≡ b
    one true = refl
    one false = refl

    rest_same : (a b : ℕ) (us bs : List ℕ) → a ∷ us ≡ b ∷ bs → us ≡ bs
    rest_same a b us bs e = cc

    first_same : (a b : ℕ) (us bs : List ℕ) → a ∷ us ≡ b ∷ bs → a ≡ b
    first_same a b us bs e = cc

-- no page ends a packet where no value does
none_tagged : (pages : List Page) → list_any ends (lacing_in pages) ≡ false → has_tags pages ≡ false
none_tagged [] h = refl
none_tagged (p ∷ ps) h =
    let both = list_any-append ends p.lacing (lacing_in ps) in
    by (list_any ends p.lacing) (list_any ends (lacing_in ps)) refl refl (sym both ∙ h) (none_tagged ps)
  where
    one : (b : Bool) → (b || false) ≡ b
    one true = refl
    one false = refl

    by : (a b : Bool) → list_any ends p.lacing ≡ a → list_any ends (lacing_in ps) ≡ b → (list_any ends p.lacing || list_any ends (lacing_in ps)) ≡ false → (list_any ends (lacing_in ps) ≡ false → has_tags ps ≡ false) → has_tags (p ∷ ps) ≡ false
    by false false ea eb e again = list_any-append ends_packet (p ∷ []) ps ∙ ap (λ t. t || has_tags ps) (one (ends_packet p) ∙ ea) ∙ again eb
    by true b ea eb e again = let f : true ≡ false = (λ i. sym ea i || sym eb i) ∙ e in let g : ⊥ = cc in absurd g
    by false true ea eb e again = let f : true ≡ false = (λ i. sym ea i || sym eb i) ∙ e in let g : ⊥ = cc in absurd g

-- ---- where a page stands among the pages

pub data Where (before : List Page) (page : Page) (rest xs : List Page) (y : Page) (zs : List Page) : Type 0 where
  Early : (c : List Page) → xs ≡ before ++ page ∷ c → rest ≡ c ++ y ∷ zs → Where before page rest xs y zs
  At : before ≡ xs → page ≡ y → rest ≡ zs → Where before page rest xs y zs
  Late : (a : List Page) → before ≡ xs ++ y ∷ a → zs ≡ a ++ page ∷ rest → Where before page rest xs y zs

where_is : (before : List Page) (page : Page) (rest xs : List Page) (y : Page) (zs : List Page) → before ++ page ∷ rest ≡ xs ++ y ∷ zs → Where before page rest xs y zs
where_is [] page rest [] y zs h = let e : page ≡ y = cc in let f : rest ≡ zs = cc in At refl e f
where_is [] page rest (x ∷ xs) y zs h = let e : page ≡ x = cc in let f : rest ≡ xs ++ y ∷ zs = cc in Early xs (ap (λ p. p ∷ xs) (sym e)) f
where_is (b ∷ bs) page rest [] y zs h = let e : b ≡ y = cc in let f : bs ++ page ∷ rest ≡ zs = cc in Late bs (ap (λ p. p ∷ bs) e) (sym f)
where_is (b ∷ bs) page rest (x ∷ xs) y zs h = by_rest (where_is bs page rest xs y zs behind) where
  same : b ≡ x
  same = cc

  behind : bs ++ page ∷ rest ≡ xs ++ y ∷ zs
  behind = cc

  by_rest : Where bs page rest xs y zs → Where (b ∷ bs) page rest (x ∷ xs) y zs
  by_rest (Early c e f) = Early c (λ i. sym same i ∷ e i) f
  by_rest (At e f g) = At (λ i. same i ∷ e i) f g
  by_rest (Late a e f) = Late a (λ i. same i ∷ e i) f

-- ---- sizes of pages

pub full_append : (xs ys : List Page) → AreFull (xs ++ ys) → AreFull xs × AreFull ys
full_append [] ys h = (tt, h)
full_append (x ∷ xs) ys h = let r = full_append xs ys h.1 in ((h.0, r.0), r.1)

pub full_sum : (xs : List Page) → AreFull xs → length (body_in xs) ≡ sum (lacing_in xs)
full_sum [] h = refl
full_sum (x ∷ xs) h =
    length-append x.body (body_in xs) ∙ (λ i. h.0 i + full_sum xs h.1 i) ∙ sym (sum-append x.lacing (lacing_in xs))

pub pages_full : (pages : List Page) → All IsPage pages → AreFull pages
pages_full [] all = tt
pages_full (p ∷ ps) all = let is : IsPage p = All-head IsPage p ps all in (is.body_len, pages_full ps (All-tail IsPage p ps all))

-- ---- the tests of the packets of a page

pub or_none : (a b : Bool) → (a || b) ≡ false → (a ≡ false) × (b ≡ false)
or_none false b h = (refl, h)
or_none true b h = let f : ⊥ = cc in absurd f

some_rest : (xs : List Page) (y : Page) (zs : List Page) → is_none_of (xs ++ y ∷ zs) ≡ false
some_rest [] y zs = refl
some_rest (x ∷ xs) y zs = refl

head_passes : (page : Page) (head : List ℕ) (says : Head) → is_first page ≡ true → is_last page ≡ false → page.lacing ≡ packet_lacing (length head) → page.body ≡ head → head_of head ≡ Ok says → head_fault page ≡ None
unfolding head_fault
head_passes page head says f l lacing body is =
    let holds : holds_packet page.lacing ≡ true = ap holds_packet lacing ∙ holds_full (length head / 255) (length head % 255) (omega arith) in
    (λ i. if f i && holds i then read_fault page (head_of page.body) else Some (fault_at names.BadHead 0))
    ∙ ap (read_fault page) (ap head_of body ∙ is) ∙ ap (λ b. if b then Some (fault_at names.BadTags 0) else None) l

tags_pass : (pages : List Page) (page : Page) → has_tags pages ≡ false → tags_go_on pages page ≡ true → (head : Page) → form_fault (head ∷ pages) page ≡ None
unfolding form_fault
tags_pass pages page t g head = rw (t, g) refl

early_goes : (pages : List Page) (page : Page) → ends_packet page ≡ false → is_last page ≡ false → tags_go_on pages page ≡ true
unfolding tags_go_on
early_goes pages page e l = rw (e, l) refl

closing_goes : (pages : List Page) (page : Page) → ends_packet page ≡ true → holds_packet page.lacing ≡ true → is_tags (body_in pages ++ page.body) ≡ true → tags_go_on pages page ≡ true
unfolding tags_go_on
closing_goes pages page e h t = ap (λ b. if b then holds_packet page.lacing && is_tags (body_in pages ++ page.body) else not (is_last page)) e ∙ (λ i. h i && t i)

pub any-first : (p : Page) (ps : List Page) → has_tags (p ∷ ps) ≡ (ends_packet p || has_tags ps)
any-first p ps = list_any-append ends_packet (p ∷ []) ps ∙ ap (λ t. t || has_tags ps) (one (ends_packet p)) where
  one : (b : Bool) → (b || false) ≡ b
  one true = refl
  one false = refl

or_true : (b : Bool) → (b || true) ≡ true
or_true true = refl
or_true false = refl

-- behind the comment header
pub tagged_behind : (comments : List Page) (closing : Page) (a : List Page) → has_tags comments ≡ false → ends_packet closing ≡ true
    → (has_tags (comments ++ closing ∷ a) ≡ true) × (behind_tags (comments ++ closing ∷ a) ≡ a)
unfolding behind_tags
tagged_behind [] closing a h e = (any-first closing a ∙ ap (λ t. t || has_tags a) e, ap (λ b. if b then a else behind_tags a) e)
tagged_behind (p ∷ ps) closing a h e =
    let n = or_none (ends_packet p) (has_tags ps) (sym (any-first p ps) ∙ h) in
    let r = tagged_behind ps closing a n.1 e in
    (any-first p (ps ++ closing ∷ a) ∙ ap (λ t. ends_packet p || t) r.0 ∙ or_true (ends_packet p), ap (λ b. if b then ps ++ closing ∷ a else behind_tags (ps ++ closing ∷ a)) n.0 ∙ r.1)

audio_form : (head : Page) (rest : List Page) (page : Page) → has_tags rest ≡ true → audio_fault (length (head ∷ rest)) (behind_tags rest) page ≡ None → form_fault (head ∷ rest) page ≡ None
unfolding form_fault
audio_form head rest page t h = ap (λ b. if b then audio_fault (length (head ∷ rest)) (behind_tags rest) page else (if tags_go_on rest page then None else Some (fault_at names.BadTags (length (head ∷ rest))))) t ∙ h

form_passes : (pages : List Page) (head tags : List ℕ) (packets : List (List ℕ)) → (c : Carries pages head tags packets) → AreSound head tags packets → AreFull pages
    → (before : List Page) (page : Page) (rest : List Page) → pages ≡ before ++ page ∷ rest → form_fault before page ≡ None
unfolding form_fault
form_passes pages head tags packets c s full [] page rest h =
    let same : page ≡ c.first = first_same page c.first rest (c.comments ++ c.closing ∷ c.audio) (sym h ∙ c.pages_are) in
    let behind : rest ≡ c.comments ++ c.closing ∷ c.audio = rest_same page c.first rest (c.comments ++ c.closing ∷ c.audio) (sym h ∙ c.pages_are) in
    let f = c.flags [] page rest h in
    head_passes page head s.says f.first (f.last ∙ ap is_none_of behind ∙ some_rest c.comments c.closing c.audio)
    (ap (λ (p : Page). p.lacing) same ∙ c.head_lacing) (ap (λ (p : Page). p.body) same ∙ c.head_body) s.head_is
  where
    first_same : (a b : Page) (us bs : List Page) → a ∷ us ≡ b ∷ bs → a ≡ b
    first_same a b us bs e = cc

    rest_same : (a b : Page) (us bs : List Page) → a ∷ us ≡ b ∷ bs → us ≡ bs
    rest_same a b us bs e = cc
form_passes pages head tags packets c s full (first ∷ b) page rest h = by_place (where_is b page rest c.comments c.closing c.audio behind) where
  rest_same : (a b : Page) (us bs : List Page) → a ∷ us ≡ b ∷ bs → us ≡ bs
  rest_same a b us bs e = cc

  behind : b ++ page ∷ rest ≡ c.comments ++ c.closing ∷ c.audio
  behind = rest_same first c.first (b ++ page ∷ rest) (c.comments ++ c.closing ∷ c.audio) (sym h ∙ c.pages_are)

  front : Front (lacing_in c.comments) c.closing.lacing
  front = front_of (length tags / 255) (length tags % 255) (lacing_in c.comments) c.closing.lacing (omega arith) c.tags_end c.tags_lacing

  untagged : has_tags c.comments ≡ false
  untagged = none_tagged c.comments front.none

  flagged : IsFlagged (first ∷ b) page rest
  flagged = c.flags (first ∷ b) page rest h

  full_audio : AreFull c.audio
  full_audio =
      let e : pages ≡ (c.first ∷ c.comments) ++ c.closing ∷ c.audio = c.pages_are in
      (full_append (c.first ∷ c.comments) (c.closing ∷ c.audio) (subst AreFull e full)).1.1

  by_place : Where b page rest c.comments c.closing c.audio → form_fault (first ∷ b) page ≡ None
  by_place (Early d e f) =
      let split : list_any ends (lacing_in b ++ lacing_in (page ∷ d)) ≡ false = ap (list_any ends) (sym (lacing-append b (page ∷ d)) ∙ ap lacing_in (sym e)) ∙ front.none in
      let parts_none = or_none (list_any ends (lacing_in b)) (list_any ends (lacing_in (page ∷ d))) (sym (list_any-append ends (lacing_in b) (lacing_in (page ∷ d))) ∙ split) in
      let here = or_none (list_any ends page.lacing) (list_any ends (lacing_in d)) (sym (list_any-append ends page.lacing (lacing_in d)) ∙ parts_none.1) in
      let open_page : is_last page ≡ false = flagged.last ∙ ap is_none_of f ∙ some_rest d c.closing c.audio in
      tags_pass b page (none_tagged b parts_none.0) (early_goes b page here.0 open_page) first
  by_place (At e f g) =
      let holds : holds_packet page.lacing ≡ true = ap (λ (p : Page). holds_packet p.lacing) f ∙ ap holds_packet front.rest ∙ holds_full front.more front.last front.below in
      let tags_are : is_tags (body_in b ++ page.body) ≡ true = (λ i. is_tags (body_in (e i) ++ (f i).body)) ∙ ap is_tags c.tags_body ∙ s.tags_are in
      tags_pass b page (ap has_tags e ∙ untagged) (closing_goes b page (ap ends_packet f ∙ c.tags_end) holds tags_are) first
  by_place (Late a e f) =
      let t = tagged_behind c.comments c.closing a untagged c.tags_end in
      let split : c.audio ≡ (a ++ page ∷ []) ++ rest = f ∙ sym (append_assoc a (page ∷ []) rest) in
      let sized = full_sum (a ++ page ∷ []) (full_append (a ++ page ∷ []) rest (subst AreFull split full_audio)).0 in
      let number = length (first ∷ b) in
      audio_form first b page (ap has_tags e ∙ t.0)
      (ap (λ l. audio_fault number l page) (ap behind_tags e ∙ t.1)
      ∙ audio_passes number a page rest packets sized (ap lacing_in (sym f) ∙ c.audio_lacing) (ap body_in (sym f) ∙ c.audio_body) s.packets_are (c.granules a page rest f))

-- ---- all pages pass

pub page_passes : (pages : List Page) (head tags : List ℕ) (packets : List (List ℕ)) → (c : Carries pages head tags packets) → AreSound head tags packets → AreFull pages
    → (before : List Page) (page : Page) (rest : List Page) → pages ≡ before ++ page ∷ rest → page_fault before page ≡ None
unfolding page_fault
page_passes pages head tags packets c s full before page rest h =
    let going = not_last pages [] before page rest c.flags h in
    let ordered = order_passes pages before page rest c.first (c.comments ++ c.closing ∷ c.audio) h c.pages_are (c.flags before page rest h) (c.numbers before page rest h) (pages_closed pages head tags packets c) in
    ap (λ t. if t then Some (fault_at names.AfterEnd (length before)) else first_fault (order_fault before page) (form_fault before page)) going
    ∙ ap (λ f. first_fault f (form_fault before page)) ordered ∙ form_passes pages head tags packets c s full before page rest h

-- pages that all pass are accepted, and what follows them decides
pub all_pass : (pages before rest : List Page) (ending : Ending) → ((b : List Page) (p : Page) (r : List Page) → pages ≡ b ++ p ∷ r → page_fault b p ≡ None) → pages ≡ before ++ rest
    → (accepted_after before rest ≡ rest) × (fault_after before rest ending ≡ end_fault (is_ended pages) (length pages) ending)
all_pass pages before [] ending passes h =
    let e : before ≡ pages = sym (append-nil before) ∙ sym h in
    (accepted_none before, fault_none before ending ∙ ap (λ l. end_fault (is_ended l) (length l) ending) e)
all_pass pages before (p ∷ ps) ending passes h =
    let here = passes before p ps h in
    let again = all_pass pages (before ++ p ∷ []) ps ending passes (h ∙ sym (append_assoc before (p ∷ []) ps)) in
    (accepted_one before p ps here ∙ ap (λ l. p ∷ l) again.0, fault_one before p ps ending here ∙ again.1)

-- the last page ends the stream
ended_all : (pages : List Page) (seen rest : List Page) (page : Page) → ((b : List Page) (p : Page) (r : List Page) → pages ≡ b ++ p ∷ r → IsFlagged b p r) → pages ≡ seen ++ page ∷ rest → is_ended (page ∷ rest) ≡ true
ended_all pages seen [] page flags h = list_any-append is_last [] (page ∷ []) ∙ one (is_last page) ∙ (flags seen page [] h).last where
  one : (b : Bool) → (b || false) ≡ b
  one true = refl
  one false = refl
ended_all pages seen (q ∷ qs) page flags h =
    let again = ended_all pages (seen ++ page ∷ []) qs q flags (h ∙ sym (append_assoc seen (page ∷ []) (q ∷ qs))) in
    list_any-append is_last (page ∷ []) (q ∷ qs) ∙ ap (λ t. list_any is_last (page ∷ []) || t) again ∙ or_true (list_any is_last (page ∷ []))

pub record Reads (pages : List Page) (packets : List (List ℕ)) : Type 0 where
  pub accepted_are : accepted_after [] pages ≡ pages
  pub none : fault_after [] pages Sound ≡ None
  pub packets_are : audio_packets pages ≡ packets

pub carried : (pages : List Page) (head tags : List ℕ) (packets : List (List ℕ)) → Carries pages head tags packets → AreSound head tags packets → AreFull pages → Reads pages packets
carried pages head tags packets c s full =
    let a = all_pass pages [] pages Sound (page_passes pages head tags packets c s full) refl in
    let ended : is_ended pages ≡ true = ap is_ended c.pages_are ∙ ended_all pages [] (c.comments ++ c.closing ∷ c.audio) c.first c.flags c.pages_are in
    let front = front_of (length tags / 255) (length tags % 255) (lacing_in c.comments) c.closing.lacing (omega arith) c.tags_end c.tags_lacing in
    let t = tagged_behind c.comments c.closing c.audio (none_tagged c.comments front.none) c.tags_end in
    record {
      accepted_are = a.0;
      none = a.1 ∙ ap (λ b. end_fault b (length pages) Sound) ended;
      packets_are = ap audio_packets c.pages_are ∙ ap packets_in t.1 ∙ packets_are c.audio packets c.audio_lacing c.audio_body;
    }
