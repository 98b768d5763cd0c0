-- Audio pages of one packet each, all but the last of one length: their granule positions, and the samples that they give.
use Rattle.std.proofs.Common.{◌≡◌, ℕ, ℤ, pos, zero, suc, ◌+◌, ◌-◌, ◌*◌, ◌/◌, ◌%◌, ◌^◌, ◌≤◌, ◌<◌, ◌⊎◌, inl, inr, ◌-ℤ◌, min, Bool, true, false, List, [], ◌∷◌, ◌++◌, length, replicate, refl, sym, ◌∙◌, ap, arith, append_assoc, append-nil, length-append, Option, Some, None}
use Rattle.std.specs.Prelude.{◌==◌, ◌&&◌, ◌||◌, nat_lt, slice_index, unsigned_abs, if◌then◌else◌}
use Rattle.std.specs.Int.Signed.{lt_z}
use Rattle.std.specs.List.{concat, list_any}
use Rattle.std.proofs.Math.Nat.{suc-mul, zero-mul}
use Rattle.std.proofs.lemmas.Bool.{cases_lt, lt-ltb, ne_eqb}
use Rattle.std.proofs.lemmas.Int.{ints}
use Rattle.std.proofs.lemmas.List.Concat.{flat_map-append}
use Rattle.std.proofs.lemmas.List.Folds.{concat-append, list_any-append}
use Rattle.std.proofs.lemmas.List.Sums.{sum_by_push}
use Rattle.ogg_pages.specs.Fields.{Page}
use Rattle.ogg_pages.specs.Spelling.{packet_lacing}
use Rattle.opus_stream.specs.Audio.{packet_samples, samples_in}
use Rattle.opus_stream.specs.Carrying.{is_none_of, lacing_of}
use Rattle.opus_stream.specs.Granules.{is_last, samples_on, start_in, base_in, end_granule, bad_granule, at_most, given_on}
use Rattle.opus_stream.specs.Packets.{ends, ends_packet, lengths_from, packets_in, lacing_in, body_in, is_open}
use Rattle.opus_stream.specs.Pages.{open_after}
use Rattle.opus_stream.specs.Tests.{is_ended}
use Rattle.opus_stream.proofs.Carried.{packets_are}
use Rattle.opus_stream.proofs.Grants.{start-kept, start-new, end-next}
use Rattle.opus_stream.proofs.Joining.{lacing-next, body-next, open-next}
use Rattle.opus_stream.proofs.Placing.{any-next}

-- ---- the first items of a row

unfoldable pub firsts : {X : Type 0} → (ℕ → X) → ℕ → List X
firsts f zero = []
firsts f (suc k) = firsts f k ++ f k ∷ []

pub firsts-len : {X : Type 0} (f : ℕ → X) (k : ℕ) → length (firsts f k) ≡ k
unfolding firsts
firsts-len f zero = refl
firsts-len f (suc k) = let again = firsts-len f k in let joined = length-append (firsts f k) (f k ∷ []) in omega arith

firsts-none : {X : Type 0} (f : ℕ → X) (k : ℕ) → k ≡ 0 → firsts f k ≡ []
unfolding firsts
firsts-none f k e = ap (firsts f) e

firsts-parted : {X : Type 0} (f : ℕ → X) (k i : ℕ) → i < k → (tail : List X) × (firsts f k ≡ firsts f i ++ f i ∷ tail)
unfolding firsts
firsts-parted f zero i h = absurd (omega arith)
firsts-parted {X} f (suc k) i h = by (cases_lt i k) (firsts-parted f k i) where
  by : (i < k) ⊎ (k ≤ i) → (i < k → (tail : List X) × (firsts f k ≡ firsts f i ++ f i ∷ tail)) → (tail : List X) × (firsts f k ++ f k ∷ [] ≡ firsts f i ++ f i ∷ tail)
  by (inl less) again = let r = again less in (r.0 ++ f k ∷ [], ap (λ l. l ++ f k ∷ []) r.1 ∙ append_assoc (firsts f i) (f i ∷ r.0) (f k ∷ []))
  by (inr more) again = let e : k ≡ i = omega arith in ([], ap (λ n. firsts f n ++ f n ∷ []) e)

same_split : {X : Type 0} (xs us : List X) (x y : X) (ys vs : List X) → length xs ≡ length us → xs ++ x ∷ ys ≡ us ++ y ∷ vs → (xs ≡ us) × (x ≡ y) × (ys ≡ vs)
same_split [] [] x y ys vs e h = let a : x ≡ y = cc in let b : ys ≡ vs = cc in (refl, a, b)
same_split [] (u ∷ us) x y ys vs e h = absurd (omega arith)
same_split (a ∷ xs) [] x y ys vs e h = absurd (omega arith)
same_split (a ∷ xs) (u ∷ us) x y ys vs e h =
    let first : a ≡ u = cc in
    let rest : xs ++ x ∷ ys ≡ us ++ y ∷ vs = cc in
    let r = same_split xs us x y ys vs (omega arith) rest in
    (λ i. first i ∷ r.0 i, r.1, r.2)

-- ---- one page of one packet

-- a page of the packet `number`, which lasts so many samples
pub record IsAudio (flags samples granule number : ℕ) (page : Page) : Type 0 where
  pub flags_are : page.flags ≡ flags
  pub granule_is : page.granule ≡ pos granule
  pub serial : page.serial ≡ 1
  pub sequence : page.sequence ≡ (number + 2) % 2 ^ 32
  pub lacing : page.lacing ≡ packet_lacing (length page.body)
  pub samples_are : packet_samples page.body ≡ samples

or_true : (b : Bool) → (b || true) ≡ true
or_true true = refl
or_true false = refl

pub lacing_ends : (len : ℕ) → list_any ends (packet_lacing len) ≡ true
lacing_ends len =
    let below : nat_lt (len % 255) 255 ≡ true = lt-ltb (len % 255) 255 (omega arith) in
    list_any-append ends (replicate (len / 255) 255) (len % 255 ∷ [])
    ∙ ap (λ b. list_any ends (replicate (len / 255) 255) || (b || false)) below ∙ or_true (list_any ends (replicate (len / 255) 255))

last_of : (xs : List ℕ) (r : ℕ) → slice_index (xs ++ r ∷ []) (length (xs ++ r ∷ []) - 1) ≡ r
last_of [] r = refl
last_of (x ∷ xs) r =
    let zs = xs ++ r ∷ [] in
    let some : length zs ≡ length xs + 1 = length-append xs (r ∷ []) in
    let place : length (x ∷ zs) - 1 ≡ suc (length zs - 1) = omega arith in
    ap (λ k. slice_index (x ∷ zs) k) place ∙ last_of xs r

closed_by : (before : Bool) (xs : List ℕ) (r : ℕ) → r < 255 → open_after before (xs ++ r ∷ []) ≡ false
closed_by before [] r h = ne_eqb r 255 (λ e. omega arith)
closed_by before (x ∷ xs) r h = ap (λ v. v == 255) (last_of (x ∷ xs) r) ∙ ne_eqb r 255 (λ e. omega arith)

-- no packet is open behind a whole one
pub closed_behind : (before : List Page) (page : Page) (len : ℕ) → page.lacing ≡ packet_lacing len → is_open (before ++ page ∷ []) ≡ false
closed_behind before page len e =
    open-next before page ∙ ap (open_after (is_open before)) e ∙ closed_by (is_open before) (replicate (len / 255) 255) (len % 255) (omega arith)

-- ---- pages and their packets

pub record Carry (pages : List Page) (packets : List (List ℕ)) : Type 0 where
  pub lacing : lacing_in pages ≡ lacing_of packets
  pub body : body_in pages ≡ concat packets

carry_none : Carry [] []
carry_none = record { lacing = refl; body = refl }

pub carry_next : (pages : List Page) (packets : List (List ℕ)) (page : Page) → Carry pages packets → page.lacing ≡ packet_lacing (length page.body) → Carry (pages ++ page ∷ []) (packets ++ page.body ∷ [])
carry_next pages packets page c e =
    record {
      lacing = lacing-next pages page ∙ ap (λ l. l ++ page.lacing) c.lacing ∙ ap (λ l. lacing_of packets ++ l) (e ∙ sym (append-nil (packet_lacing (length page.body))))
          ∙ sym (flat_map-append (λ packet. packet_lacing (length packet)) packets (page.body ∷ []));
      body = body-next pages page ∙ ap (λ l. l ++ page.body) c.body ∙ ap (λ l. concat packets ++ l) (sym (append-nil page.body)) ∙ sym (concat-append packets (page.body ∷ []));
    }

samples_carried : (pages : List Page) (packets : List (List ℕ)) → Carry pages packets → samples_on pages ≡ samples_in packets
samples_carried pages packets c = ap samples_in (packets_are pages packets c.lacing c.body)

samples_none : samples_on [] ≡ 0
unfolding packets_in lengths_from
samples_none = refl

samples_next : (pages : List Page) (packets : List (List ℕ)) (page : Page) → Carry pages packets → page.lacing ≡ packet_lacing (length page.body) → samples_on (pages ++ page ∷ []) ≡ samples_on pages + packet_samples page.body
samples_next pages packets page c e =
    samples_carried (pages ++ page ∷ []) (packets ++ page.body ∷ []) (carry_next pages packets page c e)
    ∙ sum_by_push packet_samples packets page.body ∙ ap (λ n. n + packet_samples page.body) (sym (samples_carried pages packets c))

-- ---- granule positions

none_between : (a : ℕ) → pos a -ℤ pos a ≡ pos 0
none_between a = omega (arith, ints)

at_least_none : (e s : ℕ) → e ≤ s → (if lt_z (pos e -ℤ pos s) (pos 0) then pos 0 else pos e -ℤ pos s) ≡ pos 0
at_least_none e s h = by (lt_z (pos e -ℤ pos s) (pos 0)) refl where
  by : (b : Bool) → lt_z (pos e -ℤ pos s) (pos 0) ≡ b → (if b then pos 0 else pos e -ℤ pos s) ≡ pos 0
  by true t = refl
  by false t = grind (arith, ints)

-- where a page stands among the first pages of a row and a last one behind them
pub data Place (inner : ℕ → Page) (last : Page) (count : ℕ) (before : List Page) (page : Page) (others : List Page) : Type 0 where
  Inner : (i : ℕ) → i < count → before ≡ firsts inner i → page ≡ inner i → is_none_of others ≡ false → Place inner last count before page others
  Last : before ≡ firsts inner count → page ≡ last → others ≡ [] → Place inner last count before page others

-- All but the last page have a packet of so many samples; the last one ends the stream, behind the samples before it and
-- within its own.
module _ (inner : ℕ → Page) (last : Page) (count samples rest end : ℕ) (each : (i : ℕ) → i < count → IsAudio 0 samples ((i + 1) * samples) i (inner i)) (final : IsAudio 4 rest end count last)
    (behind : count * samples ≤ end) (within : end ≤ count * samples + rest) where
  abbrev pub pages : List Page
  pages = firsts inner count ++ last ∷ []

  some_behind : (tail : List Page) → is_none_of (tail ++ last ∷ []) ≡ false
  some_behind [] = refl
  some_behind (page ∷ tail) = refl

  pub placed : (before : List Page) (page : Page) (others : List Page) → pages ≡ before ++ page ∷ others → Place inner last count before page others
  placed before page others h = by (cases_lt (length before) count) where
    len : length before + suc (length others) ≡ count + 1
    len = sym (length-append before (page ∷ others)) ∙ ap length (sym h) ∙ length-append (firsts inner count) (last ∷ []) ∙ ap (λ n. n + 1) (firsts-len inner count)

    by : (length before < count) ⊎ (count ≤ length before) → Place inner last count before page others
    by (inl less) =
        let i = length before in
        let p = firsts-parted inner count i less in
        let all : before ++ page ∷ others ≡ firsts inner i ++ inner i ∷ (p.0 ++ last ∷ []) = sym h ∙ ap (λ l. l ++ last ∷ []) p.1 ∙ append_assoc (firsts inner i) (inner i ∷ p.0) (last ∷ []) in
        let s = same_split before (firsts inner i) page (inner i) others (p.0 ++ last ∷ []) (sym (firsts-len inner i)) all in
        Inner i less s.0 s.1 (ap is_none_of s.2 ∙ some_behind p.0)
    by (inr more) =
        let s = same_split before (firsts inner count) page last others [] (omega (arith, firsts-len inner count, len)) (sym h) in
        Last s.0 s.1 s.2

  carry_firsts : (k : ℕ) → k ≤ count → Carry (firsts inner k) (firsts (λ i. (inner i).body) k)
  unfolding firsts
  carry_firsts zero h = carry_none
  carry_firsts (suc k) h = carry_next (firsts inner k) (firsts (λ i. (inner i).body) k) (inner k) (carry_firsts k (omega arith)) (each k (omega arith)).lacing

  abbrev pub packets : List (List ℕ)
  packets = firsts (λ i. (inner i).body) count ++ last.body ∷ []

  pub carry_all : Carry pages packets
  carry_all = carry_next (firsts inner count) (firsts (λ i. (inner i).body) count) last (carry_firsts count (omega arith)) final.lacing

  samples_firsts : (k : ℕ) → k ≤ count → samples_on (firsts inner k) ≡ k * samples
  unfolding firsts
  samples_firsts zero h = samples_none ∙ sym (zero-mul samples)
  samples_firsts (suc k) h =
      let again = samples_firsts k (omega arith) in
      let one = (each k (omega arith)).samples_are in
      let next = samples_next (firsts inner k) (firsts (λ i. (inner i).body) k) (inner k) (carry_firsts k (omega arith)) (each k (omega arith)).lacing in
      let more = suc-mul k samples in
      omega arith

  samples_all : samples_on pages ≡ count * samples + rest
  samples_all =
      let most = samples_firsts count (omega arith) in
      let one = final.samples_are in
      let next = samples_next (firsts inner count) (firsts (λ i. (inner i).body) count) last (carry_firsts count (omega arith)) final.lacing in
      omega arith

  ends_inner : (i : ℕ) → i < count → ends_packet (inner i) ≡ true
  ends_inner i h = ap (list_any ends) (each i h).lacing ∙ lacing_ends (length (inner i).body)

  ends_last : ends_packet last ≡ true
  ends_last = ap (list_any ends) final.lacing ∙ lacing_ends (length last.body)

  pub goes_on : (i : ℕ) → i < count → is_last (inner i) ≡ false
  goes_on i h = ap (λ n. n / 4 % 2 == 1) (each i h).flags_are

  pub ends_here : is_last last ≡ true
  ends_here = ap (λ n. n / 4 % 2 == 1) final.flags_are

  open_stream : (k : ℕ) → k ≤ count → is_ended (firsts inner k) ≡ false
  unfolding firsts
  open_stream zero h = refl
  open_stream (suc k) h = any-next is_last (firsts inner k) (inner k) ∙ ap (λ b. b || is_last (inner k)) (open_stream k (omega arith)) ∙ goes_on k (omega arith)

  some_end : (k : ℕ) → suc k ≤ count → list_any ends_packet (firsts inner (suc k)) ≡ true
  unfolding firsts
  some_end k h = any-next ends_packet (firsts inner k) (inner k) ∙ ap (λ b. list_any ends_packet (firsts inner k) || b) (ends_inner k (omega arith)) ∙ or_true (list_any ends_packet (firsts inner k))

  start_none : (k : ℕ) → suc k ≤ count → start_in (firsts inner (suc k)) ≡ pos 0
  unfolding firsts
  start_none zero h =
      let one = each 0 (omega arith) in
      let first = samples_firsts 1 h in
      let none = samples_none in
      let same : samples_on (firsts inner 1) ≡ samples_on [] + samples = omega arith in
      let e : (0 + 1) * samples ≡ samples = omega arith in
      start-new [] (inner 0) samples refl (ends_inner 0 (omega arith)) same ∙ ap (λ z. z -ℤ pos samples) (one.granule_is ∙ ap pos e) ∙ none_between samples
  start_none (suc k) h = start-kept (firsts inner (suc k)) (inner (suc k)) (some_end k (omega arith)) ∙ start_none k (omega arith)

  base_none : base_in pages ≡ pos 0
  base_none = by count refl where
    lifted : ℤ → ℤ
    lifted z = if lt_z z (pos 0) then pos 0 else z

    by : (k : ℕ) → count ≡ k → base_in pages ≡ pos 0
    by zero e =
        let none : firsts inner count ≡ [] = firsts-none inner count e in
        let few : count * samples ≡ 0 = ap (λ n. n * samples) e ∙ zero-mul samples in
        let small : end ≤ rest = omega arith in
        let whole : samples_on ([] ++ last ∷ []) ≡ count * samples + rest = ap (λ l. samples_on (l ++ last ∷ [])) (sym none) ∙ samples_all in
        let nothing = samples_none in
        let all : samples_on ([] ++ last ∷ []) ≡ samples_on [] + rest = omega (arith, few, whole, nothing) in
        ap (λ l. base_in (l ++ last ∷ [])) none
        ∙ ap lifted (start-new [] last rest refl ends_last all ∙ ap (λ z. z -ℤ pos rest) final.granule_is)
        ∙ at_least_none end rest small
    by (suc k) e =
        let more : firsts inner count ≡ firsts inner (suc k) = ap (firsts inner) e in
        let some : suc k ≤ count = omega arith in
        ap (λ l. base_in (l ++ last ∷ [])) more ∙ ap lifted (start-kept (firsts inner (suc k)) last (some_end k some) ∙ start_none k some)

  inner_granule : (i : ℕ) → i < count → bad_granule (firsts inner i) (firsts inner i ++ inner i ∷ []) (inner i) ≡ false
  unfolding bad_granule firsts
  inner_granule i h =
      let now = firsts inner (suc i) in
      let test : ℤ → Bool → Bool → Bool = λ z e l. e && (if l then lt_z ((inner i).granule -ℤ base_in now) (pos (samples_on (firsts inner i))) else lt_z z (pos 0)) in
      ap (λ z. test z (ends_packet (inner i)) (is_last (inner i))) (start_none i h) ∙ ap (λ e. test (pos 0) e (is_last (inner i))) (ends_inner i h) ∙ ap (test (pos 0) true) (goes_on i h)

  not_before : (a b : ℕ) → a ≤ b → lt_z (pos b -ℤ pos 0) (pos a) ≡ false
  not_before a b h = grind (arith, ints)

  last_granule : bad_granule (firsts inner count) pages last ≡ false
  unfolding bad_granule
  last_granule =
      let test : ℤ → ℤ → ℕ → Bool → Bool → Bool = λ z base n e l. e && (if l then lt_z (z -ℤ base) (pos n) else lt_z (start_in pages) (pos 0)) in
      ap (λ z. test z (base_in pages) (samples_on (firsts inner count)) (ends_packet last) (is_last last)) final.granule_is
      ∙ ap (λ b. test (pos end) b (samples_on (firsts inner count)) (ends_packet last) (is_last last)) base_none
      ∙ ap (λ n. test (pos end) (pos 0) n (ends_packet last) (is_last last)) (samples_firsts count (omega arith))
      ∙ ap (λ b. test (pos end) (pos 0) (count * samples) b (is_last last)) ends_last
      ∙ ap (test (pos end) (pos 0) (count * samples) true) ends_here
      ∙ not_before (count * samples) end behind

  -- no packet is open behind the first of them
  pub closed_front : (front : List Page) (k : ℕ) → k ≤ count → is_open front ≡ false → is_open (front ++ firsts inner k) ≡ false
  unfolding firsts
  closed_front front zero h closed = ap is_open (append-nil front) ∙ closed
  closed_front front (suc k) h closed =
      ap is_open (sym (append_assoc front (firsts inner k) (inner k ∷ []))) ∙ closed_behind (front ++ firsts inner k) (inner k) (length (inner k).body) (each k h).lacing

  -- no granule position contradicts the samples
  pub granules : (before : List Page) (page : Page) (others : List Page) → pages ≡ before ++ page ∷ others → bad_granule before (before ++ page ∷ []) page ≡ false
  granules before page others h = by (placed before page others h) where
    by : Place inner last count before page others → bad_granule before (before ++ page ∷ []) page ≡ false
    by (Inner i less e f more) = ap (λ l. bad_granule l (l ++ page ∷ []) page) e ∙ ap (λ p. bad_granule (firsts inner i) (firsts inner i ++ p ∷ []) p) f ∙ inner_granule i less
    by (Last e f none) = ap (λ l. bad_granule l (l ++ page ∷ []) page) e ∙ ap (λ p. bad_granule (firsts inner count) (firsts inner count ++ p ∷ []) p) f ∙ last_granule

  kept_abs : (all : ℕ) → end ≤ all → min all (unsigned_abs (pos end -ℤ pos 0)) ≡ end
  kept_abs all h = omega (arith, ints)

  -- the samples that are given end where the last page says
  pub given_all : given_on pages ≡ end
  unfolding given_on
  given_all =
      let flag : Bool → Bool → Option ℤ = λ l e. if l && e then Some last.granule else None in
      let at : end_granule pages ≡ Some (pos end) = end-next (firsts inner count) last (open_stream count (omega arith))
      ∙ ap (λ l. flag l (ends_packet last)) ends_here ∙ ap (flag true) ends_last ∙ ap (λ z. Some z) final.granule_is in
      ap (λ g. at_most g (base_in pages) (samples_on pages)) at ∙ ap (λ b. at_most (Some (pos end)) b (samples_on pages)) base_none
      ∙ ap (λ n. at_most (Some (pos end)) (pos 0) n) samples_all ∙ kept_abs (count * samples + rest) within
