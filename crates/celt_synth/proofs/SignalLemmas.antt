-- A frame's signal: what stands in the buffers is what the definitions say.
use Rattle.std.proofs.Common.{◌≡◌, ◌≢◌, ℕ, zero, suc, ◌+◌, ◌-◌, ◌*◌, ◌/◌, ◌%◌, ◌^◌, ◌<◌, ◌≤◌, nat_eq, if◌then◌else◌, Bool, true, false, refl, sym, subst, inl, inr, arith, ap, ◌∙◌, List, ◌++◌, length, take, drop, replicate}
use Rattle.std.specs.Prelude.{ℤ, pos, ◌+ℤ◌, unsigned_abs, All}
use Rattle.std.proofs.lemmas.List.Elements.{All-from_get_or}
use Rattle.std.proofs.lemmas.Bool.{cases_lt, cases_eq}
use Rattle.std.proofs.lemmas.Bool.Decides.{nat_tests}
use Rattle.std.proofs.lemmas.List.{get_or-set_same, get_or-set_other, length-set, get_or_append_left, get_or-append_right, length-append, get_or-take, get_or-drop, get_or-replicate, length-replicate, take_at}
use Rattle.celt_base.specs.declared.state.Setting.{Setting}
use Rattle.fixed_math.specs.Items.{item, listed}
use Rattle.fixed_math.proofs.ItemLemmas.{item-listed, length-listed, listed_from, same_items}
use Rattle.post_filter.specs.Comb.{limited, term, outputs, combed, filtered}
use Rattle.post_filter.specs.Samples.{sample_of}
use Rattle.post_filter.proofs.OutputLemmas.{LooksBack}
use Rattle.celt_synth.specs.Blocks.{overlapped, values_of, overlap_of, overlap_in, IsOverlapped}
use Rattle.celt_synth.specs.Filters.{frame_of, AreEmitted}
use Rattle.celt_synth.specs.Signals.{Kept, Channel, outputs_of, memory_before, kept_after, sample_at, mono_samples, stereo_samples, kept_in, IsBuffer}
use Rattle.celt_synth.specs.States.{quiet}
use Rattle.celt_synth.specs.declared.signals.Form.{Form}
use Rattle.post_filter.proofs.FilterLemmas.{term_back}

outputs_length : (added : ℕ → List ℤ → ℤ) (at n : ℕ) (xs : List ℤ) → length (outputs added at n xs) ≡ length xs
unfolding outputs
outputs_length added at zero xs = refl
outputs_length added at (suc n) xs = length-set (outputs added at n xs) (at + n) (limited (item (outputs added at n xs) (at + n) +ℤ added n (outputs added at n xs))) ∙ outputs_length added at n xs

-- lists that agree up to a place have outputs that do
outputs_agree : (added : ℕ → List ℤ → ℤ) (at n end : ℕ) (xs ys : List ℤ) → LooksBack added at n → at + n ≤ end → end ≤ length xs → end ≤ length ys → ((p : ℕ) → p < end → item xs p ≡ item ys p)
    → (p : ℕ) → p < end → item (outputs added at n xs) p ≡ item (outputs added at n ys) p
unfolding outputs
outputs_agree added at zero end xs ys back fits room other same p l = same p l
outputs_agree added at (suc n) end xs ys back fits room other same p l =
    let us : List ℤ = outputs added at n xs in
    let vs : List ℤ = outputs added at n ys in
    let before : LooksBack added at n = λ i h. back i (omega arith) in
    let ih : (q : ℕ) → q < end → item us q ≡ item vs q = outputs_agree added at n end xs ys before (omega arith) room other same in
    let first : length us ≡ length xs = outputs_length added at n xs in
    let second : length vs ≡ length ys = outputs_length added at n ys in
    let u : ℤ = limited (item us (at + n) +ℤ added n us) in
    let v : ℤ = limited (item vs (at + n) +ℤ added n vs) in
    let e : u ≡ v = ap (λ z. limited (z +ℤ added n us)) (ih (at + n) (omega arith)) ∙ ap (λ z. limited (item vs (at + n) +ℤ z)) (back n (omega arith) us vs (λ q h. ih q (omega arith))) in
    elim (cases_eq p (at + n)) [
      | inl q ↦ rw q (get_or-set_same us (at + n) u (pos 0) (omega (arith, first, fits, room)) ∙ e ∙ sym (get_or-set_same vs (at + n) v (pos 0) (omega (arith, second, fits, other))))
      | inr q ↦
          let ne : p ≢ at + n = q in
          get_or-set_other us (at + n) p u (pos 0) ne ∙ ih p l ∙ sym (get_or-set_other vs (at + n) p v (pos 0) ne)
    ]

filtered_agree : (before now frame : Setting) (n : ℕ) (xs ys : List ℤ) → 120 ≤ n → 1024 + n ≤ length xs → 1024 + n ≤ length ys → ((p : ℕ) → p < 1024 + n → item xs p ≡ item ys p)
    → (p : ℕ) → p < 1024 + n → item (filtered before now frame n xs) p ≡ item (filtered before now frame n ys) p
unfolding filtered
filtered_agree before now frame n xs ys some room other same =
    let first = outputs_length (λ i vs. term before now i vs (1024 + i)) 1024 120 xs in
    let second = outputs_length (λ i vs. term before now i vs (1024 + i)) 1024 120 ys in
    outputs_agree (λ i vs. term now frame i vs (1144 + i)) 1144 (n - 120) (1024 + n) (combed before now 1024 120 xs) (combed before now 1024 120 ys) (term_back now frame 1144 (n - 120) (omega arith)) (omega arith)
    (omega (arith, first, room)) (omega (arith, second, other))
    (outputs_agree (λ i vs. term before now i vs (1024 + i)) 1024 120 (1024 + n) xs ys (term_back before now 1024 120 (omega arith)) (omega arith) room other same)

-- the values behind what is kept
base_length : (m : ℕ) (transient : Bool) (xs old : List ℤ) → length ((kept_in old).history ++ values_of m transient (overlap_in old) xs) ≡ 1024 + 120 * m
base_length m transient xs old =
    length-append (listed 1024 (item old)) (values_of m transient (overlap_in old) xs)
    ∙ (let a = length-listed 1024 (item old) in let b = length-listed (120 * m) (overlapped m transient (overlap_in old) xs) in omega (arith, a, b))

base_is : (m : ℕ) (transient : Bool) (xs old mid : List ℤ) → IsOverlapped m transient xs old mid → (p : ℕ) → p < 1024 + 120 * m
    → item mid p ≡ item ((kept_in old).history ++ values_of m transient (overlap_in old) xs) p
base_is m transient xs old mid r p l = elim (cases_lt p 1024) [
  | inl a ↦
      r.before p a ∙ sym (item-listed 1024 (item old) p a)
      ∙ sym (get_or_append_left (listed 1024 (item old)) (values_of m transient (overlap_in old) xs) (pos 0) p (let n = length-listed 1024 (item old) in omega (arith, n, a)))
  | inr a ↦
      let e : 1024 + (p - 1024) ≡ p = omega arith in
      ap (item mid) (sym e) ∙ r.here (p - 1024) (omega (arith, l)) ∙ sym (item-listed (120 * m) (overlapped m transient (overlap_in old) xs) (p - 1024) (omega (arith, l, a)))
      ∙ sym (get_or-append_right (listed 1024 (item old)) (values_of m transient (overlap_in old) xs) 1024 p (pos 0) (length-listed 1024 (item old)) a)
]

pub played : (f : Form) (xs old mid new : List ℤ) → 1 ≤ f.blocks → 1024 + 120 * f.blocks ≤ length mid → IsOverlapped f.blocks f.transient xs old mid → new ≡ filtered f.before f.now f.frame (120 * f.blocks) mid
    → (p : ℕ) → p < 1024 + 120 * f.blocks → item new p ≡ item (outputs_of f (kept_in old) xs) p
unfolding outputs_of
played f xs old mid new some room r e p l =
    let len = base_length f.blocks f.transient xs old in
    ap (λ ys. item ys p) e
    ∙ filtered_agree f.before f.now f.frame (120 * f.blocks) mid ((kept_in old).history ++ values_of f.blocks f.transient (overlap_in old) xs) (omega arith) room (omega (arith, len)) (base_is f.blocks f.transient xs old mid r) p l

pub kept_is : (f : Form) (xs old mid new : List ℤ)
    → ((p : ℕ) → p < 1024 + 120 * f.blocks → item mid p ≡ item (outputs_of f (kept_in old) xs) p)
    → ((t : ℕ) → t < 120 → item mid (1024 + 120 * f.blocks + t) ≡ overlapped f.blocks f.transient (overlap_in old) xs (120 * f.blocks + t))
    → ((p : ℕ) → p < 1144 → item new p ≡ item mid (120 * f.blocks + p))
    → kept_in new ≡ kept_after f (kept_in old) xs
unfolding kept_after
kept_is f xs old mid new h o s =
    let first : listed 1024 (item new) ≡ listed 1024 (λ p. item (outputs_of f (kept_in old) xs) (120 * f.blocks + p)) =
    listed_from (listed 1024 (item new)) 1024 (λ p. item (outputs_of f (kept_in old) xs) (120 * f.blocks + p)) (length-listed 1024 (item new))
    (λ p l. item-listed 1024 (item new) p l ∙ s p (omega arith) ∙ h (120 * f.blocks + p) (omega arith)) in
    let second : overlap_in new ≡ overlap_of f.blocks f.transient (overlap_in old) xs =
    listed_from (overlap_in new) 120 (λ t. overlapped f.blocks f.transient (overlap_in old) xs (120 * f.blocks + t)) (length-listed 120 (λ t. item new (1024 + t)))
    (λ t l. item-listed 120 (λ k. item new (1024 + k)) t l ∙ s (1024 + t) (omega arith) ∙ ap (item mid) (turn t) ∙ o t l) in
    ap (λ ys. record { history = ys; overlap = overlap_in new }) first
    ∙ ap (λ ys. record { history = listed 1024 (λ p. item (outputs_of f (kept_in old) xs) (120 * f.blocks + p)); overlap = ys }) second
  where
    turn : (t : ℕ) → 120 * f.blocks + (1024 + t) ≡ 1024 + 120 * f.blocks + t
    turn t = omega arith

-- the outputs of the frame alone, as de-emphasis takes them
pub frame_is : (f : Form) (kept : Kept) (xs mid part : List ℤ) → 1024 + 120 * f.blocks ≤ length mid → part ≡ take (120 * f.blocks) (drop 1024 mid)
    → ((p : ℕ) → p < 1024 + 120 * f.blocks → item mid p ≡ item (outputs_of f kept xs) p)
    → (t : ℕ) → t < 120 * f.blocks → item part t ≡ frame_of (outputs_of f kept xs) t
frame_is f kept xs mid part room e h t l =
    ap (λ ys. item ys t) e ∙ get_or-take (120 * f.blocks) (drop 1024 mid) t (pos 0) l ∙ get_or-drop 1024 mid t (pos 0) ∙ h (1024 + t) (omega arith)

pub frame_sizes : (n : ℕ) (mid part : List ℤ) → part ≡ take n (drop 1024 mid) → length part ≡ n → ((p : ℕ) → p < 1024 + n → unsigned_abs (item mid p) ≤ 2 ^ 30) → All (λ v. unsigned_abs v ≤ 2 ^ 30) part
frame_sizes n mid part e count h =
    All-from_get_or (λ v. unsigned_abs v ≤ 2 ^ 30) part (pos 0)
    (λ i l.
    let inside : i < n = omega (arith, count, l) in
    let same : item part i ≡ item mid (1024 + i) = ap (λ ys. item ys i) e ∙ get_or-take n (drop 1024 mid) i (pos 0) inside ∙ get_or-drop 1024 mid i (pos 0) in
    subst (λ z. unsigned_abs z ≤ 2 ^ 30) (sym same) (h (1024 + i) (omega arith)))

-- the samples of a frame in a stream of one channel, and of two
pub mono_is : (gain : ℤ) (f : Form) (c : Channel) (xs old new : List ℤ) → length new ≡ 120 * f.blocks
    → AreEmitted gain c.memory (frame_of (outputs_of f c.kept xs)) 0 1 (120 * f.blocks) old new → new ≡ mono_samples gain f c xs
unfolding mono_samples memory_before
mono_is gain f c xs old new e r =
    listed_from new (120 * f.blocks) (sample_at gain f c xs) e (λ t l. ap (item new) (place t) ∙ r.here t l)
  where
    place : (t : ℕ) → t ≡ 0 + 1 * t
    place t = omega arith

pub stereo_is : (gain : ℤ) (f : Form) (a b : Channel) (xs ys old mid new : List ℤ) → length new ≡ 2 * (120 * f.blocks)
    → AreEmitted gain a.memory (frame_of (outputs_of f a.kept xs)) 0 2 (120 * f.blocks) old mid
    → AreEmitted gain b.memory (frame_of (outputs_of f b.kept ys)) 1 2 (120 * f.blocks) mid new
    → new ≡ stereo_samples gain f a b xs ys
unfolding stereo_samples memory_before
stereo_is gain f a b xs ys old mid new e r s =
    listed_from new (2 * (120 * f.blocks)) (λ p. if nat_eq (p % 2) 0 then sample_at gain f a xs (p / 2) else sample_at gain f b ys (p / 2)) e (λ p l. by_test p l (nat_eq (p % 2) 0) refl)
  where
    by_test : (p : ℕ) → p < 2 * (120 * f.blocks) → (t : Bool) → nat_eq (p % 2) 0 ≡ t → item new p ≡ (if t then sample_at gain f a xs (p / 2) else sample_at gain f b ys (p / 2))
    by_test p l true d =
        let c : p % 2 ≡ 0 = grind (arith, nat_tests) in
        let m : p ≡ 0 + 2 * (p / 2) = omega (arith, c) in
        s.others p (λ i h g. absurd (omega (arith, c, g))) ∙ ap (item mid) m ∙ r.here (p / 2) (omega arith)
    by_test p l false d =
        let c : p % 2 ≢ 0 = grind (arith, nat_tests) in
        let m : p ≡ 1 + 2 * (p / 2) = omega (arith, c) in
        ap (item new) m ∙ s.here (p / 2) (omega arith)

-- the sizes of what is moved to the front
pub moved_history : (n : ℕ) (mid new : List ℤ) → ((p : ℕ) → p < 1024 + n → unsigned_abs (item mid p) ≤ 2 ^ 30) → ((p : ℕ) → p < 1144 → item new p ≡ item mid (n + p)) → (p : ℕ) → p < 1024 → unsigned_abs (item new p) ≤ 2 ^ 30
moved_history n mid new h s p l = subst (λ z. unsigned_abs z ≤ 2 ^ 30) (sym (s p (omega arith))) (h (n + p) (omega arith))

pub moved_overlap : (n : ℕ) (mid new : List ℤ) → ((t : ℕ) → t < 120 → unsigned_abs (item mid (1024 + n + t)) < 2 ^ 46) → ((p : ℕ) → p < 1144 → item new p ≡ item mid (n + p)) → (p : ℕ) → 1024 ≤ p → p < 1144 → unsigned_abs (item new p) < 2 ^ 46
moved_overlap n mid new h s p l b =
    let e : 1024 + n + (p - 1024) ≡ n + p = omega arith in
    subst (λ z. unsigned_abs z < 2 ^ 46) (sym (s p b)) (subst (λ k. unsigned_abs (item mid k) < 2 ^ 46) e (h (p - 1024) (omega arith)))

-- a buffer of zeros is one before the first frame
zeros_listed : (n : ℕ) (f : ℕ → ℤ) → ((p : ℕ) → f p ≡ pos 0) → listed n f ≡ replicate n (pos 0)
zeros_listed n f h =
    let count = length-listed n f in
    let other = length-replicate n (pos 0) in
    same_items (listed n f) (replicate n (pos 0)) (count ∙ sym other)
    (λ p l.
    let inside : p < n = omega (arith, count, l) in
    item-listed n f p inside ∙ h p ∙ sym (get_or-replicate n p (pos 0) (pos 0) inside))

pub quiet_is : (xs : List ℤ) (memory : ℤ) → ((p : ℕ) → item xs p ≡ pos 0) → memory ≡ pos 0 → record { kept = kept_in xs; memory = memory } ≡ quiet
quiet_is xs memory h e = λ k. record {
  kept = record { history = zeros_listed 1024 (item xs) h k; overlap = zeros_listed 120 (λ t. item xs (1024 + t)) (λ t. h (1024 + t)) k };
  memory = e k;
}

pub zero_item : (n p : ℕ) → item (replicate n (pos 0)) p ≡ pos 0
zero_item zero p = refl
zero_item (suc n) zero = refl
zero_item (suc n) (suc p) = zero_item n p

pub quiet_buffer : (xs : List ℤ) (memory : ℤ) → length xs ≡ 2104 → ((p : ℕ) → item xs p ≡ pos 0) → memory ≡ pos 0 → IsBuffer xs memory
quiet_buffer xs memory e h m = record {
  room = e;
  history = λ p l. rw (h p) (omega arith);
  overlap = λ p l u. rw (h p) (omega arith);
  memory_size = rw m (omega arith);
}

-- a list that was lent whole
pub written_back : (n : ℕ) (xs ys : List ℤ) → length xs ≡ n → take n (xs ++ ys) ≡ xs
written_back n xs ys e = take_at xs ys n e
