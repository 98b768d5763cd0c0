-- The windows of samples that are given pair after pair.
use Rattle.std.proofs.Common.{◌≡◌, ℕ, ℤ, zero, suc, pos, ◌+◌, ◌-◌, ◌*◌, ◌/◌, ◌%◌, ◌<◌, ◌≤◌, arith, refl, sym, ap, ◌∙◌, List, ◌++◌, length, take, drop, replicate, inl, inr, length-append}
use Rattle.std.specs.Prelude.{if◌then◌else◌}
use Rattle.std.specs.List.{flat_map, range_with_len}
use Rattle.std.proofs.lemmas.Bool.{cases_lt, lt-ltb, le-ltb}
use Rattle.std.proofs.lemmas.List.{get_or-take, get_or-drop, get_or-replicate, get_or_past, get_or_append_left, get_or-append_right, length-replicate, length-take-le}
use Rattle.fixed_math.specs.Items.{item}
use Rattle.celt_session.specs.Windows.{items_from, window_of}
use Rattle.celt_cli.specs.declared.generator.GenSettings.{GenSettings}
use Rattle.celt_cli.specs.Generator.{left_of, right_of, pair_of}
use Rattle.celt_cli.specs.GenPairs.{pair_in}
use Rattle.celt_cli.specs.GenSignals.{pairs_of, pair_items, samples_for, window_for}
use Rattle.fixed_math.proofs.ItemLemmas.{same_items}

-- ---- THE SAMPLES, BY THEIR PLACES

abbrev pairs_from : ℕ → ℕ → ℕ → List ℤ
pairs_from seed a n = flat_map (pair_items seed) (range_with_len a n)

pairs_length : (seed a n : ℕ) → length (pairs_from seed a n) ≡ 2 * n
pairs_length seed a zero = refl
pairs_length seed a (suc n) = let rest = pairs_length seed (a + 1) n in omega (arith, rest)

left_at : (seed a n k : ℕ) → k < n → item (pairs_from seed a n) (2 * k) ≡ left_of seed (a + k)
left_at seed a zero k h = absurd (omega arith)
left_at seed a (suc n) zero h = let e : a ≡ a + 0 = omega arith in ap (left_of seed) e
left_at seed a (suc n) (suc k) h =
    let e : 2 * suc k ≡ suc (suc (2 * k)) = omega arith in
    let f : a + 1 + k ≡ a + suc k = omega arith in
    ap (item (pairs_from seed a (suc n))) e ∙ left_at seed (a + 1) n k (omega arith) ∙ ap (left_of seed) f

right_at : (seed a n k : ℕ) → k < n → item (pairs_from seed a n) (2 * k + 1) ≡ right_of seed (a + k)
right_at seed a zero k h = absurd (omega arith)
right_at seed a (suc n) zero h = let e : a ≡ a + 0 = omega arith in ap (right_of seed) e
right_at seed a (suc n) (suc k) h =
    let e : 2 * suc k + 1 ≡ suc (suc (2 * k + 1)) = omega arith in
    let f : a + 1 + k ≡ a + suc k = omega arith in
    ap (item (pairs_from seed a (suc n))) e ∙ right_at seed (a + 1) n k (omega arith) ∙ ap (right_of seed) f

pair_given : (settings : GenSettings) (k : ℕ) → k < pairs_of settings → pair_in settings k ≡ pair_of settings.seed k
pair_given settings k h = ap (λ b. if b then pair_of settings.seed k else (pos 0, pos 0)) (lt-ltb k (pairs_of settings) h)

pair_behind : (settings : GenSettings) (k : ℕ) → pairs_of settings ≤ k → pair_in settings k ≡ (pos 0, pos 0)
pair_behind settings k h = ap (λ b. if b then pair_of settings.seed k else (pos 0, pos 0)) (le-ltb k (pairs_of settings) h)

sample_left : (settings : GenSettings) (k : ℕ) → item (samples_for settings) (2 * k) ≡ (pair_in settings k).0
unfolding samples_for
sample_left settings k = elim (cases_lt k (pairs_of settings)) [
  | inl h ↦ let e : 0 + k ≡ k = omega arith in left_at settings.seed 0 (pairs_of settings) k h ∙ ap (left_of settings.seed) e ∙ ap (λ (p : ℤ × ℤ). p.0) (sym (pair_given settings k h))
  | inr h ↦
      let len = pairs_length settings.seed 0 (pairs_of settings) in
      get_or_past (pairs_from settings.seed 0 (pairs_of settings)) (2 * k) (pos 0) (omega (arith, len)) ∙ ap (λ (p : ℤ × ℤ). p.0) (sym (pair_behind settings k h))
]

sample_right : (settings : GenSettings) (k : ℕ) → item (samples_for settings) (2 * k + 1) ≡ (pair_in settings k).1
unfolding samples_for
sample_right settings k = elim (cases_lt k (pairs_of settings)) [
  | inl h ↦ let e : 0 + k ≡ k = omega arith in right_at settings.seed 0 (pairs_of settings) k h ∙ ap (right_of settings.seed) e ∙ ap (λ (p : ℤ × ℤ). p.1) (sym (pair_given settings k h))
  | inr h ↦
      let len = pairs_length settings.seed 0 (pairs_of settings) in
      get_or_past (pairs_from settings.seed 0 (pairs_of settings)) (2 * k + 1) (pos 0) (omega (arith, len)) ∙ ap (λ (p : ℤ × ℤ). p.1) (sym (pair_behind settings k h))
]

-- ---- A WINDOW, BY ITS PLACES

pub zeros : (count place : ℕ) → item (replicate count (pos 0)) place ≡ pos 0
zeros count place = elim (cases_lt place count) [
  | inl h ↦ get_or-replicate count place (pos 0) (pos 0) h
  | inr h ↦ let len = length-replicate count (pos 0) in get_or_past (replicate count (pos 0)) place (pos 0) (omega (arith, len))
]

-- behind the end of a list 0 is read, and stands in a window
padded_at : (items : List ℤ) (count place : ℕ) → item (items ++ replicate count (pos 0)) place ≡ item items place
padded_at items count place = elim (cases_lt place (length items)) [
  | inl h ↦ get_or_append_left items (replicate count (pos 0)) (pos 0) place h
  | inr h ↦
      get_or-append_right items (replicate count (pos 0)) (length items) place (pos 0) refl h
      ∙ zeros count (place - length items) ∙ sym (get_or_past items place (pos 0) h)
]

taken_length : (items : List ℤ) (count : ℕ) → length (take count (items ++ replicate count (pos 0))) ≡ count
taken_length items count =
    let zeros_are = length-replicate count (pos 0) in
    let both = length-append items (replicate count (pos 0)) in
    length-take-le count (items ++ replicate count (pos 0)) (omega (arith, zeros_are, both))

from_at : (items : List ℤ) (start count place : ℕ) → place < count → item (items_from (pos 0) start count items) place ≡ item items (start + place)
from_at items start count place h =
    get_or-take count (drop start items ++ replicate count (pos 0)) place (pos 0) h
    ∙ padded_at (drop start items) count place ∙ get_or-drop start items place (pos 0)

-- the samples behind the lead
abbrev led : GenSettings → List ℤ
led settings = replicate 2290 (pos 0) ++ samples_for settings

window_at : (settings : GenSettings) (count place : ℕ) → place < 4210 → item (window_for settings count) place ≡ item (led settings) (1920 * count + place)
unfolding window_of
window_at settings count place h =
    let e : 2 * (count * 960) + place ≡ 1920 * count + place = omega arith in
    from_at (led settings) (2 * (count * 960)) 4210 place h ∙ ap (item (led settings)) e

led_lead : (settings : GenSettings) (place : ℕ) → place < 2290 → item (led settings) place ≡ pos 0
led_lead settings place h =
    let len = length-replicate 2290 (pos 0) in
    get_or_append_left (replicate 2290 (pos 0)) (samples_for settings) (pos 0) place (omega (arith, len)) ∙ zeros 2290 place

led_behind : (settings : GenSettings) (place : ℕ) → item (led settings) (2290 + place) ≡ item (samples_for settings) place
led_behind settings place =
    let e : 2290 + place - 2290 ≡ place = omega arith in
    get_or-append_right (replicate 2290 (pos 0)) (samples_for settings) 2290 (2290 + place) (pos 0) (length-replicate 2290 (pos 0)) (omega arith) ∙ ap (item (samples_for settings)) e

-- ---- GIVEN ONE AFTER THE OTHER

-- before the first window all is 0
pub none_held : (settings : GenSettings) (place : ℕ) → place < 2290 → item (replicate 4210 (pos 0)) (place + 1920) ≡ item (window_for settings 0) place
none_held settings place h =
    let small : place < 4210 = omega arith in
    let same : 1920 * 0 + place ≡ place = omega arith in
    zeros 4210 (place + 1920) ∙ sym (window_at settings 0 place small ∙ ap (item (led settings)) same ∙ led_lead settings place h)

-- a window that begins with what was held, and goes on with the next pairs
pub record Next (settings : GenSettings) (count : ℕ) (items : List ℤ) : Type 0 where
  pub lead : (place : ℕ) → place < 2290 → item items place ≡ item (window_for settings count) place
  pub left : (k : ℕ) → k < 960 → item items (2290 + 2 * k) ≡ (pair_in settings (960 * count + k)).0
  pub right : (k : ℕ) → k < 960 → item items (2290 + 2 * k + 1) ≡ (pair_in settings (960 * count + k)).1

next_left : (settings : GenSettings) (count k : ℕ) → k < 960 → item (window_for settings count) (2290 + 2 * k) ≡ (pair_in settings (960 * count + k)).0
next_left settings count k h =
    let e : 1920 * count + (2290 + 2 * k) ≡ 2290 + 2 * (960 * count + k) = omega arith in
    window_at settings count (2290 + 2 * k) (omega arith) ∙ ap (item (led settings)) e
    ∙ led_behind settings (2 * (960 * count + k)) ∙ sample_left settings (960 * count + k)

next_right : (settings : GenSettings) (count k : ℕ) → k < 960 → item (window_for settings count) (2290 + 2 * k + 1) ≡ (pair_in settings (960 * count + k)).1
next_right settings count k h =
    let e : 1920 * count + (2290 + 2 * k + 1) ≡ 2290 + (2 * (960 * count + k) + 1) = omega arith in
    window_at settings count (2290 + 2 * k + 1) (omega arith) ∙ ap (item (led settings)) e
    ∙ led_behind settings (2 * (960 * count + k) + 1) ∙ sample_right settings (960 * count + k)

pub next_window : (settings : GenSettings) (count : ℕ) (items : List ℤ) → Next settings count items → (place : ℕ) → place < 4210 → item items place ≡ item (window_for settings count) place
next_window settings count items n place h = elim (cases_lt place 2290) [
  | inl low ↦ n.lead place low
  | inr high ↦
      let k : ℕ = (place - 2290) / 2 in
      elim (cases_lt ((place - 2290) % 2) 1) [
        | inl even ↦
            let e : place ≡ 2290 + 2 * k = omega arith in
            let less : k < 960 = omega arith in
            ap (item items) e ∙ n.left k less ∙ sym (next_left settings count k less) ∙ ap (item (window_for settings count)) (sym e)
        | inr odd ↦
            let e : place ≡ 2290 + 2 * k + 1 = omega arith in
            let less : k < 960 = omega arith in
            ap (item items) e ∙ n.right k less ∙ sym (next_right settings count k less) ∙ ap (item (window_for settings count)) (sym e)
      ]
]

-- what is held of it begins the window behind it
pub next_held : (settings : GenSettings) (count : ℕ) (items : List ℤ) → Next settings count items → (place : ℕ) → place < 2290
    → item items (place + 1920) ≡ item (window_for settings (count + 1)) place
next_held settings count items n place h =
    let e : 1920 * count + (place + 1920) ≡ 1920 * (count + 1) + place = omega arith in
    next_window settings count items n (place + 1920) (omega arith) ∙ window_at settings count (place + 1920) (omega arith) ∙ ap (item (led settings)) e
    ∙ sym (window_at settings (count + 1) place (omega arith))

window_length : (settings : GenSettings) (count : ℕ) → length (window_for settings count) ≡ 4210
unfolding window_of
window_length settings count = taken_length (drop (2 * (count * 960)) (led settings)) 4210

pub whole_window : (settings : GenSettings) (count : ℕ) (items : List ℤ) → length items ≡ 4210 → Next settings count items → items ≡ window_for settings count
whole_window settings count items len n =
    same_items items (window_for settings count) (len ∙ sym (window_length settings count)) (λ place h. next_window settings count items n place (omega (arith, len, h)))
