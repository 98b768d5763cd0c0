-- Bands of a frame whose empty blocks are filled.
use Rattle.std.proofs.Common.{◌≡◌, ◌≢◌, ℕ, zero, suc, ◌+◌, ◌-◌, ◌*◌, ◌^◌, ◌<◌, ◌≤◌, nat_eq, if◌then◌else◌, Bool, true, false, true≢false, refl, sym, subst, arith, ap, ◌∙◌, add-one, List, ◌++◌, take, drop, length, get_or}
use Rattle.std.specs.Prelude.{ℤ, pos, unsigned_abs, All}
use Rattle.std.specs.Int.{int_max}
use Rattle.std.proofs.lemmas.Bool.Decides.{nat_tests}
use Rattle.std.proofs.lemmas.List.{drop-drop}
use Rattle.celt_base.specs.declared.kind.Kind.{Kind}
use Rattle.celt_tables.specs.Tables.{edge_of, width_of}
use Rattle.celt_synth.specs.AntiCollapse.{level_at, mask_at, band_start, band_uncollapsed, seed_behind, both_uncollapsed, all_uncollapsed, left_uncollapsed, right_uncollapsed}
use Rattle.celt_synth.specs.Blocks.{blocks_of}
use Rattle.celt_synth.specs.Collapse.{level, rise, uncollapsed, seed_uncollapsed}
use Rattle.celt_synth.specs.Rows.{entry, older_at}
use Rattle.celt_synth.specs.Shapes.{Shapes, shapes_of}
use Rattle.celt_synth.specs.declared.anti_collapse.Grounds.{Grounds}
use Rattle.celt_synth.proofs.AmplitudeLemmas.{edge_le}

pub older_mono : (channels : ℕ) (rows : List (List ℤ)) (c b : ℕ) (x y v : ℤ) → channels ≡ 1 → x ≡ entry rows 0 b → y ≡ entry rows 1 b → v ≡ int_max x y → v ≡ older_at channels rows c b
unfolding older_at
older_mono channels rows c b x y v one e f h = rw one (h ∙ (λ k. int_max (e k) (f k)))

pub older_stereo : (channels : ℕ) (rows : List (List ℤ)) (c b : ℕ) (v : ℤ) → channels ≡ 2 → v ≡ entry rows c b → v ≡ older_at channels rows c b
unfolding older_at
older_stereo channels rows c b v two e = rw two e

pub level_at_is : (g : Grounds) (c b n pulses r v : ℕ) (e p q : ℤ) → n ≡ blocks_of g.kind * width_of b → pulses ≡ unsigned_abs (get_or g.pulses b (pos 0))
    → e ≡ entry g.energies c b → p ≡ older_at g.kind.channels g.older1 c b → q ≡ older_at g.kind.channels g.older2 c b → r ≡ rise e p q → v ≡ level g.kind.lm n pulses r → v ≡ level_at g c b
unfolding level_at
level_at_is g c b n pulses r v e p q hn hp he h1 h2 hr hv =
    let s : r ≡ rise (entry g.energies c b) (older_at g.kind.channels g.older1 c b) (older_at g.kind.channels g.older2 c b) = hr ∙ (λ k. rise (he k) (h1 k) (h2 k)) in
    hv ∙ (λ k. level g.kind.lm (hn k) (hp k) (s k))

-- the items behind a band
pub behind_band : (m b : ℕ) (xs : List ℤ) → b < 21 → drop (m * width_of b) (drop (m * edge_of b) xs) ≡ drop (m * edge_of (b + 1)) xs
behind_band m b xs l =
    let rises : edge_of b ≤ edge_of (b + 1) = edge_le b (b + 1) (omega arith) (omega arith) in
    drop-drop (m * width_of b) (m * edge_of b) xs ∙ ap (λ n. drop n xs) (joined (edge_of b) (edge_of (b + 1)) rises)
  where
    joined : (e f : ℕ) → e ≤ f → m * e + m * (f - e) ≡ m * f
    joined e f h =
        let g : f - e + e ≡ f = omega arith in
        subst (λ n. m * e + m * (f - e) ≡ m * n) g (omega arith)

pub band_is : (g : Grounds) (c b seed m e w level : ℕ) (xs front here tail made : List ℤ) → b < 21 → m ≡ blocks_of g.kind → e ≡ edge_of b → w ≡ width_of b → level ≡ level_at g c b
    → front ≡ take (m * e) xs → here ≡ take (m * w) (drop (m * e) xs) → tail ≡ drop (m * w) (drop (m * e) xs) → made ≡ uncollapsed m w (mask_at g c b) level seed here
    → front ++ (made ++ tail) ≡ band_uncollapsed g c b seed xs
unfolding band_uncollapsed
band_is g c b seed m e w lev xs front here tail made l hm he hw hl hf hh ht hd =
    let start : m * e ≡ band_start g b = λ k. hm k * he k in
    let count : m * w ≡ blocks_of g.kind * width_of b = λ k. hm k * hw k in
    let f : front ≡ take (band_start g b) xs = hf ∙ ap (λ n. take n xs) start in
    let h : here ≡ take (blocks_of g.kind * width_of b) (drop (band_start g b) xs) = hh ∙ (λ k. take (count k) (drop (start k) xs)) in
    let t : tail ≡ drop (band_start g (b + 1)) xs = ht ∙ (λ k. drop (count k) (drop (start k) xs)) ∙ behind_band (blocks_of g.kind) b xs l in
    let d : made ≡ uncollapsed (blocks_of g.kind) (width_of b) (mask_at g c b) (level_at g c b) seed (take (blocks_of g.kind * width_of b) (drop (band_start g b) xs)) =
    hd ∙ (λ k. uncollapsed (hm k) (hw k) (mask_at g c b) (hl k) seed (h k)) in
    λ k. f k ++ (d k ++ t k)

pub seed_is : (g : Grounds) (c b seed m w next : ℕ) → m ≡ blocks_of g.kind → w ≡ width_of b → next ≡ seed_uncollapsed m w (mask_at g c b) seed → next ≡ seed_behind g c b seed
unfolding seed_behind
seed_is g c b seed m w next hm hw e = e ∙ (λ k. seed_uncollapsed (hm k) (hw k) (mask_at g c b) seed)

-- both channels of a band, and the left one alone
chosen : (t : Bool) (x y : Shapes) → t ≡ true → x ≡ (if t then x else y)
chosen true x y e = refl
chosen false x y e = absurd (true≢false (sym e))

other : (t : Bool) (x y : Shapes) → t ≡ false → y ≡ (if t then x else y)
other true x y e = absurd (true≢false e)
other false x y e = refl

is_two : (n : ℕ) → n ≡ 2 → nat_eq n 2 ≡ true
is_two n e = rw e refl

is_one : (n : ℕ) → n ≡ 1 → nat_eq n 2 ≡ false
is_one n e = rw e refl

pub both_are : (g : Grounds) (b seed first second : ℕ) (xs ys us vs : List ℤ) → g.kind.channels ≡ 2
    → us ≡ band_uncollapsed g 0 b seed xs → first ≡ seed_behind g 0 b seed → vs ≡ band_uncollapsed g 1 b first ys → second ≡ seed_behind g 1 b first
    → shapes_of us vs second ≡ both_uncollapsed g b (shapes_of xs ys seed)
unfolding both_uncollapsed
both_are g b seed first second xs ys us vs two hu hs hv ht =
    let v : vs ≡ band_uncollapsed g 1 b (seed_behind g 0 b seed) ys = hv ∙ ap (λ s. band_uncollapsed g 1 b s ys) hs in
    let t : second ≡ seed_behind g 1 b (seed_behind g 0 b seed) = ht ∙ ap (seed_behind g 1 b) hs in
    (λ k. shapes_of (hu k) (v k) (t k))
    ∙ chosen (nat_eq g.kind.channels 2) (right_uncollapsed g b (left_uncollapsed g b (shapes_of xs ys seed))) (left_uncollapsed g b (shapes_of xs ys seed)) (is_two g.kind.channels two)

pub left_alone : (g : Grounds) (b seed first : ℕ) (xs ys us : List ℤ) → g.kind.channels ≡ 1 → us ≡ band_uncollapsed g 0 b seed xs → first ≡ seed_behind g 0 b seed
    → shapes_of us ys first ≡ both_uncollapsed g b (shapes_of xs ys seed)
unfolding both_uncollapsed
left_alone g b seed first xs ys us one hu hs =
    (λ k. shapes_of (hu k) ys (hs k))
    ∙ other (nat_eq g.kind.channels 2) (right_uncollapsed g b (left_uncollapsed g b (shapes_of xs ys seed))) (left_uncollapsed g b (shapes_of xs ys seed)) (is_one g.kind.channels one)

-- the bands below n of both channels
pub record Uncollapsing (g : Grounds) (old : Shapes) (n : ℕ) (left right : List ℤ) (seed : ℕ) : Type 0 where
  pub value : shapes_of left right seed ≡ all_uncollapsed g n old
  pub left_items : All (λ v. unsigned_abs v < 2 ^ 20) left
  pub right_items : All (λ v. unsigned_abs v < 2 ^ 20) right

pub all_none : (g : Grounds) (s : Shapes) → s ≡ all_uncollapsed g 0 s
unfolding all_uncollapsed
all_none g s = refl

pub all_more : (g : Grounds) (n : ℕ) (s t u : Shapes) → t ≡ all_uncollapsed g n s → u ≡ both_uncollapsed g n t → u ≡ all_uncollapsed g (n + 1) s
unfolding all_uncollapsed
all_more g n s t u e f = rw add-one (f ∙ ap (both_uncollapsed g n) e)
