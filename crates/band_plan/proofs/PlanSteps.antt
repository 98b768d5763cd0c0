-- The walks of a band and of all bands.
use Rattle.std.proofs.Common.{◌≡◌, ◌≢◌, ℕ, zero, suc, ◌+◌, ◌-◌, ◌*◌, ◌/◌, ◌%◌, ◌^◌, ◌<◌, ◌≤◌, Bool, true, false, ◌&&◌, ◌||◌, List, [], ◌∷◌, ◌++◌, length, get_or, set, refl, sym, ◌∙◌, ap, subst, append_assoc, length-append, arith, nat_lt, nat_eq}
use Rattle.std.specs.Prelude.{ℤ, pos, ◌+ℤ◌, ◌-ℤ◌, int_div, unsigned_abs, nat_le, min, slice_index_or, IsTrue, replicate}
use Rattle.std.proofs.lemmas.Bool.Decides.{nat_tests}
use Rattle.std.proofs.lemmas.Int.{ints}
use Rattle.std.proofs.lemmas.List.{append-nil, get_or-set_same, get_or-set_other, length-set}
use Rattle.band_plan.specs.declared.channels.Band.{Band}
use Rattle.band_plan.specs.declared.orders.Share.{Share}
use Rattle.band_plan.specs.declared.symbols.BandSettings.{BandSettings}
use Rattle.band_plan.specs.declared.symbols.Node.{Node}
use Rattle.band_plan.specs.Angles.{lesser, greater}
use Rattle.band_plan.specs.Channels.{two_script, stereo_script, channel_script, IsBand}
use Rattle.band_plan.specs.Parts.{Halves}
use Rattle.band_plan.specs.Plans.{Planned, pulses_of, sum_below, balance_of, amount_of, left_of, share_by, share_of, frame_blocks, band_of, is_two, half_share, band_script, planned_at, one_band, bands_script, all_nodes, amount_at, CodedBand}
use Rattle.band_plan.specs.Trees.{nodes_of, Coded}
use Rattle.celt_base.specs.Ends.{is_band_end}
use Rattle.celt_base.specs.declared.kind.Kind.{Kind}
use Rattle.celt_base.specs.declared.state.Allocation.{Allocation}
use Rattle.celt_base.specs.Paces.{tell_frac_of}
use Rattle.celt_base.specs.WalkCalls.{CoderCalls, ChooserCalls}
use Rattle.celt_base.specs.WalkScripts.{Script, each}
use Rattle.celt_base.specs.Walks.{Walked}
use Rattle.celt_base.proofs.WalkSteps.{Going, start, look, walk, walk_last, end, when_true, when_false}
use Rattle.celt_tables.specs.Tables.{width_of}
use Rattle.std.proofs.lemmas.Bool.{and_parts}
use Rattle.celt_base.proofs.Below.{all_below, at_each}

-- which sizes can be halved as often as their level says
can_halve : ℕ → ℕ → Bool
can_halve zero n = nat_le 2 n && nat_le n 176
can_halve (suc level) n = nat_le 2 n && (nat_le n 176 && (nat_le n 2 || (nat_eq (n % 2) 0 && can_halve level (n / 2))))

by_or : (a b : Bool) → (a || b) ≡ true → a ≡ false → b ≡ true
by_or true b e f = absurd (grind (arith, f))
by_or false b e f = e

halves_by : (level n : ℕ) → can_halve level n ≡ true → Halves level n
unfolding can_halve Halves
halves_by zero n e =
    let t = and_parts (nat_le 2 n) (nat_le n 176) e in
    let a = t.0 in
    let b = t.1 in
    (grind (arith, nat_tests, a), grind (arith, nat_tests, b))
halves_by (suc level) n e =
    let t = and_parts (nat_le 2 n) (nat_le n 176 && (nat_le n 2 || (nat_eq (n % 2) 0 && can_halve level (n / 2)))) e in
    let u = and_parts (nat_le n 176) (nat_le n 2 || (nat_eq (n % 2) 0 && can_halve level (n / 2))) t.1 in
    let a = t.0 in
    let b = u.0 in (
      grind (arith, nat_tests, a),
      grind (arith, nat_tests, b),
      λ more.
          let v = and_parts (nat_eq (n % 2) 0) (can_halve level (n / 2)) (by_or (nat_le n 2) (nat_eq (n % 2) 0 && can_halve level (n / 2)) u.1 (grind (arith, nat_tests, more))) in
          let x = v.0 in
          (grind (arith, nat_tests, x), halves_by level (n / 2) v.1),
    )

size_fits : ℕ → ℕ → Bool
size_fits lm band = (nat_le 1 (width_of band * 2 ^ lm) && nat_le (width_of band * 2 ^ lm) 176) && (nat_eq (width_of band * 2 ^ lm) 1 || can_halve (lm + 1) (width_of band * 2 ^ lm))

row_fits : ℕ → Bool
row_fits lm = all_below (size_fits lm) 21

sizes_fit : all_below row_fits 4 ≡ true
unfolding row_fits size_fits can_halve
sizes_fit = refl

pub record IsSize (lm band : ℕ) : Type 0 where
  pub some : 1 ≤ width_of band * 2 ^ lm
  pub most : width_of band * 2 ^ lm ≤ 176
  pub halves : width_of band * 2 ^ lm ≢ 1 → Halves (lm + 1) (width_of band * 2 ^ lm)

pub size_is : (lm band : ℕ) → lm ≤ 3 → band ≤ 20 → IsSize lm band
unfolding row_fits size_fits
size_is lm band low small =
    let r : row_fits lm ≡ true = at_each row_fits 4 lm sizes_fit (omega (arith, low)) in
    let t : size_fits lm band ≡ true = at_each (size_fits lm) 21 band r (omega (arith, small)) in
    let u = and_parts (nat_le 1 (width_of band * 2 ^ lm) && nat_le (width_of band * 2 ^ lm) 176) (nat_eq (width_of band * 2 ^ lm) 1 || can_halve (lm + 1) (width_of band * 2 ^ lm)) t in
    let v = and_parts (nat_le 1 (width_of band * 2 ^ lm)) (nat_le (width_of band * 2 ^ lm) 176) u.0 in
    let a = v.0 in
    let b = v.1 in
    record {
      some = grind (arith, nat_tests, a);
      most = grind (arith, nat_tests, b);
      halves = λ more. halves_by (lm + 1) (width_of band * 2 ^ lm) (by_or (nat_eq (width_of band * 2 ^ lm) 1) (can_halve (lm + 1) (width_of band * 2 ^ lm)) u.1 (grind (arith, nat_tests, more)));
    }

module _ {C H : Type 0} {coder : CoderCalls C} {chooser : ChooserCalls H} where
  pub band_two : {c d : C} {h k : H} {after : ℤ} {xs ys : List Node} (b : Band) (dual : Bool) (channels : ℕ) (s half : Share) (two : Bool) → two ≡ is_two b dual channels → two ≡ true → half ≡ half_share s
      → Coded coder chooser (two_script b half.bits half.left) half.left after xs ys c h d k
      → Coded coder chooser (band_script b dual channels s) s.left after xs ys c h d k
  unfolding band_script
  band_two {c = c} {d = d} {h = h} {k = k} {after = after} {xs = xs} {ys = ys} b dual channels s half two is t e w =
      let u : is_two b dual channels ≡ true = sym is ∙ t in
      let w2 : Coded coder chooser (two_script b (half_share s).bits (half_share s).left) (half_share s).left after xs ys c h d k =
      subst (λ x. Coded coder chooser (two_script b x.bits x.left) x.left after xs ys c h d k) e w in
      record { tree = w2.tree; walked = when_true (is_two b dual channels) _ _ u w2.walked; left = w2.left; nodes = w2.nodes }

  pub band_stereo : {c d : C} {h k : H} {after : ℤ} {xs ys : List Node} (b : Band) (dual : Bool) (channels : ℕ) (s : Share) (two : Bool) → two ≡ is_two b dual channels → two ≡ false → channels ≡ 2
      → Coded coder chooser (stereo_script b s) s.left after xs ys c h d k
      → Coded coder chooser (band_script b dual channels s) s.left after xs ys c h d k
  unfolding band_script
  band_stereo b dual channels s two is t e w =
      let u : is_two b dual channels ≡ false = sym is ∙ t in
      let v : nat_eq channels 2 ≡ true = grind (arith, nat_tests, e) in
      record { tree = w.tree; walked = when_false (is_two b dual channels) _ _ u (when_true (nat_eq channels 2) _ _ v w.walked); left = w.left; nodes = w.nodes }

  pub band_one : {c d : C} {h k : H} {after : ℤ} {xs ys : List Node} (b : Band) (dual : Bool) (channels : ℕ) (s : Share) (two : Bool) → two ≡ is_two b dual channels → two ≡ false → channels ≢ 2
      → Coded coder chooser (channel_script b 0 s) s.left after xs ys c h d k
      → Coded coder chooser (band_script b dual channels s) s.left after xs ys c h d k
  unfolding band_script
  band_one b dual channels s two is t e w =
      let u : is_two b dual channels ≡ false = sym is ∙ t in
      let v : nat_eq channels 2 ≡ false = grind (arith, nat_tests, e) in
      record { tree = w.tree; walked = when_false (is_two b dual channels) _ _ u (when_false (nat_eq channels 2) _ _ v w.walked); left = w.left; nodes = w.nodes }

pub not_two : (b : Band) (dual : Bool) (channels : ℕ) (two : Bool) → two ≡ is_two b dual channels → two ≡ false → channels ≡ 2 → b.n ≢ 1
unfolding is_two
not_two b dual channels two is t e = λ one.
    let u : ((dual && nat_lt b.band b.intensity) || (nat_eq channels 2 && nat_eq b.n 1)) ≡ false = sym is ∙ t in
    let v : nat_eq channels 2 ≡ true = grind (arith, nat_tests, e) in
    let w : nat_eq b.n 1 ≡ true = grind (arith, nat_tests, one) in
    no_or (dual && nat_lt b.band b.intensity) (nat_eq channels 2) (nat_eq b.n 1) v w u
  where
    no_or : (a x y : Bool) → x ≡ true → y ≡ true → (a || (x && y)) ≡ false → ⊥
    no_or a x y p q r = absurd (grind (arith, p, q, r))

abbrev band_as : ℕ → ℕ → ℕ → ℕ → ℤ → ℕ → Band
band_as band level n blocks tf intensity = record { band = band; level = level; n = n; blocks = blocks; tf = tf; intensity = intensity }

pub band_by : (kind : Kind) (settings : BandSettings) (a : Allocation) (band level n blocks : ℕ) (tf : ℤ)
    → level ≡ kind.lm + 1
    → n ≡ width_of band * 2 ^ kind.lm
    → blocks ≡ frame_blocks kind settings.transient
    → tf ≡ slice_index_or settings.tf band (pos 0)
    → record { band = band; level = level; n = n; blocks = blocks; tf = tf; intensity = a.intensity } ≡ band_of kind settings a.intensity band
unfolding band_of
band_by kind settings a band level n blocks tf l w b t =
    ap (λ x. band_as band x n blocks tf a.intensity) l
    ∙ ap (λ x. band_as band (kind.lm + 1) x blocks tf a.intensity) w
    ∙ ap (λ x. band_as band (kind.lm + 1) (width_of band * 2 ^ kind.lm) x tf a.intensity) b
    ∙ ap (λ x. band_as band (kind.lm + 1) (width_of band * 2 ^ kind.lm) (frame_blocks kind settings.transient) x a.intensity) t

pub band_is : (kind : Kind) (settings : BandSettings) (a : Allocation) (band : ℕ) → band ≤ 20 → unsigned_abs (slice_index_or settings.tf band (pos 0)) ≤ 3
    → 1 ≤ frame_blocks kind settings.transient → frame_blocks kind settings.transient ≤ 8 → IsBand (band_of kind settings a.intensity band)
unfolding band_of
band_is kind settings a band small change some most =
    let lm = kind.sized in
    let s = size_is kind.lm band lm small in
    record {
      band = small;
      level = (omega arith, omega (arith, lm));
      halves = s.halves;
      some = (s.some, s.most);
      blocks = (some, most);
      change = change;
    }

pub amount_none : (a : Allocation) (band : ℕ) (left balance : ℤ) → a.coded ≤ band → pos 0 ≡ amount_of a band left balance
unfolding amount_of
amount_none a band left balance e = let t : nat_lt band a.coded ≡ false = grind (arith, nat_tests, e) in rw t refl

pub amount_some : (a : Allocation) (band : ℕ) (left balance portion amount : ℤ) → band < a.coded → portion ≡ pulses_of a band +ℤ int_div balance (pos (min 3 (a.coded - band)))
    → amount ≡ greater (pos 0) (lesser (pos 16383) (lesser (left +ℤ pos 1) portion))
    → amount ≡ amount_of a band left balance
unfolding amount_of
amount_some a band left balance portion amount e p m =
    let t : nat_lt band a.coded ≡ true = grind (arith, nat_tests, e) in
    rw t (m ∙ ap (λ x. greater (pos 0) (lesser (pos 16383) (lesser (left +ℤ pos 1) x))) p)

abbrev share_as : ℤ → ℤ → Share
share_as bits left = record { bits = bits; left = left }

pub share_is : (a : Allocation) (band : ℕ) (left balance bits l : ℤ) → l ≡ left → bits ≡ amount_of a band left balance → record { bits = bits; left = l } ≡ share_by a left balance band
share_is a band left balance bits l e m = ap (share_as bits) e ∙ ap (λ x. share_as x left) m

-- the balance that the code carries
pub balance_is : (a : Allocation) (first band now : ℕ) (total running : ℤ) → running ≡ (a.balance +ℤ sum_below a band) +ℤ pos first → share_by a (left_of total now) (running -ℤ pos now) band ≡ share_of a total first band now
unfolding share_of balance_of
balance_is a first band now total running e = ap (λ z. share_by a (left_of total now) (z -ℤ pos now) band) e

module _ {C H : Type 0} {coder : CoderCalls C} {chooser : ChooserCalls H} where
  pub band_planned : {c d : C} {h k : H} {after : ℤ} {xs ys : List Node} (kind : Kind) (settings : BandSettings) (a : Allocation) (total running : ℤ) (first band now : ℕ) (before : List Planned) (b : Band) (s : Share)
      → now ≡ tell_frac_of (coder.pace c)
      → b ≡ band_of kind settings a.intensity band
      → s ≡ share_by a (left_of total now) (running -ℤ pos now) band
      → running ≡ (a.balance +ℤ sum_below a band) +ℤ pos first
      → Coded coder chooser (band_script b a.dual kind.channels s) s.left after xs ys c h d k
      → CodedBand coder chooser (one_band kind settings a total first band before) s.bits xs ys c h d k
  unfolding one_band planned_at
  band_planned {c = c} {d = d} {h = h} {k = k} kind settings a total running first band now before b s now_is b_is s_is running_is w =
      let s2 : s ≡ share_of a total first band now = s_is ∙ balance_is a first band now total running running_is in
      let w2 : Walked coder chooser (band_script (band_of kind settings a.intensity band) a.dual kind.channels s) w.tree c h d k = subst (λ x. Walked coder chooser (band_script x a.dual kind.channels s) w.tree c h d k) b_is w.walked in
      let w3 : Walked coder chooser (band_script (band_of kind settings a.intensity band) a.dual kind.channels (share_of a total first band now)) w.tree c h d k = subst (λ x. Walked coder chooser (band_script (band_of kind settings a.intensity band) a.dual kind.channels x) w.tree c h d k) s2 w2 in
      let value : Planned = record { amount = (share_of a total first band now).bits; tree = w.tree } in
      let at : Walked coder chooser (planned_at kind settings a total first band now) value c h d k = end (walk _ start w3) in
      record {
        plan = value;
        walked = walk_last (look start) (subst (λ n. Walked coder chooser (planned_at kind settings a total first band n) value c h d k) now_is at);
        amount_is = ap (λ (x : Share). x.bits) s2;
        nodes = w.nodes;
      }

pub amount_at_left : (a : Allocation) (band : ℕ) (left l balance portion amount : ℤ) → l ≡ left → band < a.coded → portion ≡ pulses_of a band +ℤ int_div balance (pos (min 3 (a.coded - band)))
    → amount ≡ greater (pos 0) (lesser (pos 16383) (lesser (l +ℤ pos 1) portion))
    → amount ≡ amount_of a band left balance
amount_at_left a band left l balance portion amount e c p m =
    amount_some a band left balance portion amount c p (m ∙ ap (λ x. greater (pos 0) (lesser (pos 16383) (lesser (x +ℤ pos 1) portion))) e)

pub end_most : (kind : Kind) → kind.end ≤ 21
end_most kind = ended kind.end kind.ended
  where
    ended : (n : ℕ) → IsTrue (is_band_end n) → n ≤ 21
    ended n e = grind (arith, nat_tests)

pub end_within : (kind : Kind) (band : ℕ) → band < kind.end → band ≤ 20
end_within kind band below = let e = end_most kind in omega (arith, e, below)

-- The bands so far.
pub record AtPlan {C H : Type 0} (coder : CoderCalls C) (chooser : ChooserCalls H) (kind : Kind) (settings : BandSettings) (a : Allocation) (total : ℤ)
    (nodes : List Node) (amounts : List ℤ) (running : ℤ) (c : C) (h : H) (d : C) (k : H) (band : ℕ) : Type 0 where
  pub plans : List Planned
  pub length_is : length plans ≡ band
  pub going : Going coder chooser (bands_script kind settings a total) (each (one_band kind settings a total (tell_frac_of (coder.pace c))) (kind.end - band) band plans) c h d k
  pub nodes_are : nodes ≡ all_nodes plans
  pub amounts_are : (i : ℕ) → get_or amounts i (pos 0) ≡ amount_at plans i
  pub room : length amounts ≡ 21
  pub running_is : running ≡ (a.balance +ℤ sum_below a band) +ℤ pos (tell_frac_of (coder.pace c))
  pub small : unsigned_abs running ≤ 2 ^ 22 + 2 ^ 15 * band
  pub count : coder.count d ≤ coder.count c + 63 * band

all_nodes-end : (plans : List Planned) (p : Planned) → all_nodes plans ++ nodes_of p.tree ≡ all_nodes (plans ++ p ∷ [])
unfolding all_nodes
all_nodes-end [] p = sym (append-nil (nodes_of p.tree))
all_nodes-end (q ∷ plans) p = append_assoc (nodes_of q.tree) (all_nodes plans) (nodes_of p.tree) ∙ ap (λ l. nodes_of q.tree ++ l) (all_nodes-end plans p)

amount_here : (plans : List Planned) (p : Planned) (i : ℕ) → i ≡ length plans → p.amount ≡ amount_at (plans ++ p ∷ []) i
unfolding amount_at
amount_here [] p zero e = refl
amount_here [] p (suc i) e = absurd (omega (arith, e))
amount_here (q ∷ plans) p zero e = absurd (omega (arith, e))
amount_here (q ∷ plans) p (suc i) e = amount_here plans p i (omega (arith, e))

amount_there : (plans : List Planned) (p : Planned) (i : ℕ) → i ≢ length plans → amount_at plans i ≡ amount_at (plans ++ p ∷ []) i
unfolding amount_at
amount_there [] p zero e = absurd (e refl)
amount_there [] p (suc i) e = refl
amount_there (q ∷ plans) p zero e = refl
amount_there (q ∷ plans) p (suc i) e = amount_there plans p i (λ s. e (omega (arith, s)))

zero_at : (n i : ℕ) → get_or (replicate n (pos 0)) i (pos 0) ≡ pos 0
zero_at zero i = refl
zero_at (suc n) zero = refl
zero_at (suc n) (suc i) = zero_at n i

sum_next : (a : Allocation) (band : ℕ) → sum_below a (band + 1) ≡ sum_below a band +ℤ pulses_of a band
unfolding sum_below
sum_next a band = let e : band + 1 ≡ suc band = omega arith in ap (sum_below a) e

run_next : (balance sum first pulses running next more : ℤ) → running ≡ (balance +ℤ sum) +ℤ first → next ≡ running +ℤ pulses → more ≡ sum +ℤ pulses → next ≡ (balance +ℤ more) +ℤ first
run_next balance sum first pulses running next more a b c = omega (arith, ints, a, b, c)

placed : (plans : List Planned) (p : Planned) (amounts : List ℤ) (bits : ℤ) (band i : ℕ) → length plans ≡ band → band < length amounts → bits ≡ p.amount
    → ((j : ℕ) → get_or amounts j (pos 0) ≡ amount_at plans j) → get_or (set amounts band bits) i (pos 0) ≡ amount_at (plans ++ p ∷ []) i
placed plans p amounts bits band i l inside e all = by_place (nat_eq i band) refl
  where
    by_place : (b : Bool) → nat_eq i band ≡ b → get_or (set amounts band bits) i (pos 0) ≡ amount_at (plans ++ p ∷ []) i
    by_place true same =
        let s : i ≡ band = grind (arith, nat_tests, same) in
        subst (λ j. get_or (set amounts band bits) j (pos 0) ≡ amount_at (plans ++ p ∷ []) j) (sym s)
        (get_or-set_same amounts band bits (pos 0) inside ∙ e ∙ amount_here plans p band (sym l))
    by_place false other =
        let ne : i ≢ band = grind (arith, nat_tests, other) in
        let there : i ≢ length plans = λ q. ne (q ∙ l) in
        get_or-set_other amounts band i bits (pos 0) ne ∙ all i ∙ amount_there plans p i there

module _ {C H : Type 0} {coder : CoderCalls C} {chooser : ChooserCalls H} where
  first_going : {c : C} {h : H} (kind : Kind) (settings : BandSettings) (a : Allocation) (total : ℤ)
      → Going coder chooser (bands_script kind settings a total) (each (one_band kind settings a total (tell_frac_of (coder.pace c))) kind.end 0 []) c h c h
  unfolding bands_script
  first_going kind settings a total = look start

  pub plan_start : {c : C} {h : H} (kind : Kind) (settings : BandSettings) (a : Allocation) (total running : ℤ) (first : ℕ) (nodes : List Node) (amounts : List ℤ)
      → first ≡ tell_frac_of (coder.pace c)
      → running ≡ a.balance +ℤ pos first
      → unsigned_abs running ≤ 2 ^ 22
      → nodes ≡ []
      → amounts ≡ replicate 21 (pos 0)
      → AtPlan coder chooser kind settings a total nodes amounts running c h c h 0
  unfolding all_nodes amount_at sum_below
  plan_start {c = c} {h = h} kind settings a total running first nodes amounts f r s n z = record {
    plans = [];
    length_is = refl;
    going = let none : kind.end ≡ kind.end - 0 = omega arith in
        subst (λ l. Going coder chooser (bands_script kind settings a total) (each (one_band kind settings a total (tell_frac_of (coder.pace c))) l 0 []) c h c h) none (first_going kind settings a total);
    nodes_are = n;
    amounts_are = λ i. rw z (zero_at 21 i);
    room = rw z refl;
    running_is = r ∙ ap (λ x. a.balance +ℤ pos x) f ∙ omega (arith, ints);
    small = omega (arith, s);
    count = omega arith;
  }

  pub plan_next : {c d e : C} {h k m : H} (kind : Kind) (settings : BandSettings) (a : Allocation) (total running next bits : ℤ) (nodes more : List Node) (amounts : List ℤ) (band : ℕ)
      → band < kind.end
      → band ≤ 20
      → (g : AtPlan coder chooser kind settings a total nodes amounts running c h d k band)
      → CodedBand coder chooser (one_band kind settings a total (tell_frac_of (coder.pace c)) band g.plans) bits nodes more d k e m
      → next ≡ running +ℤ pulses_of a band
      → unsigned_abs (pulses_of a band) ≤ 2 ^ 15
      → coder.count e ≤ coder.count d + 63
      → AtPlan coder chooser kind settings a total more (set amounts band bits) next c h e m (band + 1)
  unfolding sum_below
  plan_next {c = c} {d = d} {e = e} {h = h} {k = k} {m = m} kind settings a total running next bits nodes more amounts band below inside g w n p counted =
      let one : kind.end - band ≡ suc (kind.end - (band + 1)) = omega (arith, below) in
      let code : ℕ → List Planned → Script Planned = one_band kind settings a total (tell_frac_of (coder.pace c)) in
      let going2 : Going coder chooser (bands_script kind settings a total) (each code (suc (kind.end - (band + 1))) band g.plans) c h d k =
      subst (λ l. Going coder chooser (bands_script kind settings a total) (each code l band g.plans) c h d k) one g.going in
      let l = g.length_is in
      let room = g.room in
      let r = g.running_is in
      let s = g.small in
      let q = g.count in
      record {
        plans = g.plans ++ w.plan ∷ [];
        length_is = length-append g.plans (w.plan ∷ []) ∙ ap (λ x. x + 1) l;
        going = walk (λ v. each code (kind.end - (band + 1)) (band + 1) (g.plans ++ v ∷ [])) going2 w.walked;
        nodes_are = w.nodes ∙ ap (λ x. x ++ nodes_of w.plan.tree) g.nodes_are ∙ all_nodes-end g.plans w.plan;
        amounts_are = λ i. placed g.plans w.plan amounts bits band i l (omega (arith, room, inside)) w.amount_is g.amounts_are;
        room = length-set amounts band bits ∙ room;
        running_is = run_next a.balance (sum_below a band) (pos (tell_frac_of (coder.pace c))) (pulses_of a band) running next (sum_below a (band + 1)) r n (sum_next a band);
        small = omega (arith, ints, n, p, s);
        count = omega (arith, q, counted);
      }

  pub plan_end : {c d : C} {h k : H} (kind : Kind) (settings : BandSettings) (a : Allocation) (total running : ℤ) (nodes : List Node) (amounts : List ℤ) (band : ℕ)
      → kind.end ≤ band
      → (g : AtPlan coder chooser kind settings a total nodes amounts running c h d k band)
      → Walked coder chooser (bands_script kind settings a total) g.plans c h d k
  plan_end {c = c} {d = d} {h = h} {k = k} kind settings a total running nodes amounts band last g =
      let none : kind.end - band ≡ zero = omega (arith, last) in
      end (subst (λ l. Going coder chooser (bands_script kind settings a total) (each (one_band kind settings a total (tell_frac_of (coder.pace c))) l band g.plans) c h d k) none g.going)

pub none_inside : {A : Type 0} (xs : List A) → xs ≡ [] → length xs ≤ 0
none_inside xs e = let n : length xs ≡ 0 = ap length e in omega (arith, n)
