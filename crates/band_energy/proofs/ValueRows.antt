-- The energies of a channel on their way: those of the bands below one are changed.
use Rattle.std.proofs.Common.{◌≡◌, ℕ, zero, suc, ◌+◌, ◌-◌, ◌*◌, ◌^◌, ◌<◌, ◌≤◌, ◌&&◌, Bool, true, false, if◌then◌else◌, nat_lt, List, [], length, map, get_or, set, inl, inr, refl, sym, ◌∙◌, ap, subst, add-one, arith}
use Rattle.std.specs.Prelude.{ℤ, pos, ◌+ℤ◌, ◌*ℤ◌, unsigned_abs, All, Option, None, slice_index}
use Rattle.std.specs.List.{range_with_len}
use Rattle.std.proofs.lemmas.Bool.{cases_eq}
use Rattle.std.proofs.lemmas.Bool.Decides.{nat_tests}
use Rattle.std.proofs.lemmas.List.{get_or-set_same, get_or-set_other, length-set}
use Rattle.std.proofs.lemmas.List.Elements.{All-set}
use Rattle.std.proofs.lemmas.List.FromFn.{fill_by_all}
use Rattle.celt_base.specs.declared.kind.Kind.{Kind}
use Rattle.celt_base.specs.declared.state.Allocation.{Allocation}
use Rattle.celt_base.specs.Energies.{IsEnergy}
use Rattle.band_energy.specs.declared.energy.Energy.{Energy}
use Rattle.band_energy.specs.EnergyValues.{alpha_of, beta_of, carried, coarse_of, fine_of, last_of, energy_by, energy_at, energies_of}

module _ (alpha beta : ℕ) (bits : List ℕ) (e : Energy) (channel : ℕ) (old : List ℤ) where
  -- The bands below `n` are changed, and `carry` is carried to band `n`.
  pub record RowChanged (row : List ℤ) (carry : ℤ) (n : ℕ) : Type 0 where
    pub room : length row ≡ 21
    pub carry_is : carry ≡ carried beta (get_or e.coarse channel []) n
    pub size : unsigned_abs carry ≤ 2 ^ 31 * n
    pub done : (b : ℕ) → b < n → get_or row b (pos 0) ≡ energy_by alpha beta bits e channel old b
    pub ahead : (b : ℕ) → n ≤ b → get_or row b (pos 0) ≡ get_or old b (pos 0)
    pub energies : All IsEnergy row

  pub row_begun : length old ≡ 21 → All IsEnergy old → RowChanged old (pos 0) 0
  row_begun room energies = record {
    room = room;
    carry_is = refl;
    size = omega arith;
    done = λ b below. absurd (omega arith);
    ahead = λ b above. refl;
    energies = energies;
  }

  -- one band more
  pub row_more : (row : List ℤ) (carry next value coarse : ℤ) (n count fine : ℕ) (last : Option ℕ)
      → RowChanged row carry n
      → n < 21
      → count ≡ slice_index bits n
      → coarse ≡ get_or (get_or e.coarse channel []) n (pos 0)
      → fine ≡ get_or (get_or e.fine channel []) n 0
      → last ≡ get_or (get_or e.last channel []) n None
      → value ≡ coarse_of alpha (get_or row n (pos 0)) carry coarse +ℤ fine_of count fine +ℤ last_of count last
      → IsEnergy value
      → next ≡ carry +ℤ pos (2 ^ 17 - 4 * beta) *ℤ coarse
      → unsigned_abs next ≤ unsigned_abs carry + 2 ^ 31
      → RowChanged (set row n value) next (n + 1)
  unfolding energy_by
  row_more row carry next value coarse n count fine last r below count_is coarse_is fine_is last_is value_is energy next_is grows =
      let values : List ℤ = get_or e.coarse channel [] in record {
        room = length-set row n value ∙ r.room;
        carry_is =
            next_is
            ∙ ap (λ x. x +ℤ pos (2 ^ 17 - 4 * beta) *ℤ coarse) r.carry_is
            ∙ ap (λ x. carried beta values n +ℤ pos (2 ^ 17 - 4 * beta) *ℤ x) coarse_is
            ∙ ap (carried beta values) (sym (add-one n));
        size = let s = r.size in omega (arith, s, grows);
        done = λ b within.
            elim (cases_eq b n) [
              | inl same ↦
                  subst (λ m. get_or (set row n value) m (pos 0) ≡ energy_by alpha beta bits e channel old m) (sym same)
                  (get_or-set_same row n value (pos 0) (let room = r.room in omega (arith, room, below))
                  ∙ value_is
                  ∙ ap (λ x. coarse_of alpha x carry coarse +ℤ fine_of count fine +ℤ last_of count last) (r.ahead n (omega arith))
                  ∙ ap (λ x. coarse_of alpha (get_or old n (pos 0)) x coarse +ℤ fine_of count fine +ℤ last_of count last) r.carry_is
                  ∙ ap (λ x. coarse_of alpha (get_or old n (pos 0)) (carried beta values n) x +ℤ fine_of count fine +ℤ last_of count last) coarse_is
                  ∙ ap (λ x. coarse_of alpha (get_or old n (pos 0)) (carried beta values n) (get_or values n (pos 0)) +ℤ fine_of x fine +ℤ last_of x last) count_is
                  ∙ ap (λ x. coarse_of alpha (get_or old n (pos 0)) (carried beta values n) (get_or values n (pos 0)) +ℤ fine_of (slice_index bits n) x +ℤ last_of (slice_index bits n) last) fine_is
                  ∙ ap
                  (λ x. coarse_of alpha (get_or old n (pos 0)) (carried beta values n) (get_or values n (pos 0))
                  +ℤ fine_of (slice_index bits n) (get_or (get_or e.fine channel []) n 0) +ℤ last_of (slice_index bits n) x)
                  last_is)
              | inr apart ↦ get_or-set_other row n b value (pos 0) apart ∙ r.done b (omega arith)
            ];
        ahead = λ b above. get_or-set_other row n b value (pos 0) (omega arith) ∙ r.ahead b (omega arith);
        energies = All-set IsEnergy row n value energy r.energies;
      }

less : (a b : ℕ) → nat_lt a b ≡ true → a < b
less a b test = grind (arith, nat_tests)

not_less : (a b : ℕ) → nat_lt a b ≡ false → b ≤ a
not_less a b test = grind (arith, nat_tests)

by_tests : {T : Type 0} (value changed kept : T) (end band : ℕ) (first : Bool)
    → (band < (if first then end else 0) → value ≡ changed)
    → ((if first then end else 0) ≤ band → value ≡ kept)
    → value ≡ (if first && nat_lt band end then changed else kept)
by_tests value changed kept end band true to_changed to_kept =
    in_order (nat_lt band end) (λ test. to_changed (less band end test)) (λ test. to_kept (not_less band end test))
  where
    in_order : (test : Bool) → (test ≡ true → value ≡ changed) → (test ≡ false → value ≡ kept) → value ≡ (if test then changed else kept)
    in_order true first second = first refl
    in_order false first second = second refl
by_tests value changed kept end band false to_changed to_kept = to_kept (omega arith)

module _ (kind : Kind) (intra : Bool) (a : Allocation) (e : Energy) (old : List (List ℤ)) where
  -- a channel's energies, once they are changed
  pub row_is : (row : List ℤ) (channel alpha beta end : ℕ)
      → alpha ≡ alpha_of kind.lm intra
      → beta ≡ beta_of kind.lm intra
      → end ≡ (if nat_lt channel kind.channels then kind.end else 0)
      → length row ≡ 21
      → ((band : ℕ) → band < end → get_or row band (pos 0) ≡ energy_by alpha beta a.fine e channel (get_or old channel []) band)
      → ((band : ℕ) → end ≤ band → get_or row band (pos 0) ≡ get_or (get_or old channel []) band (pos 0))
      → row ≡ map (energy_at kind intra a e old channel) (range_with_len 0 21)
  unfolding energy_at
  row_is row channel alpha beta end alpha_is beta_is end_is room changed kept =
      fill_by_all (energy_at kind intra a e old channel) row 21 (pos 0) room
      (λ band fits.
      by_tests (get_or row band (pos 0)) (energy_by (alpha_of kind.lm intra) (beta_of kind.lm intra) a.fine e channel (get_or old channel []) band)
      (get_or (get_or old channel []) band (pos 0)) kind.end band (nat_lt channel kind.channels)
      (λ below.
      changed band (subst (λ n. band < n) (sym end_is) below)
      ∙ ap (λ x. energy_by x beta a.fine e channel (get_or old channel []) band) alpha_is
      ∙ ap (λ x. energy_by (alpha_of kind.lm intra) x a.fine e channel (get_or old channel []) band) beta_is)
      (λ above. kept band (subst (λ n. n ≤ band) (sym end_is) above)))

  -- both channels
  pub rows_are : (left right : List ℤ)
      → length old ≡ 2
      → left ≡ map (energy_at kind intra a e old 0) (range_with_len 0 21)
      → right ≡ map (energy_at kind intra a e old 1) (range_with_len 0 21)
      → set (set old 0 left) 1 right ≡ energies_of kind intra a e old
  unfolding energies_of
  rows_are left right room left_is right_is =
      fill_by_all (λ channel. map (energy_at kind intra a e old channel) (range_with_len 0 21)) (set (set old 0 left) 1 right) 2 []
      (length-set (set old 0 left) 1 right ∙ length-set old 0 left ∙ room)
      (λ channel below. by_place channel below)
    where
      by_place : (channel : ℕ) → channel < 2 → get_or (set (set old 0 left) 1 right) channel [] ≡ map (energy_at kind intra a e old channel) (range_with_len 0 21)
      by_place zero below =
          get_or-set_other (set old 0 left) 1 0 right [] (omega arith) ∙ get_or-set_same old 0 left [] (omega (arith, room)) ∙ left_is
      by_place (suc zero) below =
          get_or-set_same (set old 0 left) 1 right [] (let n = length-set old 0 left in omega (arith, n, room)) ∙ right_is
      by_place (suc (suc channel)) below = absurd (omega arith)
