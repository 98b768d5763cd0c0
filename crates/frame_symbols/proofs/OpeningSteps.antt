-- The walks of the post-filter and of short blocks.
use Rattle.std.proofs.Common.{◌≡◌, ◌≢◌, ℕ, zero, suc, ◌+◌, ◌-◌, ◌*◌, ◌^◌, ◌%◌, ◌<◌, Bool, true, false, nat_eq, sym, subst, arith}
use Rattle.std.proofs.lemmas.Bool.Decides.{nat_tests}
use Rattle.celt_base.specs.declared.coder.Place.TheVariants.{Filter, Octave, Period, Gain, Tapset, Transient}
use Rattle.celt_base.specs.declared.kind.Kind.{Kind}
use Rattle.celt_base.specs.declared.question.Question.TheVariants.{Table, Uniform, Raw}
use Rattle.celt_base.specs.declared.question.TableId.TheVariants.{Tapset as TapsetTable}
use Rattle.celt_base.specs.WalkCalls.{CoderCalls, ChooserCalls}
use Rattle.celt_base.specs.Walks.{Walked}
use Rattle.celt_base.proofs.WalkSteps.{start, walk, walk_last, end, when_true, when_false, no_walk}
use Rattle.frame_symbols.specs.declared.opening.PostFilter.{PostFilter}
use Rattle.celt_base.specs.WalkScripts.{asks_number, bit_within}
use Rattle.frame_symbols.specs.Askings.{number_within}
use Rattle.frame_symbols.specs.Openings.{on_script, filter_script, transient_script, post_filter_of, off, IsPostFilter}

pub comb_is : (octave place gain tapset : ℕ) → octave < 6 → place < 2 ^ (4 + octave) → gain < 8 → tapset < 3
    → IsPostFilter (record { period = 16 * 2 ^ octave % 4294967296 + place - 1; gain = 3072 * (gain + 1); tapset = tapset })
comb_is zero place gain tapset o p g t = record { least = omega arith; most = omega arith; gain = omega arith; tapset = omega arith }
comb_is (suc zero) place gain tapset o p g t = record { least = omega arith; most = omega arith; gain = omega arith; tapset = omega arith }
comb_is (suc (suc zero)) place gain tapset o p g t = record { least = omega arith; most = omega arith; gain = omega arith; tapset = omega arith }
comb_is (suc (suc (suc zero))) place gain tapset o p g t = record { least = omega arith; most = omega arith; gain = omega arith; tapset = omega arith }
comb_is (suc (suc (suc (suc zero)))) place gain tapset o p g t = record { least = omega arith; most = omega arith; gain = omega arith; tapset = omega arith }
comb_is (suc (suc (suc (suc (suc zero))))) place gain tapset o p g t = record { least = omega arith; most = omega arith; gain = omega arith; tapset = omega arith }
comb_is (suc (suc (suc (suc (suc (suc octave)))))) place gain tapset o p g t = absurd (omega arith)

module _ {C H : Type 0} {coder : CoderCalls C} {chooser : ChooserCalls H} where
  pub comb_walked : {c d e f i : C} {h k m n j : H} (budget octave place gain tapset : ℕ) (post_filter : PostFilter)
      → post_filter ≡ post_filter_of octave place gain tapset
      → Walked coder chooser (asks_number Octave (Uniform 6)) octave c h d k
      → Walked coder chooser (asks_number (Period octave) (Raw (4 + octave))) place d k e m
      → Walked coder chooser (asks_number Gain (Raw 3)) gain e m f n
      → Walked coder chooser (number_within Tapset (Table TapsetTable) 2 budget 0) tapset f n i j
      → Walked coder chooser (on_script budget) post_filter c h i j
  unfolding on_script
  comb_walked {c = c} {i = i} {h = h} {j = j} budget octave place gain tapset post_filter e v w x y =
      subst (λ r. Walked coder chooser (on_script budget) r c h i j) (sym e)
      (end (walk _ (walk _ (walk _ (walk _ start v) w) x) y))

  pub filter_on : {c d e : C} {h k m : H} (budget : ℕ) (post_filter : PostFilter) (on : Bool) → on ≡ true
      → Walked coder chooser (bit_within Filter 1 16 budget) on c h d k
      → Walked coder chooser (on_script budget) post_filter d k e m
      → Walked coder chooser (filter_script budget) post_filter c h e m
  unfolding filter_script
  filter_on budget post_filter on is v w = walk_last (walk _ start v) (when_true on _ _ is w)

  pub filter_off : {c d : C} {h k : H} (budget : ℕ) (post_filter : PostFilter) (on : Bool) → post_filter ≡ off → on ≡ false
      → Walked coder chooser (bit_within Filter 1 16 budget) on c h d k
      → Walked coder chooser (filter_script budget) post_filter c h d k
  unfolding filter_script
  filter_off {c} {d} {h} {k} budget post_filter on none is v =
      subst (λ f. Walked coder chooser (filter_script budget) f c h d k) (sym none) (walk_last (walk _ start v) (when_false on _ _ is no_walk))

  pub no_transient : {c : C} {h : H} (kind : Kind) (budget : ℕ) → kind.lm ≡ 0 → Walked coder chooser (transient_script kind budget) false c h c h
  unfolding transient_script
  no_transient kind budget e = let t : nat_eq kind.lm 0 ≡ true = grind (arith, nat_tests) in when_true (nat_eq kind.lm 0) _ _ t no_walk

  pub transient_asked : {c d : C} {h k : H} {value : Bool} (kind : Kind) (budget : ℕ) → kind.lm ≢ 0
      → Walked coder chooser (bit_within Transient 3 3 budget) value c h d k
      → Walked coder chooser (transient_script kind budget) value c h d k
  unfolding transient_script
  transient_asked kind budget ne w = let t : nat_eq kind.lm 0 ≡ false = grind (arith, nat_tests) in when_false (nat_eq kind.lm 0) _ _ t w
