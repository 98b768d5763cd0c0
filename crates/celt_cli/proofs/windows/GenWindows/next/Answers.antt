use Rattle.std.proofs.Common.{◌≡◌, ◌+◌, ◌*◌, arith, subst, ◌∙◌}
use Rattle.celt_cli.specs.GenPairs.{GavePairs}
use Rattle.celt_cli.proofs.Windowing.{whole_window, next_held}
use Rattle.celt_cli.proofs.windows.GenWindows.next.Goals as goal

pub returns-clause-window : goal.returns-clause-window
returns-clause-window c = λ settings count h.
    let p = h.pairs in
    whole_window settings count c.put_pairs.new.items (omega (arith, c.put_pairs.auto.items, c.slide.auto.items))
    (record {
      lead = λ place low. c.put_pairs.ensures.lead place low ∙ c.slide.ensures place low ∙ h.held place low;
      left = c.put_pairs.ensures.left settings (960 * count) p;
      right = c.put_pairs.ensures.right settings (960 * count) p;
    })

pub returns-clause-gave : goal.returns-clause-gave
returns-clause-gave c = λ settings count h.
    let p = h.pairs in
    let e : 960 * count + 960 ≡ 960 * (count + 1) = omega arith in
    record {
      pairs = subst (λ n. GavePairs settings n c.put_pairs.new.pairs) e (c.put_pairs.ensures.gave settings (960 * count) p);
      held = next_held settings count c.put_pairs.new.items
          (record {
            lead = λ place low. c.put_pairs.ensures.lead place low ∙ c.slide.ensures place low ∙ h.held place low;
            left = c.put_pairs.ensures.left settings (960 * count) p;
            right = c.put_pairs.ensures.right settings (960 * count) p;
          });
    }
