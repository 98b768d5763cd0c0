use Rattle.std.proofs.Common.{◌≡◌, ℕ, ◌+◌, ◌-◌, ◌<◌, List, [], ◌++◌, ◌∷◌, length, replicate, ap, sym, ◌∙◌, arith, append-nil, append_assoc, length-append}
use Rattle.std.specs.Prelude.{if◌then◌else◌}
use Rattle.std.specs.Result.{is_ok}
use Rattle.std.proofs.lemmas.List.{length-replicate, replicate-append-replicate}
use Rattle.celt_session.proofs.batching.fill_up.Goals as goal

filled_len : (old : List ℕ) (count : ℕ) → length (old ++ replicate count 0) ≡ length old + count
filled_len old count = let z = length-replicate {A = ℕ} count 0 in length-append old (replicate count 0) ∙ ap (λ n. length old + n) z

filled_more : (old : List ℕ) (count : ℕ) → (old ++ replicate count 0) ++ 0 ∷ [] ≡ old ++ replicate (count + 1) 0
filled_more old count = append_assoc old (replicate count 0) (0 ∷ []) ∙ ap (λ l. old ++ l) (replicate-append-replicate count 1 0)

pub loop-held-init : goal.loop-held-init
loop-held-init c = record { count = 0; few = omega arith; held = sym (append-nil c.args.held.now.items); capacity = omega arith }

pub loop-held-preserved : goal.loop-held-preserved
loop-held-preserved c =
    let i = c.loop-held.invariant in
    let e = ap length i.held ∙ filled_len c.args.held.now.items i.count in
    let len = c.len.ensures ∙ c.loop-held.held.ok.0 in
    let less : c.len.result < c.args.len = c.loop-held-test.true in
    record {
      count = i.count + 1;
      few = omega arith;
      held = c.push.ensures.items ∙ ap (λ r. if is_ok r then c.loop-held.held.items ++ 0 ∷ [] else c.loop-held.held.items) c.unwrap.ensures ∙ ap (λ l. l ++ 0 ∷ []) i.held ∙ filled_more c.args.held.now.items i.count;
      capacity = let x = c.push.ensures.capacity in let y = i.capacity in omega (arith, x, y);
    }

pub returns-clause-held : goal.returns-clause-held
returns-clause-held c =
    let i = c.loop-held.invariant in
    let e = ap length i.held ∙ filled_len c.args.held.now.items i.count in
    let past = c.loop-held-test.false in
    let len = c.len.ensures ∙ c.loop-held.held.ok.0 in
    let few = i.few in
    let all : i.count ≡ c.args.len - length c.args.held.now.items = omega arith in
    i.held ∙ ap (λ n. c.args.held.now.items ++ replicate n 0) all
