-- Bytes that are written in several calls.
use Rattle.std.proofs.Common.{◌≡◌, ℕ, List, [], ◌++◌, take, drop, refl, sym, ◌∙◌, ap, subst, append_assoc, append-nil, Option}
use Rattle.std.specs.Io.KnownBytes.{Appends, Keeps}
use Rattle.std.proofs.KnownBytes.{Appends-nil, Appends-trans, Appends-kept}
use Rattle.std.proofs.lemmas.List.{take-append-drop}
use Rattle.celt_base.specs.Outside.{AppendsFront}
use Rattle.celt_base.proofs.Causes.{all_front}

-- a front of the bytes was written, and the rest is left
pub record Wrote (old now : Option (List ℕ)) (bytes rest : List ℕ) : Type 0 where
  pub done : List ℕ
  pub split : bytes ≡ done ++ rest
  pub added : Appends old now done

pub wrote_none : (held : Option (List ℕ)) (bytes : List ℕ) → Wrote held held bytes bytes
wrote_none held bytes = record { done = []; split = refl; added = Appends-nil held }

pub wrote_more : (old now after : Option (List ℕ)) (bytes rest : List ℕ) (count : ℕ) → Wrote old now bytes rest → Appends now after (take count rest) → Wrote old after bytes (drop count rest)
wrote_more old now after bytes rest count w a =
    record {
      done = w.done ++ take count rest;
      split = w.split ∙ ap (λ l. w.done ++ l) (sym (take-append-drop count rest)) ∙ sym (append_assoc w.done (take count rest) (drop count rest));
      added = Appends-trans old now after w.done (take count rest) w.added a;
    }

pub wrote_all : (old now : Option (List ℕ)) (bytes rest : List ℕ) → Wrote old now bytes rest → rest ≡ [] → Appends old now bytes
wrote_all old now bytes rest w none =
    subst (Appends old now) (sym (w.split ∙ ap (λ l. w.done ++ l) none ∙ append-nil w.done)) w.added

pub wrote_front : (old now after : Option (List ℕ)) (bytes rest : List ℕ) → Wrote old now bytes rest → Keeps now after → AppendsFront old after bytes
wrote_front old now after bytes rest w kept =
    subst (AppendsFront old after) (sym w.split) (all_front old after w.done rest (Appends-kept old now after w.done w.added kept))
