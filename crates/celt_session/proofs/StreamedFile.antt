-- A file that is read up to a limit, and what was written of it.
use Rattle.std.proofs.Common.{◌≡◌, ℕ, ◌+◌, ◌-◌, ◌≤◌, ◌<◌, Bool, true, false, List, [], ◌∷◌, ◌++◌, length, take, drop, Option, Some, None, refl, sym, ◌∙◌, ap, subst, arith, append_assoc, append-nil, length-append}
use Rattle.std.specs.Prelude.{if◌then◌else◌, nat_lt, IfSome}
use Rattle.std.specs.Io.KnownBytes.{Appends, Consumes}
use Rattle.std.proofs.KnownBytes.{Appends-trans}
use Rattle.std.proofs.lemmas.Bool.{le-ltb, lt-ltb}
use Rattle.std.proofs.lemmas.List.{take_all}
use Rattle.celt_base.specs.declared.status.Fault.{Fault}
use Rattle.celt_base.specs.declared.status.Status.TheVariants as statuses
use Rattle.celt_base.specs.Outside.{AppendsFront}
use Rattle.celt_base.proofs.Causes.{all_front, then_front, longer_front}
use Rattle.wav_edge.specs.Reading.{outcome}
use Rattle.wav_edge.specs.Reading.Outcome.{Faulty}
use Rattle.wav_edge.proofs.LawLemmas.{is_decided, outcome_stays}
use Rattle.celt_session.specs.declared.settings.Settings.{Settings}
use Rattle.celt_session.specs.declared.ended.Ended.{Ended}
use Rattle.celt_session.specs.declared.ended.Ended.TheVariants.{Done, Fault as CutShort, WriteFault as NotWritten}
use Rattle.celt_session.specs.Outcomes.{Meaning, is_early_end, ended_status, cut_status, cut_status_by, status_by, wanted, Answers, WritesFront}
use Rattle.celt_session.specs.Encodings.{AreSettings, fault_of, full, running, encoding_by}
use Rattle.celt_session.specs.FrameWorks.{FrameWorks}
use Rattle.celt_session.specs.FrameSessions.{given, given_more, full_more, running_more, lasting, fault_now, Ends, status_of}
use Rattle.celt_session.proofs.FeedingSamples.{fault_is, faulty_by}
use Rattle.celt_session.proofs.Finishing.{known, front_taken, first_is, cut_len, over_len, within_len}
use Rattle.celt_session.proofs.GivenLaws.{full_joins, running_joins, full_front, given_joins, full_faulty}

-- ---- the status

lasting_early : (fault found : Fault) → lasting (Some found) ≡ Some fault → (found ≡ fault) × (is_early_end fault.name ≡ false)
lasting_early fault found h = by (is_early_end found.name) refl h where
  by : (b : Bool) → is_early_end found.name ≡ b → (if b then None else Some found) ≡ Some fault → (found ≡ fault) × (is_early_end fault.name ≡ false)
  by true e h = let no : ⊥ = cc in absurd no
  by false e h = let same : found ≡ fault = cc in (same, subst (λ (f : Fault). is_early_end f.name ≡ false) same e)

not_early : (o : Option Fault) (fault : Fault) → lasting o ≡ Some fault → is_early_end fault.name ≡ false
not_early None fault h = let no : ⊥ = cc in absurd no
not_early (Some found) fault h = (lasting_early fault found h).1

refused_by : (b : Bool) (o : Option Fault) (fault : Fault) → o ≡ Some fault → is_early_end fault.name ≡ false → status_by is_early_end b o ≡ statuses.Refused fault
refused_by false o fault e n = ap ended_status e
refused_by true o fault e n = ap (cut_status is_early_end) e ∙ ap (λ t. cut_status_by t fault) n

long_by : (o : Option Fault) → lasting o ≡ None → cut_status is_early_end o ≡ statuses.InputTooLong
long_by None h = refl
long_by (Some fault) h = by (is_early_end fault.name) h where
  by : (b : Bool) → (if b then None else Some fault) ≡ None → cut_status_by b fault ≡ statuses.InputTooLong
  by true e = refl
  by false e = cc

nil_front : (xs ys : List ℕ) → xs ++ ys ≡ [] → xs ≡ []
nil_front [] ys e = refl
nil_front (x ∷ xs) ys e = let no : ⊥ = cc in absurd no

module _ {W : Type 0} (w : FrameWorks W) (settings : Settings) (ok : AreSettings settings) where
  abbrev m : Meaning
  m = encoding_by w.function settings

  wanted_end : (limit : ℕ) (xs : List ℕ) → length xs ≤ limit → wanted m limit xs ≡ ended_status (fault_of xs)
  unfolding wanted
  wanted_end limit xs few =
      ap (λ b. status_by is_early_end b (fault_of (take limit xs))) (le-ltb limit (length xs) few) ∙ ap (λ l. ended_status (fault_of l)) (take_all limit xs few)

  -- a fault stays
  fault_stays : (now more : List ℕ) (fault : Fault) → fault_now now ≡ Some fault → (fault_of (now ++ more) ≡ Some fault) × (full w.function settings (now ++ more) ≡ [])
  fault_stays now more fault h =
      let e = faulty_by now fault h in
      let still : outcome (now ++ more) ≡ Faulty fault = outcome_stays now more (ap is_decided e) ∙ e in
      (fault_is (now ++ more) (Faulty fault) still, full_faulty w settings ok (now ++ more) fault still)

  wanted_fault : (limit : ℕ) (now zs : List ℕ) (fault : Fault) → length now ≤ limit → fault_now now ≡ Some fault → wanted m limit (now ++ zs) ≡ statuses.Refused fault
  unfolding wanted
  wanted_fault limit now zs fault few h =
      refused_by (nat_lt limit (length (now ++ zs))) (fault_of (take limit (now ++ zs))) fault (ap fault_of (front_taken limit now zs few) ∙ (fault_stays now (take (limit - length now) zs) fault h).0)
      (not_early (fault_of now) fault h)

  wanted_long : (limit : ℕ) (now zs : List ℕ) → length now ≡ limit → 0 < length zs → fault_now now ≡ None → wanted m limit (now ++ zs) ≡ statuses.InputTooLong
  unfolding wanted
  wanted_long limit now zs e more h =
      let len = length-append now zs in
      ap (λ b. status_by is_early_end b (fault_of (take limit (now ++ zs)))) (lt-ltb limit (length (now ++ zs)) (omega arith))
      ∙ ap (λ l. cut_status is_early_end (fault_of l)) (first_is limit now zs e) ∙ long_by (fault_of now) h

  -- ---- what was written

  -- what was given so far is a front of the whole
  pub given_front : (taken zs : List ℕ) (old new : Option (List ℕ)) → Appends old new (given w.function settings taken) → AppendsFront old new (full w.function settings (taken ++ zs))
  given_front taken zs old new a =
      let rest = given_more w.function settings taken (taken ++ zs) in
      let all = full_more w.function settings (taken ++ zs) in
      subst (AppendsFront old new) (sym (full_joins w settings ok (taken ++ zs) ∙ ap (λ l. l ++ all) (given_joins w settings ok taken zs) ∙ append_assoc (given w.function settings taken) rest all))
      (all_front old new (given w.function settings taken) (rest ++ all) a)

  pub given_twice : (taken piece : List ℕ) (old mid new : Option (List ℕ)) → Appends old mid (given w.function settings taken) → Appends mid new (given_more w.function settings taken (taken ++ piece))
      → Appends old new (given w.function settings (taken ++ piece))
  given_twice taken piece old mid new a b =
      subst (Appends old new) (sym (given_joins w settings ok taken piece)) (Appends-trans old mid new (given w.function settings taken) (given_more w.function settings taken (taken ++ piece)) a b)

  given_failed : (taken piece zs : List ℕ) (old mid new : Option (List ℕ)) → Appends old mid (given w.function settings taken) → AppendsFront mid new (given_more w.function settings taken (taken ++ piece))
      → AppendsFront old new (full w.function settings ((taken ++ piece) ++ zs))
  given_failed taken piece zs old mid new a b =
      let now = taken ++ piece in
      let rest = given_more w.function settings now (now ++ zs) in
      let all = full_more w.function settings (now ++ zs) in
      subst (AppendsFront old new) (sym (full_joins w settings ok (now ++ zs) ∙ ap (λ l. l ++ all) (given_joins w settings ok now zs) ∙ append_assoc (given w.function settings now) rest all))
      (longer_front old new (given w.function settings now) (rest ++ all)
      (subst (AppendsFront old new) (sym (given_joins w settings ok taken piece)) (then_front old mid new (given w.function settings taken) (given_more w.function settings taken now) a b)))

  given_fault : (now zs : List ℕ) (fault : Fault) (old new : Option (List ℕ)) → fault_now now ≡ Some fault → Appends old new (given w.function settings now) → Appends old new (full w.function settings (now ++ zs))
  given_fault now zs fault old new h a =
      let none : given w.function settings now ++ full_more w.function settings now ≡ [] = sym (full_joins w settings ok now) ∙ ap (full w.function settings) (sym (append-nil now)) ∙ (fault_stays now [] fault h).1 in
      let empty : given w.function settings now ≡ [] = nil_front (given w.function settings now) (full_more w.function settings now) none in
      subst (Appends old new) (empty ∙ sym (fault_stays now zs fault h).1) a

  given_ends : (taken : List ℕ) (old mid new : Option (List ℕ)) → Appends old mid (given w.function settings taken) → Appends mid new (full_more w.function settings taken) → Appends old new (full w.function settings taken)
  given_ends taken old mid new a b = subst (Appends old new) (sym (full_joins w settings ok taken)) (Appends-trans old mid new (given w.function settings taken) (full_more w.function settings taken) a b)

  -- the end of the input
  pub ended_answers : (limit : ℕ) (xs : List ℕ) (old new : Option (List ℕ)) (ended : Ended) → length xs ≤ limit → Ends w.function settings xs old new ended → Answers (wanted m limit xs) (status_of ended)
  ended_answers limit xs old new Done few e = wanted_end limit xs few ∙ ap ended_status e.0
  ended_answers limit xs old new (CutShort fault) few e = wanted_end limit xs few ∙ ap ended_status e.0
  ended_answers limit xs old new NotWritten few e = tt

  pub ended_writes : (limit : ℕ) (xs : List ℕ) (old mid new : Option (List ℕ)) (ended : Ended) → Appends old mid (given w.function settings xs) → Ends w.function settings xs mid new ended → WritesFront m limit xs old new (status_of ended)
  ended_writes limit xs old mid new Done a e = given_ends xs old mid new a e.1
  ended_writes limit xs old mid new (CutShort fault) a e = given_ends xs old mid new a e.1
  ended_writes limit xs old mid new NotWritten a e = subst (AppendsFront old new) (sym (full_joins w settings ok xs)) (then_front old mid new (given w.function settings xs) (full_more w.function settings xs) a e)

  -- a read failed
  pub known_front : (left mid : Option (List ℕ)) (taken : List ℕ) (old new : Option (List ℕ)) → Consumes left mid taken → Appends old new (given w.function settings taken) → IfSome left (λ xs. AppendsFront old new (full w.function settings xs))
  known_front None mid taken old new c a = tt
  known_front (Some xs) None taken old new c a = absurd c
  known_front (Some xs) (Some ys) taken old new c a = subst (λ l. AppendsFront old new (full w.function settings l)) (sym c) (given_front taken ys old new a)

  -- ---- piece by piece; `piece` is what of the bytes that were read is within the limit
  module _ (limit left : ℕ) (old mid new : Option (List ℕ)) (taken read piece : List ℕ) (before between after : Option (List ℕ)) (first : Consumes old mid taken) (second : Consumes mid new read) (piece_is : piece ≡ take left read)
      (all : length taken + left ≡ limit) where
    pub fault_answers : (fault : Fault) → fault_now (taken ++ piece) ≡ Some fault → IfSome old (λ xs. wanted m limit xs ≡ statuses.Refused fault)
    fault_answers fault h =
        known old mid new taken read left (λ xs. wanted m limit xs ≡ statuses.Refused fault) first second
        (λ zs. wanted_fault limit (taken ++ take left read) (drop left read ++ zs) fault (within_len taken read left limit all) (subst (λ l. fault_now (taken ++ l) ≡ Some fault) piece_is h))

    pub fault_writes : (fault : Fault) → fault_now (taken ++ piece) ≡ Some fault → Appends before between (given w.function settings taken) → Appends between after (given_more w.function settings taken (taken ++ piece))
        → IfSome old (λ xs. Appends before after (full w.function settings xs))
    fault_writes fault h a b =
        known old mid new taken read left (λ xs. Appends before after (full w.function settings xs)) first second
        (λ zs. given_fault (taken ++ take left read) (drop left read ++ zs) fault before after (subst (λ l. fault_now (taken ++ l) ≡ Some fault) piece_is h)
        (subst (λ l. Appends before after (given w.function settings (taken ++ l))) piece_is (given_twice taken piece before between after a b)))

    pub failed_writes : Appends before between (given w.function settings taken) → AppendsFront between after (given_more w.function settings taken (taken ++ piece)) → IfSome old (λ xs. AppendsFront before after (full w.function settings xs))
    failed_writes a b =
        known old mid new taken read left (λ xs. AppendsFront before after (full w.function settings xs)) first second
        (λ zs. given_failed taken (take left read) (drop left read ++ zs) before between after a (subst (λ l. AppendsFront between after (given_more w.function settings taken (taken ++ l))) piece_is b))

    pub long_answers : left < length read → fault_now (taken ++ piece) ≡ None → IfSome old (λ xs. wanted m limit xs ≡ statuses.InputTooLong)
    long_answers more h =
        known old mid new taken read left (λ xs. wanted m limit xs ≡ statuses.InputTooLong) first second
        (λ zs. wanted_long limit (taken ++ take left read) (drop left read ++ zs) (cut_len taken read left limit all more) (over_len read zs left more) (subst (λ l. fault_now (taken ++ l) ≡ None) piece_is h))

    pub long_writes : (last : Option (List ℕ)) → left < length read → Appends before between (given w.function settings taken) → Appends between after (given_more w.function settings taken (taken ++ piece))
        → Appends after last (running_more w.function settings (taken ++ piece)) → IfSome old (λ xs. Appends before last (running w.function settings (take limit xs)))
    long_writes last more a b c =
        let now = taken ++ piece in
        let all_given = given_twice taken piece before between after a b in
        let whole : Appends before last (running w.function settings now) = subst (Appends before last) (sym (running_joins w settings ok now)) (Appends-trans before after last (given w.function settings now) (running_more w.function settings now) all_given c) in
        known old mid new taken read left (λ xs. Appends before last (running w.function settings (take limit xs))) first second
        (λ zs. subst (λ l. Appends before last (running w.function settings l)) (sym (first_is limit (taken ++ take left read) (drop left read ++ zs) (cut_len taken read left limit all more)))
        (subst (λ l. Appends before last (running w.function settings (taken ++ l))) piece_is whole))

    pub long_fails : (last : Option (List ℕ)) → Appends before between (given w.function settings taken) → Appends between after (given_more w.function settings taken (taken ++ piece))
        → AppendsFront after last (running_more w.function settings (taken ++ piece)) → IfSome old (λ xs. AppendsFront before last (full w.function settings xs))
    long_fails last a b c =
        let now = taken ++ piece in
        let all_given = given_twice taken piece before between after a b in
        let front : AppendsFront before last (running w.function settings now) = subst (AppendsFront before last) (sym (running_joins w settings ok now)) (then_front before after last (given w.function settings now) (running_more w.function settings now) all_given c) in
        known old mid new taken read left (λ xs. AppendsFront before last (full w.function settings xs)) first second
        (λ zs. let r = full_front w settings ok (taken ++ take left read) (drop left read ++ zs) in
        subst (AppendsFront before last) (sym r.1) (longer_front before last (running w.function settings (taken ++ take left read)) r.0 (subst (λ l. AppendsFront before last (running w.function settings (taken ++ l))) piece_is front)))
