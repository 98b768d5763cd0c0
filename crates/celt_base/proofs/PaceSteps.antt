-- The pace of an interval, and the interval and the pace of a longer list.
use Rattle.std.proofs.Common.{◌≡◌, ◌+◌, ◌*◌, ◌^◌, Bool, true, false, nat_lt, if◌then◌else◌, List, [], ◌∷◌, ◌++◌, refl, ◌∙◌, ap, arith}
use Rattle.std.specs.List.{fold}
use Rattle.std.proofs.lemmas.List.Sums.{fold-append}
use Rattle.celt_base.specs.Intervals.{Part, Symbol, InPart, InBits, Interval, whole, narrowed, grown, after}
use Rattle.celt_base.specs.Questions.{Answered, steps, after_answer, interval_of}
use Rattle.celt_base.specs.Paces.{Pace, pace_of, narrowed_pace, grown_pace, after_pace, paced}
use Rattle.celt_base.proofs.Narrowing.{wider}

narrowed_agrees : (part : Part) (i : Interval) → pace_of (narrowed part i) ≡ narrowed_pace part (pace_of i)
unfolding narrowed narrowed_pace
narrowed_agrees part i = refl

abbrev pub faster : Pace → Pace
faster pace = record { width = pace.width * 256; bits = pace.bits + 8 }

grown_by : (b : Bool) (i : Interval) → pace_of (if b then i else wider i) ≡ (if b then pace_of i else faster (pace_of i))
grown_by true i = refl
grown_by false i = let e : 33 + (i.shift + 8) + i.raw ≡ 33 + i.shift + i.raw + 8 = omega arith in
    ap (λ n. let pace : Pace = record { width = i.width * 256; bits = n } in pace) e

grown_agrees : (i : Interval) → pace_of (grown i) ≡ grown_pace (pace_of i)
unfolding grown grown_pace
grown_agrees i = grown_by (nat_lt (2 ^ 23) i.width) i

pub after_agrees : (s : Symbol) (i : Interval) → pace_of (after i s) ≡ after_pace (pace_of i) s
unfolding after after_pace
after_agrees (InPart part) i =
    grown_agrees (grown (grown (narrowed part i)))
    ∙ ap grown_pace (grown_agrees (grown (narrowed part i)) ∙ ap grown_pace (grown_agrees (narrowed part i) ∙ ap grown_pace (narrowed_agrees part i)))
after_agrees (InBits count number) i =
    let e : 33 + i.shift + (i.raw + count) ≡ 33 + i.shift + i.raw + count = omega arith in
    ap (λ n. let pace : Pace = record { width = i.width; bits = n } in pace) e

all_agree : (symbols : List Symbol) (i : Interval) → pace_of (fold after i symbols) ≡ fold after_pace (pace_of i) symbols
all_agree [] i = refl
all_agree (s ∷ symbols) i = all_agree symbols (after i s) ∙ ap (λ pace. fold after_pace pace symbols) (after_agrees s i)

-- the pace steps as the interval does
pub answer_agrees : (a : Answered) (i : Interval) → pace_of (after_answer i a) ≡ paced a.question a.answer (pace_of i)
unfolding after_answer paced
answer_agrees a i = all_agree (steps a.question a.answer) i

-- one answer more
pub interval_longer : (list : List Answered) (a : Answered) → interval_of (list ++ a ∷ []) ≡ after_answer (interval_of list) a
unfolding interval_of
interval_longer list a = fold-append after_answer whole list (a ∷ [])
