use Rattle.std.proofs.Common.{◌∙◌, ap, sym}
use Rattle.celt_base.specs.Questions.{interval_of}
use Rattle.range_coder.proofs.Finishing.{same_pace}
use Rattle.range_coder.proofs.Showing.{pace_with}
use Rattle.range_coder.proofs.laws.law_shared_pace.Goals as goal

pub returns-clause-pace : goal.returns-clause-pace
returns-clause-pace c = λ w list coded. same_pace w.room.now w.sender (interval_of list) coded.matches

pub returns-clause-two : goal.returns-clause-two
returns-clause-two c = λ frame w r list coded stands. same_pace w.room.now w.sender (interval_of list) coded.matches
    ∙ sym (ap (λ n. pace_with n r.window.bits) stands.shows.width ∙ ap (pace_with (interval_of list).width) stands.shows.bits)
