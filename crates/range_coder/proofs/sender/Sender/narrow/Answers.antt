use Rattle.std.proofs.Common.{refl}
use Rattle.range_coder.proofs.SentSteps.{narrowed_matches, narrowed_sender_pace}
use Rattle.range_coder.proofs.sender.Sender.narrow.Goals as goal

pub returns-clause-matches : goal.returns-clause-matches
returns-clause-matches c =
    λ room i part cut. narrowed_matches room c.args.self _ i part c.args.lower c.args.upper cut c.requires.within refl refl refl refl

pub returns-clause-pace : goal.returns-clause-pace
returns-clause-pace c = λ part cut. narrowed_sender_pace c.args.self part c.args.lower c.args.upper _ _ cut refl refl
