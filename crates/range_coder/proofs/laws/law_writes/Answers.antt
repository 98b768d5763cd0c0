use Rattle.range_coder.proofs.laws.law_writes.Goals as goal

pub returns-clause-coded : goal.returns-clause-coded
returns-clause-coded c = λ list before now q want a writes coded. writes.longer list coded

pub returns-clause-nearest : goal.returns-clause-nearest
returns-clause-nearest c = λ before now q want a writes. writes.nearest

pub returns-clause-same : goal.returns-clause-same
returns-clause-same c = λ before now q want a writes. writes.same
