use Rattle.range_coder.proofs.laws.law_reads.Goals as goal

pub returns : goal.returns
returns c = λ frame list before now q a reads stands. (reads.longer frame list stands, reads.answers frame list stands)
