use Rattle.mdct_fixed.proofs.fourier.+join_up_to.Given as goal

abbrev pub decreases-join_up_to : goal.decreases-join_up_to
decreases-join_up_to l = l.len
