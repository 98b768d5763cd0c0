use Rattle.std.proofs.Common.{◌*◌, refl}
use Rattle.mdct_fixed.proofs.InverseLemmas.{kernel_even, kernel_odd}
use Rattle.mdct_fixed.proofs.laws.law_kernel.Goals as goal

pub returns-clause-even : goal.returns-clause-even
returns-clause-even c = λ h k s l. kernel_even (2 * h) k s

pub returns-clause-odd : goal.returns-clause-odd
returns-clause-odd c = λ h k s l. kernel_odd (2 * h) h k s refl l
