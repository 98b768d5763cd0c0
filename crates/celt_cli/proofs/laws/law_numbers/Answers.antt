use Rattle.celt_cli.proofs.Digits.{digits_read, only_digits}
use Rattle.celt_cli.proofs.laws.law_numbers.Goals as goal

pub returns-clause-read : goal.returns-clause-read
returns-clause-read c = digits_read

pub returns-clause-only : goal.returns-clause-only
returns-clause-only c = only_digits
