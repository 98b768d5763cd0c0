use Rattle.std.proofs.Common.{◌∙◌, sym, ap, length}
use Rattle.celt_base.specs.Questions.{interval_of}
use Rattle.range_coder.proofs.CodeLaws.{code_is_read, only_list}
use Rattle.range_coder.proofs.laws.law_written_is_read.Goals as goal

pub returns-clause-read : goal.returns-clause-read
returns-clause-read c = λ w list room range coded whole. code_is_read list (length room) room coded.answers whole.code

pub returns-clause-only : goal.returns-clause-only
returns-clause-only c =
    λ w list other room range coded whole same reads.
    let is = only_list list other (length room) room coded.answers whole.code same reads in
    (is, whole.range_is ∙ ap (λ l. (interval_of l).width) (sym is))

pub returns-clause-one : goal.returns-clause-one
returns-clause-one c =
    λ w first second room range one two a b same.
    only_list second first (length room) room two.answers b.code same (code_is_read first (length room) room one.answers a.code)
