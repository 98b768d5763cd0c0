use Rattle.std.proofs.Common.{length, ap, arith, length-append}
use Rattle.opus_stream.proofs.Reading.{first}
use Rattle.opus_stream.proofs.Telling.{counted, packets_few}
use Rattle.opus_stream.proofs.laws.law_counts.Goals as goal

pub returns-clause-pages : goal.returns-clause-pages
returns-clause-pages c = λ bytes. (counted bytes).pages

pub returns-clause-packets : goal.returns-clause-packets
returns-clause-packets c = λ bytes. (counted bytes).packets

pub returns-clause-samples : goal.returns-clause-samples
returns-clause-samples c = λ bytes. (counted bytes).samples

pub returns-clause-on_page : goal.returns-clause-on_page
returns-clause-on_page c = λ bytes given small. packets_few bytes given small

pub returns-clause-given : goal.returns-clause-given
returns-clause-given c = λ reader bytes given s.
    let f = first reader bytes s.front s.holds in
    let all = ap length f.all in
    let sum_is = length-append s.front f.rest in
    let count = s.count in
    omega arith
