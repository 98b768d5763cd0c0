use Rattle.opus_stream.proofs.Spelled.{streams_read}
use Rattle.opus_stream.proofs.laws.law_streams_are_read.Goals as goal

pub returns-clause-fault : goal.returns-clause-fault
returns-clause-fault c = λ pages head tags packets all carries sound. (streams_read pages head tags packets all carries sound).none

pub returns-clause-pages : goal.returns-clause-pages
returns-clause-pages c = λ pages head tags packets all carries sound. (streams_read pages head tags packets all carries sound).accepted_are

pub returns-clause-packets : goal.returns-clause-packets
returns-clause-packets c = λ pages head tags packets all carries sound. (streams_read pages head tags packets all carries sound).packets_are
