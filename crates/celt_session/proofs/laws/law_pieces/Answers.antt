use Rattle.celt_session.specs.Decoding.{decoding_function, start_of}
use Rattle.celt_session.proofs.Starting.{all_pieces}
use Rattle.celt_session.proofs.laws.law_pieces.Goals as goal

pub returns : goal.returns
returns c = λ settings pieces. all_pieces decoding_function (start_of settings) pieces
