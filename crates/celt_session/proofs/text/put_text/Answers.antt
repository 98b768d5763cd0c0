use Rattle.celt_session.proofs.Putting.{put_spliced}
use Rattle.celt_session.proofs.text.put_text.Goals as goal

pub returns : goal.returns
returns c = put_spliced c.args.out.now c.put.new.out c.args.at c.put.result c.args.text.now c.requires c.put.ensures.next c.put.ensures.written
