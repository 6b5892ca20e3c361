-- `transcript::put_bad` meets its contract: the fixed bytes, then the offset. Assumes nothing.
use Rattle.transcript.proofs.LineLaws.{bad_wrote}
use Rattle.transcript.proofs.put_bad.Goals as goal

pub returns : goal.returns
returns c =
    bad_wrote c.args.offset c.put_bytes-at.ensures c.put_field.ensures
    c.requires.1
