use Rattle.tables.proofs.Laws.{put_header}
use Rattle.tables.proofs.put_header.Goals as goal

pub returns : goal.returns
returns c = put_header _ _ _ c.requires
