-- `stream::reading::Reading::new` meets its contract.
-- Assumes nothing.
use Rattle.scan.proofs.Shapes.{shape_parts}
use Rattle.stream.proofs.reading.Reading.new.Goals as goal

pub lent-requires : goal.lent-requires
lent-requires c = (shape_parts c.args.state.shape c.requires.0.shape).code
