use Rattle.null_calls_laws.proofs.Items.{other_items_go as every_one_goes}
use Rattle.null_calls_laws.proofs.item_laws.other_items_go.Goals as goal

pub returns : goal.returns
returns c = every_one_goes
