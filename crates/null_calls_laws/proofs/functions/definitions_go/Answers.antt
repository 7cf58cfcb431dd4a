use Rattle.null_calls_laws.proofs.FunctionItems.{function_item_goes}
use Rattle.null_calls_laws.proofs.functions.definitions_go.Goals as goal

pub returns : goal.returns
returns c = function_item_goes
