use Rattle.std.proofs.Common.{rules}
use Rattle.c_check.proofs.FunctionTypes.{function_made_of}
use Rattle.c_check.proofs.functions.function_type.Goals as goal

pub returns : goal.returns
returns c = function_made_of c.in_ok-new.field-0 c.in_ok-takes.takes c.args.returns.now c.in_ok-gives.gives c.args.types.now (search rules) c.in_ok-gives.ensures c.in_ok-takes.ensures
