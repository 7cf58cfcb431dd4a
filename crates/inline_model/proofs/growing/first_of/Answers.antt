use Rattle.std.proofs.Common.{sym}
use Rattle.inline_model.proofs.Basics.{entry_is}
use Rattle.inline_model.proofs.growing.first_of.Goals as goal

pub returns : goal.returns
returns c = sym (entry_is c.args.model.now.functions c.args.function c.function_of.result.now c.function_of.ensures)
