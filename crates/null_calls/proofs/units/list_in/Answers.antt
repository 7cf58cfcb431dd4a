use Rattle.std.proofs.Common.{◌∙◌, ap, sym}
use Rattle.c_syntax.specs.UnitView.{stmt_at}
use Rattle.c_syntax.specs.WritesUnit.{block_items_of}
use Rattle.c_rules.specs.Functions.{items_of_body}
use Rattle.c_syntax.proofs.NodeRows.{block_is}
use Rattle.null_calls.proofs.TreeLemmas.{if_alone}
use Rattle.null_calls.proofs.units.list_in.Goals as goal

pub returns-in-Block : goal.returns-in-Block
returns-in-Block c = ap items_of_body (ap (stmt_at c.args.body.now.at) c.in-Block.is ∙ block_is c.args.body.now.at c.in-Block.list) ∙ sym (ap block_items_of c.as_slice.ensures.value)

pub returns-in-If : goal.returns-in-If
returns-in-If c = if_alone c.args.body.now c.in-If.test c.in-If.yes c.in-If.no c.in-If.is
