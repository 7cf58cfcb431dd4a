use Rattle.std.proofs.Common.{arith}
use Rattle.flow_model.proofs.ModelLemmas.{functions_few}
use Rattle.flow_model.proofs.model.Model.indexed.Goals as goal

pub overflow_cast-len : goal.overflow_cast-len
overflow_cast-len c =
    let few = functions_few c.args.functions.items c.args.nodes c.requires.entries in
    let right = c.requires.entries in
    omega (arith, c.args.functions.ok.0)
