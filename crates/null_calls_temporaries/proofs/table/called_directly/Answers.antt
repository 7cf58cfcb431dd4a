use Rattle.std.proofs.Common.{◌∙◌, refl}
use Rattle.c_tree.specs.View.{ctype_of, program_of, function_of}
use Rattle.flow_graph.proofs.ReachingLemmas.{map_get}
use Rattle.flow_graph.proofs.TypesLemmas.{defined_type}
use Rattle.null_calls_temporaries.proofs.SiteLemmas.{called_by}
use Rattle.null_calls_temporaries.proofs.table.called_directly.Goals as goal

pub returns : goal.returns
returns c lt =
    let p = program_of c.args.program.now in
    let t = ctype_of c.function.result.now.ctype in
    c.called_as.ensures ∙ called_by p c.args.f t (defined_type p c.args.f (function_of c.function.result.now) t (map_get function_of c.args.program.now.functions c.args.f c.function.result.now c.function.ensures) refl)
