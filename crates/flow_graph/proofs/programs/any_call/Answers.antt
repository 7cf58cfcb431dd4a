use Rattle.std.proofs.Common.{◌∙◌, ap, map}
use Rattle.sys_table.specs.declared.kinds.ArgKind.{ArgKind}
use Rattle.c_meaning.specs.ShapeOf.{system_call}
use Rattle.flow_graph.proofs.ProgramLemmas.{nothing, any_pattern}
use Rattle.flow_graph.proofs.programs.any_call.Goals as goal

pub returns : goal.returns
returns c =
    c.system_call.ensures
    ∙ ap (system_call c.args.name) (c.any.ensures ∙ any_pattern c.argument_kinds.result.now)
    ∙ ap (λ ks. system_call c.args.name (map (λ (kind : ArgKind). nothing) ks)) c.argument_kinds.ensures.kinds
