use Rattle.std.proofs.Common.{◌∙◌}
use Rattle.c_check_units.proofs.LaidLemmas.{laid_within, same_function}
use Rattle.c_rules.specs.Limits.{most_local_cells}
use Rattle.c_rules.specs.Scopes.{layout_of}
use Rattle.c_check_values.specs.View.{env_of}
use Rattle.c_tree.specs.View.{ctype_of, ctypes_of}
use Rattle.c_check_units.proofs.bodies.function_with.Goals as goal

pub returns : goal.returns
returns c =
    laid_within (layout_of (env_of c.args.env.now)) c.args.variables.items c.deref.result.now c.in-Some.cells c.most_local_cells.result (most_local_cells c.args.env.now.mode) c.args.x.now.at _ _ c.in-Some.ensures.1 c.deref.ensures.value c.if-cells-most_local_cells.false c.most_local_cells.ensures
    (same_function c.in_ok-name.name c.args.x.now.name (ctype_of c.args.ctype) (ctypes_of c.args.variables.items) c.args.tree (c.in_ok-name.ensures ∙ c.as_slice.ensures))
