use Rattle.std.proofs.Common.{sym, ◌∙◌}
use Rattle.c_check_expressions.proofs.Parameters.{bare_pointer, none_when}
use Rattle.c_check_expressions.proofs.forms.is_bare_pointer.Goals as goal

pub returns-in-Pointer : goal.returns-in-Pointer
returns-in-Pointer c = none_when c.in-Pointer.inner c.is_none.result c.is_none.ensures ∙ sym (bare_pointer c.args.d.now c.in-Pointer.inner c.in-Pointer.is)
