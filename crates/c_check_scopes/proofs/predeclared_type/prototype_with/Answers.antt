use Rattle.std.proofs.Common.{slice_get, ap, sym, ◌∙◌}
use Rattle.c_rules.specs.Names.{given_types}
use Rattle.c_check_scopes.proofs.predeclared_type.prototype_with.Goals as goal

pub returns-in-Plain : goal.returns-in-Plain
returns-in-Plain c =
    c.prototype_among.ensures ∙ ap (λ ts. slice_get ts c.args.number) c.system_prototypes.ensures ∙ ap (λ m. slice_get (given_types m) c.args.number) (sym c.in-Plain.is)

pub returns-in-Instrumented : goal.returns-in-Instrumented
returns-in-Instrumented c =
    c.prototype_among-in-Instrumented.ensures ∙ ap (λ ts. slice_get ts c.args.number) c.all_prototypes.ensures ∙ ap (λ m. slice_get (given_types m) c.args.number) (sym c.in-Instrumented.is)
