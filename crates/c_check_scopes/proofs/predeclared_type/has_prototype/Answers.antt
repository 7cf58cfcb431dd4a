use Rattle.std.proofs.Common.{◌≡◌, true, rules, sym, ◌∙◌}
use Rattle.c_check_scopes.proofs.TypeLemmas.{by_parameters}
use Rattle.c_check_scopes.proofs.predeclared_type.has_prototype.Goals as goal

pub returns-else-not-is_plain : goal.returns-else-not-is_plain
returns-else-not-is_plain c =
    let fits : c.is_plain.result ≡ true = search rules in
    by_parameters c.args.t.now c.deref.result.now c.deref-in-Function.result.now c.args.p.now c.are_plain.result c.in-Function.gives c.in-Function.takes c.in-Function.is c.deref.ensures c.deref-in-Function.ensures.value (sym c.is_plain.ensures ∙ fits) c.are_plain.ensures
