use Rattle.std.proofs.Common.{◌≡◌, true, rules, sym, ◌∙◌}
use Rattle.c_check_units.proofs.MainLemmas.{for_main}
use Rattle.c_check_units.proofs.mains.is_type_of_main.Goals as goal

pub returns-else-not-is_int : goal.returns-else-not-is_int
returns-else-not-is_int c =
    let fits : c.is_int.result ≡ true = search rules in
    for_main c.args.t.now c.deref.result.now c.deref-in-Function.result.now c.are_none.result c.in-Function.gives c.in-Function.takes c.in-Function.is c.deref.ensures c.deref-in-Function.ensures.value (sym c.is_int.ensures ∙ fits) c.are_none.ensures
