use Rattle.std.proofs.Common.{sym, ap, ◌∙◌}
use Rattle.c_rules.specs.Declarators.{place_or}
use Rattle.c_syntax.specs.Writes.{declarator_in}
use Rattle.c_check_expressions.proofs.Parameters.{declarator_place}
use Rattle.c_check_expressions.proofs.forms.place_or.Goals as goal

pub returns-in-Some : goal.returns-in-Some
returns-in-Some c = declarator_place c.args.at c.in-Some.d ∙ ap (λ o. place_or c.args.at (declarator_in o)) (sym c.in-Some.is)
