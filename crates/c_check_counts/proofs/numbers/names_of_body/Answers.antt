use Rattle.std.proofs.Common.{ap, sym, ◌∙◌, ◌++◌}
use Rattle.c_syntax.specs.SeenNames.{seen}
use Rattle.c_check_counts.proofs.NameLemmas.{names_in_body}
use Rattle.c_check_scopes.specs.Variables.{names_of_stmt}
use Rattle.c_syntax.specs.UnitView.{stmt_of}
use Rattle.c_check_counts.proofs.numbers.names_of_body.Goals as goal

pub returns : goal.returns
returns c =
    c.in_ok-add_names.ensures ∙ (ap (λ ns. seen ns ++ names_of_stmt (stmt_of c.args.body.now)) c.new-names.ensures.items ∙ sym (names_in_body (stmt_of c.args.body.now)))
