use Rattle.std.proofs.Common.{Some, ◌+◌, sym, ◌∙◌}
use Rattle.c_check_scopes.proofs.CountLemmas.{given_call, given_few, given_null, given_none}
use Rattle.c_check_scopes.proofs.predeclared.given_number.Goals as goal

pub returns-in-Some-clause-told : goal.returns-in-Some-clause-told
returns-in-Some-clause-told c = given_call c.args.mode c.args.name.now c.in-Some.number (sym c.in-Some.is ∙ c.system_call.ensures)

pub returns-in-Some-clause-few : goal.returns-in-Some-clause-few
returns-in-Some-clause-few c = given_few c.args.mode c.args.name.now (Some c.in-Some.number) (given_call c.args.mode c.args.name.now c.in-Some.number (sym c.in-Some.is ∙ c.system_call.ensures))

pub returns-in-Some-null_call-clause-told : goal.returns-in-Some-null_call-clause-told
returns-in-Some-null_call-clause-told c =
    given_null c.args.mode c.args.name.now c.in-Some-null_call.number c.in-Instrumented.is (sym c.in-None.is ∙ c.system_call.ensures) (sym c.in-Some-null_call.is ∙ c.null_call.ensures)

pub returns-in-Some-null_call-clause-few : goal.returns-in-Some-null_call-clause-few
returns-in-Some-null_call-clause-few c =
    given_few c.args.mode c.args.name.now (Some (24 + c.in-Some-null_call.number))
    (given_null c.args.mode c.args.name.now c.in-Some-null_call.number c.in-Instrumented.is (sym c.in-None.is ∙ c.system_call.ensures) (sym c.in-Some-null_call.is ∙ c.null_call.ensures))

pub returns-in-None-null_call-clause-told : goal.returns-in-None-null_call-clause-told
returns-in-None-null_call-clause-told c =
    given_none c.args.mode c.args.name.now c.in-Instrumented.is (sym c.in-None.is ∙ c.system_call.ensures) (sym c.in-None-null_call.is ∙ c.null_call.ensures)
