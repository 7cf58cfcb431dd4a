use Rattle.std.proofs.Common.{sym, subst}
use Rattle.c_rules_laws.specs.Lexical.{IsUnitLexical}
use Rattle.c_check.proofs.Answered.{refused_with, typed_as, without_null_calls}
use Rattle.c_check_values.specs.Agreement.{AgreesWith}
use Rattle.c_rules.specs.Units.{checked}
use Rattle.c_syntax.specs.UnitView.{items_of}
use Rattle.c_tree.specs.View.{program_of}
use Rattle.c_check.proofs.checking.check.Goals as goal

pub checked_items-requires : goal.checked_items-requires
checked_items-requires c = subst (λ xs. IsUnitLexical (items_of xs)) (sym c.deref.ensures.value) c.requires.lexical

pub returns-clause-typed : goal.returns-clause-typed
returns-clause-typed c =
    typed_as (items_of c.args.unit.now.items.items) c.args.mode c.checked_items.result (subst (λ xs. AgreesWith program_of c.checked_items.result (checked (items_of xs) c.args.mode)) c.deref.ensures.value c.checked_items.ensures)

pub returns-clause-refused : goal.returns-clause-refused
returns-clause-refused c =
    refused_with (items_of c.args.unit.now.items.items) c.args.mode c.checked_items.result c.a_typed_unit_violates_no_rule.ensures
    (subst (λ xs. AgreesWith program_of c.checked_items.result (checked (items_of xs) c.args.mode)) c.deref.ensures.value c.checked_items.ensures)

pub returns-clause-no_null_calls : goal.returns-clause-no_null_calls
returns-clause-no_null_calls c =
    without_null_calls (items_of c.args.unit.now.items.items) c.args.mode c.checked_items.result c.a_plain_program_calls_no_null_call.ensures
    (subst (λ xs. AgreesWith program_of c.checked_items.result (checked (items_of xs) c.args.mode)) c.deref.ensures.value c.checked_items.ensures)
