use Rattle.std.proofs.Common.{[]}
use Rattle.c_check_units.proofs.Parts.{raised, names_first}
use Rattle.c_check_globals.proofs.Moves.{second_ends}
use Rattle.c_rules.specs.Checked.{Checked, fine, on}
use Rattle.c_rules.specs.Items.{members, new_struct, struct_definition, struct_laid}
use Rattle.c_rules.specs.Scopes.{Struct, defined_struct}
use Rattle.c_check_scopes.specs.View.{env_of}
use Rattle.c_check_declarations.specs.Members.{members_of}
use Rattle.c_syntax.specs.UnitView as syntax
use Rattle.c_syntax.specs.View.{ident_of}
use Rattle.c_check_globals.proofs.structs.struct_definition.Goals as goal

pub returns-in_err-new_struct-clause-judged : goal.returns-in_err-new_struct-clause-judged
returns-in_err-new_struct-clause-judged c =
    let env = env_of c.args.env.now in
    let x = ident_of c.args.x.now in
    let laid : Checked Struct = on (members env [] (syntax.members_of c.args.ms.now)) (struct_laid env x) in
    raised (λ v. defined_struct (members_of v.items)) (struct_definition env x (syntax.members_of c.args.ms.now)) c.from_residual.result c.in_err-new_struct.field-0.0 c.from_residual.ensures
    (names_first c.in_err-new_struct.field-0.0 (new_struct env x) laid (λ _ s. fine s) c.in_err-new_struct.ensures)

pub returns-clause-judged : goal.returns-clause-judged
returns-clause-judged c =
    let env = env_of c.args.env.now in
    let x = ident_of c.args.x.now in
    second_ends (λ v. defined_struct (members_of v.items)) c.laid_members.result (new_struct env x) (on (members env [] (syntax.members_of c.args.ms.now)) (struct_laid env x)) c.in_ok-new_struct.ensures c.laid_members.ensures.judged
