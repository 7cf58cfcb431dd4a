use Rattle.std.proofs.Common.{◌≡◌, [], List, ap, ◌∙◌}
use Rattle.c_check_units.proofs.Parts.{raised}
use Rattle.c_check_globals.proofs.Moves.{node_fails, on_is}
use Rattle.c_rules.specs.Checked.{Checked, fine, on}
use Rattle.c_rules.specs.Items.{members, struct_laid}
use Rattle.c_rules.specs.Scopes.{Member, Struct, defined_struct}
use Rattle.c_check_scopes.specs.View.{env_of}
use Rattle.c_check_declarations.specs.Members.{members_of}
use Rattle.c_syntax.specs.UnitView as syntax
use Rattle.c_syntax.specs.View.{ident_of}
use Rattle.c_check_globals.proofs.structs.laid_members.Goals as goal

pub returns-in_err-struct_laid-clause-judged : goal.returns-in_err-struct_laid-clause-judged
returns-in_err-struct_laid-clause-judged c =
    let x = ident_of c.args.x.now in
    let p : Checked (List Member) = members (env_of c.args.env.now) [] (syntax.members_of c.args.ms.now) in
    let k : List Member → Checked Struct = struct_laid (env_of c.args.env.now) x in
    let ms : List Member = members_of c.in_ok-members.members.items in
    let r : Checked Struct = struct_laid (env_of c.members.new.env) x (members_of c.deref.result.now) in
    let node : r ≡ k ms = λ i. struct_laid (env_of (c.in_ok-members.ensures.kept i)) x (members_of (c.deref.ensures.value i)) in
    raised (λ v. defined_struct (members_of v.items)) (on p k) c.from_residual-in_err-struct_laid.result c.in_err-struct_laid.field-0.0 c.from_residual-in_err-struct_laid.ensures
    (node_fails c.in_err-struct_laid.field-0.0 p k ms r c.in_ok-members.ensures.judged node c.in_err-struct_laid.ensures)

pub returns-clause-judged : goal.returns-clause-judged
returns-clause-judged c =
    let x = ident_of c.args.x.now in
    let p : Checked (List Member) = members (env_of c.args.env.now) [] (syntax.members_of c.args.ms.now) in
    let k : List Member → Checked Struct = struct_laid (env_of c.args.env.now) x in
    let ms : List Member = members_of c.in_ok-members.members.items in
    let r : Checked Struct = struct_laid (env_of c.members.new.env) x (members_of c.deref.result.now) in
    let node : r ≡ k ms = λ i. struct_laid (env_of (c.in_ok-members.ensures.kept i)) x (members_of (c.deref.ensures.value i)) in
    on_is p k ms r c.in_ok-members.ensures.judged node ∙ (c.in_ok-struct_laid.ensures ∙ ap (λ xs. fine (defined_struct (members_of xs))) c.deref.ensures.value)
