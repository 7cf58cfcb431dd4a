use Rattle.std.proofs.Common.{◌≡◌, ◌≤◌, map, ap, sym, subst, ◌∙◌}
use Rattle.c_check_units.proofs.Parts.{names_on, raised}
use Rattle.c_rules.specs.Checked.{Checked, fine, gives}
use Rattle.c_rules.specs.Items.{no_output, struct_definition, struct_or_unknown}
use Rattle.c_rules.specs.Scopes.{Struct, defined_struct, incomplete, layout_of, struct_of, tag_number, type_of_member, with_struct}
use Rattle.c_check_declarations.specs.Members.{members_of as seen_members}
use Rattle.c_check_globals.proofs.HeldStructs.{struct_known}
use Rattle.c_rules.specs.Limits.{most_cells}
use Rattle.c_check_scopes.specs.Held.{AllInAll, IsDefined}
use Rattle.c_tree.specs.Layout.{cells_of_all}
use Rattle.c_check_globals.proofs.Moves.{was_open}
use Rattle.c_check_scopes.specs.View.{env_of}
use Rattle.c_syntax.specs.UnitView.{members_of}
use Rattle.c_syntax.specs.View.{ident_of}
use Rattle.c_check_globals.proofs.structs.struct_item.Goals as goal

pub returns-in_err-members-clause-judged : goal.returns-in_err-members-clause-judged
returns-in_err-members-clause-judged c =
    let r : Checked Struct = struct_definition (env_of c.args.env.now) (ident_of c.args.x.now) (members_of c.args.ms.now) in
    raised (λ _. no_output) (gives r (λ _. no_output)) c.from_residual.result c.in_err-members.field-0.0 c.from_residual.ensures (names_on c.in_err-members.field-0.0 r (λ _. fine no_output) c.in_err-members.ensures.judged)

pub define_struct-requires-clause-open : goal.define_struct-requires-clause-open
define_struct-requires-clause-open c =
    let x = ident_of c.args.x.now in
    let before : struct_of (env_of c.args.env.now) (tag_number (env_of c.args.env.now) x.name) ≡ incomplete
    = was_open (env_of c.args.env.now) x (members_of c.args.ms.now) (defined_struct (seen_members c.in_ok-members.members.items)) c.in_ok-members.ensures.judged in
    (λ i. struct_of (env_of (c.in_ok-members.ensures.kept i)) (tag_number (env_of (c.in_ok-members.ensures.kept i)) (c.as_slice.ensures i))) ∙ before

pub define_struct-requires-clause-known : goal.define_struct-requires-clause-known
define_struct-requires-clause-known c =
    let known = (struct_known (env_of c.args.env.now) (ident_of c.args.x.now) (members_of c.args.ms.now) (seen_members c.in_ok-members.members.items) c.in_ok-members.ensures.judged).0 in
    subst (λ e. AllInAll (IsDefined (layout_of e)) (map type_of_member (seen_members c.in_ok-members.members.items))) (sym (ap env_of c.in_ok-members.ensures.kept)) known

pub define_struct-requires-clause-few : goal.define_struct-requires-clause-few
define_struct-requires-clause-few c =
    let few = (struct_known (env_of c.args.env.now) (ident_of c.args.x.now) (members_of c.args.ms.now) (seen_members c.in_ok-members.members.items) c.in_ok-members.ensures.judged).1 in
    subst (λ e. cells_of_all (layout_of e) (map type_of_member (seen_members c.in_ok-members.members.items)) ≤ most_cells) (sym (ap env_of c.in_ok-members.ensures.kept)) few

pub returns-clause-behind : goal.returns-clause-behind
returns-clause-behind c =
    c.define_struct.ensures ∙ (λ i. with_struct (env_of (c.in_ok-members.ensures.kept i)) (c.as_slice.ensures i) (struct_or_unknown (sym c.in_ok-members.ensures.judged i)))
