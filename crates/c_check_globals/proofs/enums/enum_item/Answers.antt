use Rattle.std.proofs.Common.{◌≡◌, List, [], ◌++◌, append-nil, ap, sym, subst, ◌∙◌}
use Rattle.std.specs.Prelude.{pos}
use Rattle.c_check_units.specs.Agreement.{Names}
use Rattle.c_check_units.proofs.Parts.{raised, names_first, names_second}
use Rattle.c_rules.specs.Checked.{Checked, Met, met, both, fine, faults}
use Rattle.c_rules.specs.Items.{behind_enum_tag, enumerators, new_enum, no_output}
use Rattle.c_rules.specs.Names.{Name}
use Rattle.c_rules.specs.Tags.{tags_of_enumerators}
use Rattle.c_check_scopes.specs.View.{env_of}
use Rattle.c_syntax.specs.UnitView.{enumerators_of, tag_of}
use Rattle.c_check_globals.proofs.enums.enum_item.Goals as goal

pub returns-in_err-new_enum-clause-judged : goal.returns-in_err-new_enum-clause-judged
returns-in_err-new_enum-clause-judged c =
    let env = env_of c.args.env.now in
    let t = tag_of c.args.tag.now in
    let own : List Name = tags_of_enumerators (enumerators_of c.args.es.now) in
    let listed : Checked Met = enumerators env (fine (pos 0)) (enumerators_of c.args.es.now) in
    raised (λ _. no_output) (both (new_enum env t own) listed (λ _ _. fine no_output)) c.from_residual-in_err-new_enum.result c.in_err-new_enum.field-0.0 c.from_residual-in_err-new_enum.ensures
    (names_first c.in_err-new_enum.field-0.0 (new_enum env t own) listed (λ _ _. fine no_output)
    (subst (λ ts. Names c.in_err-new_enum.field-0.0 (faults (new_enum env t ts))) (c.in_ok-within.ensures ∙ append-nil own) c.in_err-new_enum.ensures))

pub returns-in_err-enumerators-clause-judged : goal.returns-in_err-enumerators-clause-judged
returns-in_err-enumerators-clause-judged c =
    let env = env_of c.args.env.now in
    let t = tag_of c.args.tag.now in
    let own : List Name = tags_of_enumerators (enumerators_of c.args.es.now) in
    let listed : Checked Met = enumerators env (fine (pos 0)) (enumerators_of c.args.es.now) in
    raised (λ _. no_output) (both (new_enum env t own) listed (λ _ _. fine no_output)) c.from_residual-in_err-enumerators.result c.in_err-enumerators.field-0.0 c.from_residual-in_err-enumerators.ensures
    (names_second c.in_err-enumerators.field-0.0 (new_enum env t own) listed (λ _ _. fine no_output) c.in_err-enumerators.ensures.judged)

pub returns-clause-judged : goal.returns-clause-judged
returns-clause-judged c =
    let env = env_of c.args.env.now in
    let t = tag_of c.args.tag.now in
    let own : List Name = tags_of_enumerators (enumerators_of c.args.es.now) in
    let new : new_enum env t own ≡ fine met = ap (new_enum env t) (sym (c.in_ok-within.ensures ∙ append-nil own)) ∙ c.in_ok-new_enum.ensures in
    λ i. both (new i) (c.in_ok-enumerators.ensures.judged i) (λ _ _. fine no_output)

pub returns-clause-behind : goal.returns-clause-behind
returns-clause-behind c = c.in_ok-declare_enum.ensures ∙ ap (λ e. behind_enum_tag e (tag_of c.args.tag.now)) c.in_ok-enumerators.ensures.behind
