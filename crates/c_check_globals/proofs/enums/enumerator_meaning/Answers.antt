use Rattle.std.proofs.Common.{◌≡◌, ℤ, refl, ap, sym, subst, ◌∙◌, rules, w32, w64}
use Rattle.std.proofs.lemmas.Int.{to_z-of_z}
use Rattle.c_check_units.specs.Agreement.{Names}
use Rattle.c_check_units.proofs.Parts.{raised, names_first, names_second}
use Rattle.c_check_globals.proofs.Moves.{both_is}
use Rattle.c_rules.specs.Checked.{Checked, Met, met, fine, faults}
use Rattle.c_rules.specs.Declarators.{new_name}
use Rattle.c_rules.specs.Items.{enumerator_meaning, enumerator_value}
use Rattle.c_rules.specs.Scopes.{Meaning, an_enumerator}
use Rattle.c_check_scopes.specs.View.{env_of}
use Rattle.c_syntax.specs.UnitView.{maybe_of}
use Rattle.c_syntax.specs.View.{ident_of}
use Rattle.c_check_globals.proofs.enums.enumerator_meaning.Goals as goal

abbrev node : Met → ℤ → Checked Meaning
node u z = fine (an_enumerator z)

pub returns-in_err-new_name-clause-judged : goal.returns-in_err-new_name-clause-judged
returns-in_err-new_name-clause-judged c =
    let env = env_of c.args.env.now in
    let x = ident_of c.args.x.now in
    let r : Checked ℤ = enumerator_value env (fine c.args.next) x (maybe_of c.args.e.now) in
    raised (λ v. an_enumerator v) (enumerator_meaning env x r) c.from_residual.result c.in_err-new_name.field-0.0 c.from_residual.ensures (names_first c.in_err-new_name.field-0.0 (new_name env x) r node c.in_err-new_name.ensures)

pub returns-in_err-value-clause-judged : goal.returns-in_err-value-clause-judged
returns-in_err-value-clause-judged c =
    let env = env_of c.args.env.now in
    let x = ident_of c.args.x.now in
    let r : Checked ℤ = enumerator_value env (fine c.args.next) x (maybe_of c.args.e.now) in
    raised (λ v. an_enumerator v) (enumerator_meaning env x r) c.from_residual-in_err-value.result c.in_err-value.field-0.0 c.from_residual-in_err-value.ensures
    (names_second c.in_err-value.field-0.0 (new_name env x) r node
    (subst (λ z. Names c.in_err-value.field-0.0 (faults (enumerator_value env (fine z) x (maybe_of c.args.e.now)))) (to_z-of_z w64 c.args.next (search rules)) c.in_err-value.ensures.judged))

pub returns-clause-judged : goal.returns-clause-judged
returns-clause-judged c =
    let env = env_of c.args.env.now in
    let x = ident_of c.args.x.now in
    let r : Checked ℤ = enumerator_value env (fine c.args.next) x (maybe_of c.args.e.now) in
    let read : r ≡ fine c.in_ok-value.value = sym (ap (λ z. enumerator_value env (fine z) x (maybe_of c.args.e.now)) (to_z-of_z w64 c.args.next (search rules))) ∙ c.in_ok-value.ensures.judged in
    both_is (new_name env x) r node met c.in_ok-value.value r c.in_ok-new_name.ensures refl read ∙ ap (λ z. fine (an_enumerator z)) (sym (to_z-of_z w32 c.in_ok-value.value (search rules)))
