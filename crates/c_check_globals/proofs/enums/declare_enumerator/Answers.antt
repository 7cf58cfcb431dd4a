use Rattle.std.proofs.Common.{◌≡◌, ℤ, ap, sym, ◌∙◌, rules, w32, w64}
use Rattle.std.proofs.lemmas.Int.{to_z-of_z}
use Rattle.c_rules.specs.Checked.{Checked, fine}
use Rattle.c_rules.specs.Items.{enumerator_meaning, enumerator_value}
use Rattle.c_rules.specs.Scopes.{Env, Meaning, an_enumerator, meaning_or_unknown, with_name}
use Rattle.c_check_scopes.specs.View.{env_of}
use Rattle.c_syntax.specs.UnitView.{maybe_of}
use Rattle.c_syntax.specs.View.{ident_of}
use Rattle.c_check_globals.proofs.enums.declare_enumerator.Goals as goal

pub returns-clause-behind : goal.returns-clause-behind
returns-clause-behind c =
    let env : Env = env_of c.args.env.now in
    let x = ident_of c.args.x.now in
    let means : ℤ → Checked Meaning = λ z. enumerator_meaning env x (enumerator_value env (fine z) x (maybe_of c.args.e.now)) in
    let judged : means c.args.next ≡ fine (an_enumerator c.in_ok-value.value) = sym (ap means (to_z-of_z w64 c.args.next (search rules))) ∙ c.in_ok-value.ensures.judged in
    c.in_ok-declare.ensures
    ∙ (ap (λ z. with_name (env_of c.enumerator_meaning.new.env) c.as_slice.result.now (an_enumerator z)) (to_z-of_z w32 c.in_ok-value.value (search rules))
    ∙ (λ i. with_name (env_of (c.in_ok-value.ensures.kept i)) (c.as_slice.ensures i) (meaning_or_unknown (sym judged i))))
