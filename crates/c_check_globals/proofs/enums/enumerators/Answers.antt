use Rattle.std.proofs.Common.{◌≡◌, ap, sym, ◌∙◌, rules, of_z, to_z, w32, w64}
use Rattle.std.proofs.lemmas.Int.{to_z-of_z}
use Rattle.std.specs.Prelude.{pos, ◌+ℤ◌}
use Rattle.c_check_units.proofs.Parts.{raised}
use Rattle.c_check_globals.proofs.Enumerators.{enumerator_more, enumerator_fails, enumerators_end, behind_more, behind_end}
use Rattle.c_rules.specs.Checked.{Checked, Met, fine, met}
use Rattle.c_rules.specs.Items.{behind_enumerators, enumerators}
use Rattle.c_rules.specs.Scopes.{Env, an_enumerator}
use Rattle.c_check_scopes.specs.View.{env_of}
use Rattle.c_syntax.specs.UnitView.{enumerators_of}
use Rattle.c_check_globals.proofs.enums.enumerators.Goals as goal

pub loop-e-preserved : goal.loop-e-preserved
loop-e-preserved c =
    let next : to_z w64 (of_z w64 c.next_value-next.result) ≡ c.in_ok-value.value +ℤ pos 1 =
    to_z-of_z w64 c.next_value-next.result (search rules) ∙ (c.next_value-next.ensures ∙ ap (λ z. z +ℤ pos 1) (to_z-of_z w32 c.in_ok-value.value (search rules))) in
    let all : Checked Met = enumerators (env_of c.args.env.now) (fine (pos 0)) (enumerators_of c.args.es.now) in
    let last : Env = behind_enumerators (env_of c.args.env.now) (fine (pos 0)) (enumerators_of c.args.es.now) in (
      enumerator_more (env_of c.loop-e.env) (to_z w64 c.loop-e.next-bits) c.args.es.now c.loop-e.e-index c.e-item.result (env_of c.declare_enumerator.new.env) (to_z w64 (of_z w64 c.next_value-next.result)) c.in_ok-value.value (an_enumerator c.in_ok-value.value) all c.loop-e-test.true c.e-item.is c.loop-e.invariant.0
          c.in_ok-value.ensures.judged c.in_ok-value.ensures.valued c.in_ok-value.ensures.behind next,
      behind_more (env_of c.loop-e.env) (to_z w64 c.loop-e.next-bits) c.args.es.now c.loop-e.e-index c.e-item.result (env_of c.declare_enumerator.new.env) last (to_z w64 (of_z w64 c.next_value-next.result)) c.in_ok-value.value c.loop-e-test.true c.e-item.is c.loop-e.invariant.1
          c.in_ok-value.ensures.valued c.in_ok-value.ensures.behind next,
    )

pub returns-in_err-value-clause-judged : goal.returns-in_err-value-clause-judged
returns-in_err-value-clause-judged c =
    let all : Checked Met = enumerators (env_of c.args.env.now) (fine (pos 0)) (enumerators_of c.args.es.now) in
    raised (λ _. met) all c.from_residual.result c.in_err-value.field-0.0 c.from_residual.ensures
    (enumerator_fails (env_of c.loop-e.env) (to_z w64 c.loop-e.next-bits) c.args.es.now c.loop-e.e-index c.e-item.result c.in_err-value.field-0.0 all c.loop-e-test.true c.e-item.is c.loop-e.invariant.0 c.in_err-value.ensures.judged)

pub returns-clause-judged : goal.returns-clause-judged
returns-clause-judged c =
    enumerators_end (env_of c.loop-e.env) (to_z w64 c.loop-e.next-bits) c.args.es.now c.loop-e.e-index (enumerators (env_of c.args.env.now) (fine (pos 0)) (enumerators_of c.args.es.now)) c.loop-e-test.false c.loop-e.invariant.0

pub returns-clause-behind : goal.returns-clause-behind
returns-clause-behind c =
    sym (behind_end (env_of c.loop-e.env) (to_z w64 c.loop-e.next-bits) c.args.es.now c.loop-e.e-index (behind_enumerators (env_of c.args.env.now) (fine (pos 0)) (enumerators_of c.args.es.now)) c.loop-e-test.false c.loop-e.invariant.1)
