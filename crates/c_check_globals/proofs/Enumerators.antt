-- Enumerators, one after another.
use Rattle.std.proofs.Common.{◌≡◌, ℕ, ℤ, ◌+◌, ◌<◌, ◌≤◌, List, length, drop, get_or, ap, sym, subst, ◌∙◌}
use Rattle.std.specs.Prelude.{pos, ◌+ℤ◌}
use Rattle.std.proofs.lemmas.List.{drop_all}
use Rattle.c_check_units.specs.CheckError.{CheckError}
use Rattle.c_check_units.specs.Agreement.{Names}
use Rattle.c_check_units.proofs.Parts.{names_first}
use Rattle.c_check_units.proofs.PartsOfTypes.{at_place}
use Rattle.c_rules.specs.Checked.{Checked, fine, faults, both, Met, met}
use Rattle.c_rules.specs.Items.{enumerator_value, enumerator_meaning, behind_enumerator, enumerators, behind_enumerators, one_more_than}
use Rattle.c_rules.specs.Scopes.{Env, Meaning}
use Rattle.c_syntax.specs.declared.tree.Enumerator.{Enumerator as EnumeratorTree}
use Rattle.c_syntax.specs.UnitView.{enumerators_of, maybe_of}
use Rattle.c_syntax.specs.View.{ident_of}
use Rattle.c_check_globals.proofs.Turns.{met_first}

module _ (env : Env) (next : ℤ) (es : List EnumeratorTree) (i : ℕ) (e : EnumeratorTree) where
  abbrev value : Checked ℤ
  value = enumerator_value env (fine next) (ident_of e.name) (maybe_of e.value)

  abbrev means : Checked Meaning
  means = enumerator_meaning env (ident_of e.name) value

  abbrev rest : Checked Met
  rest = enumerators (behind_enumerator env (ident_of e.name) value) (one_more_than value) (enumerators_of (drop (i + 1) es))

  node : i < length es → e ≡ get_or es i e → enumerators env (fine next) (enumerators_of (drop i es)) ≡ both means rest (λ _ _. fine met)
  node lt is = ap (λ l. enumerators env (fine next) (enumerators_of l)) (at_place es i e lt is)

  pub enumerator_more : (env' : Env) (next' v : ℤ) (m : Meaning) (all : Checked Met) → i < length es → e ≡ get_or es i e → all ≡ enumerators env (fine next) (enumerators_of (drop i es)) → means ≡ fine m → value ≡ fine v
      → env' ≡ behind_enumerator env (ident_of e.name) value → next' ≡ v +ℤ pos 1 → all ≡ enumerators env' (fine next') (enumerators_of (drop (i + 1) es))
  enumerator_more env' next' v m all lt is before meant valued behind step =
      let one : one_more_than value ≡ fine next' = ap one_more_than valued ∙ ap fine (sym step) in
      before ∙ (node lt is ∙ (met_first means m rest meant ∙ (λ j. enumerators (sym behind j) (one j) (enumerators_of (drop (i + 1) es)))))

  pub enumerator_fails : (err : CheckError) (all : Checked Met) → i < length es → e ≡ get_or es i e → all ≡ enumerators env (fine next) (enumerators_of (drop i es)) → Names err (faults means) → Names err (faults all)
  enumerator_fails err all lt is before h = subst (λ r. Names err (faults r)) (sym (before ∙ node lt is)) (names_first err means rest (λ _ _. fine met) h)

  pub behind_more : (env' whole : Env) (next' v : ℤ) → i < length es → e ≡ get_or es i e → whole ≡ behind_enumerators env (fine next) (enumerators_of (drop i es)) → value ≡ fine v
      → env' ≡ behind_enumerator env (ident_of e.name) value → next' ≡ v +ℤ pos 1 → whole ≡ behind_enumerators env' (fine next') (enumerators_of (drop (i + 1) es))
  behind_more env' whole next' v lt is before valued behind step =
      let one : one_more_than value ≡ fine next' = ap one_more_than valued ∙ ap fine (sym step) in
      before ∙ (ap (λ l. behind_enumerators env (fine next) (enumerators_of l)) (at_place es i e lt is) ∙ (λ j. behind_enumerators (sym behind j) (one j) (enumerators_of (drop (i + 1) es))))

pub enumerators_end : (env : Env) (next : ℤ) (es : List EnumeratorTree) (i : ℕ) (all : Checked Met) → length es ≤ i → all ≡ enumerators env (fine next) (enumerators_of (drop i es)) → all ≡ fine met
enumerators_end env next es i all over before = before ∙ ap (λ l. enumerators env (fine next) (enumerators_of l)) (drop_all i es over)

pub behind_end : (env : Env) (next : ℤ) (es : List EnumeratorTree) (i : ℕ) (last : Env) → length es ≤ i → last ≡ behind_enumerators env (fine next) (enumerators_of (drop i es)) → last ≡ env
behind_end env next es i last over before = before ∙ ap (λ l. behind_enumerators env (fine next) (enumerators_of l)) (drop_all i es over)
