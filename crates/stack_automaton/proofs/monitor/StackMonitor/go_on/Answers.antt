use Rattle.std.proofs.Common.{◌≡◌, ℕ, [], ◌∷◌, refl, sym, ◌∙◌, ap, subst}
use Rattle.std.specs.Prelude.{IfSome, IfNone}
use Rattle.dm_base.specs.declared.verdict.Step.TheVariants.{Kept}
use Rattle.dm_base.specs.Trace.{erase}
use Rattle.stack_automaton.specs.Event.{IsNext}
use Rattle.stack_automaton.specs.Held.{HasEdge}
use Rattle.stack_automaton.specs.Moving.{IsMoved}
use Rattle.stack_automaton.specs.Seen.{edges_at}
use Rattle.stack_automaton.proofs.MonitorLemmas.{key_live, after_call, after_refusal, after_null}
use Rattle.stack_automaton.proofs.monitor.StackMonitor.go_on.Goals as goal

pub move_on-requires-clause-live : goal.move_on-requires-clause-live
move_on-requires-clause-live c =
    let (k, h, stands) = c.requires.stands in
    key_live c.args.self.now c.args.pool.now c.args.model.now k h c.self.inside.at c.requires.kept (sym (ap (λ m. m.key) c.self.view_is)) stands

pub returns-in-Some-clause-stands : goal.returns-in-Some-clause-stands
returns-in-Some-clause-stands c = λ k h stands.
    let moves = subst (λ o. IfSome o (λ next. IsMoved c.args.model.now (edges_at c.args.pool.now) (edges_at c.move_on.new.self) c.args.pool.now.final c.self.inside.at c.args.event.now next)) c.in-Some.is c.in_ok-key-in-Sys.ensures.moved in
    let key : c.self.inside.at ≡ c.args.self.now.key = ap (λ m. m.key) c.self.view_is in
    let kept : c.self.inside.last ≡ Kept = ap (λ m. m.answer) c.self.view_is ∙ c.requires.kept in
    let call : erase (c.args.event.now ∷ []) ≡ c.args.event.now ∷ [] = subst (λ e. erase (e ∷ []) ≡ e ∷ []) (sym c.in-Sys.is) refl in
    after_call c.args.self.now (record { answer = c.self.inside.last; key = c.in-Some.key }) c.args.pool.now c.move_on.new.self c.args.model.now k h c.args.event.now c.requires.pool.pool c.move_on.ensures.last c.requires.kept stands call kept c.move_on.ensures.grows
    (subst (λ n. IsMoved c.args.model.now (edges_at c.args.pool.now) (edges_at c.move_on.new.self) c.args.pool.now.final n c.args.event.now c.in-Some.key) key moves)

pub returns-in-None-clause-stands : goal.returns-in-None-clause-stands
returns-in-None-clause-stands c = λ k h stands.
    let none = subst (λ o. IfNone o ((b q : ℕ) → IsNext c.args.model.now (HasEdge (edges_at c.args.pool.now)) c.self.inside.at c.args.event.now b q → ⊥)) c.in-None.is c.in_ok-key-in-Sys.ensures.none in
    let key : c.self.inside.at ≡ c.args.self.now.key = ap (λ m. m.key) c.self.view_is in
    let call : erase (c.args.event.now ∷ []) ≡ c.args.event.now ∷ [] = subst (λ e. erase (e ∷ []) ≡ e ∷ []) (sym c.in-Sys.is) refl in
    after_refusal c.args.self.now _ c.args.pool.now c.move_on.new.self c.args.model.now k h c.args.event.now c.requires.pool.pool c.move_on.ensures.last c.requires.kept stands call refl
    (subst (λ n. (b q : ℕ) → IsNext c.args.model.now (HasEdge (edges_at c.args.pool.now)) n c.args.event.now b q → ⊥) key none)

pub returns-in-Pre-clause-stands : goal.returns-in-Pre-clause-stands
returns-in-Pre-clause-stands c = λ k h stands.
    after_null c.args.self.now c.args.pool.now c.args.model.now k h c.args.event.now c.requires.kept (subst (λ e. erase (e ∷ []) ≡ []) (sym c.in-Pre.is) refl) stands

pub returns-in-Post-clause-stands : goal.returns-in-Post-clause-stands
returns-in-Post-clause-stands c = λ k h stands.
    after_null c.args.self.now c.args.pool.now c.args.model.now k h c.args.event.now c.requires.kept (subst (λ e. erase (e ∷ []) ≡ []) (sym c.in-Post.is) refl) stands
