use Rattle.std.proofs.Common.{◌≡◌, ◌⊎◌, ◌↔◌, ℕ, Contains, sym, ◌∙◌, ap, subst}
use Rattle.std.proofs.lemmas.Result.{on_ok_weaker, on_err_weaker}
use Rattle.dm_base.specs.declared.verdict.Step.TheVariants.{Kept, Rejected}
use Rattle.stack_automaton.specs.Held.{HasEdge, Leads}
use Rattle.stack_automaton.specs.Seen.{edges_at}
use Rattle.stack_automaton.proofs.MonitorLemmas.{pool_of_same, stands_same, notes_more, notes_none, notes_refused}
use Rattle.stack_automaton.proofs.monitor.StackMonitorMonitor.mark.Goals as goal

pub returns-in-Kept-clause-pool : goal.returns-in-Kept-clause-pool
returns-in-Kept-clause-pool c = pool_of_same c.args.pool.now c.note.new.self c.note.ensures.entries c.note.ensures.last c.note.ensures.remembered

pub returns-in-Kept-clause-ok : goal.returns-in-Kept-clause-ok
returns-in-Kept-clause-ok c =
    on_ok_weaker c.note.result
    (λ noted. λ g ms notes.
    let is : c.args.self.now.answer ≡ Kept = sym (ap (λ m. m.answer) c.self.view_is) ∙ c.in-Kept.is in
    let (model, bound, history, pool, stands) = c.requires.stands in
    let key : c.self.inside.at ≡ c.args.self.now.key = ap (λ m. m.key) c.self.view_is in
    notes_more c.args.pool.now c.note.new.self ms c.args.self.now model bound history c.note.ensures.entries is pool stands
    (subst (λ n. (k : ℕ) → Contains c.note.new.self.noted k ↔ ((j : ℕ) × (Contains c.args.pool.now.noted j ⊎ (j ≡ n)) × Leads (HasEdge (edges_at c.args.pool.now)) j k)) key noted) notes)
    c.note.ensures.ok

pub returns-in-Kept-clause-err : goal.returns-in-Kept-clause-err
returns-in-Kept-clause-err c = on_err_weaker c.note.result (λ none. λ g pool. notes_none c.note.new.self none) c.note.ensures.err

pub returns-in-Kept-clause-others : goal.returns-in-Kept-clause-others
returns-in-Kept-clause-others c = λ m g k h stands. stands_same c.args.pool.now c.note.new.self c.note.ensures.entries c.note.ensures.last m g k h stands

pub returns-in-Rejected-clause-ok : goal.returns-in-Rejected-clause-ok
returns-in-Rejected-clause-ok c = λ g ms notes.
    let is : c.args.self.now.answer ≡ Rejected = sym (ap (λ m. m.answer) c.self.view_is) ∙ c.in-Rejected.is in
    notes_refused c.args.pool.now ms c.args.self.now (λ live. let both : Rejected ≡ Kept = sym is ∙ live in cc) notes
