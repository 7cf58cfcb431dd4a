use Rattle.std.proofs.Common.{◌≡◌, List, Contains, sym, subst}
use Rattle.slab.specs.Slab.{get}
use Rattle.stack_automaton.specs.declared.place.Edge.{Edge}
use Rattle.stack_automaton.specs.Held.{States, IsThere}
use Rattle.stack_automaton.proofs.shared.share.Goals as goal

same_targets : (s : States) (held edges : List Edge) → held ≡ edges → ((e : Edge) → Contains edges e → IsThere s e.to) → (e : Edge) → Contains held e → IsThere s e.to
same_targets s held edges same = subst (λ es. (e : Edge) → Contains es e → IsThere s e.to) (sym same)

pub returns-in_err-key-clause-grows : goal.returns-in_err-key-clause-grows
returns-in_err-key-clause-grows c = λ targets. c.insert.ensures.grows (same_targets (get c.args.states.now) _ c.args.edges.now c.in_ok-of.ensures targets)

pub returns-in_err-note-clause-grows : goal.returns-in_err-note-clause-grows
returns-in_err-note-clause-grows c = λ targets. c.insert.ensures.grows (same_targets (get c.args.states.now) _ c.args.edges.now c.in_ok-of.ensures targets)

pub returns-clause-grows : goal.returns-clause-grows
returns-clause-grows c = λ targets. c.insert.ensures.grows (same_targets (get c.args.states.now) _ c.args.edges.now c.in_ok-of.ensures targets)
