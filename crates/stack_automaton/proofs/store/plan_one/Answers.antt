use Rattle.std.proofs.Common.{◌≡◌, true, List, [], Contains, arith, sym, inr, subst}
use Rattle.std.proofs.lemmas.Result.{IfOk-weaker}
use Rattle.stack_automaton.specs.declared.place.Edge.{Edge}
use Rattle.stack_automaton.proofs.store.plan_one.Goals as goal

no_edges : (edges : List Edge) → edges ≡ [] → (e : Edge) → Contains edges e → ⊥
no_edges edges none e has = let inside : Contains [] e = subst (λ es. Contains es e) none has in omega (arith, inside.1)

pub returns-clause-grows : goal.returns-clause-grows
returns-clause-grows c = c.insert.ensures.grows (λ e has. absurd (no_edges c.empty.result c.empty.ensures e has))

pub returns-clause-there : goal.returns-clause-there
returns-clause-there c = IfOk-weaker c.insert.result _ _ (λ key put. (c.empty.result, put.changed)) c.insert.ensures.put

pub returns-clause-chosen : goal.returns-clause-chosen
returns-clause-chosen c =
    IfOk-weaker c.insert.result _ _ (λ key none. inr (λ has. let holds : true ≡ c.is_among.result = sym (c.is_among.ensures.1 has) in absurd cc, none)) c.insert.ensures.vacant
