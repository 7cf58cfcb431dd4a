-- The languages of a program by those of its graph, and what monitors say of its words.
use Rattle.std.proofs.Common.{◌≡◌, ℕ, ◌<◌, List, [], ◌∷◌, refl, sym, subst, ap}
use Rattle.dm_base.specs.declared.event.Event.{Event}
use Rattle.dm_base.specs.declared.event.Event.TheVariants.{Sys, Pre, Post}
use Rattle.dm_base.specs.declared.verdict.Verdict.TheVariants.{Bound}
use Rattle.dm_base.specs.Trace.{depth, erase}
use Rattle.flow_model.specs.declared.which.Which.{Which}
use Rattle.flow_model.specs.declared.which.Which.TheVariants.{Callgraph, Stack, Dyck}
use Rattle.flow_model.specs.Graph.{Graph}
use Rattle.flow_model.specs.Language.{StackRun, Reads}
use Rattle.flow_model.specs.Verdict.{IsKept, IsVerdict}
use Rattle.c_tree.specs.Tree.{Program}
use Rattle.c_meaning.specs.Equal.{AreEqual}
use Rattle.c_meaning.specs.GraphOfProgram.{graph_of_program}
use Rattle.headline.specs.AcceptedRuns.{HasTheWords}
use Rattle.headline.specs.Headline.{AreNested, IsWithinBound, VerdictIsMembership, Words}
use Rattle.headline.proofs.Fronts.{kept_whole, accepted_where_kept, word_not_rejected, bound_where_deep}

erase_twice : (t : List Event) → erase (erase t) ≡ erase t
erase_twice [] = refl
erase_twice (Sys x xs r ∷ t) = ap (λ u. Sys x xs r ∷ u) (erase_twice t)
erase_twice (Pre s ∷ t) = erase_twice t
erase_twice (Post s ∷ t) = erase_twice t

-- whether the null calls were left out already or not, the abstract-stack model reads the same
erased_stack : (g : Graph) (t : List Event) → Reads Stack g t → Reads Stack g (erase t)
erased_stack g t s = (s.0, s.1, s.2, s.3, s.4, subst (λ (u : List Event). StackRun g s.0 [] u s.2 s.3) (sym (erase_twice t)) s.5)

pub nested : (p : Program) → HasTheWords p → ((g : Graph) (t : List Event) → Reads Dyck g t → Reads Stack g t) → ((g : Graph) (t : List Event) → Reads Stack g t → Reads Callgraph g t) → AreNested p
nested p has dyck stack = record {
  dyck = λ t word. has.stack.back (erase t) (erased_stack (graph_of_program p) t (dyck (graph_of_program p) t (has.dyck.into t word)));
  stack = λ t word. has.callgraph.back t (stack (graph_of_program p) t (has.stack.into t word));
}

pub models_of : (p : Program) → HasTheWords p → (w : Which) → AreEqual (Words w p) (Reads w (graph_of_program p))
models_of p has Callgraph = record { into = has.callgraph.into; back = has.callgraph.back }
models_of p has Stack = record { into = has.stack.into; back = has.stack.back }
models_of p has Dyck = record { into = has.dyck.into; back = has.dyck.back }

of_kept : (p : Program) → HasTheWords p → (w : Which) (bound : ℕ) (t : List Event) → IsKept w (graph_of_program p) bound t → Words w p t × IsWithinBound w bound t
of_kept p has Callgraph bound t kept = (has.callgraph.back t kept, tt)
of_kept p has Stack bound t kept = (has.stack.back t kept, tt)
of_kept p has Dyck bound t kept = (has.dyck.back t kept.0, kept.1)

to_kept : (p : Program) → HasTheWords p → (w : Which) (bound : ℕ) (t : List Event) → Words w p t → IsWithinBound w bound t → IsKept w (graph_of_program p) bound t
to_kept p has Callgraph bound t word within = has.callgraph.into t word
to_kept p has Stack bound t word within = has.stack.into t word
to_kept p has Dyck bound t word within = (has.dyck.into t word, within)

deep_bound : (p : Program) → HasTheWords p → (w : Which) (bound : ℕ) (t : List Event) → w ≡ Dyck → Words w p t → bound < depth t → (k : ℕ) × IsVerdict w (graph_of_program p) bound t (Bound k)
deep_bound p has Callgraph bound t is word deep = cc is
deep_bound p has Stack bound t is word deep = cc is
deep_bound p has Dyck bound t is word deep = bound_where_deep (graph_of_program p) bound t (has.dyck.into t word) deep

pub verdict_is_membership : (p : Program) → HasTheWords p → (w : Which) (bound : ℕ) (t : List Event) → VerdictIsMembership w p bound t
verdict_is_membership p has w bound t = record {
  words = λ verdict. of_kept p has w bound t (kept_whole w (graph_of_program p) bound t verdict);
  accepted = λ word within. accepted_where_kept w (graph_of_program p) bound t (to_kept p has w bound t word within);
  bounded = λ is word deep. deep_bound p has w bound t is word deep;
  never_rejected = λ word k verdict. word_not_rejected w (graph_of_program p) bound t k ((models_of p has w).into t word) verdict;
}
