-- A word of a program's language is accepted by the monitor of the program's graph.
use Rattle.std.proofs.Common.{ℕ, suc, ◌≤◌, List, ◌∷◌, take, drop, refl, sym, subst, arith}
use Rattle.std.proofs.lemmas.List.{take-append-drop}
use Rattle.dm_base.specs.declared.event.Event.{Event}
use Rattle.dm_base.specs.declared.event.Event.TheVariants.{Sys, Pre, Post}
use Rattle.dm_base.specs.Trace.{depth}
use Rattle.c_meaning.specs.Which.TheVariants as which
use Rattle.c_meaning.specs.Language.{Reads}
use Rattle.c_tree.specs.Tree.{Program}
use Rattle.c_tree.specs.Program.{IsProgram}
use Rattle.c_meaning.specs.ProgramLanguages.{Dyck, Stack, Callgraph}
use Rattle.c_meaning.specs.ShapeOf.{shapes_of, names_of_functions}
use Rattle.c_meaning.proofs.Erasing.{front}
use Rattle.c_meaning.proofs.Fronts.{dyck_front, stack_front, callgraph_front}
use Rattle.c_meaning.proofs.Walking.{walked}
use Rattle.dm_base.specs.Trace.{erase}
use Rattle.c_meaning.specs.GraphOfProgram.{graph_of_program}
use Rattle.c_meaning.proofs.Runs as graphs
use Rattle.c_meaning.proofs.ProgramsClosed.{closed, many_names}
use Rattle.c_meaning.specs.Monitors.{IsAcceptedByBoth, IsAcceptedByAll, MonitorsAcceptRuns, MonitorsAcceptMarkedRuns}
use Rattle.c_meaning.proofs.NoAlarm.{runs_raise_none, marked_runs_raise_none}

-- no first part is deeper than the whole
depth_cut : (k : ℕ) (t : List Event) → depth (take k t) ≤ depth t
depth_cut (suc k) (Sys x xs r ∷ t) = depth_cut k t
depth_cut (suc k) (Pre s ∷ t) = let h = depth_cut k t in omega (arith, h)
depth_cut (suc k) (Post s ∷ t) = let h = depth_cut k t in omega (arith, h)
depth_cut k t = omega arith

module _ (p : Program) (n : ℕ) (right : IsProgram p n) where
  dyck_at : (t : List Event) (k : ℕ) → Dyck p t → Reads which.Dyck (graph_of_program p) (take k t)
  dyck_at t k h = (graphs.dyck (names_of_functions p) (shapes_of p) (closed p n right) (many_names p)).into (take k t) (dyck_front (shapes_of p) (take k t) (drop k t) (subst (Dyck p) (sym (take-append-drop k t)) h))

  both : (t : List Event) (bound : ℕ) → Stack p t → Callgraph p t → IsAcceptedByBoth (graph_of_program p) bound t
  both t bound h l = record {
    callgraph = (refl, record { kept = λ k le. (graphs.callgraph (names_of_functions p) (shapes_of p) (closed p n right) (many_names p)).into (take k t) (callgraph_front (shapes_of p) (take k t) (drop k t) (subst (Callgraph p) (sym (take-append-drop k t)) l)) });
    stack = (refl, record { kept = λ k le. (graphs.stack (names_of_functions p) (shapes_of p) (closed p n right) (many_names p)).into (take k t) (stack_front (shapes_of p) (take k t) (drop k t) (subst (Stack p) (sym (take-append-drop k t)) h)) });
  }

  all : (t : List Event) (bound : ℕ) → Dyck p t → IsAcceptedByAll (graph_of_program p) bound t
  all t bound h =
      let s : Stack p t = front (shapes_of p) h in
      record {
        others = both t bound s (walked (shapes_of p) p.main (erase t) s);
        dyck = λ few. (refl, record { kept = λ k le. (dyck_at t k h, (let i = depth_cut k t in omega (arith, i, few))) });
        never_rejected = λ k r. r.refused (dyck_at t k h);
      }

pub accept_runs : MonitorsAcceptRuns
accept_runs p n right records turns bound =
    let h = runs_raise_none p n right records turns in both p n right _ bound h.0 h.1

pub accept_marked_runs : MonitorsAcceptMarkedRuns
accept_marked_runs p n right free records turns bound =
    all p n right _ bound (marked_runs_raise_none p n right free records turns)
