-- Why no process of an instrumented program raises an alarm in a fleet.
use Rattle.std.proofs.Common.{◌≡◌, ℕ, List, take, sym, subst}
use Rattle.dm_base.specs.declared.event.Event.{Event}
use Rattle.dm_base.specs.declared.mode.Mode.TheVariants.{Instrumented}
use Rattle.dm_io.specs.Store.{file_at}
use Rattle.c_meaning.specs.MarkedRuns.{marked_run}
use Rattle.c_meaning.specs.Monitors.{IsAcceptedByAll}
use Rattle.c_meaning.specs.Runs.{Run, run}
use Rattle.c_rules.specs.Accepted.{IsAcceptedAs}
use Rattle.tool_fleet.specs.Standing.{Standing}
use Rattle.tool_fleet.specs.Standing.TheVariants as standings
use Rattle.tool_fleet.specs.Alone.{IsAlone}
use Rattle.c_meaning.specs.GraphOfProgram.{graph_of_program}
use Rattle.flow_model.specs.declared.which.Which.{Which}
use Rattle.flow_model.specs.declared.which.Which.TheVariants.{Callgraph, Stack, Dyck}
use Rattle.flow_model.specs.Graph.{Graph}
use Rattle.flow_model.specs.Verdict.{IsAccepted, IsRejectedAt, IsBoundAt}
use Rattle.flow_model.proofs.Histories.{accepted_whole}
use Rattle.flow_model.proofs.Verdicts.{kept-within}
use Rattle.headline.specs.AcceptedRuns.{TextsRaiseNoAlarm}
use Rattle.headline.specs.Headline.{IsWithinBound, TheHeadline}
use Rattle.model_file.specs.Refusal.{IsModel}
use Rattle.tool_fleet.specs.Fleet.{advances_of}
use Rattle.tool_laws.specs.FleetRuns.{FleetsRaiseNoAlarm, IsNoAlarm, OpensTooMany}

-- what is accepted is within the bound
within_bound : (which : Which) (g : Graph) (bound : ℕ) (t : List Event) → IsAccepted which g bound t → IsWithinBound which bound t
within_bound Callgraph g bound t accepted = tt
within_bound Stack g bound t accepted = tt
within_bound Dyck g bound t accepted = (accepted_whole Dyck g bound t accepted).1

-- none of the three monitors rejects a trace that all accept
never_rejected : (which : Which) (g : Graph) (bound : ℕ) (t : List Event) (m : ℕ) → IsAcceptedByAll g bound t → IsRejectedAt which g bound t m → ⊥
never_rejected Callgraph g bound t m all at = at.refused (all.others.callgraph.1.kept m at.within)
never_rejected Stack g bound t m all at = at.refused (all.others.stack.1.kept m at.within)
never_rejected Dyck g bound t m all at = all.never_rejected m at

too_many : (which : Which) (g : Graph) (bound : ℕ) (t : List Event) (m : ℕ) → IsBoundAt which g bound t m → OpensTooMany bound t m
too_many which g bound t m at = record { deep = at.deep; before = λ j less. kept-within which g bound (take j t) at.dyck (at.kept j less) }

no_alarm : (which : Which) (g : Graph) (bound : ℕ) (r : Run) (k : ℕ) (s : Standing) → IsAcceptedByAll g bound r.trace → IsAlone which g bound r k s → IsNoAlarm which bound r.trace s
no_alarm which g bound r k (standings.Open n) all alone = subst (λ (i : ℕ). IsWithinBound which bound (take i r.trace)) (sym alone.0) (within_bound which g bound (take k r.trace) alone.2)
no_alarm which g bound r k (standings.Ended n outcome) all alone = within_bound which g bound r.trace alone.2
no_alarm which g bound r k (standings.Rejected m e) all alone = never_rejected which g bound r.trace m all alone.2
no_alarm which g bound r k (standings.Bound m e) all alone = ((alone.2).dyck, too_many which g bound r.trace m alone.2)

pub fleets_quiet : ((text : List ℕ) (g h : Graph) → IsModel text g → IsModel text h → g ≡ h) → TextsRaiseNoAlarm → TheHeadline → FleetsRaiseNoAlarm
fleets_quiet one alarm headline files which order l report is text p reading is_text is_model =
    let runs : run is.process.program is.process.records l.turns ≡ marked_run p is.process.records l.turns =
    (headline text p reading).runs is.process.program (subst (λ (w : List ℕ). IsAcceptedAs w Instrumented is.process.program) is_text is.process.accepted) is.process.records l.turns in
    let graph : is.process.graph ≡ graph_of_program p = one (file_at files l.model) is.process.graph (graph_of_program p) is.process.is_model is_model in
    let all : IsAcceptedByAll (graph_of_program p) l.bound (run is.process.program is.process.records l.turns).trace =
    subst (λ (r : Run). IsAcceptedByAll (graph_of_program p) l.bound r.trace) (sym runs) ((alarm text p reading).marked_accepted is.process.records l.turns l.bound) in
    no_alarm which is.process.graph l.bound (run is.process.program is.process.records l.turns) (advances_of order l.pid) report.standing (subst (λ (g : Graph). IsAcceptedByAll g l.bound (run is.process.program is.process.records l.turns).trace) (sym graph) all) is.alone
