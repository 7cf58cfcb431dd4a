-- What `selftest NUMBER SIZE` writes: the audit of the generated program with its recorded results, 1,000,000 turns and at most 1,000 open
-- calls, by the monitors of the program's own model.
use Rattle.std.specs.Prelude.{◌≡◌, ℕ, ◌-◌, List, ◌++◌, length, codes, decimal}
use Rattle.dm_base.specs.declared.mode.Mode.TheVariants.{Plain}
use Rattle.dm_base.specs.declared.verdict.Verdict.TheVariants.{Accepted}
use Rattle.c_meaning.specs.MarkedRuns.{marked_run}
use Rattle.c_meaning.specs.Runs.{Run}
use Rattle.c_rules.specs.Accepted.{IsAcceptedAs}
use Rattle.c_tree.specs.Functions.{defined}
use Rattle.c_tree.specs.Sites.{sites_of_program}
use Rattle.c_tree.specs.Tree.{Program}
use Rattle.c_meaning.specs.GraphOfProgram.{graph_of_program}
use Rattle.generated_program.specs.Generator.{generated_source, generated_results}
use Rattle.generated_program.specs.Typed.{generated_program}
use Rattle.generated_program.specs.Bounds.{marked_sites}
use Rattle.report.specs.Precision.{next_text}
use Rattle.tool_audit.specs.Audit.{AreVerdicts, AreNext, lines_of}

-- how many functions the program defines, how many call expressions it has, round how many of them null calls stand, how many nodes its
-- graph has, and how many events its run makes
abbrev pub summary_text : Program → Run → List ℕ
summary_text p r =
    codes "functions " ++ decimal (defined p) ++ codes " sites " ++ decimal (length (sites_of_program p)) ++ codes " marked " ++ decimal (length (marked_sites p))
    ++ codes " nodes " ++ decimal (graph_of_program p).nodes ++ codes " events " ++ decimal (length r.trace) ++ codes "\n"

-- the run of the generated program with null calls round its marked calls
abbrev pub generated_run : (number last : ℕ) → Run
generated_run number last = marked_run (generated_program number last) (generated_results last) 1000000

-- The generated text is accepted as the generated program, all three monitors accept the trace of its run whole, and the text has the
-- summary, their lines, and that of the calls that may come next. The functions before main have the numbers 0 to size − 1.
pub record TellsSelftest (number size : ℕ) (text : List ℕ) : Type 0 where
  pub accepted : IsAcceptedAs (generated_source number (size - 1)) Plain (generated_program number (size - 1))
  pub verdicts : AreVerdicts (graph_of_program (generated_program number (size - 1))) 1000 (generated_run number (size - 1)).trace (Accepted (length (generated_run number (size - 1)).trace))
  pub callgraph_next : ℕ
  pub stack_next : ℕ
  pub dyck_next : ℕ
  pub next : AreNext (graph_of_program (generated_program number (size - 1))) 1000 (generated_run number (size - 1)).trace callgraph_next stack_next dyck_next
  pub tells : text ≡ summary_text (generated_program number (size - 1)) (generated_run number (size - 1))
      ++ (lines_of (generated_run number (size - 1)).trace (Accepted (length (generated_run number (size - 1)).trace)) ++ next_text callgraph_next stack_next dyck_next)
