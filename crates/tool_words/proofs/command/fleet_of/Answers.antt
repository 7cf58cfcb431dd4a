use Rattle.std.proofs.Common.{◌≡◌, ℕ, List, [], ◌∷◌}
use Rattle.flow_model.specs.declared.which.Which.{Which}
use Rattle.report.specs.VerdictLine.{word_of}
use Rattle.tool_words.specs.Command.{IsCommandLine}
use Rattle.tool_words.specs.Command.Command.{Fleet}
use Rattle.tool_words.proofs.command.fleet_of.Goals as goal

other_monitor : (word schedule which : List ℕ) → ((w : Which) → which ≡ word_of w → ⊥) → (s : List ℕ) (w : Which) → IsCommandLine (Fleet s w) (word ∷ schedule ∷ which ∷ []) → ⊥
other_monitor word schedule which other s w line = let same : which ≡ word_of w = cc line in other w same

pub returns-in_err-monitor-clause-none : goal.returns-in_err-monitor-clause-none
returns-in_err-monitor-clause-none c =
    rw c.from_residual.ensures (other_monitor c.args.word.now c.args.schedule.now c.args.which.now c.in_err-monitor.ensures.none)
