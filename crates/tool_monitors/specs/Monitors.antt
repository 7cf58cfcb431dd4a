-- The monitors that are asked for, and by which word.
use Rattle.std.specs.Prelude.{ℕ, List, [], ◌∷◌, codes}
use Rattle.flow_model.specs.declared.which.Which.{Which}
use Rattle.flow_model.specs.declared.which.Which.TheVariants.{Callgraph, Stack, Dyck}
use Rattle.report.specs.VerdictLine.{word_of}
use Rattle.tool_monitors.specs.declared.asked.Asked.{Asked}
use Rattle.tool_monitors.specs.declared.asked.Asked.TheVariants as asked

-- the monitors, in the order of their lines
abbrev pub monitors_of : Asked → List Which
monitors_of asked.Callgraph = Callgraph ∷ []
monitors_of asked.Stack = Stack ∷ []
monitors_of asked.Dyck = Dyck ∷ []
monitors_of asked.All = Callgraph ∷ Stack ∷ Dyck ∷ []

-- the word that asks for monitors
abbrev pub asked_word : Asked → List ℕ
asked_word asked.Callgraph = word_of Callgraph
asked_word asked.Stack = word_of Stack
asked_word asked.Dyck = word_of Dyck
asked_word asked.All = codes "all"
