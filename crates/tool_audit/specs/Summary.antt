-- For private contracts and proofs alone: the summary by the program and the numbers of nodes and events.
use Rattle.std.specs.Prelude.{ℕ, List, ◌++◌, length, codes, decimal}
use Rattle.c_tree.specs.Functions.{defined}
use Rattle.c_tree.specs.Sites.{sites_of_program}
use Rattle.c_tree.specs.Tree.{Program}
use Rattle.generated_program.specs.Bounds.{marked_sites}

-- what is told of the program
abbrev pub program_counts : Program → List ℕ
program_counts p =
    codes "functions " ++ decimal (defined p) ++ codes " sites " ++ decimal (length (sites_of_program p)) ++ codes " marked " ++ decimal (length (marked_sites p))

-- what is told of its graph and its run
abbrev pub run_counts : (nodes events : ℕ) → List ℕ
run_counts nodes events = codes " nodes " ++ decimal nodes ++ codes " events " ++ decimal events ++ codes "\n"

-- both
abbrev pub counts_text : Program → (nodes events : ℕ) → List ℕ
counts_text p nodes events =
    codes "functions " ++ decimal (defined p) ++ codes " sites " ++ decimal (length (sites_of_program p)) ++ codes " marked " ++ decimal (length (marked_sites p))
    ++ codes " nodes " ++ decimal nodes ++ codes " events " ++ decimal events ++ codes "\n"
