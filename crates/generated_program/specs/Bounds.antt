-- How large the generated program is.
use Rattle.std.specs.Prelude.{◌≡◌, ℕ, ◌+◌, ◌*◌, ◌≤◌, List, length, filter}
use Rattle.dm_base.specs.declared.event.Event.{Event}
use Rattle.dm_base.specs.Trace.{depth}
use Rattle.c_tree.specs.Tree.{Program}
use Rattle.c_tree.specs.Functions.{defined}
use Rattle.c_tree.specs.Sites.{sites_of_program}
use Rattle.c_meaning.specs.CallGraph.{marked}
use Rattle.c_meaning.specs.ProgramLanguages.{Dyck}
use Rattle.c_meaning.specs.ShapeOf.{shapes_of}
use Rattle.c_meaning.specs.GraphOfProgram.{graph_of_program}
use Rattle.c_meaning.specs.CallDepth.{CallsDescend}
use Rattle.generated_program.specs.Typed.{generated_program}

-- the sites round whose calls null calls stand
abbrev pub marked_sites : Program → List ℕ
marked_sites p = filter (marked p) (sites_of_program p)

-- the numbers of its functions, of its call expressions, of the marked ones and of its graph's nodes
pub record HasNumbers (p : Program) (functions sites marked nodes : ℕ) : Type 0 where
  pub functions_are : defined p ≡ functions
  pub sites_are : length (sites_of_program p) ≡ sites
  pub marked_are : length (marked_sites p) ≡ marked
  pub nodes_are : (graph_of_program p).nodes ≡ nodes

abbrev pub GeneratedProgramsAreSmall : Type 0
GeneratedProgramsAreSmall =
    (number last : ℕ) → HasNumbers (generated_program number last) (last + 2) (2 * last + 2) (last + 1) (4 * last + 9)

-- a function's rank is its number
abbrev pub number_of : ℕ → ℕ
number_of f = f

-- each function calls functions of lower numbers alone
abbrev pub GeneratedCallsDescend : Type 0
GeneratedCallsDescend = (number last : ℕ) → CallsDescend number_of (shapes_of (generated_program number last))

-- as many calls are open at once as there are functions before main, at most
abbrev pub GeneratedCallsAreFew : Type 0
GeneratedCallsAreFew = (number last : ℕ) (t : List Event) → Dyck (generated_program number last) t → depth t ≤ last + 1
