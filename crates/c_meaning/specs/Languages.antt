-- The languages of a program's shapes: what a run of the program may show of its system calls.
use Rattle.std.specs.Prelude.{List, []}
use Rattle.dm_base.specs.declared.event.Event.{Event}
use Rattle.dm_base.specs.Trace.{erase}
use Rattle.c_meaning.specs.Shape.{Shapes, shape_of}
use Rattle.c_meaning.specs.Words.{Marks, brackets, no_brackets, Front}
use Rattle.c_meaning.specs.Walks.{before, Walks}

-- the words that can be read from the start of the main function's shape
abbrev pub Words : Marks → Shapes → List Event → Type 0
Words m env t = Front env m (shape_of env env.main) t []

-- with null calls round each call at a site (Giffin, Jha and Miller 2004)
abbrev pub Dyck : Shapes → List Event → Type 0
Dyck env t = Words brackets env t

-- without null calls; a trace with null calls counts where what is left without them is a word (Wagner and Dean 2001, the abstract stack model)
abbrev pub Stack : Shapes → List Event → Type 0
Stack env t = Words no_brackets env (erase t)

-- the words of walks from before the main function's shape; null calls count likewise (Wagner and Dean 2001, the callgraph model)
abbrev pub Callgraph : Shapes → List Event → Type 0
Callgraph env t = Walks env env.main before (erase t)
