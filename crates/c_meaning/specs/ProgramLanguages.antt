-- The languages of a program: those of its shapes.
use Rattle.std.specs.Prelude.{List}
use Rattle.dm_base.specs.declared.event.Event.{Event}
use Rattle.c_tree.specs.Tree.{Program}
use Rattle.c_meaning.specs.Languages as shapes
use Rattle.c_meaning.specs.ShapeOf.{shapes_of}

-- with null calls (Giffin, Jha and Miller 2004)
abbrev pub Dyck : Program → List Event → Type 0
Dyck p t = shapes.Dyck (shapes_of p) t

-- without null calls (Wagner and Dean 2001, the abstract stack model)
abbrev pub Stack : Program → List Event → Type 0
Stack p t = shapes.Stack (shapes_of p) t

-- along walks (Wagner and Dean 2001, the callgraph model)
abbrev pub Callgraph : Program → List Event → Type 0
Callgraph p t = shapes.Callgraph (shapes_of p) t
