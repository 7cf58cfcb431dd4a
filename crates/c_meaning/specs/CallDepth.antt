-- Functions that call functions of a lower rank alone, and how many calls may be open at once in what they do (Giffin, Jha and Miller 2004).
use Rattle.std.specs.Prelude.{ℕ, ◌<◌, ◌≤◌, List, Contains}
use Rattle.dm_base.specs.declared.event.Event.{Event}
use Rattle.dm_base.specs.Trace.{depth}
use Rattle.c_meaning.specs.Shape.{Shape, Skip, Sys, Exit, Call, Seq, Alt, Loop, Do, Cases, Break, Continue, Return, Parts, End, Part, Shapes, shape_of}
use Rattle.c_meaning.specs.Languages as shapes
use Rattle.c_meaning.specs.ProgramLanguages as programs
use Rattle.c_meaning.specs.ShapeOf.{shapes_of}
use Rattle.c_tree.specs.Tree.{Program}

-- each call in the shape goes to functions whose ranks are below k
abbrev mutual
  pub CallsAreBelow : (candidates : ℕ → List ℕ) → (rank : ℕ → ℕ) → (k : ℕ) → Shape → Type 0
  CallsAreBelow candidates rank k Skip = Unit {0}
  CallsAreBelow candidates rank k (Sys x q) = Unit {0}
  CallsAreBelow candidates rank k (Exit q) = Unit {0}
  CallsAreBelow candidates rank k (Call s) = (f : ℕ) → Contains (candidates s) f → rank f < k
  CallsAreBelow candidates rank k (Seq S ps) = CallsAreBelow candidates rank k S × CallsInAreBelow candidates rank k ps
  CallsAreBelow candidates rank k (Alt S T) = CallsAreBelow candidates rank k S × CallsAreBelow candidates rank k T
  CallsAreBelow candidates rank k (Loop C B P) =
      CallsAreBelow candidates rank k C × CallsAreBelow candidates rank k B × CallsAreBelow candidates rank k P
  CallsAreBelow candidates rank k (Do B C) = CallsAreBelow candidates rank k B × CallsAreBelow candidates rank k C
  CallsAreBelow candidates rank k (Cases ps d) = CallsInAreBelow candidates rank k ps
  CallsAreBelow candidates rank k Break = Unit {0}
  CallsAreBelow candidates rank k Continue = Unit {0}
  CallsAreBelow candidates rank k Return = Unit {0}

  pub CallsInAreBelow : (candidates : ℕ → List ℕ) → (rank : ℕ → ℕ) → (k : ℕ) → Parts → Type 0
  CallsInAreBelow candidates rank k End = Unit {0}
  CallsInAreBelow candidates rank k (Part S ps) = CallsAreBelow candidates rank k S × CallsInAreBelow candidates rank k ps

-- each function's calls go to functions of a lower rank
abbrev pub CallsDescend : (rank : ℕ → ℕ) → Shapes → Type 0
CallsDescend rank env = (f : ℕ) → CallsAreBelow env.candidates rank (rank f) (shape_of env f)

-- then no more calls are open at once than the rank of main says
abbrev pub OpenCallsAreBounded : Type 0
OpenCallsAreBounded =
    (rank : ℕ → ℕ) (env : Shapes) → CallsDescend rank env → (t : List Event) → shapes.Dyck env t → depth t ≤ rank env.main

-- and likewise for a program
abbrev pub OpenCallsOfProgramsAreBounded : Type 0
OpenCallsOfProgramsAreBounded =
    (rank : ℕ → ℕ) (p : Program) → CallsDescend rank (shapes_of p) → (t : List Event) → programs.Dyck p t → depth t ≤ rank p.main
