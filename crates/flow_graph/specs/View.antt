-- The terms that shapes of Rust are seen as.
use Rattle.std.specs.Prelude.{List, [], ◌∷◌, map}
use Rattle.flow_graph.specs.declared.shape.Shape.{Shape as Tree, Row_of-Shape, end_of-Shape, more_of-Shape}
use Rattle.flow_graph.specs.declared.shape.Shape.{Skip as Skip', Sys as Sys', Exit as Exit', Call as Call', Seq', Alt', Loop', Do', Cases', Break as Break', Continue as Continue', Return as Return'}
use Rattle.c_meaning.specs.Shape.{Shape, Skip, Sys, Exit, Call, Seq, Alt, Loop, Do, Cases, Break, Continue, Return, Parts, End, Part}

abbrev mutual
  pub shape_of : Tree → Shape
  shape_of Skip' = Skip
  shape_of (Sys' x q) = Sys x q
  shape_of (Exit' q) = Exit q
  shape_of (Call' s) = Call s
  shape_of (Seq' p t shape row) = Seq (shape_of t) (parts_of_row row)
  shape_of (Alt' p t q u) = Alt (shape_of t) (shape_of u)
  shape_of (Loop' p t q u r w) = Loop (shape_of t) (shape_of u) (shape_of w)
  shape_of (Do' p t q u) = Do (shape_of t) (shape_of u)
  shape_of (Cases' shape row d) = Cases (parts_of_row row) d
  shape_of Break' = Break
  shape_of Continue' = Continue
  shape_of Return' = Return

  pub parts_of_row : {m : _} → Row_of-Shape m → Parts
  parts_of_row end_of-Shape = End
  parts_of_row (more_of-Shape t rest) = Part (shape_of t) (parts_of_row rest)

-- shapes in a list
abbrev pub parts_of : List Tree → Parts
parts_of [] = End
parts_of (t ∷ ts) = Part (shape_of t) (parts_of ts)

-- shapes of functions
abbrev pub shapes_in : List Tree → List Shape
shapes_in ts = map shape_of ts
