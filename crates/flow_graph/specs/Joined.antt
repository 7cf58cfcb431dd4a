-- For private contracts and proofs alone: lists of parts one after another.
use Rattle.std.specs.Prelude.{Bool, true, false, List, [], ◌∷◌}
use Rattle.c_meaning.specs.Shape.{Shape, Skip, Parts, End, Part}

-- parts, and others after them
abbrev pub joined : Parts → Parts → Parts
joined End qs = qs
joined (Part S ps) qs = Part S (joined ps qs)

-- whether a shape is nothing
abbrev pub is_skip : Shape → Bool
is_skip Skip = true
is_skip S = false
