-- For private contracts and proofs alone: what the fields of a program stand for.
use Rattle.c_tree.specs.declared.program.Program.TheInside.{Inside}
use Rattle.c_tree.specs.View.{Parts, program_of}
use Rattle.c_tree.specs.Counts.{AreCounts}
use Rattle.c_tree.specs.Program.{IsProgram}

abbrev pub parts_in : Inside → Parts
parts_in p = record { structs = p.structs.items; functions = p.functions.items; main = p.main; statics = p.statics.items }

-- the program is well-typed, and the numbers of its sites and of the cells of its structs are right
pub record IsRight (p : Inside) : Type 0 where
  pub typed : IsProgram (program_of (parts_in p)) p.sites
  pub counts : AreCounts (program_of (parts_in p)).structs p.struct_cells.items
