-- The variables that a part of a body declares.
use Rattle.std.specs.Prelude.{List, [], ◌∷◌, ◌++◌, if◌then◌else◌}
use Rattle.c_check_bodies.specs.declared.statement_tree.Variables.{Variables}
use Rattle.c_rules.specs.Blocks.{StatementTree}
use Rattle.c_rules.specs.Names.{Name, is_added}
use Rattle.c_tree.specs.Tree.{CType}
use Rattle.c_tree.specs.View.{ctypes_of}

-- their types, the instrumenter's apart
pub record Declared : Type 0 where
  pub plain : List CType
  pub added : List CType

abbrev pub variables_of : Variables → Declared
variables_of v = record { plain = ctypes_of v.plain.items; added = ctypes_of v.added.items }

abbrev pub none_declared : Declared
none_declared = record { plain = []; added = [] }

-- a variable with this name and type
abbrev pub one_declared : Name → CType → Declared
one_declared x t = if is_added x then record { plain = []; added = t ∷ [] } else record { plain = t ∷ []; added = [] }

abbrev pub both_declared : Declared → Declared → Declared
both_declared p q = record { plain = p.plain ++ q.plain; added = p.added ++ q.added }

-- a tree with these variables
abbrev pub laid_with : {A : Type 0} → Declared → A → StatementTree A
laid_with v a = record { tree = a; plain = v.plain; added = v.added }
