-- The law that a unit that the rules type is a well-typed program.
use Rattle.std.specs.Prelude.{ℕ}
use Rattle.dm_base.specs.declared.mode.Mode.{Mode}
use Rattle.c_tree.specs.Tree.{Program}
use Rattle.c_tree.specs.Program.{IsProgram}
use Rattle.c_syntax.specs.Tree.{Items}
use Rattle.c_rules.specs.Scopes.{nothing_before}
use Rattle.c_rules.specs.Items.{after_items}
use Rattle.c_rules.specs.Units.{env_before, IsTyped}
use Rattle.c_rules_laws.specs.Lexical.{IsUnitLexical}

-- the calls that are evaluated in a unit
abbrev pub calls_of_unit : Mode → Items → ℕ
calls_of_unit m u = (after_items (env_before m u) nothing_before u).sites

-- what the rules type is well-typed, and has those call expressions
abbrev pub TypedUnitsArePrograms : Type 0
TypedUnitsArePrograms = (u : Items) (m : Mode) (p : Program) → IsUnitLexical u → IsTyped u m p → IsProgram p (calls_of_unit m u)
