-- The tags of structs in the body of a function with null calls round its marked calls.
use Rattle.std.specs.Prelude.{◌≡◌, ℕ, Bool}
use Rattle.c_syntax.specs.Tree.{BlockItems}
use Rattle.c_rules.specs.Tags.{tags_of_block}
use Rattle.null_calls_laws.specs.MarkedCalls.{Sites}
use Rattle.null_calls_laws.specs.InstrumentedStatements.{items_of_block}
use Rattle.null_calls_laws.specs.CountedStatements.{BlockNamed}

-- they are those of the plain one, in order
abbrev pub TagsStay : Type 0
TagsStay = (sites : Sites) (aside : Bool) (b : ℕ) (is : BlockItems) → BlockNamed sites b is → tags_of_block aside (items_of_block sites b is) ≡ tags_of_block aside is
