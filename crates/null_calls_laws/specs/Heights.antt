-- How deep the nodes of an instrumented unit stand in each other (C99 5.2.4.1): at most twice as deep as those of the plain one.
use Rattle.std.specs.Prelude.{ℕ, ◌*◌, ◌≤◌, Bool}
use Rattle.c_syntax.specs.Tree.{Expr, BlockItems}
use Rattle.c_syntax.specs.Limits.{height, height_of_block_items}
use Rattle.null_calls_laws.specs.MarkedCalls.{Sites}
use Rattle.null_calls_laws.specs.InstrumentedExpressions.{expr}
use Rattle.null_calls_laws.specs.InstrumentedStatements.{items_of_block}
use Rattle.null_calls_laws.specs.Counts.{AreNamed}
use Rattle.null_calls_laws.specs.CountedStatements.{BlockNamed}

-- of an expression, in which each marked call whose designator isn't kept names what it calls
abbrev pub ExpressionsStayLow : Type 0
ExpressionsStayLow = (sites : Sites) (b : ℕ) (wanted : Bool) (x : Expr) → AreNamed sites b x → height (expr sites b wanted x) ≤ 2 * height x

-- of the declarations and statements of a body
abbrev pub BlocksStayLow : Type 0
BlocksStayLow = (sites : Sites) (b : ℕ) (is : BlockItems) → BlockNamed sites b is → height_of_block_items (items_of_block sites b is) ≤ 2 * height_of_block_items is
