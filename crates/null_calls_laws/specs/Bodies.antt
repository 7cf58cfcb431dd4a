-- The law that the calls in the bodies of a program stand at their sites.
use Rattle.std.specs.Prelude.{◌≡◌, ℕ, false, List, Contains}
use Rattle.c_tree.specs.Tree.{Function, Program}
use Rattle.c_tree.specs.Tree as typed
use Rattle.c_tree.specs.Program.{IsProgram}
use Rattle.c_syntax.specs.Tree.{BlockItems}
use Rattle.c_rules.specs.Checked.{fine}
use Rattle.c_rules.specs.Names.{Name}
use Rattle.c_rules.specs.Scopes.{Env, Before}
use Rattle.c_rules.specs.Tags.{tags_of_block}
use Rattle.c_rules.specs.Variables.{Next, calls_of_block}
use Rattle.c_rules.specs.Blocks.{StatementTree}
use Rattle.c_rules.specs.Statements.{Around, items_of_block}
use Rattle.null_calls_laws.specs.MarkedCalls.{sites_of}
use Rattle.null_calls_laws.specs.InstrumentedStatements.{kept_of_block}
use Rattle.null_calls_laws.specs.Spelled.{AreAmong}
use Rattle.null_calls_laws.specs.CountedStatements.{BlockNamed}
use Rattle.null_calls_laws.specs.StatementsBeside.{BlockTabled}
use Rattle.null_calls_laws.specs.AbstractCasts.{BlockNamesNoType}
use Rattle.null_calls_laws.specs.Scopes.{IsWrittenScope, AreTemporaries}

-- each call of the body stands at its site, and its temporaries have types that declarators make and names that differ
pub record IsTabledBody (p : Program) (enums tags stood : List Name) (env : Env) (b : Before) (next : Next) (is : BlockItems) : Type 0 where
  pub tabled : BlockTabled p (sites_of p) env b next is
  pub named : BlockNamed (sites_of p) b.sites is
  pub temporaries : AreTemporaries enums tags stood b.sites (calls_of_block is) (kept_of_block (sites_of p) b.sites is)

-- a body that is fine is such a one, where it is the body of a function of the program and its tags stand before
abbrev pub BodiesAreTabled : Type 0
BodiesAreTabled =
    (p : Program) (n : ℕ) → IsProgram p n → (enums tags stood : List Name) (env : Env) → IsWrittenScope p enums tags stood env → (a : Around) (b : Before) (next : Next) (is : BlockItems)
    → AreAmong tags (tags_of_block false is) → AreAmong stood (tags_of_block false is) → BlockNamesNoType is
    → (q : StatementTree typed.Stmts) → items_of_block env a b next is ≡ fine q → (f : Function) → Contains p.functions f → f.body ≡ typed.block q.tree → IsTabledBody p enums tags stood env b next is
