-- For private contracts and proofs alone: what is called at sites.
use Rattle.std.specs.Prelude.{ℕ, ◌<◌, Bool, true, false, nat_eq, Option, None, Some, if◌then◌else◌}
use Rattle.c_tree.specs.Tree.{Program}
use Rattle.c_tree.specs.Functions.{defined}
use Rattle.c_tree.specs.View.{ctype_of}
use Rattle.c_meaning.specs.Mentions as term
use Rattle.c_meaning.specs.Mentions.{Callee, Direct, Through}
use Rattle.null_calls_temporaries.specs.declared.callees.Designator.{Designator}
use Rattle.null_calls_temporaries.specs.declared.callees.Designator.TheVariants as d

-- what is called
abbrev pub callee_of : Designator → Callee
callee_of (d.Function f) = Direct f
callee_of (d.Pointer t) = Through (ctype_of t.now)

abbrev pub callee_where : Option Designator → Option Callee
callee_where None = None
callee_where (Some x) = Some (callee_of x)

-- the first where the test holds, else the second
abbrev pub put_where : Bool → Designator → Option Designator → Option Designator
put_where true x y = Some x
put_where false x y = y

-- what is called at a site, where a mention stands before others
abbrev pub callee_after : ℕ → term.Mention → Option Callee → Option Callee
callee_after s (term.Named f) rest = rest
callee_after s (term.Calls r callee) rest = if nat_eq s r then Some callee else rest

-- a function that is called by its name is a defined one
abbrev pub IsDefinedWhere : Program → Callee → Type 0
IsDefinedWhere p (Direct f) = f < defined p
IsDefinedWhere p (Through t) = Unit {0}
