-- What the table of sites stands for: the call at each site, where it is marked.
use Rattle.std.specs.Prelude.{◌≡◌, ℕ, Option, None, Some, slice_index_or}
use Rattle.std.specs.Borrow.{Bor}
use Rattle.c_tree.specs.declared.tree.CType.{CType as TypeTree}
use Rattle.c_tree.specs.Tree.{CType}
use Rattle.c_tree.specs.View.{ctype_of, types_of}
use Rattle.null_calls_laws.specs.MarkedCalls as term
use Rattle.null_calls_laws.specs.MarkedCalls.{Sites}
use Rattle.null_calls_temporaries.specs.declared.table.Called.{Called}
use Rattle.null_calls_temporaries.specs.declared.marked_sites.Marked.{Marked}
use Rattle.null_calls_temporaries.specs.declared.marked_sites.MarkedSites.{MarkedSites}

abbrev pub type_where : Option (Bor TypeTree) → Option CType
type_where None = None
type_where (Some t) = Some (ctype_of t.now)

abbrev pub called_of : Called → term.Called
called_of c = record { pointer_type = type_where c.pointer_type; returns = ctype_of c.returns.now; parameters = types_of c.parameters.now }

abbrev pub called_where : Option Called → Option term.Called
called_where None = None
called_where (Some c) = Some (called_of c)

abbrev pub sited : MarkedSites → Sites
sited table s = called_where (slice_index_or table.calls.items s None)

-- the call is the one that the table has at the site, where it has one
abbrev pub IsCallAt : Option Marked → ℕ → Option term.Called → Type 0
IsCallAt None s o = o ≡ None
IsCallAt (Some m) s o = (m.site ≡ s) × (o ≡ Some (called_of m.called))
