-- The orders in which a model keeps its edges.
use Rattle.std.specs.Prelude.{◌≡◌, List, AllPairs}
use Rattle.std.specs.declared.cmp.Ordering.{Ordering}
use Rattle.std.specs.declared.cmp.Ordering.TheVariants.{Less}
use Rattle.std.specs.Ordering.{nat_cmp, ordering_then}
use Rattle.dm_base.specs.Pattern.{pattern_cmp}
use Rattle.flow_model.specs.declared.records.SilentEdge.{SilentEdge}
use Rattle.flow_model.specs.declared.records.SysEdge.{SysEdge}
use Rattle.flow_model.specs.Call.{Call}

-- by the first node, then by the second
abbrev pub silent_order : SilentEdge → SilentEdge → Ordering
silent_order d e = ordering_then (nat_cmp d.from e.from) (nat_cmp d.to e.to)

-- by the first node, then by the number of the system call, then by the second node, then by the pattern
abbrev pub sys_order : SysEdge → SysEdge → Ordering
sys_order d e = ordering_then (nat_cmp d.from e.from) (ordering_then (nat_cmp d.name e.name) (ordering_then (nat_cmp d.to e.to) (pattern_cmp d.args e.args)))

-- by the site
abbrev pub site_order : Call → Call → Ordering
site_order c d = nat_cmp c.site d.site

-- each item goes before each later one, so none stands twice
abbrev pub StrictlyRise : {X : Type 0} → (X → X → Ordering) → List X → Type 0
StrictlyRise {X} order items = AllPairs (λ x y. order x y ≡ Less) items
