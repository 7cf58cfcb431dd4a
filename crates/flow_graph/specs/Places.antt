-- For private contracts and proofs alone: places of functions, and calls at sites.
use Rattle.std.specs.Prelude.{ℕ, ◌+◌, ◌-◌, nat_lt, List, length, filter, if◌then◌else◌}
use Rattle.std.specs.Ordering.{nat_cmp}
use Rattle.flow_graph.specs.declared.sites.SiteEdge.{SiteEdge}
use Rattle.flow_model.specs.Call.{Call}
use Rattle.c_meaning.specs.Sorted.{sorted}

-- where the function with this number stands among so many defined ones and the taken system calls
abbrev pub place_at : ℕ → List ℕ → ℕ → ℕ
place_at n taken f = if nat_lt f n then f else n + length (filter (λ x. nat_lt x (f - n)) taken)

-- the call along the edge
abbrev pub call_of : (ℕ → List ℕ) → SiteEdge → Call
call_of candidates e = record { from = e.from; site = e.site; to = e.to; candidates = sorted nat_cmp (candidates e.site) }
