-- How many edges and candidate entries are read at a node.
use Rattle.std.specs.Prelude.{ℕ, ◌+◌, Bool, false, List, length, filter, sum_by, count_by, nat_eq, slice_get}
use Rattle.std.specs.Option.{option_map_or}
use Rattle.flow_model.specs.Call.{Call}
use Rattle.flow_model.specs.Graph.{Graph}

-- the call edges that leave the node
abbrev pub calls_from : Graph → ℕ → List Call
calls_from g node = filter (λ c. nat_eq c.from node) g.calls

-- whether the function ends at the node
abbrev pub does_end : Graph → ℕ → ℕ → Bool
does_end g node f = option_map_or (λ one. nat_eq one.exit node) (slice_get g.functions f) false

-- how many silent edges leave the node
abbrev pub silent_cost : Graph → ℕ → ℕ
silent_cost g node = length (filter (λ e. nat_eq e.from node) g.silent)

-- how many call edges leave the node, with their candidates
abbrev pub enter_cost : Graph → ℕ → ℕ
enter_cost g node = sum_by (λ c. 1 + length c.candidates) (calls_from g node)

-- how many candidate entries name functions that end at the node
abbrev pub leave_cost : Graph → ℕ → ℕ
leave_cost g node = sum_by (λ c. count_by (does_end g node) c.candidates) g.calls

-- all of these
abbrev pub visit_cost : Graph → ℕ → ℕ
visit_cost g node = silent_cost g node + enter_cost g node + leave_cost g node
