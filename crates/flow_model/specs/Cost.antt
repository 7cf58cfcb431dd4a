-- How many edges and candidate entries an event may take.
use Rattle.std.specs.Prelude.{ℕ, ◌+◌, ◌*◌, length, sum_by}
use Rattle.flow_model.specs.Graph.{Graph}

-- how many candidate entries the call edges have together
abbrev pub candidate_count : Graph → ℕ
candidate_count g = sum_by (λ c. length c.candidates) g.calls

-- the nodes, the edges of all three kinds, and each candidate entry twice: once to enter and once to leave
abbrev pub most_steps : Graph → ℕ
most_steps g = g.nodes + length g.silent + length g.sys + length g.calls + 2 * candidate_count g
