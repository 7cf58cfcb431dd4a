-- The sites of the call edges, by node and by function.
use Rattle.std.specs.Prelude.{ℕ, List, filter, map, nat_eq}
use Rattle.std.specs.List.{list_any}
use Rattle.flow_model.specs.Graph.{Graph}

-- the sites of the call edges that leave the node, in the order of the call edges
abbrev pub sites_from : Graph → ℕ → List ℕ
sites_from g node = map (λ c. c.site) (filter (λ c. nat_eq c.from node) g.calls)

-- the sites of the call edges that may enter the function, in the order of the call edges
abbrev pub sites_of : Graph → ℕ → List ℕ
sites_of g function = map (λ c. c.site) (filter (λ c. list_any (λ f. nat_eq f function) c.candidates) g.calls)
