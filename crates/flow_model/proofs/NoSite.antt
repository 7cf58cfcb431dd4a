-- Lemmas that several crates above use.
use Rattle.std.proofs.Common.{Contains, ℕ, ◌≡◌}
use Rattle.dm_base.specs.Adding.{Has}
use Rattle.flow_model.specs.Call.{Call}
use Rattle.flow_model.specs.Graph.{Graph}

pub no_site : (g : Graph) (site : ℕ) (P : Call → Type 0) → ((c : Call) → Contains g.calls c → c.site ≡ site → ⊥) → Has (λ c. (c.site ≡ site) × P c) g.calls → ⊥
no_site g site P none (c, has, (is, p)) = none c has is
