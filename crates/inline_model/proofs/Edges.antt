-- The edges that leave a node, and the nodes to which they lead.
use Rattle.std.proofs.Common.{◌≡◌, ℕ, Bool, nat_eq, List, filter, Contains, refl, subst, arith}
use Rattle.std.specs.List.{list_any}
use Rattle.std.proofs.lemmas.Bool.{eqb-true, eq-eqb}
use Rattle.dm_sets.specs.Nodes.{Nodes, Has}
use Rattle.flow_model.specs.declared.records.SysEdge.{SysEdge}
use Rattle.flow_model.specs.Call.{Call}
use Rattle.flow_model.specs.Graph.{Graph}
use Rattle.flow_model.specs.Growth.{HasOne}
use Rattle.inline_model.specs.Saturating.{MayPass, CallsTo, PassesTo, ReturnsTo}
use Rattle.flow_model.proofs.Items.{filter-contains, filter-pass, contains-filter}
use Rattle.flow_model.proofs.EdgeLemmas.{any_of_contains}
use Rattle.flow_model.proofs.SilentEnds.{contains_of_any}
pub use Rattle.flow_model.proofs.EdgeLemmas.{site_at}

-- the call edges that leave the node
abbrev pub calls_from : Graph → ℕ → List Call
calls_from g node = filter (λ c. nat_eq c.from node) g.calls

-- the call edges that may enter the function
abbrev pub calls_of : Graph → ℕ → List Call
calls_of g function = filter (λ c. list_any (λ f. nat_eq f function) c.candidates) g.calls

-- The system-call edges that leave a node.
module _ (g : Graph) (node : ℕ) where
  abbrev leaves_by_call : SysEdge → Bool
  leaves_by_call e = nat_eq e.from node

  pub sys_end : (b : ℕ) → HasOne (λ e n. e.to ≡ n) (filter leaves_by_call g.sys) b → CallsTo g node b
  sys_end b (e, has, to) =
      let from : e.from ≡ node = eqb-true e.from node (filter-pass leaves_by_call g.sys e has) in
      let same : e ≡ record { from = node; name = e.name; to = b; args = e.args } = λ i. record { from = from i; name = e.name; to = to i; args = e.args } in
      (e.name, e.args, subst (Contains g.sys) same (filter-contains leaves_by_call g.sys e has))

  pub end_of_sys : (b : ℕ) → CallsTo g node b → HasOne (λ e n. e.to ≡ n) (filter leaves_by_call g.sys) b
  end_of_sys b (x, p, has) =
      let e : SysEdge = record { from = node; name = x; to = b; args = p } in
      (e, contains-filter leaves_by_call g.sys e has.0 has.1 has.2 (eq-eqb node node refl), refl)

-- what a call edge adds, where one of its candidates has its exit in the set
abbrev pub Passes : Graph → Nodes → Call → ℕ → Type 0
Passes g done c b = MayPass g done c × (c.to ≡ b)

-- what a call edge adds, where it leaves a node of the set
abbrev pub Returns : Nodes → Call → ℕ → Type 0
Returns done c b = Has done c.from × (c.to ≡ b)

-- The call edges that leave a node.
module _ (g : Graph) (done : Nodes) (node : ℕ) where
  pub call_from : (c : Call) → Contains (calls_from g node) c → Contains g.calls c
  call_from c has = filter-contains (λ (d : Call). nat_eq d.from node) g.calls c has

  pub passes_end : (b : ℕ) → HasOne (Passes g done) (calls_from g node) b → PassesTo g done node b
  passes_end b (c, has, is) = (c, call_from c has, eqb-true c.from node (filter-pass (λ (d : Call). nat_eq d.from node) g.calls c has), is.0, is.1)

  pub end_of_passes : (b : ℕ) → PassesTo g done node b → HasOne (Passes g done) (calls_from g node) b
  end_of_passes b (c, has, from, may, to) = (c, contains-filter (λ (d : Call). nat_eq d.from node) g.calls c has.0 has.1 has.2 (eq-eqb c.from node from), (may, to))

-- The call edges that may enter a function.
module _ (g : Graph) (done : Nodes) (f : ℕ) where
  abbrev may_enter : Call → Bool
  may_enter c = list_any (λ h. nat_eq h f) c.candidates

  pub call_of : (c : Call) → Contains (calls_of g f) c → Contains g.calls c
  call_of c has = filter-contains may_enter g.calls c has

  pub returns_end : (b : ℕ) → HasOne (Returns done) (calls_of g f) b → ReturnsTo g done f b
  returns_end b (c, has, is) = (c, call_of c has, contains_of_any f c.candidates (filter-pass may_enter g.calls c has), is.0, is.1)

  pub end_of_returns : (b : ℕ) → ReturnsTo g done f b → HasOne (Returns done) (calls_of g f) b
  end_of_returns b (c, has, one, from, to) = (c, contains-filter may_enter g.calls c has.0 has.1 has.2 (any_of_contains f c.candidates one.0 one.1 one.2), (from, to))
