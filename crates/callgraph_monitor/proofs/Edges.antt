-- The edges that leave a node, and the nodes to which they lead.
use Rattle.std.proofs.Common.{◌≡◌, ℕ, ◌<◌, ◌⊎◌, Bool, nat_eq, List, length, get_or, filter, Contains, Some, refl, sym, ap, ◌∙◌, subst, inl, inr, arith}
use Rattle.std.specs.Prelude.{slice_get}
use Rattle.std.specs.List.{list_any}
use Rattle.std.proofs.lemmas.Bool.{eqb-true, eq-eqb}
use Rattle.std.proofs.lemmas.Option.{same_Some, slice_get-get_or}
use Rattle.dm_base.specs.declared.event.Event.{Event}
use Rattle.dm_base.specs.Fits.{Fits}
use Rattle.flow_model.specs.declared.records.ModelFunction.{ModelFunction}
use Rattle.flow_model.specs.declared.records.SysEdge.{SysEdge}
use Rattle.flow_model.specs.Call.{Call}
use Rattle.flow_model.specs.Graph.{Graph, HasSilent}
use Rattle.flow_model.specs.Language.{Quiet}
use Rattle.flow_model.specs.Language.Quiet.{silent, enter, leave}
use Rattle.flow_model.specs.Growth.{HasOne}
use Rattle.callgraph_monitor.specs.Ahead.{IsAhead, BeginsAt, Enters, EntersFrom, ReturnsTo, LeavesTo, calls_of}
use Rattle.callgraph_monitor.specs.Visits.{calls_from}
use Rattle.flow_model.proofs.Items.{filter-contains, filter-pass, contains-filter}
use Rattle.flow_model.proofs.EdgeLemmas.{any_of_contains}
use Rattle.flow_model.proofs.SilentEnds.{contains_of_any}
pub use Rattle.flow_model.proofs.EdgeLemmas.{site_at}

-- The system-call edges that leave a node.
module _ (g : Graph) (event : Event) (node : ℕ) where
  abbrev leaves_by_call : SysEdge → Bool
  leaves_by_call e = nat_eq e.from node

  pub sys_end : (b : ℕ) → HasOne (λ e n. Fits e.name e.args event × (e.to ≡ n)) (filter leaves_by_call g.sys) b → IsAhead g event node b
  sys_end b (e, has, (fits, to)) =
      let from : e.from ≡ node = eqb-true e.from node (filter-pass leaves_by_call g.sys e has) in
      let same : e ≡ record { from = node; name = e.name; to = b; args = e.args } = λ i. record { from = from i; name = e.name; to = to i; args = e.args } in
      (e.name, e.args, subst (Contains g.sys) same (filter-contains leaves_by_call g.sys e has), fits)

  pub end_of_sys : (b : ℕ) → IsAhead g event node b → HasOne (λ e n. Fits e.name e.args event × (e.to ≡ n)) (filter leaves_by_call g.sys) b
  end_of_sys b (x, p, has, fits) =
      let e : SysEdge = record { from = node; name = x; to = b; args = p } in
      (e, contains-filter leaves_by_call g.sys e has.0 has.1 has.2 (eq-eqb node node refl), (fits, refl))

-- a function begins at its entry alone
pub begins_at : (g : Graph) (f : ℕ) (one : ModelFunction) → slice_get g.functions f ≡ Some one → (b : ℕ) → one.entry ≡ b → BeginsAt g f b
begins_at g f one has b is = (one.exit, record { one = one; has = has; begins = is; ends = refl })

pub begins_only : (g : Graph) (f : ℕ) (one : ModelFunction) → slice_get g.functions f ≡ Some one → (b : ℕ) → BeginsAt g f b → one.entry ≡ b
begins_only g f one has b (exit, function) = ap (λ (m : ModelFunction). m.entry) (same_Some one function.one (sym has ∙ function.has)) ∙ function.begins

-- The call edges that leave a node.
module _ (g : Graph) (node : ℕ) where
  pub call_from : (c : Call) → Contains (calls_from g node) c → Contains g.calls c
  call_from c has = filter-contains (λ (d : Call). nat_eq d.from node) g.calls c has

  pub enters_end : (b : ℕ) → HasOne (Enters g) (calls_from g node) b → EntersFrom g node b
  enters_end b (c, has, is) = (c, call_from c has, eqb-true c.from node (filter-pass (λ (d : Call). nat_eq d.from node) g.calls c has), is)

  pub end_of_enters : (b : ℕ) → EntersFrom g node b → HasOne (Enters g) (calls_from g node) b
  end_of_enters b (c, has, from, is) = (c, contains-filter (λ (d : Call). nat_eq d.from node) g.calls c has.0 has.1 has.2 (eq-eqb c.from node from), is)

-- The call edges that may enter a function.
module _ (g : Graph) (f : ℕ) where
  abbrev may_enter : Call → Bool
  may_enter c = list_any (λ h. nat_eq h f) c.candidates

  pub call_of : (c : Call) → Contains (calls_of g f) c → Contains g.calls c
  call_of c has = filter-contains may_enter g.calls c has

  pub returns_end : (b : ℕ) → HasOne (λ c n. c.to ≡ n) (calls_of g f) b → ReturnsTo g f b
  returns_end b (c, has, to) = (c, call_of c has, contains_of_any f c.candidates (filter-pass may_enter g.calls c has), to)

  pub end_of_returns : (b : ℕ) → ReturnsTo g f b → HasOne (λ c n. c.to ≡ n) (calls_of g f) b
  end_of_returns b (c, has, one, to) = (c, contains-filter may_enter g.calls c has.0 has.1 has.2 (any_of_contains f c.candidates one.0 one.1 one.2), to)

-- the steps that read nothing are of three kinds
module _ (g : Graph) (node : ℕ) where
  pub quiet_of : (b : ℕ) → (HasSilent g node b ⊎ EntersFrom g node b) ⊎ LeavesTo g node b → Quiet g node b
  quiet_of b (inl (inl has)) = silent has
  quiet_of b (inl (inr (c, has, from, (f, one, (exit, function))))) =
      enter (record { call = c; has = has; from = from; site = refl; to = refl; candidate = one }) function
  quiet_of b (inr (f, entry, function, (c, has, one, to))) =
      leave (record { call = c; has = has; from = refl; site = refl; to = to; candidate = one }) function

  pub of_quiet : (b : ℕ) → Quiet g node b → (HasSilent g node b ⊎ EntersFrom g node b) ⊎ LeavesTo g node b
  of_quiet b (silent has) = inl (inl has)
  of_quiet b (enter {f = f} {exit = exit} call function) = inl (inr (call.call, call.has, call.from, (f, call.candidate, (exit, function))))
  of_quiet b (leave {f = f} {entry = entry} call function) = inr (f, entry, function, (call.call, call.has, call.candidate, call.to))

-- the function at a place
pub function_at : (g : Graph) (functions : List ModelFunction) (f : ℕ) (d : ModelFunction) → functions ≡ g.functions → f < length g.functions → slice_get g.functions f ≡ Some (get_or functions f d)
function_at g functions f d same lt = subst (λ xs. slice_get g.functions f ≡ Some (get_or xs f d)) (sym same) (slice_get-get_or g.functions f d lt)
