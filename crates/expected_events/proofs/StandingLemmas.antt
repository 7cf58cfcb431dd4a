-- What may come next, where the nodes of a set are those at which a reading may end.
use Rattle.std.proofs.Common.{◌≡◌, ◌⊎◌, ◌↔◌, ℕ, ◌+◌, ◌<◌, ◌≤◌, true, false, IsTrue, List, [], ◌∷◌, length, take, get_or, Contains, Option, Some, None, refl, sym, subst, inl, inr, arith}
use Rattle.std.specs.Ordering.{nat_cmp}
use Rattle.std.specs.FinSet.{insert, empty}
use Rattle.std.proofs.lemmas.Bool.{false≢true}
use Rattle.std.proofs.lemmas.List.{get_or_default, take_all}
use Rattle.dm_base.specs.declared.event.Event.{Event}
use Rattle.dm_sets.specs.Nodes.{Nodes, Has}
use Rattle.flow_model.specs.declared.which.Which.{Which}
use Rattle.flow_model.specs.declared.which.Which.TheVariants.{Dyck}
use Rattle.flow_model.specs.Graph.{Graph, Owns, HasFunction}
use Rattle.flow_model.specs.Order.{StrictlyRise}
use Rattle.flow_model.specs.Rules.{IsValid}
use Rattle.flow_model.proofs.FoundLemmas.{has_insert, has_inserted, has_still, has_none as in_none}
use Rattle.dyck_monitor.specs.Standing.{IsReached}
use Rattle.stack_automaton.specs.declared.place.Edge.{Edge}
use Rattle.dm_base.specs.Adding.{Has as HasOne}
use Rattle.dm_base.proofs.AddingLemmas.{has_more, has_none}
use Rattle.stack_automaton.proofs.ReadingLemmas.{owned_below, sys_below, call_below}
use Rattle.expected_events.specs.declared.called.Called.{Called}
use Rattle.expected_events.specs.declared.finding.Found.{Found}
use Rattle.expected_events.specs.Marked.{OwnsOne, IsCalledBy, IsOpenedBy, IsClosedAt, seen}
use Rattle.expected_events.specs.Next.{MayStand, MayBeIn, MayCall, MayOpen, MayClose, IsNext, called_order}

module _ (which : Which) (g : Graph) (valid : IsValid g) (h : List Event) (at : Nodes) (is : (a : ℕ) → a < g.nodes → Has at a ↔ MayStand which g h a) where
  functions_exact : (f : ℕ) → OwnsOne g at f ↔ MayBeIn which g h f
  functions_exact f = (
    λ (a, has, owns). (a, (is a (owned_below g.functions g.nodes valid.entries f a owns)).0 has, owns),
    λ (a, stands, owns). (a, (is a (owned_below g.functions g.nodes valid.entries f a owns)).1 stands, owns),
  )

  calls_exact : (c : Called) → HasOne (IsCalledBy at c) g.sys ↔ MayCall which g h c.name c.args
  calls_exact c = (
    λ (e, has, (stands, same)). (e.from, e.to, (is e.from (sys_below g e valid has)).0 stands, subst (λ (d : Called). Contains g.sys (record { from = e.from; name = d.name; to = e.to; args = d.args })) (sym same) has),
    λ (a, b, stands, edge).
        let below = sys_below g (record { from = a; name = c.name; to = b; args = c.args }) valid edge in
        (record { from = a; name = c.name; to = b; args = c.args }, edge, ((is a below).1 stands, refl)),
  )

  module _ (found : Found)
      (functions : (f : ℕ) → Contains found.functions.items f ↔ OwnsOne g at f)
      (functions_rise : StrictlyRise nat_cmp found.functions.items)
      (calls : (c : Called) → Contains found.calls.items c ↔ HasOne (IsCalledBy at c) g.sys)
      (calls_rise : StrictlyRise called_order found.calls.items)
      (opened_rise : StrictlyRise nat_cmp found.opened.items) where
    next_is : ((s : ℕ) → Contains found.opened.items s ↔ MayOpen which g h s) → ((s : ℕ) → (found.closed ≡ Some s) ↔ MayClose which g h s) → IsNext which g h (seen found)
    next_is opened closed = record {
      functions = λ f. (λ has. (functions_exact f).0 ((functions f).0 has), λ may. (functions f).1 ((functions_exact f).1 may));
      functions_rise = functions_rise;
      calls = λ c. (λ has. (calls_exact c).0 ((calls c).0 has), λ may. (calls c).1 ((calls_exact c).1 may));
      calls_rise = calls_rise;
      opened = opened;
      opened_rise = opened_rise;
      closed = closed;
    }

    -- where sites are not read
    pub quiet_next : ((s : ℕ) → Contains found.opened.items s ↔ (IsTrue false × HasOne (IsOpenedBy at s) g.calls)) → ((s : ℕ) → (found.closed ≡ Some s) ↔ IsClosedAt g at None s) → ((s : ℕ) → MayOpen which g h s → ⊥) → ((s : ℕ) → MayClose which g h s → ⊥) → IsNext which g h (seen found)
    quiet_next opened closed open_none close_none = next_is
        (λ s. (λ has. absurd (false≢true ((opened s).0 has).0), λ may. absurd (open_none s may)))
        (λ s. (λ same. let none : None ≡ Some s = ((closed s).0 same).0 in absurd cc, λ may. absurd (close_none s may)))

-- the same in the Dyck model, which reads sites
module _ (g : Graph) (valid : IsValid g) (h : List Event) (at : Nodes) (is : (a : ℕ) → a < g.nodes → Has at a ↔ MayStand Dyck g h a) where
  opened_exact : (s : ℕ) → HasOne (IsOpenedBy at s) g.calls ↔ MayOpen Dyck g h s
  opened_exact s = (
    λ (c, has, (site, stands, (f, candidate))). (c.from, c.to, f, (is c.from (call_below g c valid has)).0 stands, record { call = c; has = has; from = refl; site = site; to = refl; candidate = candidate }),
    λ (a, b, f, stands, call).
        let below : a < g.nodes = subst (λ n. n < g.nodes) call.from (call_below g call.call valid call.has) in
        (call.call, call.has, (call.site, subst (Has at) (sym call.from) ((is a below).1 stands), (f, call.candidate))),
  )

  exit_below : (f entry exit : ℕ) → HasFunction g f entry exit → exit < g.nodes
  exit_below f entry exit function = owned_below g.functions g.nodes valid.entries f exit (subst (Owns g.functions g.nodes f) function.ends (valid.exits f function.one function.has))

  module _ (top : Option ℕ) (tops : (v s : ℕ) → ((z : List ℕ) × IsReached g h v (s ∷ z)) ↔ (((z : List ℕ) × IsReached g h v z) × (top ≡ Some s))) where
    closed_exact : (s : ℕ) → IsClosedAt g at top s ↔ MayClose Dyck g h s
    closed_exact s = (
      λ (same, (a, b, f, entry, exit, call, function, stands)).
          let (z, reached) = (tops exit s).1 ((is exit (exit_below f entry exit function)).0 stands, same) in
          (a, b, f, entry, exit, z, call, function, reached),
      λ (a, b, f, entry, exit, z, call, function, reached).
          let (there, same) = (tops exit s).0 (z, reached) in
          (same, (a, b, f, entry, exit, call, function, (is exit (exit_below f entry exit function)).1 there)),
    )

    pub dyck_next : (found : Found)
        → ((f : ℕ) → Contains found.functions.items f ↔ OwnsOne g at f)
        → StrictlyRise nat_cmp found.functions.items
        → ((c : Called) → Contains found.calls.items c ↔ HasOne (IsCalledBy at c) g.sys)
        → StrictlyRise called_order found.calls.items
        → ((s : ℕ) → Contains found.opened.items s ↔ (IsTrue true × HasOne (IsOpenedBy at s) g.calls))
        → StrictlyRise nat_cmp found.opened.items
        → ((s : ℕ) → (found.closed ≡ Some s) ↔ IsClosedAt g at top s)
        → IsNext Dyck g h (seen found)
    dyck_next found functions functions_rise calls calls_rise opened opened_rise closed =
        next_is Dyck g valid h at is found functions functions_rise calls calls_rise opened_rise
        (λ s. (λ has. (opened_exact s).0 ((opened s).0 has).1, λ may. (opened s).1 (refl, (opened_exact s).1 may)))
        (λ s. (λ same. (closed_exact s).0 ((closed s).0 same), λ may. (closed s).1 ((closed_exact s).1 may)))

-- a node is added to a set that has room for it
pub marked_room : (old : Nodes) (node : ℕ) (a : ℕ) → Has (record old { members = insert old.members node }) a ↔ (Has old a ⊎ (a ≡ node))
marked_room old node a = (
  λ has. elim (has_insert old node a has) as (λ _. Has old a ⊎ (a ≡ node)) [ inl same ↦ inr same | inr was ↦ inl was ],
  λ s. elim s as (λ _. Has (record old { members = insert old.members node }) a) [
    | inl was ↦ has_still old node a was
    | inr same ↦ subst (Has (record old { members = insert old.members node })) (sym same) (has_inserted old node)
  ],
)

-- The labels of the first edges are in a set.
module _ (nodes : ℕ) where
  pub labels_none : (at : Nodes) (size : ℕ) → at ≡ record { size = size; members = empty } → (a : ℕ) → a < nodes → Has at a ↔ HasOne (λ (e : Edge). e.label ≡ a) []
  labels_none at size is a below = (
    λ has. absurd (in_none size a (subst (λ s. Has s a) is has)),
    λ has. absurd (has_none (λ (e : Edge). e.label ≡ a) has),
  )

  pub labels_more : (old new : Nodes) (edges : List Edge) (i : ℕ) (none : Edge) → i < length edges → old.size ≡ nodes → ((a : ℕ) → a < nodes → Has old a ↔ HasOne (λ (e : Edge). e.label ≡ a) (take i edges))
      → ((a : ℕ) → a < old.size → Has new a ↔ (Has old a ⊎ (a ≡ (get_or edges i none).label))) → (a : ℕ) → a < nodes → Has new a ↔ HasOne (λ (e : Edge). e.label ≡ a) (take (i + 1) edges)
  labels_more old new edges i none lt size before marked a below =
      let edge = get_or edges i none in
      let more = has_more (λ (e : Edge). e.label ≡ a) edges i edge lt (get_or_default edges i none edge lt) in
      let step = marked a (omega (arith, size, below)) in (
        λ has. more.1 (elim (step.0 has) as (λ _. HasOne (λ (e : Edge). e.label ≡ a) (take i edges) ⊎ (edge.label ≡ a)) [ inl was ↦ inl ((before a below).0 was) | inr same ↦ inr (sym same) ]),
        λ has. step.1 (elim (more.0 has) as (λ _. Has old a ⊎ (a ≡ edge.label)) [ inl was ↦ inl ((before a below).1 was) | inr same ↦ inr (sym same) ]),
      )

  pub labels_all : (at : Nodes) (edges : List Edge) (i : ℕ) → length edges ≤ i → ((a : ℕ) → a < nodes → Has at a ↔ HasOne (λ (e : Edge). e.label ≡ a) (take i edges)) → (a : ℕ) → a < nodes → Has at a ↔ ((q : ℕ) × Contains edges (record { label = a; to = q }))
  labels_all at edges i past before a below =
      let all : Has at a ↔ HasOne (λ (e : Edge). e.label ≡ a) edges = subst (λ xs. Has at a ↔ HasOne (λ (e : Edge). e.label ≡ a) xs) (take_all i edges past) (before a below) in (
        λ has. let (e, there, label) = all.0 has in (e.to, subst (λ l. Contains edges (record { label = l; to = e.to })) label there),
        λ (q, there). all.1 (record { label = a; to = q }, there, refl),
      )
