-- The edges of one copy, and of the way to it.
use Rattle.std.proofs.Common.{◌≡◌, ◌↔◌, ◌⊎◌, inl, inr, ℕ, ◌<◌, ◌≤◌, nat_eq, filter, List, [], length, get_or, Some, true, false, Contains, refl, sym, ◌∙◌, ap, subst, arith}
use Rattle.std.specs.Prelude.{slice_get}
use Rattle.std.specs.declared.cmp.Ordering.{Ordering}
use Rattle.std.specs.declared.cmp.Ordering.TheVariants.{Equal}
use Rattle.std.proofs.lemmas.Bool.{eqb-true, eq-eqb, false≢true}
use Rattle.std.proofs.lemmas.Option.{slice_get-get_or}
use Rattle.flow_model.specs.declared.records.ModelFunction.{ModelFunction}
use Rattle.flow_model.specs.declared.records.SilentEdge.{SilentEdge}
use Rattle.flow_model.specs.declared.records.SysEdge.{SysEdge}
use Rattle.flow_model.specs.Call.{Call}
use Rattle.flow_model.specs.Graph.{Graph, Owns, end_of}
use Rattle.flow_model.specs.Rules.{IsValid}
use Rattle.inline_model.specs.Copies.{entry_of}
use Rattle.inline_model.proofs.Basics.{entry_is, has_function, owns_entry, silent_stays, sys_stays}
use Rattle.flow_model.proofs.Items.{filter-contains, filter-pass, contains-filter}
use Rattle.inline_model.specs.declared.copied.Copied.{Copied}
use Rattle.inline_model.specs.Drawn.{number_in, IsCopiedSilent, IsCopiedSys, IsLink}
use Rattle.inline_model.specs.Growing.{Adds, HasOne, HasNode, IsNumbered, IsSilentIn, IsSysIn, LeavesSilent, LeavesSys}

pub leaves_silent : (g : Graph) (item : Copied) (node : ℕ) (list : List SilentEdge) → list ≡ filter (λ e. nat_eq e.from node) g.silent → (e : SilentEdge) → HasOne (IsSilentIn g item) list e → LeavesSilent g item node e
leaves_silent g item node list same e (edge, has, is) =
    let there = subst (λ xs. Contains xs edge) same has in
    (edge, filter-contains (λ (d : SilentEdge). nat_eq d.from node) g.silent edge there, eqb-true edge.from node (filter-pass (λ (d : SilentEdge). nat_eq d.from node) g.silent edge there), is)

pub silent_leaves : (g : Graph) (item : Copied) (node : ℕ) (list : List SilentEdge) → list ≡ filter (λ e. nat_eq e.from node) g.silent → (e : SilentEdge) → LeavesSilent g item node e → HasOne (IsSilentIn g item) list e
silent_leaves g item node list same e (edge, has, from, is) =
    (edge, subst (λ xs. Contains xs edge) (sym same) (contains-filter (λ (d : SilentEdge). nat_eq d.from node) g.silent edge has.0 has.1 has.2 (eq-eqb edge.from node from)), is)

pub leaves_sys : (g : Graph) (item : Copied) (node : ℕ) (list : List SysEdge) → list ≡ filter (λ e. nat_eq e.from node) g.sys → (e : SysEdge) → HasOne (IsSysIn g item) list e → LeavesSys g item node e
leaves_sys g item node list same e (edge, has, is) =
    let there = subst (λ xs. Contains xs edge) same has in
    (edge, filter-contains (λ (d : SysEdge). nat_eq d.from node) g.sys edge there, eqb-true edge.from node (filter-pass (λ (d : SysEdge). nat_eq d.from node) g.sys edge there), is)

pub sys_leaves : (g : Graph) (item : Copied) (node : ℕ) (list : List SysEdge) → list ≡ filter (λ e. nat_eq e.from node) g.sys → (e : SysEdge) → LeavesSys g item node e → HasOne (IsSysIn g item) list e
sys_leaves g item node list same e (edge, has, from, is) =
    (edge, subst (λ xs. Contains xs edge) (sym same) (contains-filter (λ (d : SysEdge). nat_eq d.from node) g.sys edge has.0 has.1 has.2 (eq-eqb edge.from node from)), is)

-- what is read of a list that is this one
pub stands_at : {X : Type 0} (list read : List X) (place : ℕ) (x : X) → read ≡ list → place < length list → x ≡ get_or read place x → slice_get list place ≡ Some x
stands_at list read place x same lt at = slice_get-get_or list place x lt ∙ ap Some (ap (λ xs. get_or xs place x) (sym same) ∙ sym at)

-- the ends of an edge that leaves a node of the function
pub silent_ends : (g : Graph) → IsValid g → (f node : ℕ) (list : List SilentEdge) → list ≡ filter (λ e. nat_eq e.from node) g.silent → Owns g.functions g.nodes f node → (edge : SilentEdge) → Contains list edge → Owns g.functions g.nodes f edge.from × Owns g.functions g.nodes f edge.to
silent_ends g valid f node list same owns edge has =
    let there = subst (λ xs. Contains xs edge) same has in
    let from : edge.from ≡ node = eqb-true edge.from node (filter-pass (λ (d : SilentEdge). nat_eq d.from node) g.silent edge there) in
    let first : Owns g.functions g.nodes f edge.from = subst (Owns g.functions g.nodes f) (sym from) owns in
    (first, silent_stays valid {f = f} {a = edge.from} {b = edge.to} (filter-contains (λ (d : SilentEdge). nat_eq d.from node) g.silent edge there) first)

pub sys_ends : (g : Graph) → IsValid g → (f node : ℕ) (list : List SysEdge) → list ≡ filter (λ e. nat_eq e.from node) g.sys → Owns g.functions g.nodes f node → (edge : SysEdge) → Contains list edge → Owns g.functions g.nodes f edge.from × Owns g.functions g.nodes f edge.to
sys_ends g valid f node list same owns edge has =
    let there = subst (λ xs. Contains xs edge) same has in
    let from : edge.from ≡ node = eqb-true edge.from node (filter-pass (λ (d : SysEdge). nat_eq d.from node) g.sys edge there) in
    let first : Owns g.functions g.nodes f edge.from = subst (Owns g.functions g.nodes f) (sym from) owns in
    (first, sys_stays valid {f = f} {a = edge.from} {x = edge.name} {b = edge.to} {p = edge.args} (filter-contains (λ (d : SysEdge). nat_eq d.from node) g.sys edge there) first)

-- the nodes of a function
pub owns_between : (g : Graph) (f from to node : ℕ) → f < length g.functions → from ≡ entry_of g.functions f → to ≡ end_of g.functions g.nodes f → from ≤ node → node < to → Owns g.functions g.nodes f node
owns_between g f from to node lt from_is to_is least less =
    let there = has_function {g = g} f lt in
    record { one = there.0; has = there.1; from = omega (arith, least, from_is, entry_is g.functions f there.0 there.1); to = omega (arith, less, to_is) }

-- the number of a node of the copy's function
pub number_right : (g : Graph) (item : Copied) (node : ℕ) → IsNumbered g item → Owns g.functions g.nodes item.function node → (entry_of g.functions item.function ≤ node) × (number_in g item node < 200000)
number_right g item node numbered owns =
    let entry = entry_is g.functions item.function owns.one owns.has in
    (omega (arith, entry, owns.from), omega (arith, entry, owns.from, owns.to, numbered.few))

-- a function begins before its end
pub entry_first : (g : Graph) → IsValid g → (f : ℕ) (one : ModelFunction) → slice_get g.functions f ≡ Some one → entry_of g.functions f ≤ end_of g.functions g.nodes f
entry_first g valid f one has =
    let owns = owns_entry g.functions g.nodes f one valid.entries has in
    omega (arith, owns.to, entry_is g.functions f one has)

-- the edges of all nodes of the function
pub copied_silent : (g : Graph) (item : Copied) (one : ModelFunction) → slice_get g.functions item.function ≡ Some one → (from to : ℕ) → from ≡ entry_of g.functions item.function → to ≡ end_of g.functions g.nodes item.function → (e : SilentEdge) → HasNode (LeavesSilent g item) from to e → IsCopiedSilent g item e.from e.to
copied_silent g item one has from to from_is to_is e (a, least, less, (edge, there, leaves, is)) = record {
  from = edge.from;
  to = edge.to;
  has = there;
  owns = record { one = one; has = has; from = omega (arith, least, from_is, leaves, entry_is g.functions item.function one has); to = omega (arith, less, to_is, leaves) };
  i_is = is.from;
  j_is = is.to;
}

pub silent_copied : (g : Graph) (item : Copied) (from to : ℕ) → from ≡ entry_of g.functions item.function → to ≡ end_of g.functions g.nodes item.function → (e : SilentEdge) → IsCopiedSilent g item e.from e.to → HasNode (LeavesSilent g item) from to e
silent_copied g item from to from_is to_is e edge = (
  edge.from,
  omega (arith, edge.owns.from, from_is, entry_is g.functions item.function edge.owns.one edge.owns.has),
  omega (arith, edge.owns.to, to_is),
  (record { from = edge.from; to = edge.to }, edge.has, refl, record { from = edge.i_is; to = edge.j_is }),
)

pub copied_sys : (g : Graph) (item : Copied) (one : ModelFunction) → slice_get g.functions item.function ≡ Some one → (from to : ℕ) → from ≡ entry_of g.functions item.function → to ≡ end_of g.functions g.nodes item.function → (e : SysEdge) → HasNode (LeavesSys g item) from to e → IsCopiedSys g item e.from e.name e.args e.to
copied_sys g item one has from to from_is to_is e (a, least, less, (edge, there, leaves, is)) = record {
  from = edge.from;
  to = edge.to;
  has = subst (Contains g.sys) (λ i. record { from = edge.from; name = sym is.name i; to = edge.to; args = sym is.args i }) there;
  owns = record { one = one; has = has; from = omega (arith, least, from_is, leaves, entry_is g.functions item.function one has); to = omega (arith, less, to_is, leaves) };
  i_is = is.from;
  j_is = is.to;
}

pub sys_copied : (g : Graph) (item : Copied) (from to : ℕ) → from ≡ entry_of g.functions item.function → to ≡ end_of g.functions g.nodes item.function → (e : SysEdge) → IsCopiedSys g item e.from e.name e.args e.to → HasNode (LeavesSys g item) from to e
sys_copied g item from to from_is to_is e edge = (
  edge.from,
  omega (arith, edge.owns.from, from_is, entry_is g.functions item.function edge.owns.one edge.owns.has),
  omega (arith, edge.owns.to, to_is),
  (record { from = edge.from; name = e.name; to = edge.to; args = e.args }, edge.has, refl, record { from = edge.i_is; name = refl; to = edge.j_is; args = refl }),
)

-- the two edges between a copy and the one before it
module _ (g : Graph) (items : List Copied) (item before : Copied) (call : Call) (one : ModelFunction) (inner : item.root ≡ false)
    (stands : slice_get items item.parent ≡ Some before) (at : slice_get g.calls item.place ≡ Some call) (has : slice_get g.functions item.function ≡ Some one)
    (into back : SilentEdge) (into_from : into.from ≡ number_in g before call.from) (into_to : into.to ≡ number_in g item one.entry)
    (back_from : back.from ≡ number_in g item one.exit) (back_to : back.to ≡ number_in g before call.to) where
  pub link_of : (e : SilentEdge) → (into ≡ e) ⊎ (back ≡ e) → IsLink g items item e.from e.to
  link_of e either = record {
    inner = inner;
    before = before;
    stands = stands;
    call = call;
    at = at;
    entry = one.entry;
    exit = one.exit;
    function = record { one = one; has = has; begins = refl; ends = refl };
    either = elim either [
      | inl same ↦ inl (ap (λ (d : SilentEdge). d.from) (sym same) ∙ into_from, ap (λ (d : SilentEdge). d.to) (sym same) ∙ into_to)
      | inr same ↦ inr (ap (λ (d : SilentEdge). d.from) (sym same) ∙ back_from, ap (λ (d : SilentEdge). d.to) (sym same) ∙ back_to)
    ];
  }

  pub of_link : (e : SilentEdge) → IsLink g items item e.from e.to → (into ≡ e) ⊎ (back ≡ e)
  of_link e link =
      let befores : Some link.before ≡ Some before = sym link.stands ∙ stands in
      let before_is : link.before ≡ before = cc in
      let calls : Some link.call ≡ Some call = sym link.at ∙ at in
      let call_is : link.call ≡ call = cc in
      let functions : Some link.function.one ≡ Some one = sym link.function.has ∙ has in
      let one_is : link.function.one ≡ one = cc in
      let entry : link.entry ≡ one.entry = sym link.function.begins ∙ ap (λ (f : ModelFunction). f.entry) one_is in
      let exit : link.exit ≡ one.exit = sym link.function.ends ∙ ap (λ (f : ModelFunction). f.exit) one_is in
      elim link.either [
        | inl way ↦ inl (λ i. record {
          from = (into_from ∙ ap (λ (c : Call). number_in g before c.from) (sym call_is) ∙ ap (λ (b : Copied). number_in g b link.call.from) (sym before_is) ∙ sym way.0) i;
          to = (into_to ∙ ap (number_in g item) (sym entry) ∙ sym way.1) i;
        })
        | inr way ↦ inr (λ i. record {
          from = (back_from ∙ ap (number_in g item) (sym exit) ∙ sym way.0) i;
          to = (back_to ∙ ap (λ (c : Call). number_in g before c.to) (sym call_is) ∙ ap (λ (b : Copied). number_in g b link.call.to) (sym before_is) ∙ sym way.1) i;
        })
      ]

-- a root has no such edges
pub no_link : (g : Graph) (items : List Copied) (item : Copied) → item.root ≡ true → (e : SilentEdge) → IsLink g items item e.from e.to → ⊥
no_link g items item root e link = false≢true (sym link.inner ∙ root)

-- a list that was sorted, and of which equal items were left out, has the same items
pub same_items : {X : Type 0} (order : X → X → Ordering) → ((x y : X) → order x y ≡ Equal → x ≡ y) → (old new : List X) → ((x : X) → Contains new x → Contains old x) → ((x : X) → Contains old x → (y : X) × Contains new y × (order x y ≡ Equal)) → (x : X) → Contains new x ↔ Contains old x
same_items order tie old new from all x = (from x, λ has. let there = all x has in subst (Contains new) (sym (tie x there.0 there.2)) there.1)

pub from_nothing : {X : Type 0} {P : X → Type 0} (new : List X) → Adds [] new P → (e : X) → Contains new e ↔ P e
from_nothing new adds e = (λ has. elim ((adds e).0 has) [ inl none ↦ absurd (omega (arith, none.1)) | inr is ↦ is ], λ is. (adds e).1 (inr is))
