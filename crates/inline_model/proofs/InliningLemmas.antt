-- The inlined model from its parts.
use Rattle.std.proofs.Common.{◌≡◌, ◌↔◌, ℕ, ◌+◌, ◌<◌, ◌≤◌, List, [], ◌∷◌, ◌++◌, length, take, get_or, Some, Contains, refl, sym, ◌∙◌, ap, subst, arith}
use Rattle.std.specs.Prelude.{slice_get}
use Rattle.std.proofs.lemmas.List.{append_assoc, append-nil, take_more, take_all}
use Rattle.std.proofs.lemmas.Option.{slice_get-get_or}
use Rattle.flow_model.specs.declared.records.ModelFunction.{ModelFunction}
use Rattle.flow_model.specs.declared.records.SilentEdge.{SilentEdge}
use Rattle.flow_model.specs.declared.records.SysEdge.{SysEdge}
use Rattle.flow_model.specs.Built.{Records, graph_of_records}
use Rattle.flow_model.specs.Graph.{Graph}
use Rattle.flow_model.specs.Order.{silent_order, sys_order, StrictlyRise}
use Rattle.flow_model.specs.Rules.{IsValid}
use Rattle.inline_model.specs.Chains.{HasNoGreatest}
use Rattle.inline_model.specs.Copies.{node_count}
use Rattle.inline_model.specs.Inlined.{IsInlined, HasTooManyNodes}
use Rattle.inline_model.proofs.OneInlined.{one_list}
use Rattle.inline_model.specs.declared.copied.Copied.{Copied}
use Rattle.inline_model.specs.Named.{AreAllCopies}
use Rattle.inline_model.specs.Drawn.{IsDrawnSilent, IsDrawnSys}
use Rattle.inline_model.proofs.DrawnLemmas.{silent_drawn, drawn_silent, sys_is_drawn, drawn_sys}
use Rattle.inline_model.specs.declared.depths.Depth.{Depth}
use Rattle.inline_model.specs.declared.depths.Depth.TheVariants.{Greatest, Unbounded}
use Rattle.inline_model.specs.Cause.{IsBounded}
use Rattle.inline_model.specs.Depth.{HasLength}
use Rattle.inline_model.specs.Parts.{IsOnly, made_of}

-- the start stands in the list of functions
pub start_stands : (g : Graph) (functions : List ModelFunction) (start : ℕ) (one : ModelFunction) → functions ≡ g.functions → start ≡ g.start → start < length g.functions → one ≡ get_or functions start one → slice_get g.functions g.start ≡ Some one
start_stands g functions start one functions_is start_is lt at =
    subst (λ s. slice_get g.functions s ≡ Some one) start_is (slice_get-get_or g.functions start one lt ∙ ap Some (ap (λ fs. get_or fs start one) (sym functions_is) ∙ sym at))

-- records that are given one after another
pushed : {X : Type 0} (old xs : List X) (i : ℕ) (d x : X) → i < length xs → x ≡ get_or xs i d → (old ++ take i xs) ++ x ∷ [] ≡ old ++ take (i + 1) xs
pushed old xs i d x lt at = append_assoc old (take i xs) (x ∷ []) ∙ ap (λ ys. old ++ ys) (ap (λ z. take i xs ++ z ∷ []) at ∙ sym (take_more xs i d lt))

pub silent_none : (old : Records) (xs : List SilentEdge) → old ≡ record old { silent = old.silent ++ take 0 xs }
silent_none old xs = λ j. record old { silent = sym (append-nil old.silent) j }

pub silent_more : (old now new : Records) (xs : List SilentEdge) (i : ℕ) (d x : SilentEdge) → i < length xs → x ≡ get_or xs i d → now ≡ record old { silent = old.silent ++ take i xs } → new ≡ record now { silent = now.silent ++ x ∷ [] } → new ≡ record old { silent = old.silent ++ take (i + 1) xs }
silent_more old now new xs i d x lt at before step = step ∙ ap (λ (b : Records). record b { silent = b.silent ++ x ∷ [] }) before ∙ (λ j. record old { silent = pushed old.silent xs i d x lt at j })

pub silent_all : (old now : Records) (xs : List SilentEdge) (i : ℕ) → length xs ≤ i → now ≡ record old { silent = old.silent ++ take i xs } → now ≡ record old { silent = old.silent ++ xs }
silent_all old now xs i le before = before ∙ (λ j. record old { silent = old.silent ++ take_all i xs le j })

pub sys_none : (old : Records) (xs : List SysEdge) → old ≡ record old { sys = old.sys ++ take 0 xs }
sys_none old xs = λ j. record old { sys = sym (append-nil old.sys) j }

pub sys_more : (old now new : Records) (xs : List SysEdge) (i : ℕ) (d x : SysEdge) → i < length xs → x ≡ get_or xs i d → now ≡ record old { sys = old.sys ++ take i xs } → new ≡ record now { sys = now.sys ++ x ∷ [] } → new ≡ record old { sys = old.sys ++ take (i + 1) xs }
sys_more old now new xs i d x lt at before step = step ∙ ap (λ (b : Records). record b { sys = b.sys ++ x ∷ [] }) before ∙ (λ j. record old { sys = pushed old.sys xs i d x lt at j })

pub sys_all : (old now : Records) (xs : List SysEdge) (i : ℕ) → length xs ≤ i → now ≡ record old { sys = old.sys ++ take i xs } → now ≡ record old { sys = old.sys ++ xs }
sys_all old now xs i le before = before ∙ (λ j. record old { sys = old.sys ++ take_all i xs le j })

pub all_records : (start one two three : Records) (f : ModelFunction) (silent : List SilentEdge) (sys : List SysEdge) → start ≡ record { functions = []; silent = []; sys = []; calls = [] }
    → one ≡ record start { functions = start.functions ++ f ∷ [] } → two ≡ record one { silent = one.silent ++ silent } → three ≡ record two { sys = two.sys ++ sys }
    → three ≡ record { functions = f ∷ []; silent = silent; sys = sys; calls = [] }
all_records start one two three f silent sys empty a b c =
    c ∙ ap (λ (r : Records). record r { sys = r.sys ++ sys }) (b ∙ ap (λ (r : Records). record r { silent = r.silent ++ silent }) (a ∙ ap (λ (r : Records). record r { functions = r.functions ++ f ∷ [] }) empty))

-- the parts make the inlined model
made_inlined : (g : Graph) → IsValid g → (items : List Copied) → AreAllCopies g items → (nodes : ℕ) (one : ModelFunction) (silent : List SilentEdge) (sys : List SysEdge)
    → ((all : AreAllCopies g items) → nodes ≡ node_count g all.copies) → IsOnly g one
    → ((e : SilentEdge) → Contains silent e ↔ IsDrawnSilent g items e.from e.to) → StrictlyRise silent_order silent
    → ((e : SysEdge) → Contains sys e ↔ IsDrawnSys g items e.from e.name e.args e.to) → StrictlyRise sys_order sys → IsInlined g (made_of nodes one silent sys)
made_inlined g valid items all nodes one silent sys counted only silent_are silent_rise sys_are sys_rise = record {
  copies = all.copies;
  are = all.are;
  nodes = counted all;
  start = refl;
  function = only.function;
  is_start = only.is_start;
  functions = ap (λ (f : ModelFunction). f ∷ []) only.is;
  silent = λ i j. (
    λ has. drawn_silent g valid items all ((silent_are (record { from = i; to = j })).0 has),
    λ is. (silent_are (record { from = i; to = j })).1 (silent_drawn g valid items all is),
  );
  sys = λ i x p j. (
    λ has. drawn_sys g valid items all ((sys_are (record { from = i; name = x; to = j; args = p })).0 has),
    λ is. (sys_are (record { from = i; name = x; to = j; args = p })).1 (sys_is_drawn g valid items all is),
  );
  calls = refl;
  silent_rise = silent_rise;
  sys_rise = sys_rise;
}

pub records_inlined : (g : Graph) → IsValid g → (items : List Copied) → AreAllCopies g items → (nodes : ℕ) (one : ModelFunction) (silent : List SilentEdge) (sys : List SysEdge)
    → ((all : AreAllCopies g items) → nodes ≡ node_count g all.copies) → IsOnly g one
    → ((e : SilentEdge) → Contains silent e ↔ IsDrawnSilent g items e.from e.to) → StrictlyRise silent_order silent
    → ((e : SysEdge) → Contains sys e ↔ IsDrawnSys g items e.from e.name e.args e.to) → StrictlyRise sys_order sys
    → (builder : Records) (given_silent : List SilentEdge) (given_sys : List SysEdge) → given_silent ≡ silent → given_sys ≡ sys
    → builder ≡ record { functions = one ∷ []; silent = given_silent; sys = given_sys; calls = [] } → IsInlined g (graph_of_records builder nodes 0)
records_inlined g valid items all nodes one silent sys counted only silent_are silent_rise sys_are sys_rise builder given_silent given_sys silent_is sys_is is =
    let whole : builder ≡ record { functions = one ∷ []; silent = silent; sys = sys; calls = [] } = is ∙ (λ i. record { functions = one ∷ []; silent = silent_is i; sys = sys_is i; calls = [] }) in
    subst (λ (b : Records). IsInlined g (graph_of_records b nodes 0)) (sym whole) (made_inlined g valid items all nodes one silent sys counted only silent_are silent_rise sys_are sys_rise)

-- copies of few nodes are not too many
pub not_too_many : (g : Graph) (items : List Copied) → AreAllCopies g items → HasTooManyNodes g → ⊥
not_too_many g items all many = omega (arith, all.few, many.many, ap (node_count g) (one_list all.are many.are))

-- what a depth tells of chains
pub bounded_by : (g : Graph) (depth : Depth) (n : ℕ) → depth ≡ Greatest n → HasLength g depth → IsBounded g
bounded_by g depth n is has = (n, subst (HasLength g) is has)

pub unbounded_by : (g : Graph) (depth : Depth) (first cycle : List ℕ) → depth ≡ Unbounded first cycle → HasLength g depth → HasNoGreatest g
unbounded_by g depth first cycle is has = subst (HasLength g) is has
