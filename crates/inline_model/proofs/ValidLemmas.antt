-- The inlined model of a valid model is valid where it has few enough nodes.
use Rattle.std.proofs.Common.{◌≡◌, ◌≢◌, inl, inr, ℕ, ℤ, zero, suc, ◌+◌, ◌-◌, ◌<◌, ◌≤◌, List, [], ◌∷◌, length, Option, Some, Contains, All, AllPairs, refl, sym, ◌∙◌, ap, subst, arith}
use Rattle.std.specs.Prelude.{slice_get}
use Rattle.std.specs.Ordering.{nat_cmp}
use Rattle.std.specs.declared.cmp.Ordering.TheVariants.{Less}
use Rattle.std.proofs.lemmas.List.Elements.{All-contains, All-nil}
use Rattle.std.proofs.lemmas.List.Sums.{sum_by-append, sum_by-cons}
use Rattle.std.proofs.lemmas.Option.{slice_get_within, get_or_from_slice_get}
use Rattle.dm_base.specs.Name.{IsName}
use Rattle.sys_table.specs.Table.{IsRight}
use Rattle.flow_model.specs.declared.records.ModelFunction.{ModelFunction}
use Rattle.flow_model.specs.declared.records.SilentEdge.{SilentEdge}
use Rattle.flow_model.specs.declared.records.SysEdge.{SysEdge}
use Rattle.flow_model.specs.Call.{Call}
use Rattle.flow_model.specs.Graph.{Graph, Owns, HaveOneOwner, end_of}
use Rattle.flow_model.specs.Order.{site_order, StrictlyRise}
use Rattle.flow_model.specs.Rules.{HasRightEntries, HasOwnExits, HasRightNames, HasRightPatterns, IsInOrder, IsValid}
use Rattle.inline_model.specs.Copies.{Opened, function_of, entry_of, size_of, node_count}
use Rattle.inline_model.specs.Copies.IsCopy.{of_start}
use Rattle.inline_model.specs.Inlined.{IsNodeOf, HasInlinedSilent, HasInlinedSys, IsInlined}
use Rattle.inline_model.specs.Inlined.HasInlinedSilent.{copied, enters, leaves}
use Rattle.inline_model.specs.Inlined.HasInlinedSys.{copied as copied_sys}
use Rattle.inline_model.proofs.Basics.{entry_is}
use Rattle.inline_model.proofs.InlinedLemmas.{has_copy, node_of}
use Rattle.flow_model.proofs.Rising.{cons_cases, pairs_nil, pairs_cons}
use Rattle.flow_model.proofs.Rising.{all_from}

-- a list of one function
one_only : (P : ModelFunction → Type 0) (only : ModelFunction) → P only → All P (only ∷ [])
one_only P only is = all_from P (only ∷ []) (λ z has. elim (cons_cases only [] z has) [
  | inl same ↦ subst P same is
  | inr later ↦ absurd (omega (arith, later.1))
])

one_apart : (R : ModelFunction → ModelFunction → Type 0) (only : ModelFunction) → AllPairs R (only ∷ [])
one_apart R only = pairs_cons R only [] (λ z has. absurd (omega (arith, has.1))) (pairs_nil R)

only_is : (only one : ModelFunction) → slice_get (only ∷ []) 0 ≡ Some one → only ≡ one
only_is only one has = let same : Some only ≡ Some one = has in cc

right_entries : (only : ModelFunction) (nodes : ℕ) → only.entry ≡ 0 → 1 ≤ nodes → nodes ≤ 200000 → HasRightEntries (only ∷ []) nodes
right_entries only nodes begins filled small = record {
  some = filled;
  few = small;
  first = λ one has. ap (λ (f : ModelFunction). f.entry) (sym (only_is only one has)) ∙ begins;
  rise = one_apart (λ d e. d.entry < e.entry) only;
  below = one_only (λ (one : ModelFunction). one.entry < nodes) only (omega (arith, begins, filled));
}

own_exits : (only : ModelFunction) (nodes : ℕ) → only.entry ≡ 0 → only.exit < nodes → (f : ℕ) (one : ModelFunction) → slice_get (only ∷ []) f ≡ Some one → Owns (only ∷ []) nodes f one.exit
own_exits only nodes begins last zero one has =
    let same = only_is only one has in
    let ends : end_of (only ∷ []) nodes 0 ≡ nodes = refl in
    record {
      one = one;
      has = has;
      from = omega (arith, ap (λ (f : ModelFunction). f.entry) same, begins);
      to = omega (arith, ap (λ (f : ModelFunction). f.exit) same, last, ends);
    }
own_exits only nodes begins last (suc f) one has = absurd (let within = slice_get_within (only ∷ []) (suc f) one has in omega (arith, within))

right_names : (only : ModelFunction) → IsName only.name → HasRightNames (only ∷ [])
right_names only name = record {
  names = one_only (λ (one : ModelFunction). IsName one.name) only name;
  differ = one_apart (λ d e. d.name ≢ e.name) only;
}

one_owner_of : (only : ModelFunction) (nodes i j : ℕ) → only.entry ≡ 0 → i < nodes → j < nodes → HaveOneOwner (only ∷ []) nodes i j
one_owner_of only nodes i j begins i_lt j_lt =
    let ends : end_of (only ∷ []) nodes 0 ≡ nodes = refl in
    record {
      owner = 0;
      first = record { one = only; has = refl; from = omega (arith, begins); to = omega (arith, i_lt, ends) };
      second = record { one = only; has = refl; from = omega (arith, begins); to = omega (arith, j_lt, ends) };
    }

-- the number of a node is below the number of all nodes
number_below : {g : Graph} {copies : List (List Opened)} {copy : List Opened} {a i : ℕ} → IsNodeOf g copies copy a i → i < node_count g copies
number_below {g} {copies} {copy} {a} {i} node =
    let owns = node.owns in
    let begins = node.begins in
    let entry = entry_is g.functions (function_of g copy) owns.one owns.has in
    let off : a - entry_of g.functions (function_of g copy) < size_of g copy = omega (arith, entry, owns.from, owns.to) in
    let whole : node_count g copies ≡ node_count g begins.before + (size_of g copy + node_count g begins.after) =
    ap (node_count g) begins.stands ∙ sum_by-append (size_of g) begins.before (copy ∷ begins.after) ∙ ap (λ n. node_count g begins.before + n) (sum_by-cons (size_of g) copy begins.after) in
    omega (arith, off, whole, node.number_is, begins.number_is)

both_silent : {g : Graph} {copies : List (List Opened)} {i j : ℕ} → HasInlinedSilent g copies i j → (i < node_count g copies) × (j < node_count g copies)
both_silent (copied has from_node to_node) = (number_below from_node, number_below to_node)
both_silent (enters call within function from_node to_node) = (number_below from_node, number_below to_node)
both_silent (leaves call within function from_node to_node) = (number_below from_node, number_below to_node)

both_sys : {g : Graph} {copies : List (List Opened)} {i x j : ℕ} {p : List (Option ℤ)} → HasInlinedSys g copies i x p j → (i < node_count g copies) × (j < node_count g copies)
both_sys (copied_sys has from_node to_node) = (number_below from_node, number_below to_node)

right_sys : {g : Graph} {copies : List (List Opened)} {i x j : ℕ} {p : List (Option ℤ)} → HasRightPatterns g → HasInlinedSys g copies i x p j → IsRight x p
right_sys {g} right (copied_sys {a = a} {x = x} {b = b} {p = p} has from_node to_node) =
    All-contains (λ (e : SysEdge). IsRight e.name e.args) g.sys (record { from = a; name = x; to = b; args = p }) right has

module _ (g m : Graph) (valid : IsValid g) (inlined : IsInlined g m) where
  start_contained : Contains g.functions inlined.function
  start_contained = (g.start, slice_get_within g.functions g.start inlined.function inlined.is_start, get_or_from_slice_get g.functions g.start inlined.function inlined.function inlined.is_start)

  exit_below : inlined.function.exit - inlined.function.entry < m.nodes
  exit_below =
      let there = node_of g inlined.copies [] inlined.function.exit (has_copy g inlined.copies inlined.are of_start) (valid.exits g.start inlined.function inlined.is_start) in
      let below = number_below there.1 in
      let number = there.1.number_is in
      omega (arith, inlined.nodes, below, number, entry_is g.functions g.start inlined.function inlined.is_start)

  pub inlined_order : IsInOrder m
  inlined_order = record {
    silent = inlined.silent_rise;
    sys = inlined.sys_rise;
    calls = subst (StrictlyRise site_order) (sym inlined.calls) (pairs_nil (λ x y. site_order x y ≡ Less));
    candidates = subst (All (λ (c : Call). StrictlyRise nat_cmp c.candidates)) (sym inlined.calls) (All-nil (λ (c : Call). StrictlyRise nat_cmp c.candidates));
  }

  owned : (i j : ℕ) → (i < node_count g inlined.copies) × (j < node_count g inlined.copies) → HaveOneOwner m.functions m.nodes i j
  owned i j both =
      subst (λ fs. HaveOneOwner fs m.nodes i j) (sym inlined.functions)
      (one_owner_of (record { name = inlined.function.name; entry = 0; exit = inlined.function.exit - inlined.function.entry }) m.nodes i j refl (omega (arith, both.0, inlined.nodes)) (omega (arith, both.1, inlined.nodes)))

  pub inlined_valid : m.nodes ≤ 200000 → IsValid m
  inlined_valid few =
      let below = exit_below in
      let some : 1 ≤ m.nodes = omega (arith, below) in
      let only : ModelFunction = record { name = inlined.function.name; entry = 0; exit = inlined.function.exit - inlined.function.entry } in
      let name : IsName inlined.function.name = All-contains (λ (one : ModelFunction). IsName one.name) g.functions inlined.function valid.names.names start_contained in
      let long : length m.functions ≡ 1 = ap length inlined.functions in
      record {
        entries = subst (λ fs. HasRightEntries fs m.nodes) (sym inlined.functions) (right_entries only m.nodes refl some few);
        exits = subst (λ fs. HasOwnExits fs m.nodes) (sym inlined.functions) (own_exits only m.nodes refl below);
        names = subst HasRightNames (sym inlined.functions) (right_names only name);
        edges = record {
          silent = all_from (λ (e : SilentEdge). HaveOneOwner m.functions m.nodes e.from e.to) m.silent (λ e has. owned e.from e.to (both_silent ((inlined.silent e.from e.to).0 has)));
          sys = all_from (λ (e : SysEdge). HaveOneOwner m.functions m.nodes e.from e.to) m.sys (λ e has. owned e.from e.to (both_sys ((inlined.sys e.from e.name e.args e.to).0 has)));
          calls = subst (All (λ (c : Call). HaveOneOwner m.functions m.nodes c.from c.to)) (sym inlined.calls) (All-nil (λ (c : Call). HaveOneOwner m.functions m.nodes c.from c.to));
        };
        functions = record {
          some = omega (arith, long);
          start = omega (arith, long, inlined.start);
          candidates = subst (All (λ (c : Call). All (λ f. f < length m.functions) c.candidates)) (sym inlined.calls) (All-nil (λ (c : Call). All (λ f. f < length m.functions) c.candidates));
        };
        patterns = all_from (λ (e : SysEdge). IsRight e.name e.args) m.sys (λ e has. right_sys valid.patterns ((inlined.sys e.from e.name e.args e.to).0 has));
        order = inlined_order;
      }
