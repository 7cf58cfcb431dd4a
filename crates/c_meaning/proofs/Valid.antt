-- The graph of shapes is a valid model.
use Rattle.std.proofs.Common.{◌≡◌, ◌≢◌, ℕ, zero, suc, ◌+◌, ◌<◌, ◌≤◌, List, [], ◌∷◌, Some, length, Contains, All, AllPairs, slice_get, sym, ap, ◌∙◌, subst, refl, arith}
use Rattle.std.specs.Prelude.{unwrap_or, option_map}
use Rattle.std.specs.Ordering.{nat_cmp}
use Rattle.std.specs.Cmp.{nat_cmp_total}
use Rattle.dm_base.specs.Name.{IsName}
use Rattle.sys_table.specs.Table.{IsRight}
use Rattle.c_meaning.specs.Shape.{Shape, Skip, Parts, End, Part, Shapes}
use Rattle.c_meaning.specs.Walks.{Label, Silent, System, Site}
use Rattle.flow_model.specs.declared.records.ModelFunction.{ModelFunction}
use Rattle.flow_model.specs.declared.records.SilentEdge.{SilentEdge}
use Rattle.flow_model.specs.declared.records.SysEdge.{SysEdge}
use Rattle.flow_model.specs.Call as model
use Rattle.flow_model.specs.Graph.{Owns, HaveOneOwner, end_of}
use Rattle.flow_model.specs.Order.{silent_order, sys_order, site_order, StrictlyRise}
use Rattle.flow_model.specs.Rules.{HasRightEntries, HasOwnExits, HasRightNames, HasInnerEdges, HasKnownFunctions, HasRightPatterns, IsInOrder, IsValid}
use Rattle.flow_model.proofs.OrderLemmas.{silent_order_total, sys_order_total, site_order_total}
use Rattle.c_meaning.specs.GraphLayout.{Edge, edge, Places, head, count, width, widths}
use Rattle.c_meaning.specs.Sorted.{sorted}
use Rattle.c_meaning.specs.GraphOf.{graph_of, silent_edges, sys_edges, calls, functions_from, edges_from, nodes_from}
use Rattle.c_meaning.specs.Premises.{AreClosed, AreNamed, HasRightCalls, HaveRightCalls}
use Rattle.c_meaning.proofs.Laid.{Heads}
use Rattle.c_meaning.proofs.Laid as G
use Rattle.c_meaning.proofs.Edges.{Lays, LaysParts, sys, exit, in_left, in_right, to_loop, in_test, in_body, in_step, to_do, do_again, in_do, in_until, break_out, continue_on, return_now, in_cases, in_seq, in_rest, to_case, in_part, in_later}
use Rattle.c_meaning.proofs.Owns.{sources}
use Rattle.c_meaning.proofs.SortedLemmas.{sorted_from}
use Rattle.c_meaning.proofs.Rising.{all_from, of_all, pairs_cons, pairs_head, pairs_tail, pairs_nil, sorted_rises}
use Rattle.c_meaning.proofs.Functions.{One, at, entry_at, one_from}
use Rattle.c_meaning.proofs.ModelLemmas.{known, made as made_of, call_from, silent_from, sys_from}

-- the node is from lo to below hi
abbrev In : ℕ → ℕ → ℕ → Type 0
In lo hi y = (lo ≤ y) × (y < hi)

-- the exits lead to such nodes
record Lead (lo hi : ℕ) (p : Places) : Type 0 where
  to : In lo hi (p.to)
  brk : In lo hi (p.brk)
  con : In lo hi (p.con)
  ret : In lo hi (p.ret)

leads_to : {lo hi y : ℕ} {p : Places} → Lead lo hi p → In lo hi y → Lead lo hi (record p { to = y })
leads_to h i = record { to = i; brk = h.brk; con = h.con; ret = h.ret }

head_in : {lo hi : ℕ} (ps : Parts) (i b : ℕ) → lo ≤ i → (i + count ps ≤ hi) → In lo hi b → In lo hi (head ps i b)
head_in End i b l r h = h
head_in (Part S ps) i b l r h = (l, omega (arith, r))

heads_in : {ps : Parts} {i b : ℕ} → Heads ps i b → In i (i + count ps) b
heads_in G.this = (omega arith, omega arith)
heads_in (G.later h) = let k = heads_in h in (omega (arith, k.0), omega (arith, k.1))

-- the pattern of an edge is right
abbrev Right : Label → Type 0
Right (System k q) = IsRight k q
Right l = Unit {0}

mutual
  targets : {S : Shape} {a n x y : ℕ} {p : Places} {l : Label} → Lays S a n p x l y → (lo hi : ℕ) → lo ≤ n → n + width S ≤ hi → Lead lo hi p → HasRightCalls S → In lo hi y × Right l
  targets sys lo hi l r p h = (p.to, h)
  targets exit lo hi l r p h = ((l, omega (arith, r)), h)
  targets (in_seq {S = S} {ps = ps} {n = n} e) lo hi l r p h = targets e lo hi (omega (arith, l)) (omega (arith, r)) (leads_to p (head_in ps n _ l (omega (arith, r)) (p.to))) h.0
  targets (in_rest {S = S} {ps = ps} {n = n} e) lo hi l r p h = part_targets e lo hi l (omega (arith, r)) (omega (arith, l)) (omega (arith, r)) p h.1
  targets (in_left e) lo hi l r p h = targets e lo hi l (omega (arith, r)) p h.0
  targets (in_right e) lo hi l r p h = targets e lo hi (omega (arith, l)) (omega (arith, r)) p h.1
  targets to_loop lo hi l r p h = ((l, omega (arith, r)), tt)
  targets (in_test e) lo hi l r p h = targets e lo hi (omega (arith, l)) (omega (arith, r)) (leads_to p (omega (arith, l), omega (arith, r))) h.0
  targets (in_body e) lo hi l r p h = targets e lo hi (omega (arith, l)) (omega (arith, r)) (record { to = (omega (arith, l), omega (arith, r)); brk = p.to; con = (omega (arith, l), omega (arith, r)); ret = p.ret }) h.1
  targets (in_step e) lo hi l r p h = targets e lo hi (omega (arith, l)) (omega (arith, r)) (leads_to p (l, omega (arith, r))) h.2
  targets to_do lo hi l r p h = ((l, omega (arith, r)), tt)
  targets do_again lo hi l r p h = ((l, omega (arith, r)), tt)
  targets (in_do e) lo hi l r p h = targets e lo hi (omega (arith, l)) (omega (arith, r)) (record { to = (omega (arith, l), omega (arith, r)); brk = p.to; con = (omega (arith, l), omega (arith, r)); ret = p.ret }) h.0
  targets (in_until e) lo hi l r p h = targets e lo hi (omega (arith, l)) (omega (arith, r)) (leads_to p (omega (arith, l), omega (arith, r))) h.1
  targets break_out lo hi l r p h = (p.brk, tt)
  targets continue_on lo hi l r p h = (p.con, tt)
  targets return_now lo hi l r p h = (p.ret, tt)
  targets (to_case i) lo hi l r p h = let k = heads_in i in ((omega (arith, l, k.0), omega (arith, r, k.1)), tt)
  targets (in_cases e) lo hi l r p h = part_targets e lo hi l (omega (arith, r)) (omega (arith, l)) (omega (arith, r)) (record { to = p.to; brk = p.to; con = p.con; ret = p.ret }) h
  targets e lo hi l r p h = (p.to, tt)

  part_targets : {ps : Parts} {i n x y : ℕ} {p : Places} {l : Label} → LaysParts ps i n p x l y → (lo hi : ℕ) → lo ≤ i → i + count ps ≤ hi → lo ≤ n → n + widths ps ≤ hi → Lead lo hi p → HaveRightCalls ps → In lo hi y × Right l
  part_targets (in_part {S = S} {ps = ps} {i = i} e) lo hi a b l r p h = targets e lo hi l (omega (arith, r)) (leads_to p (head_in ps (i + 1) _ (omega (arith, a)) (omega (arith, b)) (p.to))) h.0
  part_targets (in_later e) lo hi a b l r p h = part_targets e lo hi (omega (arith, a)) (omega (arith, b)) (omega (arith, l)) (omega (arith, r)) p h.1

-- the functions one after another
up : (fs : List Shape) (n : ℕ) → n ≤ nodes_from n fs
up [] n = omega arith
up (S ∷ fs) n = let k = up fs (n + 2 + width S) in omega (arith, k)

many_made : (names : List (List ℕ)) (fs : List Shape) (n : ℕ) → length names ≡ length fs → length (functions_from n names fs) ≡ length fs
many_made [] [] n e = refl
many_made (name ∷ names) (S ∷ fs) n e = let k = many_made names fs (n + 2 + width S) (omega (arith, e)) in omega (arith, k)
many_made names fs n e = absurd (omega (arith, e))

record Between (names : List (List ℕ)) (fs : List Shape) (n : ℕ) (one : ModelFunction) : Type 0 where
  low : n ≤ one.entry
  high : one.entry < nodes_from n fs
  name : Contains names one.name

between : (names : List (List ℕ)) (fs : List Shape) (n : ℕ) (one : ModelFunction) → Contains (functions_from n names fs) one → Between names fs n one
between (name ∷ names) (S ∷ fs) n one (zero, lt, is) = subst (Between (name ∷ names) (S ∷ fs) n) is (record { low = omega arith; high = let k = up fs (n + 2 + width S) in omega (arith, k); name = (0, omega arith, refl) })
between (name ∷ names) (S ∷ fs) n one (suc k, lt, is) =
    let r = between names fs (n + 2 + width S) one (k, omega arith, is) in
    let low = r.low in
    let (i, small, same) = r.name in
    record { low = omega (arith, low); high = r.high; name = (suc i, omega (arith, small), same) }
between names fs n one h = absurd (omega (arith, h.1))

rise : (names : List (List ℕ)) (fs : List Shape) (n : ℕ) → AllPairs (λ d e. d.entry < e.entry) (functions_from n names fs)
rise (name ∷ names) (S ∷ fs) n = pairs_cons (λ (d e : ModelFunction). d.entry < e.entry) (record { name = name; entry = n; exit = n + 1 }) (functions_from (n + 2 + width S) names fs) (λ z h. let r = between names fs (n + 2 + width S) z h in let low = r.low in omega (arith, low)) (rise names fs (n + 2 + width S))
rise names fs n = pairs_nil (λ (d e : ModelFunction). d.entry < e.entry)

names_differ : (names : List (List ℕ)) (fs : List Shape) (n : ℕ) → AllPairs (λ x y. x ≢ y) names → AllPairs (λ d e. d.name ≢ e.name) (functions_from n names fs)
names_differ (name ∷ names) (S ∷ fs) n pairs = pairs_cons (λ (d e : ModelFunction). d.name ≢ e.name) (record { name = name; entry = n; exit = n + 1 }) (functions_from (n + 2 + width S) names fs) (λ z h. pairs_head (λ x y. x ≢ y) name names pairs (z.name) ((between names fs (n + 2 + width S) z h).name)) (names_differ names fs (n + 2 + width S) (pairs_tail (λ x y. x ≢ y) name names pairs))
names_differ names fs n pairs = pairs_nil (λ (d e : ModelFunction). d.name ≢ e.name)

-- where the nodes of the function f end
abbrev next_entry : List ModelFunction → ℕ → ℕ → ℕ
next_entry made nodes k = unwrap_or (option_map (λ (one : ModelFunction). one.entry) (slice_get made k)) nodes

end_at : (names : List (List ℕ)) (fs : List Shape) (n f : ℕ) → length names ≡ length fs → f < length fs → next_entry (functions_from n names fs) (nodes_from n fs) (suc f) ≡ entry_at fs n f + 2 + width (at fs f)
end_at [] [] n f e lt = absurd (omega (arith, lt))
end_at (name ∷ []) (S ∷ []) n zero e lt = refl
end_at (name ∷ (other ∷ names)) (S ∷ (T ∷ fs)) n zero e lt = refl
end_at (name ∷ names) (S ∷ fs) n (suc f) e lt = end_at names fs (n + 2 + width S) f (omega (arith, e)) (omega (arith, lt))
end_at names fs n f e lt = absurd (omega (arith, e))

some_node : (fs : List Shape) {f : ℕ} → f < length fs → 1 ≤ nodes_from 0 fs
some_node [] lt = absurd (omega (arith, lt))
some_node (S ∷ fs) lt = let k = up fs (0 + 2 + width S) in omega (arith, k)

first_entry : (fs : List Shape) → entry_at fs 0 0 ≡ 0
first_entry [] = refl
first_entry (S ∷ fs) = refl

module _ (texts : List (List ℕ)) (env : Shapes) (closed : AreClosed env) (named : AreNamed texts env) where
  abbrev fs : List Shape
  fs = env.functions

  abbrev es : List Edge
  es = edges_from 0 fs

  abbrev made : List ModelFunction
  made = functions_from 0 texts fs

  abbrev nodes : ℕ
  nodes = nodes_from 0 fs

  owns_at : (f a : ℕ) (one : ModelFunction) → slice_get made f ≡ Some one → entry_at fs 0 f ≤ a → a < entry_at fs 0 f + 2 + width (at fs f) → Owns made nodes f a
  owns_at f a one has lo hi =
      let k = known 0 texts fs f one has in
      let begins = k.begins in
      let ends : end_of made nodes f ≡ entry_at fs 0 f + 2 + width (at fs f) = ap (next_entry made nodes) (omega arith) ∙ end_at texts fs 0 f (named.many) (k.below) in
      record { one = one; has = has; from = omega (arith, lo, begins); to = omega (arith, hi, ends) }

  own_exits : HasOwnExits made nodes
  own_exits f one has =
      let k = known 0 texts fs f one has in
      let ends = k.ends in
      owns_at f (one.exit) one has (omega (arith, ends)) (omega (arith, ends))

  -- an edge stays in its function, and its pattern is right
  within : (x : ℕ) (l : Label) (y : ℕ) (o : One fs 0 x l y) → In (entry_at fs 0 (o.f)) (entry_at fs 0 (o.f) + 2 + width (at fs (o.f))) y × Right l
  within x l y o = targets (o.here) (entry_at fs 0 (o.f)) (entry_at fs 0 (o.f) + 2 + width (at fs (o.f))) (omega arith) (omega arith) (record { to = (omega arith, omega arith); brk = (omega arith, omega arith); con = (omega arith, omega arith); ret = (omega arith, omega arith) }) (named.patterns (o.f) Skip (o.below))

  one_owner : (x : ℕ) (l : Label) (y : ℕ) → Contains es (edge x l y) → HaveOneOwner made nodes x y
  one_owner x l y h =
      let o = one_from fs 0 (edge x l y) h in
      let r = made_of 0 texts fs (o.f) (named.many) (o.below) in
      let i = sources (o.here) in
      let j = (within x l y o).0 in
      record { owner = o.f; first = owns_at (o.f) x (r.one) (r.has) (omega (arith, i)) (omega (arith, i)); second = owns_at (o.f) y (r.one) (r.has) j.0 j.1 }

  entries : HasRightEntries made nodes
  entries = record {
    some = some_node fs (closed.main);
    few = named.few;
    first = λ one has. (known 0 texts fs 0 one has).begins ∙ first_entry fs;
    rise = rise texts fs 0;
    below = all_from (λ (one : ModelFunction). one.entry < nodes) made (λ z h. (between texts fs 0 z h).high);
  }

  right_names : HasRightNames made
  right_names = record {
    names = all_from (λ (one : ModelFunction). IsName one.name) made (λ z h. of_all IsName texts (named.names) (z.name) ((between texts fs 0 z h).name));
    differ = names_differ texts fs 0 (named.differ);
  }

  inner_edges : HasInnerEdges (graph_of texts env)
  inner_edges = record {
    silent = all_from (λ (e : SilentEdge). HaveOneOwner made nodes e.from e.to) (sorted silent_order (silent_edges es)) (λ e h. one_owner (e.from) Silent (e.to) (silent_from es (e.from) (e.to) (sorted_from silent_order (silent_edges es) e h)));
    sys = all_from (λ (e : SysEdge). HaveOneOwner made nodes e.from e.to) (sorted sys_order (sys_edges es)) (λ e h. one_owner (e.from) (System (e.name) (e.args)) (e.to) (sys_from es (e.from) (e.name) (e.args) (e.to) (sorted_from sys_order (sys_edges es) e h)));
    calls = all_from (λ (c : model.Call). HaveOneOwner made nodes c.from c.to) (sorted site_order (calls env.candidates es)) (λ c h. one_owner (c.from) (Site (c.site)) (c.to) ((call_from env.candidates es c (sorted_from site_order (calls env.candidates es) c h)).has));
  }

  few_functions : (f : ℕ) → f < length fs → f < length made
  few_functions f lt = let k = many_made texts fs 0 (named.many) in omega (arith, k, lt)

  known_functions : HasKnownFunctions (graph_of texts env)
  known_functions = record {
    some = let k = few_functions env.main closed.main in omega (arith, k);
    start = few_functions env.main closed.main;
    candidates = all_from (λ (c : model.Call). All (λ f. f < length made) c.candidates) (sorted site_order (calls env.candidates es)) (λ c h. all_from (λ f. f < length made) (c.candidates) (λ f k. few_functions f (closed.known (c.site) f (sorted_from nat_cmp (env.candidates (c.site)) f (subst (λ x. Contains x f) ((call_from env.candidates es c (sorted_from site_order (calls env.candidates es) c h)).are) k)))));
  }

  right_patterns : HasRightPatterns (graph_of texts env)
  right_patterns = all_from (λ (e : SysEdge). IsRight e.name e.args) (sorted sys_order (sys_edges es)) (λ e h. (within (e.from) (System (e.name) (e.args)) (e.to) (one_from fs 0 (edge (e.from) (System (e.name) (e.args)) (e.to)) (sys_from es (e.from) (e.name) (e.args) (e.to) (sorted_from sys_order (sys_edges es) e h)))).1)

  in_order : IsInOrder (graph_of texts env)
  in_order = record {
    silent = sorted_rises silent_order silent_order_total (silent_edges es);
    sys = sorted_rises sys_order sys_order_total (sys_edges es);
    calls = sorted_rises site_order site_order_total (calls env.candidates es);
    candidates = all_from (λ (c : model.Call). StrictlyRise nat_cmp c.candidates) (sorted site_order (calls env.candidates es)) (λ c h. subst (StrictlyRise nat_cmp) (sym ((call_from env.candidates es c (sorted_from site_order (calls env.candidates es) c h)).are)) (sorted_rises nat_cmp nat_cmp_total (env.candidates (c.site))));
  }

  pub valid : IsValid (graph_of texts env)
  valid = record { entries = entries; exits = own_exits; names = right_names; edges = inner_edges; functions = known_functions; patterns = right_patterns; order = in_order }
