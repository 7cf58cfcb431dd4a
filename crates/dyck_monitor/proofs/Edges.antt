-- The edges, functions and calls of a valid model.
use Rattle.std.proofs.Common.{◌≡◌, ◌↔◌, ◌⊎◌, ℕ, zero, suc, ◌+◌, ◌<◌, ◌≤◌, Bool, true, false, cond, eqb, List, [], ◌∷◌, length, get_or, take, Option, Some, None, All, Contains, refl, sym, ◌∙◌, ap, subst, inl, inr, arith}
use Rattle.std.specs.Prelude.{slice_get, filter, find, unwrap_or, option_map, sum_by}
use Rattle.std.proofs.lemmas.Bool.{cases_Bool, cases_lt, cases_order, eqb-true, eq-eqb, false≢true}
use Rattle.std.proofs.lemmas.List.Elements.{All-contains, All-contains_itself, All-filter, filter_passes, Contains-push_cases}
use Rattle.std.proofs.lemmas.List.Sums.{get_or-le-sum_by}
use Rattle.std.proofs.lemmas.Option.{same_Some, slice_get-get_or, slice_get_cases, none-some}
use Rattle.dm_base.specs.declared.event.Event.{Event}
use Rattle.dm_base.specs.Fits.{Fits}
use Rattle.flow_model.specs.declared.records.ModelFunction.{ModelFunction}
use Rattle.flow_model.specs.declared.records.SilentEdge.{SilentEdge}
use Rattle.flow_model.specs.declared.records.SysEdge.{SysEdge}
use Rattle.flow_model.specs.Call.{Call}
use Rattle.flow_model.specs.Graph.{Graph, HasSilent, HasCall, HasFunction, Owns, end_of}
use Rattle.flow_model.specs.Rules.{HasRightEntries, IsValid}
use Rattle.flow_model.proofs.OrderLemmas.{lt_from_less}
use Rattle.std.proofs.lemmas.List.{get_or_default, take_more}
use Rattle.dyck_monitor.specs.Adding.{IsOfOne}
use Rattle.dyck_monitor.specs.Moves.{IsRead, IsEntered, IsReturned}

-- what passes a filter
Contains-cons : {X : Type 0} (x y : X) (xs : List X) → Contains xs x → Contains (y ∷ xs) x
Contains-cons x y xs (k, lt, is) = (suc k, omega arith, is)

kept_cons : {X : Type 0} (p : X → Bool) (y x : X) (ys : List X) → Contains (filter p ys) x → Contains (filter p (y ∷ ys)) x
kept_cons p y x ys has =
    elim (p y) as (λ b. Contains (cond b (y ∷ filter p ys) (filter p ys)) x) [ true ↦ Contains-cons x y (filter p ys) has | false ↦ has ]

pub Contains-kept : {X : Type 0} (p : X → Bool) (xs : List X) (x : X) → Contains xs x → p x ≡ true → Contains (filter p xs) x
Contains-kept p [] x (k, lt, is) passes = absurd (omega (arith, lt))
Contains-kept p (y ∷ ys) x (zero, lt, is) passes =
    let first : Contains (cond (p x) (x ∷ filter p ys) (filter p ys)) x = rw passes (0, omega arith, refl) in
    subst (λ z. Contains (filter p (z ∷ ys)) x) (sym is) first
Contains-kept p (y ∷ ys) x (suc k, lt, is) passes = kept_cons p y x ys (Contains-kept p ys x (k, omega (arith, lt), is) passes)

pub Contains-filter : {X : Type 0} (p : X → Bool) (xs : List X) (x : X) → Contains (filter p xs) x ↔ (Contains xs x × (p x ≡ true))
Contains-filter p xs x = (
  λ has. (All-contains (λ y. Contains xs y) (filter p xs) x (All-filter p (λ y. Contains xs y) xs (All-contains_itself xs)) has, All-contains (λ y. p y ≡ true) (filter p xs) x (filter_passes p xs) has),
  λ both. Contains-kept p xs x both.0 both.1,
)

-- the nodes that a function owns are nodes
end_few : (functions : List ModelFunction) (nodes : ℕ) (found : Option ModelFunction) → ((one : ModelFunction) → found ≡ Some one → one.entry < nodes) → unwrap_or (option_map (λ one. one.entry) found) nodes ≤ nodes
end_few functions nodes None below = omega arith
end_few functions nodes (Some one) below = omega (arith, below one refl)

found_contained : {X : Type 0} (xs : List X) (k : ℕ) (x : X) → slice_get xs k ≡ Some x → Contains xs x
found_contained [] k x is = absurd (none-some x is)
found_contained (y ∷ ys) zero x is = (0, omega arith, same_Some y x is)
found_contained (y ∷ ys) (suc k) x is = Contains-cons x y ys (found_contained ys k x is)

pub owned_below : (functions : List ModelFunction) (nodes f a : ℕ) → HasRightEntries functions nodes → Owns functions nodes f a → a < nodes
owned_below functions nodes f a entries owns =
    let few : end_of functions nodes f ≤ nodes = end_few functions nodes (slice_get functions (f + 1)) (λ one is. All-contains (λ d. d.entry < nodes) functions one entries.below (found_contained functions (f + 1) one is)) in
    omega (arith, owns.to)

module _ (g : Graph) (valid : IsValid g) where
  pub silent_below : All (λ e. e.to < g.nodes) g.silent
  silent_below k d lt = let owners = valid.edges.silent k d lt in owned_below g.functions g.nodes owners.owner _ valid.entries owners.second

  pub sys_below : All (λ e. e.to < g.nodes) g.sys
  sys_below k d lt = let owners = valid.edges.sys k d lt in owned_below g.functions g.nodes owners.owner _ valid.entries owners.second

  pub calls_below : All (λ c. c.to < g.nodes) g.calls
  calls_below k d lt = let owners = valid.edges.calls k d lt in owned_below g.functions g.nodes owners.owner _ valid.entries owners.second

  -- an edge that leaves a node ends at one
  pub silent_from_below : (node i : ℕ) (e : SilentEdge) → i < length (filter (λ d. eqb d.from node) g.silent) → e ≡ get_or (filter (λ d. eqb d.from node) g.silent) i e → e.to < g.nodes
  silent_from_below node i e lt is =
      let all = All-filter (λ d. eqb d.from node) (λ d. d.to < g.nodes) g.silent silent_below in
      let below : SilentEdge → Type 0 = λ d. d.to < g.nodes in
      subst below (sym is) (all i e lt)

  pub sys_from_below : (node i : ℕ) (e : SysEdge) → i < length (filter (λ d. eqb d.from node) g.sys) → e ≡ get_or (filter (λ d. eqb d.from node) g.sys) i e → e.to < g.nodes
  sys_from_below node i e lt is =
      let all = All-filter (λ d. eqb d.from node) (λ d. d.to < g.nodes) g.sys sys_below in
      let below : SysEdge → Type 0 = λ d. d.to < g.nodes in
      subst below (sym is) (all i e lt)

-- the edges that leave one node
module _ (g : Graph) (node : ℕ) where
  pub silent_of_node : (b : ℕ) → IsOfOne (filter (λ e. eqb e.from node) g.silent) (λ e b. e.to ≡ b) b ↔ HasSilent g node b
  silent_of_node b = (
    λ (e, has, to).
        let found = (Contains-filter (λ e. eqb e.from node) g.silent e).0 has in
        subst (λ n. Contains g.silent (record { from = n; to = b })) (eqb-true e.from node found.1) (subst (λ n. Contains g.silent (record { from = e.from; to = n })) to found.0),
    λ has. (record { from = node; to = b }, (Contains-filter (λ e. eqb e.from node) g.silent (record { from = node; to = b })).1 (has, eq-eqb node node refl), refl),
  )

  pub sys_of_node : (e : Event) (b : ℕ) → IsOfOne (filter (λ d. eqb d.from node) g.sys) (λ d b. Fits d.name d.args e × (d.to ≡ b)) b ↔ IsRead g (λ a. a ≡ node) e b
  sys_of_node e b = (
    λ (d, has, (fits, to)).
        let found = (Contains-filter (λ d. eqb d.from node) g.sys d).0 has in
        record { edge = d; has = found.0; from = eqb-true d.from node found.1; fits = fits; to = to },
    λ read. (read.edge, (Contains-filter (λ d. eqb d.from node) g.sys read.edge).1 (read.has, eq-eqb read.edge.from node read.from), (read.fits, read.to)),
  )

-- the edges that leave the nodes of a set, node by node
pub read_none : (g : Graph) (Is : ℕ → Type 0) (e : Event) (b : ℕ) → IsRead g (λ a. Is a × (a < 0)) e b → ⊥
read_none g Is e b read = omega (arith, read.from.1)

pub read_more : (g : Graph) (Is : ℕ → Type 0) (e : Event) (from node : ℕ) → from ≤ node → Is node → ((j : ℕ) → from ≤ j → Is j → node ≤ j)
    → (b : ℕ) → IsRead g (λ a. Is a × (a < node + 1)) e b ↔ (IsRead g (λ a. Is a × (a < from)) e b ⊎ IsRead g (λ a. a ≡ node) e b)
read_more g Is e from node le is least b = (
  λ read. elim (cases_order read.edge.from node) as (λ _. IsRead g (λ a. Is a × (a < from)) e b ⊎ IsRead g (λ a. a ≡ node) e b) [
    | inl same ↦ inr (record { edge = read.edge; has = read.has; from = same; fits = read.fits; to = read.to })
    | inr (inl less) ↦ inl (record { edge = read.edge; has = read.has; from = (read.from.0, before read.edge.from less read.from.0); fits = read.fits; to = read.to })
    | inr (inr more) ↦ absurd (omega (arith, read.from.1))
  ],
  λ s. elim s as (λ _. IsRead g (λ a. Is a × (a < node + 1)) e b) [
    | inl read ↦ record { edge = read.edge; has = read.has; from = (read.from.0, omega (arith, read.from.1)); fits = read.fits; to = read.to }
    | inr read ↦ record { edge = read.edge; has = read.has; from = (subst Is (sym read.from) is, omega (arith, read.from)); fits = read.fits; to = read.to }
  ],
)
  where
    before : (a : ℕ) → a < node → Is a → a < from
    before a less there = elim (cases_lt a from) as (λ _. a < from) [ inl below ↦ below | inr above ↦ absurd (omega (arith, least a above there)) ]

pub read_all : (g : Graph) (Is : ℕ → Type 0) (e : Event) (from : ℕ) → ((j : ℕ) → from ≤ j → Is j → ⊥) → (b : ℕ) → IsRead g (λ a. Is a × (a < from)) e b ↔ IsRead g Is e b
read_all g Is e from none b = (
  λ read. record { edge = read.edge; has = read.has; from = read.from.0; fits = read.fits; to = read.to },
  λ read. record { edge = read.edge; has = read.has; from = (read.from, before read.edge.from read.from); fits = read.fits; to = read.to },
)
  where
    before : (a : ℕ) → Is a → a < from
    before a there = elim (cases_lt a from) as (λ _. a < from) [ inl below ↦ below | inr above ↦ absurd (none a above there) ]

-- the function at a place
pub entry_below : (g : Graph) → IsValid g → (f : ℕ) (one : ModelFunction) → f < length g.functions → one ≡ get_or g.functions f one → one.entry < g.nodes
entry_below g valid f one lt is = let P : ModelFunction → Type 0 = λ d. d.entry < g.nodes in subst P (sym is) (valid.entries.below f one lt)

pub function_at : (g : Graph) (f : ℕ) (one : ModelFunction) → f < length g.functions → one ≡ get_or g.functions f one → HasFunction g f one.entry one.exit
function_at g f one lt is = record { one = one; has = slice_get-get_or g.functions f one lt ∙ ap Some (sym is); begins = refl; ends = refl }

pub function_there : (g : Graph) (f : ℕ) → f < length g.functions → (entry : ℕ) × (exit : ℕ) × HasFunction g f entry exit
function_there g f lt = elim (slice_get_cases g.functions f).1 as (λ _. (entry : ℕ) × (exit : ℕ) × HasFunction g f entry exit) [
  | inl (one, below, has, is) ↦ (one.entry, one.exit, record { one = one; has = has; begins = refl; ends = refl })
  | inr past ↦ absurd (omega (arith, past.0))
]

pub same_function : {g : Graph} {f a b c d : ℕ} → HasFunction g f a b → HasFunction g f c d → (a ≡ c) × (b ≡ d)
same_function one two =
    let same : one.one ≡ two.one = same_Some one.one two.one (sym one.has ∙ two.has) in
    (sym one.begins ∙ ap (λ f. f.entry) same ∙ two.begins, sym one.ends ∙ ap (λ f. f.exit) same ∙ two.ends)

pub entry_of_function : (g : Graph) (f : ℕ) (one : ModelFunction) → f < length g.functions → one ≡ get_or g.functions f one → (b : ℕ) → (one.entry ≡ b) ↔ ((exit : ℕ) × HasFunction g f b exit)
entry_of_function g f one lt is b =
    let here = function_at g f one lt is in (
      λ same. (one.exit, subst (λ n. HasFunction g f n one.exit) same here),
      λ (exit, has). (same_function here has).0,
    )

-- no function of the list ends at one of the nodes, nor does the next one
pub none_more : (g : Graph) (Is : ℕ → Type 0) (functions : List ℕ) (i begin end : ℕ) → i < length functions → HasFunction g (get_or functions i 0) begin end → (Is end → ⊥)
    → ((f entry exit : ℕ) → Contains (take i functions) f → HasFunction g f entry exit → Is exit → ⊥)
    → (f entry exit : ℕ) → Contains (take (i + 1) functions) f → HasFunction g f entry exit → Is exit → ⊥
none_more g Is functions i begin end lt here not_here before f entry exit has function is =
    elim (Contains-push_cases (take i functions) (get_or functions i 0) f (subst (λ fs. Contains fs f) (take_more functions i 0 lt) has)) as (λ _. ⊥) [
      | inl old ↦ before f entry exit old function is
      | inr same ↦ let there = subst (λ n. HasFunction g n begin end) same here in not_here (subst Is (sym (same_function there function).1) is)
    ]

-- the call that is found by its site
found_call : (site : ℕ) (calls : List Call) (call : Call) → find (λ c. eqb c.site site) calls ≡ Some call → Contains calls call × (call.site ≡ site)
found_call site [] call is = absurd (none-some call is)
found_call site (c ∷ cs) call is = elim (cases_Bool (eqb c.site site)) as (λ _. Contains (c ∷ cs) call × (call.site ≡ site)) [
  | inl yes_it ↦ let same : c ≡ call = same_Some c call (rw yes_it at is) in ((0, omega arith, same), ap (λ d. d.site) (sym same) ∙ eqb-true c.site site yes_it)
  | inr no_it ↦ let rest = found_call site cs call (rw no_it at is) in (Contains-cons call c cs rest.0, rest.1)
]

no_first : (site : ℕ) (c : Call) (cs : List Call) → find (λ c. eqb c.site site) (c ∷ cs) ≡ None → (c.site ≡ site → ⊥) × (find (λ c. eqb c.site site) cs ≡ None)
no_first site c cs none = elim (cases_Bool (eqb c.site site)) as (λ _. (c.site ≡ site → ⊥) × (find (λ c. eqb c.site site) cs ≡ None)) [
  | inl yes_it ↦ absurd (none-some c (sym (rw yes_it at none)))
  | inr no_it ↦ (λ same. false≢true (sym no_it ∙ eq-eqb c.site site same), rw no_it at none)
]

pub no_call : (site : ℕ) (calls : List Call) (call : Call) → find (λ c. eqb c.site site) calls ≡ None → Contains calls call → call.site ≡ site → ⊥
no_call site [] call none (k, lt, is) same = omega (arith, lt)
no_call site (c ∷ cs) call none (zero, lt, is) same = (no_first site c cs none).0 (ap (λ d. d.site) is ∙ same)
no_call site (c ∷ cs) call none (suc k, lt, is) same = no_call site cs call (no_first site c cs none).1 (k, omega (arith, lt), is) same

-- and there is no other call with that site
calls_rise : (g : Graph) → IsValid g → (c d : Call) (i j : ℕ) → i < j → j < length g.calls → get_or g.calls i c ≡ c → get_or g.calls j d ≡ d → c.site < d.site
calls_rise g valid c d i j before within is at =
    let less : (get_or g.calls i d).site < (get_or g.calls j d).site = lt_from_less (get_or g.calls i d).site (get_or g.calls j d).site (valid.order.calls i j d before within) in
    let inside : i < length g.calls = omega arith in
    omega (arith, less, ap (λ e. e.site) (get_or_default g.calls i d c inside ∙ is), ap (λ e. e.site) at)

pub one_call : (g : Graph) → IsValid g → (c d : Call) → Contains g.calls c → Contains g.calls d → c.site ≡ d.site → c ≡ d
one_call g valid c d (i, below, is) (j, within, at) same = elim (cases_order i j) as (λ _. c ≡ d) [
  | inl one ↦ sym is ∙ get_or_default g.calls i c d below ∙ ap (λ k. get_or g.calls k d) one ∙ at
  | inr (inl before) ↦ absurd (omega (arith, same, calls_rise g valid c d i j before within is at))
  | inr (inr after) ↦ absurd (omega (arith, same, calls_rise g valid d c j i after below at is))
]

-- where the call at a site leads
module _ (g : Graph) (valid : IsValid g) (Is : ℕ → Type 0) (site : ℕ) (call : Call) (found : find (λ c. eqb c.site site) g.calls ≡ Some call) where
  same_call : {a b f : ℕ} (has : HasCall g a site b f) → has.call ≡ call
  same_call has = let there = found_call site g.calls call found in one_call g valid has.call call has.has there.0 (has.site ∙ sym there.1)

  this_call : (f : ℕ) → Contains call.candidates f → HasCall g call.from site call.to f
  this_call f has = let there = found_call site g.calls call found in record { call = call; has = there.0; from = refl; site = there.1; to = refl; candidate = has }

  pub entered_by_call : (b : ℕ) → IsEntered g Is site b ↔ (Is call.from × IsOfOne call.candidates (λ f b. (exit : ℕ) × HasFunction g f b exit) b)
  entered_by_call b = (
    λ entered.
        let same = same_call entered.call in
        (subst Is (sym entered.call.from ∙ ap (λ c. c.from) same) entered.leaves, (entered.function, subst (λ (c : Call). Contains c.candidates entered.function) same entered.call.candidate, (entered.exit, entered.enters))),
    λ (is, (f, has, (exit, function))). record { from = call.from; to = call.to; function = f; exit = exit; call = this_call f has; enters = function; leaves = is },
  )

  pub returned_by_call : (b : ℕ) → IsReturned g Is site b ↔ (((f : ℕ) × (entry : ℕ) × (exit : ℕ) × Contains call.candidates f × HasFunction g f entry exit × Is exit) × (call.to ≡ b))
  returned_by_call b = (
    λ returned.
        let same = same_call returned.call in
        ((returned.function, returned.entry, returned.exit, subst (λ (c : Call). Contains c.candidates returned.function) same returned.call.candidate, returned.ends, returned.leaves), ap (λ c. c.to) (sym same) ∙ returned.call.to),
    λ ((f, entry, exit, has, function, is), to). record { from = call.from; function = f; entry = entry; exit = exit; call = subst (λ n. HasCall g call.from site n f) to (this_call f has); ends = function; leaves = is },
  )

  pub call_candidates : All (λ f. f < length g.functions) call.candidates
  call_candidates = All-contains (λ (c : Call). All (λ f. f < length g.functions) c.candidates) g.calls call valid.functions.candidates (found_call site g.calls call found).0

  pub call_to : call.to < g.nodes
  call_to = All-contains (λ (c : Call). c.to < g.nodes) g.calls call (calls_below g valid) (found_call site g.calls call found).0

  pub call_cost : length call.candidates ≤ sum_by (λ c. length c.candidates) g.calls
  call_cost =
      let (k, lt, is) = (found_call site g.calls call found).0 in
      omega (arith, get_or-le-sum_by (λ (c : Call). length c.candidates) g.calls k call lt, ap (λ (c : Call). length c.candidates) is)

-- without a call at the site
module _ (g : Graph) (Is : ℕ → Type 0) (site : ℕ) (none : find (λ c. eqb c.site site) g.calls ≡ None) (b : ℕ) where
  pub never_entered : IsEntered g Is site b → ⊥
  never_entered entered = no_call site g.calls entered.call.call none entered.call.has entered.call.site

  pub never_returned : IsReturned g Is site b → ⊥
  never_returned returned = no_call site g.calls returned.call.call none returned.call.has returned.call.site
