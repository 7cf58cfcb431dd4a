-- The turn of one node, and what stands at the end.
use Rattle.std.proofs.Common.{◌≡◌, ℕ, ◌+◌, ◌<◌, ◌≤◌, ◌⊎◌, ◌↔◌, List, [], ◌∷◌, ◌++◌, length, take, drop, Contains, Some, refl, sym, ap, ◌∙◌, subst, inl, inr, arith}
use Rattle.std.specs.Prelude.{slice_get}
use Rattle.std.specs.FinSet.{insert, empty}
use Rattle.std.proofs.lemmas.List.{take_more, take-append-le, length-append, take_all, take-append-drop}
use Rattle.std.proofs.lemmas.List.Elements.{Contains-get_or, Contains-push, Contains-push_cases, Contains-append_left}
use Rattle.std.proofs.lemmas.Option.{slice_get-get_or, slice_get_within, get_or_from_slice_get}
use Rattle.dm_sets.specs.Nodes.{Nodes, Has}
use Rattle.flow_model.specs.declared.records.ModelFunction.{ModelFunction}
use Rattle.flow_model.specs.Found.{Found}
use Rattle.flow_model.specs.Graph.{Graph, HasSilent, HasCall, HasFunction}
use Rattle.flow_model.specs.Rules.{IsValid}
use Rattle.flow_model.proofs.FoundLemmas.{has_insert, has_inserted, has_still, has_none}
use Rattle.inline_model.specs.Within.{Within}
use Rattle.inline_model.specs.Within.Within.{begins as w_begins, silent as w_silent, sys as w_sys, passes as w_passes}
use Rattle.inline_model.proofs.Basics.{within_owns, one_owner, function_owns_exit}
use Rattle.flow_model.specs.Growth.{Adds, HasOne}
use Rattle.inline_model.specs.Saturating.{IsWithin, CallsTo, PassesTo, LeavesTo, LeadsTo, IsSaturating}
use Rattle.inline_model.specs.Saturating.LeadsTo.{silent as l_silent, sys as l_sys, passes as l_passes, leaves as l_leaves}
use Rattle.flow_model.proofs.Grown.{adds-still, adds-cases}

front_has : (i : ℕ) (xs : List ℕ) (a : ℕ) → Contains (take i xs) a → Contains xs a
front_has i xs a has = subst (λ ys. Contains ys a) (take-append-drop i xs) (Contains-append_left (take i xs) (drop i xs) a has)

-- the ways to lead on, one after the other
pub leads_of : (g : Graph) (done : Nodes) (a b : ℕ) → ((HasSilent g a b ⊎ CallsTo g a b) ⊎ PassesTo g done a b) ⊎ LeavesTo g done a b → LeadsTo g done a b
leads_of g done a b (inl (inl (inl has))) = l_silent has
leads_of g done a b (inl (inl (inr has))) = l_sys has
leads_of g done a b (inl (inr has)) = l_passes has
leads_of g done a b (inr has) = l_leaves has

pub of_leads : (g : Graph) (done : Nodes) (a b : ℕ) → LeadsTo g done a b → ((HasSilent g a b ⊎ CallsTo g a b) ⊎ PassesTo g done a b) ⊎ LeavesTo g done a b
of_leads g done a b (l_silent has) = inl (inl (inl has))
of_leads g done a b (l_sys has) = inl (inl (inr has))
of_leads g done a b (l_passes has) = inl (inr has)
of_leads g done a b (l_leaves has) = inr has

-- an exit that is within some function is within its own
exit_within : {g : Graph} → IsValid g → {h entry exit : ℕ} → HasFunction g h entry exit → IsWithin g exit → Within g h exit
exit_within {g} valid {h} {entry} {exit} function (f, within) =
    subst (λ k. Within g k exit) (one_owner g.functions g.nodes f h exit valid.entries (within_owns valid within) (function_owns_exit valid function)) within

-- where a node and others within their functions lead is within too
leads_within : {g : Graph} → IsValid g → {done : Nodes} {a b : ℕ} → ((v : ℕ) → Has done v → IsWithin g v) → IsWithin g a → LeadsTo g done a b → IsWithin g b
leads_within valid sound (f, within) (l_silent has) = (f, w_silent within has)
leads_within valid sound (f, within) (l_sys (x, p, has)) = (f, w_sys within has)
leads_within {g} valid {a = a} sound (f, within) (l_passes (c, has, from, (h, candidate, exit), to)) =
    let function : HasFunction g h exit.one.entry exit.one.exit = record { one = exit.one; has = exit.has; begins = refl; ends = refl } in
    let call : HasCall g a c.site c.to h = record { call = c; has = has; from = from; site = refl; to = refl; candidate = candidate } in
    (f, subst (Within g f) to (w_passes within call function (exit_within valid function (sound exit.one.exit exit.exit))))
leads_within {g} valid {a = a} sound (f, within) (l_leaves (h, entry, function, (c, has, candidate, from, to))) =
    let caller = sound c.from from in
    let call : HasCall g c.from c.site c.to h = record { call = c; has = has; from = refl; site = refl; to = refl; candidate = candidate } in
    (caller.0, subst (Within g caller.0) to (w_passes caller.1 call function (exit_within valid function (f, within))))

contains_of_get : {X : Type 0} (xs : List X) (i : ℕ) (x : X) → slice_get xs i ≡ Some x → Contains xs x
contains_of_get xs i x is = (i, slice_get_within xs i x is, get_or_from_slice_get xs i x x is)

entry_within : (g : Graph) (a : ℕ) → HasOne (λ (f : ModelFunction) b. f.entry ≡ b) g.functions a → IsWithin g a
entry_within g a (one, (f, lt, is), begins) = (f, w_begins (record { one = one; has = slice_get-get_or g.functions f one lt ∙ ap Some is; begins = begins; ends = refl }))

-- The turn of the i-th node of the list, which is put into the set first.
module _ (g : Graph) (valid : IsValid g) (old new : Found) (before done : Nodes) (i node : ℕ) (is : slice_get old.nodes i ≡ Some node) (added : done ≡ record before { members = insert before.members node }) (adds : Adds old new (LeadsTo g done node)) (inv : IsSaturating g old before i) where
  turn_within : i < length old.nodes
  turn_within = slice_get_within old.nodes i node is

  here : Contains old.nodes node
  here = subst (Contains old.nodes) (get_or_from_slice_get old.nodes i node node is) (Contains-get_or old.nodes i node turn_within)

  -- the nodes that had their turn
  taken : take (i + 1) new.nodes ≡ take i old.nodes ++ node ∷ []
  taken =
      let within : i + 1 ≤ length old.nodes = omega (arith, turn_within) in
      ap (take (i + 1)) adds.grown
      ∙ take-append-le (i + 1) old.nodes adds.more within
      ∙ take_more old.nodes i node turn_within
      ∙ ap (λ n. take i old.nodes ++ n ∷ []) (get_or_from_slice_get old.nodes i node node is)

  still : (b : ℕ) → Contains old.nodes b → Contains new.nodes b
  still b has = adds-still old new adds b has

  turn_cases : (b : ℕ) → Contains (take (i + 1) new.nodes) b → Contains (take i old.nodes) b ⊎ (node ≡ b)
  turn_cases b has = Contains-push_cases (take i old.nodes) node b (subst (λ xs. Contains xs b) taken has)

  done_has : (a : ℕ) → Has done a → Contains (take (i + 1) new.nodes) a
  done_has a has = subst (λ xs. Contains xs a) (sym taken) (elim (has_insert before node a (subst (λ s. Has s a) added has)) [
    | inl same ↦ subst (Contains (take i old.nodes ++ node ∷ [])) (sym same) (Contains-push (take i old.nodes) node)
    | inr earlier ↦ Contains-append_left (take i old.nodes) (node ∷ []) a ((inv.done_is a).0 earlier)
  ])

  has_done : (a : ℕ) → Contains (take (i + 1) new.nodes) a → Has done a
  has_done a there = subst (λ s. Has s a) (sym added) (elim (turn_cases a there) [
    | inl earlier ↦ has_still before node a ((inv.done_is a).1 earlier)
    | inr same ↦ subst (Has (record before { members = insert before.members node })) same (has_inserted before node)
  ])

  done_sound : (a : ℕ) → Has done a → IsWithin g a
  done_sound a has = elim (turn_cases a (done_has a has)) [
    | inl earlier ↦ inv.sound a (front_has i old.nodes a earlier)
    | inr same ↦ subst (IsWithin g) same (inv.sound node here)
  ]

  turn_passes : (a s b f entry exit : ℕ) → Contains (take (i + 1) new.nodes) a → HasCall g a s b f → HasFunction g f entry exit → Contains (take (i + 1) new.nodes) exit → Contains new.nodes b
  turn_passes a s b f entry exit from call function ends = elim (turn_cases a from) [
    | inl a_before ↦ elim (turn_cases exit ends) [
      | inl exit_before ↦ still b (inv.passes a s b f entry exit a_before call function exit_before)
      | inr exit_here ↦ adds.all b (l_leaves (f, entry, subst (HasFunction g f entry) (sym exit_here) function, (call.call, call.has, call.candidate, subst (Has done) (sym call.from) (has_done a from), call.to)))
    ]
    | inr a_here ↦ adds.all b (l_passes (call.call, call.has, call.from ∙ sym a_here, (f, call.candidate, record { one = function.one; has = function.has; exit = subst (Has done) (sym function.ends) (has_done exit ends) }), call.to))
  ]

  pub turn : IsSaturating g new done (i + 1)
  turn = record {
    size = adds.size ∙ inv.size;
    room = ap (λ (s : Nodes). s.size) added ∙ inv.room;
    within = omega (arith, turn_within, ap length adds.grown, length-append old.nodes adds.more);
    sound = λ a has. elim (adds-cases old new adds a has) [
      | inl earlier ↦ inv.sound a earlier
      | inr leads ↦ leads_within valid done_sound (inv.sound node here) leads
    ];
    entries = λ f entry exit function. still entry (inv.entries f entry exit function);
    done_is = λ a. (done_has a, has_done a);
    silent = λ a b from has. elim (turn_cases a from) [
      | inl earlier ↦ still b (inv.silent a b earlier has)
      | inr same ↦ adds.all b (l_silent (subst (λ n. HasSilent g n b) (sym same) has))
    ];
    sys = λ a b from has. elim (turn_cases a from) [
      | inl earlier ↦ still b (inv.sys a b earlier has)
      | inr same ↦ adds.all b (l_sys (subst (λ n. CallsTo g n b) (sym same) has))
    ];
    passes = turn_passes;
  }

-- Where all have had their turn.
module _ (g : Graph) (found : Found) (done : Nodes) (i : ℕ) (inv : IsSaturating g found done i) (over : length found.nodes ≤ i) where
  all : take i found.nodes ≡ found.nodes
  all = take_all i found.nodes over

  turned : (a : ℕ) → Contains found.nodes a → Contains (take i found.nodes) a
  turned a has = subst (λ xs. Contains xs a) (sym all) has

  found_within : {f a : ℕ} → Within g f a → Contains found.nodes a
  found_within (w_begins {f = f} {entry = entry} {exit = exit} function) = inv.entries f entry exit function
  found_within (w_silent {a = a} {b = b} before has) = inv.silent a b (turned a (found_within before)) has
  found_within (w_sys {a = a} {x = x} {b = b} {p = p} before has) = inv.sys a b (turned a (found_within before)) (x, p, has)
  found_within (w_passes {a = a} {s = s} {b = b} {h = h} {entry = entry} {exit = exit} before call function inner) = inv.passes a s b h entry exit (turned a (found_within before)) call function (turned exit (found_within inner))

  pub saturated : (a : ℕ) → Has done a ↔ IsWithin g a
  saturated a = (
    λ has. inv.sound a (subst (λ xs. Contains xs a) all ((inv.done_is a).0 has)),
    λ within. (inv.done_is a).1 (turned a (found_within within.1)),
  )

-- before the first turn
pub begun : (g : Graph) (old new : Found) → old.nodes ≡ [] → old.size ≡ g.nodes → Adds old new (HasOne (λ (f : ModelFunction) b. f.entry ≡ b) g.functions) → (set : Nodes) → set.size ≡ g.nodes → set.members ≡ empty → IsSaturating g new set 0
begun g old new fresh sized adds set room none = record {
  size = adds.size ∙ sized;
  room = room;
  within = omega arith;
  sound = λ a has. elim (adds-cases old new adds a has) [
    | inl before ↦ absurd (let has = subst (λ xs. Contains xs a) fresh before in omega (arith, has.1))
    | inr one ↦ entry_within g a one
  ];
  entries = λ f entry exit function. adds.all entry (function.one, contains_of_get g.functions f function.one function.has, function.begins);
  done_is = λ a. (λ has. absurd (has_none set.size a (subst (λ ms. Has (record { size = set.size; members = ms }) a) none has)), λ has. absurd (omega (arith, has.1)));
  silent = λ a b has. absurd (omega (arith, has.1));
  sys = λ a b has. absurd (omega (arith, has.1));
  passes = λ a s b f entry exit has. absurd (omega (arith, has.1));
}
