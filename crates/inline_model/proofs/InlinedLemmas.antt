-- A configuration of the abstract-stack model and a node of the inlined model are the same thing.
use Rattle.std.proofs.Common.{◌≡◌, ℕ, ℤ, ◌+◌, ◌-◌, ◌<◌, ◌≤◌, inl, inr, Option, List, [], ◌∷◌, ◌++◌, Contains, Some, zero, suc, refl, sym, ◌∙◌, ap, subst, arith}
use Rattle.std.specs.Prelude.{slice_get}
use Rattle.std.proofs.lemmas.List.{append-nil, append_assoc}
use Rattle.std.proofs.lemmas.List.Elements.{Contains-append_left, Contains-append_right, Contains-append_cases}
use Rattle.std.proofs.lemmas.List.Sums.{sum_by-cons}
use Rattle.dm_base.specs.declared.event.Event.{Event}
use Rattle.dm_base.specs.Trace.{erase}
use Rattle.flow_model.specs.declared.records.ModelFunction.{ModelFunction}
use Rattle.flow_model.specs.declared.which.Which.TheVariants.{Callgraph, Stack}
use Rattle.flow_model.specs.Graph.{Graph, HasSilent, HasSys, HasCall, HasFunction, Owns, end_of}
use Rattle.flow_model.specs.Language.{Move, Steps, StackRun, Walk, Reads}
use Rattle.flow_model.specs.Language.Move.{Inside, Calls, Enters, Leaves}
use Rattle.flow_model.specs.Language.Steps.{silent as s_silent, sys as s_sys, enter as s_enter, leave as s_leave}
use Rattle.flow_model.specs.Language.StackRun.{over as r_over, inside as r_inside, calls as r_calls, enters as r_enters, leaves as r_leaves}
use Rattle.flow_model.specs.Language.Walk.{over as w_over, quiet as w_quiet, calls as w_calls}
use Rattle.flow_model.specs.Language.Quiet.{silent as q_silent}
use Rattle.flow_model.specs.Rules.{IsValid}
use Rattle.flow_model.proofs.Walks.{quiet_is_silent}
use Rattle.inline_model.specs.Within.{Within}
use Rattle.inline_model.specs.Within.Within.{begins as w_begins, silent as w_silent, sys as w_sys}
use Rattle.inline_model.specs.Chains.{Opening}
use Rattle.inline_model.specs.Copies.{Opened, function_of, entry_of, size_of, node_count, IsCopy, AreOpenings, Copies, Branches, AreCopies, BeginsAt}
use Rattle.inline_model.specs.Copies.IsCopy.{of_start, goes_on}
use Rattle.inline_model.specs.Copies.Copies.{unfolds}
use Rattle.inline_model.specs.Copies.Branches.{over, branch}
use Rattle.inline_model.specs.Inlined.{IsNodeOf, HasInlinedSilent, HasInlinedSys, IsInlined}
use Rattle.inline_model.specs.Inlined.HasInlinedSilent.{copied, enters, leaves as comes_back}
use Rattle.inline_model.specs.Inlined.HasInlinedSys.{copied as copied_sys}
use Rattle.inline_model.proofs.Basics.{within_owns, function_owns_entry, entry_is, silent_stays, sys_stays, same_function}
use Rattle.inline_model.proofs.DepthLemmas.{the_start}
use Rattle.flow_model.proofs.Rising.{cons_cases, is_first, is_later}
use Rattle.inline_model.proofs.Standing.{Stands, Leaves as GoesBack, stands_first, leaves, within_caller, sites_of}

-- The copies that stand in a list before its rest: they have all copies that go on from one of them.
record IsFront (g : Graph) (list rest front : List (List Opened)) : Type 0 where
  stands : list ≡ front ++ rest
  closed : (copy : List Opened) (call : Opened) → Contains front copy → Opening g (function_of g copy) call.site call.candidate → Contains front (call ∷ copy)

record Unfolded (g : Graph) (copy : List Opened) (list rest : List (List Opened)) : Type 0 where
  front : List (List Opened)
  is_front : IsFront g list rest front
  has : Contains front copy

record Branched (g : Graph) (copy calls : List Opened) (list rest : List (List Opened)) : Type 0 where
  front : List (List Opened)
  is_front : IsFront g list rest front
  has : (call : Opened) → Contains calls call → Contains front (call ∷ copy)

unfolded_from : (g : Graph) (copy calls : List Opened) (list rest : List (List Opened)) → AreOpenings g (function_of g copy) calls → Branched g copy calls list rest → Unfolded g copy (copy ∷ list) rest
unfolded_from g copy calls list rest are there = record {
  front = copy ∷ there.front;
  is_front = record {
    stands = ap (λ xs. copy ∷ xs) there.is_front.stands;
    closed = λ c call has opening. elim (cons_cases copy there.front c has) [
      | inl same ↦ is_later copy there.front (call ∷ c) (subst (λ d. Contains there.front (call ∷ d)) same (there.has call ((are.all call).1 (subst (λ d. Opening g (function_of g d) call.site call.candidate) (sym same) opening))))
      | inr later ↦ is_later copy there.front (call ∷ c) (there.is_front.closed c call later opening)
    ];
  };
  has = is_first copy there.front;
}

branched_none : (g : Graph) (copy : List Opened) (list : List (List Opened)) → Branched g copy [] list list
branched_none g copy list = record {
  front = [];
  is_front = record { stands = refl; closed = λ c call has opening. absurd (omega (arith, has.1)) };
  has = λ call has. absurd (omega (arith, has.1));
}

branched_more : (g : Graph) (copy calls : List Opened) (call : Opened) (list middle rest : List (List Opened)) → Unfolded g (call ∷ copy) list middle → Branched g copy calls middle rest → Branched g copy (call ∷ calls) list rest
branched_more g copy calls call list middle rest one more = record {
  front = one.front ++ more.front;
  is_front = record {
    stands = one.is_front.stands ∙ ap (λ xs. one.front ++ xs) more.is_front.stands ∙ sym (append_assoc one.front more.front rest);
    closed = λ c d has opening. elim (Contains-append_cases one.front more.front c has) [
      | inl there ↦ Contains-append_left one.front more.front (d ∷ c) (one.is_front.closed c d there opening)
      | inr there ↦ Contains-append_right one.front more.front (d ∷ c) (more.is_front.closed c d there opening)
    ];
  };
  has = λ d has. elim (cons_cases call calls d has) [
    | inl same ↦ Contains-append_left one.front more.front (d ∷ copy) (subst (λ e. Contains one.front (e ∷ copy)) same one.has)
    | inr later ↦ Contains-append_right one.front more.front (d ∷ copy) (more.has d later)
  ];
}

mutual
  unfolded : {g : Graph} {copy : List Opened} {list rest : List (List Opened)} → Copies g copy list rest → Unfolded g copy list rest
  unfolded {g} {copy} {rest = rest} (unfolds {calls = calls} {list = list} are branches) = unfolded_from g copy calls list rest are (branched branches)

  branched : {g : Graph} {copy calls : List Opened} {list rest : List (List Opened)} → Branches g copy calls list rest → Branched g copy calls list rest
  branched {g} {copy} {list = list} over = branched_none g copy list
  branched {g} {copy} {list = list} {rest = rest} (branch {calls = calls} {call = call} {middle = middle} one more) = branched_more g copy calls call list middle rest (unfolded one) (branched more)

-- every copy is in the list
module _ (g : Graph) (copies : List (List Opened)) (are : AreCopies g copies) where
  all_front : (let there = unfolded are in there.front ≡ copies)
  all_front = let there = unfolded are in sym (there.is_front.stands ∙ append-nil there.front)

  pub has_copy : {copy : List Opened} → IsCopy g copy → Contains copies copy
  has_copy of_start = subst (λ xs. Contains xs []) all_front (unfolded are).has
  has_copy (goes_on {copy = copy} {call = call} before opening) =
      subst (λ xs. Contains xs (call ∷ copy)) all_front ((unfolded are).is_front.closed copy call (subst (λ xs. Contains xs copy) (sym all_front) (has_copy before)) opening)

-- where a copy of the list begins
split_at : {X : Type 0} (xs : List X) (x : X) → Contains xs x → (before : List X) × (after : List X) × (xs ≡ before ++ x ∷ after)
split_at [] x has = absurd (omega (arith, has.1))
split_at (y ∷ xs) x (zero, lt, is) = ([], xs, ap (λ z. z ∷ xs) is)
split_at (y ∷ xs) x (suc k, lt, is) = let rest = split_at xs x (k, omega arith, is) in (y ∷ rest.0, rest.1, ap (λ zs. y ∷ zs) rest.2)

pub begins_somewhere : (g : Graph) (copies : List (List Opened)) (copy : List Opened) → Contains copies copy → (n : ℕ) × BeginsAt g copies copy n
begins_somewhere g copies copy has =
    let parts = split_at copies copy has in
    (node_count g parts.0, record { before = parts.0; after = parts.1; stands = parts.2; number_is = refl })

-- each node of a copy's function has a number
pub node_of : (g : Graph) (copies : List (List Opened)) (copy : List Opened) (a : ℕ) → Contains copies copy → Owns g.functions g.nodes (function_of g copy) a → (i : ℕ) × IsNodeOf g copies copy a i
node_of g copies copy a has owns =
    let begins = begins_somewhere g copies copy has in
    (begins.0 + (a - entry_of g.functions (function_of g copy)), record { first = begins.0; begins = begins.1; owns = owns; number_is = refl })

too_early : (g : Graph) (copy d : List Opened) → copy ≡ d → (before : List (List Opened)) (o o' : ℕ) → o < size_of g copy → node_count g [] + o ≡ node_count g (d ∷ before) + o' → ⊥
too_early g copy d is before o o' lt number = omega (arith, ap (size_of g) is, sum_by-cons (size_of g) d before)

-- a number belongs to one node of one copy
place_unique : (g : Graph) (before before' : List (List Opened)) (copy copy' : List Opened) (after after' : List (List Opened)) (o o' : ℕ) → before ++ copy ∷ after ≡ before' ++ copy' ∷ after' → o < size_of g copy → o' < size_of g copy' → node_count g before + o ≡ node_count g before' + o' → (copy ≡ copy') × (o ≡ o')
place_unique g [] [] copy copy' after after' o o' same lt lt' number = (cc, omega arith)
place_unique g [] (d ∷ before') copy copy' after after' o o' same lt lt' number =
    let is : copy ≡ d = cc in absurd (too_early g copy d is before' o o' lt number)
place_unique g (d ∷ before) [] copy copy' after after' o o' same lt lt' number =
    let is : copy' ≡ d = cc in absurd (too_early g copy' d is before o' o lt' (sym number))
place_unique g (d ∷ before) (e ∷ before') copy copy' after after' o o' same lt lt' number =
    let is : d ≡ e = cc in
    let tails : before ++ copy ∷ after ≡ before' ++ copy' ∷ after' = cc in
    place_unique g before before' copy copy' after after' o o' tails lt lt' (omega (arith, ap (size_of g) is, sum_by-cons (size_of g) d before, sum_by-cons (size_of g) e before'))

offset_below : (g : Graph) (f a : ℕ) → Owns g.functions g.nodes f a → (entry_of g.functions f ≤ a) × (a - entry_of g.functions f < end_of g.functions g.nodes f - entry_of g.functions f)
offset_below g f a owns =
    let entry = entry_is g.functions f owns.one owns.has in
    (omega (arith, entry, owns.from), omega (arith, entry, owns.from, owns.to))

pub same_node : {g : Graph} {copies : List (List Opened)} {copy copy' : List Opened} {a a' i : ℕ} → IsNodeOf g copies copy a i → IsNodeOf g copies copy' a' i → (copy ≡ copy') × (a ≡ a')
same_node {g} {copies} {copy} {copy'} {a} {a'} one two =
    let off = offset_below g (function_of g copy) a one.owns in
    let off' = offset_below g (function_of g copy') a' two.owns in
    let unique = place_unique g one.begins.before two.begins.before copy copy' one.begins.after two.begins.after (a - entry_of g.functions (function_of g copy)) (a' - entry_of g.functions (function_of g copy'))
    (sym one.begins.stands ∙ two.begins.stands) off.1 off'.1 (omega (arith, one.number_is, two.number_is, one.begins.number_is, two.begins.number_is)) in
    (unique.0, omega (arith, unique.1, off.0, off'.0, ap (λ c. entry_of g.functions (function_of g c)) unique.0))

-- a configuration beside a node of the inlined model
pub record Beside (g : Graph) (copies : List (List Opened)) (node : ℕ) (sites : List ℕ) (number : ℕ) : Type 0 where
  pub stands : Stands g node sites
  pub is_node : IsNodeOf g copies stands.copy node number

-- the edge of the inlined model that stands for a move
abbrev Edge : Graph → Move → ℕ → ℕ → Type 0
Edge m Inside i j = HasSilent m i j
Edge m (Calls x p) i j = HasSys m i x p j
Edge m (Enters s) i j = HasSilent m i j
Edge m (Leaves s) i j = HasSilent m i j

record Stepped (g m : Graph) (copies : List (List Opened)) (move : Move) (i b : ℕ) (z : List ℕ) : Type 0 where
  number : ℕ
  beside : Beside g copies b z number
  edge : Edge m move i number

-- a step inside a function
stays_beside : {g : Graph} {copies : List (List Opened)} {a b i j : ℕ} {y : List ℕ} (there : Beside g copies a y i) → Within g (function_of g there.stands.copy) b → IsNodeOf g copies there.stands.copy b j → Beside g copies b y j
stays_beside there within node = record {
  stands = record { copy = there.stands.copy; is_copy = there.stands.is_copy; sites_are = there.stands.sites_are; within = within };
  is_node = node;
}

-- a call
enters_beside : {g : Graph} {copies : List (List Opened)} {a s b f entry exit i j : ℕ} {y : List ℕ} → HasCall g a s b f → HasFunction g f entry exit → (there : Beside g copies a y i) → IsNodeOf g copies (record { site = s; candidate = f } ∷ there.stands.copy) entry j → Beside g copies entry (s ∷ y) j
enters_beside {a = a} {s = s} {b = b} {f = f} call function there node = record {
  stands = record {
    copy = record { site = s; candidate = f } ∷ there.stands.copy;
    is_copy = goes_on there.stands.is_copy (record { from = a; to = b; call = call; within = there.stands.within });
    sites_are = ap (λ xs. s ∷ xs) there.stands.sites_are;
    within = w_begins function;
  };
  is_node = node;
}

-- a return
back_beside : {g : Graph} {copies : List (List Opened)} {s b f entry exit j : ℕ} {z : List ℕ} {copy : List Opened} → HasFunction g f entry exit → Within g (function_of g copy) exit → (back : GoesBack g copy s b f z) → IsNodeOf g copies back.caller b j → Beside g copies b z j
back_beside function within back node = record {
  stands = record { copy = back.caller; is_copy = back.is_copy; sites_are = back.sites_are; within = within_caller function within back };
  is_node = node;
}

-- the copy is that of its newest call
copy_is : {g : Graph} {copy : List Opened} {s b f : ℕ} {z : List ℕ} (back : GoesBack g copy s b f z) → copy ≡ record { site = s; candidate = f } ∷ back.caller
copy_is back = back.is ∙ (λ i. record { site = back.site i; candidate = back.candidate i } ∷ back.caller)

-- the empty copy comes first
root_begins : {g : Graph} {copies : List (List Opened)} → AreCopies g copies → BeginsAt g copies [] 0
root_begins (unfolds {list = list} are branches) = record { before = []; after = list; stands = refl; number_is = refl }

zero_offset : (functions : List ModelFunction) (f entry : ℕ) (one : ModelFunction) → slice_get functions f ≡ Some one → one.entry ≡ entry → 0 ≡ 0 + (entry - entry_of functions f)
zero_offset functions f entry one has begins = omega (arith, entry_is functions f one has, begins)

tail_of : {d e : Opened} {xs ys : List Opened} → d ∷ xs ≡ e ∷ ys → xs ≡ ys
tail_of same = cc

module _ (g m : Graph) (valid : IsValid g) (inlined : IsInlined g m) where
  -- each step of the abstract-stack model is an edge
  step_edge : {a b i : ℕ} {y z : List ℕ} {move : Move} → Steps g a y move b z → Beside g inlined.copies a y i → Stepped g m inlined.copies move i b z
  step_edge {i = i} (s_silent {a = a} {b = b} has) there =
      let copy = there.stands.copy in
      let to = node_of g inlined.copies copy b (has_copy g inlined.copies inlined.are there.stands.is_copy) (silent_stays valid has there.is_node.owns) in
      record { number = to.0; beside = stays_beside there (w_silent there.stands.within has) to.1; edge = (inlined.silent i to.0).1 (copied has there.is_node to.1) }
  step_edge {i = i} (s_sys {a = a} {x = x} {b = b} {p = p} has) there =
      let copy = there.stands.copy in
      let to = node_of g inlined.copies copy b (has_copy g inlined.copies inlined.are there.stands.is_copy) (sys_stays valid has there.is_node.owns) in
      record { number = to.0; beside = stays_beside there (w_sys there.stands.within has) to.1; edge = (inlined.sys i x p to.0).1 (copied_sys has there.is_node to.1) }
  step_edge {i = i} (s_enter {a = a} {s = s} {b = b} {f = f} {entry = entry} call function) there =
      let next : IsCopy g (record { site = s; candidate = f } ∷ there.stands.copy) = goes_on there.stands.is_copy (record { from = a; to = b; call = call; within = there.stands.within }) in
      let to = node_of g inlined.copies (record { site = s; candidate = f } ∷ there.stands.copy) entry (has_copy g inlined.copies inlined.are next) (function_owns_entry valid function) in
      record { number = to.0; beside = enters_beside call function there to.1; edge = (inlined.silent i to.0).1 (enters call there.stands.within function there.is_node to.1) }
  step_edge {i = i} (s_leave {s = s} {b = b} {f = f} {exit = exit} call function) there =
      let back = leaves valid call function there.stands in
      let to = node_of g inlined.copies back.caller b (has_copy g inlined.copies inlined.are back.is_copy) (within_owns valid (within_caller function there.stands.within back)) in
      let here : IsNodeOf g inlined.copies (record { site = s; candidate = f } ∷ back.caller) exit i = subst (λ c. IsNodeOf g inlined.copies c exit i) (copy_is back) there.is_node in
      let opening_call : HasCall g back.opening.from s b f = subst (λ n. HasCall g back.opening.from s n f) back.to back.opening.call in
      record { number = to.0; beside = back_beside function there.stands.within back to.1; edge = (inlined.silent i to.0).1 (comes_back opening_call back.opening.within function here to.1) }

  forward : {a c : ℕ} {y w : List ℕ} {t : List Event} → StackRun g a y t c w → (i : ℕ) → Beside g inlined.copies a y i → (j : ℕ) × Walk m i t j
  forward r_over i there = (i, w_over)
  forward (r_inside step rest) i there = let next = step_edge step there in let more = forward rest next.number next.beside in (more.0, w_quiet (q_silent next.edge) more.1)
  forward (r_calls step fits rest) i there = let next = step_edge step there in let more = forward rest next.number next.beside in (more.0, w_calls next.edge fits more.1)
  forward (r_enters step rest) i there = let next = step_edge step there in let more = forward rest next.number next.beside in (more.0, w_quiet (q_silent next.edge) more.1)
  forward (r_leaves step rest) i there = let next = step_edge step there in let more = forward rest next.number next.beside in (more.0, w_quiet (q_silent next.edge) more.1)

  -- each silent edge is a step that reads nothing, and what is read after it is read after the step
  record Goes (a : ℕ) (y : List ℕ) (j : ℕ) : Type 0 where
    node : ℕ
    sites : List ℕ
    beside : Beside g inlined.copies node sites j
    run : {c : ℕ} {w : List ℕ} {t : List Event} → StackRun g node sites t c w → StackRun g a y t c w

  edge_step : {a i j : ℕ} {y : List ℕ} → HasInlinedSilent g inlined.copies i j → Beside g inlined.copies a y i → Goes a y j
  edge_step {a} {y = y} (copied {copy = copy} {a = from} {b = b} {j = j} has from_node to_node) there =
      let same = same_node from_node there.is_node in
      let has_here : HasSilent g a b = subst (λ n. HasSilent g n b) same.1 has in
      record {
        node = b;
        sites = y;
        beside = stays_beside there (w_silent there.stands.within has_here) (subst (λ c. IsNodeOf g inlined.copies c b j) same.0 to_node);
        run = λ rest. r_inside (s_silent has_here) rest;
      }
  edge_step {a} {y = y} (enters {copy = copy} {a = from} {s = s} {b = b} {f = f} {entry = entry} {j = j} call within function from_node to_node) there =
      let same = same_node from_node there.is_node in
      let call_here : HasCall g a s b f = subst (λ n. HasCall g n s b f) same.1 call in
      record {
        node = entry;
        sites = s ∷ y;
        beside = enters_beside call_here function there (subst (λ c. IsNodeOf g inlined.copies (record { site = s; candidate = f } ∷ c) entry j) same.0 to_node);
        run = λ rest. r_enters (s_enter call_here function) rest;
      }
  edge_step {a} {y = y} (comes_back {copy = copy} {a = from} {s = s} {b = b} {f = f} {entry = entry} {exit = exit} {j = j} call within function from_node to_node) there =
      let same = same_node from_node there.is_node in
      let sites_are : s ∷ sites_of copy ≡ y = ap sites_of same.0 ∙ there.stands.sites_are in
      let there_at : Stands g exit (s ∷ sites_of copy) = record {
        copy = there.stands.copy;
        is_copy = there.stands.is_copy;
        sites_are = there.stands.sites_are ∙ sym sites_are;
        within = subst (Within g (function_of g there.stands.copy)) (sym same.1) there.stands.within;
      } in
      let back = leaves valid call function there_at in
      let caller : copy ≡ back.caller = tail_of (same.0 ∙ copy_is back) in
      record {
        node = b;
        sites = sites_of copy;
        beside = back_beside function there_at.within back (subst (λ c. IsNodeOf g inlined.copies c b j) caller to_node);
        run = λ {c} {w} {t} rest. subst (λ n. StackRun g n y t c w) same.1 (subst (λ sites. StackRun g exit sites t c w) sites_are (r_leaves (s_leave call function) rest));
      }

  sys_step : (a : ℕ) (y : List ℕ) (i x : ℕ) (p : List (Option ℤ)) (j : ℕ) → HasInlinedSys g inlined.copies i x p j → Beside g inlined.copies a y i → (b : ℕ) × HasSys g a x p b × Beside g inlined.copies b y j
  sys_step a y i x p j (copied_sys {copy = copy} {a = from} {b = b} has from_node to_node) there =
      let same = same_node from_node there.is_node in
      let has_here : HasSys g a x p b = subst (λ n. HasSys g n x p b) same.1 has in
      (b, has_here, stays_beside there (w_sys there.stands.within has_here) (subst (λ c. IsNodeOf g inlined.copies c b j) same.0 to_node))

  backward : {i j : ℕ} {t : List Event} → Walk m i t j → (a : ℕ) (y : List ℕ) → Beside g inlined.copies a y i → (c : ℕ) × (w : List ℕ) × StackRun g a y t c w
  backward w_over a y there = (a, y, r_over)
  backward {i = i} (w_quiet {b = b} step rest) a y there =
      let next = edge_step ((inlined.silent i b).0 (quiet_is_silent inlined.calls step)) there in
      let more = backward rest next.node next.sites next.beside in
      (more.0, more.1, next.run more.2)
  backward {i = i} (w_calls {b = b} {x = x} {p = p} edge fits rest) a y there =
      let next = sys_step a y i x p b ((inlined.sys i x p b).0 edge) there in
      let more = backward rest next.0 y next.2 in
      (more.0, more.1, r_calls (s_sys next.1) fits more.2)

  -- where both begin
  begins_beside : {entry exit : ℕ} → HasFunction g g.start entry exit → Beside g inlined.copies entry [] 0
  begins_beside {entry} function =
      let owns = function_owns_entry valid function in
      let first = root_begins inlined.are in
      record {
        stands = stands_first function;
        is_node = record { first = 0; begins = first; owns = owns; number_is = zero_offset g.functions g.start entry function.one function.has function.begins };
      }

  inlined_start : HasFunction m m.start 0 (inlined.function.exit - inlined.function.entry)
  inlined_start = record {
    one = record { name = inlined.function.name; entry = 0; exit = inlined.function.exit - inlined.function.entry };
    has = ap (λ fs. slice_get fs m.start) inlined.functions ∙ ap (λ k. slice_get (record { name = inlined.function.name; entry = 0; exit = inlined.function.exit - inlined.function.entry } ∷ []) k) inlined.start;
    begins = refl;
    ends = refl;
  }

  entry_is_zero : {entry exit : ℕ} → HasFunction m m.start entry exit → entry ≡ 0
  entry_is_zero {entry} {exit} function =
      (same_function function inlined_start).0

  pub stack_in_inlined : (t : List Event) → Reads Stack g t → Reads Callgraph m t
  stack_in_inlined t (entry, exit, a, z, start, run) =
      let walk = forward run 0 (begins_beside start) in
      (0, inlined.function.exit - inlined.function.entry, walk.0, inlined_start, walk.1)

  pub inlined_in_stack : (t : List Event) → Reads Callgraph m t → Reads Stack g t
  inlined_in_stack t (entry, exit, a, start, walk) =
      let one = the_start valid in
      let there = backward (subst (λ n. Walk m n (erase t) a) (entry_is_zero start) walk) one.0 [] (begins_beside one.2) in
      (one.0, one.1, there.0, there.1, one.2, there.2)

  -- without call edges a walk is a run
  walk_run : {a c : ℕ} {z : List ℕ} {t : List Event} → Walk m a t c → StackRun m a z t c z
  walk_run w_over = r_over
  walk_run (w_quiet step rest) = r_inside (s_silent (quiet_is_silent inlined.calls step)) (walk_run rest)
  walk_run (w_calls edge fits rest) = r_calls (s_sys edge) fits (walk_run rest)

  pub walks_are_runs : (t : List Event) → Reads Callgraph m t → Reads Stack m t
  walks_are_runs t (entry, exit, a, start, walk) = (entry, exit, a, [], start, walk_run walk)
