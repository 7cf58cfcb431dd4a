-- The edges that are drawn are those of the inlined model.
use Rattle.std.proofs.Common.{◌≡◌, inl, inr, ℕ, ℤ, suc, ◌+◌, ◌-◌, ◌<◌, ◌≤◌, true, false, List, [], ◌∷◌, ◌++◌, length, take, drop, get_or, Option, Some, Contains, AllPairs, refl, sym, ◌∙◌, ap, subst, arith}
use Rattle.std.specs.Prelude.{slice_get}
use Rattle.std.proofs.lemmas.Bool.{cases_lt, cases_eq, false≢true}
use Rattle.std.proofs.lemmas.List.{take-append-drop, drop_all}
use Rattle.std.proofs.lemmas.List.Sums.{sum_by-append, sum_by-cons, sum_by_push}
use Rattle.std.proofs.lemmas.Option.{slice_get_within, get_or_from_slice_get, slice_get-get_or}
use Rattle.std.proofs.Math.Seq.{drop-cons}
use Rattle.flow_model.specs.Call.{Call}
use Rattle.flow_model.specs.Graph.{Graph, Owns, HasSilent, HasSys, HasCall, HasFunction, end_of}
use Rattle.flow_model.specs.Rules.{IsValid}
use Rattle.inline_model.specs.Within.{Within}
use Rattle.inline_model.specs.Chains.{Opening}
use Rattle.inline_model.specs.Copies.{Opened, function_of, entry_of, size_of, node_count, IsCopy, BeginsAt, Copies}
use Rattle.inline_model.specs.Copies.Copies.{unfolds}
use Rattle.inline_model.specs.Copies.IsCopy.{goes_on}
use Rattle.inline_model.specs.Inlined.{IsNodeOf, HasInlinedSilent, HasInlinedSys}
use Rattle.inline_model.specs.Inlined.HasInlinedSilent.{copied, enters, leaves}
use Rattle.inline_model.specs.Inlined.HasInlinedSys.{copied as copied_sys}
use Rattle.inline_model.proofs.Basics.{same_from, same_call, within_owns, function_owns_entry, function_owns_exit, silent_stays, sys_stays, call_stays}
use Rattle.inline_model.proofs.DistinctCopies.{copies_differ}
use Rattle.inline_model.specs.declared.copied.Copied.{Copied}
use Rattle.inline_model.specs.Named.{IsFrom, AreAllCopies}
use Rattle.inline_model.specs.Named.IsFrom.{begins, continues}
use Rattle.inline_model.proofs.CopyingLemmas.{copy_known}
use Rattle.inline_model.specs.Drawn.{number_in, IsCopiedSilent, IsLink, IsDrawnSilent, IsDrawnSys}
use Rattle.inline_model.specs.Growing.{IsNumbered}

contains_at : {X : Type 0} (xs : List X) (x : X) → Contains xs x → (k : ℕ) × (slice_get xs k ≡ Some x)
contains_at xs x (k, lt, is) = (k, slice_get-get_or xs k x lt ∙ ap Some is)

pub at_contains : {X : Type 0} (xs : List X) (k : ℕ) (x : X) → slice_get xs k ≡ Some x → Contains xs x
at_contains xs k x at = (k, slice_get_within xs k x at, get_or_from_slice_get xs k x x at)

-- where the copy at a place begins
begins_at : (g : Graph) (copies : List (List Opened)) (k : ℕ) (copy : List Opened) → slice_get copies k ≡ Some copy → BeginsAt g copies copy (node_count g (take k copies))
begins_at g copies k copy at = record {
  before = take k copies;
  after = drop (suc k) copies;
  stands = sym (take-append-drop k copies) ∙ ap (λ xs. take k copies ++ xs) (drop-cons copies k copy (slice_get_within copies k copy at) ∙ ap (λ c. c ∷ drop (suc k) copies) (get_or_from_slice_get copies k copy copy at));
  number_is = refl;
}

split_get : {X : Type 0} (before : List X) (x : X) (after : List X) → slice_get (before ++ x ∷ after) (length before) ≡ Some x
split_get [] x after = refl
split_get (y ∷ before) x after = split_get before x after

split_take : {X : Type 0} (before rest : List X) → take (length before) (before ++ rest) ≡ before
split_take [] rest = refl
split_take (y ∷ before) rest = ap (λ xs. y ∷ xs) (split_take before rest)

-- the place at which a copy begins
place_of : (g : Graph) (copies : List (List Opened)) (copy : List Opened) (n : ℕ) → BeginsAt g copies copy n → (k : ℕ) × (slice_get copies k ≡ Some copy) × (n ≡ node_count g (take k copies))
place_of g copies copy n there = (
  length there.before,
  ap (λ xs. slice_get xs (length there.before)) there.stands ∙ split_get there.before copy there.after,
  there.number_is ∙ ap (node_count g) (sym (ap (take (length there.before)) there.stands ∙ split_take there.before (copy ∷ there.after))),
)

-- a copy stands at one place
one_place : (copies : List (List Opened)) → AllPairs (λ c d. c ≡ d → ⊥) copies → (i j : ℕ) (copy : List Opened) → slice_get copies i ≡ Some copy → slice_get copies j ≡ Some copy → i ≡ j
one_place copies differ i j copy at_i at_j =
    let i_lt = slice_get_within copies i copy at_i in
    let j_lt = slice_get_within copies j copy at_j in
    let one : get_or copies i copy ≡ get_or copies j copy = get_or_from_slice_get copies i copy copy at_i ∙ sym (get_or_from_slice_get copies j copy copy at_j) in
    elim (cases_lt i j) [
      | inl lt ↦ absurd (differ i j copy lt j_lt one)
      | inr ge ↦ elim (cases_eq i j) [
        | inl e ↦ e
        | inr ne ↦ absurd (let lt : j < i = omega (arith, ne) in differ j i copy lt i_lt (sym one))
      ]
    ]

last_opening : {g : Graph} {call : Opened} {copy : List Opened} → IsCopy g (call ∷ copy) → Opening g (function_of g copy) call.site call.candidate
last_opening (goes_on before opening) = opening

tail_is : {x y : Opened} {xs ys : List Opened} → x ∷ xs ≡ y ∷ ys → xs ≡ ys
tail_is same = cc

head_is : {x y : Opened} {xs ys : List Opened} → x ∷ xs ≡ y ∷ ys → x ≡ y
head_is same = cc

site_is : {x y : Opened} {xs ys : List Opened} → x ∷ xs ≡ y ∷ ys → x.site ≡ y.site
site_is same = ap (λ (o : Opened). o.site) (head_is same)

module _ (g : Graph) (valid : IsValid g) (items : List Copied) (all : AreAllCopies g items) where
  -- a node of an item's copy
  node_in : (k : ℕ) (item : Copied) (at : slice_get items k ≡ Some item) (a : ℕ) → Owns g.functions g.nodes item.function a → IsNodeOf g all.copies (all.named.all k item at).copy a (number_in g item a)
  node_in k item at a owns =
      let named = all.named.all k item at in
      record {
        first = item.first;
        begins = subst (BeginsAt g all.copies named.copy) (sym named.number) (begins_at g all.copies k named.copy named.stands);
        owns = subst (λ f. Owns g.functions g.nodes f a) named.function owns;
        number_is = ap (λ f. item.first + (a - entry_of g.functions f)) named.function;
      }

  -- the nodes of an item have numbers
  pub item_numbered : (item : Copied) → Contains items item → IsNumbered g item
  item_numbered item has =
      let (k, at) = contains_at items item has in
      let named = all.named.all k item at in
      let begins = begins_at g all.copies k named.copy named.stands in
      let size : end_of g.functions g.nodes item.function - entry_of g.functions item.function ≡ size_of g named.copy = ap (λ f. end_of g.functions g.nodes f - entry_of g.functions f) named.function in
      let whole : node_count g all.copies ≡ node_count g begins.before + (size_of g named.copy + node_count g begins.after) =
      ap (node_count g) begins.stands ∙ sum_by-append (size_of g) begins.before (named.copy ∷ begins.after) ∙ ap (λ n. node_count g begins.before + n) (sum_by-cons (size_of g) named.copy begins.after) in
      record {
        known = omega (arith, named.function, copy_known valid named.is_copy);
        few = omega (arith, size, whole, named.number, begins.number_is, all.few);
      }

  -- the places that an item names, where it goes on from another
  places_from : (item : Copied) (copy : List Opened) → IsFrom g all.copies copy item.root item.parent item.place item.function → item.root ≡ false → (item.parent < length items) × (item.place < length g.calls)
  places_from item copy (begins empty root) inner = absurd (false≢true (sym inner ∙ root))
  places_from item copy (continues root goes) inner = (
    omega (arith, slice_get_within all.copies item.parent goes.before goes.stands, all.named.long),
    slice_get_within g.calls item.place goes.call goes.at,
  )

  pub item_places : (item : Copied) → Contains items item → item.root ≡ false → (item.parent < length items) × (item.place < length g.calls)
  item_places item has inner =
      let (k, at) = contains_at items item has in
      let named = all.named.all k item at in
      places_from item named.copy named.from inner

  -- the item of a copy, and the number of its node
  record ItemOf (copy : List Opened) (a i : ℕ) : Type 0 where
    place : ℕ
    item : Copied
    at : slice_get items place ≡ Some item
    stands : slice_get all.copies place ≡ Some copy
    function : item.function ≡ function_of g copy
    number : i ≡ number_in g item a

  nothing : Copied
  nothing = record { function = 0; root = true; parent = 0; place = 0; first = 0 }

  item_of_node : (copy : List Opened) (a i : ℕ) → IsNodeOf g all.copies copy a i → ItemOf copy a i
  item_of_node copy a i node =
      let there = place_of g all.copies copy node.first node.begins in
      let lt : there.0 < length items = omega (arith, slice_get_within all.copies there.0 copy there.1, all.named.long) in
      let item = get_or items there.0 nothing in
      let at : slice_get items there.0 ≡ Some item = slice_get-get_or items there.0 nothing lt in
      let named = all.named.all there.0 item at in
      let two : Some named.copy ≡ Some copy = sym named.stands ∙ there.1 in
      let same : named.copy ≡ copy = cc in
      let function : item.function ≡ function_of g copy = named.function ∙ ap (function_of g) same in
      record {
        place = there.0;
        item = item;
        at = at;
        stands = there.1;
        function = function;
        number = node.number_is ∙ ap (λ n. n + (a - entry_of g.functions (function_of g copy))) (there.2 ∙ sym named.number) ∙ ap (λ f. item.first + (a - entry_of g.functions f)) (sym function);
      }

  -- nodes of one copy are of one item
  same_item : {copy : List Opened} {a b i j : ℕ} (one : ItemOf copy a i) (two : ItemOf copy b j) → two.item ≡ one.item
  same_item {copy} one two =
      let place : one.place ≡ two.place = one_place all.copies (copies_differ all.are) one.place two.place copy one.stands two.stands in
      let both : Some two.item ≡ Some one.item = sym two.at ∙ ap (slice_get items) (sym place) ∙ one.at in
      cc

  copied_drawn : {copy : List Opened} {a b i j : ℕ} → HasSilent g a b → IsNodeOf g all.copies copy a i → IsNodeOf g all.copies copy b j → IsDrawnSilent g items i j
  copied_drawn {copy} {a} {b} {i} {j} has from_node to_node =
      let one = item_of_node copy a i from_node in
      let two = item_of_node copy b j to_node in (
        one.item,
        at_contains items one.place one.item one.at,
        inl (record {
          from = a;
          to = b;
          has = has;
          owns = subst (λ f. Owns g.functions g.nodes f a) (sym one.function) from_node.owns;
          i_is = one.number;
          j_is = two.number ∙ ap (λ (item : Copied). number_in g item b) (same_item one two);
        }),
      )

  sys_drawn : {copy : List Opened} {a x b i j : ℕ} {p : List (Option ℤ)} → HasSys g a x p b → IsNodeOf g all.copies copy a i → IsNodeOf g all.copies copy b j → IsDrawnSys g items i x p j
  sys_drawn {copy} {a} {x} {b} {i} {j} has from_node to_node =
      let one = item_of_node copy a i from_node in
      let two = item_of_node copy b j to_node in (
        one.item,
        at_contains items one.place one.item one.at,
        record {
          from = a;
          to = b;
          has = has;
          owns = subst (λ f. Owns g.functions g.nodes f a) (sym one.function) from_node.owns;
          i_is = one.number;
          j_is = two.number ∙ ap (λ (item : Copied). number_in g item b) (same_item one two);
        },
      )

  -- how the copy of a call goes on from the one of the caller
  record LinkedBy (copy : List Opened) (s f a b : ℕ) {n m i j : ℕ} (caller : ItemOf copy n i) (callee : ItemOf (record { site = s; candidate = f } ∷ copy) m j) : Type 0 where
    inner : callee.item.root ≡ false
    stands : slice_get items callee.item.parent ≡ Some caller.item
    call : Call
    at : slice_get g.calls callee.item.place ≡ Some call
    from : call.from ≡ a
    to : call.to ≡ b

  linked_from : {copy : List Opened} {s f a b n m i j : ℕ} → HasCall g a s b f → (caller : ItemOf copy n i) (callee : ItemOf (record { site = s; candidate = f } ∷ copy) m j) → (other : List Opened) → other ≡ record { site = s; candidate = f } ∷ copy → IsFrom g all.copies other callee.item.root callee.item.parent callee.item.place callee.item.function → LinkedBy copy s f a b caller callee
  linked_from {copy} {s} {f} call caller callee other same (begins empty root) = absurd (let two : [] ≡ record { site = s; candidate = f } ∷ copy = sym empty ∙ same in cc)
  linked_from {copy} {s} {f} {a} {b} call caller callee other same (continues root goes) =
      let whole : record { site = goes.call.site; candidate = callee.item.function } ∷ goes.before ≡ record { site = s; candidate = f } ∷ copy = sym goes.is ∙ same in
      let before : goes.before ≡ copy = tail_is whole in
      let site : goes.call.site ≡ s = site_is whole in
      let place : callee.item.parent ≡ caller.place = one_place all.copies (copies_differ all.are) callee.item.parent caller.place copy (goes.stands ∙ ap Some before) caller.stands in
      let one : goes.call ≡ call.call = same_call g.calls valid.order.calls goes.call call.call (at_contains g.calls callee.item.place goes.call goes.at) call.has (site ∙ sym call.site) in
      record {
        inner = root;
        stands = ap (slice_get items) place ∙ caller.at;
        call = goes.call;
        at = goes.at;
        from = ap (λ (c : Call). c.from) one ∙ call.from;
        to = ap (λ (c : Call). c.to) one ∙ call.to;
      }

  linked : {copy : List Opened} {s f a b n m i j : ℕ} → HasCall g a s b f → (caller : ItemOf copy n i) (callee : ItemOf (record { site = s; candidate = f } ∷ copy) m j) → LinkedBy copy s f a b caller callee
  linked {copy} {s} {f} {a} {b} call caller callee =
      let named = all.named.all callee.place callee.item callee.at in
      let two : Some named.copy ≡ Some (record { site = s; candidate = f } ∷ copy) = sym named.stands ∙ callee.stands in
      let same : named.copy ≡ record { site = s; candidate = f } ∷ copy = cc in
      linked_from call caller callee named.copy same named.from

  enters_drawn : {copy : List Opened} {a s b f entry exit i j : ℕ} → HasCall g a s b f → HasFunction g f entry exit → IsNodeOf g all.copies copy a i → IsNodeOf g all.copies (record { site = s; candidate = f } ∷ copy) entry j → IsDrawnSilent g items i j
  enters_drawn {copy} {a} {s} {b} {f} {entry} {exit} {i} {j} call function from_node to_node =
      let caller = item_of_node copy a i from_node in
      let callee = item_of_node (record { site = s; candidate = f } ∷ copy) entry j to_node in
      let link = linked call caller callee in (
        callee.item,
        at_contains items callee.place callee.item callee.at,
        inr (record {
          inner = link.inner;
          before = caller.item;
          stands = link.stands;
          call = link.call;
          at = link.at;
          entry = entry;
          exit = exit;
          function = subst (λ h. HasFunction g h entry exit) (sym callee.function) function;
          either = inl (caller.number ∙ ap (number_in g caller.item) (sym link.from), callee.number);
        }),
      )

  leaves_drawn : {copy : List Opened} {a s b f entry exit i j : ℕ} → HasCall g a s b f → HasFunction g f entry exit → IsNodeOf g all.copies (record { site = s; candidate = f } ∷ copy) exit i → IsNodeOf g all.copies copy b j → IsDrawnSilent g items i j
  leaves_drawn {copy} {a} {s} {b} {f} {entry} {exit} {i} {j} call function from_node to_node =
      let callee = item_of_node (record { site = s; candidate = f } ∷ copy) exit i from_node in
      let caller = item_of_node copy b j to_node in
      let link = linked call caller callee in (
        callee.item,
        at_contains items callee.place callee.item callee.at,
        inr (record {
          inner = link.inner;
          before = caller.item;
          stands = link.stands;
          call = link.call;
          at = link.at;
          entry = entry;
          exit = exit;
          function = subst (λ h. HasFunction g h entry exit) (sym callee.function) function;
          either = inr (callee.number, caller.number ∙ ap (number_in g caller.item) (sym link.to));
        }),
      )

  pub silent_drawn : {i j : ℕ} → HasInlinedSilent g all.copies i j → IsDrawnSilent g items i j
  silent_drawn (copied has from_node to_node) = copied_drawn has from_node to_node
  silent_drawn (enters call within function from_node to_node) = enters_drawn call function from_node to_node
  silent_drawn (leaves call within function from_node to_node) = leaves_drawn call function from_node to_node

  pub sys_is_drawn : {i x j : ℕ} {p : List (Option ℤ)} → HasInlinedSys g all.copies i x p j → IsDrawnSys g items i x p j
  sys_is_drawn (copied_sys has from_node to_node) = sys_drawn has from_node to_node

  -- what is drawn for one copy alone
  drawn_copied : {item : Copied} {i j : ℕ} → (k : ℕ) → slice_get items k ≡ Some item → IsCopiedSilent g item i j → HasInlinedSilent g all.copies i j
  drawn_copied {item} {i} {j} k at edge =
      subst (λ n. HasInlinedSilent g all.copies n j) (sym edge.i_is) (subst (λ n. HasInlinedSilent g all.copies (number_in g item edge.from) n) (sym edge.j_is)
      (copied edge.has (node_in k item at edge.from edge.owns) (node_in k item at edge.to (silent_stays valid edge.has edge.owns))))

  pub drawn_sys : {i x j : ℕ} {p : List (Option ℤ)} → IsDrawnSys g items i x p j → HasInlinedSys g all.copies i x p j
  drawn_sys {i} {x} {j} {p} (item, has, edge) =
      let (k, at) = contains_at items item has in
      subst (λ n. HasInlinedSys g all.copies n x p j) (sym edge.i_is) (subst (λ n. HasInlinedSys g all.copies (number_in g item edge.from) x p n) (sym edge.j_is)
      (copied_sys edge.has (node_in k item at edge.from edge.owns) (node_in k item at edge.to (sys_stays valid edge.has edge.owns))))

  -- the way between two copies
  record Way (k : ℕ) (item before : Copied) (call : Call) : Type 0 where
    copy : List Opened
    stands : slice_get all.copies item.parent ≡ Some copy
    whole : slice_get all.copies k ≡ Some (record { site = call.site; candidate = item.function } ∷ copy)
    has : HasCall g call.from call.site call.to item.function
    within : Within g (function_of g copy) call.from

  way_from : (k : ℕ) (item before : Copied) (call : Call) → slice_get g.calls item.place ≡ Some call → item.root ≡ false → (other : List Opened) → slice_get all.copies k ≡ Some other → IsCopy g other → IsFrom g all.copies other item.root item.parent item.place item.function → Way k item before call
  way_from k item before call at inner other stands is_copy (begins empty root) = absurd (false≢true (sym inner ∙ root))
  way_from k item before call at inner other stands is_copy (continues root goes) =
      let two : Some goes.call ≡ Some call = sym goes.at ∙ at in
      let one : goes.call ≡ call = cc in
      let candidate : Contains call.candidates item.function = subst (λ (c : Call). Contains c.candidates item.function) one goes.candidate in
      let has : HasCall g call.from call.site call.to item.function = record { call = call; has = at_contains g.calls item.place call at; from = refl; site = refl; to = refl; candidate = candidate } in
      let whole : other ≡ record { site = call.site; candidate = item.function } ∷ goes.before = goes.is ∙ ap (λ (c : Call). record { site = c.site; candidate = item.function } ∷ goes.before) one in
      let opening = last_opening (subst (IsCopy g) whole is_copy) in
      record {
        copy = goes.before;
        stands = goes.stands;
        whole = stands ∙ ap Some whole;
        has = has;
        within = subst (Within g (function_of g goes.before)) (same_from valid opening.call has) opening.within;
      }

  -- the ends of the call edge are nodes of the copy from which the item goes on
  pub link_ends : (item before : Copied) (call : Call) → Contains items item → item.root ≡ false → slice_get items item.parent ≡ Some before → slice_get g.calls item.place ≡ Some call → Owns g.functions g.nodes before.function call.from × Owns g.functions g.nodes before.function call.to
  link_ends item before call has inner stands call_stands =
      let (k, at) = contains_at items item has in
      let named = all.named.all k item at in
      let way = way_from k item before call call_stands inner named.copy named.stands named.is_copy named.from in
      let first = all.named.all item.parent before stands in
      let two : Some first.copy ≡ Some way.copy = sym first.stands ∙ way.stands in
      let same : first.copy ≡ way.copy = cc in
      let owns : Owns g.functions g.nodes before.function call.from = subst (λ f. Owns g.functions g.nodes f call.from) (sym (first.function ∙ ap (function_of g) same)) (within_owns valid way.within) in
      (owns, call_stays valid way.has owns)

  drawn_link : {i j : ℕ} (k : ℕ) (item : Copied) → slice_get items k ≡ Some item → IsLink g items item i j → HasInlinedSilent g all.copies i j
  drawn_link {i} {j} k item at link =
      let named = all.named.all k item at in
      let way = way_from k item link.before link.call link.at link.inner named.copy named.stands named.is_copy named.from in
      let before = all.named.all item.parent link.before link.stands in
      let two : Some before.copy ≡ Some way.copy = sym before.stands ∙ way.stands in
      let before_is : before.copy ≡ way.copy = cc in
      let three : Some named.copy ≡ Some (record { site = link.call.site; candidate = item.function } ∷ way.copy) = sym named.stands ∙ way.whole in
      let named_is : named.copy ≡ record { site = link.call.site; candidate = item.function } ∷ way.copy = cc in
      let caller_owns : Owns g.functions g.nodes link.before.function link.call.from = subst (λ f. Owns g.functions g.nodes f link.call.from) (sym (before.function ∙ ap (function_of g) before_is)) (within_owns valid way.within) in
      let from_node : IsNodeOf g all.copies way.copy link.call.from (number_in g link.before link.call.from) = subst (λ c. IsNodeOf g all.copies c link.call.from (number_in g link.before link.call.from)) before_is (node_in item.parent link.before link.stands link.call.from caller_owns) in
      let to_node : IsNodeOf g all.copies way.copy link.call.to (number_in g link.before link.call.to) = subst (λ c. IsNodeOf g all.copies c link.call.to (number_in g link.before link.call.to)) before_is (node_in item.parent link.before link.stands link.call.to (call_stays valid way.has caller_owns)) in
      let entry_node : IsNodeOf g all.copies (record { site = link.call.site; candidate = item.function } ∷ way.copy) link.entry (number_in g item link.entry) = subst (λ c. IsNodeOf g all.copies c link.entry (number_in g item link.entry)) named_is (node_in k item at link.entry (function_owns_entry valid link.function)) in
      let exit_node : IsNodeOf g all.copies (record { site = link.call.site; candidate = item.function } ∷ way.copy) link.exit (number_in g item link.exit) = subst (λ c. IsNodeOf g all.copies c link.exit (number_in g item link.exit)) named_is (node_in k item at link.exit (function_owns_exit valid link.function)) in
      elim link.either [
        | inl into ↦ subst (λ n. HasInlinedSilent g all.copies n j) (sym into.0) (subst (HasInlinedSilent g all.copies (number_in g link.before link.call.from)) (sym into.1) (enters way.has way.within link.function from_node entry_node))
        | inr back ↦ subst (λ n. HasInlinedSilent g all.copies n j) (sym back.0) (subst (HasInlinedSilent g all.copies (number_in g item link.exit)) (sym back.1) (leaves way.has way.within link.function exit_node to_node))
      ]

  pub drawn_silent : {i j : ℕ} → IsDrawnSilent g items i j → HasInlinedSilent g all.copies i j
  drawn_silent (item, has, either) =
      let (k, at) = contains_at items item has in
      elim either [ inl edge ↦ drawn_copied k at edge | inr link ↦ drawn_link k item at link ]

some_copy : {g : Graph} {copy : List Opened} {list rest : List (List Opened)} → Copies g copy list rest → 1 ≤ length list
some_copy (unfolds openings branches) = omega arith

-- there is a copy of the start
pub some_item : (g : Graph) (items : List Copied) → AreAllCopies g items → 1 ≤ length items
some_item g items all = omega (arith, all.named.long, some_copy all.are)

-- the nodes of the last copy are the last nodes
pub counted_all : (g : Graph) (items : List Copied) (item : Copied) (k n : ℕ) → slice_get items k ≡ Some item → suc k ≡ length items → n ≡ item.first + (end_of g.functions g.nodes item.function - entry_of g.functions item.function) → (all : AreAllCopies g items) → n ≡ node_count g all.copies
unfolding begins_at
counted_all g items item k n at last number all =
    let named = all.named.all k item at in
    let begins_here = begins_at g all.copies k named.copy named.stands in
    let none : drop (suc k) all.copies ≡ [] = drop_all (suc k) all.copies (omega (arith, last, all.named.long)) in
    let size : end_of g.functions g.nodes item.function - entry_of g.functions item.function ≡ size_of g named.copy = ap (λ f. end_of g.functions g.nodes f - entry_of g.functions f) named.function in
    let whole : all.copies ≡ take k all.copies ++ named.copy ∷ [] = begins_here.stands ∙ ap (λ xs. take k all.copies ++ named.copy ∷ xs) none in
    number ∙ ap (λ m. m + (end_of g.functions g.nodes item.function - entry_of g.functions item.function)) named.number ∙ ap (λ m. node_count g (take k all.copies) + m) size ∙ sym (sum_by_push (size_of g) (take k all.copies) named.copy) ∙ ap (node_count g) (sym whole)
