-- What is found among a model's edges, and who owns a node.
use Rattle.std.proofs.Common.{◌≡◌, ◌↔◌, ℕ, ◌+◌, ◌<◌, ◌≤◌, Bool, true, false, nat_eq, cond, List, [], ◌∷◌, length, get_or, Contains, Option, Some, None, find, filter, map, slice_get, unwrap_or, refl, sym, ◌∙◌, ap, inl, inr, arith, ◌⊎◌, zero, suc}
use Rattle.std.specs.Prelude.{option_map}
use Rattle.std.proofs.lemmas.Bool.{cases_lt, eq-eqb, eqb-true}
use Rattle.std.proofs.lemmas.Option.{slice_get_within, slice_get-get_or}
use Rattle.std.proofs.lemmas.List.{get_or_default}
use Rattle.flow_model.specs.declared.records.ModelFunction.{ModelFunction}
use Rattle.flow_model.specs.Call.{Call}
use Rattle.flow_model.specs.Graph.{Graph, Owns, end_of}
use Rattle.flow_model.specs.Groups.{sites_from}
use Rattle.flow_model.specs.Rules.{IsValid, HasRightEntries}
use Rattle.flow_model.proofs.OrderLemmas.{lt_from_less}
use Rattle.dm_base.specs.Adding.{Has}
use Rattle.flow_model.proofs.OwnersBelow.{contains_none}

pub Contains-cons : {X : Type 0} (head x : X) (rest : List X) → Contains rest x → Contains (head ∷ rest) x
Contains-cons head x rest (i, lt, is) = (suc i, omega (arith, lt), is)

pub Contains-cons_cases : {X : Type 0} (head x : X) (rest : List X) → Contains (head ∷ rest) x → (head ≡ x) ⊎ Contains rest x
Contains-cons_cases {X} head x rest (i, lt, is) = by_index i lt is
  where
    by_index : (k : ℕ) → k < suc (length rest) → get_or (head ∷ rest) k x ≡ x → (head ≡ x) ⊎ Contains rest x
    by_index zero within found = inl found
    by_index (suc k) within found = inr (k, omega arith, found)

module _ {X : Type 0} (p : X → Bool) where
  kept_one : (y x : X) (ys : List X) (b : Bool) → p y ≡ b → (Contains (filter p ys) x ↔ (Contains ys x × (p x ≡ true))) → Contains (cond b (y ∷ filter p ys) (filter p ys)) x ↔ (Contains (y ∷ ys) x × (p x ≡ true))
  kept_one y x ys true is rest = (
    λ has. elim (Contains-cons_cases y x (filter p ys) has) as (λ _. Contains (y ∷ ys) x × (p x ≡ true)) [
      | inl e ↦ ((0, omega arith, e), ap p (sym e) ∙ is)
      | inr more ↦ (Contains-cons y x ys (rest.0 more).0, (rest.0 more).1)
    ],
    λ (has, passes). elim (Contains-cons_cases y x ys has) as (λ _. Contains (y ∷ filter p ys) x) [
      | inl e ↦ (0, omega arith, e)
      | inr more ↦ Contains-cons y x (filter p ys) (rest.1 (more, passes))
    ],
  )
  kept_one y x ys false is rest = (
    λ has. (Contains-cons y x ys (rest.0 has).0, (rest.0 has).1),
    λ (has, passes). elim (Contains-cons_cases y x ys has) as (λ _. Contains (filter p ys) x) [
      | inl e ↦ let both : true ≡ false = sym passes ∙ ap p (sym e) ∙ is in absurd cc
      | inr more ↦ rest.1 (more, passes)
    ],
  )

  -- what a filter keeps
  pub contains_filter : (xs : List X) (x : X) → Contains (filter p xs) x ↔ (Contains xs x × (p x ≡ true))
  contains_filter [] x = (λ has. absurd (contains_none x has), λ both. both.0)
  contains_filter (y ∷ ys) x = kept_one y x ys (p y) refl (contains_filter ys x)

  found_one : (y c : X) (ys : List X) (b : Bool) → p y ≡ b → (find p ys ≡ Some c → Contains ys c × (p c ≡ true)) → cond b (Some y) (find p ys) ≡ Some c → Contains (y ∷ ys) c × (p c ≡ true)
  found_one y c ys true is rest found = let same : y ≡ c = cc in ((0, omega arith, same), ap p (sym same) ∙ is)
  found_one y c ys false is rest found = let (has, passes) = rest found in (Contains-cons y c ys has, passes)

  -- what a search finds
  pub find_some : (xs : List X) (c : X) → find p xs ≡ Some c → Contains xs c × (p c ≡ true)
  find_some [] c found = absurd cc
  find_some (y ∷ ys) c found = found_one y c ys (p y) refl (find_some ys c) found

  missed_one : (y c : X) (ys : List X) (b : Bool) → p y ≡ b → (find p ys ≡ None → Contains ys c → p c ≡ true → ⊥) → cond b (Some y) (find p ys) ≡ None → Contains (y ∷ ys) c → p c ≡ true → ⊥
  missed_one y c ys true is rest found has passes = absurd cc
  missed_one y c ys false is rest found has passes = elim (Contains-cons_cases y c ys has) as (λ _. ⊥) [
    | inl e ↦ let both : true ≡ false = sym passes ∙ ap p (sym e) ∙ is in absurd cc
    | inr more ↦ rest found more passes
  ]

  pub find_none : (xs : List X) (c : X) → find p xs ≡ None → Contains xs c → p c ≡ true → ⊥
  find_none [] c found has passes = contains_none c has
  find_none (y ∷ ys) c found has passes = missed_one y c ys (p y) refl (find_none ys c) found has passes

pub contains_map : {X Y : Type 0} (f : X → Y) (xs : List X) (y : Y) → Contains (map f xs) y ↔ Has (λ x. f x ≡ y) xs
contains_map f [] y = (λ has. absurd (contains_none y has), λ (x, has, is). absurd (contains_none x has))
contains_map f (x ∷ xs) y = (
  λ has. elim (Contains-cons_cases (f x) y (map f xs) has) as (λ _. Has (λ x. f x ≡ y) (x ∷ xs)) [
    | inl e ↦ (x, (0, omega arith, refl), e)
    | inr more ↦ let (z, in_xs, is) = (contains_map f xs y).0 more in (z, Contains-cons x z xs in_xs, is)
  ],
  λ (z, has, is). elim (Contains-cons_cases x z xs has) as (λ _. Contains (f x ∷ map f xs) y) [
    | inl e ↦ (0, omega arith, ap f e ∙ is)
    | inr more ↦ Contains-cons (f x) y (map f xs) ((contains_map f xs y).1 (z, more, is))
  ],
)

-- the edges of a node are those with its number
pub from_node : {X : Type 0} (from : X → ℕ) (edges : List X) (node : ℕ) (e : X) → Contains (filter (λ e. nat_eq (from e) node) edges) e ↔ (Contains edges e × (from e ≡ node))
from_node from edges node e = let kept = contains_filter (λ e. nat_eq (from e) node) edges e in (
  λ has. ((kept.0 has).0, eqb-true (from e) node (kept.0 has).1),
  λ (has, is). kept.1 (has, eq-eqb (from e) node is),
)

pub sites_at : (g : Graph) (node s : ℕ) → Contains (sites_from g node) s ↔ Has (λ c. (c.from ≡ node) × (c.site ≡ s)) g.calls
sites_at g node s = let mapped = contains_map (λ c. c.site) (filter (λ c. nat_eq c.from node) g.calls) s in (
  λ has. let (c, kept, is) = mapped.0 has in let (in_calls, from) = (from_node (λ c. c.from) g.calls node c).0 kept in (c, in_calls, (from, is)),
  λ (c, has, (from, is)). mapped.1 (c, (from_node (λ c. c.from) g.calls node c).1 (has, from), is),
)

-- In a valid model the nodes of an edge are nodes, and a node has one owner.
module _ (functions : List ModelFunction) (nodes : ℕ) (right : HasRightEntries functions nodes) where
  below_by_option : (f : ℕ) (slot : Option ModelFunction) → slice_get functions f ≡ slot → unwrap_or (option_map (λ one. one.entry) slot) nodes ≤ nodes
  below_by_option f None is = omega arith
  below_by_option f (Some one) is =
      let within : f < length functions = slice_get_within functions f one is in
      let same : Some one ≡ Some (get_or functions f one) = sym is ∙ slice_get-get_or functions f one within in
      let here : one ≡ get_or functions f one = cc in
      let low : (get_or functions f one).entry < nodes = right.below f one within in
      let entry : one.entry ≡ (get_or functions f one).entry = ap (λ o. o.entry) here in
      omega (arith, low, entry)

  pub owned_below : (f a : ℕ) → Owns functions nodes f a → a < nodes
  owned_below f a owns =
      let most : end_of functions nodes f ≤ nodes = below_by_option (f + 1) (slice_get functions (f + 1)) refl in
      omega (arith, most, owns.to)

  pub end_before : (f h : ℕ) (one : ModelFunction) → f < h → slice_get functions h ≡ Some one → (slot : Option ModelFunction) → slice_get functions (f + 1) ≡ slot → unwrap_or (option_map (λ o. o.entry) slot) nodes ≤ one.entry
  end_before f h one lt is None none =
      let within : h < length functions = slice_get_within functions h one is in
      let next : f + 1 < length functions = omega (arith, within, lt) in
      let both : None ≡ Some (get_or functions (f + 1) one) = sym none ∙ slice_get-get_or functions (f + 1) one next in
      absurd cc
  end_before f h one lt is (Some other) some =
      let within : h < length functions = slice_get_within functions h one is in
      let next : f + 1 < length functions = slice_get_within functions (f + 1) other some in
      let first : Some one ≡ Some (get_or functions h one) = sym is ∙ slice_get-get_or functions h one within in
      let second : Some other ≡ Some (get_or functions (f + 1) one) = sym some ∙ slice_get-get_or functions (f + 1) one next in
      let at_h : one ≡ get_or functions h one = cc in
      let at_f : other ≡ get_or functions (f + 1) one = cc in
      let entry_h : one.entry ≡ (get_or functions h one).entry = ap (λ o. o.entry) at_h in
      let entry_f : other.entry ≡ (get_or functions (f + 1) one).entry = ap (λ o. o.entry) at_f in
      elim (cases_lt (f + 1) h) as (λ _. other.entry ≤ one.entry) [
        | inl less ↦ let rise : (get_or functions (f + 1) one).entry < (get_or functions h one).entry = right.rise (f + 1) h one less within in omega (arith, rise, entry_h, entry_f)
        | inr more ↦
            let equal : f + 1 ≡ h = omega (arith, more, lt) in
            let same : (get_or functions (f + 1) one).entry ≡ (get_or functions h one).entry = ap (λ i. (get_or functions i one).entry) equal in
            omega (arith, same, entry_h, entry_f)
      ]

  owned_not_before : (f h a : ℕ) → Owns functions nodes f a → Owns functions nodes h a → f < h → ⊥
  owned_not_before f h a one two lt =
      let before : end_of functions nodes f ≤ two.one.entry = end_before f h two.one lt two.has (slice_get functions (f + 1)) refl in
      omega (arith, before, one.to, two.from)

  -- a node has one owner
  pub one_owner : (f h a : ℕ) → Owns functions nodes f a → Owns functions nodes h a → f ≡ h
  one_owner f h a one two = elim (cases_lt f h) as (λ _. f ≡ h) [
    | inl lt ↦ absurd (owned_not_before f h a one two lt)
    | inr le ↦ elim (cases_lt h f) as (λ _. f ≡ h) [
      | inl lt ↦ absurd (owned_not_before h f a two one lt)
      | inr ge ↦ omega (arith, le, ge)
    ]
  ]

-- a site has one call edge
pub one_call : (g : Graph) → IsValid g → (c d : Call) → Contains g.calls c → Contains g.calls d → c.site ≡ d.site → c ≡ d
one_call g valid c d (i, i_lt, is_c) (j, j_lt, is_d) same = elim (cases_lt i j) as (λ _. c ≡ d) [
  | inl lt ↦
      let less : (get_or g.calls i c).site < (get_or g.calls j c).site = lt_from_less _ _ (valid.order.calls i j c lt j_lt) in
      let one : (get_or g.calls i c).site ≡ c.site = ap (λ x. x.site) is_c in
      let two : (get_or g.calls j c).site ≡ d.site = ap (λ x. x.site) (at_other g.calls j c d j_lt is_d) in
      absurd (omega (arith, less, one, two, same))
  | inr le ↦ elim (cases_lt j i) as (λ _. c ≡ d) [
    | inl lt ↦
        let less : (get_or g.calls j c).site < (get_or g.calls i c).site = lt_from_less _ _ (valid.order.calls j i c lt i_lt) in
        let one : (get_or g.calls i c).site ≡ c.site = ap (λ x. x.site) is_c in
        let two : (get_or g.calls j c).site ≡ d.site = ap (λ x. x.site) (at_other g.calls j c d j_lt is_d) in
        absurd (omega (arith, less, one, two, same))
    | inr ge ↦
        let equal : i ≡ j = omega (arith, le, ge) in
        sym is_c ∙ ap (λ k. get_or g.calls k c) equal ∙ at_other g.calls j c d j_lt is_d
  ]
]
  where
    at_other : (calls : List Call) (j : ℕ) (c d : Call) → j < length calls → get_or calls j d ≡ d → get_or calls j c ≡ d
    at_other calls j c d lt is = get_or_default calls j c d lt ∙ is
