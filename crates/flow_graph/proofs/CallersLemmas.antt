-- The callers of nodes, one after another.
use Rattle.std.proofs.Common.{◌≡◌, ◌⊎◌, ◌↔◌, ℕ, zero, suc, ◌+◌, ◌<◌, ◌≤◌, ◌^◌, List, [], ◌∷◌, ◌++◌, length, map, take, get_or, Contains, None, Some, Vec, Global, refl, sym, ◌∙◌, ap, subst, inl, inr, arith}
use Rattle.std.specs.Prelude.{slice_get}
use Rattle.std.proofs.Math.ListN.{set}
use Rattle.std.proofs.lemmas.Bool.{cases_eq}
use Rattle.std.proofs.lemmas.List.{take_more, take_all, take-append-le, length-append}
use Rattle.c_tree.specs.Functions.{defined}
use Rattle.std.proofs.lemmas.List.Elements.{Contains-append_left, Contains-push, Contains-push_cases}
use Rattle.c_tree.specs.Tree.{CType, Function, Program}
use Rattle.c_meaning.specs.Mentions.{Mention, mentions_of_function}
use Rattle.flow_graph.specs.declared.mention.Mention.{Mention as Told}
use Rattle.dm_base.specs.Adding.{Has, Adds, Gains}
use Rattle.flow_graph.specs.Saying.{mention_of, said}
use Rattle.flow_graph.specs.Callers.{Link, HasCaller, node_called, IsCall, IsCallBelow, IsCandidate, IsCandidateBelow, Leads, IsLedTo, AreFollowed, IsReaching, AreCallers}
use Rattle.flow_graph.specs.Callers.Leads.{here, on}
use Rattle.dm_base.proofs.AddingLemmas.{gains_nothing, gains_both}
use Rattle.c_meaning.proofs.Members.{in_map, from_map}
use Rattle.flow_graph.proofs.ReachingLemmas.{map_get, leads_more, some_same}

-- what stands in a list where one place was set
get_set_here : {X : Type 0} (xs : List X) (i : ℕ) (x : X) → i < length xs → slice_get (set xs i x) i ≡ Some x
get_set_here [] i x lt = absurd (omega (arith, lt))
get_set_here (y ∷ ys) zero x lt = refl
get_set_here (y ∷ ys) (suc i) x lt = get_set_here ys i x (omega (arith, lt))

get_set_other : {X : Type 0} (xs : List X) (i k : ℕ) (x : X) → (k ≡ i → ⊥) → slice_get (set xs i x) k ≡ slice_get xs k
get_set_other [] i k x other = refl
get_set_other (y ∷ ys) zero zero x other = absurd (other refl)
get_set_other (y ∷ ys) zero (suc k) x other = refl
get_set_other (y ∷ ys) (suc i) zero x other = refl
get_set_other (y ∷ ys) (suc i) (suc k) x other = get_set_other ys i k x (λ e. other (ap suc e))

-- a caller more
pub caller_added : (old new : List (Vec ℕ Global)) (to by : ℕ) (v w : Vec ℕ Global) → to < length old → slice_get old to ≡ Some v → new ≡ set old to w → w.items ≡ v.items ++ by ∷ [] → Gains (HasCaller old) (HasCaller new) (IsCandidate (length old) by to)
caller_added old new to by v w lt at is more = subst (λ new. Gains (HasCaller old) (HasCaller new) (IsCandidate (length old) by to)) (sym is) (λ e. (into e, from e))
  where
    into : (e : Link) → HasCaller (set old to w) e → HasCaller old e ⊎ IsCandidate (length old) by to e
    into e (u, found, has) = elim (cases_eq e.to to) as (λ _. HasCaller old e ⊎ IsCandidate (length old) by to e) [
      | inl same ↦
          let equal : w ≡ u = some_same (sym (get_set_here old to w lt) ∙ ap (slice_get (set old to w)) (sym same) ∙ found) in
          elim (Contains-push_cases v.items by e.by (subst (λ xs. Contains xs e.by) (sym (ap (λ (z : Vec ℕ Global). z.items) equal) ∙ more) has)) as (λ _. HasCaller old e ⊎ IsCandidate (length old) by to e) [
            | inl was ↦ inl (v, ap (slice_get old) same ∙ at, was)
            | inr q ↦ inr (sym q, same, omega (arith, same, lt))
          ]
      | inr other ↦ inl (u, sym (get_set_other old to e.to w other) ∙ found, has)
    ]

    from : (e : Link) → HasCaller old e ⊎ IsCandidate (length old) by to e → HasCaller (set old to w) e
    from e (inl (u, found, has)) = elim (cases_eq e.to to) as (λ _. HasCaller (set old to w) e) [
      | inl same ↦
          let equal : u ≡ v = some_same (sym found ∙ ap (slice_get old) same ∙ at) in
          (w, ap (slice_get (set old to w)) same ∙ get_set_here old to w lt, subst (λ xs. Contains xs e.by) (sym more) (Contains-append_left v.items (by ∷ []) e.by (subst (λ (z : Vec ℕ Global). Contains z.items e.by) equal has)))
      | inr other ↦ (u, get_set_other old to e.to w other ∙ found, has)
    ]
    from e (inr (q, same, low)) =
        (w, ap (slice_get (set old to w)) same ∙ get_set_here old to w lt, subst (λ xs. Contains xs e.by) (sym more) (subst (Contains (v.items ++ by ∷ [])) (sym q) (Contains-push v.items by)))

-- no such node
pub caller_past : (old : List (Vec ℕ Global)) (to by : ℕ) → length old ≤ to → Gains (HasCaller old) (HasCaller old) (IsCandidate (length old) by to)
caller_past old to by past = gains_nothing (HasCaller old) (IsCandidate (length old) by to) (λ e is. omega (arith, is.1, is.2, past))

-- empty lists
get_pushed : {X : Type 0} (xs : List X) (x y : X) (k : ℕ) → slice_get (xs ++ x ∷ []) k ≡ Some y → (slice_get xs k ≡ Some y) ⊎ (x ≡ y)
get_pushed [] x y zero is = inr (some_same is)
get_pushed [] x y (suc k) is = absurd cc
get_pushed (z ∷ zs) x y zero is = inl is
get_pushed (z ∷ zs) x y (suc k) is = get_pushed zs x y k is

pub none_pushed : (old new : List (Vec ℕ Global)) (v : Vec ℕ Global) → new ≡ old ++ v ∷ [] → v.items ≡ [] → ((e : Link) → HasCaller old e → ⊥) → (e : Link) → HasCaller new e → ⊥
none_pushed old new v is empty none e (w, found, has) = elim (get_pushed old v w e.to (subst (λ xs. slice_get xs e.to ≡ Some w) is found)) as (λ _. ⊥) [
  | inl was ↦ none e (w, was, has)
  | inr same ↦ (let inside : Contains [] e.by = subst (λ xs. Contains xs e.by) (sym (ap (λ (z : Vec ℕ Global). z.items) same) ∙ empty) has in omega (arith, inside.1))
]

-- what a mention calls
pub call_of_node : (size : ℕ) (types : List CType) (n by node : ℕ) (m : Mention) (old new : List (Vec ℕ Global)) → node_called types n m ≡ Some node → Gains (HasCaller old) (HasCaller new) (IsCandidate size by node) → Gains (HasCaller old) (HasCaller new) (IsCall size types n by m)
call_of_node size types n by node m old new is gains e = (
  λ has. elim ((gains e).0 has) as (λ _. HasCaller old e ⊎ IsCall size types n by m e) [
    | inl was ↦ inl was
    | inr (q, to, low) ↦ inr (q, is ∙ ap Some (sym to), low)
  ],
  λ either. elim either as (λ _. HasCaller new e) [
    | inl was ↦ (gains e).1 (inl was)
    | inr (q, at, low) ↦ (gains e).1 (inr (q, some_same (sym at ∙ is), low))
  ],
)

pub call_of_none : (size : ℕ) (types : List CType) (n by : ℕ) (m : Mention) (old : List (Vec ℕ Global)) → node_called types n m ≡ None → Gains (HasCaller old) (HasCaller old) (IsCall size types n by m)
call_of_none size types n by m old is = gains_nothing (HasCaller old) (IsCall size types n by m) (λ e call. absurd (none_some (sym is ∙ call.1)))
  where
    none_some : {k : ℕ} → None ≡ Some k → ⊥
    none_some e = cc

-- the calls of one function more
module _ (size : ℕ) (types : List CType) (n : ℕ) (p : Program) (i : ℕ) (F : Function) (ms : List Told) (at : slice_get p.functions i ≡ Some F) (are : said ms ≡ mentions_of_function F) where
  split : (e : Link) → IsCallBelow size types n p (i + 1) e ↔ (IsCallBelow size types n p i e ⊎ Has (λ m. IsCall size types n i (mention_of m) e) ms)
  split e = (into, from)
    where
      into : IsCallBelow size types n p (i + 1) e → IsCallBelow size types n p i e ⊎ Has (λ m. IsCall size types n i (mention_of m) e) ms
      into (f, lt, G, found, (m, has, call)) = elim (cases_eq f i) as (λ _. IsCallBelow size types n p i e ⊎ Has (λ m. IsCall size types n i (mention_of m) e) ms) [
        | inl same ↦
            let equal : G ≡ F = some_same (sym found ∙ ap (slice_get p.functions) same ∙ at) in
            let member : Contains (said ms) m = subst (λ xs. Contains xs m) (ap mentions_of_function equal ∙ sym are) has in
            let r = from_map mention_of ms m member in
            inr (r.0, r.1, subst (λ m. IsCall size types n i m e) (sym r.2) (subst (λ f. IsCall size types n f m e) same call))
        | inr other ↦ inl (f, omega (arith, lt, other), G, found, (m, has, call))
      ]

      from : IsCallBelow size types n p i e ⊎ Has (λ m. IsCall size types n i (mention_of m) e) ms → IsCallBelow size types n p (i + 1) e
      from (inl (f, lt, G, found, calls)) = (f, omega (arith, lt), G, found, calls)
      from (inr (m, has, call)) = (i, omega arith, F, at, (mention_of m, subst (λ xs. Contains xs (mention_of m)) are (in_map mention_of ms m has), call))

  pub body_more : (old mid new : List (Vec ℕ Global)) → Gains (HasCaller old) (HasCaller mid) (IsCallBelow size types n p i) → Gains (HasCaller mid) (HasCaller new) (λ e. Has (λ m. IsCall size types n i (mention_of m) e) ms) → Gains (HasCaller old) (HasCaller new) (IsCallBelow size types n p (i + 1))
  body_more old mid new before one = gains_both (HasCaller old) (HasCaller mid) (HasCaller new) (IsCallBelow size types n p i) (λ e. Has (λ m. IsCall size types n i (mention_of m) e) ms) (IsCallBelow size types n p (i + 1)) split before one

pub body_none : (size : ℕ) (types : List CType) (n : ℕ) (p : Program) (old : List (Vec ℕ Global)) → Gains (HasCaller old) (HasCaller old) (IsCallBelow size types n p 0)
body_none size types n p old = gains_nothing (HasCaller old) (IsCallBelow size types n p 0) (λ e call. omega (arith, call.1))

-- the candidates of one type more
module _ (size n : ℕ) (lists : List (List ℕ)) (k : ℕ) (fs : List ℕ) (at : slice_get lists k ≡ Some fs) where
  split_list : (e : Link) → IsCandidateBelow size n lists (k + 1) e ↔ (IsCandidateBelow size n lists k e ⊎ Has (λ f. IsCandidate size (n + k) f e) fs)
  split_list e = (into, from)
    where
      into : IsCandidateBelow size n lists (k + 1) e → IsCandidateBelow size n lists k e ⊎ Has (λ f. IsCandidate size (n + k) f e) fs
      into (i, lt, gs, found, has) = elim (cases_eq i k) as (λ _. IsCandidateBelow size n lists k e ⊎ Has (λ f. IsCandidate size (n + k) f e) fs) [
        | inl same ↦
            let equal : gs ≡ fs = some_same (sym found ∙ ap (slice_get lists) same ∙ at) in
            inr (subst (λ i. Has (λ f. IsCandidate size (n + i) f e) fs) same (subst (λ gs. Has (λ f. IsCandidate size (n + i) f e) gs) equal has))
        | inr other ↦ inl (i, omega (arith, lt, other), gs, found, has)
      ]

      from : IsCandidateBelow size n lists k e ⊎ Has (λ f. IsCandidate size (n + k) f e) fs → IsCandidateBelow size n lists (k + 1) e
      from (inl (i, lt, gs, found, has)) = (i, omega (arith, lt), gs, found, has)
      from (inr has) = (k, omega arith, fs, at, has)

  pub list_more : (old mid new : List (Vec ℕ Global)) → Gains (HasCaller old) (HasCaller mid) (IsCandidateBelow size n lists k) → Gains (HasCaller mid) (HasCaller new) (λ e. Has (λ f. IsCandidate size (n + k) f e) fs) → Gains (HasCaller old) (HasCaller new) (IsCandidateBelow size n lists (k + 1))
  list_more old mid new before one = gains_both (HasCaller old) (HasCaller mid) (HasCaller new) (IsCandidateBelow size n lists k) (λ e. Has (λ f. IsCandidate size (n + k) f e) fs) (IsCandidateBelow size n lists (k + 1)) split_list before one

pub list_none : (size n : ℕ) (lists : List (List ℕ)) (old : List (Vec ℕ Global)) → Gains (HasCaller old) (HasCaller old) (IsCandidateBelow size n lists 0)
list_none size n lists old = gains_nothing (HasCaller old) (IsCandidateBelow size n lists 0) (λ e call. omega (arith, call.1))

-- both kinds
pub both_kinds : (none mid all : List (Vec ℕ Global)) (P Q : Link → Type 0) → ((e : Link) → HasCaller none e → ⊥) → Gains (HasCaller none) (HasCaller mid) P → Gains (HasCaller mid) (HasCaller all) Q → (e : Link) → HasCaller all e ↔ (P e ⊎ Q e)
both_kinds none mid all P Q empty first second e = (
  λ has. elim ((second e).0 has) as (λ _. P e ⊎ Q e) [
    | inl was ↦ elim ((first e).0 was) as (λ _. P e ⊎ Q e) [ inl none_has ↦ absurd (empty e none_has) | inr is ↦ inl is ]
    | inr is ↦ inr is
  ],
  λ either. elim either as (λ _. HasCaller all e) [
    | inl is ↦ (second e).1 (inl ((first e).1 (inr is)))
    | inr is ↦ (second e).1 (inr is)
  ],
)

leads_closed : {callers : List (Vec ℕ Global)} {j k : ℕ} (P : ℕ → Type 0) → ((j k : ℕ) → P j → HasCaller callers (record { by = k; to = j }) → P k) → Leads callers j k → P j → P k
leads_closed P closed here is = is
leads_closed P closed (on {j = j} {k = k} link rest) is = leads_closed P closed rest (closed j k is link)

pub followed_none : (callers : List (Vec ℕ Global)) (begin : List ℕ) → AreFollowed callers begin begin 0
followed_none callers begin = record {
  kept = λ k has. has;
  sound = λ k has. (k, has, here);
  closed = λ j k has. absurd (omega (arith, has.1));
}

pub followed_more : (callers : List (Vec ℕ Global)) (begin mid new : List ℕ) (i node : ℕ) → i < length mid → node ≡ get_or mid i node → AreFollowed callers begin mid i → Adds mid new (λ k. HasCaller callers (record { by = k; to = node })) → AreFollowed callers begin new (i + 1)
followed_more callers begin mid new i node lt is before adds =
    let (t, two) = adds.grows in
    let short : i + 1 ≤ length mid = omega arith in
    let same : take (i + 1) new ≡ take (i + 1) mid = ap (λ xs. take (i + 1) xs) two ∙ take-append-le (i + 1) mid t short in
    let more : take (i + 1) mid ≡ take i mid ++ node ∷ [] = take_more mid i node lt ∙ ap (λ y. take i mid ++ y ∷ []) (sym is) in
    let at : Contains mid node = (i, lt, sym is) in
    record {
      kept = λ k has. (adds.is k).1 (inl (before.kept k has));
      sound = λ k has. elim ((adds.is k).0 has) as (λ _. IsLedTo callers begin k) [
        | inl was ↦ before.sound k was
        | inr link ↦ (let r = before.sound node at in (r.0, r.1, leads_more r.2 link))
      ];
      closed = λ j k has link. elim (Contains-push_cases (take i mid) node j (subst (λ xs. Contains xs j) (same ∙ more) has)) as (λ _. Contains new k) [
        | inl was ↦ (adds.is k).1 (inl (before.closed j k was link))
        | inr e ↦ (adds.is k).1 (inr (subst (λ j. HasCaller callers (record { by = k; to = j })) (sym e) link))
      ];
    }

pub followed_all : (callers : List (Vec ℕ Global)) (begin all : List ℕ) (i : ℕ) → length all ≤ i → AreFollowed callers begin all i → (k : ℕ) → Contains all k ↔ IsLedTo callers begin k
followed_all callers begin all i over to k = (
  to.sound k,
  λ (j, has, leads). leads_closed (Contains all) (λ j k is link. to.closed j k (subst (λ xs. Contains xs j) (sym (take_all i all over)) is) link) leads (to.kept j has),
)

-- the callers of a node in its list
pub callers_in : (callers : List (Vec ℕ Global)) (node : ℕ) (v : Vec ℕ Global) → slice_get callers node ≡ Some v → (k : ℕ) → Has (λ n. k ≡ n) v.items ↔ HasCaller callers (record { by = k; to = node })
callers_in callers node v at k = (
  λ (n, has, is). (v, at, subst (Contains v.items) (sym is) has),
  λ (w, found, has). (k, subst (λ (z : Vec ℕ Global). Contains z.items k) (some_same (sym found ∙ at)) has, refl),
)

pub no_callers_of : (callers : List (Vec ℕ Global)) (node : ℕ) → slice_get callers node ≡ None → (k : ℕ) → HasCaller callers (record { by = k; to = node }) → ⊥
no_callers_of callers node none k (w, found, has) = absurd (none_some (sym none ∙ found))
  where
    none_some : {x : Vec ℕ Global} → None ≡ Some x → ⊥
    none_some e = cc

-- from the system calls
pub from_calls : (callers : List (Vec ℕ Global)) (first : ℕ) (begin : List ℕ) → ((k : ℕ) → Contains begin k ↔ ((first ≤ k) × (k < first + 24))) → (k : ℕ) → IsLedTo callers begin k ↔ IsReaching callers first k
from_calls callers first begin are k = (
  λ (j, has, leads). (let r = (are j).0 has in (j, r.0, r.1, leads)),
  λ (j, le, lt, leads). (j, (are j).1 (le, lt), leads),
)

-- the system calls, one after another
pub next_call : (first node : ℕ) (old new : List ℕ) → first ≤ node → ((k : ℕ) → Contains old k ↔ ((first ≤ k) × (k < node))) → Adds old new (λ k. k ≡ node) → (k : ℕ) → Contains new k ↔ ((first ≤ k) × (k < node + 1))
next_call first node old new le before adds k = (
  λ has. elim ((adds.is k).0 has) as (λ _. (first ≤ k) × (k < node + 1)) [
    | inl was ↦ (let r = (before k).0 was in (r.0, omega (arith, r.1)))
    | inr e ↦ (omega (arith, le, e), omega (arith, e))
  ],
  λ (low, high). elim (cases_eq k node) as (λ _. Contains new k) [
    | inl e ↦ (adds.is k).1 (inr e)
    | inr other ↦ (adds.is k).1 (inl ((before k).1 (low, omega (arith, high, other))))
  ],
)

pub all_calls : (first node : ℕ) (all : List ℕ) → node ≡ first + 24 → ((k : ℕ) → Contains all k ↔ ((first ≤ k) × (k < node))) → (k : ℕ) → Contains all k ↔ ((first ≤ k) × (k < first + 24))
all_calls first node all e are k = (
  λ has. (let r = (are k).0 has in (r.0, omega (arith, r.1, e))),
  λ (low, high). (are k).1 (low, omega (arith, high, e)),
)

pub list_end : (size n k : ℕ) (lists : List (List ℕ)) (old new : List (Vec ℕ Global)) → k ≡ length lists → Gains (HasCaller old) (HasCaller new) (IsCandidateBelow size n lists k) → Gains (HasCaller old) (HasCaller new) (IsCandidateBelow size n lists (length lists))
list_end size n k lists old new e gains = subst (λ k. Gains (HasCaller old) (HasCaller new) (IsCandidateBelow size n lists k)) e gains

-- what the code adds
pub pushed_many : (old new : List (Vec ℕ Global)) (v : Vec ℕ Global) (i : ℕ) → new ≡ old ++ v ∷ [] → length old ≡ i → length new ≡ i + 1
pushed_many old new v i is many = let k = length-append old (v ∷ []) in let l = ap length is in omega (arith, k, l, many)

pub bodies_more : (size long : ℕ) (types : List CType) (n count : ℕ) (p : Program) (i : ℕ) (F : Function) (ms items : List Told) (old mid new : List (Vec ℕ Global))
    → slice_get p.functions i ≡ Some F → said ms ≡ mentions_of_function F → items ≡ ms → count ≡ n → long ≡ size
    → Gains (HasCaller old) (HasCaller mid) (IsCallBelow size types n p i) → Gains (HasCaller mid) (HasCaller new) (λ e. Has (λ m. IsCall long types count i (mention_of m) e) items) → Gains (HasCaller old) (HasCaller new) (IsCallBelow size types n p (i + 1))
bodies_more size long types n count p i F ms items old mid new at are same counted as_long before one =
    body_more size types n p i F ms at are old mid new before
    (subst (λ xs. Gains (HasCaller mid) (HasCaller new) (λ e. Has (λ m. IsCall size types n i (mention_of m) e) xs)) same
    (subst (λ k. Gains (HasCaller mid) (HasCaller new) (λ e. Has (λ m. IsCall size types k i (mention_of m) e) items)) counted
    (subst (λ k. Gains (HasCaller mid) (HasCaller new) (λ e. Has (λ m. IsCall k types count i (mention_of m) e) items)) as_long one)))

pub bodies_end : (size : ℕ) (types : List CType) (n : ℕ) (p : Program) (i d : ℕ) (old new : List (Vec ℕ Global)) → i ≡ d → Gains (HasCaller old) (HasCaller new) (IsCallBelow size types n p i) → Gains (HasCaller old) (HasCaller new) (IsCallBelow size types n p d)
bodies_end size types n p i d old new e gains = subst (λ i. Gains (HasCaller old) (HasCaller new) (IsCallBelow size types n p i)) e gains

pub lists_more : (size long n : ℕ) (lists : List (Vec ℕ Global)) (k : ℕ) (v : Vec ℕ Global) (items : List ℕ) (old mid new : List (Vec ℕ Global))
    → slice_get lists k ≡ Some v → items ≡ v.items → long ≡ size
    → Gains (HasCaller old) (HasCaller mid) (IsCandidateBelow size n (map (λ (v : Vec ℕ Global). v.items) lists) k) → Gains (HasCaller mid) (HasCaller new) (λ e. Has (λ f. IsCandidate long (n + k) f e) items) → Gains (HasCaller old) (HasCaller new) (IsCandidateBelow size n (map (λ (v : Vec ℕ Global). v.items) lists) (k + 1))
lists_more size long n lists k v items old mid new at same as_long before one =
    list_more size n (map (λ (v : Vec ℕ Global). v.items) lists) k v.items (map_get (λ (v : Vec ℕ Global). v.items) lists k v at) old mid new before
    (subst (λ xs. Gains (HasCaller mid) (HasCaller new) (λ e. Has (λ f. IsCandidate size (n + k) f e) xs)) same
    (subst (λ s. Gains (HasCaller mid) (HasCaller new) (λ e. Has (λ f. IsCandidate s (n + k) f e) items)) as_long one))

pub lists_long : (lists : List (Vec ℕ Global)) → length (map (λ (v : Vec ℕ Global). v.items) lists) ≡ length lists
lists_long [] = refl
lists_long (v ∷ vs) = ap suc (lists_long vs)

pub callers_made : (p : Program) (types : List CType) (lists : List (List ℕ)) (none mid all : List (Vec ℕ Global)) (count long : ℕ)
    → length types ≡ long → long < 2 ^ 63 → count ≡ defined p + 24 → length none ≡ count + long → length mid ≡ length none → length all ≡ length mid → ((e : Link) → HasCaller none e → ⊥)
    → Gains (HasCaller none) (HasCaller mid) (IsCallBelow (length none) types (defined p + 24) p (defined p)) → Gains (HasCaller mid) (HasCaller all) (IsCandidateBelow (length mid) count lists (length lists)) → AreCallers p types lists all
callers_made p types lists none mid all count long typed few counted many_none many_mid many_all empty bodies candidates =
    let size = defined p + 24 + length types in
    let one : length none ≡ size = omega (arith, typed, counted, many_none) in
    let two : length mid ≡ size = omega (arith, typed, counted, many_none, many_mid) in
    record {
      few = omega (arith, typed, few);
      many = omega (arith, typed, counted, many_none, many_mid, many_all);
      are = both_kinds none mid all (IsCallBelow size types (defined p + 24) p (defined p)) (IsCandidateBelow size (defined p + 24) lists (length lists)) empty
          (subst (λ k. Gains (HasCaller none) (HasCaller mid) (IsCallBelow k types (defined p + 24) p (defined p))) one bodies)
          (subst (λ k. Gains (HasCaller mid) (HasCaller all) (IsCandidateBelow k (defined p + 24) lists (length lists))) two
          (subst (λ n. Gains (HasCaller mid) (HasCaller all) (IsCandidateBelow (length mid) n lists (length lists))) counted candidates));
    }
