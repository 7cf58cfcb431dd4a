-- The nodes to which silent edges lead, found one after another.
use Rattle.std.proofs.Common.{◌≡◌, ◌↔◌, ℕ, ◌+◌, ◌<◌, ◌≤◌, true, eqb, List, [], ◌∷◌, ◌++◌, length, take, get_or, Contains, refl, sym, ◌∙◌, ap, subst, inl, inr, arith}
use Rattle.std.specs.Prelude.{filter, slice_get, None}
use Rattle.std.proofs.lemmas.Option.{slice_get-get_or, none-some}
use Rattle.std.specs.List.{list_any}
use Rattle.std.proofs.lemmas.Bool.{eqb-true, cases_lt}
use Rattle.std.proofs.lemmas.List.{take_all, take_more, take-append-le, length-append, get_or-take, length-take-le, get_or_default}
use Rattle.std.proofs.lemmas.List.Elements.{Contains-get_or, Contains-append_left, Contains-push, Contains-push_cases}
use Rattle.std.specs.Cmp.{nat_eq_equiv}
use Rattle.std.proofs.lemmas.Map.Views.{Contains-from_any, list_any-from_Contains}
use Rattle.flow_model.specs.declared.records.SilentEdge.{SilentEdge}
use Rattle.flow_model.specs.Graph.{Graph, HasSilent}
use Rattle.dyck_monitor.specs.Adding.{Adds}
use Rattle.dyck_monitor.specs.Silence.{LeadsTo}
use Rattle.dyck_monitor.specs.Silence.LeadsTo.{here, on}
use Rattle.flow_model.specs.Found.{Found, AreFound}
use Rattle.dyck_monitor.proofs.Counting.{filters_apart}

pub leads_trans : {g : Graph} {a b c : ℕ} → LeadsTo g a b → LeadsTo g b c → LeadsTo g a c
leads_trans here rest = rest
leads_trans (on has more) rest = on has (leads_trans more rest)

-- some node of the list leads to c
abbrev pub IsLedTo : Graph → List ℕ → ℕ → Type 0
IsLedTo g nodes c = (b : ℕ) × Contains nodes b × LeadsTo g b c

-- what the list has grown to, where the silent edges of so many of its first nodes were followed
pub record IsFollowed (g : Graph) (start now : Found) (done : ℕ) : Type 0 where
  pub size : now.size ≡ start.size
  pub within : done ≤ length now.nodes
  pub grows : (b : ℕ) → Contains start.nodes b → Contains now.nodes b
  pub reached : (c : ℕ) → Contains now.nodes c → IsLedTo g start.nodes c
  pub closed : (a b : ℕ) → Contains (take done now.nodes) a → HasSilent g a b → Contains now.nodes b
  pub found : AreFound now

pub followed_start : (g : Graph) (start : Found) → AreFound start → IsFollowed g start start 0
followed_start g start found = record {
  size = refl;
  within = omega arith;
  grows = λ b has. has;
  reached = λ c has. (c, has, here);
  closed = λ a b has. absurd (omega (arith, has.1));
  found = found;
}

-- The silent edges of the next node are followed.
module _ (g : Graph) (start now new : Found) (done : ℕ) (followed : IsFollowed g start now done) (lt : done < length now.nodes) (adds : Adds (HasSilent g (get_or now.nodes done 0)) now new) where
  node : ℕ
  node = get_or now.nodes done 0

  -- the nodes that are done then
  done_more : take (done + 1) new.nodes ≡ take done now.nodes ++ get_or now.nodes done 0 ∷ []
  done_more =
      let le : done + 1 ≤ length now.nodes = omega arith in
      ap (λ xs. take (done + 1) xs) adds.front.1 ∙ take-append-le (done + 1) now.nodes adds.front.0 le ∙ take_more now.nodes done 0 lt

  grown : (b : ℕ) → Contains now.nodes b → Contains new.nodes b
  grown b has = (adds.members b).1 (inl has)

  led_further : (b c : ℕ) → Contains now.nodes b → HasSilent g b c → IsLedTo g start.nodes c
  led_further b c has edge = let (a, there, leads) = followed.reached b has in (a, there, leads_trans leads (on edge here))

  pub followed_more : IsFollowed g start new (done + 1)
  followed_more = record {
    size = adds.size ∙ followed.size;
    within = omega (arith, ap length adds.front.1, length-append now.nodes adds.front.0);
    grows = λ b has. grown b (followed.grows b has);
    reached = λ c has. elim ((adds.members c).0 has) as (λ _. IsLedTo g start.nodes c) [
      | inl old ↦ followed.reached c old
      | inr edge ↦ led_further (get_or now.nodes done 0) c (Contains-get_or now.nodes done 0 lt) edge
    ];
    closed = λ a b has edge. elim (Contains-push_cases (take done now.nodes) (get_or now.nodes done 0) a (subst (λ xs. Contains xs a) done_more has)) as (λ _. Contains new.nodes b) [
      | inl old ↦ grown b (followed.closed a b old edge)
      | inr same ↦ (adds.members b).1 (inr (subst (λ n. HasSilent g n b) (sym same) edge))
    ];
    found = adds.found followed.found;
  }

  -- it was not among those that were done
  is_new : Contains (take done now.nodes) (get_or now.nodes done 0) → ⊥
  is_new (k, less, is) =
      let short : done ≤ length now.nodes = omega arith in
      let before : k < done = omega (arith, length-take-le done now.nodes short) in
      let d = get_or now.nodes done 0 in
      followed.found.differ k done d before lt (sym (get_or-take done now.nodes k d before) ∙ is ∙ get_or_default now.nodes done 0 d lt)

  -- so its edges were not counted before
  pub followed_cost : length (filter (λ (e : SilentEdge). list_any (eqb e.from) (take done now.nodes)) g.silent) + length (filter (λ (e : SilentEdge). eqb e.from (get_or now.nodes done 0)) g.silent)
      ≤ length (filter (λ (e : SilentEdge). list_any (eqb e.from) (take (done + 1) new.nodes)) g.silent)
  followed_cost = filters_apart (λ (e : SilentEdge). list_any (eqb e.from) (take done now.nodes)) (λ (e : SilentEdge). eqb e.from (get_or now.nodes done 0)) (λ (e : SilentEdge). list_any (eqb e.from) (take (done + 1) new.nodes))
      (λ e old same. is_new (subst (Contains (take done now.nodes)) (eqb-true e.from (get_or now.nodes done 0) same) (listed_is (take done now.nodes) e.from old)))
      (λ e old. is_listed (take (done + 1) new.nodes) e.from (subst (λ xs. Contains xs e.from) (sym done_more) (Contains-append_left (take done now.nodes) (get_or now.nodes done 0 ∷ []) e.from (listed_is (take done now.nodes) e.from old))))
      (λ e same. is_listed (take (done + 1) new.nodes) e.from (subst (λ xs. Contains xs e.from) (sym done_more) (subst (Contains (take done now.nodes ++ get_or now.nodes done 0 ∷ [])) (sym (eqb-true e.from (get_or now.nodes done 0) same)) (Contains-push (take done now.nodes) (get_or now.nodes done 0)))))
      g.silent
    where
      listed_is : (xs : List ℕ) (x : ℕ) → list_any (eqb x) xs ≡ true → Contains xs x
      listed_is xs x is = Contains-from_any {eq = eqb} eqb-true x xs is

      is_listed : (xs : List ℕ) (x : ℕ) → Contains xs x → list_any (eqb x) xs ≡ true
      is_listed xs x has = list_any-from_Contains {eq = eqb} nat_eq_equiv x xs has

-- a list all of whose nodes were followed has what they lead to
closed_leads : (g : Graph) (nodes : List ℕ) → ((a b : ℕ) → Contains nodes a → HasSilent g a b → Contains nodes b) → {a c : ℕ} → LeadsTo g a c → Contains nodes a → Contains nodes c
closed_leads g nodes closed here has = has
closed_leads g nodes closed (on {a = a} {b = b} edge rest) has = closed_leads g nodes closed rest (closed a b has edge)

pub followed_all : (g : Graph) (start now : Found) (done : ℕ) → IsFollowed g start now done → length now.nodes ≤ done → (c : ℕ) → Contains now.nodes c ↔ IsLedTo g start.nodes c
followed_all g start now done followed over c = (
  followed.reached c,
  λ (b, has, leads). closed_leads g now.nodes (λ a d there edge. followed.closed a d (subst (λ xs. Contains xs a) (sym (take_all done now.nodes over)) there) edge) leads (followed.grows b has),
)

-- past the end of a list
pub none_within : (xs : List ℕ) (i : ℕ) → None ≡ slice_get xs i → length xs ≤ i
none_within xs i none = elim (cases_lt i (length xs)) as (λ _. length xs ≤ i) [
  | inl lt ↦ absurd (none-some (get_or xs i 0) (none ∙ slice_get-get_or xs i 0 lt))
  | inr ge ↦ ge
]
