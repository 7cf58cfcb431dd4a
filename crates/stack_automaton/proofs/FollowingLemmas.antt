-- Steps that are added for one call, one edge or one fact.
use Rattle.std.proofs.Common.{◌≡◌, ◌↔◌, ℕ, ◌+◌, ◌<◌, ◌≤◌, true, false, List, Contains, Some, None, length, take, get_or, refl, sym, ◌∙◌, ap, subst, inl, inr}
use Rattle.std.proofs.Math.Dec.{ltb}
use Rattle.std.proofs.lemmas.Bool.{cases_lt, lt-ltb, ltb-true}
use Rattle.std.proofs.lemmas.List.{take_all}
use Rattle.std.proofs.lemmas.Option.{slice_get_read, slice_get_past}
use Rattle.std.specs.Prelude.{slice_get}
use Rattle.flow_model.specs.declared.records.ModelFunction.{ModelFunction}
use Rattle.flow_model.specs.Call.{Call}
use Rattle.flow_model.specs.Graph.{Graph}
use Rattle.stack_automaton.specs.Held.{States}
use Rattle.dm_base.specs.Adding.{Has, Adds, Gains}
use Rattle.stack_automaton.specs.Links.{Links, HasLink, AddsLinks}
use Rattle.stack_automaton.specs.Following.{IsCallAt, IsAlong, IsEntry, IsCalled, link_of, IsCallTo, IsLinkOf, EndsAt, IsReturn, IsBack, IsEnd, IsAfterEnd, IsStep}
use Rattle.stack_automaton.specs.declared.place.Place.{Place}
use Rattle.stack_automaton.specs.declared.place.Place.TheVariants.{Held, Entered}
use Rattle.stack_automaton.specs.declared.place.Edge.{Edge}
use Rattle.stack_automaton.specs.declared.place.Fact.{Fact}
use Rattle.stack_automaton.specs.declared.place.Link.{Link}
use Rattle.dm_base.proofs.AddingLemmas.{gains_same, adds_same, adds_both, adds_nothing, has_more}
use Rattle.stack_automaton.proofs.LinksLemmas.{links_same}
pub use Rattle.flow_model.proofs.NoSite.{no_site}

-- the entry of the function at the place
pub entry_added : (old new : List Fact) (functions : List ModelFunction) (f : ℕ) (one : ModelFunction) → slice_get functions f ≡ Some one
    → Adds old new (λ y. y ≡ record { node = one.entry; place = Entered f }) → Adds old new (λ y. IsEntry functions y f)
entry_added old new functions f one at adds = adds_same old new _ _ (λ y. (
  λ same. (one, at, same),
  λ (other, found, same).
      let both : Some other ≡ Some one = sym found ∙ at in
      let equal : other ≡ one = cc in
      subst (λ o. y ≡ record { node = o.entry; place = Entered f }) equal same,
)) adds

-- nothing is returned to, where the exit is not reached
pub added_if : {Y : Type 0} (old new : List Y) (A : Type 0) (P : Y → Type 0) → A → Adds old new P → Adds old new (λ y. A × P y)
added_if old new A P holds adds = adds_same old new P _ (λ y. (λ p. (holds, p), λ both. both.1)) adds

-- the call of a function: its entry, and what it returns to
pub call_added : (old mid new : List Fact) (functions : List ModelFunction) (ended : List ℕ) (link : Link) (f : ℕ)
    → Adds old mid (λ y. IsEntry functions y f) → Adds mid new (λ y. Contains ended f × (y ≡ record { node = link.to; place = link.place }))
    → Adds old new (IsCalled functions ended link f)
call_added old mid new functions ended link f one two = adds_both old mid new _ _ _ (λ y. (λ s. s, λ s. s)) one two

-- The one call of a site.
module _ (g : Graph) (site : ℕ) (c : Call) (at : IsCallAt g site c) where
  pub at_site : (P Q : Call → Type 0) → ((d : Call) → d ≡ c → P d ↔ Q d) → Q c ↔ Has (λ d. (d.site ≡ site) × P d) g.calls
  at_site P Q same = (
    λ q. (c, at.has, (at.at, (same c refl).1 q)),
    λ (d, has, (is, p)). subst Q (at.only d has is) ((same d (at.only d has is)).0 p),
  )

  pub site_called : (old new : List Fact) (functions : List ModelFunction) (ended : List ℕ) (p : Place) (link : Link) (candidates : List ℕ) → link ≡ link_of c p → candidates ≡ c.candidates
      → Adds old new (λ y. Has (λ f. IsCalled functions ended link f y) candidates) → Adds old new (λ y. Has (λ d. (d.site ≡ site) × IsCallTo functions ended p d y) g.calls)
  site_called old new functions ended p link candidates is same adds =
      let Q : Fact → Call → Type 0 = λ y d. IsCallTo functions ended p d y in
      let mine : Adds old new (λ y. Has (λ f. IsCalled functions ended (link_of c p) f y) c.candidates) =
      subst (λ l. Adds old new (λ y. Has (λ f. IsCalled functions ended l f y) c.candidates)) is (subst (λ cs. Adds old new (λ y. Has (λ f. IsCalled functions ended link f y) cs)) same adds) in
      adds_same old new _ _ (λ y. at_site (Q y) (Q y) (λ d e. (λ q. q, λ q. q))) mine

  pub site_linked : (old new : Links) (p : Place) (link : Link) (candidates : List ℕ) → link ≡ link_of c p → candidates ≡ c.candidates
      → AddsLinks old new (λ f l. Has (λ h. (f ≡ h) × (l ≡ link)) candidates) → AddsLinks old new (λ f l. Has (λ d. (d.site ≡ site) × IsLinkOf p f l d) g.calls)
  site_linked old new p link candidates is same adds =
      let Q : ℕ → Link → Call → Type 0 = λ f l d. IsLinkOf p f l d in
      let mine : AddsLinks old new (λ f l. Has (λ h. (f ≡ h) × (l ≡ link_of c p)) c.candidates) =
      subst (λ k. AddsLinks old new (λ f l. Has (λ h. (f ≡ h) × (l ≡ k)) c.candidates)) is (subst (λ cs. AddsLinks old new (λ f l. Has (λ h. (f ≡ h) × (l ≡ link)) cs)) same adds) in
      links_same old new _ _ (λ f l.
      let whole = at_site (Q f l) (Q f l) (λ d e. (λ q. q, λ q. q)) in (
        λ (h, has, (is_h, is_l)). whole.0 (subst (Contains c.candidates) (sym is_h) has, is_l),
        λ has. let (in_candidates, is_l) = whole.1 has in (f, in_candidates, (refl, is_l)),
      )) mine

  pub site_returned : (old new : List Fact) (functions : List ModelFunction) (node : ℕ) (e : Edge) (candidates : List ℕ) (to : ℕ) → e.label ≡ site → candidates ≡ c.candidates → to ≡ c.to → Has (EndsAt functions node) candidates
      → Adds old new (λ y. y ≡ record { node = to; place = Held e.to }) → Adds old new (λ y. Has (IsReturn functions node e y) g.calls)
  site_returned old new functions node e candidates to label same back ends adds =
      let end : Has (EndsAt functions node) c.candidates = subst (Has (EndsAt functions node)) same ends in
      adds_same old new _ _ (λ y. (
        λ is. (c, at.has, (at.at ∙ sym label, end, is ∙ ap (λ n. record { node = n; place = Held e.to }) back)),
        λ (d, has, (is, some, y_is)).
            let one : d ≡ c = at.only d has (is ∙ label) in
            y_is ∙ ap (λ x. record { node = x.to; place = Held e.to }) one ∙ ap (λ n. record { node = n; place = Held e.to }) (sym back),
      )) adds

  pub site_not_returned : (old : List Fact) (functions : List ModelFunction) (node : ℕ) (e : Edge) (candidates : List ℕ) → e.label ≡ site → candidates ≡ c.candidates → (Has (EndsAt functions node) candidates → ⊥)
      → Adds old old (λ y. Has (IsReturn functions node e y) g.calls)
  site_not_returned old functions node e candidates label same not = adds_nothing old _ (λ y (d, has, (is, some, y_is)).
      let one : d ≡ c = at.only d has (is ∙ label) in
      not (subst (Has (EndsAt functions node)) (ap (λ x. x.candidates) one ∙ sym same) some))

-- the calls at the sites of a node are the calls from it
pub by_sites : (g : Graph) (node : ℕ) (sites : List ℕ) (one : (c d : Call) → Contains g.calls c → Contains g.calls d → c.site ≡ d.site → c ≡ d) (P : Call → Type 0)
    → ((s : ℕ) → Contains sites s ↔ Has (λ c. (c.from ≡ node) × (c.site ≡ s)) g.calls)
    → Has (λ s. Has (λ c. (c.site ≡ s) × P c) g.calls) sites ↔ Has (λ c. (c.from ≡ node) × P c) g.calls
by_sites g node sites one P at = (
  λ (s, in_sites, (c, has, (is, p))).
      let (d, in_calls, (from, site)) = (at s).0 in_sites in
      let same : d ≡ c = one d c in_calls has (site ∙ sym is) in
      (c, has, (ap (λ x. x.from) (sym same) ∙ from, p)),
  λ (c, has, (from, p)). (c.site, (at c.site).1 (c, has, (from, refl)), (c, has, (refl, p))),
)

-- back along the edges of the state at a key
pub back_added : (old new : List Fact) (g : Graph) (s : States) (x : Fact) (q : ℕ) (edges : List Edge) → x.place ≡ Held q → s q ≡ Some edges
    → Adds old new (λ y. Has (λ e. Has (IsReturn g.functions x.node e y) g.calls) edges) → Adds old new (IsBack g s x)
back_added old new g s x q edges place found adds = adds_same old new _ _ (λ y. (
  λ is. (q, place, edges, found, is),
  λ (r, at, others, is_others, is).
      let both : ◌≡◌ {A = Place} (Held r) (Held q) = sym at ∙ place in
      let same : r ≡ q = cc in
      let here : Some others ≡ Some edges = sym is_others ∙ ap s same ∙ found in
      let equal : others ≡ edges = cc in
      subst (λ es. Has (λ e. Has (IsReturn g.functions x.node e y) g.calls) es) equal is,
)) adds

-- a function ends once
pub one_end : (functions : List ModelFunction) (x : Fact) (f h : ℕ) → IsEnd functions f x → IsEnd functions h x → f ≡ h
one_end functions x f h one two = let both : ◌≡◌ {A = Place} (Entered f) (Entered h) = sym one.0 ∙ two.0 in cc

-- what is returned to after the end of the function
pub end_followed : (old new : List Fact) (functions : List ModelFunction) (links : Links) (x : Fact) (f : ℕ) (list : List Link) → IsEnd functions f x → ((l : Link) → Contains list l ↔ HasLink links f l)
    → Adds old new (λ y. Has (λ l. y ≡ record { node = l.to; place = l.place }) list) → Adds old new (IsAfterEnd functions links x)
end_followed old new functions links x f list ends is adds = adds_same old new _ _ (λ y. (
  λ (l, has, same). (f, ends, l, (is l).0 has, same),
  λ (h, other, l, has, same). (l, (is l).1 (subst (λ i. HasLink links i l) (one_end functions x h f other ends) has), same),
)) adds

pub end_noted : (old new : List ℕ) (functions : List ModelFunction) (x : Fact) (f : ℕ) → IsEnd functions f x → Gains (Contains old) (Contains new) (λ h. h ≡ f) → Gains (Contains old) (Contains new) (λ h. IsEnd functions h x)
end_noted old new functions x f ends gains = gains_same (Contains old) (Contains new) _ _ (λ h. (
  λ same. subst (λ i. IsEnd functions i x) (sym same) ends,
  λ other. one_end functions x h f other ends,
)) gains

-- a slot of the functions
pub function_at : (functions : List ModelFunction) (f : ℕ) (one : ModelFunction) → true ≡ ltb f (length functions) → one ≡ get_or functions f one → slice_get functions f ≡ Some one
function_at functions f one lt is = slice_get_read functions (length functions) f one refl (ltb-true f (length functions) (sym lt)) is

pub function_past : (functions : List ModelFunction) (f : ℕ) → false ≡ ltb f (length functions) → slice_get functions f ≡ None
function_past functions f past = slice_get_past functions f (elim (cases_lt f (length functions)) as (λ _. length functions ≤ f) [
  | inl lt ↦ let both : true ≡ false = sym (lt-ltb f (length functions) lt) ∙ sym past in absurd cc
  | inr le ↦ le
])

-- one candidate more
pub none_ends : (functions : List ModelFunction) (node : ℕ) (xs : List ℕ) (i x : ℕ) → i < length xs → x ≡ get_or xs i x → (EndsAt functions node x → ⊥) → (Has (EndsAt functions node) (take i xs) → ⊥) → Has (EndsAt functions node) (take (i + 1) xs) → ⊥
none_ends functions node xs i x lt is not before has = elim ((has_more (EndsAt functions node) xs i x lt is).0 has) as (λ _. ⊥) [ inl was ↦ before was | inr here ↦ not here ]

pub none_ends_at_all : (functions : List ModelFunction) (node : ℕ) (xs : List ℕ) (i : ℕ) → length xs ≤ i → (Has (EndsAt functions node) (take i xs) → ⊥) → Has (EndsAt functions node) xs → ⊥
none_ends_at_all functions node xs i over before has = before (subst (Has (EndsAt functions node)) (sym (take_all i xs over)) has)

-- what the parts of one step add
pub step_added : (g : Graph) (s : States) (links : Links) (ended : List ℕ) (x : Fact) (old a b c new : List Fact)
    → Adds old a (λ y. Has (λ c. (c.from ≡ x.node) × IsCallTo g.functions ended x.place c y) g.calls) → Adds a b (IsAfterEnd g.functions links x)
    → Adds b c (λ y. Has (λ e. IsAlong x e y) g.silent) → Adds c new (IsBack g s x) → Adds old new (IsStep g s links ended x)
step_added g s links ended x old a b c new one two three four =
    adds_both old a new _ _ _ (λ y. (λ is. is, λ is. is)) one (adds_both a b new _ _ _ (λ y. (λ is. is, λ is. is)) two (adds_both b c new _ _ _ (λ y. (λ is. is, λ is. is)) three four))

pub no_function : (old : List Fact) (functions : List ModelFunction) (f : ℕ) → false ≡ ltb f (length functions) → Adds old old (λ y. IsEntry functions y f)
no_function old functions f past = adds_nothing old _ (λ y (one, found, is). let both : Some one ≡ None = sym found ∙ function_past functions f past in absurd cc)

pub same_link : (c : Call) (p : Place) (site to : ℕ) → site ≡ c.site → to ≡ c.to → ◌≡◌ {A = Link} (record { site = site; to = to; place = p }) (link_of c p)
same_link c p site to one two = λ i. record { site = one i; to = two i; place = p }

-- nothing is returned to where no function ends
pub no_end : (old : List Fact) (g : Graph) (s : States) (x : Fact) → ((f : ℕ) → EndsAt g.functions x.node f → ⊥) → Adds old old (IsBack g s x)
no_end old g s x none = adds_nothing old _ (λ y (q, at, edges, found, (e, in_edges, (c, in_calls, (site, (f, candidate, ends), to)))). none f ends)
