-- What follows from one fact, put together of what its edges give.
use Rattle.std.proofs.Common.{◌≡◌, ◌⊎◌, ◌↔◌, ℕ, ◌+◌, ◌<◌, ◌≤◌, true, false, ltb, List, [], ◌∷◌, length, get_or, Contains, Option, Some, None, slice_get, refl, sym, ◌∙◌, ap, subst, inl, inr, arith}
use Rattle.std.proofs.lemmas.Bool.{cases_lt, ltb-true, lt-ltb}
use Rattle.std.proofs.lemmas.Option.{slice_get_read, slice_get_past}
use Rattle.dm_base.specs.declared.event.Event.{Event}
use Rattle.dm_base.specs.declared.event.Event.TheVariants as events
use Rattle.dm_base.specs.Fits.{Fits}
use Rattle.dm_base.specs.Trace.{erase}
use Rattle.flow_model.specs.declared.records.ModelFunction.{ModelFunction}
use Rattle.flow_model.specs.declared.records.SilentEdge.{SilentEdge}
use Rattle.flow_model.specs.declared.records.SysEdge.{SysEdge}
use Rattle.flow_model.specs.Call.{Call}
use Rattle.flow_model.specs.Graph.{Graph, HasSilent, HasCall}
use Rattle.certify_facts.specs.declared.fact.Fact.{Fact}
use Rattle.certify_facts.specs.declared.fact.Fact.TheVariants.{Callgraph, At, Link}
use Rattle.certify_facts.specs.declared.fact.FactLine.{FactLine}
use Rattle.certify_facts.specs.declared.fact.Reason.{Reason}
use Rattle.certify_facts.specs.declared.fact.Reason.TheVariants as reasons
use Rattle.certify_facts.specs.Confirms.{IsWithin}
use Rattle.certify_facts.specs.Reasons.{IsReturn, Leads, LeadsAt, IsSilent, IsEntered, IsReturned, IsRead, IsLinked}
use Rattle.dm_base.specs.Adding.{Has}
use Rattle.certify_steps.specs.Adding.{Adds}
use Rattle.certify_steps.specs.Reading.{BeginsAt, EndsAt, IsCallAt}
use Rattle.certify_steps.specs.Stepping.{GivesBy, Gives, node_of, moved, entered_at, link_to, line_of, IsCalledBy, IsOfCall, IsOfReturn, IsCallLine}
use Rattle.certify_steps.proofs.AddingLemmas.{adds_same, adds_nothing}
use Rattle.certify_steps.proofs.CheckLemmas.{entry_is, exit_is}
pub use Rattle.flow_model.proofs.NoSite.{no_site}

-- what `get` finds
pub item_at : {X : Type 0} (xs : List X) (i : ℕ) (x : X) → true ≡ ltb i (length xs) → x ≡ get_or xs i x → slice_get xs i ≡ Some x
item_at xs i x lt is = slice_get_read xs (length xs) i x refl (ltb-true i (length xs) (sym lt)) is

pub item_past : {X : Type 0} (xs : List X) (i : ℕ) → false ≡ ltb i (length xs) → slice_get xs i ≡ None
item_past xs i past = slice_get_past xs i (elim (cases_lt i (length xs)) as (λ _. length xs ≤ i) [
  | inl lt ↦ let both : true ≡ false = sym (lt-ltb i (length xs) lt) ∙ sym past in absurd cc
  | inr le ↦ le
])

-- the entry of a function
pub entry_added : (old new : List FactLine) (functions : List ModelFunction) (x : Fact) (r s f : ℕ) (one : ModelFunction) → slice_get functions f ≡ Some one
    → Adds old new (λ l. l ≡ line_of (entered_at x f one.entry) (reasons.Enter r s)) → Adds old new (λ l. (v : ℕ) × BeginsAt functions f v × (l ≡ line_of (entered_at x f v) (reasons.Enter r s)))
entry_added old new functions x r s f one at adds = adds_same old new _ _ (λ l. (
  λ same. (one.entry, (one, at, refl), same),
  λ (v, (other, found, begins), same).
      let both : Some other ≡ Some one = sym found ∙ at in
      let equal : other ≡ one = cc in
      let node : v ≡ one.entry = sym begins ∙ ap (λ (o : ModelFunction). o.entry) equal in
      subst (λ n. l ≡ line_of (entered_at x f n) (reasons.Enter r s)) node same,
)) adds

pub no_entry : (old : List FactLine) (functions : List ModelFunction) (x : Fact) (r s f : ℕ) → false ≡ ltb f (length functions) → Adds old old (λ l. (v : ℕ) × BeginsAt functions f v × (l ≡ line_of (entered_at x f v) (reasons.Enter r s)))
no_entry old functions x r s f past = adds_nothing old _ (λ l (v, (one, found, begins), is). let both : Some one ≡ None = sym found ∙ item_past functions f past in absurd cc)

-- the link of a call
pub link_added : (old new : List FactLine) (r : ℕ) (found : Option Fact) (z : Fact) → found ≡ Some z → Adds old new (λ l. l ≡ line_of z (reasons.Link r)) → Adds old new (λ l. (y : Fact) × (found ≡ Some y) × (l ≡ line_of y (reasons.Link r)))
link_added old new r found z at adds = adds_same old new _ _ (λ l. (
  λ same. (z, at, same),
  λ (y, other, same). let both : Some y ≡ Some z = sym other ∙ at in let equal : y ≡ z = cc in subst (λ n. l ≡ line_of n (reasons.Link r)) equal same,
)) adds

pub no_link : (old : List FactLine) (r : ℕ) (found : Option Fact) → found ≡ None → Adds old old (λ l. (y : Fact) × (found ≡ Some y) × (l ≡ line_of y (reasons.Link r)))
no_link old r found none = adds_nothing old _ (λ l (y, other, same). let both : Some y ≡ None = sym other ∙ none in absurd cc)

-- The one call of a site.
module _ (g : Graph) (site : ℕ) (c : Call) (at : IsCallAt g site c) where
  at_site : (P : Call → Type 0) → P c ↔ Has (λ d. (d.site ≡ site) × P d) g.calls
  at_site P = (
    λ p. (c, at.has, (at.at, p)),
    λ (d, has, (is, p)). subst P (at.only d has is) p,
  )

  pub site_called : (old new : List FactLine) (functions : List ModelFunction) (r : ℕ) (x : Fact) (s : ℕ) (candidates : List ℕ) → functions ≡ g.functions → s ≡ c.site → candidates ≡ c.candidates
      → Adds old new (λ l. Has (λ f. IsCalledBy functions r x s f l) candidates) → Adds old new (λ l. Has (λ d. (d.site ≡ site) × IsOfCall g.functions r x d l) g.calls)
  site_called old new functions r x s candidates same_functions same_site same_candidates adds =
      let A : List ModelFunction → Type 0 = λ fs. Adds old new (λ l. Has (λ f. IsCalledBy fs r x s f l) candidates) in
      let B : ℕ → Type 0 = λ n. Adds old new (λ l. Has (λ f. IsCalledBy g.functions r x n f l) candidates) in
      let C : List ℕ → Type 0 = λ cs. Adds old new (λ l. Has (λ f. IsCalledBy g.functions r x c.site f l) cs) in
      adds_same old new _ _ (λ l. at_site (λ d. IsOfCall g.functions r x d l)) (subst C same_candidates (subst B same_site (subst A same_functions adds)))

  pub site_returned : (old new : List FactLine) (r : ℕ) (x y : Fact) (s to : ℕ) → y ≡ moved x to → s ≡ c.site → to ≡ c.to
      → Adds old new (λ l. l ≡ line_of y (reasons.Return r s)) → Adds old new (λ l. Has (λ d. (d.site ≡ site) × IsOfReturn r x d l) g.calls)
  site_returned old new r x y s to same_fact same_site same_to adds =
      let A : Fact → Type 0 = λ z. Adds old new (λ l. l ≡ line_of z (reasons.Return r s)) in
      let B : ℕ → Type 0 = λ n. Adds old new (λ l. l ≡ line_of (moved x c.to) (reasons.Return r n)) in
      adds_same old new _ _ (λ l. at_site (λ d. IsOfReturn r x d l)) (subst B same_site (subst A (same_fact ∙ ap (λ n. moved x n) same_to) adds))

-- the calls at the sites are the calls that have Q, where the sites are those of the calls that have Q
pub by_sites : (g : Graph) (sites : List ℕ) (one : (c d : Call) → Contains g.calls c → Contains g.calls d → c.site ≡ d.site → c ≡ d) (Q P : Call → Type 0)
    → ((s : ℕ) → Contains sites s ↔ Has (λ c. Q c × (c.site ≡ s)) g.calls)
    → Has (λ s. Has (λ c. (c.site ≡ s) × P c) g.calls) sites ↔ Has (λ c. Q c × P c) g.calls
by_sites g sites one Q P at = (
  λ (s, in_sites, (c, has, (is, p))).
      let (d, in_calls, (q, site)) = (at s).0 in_sites in
      let same : d ≡ c = one d c in_calls has (site ∙ sym is) in
      (c, has, (subst Q same q, p)),
  λ (c, has, (q, p)). (c.site, (at c.site).1 (c, has, (q, refl)), (c, has, (refl, p))),
)

-- a line by its fact and its reason
line_is : (l : FactLine) (y : Fact) (reason : Reason) → l.fact ≡ y → l.reason ≡ reason → l ≡ line_of y reason
line_is l y reason p q = λ i. record { fact = p i; reason = q i }

module _ (g : Graph) (t : List Event) (r : ℕ) where
  -- silent edges
  silent_moved : (x : Fact) (u v : ℕ) → node_of x ≡ Some u → HasSilent g u v → IsSilent g x (moved x v)
  silent_moved (Callgraph k w) u v node has = let same : u ≡ w = cc in (refl, subst (λ n. HasSilent g n v) same has)
  silent_moved (At k i f w) u v node has = let same : u ≡ w = cc in (refl, refl, refl, subst (λ n. HasSilent g n v) same has)
  silent_moved (Link i f j h s) u v node has = absurd cc

  silent_is : (x y : Fact) (u : ℕ) → node_of x ≡ Some u → IsSilent g x y → (v : ℕ) × HasSilent g u v × (y ≡ moved x v)
  silent_is (Callgraph k w) (Callgraph k' v) u node (p, has) = let same : w ≡ u = cc in (v, subst (λ n. HasSilent g n v) same has, λ i. Callgraph (p i) v)
  silent_is (At k i f w) (At k' i' f' v) u node (p, q, s, has) = let same : w ≡ u = cc in (v, subst (λ n. HasSilent g n v) same has, λ n. At (p n) (q n) (s n) v)
  silent_is x y u node is = absurd is

  pub silent_lines : (x : Fact) (u : ℕ) (edges : List SilentEdge) (l : FactLine) → node_of x ≡ Some u → ((e : SilentEdge) → Contains edges e ↔ (Contains g.silent e × (e.from ≡ u)))
      → Has (λ e. l ≡ line_of (moved x e.to) (reasons.Silent r)) edges ↔ ((l.reason ≡ reasons.Silent r) × IsSilent g x l.fact)
  silent_lines x u edges l node from = (
    λ (e, has, same).
        let (in_silent, begins) = (from e).0 has in
        (ap (λ (k : FactLine). k.reason) same, subst (IsSilent g x) (ap (λ (k : FactLine). k.fact) (sym same)) (silent_moved x u e.to node (subst (λ n. HasSilent g n e.to) begins in_silent))),
    λ (reason, is).
        let (v, has, same) = silent_is x l.fact u node is in
        (record { from = u; to = v }, (from (record { from = u; to = v })).1 (has, refl), line_is l (moved x v) (reasons.Silent r) same reason),
  )

  pub no_silent : (x y : Fact) → node_of x ≡ None → IsSilent g x y → ⊥
  no_silent (Callgraph k w) y none is = absurd cc
  no_silent (At k i f w) y none is = absurd cc
  no_silent (Link i f j h s) y none is = is

  -- calls
  call_entered : (x : Fact) (u f v : ℕ) (c : Call) → node_of x ≡ Some u → Contains g.calls c → c.from ≡ u → Contains c.candidates f → BeginsAt g.functions f v → IsEntered g c.site x (entered_at x f v)
  call_entered (Callgraph k w) u f v c node has from candidate begins =
      (refl, f, (c.to, record { call = c; has = has; from = from ∙ (let same : u ≡ w = cc in same); site = refl; to = refl; candidate = candidate }), (entry_is g f v).0 begins)
  call_entered (At k i h w) u f v c node has from candidate begins =
      (refl, refl, (c.to, record { call = c; has = has; from = from ∙ (let same : u ≡ w = cc in same); site = refl; to = refl; candidate = candidate }), (entry_is g f v).0 begins)
  call_entered (Link i h j h' s) u f v c node has from candidate begins = absurd cc

  call_linked : (x z : Fact) (u f : ℕ) (c : Call) → node_of x ≡ Some u → Contains g.calls c → c.from ≡ u → Contains c.candidates f → link_to x c.site f ≡ Some z → IsLinked g x z
  call_linked (Callgraph k w) z u f c node has from candidate made = absurd cc
  call_linked (At k j h w) z u f c node has from candidate made =
      let same : u ≡ w = cc in
      let is : Link k f j h c.site ≡ z = cc in
      subst (IsLinked g (At k j h w)) is (refl, refl, refl, (c.to, record { call = c; has = has; from = from ∙ same; site = refl; to = refl; candidate = candidate }))
  call_linked (Link i h j h' s) z u f c node has from candidate made = absurd cc

  pub call_lines_from : (x : Fact) (u : ℕ) (l : FactLine) → node_of x ≡ Some u → Has (λ c. (c.from ≡ u) × IsOfCall g.functions r x c l) g.calls → IsCallLine g r x l
  call_lines_from x u l node (c, has, (from, (f, candidate, inl (v, begins, same)))) =
      inl (c.site, ap (λ (k : FactLine). k.reason) same, subst (IsEntered g c.site x) (ap (λ (k : FactLine). k.fact) (sym same)) (call_entered x u f v c node has from candidate begins))
  call_lines_from x u l node (c, has, (from, (f, candidate, inr (z, made, same)))) =
      inr (ap (λ (k : FactLine). k.reason) same, subst (IsLinked g x) (ap (λ (k : FactLine). k.fact) (sym same)) (call_linked x z u f c node has from candidate made))

  -- the call of a candidate from the node
  of_call : (x : Fact) (u s b f : ℕ) (l : FactLine) (call : HasCall g u s b f) → IsCalledBy g.functions r x s f l → Has (λ c. (c.from ≡ u) × IsOfCall g.functions r x c l) g.calls
  of_call x u s b f l call is = (call.call, call.has, (call.from, (f, call.candidate, subst (λ n. IsCalledBy g.functions r x n f l) (sym call.site) is)))

  entered_lines : (s : ℕ) (x y : Fact) (u : ℕ) (l : FactLine) → node_of x ≡ Some u → l.fact ≡ y → l.reason ≡ reasons.Enter r s → IsEntered g s x y → Has (λ c. (c.from ≡ u) × IsOfCall g.functions r x c l) g.calls
  entered_lines s (Callgraph k w) (Callgraph k' v) u l node fact reason (p, f, (b, call), at) =
      let same : w ≡ u = cc in
      of_call (Callgraph k w) u s b f l (subst (λ n. HasCall g n s b f) same call) (inl (v, (entry_is g f v).1 at, line_is l (Callgraph k v) (reasons.Enter r s) (fact ∙ (λ i. Callgraph (p i) v)) reason))
  entered_lines s (At k i h w) (At k' i' f v) u l node fact reason (p, q, (b, call), at) =
      let same : w ≡ u = cc in
      of_call (At k i h w) u s b f l (subst (λ n. HasCall g n s b f) same call) (inl (v, (entry_is g f v).1 at, line_is l (At k k f v) (reasons.Enter r s) (fact ∙ (λ n. At (p n) (q n) f v)) reason))
  entered_lines s x y u l node fact reason is = absurd is

  linked_lines : (x y : Fact) (u : ℕ) (l : FactLine) → node_of x ≡ Some u → l.fact ≡ y → l.reason ≡ reasons.Link r → IsLinked g x y → Has (λ c. (c.from ≡ u) × IsOfCall g.functions r x c l) g.calls
  linked_lines (At k j h w) (Link i f j' h' s) u l node fact reason (p, q, q', (b, call)) =
      let same : w ≡ u = cc in
      of_call (At k j h w) u s b f l (subst (λ n. HasCall g n s b f) same call) (inr (Link k f j h s, refl, line_is l (Link k f j h s) (reasons.Link r) (fact ∙ (λ n. Link (p n) f (q n) (q' n) s)) reason))
  linked_lines x y u l node fact reason is = absurd is

  pub call_lines : (x : Fact) (u : ℕ) (l : FactLine) → node_of x ≡ Some u → Has (λ c. (c.from ≡ u) × IsOfCall g.functions r x c l) g.calls ↔ IsCallLine g r x l
  call_lines x u l node = (
    call_lines_from x u l node,
    λ s. elim s as (λ _. Has (λ c. (c.from ≡ u) × IsOfCall g.functions r x c l) g.calls) [
      | inl entered ↦ entered_lines entered.0 x l.fact u l node refl entered.1 entered.2
      | inr linked ↦ linked_lines x l.fact u l node refl linked.0 linked.1
    ],
  )

  pub no_calls : (x : Fact) (l : FactLine) → node_of x ≡ None → IsCallLine g r x l → ⊥
  no_calls (Callgraph k w) l none is = absurd cc
  no_calls (At k i f w) l none is = absurd cc
  no_calls (Link i f j h s) l none (inl (n, reason, is)) = is
  no_calls (Link i f j h s) l none (inr (reason, is)) = is

  -- returns of the callgraph model
  return_is : (k u h : ℕ) (y : Fact) (s : ℕ) → EndsAt g.functions h u → ((f : ℕ) → EndsAt g.functions f u → Some h ≡ Some f) → IsReturned g s (Callgraph k u) y
      → (v : ℕ) × IsReturn g h s v × (y ≡ Callgraph k v)
  return_is k u h (Callgraph k' v) s ends only (p, f, exit, returns) =
      let both : Some h ≡ Some f = only f ((exit_is g f u).1 exit) in
      let same : f ≡ h = cc in
      (v, subst (λ n. IsReturn g n s v) same returns, λ i. Callgraph (p i) v)
  return_is k u h (At k' i f v) s ends only is = absurd is
  return_is k u h (Link i f j h' s') s ends only is = absurd is

  pub return_lines : (k u h : ℕ) (l : FactLine) → EndsAt g.functions h u → ((f : ℕ) → EndsAt g.functions f u → Some h ≡ Some f)
      → Has (λ c. Contains c.candidates h × IsOfReturn r (Callgraph k u) c l) g.calls ↔ ((s : ℕ) × (l.reason ≡ reasons.Return r s) × IsReturned g s (Callgraph k u) l.fact)
  return_lines k u h l ends only = (
    λ (c, has, (candidate, same)). (
      c.site,
      ap (λ (n : FactLine). n.reason) same,
      subst (IsReturned g c.site (Callgraph k u)) (ap (λ (n : FactLine). n.fact) (sym same))
          (refl, h, (exit_is g h u).0 ends, (c.from, record { call = c; has = has; from = refl; site = refl; to = refl; candidate = candidate })),
    ),
    λ (s, reason, is).
        let (v, (a, call), same) = return_is k u h l.fact s ends only is in
        (call.call, call.has, (call.candidate, line_is l (Callgraph k call.call.to) (reasons.Return r call.call.site) (same ∙ ap (λ n. Callgraph k n) (sym call.to)) (reason ∙ ap (λ n. reasons.Return r n) (sym call.site)))),
  )

  pub no_returns : (k u : ℕ) (l : FactLine) → ((f : ℕ) → EndsAt g.functions f u → None ≡ Some f) → ((s : ℕ) × (l.reason ≡ reasons.Return r s) × IsReturned g s (Callgraph k u) l.fact) → ⊥
  no_returns k u l none (s, reason, is) = by_fact l.fact is
    where
      by_fact : (y : Fact) → IsReturned g s (Callgraph k u) y → ⊥
      by_fact (Callgraph k' v) (p, f, exit, returns) = let both : None ≡ Some f = none f ((exit_is g f u).1 exit) in absurd cc
      by_fact (At k' i f v) never = never
      by_fact (Link i f j h s') never = never

  pub not_returned : (x : Fact) (l : FactLine) → ((k v : ℕ) → x ≡ Callgraph k v → ⊥) → ((s : ℕ) × (l.reason ≡ reasons.Return r s) × IsReturned g s x l.fact) → ⊥
  not_returned (Callgraph k v) l other (s, reason, is) = other k v refl
  not_returned (At k i f v) l other (s, reason, is) = is
  not_returned (Link i f j h s') l other (s, reason, is) = is

  -- events
  pub read_sys : (x : Fact) (u : ℕ) (e : Event) (edges : List SysEdge) (l : FactLine) → erase (e ∷ []) ≡ e ∷ [] → ((s : SysEdge) → Contains edges s ↔ (Contains g.sys s × (s.from ≡ u)))
      → Has (λ s. Fits s.name s.args e × (l ≡ line_of (moved x s.to) (reasons.Event r))) edges ↔ ((v : ℕ) × Leads g e u v × (l ≡ line_of (moved x v) (reasons.Event r)))
  read_sys x u (events.Sys n args o) edges l kept from = (
    λ (s, has, (fits, same)).
        let (in_sys, begins) = (from s).0 has in
        (s.to, (s.name, s.args, subst (Contains g.sys) (λ i. record { from = begins i; name = s.name; to = s.to; args = s.args }) in_sys, fits), same),
    λ (v, (name, p, has, fits), same).
        (record { from = u; name = name; to = v; args = p }, (from (record { from = u; name = name; to = v; args = p })).1 (has, refl), (fits, same)),
  )
  read_sys x u (events.Pre s) edges l kept from = absurd cc
  read_sys x u (events.Post s) edges l kept from = absurd cc

  -- a null call leads to the same node
  pub read_null : (x : Fact) (u : ℕ) (e : Event) (l : FactLine) → erase (e ∷ []) ≡ [] → (l ≡ line_of (moved x u) (reasons.Event r)) ↔ ((v : ℕ) × Leads g e u v × (l ≡ line_of (moved x v) (reasons.Event r)))
  read_null x u (events.Sys n args o) l none = absurd cc
  read_null x u (events.Pre s) l none = (λ same. (u, refl, same), λ (v, lead, same). subst (λ n. l ≡ line_of (moved x n) (reasons.Event r)) (sym lead) same)
  read_null x u (events.Post s) l none = (λ same. (u, refl, same), λ (v, lead, same). subst (λ n. l ≡ line_of (moved x n) (reasons.Event r)) (sym lead) same)

  -- the event at a place
  pub read_at : (x : Fact) (k u : ℕ) (e : Event) (l : FactLine) → slice_get t k ≡ Some e → ((v : ℕ) × Leads g e u v × (l ≡ line_of (moved x v) (reasons.Event r))) ↔ ((v : ℕ) × LeadsAt g t k u v × (l ≡ line_of (moved x v) (reasons.Event r)))
  read_at x k u e l at = (
    λ (v, lead, same). (v, (e, at, lead), same),
    λ (v, (d, other, lead), same). let both : Some d ≡ Some e = sym other ∙ at in let equal : d ≡ e = cc in (v, subst (λ n. Leads g n u v) equal lead, same),
  )

  pub no_read_at : (x : Fact) (k u : ℕ) (l : FactLine) → slice_get t k ≡ None → ((v : ℕ) × LeadsAt g t k u v × (l ≡ line_of (moved x v) (reasons.Event r))) → ⊥
  no_read_at x k u l none (v, (d, other, lead), same) = let both : Some d ≡ None = sym other ∙ none in absurd cc

  -- the facts one event later
  module _ (m : ℕ) where
    abbrev IsReadLine : Fact → FactLine → Type 0
    IsReadLine x l = (l.reason ≡ reasons.Event r) × IsRead g t x l.fact × IsWithin m l.fact

    pub later_walk : (k u : ℕ) (l : FactLine) → k < m → ((v : ℕ) × LeadsAt g t k u v × (l ≡ line_of (Callgraph (k + 1) v) (reasons.Event r))) ↔ IsReadLine (Callgraph k u) l
    later_walk k u l lt = (
      λ (v, lead, same).
          let there = subst (λ y. IsRead g t (Callgraph k u) y × IsWithin m y) (ap (λ (n : FactLine). n.fact) (sym same)) ((refl, lead), omega (arith, lt)) in
          (ap (λ (n : FactLine). n.reason) same, there.0, there.1),
      λ (reason, is, within). by_fact l.fact refl reason is,
    )
      where
        by_fact : (y : Fact) → l.fact ≡ y → l.reason ≡ reasons.Event r → IsRead g t (Callgraph k u) y → (v : ℕ) × LeadsAt g t k u v × (l ≡ line_of (Callgraph (k + 1) v) (reasons.Event r))
        by_fact (Callgraph k' v) fact reason (p, lead) = (v, lead, line_is l (Callgraph (k + 1) v) (reasons.Event r) (fact ∙ (λ i. Callgraph (p i) v)) reason)
        by_fact (At k' i f v) fact reason is = absurd is
        by_fact (Link i f j h s) fact reason is = absurd is

    pub later_run : (k i f u : ℕ) (l : FactLine) → k < m → ((v : ℕ) × LeadsAt g t k u v × (l ≡ line_of (At (k + 1) i f v) (reasons.Event r))) ↔ IsReadLine (At k i f u) l
    later_run k i f u l lt = (
      λ (v, lead, same).
          let there = subst (λ y. IsRead g t (At k i f u) y × IsWithin m y) (ap (λ (n : FactLine). n.fact) (sym same)) ((refl, refl, refl, lead), omega (arith, lt)) in
          (ap (λ (n : FactLine). n.reason) same, there.0, there.1),
      λ (reason, is, within). by_fact l.fact refl reason is,
    )
      where
        by_fact : (y : Fact) → l.fact ≡ y → l.reason ≡ reasons.Event r → IsRead g t (At k i f u) y → (v : ℕ) × LeadsAt g t k u v × (l ≡ line_of (At (k + 1) i f v) (reasons.Event r))
        by_fact (At k' i' f' v) fact reason (p, q, s, lead) = (v, lead, line_is l (At (k + 1) i f v) (reasons.Event r) (fact ∙ (λ n. At (p n) (q n) (s n) v)) reason)
        by_fact (Callgraph k' v) fact reason is = absurd is
        by_fact (Link i' f' j h s) fact reason is = absurd is

    pub never_later : (x : Fact) (l : FactLine) → ((y : Fact) → IsRead g t x y → IsWithin m y → ⊥) → IsReadLine x l → ⊥
    never_later x l none (reason, is, within) = none l.fact is within

    pub late_walk : (k u : ℕ) → m ≤ k → (y : Fact) → IsRead g t (Callgraph k u) y → IsWithin m y → ⊥
    late_walk k u le (Callgraph k' v) (p, lead) within = omega (arith, le, p, within)
    late_walk k u le (At k' i f v) is within = is
    late_walk k u le (Link i f j h s) is within = is

    pub late_run : (k i f u : ℕ) → m ≤ k → (y : Fact) → IsRead g t (At k i f u) y → IsWithin m y → ⊥
    late_run k i f u le (At k' i' f' v) (p, q, s, lead) within = omega (arith, le, p, within)
    late_run k i f u le (Callgraph k' v) is within = is
    late_run k i f u le (Link i' f' j h s) is within = is

    -- what follows from a fact that is about the first m events
    within_silent : (x y : Fact) → IsWithin m x → IsSilent g x y → IsWithin m y
    within_silent (Callgraph k u) (Callgraph k' v) le (p, has) = omega (arith, le, p)
    within_silent (At k i f u) (At k' i' f' v) le (p, q, s, has) = omega (arith, le, p)
    within_silent x y le is = absurd is

    within_entered : (s : ℕ) (x y : Fact) → IsWithin m x → IsEntered g s x y → IsWithin m y
    within_entered s (Callgraph k u) (Callgraph k' v) le (p, f, call, at) = omega (arith, le, p)
    within_entered s (At k i h u) (At k' i' f v) le (p, q, call, at) = omega (arith, le, p)
    within_entered s x y le is = absurd is

    within_returned : (s : ℕ) (x y : Fact) → IsWithin m x → IsReturned g s x y → IsWithin m y
    within_returned s (Callgraph k u) (Callgraph k' v) le (p, f, exit, returns) = omega (arith, le, p)
    within_returned s x y le is = absurd is

    within_linked : (x y : Fact) → IsWithin m x → IsLinked g x y → IsWithin m y
    within_linked (At k j h u) (Link i f j' h' s) le (p, q, q', call) = omega (arith, le, p)
    within_linked x y le is = absurd is

    abbrev pub IsAnyLine : Fact → FactLine → Type 0
    IsAnyLine x l =
        (((l.reason ≡ reasons.Silent r) × IsSilent g x l.fact) ⊎ IsCallLine g r x l)
        ⊎ (((s : ℕ) × (l.reason ≡ reasons.Return r s) × IsReturned g s x l.fact) ⊎ IsReadLine x l)

    given : (x : Fact) (reason : Reason) (y : Fact) (other : Reason) → reason ≡ other → GivesBy g t r x other y → GivesBy g t r x reason y
    given x reason y other same gives = subst (λ n. GivesBy g t r x n y) (sym same) gives

    any_gives : (x : Fact) (l : FactLine) → IsWithin m x → IsAnyLine x l → Gives g t m r x l
    any_gives x l le (inl (inl (reason, is))) = (given x l.reason l.fact (reasons.Silent r) reason (refl, is), within_silent x l.fact le is)
    any_gives x l le (inl (inr (inl (s, reason, is)))) = (given x l.reason l.fact (reasons.Enter r s) reason (refl, is), within_entered s x l.fact le is)
    any_gives x l le (inl (inr (inr (reason, is)))) = (given x l.reason l.fact (reasons.Link r) reason (refl, is), within_linked x l.fact le is)
    any_gives x l le (inr (inl (s, reason, is))) = (given x l.reason l.fact (reasons.Return r s) reason (refl, is), within_returned s x l.fact le is)
    any_gives x l le (inr (inr (reason, is, within))) = (given x l.reason l.fact (reasons.Event r) reason (refl, is), within)

    gives_any : (x : Fact) (l : FactLine) (reason : Reason) → l.reason ≡ reason → GivesBy g t r x reason l.fact → IsWithin m l.fact → IsAnyLine x l
    gives_any x l reasons.Start is gives within = absurd gives
    gives_any x l (reasons.Silent n) is (same, gives) within = inl (inl (is ∙ ap (λ k. reasons.Silent k) same, gives))
    gives_any x l (reasons.Enter n s) is (same, gives) within = inl (inr (inl (s, is ∙ ap (λ k. reasons.Enter k s) same, gives)))
    gives_any x l (reasons.Return n s) is (same, gives) within = inr (inl (s, is ∙ ap (λ k. reasons.Return k s) same, gives))
    gives_any x l (reasons.Event n) is (same, gives) within = inr (inr (is ∙ ap (λ k. reasons.Event k) same, gives, within))
    gives_any x l (reasons.Link n) is (same, gives) within = inl (inr (inr (is ∙ ap (λ k. reasons.Link k) same, gives)))

    pub any_is : (x : Fact) (l : FactLine) → IsWithin m x → IsAnyLine x l ↔ Gives g t m r x l
    any_is x l le = (any_gives x l le, λ (gives, within). gives_any x l l.reason refl gives within)

    -- nothing about the first m events follows from a later fact
    late_silent : (x y : Fact) → IsSilent g x y → IsWithin m y → IsWithin m x
    late_silent (Callgraph k u) (Callgraph k' v) (p, has) le = omega (arith, le, p)
    late_silent (At k i f u) (At k' i' f' v) (p, q, s, has) le = omega (arith, le, p)
    late_silent x y is le = absurd is

    late_entered : (s : ℕ) (x y : Fact) → IsEntered g s x y → IsWithin m y → IsWithin m x
    late_entered s (Callgraph k u) (Callgraph k' v) (p, f, call, at) le = omega (arith, le, p)
    late_entered s (At k i h u) (At k' i' f v) (p, q, call, at) le = omega (arith, le, p)
    late_entered s x y is le = absurd is

    late_returned : (s : ℕ) (x y : Fact) → IsReturned g s x y → IsWithin m y → IsWithin m x
    late_returned s (Callgraph k u) (Callgraph k' v) (p, f, exit, returns) le = omega (arith, le, p)
    late_returned s x y is le = absurd is

    late_linked : (x y : Fact) → IsLinked g x y → IsWithin m y → IsWithin m x
    late_linked (At k j h u) (Link i f j' h' s) (p, q, q', call) le = omega (arith, le, p)
    late_linked x y is le = absurd is

    late_read : (x y : Fact) → IsRead g t x y → IsWithin m y → IsWithin m x
    late_read (Callgraph k u) (Callgraph k' v) (p, lead) le = omega (arith, le, p)
    late_read (At k i f u) (At k' i' f' v) (p, q, s, lead) le = omega (arith, le, p)
    late_read x y is le = absurd is

    within_by : (x y : Fact) (reason : Reason) → GivesBy g t r x reason y → IsWithin m y → IsWithin m x
    within_by x y reasons.Start gives le = absurd gives
    within_by x y (reasons.Silent n) gives le = late_silent x y gives.1 le
    within_by x y (reasons.Enter n s) gives le = late_entered s x y gives.1 le
    within_by x y (reasons.Return n s) gives le = late_returned s x y gives.1 le
    within_by x y (reasons.Event n) gives le = late_read x y gives.1 le
    within_by x y (reasons.Link n) gives le = late_linked x y gives.1 le

    pub within_first : (x : Fact) (l : FactLine) → Gives g t m r x l → IsWithin m x
    within_first x l (gives, within) = within_by x l.fact l.reason gives within
