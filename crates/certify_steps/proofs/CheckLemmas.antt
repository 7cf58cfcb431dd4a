-- What the checks of one step say.
use Rattle.std.proofs.Common.{◌≡◌, ◌↔◌, ℕ, ◌+◌, Bool, true, false, IsTrue, List, [], ◌∷◌, Contains, Some, None, refl, sym, ◌∙◌, ap, subst}
use Rattle.dm_base.specs.declared.event.Event.{Event}
use Rattle.dm_base.specs.declared.event.Event.TheVariants.{Sys, Pre, Post}
use Rattle.dm_base.specs.Fits.{Fits}
use Rattle.dm_base.specs.Trace.{erase}
use Rattle.flow_model.specs.declared.records.ModelFunction.{ModelFunction}
use Rattle.flow_model.specs.declared.records.SilentEdge.{SilentEdge}
use Rattle.flow_model.specs.declared.records.SysEdge.{SysEdge}
use Rattle.flow_model.specs.Call.{Call}
use Rattle.flow_model.specs.Graph.{Graph, HasSilent, HasCall}
use Rattle.certify_facts.specs.declared.fact.Fact.{Fact}
use Rattle.certify_facts.specs.declared.fact.Fact.TheVariants.{Callgraph, At, Link}
use Rattle.certify_facts.specs.Reasons.{IsCall, IsEntry, IsExit, IsReturn, IsReturnedAlong, IsRead, Leads, LeadsAt}
use Rattle.certify_facts.proofs.Walking.{null_leads}
use Rattle.dm_base.specs.Adding.{Has}
use Rattle.certify_steps.specs.Reading.{BeginsAt, EndsAt, IsCallAt}

module _ (g : Graph) where
  pub entry_is : (f v : ℕ) → BeginsAt g.functions f v ↔ IsEntry g f v
  entry_is f v = (
    λ (one, at, begins). (one.exit, record { one = one; has = at; begins = begins; ends = refl }),
    λ (exit, at). (at.one, at.has, at.begins),
  )

  pub exit_is : (f v : ℕ) → EndsAt g.functions f v ↔ IsExit g f v
  exit_is f v = (
    λ (one, at, ends). (one.entry, record { one = one; has = at; begins = refl; ends = ends }),
    λ (entry, at). (at.one, at.has, at.ends),
  )

  pub entry_by : (functions : List ModelFunction) (f v : ℕ) (r : Bool) → functions ≡ g.functions → (IsTrue r ↔ BeginsAt functions f v) → IsTrue r ↔ IsEntry g f v
  entry_by functions f v r same is =
      let here : IsTrue r ↔ BeginsAt g.functions f v = subst (λ fs. IsTrue r ↔ BeginsAt fs f v) same is in
      (λ yes. (entry_is f v).0 (here.0 yes), λ at. here.1 ((entry_is f v).1 at))

  pub exit_by : (functions : List ModelFunction) (f v : ℕ) (r : Bool) → functions ≡ g.functions → (IsTrue r ↔ EndsAt functions f v) → IsTrue r ↔ IsExit g f v
  exit_by functions f v r same is =
      let here : IsTrue r ↔ EndsAt g.functions f v = subst (λ fs. IsTrue r ↔ EndsAt fs f v) same is in
      (λ yes. (exit_is f v).0 (here.0 yes), λ at. here.1 ((exit_is f v).1 at))

  -- silent edges that leave a node
  pub silent_by : (u v : ℕ) (edges : List SilentEdge) (r : Bool) → ((e : SilentEdge) → Contains edges e ↔ (Contains g.silent e × (e.from ≡ u))) → (IsTrue r ↔ Has (λ e. e.to ≡ v) edges) → IsTrue r ↔ HasSilent g u v
  silent_by u v edges r from is = (
    λ yes. let (e, has, to) = is.0 yes in let (in_silent, begins) = (from e).0 has in
        subst (Contains g.silent) (λ i. record { from = begins i; to = to i }) in_silent,
    λ has. is.1 (record { from = u; to = v }, (from (record { from = u; to = v })).1 (has, refl), refl),
  )

  -- an event that is a system call, and the system-call edges that leave a node
  pub read_by : (u v : ℕ) (e : Event) (edges : List SysEdge) (r : Bool) → erase (e ∷ []) ≡ e ∷ [] → ((s : SysEdge) → Contains edges s ↔ (Contains g.sys s × (s.from ≡ u)))
      → (IsTrue r ↔ Has (λ s. (s.to ≡ v) × Fits s.name s.args e) edges) → IsTrue r ↔ Leads g e u v
  read_by u v (Sys n args o) edges r kept from is = (
    λ yes. let (s, has, (to, fits)) = is.0 yes in let (in_sys, begins) = (from s).0 has in
        (s.name, s.args, subst (Contains g.sys) (λ i. record { from = begins i; name = s.name; to = to i; args = s.args }) in_sys, fits),
    λ (x, p, has, fits). is.1 (record { from = u; name = x; to = v; args = p }, (from (record { from = u; name = x; to = v; args = p })).1 (has, refl), (refl, fits)),
  )
  read_by u v (Pre s) edges r kept from is = absurd cc
  read_by u v (Post s) edges r kept from is = absurd cc

  pub on_by : (u : ℕ) (e : Event) (edges : List SysEdge) (r : Bool) → erase (e ∷ []) ≡ e ∷ [] → ((s : SysEdge) → Contains edges s ↔ (Contains g.sys s × (s.from ≡ u)))
      → (IsTrue r ↔ Has (λ s. Fits s.name s.args e) edges) → IsTrue r ↔ ((v : ℕ) × Leads g e u v)
  on_by u (Sys n args o) edges r kept from is = (
    λ yes. let (s, has, fits) = is.0 yes in let (in_sys, begins) = (from s).0 has in
        (s.to, (s.name, s.args, subst (Contains g.sys) (λ i. record { from = begins i; name = s.name; to = s.to; args = s.args }) in_sys, fits)),
    λ (v, (x, p, has, fits)). is.1 (record { from = u; name = x; to = v; args = p }, (from (record { from = u; name = x; to = v; args = p })).1 (has, refl), fits),
  )
  on_by u (Pre s) edges r kept from is = absurd cc
  on_by u (Post s) edges r kept from is = absurd cc

  pub on_null : (u : ℕ) (e : Event) → erase (e ∷ []) ≡ [] → IsTrue true ↔ ((v : ℕ) × Leads g e u v)
  on_null u e left = (λ yes. (u, null_leads g e u left), λ has. refl)

  pub goes_walk : (t : List Event) (x : Fact) (k v : ℕ) (b : Bool) → x ≡ Callgraph k v → (IsTrue b ↔ ((w : ℕ) × LeadsAt g t k v w)) → IsTrue b ↔ ((y : Fact) × IsRead g t x y)
  goes_walk t x k v b same is = subst (λ z. IsTrue b ↔ ((y : Fact) × IsRead g t z y)) (sym same) (
    λ yes. let (w, lead) = is.0 yes in (Callgraph (k + 1) w, (refl, lead)),
    λ (y, step). is.1 (by_fact y step),
  )
    where
      by_fact : (y : Fact) → IsRead g t (Callgraph k v) y → (w : ℕ) × LeadsAt g t k v w
      by_fact (Callgraph k' w) (p, lead) = (w, lead)
      by_fact (At k' i f w) never = absurd never
      by_fact (Link i f j h s) never = absurd never

  pub goes_run : (t : List Event) (x : Fact) (k i f v : ℕ) (b : Bool) → x ≡ At k i f v → (IsTrue b ↔ ((w : ℕ) × LeadsAt g t k v w)) → IsTrue b ↔ ((y : Fact) × IsRead g t x y)
  goes_run t x k i f v b same is = subst (λ z. IsTrue b ↔ ((y : Fact) × IsRead g t z y)) (sym same) (
    λ yes. let (w, lead) = is.0 yes in (At (k + 1) i f w, (refl, refl, refl, lead)),
    λ (y, step). is.1 (by_fact y step),
  )
    where
      by_fact : (y : Fact) → IsRead g t (At k i f v) y → (w : ℕ) × LeadsAt g t k v w
      by_fact (At k' i' f' w) (p, q, r, lead) = (w, lead)
      by_fact (Callgraph k' w) never = absurd never
      by_fact (Link i' f' j h s) never = absurd never

  -- the one call edge of a site
  module _ (s : ℕ) (c : Call) (at : IsCallAt g s c) where
    the_call : {a b f : ℕ} (call : HasCall g a s b f) → call.call ≡ c
    the_call call = at.only call.call call.has call.site

    pub call_by : (u f : ℕ) (r : Bool) → (IsTrue r ↔ ((c.from ≡ u) × Contains c.candidates f)) → IsTrue r ↔ IsCall g u s f
    call_by u f r is = (
      λ yes. let (from, candidate) = is.0 yes in (c.to, record { call = c; has = at.has; from = from; site = at.at; to = refl; candidate = candidate }),
      λ (b, call). is.1 (ap (λ d. d.from) (sym (the_call call)) ∙ call.from, subst (λ d. Contains d.candidates f) (the_call call) call.candidate),
    )

    pub return_by : (f v : ℕ) (r : Bool) → (IsTrue r ↔ ((c.to ≡ v) × Contains c.candidates f)) → IsTrue r ↔ IsReturn g f s v
    return_by f v r is = (
      λ yes. let (to, candidate) = is.0 yes in (c.from, record { call = c; has = at.has; from = refl; site = at.at; to = to; candidate = candidate }),
      λ (a, call). is.1 (ap (λ d. d.to) (sym (the_call call)) ∙ call.to, subst (λ d. Contains d.candidates f) (the_call call) call.candidate),
    )

  -- where the site has no call edge
  module _ (s : ℕ) (none : (c : Call) → Contains g.calls c → c.site ≡ s → ⊥) where
    pub no_call : (u f : ℕ) → IsTrue false ↔ IsCall g u s f
    no_call u f = (λ yes. absurd cc, λ (b, call). absurd (none call.call call.has call.site))

    pub no_return : (f v : ℕ) → IsTrue false ↔ IsReturn g f s v
    no_return f v = (λ yes. absurd cc, λ (a, call). absurd (none call.call call.has call.site))

  -- a call of a function that begins at a node, and the return from an exit
  module _ (s : ℕ) where
    pub no_call_leads : ((c : Call) → Contains g.calls c → c.site ≡ s → ⊥) → (u v : ℕ) → IsTrue false ↔ ((f : ℕ) × IsCall g u s f × IsEntry g f v)
    no_call_leads none u v = (λ yes. absurd cc, λ (f, (b, call), at). absurd (none call.call call.has call.site))

    pub call_leads_by : (c : Call) → IsCallAt g s c → (u v : ℕ) (functions : List ModelFunction) (candidates : List ℕ) (r : Bool) → functions ≡ g.functions → candidates ≡ c.candidates
        → (IsTrue r ↔ ((c.from ≡ u) × Has (λ f. BeginsAt functions f v) candidates)) → IsTrue r ↔ ((f : ℕ) × IsCall g u s f × IsEntry g f v)
    call_leads_by c at u v functions candidates r same_functions same_candidates is =
        let P : List ModelFunction → Type 0 = λ fs. IsTrue r ↔ ((c.from ≡ u) × Has (λ f. BeginsAt fs f v) candidates) in
        let Q : List ℕ → Type 0 = λ cs. IsTrue r ↔ ((c.from ≡ u) × Has (λ f. BeginsAt g.functions f v) cs) in
        let here = subst Q same_candidates (subst P same_functions is) in (
          λ yes. let (from, (f, candidate, begins)) = here.0 yes in (f, (c.to, record { call = c; has = at.has; from = from; site = at.at; to = refl; candidate = candidate }), (entry_is f v).0 begins),
          λ (f, (b, call), begins). here.1 (ap (λ d. d.from) (sym (the_call s c at call)) ∙ call.from, (f, subst (λ d. Contains d.candidates f) (the_call s c at call) call.candidate, (entry_is f v).1 begins)),
        )

    pub return_leads_by : (h u v : ℕ) (r : Bool) → IsExit g h u → ((f : ℕ) → IsExit g f u → Some h ≡ Some f) → (IsTrue r ↔ IsReturn g h s v) → IsTrue r ↔ ((f : ℕ) × IsExit g f u × IsReturn g f s v)
    return_leads_by h u v r at only is = (
      λ yes. (h, at, is.0 yes),
      λ (f, exit, returns). let both : Some h ≡ Some f = only f exit in let same : h ≡ f = cc in is.1 (subst (λ n. IsReturn g n s v) (sym same) returns),
    )

    pub no_return_leads : (u v : ℕ) → ((f : ℕ) → IsExit g f u → None ≡ Some f) → IsTrue false ↔ ((f : ℕ) × IsExit g f u × IsReturn g f s v)
    no_return_leads u v none = (λ yes. absurd cc, λ (f, exit, returns). let both : None ≡ Some f = none f exit in absurd cc)

    pub end_only : (c : Call) → IsCallAt g s c → (f v : ℕ) → IsReturn g f s v → c.to ≡ v
    end_only c at f v (a, call) = ap (λ d. d.to) (sym (the_call s c at call)) ∙ call.to

    pub end_candidate : (c : Call) → IsCallAt g s c → (f v : ℕ) → IsReturn g f s v → Contains c.candidates f
    end_candidate c at f v (a, call) = subst (λ d. Contains d.candidates f) (the_call s c at call) call.candidate

    pub end_some : (c : Call) → IsCallAt g s c → (f v : ℕ) → Contains c.candidates f → v ≡ c.to → IsReturn g f s v
    end_some c at f v candidate to = (c.from, record { call = c; has = at.has; from = refl; site = at.at; to = sym to; candidate = candidate })

  -- the fact that is returned to
  module _ (k i f u i' f' j h s : ℕ) where
    along_is : (y : Fact) → IsReturnedAlong g (At k i f u) (Link i' f' j h s) y → (v : ℕ) × IsReturn g f s v × (At k j h v ≡ y)
    along_is (At k' j' h' v) (p, q, r, q', r', exit, returns) = (v, returns, sym (λ t. At (p t) (q' t) (r' t) v))
    along_is (Callgraph k' v) is = absurd is
    along_is (Link a b c d e) is = absurd is

    pub along_only : (to : ℕ) (x z y : Fact) → x ≡ At k i f u → z ≡ Link i' f' j h s → ((v : ℕ) → IsReturn g f s v → Some to ≡ Some v) → IsReturnedAlong g x z y → Some (At k j h to) ≡ Some y
    along_only to x z y x_is z_is only is =
        let (v, returns, same) = along_is y (subst (λ w. IsReturnedAlong g (At k i f u) w y) z_is (subst (λ w. IsReturnedAlong g w z y) x_is is)) in
        let both : Some to ≡ Some v = only v returns in
        let here : to ≡ v = cc in
        ap Some (ap (λ n. At k j h n) here ∙ same)

    pub along_missing : (x z y : Fact) → x ≡ At k i f u → z ≡ Link i' f' j h s → ((v : ℕ) → IsReturn g f s v → None ≡ Some v) → IsReturnedAlong g x z y → None ≡ Some y
    along_missing x z y x_is z_is none is =
        let (v, returns, same) = along_is y (subst (λ w. IsReturnedAlong g (At k i f u) w y) z_is (subst (λ w. IsReturnedAlong g w z y) x_is is)) in
        let both : None ≡ Some v = none v returns in
        absurd cc
