-- In a valid model a node has one owner, a site one call edge, and an edge stays in one function.
use Rattle.std.proofs.Common.{◌≡◌, ℕ, List, Some, sym, ◌∙◌, ap, subst, arith}
use Rattle.dm_base.specs.declared.event.Event.{Event}
use Rattle.dm_base.specs.declared.event.Event.TheVariants.{Sys, Pre, Post}
use Rattle.flow_model.specs.Graph.{Graph, HasSilent, HasCall, HasFunction, Owns, HaveOneOwner}
use Rattle.flow_model.specs.Rules.{IsValid}
use Rattle.certify_facts.specs.Reasons.{LeadsAt, Leads}
pub use Rattle.flow_model.proofs.AllAt.{all_at}
pub use Rattle.flow_model.proofs.EdgesFound.{one_owner, one_call}

module _ (g : Graph) (valid : IsValid g) where
  pub owns_exit : (f entry exit : ℕ) → HasFunction g f entry exit → Owns g.functions g.nodes f exit
  owns_exit f entry exit at = subst (Owns g.functions g.nodes f) at.ends (valid.exits f at.one at.has)

  pub owns_entry : (f entry exit : ℕ) → HasFunction g f entry exit → Owns g.functions g.nodes f entry
  owns_entry f entry exit at =
      let owns = owns_exit f entry exit at in
      let both : Some owns.one ≡ Some at.one = sym owns.has ∙ at.has in
      let same : owns.one ≡ at.one = cc in
      let begin : owns.one.entry ≡ entry = ap (λ o. o.entry) same ∙ at.begins in
      record { one = owns.one; has = owns.has; from = omega (arith, begin); to = omega (arith, begin, owns.from, owns.to) }

  -- who owns the one node of an edge owns the other
  owns_other : (f a b : ℕ) → Owns g.functions g.nodes f a → HaveOneOwner g.functions g.nodes a b → Owns g.functions g.nodes f b
  owns_other f a b owns owner = subst (λ h. Owns g.functions g.nodes h b) (one_owner g.functions g.nodes valid.entries owner.owner f a owner.first owns) owner.second

  pub owns_silent : (f a b : ℕ) → Owns g.functions g.nodes f a → HasSilent g a b → Owns g.functions g.nodes f b
  owns_silent f a b owns has = owns_other f a b owns (all_at (λ e. HaveOneOwner g.functions g.nodes e.from e.to) g.silent (record { from = a; to = b }) valid.edges.silent has)

  owns_leads : (f a b : ℕ) (e : Event) → Owns g.functions g.nodes f a → Leads g e a b → Owns g.functions g.nodes f b
  owns_leads f a b (Sys n args o) owns (x, p, has, fits) = owns_other f a b owns (all_at (λ e. HaveOneOwner g.functions g.nodes e.from e.to) g.sys (record { from = a; name = x; to = b; args = p }) valid.edges.sys has)
  owns_leads f a b (Pre s) owns same = subst (Owns g.functions g.nodes f) same owns
  owns_leads f a b (Post s) owns same = subst (Owns g.functions g.nodes f) same owns

  pub owns_read : (t : List Event) (f k a b : ℕ) → Owns g.functions g.nodes f a → LeadsAt g t k a b → Owns g.functions g.nodes f b
  owns_read t f k a b owns (e, at, leads) = owns_leads f a b e owns leads

  pub owns_call : (f a s b h : ℕ) → Owns g.functions g.nodes f a → HasCall g a s b h → Owns g.functions g.nodes f b
  owns_call f a s b h owns call =
      let owner = all_at (λ k. HaveOneOwner g.functions g.nodes k.from k.to) g.calls call.call valid.edges.calls call.has in
      owns_other f a b owns (subst (λ n. HaveOneOwner g.functions g.nodes n b) call.from (subst (λ n. HaveOneOwner g.functions g.nodes call.call.from n) call.to owner))

  -- the calls of a site end at one node
  pub one_end : (a s b f c d h : ℕ) → HasCall g a s b f → HasCall g c s d h → b ≡ d
  one_end a s b f c d h one two =
      let same : one.call ≡ two.call = one_call g valid one.call two.call one.has two.has (one.site ∙ sym two.site) in
      sym one.to ∙ ap (λ k. k.to) same ∙ two.to
