-- Walks over nodes, event by event.
use Rattle.std.proofs.Common.{◌≡◌, ℕ, ℤ, ◌+◌, ◌≤◌, List, [], ◌∷◌, ◌++◌, length, take, Option, Some, slice_get, refl, sym, ◌∙◌, ap, subst, inl, inr, arith, append-nil}
use Rattle.std.proofs.lemmas.Bool.{cases_lt}
use Rattle.std.proofs.lemmas.List.{append_assoc, length_push}
use Rattle.dm_base.specs.declared.event.Event.{Event}
use Rattle.dm_base.specs.declared.event.Event.TheVariants.{Sys, Pre, Post}
use Rattle.dm_base.specs.Fits.{Fits}
use Rattle.dm_base.specs.Trace.{erase}
use Rattle.flow_model.specs.declared.which.Which.TheVariants.{Callgraph}
use Rattle.flow_model.specs.Graph.{Graph, HasSys, HasFunction}
use Rattle.flow_model.specs.Language.{Quiet, Walk, Reads}
use Rattle.flow_model.specs.Language.Walk.{over, quiet, calls}
use Rattle.flow_model.proofs.Walks.{reads_from_walk}
use Rattle.certify_facts.specs.Reasons.{Leads, LeadsAt}
use Rattle.certify_facts.proofs.Places.{at_seam, in_whole, erase-take_at, nulls, next}

-- after k events a walk from the entry may be at the node
pub data WalkTo (g : Graph) (t : List Event) (entry : ℕ) : ℕ → ℕ → Type 0 where
  here : WalkTo g t entry 0 entry
  quietly : {k u v : ℕ} → WalkTo g t entry k u → Quiet g u v → WalkTo g t entry k v
  reading : {k u v : ℕ} → WalkTo g t entry k u → LeadsAt g t k u v → WalkTo g t entry (k + 1) v

walk_quiet : {g : Graph} {a u v : ℕ} {w : List Event} → Walk g a w u → Quiet g u v → Walk g a w v
walk_quiet over s = quiet s over
walk_quiet (quiet r rest) s = quiet r (walk_quiet rest s)
walk_quiet (calls has fits rest) s = calls has fits (walk_quiet rest s)

walk_call : {g : Graph} {a u v x : ℕ} {p : List (Option ℤ)} {w : List Event} (e : Event) → Walk g a w u → HasSys g u x p v → Fits x p e → Walk g a (w ++ e ∷ []) v
walk_call e over has fits = calls has fits over
walk_call e (quiet r rest) has fits = quiet r (walk_call e rest has fits)
walk_call e (calls one was rest) has fits = calls one was (walk_call e rest has fits)

walk_lead : {g : Graph} {a u v : ℕ} {w : List Event} (e : Event) → Walk g a w u → Leads g e u v → Walk g a (w ++ erase (e ∷ [])) v
walk_lead (Sys n args o) walk (x, p, has, fits) = walk_call (Sys n args o) walk has fits
walk_lead {g} {a} {u} {v} {w} (Pre s) walk same = subst (λ d. Walk g a d v) (sym (append-nil w)) (subst (λ n. Walk g a w n) same walk)
walk_lead {g} {a} {u} {v} {w} (Post s) walk same = subst (λ d. Walk g a d v) (sym (append-nil w)) (subst (λ n. Walk g a w n) same walk)

pub walk_of : {g : Graph} {t : List Event} {entry k v : ℕ} → WalkTo g t entry k v → Walk g entry (erase (take k t)) v
walk_of here = over
walk_of (quietly walk s) = walk_quiet (walk_of walk) s
walk_of {g} {t} {entry} (reading {k = k} {v = v} walk (e, at, leads)) =
    subst (λ w. Walk g entry w v) (sym (erase-take_at t k e at)) (walk_lead e (walk_of walk) leads)

-- a walk has been somewhere after each number of events
pub walk_before : {g : Graph} {t : List Event} {entry k v : ℕ} → WalkTo g t entry k v → (j : ℕ) → j ≤ k → (u : ℕ) × WalkTo g t entry j u
walk_before {g} {t} {entry} here j le = (entry, subst (λ n. WalkTo g t entry n entry) (let z : 0 ≡ j = omega arith in z) here)
walk_before (quietly walk s) j le = walk_before walk j le
walk_before {g} {t} {entry} (reading {k = k} {v = v} walk leads) j le = elim (cases_lt j (k + 1)) as (λ _. (u : ℕ) × WalkTo g t entry j u) [
  | inl lt ↦ walk_before walk j (omega arith)
  | inr ge ↦ (v, subst (λ n. WalkTo g t entry n v) (let z : k + 1 ≡ j = omega arith in z) (reading walk leads))
]

-- so the first part of the trace is in the language
pub reads_before : {g : Graph} {t : List Event} {entry exit k v : ℕ} → HasFunction g g.start entry exit → WalkTo g t entry k v → (j : ℕ) → j ≤ k → Reads Callgraph g (take j t)
reads_before {t = t} start walk j le = let (u, before) = walk_before walk j le in reads_from_walk (take j t) start (walk_of before)

-- A null call leads from a node to itself.
pub null_leads : (g : Graph) (e : Event) (v : ℕ) → erase (e ∷ []) ≡ [] → Leads g e v v
null_leads g (Sys n a o) v left = absurd cc
null_leads g (Pre s) v left = refl
null_leads g (Post s) v left = refl

-- an event that is read leads along the edge
pub call_leads : (g : Graph) (e : Event) (u v x : ℕ) (p : List (Option ℤ)) → HasSys g u x p v → Fits x p e → Leads g e u v
call_leads g (Sys n a o) u v x p has fits = (x, p, has, fits)
call_leads g (Pre s) u v x p has fits = absurd fits
call_leads g (Post s) u v x p has fits = absurd fits

-- A walk that reads the whole trace, event by event.
module _ (g : Graph) (t : List Event) (entry : ℕ) where
  walk_null : (v k : ℕ) (e : Event) → slice_get t k ≡ Some e → erase (e ∷ []) ≡ [] → WalkTo g t entry k v → WalkTo g t entry (k + 1) v
  walk_null v k e at left walk = reading walk (e, at, null_leads g e v left)

  pub walk_to : {a w : ℕ} {r : List Event} → Walk g a r w → (p u : List Event) → t ≡ p ++ u → r ≡ erase u → WalkTo g t entry (length p) a → WalkTo g t entry (length t) w
  walk_to (over {a = a}) p u is same walk = nulls t (λ k. WalkTo g t entry k a) (walk_null a) p u is same walk
  walk_to (quiet s rest) p u is same walk = walk_to rest p u is same (quietly walk s)
  walk_to (calls {a = a} {b = b} {x = x} {p = q} {e = e} {t = r} has fits rest) p u is same walk =
      let after = next t (λ k. WalkTo g t entry k a) (walk_null a) p u e r is same walk in
      let at : slice_get t (length after.before) ≡ Some e = ap (λ s. slice_get s (length after.before)) after.is ∙ at_seam after.before e after.rest in
      walk_to rest (after.before ++ e ∷ []) after.rest (after.is ∙ sym (append_assoc after.before (e ∷ []) after.rest)) after.left
      (subst (λ n. WalkTo g t entry n b) (sym (length_push after.before e)) (reading after.has (e, at, call_leads g e a b x q has fits)))

  pub walk_from : {w : ℕ} → Walk g entry (erase t) w → WalkTo g t entry (length t) w
  walk_from walk = walk_to walk [] t refl refl here

-- what is read of a first part of the trace is read of the trace
pub leads_whole : (g : Graph) (t : List Event) (n k u v : ℕ) → LeadsAt g (take n t) k u v → LeadsAt g t k u v
leads_whole g t n k u v (e, at, leads) = (e, (in_whole t n k e at).1, leads)

pub walk_whole : (g : Graph) (t : List Event) (n entry : ℕ) {k v : ℕ} → WalkTo g (take n t) entry k v → WalkTo g t entry k v
walk_whole g t n entry here = here
walk_whole g t n entry (quietly walk s) = quietly (walk_whole g t n entry walk) s
walk_whole g t n entry (reading {k = k} {u = u} {v = v} walk leads) = reading (walk_whole g t n entry walk) (leads_whole g t n k u v leads)
