-- Runs of the pushdown automaton, event by event.
use Rattle.std.proofs.Common.{◌≡◌, ℕ, ℤ, ◌+◌, ◌≤◌, List, [], ◌∷◌, ◌++◌, length, take, Option, Some, slice_get, refl, sym, ◌∙◌, ap, subst, inl, inr, arith, append-nil}
use Rattle.std.proofs.lemmas.Bool.{cases_lt}
use Rattle.std.proofs.lemmas.List.{append_assoc, length_push}
use Rattle.dm_base.specs.declared.event.Event.{Event}
use Rattle.dm_base.specs.declared.event.Event.TheVariants.{Sys, Pre, Post}
use Rattle.dm_base.specs.Fits.{Fits}
use Rattle.dm_base.specs.Trace.{erase}
use Rattle.flow_model.specs.declared.which.Which.TheVariants.{Stack}
use Rattle.flow_model.specs.Graph.{Graph, HasSilent, HasSys, HasCall, HasFunction}
use Rattle.flow_model.specs.Language.{Inside, Calls, Enters, Leaves, Steps, StackRun, Reads}
use Rattle.flow_model.specs.Language.StackRun.{over, inside, calls, enters, leaves}
use Rattle.flow_model.specs.Language.Steps.{silent as s_silent, sys as s_sys, enter as s_enter, leave as s_leave}
use Rattle.certify_facts.specs.Reasons.{Leads, LeadsAt}
use Rattle.certify_facts.proofs.Places.{at_seam, erase-take_at, nulls, next}
use Rattle.certify_facts.proofs.Walking.{null_leads, call_leads, leads_whole}

-- From the configuration (a, y) after j events a run leads to another one after k events.
pub data RunTo (g : Graph) (t : List Event) (j a : ℕ) (y : List ℕ) : ℕ → ℕ → List ℕ → Type 0 where
  here : RunTo g t j a y j a y
  silently : {k u v : ℕ} {z : List ℕ} → RunTo g t j a y k u z → HasSilent g u v → RunTo g t j a y k v z
  entering : {k u s b f entry exit : ℕ} {z : List ℕ} → RunTo g t j a y k u z → HasCall g u s b f → HasFunction g f entry exit → RunTo g t j a y k entry (s ∷ z)
  leaving : {k c s b f entry exit : ℕ} {z : List ℕ} → RunTo g t j a y k exit (s ∷ z) → HasCall g c s b f → HasFunction g f entry exit → RunTo g t j a y k b z
  reading : {k u v : ℕ} {z : List ℕ} → RunTo g t j a y k u z → LeadsAt g t k u v → RunTo g t j a y (k + 1) v z

-- runs one after another
pub run_on : {g : Graph} {t : List Event} {i j a b : ℕ} {x y : List ℕ} {k c : ℕ} {z : List ℕ} → RunTo g t i a x j b y → RunTo g t j b y k c z → RunTo g t i a x k c z
run_on run here = run
run_on run (silently rest has) = silently (run_on run rest) has
run_on run (entering rest call at) = entering (run_on run rest) call at
run_on run (leaving rest call at) = leaving (run_on run rest) call at
run_on run (reading rest leads) = reading (run_on run rest) leads

run_quiet : {g : Graph} {a u v : ℕ} {x y z : List ℕ} {w : List Event} → StackRun g a x w u y → StackRun g u y [] v z → StackRun g a x w v z
run_quiet over more = more
run_quiet (inside s rest) more = inside s (run_quiet rest more)
run_quiet (calls s fits rest) more = calls s fits (run_quiet rest more)
run_quiet (enters s rest) more = enters s (run_quiet rest more)
run_quiet (leaves s rest) more = leaves s (run_quiet rest more)

run_call : {g : Graph} {a u v n : ℕ} {q : List (Option ℤ)} {x y : List ℕ} {w : List Event} (e : Event) → StackRun g a x w u y → HasSys g u n q v → Fits n q e → StackRun g a x (w ++ e ∷ []) v y
run_call e over has fits = calls (s_sys has) fits over
run_call e (inside s rest) has fits = inside s (run_call e rest has fits)
run_call e (calls s was rest) has fits = calls s was (run_call e rest has fits)
run_call e (enters s rest) has fits = enters s (run_call e rest has fits)
run_call e (leaves s rest) has fits = leaves s (run_call e rest has fits)

run_lead : {g : Graph} {a u v : ℕ} {x y : List ℕ} {w : List Event} (e : Event) → StackRun g a x w u y → Leads g e u v → StackRun g a x (w ++ erase (e ∷ [])) v y
run_lead (Sys n args o) run (x, p, has, fits) = run_call (Sys n args o) run has fits
run_lead {g} {a} {u} {v} {x} {y} {w} (Pre s) run same = subst (λ d. StackRun g a x d v y) (sym (append-nil w)) (subst (λ n. StackRun g a x w n y) same run)
run_lead {g} {a} {u} {v} {x} {y} {w} (Post s) run same = subst (λ d. StackRun g a x d v y) (sym (append-nil w)) (subst (λ n. StackRun g a x w n y) same run)

pub run_of : {g : Graph} {t : List Event} {entry k v : ℕ} {z : List ℕ} → RunTo g t 0 entry [] k v z → StackRun g entry [] (erase (take k t)) v z
run_of here = over
run_of (silently run has) = run_quiet (run_of run) (inside (s_silent has) over)
run_of (entering run call at) = run_quiet (run_of run) (enters (s_enter call at) over)
run_of (leaving run call at) = run_quiet (run_of run) (leaves (s_leave call at) over)
run_of {g} {t} {entry} (reading {k = k} {v = v} {z = z} run (e, at, leads)) =
    subst (λ w. StackRun g entry [] w v z) (sym (erase-take_at t k e at)) (run_lead e (run_of run) leads)

-- a run has been somewhere after each number of events
abbrev pub WasAt : Graph → List Event → ℕ → ℕ → Type 0
WasAt g t entry j = (u : ℕ) × (y : List ℕ) × RunTo g t 0 entry [] j u y

pub run_before : {g : Graph} {t : List Event} {entry k v : ℕ} {z : List ℕ} → RunTo g t 0 entry [] k v z → (j : ℕ) → j ≤ k → WasAt g t entry j
run_before {g} {t} {entry} here j le = (entry, [], subst (λ n. RunTo g t 0 entry [] n entry []) (let e : 0 ≡ j = omega arith in e) here)
run_before (silently run has) j le = run_before run j le
run_before (entering run call at) j le = run_before run j le
run_before (leaving run call at) j le = run_before run j le
run_before {g} {t} {entry} (reading {k = k} {v = v} {z = z} run leads) j le = elim (cases_lt j (k + 1)) as (λ _. WasAt g t entry j) [
  | inl lt ↦ run_before run j (omega arith)
  | inr ge ↦ (v, z, subst (λ n. RunTo g t 0 entry [] n v z) (let e : k + 1 ≡ j = omega arith in e) (reading run leads))
]

-- so the first part of the trace is in the language
pub reads_before : {g : Graph} {t : List Event} {entry exit k v : ℕ} {z : List ℕ} → HasFunction g g.start entry exit → RunTo g t 0 entry [] k v z → (j : ℕ) → j ≤ k → Reads Stack g (take j t)
reads_before {entry = entry} {exit = exit} start run j le = let (u, y, before) = run_before run j le in (entry, exit, u, y, start, run_of before)

-- A run that reads the whole trace, event by event.
module _ (g : Graph) (t : List Event) (entry : ℕ) where
  abbrev Here : ℕ → ℕ → List ℕ → Type 0
  Here k v z = RunTo g t 0 entry [] k v z

  run_null : (v : ℕ) (z : List ℕ) (k : ℕ) (e : Event) → slice_get t k ≡ Some e → erase (e ∷ []) ≡ [] → Here k v z → Here (k + 1) v z
  run_null v z k e at left run = reading run (e, at, null_leads g e v left)

  step_inside : {k a b : ℕ} {y z : List ℕ} → Steps g a y Inside b z → Here k a y → Here k b z
  step_inside (s_silent has) run = silently run has

  step_enters : {k a b s : ℕ} {y z : List ℕ} → Steps g a y (Enters s) b z → Here k a y → Here k b z
  step_enters (s_enter call at) run = entering run call at

  step_leaves : {k a b s : ℕ} {y z : List ℕ} → Steps g a y (Leaves s) b z → Here k a y → Here k b z
  step_leaves (s_leave call at) run = leaving run call at

  step_calls : {k a b x : ℕ} {p : List (Option ℤ)} {y z : List ℕ} (e : Event) → Steps g a y (Calls x p) b z → Fits x p e → slice_get t k ≡ Some e → Here k a y → Here (k + 1) b z
  step_calls e (s_sys {a = a} {x = x} {b = b} {p = p} has) fits at run = reading run (e, at, call_leads g e a b x p has fits)

  pub run_to : {a w : ℕ} {y z : List ℕ} {r : List Event} → StackRun g a y r w z → (p u : List Event) → t ≡ p ++ u → r ≡ erase u → Here (length p) a y → Here (length t) w z
  run_to (over {a = a} {z = z}) p u is same run = nulls t (λ k. Here k a z) (run_null a z) p u is same run
  run_to (inside s rest) p u is same run = run_to rest p u is same (step_inside s run)
  run_to (enters s rest) p u is same run = run_to rest p u is same (step_enters s run)
  run_to (leaves s rest) p u is same run = run_to rest p u is same (step_leaves s run)
  run_to (calls {a = a} {b = b} {y = y} {z = z} {e = e} {t = r} s fits rest) p u is same run =
      let after = next t (λ k. Here k a y) (run_null a y) p u e r is same run in
      let at : slice_get t (length after.before) ≡ Some e = ap (λ s. slice_get s (length after.before)) after.is ∙ at_seam after.before e after.rest in
      run_to rest (after.before ++ e ∷ []) after.rest (after.is ∙ sym (append_assoc after.before (e ∷ []) after.rest)) after.left
      (subst (λ n. Here n b z) (sym (length_push after.before e)) (step_calls e s fits at after.has))

  pub run_from : {w : ℕ} {z : List ℕ} → StackRun g entry [] (erase t) w z → Here (length t) w z
  run_from run = run_to run [] t refl refl here

pub run_whole : (g : Graph) (t : List Event) (n j a : ℕ) (y : List ℕ) {k v : ℕ} {z : List ℕ} → RunTo g (take n t) j a y k v z → RunTo g t j a y k v z
run_whole g t n j a y here = here
run_whole g t n j a y (silently run has) = silently (run_whole g t n j a y run) has
run_whole g t n j a y (entering run call at) = entering (run_whole g t n j a y run) call at
run_whole g t n j a y (leaving run call at) = leaving (run_whole g t n j a y run) call at
run_whole g t n j a y (reading {k = k} {u = u} {v = v} run leads) = reading (run_whole g t n j a y run) (leads_whole g t n k u v leads)
