-- What a monitor of the Dyck model keeps, one event further.
use Rattle.std.proofs.Common.{◌≡◌, ◌↔◌, ℕ, ◌+◌, ◌≤◌, List, [], ◌∷◌, ◌++◌, length, Contains, refl, sym, ap, subst, arith}
use Rattle.dm_base.specs.declared.event.Event.{Event}
use Rattle.dm_base.specs.declared.event.Event.TheVariants.{Sys, Pre, Post}
use Rattle.dm_base.specs.Trace.{opened, closed, depth}
use Rattle.flow_model.specs.declared.which.Which.TheVariants.{Dyck}
use Rattle.flow_model.specs.Graph.{Graph, HasFunction}
use Rattle.flow_model.specs.Language.{Calls, Enters, Leaves, Steps, DyckRun, Reads}
use Rattle.flow_model.specs.Language.Steps.{sys, enter, leave}
use Rattle.flow_model.specs.Verdict.{IsAccepted}
use Rattle.flow_model.proofs.Histories.{accepted_whole}
use Rattle.flow_model.proofs.Walks.{same_entry}
use Rattle.dyck_monitor.specs.Moves.{IsEntered, IsReturned, IsAhead, IsAfter}
use Rattle.dyck_monitor.specs.Silence.{LeadsTo}
use Rattle.dyck_monitor.specs.Silence.LeadsTo.{here}
use Rattle.dyck_monitor.specs.Sites.{SitesGoOn}
use Rattle.dyck_monitor.specs.Standing.{IsReached, HoldsRuns}
use Rattle.dyck_monitor.proofs.Depths.{depth-same, depth-few, depth-many, depth-open}
use Rattle.dyck_monitor.proofs.DyckRuns.{OneStep, last_event, run_from_last, run_from_leads, leads_from_run, calls_edge, calls_same, open_sites}

same_sites : (e : Event) (y z w : List ℕ) → SitesGoOn e y z → SitesGoOn e y w → z ≡ w
same_sites (Sys name arguments outcome) y z w one other = cc
same_sites (Pre s) y z w one other = cc
same_sites (Post s) y z w one other = cc

module _ (g : Graph) (Is : ℕ → Type 0) where
  entered : {a b s : ℕ} {y z : List ℕ} → Steps g a y (Enters s) b z → Is a → IsEntered g Is s b × (s ∷ y ≡ z)
  entered {a = a} (enter {b = to} {f = function} {exit = exit} call has) is = (record { from = a; to = to; function = function; exit = exit; call = call; enters = has; leaves = is }, refl)

  returned : {a b s : ℕ} {y z : List ℕ} → Steps g a y (Leaves s) b z → Is a → IsReturned g Is s b × (s ∷ z ≡ y)
  returned {a = a} (leave {a = from} {f = function} {entry = entry} call has) is = (record { from = from; function = function; entry = entry; exit = a; call = call; ends = has; leaves = is }, refl)

  -- what one step does
  ahead_from_step : (a b : ℕ) (y z : List ℕ) (e : Event) → OneStep g a y e b z → Is a → IsAhead g Is e b × SitesGoOn e y z
  ahead_from_step a b y z (Sys name arguments outcome) (x, p, step, fits) is =
      (record { edge = record { from = a; name = x; to = b; args = p }; has = calls_edge step; from = is; fits = fits; to = refl }, calls_same step)
  ahead_from_step a b y z (Pre s) step is = entered step is
  ahead_from_step a b y z (Post s) step is = returned step is

  step_from_ahead : (b : ℕ) (y z : List ℕ) (e : Event) → IsAhead g Is e b → SitesGoOn e y z → (a : ℕ) × Is a × OneStep g a y e b z
  step_from_ahead b y z (Sys name arguments outcome) ahead goes =
      let edge = ahead.edge in
      let has = subst (λ n. Contains g.sys (record { from = edge.from; name = edge.name; to = n; args = edge.args })) ahead.to ahead.has in
      (edge.from, ahead.from, (edge.name, edge.args, subst (λ w. Steps g edge.from y (Calls edge.name edge.args) b w) goes (sys has), ahead.fits))
  step_from_ahead b y z (Pre s) ahead goes = (ahead.from, ahead.leaves, subst (λ w. Steps g ahead.from y (Enters s) b w) goes (enter ahead.call ahead.enters))
  step_from_ahead b y z (Post s) ahead goes = (ahead.exit, ahead.leaves, subst (λ w. Steps g ahead.exit w (Leaves s) b z) goes (leave ahead.call ahead.ends))

-- One event more, where the nodes and the open sites are those of the runs before it.
module _ (g : Graph) (Is : ℕ → Type 0) (sites : List ℕ) (h : List Event) (e : Event) (holds : HoldsRuns g Is sites h) where
  -- a run that reads the event too
  ahead_of_run : {v : ℕ} {z : List ℕ} → IsReached g (h ++ e ∷ []) v z → IsAfter g Is e v × SitesGoOn e sites z
  ahead_of_run {v} {z} (entry, exit, start, run) =
      let last = last_event run h e refl in
      let there = (holds last.before last.sites).0 (entry, exit, start, last.first) in
      let ahead = ahead_from_step g Is last.before last.behind last.sites z e last.one there.0 in
      (record { first = last.behind; ahead = ahead.0; rest = last.rest }, subst (λ y. SitesGoOn e y z) there.1 ahead.1)

  run_of_ahead : {v : ℕ} {z : List ℕ} → IsAfter g Is e v → SitesGoOn e sites z → IsReached g (h ++ e ∷ []) v z
  run_of_ahead {v} {z} after goes =
      let (a, is, step) = step_from_ahead g Is after.first sites z e after.ahead goes in
      let (entry, exit, start, run) = (holds a sites).1 (is, refl) in
      (entry, exit, start, run_from_last (record { before = a; sites = sites; behind = after.first; first = run; one = step; rest = after.rest }))

  pub holds_more : (New : ℕ → Type 0) (new : List ℕ) → ((c : ℕ) → New c ↔ IsAfter g Is e c) → SitesGoOn e sites new → HoldsRuns g New new (h ++ e ∷ [])
  holds_more New new after goes v z = (
    λ reached. let there = ahead_of_run reached in ((after v).1 there.0, same_sites e sites z new there.1 goes),
    λ (is, same). run_of_ahead ((after v).0 is) (subst (SitesGoOn e sites) (sym same) goes),
  )

  -- without a node ahead no run reads the event
  pub refused_without_ahead : ((b : ℕ) → IsAhead g Is e b → ⊥) → Reads Dyck g (h ++ e ∷ []) → ⊥
  refused_without_ahead none (entry, exit, v, z, start, run) = let there = (ahead_of_run (entry, exit, start, run)).0 in none there.first there.ahead

  -- nor where the open sites can't go on
  pub refused_by_sites : ((z : List ℕ) → SitesGoOn e sites z → ⊥) → Reads Dyck g (h ++ e ∷ []) → ⊥
  refused_by_sites none (entry, exit, v, z, start, run) = none z (ahead_of_run (entry, exit, start, run)).1

  pub reads_by_ahead : (b : ℕ) (z : List ℕ) → IsAhead g Is e b → SitesGoOn e sites z → Reads Dyck g (h ++ e ∷ [])
  reads_by_ahead b z ahead goes =
      let (entry, exit, start, run) = run_of_ahead {v = b} {z = z} (record { first = b; ahead = ahead; rest = here }) goes in
      (entry, exit, b, z, start, run)

-- before the first event: silent edges lead from the start function's entry
pub holds_nothing : (g : Graph) (New : ℕ → Type 0) (entry exit : ℕ) → HasFunction g g.start entry exit → ((c : ℕ) → New c ↔ LeadsTo g entry c) → HoldsRuns g New [] []
holds_nothing g New entry exit start leads v z = (
  λ (first, last, has, run). let there = leads_from_run run refl in ((leads v).1 (subst (λ n. LeadsTo g n v) (same_entry has start) there.0), sym there.1),
  λ (is, same). (entry, exit, start, subst (λ w. DyckRun g entry [] [] v w) (sym same) (run_from_leads ((leads v).0 is))),
)

-- An accepted history, and as many open sites as it leaves.
module _ (g : Graph) (bound : ℕ) (Is : ℕ → Type 0) (sites : List ℕ) (h : List Event) (holds : HoldsRuns g Is sites h) (accepted : IsAccepted Dyck g bound h) where
  few_deep : depth h ≤ bound
  few_deep = (accepted_whole Dyck g bound h accepted).1

  open_now : length sites + closed h ≡ opened h
  open_now =
      let (entry, exit, v, z, start, run) = (accepted_whole Dyck g bound h accepted).0 in
      let same : z ≡ sites = ((holds v z).0 (entry, exit, start, run)).1 in
      omega (arith, open_sites run, ap length same)

  pub sites_few : length sites ≤ bound
  sites_few = omega (arith, open_now, depth-open h, few_deep)

  -- the event opens no call too many
  pub within_more : (e : Event) (new : List ℕ) → SitesGoOn e sites new → length new ≤ bound → depth (h ++ e ∷ []) ≤ bound
  within_more (Sys name arguments outcome) new goes few = omega (arith, depth-same h (Sys name arguments outcome) refl, few_deep)
  within_more (Pre s) new goes few = depth-few h s bound few_deep (omega (arith, open_now, ap length goes))
  within_more (Post s) new goes few = omega (arith, depth-same h (Post s) refl, few_deep)

  -- with the most calls open the next one is too many
  pub deep_more : (s : ℕ) → bound ≤ length sites → depth (h ++ Pre s ∷ []) ≡ bound + 1
  deep_more s full =
      let most : depth (h ++ Pre s ∷ []) ≤ bound + 1 = depth-few h s (bound + 1) (omega (arith, few_deep)) (omega (arith, open_now, sites_few)) in
      omega (arith, most, depth-many h s, open_now)
