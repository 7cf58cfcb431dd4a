-- Runs of the Dyck model: one after another, their last event, and the sites that are open after them.
use Rattle.std.proofs.Common.{◌≡◌, ℕ, ◌+◌, List, [], ◌∷◌, ◌++◌, length, ℤ, Option, refl, ap, subst, arith}
use Rattle.dm_base.specs.declared.event.Event.{Event}
use Rattle.dm_base.specs.declared.event.Event.TheVariants.{Sys, Pre, Post}
use Rattle.dm_base.specs.Fits.{Fits}
use Rattle.dm_base.specs.Trace.{opened, closed}
use Rattle.flow_model.specs.Graph.{Graph, HasSys}
use Rattle.flow_model.specs.Language.{Inside, Calls, Enters, Leaves, Steps, DyckRun}
use Rattle.flow_model.specs.Language.Steps.{silent, sys, enter, leave}
use Rattle.flow_model.specs.Language.DyckRun.{over, inside, calls, enters, leaves}
use Rattle.dyck_monitor.specs.Silence.{LeadsTo}
use Rattle.dyck_monitor.specs.Silence.LeadsTo.{here, on}

-- a run, and another one from where it ends
pub run-append : {g : Graph} {a b c : ℕ} {y z w : List ℕ} {t u : List Event} → DyckRun g a y t b z → DyckRun g b z u c w → DyckRun g a y (t ++ u) c w
run-append over more = more
run-append (inside s rest) more = inside s (run-append rest more)
run-append (calls s fits rest) more = calls s fits (run-append rest more)
run-append (enters s rest) more = enters s (run-append rest more)
run-append (leaves s rest) more = leaves s (run-append rest more)

-- one step reads the event
abbrev pub OneStep : Graph → ℕ → List ℕ → Event → ℕ → List ℕ → Type 0
OneStep g a y (Sys name arguments outcome) b z = (x : ℕ) × (p : List (Option ℤ)) × Steps g a y (Calls x p) b z × Fits x p (Sys name arguments outcome)
OneStep g a y (Pre s) b z = Steps g a y (Enters s) b z
OneStep g a y (Post s) b z = Steps g a y (Leaves s) b z

-- where a run reads its last event, and what it does before and after
pub record LastEvent (g : Graph) (a : ℕ) (y : List ℕ) (t : List Event) (e : Event) (c : ℕ) (w : List ℕ) : Type 0 where
  pub before : ℕ
  pub sites : List ℕ
  pub behind : ℕ
  pub first : DyckRun g a y t before sites
  pub one : OneStep g before sites e behind w
  pub rest : LeadsTo g behind c

-- a run that reads nothing goes along silent edges, and leaves the open sites as they are
pub run_from_leads : {g : Graph} {a c : ℕ} {z : List ℕ} → LeadsTo g a c → DyckRun g a z [] c z
run_from_leads here = over
run_from_leads (on has rest) = inside (silent has) (run_from_leads rest)

leads_inside : {g : Graph} {a b c : ℕ} {y z w : List ℕ} → Steps g a y Inside b z → (LeadsTo g b c × (z ≡ w)) → LeadsTo g a c × (y ≡ w)
leads_inside (silent has) (rest, same) = (on has rest, same)

pub leads_from_run : {g : Graph} {a c : ℕ} {y w : List ℕ} {t : List Event} → DyckRun g a y t c w → t ≡ [] → LeadsTo g a c × (y ≡ w)
leads_from_run over none = (here, refl)
leads_from_run (inside s rest) none = leads_inside s (leads_from_run rest none)
leads_from_run (calls s fits rest) none = absurd (cc)
leads_from_run (enters s rest) none = absurd (cc)
leads_from_run (leaves s rest) none = absurd (cc)

-- an event is read after a run
one_run : {g : Graph} {a b : ℕ} {y z : List ℕ} (e : Event) → OneStep g a y e b z → DyckRun g a y (e ∷ []) b z
one_run (Sys name arguments outcome) (x, p, s, fits) = calls s fits over
one_run (Pre s) step = enters step over
one_run (Post s) step = leaves step over

pub run_from_last : {g : Graph} {a c : ℕ} {y w : List ℕ} {t : List Event} {e : Event} → LastEvent g a y t e c w → DyckRun g a y (t ++ e ∷ []) c w
run_from_last {e = e} last = run-append last.first (run-append (one_run e last.one) (run_from_leads last.rest))

one_calls : {g : Graph} {a b x : ℕ} {p : List (Option ℤ)} {y z : List ℕ} (e : Event) → Steps g a y (Calls x p) b z → Fits x p e → OneStep g a y e b z
one_calls {x = x} {p = p} (Sys name arguments outcome) s fits = (x, p, s, fits)
one_calls (Pre site) s fits = absurd fits
one_calls (Post site) s fits = absurd fits

-- the run begins by a step
before_step : {g : Graph} {a b c : ℕ} {y z w : List ℕ} {t : List Event} {e : Event} (u : List Event) → DyckRun g a y u b z → LastEvent g b z t e c w → LastEvent g a y (u ++ t) e c w
before_step u step there = record {
  before = there.before;
  sites = there.sites;
  behind = there.behind;
  first = run-append step there.first;
  one = there.one;
  rest = there.rest;
}

-- the run begins by its last event
last_here : {g : Graph} {a b c : ℕ} {y z w : List ℕ} (d e : Event) (u : List Event) → OneStep g a y d b z → DyckRun g b z u c w → d ∷ u ≡ e ∷ [] → LastEvent g a y [] e c w
last_here {g} {a} {b} {c} {y} {z} {w} d e u step rest same =
    let event : d ≡ e = cc in
    let empty : u ≡ [] = cc in
    let on_from = leads_from_run rest empty in
    record {
      before = a;
      sites = y;
      behind = b;
      first = over;
      one = subst (λ v. OneStep g a y v b w) event (subst (OneStep g a y d b) on_from.1 step);
      rest = on_from.0;
    }

tail_same : (d e h : Event) (u t : List Event) → d ∷ u ≡ h ∷ (t ++ e ∷ []) → u ≡ t ++ e ∷ []
tail_same d e h u t same = cc

pub last_event : {g : Graph} {a c : ℕ} {y w : List ℕ} {v : List Event} → DyckRun g a y v c w → (t : List Event) (e : Event) → v ≡ t ++ e ∷ [] → LastEvent g a y t e c w
last_event over [] e same = absurd (cc)
last_event over (d ∷ t) e same = absurd (cc)
last_event (inside s rest) t e same = before_step [] (inside s over) (last_event rest t e same)
last_event (calls {e = d} {t = u} s fits rest) [] e same = last_here d e u (one_calls d s fits) rest same
last_event {g} {a} {c} {y} {w} (calls {e = d} {t = u} s fits rest) (h ∷ t) e same =
    let event : d ≡ h = cc in
    subst (λ v. LastEvent g a y (v ∷ t) e c w) event (before_step (d ∷ []) (calls s fits over) (last_event rest t e (tail_same d e h u t same)))
last_event (enters {s = s} {t = u} step rest) [] e same = last_here (Pre s) e u step rest same
last_event {g} {a} {c} {y} {w} (enters {s = s} {t = u} step rest) (h ∷ t) e same =
    let event : Pre s ≡ h = cc in
    subst (λ v. LastEvent g a y (v ∷ t) e c w) event (before_step (Pre s ∷ []) (enters step over) (last_event rest t e (tail_same (Pre s) e h u t same)))
last_event (leaves {s = s} {t = u} step rest) [] e same = last_here (Post s) e u step rest same
last_event {g} {a} {c} {y} {w} (leaves {s = s} {t = u} step rest) (h ∷ t) e same =
    let event : Post s ≡ h = cc in
    subst (λ v. LastEvent g a y (v ∷ t) e c w) event (before_step (Post s ∷ []) (leaves step over) (last_event rest t e (tail_same (Post s) e h u t same)))

-- what the steps do with the open sites
pub calls_same : {g : Graph} {a b x : ℕ} {p : List (Option ℤ)} {y z : List ℕ} → Steps g a y (Calls x p) b z → y ≡ z
calls_same (sys has) = refl

pub calls_edge : {g : Graph} {a b x : ℕ} {p : List (Option ℤ)} {y z : List ℕ} → Steps g a y (Calls x p) b z → HasSys g a x p b
calls_edge (sys has) = has

pub enters_site : {g : Graph} {a b s : ℕ} {y z : List ℕ} → Steps g a y (Enters s) b z → s ∷ y ≡ z
enters_site (enter call function) = refl

pub leaves_site : {g : Graph} {a b s : ℕ} {y z : List ℕ} → Steps g a y (Leaves s) b z → s ∷ z ≡ y
leaves_site (leave call function) = refl

inside_same : {g : Graph} {a b : ℕ} {y z : List ℕ} → Steps g a y Inside b z → y ≡ z
inside_same (silent has) = refl

called_opened : (x : ℕ) (p : List (Option ℤ)) (e : Event) (t : List Event) → Fits x p e → opened (e ∷ t) ≡ opened t
called_opened x p (Sys name arguments outcome) t fits = refl
called_opened x p (Pre site) t fits = absurd fits
called_opened x p (Post site) t fits = absurd fits

called_closed : (x : ℕ) (p : List (Option ℤ)) (e : Event) (t : List Event) → Fits x p e → closed (e ∷ t) ≡ closed t
called_closed x p (Sys name arguments outcome) t fits = refl
called_closed x p (Pre site) t fits = absurd fits
called_closed x p (Post site) t fits = absurd fits

-- as many sites are open as calls have begun and not returned
pub open_sites : {g : Graph} {a c : ℕ} {y w : List ℕ} {t : List Event} → DyckRun g a y t c w → length w + closed t ≡ opened t + length y
open_sites over = omega arith
open_sites (inside s rest) = omega (arith, open_sites rest, ap length (inside_same s))
open_sites (calls {x = x} {p = p} {e = e} {t = t} s fits rest) = omega (arith, open_sites rest, ap length (calls_same s), called_opened x p e t fits, called_closed x p e t fits)
open_sites (enters s rest) = omega (arith, open_sites rest, ap length (enters_site s))
open_sites (leaves s rest) = omega (arith, open_sites rest, ap length (leaves_site s))
