-- An edge that leaves a node where a reading may end reads one event more, and where one event more is read, it is read along such an edge.
use Rattle.std.proofs.Common.{◌≡◌, ◌-◌, ℕ, ◌+◌, ◌<◌, ℤ, List, [], ◌∷◌, ◌++◌, take, Option, Some, Contains, slice_get, refl, sym, ◌∙◌, ap, subst, arith, inl, inr}
use Rattle.std.specs.Prelude.{◌↔◌}
use Rattle.std.proofs.lemmas.Bool.{cases_lt}
use Rattle.std.proofs.lemmas.List.Elements.{All-contains}
use Rattle.std.proofs.lemmas.Option.{slice_get_within, get_or_from_slice_get}
use Rattle.dm_base.specs.declared.event.Arg.{Arg}
use Rattle.dm_base.specs.declared.event.Event.{Event}
use Rattle.dm_base.specs.declared.event.Event.TheVariants.{Sys, Pre, Post}
use Rattle.dm_base.specs.Fits.{Fits}
use Rattle.dm_base.specs.Trace.{erase, depth}
use Rattle.flow_model.specs.declared.which.Which.{Which}
use Rattle.flow_model.specs.declared.which.Which.TheVariants.{Callgraph, Stack, Dyck}
use Rattle.flow_model.specs.Graph.{Graph, HasSys}
use Rattle.flow_model.specs.Language.{StackRun, Walk, Reads}
use Rattle.flow_model.specs.Language.Steps.{sys}
use Rattle.flow_model.specs.Language.{StackRun as stack, DyckRun as dyck, Walk as walk}
use Rattle.flow_model.specs.Rules.{IsValid}
use Rattle.flow_model.specs.Verdict.{IsAccepted, IsKept, IsRejectedAt}
use Rattle.flow_model.proofs.Histories.{take_next, accepted_more, accepted_whole}
use Rattle.flow_model.proofs.Walks.{last_call as last_of_walk, walk-append}
use Rattle.stack_automaton.proofs.EventLemmas.{last_call as last_of_stack, run_call}
use Rattle.dyck_monitor.proofs.DyckRuns.{last_event, run-append, calls_edge}
use Rattle.sys_table.specs.Table.{IsRight}
use Rattle.report.specs.Precision.{IsCall, MayComeNext}
use Rattle.expected_events.specs.declared.called.Called.{Called}
use Rattle.expected_events.specs.Kept.{IsKeptNext}
use Rattle.expected_events.specs.Next.{Next, IsNext, MayCall, MayStand}
use Rattle.expected_events.proofs.EventsLemmas.{some_event}
use Rattle.report.proofs.LastCalls.{fit_erased, call_erased}

-- an event has one name
call_name : (x name : ℕ) (p : List (Option ℤ)) (e : Event) → IsCall x e → Fits name p e → name ≡ x
call_name x name p (Sys called arguments outcome) call fits = sym fits.0 ∙ call.0
call_name x name p (Pre site) call fits = absurd call
call_name x name p (Post site) call fits = absurd call

depth_fits : (h : List Event) (x : ℕ) (p : List (Option ℤ)) (e : Event) → Fits x p e → depth (h ++ e ∷ []) ≡ depth h
depth_fits [] x p (Sys called arguments outcome) fits = refl
depth_fits [] x p (Pre site) fits = absurd fits
depth_fits [] x p (Post site) fits = absurd fits
depth_fits (Sys called arguments outcome ∷ h) x p e fits = depth_fits h x p e fits
depth_fits (Pre site ∷ h) x p e fits = ap (λ n. n + 1) (depth_fits h x p e fits)
depth_fits (Post site ∷ h) x p e fits = ap (λ n. n - 1) (depth_fits h x p e fits)

-- the event is read after the trace
pub read_on : (which : Which) (g : Graph) (t : List Event) (x a b : ℕ) (p : List (Option ℤ)) (e : Event) → MayStand which g t a → HasSys g a x p b → Fits x p e → Reads which g (t ++ e ∷ [])
read_on Callgraph g t x a b p e (entry, exit, start, run) edge fits =
    (entry, exit, b, start, subst (λ w. Walk g entry w b) (sym (fit_erased t x p e fits)) (walk-append run (walk.calls edge fits walk.over)))
read_on Stack g t x a b p e (z, (entry, exit, start, run)) edge fits =
    (entry, exit, b, z, start, subst (λ w. StackRun g entry [] w b z) (sym (fit_erased t x p e fits)) (run_call e run (sys edge) fits stack.over))
read_on Dyck g t x a b p e (z, (entry, exit, start, run)) edge fits = (entry, exit, b, z, start, run-append run (dyck.calls (sys edge) fits dyck.over))

-- an edge of this name is the last that a reading goes along
pub read_back : (which : Which) (g : Graph) (t : List Event) (x : ℕ) (e : Event) → IsCall x e → Reads which g (t ++ e ∷ []) → (p : List (Option ℤ)) × MayCall which g t x p
read_back Callgraph g t x e call (entry, exit, c, start, run) =
    let last = last_of_walk (subst (λ w. Walk g entry w c) (call_erased t x e call) run) (erase t) e refl in
    let named : last.name ≡ x = call_name x last.name last.pattern e call last.fits in
    (last.pattern, (last.before, last.behind, (entry, exit, start, last.first), subst (λ n. HasSys g last.before n last.pattern last.behind) named last.edge))
read_back Stack g t x e call (entry, exit, c, z, start, run) =
    let last = last_of_stack (subst (λ w. StackRun g entry [] w c z) (call_erased t x e call) run) (erase t) e refl in
    let named : last.name ≡ x = call_name x last.name last.pattern e call last.fits in
    (last.pattern, (last.before, last.behind, (last.stack, (entry, exit, start, last.begin)), subst (λ n. HasSys g last.before n last.pattern last.behind) named last.call))
read_back Dyck g t x (Sys name arguments outcome) call (entry, exit, c, z, start, run) =
    let last = last_event run t (Sys name arguments outcome) refl in
    let step = last.one in
    let named : step.0 ≡ x = call_name x step.0 step.1 (Sys name arguments outcome) call step.3 in
    (step.1, (last.before, last.behind, (last.sites, (entry, exit, start, last.first)), subst (λ n. HasSys g last.before n step.1 last.behind) named (calls_edge step.2)))
read_back Dyck g t x (Pre site) call read = absurd call
read_back Dyck g t x (Post site) call read = absurd call

-- what is read is kept, since no more calls are open
kept_on : (which : Which) (g : Graph) (bound : ℕ) (t : List Event) (x : ℕ) (p : List (Option ℤ)) (e : Event) → Fits x p e → IsKept which g bound t → Reads which g (t ++ e ∷ []) → IsKept which g bound (t ++ e ∷ [])
kept_on Callgraph g bound t x p e fits kept read = read
kept_on Stack g bound t x p e fits kept read = read
kept_on Dyck g bound t x p e fits kept read = (read, omega (arith, kept.1, depth_fits t x p e fits))

-- the pattern of an edge of a valid model is fitted by an event such as a trace records
module _ (g : Graph) (valid : IsValid g) where
  edge_event : (a b x : ℕ) (p : List (Option ℤ)) → HasSys g a x p b → (e : Event) × IsCall x e × Fits x p e
  edge_event a b x p edge = some_event x p (All-contains (λ e. IsRight e.name e.args) g.sys (record { from = a; name = x; to = b; args = p }) valid.patterns edge)

  pub kept_of_call : (which : Which) (bound : ℕ) (t : List Event) (x : ℕ) (p : List (Option ℤ)) → IsAccepted which g bound t → MayCall which g t x p → IsKeptNext which g bound t x p
  kept_of_call which bound t x p accepted (a, b, stands, edge) =
      let event = edge_event a b x p edge in
      let read = read_on which g t x a b p event.0 stands edge event.2 in
      record {
        event = event.0;
        call = event.1;
        fits = event.2;
        from = a;
        to = b;
        stands = stands;
        edge = edge;
        accepted = accepted_more which g bound t event.0 accepted (kept_on which g bound t x p event.0 event.2 (accepted_whole which g bound t accepted) read);
      }

  pub comes_of_call : (which : Which) (t : List Event) (x : ℕ) (p : List (Option ℤ)) → MayCall which g t x p → MayComeNext which g t x
  comes_of_call which t x p (a, b, stands, edge) =
      let event = edge_event a b x p edge in
      (event.0, event.1, read_on which g t x a b p event.0 stands edge event.2)

pub calls_are_kept : (which : Which) (g : Graph) (bound : ℕ) (t : List Event) (n : Next) → IsValid g → IsAccepted which g bound t → IsNext which g t n → (c : Called) → Contains n.calls c ↔ IsKeptNext which g bound t c.name c.args
calls_are_kept which g bound t n valid accepted next c = (
  (λ has. kept_of_call g valid which bound t c.name c.args accepted ((next.calls c).0 has)),
  (λ kept. (next.calls c).1 (kept.from, kept.to, kept.stands, kept.edge)),
)

pub names_come : (which : Which) (g : Graph) (t : List Event) (n : Next) → IsValid g → IsNext which g t n → (x : ℕ) → MayComeNext which g t x ↔ ((p : List (Option ℤ)) × Contains n.calls (record { name = x; args = p }))
names_come which g t n valid next x = (
  (λ may. let back = read_back which g t x may.0 may.1 may.2 in (back.0, (next.calls (record { name = x; args = back.0 })).1 back.1)),
  (λ has. comes_of_call g valid which t x has.0 ((next.calls (record { name = x; args = has.0 })).0 has.1)),
)

-- before the first event the empty trace is read, where a reading may end somewhere
stands_reads : (which : Which) (g : Graph) (t : List Event) (a : ℕ) → MayStand which g t a → Reads which g t
stands_reads Callgraph g t a (entry, exit, start, run) = (entry, exit, a, start, run)
stands_reads Stack g t a (z, (entry, exit, start, run)) = (entry, exit, a, z, start, run)
stands_reads Dyck g t a (z, (entry, exit, start, run)) = (entry, exit, a, z, start, run)

-- the events before the k-th, and it
before_and_it : (t : List Event) (k : ℕ) (e : Event) → 0 < k → slice_get t (k - 1) ≡ Some e → take (k - 1) t ++ e ∷ [] ≡ take k t
before_and_it t k e some there =
    let last : k - 1 + 1 ≡ k = omega (arith, some) in
    take_next t (k - 1) e (slice_get_within t (k - 1) e there) (sym (get_or_from_slice_get t (k - 1) e e there)) ∙ ap (λ n. take n t) last

pub none_fits_rejected : (which : Which) (g : Graph) (bound k name : ℕ) (arguments : List Arg) (outcome : ℤ) (t : List Event) (n : Next) → IsRejectedAt which g bound t k → slice_get t (k - 1) ≡ Some (Sys name arguments outcome) → IsNext which g (take (k - 1) t) n → (c : Called) → Contains n.calls c → Fits c.name c.args (Sys name arguments outcome) → ⊥
none_fits_rejected which g bound k name arguments outcome t n rejected there next c has fits =
    let e : Event = Sys name arguments outcome in
    let may = (next.calls c).0 has in
    elim (cases_lt 0 k) [
      | inl some ↦
          let read = read_on which g (take (k - 1) t) c.name may.0 may.1 c.args e may.2 may.3 fits in
          rejected.refused (subst (Reads which g) (before_and_it t k e some there) read)
      | inr nothing ↦
          let same : k - 1 ≡ k = omega (arith, nothing) in
          rejected.refused (subst (λ m. Reads which g (take m t)) same (stands_reads which g (take (k - 1) t) may.0 may.2))
    ]
