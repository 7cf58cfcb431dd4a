-- The events of a process's own history are recorded, and so is what a verdict on it tells.
use Rattle.std.proofs.Common.{Bor, ◌≡◌, ℕ, zero, suc, ◌+◌, ◌-◌, ◌<◌, ◌≤◌, true, false, nat_eq, List, [], ◌∷◌, ◌++◌, length, take, get_or, map, filter, reverse, Option, Some, None, slice_get, refl, sym, subst, inl, inr, arith}
use Rattle.std.specs.Prelude.{All, ◌⊎◌, IfSome, if◌then◌else◌}
use Rattle.std.specs.Option.{option_copied}
use Rattle.std.proofs.lemmas.List.{reverse-append}
use Rattle.std.proofs.lemmas.List.Elements.{All-nil, All-cons, All-head, All-tail, All-append, All-take, All-drop}
use Rattle.std.proofs.lemmas.Option.{slice_get_cases, slice_get_within, get_or_from_slice_get}
use Rattle.dm_base.specs.declared.event.Event.{Event}
use Rattle.dm_base.specs.declared.verdict.Verdict.{Verdict}
use Rattle.dm_base.specs.declared.verdict.Verdict.TheVariants.{Accepted, Rejected, Bound}
use Rattle.flow_model.specs.declared.which.Which.{Which}
use Rattle.flow_model.specs.Graph.{Graph}
use Rattle.flow_model.specs.Rules.{IsValid}
use Rattle.flow_model.specs.Verdict.{IsKept, IsVerdict}
use Rattle.flow_model.proofs.Verdicts.{kept-reads}
use Rattle.report.specs.VerdictLine.{IsGiven, event_at}
use Rattle.sys_table.specs.Table.{IsRecorded}
use Rattle.trace_file.specs.declared.record.Record.{Record}
use Rattle.trace_file.specs.declared.version.TracesVersion.{TracesVersion}
use Rattle.trace_file.specs.declared.version.TracesVersion.TheVariants.{One, Two}
use Rattle.watch.specs.Own.{own, own_forked, is_born}
use Rattle.watch.specs.Pasts.{refused_event, last_kept}
use Rattle.watch.proofs.NothingKept.{nothing_kept}

abbrev pub IsOfRecorded : Record → Type 0
IsOfRecorded r = IsRecorded r.event

reversed : (rs : List Record) → All IsOfRecorded rs → All IsOfRecorded (reverse rs)
reversed [] all = All-nil IsOfRecorded
reversed (r ∷ rs) all =
    subst (All IsOfRecorded) (sym (reverse-append (r ∷ []) rs))
    (All-append IsOfRecorded (reverse rs) (r ∷ []) (reversed rs (All-tail IsOfRecorded r rs all)) (All-cons IsOfRecorded r [] (All-head IsOfRecorded r rs all) (All-nil IsOfRecorded)))

pushed : (h : List Event) (e : Event) → All IsRecorded h → IsRecorded e → All IsRecorded (h ++ e ∷ [])
pushed h e all is = All-append IsRecorded h (e ∷ []) all (All-cons IsRecorded e [] is (All-nil IsRecorded))

forked_recorded : (older : List Record) (p : ℕ) → All IsOfRecorded older → All IsRecorded (own_forked p older)
unfolding own_forked
forked_recorded [] p all = All-nil IsRecorded
forked_recorded (r ∷ older) p all =
    let head = All-head IsOfRecorded r older all in
    let tail = All-tail IsOfRecorded r older all in
    elim (nat_eq r.pid p) as (λ b. All IsRecorded (if b then own_forked p older ++ r.event ∷ [] else (if is_born older r p then own_forked r.pid older ++ r.event ∷ [] else own_forked p older))) [
      | true ↦ pushed (own_forked p older) r.event (forked_recorded older p tail) head
      | false ↦ elim (is_born older r p) as (λ b. All IsRecorded (if b then own_forked r.pid older ++ r.event ∷ [] else own_forked p older)) [
        | true ↦ pushed (own_forked r.pid older) r.event (forked_recorded older r.pid tail) head
        | false ↦ forked_recorded older p tail
      ]
    ]

pub own_recorded : (version : TracesVersion) (records : List Record) (p : ℕ) → All IsOfRecorded records → All IsRecorded (own version p records)
own_recorded One [] p all = All-nil IsRecorded
own_recorded One (r ∷ records) p all =
    let head = All-head IsOfRecorded r records all in
    let tail = own_recorded One records p (All-tail IsOfRecorded r records all) in
    elim (nat_eq r.pid p) as (λ b. All IsRecorded (map (λ r. r.event) (if b then r ∷ filter (λ r. nat_eq r.pid p) records else filter (λ r. nat_eq r.pid p) records))) [
      | true ↦ All-cons IsRecorded r.event (map (λ r. r.event) (filter (λ r. nat_eq r.pid p) records)) head tail
      | false ↦ tail
    ]
own_recorded Two records p all = forked_recorded (reverse records) p (reversed records all)

-- a verdict that is not Accepted names an event of the history

-- what stands at a place of a list
some_there : {X : Type 0} (xs : List X) (i : ℕ) → i < length xs → (x : X) × (slice_get xs i ≡ Some x)
some_there {X} xs i less = by (slice_get_cases xs i).1
  where
    by : ((x : X) × (i < length xs) × (slice_get xs i ≡ Some x) × (get_or xs i x ≡ x)) ⊎ ((length xs ≤ i) × (slice_get xs i ≡ None)) → (x : X) × (slice_get xs i ≡ Some x)
    by (inl (x, within, is, same)) = (x, is)
    by (inr (past, none)) = absurd (omega (arith, less, past))

-- the empty history is kept
pub kept_nothing : (which : Which) (g : Graph) (bound : ℕ) → IsValid g → IsKept which g bound []
kept_nothing which g bound valid =
    let start = some_there g.functions g.start valid.functions.start in
    nothing_kept which g bound start.0.entry start.0.exit (record { one = start.0; has = start.1; begins = refl; ends = refl })

pub given_event : (which : Which) (g : Graph) (bound : ℕ) (h : List Event) (v : Verdict) → IsKept which g bound [] → IsVerdict which g bound h v → IsGiven v (event_at h v)
given_event which g bound h (Accepted n) nothing told = refl
given_event which g bound h (Rejected zero) nothing told = absurd (told.refused (kept-reads which g bound [] nothing))
given_event which g bound h (Rejected (suc k)) nothing told = let within = told.within in some_there h (suc k - 1) (omega (arith, within))
given_event which g bound h (Bound zero) nothing told = absurd (let deep : 0 ≡ bound + 1 = told.deep in omega (arith, deep))
given_event which g bound h (Bound (suc k)) nothing told = let within = told.within in some_there h (suc k - 1) (omega (arith, within))

pub refused_is : (h : List Event) (v : Verdict) → refused_event v h ≡ event_at h v
refused_is h (Accepted n) = refl
refused_is h (Rejected k) = refl
refused_is h (Bound k) = refl

at_recorded : (h : List Event) (i : ℕ) (e : Event) → All IsRecorded h → slice_get h i ≡ Some e → IsRecorded e
at_recorded h i e all here = subst IsRecorded (get_or_from_slice_get h i e e here) (all i e (slice_get_within h i e here))

pub event_recorded : (h : List Event) (v : Verdict) (e : Event) → All IsRecorded h → event_at h v ≡ Some e → IsRecorded e
event_recorded h (Accepted n) e all here = absurd (cc here)
event_recorded h (Rejected k) e all here = at_recorded h (k - 1) e all here
event_recorded h (Bound k) e all here = at_recorded h (k - 1) e all here

pub window_recorded : (h : List Event) (v : Verdict) → All IsRecorded h → All IsRecorded (last_kept v h)
window_recorded h (Accepted n) all = All-drop IsRecorded (length h - 8) h all
window_recorded h (Rejected k) all = All-drop IsRecorded (length (take (k - 1) h) - 8) (take (k - 1) h) (All-take IsRecorded (k - 1) h all)
window_recorded h (Bound k) all = All-drop IsRecorded (length (take (k - 1) h) - 8) (take (k - 1) h) (All-take IsRecorded (k - 1) h all)

-- the event that is told is recorded
pub told_recorded : (o : Option (Bor Event)) (h : List Event) (v : Verdict) → All IsRecorded h → option_copied o ≡ event_at h v → IfSome o (λ e. IsRecorded e.now)
told_recorded None h v all is = tt
told_recorded (Some b) h v all is = event_recorded h v b.now all (sym is)
