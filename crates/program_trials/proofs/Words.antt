-- The callgraph language of a small program: a list of events that is no word of it, though the program makes both calls.
use Rattle.std.proofs.Common.{◌≡◌, ◌≢◌, ◌⊎◌, ℕ, zero, suc, ℤ, pos, List, [], ◌∷◌, Option, Some, Contains, codes, inl, inr, refl, ap, sym, subst, ◌∙◌, arith}
use Rattle.std.specs.Prelude.{slice_get}
use Rattle.std.specs.Int.{int_wrap}
use Rattle.std.proofs.lemmas.Option.{same_Some}
use Rattle.dm_base.specs.declared.event.Event.{Event}
use Rattle.dm_base.specs.declared.event.Event.TheVariants.{Sys, Pre, Post}
use Rattle.dm_base.specs.declared.mode.Mode.TheVariants.{Plain}
use Rattle.dm_base.specs.Fits.{Fits}
use Rattle.sys_table.specs.Table.{table}
use Rattle.c_tree.specs.Functions.{sys_types}
use Rattle.c_tree.specs.Program.{IsProgram}
use Rattle.c_tree.proofs.TrialNames.{named}
use Rattle.c_rules.specs.Units.{IsTyped}
use Rattle.c_rules_laws.specs.Lexical.{IsUnitLexical}
use Rattle.c_rules_laws.specs.Programs.{calls_of_unit}
use Rattle.c_rules_laws.proofs.WholeUnits.{unit_program}
use Rattle.c_meaning.specs.ProgramLanguages.{Callgraph}
use Rattle.c_meaning.specs.ShapeOf.{shapes_of, names_of_functions}
use Rattle.flow_model.specs.declared.records.ModelFunction.{ModelFunction}
use Rattle.flow_model.specs.declared.records.SilentEdge.{SilentEdge}
use Rattle.flow_model.specs.declared.records.SysEdge.{SysEdge}
use Rattle.flow_model.specs.declared.which.Which.TheVariants as which
use Rattle.flow_model.specs.Call.{Call}
use Rattle.flow_model.specs.Graph.{Graph, HasSys, HasFunction}
use Rattle.flow_model.specs.Language.{Reads, Quiet, Walk}
use Rattle.flow_model.specs.Language.Quiet.{silent as q_silent, enter as q_enter, leave as q_leave}
use Rattle.flow_model.specs.Language.Walk.{over as w_over, quiet as w_quiet, calls as w_calls}
use Rattle.c_meaning.specs.Equal.{AreEqual}
use Rattle.c_meaning.specs.GraphOfProgram.{graph_of_program}
use Rattle.c_meaning.proofs.Edges.{first_or, none_of}
use Rattle.c_meaning.proofs.ProgramsClosed.{closed, many_names}
use Rattle.c_meaning.proofs.Runs.{callgraph}
use Rattle.program_trials.proofs.Runs.{program_of}
use Rattle.program_trials.proofs.Units.{two_callers_unit}

-- the program is well-typed
lexical : IsUnitLexical two_callers_unit
lexical = ((tt, tt), ((tt, tt), ((named 102 [] refl (omega arith) refl, ((tt, tt), tt)), ((named 109 (97 ∷ 105 ∷ 110 ∷ []) refl (omega arith) refl, ((tt, tt), ((tt, tt), ((tt, tt), (omega arith, tt))))), tt))))

typed : IsTyped two_callers_unit Plain (program_of two_callers_unit)
unfolding table sys_types int_wrap
typed = refl

is_program : IsProgram (program_of two_callers_unit) (calls_of_unit Plain two_callers_unit)
is_program = unit_program two_callers_unit Plain (program_of two_callers_unit) lexical typed

-- its graph
abbrev first : ModelFunction
first = record { name = codes "f"; entry = 0; exit = 1 }

abbrev start : ModelFunction
start = record { name = codes "main"; entry = 3; exit = 4 }

abbrev calls_first : Call
calls_first = record { from = 3; site = 1; to = 5; candidates = 0 ∷ [] }

abbrev calls_again : Call
calls_again = record { from = 6; site = 3; to = 7; candidates = 0 ∷ [] }

abbrev graph : Graph
graph = record {
  nodes = 8;
  start = 1;
  functions = first ∷ start ∷ [];
  silent = record { from = 2; to = 1 } ∷ record { from = 7; to = 4 } ∷ [];
  sys = record { from = 0; name = 14; to = 2; args = [] } ∷ record { from = 5; name = 16; to = 6; args = [] } ∷ [];
  calls = calls_first ∷ calls_again ∷ [];
}

graph_is : graph_of_program (program_of two_callers_unit) ≡ graph
unfolding table sys_types int_wrap
graph_is = refl

same_words : AreEqual (Callgraph (program_of two_callers_unit)) (Reads which.Callgraph (graph_of_program (program_of two_callers_unit)))
same_words =
    let p = program_of two_callers_unit in
    callgraph (names_of_functions p) (shapes_of p) (closed p (calls_of_unit Plain two_callers_unit) is_program) (many_names p)

-- where a step that reads nothing leads
data Goes (a b : ℕ) : Type 0 where
  leaves : a ≡ 1 → (b ≡ 5) ⊎ (b ≡ 7) → Goes a b
  goes_on : (a ≡ 2) ⊎ (a ≡ 7) → (b ≡ 1) ⊎ (b ≡ 4) → Goes a b
  enters : (a ≡ 3) ⊎ (a ≡ 6) → b ≡ 0 → Goes a b

only_first : (f : ℕ) → Contains {X = ℕ} (0 ∷ []) f → f ≡ 0
only_first f (zero, lt, is) = sym is
only_first f (suc k, lt, is) = absurd (omega (arith, lt))

-- both call edges lead from main into f
record IsCall (c : Call) (f : ℕ) : Type 0 where
  callee : f ≡ 0
  from : (c.from ≡ 3) ⊎ (c.from ≡ 6)
  to : (c.to ≡ 5) ⊎ (c.to ≡ 7)

called : (c : Call) → Contains graph.calls c → (f : ℕ) → Contains c.candidates f → IsCall c f
called c has =
    first_or (λ (c : Call). (f : ℕ) → Contains c.candidates f → IsCall c f) calls_first (calls_again ∷ []) c has (λ f k. record { callee = only_first f k; from = inl refl; to = inl refl })
    (λ later. first_or (λ (c : Call). (f : ℕ) → Contains c.candidates f → IsCall c f) calls_again [] c later (λ f k. record { callee = only_first f k; from = inr refl; to = inr refl }) (none_of (λ (c : Call). (f : ℕ) → Contains c.candidates f → IsCall c f) c))

begins_at : (f entry exit : ℕ) → HasFunction graph f entry exit → f ≡ 0 → (entry ≡ 0) × (exit ≡ 1)
begins_at f entry exit h z =
    let one : first ≡ h.one = same_Some first h.one (subst (λ f. slice_get graph.functions f ≡ Some h.one) z h.has) in
    (sym (ap (λ (m : ModelFunction). m.entry) one ∙ h.begins), sym (ap (λ (m : ModelFunction). m.exit) one ∙ h.ends))

goes : {a b : ℕ} → Quiet graph a b → Goes a b
goes (q_silent {a = a} {b = b} h) =
    first_or (λ (e : SilentEdge). Goes e.from e.to) (record { from = 2; to = 1 }) (record { from = 7; to = 4 } ∷ []) (record { from = a; to = b }) h (goes_on (inl refl) (inl refl))
    (λ later. first_or (λ (e : SilentEdge). Goes e.from e.to) (record { from = 7; to = 4 }) [] (record { from = a; to = b }) later (goes_on (inr refl) (inr refl)) (none_of (λ (e : SilentEdge). Goes e.from e.to) (record { from = a; to = b })))
goes (q_enter {a = a} {f = f} {entry = entry} {exit = exit} h k) =
    let is = called h.call h.has f h.candidate in
    enters (subst (λ a. (a ≡ 3) ⊎ (a ≡ 6)) h.from is.from) (begins_at f entry exit k is.callee).0
goes (q_leave {b = b} {f = f} {entry = entry} {exit = exit} h k) =
    let is = called h.call h.has f h.candidate in
    leaves (begins_at f entry exit k is.callee).1 (subst (λ b. (b ≡ 5) ⊎ (b ≡ 7)) h.to is.to)

-- getpid is read from 0 to 2 alone, and getuid from 5 to 6
abbrev IsRead : ℕ → ℕ → ℕ → Type 0
IsRead a x b = ((a ≡ 0) × (x ≡ 14) × (b ≡ 2)) ⊎ ((a ≡ 5) × (x ≡ 16) × (b ≡ 6))

reads : (a x b : ℕ) (p : List (Option ℤ)) → HasSys graph a x p b → IsRead a x b
reads a x b p h =
    first_or (λ (e : SysEdge). IsRead e.from e.name e.to) (record { from = 0; name = 14; to = 2; args = [] }) (record { from = 5; name = 16; to = 6; args = [] } ∷ []) (record { from = a; name = x; to = b; args = p }) h (inl (refl, refl, refl))
    (λ later. first_or (λ (e : SysEdge). IsRead e.from e.name e.to) (record { from = 5; name = 16; to = 6; args = [] }) [] (record { from = a; name = x; to = b; args = p }) later (inr (refl, refl, refl)) (none_of (λ (e : SysEdge). IsRead e.from e.name e.to) (record { from = a; name = x; to = b; args = p })))

-- the list begins with getpid
abbrev Begins : List Event → Type 0
Begins [] = ⊥
Begins (Sys x arguments outcome ∷ t) = x ≡ 14
Begins (Pre s ∷ t) = ⊥
Begins (Post s ∷ t) = ⊥

-- and with two of them
abbrev BeginsTwice : List Event → Type 0
BeginsTwice [] = ⊥
BeginsTwice (e ∷ t) = Begins (e ∷ t) × Begins t

-- a node that is reached behind the first getpid
abbrev IsBehind : ℕ → Type 0
IsBehind a = (a ≢ 0) × (a ≢ 3) × (a ≢ 6)

stays_behind : (a b : ℕ) → Goes a b → IsBehind a → IsBehind b
stays_behind a b (leaves i (inl j)) n = (λ e. omega (arith, j, e), λ e. omega (arith, j, e), λ e. omega (arith, j, e))
stays_behind a b (leaves i (inr j)) n = (λ e. omega (arith, j, e), λ e. omega (arith, j, e), λ e. omega (arith, j, e))
stays_behind a b (goes_on i (inl j)) n = (λ e. omega (arith, j, e), λ e. omega (arith, j, e), λ e. omega (arith, j, e))
stays_behind a b (goes_on i (inr j)) n = (λ e. omega (arith, j, e), λ e. omega (arith, j, e), λ e. omega (arith, j, e))
stays_behind a b (enters (inl i) j) n = absurd (n.1 i)
stays_behind a b (enters (inr i) j) n = absurd (n.2 i)

no_getpid : (a x b : ℕ) (p : List (Option ℤ)) (e : Event) (t : List Event) → IsRead a x b → IsBehind a → Fits x p e → Begins (e ∷ t) → ⊥
no_getpid a x b p e t (inl i) n fits begins = n.0 i.0
no_getpid a x b p (Sys y arguments outcome) t (inr i) n fits begins = omega (arith, fits.0, i.1, begins)
no_getpid a x b p (Pre s) t (inr i) n fits begins = begins
no_getpid a x b p (Post s) t (inr i) n fits begins = begins

behind : {a c : ℕ} {t : List Event} → Walk graph a t c → IsBehind a → Begins t → ⊥
behind w_over n begins = begins
behind (w_quiet {a = a} {b = b} q w) n begins = behind w (stays_behind a b (goes q) n) begins
behind (w_calls {a = a} {b = b} {x = x} {p = p} {e = e} {t = t} h fits w) n begins = no_getpid a x b p e t (reads a x b p h) n fits begins

-- a node before the first event
abbrev IsBefore : ℕ → Type 0
IsBefore a = (a ≡ 0) ⊎ (a ≡ 3)

stays_before : (a b : ℕ) → Goes a b → IsBefore a → IsBefore b
stays_before a b (leaves i j) (inl k) = absurd (omega (arith, i, k))
stays_before a b (leaves i j) (inr k) = absurd (omega (arith, i, k))
stays_before a b (goes_on (inl i) j) (inl k) = absurd (omega (arith, i, k))
stays_before a b (goes_on (inl i) j) (inr k) = absurd (omega (arith, i, k))
stays_before a b (goes_on (inr i) j) (inl k) = absurd (omega (arith, i, k))
stays_before a b (goes_on (inr i) j) (inr k) = absurd (omega (arith, i, k))
stays_before a b (enters i j) k = inl j

comes_behind : (a x b : ℕ) → IsRead a x b → IsBefore a → IsBehind b
comes_behind a x b (inl i) k = (λ e. omega (arith, i.2, e), λ e. omega (arith, i.2, e), λ e. omega (arith, i.2, e))
comes_behind a x b (inr i) (inl k) = absurd (omega (arith, i.0, k))
comes_behind a x b (inr i) (inr k) = absurd (omega (arith, i.0, k))

before : {a c : ℕ} {t : List Event} → Walk graph a t c → IsBefore a → BeginsTwice t → ⊥
before w_over k begins = begins
before (w_quiet {a = a} {b = b} q w) k begins = before w (stays_before a b (goes q) k) begins
before (w_calls {a = a} {b = b} {x = x} {p = p} h fits w) k begins = behind w (comes_behind a x b (reads a x b p h) k) begins.1

abbrev getpids : List Event
getpids = Sys 14 [] (pos 100) ∷ Sys 14 [] (pos 101) ∷ []

-- f is called again only behind getuid, whichever of its calls it returns to
two_getpids : Callgraph (program_of two_callers_unit) getpids → ⊥
two_getpids h =
    let (entry, exit, a, begins, walk) = subst (λ g. Reads which.Callgraph g getpids) graph_is (same_words.into getpids h) in
    let one : start ≡ begins.one = same_Some start begins.one begins.has in
    before walk (inr (sym (ap (λ (m : ModelFunction). m.entry) one ∙ begins.begins))) (refl, refl)
