-- What `instrument` makes of its file and why it refuses it never hold both, and it is refused with one status.
use Rattle.std.proofs.Common.{◌≡◌, ℕ, ◌<◌, ◌≤◌, List, [], length, Option, Some, None, inl, inr, subst, arith}
use Rattle.dm_base.specs.declared.mode.Mode.TheVariants.{Plain}
use Rattle.dm_base.specs.declared.verdict.Status.{Status}
use Rattle.dm_base.specs.declared.verdict.Status.TheVariants as statuses
use Rattle.dm_io.specs.Store.{Files, file_at}
use Rattle.c_lexer.proofs.OneTokenText.{one_reading}
use Rattle.c_lexer.specs.declared.token.Token.{Token}
use Rattle.c_rules.specs.Units.{IsTyped}
use Rattle.c_syntax.specs.Limits.{most_pairs}
use Rattle.c_syntax.specs.Statements.{ReadsItems}
use Rattle.c_syntax.specs.Tree.{Items}
use Rattle.c_tree.specs.Tree.{Program}
use Rattle.null_calls_laws.specs.InstrumentedTexts.{instrumented_text}
use Rattle.tool_steps.proofs.SourceLemmas.{one_unit, one_typing}
use Rattle.tool_instrument.specs.Instrument.{IsReading, Instruments, RefusesToInstrument, IsReadyToInstrument, longest}

-- a text is read as one unit and one program
same_unit : (text : List ℕ) (u v : Items) (p q : Program) → IsReading text u p → IsReading text v q → u ≡ v
same_unit text u v p q a b =
    one_unit most_pairs most_pairs u v b.tokens (subst (λ (ts : List Token). ReadsItems most_pairs u ts []) (one_reading text Plain a.tokens b.tokens a.lexed b.lexed) a.spelled.reads) b.spelled.reads

same_program : (text : List ℕ) (u v : Items) (p q : Program) → IsReading text u p → IsReading text v q → p ≡ q
same_program text u v p q a b = one_typing v Plain p q (subst (λ (w : Items). IsTyped w Plain p) (same_unit text u v p q a b) a.typed) b.typed

same_length : (text : List ℕ) (u v : Items) (p q : Program) → IsReading text u p → IsReading text v q → longest < length (instrumented_text q v) → longest < length (instrumented_text p u)
same_length text u v p q a b long =
    let units = same_unit text v u q p b a in
    let programs = same_program text v u q p b a in
    subst (λ (w : Program). longest < length (instrumented_text w u)) programs (subst (λ (w : Items). longest < length (instrumented_text q w)) units long)

short_or_refused : (told : Files) (name line : List ℕ) (status : Status) (u : Items) (p : Program) → IsReading (file_at told name) u p → length (instrumented_text p u) ≤ longest → RefusesToInstrument (Some told) name status line → ⊥
short_or_refused told name line status u p is short (inl refuses) = (refuses.4).1 p (record { tokens = is.tokens; unit = u; lexed = is.lexed; spelled = is.spelled; typed = is.typed })
short_or_refused told name line status u p is short (inr past) =
    let long : longest < length (instrumented_text p u) = same_length (file_at told name) u (past.2).0 p (past.2).1 is (past.2).2 (past.2).3 in
    omega (arith, short, long)

pub instrument_ready : (told : Option Files) (name line : List ℕ) (status : Status) → IsReadyToInstrument told name → RefusesToInstrument told name status line → ⊥
instrument_ready None name line status ready refuses = ready
instrument_ready (Some told) name line status ready refuses = short_or_refused told name line status ready.0 ready.1 ready.2 ready.3 refuses

pub instrumented_apart : (told : Files) (name text line : List ℕ) (status : Status) → Instruments told name text → RefusesToInstrument (Some told) name status line → ⊥
instrumented_apart told name text line status makes refuses =
    short_or_refused told name line status makes.0 makes.1 makes.2 (subst (λ (w : List ℕ). length w ≤ longest) (makes.3).is (makes.3).short) refuses

pub instrument_status : (told : Option Files) (name line : List ℕ) (status : Status) → RefusesToInstrument told name status line → status ≡ statuses.SourceRefused
instrument_status told name line status (inl refuses) = refuses.2
instrument_status told name line status (inr past) = past.0
