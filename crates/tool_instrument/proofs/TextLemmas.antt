-- What the command makes of a source that was read.
use Rattle.std.proofs.Common.{◌≡◌, ℕ, ◌<◌, List, length, Option, Some, None, IfSome, inr, refl, subst}
use Rattle.dm_base.specs.declared.mode.Mode.TheVariants.{Plain}
use Rattle.dm_io.specs.Store.{Files, file_at, IsMissing}
use Rattle.c_syntax.specs.Text.{unit_text}
use Rattle.c_syntax.specs.Tree.{Items}
use Rattle.c_syntax.specs.UnitView.{items_of}
use Rattle.c_tree.specs.Tree.{Program}
use Rattle.c_tree.specs.View.{program_of}
use Rattle.null_calls_laws.specs.Instrumented.{instrumented_unit}
use Rattle.tool_steps.specs.declared.source.Source.{Source}
use Rattle.tool_steps.specs.Sources.{IsSourceOf}
use Rattle.tool_frame.specs.declared.stop.Stop.{Stop}
use Rattle.tool_frame.specs.declared.stop.Stop.TheVariants as stops
use Rattle.tool_frame.specs.Stop.{Stops}
use Rattle.tool_instrument.specs.Instrument.{IsReading, IsInstrumentedText, Instruments, IsTooLong, RefusesToInstrument, too_long, longest}
use Rattle.tool_instrument.specs.Stopping.{IsStopWith}

pub reading_of : (text : List ℕ) (source : Source) → IsSourceOf text Plain source → IsReading text (items_of source.unit.items.items) (program_of source.program)
reading_of text source is = record { tokens = is.tokens; lexed = is.lexed; spelled = is.spelled; typed = is.typed }

pub instruments : (told : Option Files) (name text : List ℕ) (source : Source) → IfSome told (λ files. IsSourceOf (file_at files name) Plain source) → IsInstrumentedText (items_of source.unit.items.items) (program_of source.program) text → IfSome told (λ files. Instruments files name text)
instruments None name text source is made = tt
instruments (Some files) name text source is made = (items_of source.unit.items.items, program_of source.program, reading_of (file_at files name) source is, made)

-- the stop of an instrumented text that would be too long
pub stops_at_length : (told : Option Files) (name : List ℕ) (source : Source) (u : Items) (stop : Stop) (before after : ℕ) → IfSome told (λ files. IsSourceOf (file_at files name) Plain source) → u ≡ instrumented_unit (program_of source.program) (items_of source.unit.items.items) → longest < length (unit_text u) → IsStopWith stop too_long → Stops stop (RefusesToInstrument told name) (IsMissing told name) before after
stops_at_length told name source u stops.Usage before after is same long why = why
stops_at_length told name source u (stops.Source line) before after is same long why = inr (refl, why, with_source told is)
  where
    with_source : (t : Option Files) → IfSome t (λ files. IsSourceOf (file_at files name) Plain source) → IfSome t (λ files. (v : Items) × (p : Program) × IsReading (file_at files name) v p × IsTooLong v p)
    with_source None is = tt
    with_source (Some files) is =
        (items_of source.unit.items.items, program_of source.program, reading_of (file_at files name) source is, subst (λ (w : Items). longest < length (unit_text w)) same long)
stops_at_length told name source u (stops.Model line) before after is same long why = absurd why
stops_at_length told name source u (stops.Record line) before after is same long why = absurd why
stops_at_length told name source u stops.Read before after is same long why = absurd why
stops_at_length told name source u stops.Write before after is same long why = why
stops_at_length told name source u stops.OutOfMemory before after is same long why = tt
