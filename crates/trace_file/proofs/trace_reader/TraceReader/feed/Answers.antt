use Rattle.std.proofs.Common.{◌≡◌, ◌<◌, ℕ, List, ◌++◌, Err, length, subst}
use Rattle.std.specs.Prelude.{IfErr}
use Rattle.dm_base.specs.declared.event.Event.{Event}
use Rattle.trace_file.specs.declared.error.TraceError.TheVariants.{TooLong}
use Rattle.trace_file.specs.declared.trace_place.TracePlace.{TracePlace}
use Rattle.trace_file.specs.Held.{Held}
use Rattle.trace_file.specs.Trace.{longest, IsTraceShown}
use Rattle.trace_file.specs.TraceReading.{StandsForTrace}
use Rattle.trace_file.proofs.trace_reader.TraceReader.feed.Goals as goal

pub returns-clause-long : goal.returns-clause-long
returns-clause-long c text events before over =
    (subst (λ (held : Held TracePlace). (text : List ℕ) (events : List Event) → StandsForTrace held text events → longest < length (text ++ c.args.piece.now) → (c.feed.result ≡ Err TooLong) × (c.feed.new.self.place ≡ held.place)) c.self.view_is c.feed.ensures.long text events before over).0

pub returns-clause-shown : goal.returns-clause-shown
returns-clause-shown c =
    subst (λ (held : Held TracePlace). IfErr c.feed.result (λ error. (text : List ℕ) (events : List Event) → StandsForTrace held text events → IsTraceShown error (text ++ c.args.piece.now))) c.self.view_is c.feed.ensures.shown
