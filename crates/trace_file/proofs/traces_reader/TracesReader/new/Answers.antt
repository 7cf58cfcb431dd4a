use Rattle.std.proofs.Common.{[], sym, subst}
use Rattle.trace_file.specs.declared.traces_place.TracesPlace.{TracesPlace}
use Rattle.trace_file.specs.Held.{Held}
use Rattle.trace_file.specs.TracesReading.{StandForTraces}
use Rattle.trace_file.proofs.TracesLemmas.{nothing_given}
use Rattle.trace_file.proofs.traces_reader.TracesReader.new.Goals as goal

pub returns : goal.returns
returns c = subst (λ (held : Held TracesPlace). StandForTraces held [] []) (sym c.new-2.ensures) (nothing_given c.new.result c.new.ensures)
