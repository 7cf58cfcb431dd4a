use Rattle.std.proofs.Common.{◌≡◌, ◌+◌, ℕ, List, ◌++◌, refl, ◌∙◌, ap, append_assoc, arith}
use Rattle.std.proofs.lemmas.Result.{err_from_is_err_and}
use Rattle.trace_file.specs.declared.error.TraceError.TheVariants.{OutOfMemory}
use Rattle.trace_file.specs.declared.traces_place.TracesStage.{TracesStage}
use Rattle.trace_file.specs.Refusals.{IsRefusedAt}
use Rattle.trace_file.specs.TracesReading.{ReachesTraces}
use Rattle.trace_file.proofs.PiecesLemmas.{shows_always}
use Rattle.trace_file.proofs.ReachedLemmas.{whole_is_line}
use Rattle.trace_file.proofs.TracesLemmas.{start_shows, start_takes, line_shows, record_takes, record_shows, end_takes, after_end_shows}
use Rattle.trace_file.proofs.traces_place.TracesPlacePlace.read.Goals as goal

-- what stands first in a list stands first in a longer one
still_first : (first old new : List ℕ) → (more : List ℕ) × (old ≡ first ++ more) → (more : List ℕ) × (new ≡ old ++ more) → (more : List ℕ) × (new ≡ first ++ more)
still_first first old new before grown =
    (before.0 ++ grown.0, grown.1 ∙ ap (λ (t : List ℕ). t ++ grown.0) before.1 ∙ append_assoc first before.0 grown.0)

memory_told : (at : TracesStage) (text : List ℕ) → IsRefusedAt at OutOfMemory text
memory_told at text = record { refusal = tt; tells = λ other. absurd (other refl); first = λ other. absurd (other refl) }

pub returns-in_err-add_record-in-Record-clause-marks : goal.returns-in_err-add_record-in-Record-clause-marks
returns-in_err-add_record-in-Record-clause-marks c = λ mark first marked.
    (marked.0, marked.1, still_first first.known c.args.self.now.known c.add_record.new.self marked.2 c.add_record.ensures.grown)

pub returns-then-len-gt-MOST_PROCESSES-clause-marks : goal.returns-then-len-gt-MOST_PROCESSES-clause-marks
returns-then-len-gt-MOST_PROCESSES-clause-marks c = λ mark first marked.
    (marked.0, marked.1, still_first first.known c.args.self.now.known c.add_record.new.self marked.2 c.add_record.ensures.grown)

pub returns-else-len-gt-MOST_PROCESSES-clause-marks : goal.returns-else-len-gt-MOST_PROCESSES-clause-marks
returns-else-len-gt-MOST_PROCESSES-clause-marks c = λ mark first marked.
    (marked.0, marked.1, still_first first.known c.args.self.now.known c.add_record.new.self marked.2 c.add_record.ensures.grown)

pub returns-in_err-add_record-in-Record-clause-shows : goal.returns-in_err-add_record-in-Record-clause-shows
returns-in_err-add_record-in-Record-clause-shows c =
    let p = err_from_is_err_and c.from_residual-in_err-add_record-in-Record.result c.from_residual-in_err-add_record-in-Record.ensures.1 in
    rw (p.1, p.2) (shows_always ReachesTraces (IsRefusedAt c.args.self.now.stage) c.args.self.now c.args.line.now OutOfMemory (memory_told c.args.self.now.stage))

pub returns-in_err-version-in-Start-clause-shows : goal.returns-in_err-version-in-Start-clause-shows
returns-in_err-version-in-Start-clause-shows c =
    let p = err_from_is_err_and c.from_residual.result c.from_residual.ensures.1 in
    rw (p.1, p.2) (start_shows c.args.self.now.stage c.args.self.now.known c.in_err-version-in-Start.field-0.0 c.args.line.now c.in-Start.is c.requires c.in_err-version-in-Start.ensures.refused)

pub read_next-requires : goal.read_next-requires
read_next-requires c = whole_is_line c.args.line.now c.requires

pub returns-in_err-found-in-Records-clause-shows : goal.returns-in_err-found-in-Records-clause-shows
returns-in_err-found-in-Records-clause-shows c =
    let p = err_from_is_err_and c.from_residual-in_err-found-in-Records.result c.from_residual-in_err-found-in-Records.ensures.1 in
    rw (p.1, p.2) (line_shows c.args.self.now.stage c.args.self.now.known c.in-Records.version c.in-Records.count c.in_err-found-in-Records.field-0.0 c.args.line.now c.in-Records.is c.requires c.in_err-found-in-Records.ensures.refused)

pub returns-then-len-gt-MOST_PROCESSES-clause-shows : goal.returns-then-len-gt-MOST_PROCESSES-clause-shows
returns-then-len-gt-MOST_PROCESSES-clause-shows c =
    record_shows c.args.self.now.stage c.args.self.now.known c.add_record.new.self c.in-Records.version c.in-Records.count (c.from.result + 2) c.args.line.now c.in_ok-found-in-Records.field-0 c.in-Record.found c.in-Records.is c.requires c.in_ok-found-in-Records.ensures.room c.in_ok-found-in-Records.ensures.read c.in-Record.is c.in_ok-add_record-in-Record.ensures.known (omega arith) (ap (λ n. n + 2) c.from.ensures)

pub returns-in_ok-version-in-Start-clause-takes : goal.returns-in_ok-version-in-Start-clause-takes
returns-in_ok-version-in-Start-clause-takes c =
    start_takes c.args.self.now.stage c.args.self.now.known c.in_ok-version-in-Start.version c.args.line.now c.in_ok-version-in-Start.ensures.head.0 c.in-Start.is c.requires c.in_ok-version-in-Start.ensures.head.1

pub returns-else-len-gt-MOST_PROCESSES-clause-takes : goal.returns-else-len-gt-MOST_PROCESSES-clause-takes
returns-else-len-gt-MOST_PROCESSES-clause-takes c =
    record_takes c.args.self.now.stage c.args.self.now.known c.add_record.new.self c.in-Records.version c.in-Records.count c.args.line.now c.in_ok-found-in-Records.field-0 c.in-Record.found c.in-Records.is c.requires c.in_ok-found-in-Records.ensures.room c.in_ok-found-in-Records.ensures.read c.in-Record.is c.in_ok-add_record-in-Record.ensures.known (omega arith)

pub returns-in-End-2-clause-takes : goal.returns-in-End-2-clause-takes
returns-in-End-2-clause-takes c =
    end_takes c.args.self.now.stage c.args.self.now.known c.in-Records.version c.in-Records.count c.args.line.now c.in_ok-found-in-Records.field-0 c.in-Records.is c.requires c.in_ok-found-in-Records.ensures.read c.in-End-2.is

pub returns-in-End-clause-shows : goal.returns-in-End-clause-shows
returns-in-End-clause-shows c =
    after_end_shows c.args.self.now.stage c.args.self.now.known c.in-End.field-0 c.in-End.count (c.from-in-End.result + 3) c.args.line.now c.in-End.is c.requires (ap (λ n. n + 3) c.from-in-End.ensures)
