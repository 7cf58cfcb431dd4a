use Rattle.std.proofs.Common.{sym, ◌∙◌, ap, subst}
use Rattle.std.specs.Prelude.{Option}
use Rattle.trace_file.specs.declared.traces_place.TracesPlace.{TracesPlace}
use Rattle.trace_file.specs.declared.version.TracesVersion.{TracesVersion}
use Rattle.trace_file.specs.TracesReading.{stage_version, traces_version}
use Rattle.trace_file.specs.Traces.{BeginsWith}
use Rattle.trace_file.proofs.TracesLemmas.{begins_with}
use Rattle.trace_file.proofs.traces_reader.TracesReader.version.Goals as goal

pub returns-clause-begins : goal.returns-clause-begins
returns-clause-begins c = λ text records stands.
    let same = c.version.ensures ∙ ap (λ (p : TracesPlace). stage_version p.stage) c.place.ensures ∙ ap traces_version c.self.view_is in
    subst (λ (o : Option TracesVersion). BeginsWith o text) (sym same) (begins_with c.args.self.now text records stands)
