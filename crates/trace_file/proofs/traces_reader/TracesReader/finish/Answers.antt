use Rattle.std.proofs.Common.{◌∙◌, ap}
use Rattle.std.proofs.lemmas.Result.{on_ok_weaker, IfErr-weaker}
use Rattle.trace_file.specs.declared.traces_place.TracesPlace.{TracesPlace}
use Rattle.trace_file.specs.Held.{Held}
use Rattle.trace_file.proofs.TracesLemmas.{finish_within, finish_refused}
use Rattle.trace_file.proofs.traces_reader.TracesReader.finish.Goals as goal

pub returns-clause-within : goal.returns-clause-within
returns-clause-within c =
    let held = c.args.self in
    let same_place = c.in_ok-place.ensures.place ∙ ap (λ (h : Held TracesPlace). h.place) c.self.view_is in
    let same_tail = c.deref.ensures.value ∙ c.in_ok-place.ensures.tail ∙ ap (λ (h : Held TracesPlace). h.tail) c.self.view_is in
    on_ok_weaker c.finish-2.result (finish_within held c.in_ok-place.place c.deref.result.now same_place same_tail) c.finish-2.ensures.within

pub returns-clause-refused : goal.returns-clause-refused
returns-clause-refused c =
    let held = c.args.self in
    let same_place = c.in_ok-place.ensures.place ∙ ap (λ (h : Held TracesPlace). h.place) c.self.view_is in
    let same_tail = c.deref.ensures.value ∙ c.in_ok-place.ensures.tail ∙ ap (λ (h : Held TracesPlace). h.tail) c.self.view_is in
    IfErr-weaker c.finish-2.result _ _ (λ error. finish_refused held c.in_ok-place.place c.deref.result.now error same_place same_tail) c.finish-2.ensures.refused
