use Rattle.std.proofs.Common.{◌≡◌, List, subst}
use Rattle.std.specs.Prelude.{Some, slice_get}
use Rattle.std.proofs.lemmas.Result.{err_from_is_err_and}
use Rattle.tool_fleet.specs.declared.inputs.GroupModel.{GroupModel}
use Rattle.tool_fleet.proofs.ReadingLemmas.{group_found, group_read, stops_at_model}
use Rattle.tool_fleet.proofs.reading.group_in.Goals as goal

pub returns-in-Some-clause-found : goal.returns-in-Some-clause-found
returns-in-Some-clause-found g c =
    let (one, there, named, bound) = c.in-Some.ensures in
    group_found (g.S.Store.files c.args.store.now) c.args.line.now c.args.groups.now.items c.in-Some.place c.as_slice.result.now one c.as_slice.ensures c.requires.models
    (subst (λ (gs : List GroupModel). slice_get gs c.in-Some.place ≡ Some one) c.deref.ensures.value there) named bound

pub returns-in_err-model-clause-stop : goal.returns-in_err-model-clause-stop
returns-in_err-model-clause-stop g c =
    let w = err_from_is_err_and c.from_residual.result c.from_residual.ensures.1 in
    rw (w.1, w.2) (stops_at_model (g.S.Store.files c.args.store.now) c.args.line.now c.name_of.result.now c.in_err-model.field-0.0 _ _ c.name_of.ensures c.in_err-model.ensures.stop)

pub returns-clause-found : goal.returns-clause-found
returns-clause-found g c =
    group_read (g.S.Store.files c.args.store.now) c.args.line.now c.args.groups.now.items _ c.in_ok-number.number c.name_of.result.now c.as_slice-2.result.now c.in_ok-model.model c.requires.line.some c.requires.line.bound c.name_of.ensures c.as_slice-2.ensures c.requires.models c.in_ok-model.ensures.model c.in_ok-number.ensures.number c.in_ok-number.ensures.added
