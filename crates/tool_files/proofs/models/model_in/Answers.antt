use Rattle.std.proofs.Common.{ℕ, List, subst}
use Rattle.model_file.specs.Refusal.{IsModel, IsModelRefusal}
use Rattle.tool_files.proofs.ModelFiles.{model_of_file, stops_model}
use Rattle.tool_files.proofs.models.model_in.Goals as goal

pub returns-in-Ok-clause-model : goal.returns-in-Ok-clause-model
returns-in-Ok-clause-model g c =
    model_of_file (g.S.Store.files c.args.store.now) c.args.name.now c.in_ok-text.text.items c.in-Ok.model c.in_ok-text.ensures.whole (subst (λ (w : List ℕ). IsModel w c.in-Ok.model) c.deref.ensures.value c.in-Ok.ensures.read)

pub returns-clause-stop : goal.returns-clause-stop
returns-clause-stop g c =
    stops_model (g.S.Store.files c.args.store.now) c.args.name.now c.in_ok-text.text.items c.in-Err.error c.refused_with.result _ _ c.in_ok-text.ensures.whole (subst (IsModelRefusal c.in-Err.error) c.deref.ensures.value c.in-Err.ensures.refused) c.refused_with.ensures
