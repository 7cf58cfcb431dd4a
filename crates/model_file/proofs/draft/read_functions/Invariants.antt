use Rattle.std.proofs.Common.{◌≡◌, [], length}
use Rattle.model_file.specs.declared.version.ModelVersion.{ModelVersion}
use Rattle.model_file.specs.Progress.{IsPlace, IsAt}
use Rattle.model_file.specs.States.{Fixed, AtFunctions}
use Rattle.model_file.proofs.draft.read_functions.Given as goal

abbrev pub invariant-loop-done : goal.invariant-loop-done
invariant-loop-done l = record {
  place : IsPlace l.text l.place;
  edges : l.builder ≡ record l.fn.builder { functions = l.builder.functions };
  long : length l.builder.functions ≡ l._done;
  told : (v : ModelVersion) → IsAt (Fixed v (AtFunctions v l.count [])) l.text l.fn.place → IsAt (Fixed v (AtFunctions v l.count l.builder.functions)) l.text l.place;
}
