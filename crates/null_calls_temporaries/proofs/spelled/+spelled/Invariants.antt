use Rattle.std.proofs.Common.{◌≡◌, map, take}
use Rattle.c_syntax_nodes.specs.Copied.{param_of}
use Rattle.c_syntax.specs.SeenNames.{seen}
use Rattle.null_calls_temporaries.specs.Spelled.{spelled_param}
use Rattle.null_calls_temporaries.proofs.spelled.+spelled.Given as goal

abbrev pub invariant-params-loop-i : goal.invariant-params-loop-i
invariant-params-loop-i l = map param_of l.made.items ≡ map (spelled_param (seen l.tags) l.at) (take l.i l.ts)
