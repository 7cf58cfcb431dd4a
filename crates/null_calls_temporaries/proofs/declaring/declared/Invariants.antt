use Rattle.std.proofs.Common.{◌≡◌, drop}
use Rattle.c_syntax.specs.Tree.{BlockItems}
use Rattle.c_syntax.specs.SeenNames.{seen}
use Rattle.null_calls_laws.specs.Temporaries.{declared_before}
use Rattle.null_calls_temporaries.specs.Kept.{temporaries_of, items_onto}
use Rattle.null_calls_temporaries.proofs.declaring.declared.Given as goal

abbrev pub invariant-loop-one : goal.invariant-loop-one
invariant-loop-one l = (rest : BlockItems) → items_onto l.all.items (declared_before (seen l.tags) l.at (temporaries_of (drop l.one-index l.kept)) rest) ≡ declared_before (seen l.tags) l.at (temporaries_of l.kept) rest
