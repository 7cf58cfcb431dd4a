use Rattle.std.proofs.Common.{◌∷◌, [], ◌++◌, ◌∙◌, ap}
use Rattle.c_syntax.specs.UnitView.{parts_of}
use Rattle.c_check_scopes.specs.Variables.{names_of_parts}
use Rattle.c_check_counts.specs.Named.{name_of_part}
use Rattle.c_syntax.specs.SeenNames.{seen}
use Rattle.c_check_counts.proofs.Lists.{names_of_parts_flat, more_flat, all_flat}
use Rattle.c_check_counts.proofs.names.add_parts.Goals as goal

pub returns : goal.returns
returns c =
    all_flat (λ p. name_of_part p ∷ []) c.args.parts.now c.loop-part.part-index (seen c.args.into.now.items) (seen c.loop-part.into.items) (names_of_parts (parts_of c.args.parts.now)) c.loop-part-test.false (names_of_parts_flat c.args.parts.now) c.loop-part.invariant

pub loop-part-preserved : goal.loop-part-preserved
loop-part-preserved c =
    more_flat (λ p. name_of_part p ∷ []) c.args.parts.now c.loop-part.part-index c.part-item.result (seen c.args.into.now.items) (seen c.loop-part.into.items) (seen c.add.new.into.items) c.loop-part-test.true c.part-item.is c.loop-part.invariant (c.in_ok-add.ensures ∙ ap (λ x. seen c.loop-part.into.items ++ x ∷ []) c.bytes_of_name.ensures)
