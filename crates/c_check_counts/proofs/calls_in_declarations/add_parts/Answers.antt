use Rattle.c_syntax.specs.UnitView.{maybe_init_of, parts_of}
use Rattle.c_rules.specs.PlacesOfCalls.{places_of_maybe_init, places_of_parts}
use Rattle.c_check_counts.proofs.CallLists.{parts_flat}
use Rattle.c_check_counts.proofs.Lists.{more_flat, all_flat}
use Rattle.c_check_counts.proofs.calls_in_declarations.add_parts.Goals as goal

pub returns : goal.returns
returns c =
    all_flat (λ p. places_of_maybe_init (maybe_init_of p.init)) c.args.parts.now c.loop-part.part-index c.args.into.now.items c.loop-part.into.items (places_of_parts (parts_of c.args.parts.now)) c.loop-part-test.false (parts_flat c.args.parts.now) c.loop-part.invariant

pub loop-part-preserved : goal.loop-part-preserved
loop-part-preserved c =
    more_flat (λ p. places_of_maybe_init (maybe_init_of p.init)) c.args.parts.now c.loop-part.part-index c.part-item.result c.args.into.now.items c.loop-part.into.items c.add_maybe_initialiser.new.into.items c.loop-part-test.true c.part-item.is c.loop-part.invariant c.in_ok-add_maybe_initialiser.ensures
