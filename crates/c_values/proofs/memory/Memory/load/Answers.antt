use Rattle.std.proofs.Common.{ap, sym, ◌∙◌}
use Rattle.std.specs.HashMap.{get}
use Rattle.c_values.specs.Seen.{same_key, as_object}
use Rattle.c_values.specs.Held.{held_object}
use Rattle.c_values.proofs.memory.Memory.load.Goals as goal

pub load-requires-clause-inside : goal.load-requires-clause-inside
load-requires-clause-inside c =
    c.requires.inside (held_object c.in-Some.held.now) (ap as_object (ap (get same_key c.args.self.now.objects) (sym c.key.ensures) ∙ sym c.in-Some.ensures.value))
