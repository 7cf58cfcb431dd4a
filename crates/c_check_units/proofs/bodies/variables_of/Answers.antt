use Rattle.std.proofs.Common.{◌++◌, ap, ◌∙◌}
use Rattle.c_check_units.proofs.LaidLemmas.{variables_are}
use Rattle.c_check_units.proofs.bodies.variables_of.Goals as goal

pub returns : goal.returns
returns c =
    variables_are c.args.parameters.now c.in_ok-variables.variables.items c.args.plain.items c.args.added.items c.append-2.new.self.items c.in_ok-variables.ensures (c.in_ok-append-2.ensures.items ∙ ap (λ ts. ts ++ c.args.added.items) c.in_ok-append.ensures.items)
