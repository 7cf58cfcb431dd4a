use Rattle.std.proofs.Common.{◌/◌, ap, sym, ◌∙◌}
use Rattle.std.proofs.Math.Nat.{div-zero}
use Rattle.c_check_values.proofs.addresses.elements_in.Goals as goal

pub returns-then-cells-eq0 : goal.returns-then-cells-eq0
returns-then-cells-eq0 c = sym (ap (λ n. c.args.width / n) c.if-cells-eq0.true ∙ div-zero c.args.width)
