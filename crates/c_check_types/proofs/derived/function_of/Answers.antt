use Rattle.std.proofs.Common.{◌≡◌, ◌<◌, ◌≤◌, true, length, rules}
use Rattle.c_rules.specs.Types.{is_result}
use Rattle.c_tree.specs.View.{ctype_of}
use Rattle.c_check_types.proofs.FunctionLemmas.{many, within_few}
use Rattle.c_check_types.proofs.derived.function_of.Goals as goal

pub returns-then-len-gt16 : goal.returns-then-len-gt16
returns-then-len-gt16 c =
    let r : is_result (ctype_of c.args.t) ≡ true = search rules in
    let h : 16 < length c.args.parameters.items = search rules in
    many c.args.at (ctype_of c.args.t) c.args.parameters.items r h

pub returns : goal.returns
returns c =
    let r : is_result (ctype_of c.args.t) ≡ true = search rules in
    let h : length c.args.parameters.items ≤ 16 = search rules in
    let same : c.in_ok-new.field-0.value ≡ c.args.t = search rules in
    within_few c.args.at c.args.t c.in_ok-new.field-0 c.args.parameters c.within_parts.result same r h c.within_parts.ensures
