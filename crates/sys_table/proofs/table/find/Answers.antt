use Rattle.std.proofs.Common.{◌≡◌, ◌<◌, Some, ap, ◌∙◌, arith, rules}
use Rattle.sys_table.specs.Table.{name_of}
use Rattle.sys_table.proofs.Names.{same_call}
use Rattle.sys_table.proofs.table.find.Goals as goal

pub returns-then-eq-clause-each : goal.returns-then-eq-clause-each
returns-then-eq-clause-each c x within is_text =
    let known : c.in_ok-name.name < 24 = omega arith in
    let found : name_of c.in_ok-name.name ≡ c.args.text.now = search rules in
    ap Some (same_call c.in_ok-name.name x known within (found ∙ is_text))
