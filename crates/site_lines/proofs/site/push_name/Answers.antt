use Rattle.std.proofs.Common.{arith}
use Rattle.c_tree.specs.View.{program_of}
use Rattle.site_lines.proofs.NameLemmas.{without_name}
use Rattle.site_lines.proofs.site.push_name.Goals as goal

pub returns : goal.returns
returns c =
    without_name (program_of c.args.program.now) c.args.f c.args.line.now.items c.push_bytes.new.text.items (let t = c.if-f-defined.false in let d = c.defined.ensures in omega (arith, t, d)) c.in_ok-push_bytes.ensures
