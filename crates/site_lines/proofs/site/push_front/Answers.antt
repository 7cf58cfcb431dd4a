use Rattle.c_tree.specs.View.{program_of}
use Rattle.site_lines.proofs.PartLemmas.{front_made}
use Rattle.site_lines.proofs.site.push_front.Goals as goal

pub returns : goal.returns
returns c =
    front_made c.push_bytes-3.result (program_of c.args.program.now) c.args.site c.from.result c.args.line.now.items c.push_decimal.new.text.items c.push_bytes.new.text.items c.push_bytes-2.new.text.items c.push_bytes-3.new.text.items c.kind_of_site-kind.result.now
    c.from.ensures (c.kind_of_site-kind.ensures (program_of c.args.program.now) c.requires c.defined.ensures)
    c.in_ok-push_decimal.ensures c.in_ok-push_bytes.ensures c.in_ok-push_bytes-2.ensures c.push_bytes-3.ensures
