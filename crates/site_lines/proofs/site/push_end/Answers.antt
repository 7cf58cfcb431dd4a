use Rattle.c_tree.specs.View.{program_of}
use Rattle.site_lines.proofs.PartLemmas.{end_made}
use Rattle.site_lines.proofs.site.push_end.Goals as goal

pub returns : goal.returns
returns c =
    end_made c.push_bytes-4.result (program_of c.args.program.now) c.args.site c.args.line.now.items c.args.caller.now c.push_bytes.new.text.items c.push_bytes-2.new.text.items c.push_bytes-3.new.text.items c.push_names.new.line.items c.push_bytes-4.new.text.items c.candidates.result.now
    (c.candidates.ensures (program_of c.args.program.now) c.requires)
    c.in_ok-push_bytes.ensures c.in_ok-push_bytes-2.ensures c.in_ok-push_bytes-3.ensures c.in_ok-push_names.ensures c.push_bytes-4.ensures
