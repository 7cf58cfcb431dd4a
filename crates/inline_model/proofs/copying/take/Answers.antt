use Rattle.std.proofs.Common.{arith}
use Rattle.inline_model.proofs.CopyingLemmas.{copying_taken, copying_overflows, nodes_some, waiting_known}
use Rattle.inline_model.proofs.copying.take.Goals as goal

pub counted-requires-clause-known : goal.counted-requires-clause-known
counted-requires-clause-known c = waiting_known c.args.model.now c.nodes-nodes.ensures.valid c.args.copies.now.items c.args.next c.args.stack.now c.args.count c.requires.copying

pub returns-clause-more : goal.returns-clause-more
returns-clause-more c =
    let g = c.args.model.now in
    let valid = c.nodes-nodes.ensures.valid in
    let known = waiting_known g valid c.args.copies.now.items c.args.next c.args.stack.now c.args.count c.requires.copying in
    omega (arith, c.in-Ok.ensures.ok.0, nodes_some g valid c.args.next.function known)

pub returns-clause-ok : goal.returns-clause-ok
returns-clause-ok c =
    copying_taken c.args.model.now c.nodes-nodes.ensures.valid c.args.entries.now c.entries_of.result.now c.args.copies.now.items c.args.next c.args.stack.now c.args.count c.requires.entries c.entries_of.ensures.has c.entries_of.ensures.rise c.requires.copying
    c.put.new.copies.items c.wait_for.new.stack c.len-place.result c.in-Ok.more c.in_ok-put.ensures c.in_ok-wait_for.ensures (omega (arith, c.len-place.ensures, c.args.copies.now.ok.0)) c.in-Ok.ensures.ok

pub returns-in-Err-clause-err : goal.returns-in-Err-clause-err
returns-in-Err-clause-err c = λ n greatest is. copying_overflows c.args.model.now c.nodes-nodes.ensures.valid c.args.entries.now c.requires.entries n greatest c.args.copies.now.items c.args.next c.args.stack.now c.args.count c.requires.copying c.in-Err.ensures.err.1
