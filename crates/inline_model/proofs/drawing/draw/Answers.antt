use Rattle.inline_model.proofs.DrawnLemmas.{item_numbered}
use Rattle.inline_model.proofs.Grown.{adds_then}
use Rattle.inline_model.proofs.drawing.draw.Goals as goal

pub copy_all-requires : goal.copy_all-requires
copy_all-requires c = item_numbered c.args.model.now c.nodes-nodes.ensures.valid c.args.items.now c.requires.all c.args.item.now c.requires.has

pub returns : goal.returns
returns c = adds_then c.args.edges.now.items c.copy_all.new.edges.items c.link.new.edges.items c.in_ok-copy_all.ensures c.in_ok-link.ensures
