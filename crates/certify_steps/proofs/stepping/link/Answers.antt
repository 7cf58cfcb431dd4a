use Rattle.std.proofs.Common.{sym}
use Rattle.certify_steps.specs.Stepping.{link_to}
use Rattle.certify_steps.proofs.FollowLemmas.{link_added, no_link}
use Rattle.certify_steps.proofs.stepping.link.Goals as goal

pub returns-in_ok-add : goal.returns-in_ok-add
returns-in_ok-add c = link_added c.args.found.now.items c.add.new.found.items c.args.number (link_to c.args.fact c.args.site c.args.function) c.in-Some.made (sym c.in-Some.ensures) c.in_ok-add.ensures

pub returns-in_default : goal.returns-in_default
returns-in_default c = no_link c.args.found.now.items c.args.number (link_to c.args.fact c.args.site c.args.function) (sym c.in_default.ensures)
