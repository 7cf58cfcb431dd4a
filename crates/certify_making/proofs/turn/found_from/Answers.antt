use Rattle.certify_making.proofs.TurnLemmas.{found_both}
use Rattle.certify_making.proofs.turn.found_from.Goals as goal

pub returns : goal.returns
returns c = found_both c.new-found.result.items c.follow.new.found.items c.follow_pairs.new.found.items _ _ c.new-found.ensures.items c.in_ok-follow.ensures c.in_ok-follow_pairs.ensures
