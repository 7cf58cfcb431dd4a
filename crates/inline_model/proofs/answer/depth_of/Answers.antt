use Rattle.std.proofs.Common.{subst}
use Rattle.inline_model.specs.Chains.{IsGreatest}
use Rattle.inline_model.proofs.DepthLemmas.{greatest_depth}
use Rattle.inline_model.specs.Searching.{IsTurn}
use Rattle.inline_model.proofs.DepthAnswers.{greatest_from_height, words_of}
use Rattle.inline_model.proofs.answer.depth_of.Goals as goal
use Rattle.inline_model.proofs.answer.depth_of.Goals.{In-Ends}

greatest : (c : In-Ends) → IsGreatest c.args.model.now c.in-Ends.height
greatest c = greatest_from_height c.args.model.now c.nodes-nodes.ensures.valid c.in-Ends.height (subst (IsTurn c.args.model.now c.turns.search c.turn.new.search) c.in-Ends.is c.in_ok-turn.ensures)

pub turns-preserved : goal.turns-preserved
turns-preserved c = (subst (IsTurn c.args.model.now c.turns.search c.turn.new.search) c.in-Goes.is c.in_ok-turn.ensures).0

pub turns-smaller : goal.turns-smaller
turns-smaller c = (subst (IsTurn c.args.model.now c.turns.search c.turn.new.search) c.in-Goes.is c.in_ok-turn.ensures).1

pub returns-in-Ends-clause-length : goal.returns-in-Ends-clause-length
returns-in-Ends-clause-length c = greatest (goal.at.returns-in-Ends-clause-length c).In-Ends

pub returns-in-Ends-clause-words : goal.returns-in-Ends-clause-words
returns-in-Ends-clause-words c = greatest_depth c.args.model.now c.nodes-nodes.ensures.valid c.in-Ends.height (greatest (goal.at.returns-in-Ends-clause-words c).In-Ends)

pub returns-in-Returns-clause-words : goal.returns-in-Returns-clause-words
returns-in-Returns-clause-words c = words_of c.args.model.now c.nodes-nodes.ensures.valid c.recursion.result c.recursion.ensures.length
