use Rattle.inline_model.specs.Searching.{IsSearching, left_of}
use Rattle.inline_model.proofs.answer.depth_of.Given as goal

abbrev pub invariant-turns : goal.invariant-turns
invariant-turns l = IsSearching l.model l.search

abbrev pub decreases-turns : goal.decreases-turns
decreases-turns l = left_of l.model l.search
