use Rattle.std.proofs.Common.{◌≡◌, arith, sym, subst}
use Rattle.std.specs.Map.{keys_of}
use Rattle.stack_automaton.specs.Links.{ArePlaced}
use Rattle.stack_automaton.proofs.MarksLemmas.{taken_back}
use Rattle.stack_automaton.proofs.LinksLemmas.{begun_placed, placed_kept}
use Rattle.stack_automaton.proofs.links.begin.Goals as goal

pub returns-in_err-push-clause-placed : goal.returns-in_err-push-clause-placed
returns-in_err-push-clause-placed c = subst (λ es. ArePlaced c.args.places.now (keys_of es)) (sym c.in_err-push.ensures.items) c.requires.placed

pub returns-in-Ok-clause-placed : goal.returns-in-Ok-clause-placed
returns-in-Ok-clause-placed c =
    begun_placed c.args.places.now c.insert.new.self c.args.lists.now.items c.push.new.self.items c.args.entered c.function-function.result c.len-place.result c.function-function.ensures (omega (arith, c.len-place.ensures, c.args.lists.now.ok)) c.in_ok-push.ensures.items c.requires.other c.in-Ok.ensures.updates.0 c.requires.placed

pub returns-in-Err-clause-placed : goal.returns-in-Err-clause-placed
returns-in-Err-clause-placed c =
    let back : c.pop.new.self.items ≡ c.args.lists.now.items =
    taken_back c.args.lists.now.items c.push.new.self.items c.pop.new.self.items c.args.entered c.push.new.self.len c.in_ok-push.ensures.items (omega (arith, c.push.new.self.ok)) c.pop.ensures.rest in
    subst (λ es. ArePlaced c.insert.new.self (keys_of es)) (sym back) (placed_kept c.args.places.now c.insert.new.self (keys_of c.args.lists.now.items) c.in-Err.ensures.err c.requires.placed)
