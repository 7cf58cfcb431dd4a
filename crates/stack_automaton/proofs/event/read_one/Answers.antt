use Rattle.std.proofs.Common.{rules, ◌≡◌}
use Rattle.std.proofs.lemmas.Result.{on_ok_weaker}
use Rattle.dm_base.specs.Fits.{Fits}
use Rattle.stack_automaton.specs.declared.place.Place.TheVariants.{Held}
use Rattle.stack_automaton.proofs.FollowingLemmas.{added_if}
use Rattle.stack_automaton.proofs.event.read_one.Goals as goal

pub returns-then-fits : goal.returns-then-fits
returns-then-fits c =
    let fits : Fits c.args.sys.now.name c.args.sys.now.args c.args.event.now = search rules in
    on_ok_weaker c.add.result (added_if c.args.facts.now.keys c.add.new.facts.keys (Fits c.args.sys.now.name c.args.sys.now.args c.args.event.now) (λ x. x ≡ record { node = c.args.sys.now.to; place = Held c.args.edge.to }) fits) c.add.ensures
