use Rattle.std.proofs.Common.{length, refl}
use Rattle.std.proofs.lemmas.Option.{slice_get_read}
use Rattle.std.proofs.lemmas.Result.{on_ok_weaker}
use Rattle.stack_automaton.proofs.LinksLemmas.{functions_kept, put_at}
use Rattle.stack_automaton.proofs.links.put.Goals as goal

pub returns-clause-functions : goal.returns-clause-functions
returns-clause-functions c = functions_kept c.args.lists.now.items c.args.place c.index_mut.result.now c.add.new.self (slice_get_read c.args.lists.now.items (length c.args.lists.now.items) c.args.place c.index_mut.result.now refl c.requires c.index_mut.ensures.value) c.add.ensures.function

pub returns-clause-added : goal.returns-clause-added
returns-clause-added c =
    on_ok_weaker c.add.result
    (put_at c.args.lists.now.items c.args.place c.index_mut.result.now c.add.new.self c.args.link (slice_get_read c.args.lists.now.items (length c.args.lists.now.items) c.args.place c.index_mut.result.now refl c.requires c.index_mut.ensures.value) c.add.ensures.function)
    c.add.ensures.calls
