use Rattle.std.proofs.Common.{[], ◌∷◌, sym, subst}
use Rattle.std.specs.Prelude.{Option}
use Rattle.std.specs.Option.{option_to_list}
use Rattle.std.proofs.lemmas.List.{append-nil}
use Rattle.std.proofs.lemmas.Result.{err_from_is_err_and}
use Rattle.trace_file.specs.declared.error.TraceError.TheVariants.{OutOfMemory}
use Rattle.trace_file.specs.Pieces.{Takes}
use Rattle.trace_file.proofs.PiecesLemmas.{one_taken, shows_always}
use Rattle.trace_file.proofs.pieces.take_line.Goals as goal

pub returns-in_ok-push-in-Some-clause-takes : goal.returns-in_ok-push-in-Some-clause-takes
returns-in_ok-push-in-Some-clause-takes g c =
    let takes = subst (λ (o : Option g.row.P-Item.Denot). Takes g.P.Place.reaches c.args.place.now c.args.line.now (option_to_list o) c.read.new.self) c.in-Some.is c.in_ok-item.ensures.takes in
    one_taken g.P.Place.reaches c.args.place.now c.read.new.self c.args.line.now (c.in-Some.item ∷ []) c.args.items.now.items c.push.new.self.items takes c.in_ok-push-in-Some.ensures.items

pub returns-in-None-clause-takes : goal.returns-in-None-clause-takes
returns-in-None-clause-takes g c =
    let takes = subst (λ (o : Option g.row.P-Item.Denot). Takes g.P.Place.reaches c.args.place.now c.args.line.now (option_to_list o) c.read.new.self) c.in-None.is c.in_ok-item.ensures.takes in
    one_taken g.P.Place.reaches c.args.place.now c.read.new.self c.args.line.now [] c.args.items.now.items c.args.items.now.items takes (sym (append-nil c.args.items.now.items))

pub returns-in_err-item-clause-shows : goal.returns-in_err-item-clause-shows
returns-in_err-item-clause-shows g c =
    let p = err_from_is_err_and c.from_residual.result c.from_residual.ensures.1 in
    rw (p.1, p.2) c.in_err-item.ensures.shows

pub returns-in_err-push-in-Some-clause-shows : goal.returns-in_err-push-in-Some-clause-shows
returns-in_err-push-in-Some-clause-shows g c =
    let p = err_from_is_err_and c.from_residual-in_err-push-in-Some.result c.from_residual-in_err-push-in-Some.ensures.1 in
    rw (p.1, p.2) (shows_always g.P.Place.reaches (g.P.Place.refuses c.read.new.self) c.args.place.now c.args.line.now OutOfMemory (g.met.P.Place.memory c.read.new.self))
