use Rattle.std.proofs.Common.{ℕ, List, [], ◌≡◌, ◌∙◌, ◌++◌, length, subst, rules}
use Rattle.std.specs.Prelude.{IfErr, OnOk}
use Rattle.std.proofs.lemmas.Result.{err_from_is_err_and}
use Rattle.trace_file.specs.declared.error.TraceError.TheVariants.{OutOfMemory}
use Rattle.trace_file.specs.Pieces.{Shows, HasTaken}
use Rattle.trace_file.proofs.PiecesLemmas.{joined_whole, after_empty, shows_always}
use Rattle.trace_file.proofs.pieces.take_first.Goals as goal

pub take_line-requires-2 : goal.take_line-requires-2
take_line-requires-2 g c =
    joined_whole c.args.tail.now c.args.first.now c.deref.result.now c.requires.plain c.requires.first (c.deref.ensures.value ∙ c.in_ok-line.ensures)

pub returns-clause-shows : goal.returns-clause-shows
returns-clause-shows g c =
    subst (λ (t : List ℕ). IfErr c.take_line-2.result (λ error. Shows g.P.Place.reaches (g.P.Place.refuses c.take_line-2.new.place) c.args.place.now error t)) (c.deref.ensures.value ∙ c.in_ok-line.ensures) c.take_line-2.ensures.shows

pub returns-clause-takes : goal.returns-clause-takes
returns-clause-takes g c =
    subst (λ (t : List ℕ). OnOk c.take_line-2.result (HasTaken g.P.Place.reaches c.args.place.now t [] c.args.items.now.items c.take_line-2.new.items.items c.take_line-2.new.place)) (c.deref.ensures.value ∙ c.in_ok-line.ensures) c.take_line-2.ensures.takes

pub returns-then-is_empty-clause-takes : goal.returns-then-is_empty-clause-takes
returns-then-is_empty-clause-takes g c =
    let none : length c.args.tail.now ≡ 0 = search rules in
    subst (λ (t : List ℕ). OnOk c.take_line.result (HasTaken g.P.Place.reaches c.args.place.now t [] c.args.items.now.items c.take_line.new.items.items c.take_line.new.place)) (after_empty c.args.tail.now c.args.first.now none) c.take_line.ensures.takes

pub returns-then-is_empty-clause-shows : goal.returns-then-is_empty-clause-shows
returns-then-is_empty-clause-shows g c =
    let none : length c.args.tail.now ≡ 0 = search rules in
    subst (λ (t : List ℕ). IfErr c.take_line.result (λ error. Shows g.P.Place.reaches (g.P.Place.refuses c.take_line.new.place) c.args.place.now error t)) (after_empty c.args.tail.now c.args.first.now none) c.take_line.ensures.shows

pub returns-in_err-line-clause-shows : goal.returns-in_err-line-clause-shows
returns-in_err-line-clause-shows g c =
    let p = err_from_is_err_and c.from_residual.result c.from_residual.ensures.1 in
    rw (p.1, p.2) (shows_always g.P.Place.reaches (g.P.Place.refuses c.args.place.now) c.args.place.now (c.args.tail.now ++ c.args.first.now) OutOfMemory (g.met.P.Place.memory c.args.place.now))
