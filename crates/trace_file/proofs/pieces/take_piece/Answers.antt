use Rattle.std.proofs.Common.{ℕ, List, [], ◌++◌, ◌∙◌, refl, sym, ap, subst, append_assoc}
use Rattle.std.proofs.lemmas.Result.{err_from_is_err_and}
use Rattle.trace_file.specs.declared.error.TraceError.TheVariants.{OutOfMemory}
use Rattle.trace_file.specs.Pieces.{Shows, HasTaken}
use Rattle.trace_file.proofs.PiecesLemmas.{nothing_taken, both_plain, shows_always}
use Rattle.trace_file.proofs.pieces.take_piece.Goals as goal

pub returns-in-Err-clause-shows : goal.returns-in-Err-clause-shows
returns-in-Err-clause-shows g c =
    subst (λ (t : List ℕ). Shows g.P.Place.reaches (g.P.Place.refuses c.take_from.new.place) c.args.place.now c.in-Err.error t)
    (append_assoc c.deref.result.now c.in-Some.first.now c.in-Some.after.now ∙ ap (λ (t : List ℕ). c.deref.result.now ++ t) (sym c.in-Some.ensures.parts) ∙ ap (λ (t : List ℕ). t ++ c.args.piece.now) c.deref.ensures.value)
    c.in-Err.ensures.shows

pub returns-in-Ok-clause-takes : goal.returns-in-Ok-clause-takes
returns-in-Ok-clause-takes g c =
    subst (λ (t : List ℕ). HasTaken g.P.Place.reaches c.args.place.now t c.in-Ok.left.items [] c.in-Ok.items.items c.take_from.new.place)
    (append_assoc c.deref.result.now c.in-Some.first.now c.in-Some.after.now ∙ ap (λ (t : List ℕ). c.deref.result.now ++ t) (sym c.in-Some.ensures.parts) ∙ ap (λ (t : List ℕ). t ++ c.args.piece.now) c.deref.ensures.value)
    c.in-Ok.ensures.takes

pub returns-in_ok-extend_from_slice-in-None-clause-takes : goal.returns-in_ok-extend_from_slice-in-None-clause-takes
returns-in_ok-extend_from_slice-in-None-clause-takes g c =
    nothing_taken g.P.Place.reaches c.args.place.now (c.args.tail.now.items ++ c.args.piece.now) c.extend_from_slice.new.self.items c.new.result.items c.in_ok-extend_from_slice-in-None.ensures.items c.new.ensures.items

pub returns-in_ok-extend_from_slice-in-None-clause-plain : goal.returns-in_ok-extend_from_slice-in-None-clause-plain
returns-in_ok-extend_from_slice-in-None-clause-plain g c =
    both_plain c.args.tail.now.items c.args.piece.now c.extend_from_slice.new.self.items c.in_ok-extend_from_slice-in-None.ensures.items c.requires c.in-None.ensures

pub returns-in_err-extend_from_slice-in-None-clause-shows : goal.returns-in_err-extend_from_slice-in-None-clause-shows
returns-in_err-extend_from_slice-in-None-clause-shows g c =
    let p = err_from_is_err_and c.from_residual.result c.from_residual.ensures.1 in
    rw (p.1, p.2) (shows_always g.P.Place.reaches (g.P.Place.refuses c.args.place.now) c.args.place.now (c.args.tail.now.items ++ c.args.piece.now) OutOfMemory (g.met.P.Place.memory c.args.place.now))

pub returns-in-Err-OutOfMemory-clause-shows : goal.returns-in-Err-OutOfMemory-clause-shows
returns-in-Err-OutOfMemory-clause-shows g c =
    shows_always g.P.Place.reaches (g.P.Place.refuses c.restore.new.self) c.args.place.now (c.args.tail.now.items ++ c.args.piece.now) OutOfMemory (g.met.P.Place.memory c.restore.new.self)

pub returns-in-Err-OutOfMemory-clause-memory : goal.returns-in-Err-OutOfMemory-clause-memory
returns-in-Err-OutOfMemory-clause-memory g c = λ _.
    (c.restore.ensures c.args.place.now (c.take_from.ensures.marks c.mark-mark.result c.args.place.now c.mark-mark.ensures), refl)
