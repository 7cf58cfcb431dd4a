use Rattle.std.proofs.Common.{◌≤◌, ◌+◌, ◌++◌, Err, length, sym, ◌∙◌, ap, subst, arith, length-append}
use Rattle.trace_file.specs.Held.{Held, StandsFor}
use Rattle.trace_file.specs.Trace.{longest}
use Rattle.trace_file.specs.declared.error.TraceError.TheVariants.{OutOfMemory}
use Rattle.trace_file.proofs.PiecesLemmas.{stands_more, never_long, shown_after}
use Rattle.trace_file.proofs.pieces.Pieces.feed.Goals as goal

pub returns-in-Ok-clause-stands : goal.returns-in-Ok-clause-stands
returns-in-Ok-clause-stands g c = λ text items stands.
    let fits : c.self.inside.size + length c.args.piece.now ≤ longest = omega (arith, c.self.invariant.1, c.if-self-piece.false) in
    let held : Held g.row.P.Denot = record { place = c.self.inside.place; tail = c.self.inside.tail.items; size = c.self.inside.size; refused = c.self.inside.refused } in
    stands_more g.P.Place.reaches held c.args.piece.now text items c.take_piece.new.place c.take_piece.new.tail.items c.in-Ok.items.items c.in-Ok.ensures.takes c.in-Ok.ensures.plain fits
    (subst (λ (h : Held g.row.P.Denot). StandsFor g.P.Place.reaches h text items) (sym c.self.view_is) stands)

pub returns-in-Err-clause-shown : goal.returns-in-Err-clause-shown
returns-in-Err-clause-shown g c = λ text items stands.
    let held : Held g.row.P.Denot = record { place = c.self.inside.place; tail = c.self.inside.tail.items; size = c.self.inside.size; refused = c.self.inside.refused } in
    shown_after g.P.Place.reaches held c.args.piece.now text items (g.P.Place.refuses c.take_piece.new.place) c.in-Err.error c.in-Err.ensures.shows
    (subst (λ (h : Held g.row.P.Denot). StandsFor g.P.Place.reaches h text items) (sym c.self.view_is) stands)

pub returns-in-Err-OutOfMemory-clause-shown : goal.returns-in-Err-OutOfMemory-clause-shown
returns-in-Err-OutOfMemory-clause-shown g c = λ text items stands.
    let held : Held g.row.P.Denot = record { place = c.self.inside.place; tail = c.self.inside.tail.items; size = c.self.inside.size; refused = c.self.inside.refused } in
    shown_after g.P.Place.reaches held c.args.piece.now text items (g.P.Place.refuses c.take_piece.new.place) OutOfMemory (rw c.in-Err-OutOfMemory.field-0-is at c.in-Err-OutOfMemory.ensures.shows)
    (subst (λ (h : Held g.row.P.Denot). StandsFor g.P.Place.reaches h text items) (sym c.self.view_is) stands)

pub returns-in-Ok-clause-long : goal.returns-in-Ok-clause-long
returns-in-Ok-clause-long g c = λ text items stands long.
    let fits : c.self.inside.size + length c.args.piece.now ≤ longest = omega (arith, c.self.invariant.1, c.if-self-piece.false) in
    let held : Held g.row.P.Denot = record { place = c.self.inside.place; tail = c.self.inside.tail.items; size = c.self.inside.size; refused = c.self.inside.refused } in
    absurd (never_long g.P.Place.reaches held c.args.piece.now text items fits (subst (λ (h : Held g.row.P.Denot). StandsFor g.P.Place.reaches h text items) (sym c.self.view_is) stands) long)

pub returns-in-Err-OutOfMemory-clause-long : goal.returns-in-Err-OutOfMemory-clause-long
returns-in-Err-OutOfMemory-clause-long g c = λ text items stands long.
    let fits : c.self.inside.size + length c.args.piece.now ≤ longest = omega (arith, c.self.invariant.1, c.if-self-piece.false) in
    let held : Held g.row.P.Denot = record { place = c.self.inside.place; tail = c.self.inside.tail.items; size = c.self.inside.size; refused = c.self.inside.refused } in
    absurd (never_long g.P.Place.reaches held c.args.piece.now text items fits (subst (λ (h : Held g.row.P.Denot). StandsFor g.P.Place.reaches h text items) (sym c.self.view_is) stands) long)

pub returns-in-Err-clause-long : goal.returns-in-Err-clause-long
returns-in-Err-clause-long g c = λ text items stands long.
    let fits : c.self.inside.size + length c.args.piece.now ≤ longest = omega (arith, c.self.invariant.1, c.if-self-piece.false) in
    let held : Held g.row.P.Denot = record { place = c.self.inside.place; tail = c.self.inside.tail.items; size = c.self.inside.size; refused = c.self.inside.refused } in
    absurd (never_long g.P.Place.reaches held c.args.piece.now text items fits (subst (λ (h : Held g.row.P.Denot). StandsFor g.P.Place.reaches h text items) (sym c.self.view_is) stands) long)

pub returns-in-Err-OutOfMemory-clause-memory : goal.returns-in-Err-OutOfMemory-clause-memory
returns-in-Err-OutOfMemory-clause-memory g c = λ _.
    let same = c.take_piece.ensures.memory (c.in-Err-OutOfMemory.is ∙ ap Err c.in-Err-OutOfMemory.field-0-is) in
    (λ i. record { place = same.0 i; tail = same.1 i; size = c.self.inside.size; refused = c.self.inside.refused }) ∙ c.self.view_is

pub returns-then-self-piece-clause-shown : goal.returns-then-self-piece-clause-shown
returns-then-self-piece-clause-shown g c = λ text items stands more short.
    let size = (subst (λ (h : Held g.row.P.Denot). StandsFor g.P.Place.reaches h text items) (sym c.self.view_is) stands).size in
    absurd (omega (arith, size, length-append text c.args.piece.now, length-append (text ++ c.args.piece.now) more, short, c.if-self-piece.true))
