use Rattle.std.proofs.Common.{◌≡◌, Contains, refl, sym}
use Rattle.inline_model.specs.Searching.{Enters}
use Rattle.inline_model.proofs.HeightLemmas.{completes_like, completes_none, enters_call, call_enters, enters_nothing, enters_start, start_enters, stays_same}
use Rattle.inline_model.proofs.reading.complete.Goals as goal

pub complete_one-requires-clause-ready : goal.complete_one-requires-clause-ready
complete_one-requires-clause-ready c = c.requires.ready c.start.result (enters_start c.args.model.now c.args.opener c.start.result c.in_default.is c.start.ensures.start c.start.result refl)

pub complete_each-requires-clause-ready : goal.complete_each-requires-clause-ready
complete_each-requires-clause-ready c = λ f has. c.requires.ready f (enters_call c.args.model.now c.args.opener c.in-Some.place c.in-Some-call_of.call.now c.candidates.result.now c.in-Some.is (sym c.in-Some-call_of.ensures) c.candidates.ensures f has)

pub returns-in_default-clause-completes : goal.returns-in_default-clause-completes
returns-in_default-clause-completes c = λ right.
    completes_like {F = λ f. f ≡ c.start.result} {G = Enters c.args.model.now c.args.opener} c.args.model.now c.args.heights.now c.complete_one.new.heights
    (enters_start c.args.model.now c.args.opener c.start.result c.in_default.is c.start.ensures.start)
    (start_enters c.args.model.now c.args.opener c.start.result c.in_default.is c.start.ensures.start)
    (c.complete_one.ensures.completes c.args.model.now c.requires.entries right)

pub returns-in_default-call_of-clause-completes : goal.returns-in_default-call_of-clause-completes
returns-in_default-call_of-clause-completes c = λ right.
    completes_none {F = Enters c.args.model.now c.args.opener} c.args.model.now c.args.heights.now right (enters_nothing c.args.model.now c.args.opener c.in-Some.place c.in-Some.is (sym c.in_default-call_of.ensures))

pub returns-in_default-call_of-clause-stays : goal.returns-in_default-call_of-clause-stays
returns-in_default-call_of-clause-stays c = stays_same c.args.heights.now c.requires.low

pub returns-clause-completes : goal.returns-clause-completes
returns-clause-completes c = λ right.
    let call = c.in-Some-call_of.call.now in
    completes_like {F = Contains c.candidates.result.now} {G = Enters c.args.model.now c.args.opener} c.args.model.now c.args.heights.now c.complete_each.new.heights
    (enters_call c.args.model.now c.args.opener c.in-Some.place call c.candidates.result.now c.in-Some.is (sym c.in-Some-call_of.ensures) c.candidates.ensures)
    (call_enters c.args.model.now c.args.opener c.in-Some.place call c.candidates.result.now c.in-Some.is (sym c.in-Some-call_of.ensures) c.candidates.ensures)
    (c.complete_each.ensures.completes c.args.model.now c.requires.entries right)
