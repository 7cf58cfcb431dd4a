use Rattle.std.proofs.Common.{◌≡◌, Contains, sym}
use Rattle.inline_model.specs.Searching.{Enters}
use Rattle.inline_model.proofs.HeightLemmas.{next_like, next_none, enters_call, call_enters, enters_nothing, enters_start, start_enters}
use Rattle.inline_model.proofs.reading.next_opened.Goals as goal

pub returns-in_default : goal.returns-in_default
returns-in_default c =
    next_like c.args.model.now c.args.heights.now c.args.from {F = λ f. f ≡ c.start.result} {G = Enters c.args.model.now c.args.opener}
    (enters_start c.args.model.now c.args.opener c.start.result c.in_default.is c.start.ensures.start)
    (start_enters c.args.model.now c.args.opener c.start.result c.in_default.is c.start.ensures.start)
    c.next_of.result (c.next_of.ensures c.args.model.now c.requires)

pub returns-in_default-call_of : goal.returns-in_default-call_of
returns-in_default-call_of c =
    next_none c.args.model.now c.args.heights.now c.args.from {F = Enters c.args.model.now c.args.opener} (enters_nothing c.args.model.now c.args.opener c.in-Some.place c.in-Some.is (sym c.in_default-call_of.ensures))

pub returns : goal.returns
returns c =
    let call = c.in-Some-call_of.call.now in
    next_like c.args.model.now c.args.heights.now c.args.from {F = Contains c.candidates.result.now} {G = Enters c.args.model.now c.args.opener}
    (enters_call c.args.model.now c.args.opener c.in-Some.place call c.candidates.result.now c.in-Some.is (sym c.in-Some-call_of.ensures) c.candidates.ensures)
    (call_enters c.args.model.now c.args.opener c.in-Some.place call c.candidates.result.now c.in-Some.is (sym c.in-Some-call_of.ensures) c.candidates.ensures)
    c.next_among.result (c.next_among.ensures c.args.model.now c.requires)
