use Rattle.std.proofs.Common.{◌+◌, ◌≤◌, length, take, get_or, Contains, sym, subst, arith}
use Rattle.std.proofs.lemmas.List.{get_or_default, take_all}
use Rattle.inline_model.specs.Searching.{IsNext}
use Rattle.inline_model.proofs.HeightLemmas.{next_more}
use Rattle.inline_model.proofs.reading.next_among.Goals as goal

pub loop-function-preserved : goal.loop-function-preserved
loop-function-preserved c = λ g are.
    let functions = c.args.functions.now in
    let k = c.loop-function.function-index in
    let f = get_or functions k 0 in
    subst (IsNext g c.args.heights.now (Contains (take (k + 1) functions)) c.args.from) (sym c.lesser_of-least.ensures)
    (next_more g c.args.heights.now c.args.from functions k f c.loop-function.least c.next_of.result c.loop-function-test.true (get_or_default functions k 0 f c.loop-function-test.true) (c.loop-function.invariant g are) (c.next_of.ensures g are))

pub returns : goal.returns
returns c = λ g are.
    let over : length c.args.functions.now ≤ c.loop-function.function-index = omega (arith, c.loop-function-test.false) in
    subst (λ fs. IsNext g c.args.heights.now (Contains fs) c.args.from c.loop-function.least) (take_all c.loop-function.function-index c.args.functions.now over) (c.loop-function.invariant g are)
