use Rattle.std.proofs.Common.{◌+◌, ◌∷◌, length, ap, ◌∙◌, arith, rules}
use Rattle.std.specs.Prelude.{Some, FitsSigned, slice_set}
use Rattle.std.proofs.lemmas.Int.{to_z-of_z}
use Rattle.std.specs.Int.{w64}
use Rattle.model_file.proofs.PatternLemmas.{row_first, row_none, row_set, row_skip, filled_all, length-filled}
use Rattle.model_file.proofs.pattern_words.joined.Goals as goal
use Rattle.model_file.proofs.pattern_words.joined.Goals.{in-Some, in_default, in-Some-get, in_default-get}

pub loop-i-init : goal.loop-i-init
loop-i-init c = elim c.match-entry.branch [
  | in-Some w ↦
      let fits : FitsSigned w64 w.in-Some.number = search rules in
      row_first c.args.entry (Some w.in-Some.number) c.any-pattern.result c.args.rest.now c.match-entry.pattern c.count.result c.count.ensures.count c.any-pattern.ensures w.in-Some.is (w.pattern-is ∙ w.set.ensures ∙ ap (λ z. slice_set c.any-pattern.result 0 (Some z)) (to_z-of_z w64 w.in-Some.number fits))
  | in_default w ↦ row_none c.args.entry c.any-pattern.result c.args.rest.now c.match-entry.pattern c.count.result c.count.ensures.count c.any-pattern.ensures w.in_default.is w.pattern-is
]

pub set-requires-in-Some-get : goal.set-requires-in-Some-get
set-requires-in-Some-get c =
    let long = ap length c.loop-i.invariant in
    let same = length-filled c.args.rest.now c.loop-i.i in
    omega (arith, long, same, c.count-i-end.ensures.count, c.loop-i-test.true)

pub loop-i-preserved : goal.loop-i-preserved
loop-i-preserved c = elim c.match-get.branch [
  | in-Some-get w ↦
      let fits : FitsSigned w64 w.in-Some-get.number = search rules in
      w.pattern-is ∙ w.set-in-Some-get.ensures ∙ ap (λ z. slice_set c.loop-i.pattern (c.loop-i.i + 1) (Some z)) (to_z-of_z w64 w.in-Some-get.number fits)
      ∙ ap (λ p. slice_set p (c.loop-i.i + 1) (Some w.in-Some-get.number)) c.loop-i.invariant ∙ row_set c.args.entry c.args.rest.now c.loop-i.i (Some w.in-Some-get.number) w.in-Some-get.ensures
  | in_default-get w ↦
      w.pattern-is ∙ c.loop-i.invariant ∙ row_skip c.args.entry c.args.rest.now c.loop-i.i (c.get.ensures ∙ ap Some w.in_default-get.is)
]

pub returns : goal.returns
returns c = c.loop-i.invariant ∙ ap (λ t. c.args.entry ∷ t) (filled_all c.args.rest.now c.loop-i.i (omega (arith, c.count-i-end.ensures.count, c.loop-i-test.false)))
