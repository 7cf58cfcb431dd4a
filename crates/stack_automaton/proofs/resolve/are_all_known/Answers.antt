use Rattle.std.proofs.Common.{Contains, subst, sym, inl, inr, arith, rules}
use Rattle.std.proofs.lemmas.Bool.{cases_eq}
use Rattle.stack_automaton.proofs.resolve.are_all_known.Goals as goal

pub loop-place-preserved : goal.loop-place-preserved
loop-place-preserved c = λ i lt. elim (cases_eq i c.loop-place.place) as (λ _. Contains c.args.known.now.keys i) [
  | inl e ↦ subst (Contains c.args.known.now.keys) (sym e) (c.is_among.ensures.0 (search rules))
  | inr ne ↦ c.loop-place.invariant i (omega (arith, ne, lt))
]
