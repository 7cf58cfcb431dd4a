-- The laws on the rules, from the lemma on each of them.
use Rattle.null_calls_laws.specs.ExpressionLaws.{OperandsFollow, PairsFollow, ChoicesFollow}
use Rattle.null_calls_laws.proofs.Operands.{valued_follows}
use Rattle.null_calls_laws.proofs.Unary.{assignable_follows, member_follows, address_follows, indirection_follows, unary_value_follows, cast_of_follows, null_cast_follows}
use Rattle.null_calls_laws.proofs.Binary.{sum_follows, infix_follows, assignment_by_follows, step_follows, choice_follows}

pub operands_follow : OperandsFollow
operands_follow p k ts g x h = record {
  values = λ env at. valued_follows p env at k ts g x h;
  places = λ at. assignable_follows p k ts at g x h;
  members = λ env at y. member_follows p k ts env at y g x h;
  addresses = λ at place. address_follows p k ts at place g x h;
  indirections = λ at. indirection_follows p k ts at g x h;
  unary_operators = λ at code. unary_value_follows p k ts at code g x h;
  casts = λ at t n. cast_of_follows p k ts at t g x n h;
  null_casts = λ at. null_cast_follows p k ts at g x h;
  steps = λ env at op old. step_follows p k ts env at op old g x h;
}

pub pairs_follow : PairsFollow
pairs_follow p k ts us a b x y g h = record {
  sums = λ env at. sum_follows p k ts us env at a b x y g h;
  operators = λ env at op. infix_follows p k ts us env at op a b x y g h;
  assignments = λ env at code. assignment_by_follows p k ts us env at code a b x y g h;
}

pub choices_follow : ChoicesFollow
choices_follow p k zs ts us at c a b w x y f g h = choice_follows p k zs ts us at c a b w x y f g h
