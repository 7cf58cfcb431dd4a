-- The spelling of a type declares it.
use Rattle.std.proofs.Common.{◌≡◌, ℕ, Bool, true, false, not, List, [], None, ap, ◌∙◌, refl}
use Rattle.std.proofs.lemmas.Bool.{false≢true}
use Rattle.std.specs.Prelude.{nat_le, slice_index_or, unwrap_or}
use Rattle.c_tree.specs.declared.value.IntType.TheVariants.{Char}
use Rattle.c_tree.specs.Tree.{CType, void, integer, array, struct, CTypes, no_types, more_types}
use Rattle.c_tree.specs.Tree as typed
use Rattle.c_syntax.specs.Tree.{Declarator, nothing, there, an_int}
use Rattle.c_syntax.specs.Tree as syntax
use Rattle.c_rules.specs.Names.{Name, number_among}
use Rattle.c_rules.specs.Limits.{most_parameters}
use Rattle.c_rules.specs.Types.{is_scalar, is_result, count, adjusted}
use Rattle.c_rules.specs.Scopes.{Env, inside}
use Rattle.c_rules.specs.Checked.{fine, demand, on, both, met}
use Rattle.c_rules.specs.Codes.{C2, C3, C13}
use Rattle.c_rules.specs.Conversions.{few_parts}
use Rattle.c_rules.specs.Declarators.{name_of, place_or, type_of_spec, within_parts, pointer_to, function_of, parameter_of, with_name_demands, behind_parameter}
use Rattle.c_rules.specs.Expressions.{declared, parameters, type_declared}
use Rattle.null_calls_laws.specs.SpelledTypes.{spec_of, declarator_of, params_of}
use Rattle.null_calls_laws.specs.Spelled.{is_pointee, IsSpelled, AreSpelled, SpellingsDeclare}

abbrev is_bare : CType → Bool
is_bare (array t n) = false
is_bare t = true

pointee_bare : (t : CType) → is_pointee t ≡ true → is_bare t ≡ true
pointee_bare (array t n) h = absurd (false≢true h)
pointee_bare t h = refl

result_bare : (t : CType) → is_result t ≡ true → is_bare t ≡ true
result_bare (array t n) h = absurd (false≢true h)
result_bare (struct s) h = absurd (false≢true h)
result_bare (typed.function r ts) h = absurd (false≢true h)
result_bare t h = refl

pub scalar_bare : (t : CType) → is_scalar t ≡ true → is_bare t ≡ true
scalar_bare (integer i) h = refl
scalar_bare (typed.pointer t) h = refl
scalar_bare t h = absurd (false≢true h)

scalar_stays : (t : CType) → is_scalar t ≡ true → adjusted t ≡ t
scalar_stays (integer i) h = refl
scalar_stays (typed.pointer t) h = refl
scalar_stays t h = absurd (false≢true h)

within : (at : ℕ) (t : CType) → few_parts t ≡ true → within_parts at t ≡ fine t
within at t h = ap (λ b. demand b C13 at t) h

pointed : (at : ℕ) (t : CType) → is_pointee t ≡ true → few_parts (typed.pointer t) ≡ true → pointer_to at t ≡ fine (typed.pointer t)
pointed at void h k = absurd (false≢true h)
pointed at (array t n) h k = absurd (false≢true h)
pointed at t h k = within at (typed.pointer t) k

returned : (at : ℕ) (r : CType) (ts : CTypes) → is_result r ≡ true → nat_le (count ts) most_parameters ≡ true → few_parts (typed.function r ts) ≡ true → function_of at r ts ≡ fine (typed.function r ts)
returned at r ts h k f =
    ap (λ b. on (demand b C3 at met) (λ _. on (demand (nat_le (count ts) most_parameters) C13 at met) (λ _. within_parts at (typed.function r ts)))) h ∙ (ap (λ b. on (demand b C13 at met) (λ _. within_parts at (typed.function r ts))) k ∙ within at (typed.function r ts) f)

-- a scalar parameter stays
passed : (at : ℕ) (t : CType) → is_scalar t ≡ true → few_parts t ≡ true → parameter_of at t ≡ fine t
passed at t h f =
    ap (λ u. on (demand (is_scalar u) C3 at met) (λ _. within_parts at u)) (scalar_stays t h) ∙ (ap (λ b. on (demand b C3 at met) (λ _. within_parts at t)) h ∙ within at t f)

pub spelled_name : (tags : List Name) (at : ℕ) (t : CType) (d : Declarator) → name_of (declarator_of tags at t d) ≡ name_of d
spelled_name tags at (typed.pointer t) d = spelled_name tags at t (syntax.pointer at d)
spelled_name tags at (array t n) d = spelled_name tags at t (syntax.array at d (there (an_int at n false)))
spelled_name tags at (typed.function r ts) d = spelled_name tags at r (syntax.function at d (params_of tags at ts))
spelled_name tags at t d = refl

mutual
  pub spelled : (env : Env) (at : ℕ) (t : CType) (d : Declarator) → is_bare t ≡ true → IsSpelled env.enums env.whole.tags t → type_declared env at (spec_of env.whole.tags at t) (declarator_of env.whole.tags at t d) ≡ declared env d t
  spelled env at (struct s) d b h =
      ap (λ c. on (demand (not c) C2 at (struct (unwrap_or (number_among env.whole.tags (slice_index_or env.whole.tags s [])) 0))) (λ t. declared env d t)) h.1 ∙ ap (λ k. declared env d (struct k)) h.0
  spelled env at (typed.pointer t) d b h =
      spelled env at t (syntax.pointer at d) (pointee_bare t h.0) h.2 ∙ ap (λ r. on r (λ u. declared env d u)) (pointed at t h.0 h.1)
  spelled env at (array t n) d b h = absurd (false≢true b)
  spelled env at (typed.function r ts) d b h =
      spelled env at r (syntax.function at d (params_of env.whole.tags at ts)) (result_bare r h.0) h.3 ∙ (ap (λ c. on (on c (function_of at r)) (λ u. declared env d u)) (spelled_parameters (inside env) at 0 ts h.4) ∙ ap (λ c. on c (λ u. declared env d u)) (returned at r ts h.0 h.1 h.2))
  spelled env at (integer Char) d b h = refl
  spelled env at t d b h = refl

  spelled_parameters : (env : Env) (at k : ℕ) (ts : CTypes) → AreSpelled env.enums env.whole.tags ts → parameters env k (params_of env.whole.tags at ts) ≡ fine ts
  spelled_parameters env at k no_types h = refl
  spelled_parameters env at k (more_types t ts) h =
      let tags = env.whole.tags in
      let e : name_of (declarator_of env.whole.tags at t nothing) ≡ None = spelled_name env.whole.tags at t nothing in
      let r = on (on (type_of_spec env at (spec_of env.whole.tags at t)) (λ u. declared env (declarator_of env.whole.tags at t nothing) u)) (parameter_of (place_or at (declarator_of env.whole.tags at t nothing))) in
      let is : r ≡ fine t = ap (λ c. on c (parameter_of (place_or at (declarator_of env.whole.tags at t nothing)))) (spelled env at t nothing (scalar_bare t h.0) h.2) ∙ passed (place_or at (declarator_of env.whole.tags at t nothing)) t h.0 h.1 in
      ap (λ o. both (with_name_demands env o r) (parameters (behind_parameter env k o r) k (params_of env.whole.tags at ts)) (λ t ts. fine (more_types t ts))) e ∙ (ap (λ r. both r (parameters env k (params_of env.whole.tags at ts)) (λ t ts. fine (more_types t ts))) is ∙ ap (λ c. both (fine t) c (λ t ts. fine (more_types t ts))) (spelled_parameters env at k ts h.3))

pub spellings_declare : SpellingsDeclare
spellings_declare env at t d s h = spelled env at t d (scalar_bare t s) h
