-- What specifiers and declarators give is written with tags that stand before.
use Rattle.std.proofs.Common.{◌≡◌, ℕ, zero, true, false, not, List, [], ◌∷◌, ◌++◌, Option, Some, None, is_some, sym, ap, ◌∙◌, subst, refl}
use Rattle.std.specs.Prelude.{nat_le, slice_index_or, unwrap_or}
use Rattle.std.proofs.lemmas.Bool.{false≢true}
use Rattle.c_tree.specs.Tree.{CType, void, integer, array, struct, CTypes, more_types}
use Rattle.c_tree.specs.Tree as typed
use Rattle.c_syntax.specs.Tree.{Ident, Spec, Declarator, Params, no_params, more_params, MaybeInit, no_init, an_init, one, list, Parts, more_parts}
use Rattle.c_syntax.specs.Tree as syntax
use Rattle.c_tree.specs.declared.value.IntType.TheVariants.{Char, Int}
use Rattle.c_rules.specs.Names.{Name, number_among, is_among}
use Rattle.c_rules.specs.Types.{is_scalar, is_result, count, adjusted}
use Rattle.c_rules.specs.Scopes.{Env, inside, tag_number}
use Rattle.c_rules.specs.Checked.{Checked, fine, on}
use Rattle.c_rules.specs.Conversions.{few_parts, complete}
use Rattle.c_rules.specs.Tags.{tags_of_spec, tags_of_maybe, tags_of_declarator, tags_of_params, tags_of_maybe_init, tags_of_parts}
use Rattle.c_rules.specs.Declarators.{name_of, place_or, type_of_spec, within_parts, pointer_to, array_of, function_of, parameter_of, with_name_demands, behind_parameter}
use Rattle.c_rules.specs.Expressions.{declared, size_in, parameters, type_declared}
use Rattle.c_rules.specs.Initialisers.{text_of, text_fits, count_inits}
use Rattle.c_rules.specs.Objects.{Object, sized_by_one, sized_by, with_size, of_known_size, object_of, object_declared}
use Rattle.std.proofs.lemmas.Bool.{not-true}
use Rattle.std.proofs.lemmas.Option.{get_or_from_slice_get}
use Rattle.c_rules_laws.proofs.UnitTable.{name_at}
use Rattle.null_calls_laws.specs.Spelled.{AreAmong, is_pointee}
use Rattle.c_rules_laws.proofs.TypesOfExpressions.{named_holds}
use Rattle.c_rules_laws.proofs.Holding.{each_both, Holds, on_holds, both_hold, demand_holds, behind_demand, after_part}
use Rattle.null_calls_laws.specs.WrittenTypes.{Written, AllWritten}

-- ## Tags

pub among_left : (tags xs ys : List Name) → AreAmong tags (xs ++ ys) → AreAmong tags xs
among_left tags [] ys h = tt
among_left tags (x ∷ xs) ys h = (h.0, among_left tags xs ys h.1)

pub among_right : (tags xs ys : List Name) → AreAmong tags (xs ++ ys) → AreAmong tags ys
among_right tags [] ys h = h
among_right tags (x ∷ xs) ys h = among_right tags xs ys h.1

pub among_both : (tags xs ys : List Name) → AreAmong tags xs → AreAmong tags ys → AreAmong tags (xs ++ ys)
among_both tags = each_both (λ (x : Name). is_among tags x ≡ true)

-- a name at its number
pub found : (tags : List Name) (x : Name) → is_among tags x ≡ true → slice_index_or tags (unwrap_or (number_among tags x) 0) [] ≡ x
found tags x h = by_number (number_among tags x) refl h
  where
    by_number : (o : Option ℕ) → number_among tags x ≡ o → is_some o ≡ true → slice_index_or tags (unwrap_or o 0) [] ≡ x
    by_number None e k = absurd (false≢true k)
    by_number (Some n) e k = get_or_from_slice_get tags n x [] (name_at tags x n e)

module _ (enums tags stood : List Name) where
  abbrev W : CType → Type 0
  W = Written enums tags stood

  abbrev AllW : CTypes → Type 0
  AllW = AllWritten enums tags stood

  -- tags that are known: they have numbers, and stand before
  pub record AreKnownTags (xs : List Name) : Type 0 where
    pub numbered : AreAmong tags xs
    pub stand : AreAmong stood xs

  pub first_tags : (xs ys : List Name) → AreKnownTags (xs ++ ys) → AreKnownTags xs
  first_tags xs ys h = record { numbered = among_left tags xs ys h.numbered; stand = among_left stood xs ys h.stand }

  pub rest_tags : (xs ys : List Name) → AreKnownTags (xs ++ ys) → AreKnownTags ys
  rest_tags xs ys h = record { numbered = among_right tags xs ys h.numbered; stand = among_right stood xs ys h.stand }

  pub both_tags : (xs ys : List Name) → AreKnownTags xs → AreKnownTags ys → AreKnownTags (xs ++ ys)
  both_tags xs ys h k = record { numbered = among_both tags xs ys h.numbered k.numbered; stand = among_both stood xs ys h.stand k.stand }

  -- of a part of a declaration, and of those behind it
  pub part_tags : (s : Spec) (d : Declarator) (m : MaybeInit) (ps : Parts) → AreKnownTags (tags_of_spec s ++ tags_of_parts (more_parts d m ps)) → AreKnownTags (tags_of_spec s ++ tags_of_declarator d) × AreKnownTags (tags_of_spec s ++ tags_of_parts ps)
  part_tags s d m ps h =
      let spec = first_tags (tags_of_spec s) (tags_of_parts (more_parts d m ps)) h in
      let rest = rest_tags (tags_of_spec s) (tags_of_parts (more_parts d m ps)) h in
      let others = rest_tags (tags_of_maybe_init m) (tags_of_parts ps) (rest_tags (tags_of_declarator d) (tags_of_maybe_init m ++ tags_of_parts ps) rest) in
      (both_tags (tags_of_spec s) (tags_of_declarator d) spec (first_tags (tags_of_declarator d) (tags_of_maybe_init m ++ tags_of_parts ps) rest), both_tags (tags_of_spec s) (tags_of_parts ps) spec others)

  -- where these are the enums, and the tags by their numbers
  pub record HasTags (env : Env) : Type 0 where
    pub enums_are : env.enums ≡ enums
    pub tags_are : env.whole.tags ≡ tags

  struct_written : (es ts : List Name) → es ≡ enums → ts ≡ tags → (x : Name) → is_among tags x ≡ true → is_among stood x ≡ true → is_among es x ≡ false → W (struct (unwrap_or (number_among ts x) 0))
  struct_written es ts e f x h k n =
      let q = found tags x h in
      subst (λ zs. W (struct (unwrap_or (number_among zs x) 0))) (sym f)
      (ap (λ y. unwrap_or (number_among tags y) 0) q, ap (is_among enums) q ∙ (ap (λ zs. is_among zs x) (sym e) ∙ n), ap (is_among stood) q ∙ k)

  spec_written : (env : Env) → HasTags env → (at : ℕ) (s : Spec) → AreKnownTags (tags_of_spec s) → Holds W (type_of_spec env at s)
  spec_written env w at (syntax.struct x) h =
      demand_holds W (not (is_among env.enums x.name)) 2 x.at (struct (tag_number env x.name)) (λ q. struct_written env.enums env.whole.tags w.enums_are w.tags_are x.name h.numbered.0 h.stand.0 (not-true (is_among env.enums x.name) q))
  spec_written env w at (syntax.enum x) h = demand_holds W (is_among env.enums x.name) 1 at (integer Int) (λ _. tt)
  spec_written env w at s h = tt

  pointer_as : (at : ℕ) (t : CType) → is_pointee t ≡ true → W t → Holds W (within_parts at (typed.pointer t))
  pointer_as at t b h = demand_holds W (few_parts (typed.pointer t)) 13 at (typed.pointer t) (λ f. (b, f, h))

  pointer_written : (at : ℕ) (t : CType) → W t → Holds W (pointer_to at t)
  pointer_written at void h = tt
  pointer_written at (array t n) h = tt
  pointer_written at t h = pointer_as at t refl h

  array_as : (env : Env) (at : ℕ) (t : CType) (n : ℕ) → is_pointee t ≡ true → W t → Holds W (on (complete env at t) (λ _. within_parts at (array t n)))
  array_as env at t n b h = after_part W (complete env at t) (λ _. within_parts at (array t n)) (λ _. demand_holds W (few_parts (array t n)) 13 at (array t n) (λ f. (b, f, h)))

  array_written : (env : Env) (at : ℕ) (t : CType) (n : ℕ) → W t → Holds W (array_of env at t n)
  array_written env at (integer i) n h = array_as env at (integer i) n refl h
  array_written env at (typed.pointer t) n h = array_as env at (typed.pointer t) n refl h
  array_written env at (struct s) n h = array_as env at (struct s) n refl h
  array_written env at t n h = tt

  function_written : (at : ℕ) (r : CType) (ts : CTypes) → W r → AllW ts → Holds W (function_of at r ts)
  function_written at r ts h k =
      behind_demand W (is_result r) 3 at _ (λ a. behind_demand W (nat_le (count ts) 16) 13 at _ (λ b. demand_holds W (few_parts (typed.function r ts)) 13 at (typed.function r ts) (λ f. (a, b, f, h, k))))

  abbrev Parameter : CType → Type 0
  Parameter t = (is_scalar t ≡ true) × (few_parts t ≡ true) × W t

  adjusted_written : (t : CType) → few_parts (adjusted t) ≡ true → W t → W (adjusted t)
  adjusted_written (typed.function r ts) f h = (refl, f, h)
  adjusted_written t f h = h

  parameter_written : (at : ℕ) (t : CType) → W t → Holds Parameter (parameter_of at t)
  parameter_written at t h = behind_demand Parameter (is_scalar (adjusted t)) 3 at _ (λ s. demand_holds Parameter (few_parts (adjusted t)) 13 at (adjusted t) (λ f. (s, f, adjusted_written t f h)))

  behind_tags : (env : Env) → HasTags env → (k : ℕ) (o : Option Ident) (r : Checked CType) → HasTags (behind_parameter env k o r)
  behind_tags env w k None r = w
  behind_tags env w k (Some x) r = record { enums_are = w.enums_are; tags_are = w.tags_are }

  mutual
    declared_written : (d : Declarator) (env : Env) → HasTags env → (t : CType) → AreKnownTags (tags_of_declarator d) → W t → Holds W (declared env d t)
    declared_written (syntax.pointer at d) env w t m h = on_holds W W (pointer_to at t) (λ u. declared env d u) (pointer_written at t h) (λ u k. declared_written d env w u m k)
    declared_written (syntax.array at d size) env w t m h =
        on_holds W W (on (size_in env size) (array_of env at t)) (λ u. declared env d u) (after_part W (size_in env size) (array_of env at t) (λ n. array_written env at t n h)) (λ u k. declared_written d env w u (first_tags (tags_of_declarator d) (tags_of_maybe size) m) k)
    declared_written (syntax.function at d ps) env w t m h =
        on_holds W W (on (parameters (inside env) 0 ps) (function_of at t)) (λ u. declared env d u)
        (on_holds AllW W (parameters (inside env) 0 ps) (function_of at t) (parameters_written ps (inside env) (record { enums_are = w.enums_are; tags_are = w.tags_are }) 0 (rest_tags (tags_of_declarator d) (tags_of_params ps) m)) (λ ts k. function_written at t ts h k))
        (λ u k. declared_written d env w u (first_tags (tags_of_declarator d) (tags_of_params ps) m) k)
    declared_written d env w t m h = h

    parameters_written : (ps : Params) (env : Env) → HasTags env → (k : ℕ) → AreKnownTags (tags_of_params ps) → Holds AllW (parameters env k ps)
    parameters_written no_params env w k m = tt
    parameters_written (more_params at s d ps) env w k m =
        let r : Checked CType = on (on (type_of_spec env at s) (λ t. declared env d t)) (parameter_of (place_or at d)) in
        let rest : AreKnownTags (tags_of_declarator d ++ tags_of_params ps) = rest_tags (tags_of_spec s) (tags_of_declarator d ++ tags_of_params ps) m in
        both_hold Parameter AllW AllW (with_name_demands env (name_of d) r) (parameters (behind_parameter env k (name_of d) r) k ps) (λ t ts. fine (more_types t ts))
        (named_holds Parameter env (name_of d) r (on_holds W Parameter (on (type_of_spec env at s) (λ t. declared env d t)) (parameter_of (place_or at d))
        (on_holds W W (type_of_spec env at s) (λ t. declared env d t) (spec_written env w at s (first_tags (tags_of_spec s) (tags_of_declarator d ++ tags_of_params ps) m)) (λ t h. declared_written d env w t (first_tags (tags_of_declarator d) (tags_of_params ps) rest) h)) (λ t h. parameter_written (place_or at d) t h)))
        (parameters_written ps (behind_parameter env k (name_of d) r) (behind_tags env w k (name_of d) r) k (rest_tags (tags_of_declarator d) (tags_of_params ps) rest))
        (λ t ts h l. (h.0, h.1, h.2, l))

  pub type_written : (env : Env) → HasTags env → (at : ℕ) (s : Spec) (d : Declarator) → AreKnownTags (tags_of_spec s ++ tags_of_declarator d) → Holds W (type_declared env at s d)
  type_written env w at s d m =
      on_holds W W (type_of_spec env at s) (declared env d) (spec_written env w at s (first_tags (tags_of_spec s) (tags_of_declarator d) m)) (λ t h. declared_written d env w t (rest_tags (tags_of_spec s) (tags_of_declarator d) m) h)

  -- ## Objects

  sized_one_written : (at : ℕ) (t : CType) (text : Option (List ℕ)) (n : ℕ) → W (array t n) → Holds W (sized_by_one at t text)
  sized_one_written at (integer Char) (Some w) n h = h
  sized_one_written at t text n h = tt

  sized_written : (name : ℕ) (t : CType) (m : MaybeInit) (n : ℕ) → W (array t n) → Holds W (sized_by name t m)
  sized_written name t no_init n h = tt
  sized_written name t (an_init (one at e)) n h = after_part W (text_fits at (text_of e)) (λ _. sized_by_one at t (text_of e)) (λ _. sized_one_written at t (text_of e) n h)
  sized_written name t (an_init (list at is)) n h = demand_holds W _ 13 name (array t (count_inits is)) (λ _. h)

  pub with_size_written : (name : ℕ) (m : MaybeInit) (t : CType) → W t → Holds W (with_size name m t)
  with_size_written name m (array t zero) h = sized_written name t m 0 h
  with_size_written name m t h = h

  abbrev pub ObjectWritten : Object → Type 0
  ObjectWritten o = W o.seen × W o.whole

  pub object_written : (env : Env) → HasTags env → (at : ℕ) (s : Spec) (d : Declarator) (x : Ident) (m : MaybeInit) → AreKnownTags (tags_of_spec s ++ tags_of_declarator d) → Holds ObjectWritten (object_declared env at s d x m)
  object_written env w at s d x m k =
      on_holds W ObjectWritten (type_declared env at s d) (object_of env (place_or at d) x.at m) (type_written env w at s d k)
      (λ t h. on_holds W ObjectWritten (with_size x.at m t) (λ u. on (of_known_size env (place_or at d) x.at u) (λ v. fine (record { seen = t; whole = v }))) (with_size_written x.at m t h)
      (λ u g. on_holds W ObjectWritten (of_known_size env (place_or at d) x.at u) (λ v. fine (record { seen = t; whole = v }))
      (after_part W (complete env (place_or at d) u) _ (λ _. demand_holds W _ 13 x.at u (λ _. g))) (λ v l. (h, l))))
