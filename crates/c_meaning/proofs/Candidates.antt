-- Each function that a call calls is a candidate of its site, since each site stands once.
use Rattle.std.proofs.Common.{◌≡◌, ℕ, ◌+◌, ◌<◌, true, ◌&&◌, [], map, Contains, Some, length-append, sym, ap₂, ◌∙◌, subst, refl, arith}
use Rattle.std.proofs.lemmas.Option.{slice_get_within}
use Rattle.c_tree.specs.declared.value.Value.TheVariants.{Func}
use Rattle.c_tree.specs.Tree.{CType, pointer, Program}
use Rattle.c_tree.specs.Functions.{sys_types, defined, type_of_defined, value_types, value_type}
use Rattle.c_tree.specs.Kinds.{Objects}
use Rattle.c_meaning.specs.Mentions.{Direct, Through, Calls, mentions_of_program}
use Rattle.c_meaning.specs.CallGraph.{is_taken, is_typed, functions_of, callees, called_where, candidates}
use Rattle.c_meaning.proofs.SameTypes.{types_tell}
use Rattle.c_meaning.specs.StoreTyping.{HasKind}
use Rattle.c_meaning.specs.Callees.{CalleesAreCandidates}
use Rattle.c_meaning.proofs.Keeps.{sys_many}
use Rattle.c_meaning.proofs.Members.{and_both, in_filter, in_range, is_first, length_map}
use Rattle.c_meaning.proofs.SitesSaid.{callee_found}

-- an address-taken function of the type is a candidate
taken_candidate : (p : Program) (f : ℕ) (t u : CType) → t ≡ pointer u → value_type p f ≡ Some u → is_taken p f ≡ true → Contains (callees p (Through t)) f
taken_candidate p f t u e v taken =
    in_filter (λ f. is_taken p f && is_typed t (value_type p f)) (functions_of p) f (in_range 0 (defined p + 24) f (omega arith) within) (and_both (is_taken p f) (is_typed t (value_type p f)) taken typed)
  where
    typed : is_typed t (value_type p f) ≡ true
    typed = ap₂ is_typed e v ∙ (types_tell u u).1 refl

    within : f < 0 + (defined p + 24)
    within =
        let less = slice_get_within (value_types p) f u v in
        let long = length-append (map type_of_defined p.functions) sys_types in
        let many = length_map type_of_defined p.functions in
        omega (arith, less, long, many, sys_many)

pub callees_are_candidates : CalleesAreCandidates
callees_are_candidates p n h = (direct, through)
  where
    direct : (s f : ℕ) → Contains (mentions_of_program p) (Calls s (Direct f)) → Contains (candidates p s) f
    direct s f k = subst (λ c. Contains (called_where p c) f) (sym (callee_found p n h s (Direct f) k)) (is_first f [])

    through : (s f : ℕ) (t : CType) (o : Objects) → Contains (mentions_of_program p) (Calls s (Through t)) → HasKind p o t (Func f) → Contains (candidates p s) f
    through s f t o k g = subst (λ c. Contains (called_where p c) f) (sym (callee_found p n h s (Through t) k)) (taken_candidate p f t g.0 g.1 g.2 g.3)
