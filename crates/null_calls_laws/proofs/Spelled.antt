-- The declarations of temporaries: they have the grammar's forms, what they are written with are tokens, and their nodes stand at most 65
-- deep in each other (C99 6.7.5, 5.2.4.1).
use Rattle.std.proofs.Common.{◌≡◌, ◌⊎◌, inl, inr, ℕ, ◌+◌, ◌≤◌, max, Bool, true, false, List, [], ◌∷◌, refl, true≢false, sym, ◌∙◌, subst, arith}
use Rattle.std.specs.Prelude.{slice_index_or}
use Rattle.std.proofs.lemmas.Bool.{leb-true}
use Rattle.dm_base.specs.Name.{IsName}
use Rattle.c_tree.specs.declared.value.IntType.TheVariants.{Char}
use Rattle.c_tree.specs.Tree.{CType, void, integer, array, struct, CTypes, no_types, more_types}
use Rattle.c_tree.specs.Tree as typed
use Rattle.c_syntax.specs.Tree.{Spec, Declarator, nothing, named, pointer, function, Params, more_params, BlockItems}
use Rattle.c_syntax.specs.Tree as syntax
use Rattle.c_syntax.specs.Grammar.{HasName, AreSome}
use Rattle.c_syntax.specs.Limits.{height_of_declarator, height_of_params, height_of_block_items}
use Rattle.c_syntax_printing.specs.Fine.{IsFineDeclarator, IsParameterList, AreFineParams}
use Rattle.c_syntax_printing.specs.FineUnits.{AreFineBlockItems}
use Rattle.c_rules.specs.Limits.{most_parts}
use Rattle.c_rules.specs.Names.{Name}
use Rattle.c_rules.specs.Types.{is_scalar, is_result, parts, parts_of_all}
use Rattle.null_calls_laws.specs.SpelledTypes.{spec_of, declarator_of, params_of}
use Rattle.null_calls_laws.specs.Temporaries.{Temporary, declared_before, designator_name, argument_name, result_name}
use Rattle.null_calls_laws.specs.Spelled.{is_pointee}
use Rattle.null_calls_laws.specs.MadeTypes.{NotArray}
use Rattle.c_syntax_printing.specs.Writable.{IsWritableSpec, IsWritableDeclarator, AreWritableParams, AreWritableBlockItems}
use Rattle.null_calls_laws.specs.WrittenTypes.{Written, AllWritten}
use Rattle.null_calls_laws.specs.Scopes.{AreWrittenTemporaries, AreOfSites}
use Rattle.null_calls_laws.proofs.NamesAreIdentifiers.{designator_named, argument_named, result_named}
use Rattle.null_calls_laws.proofs.TagsOfUnits.{AllNames, among_named}

-- ## No arrays

not_array : (is : CType → Bool) → ((t : CType) (n : ℕ) → is (array t n) ≡ false) → (t : CType) → is t ≡ true → NotArray t
not_array is isnt (array t n) h = true≢false (sym h ∙ isnt t n)
not_array is isnt t h = tt

-- ## Forms

name_of_site : (x : Temporary) (site i : ℕ) → (x.name ≡ designator_name site) ⊎ ((x.name ≡ argument_name site i) ⊎ (x.name ≡ result_name site)) → IsName x.name
name_of_site x site i (inl e) = subst IsName (sym e) (designator_named site)
name_of_site x site i (inr (inl e)) = subst IsName (sym e) (argument_named site i)
name_of_site x site i (inr (inr e)) = subst IsName (sym e) (result_named site)

abbrev IsThere : Declarator → Type 0
IsThere nothing = ⊥
IsThere d = Unit {0}

module _ (tags : List Name) (at : ℕ) where
  -- what stays so in pointers, arrays and functions
  still : (Q : Declarator → Type 0) → ((d : Declarator) → Q d → Q (pointer at d)) → ((d : Declarator) (n : syntax.Maybe) → Q d → Q (syntax.array at d n)) → ((d : Declarator) (ps : Params) → Q d → Q (function at d ps)) → (t : CType) (d : Declarator) → Q d → Q (declarator_of tags at t d)
  still Q p a f (typed.pointer t) d h = still Q p a f t (pointer at d) (p d h)
  still Q p a f (array t n) d h = still Q p a f t (syntax.array at d (syntax.there (syntax.an_int at n false))) (a d _ h)
  still Q p a f (typed.function t ts) d h = still Q p a f t (function at d (params_of tags at ts)) (f d _ h)
  still Q p a f t d h = h

  -- a parameter isn't void
  some_there : (s : Spec) (d : Declarator) (ps : Params) → IsThere d → AreSome (more_params at s d ps)
  some_there syntax.void nothing ps h = absurd h
  some_there s d ps h = tt

  some_scalar : (t : CType) (ps : Params) → is_scalar t ≡ true → AreSome (more_params at (spec_of tags at t) (declarator_of tags at t nothing) ps)
  some_scalar (integer Char) ps h = tt
  some_scalar (integer i) ps h = tt
  some_scalar (typed.pointer t) ps h = some_there (spec_of tags at t) (declarator_of tags at t (pointer at nothing)) ps (still IsThere (λ d h. tt) (λ d n h. tt) (λ d ps h. tt) t (pointer at nothing) tt)
  some_scalar t ps h = absurd (true≢false (sym h))

module _ (enums tags stood : List Name) (at : ℕ) where
  parameter_list : (ts : CTypes) → AllWritten enums tags stood ts → IsParameterList (params_of tags at ts)
  parameter_list no_types h = tt
  parameter_list (more_types t ts) h = some_scalar tags at t (params_of tags at ts) h.0

  mutual
    fine : (t : CType) (d : Declarator) → Written enums tags stood t → IsFineDeclarator d → IsFineDeclarator (declarator_of tags at t d)
    fine (typed.pointer t) d h f = fine t (pointer at d) h.2 f
    fine (array t n) d h f = fine t (syntax.array at d (syntax.there (syntax.an_int at n false))) h.2 (f, tt)
    fine (typed.function t ts) d h f = fine t (function at d (params_of tags at ts)) h.3 (f, parameter_list ts h.4, fine_params ts h.4)
    fine t d h f = f

    fine_params : (ts : CTypes) → AllWritten enums tags stood ts → AreFineParams (params_of tags at ts)
    fine_params no_types h = tt
    fine_params (more_types t ts) h = (fine t nothing h.2 tt, fine_params ts h.3)

  -- ## Words

  module _ (names : AllNames stood) where
    spec_writes : (t : CType) → Written enums tags stood t → IsWritableSpec (spec_of tags at t)
    spec_writes (integer Char) h = tt
    spec_writes (struct s) h = among_named stood (slice_index_or tags s []) names h.2
    spec_writes (typed.pointer t) h = spec_writes t h.2
    spec_writes (array t n) h = spec_writes t h.2
    spec_writes (typed.function t ts) h = spec_writes t h.3
    spec_writes t h = tt

    mutual
      writes : (t : CType) (d : Declarator) → NotArray t → Written enums tags stood t → IsWritableDeclarator d → IsWritableDeclarator (declarator_of tags at t d)
      writes (typed.pointer t) d n h w = writes t (pointer at d) (not_array is_pointee (λ t n. refl) t h.0) h.2 w
      writes (array t k) d n h w = absurd n
      writes (typed.function t ts) d n h w = writes t (function at d (params_of tags at ts)) (not_array is_result (λ t n. refl) t h.0) h.3 (w, params_write ts h.4)
      writes t d n h w = w

      params_write : (ts : CTypes) → AllWritten enums tags stood ts → AreWritableParams (params_of tags at ts)
      params_write no_types h = tt
      params_write (more_types t ts) h = (spec_writes t h.2, writes t nothing (not_array is_scalar (λ t n. refl) t h.0) h.2 tt, params_write ts h.3)

  -- ## Depth

  mutual
    low : (t : CType) (d : Declarator) → NotArray t → Written enums tags stood t → height_of_declarator (declarator_of tags at t d) ≤ parts t + height_of_declarator d
    low (typed.pointer t) d n h = (let k = low t (pointer at d) (not_array is_pointee (λ t n. refl) t h.0) h.2 in omega (arith, k))
    low (array t k) d n h = absurd n
    low (typed.function t ts) d n h = (let k = low t (function at d (params_of tags at ts)) (not_array is_result (λ t n. refl) t h.0) h.3 in let l = params_low ts h.4 in omega (arith, k, l))
    low t d n h = omega arith

    params_low : (ts : CTypes) → AllWritten enums tags stood ts → height_of_params (params_of tags at ts) ≤ parts_of_all ts
    params_low no_types h = omega arith
    params_low (more_types t ts) h = (let k = low t nothing (not_array is_scalar (λ t n. refl) t h.0) h.2 in let l = params_low ts h.3 in omega (arith, k, l))

  few : (t : CType) → is_scalar t ≡ true → Written enums tags stood t → parts t ≤ 64
  few (integer i) h w = omega arith
  few (typed.pointer t) h w = leb-true (parts (typed.pointer t)) most_parts w.1
  few t h w = absurd (true≢false (sym h))

  -- ## Declarations of temporaries

  pub declared_fine : (xs : List Temporary) (is : BlockItems) → AreWrittenTemporaries enums tags stood xs → AreFineBlockItems is → AreFineBlockItems (declared_before tags at xs is)
  declared_fine [] is h f = f
  declared_fine (x ∷ xs) is h f =
      let d : Declarator = named at (record { name = x.name; at = at }) in
      ((fine x.ctype d h.1 tt, still tags at HasName (λ d h. h) (λ d n h. h) (λ d ps h. h) x.ctype d tt, tt, tt), refl, declared_fine xs is h.2 f)

  pub declared_write : AllNames stood → (lo n : ℕ) (xs : List Temporary) (is : BlockItems) → AreWrittenTemporaries enums tags stood xs → AreOfSites lo n xs → AreWritableBlockItems is → AreWritableBlockItems (declared_before tags at xs is)
  declared_write names lo n [] is h s w = w
  declared_write names lo n (x ∷ xs) is h s w =
      let d : Declarator = named at (record { name = x.name; at = at }) in
      ((spec_writes names x.ctype h.1, (writes names x.ctype d (not_array is_scalar (λ t n. refl) x.ctype h.0) h.1 (name_of_site x s.0.site s.0.argument s.0.named), tt, tt)), declared_write names lo n xs is h.2 s.1 w)

  pub declared_low : (xs : List Temporary) (is : BlockItems) → AreWrittenTemporaries enums tags stood xs → height_of_block_items (declared_before tags at xs is) ≤ max 65 (height_of_block_items is)
  declared_low [] is h = omega arith
  declared_low (x ∷ xs) is h =
      let d : Declarator = named at (record { name = x.name; at = at }) in
      let k = low x.ctype d (not_array is_scalar (λ t n. refl) x.ctype h.0) h.1 in
      let f = few x.ctype h.0 h.1 in
      let l = declared_low xs is h.2 in
      omega (arith, k, f, l)
