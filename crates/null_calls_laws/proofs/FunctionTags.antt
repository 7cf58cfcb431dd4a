-- The tags in the body of a function of the instrumented unit.
use Rattle.std.proofs.Common.{◌≡◌, ℕ, Bool, true, false, if◌then◌else◌, ◌&&◌, ◌||◌, List, [], ◌∷◌, ◌++◌, append-nil, refl, ap, sym, subst, ◌∙◌, true≢false}
use Rattle.std.specs.Prelude.{bytes_eq}
use Rattle.std.proofs.lemmas.Slice.Eq.{bytes_eq-Decides}
use Rattle.c_tree.specs.Tree.{CType, integer, array, struct, CTypes, no_types, more_types}
use Rattle.c_tree.specs.Tree as typed
use Rattle.c_syntax.specs.Tree.{Declarator, named, nothing, BlockItems}
use Rattle.c_syntax.specs.Tree as syntax
use Rattle.c_rules.specs.Names.{Name, is_among}
use Rattle.c_rules.specs.Tags.{tags_of_spec, tags_of_declarator, tags_of_params, declares_added, tags_of_stmt, tags_of_block}
use Rattle.c_rules.specs.Functions.{items_of_body}
use Rattle.null_calls_laws.specs.SpelledTypes.{spec_of, declarator_of, params_of}
use Rattle.null_calls_laws.specs.Temporaries.{Temporary, declared_before}
use Rattle.c_rules_laws.proofs.DistinctNames.{itself, among_split, among_first, among_rest, among_left}
use Rattle.null_calls_laws.specs.Spelled.{AreAmong}
use Rattle.null_calls_laws.proofs.Spellings.{spelled_name}
use Rattle.c_tree.specs.declared.value.IntType.TheVariants.{Char}
use Rattle.null_calls_laws.specs.WrittenTypes.{Written, AllWritten}
use Rattle.null_calls_laws.specs.Scopes.{AreWrittenTemporaries}
use Rattle.null_calls_laws.proofs.Declared.{among_both}
use Rattle.null_calls_laws.proofs.Temporaries.{AllFree}

-- ## Lists of names

-- where names of one list stand in another
pub among_each : (us vs : List Name) → ((x : Name) → is_among us x ≡ true → is_among vs x ≡ true) → (xs : List Name) → AreAmong us xs → AreAmong vs xs
among_each us vs f [] h = tt
among_each us vs f (x ∷ xs) h = (f x h.0, among_each us vs f xs h.1)

pub among_itself : (xs : List Name) → AreAmong xs xs
among_itself [] = tt
among_itself (x ∷ xs) = (among_first x x xs (itself x), among_each xs (x ∷ xs) (λ y. among_rest x y xs) xs (among_itself xs))

pub among_front : (ts us xs : List Name) → AreAmong ts xs → AreAmong (ts ++ us) xs
among_front ts us xs h = among_each ts (ts ++ us) (among_left ts us) xs h

-- a name of a list is its first one, or stands behind it
first_or_rest : (P : Type 0) (y x : Name) (ys : List Name) → is_among (y ∷ ys) x ≡ true → (y ≡ x → P) → (is_among ys x ≡ true → P) → P
first_or_rest P y x ys e h k = by_test (bytes_eq y x) refl (sym (among_split y x ys) ∙ e)
  where
    by_test : (t : Bool) → bytes_eq y x ≡ t → (t || is_among ys x) ≡ true → P
    by_test true q r = h ((bytes_eq-Decides y x).0 q)
    by_test false q r = k r

-- a name of the first list stands in the second one
pub is_in : (ts xs : List Name) → AreAmong ts xs → (x : Name) → is_among xs x ≡ true → is_among ts x ≡ true
is_in ts [] h x e = absurd (true≢false (sym e))
is_in ts (y ∷ ys) h x e = first_or_rest (is_among ts x ≡ true) y x ys e (λ q. subst (λ z. is_among ts z ≡ true) q h.0) (is_in ts ys h.1 x)

-- a name of two lists
pub among_cases : (P : Type 0) (xs ys : List Name) (x : Name) → is_among (xs ++ ys) x ≡ true → (is_among xs x ≡ true → P) → (is_among ys x ≡ true → P) → P
among_cases P [] ys x e h k = k e
among_cases P (y ∷ xs) ys x e h k = first_or_rest P y x (xs ++ ys) e (λ q. h (among_first y x xs ((bytes_eq-Decides y x).1 q))) (λ q. among_cases P xs ys x q (λ r. h (among_rest y x xs r)) k)

pub among_on : (ts us xs : List Name) → AreAmong ts us → AreAmong us xs → AreAmong ts xs
among_on ts us xs h k = among_each us ts (is_in ts us h) xs k

-- ## Spellings

module _ (enums tags stood : List Name) (at : ℕ) where
  spec_stands : (t : CType) → Written enums tags stood t → AreAmong stood (tags_of_spec (spec_of tags at t))
  spec_stands (struct s) h = (h.2, tt)
  spec_stands (typed.pointer t) h = spec_stands t h.2
  spec_stands (array t n) h = spec_stands t h.2
  spec_stands (typed.function r ts) h = spec_stands r h.3
  spec_stands (integer Char) h = tt
  spec_stands t h = tt

  mutual
    declarator_stands : (t : CType) (d : Declarator) → Written enums tags stood t → AreAmong stood (tags_of_declarator d) → AreAmong stood (tags_of_declarator (declarator_of tags at t d))
    declarator_stands (typed.pointer t) d h k = declarator_stands t (syntax.pointer at d) h.2 k
    declarator_stands (array t n) d h k = declarator_stands t (syntax.array at d (syntax.there (syntax.an_int at n false))) h.2 (among_both stood (tags_of_declarator d) [] k tt)
    declarator_stands (typed.function r ts) d h k = declarator_stands r (syntax.function at d (params_of tags at ts)) h.3 (among_both stood (tags_of_declarator d) (tags_of_params (params_of tags at ts)) k (params_stand ts h.4))
    declarator_stands t d h k = k

    params_stand : (ts : CTypes) → AllWritten enums tags stood ts → AreAmong stood (tags_of_params (params_of tags at ts))
    params_stand no_types h = tt
    params_stand (more_types t ts) h =
        among_both stood (tags_of_spec (spec_of tags at t)) (tags_of_declarator (declarator_of tags at t nothing) ++ tags_of_params (params_of tags at ts)) (spec_stands t h.2)
        (among_both stood (tags_of_declarator (declarator_of tags at t nothing)) (tags_of_params (params_of tags at ts)) (declarator_stands t nothing h.2 tt) (params_stand ts h.3))

  -- tags in the declarations of temporaries stand before
  pub declared_stand : (xs : List Temporary) (is : BlockItems) → AreWrittenTemporaries enums tags stood xs → AreAmong stood (tags_of_block false is) → AreAmong stood (tags_of_block false (declared_before tags at xs is))
  declared_stand [] is h k = k
  declared_stand (x ∷ xs) is h k =
      let spec : List Name = tags_of_spec (spec_of tags at x.ctype) in
      let d : Declarator = declarator_of tags at x.ctype (named at (record { name = x.name; at = at })) in
      among_both stood (spec ++ (tags_of_declarator d ++ [])) (tags_of_block false (declared_before tags at xs is))
      (among_both stood spec (tags_of_declarator d ++ []) (spec_stands x.ctype h.1) (among_both stood (tags_of_declarator d) [] (declarator_stands x.ctype (named at (record { name = x.name; at = at })) h.1 tt) tt))
      (declared_stand xs is h.2 k)

  -- and are left aside
  pub declared_aside : (xs : List Temporary) (is : BlockItems) → AllFree xs → tags_of_block true (declared_before tags at xs is) ≡ tags_of_block true is
  declared_aside [] is h = refl
  declared_aside (x ∷ xs) is h =
      let spec : List Name = tags_of_spec (spec_of tags at x.ctype) in
      let d : Declarator = declarator_of tags at x.ctype (named at (record { name = x.name; at = at })) in
      let rest : List Name = tags_of_block true (declared_before tags at xs is) in
      ap (λ o. (if true && (declares_added o && true) then [] else spec ++ (tags_of_declarator d ++ ([] ++ []))) ++ rest) (spelled_name tags at x.ctype (named at (record { name = x.name; at = at })))
      ∙ (ap (λ t. (if true && (t && true) then [] else spec ++ (tags_of_declarator d ++ ([] ++ []))) ++ rest) h.0.added ∙ declared_aside xs is h.1)

-- those of a body
pub body_tags : (aside : Bool) (body : syntax.Stmt) → tags_of_block aside (items_of_body body) ≡ tags_of_stmt aside body
body_tags aside (syntax.block at is) = refl
body_tags aside (syntax.empty at) = refl
body_tags aside (syntax.break_off at) = refl
body_tags aside (syntax.continue_on at) = refl
body_tags aside body = append-nil _
