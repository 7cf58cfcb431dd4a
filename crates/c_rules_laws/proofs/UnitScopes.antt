-- A scope at file scope is right in the program that is made of the unit: what its names mean is what they mean behind all items.
use Rattle.std.proofs.Common.{◌≡◌, inl, ℕ, suc, ◌+◌, ◌<◌, Bool, true, false, if◌then◌else◌, List, [], ◌∷◌, ◌++◌, map, length, append_assoc, Option, Some, None, slice_get, refl, ap, sym, subst, ◌∙◌, arith}
use Rattle.std.specs.Prelude.{option_map, is_some, bytes_eq}
use Rattle.std.proofs.lemmas.Option.{slice_get-map}
use Rattle.std.proofs.lemmas.List.{length-map}
use Rattle.dm_base.specs.declared.mode.Mode.{Mode}
use Rattle.dm_base.specs.declared.mode.Mode.TheVariants.{Plain, Instrumented}
use Rattle.c_tree.specs.Tree.{CType, Function, Program}
use Rattle.c_tree.specs.Functions.{sys_types, null_types, type_of_defined, value_types, called_types, value_type, called_type}
use Rattle.c_tree.specs.Typed.{IsStaticOf}
use Rattle.c_rules.specs.Names.{Name, number_among, is_among, system_calls, null_calls, given_names, given_types}
use Rattle.c_rules.specs.Scopes.{Env, Binding, Meaning, a_static, a_function, an_enumerator, lookup, layout_of}
use Rattle.c_rules.specs.PrimaryExpressions.{object_number, given_number, number_or}
use Rattle.c_rules_laws.specs.RightScopes.{MeaningRight, IsRight}
use Rattle.c_rules_laws.specs.SoundStructs.{AreSound, Grows}
use Rattle.c_rules_laws.specs.RightScopes.{IsThing}
use Rattle.c_rules_laws.proofs.RightTypedExpressions.{complete_thing}
use Rattle.c_meaning.proofs.Places.{get_left, get_right, get_before}
use Rattle.c_rules_laws.proofs.RightExpressions.{number_below}
use Rattle.c_rules_laws.proofs.FileScopes.{FileMeaning, IsFileRight, Agrees, Follows}
use Rattle.c_rules.proofs.BelowUnits.{twenty_four}

-- what the names mean behind all items is what the program has
pub record IsTable (p : Program) (last : Env) : Type 0 where
  pub sound : AreSound p.structs
  pub laid : layout_of last ≡ p.structs
  pub long : length p.functions ≡ length last.whole.functions
  pub functions : (x : Name) (b : Binding) (t : CType) (d : Bool) (i : ℕ) → lookup last.names x ≡ Some b → b.means ≡ a_function t d → number_among last.whole.functions x ≡ Some i → (f : Function) × (slice_get p.functions i ≡ Some f) × (f.ctype ≡ t)
  pub objects : (x : Name) (b : Binding) (s t : CType) (d : Bool) (n : ℕ) → lookup last.names x ≡ Some b → b.means ≡ a_static s t d → number_among last.whole.objects x ≡ Some n → IsStaticOf p false n t

-- ## Numbers of given functions

as_many : length sys_types ≡ 24
unfolding sys_types
as_many = refl

pub suc_some : (o : Option ℕ) (j : ℕ) → option_map suc o ≡ Some j → (k : ℕ) × (o ≡ Some k) × (j ≡ suc k)
suc_some None j e = absurd (let q : None ≡ Some j = e in cc)
suc_some (Some k) j e = (k, refl, (let q : Some (suc k) ≡ Some j = e in cc))

-- a name of the first list
first_list : (xs ys : List Name) (x : Name) (j : ℕ) → number_among (xs ++ ys) x ≡ Some j → is_among ys x ≡ false → number_among xs x ≡ Some j
first_list [] ys x j e f = absurd (let q : is_some (Some j) ≡ false = subst (λ o. is_some o ≡ false) e f in cc)
first_list (y ∷ xs) ys x j e f = by_test (bytes_eq y x) (λ k. first_list xs ys x k) e
  where
    by_test : (b : Bool) → ((k : ℕ) → number_among (xs ++ ys) x ≡ Some k → is_among ys x ≡ false → number_among xs x ≡ Some k) → (if b then Some 0 else option_map suc (number_among (xs ++ ys) x)) ≡ Some j → (if b then Some 0 else option_map suc (number_among xs x)) ≡ Some j
    by_test true h q = q
    by_test false h q = (let k = suc_some (number_among (xs ++ ys) x) j q in ap (option_map suc) (h k.0 k.1 f) ∙ ap Some (sym k.2))

module _ (p : Program) where
  defined_value : (i : ℕ) (f : Function) → slice_get p.functions i ≡ Some f → value_type p i ≡ Some f.ctype
  defined_value i f e = get_left (map type_of_defined p.functions) sys_types i f.ctype (slice_get-map type_of_defined p.functions i ∙ ap (option_map type_of_defined) e)

  value_called : (i : ℕ) (t : CType) → value_type p i ≡ Some t → called_type p i ≡ Some t
  value_called i t e = get_left (value_types p) null_types i t e

  many : length (map type_of_defined p.functions) ≡ length p.functions
  many = length-map p.functions type_of_defined

  system_value : (i : ℕ) (t : CType) → slice_get sys_types i ≡ Some t → value_type p (length p.functions + i) ≡ Some t
  system_value i t e = ap (λ n. slice_get (value_types p) (n + i)) (sym many) ∙ (get_right (map type_of_defined p.functions) sys_types i ∙ e)

  given_called : (m : Mode) (i : ℕ) (t : CType) → slice_get (given_types m) i ≡ Some t → called_type p (length p.functions + i) ≡ Some t
  given_called Plain i t e = value_called (length p.functions + i) t (system_value i t e)
  given_called Instrumented i t e =
      ap (λ n. slice_get (called_types p) (n + i)) (sym many)
      ∙ (ap (λ ts. slice_get ts (length (map type_of_defined p.functions) + i)) (append_assoc (map type_of_defined p.functions) sys_types null_types)
      ∙ (get_right (map type_of_defined p.functions) (sys_types ++ null_types) i ∙ e))

  given_value : (m : Mode) (x : Name) (i : ℕ) (t : CType) → number_among (given_names m) x ≡ Some i → is_among null_calls x ≡ false → slice_get (given_types m) i ≡ Some t → value_type p (length p.functions + i) ≡ Some t
  given_value Plain x i t n q e = system_value i t e
  given_value Instrumented x i t n q e =
      let b = number_below system_calls x i (first_list system_calls null_calls x i n q) in
      let c = twenty_four in
      let d = as_many in
      let l : i < length sys_types = omega (arith, b, c, d) in
      system_value i t (sym (get_before sys_types null_types i l) ∙ e)

  -- the number of a function
  by_number : (P : ℕ → Type 0) (n : ℕ) (o q : Option ℕ) (f : ℕ) → number_or o (q) ≡ Some f → ((i : ℕ) → o ≡ Some i → P i) → (q ≡ Some f → P f) → P f
  by_number P n None q f e h k = k e
  by_number P n (Some i) q f e h k = subst P (let r : Some i ≡ Some f = e in cc) (h i refl)

  given_is : (env : Env) (o : Option ℕ) (f : ℕ) → given_number env o ≡ Some f → (i : ℕ) × (o ≡ Some i) × (length env.whole.functions + i ≡ f)
  given_is env None f e = absurd (let q : None ≡ Some f = e in cc)
  given_is env (Some i) f e = (i, refl, (let q : Some (length env.whole.functions + i) ≡ Some f = e in cc))

  module _ (vars : List CType) (env last : Env) (w : IsFileRight env) (g : Follows env last) (t : IsTable p last) where
    same_functions : env.whole.functions ≡ last.whole.functions
    same_functions = ap (λ w. w.functions) (sym g.whole)

    long_here : length p.functions ≡ length env.whole.functions
    long_here = t.long ∙ ap length (sym same_functions)

    function_at : (x : Name) (b : Binding) (u : CType) (d : Bool) → lookup env.names x ≡ Some b → b.means ≡ a_function u d → (i : ℕ) → number_among env.whole.functions x ≡ Some i → value_type p i ≡ Some u
    function_at x b u d e m i n = (let l = g.later x b e in by_later l.0 l.1 (l.0.means) refl (subst (λ z. Agrees z l.0.means) m l.2))
      where
        by_later : (l : Binding) → lookup last.names x ≡ Some l → (z : Meaning) → l.means ≡ z → Agrees (a_function u d) z → value_type p i ≡ Some u
        by_later l k (a_function v c) q a =
            let f = t.functions x l v c i k q (subst (λ fs. number_among fs x ≡ Some i) same_functions n) in
            defined_value i f.0 f.1 ∙ ap Some (f.2 ∙ sym a.0)
        by_later l k z q a = absurd a

    pub object_at : (x : Name) (b : Binding) (s u : CType) (d : Bool) → lookup env.names x ≡ Some b → b.means ≡ a_static s u d → (n : ℕ) → object_number env x ≡ Some n → IsStaticOf p false n u
    object_at x b s u d e m n o = (let l = g.later x b e in by_later l.0 l.1 (l.0.means) refl (subst (λ z. Agrees z l.0.means) m l.2))
      where
        by_later : (l : Binding) → lookup last.names x ≡ Some l → (z : Meaning) → l.means ≡ z → Agrees (a_static s u d) z → IsStaticOf p false n u
        by_later l k (a_static r v c) q a = subst (IsStaticOf p false n) (sym a.0) (t.objects x l r v c n k q (subst (λ w. number_among w.objects x ≡ Some n) (sym g.whole) o))
        by_later l k z q a = absurd a

    meaning_right : (x : Name) (b : Binding) → lookup env.names x ≡ Some b → (m : Meaning) → b.means ≡ m → FileMeaning env x m → MeaningRight p vars env x m
    meaning_right x b e (a_static seen whole d) q h =
        (inl h.0, subst IsThing (sym h.0) (complete_thing (layout_of env) whole h.1), h.1, h.2, object_at x b seen whole d e q)
    meaning_right x b e (a_function u d) q h = (
      h.0,
      λ f n. by_number (λ f. called_type p f ≡ Some u) 0 (number_among env.whole.functions x) (given_number env (number_among (given_names env.whole.mode) x)) f n
          (λ i k. value_called i u (function_at x b u d e q i k))
          (λ k. (let i = given_is env (number_among (given_names env.whole.mode) x) f k in subst (λ f. called_type p f ≡ Some u) (ap (λ n. n + i.0) long_here ∙ i.2) (given_called env.whole.mode i.0 u (h.1 i.0 i.1).0))),
      λ f n z. by_number (λ f. value_type p f ≡ Some u) 0 (number_among env.whole.functions x) (given_number env (number_among (given_names env.whole.mode) x)) f n
          (λ i k. function_at x b u d e q i k)
          (λ k. (let i = given_is env (number_among (given_names env.whole.mode) x) f k in subst (λ f. value_type p f ≡ Some u) (ap (λ n. n + i.0) long_here ∙ i.2) (given_value env.whole.mode x i.0 u i.1 z (h.1 i.0 i.1).0))),
    )
    meaning_right x b e (an_enumerator z) q h = h
    meaning_right x b e m q h = absurd h

    -- a scope at file scope is right in the program
    pub scope_right : IsRight p vars env
    scope_right = record {
      runs = w.runs;
      names_known = w.names_known;
      within = record { sound = w.names_known.sound; whole = t.sound; grows = subst (Grows (layout_of env)) t.laid g.grows };
      meanings = λ x b e. meaning_right x b e b.means refl (w.meanings x b e);
    }
