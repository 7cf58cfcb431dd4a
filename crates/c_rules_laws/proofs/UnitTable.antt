-- A unit that is typed has structs and functions that are those of a well-typed program.
use Rattle.std.proofs.Common.{◌≡◌, ℕ, zero, suc, ◌+◌, Bool, true, false, if◌then◌else◌, List, [], ◌∷◌, ◌++◌, All, map, replicate, length, Option, Some, None, slice_get, refl, ap, sym, subst, ◌∙◌, arith}
use Rattle.std.specs.Prelude.{option_map, bytes_eq}
use Rattle.std.proofs.lemmas.Option.{slice_get-map}
use Rattle.std.proofs.lemmas.List.Elements.{All-cons, All-append}
use Rattle.std.proofs.lemmas.Slice.Eq.{bytes_eq-Decides}
use Rattle.dm_base.specs.Name.{IsName}
use Rattle.dm_base.specs.declared.mode.Mode.{Mode}
use Rattle.c_tree.specs.Tree.{CType, Function, Program}
use Rattle.c_tree.specs.Typed.{IsStaticOf}
use Rattle.c_tree.specs.Program.{IsFunction, IsStatic}
use Rattle.c_syntax.specs.Tree.{Items}
use Rattle.c_rules.specs.Checked.{fine, demand}
use Rattle.c_rules.specs.Names.{Name, number_among}
use Rattle.c_rules.specs.Scopes.{Binding, a_static, a_function, incomplete, types_of_struct, Whole, empty_env, lookup, layout_of, nothing_before}
use Rattle.c_rules.specs.PrimaryExpressions.{string_type}
use Rattle.c_rules.specs.Items.{Output, items}
use Rattle.c_rules.specs.Units.{functions_of, objects_of, whole_of, env_before, env_behind, strings_of, has_main, static_string, program_of, IsTyped}
use Rattle.c_rules.proofs.CheckedLemmas.{items_fine}
use Rattle.c_meaning.proofs.Places.{get_left, get_right}
use Rattle.c_rules_laws.specs.Lexical.{IsUnitLexical}
use Rattle.c_rules_laws.specs.SoundStructs.{AreSound}
use Rattle.c_rules_laws.specs.WellTyped.{IsRightObject, PartsAreRight}
use Rattle.c_rules_laws.proofs.Holding.{on_fine, demand_fine, each_all, each_map}
use Rattle.c_rules_laws.proofs.SoundStructs.{are_structs}
use Rattle.c_rules_laws.proofs.FileScopes.{IsFileRight, follows_self}
use Rattle.c_rules_laws.proofs.FileItems.{Step, items_step}
use Rattle.c_rules_laws.proofs.UnitScopes.{IsTable, suc_some}
use Rattle.c_rules_laws.proofs.UnitShape.{Zip, zip_at, zip_long, IsFunctionOf, IsObjectOf, HasShape, gives_shape}
use Rattle.c_rules_laws.proofs.NamesOfItems.{items_give}
use Rattle.c_rules_laws.proofs.UnitItems.{begins_self, AreFunctions, AreStatics, gives_right}

-- ## Before all items

pub none_defined : (n s : ℕ) (ts : List CType) → slice_get (map types_of_struct (replicate n incomplete)) s ≡ Some (Some ts) → ⊥
none_defined zero s ts e = (let q : None ≡ Some (Some ts) = e in cc)
none_defined (suc n) zero ts e = (let q : Some None ≡ Some (Some ts) = e in cc)
none_defined (suc n) (suc s) ts e = none_defined n s ts e

nothing_sound : (n : ℕ) → AreSound (map types_of_struct (replicate n incomplete))
nothing_sound n = record {
  rank = λ s. 0;
  ranked = λ s ts e. absurd (none_defined n s ts e);
  below = λ s ts e. absurd (none_defined n s ts e);
  complete = λ s ts e. absurd (none_defined n s ts e);
  members = λ s ts e. absurd (none_defined n s ts e);
  made = λ s ts e. absurd (none_defined n s ts e);
  few = λ s ts e. absurd (none_defined n s ts e);
}

pub no_binding : (x : Name) (b : Binding) → lookup [] x ≡ Some b → ⊥
no_binding x b e = (let q : None ≡ Some b = e in cc)

pub before_right : (w : Whole) → IsFileRight (empty_env w)
before_right w = record {
  runs = refl;
  shallow = refl;
  names_known = record { sound = nothing_sound (length w.tags); meanings = λ x b e. absurd (no_binding x b e) };
  shallow_names = λ x b e. absurd (no_binding x b e);
  meanings = λ x b e. absurd (no_binding x b e);
}

-- ## What names mean behind all items

pub name_at : (xs : List Name) (x : Name) (i : ℕ) → number_among xs x ≡ Some i → slice_get xs i ≡ Some x
name_at [] x i e = absurd (let q : None ≡ Some i = e in cc)
name_at (y ∷ ys) x i e = by_test (bytes_eq y x) refl (λ k. name_at ys x k) e
  where
    by_test : (b : Bool) → bytes_eq y x ≡ b → ((k : ℕ) → number_among ys x ≡ Some k → slice_get ys k ≡ Some x) → (if b then Some 0 else option_map suc (number_among ys x)) ≡ Some i → slice_get (y ∷ ys) i ≡ Some x
    by_test true q h e = (let z : 0 ≡ i = (let r : Some 0 ≡ Some i = e in cc) in subst (λ n. slice_get (y ∷ ys) n ≡ Some x) z (ap Some ((bytes_eq-Decides y x).0 q)))
    by_test false q h e = (let k = suc_some (number_among ys x) i e in subst (λ n. slice_get (y ∷ ys) n ≡ Some x) (sym k.2) (h k.0 k.1))

pub one_binding : (o : Option Binding) (b c : Binding) → o ≡ Some b → o ≡ Some c → c ≡ b
one_binding o b c e f = (let q : Some c ≡ Some b = sym f ∙ e in cc)

pub same_function : (t u : CType) (d e : Bool) → a_function t d ≡ a_function u e → u ≡ t
same_function t u d e q = cc

same_object : (s t r u : CType) (d e : Bool) → a_static s t d ≡ a_static r u e → u ≡ t
same_object s t r u d e q = cc

module _ (m : Mode) (u : Items) (out : Output) (lexical : IsUnitLexical u) (typed : items (env_before m u) nothing_before u ≡ fine out) where
  step : Step (env_before m u) (env_behind m u)
  step = items_step u (env_before m u) nothing_before out (before_right (whole_of m u)) lexical typed

  pub shape : HasShape (env_behind m u) (functions_of u) (objects_of u) out
  shape = gives_shape (env_behind m u) (items_give u (env_before m u) (before_right (whole_of m u)) nothing_before out lexical typed) (follows_self (env_behind m u))

  function_at : (x : Name) (b : Binding) (t : CType) (d : Bool) (i : ℕ) → lookup (env_behind m u).names x ≡ Some b → b.means ≡ a_function t d → number_among (env_behind m u).whole.functions x ≡ Some i → (f : Function) × (slice_get out.functions i ≡ Some f) × (f.ctype ≡ t)
  function_at x b t d i e q n =
      let n2 : number_among (functions_of u) x ≡ Some i = subst (λ w. number_among w.functions x ≡ Some i) step.1.whole n in
      let z = zip_at (IsFunctionOf (env_behind m u)) (functions_of u) out.functions i x shape.functions (name_at (functions_of u) x i n2) in
      let c = one_binding (lookup (env_behind m u).names x) b z.2.2.0 e z.2.2.1 in
      (z.0, z.1, same_function t z.0.ctype d true (sym q ∙ (ap (λ b. b.means) (sym c) ∙ z.2.2.2)))

  object_at : (x : Name) (b : Binding) (s t : CType) (d : Bool) (n : ℕ) → lookup (env_behind m u).names x ≡ Some b → b.means ≡ a_static s t d → number_among (env_behind m u).whole.objects x ≡ Some n → IsStaticOf (program_of m u out) false n t
  object_at x b s t d n e q k =
      let n2 : number_among (objects_of u) x ≡ Some n = subst (λ w. number_among w.objects x ≡ Some n) step.1.whole k in
      let z = zip_at (IsObjectOf (env_behind m u)) (objects_of u) out.statics n x shape.statics (name_at (objects_of u) x n n2) in
      let c = one_binding (lookup (env_behind m u).names x) b z.2.1.0 e z.2.1.3 in
      (z.0, get_left out.statics (map static_string (strings_of m u)) n z.0 z.1, z.2.0, same_object s t z.2.1.1 z.0.ctype d z.2.1.2 (sym q ∙ (ap (λ b. b.means) (sym c) ∙ z.2.1.4)))

  pub table : IsTable (program_of m u out) (env_behind m u)
  table = record {
    sound = step.0.names_known.sound;
    laid = refl;
    long = zip_long (IsFunctionOf (env_behind m u)) (functions_of u) out.functions shape.functions ∙ ap (λ w. length w.functions) (sym step.1.whole);
    functions = function_at;
    objects = object_at;
  }

  string_at : (j : ℕ) (w : List ℕ) → slice_get (strings_of m u) j ≡ Some w → IsStaticOf (program_of m u out) true (length (env_behind m u).whole.objects + j) (string_type (length w))
  string_at j w e =
      let n : length out.statics ≡ length (env_behind m u).whole.objects = zip_long (IsObjectOf (env_behind m u)) (objects_of u) out.statics shape.statics ∙ ap (λ w. length w.objects) (sym step.1.whole) in
      (static_string w, ap (λ k. slice_get (out.statics ++ map static_string (strings_of m u)) (k + j)) (sym n) ∙ (get_right out.statics (map static_string (strings_of m u)) j ∙ (slice_get-map static_string (strings_of m u) j ∙ ap (option_map static_string) e)), refl, refl)

  outputs : AreFunctions (program_of m u out) (env_behind m u) table (strings_of m u) string_at out.functions × AreStatics (program_of m u out) (env_behind m u) table (strings_of m u) string_at out.statics
  outputs = gives_right (program_of m u out) (env_behind m u) table (strings_of m u) string_at (items_give u (env_before m u) (before_right (whole_of m u)) nothing_before out lexical typed) (follows_self (env_behind m u)) (begins_self (strings_of m u))

  no_objects : (ws : List (List ℕ)) → All (IsRightObject (program_of m u out)) (map static_string ws)
  no_objects [] = λ k d l. absurd (omega (arith, l))
  no_objects (w ∷ ws) = All-cons (IsRightObject (program_of m u out)) (static_string w) (map static_string ws) (λ e. absurd (let q : true ≡ false = e in cc)) (no_objects ws)

  each_name : (xs : List Name) (fs : List Function) → Zip (IsFunctionOf (env_behind m u)) xs fs → All (λ f. IsName f.name) fs
  each_name [] [] h = λ k d l. absurd (omega (arith, l))
  each_name (x ∷ xs) (f ∷ fs) h = All-cons (λ f. IsName f.name) f fs (subst IsName (sym h.0.0) h.0.1) (each_name xs fs h.1)
  each_name xs fs h = absurd h

  pub parts_of_program : PartsAreRight (program_of m u out)
  parts_of_program = record {
    structs = are_structs (layout_of (env_behind m u)) step.0.names_known.sound;
    functions = each_all (IsFunction (program_of m u out)) out.functions outputs.0;
    names = each_name (functions_of u) out.functions shape.functions;
    objects = All-append (IsRightObject (program_of m u out)) out.statics (map static_string (strings_of m u)) (each_all (IsRightObject (program_of m u out)) out.statics (each_map (IsStatic (program_of m u out)) (IsRightObject (program_of m u out)) (λ s h _. h) out.statics outputs.1)) (no_objects (strings_of m u));
  }

-- the structs, functions and objects of a unit that is typed
pub unit_parts : (u : Items) (m : Mode) (p : Program) → IsUnitLexical u → IsTyped u m p → PartsAreRight p
unit_parts u m p l e =
    let i = on_fine (items (env_before m u) nothing_before u) (λ q. demand (has_main m u) 9 0 (program_of m u q)) p (items_fine u m p e) in
    let j = demand_fine (has_main m u) 9 0 (program_of m u i.0) p i.2 in
    subst PartsAreRight j.1 (parts_of_program m u i.0 l i.1)
