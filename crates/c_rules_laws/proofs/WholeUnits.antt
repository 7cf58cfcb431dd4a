-- A unit that is typed is a well-typed program.
use Rattle.std.proofs.Common.{◌≡◌, ◌≢◌, ◌⊎◌, inl, inr, ℕ, zero, suc, ◌<◌, true, false, List, [], ◌∷◌, ◌++◌, All, map, length, length-append, Option, Some, None, slice_get, slice_index_or, unwrap_or, refl, ap, sym, subst, ◌∙◌, arith}
use Rattle.std.specs.Prelude.{AllPairs, is_some, codes}
use Rattle.std.specs.List.{range_with_len}
use Rattle.std.proofs.lemmas.List.{length-map}
use Rattle.std.proofs.lemmas.List.Elements.{All-nil, All-cons, All-head, All-tail}
use Rattle.std.proofs.lemmas.List.Kept.{AllPairs-cons}
use Rattle.std.proofs.lemmas.Slice.Eq.{bytes_eq-Decides}
use Rattle.dm_base.specs.declared.mode.Mode.{Mode}
use Rattle.dm_base.specs.declared.mode.Mode.TheVariants.{Plain, Instrumented}
use Rattle.sys_table.specs.Table.{Row, table, name_of}
use Rattle.c_tree.specs.Tree.{Function, Static, Program}
use Rattle.c_tree.specs.Functions.{int, of_none}
use Rattle.c_tree.specs.Program.{IsStatic, HaveNames, IsProgram}
use Rattle.c_tree.specs.Sites.{sites_of_program}
use Rattle.c_syntax.specs.Tree.{Items}
use Rattle.c_rules.specs.Checked.{fine, demand}
use Rattle.c_rules.specs.Names.{Name, number_among, is_among, name_of_row, system_calls, null_calls, given_names}
use Rattle.c_rules.specs.Types.{same_type}
use Rattle.c_rules.specs.Scopes.{Env, Binding, Meaning, a_function, lookup, binding_of, nothing_before}
use Rattle.c_rules.specs.Items.{Output, items, after_items}
use Rattle.c_rules.specs.Units.{functions_of, objects_of, whole_of, env_before, env_behind, strings_of, is_main_meant, is_main_bound, has_main, static_string, program_of, IsTyped}
use Rattle.c_rules.proofs.CheckedLemmas.{items_fine}
use Rattle.c_rules_laws.specs.Lexical.{IsUnitLexical}
use Rattle.c_rules_laws.specs.WellTyped.{IsRightObject, PartsAreRight}
use Rattle.c_rules_laws.proofs.Holding.{on_fine, demand_fine, and_left, and_right, Each}
use Rattle.c_rules_laws.proofs.MadeTypes.{type_is}
use Rattle.c_rules_laws.proofs.SitesOfExpressions.{AreShort}
use Rattle.c_rules_laws.proofs.FileScopes.{IsFileRight}
use Rattle.c_rules_laws.proofs.UnitShape.{Zip, zip_at, zip_long, IsFunctionOf, IsObjectOf}
use Rattle.c_rules_laws.proofs.UnitTable.{parts_of_program, before_right, shape}
use Rattle.c_rules_laws.specs.Programs.{calls_of_unit}
use Rattle.c_rules_laws.proofs.Spans.{Spans, items_span}
use Rattle.c_rules_laws.proofs.StaticStrings.{strings_static}
use Rattle.c_rules_laws.proofs.DistinctNames.{Differ, among_first, among_rest, among_left, few_names}
use Rattle.c_rules_laws.proofs.DefinedNames.{IsDefined, Defines}
use Rattle.c_rules_laws.proofs.NamesOfItems.{gives_defined, items_give}
use Rattle.c_rules_laws.proofs.UnitTable.{name_at, one_binding, no_binding, same_function}

-- ## Places of names

some_is : (o : Option ℕ) → is_some o ≡ true → (i : ℕ) × (o ≡ Some i)
some_is None e = absurd (let q : false ≡ true = e in cc)
some_is (Some i) e = (i, refl)

-- ## Names of system calls

row_among : (rows : List Row) (k : ℕ) (d : Row) → k < length rows → is_among (map name_of_row rows) (slice_index_or rows k d).name ≡ true
row_among [] k d l = absurd (omega (arith, l))
row_among (r ∷ rows) zero d l = among_first r.name r.name (map name_of_row rows) ((bytes_eq-Decides r.name r.name).1 refl)
row_among (r ∷ rows) (suc k) d l = among_rest r.name (slice_index_or rows k d).name (map name_of_row rows) (row_among rows k d (omega (arith, l)))

many_rows : length table ≡ 24
unfolding table
many_rows = refl

given_among : (m : Mode) (k : ℕ) → k < 24 → is_among (given_names m) (name_of k) ≡ true
given_among Plain k l = row_among table k _ (omega (arith, l, many_rows))
given_among Instrumented k l = among_left system_calls null_calls (name_of k) (row_among table k _ (omega (arith, l, many_rows)))

-- ## Names of functions

module _ (last : Env) where
  abbrev AreNamed : List Name → List Function → Type 0
  AreNamed xs fs = Zip (IsFunctionOf last) xs fs

  all_differ : (x : Name) (f : Function) → f.name ≡ x → (xs : List Name) (fs : List Function) → AreNamed xs fs → Each (λ y. x ≢ y) xs → All (λ g. f.name ≢ g.name) fs
  all_differ x f e [] [] z h = All-nil (λ g. f.name ≢ g.name)
  all_differ x f e (y ∷ xs) (g ∷ fs) z h = All-cons (λ g. f.name ≢ g.name) g fs (λ q. h.0 (sym e ∙ (q ∙ z.0.0))) (all_differ x f e xs fs z.1 h.1)
  all_differ x f e xs fs z h = absurd z

  pairs_differ : (xs : List Name) (fs : List Function) → AreNamed xs fs → Differ xs → AllPairs (λ f g. f.name ≢ g.name) fs
  pairs_differ [] [] z h = λ i j d k l. absurd (omega (arith, k, l))
  pairs_differ (x ∷ xs) (f ∷ fs) z h = AllPairs-cons (λ f g. f.name ≢ g.name) f fs (all_differ x f z.0.0 xs fs z.1 h.0) (pairs_differ xs fs z.1 h.1)
  pairs_differ xs fs z h = absurd z

  no_system_call : (m : Mode) (x : Name) (f : Function) → f.name ≡ x → is_among (given_names m) x ≡ false → (k : ℕ) → k < 24 → f.name ≢ name_of k
  no_system_call m x f e h k l q = (let a : is_among (given_names m) x ≡ true = subst (λ y. is_among (given_names m) y ≡ true) (sym q ∙ e) (given_among m k l) in let b : true ≡ false = sym a ∙ h in cc)

  all_apart : (m : Mode) (xs : List Name) (fs : List Function) → AreNamed xs fs → Each (λ x. is_among (given_names m) x ≡ false) xs → All (λ f. (k : ℕ) → k < 24 → f.name ≢ name_of k) fs
  all_apart m [] [] z h = All-nil (λ f. (k : ℕ) → k < 24 → f.name ≢ name_of k)
  all_apart m (x ∷ xs) (f ∷ fs) z h = All-cons (λ f. (k : ℕ) → k < 24 → f.name ≢ name_of k) f fs (no_system_call m x f z.0.0 h.0) (all_apart m xs fs z.1 h.1)
  all_apart m xs fs z h = absurd z

  -- ## Static objects

  all_static : (p : Program) (xs : List Name) (ss rest : List Static) → Zip (IsObjectOf last) xs ss → All (IsRightObject p) (ss ++ rest) → All (IsStatic p) rest → All (IsStatic p) (ss ++ rest)
  all_static p [] [] rest z h k = k
  all_static p (x ∷ xs) (s ∷ ss) rest z h k = All-cons (IsStatic p) s (ss ++ rest) (All-head (IsRightObject p) s (ss ++ rest) h z.0.0) (all_static p xs ss rest z.1 (All-tail (IsRightObject p) s (ss ++ rest) h) k)
  all_static p xs ss rest z h k = absurd z

-- ## The function main

main_meant : (m : Meaning) → is_main_meant m ≡ true → m ≡ a_function (of_none int) true
main_meant (a_function t d) h =
    let e : t ≡ of_none int = type_is t (of_none int) (and_right d (same_type t (of_none int)) h) in
    let f : d ≡ true = and_left d (same_type t (of_none int)) h in
    ap (λ u. a_function u d) e ∙ ap (a_function (of_none int)) f
main_meant m h = absurd (let q : false ≡ true = h in cc)

main_bound : (o : Option Binding) → is_main_bound o ≡ true → (b : Binding) × (o ≡ Some b) × (b.means ≡ a_function (of_none int) true)
main_bound None h = absurd (let q : false ≡ true = h in cc)
main_bound (Some b) h = (b, refl, main_meant b.means h)

-- ## The unit

module _ (m : Mode) (u : Items) (out : Output) (lexical : IsUnitLexical u) (typed : items (env_before m u) nothing_before u ≡ fine out) (main : has_main m u ≡ true) where
  start : IsFileRight (env_before m u)
  start = before_right (whole_of m u)

  names : Defines (env_before m u) (env_behind m u) (functions_of u)
  names = gives_defined (items_give u (env_before m u) start nothing_before out lexical typed)

  spans : Spans nothing_before (after_items (env_before m u) nothing_before u) out
  spans = items_span u (env_before m u) start nothing_before out lexical typed

  parts : PartsAreRight (program_of m u out)
  parts = parts_of_program m u out lexical typed

  have_names : HaveNames out.functions
  have_names = record {
    names = parts.names;
    differ = pairs_differ (env_behind m u) (functions_of u) out.functions (shape m u out lexical typed).functions names.differ;
    apart = all_apart (env_behind m u) m (functions_of u) out.functions (shape m u out lexical typed).functions names.apart;
  }

  -- a function that is defined stands among those of the unit
  stands : (x : Name) → IsDefined (env_behind m u).names x → is_among (functions_of u) x ≡ true
  stands x d = by_part (names.only x d)
    where
      by_part : IsDefined [] x ⊎ (is_among (functions_of u) x ≡ true) → is_among (functions_of u) x ≡ true
      by_part (inl c) = absurd (no_binding x c.0 c.2)
      by_part (inr e) = e

  is_main : (x : Name) → is_main_bound (binding_of (env_behind m u) x) ≡ true → (f : Function) × (slice_get out.functions (unwrap_or (number_among (functions_of u) x) 0) ≡ Some f) × (f.ctype ≡ of_none int)
  is_main x h =
      let b = main_bound (binding_of (env_behind m u) x) h in
      let i = some_is (number_among (functions_of u) x) (stands x (b.0, of_none int, b.1, b.2)) in
      let z = zip_at (IsFunctionOf (env_behind m u)) (functions_of u) out.functions i.0 x (shape m u out lexical typed).functions (name_at (functions_of u) x i.0 i.1) in
      let c = one_binding (lookup (env_behind m u).names x) b.0 z.2.2.0 b.1 z.2.2.1 in
      (z.0, ap (λ o. slice_get out.functions (unwrap_or o 0)) i.1 ∙ z.1, same_function (of_none int) z.0.ctype true true (sym b.2 ∙ (ap (λ b. b.means) (sym c) ∙ z.2.2.2)))

  whole_program : IsProgram (program_of m u out) (calls_of_unit m u)
  whole_program = record {
    structs = parts.structs;
    functions = parts.functions;
    names = have_names;
    statics = all_static (env_behind m u) (program_of m u out) (objects_of u) out.statics (map static_string (strings_of m u)) (shape m u out lexical typed).statics parts.objects (strings_static (program_of m u out) (strings_of m u) (subst AreShort (sym spans.strings) spans.short));
    main = is_main (codes "main") main;
    sites = subst (λ n. sites_of_program (program_of m u out) ≡ range_with_len 0 n) (let c = spans.counted in let q : spans.count ≡ calls_of_unit m u = omega (arith, c) in q) spans.sites;
    few_functions =
        (let l = few_names (functions_of u) (env_behind m u).functions names.differ names.own in
        let k = names.few (omega arith) in
        let z = zip_long (IsFunctionOf (env_behind m u)) (functions_of u) out.functions (shape m u out lexical typed).functions in
        omega (arith, l, k, z));
    few_statics =
        (let c = spans.cells_fit (omega arith) in
        let n = spans.many in
        let a = length-append out.statics (map static_string (strings_of m u)) in
        let k = length-map (strings_of m u) static_string in
        let s : length (strings_of m u) ≡ length spans.more = ap length spans.strings in
        omega (arith, c, n, a, k, s));
    few_sites = spans.sites_fit (omega arith);
  }

-- a unit that is typed is a program
pub unit_program : (u : Items) (m : Mode) (p : Program) → IsUnitLexical u → IsTyped u m p → IsProgram p (calls_of_unit m u)
unit_program u m p l e =
    let i = on_fine (items (env_before m u) nothing_before u) (λ q. demand (has_main m u) 9 0 (program_of m u q)) p (items_fine u m p e) in
    let j = demand_fine (has_main m u) 9 0 (program_of m u i.0) p i.2 in
    subst (λ q. IsProgram q (calls_of_unit m u)) j.1 (whole_program m u i.0 l i.1 j.0)
