-- What is known before the items of a unit.
use Rattle.std.proofs.Common.{◌≡◌, ℕ, suc, zero, ◌+◌, ◌<◌, ◌≤◌, ◌^◌, Bool, true, false, ◌&&◌, nat_lt, List, [], ◌∷◌, ◌++◌, length, take, get_or, Bor, Option, None, Result, Ok, Err, IfOk, refl, sym, ap, subst, ◌∙◌, arith}
use Rattle.std.specs.Prelude.{replicate, reverse}
use Rattle.std.proofs.lemmas.Bool.{and_parts, ltb-true}
use Rattle.std.proofs.lemmas.List.{take_more, take_all, map-append}
use Rattle.dm_base.specs.declared.mode.Mode.{Mode}
use Rattle.c_syntax.specs.SeenNames.{bytes_of, seen}
use Rattle.c_check_values.specs.Known.{Known}
use Rattle.c_check_values.specs.Agreement.{Names}
use Rattle.c_check_values.specs.declared.error.CheckError.TheVariants as errors
use Rattle.c_rules.specs.Checked.{faults, demand, met}
use Rattle.c_rules.specs.Names.{Name}
use Rattle.c_rules.specs.Scopes.{Env, Struct, incomplete, evaluated, empty_env}
use Rattle.c_rules.specs.Units.{functions_of, objects_of, tags_of, few_names}
use Rattle.c_check_values.specs.Bound.{Bound, bindings_of}
use Rattle.c_check_values.specs.View.{structs_of}
use Rattle.c_syntax.specs.Tree.{Items}

-- ## Names in their order

pub numbered_more : (xs : List (Bor (List ℕ))) (i : ℕ) (d : Bor (List ℕ)) (old new : List Name) → i < length xs → old ≡ seen (take i xs) → new ≡ old ++ (get_or xs i d).now ∷ []
    → new ≡ seen (take (i + 1) xs)
numbered_more xs i d old new lt before step =
    let more : seen (take (i + 1) xs) ≡ seen (take i xs) ++ (get_or xs i d).now ∷ [] = ap seen (take_more xs i d lt) ∙ map-append bytes_of (take i xs) (get_or xs i d ∷ []) in
    step ∙ (ap (λ ys. ys ++ (get_or xs i d).now ∷ []) before ∙ sym more)

pub numbered_all : (xs : List (Bor (List ℕ))) (i : ℕ) (ys : List Name) → length xs ≤ i → ys ≡ seen (take i xs) → ys ≡ seen xs
numbered_all xs i ys over is = is ∙ ap seen (take_all i xs over)

-- ## Structs without a definition

unknown_structs : (n : ℕ) → structs_of (replicate n None) ≡ replicate n incomplete
unknown_structs zero = refl
unknown_structs (suc n) = ap (λ ss. incomplete ∷ ss) (unknown_structs n)

pub structs_as : {E : Type 0} (r : Result (List (Option (List Known))) E) (n m : ℕ) → n ≡ m → IfOk r (λ structs. structs ≡ replicate n None) → IfOk r (λ structs. structs_of structs ≡ replicate m incomplete)
structs_as (Ok structs) n m count h = ap structs_of h ∙ (unknown_structs n ∙ ap (λ k. replicate k incomplete) count)
structs_as (Err e) n m count h = h

-- ## The environment

abbrev pub begun : Mode → (defined objects struct_tags : List Name) → List Struct → List Bound → (enums functions tags : List Name) → (depth : ℕ) → Env
begun m fs os ts structs names enums functions tags depth = record {
  whole = record { mode = m; functions = fs; objects = os; tags = ts };
  names = bindings_of names;
  depth = depth;
  structs = structs;
  enums = reverse enums;
  functions = functions;
  tags = reverse tags;
  context = evaluated;
}

pub begins : (m : Mode) (fs os ts : List Name) (structs : List Struct) (names : List Bound) (enums functions tags : List Name) (depth : ℕ) → structs ≡ replicate (length ts) incomplete → names ≡ [] → enums ≡ [] → functions ≡ [] → tags ≡ [] → depth ≡ 0
    → begun m fs os ts structs names enums functions tags depth ≡ empty_env (record { mode = m; functions = fs; objects = os; tags = ts })
begins m fs os ts structs names enums functions tags depth s n e g k d = λ i. begun m fs os ts (s i) (n i) (e i) (g i) (k i) (d i)

-- ## The limit on names

abbrev limited : (functions objects tags : List Name) → Bool
limited fs os ts = nat_lt (length fs) (2 ^ 31) && (nat_lt (length os) (2 ^ 31) && nat_lt (length ts) (2 ^ 31))

pub each_few : (fs os ts : List Name) (b : Bool) → b ≡ limited fs os ts → b ≡ true → (length fs < 2 ^ 31) × (length os < 2 ^ 31) × (length ts < 2 ^ 31)
each_few fs os ts b q h =
    let w = and_parts (nat_lt (length fs) (2 ^ 31)) (nat_lt (length os) (2 ^ 31) && nat_lt (length ts) (2 ^ 31)) (sym q ∙ h) in
    let v = and_parts (nat_lt (length os) (2 ^ 31)) (nat_lt (length ts) (2 ^ 31)) w.1 in
    (ltb-true (length fs) (2 ^ 31) w.0, ltb-true (length os) (2 ^ 31) v.0, ltb-true (length ts) (2 ^ 31) v.1)

module _ (u : Items) (fs os ts : List Name) (b : Bool) (f : fs ≡ functions_of u) (o : os ≡ objects_of u) (t : ts ≡ tags_of u) (q : b ≡ limited fs os ts) where
  told : b ≡ limited (functions_of u) (objects_of u) (tags_of u)
  told = q ∙ (λ i. limited (f i) (o i) (t i))

  pub many_names : b ≡ false → Names (errors.At 13 0) (faults (few_names u))
  many_names h = subst (λ d. Names (errors.At 13 0) (faults (demand d 13 0 met))) (sym (sym told ∙ h)) (0, omega arith, refl)
