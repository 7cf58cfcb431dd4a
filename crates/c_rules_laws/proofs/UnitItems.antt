-- The items of a unit that is fine give functions and static objects of the program that is made of it.
use Rattle.std.proofs.Common.{◌≡◌, ℕ, ◌+◌, ◌≤◌, Bool, true, List, [], ◌∷◌, ◌++◌, map, length, append_assoc, Some, slice_get, refl, ap, sym, subst, ◌∙◌, arith}
use Rattle.std.specs.List.{AllZip}
use Rattle.c_tree.specs.Tree.{CType, Function, Static, Program}
use Rattle.c_tree.specs.Layout.{flat}
use Rattle.c_tree.specs.Operands.{IsObject}
use Rattle.c_tree.specs.Kinds.{HasType, static_objects}
use Rattle.c_tree.specs.Program.{IsFunction, IsStatic}
use Rattle.c_tree.specs.Typed.{IsStaticOf}
use Rattle.c_syntax.specs.Tree.{Ident, Spec, Declarator, MaybeInit, Stmt, BlockItems}
use Rattle.c_syntax.specs.Tree as syntax
use Rattle.c_rules.specs.Checked.{fine}
use Rattle.c_rules.specs.Scopes.{Env, declared_here, a_static, with_name, layout_of, Before}
use Rattle.c_rules.specs.TypedExpression.{TypedExpression, Constant, known}
use Rattle.c_rules.specs.PrimaryExpressions.{string_type, string_number}
use Rattle.c_rules.specs.Declarators.{place_or}
use Rattle.c_rules.specs.Expressions.{type_declared}
use Rattle.c_rules.specs.Initialisers.{initialised_static, value_of_constant, value_of_cell, held_by}
use Rattle.c_rules.specs.Objects.{Object}
use Rattle.c_rules.specs.Functions.{parameters_of, is_defined_by, declares_function, held_by_type, items_of_body, defined_as}
use Rattle.c_rules.specs.Items.{Output, with_output, static_of, output_of_function, behind_global, within_global, after_object, behind_defined}
use Rattle.c_rules.proofs.NothingMore.{nothing_more}
use Rattle.c_meaning.proofs.Places.{get_left, get_right}
use Rattle.c_rules_laws.specs.Lexical.{IsMaybeInitLexical, IsStmtLexical, AreItemsLexical}
use Rattle.c_rules_laws.specs.MadeTypes.{Made, IsSized}
use Rattle.c_rules_laws.specs.RightScopes.{MeaningRight, IsRight, StringsIn}
use Rattle.c_rules_laws.proofs.Holding.{held, Each, each_both}
use Rattle.c_rules_laws.proofs.SoundStructs.{same_flat}
use Rattle.c_rules_laws.proofs.MadeTypes.{sized_few}
use Rattle.c_rules_laws.proofs.TypesOfExpressions.{type_declared_made}
use Rattle.c_rules_laws.proofs.RightTypedExpressions.{ConstRight, complete_in, cells_in}
use Rattle.c_rules_laws.proofs.RightInitialisers.{IsKnownConstant, AllKnown, TypesAre, static_right}
use Rattle.c_rules_laws.proofs.RightDeclarations.{right_named}
use Rattle.c_rules_laws.proofs.SitesOfStatements.{held_by_named_same}
use Rattle.c_rules_laws.proofs.FileScopes.{IsFileRight, Follows, follows_on}
use Rattle.c_rules_laws.proofs.FileItems.{Step, IsObjectNamed}
use Rattle.c_rules_laws.proofs.UnitScopes.{IsTable, object_at, scope_right}
use Rattle.c_rules_laws.proofs.UnitFunctions.{ParamsFit, type_fits, function_right}
use Rattle.c_rules_laws.proofs.UnitShape.{just_declared}
use Rattle.c_rules_laws.proofs.NamesOfItems.{Gives, starts, declares, an_object, a_definition, one_and_more, gives_step}
use Rattle.c_rules_laws.proofs.Spans.{gives_spans}
use Rattle.c_rules.specs.Names.{Name}

pub body_lexical : (body : Stmt) → IsStmtLexical body → AreItemsLexical (items_of_body body)
body_lexical (syntax.block at is) h = h
body_lexical body h = (h, tt)

-- ## Strings

abbrev pub Begins : {A : Type 0} → List A → List A → Type 0
Begins {A} xs ys = (zs : List A) × (ys ≡ xs ++ zs)

pub begins_self : (xs : List (List ℕ)) → Begins xs xs
begins_self xs = ([], sym (nothing_more xs))

begins_on : (xs ys zs : List (List ℕ)) → Begins xs ys → Begins ys zs → Begins xs zs
begins_on xs ys zs h k = (h.0 ++ k.0, k.1 ∙ (ap (λ v. v ++ k.0) h.1 ∙ append_assoc xs h.0 k.0))

module _ (p : Program) (last : Env) (table : IsTable p last) (all : List (List ℕ)) (placed : (j : ℕ) (w : List ℕ) → slice_get all j ≡ Some w → IsStaticOf p true (length last.whole.objects + j) (string_type (length w))) where
  strings_here : (env : Env) → Follows env last → (b : Before) (ws : List (List ℕ)) → Begins (b.strings ++ ws) all → StringsIn p [] (string_number env b) ws
  strings_here env g b ws h j w e =
      let got : slice_get all (length b.strings + j) ≡ Some w = ap (λ v. slice_get v (length b.strings + j)) h.1 ∙ get_left (b.strings ++ ws) h.0 (length b.strings + j) w (get_right b.strings ws j ∙ e) in
      let n : length last.whole.objects + (length b.strings + j) ≡ string_number env b + j = (let q : length last.whole.objects ≡ length env.whole.objects = ap (λ w. length w.objects) g.whole in omega (arith, q)) in
      subst (λ k. IsStaticOf p true k (string_type (length w))) n (placed (length b.strings + j) w got)

  -- ## Functions

  abbrev pub AreFunctions : List Function → Type 0
  AreFunctions = Each (IsFunction p)

  abbrev pub AreStatics : List Static → Type 0
  AreStatics = Each (IsStatic p)

  abbrev pub IsOutputRight : Output → Type 0
  IsOutputRight q = AreFunctions q.functions × AreStatics q.statics

  output_both : (q r : Output) → IsOutputRight q → IsOutputRight r → IsOutputRight (with_output q r)
  output_both q r h k = (each_both (IsFunction p) q.functions r.functions h.0 k.0, each_both (IsStatic p) q.statics r.statics h.1 k.1)

  definition_right : (env : Env) (b : Before) (at : ℕ) (s : Spec) (d : Declarator) (body : Stmt) (x : Ident) (u : CType) (f : Function) → declares_function d ≡ true → IsStmtLexical body → type_declared env at s d ≡ fine u → defined_as (behind_defined env at s d x) b (place_or at d) d x (items_of_body body) u ≡ fine f
      → Step env (behind_defined env at s d x) → Follows (behind_defined env at s d x) last → Begins (b.strings ++ held_by_type (behind_defined env at s d x) d (items_of_body body) u) all → IsOutputRight (output_of_function f)
  definition_right env b at s d body x u f n l e i step g h =
      let is : BlockItems = items_of_body body in
      let inner : Env = behind_defined env at s d x in
      let made : Made (layout_of env) u = held (Made (layout_of env)) (type_declared env at s d) u (type_declared_made env at s d) e in
      let fit : ParamsFit (parameters_of d) u = held (ParamsFit (parameters_of d)) (type_declared env at s d) u (type_fits env at s d n) e in
      let r = function_right p last table inner step.0 g b (place_or at d) d x is u f made fit (body_lexical body l) (strings_here inner g b (held_by_type inner d is u) h) i in
      ((r.0, tt), tt)

  -- ## Objects

  known_value : (t : CType) (c : Constant) → IsKnownConstant c → ConstRight p t c → HasType p (static_objects p) t (value_of_constant c)
  known_value t (known x) k h = h
  known_value t c k h = absurd k

  cells_zip : (ts : List CType) (gs : List TypedExpression) → TypesAre p [] ts gs → AllKnown gs → AllZip (HasType p (static_objects p)) ts (map value_of_cell gs)
  cells_zip [] [] h k = tt
  cells_zip (t ∷ ts) (g ∷ gs) h k = (known_value t g.constant k.0 (subst (λ u. ConstRight p u g.constant) h.0 h.1.3), cells_zip ts gs h.2 k.1)
  cells_zip ts gs h k = absurd h

  global_right : (env : Env) → IsFileRight env → (b : Before) (x : Ident) (m : MaybeInit) (o : Object) (gs : List TypedExpression) → IsObjectNamed env true b x o → IsFileRight (behind_global env true x (fine o)) → IsMaybeInitLexical m
      → initialised_static (within_global env true x (fine o)) (after_object (within_global env true x (fine o)) b o.whole) o.whole m ≡ fine gs → Follows env last → Follows (behind_global env true x (fine o)) last → Begins (b.strings ++ held_by env o.whole m) all → IsOutputRight (static_of o gs)
  global_right env w b x m o gs h v l f g0 g s =
      let d : Bool = is_defined_by true (declared_here env x.name) in
      let inner : Env = with_name env x.name (a_static o.seen o.whole d) in
      let w0 : IsRight p [] env = scope_right p [] env last w g0 table in
      let sized : IsSized (layout_of env) o.whole = sized_few (layout_of env) o.whole h.right.whole_made h.right.small in
      let stands = object_at p [] (behind_global env true x (fine o)) last v g table x.name (record { name = x.name; depth = env.depth; means = a_static o.whole o.whole d }) o.whole o.whole d (just_declared env x.name (a_static o.whole o.whole d)) refl in
      let w1 : IsRight p [] inner = right_named p [] env x.name (a_static o.seen o.whole d) w0 (h.right.seen_sized, sized) (λ y z. subst (λ y. MeaningRight p [] env y (a_static o.seen o.whole d)) z (h.right.alike, h.right.thing, h.right.known, h.right.small, stands)) in
      let strings : StringsIn p [] (string_number inner (after_object inner b o.whole)) (held_by inner o.whole m) = subst (StringsIn p [] (string_number env b)) (sym (held_by_named_same m env x.name (a_static o.seen o.whole d) o.whole)) (strings_here env g0 b (held_by env o.whole m) s) in
      let cells = held (λ gs. TypesAre p [] (flat (layout_of env) o.whole) gs × AllKnown gs) (initialised_static inner (after_object inner b o.whole) o.whole m) gs (static_right p [] m inner w1 l (after_object inner b o.whole) o.whole h.right.whole_made h.right.known strings) f in
      let object : IsObject p.structs o.whole = record { complete = complete_in (layout_of env) p.structs w0.within o.whole h.right.known; few = subst (λ k. k ≤ 65536) (cells_in (layout_of env) p.structs w0.within o.whole h.right.known) h.right.small } in
      (tt, (record { object = object; typed = cells_zip (flat p.structs o.whole) gs (subst (λ ts. TypesAre p [] ts gs) (sym (same_flat (layout_of env) p.structs w0.within.sound w0.within.grows o.whole h.right.known)) cells.0) cells.1 }, tt))

  -- strings before a part are among those behind it
  pub gives_right : {env inner : Env} {b a : Before} {q : Output} {xs ys : List Name} → Gives env b inner a q xs ys → Follows inner last → Begins a.strings all → IsOutputRight q
  gives_right (starts w) g h = (tt, tt)
  gives_right {inner = inner} (declares {middle = c} k s d) g h = gives_right k (follows_on c inner last s.1 g) h
  gives_right {env} {b = b} (an_object x m o gs w l n f s) g h = global_right env w b x m o gs n s.0 l f (follows_on env (behind_global env true x (fine o)) last s.1 g) g h
  gives_right {env} {b = b} (a_definition at s d body x m u f w n l k c e i j t) g h = definition_right env b at s d body x u f k l e j t g h
  gives_right {inner = inner} (one_and_more {middle = e} {c = c} {a = a} {q = q} {r = r} j k) g h =
      let more = gives_spans k in
      output_both q r (gives_right j (follows_on e inner last (gives_step k).1 g) (begins_on c.strings a.strings all (more.more, more.strings) h)) (gives_right k g h)
