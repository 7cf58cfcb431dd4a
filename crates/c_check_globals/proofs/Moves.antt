-- What is found where something is known by other words, and how a part ends by the parts that it is made of.
use Rattle.std.proofs.Common.{◌≡◌, ◌+◌, ◌≤◌, ℕ, zero, suc, arith, List, [], ◌∷◌, ◌++◌, map, Bool, true, false, not, ◌&&◌, Result, Ok, Err, OnOk, refl, ap, sym, subst, ◌∙◌, append-nil}
use Rattle.std.specs.Prelude.{nat_le, slice_get, unwrap_or}
use Rattle.std.proofs.lemmas.Bool.Decides.{nat_tests}
use Rattle.c_check_units.specs.CheckError.{CheckError}
use Rattle.c_check_units.specs.TypedExpression.{TypedExpression as TypedExpressionTree}
use Rattle.c_check_units.specs.TypedExpressionView.{typed_expression_of}
use Rattle.c_check_units.specs.Agreement.{AgreesWith, Names}
use Rattle.c_check_units.proofs.Parts.{names_on, names_first, names_second}
use Rattle.c_check_globals.proofs.Turns.{not_fine}
use Rattle.c_check_units.specs.Scoped.{IsWithin}
use Rattle.c_rules.specs.Checked.{Checked, fine, faulty, faults, and_also, demand, on, both, gives, Met, met}
use Rattle.c_rules.specs.Codes.{C2, C13}
use Rattle.c_rules.specs.Limits.{most_static_cells}
use Rattle.c_tree.specs.Layout.{cells}
use Rattle.c_rules.proofs.Modes.{demand_met, first_fine as parts_fine}
use Rattle.c_check_scopes.proofs.NumberLemmas.{not_so}
use Rattle.c_check_declarations.specs.ObjectView.{cells_seen}
use Rattle.c_rules.specs.TypedExpression.{TypedExpression}
use Rattle.c_rules.specs.Initialisers.{Slots, copies, each, slots, members_of_struct, held, held_in_turn, held_by, initialised_static, value_of_cell}
use Rattle.c_rules.specs.Items.{Output, after_object, few_static, free_tag, global, global_declared, global_object, is_incomplete, object_name, members, new_struct, static_of, struct_definition, struct_laid, within_global}
use Rattle.c_rules.specs.Names.{Name, is_among}
use Rattle.c_rules.specs.Objects.{Object, object_declared}
use Rattle.c_rules.specs.Scopes.{Env, Before, Meaning, Struct, incomplete, unknown_struct, defined_struct, layout_of, struct_of, tag_number, with_name}
use Rattle.c_syntax.specs.Tree.{Ident, Init, one, list, MaybeInit, no_init, an_init}
use Rattle.c_syntax.specs.Tree as syntax
use Rattle.c_tree.specs.declared.value.Value.{Value}
use Rattle.c_tree.specs.Tree.{Static, CType, void, integer, pointer, array, struct, function}
pub use Rattle.c_check_expressions.proofs.Exits.{on_ok}

pub same_judged : {X A : Type 0} (view : X → A) (result : Result X CheckError) (r s : Checked A) → r ≡ s → AgreesWith view result r → AgreesWith view result s
same_judged view result r s same h = subst (AgreesWith view result) same h

pub same_named : {A : Type 0} (e : CheckError) (r s : Checked A) → r ≡ s → Names e (faults r) → Names e (faults s)
same_named e r s same h = subst (λ q. Names e (faults q)) same h

-- ## A part, and the demands on its node

pub on_is : {A B : Type 0} (p : Checked A) (k : A → Checked B) (a : A) (r : Checked B) → p ≡ fine a → r ≡ k a → on p k ≡ r
on_is p k a r is node = ap (λ q. on q k) is ∙ sym node

pub node_fails : {A B : Type 0} (e : CheckError) (p : Checked A) (k : A → Checked B) (a : A) (r : Checked B) → p ≡ fine a → r ≡ k a → Names e (faults r) → Names e (faults (on p k))
node_fails e p k a r is node h = same_named e r (on p k) (sym (on_is p k a r is node)) h

-- a demand alone, and what is given where it is met
pub given_nothing : {X A : Type 0} (a : A) (result : Result X CheckError) (p : Checked Met) → AgreesWith (λ _. met) result p → AgreesWith (λ _. a) result (gives p (λ _. a))
given_nothing a (Ok x) p h = ap (λ q. gives q (λ _. a)) h
given_nothing a (Err e) p h = names_on e p (λ _. fine a) h

-- ## Two parts, and the demands on their node

pub both_is : {A B C : Type 0} (p : Checked A) (q : Checked B) (k : A → B → Checked C) (a : A) (b : B) (s : Checked B) → p ≡ fine a → s ≡ q → s ≡ fine b → both p q k ≡ k a b
both_is p q k a b s first node second = λ i. both (first i) ((sym node ∙ second) i) k

-- ## Strings that an initialiser holds, where the same structs are known

slots_same : (e f : Env) (t : CType) → e.structs ≡ f.structs → slots e t ≡ slots f t
slots_same e f (struct s) h = ap (λ ss. members_of_struct (unwrap_or (slice_get ss s) incomplete)) h
slots_same e f t h = refl

mutual
  held_same : (e f : Env) (t : CType) (i : Init) → e.structs ≡ f.structs → held e t i ≡ held f t i
  held_same e f t (one at x) h = refl
  held_same e f t (list at is) h = ap (λ s. held_in_turn e s is) (slots_same e f t h) ∙ turn_same e f (slots f t) is h

  turn_same : (e f : Env) (s : Slots) (is : syntax.Inits) → e.structs ≡ f.structs → held_in_turn e s is ≡ held_in_turn f s is
  turn_same e f s syntax.no_inits h = refl
  turn_same e f (copies zero t) (syntax.more_inits i is) h = refl
  turn_same e f (copies (suc n) t) (syntax.more_inits i is) h = λ j. held_same e f t i h j ++ turn_same e f (copies n t) is h j
  turn_same e f (each []) (syntax.more_inits i is) h = refl
  turn_same e f (each (t ∷ ts)) (syntax.more_inits i is) h = λ j. held_same e f t i h j ++ turn_same e f (each ts) is h j

pub held_by_same : (e f : Env) (t : CType) (m : MaybeInit) → e.structs ≡ f.structs → held_by e t m ≡ held_by f t m
held_by_same e f t no_init h = refl
held_by_same e f t (an_init i) h = held_same e f t i h

-- ## Names within others

pub named_within : (f e : Env) (x : Name) (m : Meaning) → f ≡ with_name e x m → IsWithin f e
named_within f e x m h = (record { name = x; depth = e.depth; means = m } ∷ [], e.depth, h)

pub same_within : (f g e : Env) → f ≡ g → IsWithin g e → IsWithin f e
same_within f g e same h = (h.0, h.1, same ∙ h.2)

-- ## Ends

second_alone : {A : Type 0} (q : Checked A) → both (fine met) q (λ _ a. fine a) ≡ q
second_alone (fine a) = refl
second_alone (faulty f fs) = refl

-- the second part ends the whole
pub second_ends : {X A : Type 0} (view : X → A) (result : Result X CheckError) (p : Checked Met) (q : Checked A) → p ≡ fine met → AgreesWith view result q → AgreesWith view result (both p q (λ _ a. fine a))
second_ends view result p q first h = same_judged view result q (both p q (λ _ a. fine a)) (sym (ap (λ r. both r q (λ _ a. fine a)) first ∙ second_alone q)) h

-- ## Definitions of objects

cells_twice : (gs : List TypedExpressionTree) → map value_of_cell (map typed_expression_of gs) ≡ cells_seen gs
cells_twice [] = refl
cells_twice (g ∷ gs) = ap (λ vs. value_of_cell (typed_expression_of g) ∷ vs) (cells_twice gs)

abbrev pub object_made : CType → List Value → Static
object_made t vs = record { ctype = t; cells = vs; string = false }

abbrev pub one_object : Static → Output
one_object s = record { functions = []; statics = s ∷ [] }

module _ (env : Env) (b : Before) (x : Ident) (m : MaybeInit) (r : Checked Object) (o : Object) where
  abbrev pub own : Checked (List TypedExpression)
  own = initialised_static (within_global env true x (fine o)) (after_object env b o.whole) o.whole m

  pub definition_is : (gs : List TypedExpressionTree) (s : Static) → r ≡ fine o → own ≡ fine (map typed_expression_of gs) → s ≡ object_made o.whole (cells_seen gs) → global env true b x m r ≡ fine (one_object s)
  definition_is gs s is cells made =
      ap (global env true b x m) is
      ∙ (ap (λ q. gives q (static_of o)) cells ∙ ap (λ y. fine (one_object y)) (ap (object_made o.whole) (cells_twice gs) ∙ sym made))

  pub definition_fails : (e : CheckError) → r ≡ fine o → Names e (faults own) → Names e (faults (global env true b x m r))
  definition_fails e is h = same_named e (gives own (static_of o)) (global env true b x m r) (sym (ap (global env true b x m) is)) (names_on e own (λ gs. fine (static_of o gs)) h)

-- ## Definitions of functions

pub on_more : {X E : Type 0} (r : Result X E) (A B : Type 0) → (A → B) → OnOk r A → OnOk r B
on_more (Ok x) A B f h = f h
on_more (Err e) A B f h = tt

-- a name and a type that are fine together
pub wider_fails : {A B C D : Type 0} (e : CheckError) (p : Checked A) (q : Checked B) (k : B → Checked C) (n : A → C → Checked D) → Names e (faults (both p q (λ _ b. fine b))) → Names e (faults (both p (on q k) n))
wider_fails e (fine a) (fine b) k n h = names_second e (fine a) (on (fine b) k) n (names_on e (fine b) k h)
wider_fails e (fine a) (faulty g gs) k n h = h
wider_fails e (faulty f fs) (fine b) k n h = names_first e (faulty f fs) (on (fine b) k) n (subst (λ xs. Names e (f ∷ xs)) (append-nil fs) h)
wider_fails e (faulty f fs) (faulty g gs) k n h = h

pub record IsFine {A : Type 0} (p : Checked A) : Type 0 where
  pub value : A
  pub is : p ≡ fine value

pub first_fine : {A B : Type 0} (p : Checked A) (q : Checked B) (b : B) → both p q (λ _ x. fine x) ≡ fine b → IsFine p
first_fine (fine a) q b h = record { value = a; is = refl }
first_fine (faulty f fs) q b h = absurd (not_fine f (fs ++ faults q) b h)

pub viewed_ends : {X A B M : Type 0} (view : X → A) (f : A → B) (result : Result X CheckError) (p : Checked M) (q : Checked A) (m : M) → p ≡ fine m → AgreesWith view result q → AgreesWith (λ x. f (view x)) result (both p q (λ _ a. fine (f a)))
viewed_ends view f (Ok x) p q m first h = λ i. both (first i) (h i) (λ _ a. fine (f a))
viewed_ends view f (Err e) p q m first h = names_second e p q (λ _ a. fine (f a)) h

-- ## A struct that gets its definition

opened : (s : Struct) → is_incomplete s ≡ true → s ≡ incomplete
opened incomplete h = refl
opened (unknown_struct f fs) h = absurd (not_so h)
opened (defined_struct ms) h = absurd (not_so h)

first_true : (a b : Bool) → (a && b) ≡ true → a ≡ true
first_true true b h = refl
first_true false b h = absurd (not_so h)

pub was_open : (env : Env) (x : Ident) (ms : syntax.Members) (s : Struct) → struct_definition env x ms ≡ fine s → struct_of env (tag_number env x.name) ≡ incomplete
was_open env x ms s h =
    let outer = parts_fine (new_struct env x) (on (members env [] ms) (struct_laid env x)) (λ _ r. fine r) s h in
    let inner = parts_fine (free_tag env x) (demand (is_incomplete (struct_of env (tag_number env x.name)) && not (is_among env.enums x.name)) C2 x.at met) (λ _ _. fine met) outer.0 outer.2 in
    opened (struct_of env (tag_number env x.name)) (first_true _ _ (demand_met (is_incomplete (struct_of env (tag_number env x.name)) && not (is_among env.enums x.name)) C2 x.at met inner.1 inner.3))

-- ## An object that is defined

gives_fine : {A B : Type 0} (p : Checked A) (f : A → B) (b : B) → gives p f ≡ fine b → IsFine p
gives_fine (fine a) f b h = record { value = a; is = refl }
gives_fine (faulty g gs) f b h = absurd (not_fine g gs b h)

pub at_most : (n m : ℕ) → nat_le n m ≡ true → n ≤ m
at_most n m h = grind (arith, nat_tests, h)

-- its cells are within the limit on all of them
pub within_limit : (env : Env) (b : Before) (at : ℕ) (s : syntax.Spec) (d : syntax.Declarator) (x : Ident) (m : MaybeInit) (o : Object) → object_declared env at s d x m ≡ fine o → global_declared env true b at s d x m ≡ fine o
    → b.cells + cells (layout_of env) o.whole ≤ most_static_cells
within_limit env b at s d x m o declared h =
    let found : global_object env true b x o ≡ fine o = sym (ap (λ r. on r (global_object env true b x)) declared) ∙ h in
    let demands = gives_fine (and_also (object_name env true x o.whole) (few_static env true b x o.whole)) (λ _. o) o found in
    let parts = parts_fine (object_name env true x o.whole) (few_static env true b x o.whole) (λ _ _. fine met) demands.value demands.is in
    at_most (b.cells + cells (layout_of env) o.whole) most_static_cells (demand_met (nat_le (b.cells + cells (layout_of env) o.whole) most_static_cells) C13 x.at met parts.1 parts.3)
