-- Initialisers and declarations in blocks in the two modes.
use Rattle.std.proofs.Common.{◌≡◌, ℕ, suc, Bool, true, false, List, ◌∷◌, ◌++◌, Option, Some, None, nat_le, refl, ap, sym, subst, ◌∙◌}
use Rattle.c_tree.specs.Tree.{CType, void, integer, pointer, array, struct, function}
use Rattle.c_tree.specs.Tree as typed
use Rattle.c_syntax.specs.Tree.{Ident, Spec, Declarator, Init, one, list, MaybeInit, no_init, an_init, Parts, no_parts, more_parts, Decl, decl, First, first_absent, first_expr, first_decl}
use Rattle.c_syntax.specs.Tree as syntax
use Rattle.c_rules.specs.Checked.{Checked, fine, faulty, on, both, gives, demand, Met, met}
use Rattle.c_rules.specs.Scopes.{Env, Meaning, a_local, Before, layout_of, with_name, meaning_or_unknown}
use Rattle.c_rules.specs.Counts.{past}
use Rattle.c_rules.specs.TypedExpression.{TypedExpression, tree_of}
use Rattle.c_rules.specs.Conversions.{as_if_assigned}
use Rattle.c_rules.specs.Declarators.{name_of, place_or, new_name}
use Rattle.c_rules.specs.Expressions.{value, type_declared}
use Rattle.c_rules.specs.Initialisers.{Slots, copies, each, slots, capacity, takes_list, count_inits, text_of, zeros, cell_of, scalar_cell, array_cells, cells_of_one, cells_of_list, held, held_in_turn, held_by, calls_of_init, calls_of_maybe_init, after_init, initialised, in_turn, initialised_local, initialised_static, text_fits}
use Rattle.c_rules.specs.Objects.{Object, object_of, object_declared}
use Rattle.c_rules.specs.Variables.{Next, number_in}
use Rattle.c_rules.specs.Blocks.{within_local, behind_local, behind_named, behind_part, past_part, behind_parts, behind_decl, behind_first, held_by_object, held_by_named, held_by_part, held_by_parts, held_by_decl, held_by_first, after_part, StatementTree, bare, alone, one_more, laid_variable, local_of, local, local_named, local_part, local_parts, local_decl, is_given}
use Rattle.c_rules.specs.Statements.{first_of}
use Rattle.c_rules.proofs.Modes.{Leads, LeadsTo, same_leads, fine_leads, with_fact, on_leads, then_leads, both_leads, gives_leads, first_fine, on_fine, ArePlain, MeanAlike, More, Alike, alike, named_alike, alone_leads}
use Rattle.c_rules.proofs.ModeNames.{left, right, new_name_leads, new_name_plain}
use Rattle.c_rules.proofs.ModeExpressions.{value_leads, type_declared_leads}

-- ## Parts with facts

pub on_to : {A B : Type 0} (P : Type 0) (r s : Checked A) (k l : A → Checked B) → LeadsTo P r s → ((a : A) → r ≡ fine a → P → Leads (k a) (l a)) → LeadsTo P (on r k) (on s l)
on_to P (fine a) s k l h t = with_fact P (k a) (on s l) (subst (λ x. Leads (k a) (on x l)) (sym h.0) (t a refl h.1)) (λ _ _. h.1)
on_to P (faulty f fs) s k l h t = tt

-- behind a part without a fact
pub after_to : {A B : Type 0} (P : Type 0) (r s : Checked A) (k l : A → Checked B) → Leads r s → ((a : A) → r ≡ fine a → LeadsTo P (k a) (l a)) → LeadsTo P (on r k) (on s l)
after_to P (fine a) s k l h t = subst (λ x. LeadsTo P (k a) (on x l)) (sym h.0) (t a refl)
after_to P (faulty f fs) s k l h t = tt

pub both_to : {A B C : Type 0} (P Q : Type 0) (p p' : Checked A) (q q' : Checked B) (k l : A → B → Checked C) → LeadsTo P p p' → ((a : A) → p ≡ fine a → P → LeadsTo Q q q') → ((a : A) (b : B) → Leads (k a b) (l a b)) → LeadsTo (P × Q) (both p q k) (both p' q' l)
both_to P Q (fine a) p' (fine b) q' k l g h t =
    with_fact (P × Q) (k a b) (both p' q' l)
    (subst (λ x. Leads (k a b) (both x q' l)) (sym g.0) (subst (λ y. Leads (k a b) (both (fine a) y l)) (sym (h a refl g.1).0) (t a b))) (λ _ _. (g.1, (h a refl g.1).1))
both_to P Q a p' u q' k l g h t = tt

pub gives_to : {A B : Type 0} (P : Type 0) (r s : Checked A) (f : A → B) → LeadsTo P r s → LeadsTo P (gives r f) (gives s f)
gives_to P r s f h = on_to P r s (λ a. fine (f a)) (λ a. fine (f a)) h (λ a _ _. (refl, tt))

pub weaken : {A : Type 0} (P Q : Type 0) (r s : Checked A) → (P → Q) → LeadsTo P r s → LeadsTo Q r s
weaken P Q (fine a) s k h = (h.0, k h.1)
weaken P Q (faulty f fs) s k h = tt

pub always : {A : Type 0} (P : Type 0) (r s : Checked A) → P → Leads r s → LeadsTo P r s
always P r s p h = weaken (Unit {0}) P r s (λ _. p) h

-- the right side at an equal argument
pub moved : {A X : Type 0} (P : Type 0) (r : Checked A) (G : X → Checked A) (x y : X) → x ≡ y → LeadsTo P r (G x) → LeadsTo P r (G y)
moved P r G x y e h = subst (λ z. LeadsTo P r (G z)) e h

-- a rule on two parts, of which the second leads behind the first
pub parts_to : {A B C : Type 0} (P Q R : Type 0) (p p' : Checked A) (q q' : Checked B) (k : A → B → Checked C) → (P → Q → R) → LeadsTo P p p' → (P → LeadsTo Q q q') → LeadsTo R (both p q k) (both p' q' k)
parts_to P Q R p p' q q' k t g h = weaken (P × Q) R (both p q k) (both p' q' k) (λ x. t x.0 x.1) (both_to P Q p p' q q' k k g (λ _ _ x. h x) (λ a b. same_leads (k a b)))

-- and is given something that the first makes equal
pub parts_at : {A B C X : Type 0} (P Q R : Type 0) (p p' : Checked A) (q q' : X → Checked B) (x y : X) (k : A → B → Checked C) → (P → Q → R) → (P → x ≡ y) → LeadsTo P p p' → (P → LeadsTo Q (q x) (q' x)) → LeadsTo R (both p (q x) k) (both p' (q' y) k)
parts_at P Q R p p' q q' x y k t m g h = parts_to P Q R p p' (q x) (q' y) k t g (λ z. moved Q (q x) q' x y (m z) (h z))

pub both_gives : {A B C : Type 0} (p : Checked A) (q : Checked B) (k : A → B → Checked C) (a : A) (b : B) → p ≡ fine a → q ≡ fine b → both p q k ≡ k a b
both_gives p q k a b g h = ap (λ x. both x q k) g ∙ ap (λ y. both (fine a) y k) h

pub both_lists : {A : Type 0} (xs xs' ys ys' : List A) → xs ≡ xs' → ys ≡ ys' → xs ++ ys ≡ xs' ++ ys'
both_lists xs xs' ys ys' g h = ap (λ z. z ++ ys) g ∙ ap (λ z. xs' ++ z) h

-- ## Strings that initialisers hold

mutual
  held_init : (env : Env) (v : More) (t : CType) (i : Init) → held (left env) t i ≡ held (right env v) t i
  held_init env v t (one at x) = refl
  held_init env v t (list at is) = held_turn env v (slots (left env) t) is

  held_turn : (env : Env) (v : More) (s : Slots) (is : syntax.Inits) → held_in_turn (left env) s is ≡ held_in_turn (right env v) s is
  held_turn env v s syntax.no_inits = refl
  held_turn env v (copies (suc n) t) (syntax.more_inits i is) = both_lists _ _ _ _ (held_init env v t i) (held_turn env v (copies n t) is)
  held_turn env v (each (t ∷ ts)) (syntax.more_inits i is) = both_lists _ _ _ _ (held_init env v t i) (held_turn env v (each ts) is)
  held_turn env v s (syntax.more_inits i is) = refl

held_maybe : (env : Env) (v : More) (t : CType) (m : MaybeInit) → held_by (left env) t m ≡ held_by (right env v) t m
held_maybe env v t no_init = refl
held_maybe env v t (an_init i) = held_init env v t i

-- the strings that an initialiser holds are the same
pub held_same : (e f : Env) → Alike e f → (t : CType) (m : MaybeInit) → held_by e t m ≡ held_by f t m
held_same e f (alike env v p l) t m = held_maybe env v t m

after_same : (env : Env) (v : More) (b : Before) (t : CType) (i : Init) → after_init (left env) b t i ≡ after_init (right env v) b t i
after_same env v b t i = ap (past b (calls_of_init i)) (held_init env v t i)

-- ## Initialisers

pub scalar_leads : (k : Bool) (at : ℕ) (t : CType) (r s : Checked TypedExpression) → Leads r s → Leads (scalar_cell k at t r) (scalar_cell k at t s)
scalar_leads k at t r s h =
    then_leads (on r (as_if_assigned at t)) (on s (as_if_assigned at t)) (cell_of k at) (then_leads r s (as_if_assigned at t) h)

pub one_leads : (k : Bool) (at : ℕ) (t : CType) (text : Option (List ℕ)) (r s : Checked TypedExpression) → Leads r s → Leads (cells_of_one k at t text r) (cells_of_one k at t text s)
one_leads k at (integer i) text r s h = scalar_leads k at (integer i) r s h
one_leads k at (pointer t) text r s h = scalar_leads k at (pointer t) r s h
one_leads k at (array t n) text r s h = same_leads (on (text_fits at text) (λ _. array_cells at t n text))
one_leads k at t text r s h = tt

pub list_leads : (takes : Bool) (at most n : ℕ) (r s : Checked (List TypedExpression)) → Leads r s → Leads (cells_of_list takes at most n r) (cells_of_list takes at most n s)
list_leads takes at most n r s h =
    on_leads (demand takes 14 at met) (demand takes 14 at met) (λ _. on r (λ gs. demand (nat_le n most) 14 at gs)) (λ _. on s (λ gs. demand (nat_le n most) 14 at gs)) (same_leads _)
    (λ _ _. then_leads r s (λ gs. demand (nat_le n most) 14 at gs) h)

mutual
  pub initialised_leads : (e f : Env) → Alike e f → (b : Before) (k : Bool) (t : CType) (i : Init) → Leads (initialised e b k t i) (initialised f b k t i)
  initialised_leads e f (alike env v p l) b k t (one at x) = one_leads k at t (text_of x) (value (left env) b x) (value (right env v) b x) (value_leads _ _ (alike env v p l) b x)
  initialised_leads e f (alike env v p l) b k t (list at is) =
      list_leads (takes_list t) at (capacity (slots (left env) t)) (count_inits is) (in_turn (left env) b k (slots (left env) t) is) (in_turn (right env v) b k (slots (left env) t) is) (in_turn_leads _ _ (alike env v p l) b k (slots (left env) t) is)

  pub in_turn_leads : (e f : Env) → Alike e f → (b : Before) (k : Bool) (s : Slots) (is : syntax.Inits) → Leads (in_turn e b k s is) (in_turn f b k s is)
  in_turn_leads e f (alike env v p l) b k s syntax.no_inits = same_leads (fine (zeros (layout_of (left env)) s))
  in_turn_leads e f (alike env v p l) b k (copies (suc n) t) (syntax.more_inits i is) =
      parts_at (Unit {0}) (Unit {0}) (Unit {0}) (initialised (left env) b k t i) (initialised (right env v) b k t i) (λ y. in_turn (left env) y k (copies n t) is) (λ y. in_turn (right env v) y k (copies n t) is) (after_init (left env) b t i) (after_init (right env v) b t i) (λ gs hs. fine (gs ++ hs)) (λ _ _. tt) (λ _. after_same env v b t i)
      (initialised_leads _ _ (alike env v p l) b k t i) (λ _. in_turn_leads _ _ (alike env v p l) (after_init (left env) b t i) k (copies n t) is)
  in_turn_leads e f (alike env v p l) b k (each (t ∷ ts)) (syntax.more_inits i is) =
      parts_at (Unit {0}) (Unit {0}) (Unit {0}) (initialised (left env) b k t i) (initialised (right env v) b k t i) (λ y. in_turn (left env) y k (each ts) is) (λ y. in_turn (right env v) y k (each ts) is) (after_init (left env) b t i) (after_init (right env v) b t i) (λ gs hs. fine (gs ++ hs)) (λ _ _. tt) (λ _. after_same env v b t i)
      (initialised_leads _ _ (alike env v p l) b k t i) (λ _. in_turn_leads _ _ (alike env v p l) (after_init (left env) b t i) k (each ts) is)
  in_turn_leads e f (alike env v p l) b k s (syntax.more_inits i is) = (refl, tt)

local_init_leads : (e f : Env) → Alike e f → (b : Before) (t : CType) (m : MaybeInit) → Leads (initialised_local e b t m) (initialised_local f b t m)
local_init_leads e f (alike env v p l) b t no_init = (refl, tt)
local_init_leads e f (alike env v p l) b t (an_init i) = initialised_leads _ _ (alike env v p l) b false t i

pub static_init_leads : (e f : Env) → Alike e f → (b : Before) (t : CType) (m : MaybeInit) → Leads (initialised_static e b t m) (initialised_static f b t m)
static_init_leads e f (alike env v p l) b t no_init = same_leads (initialised_static (left env) b t no_init)
static_init_leads e f (alike env v p l) b t (an_init i) = initialised_leads _ _ (alike env v p l) b true t i

pub object_leads : (e f : Env) → Alike e f → (at : ℕ) (s : Spec) (d : Declarator) (x : Ident) (m : MaybeInit) → Leads (object_declared e at s d x m) (object_declared f at s d x m)
object_leads e f (alike env v p l) at s d x m =
    then_leads (type_declared (left env) at s d) (type_declared (right env v) at s d) (object_of (left env) (place_or at d) x.at m) (type_declared_leads _ _ (alike env v p l) at s d)

-- ## Variables

met_behind : {A B C : Type 0} (r : Checked A) (n : Checked B) (f : A → C) (o : A) (a : B) → r ≡ fine o → n ≡ fine a → on r (λ q. gives n (λ _. f q)) ≡ fine (f o)
met_behind r n f o a e u = λ i. on (e i) (λ q. gives (u i) (λ _. f q))

-- behind a variable that is fine, whatever is said of it
variable_alike : (env : Env) (v : More) → ArePlain env.names → MeanAlike env.names v.names → (x : Ident) (r s : Checked Object) (o : Object) (a : Met) → Leads r s → r ≡ fine o → new_name (left env) x ≡ fine a → (f : Object → Meaning) → Alike (with_name (left env) x.name (meaning_or_unknown (on r (λ q. gives (new_name (left env) x) (λ _. f q))))) (with_name (right env v) x.name (meaning_or_unknown (on s (λ q. gives (new_name (right env v) x) (λ _. f q)))))
variable_alike env v p l x r s o a h e u f =
    named_alike (left env) (right env v) (alike env v p l) x.name (on r (λ q. gives (new_name (left env) x) (λ _. f q))) (on s (λ q. gives (new_name (right env v) x) (λ _. f q))) (f o) (new_name_plain env x a u)
    (met_behind r (new_name (left env) x) f o a e u) (met_behind s (new_name (right env v) x) f o a (fine_leads r s o h e) (fine_leads _ _ a (new_name_leads env v l x) u))

local_of_leads : (e f : Env) → Alike e f → (b : Before) (next : Next) (x : Ident) (m : MaybeInit) (o : Object) → Leads (local_of e b next x m o) (local_of f b next x m o)
local_of_leads e f w b next x m o = gives_leads (initialised_local e b o.whole m) (initialised_local f b o.whole m) (laid_variable x.name (number_in next x.name) o.whole) (local_init_leads e f w b o.whole m)

-- what stands behind a part is the same in both modes, and so are the strings in it
abbrev pub PartFacts : Env → Env → List (List ℕ) → List (List ℕ) → Type 0
PartFacts e f ws vs = Alike e f × (ws ≡ vs)

local_leads : (env : Env) (v : More) → ArePlain env.names → MeanAlike env.names v.names → (b : Before) (next : Next) (x : Ident) (m : MaybeInit) (r s : Checked Object) → Leads r s → Leads (local (left env) b next x m r) (local (right env v) b next x m s)
local_leads env v p l b next x m r s h =
    both_leads (new_name (left env) x) (new_name (right env v) x) (on r (local_of (within_local (left env) next x r) b next x m)) (on s (local_of (within_local (right env v) next x s) b next x m)) (λ _ q. fine q) (λ _ q. fine q) (new_name_leads env v l x)
    (λ a u. on_leads r s (local_of (within_local (left env) next x r) b next x m) (local_of (within_local (right env v) next x s) b next x m) h (λ o e. local_of_leads _ _ (variable_alike env v p l x r s o a h e u (λ q. a_local (number_in next x.name) q.seen q.whole)) b next x m o)) (λ _ q. (refl, tt))

local_facts : (env : Env) (v : More) → ArePlain env.names → MeanAlike env.names v.names → (b : Before) (next : Next) (x : Ident) (m : MaybeInit) (r s : Checked Object) → Leads r s → (c : StatementTree typed.Stmt) → local (left env) b next x m r ≡ fine c → PartFacts (behind_local (left env) next x r) (behind_local (right env v) next x s) (held_by_object (left env) m r) (held_by_object (right env v) m s)
local_facts env v p l b next x m r s h c e =
    let k = first_fine (new_name (left env) x) (on r (local_of (within_local (left env) next x r) b next x m)) (λ _ q. fine q) c e in
    let o = on_fine r (local_of (within_local (left env) next x r) b next x m) k.1 k.3 in
    (variable_alike env v p l x r s o.0 k.0 h o.1 k.2 (λ q. a_local (number_in next x.name) q.whole q.whole), ap (held_by_object (left env) m) o.1 ∙ (held_maybe env v o.0.whole m ∙ sym (ap (held_by_object (right env v) m) (fine_leads r s o.0 h o.1))))

pub part_leads : (e f : Env) → Alike e f → (b : Before) (next : Next) (at : ℕ) (s : Spec) (d : Declarator) (m : MaybeInit) → LeadsTo (PartFacts (behind_part e next at s d m) (behind_part f next at s d m) (held_by_part e at s d m) (held_by_part f at s d m)) (local_part e b next at s d m) (local_part f b next at s d m)
part_leads e f (alike env v p l) b next at s d m = by_name (name_of d)
  where
    by_name : (n : Option Ident) → LeadsTo (PartFacts (behind_named (left env) next at s d m n) (behind_named (right env v) next at s d m n) (held_by_named (left env) at s d m n) (held_by_named (right env v) at s d m n)) (local_named (left env) b next at s d m n) (local_named (right env v) b next at s d m n)
    by_name None = tt
    by_name (Some x) =
        alone_leads (PartFacts (behind_named (left env) next at s d m (Some x)) (behind_named (right env v) next at s d m (Some x)) (held_by_named (left env) at s d m (Some x)) (held_by_named (right env v) at s d m (Some x)))
        (is_given (left env) x.name (type_declared (left env) at s d)) (is_given (right env v) x.name (type_declared (right env v) at s d)) 3 (place_or at d) (place_or at d)
        (local (left env) b next x m (object_declared (left env) at s d x m)) (local (right env v) b next x m (object_declared (right env v) at s d x m))
        (with_fact _ _ _ (local_leads env v p l b next x m (object_declared (left env) at s d x m) (object_declared (right env v) at s d x m) (object_leads _ _ (alike env v p l) at s d x m))
        (λ c e. local_facts env v p l b next x m (object_declared (left env) at s d x m) (object_declared (right env v) at s d x m) (object_leads _ _ (alike env v p l) at s d x m) c e))

pub parts_lead : (e f : Env) → Alike e f → (b : Before) (next : Next) (at : ℕ) (s : Spec) (ps : Parts) → LeadsTo (PartFacts (behind_parts e next at s ps) (behind_parts f next at s ps) (held_by_parts e next at s ps) (held_by_parts f next at s ps)) (local_parts e b next at s ps) (local_parts f b next at s ps)
parts_lead e f w b next at s no_parts = (refl, (w, refl))
parts_lead e f w b next at s (more_parts d m ps) =
    let e' : Env = behind_part e next at s d m in
    let f' : Env = behind_part f next at s d m in
    parts_at (PartFacts e' f' (held_by_part e at s d m) (held_by_part f at s d m)) (PartFacts (behind_parts e' (past_part next d) at s ps) (behind_parts f' (past_part next d) at s ps) (held_by_parts e' (past_part next d) at s ps) (held_by_parts f' (past_part next d) at s ps)) _
    (local_part e b next at s d m) (local_part f b next at s d m) (λ y. local_parts e' y (past_part next d) at s ps) (λ y. local_parts f' y (past_part next d) at s ps) (after_part e b at s d m) (after_part f b at s d m) (λ q r. fine (one_more q r))
    (λ h i. (i.0, both_lists _ _ _ _ h.1 i.1)) (λ h. ap (past b (calls_of_maybe_init m)) h.1) (part_leads e f w b next at s d m) (λ h. parts_lead e' f' h.0 (after_part e b at s d m) (past_part next d) at s ps)

pub decl_leads : (e f : Env) → Alike e f → (b : Before) (next : Next) (d : Decl) → LeadsTo (PartFacts (behind_decl e next d) (behind_decl f next d) (held_by_decl e next d) (held_by_decl f next d)) (local_decl e b next d) (local_decl f b next d)
decl_leads e f w b next (decl at class s ps) = parts_lead e f w b next at s ps

pub first_leads : (e f : Env) → Alike e f → (b : Before) (next : Next) (x : First) → LeadsTo (PartFacts (behind_first e next x) (behind_first f next x) (held_by_first e next x) (held_by_first f next x)) (first_of e b next x) (first_of f b next x)
first_leads e f w b next first_absent = (refl, (w, refl))
first_leads e f w b next (first_expr x) = always _ _ _ (w, refl) (gives_leads (value e b x) (value f b x) (λ g. alone (bare (typed.evaluate (tree_of g)))) (value_leads e f w b x))
first_leads e f w b next (first_decl d) = decl_leads e f w b next d
