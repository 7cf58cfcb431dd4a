-- Two checks of which one is fine exactly where the other is, and then gives the same.
use Rattle.std.proofs.Common.{◌≡◌, ℕ, Bool, true, false, if◌then◌else◌, refl}
use Rattle.c_rules.specs.Checked.{Checked, fine, on, both, all_three, gives, demand, fault, and_also, Met, met, fails_with, parts_first}
use Rattle.c_rules.specs.TypedExpression.{TypedExpression}
use Rattle.c_rules_laws.proofs.Holding.{Holds}
use Rattle.c_rules_laws.proofs.Leads.{Leads, same_leads, fine_leads, on_leads, both_leads, gives_leads, all_three_lead, alone_leads, parts_first_leads}

pub record Alike (A : Type 0) (r s : Checked A) : Type 0 where
  pub forth : Leads r s
  pub back : Leads s r

pub alike : {A : Type 0} (r : Checked A) → Alike A r r
alike r = record { forth = same_leads r; back = same_leads r }

-- what is fine here is fine there
pub fine_there : {A : Type 0} {r s : Checked A} (a : A) → Alike A r s → r ≡ fine a → s ≡ fine a
fine_there {A} {r} {s} a h e = fine_leads r s a h.forth e

pub fine_here : {A : Type 0} {r s : Checked A} (a : A) → Alike A r s → s ≡ fine a → r ≡ fine a
fine_here {A} {r} {s} a h e = fine_leads s r a h.back e

pub on_alike : {A B : Type 0} {r s : Checked A} (k l : A → Checked B) → Alike A r s → ((a : A) → r ≡ fine a → Alike B (k a) (l a)) → Alike B (on r k) (on s l)
on_alike {A} {B} {r} {s} k l h t = record {
  forth = on_leads r s k l h.forth (λ a e. (t a e).forth);
  back = on_leads s r l k h.back (λ a e. (t a (fine_here a h e)).back);
}

pub gives_alike : {A B : Type 0} {r s : Checked A} (f : A → B) → Alike A r s → Alike B (gives r f) (gives s f)
gives_alike {A} {B} {r} {s} f h = record { forth = gives_leads r s f h.forth; back = gives_leads s r f h.back }

-- with one demand in place of what fails
pub alone_alike : {A : Type 0} (t u : Bool) (code at to : ℕ) {r s : Checked A} → Alike A r s → Alike A (fails_with t code at r) (fails_with u code to s)
alone_alike {A} t u code at to {r} {s} h = record {
  forth = alone_leads (Unit {0}) t u code at to r s h.forth;
  back = alone_leads (Unit {0}) u t code to at s r h.back;
}

-- beside the parts of a node
pub parts_first_alike : {A B D : Type 0} (q : Checked A) (u : Checked B) {r s : Checked D} → Alike D r s → Alike D (parts_first q r) (parts_first u s)
parts_first_alike {A} {B} {D} q u {r} {s} h = record {
  forth = parts_first_leads (Unit {0}) q u r s h.forth;
  back = parts_first_leads (Unit {0}) u q s r h.back;
}

-- the second part is looked at where the first one is fine
pub both_alike : {A B C : Type 0} {p p' : Checked A} (q q' : Checked B) (k l : A → B → Checked C) → Alike A p p' → ((a : A) → p ≡ fine a → Alike B q q') → ((a : A) (b : B) → Alike C (k a b) (l a b)) → Alike C (both p q k) (both p' q' l)
both_alike {A} {B} {C} {p} {p'} q q' k l g h t = record {
  forth = both_leads p p' q q' k l g.forth (λ a e. (h a e).forth) (λ a b. (t a b).forth);
  back = both_leads p' p q' q l k g.back (λ a e. (h a (fine_here a g e)).back) (λ a b. (t a b).back);
}

-- two parts of which one thing is made
pub joined_alike : {A B C : Type 0} {p p' : Checked A} (q q' : Checked B) (f : A → B → C) → Alike A p p' → ((a : A) → p ≡ fine a → Alike B q q') → Alike C (both p q (λ a b. fine (f a b))) (both p' q' (λ a b. fine (f a b)))
joined_alike {A} {B} {C} {p} {p'} q q' f g h = both_alike q q' (λ a b. fine (f a b)) (λ a b. fine (f a b)) g h (λ a b. alike (fine (f a b)))

pub three_alike : {A B C D : Type 0} {p p' : Checked A} (q q' : Checked B) (r r' : Checked C) (k l : A → B → C → Checked D) → Alike A p p' → ((a : A) → p ≡ fine a → Alike B q q') → ((a : A) (b : B) → p ≡ fine a → q ≡ fine b → Alike C r r') → ((a : A) (b : B) (c : C) → Alike D (k a b c) (l a b c)) → Alike D (all_three p q r k) (all_three p' q' r' l)
three_alike {A} {B} {C} {D} {p} {p'} q q' r r' k l g h i t = record {
  forth = all_three_lead p p' q q' r r' k l g.forth (λ a e. (h a e).forth) (λ a b e f. (i a b e f).forth) (λ a b c. (t a b c).forth);
  back = all_three_lead p' p q' q r' r l k g.back (λ a e. (h a (fine_here a g e)).back) (λ a b e f. let d : p ≡ fine a = fine_here a g e in (i a b d (fine_here b (h a d) f)).back) (λ a b c. (t a b c).back);
}

-- a demand at another place
pub demand_alike : {A : Type 0} (t : Bool) (code at to : ℕ) (a : A) → Alike A (demand t code at a) (demand t code to a)
demand_alike true code at to a = alike (fine a)
demand_alike false code at to a = record { forth = tt; back = tt }

pub and_alike : {p p' q q' : Checked Met} → Alike Met p p' → Alike Met q q' → Alike Met (and_also p q) (and_also p' q')
and_alike {p} {p'} {q} {q'} g h = both_alike q q' (λ _ _. fine met) (λ _ _. fine met) g (λ _ _. h) (λ _ _. alike (fine met))

pub by_test : {A : Type 0} (t : Bool) {p p' q q' : Checked A} → Alike A p p' → Alike A q q' → Alike A (if t then p else q) (if t then p' else q')
by_test true g h = g
by_test false g h = h

pub fault_alike : {A : Type 0} (code at to : ℕ) → Alike A (fault code at) (fault code to)
fault_alike code at to = record { forth = tt; back = tt }

-- ## Both, and what is given has a property

pub record Agree (P : TypedExpression → Type 0) (r s : Checked TypedExpression) : Type 0 where
  pub same : Alike TypedExpression r s
  pub has : Holds P r

pub fine_agree : {P : TypedExpression → Type 0} (g : TypedExpression) → P g → Agree P (fine g) (fine g)
fine_agree {P} g h = record { same = alike (fine g); has = h }

pub fault_agree : {P : TypedExpression → Type 0} (code at to : ℕ) → Agree P (fault code at) (fault code to)
fault_agree {P} code at to = record { same = fault_alike code at to; has = tt }

pub demand_agree : {P : TypedExpression → Type 0} (t : Bool) (code at to : ℕ) (g : TypedExpression) → (t ≡ true → P g) → Agree P (demand t code at g) (demand t code to g)
demand_agree {P} true code at to g h = fine_agree g (h refl)
demand_agree {P} false code at to g h = fault_agree code at to

-- behind a demand that is met
pub behind_agree : {P : TypedExpression → Type 0} (t : Bool) (code at to : ℕ) (r s : Checked TypedExpression) → (t ≡ true → Agree P r s) → Agree P (on (demand t code at met) (λ _. r)) (on (demand t code to met) (λ _. s))
behind_agree {P} true code at to r s h = h refl
behind_agree {P} false code at to r s h = fault_agree code at to

pub if_agree : {P : TypedExpression → Type 0} (t : Bool) {p p' q q' : Checked TypedExpression} → Agree P p p' → Agree P q q' → Agree P (if t then p else q) (if t then p' else q')
if_agree {P} true g h = g
if_agree {P} false g h = h
