-- What an answer on the parts says of the whole.
use Rattle.std.proofs.Common.{◌≡◌, List, [], ◌∷◌, ◌++◌, arith, Result, Ok, Err, IsErr, IsErrAnd, refl, ap}
use Rattle.std.proofs.lemmas.Result.{err_from_is_err_and}
use Rattle.std.proofs.lemmas.List.Elements.{Contains-append_left, Contains-append_right}
use Rattle.c_check_values.specs.declared.error.CheckError.{CheckError}
use Rattle.c_check_values.specs.declared.error.CheckError.TheVariants as errors
use Rattle.c_check_scopes.specs.Checked.{Fault, Checked, fine, faulty, faults, on, both, parts_first}
use Rattle.c_check_values.specs.Agreement.{Names, AgreesWith}

-- ## Errors: a demand that fails in a part fails in the whole

pub named_left : (e : CheckError) (fs gs : List Fault) → Names e fs → Names e (fs ++ gs)
named_left errors.OutOfMemory fs gs h = tt
named_left (errors.At code at) fs gs h = Contains-append_left _ _ _ h

pub named_right : (e : CheckError) (fs gs : List Fault) → Names e gs → Names e (fs ++ gs)
named_right errors.OutOfMemory fs gs h = tt
named_right (errors.At code at) fs gs h = Contains-append_right _ _ _ h

none_named : {B : Type 0} (e : CheckError) (r : Checked B) → Names e [] → Names e (faults r)
none_named errors.OutOfMemory r h = tt
none_named (errors.At code at) r h = absurd (omega arith)

pub names_on : {A B : Type 0} (e : CheckError) (r : Checked A) (k : A → Checked B) → Names e (faults r) → Names e (faults (on r k))
names_on e (fine a) k h = none_named e (k a) h
names_on e (faulty f fs) k h = h

pub names_first : {A B C : Type 0} (e : CheckError) (r : Checked A) (s : Checked B) (k : A → B → Checked C) → Names e (faults r) → Names e (faults (both r s k))
names_first e (fine a) (fine b) k h = none_named e (k a b) h
names_first {C = C} e (fine a) (faulty g gs) k h = none_named {B = C} e (faulty g gs) h
names_first e (faulty f fs) s k h = named_left e (f ∷ fs) (faults s) h

pub names_second : {A B C : Type 0} (e : CheckError) (r : Checked A) (s : Checked B) (k : A → B → Checked C) → Names e (faults s) → Names e (faults (both r s k))
names_second e (fine a) (fine b) k h = none_named e (k a b) h
names_second e (fine a) (faulty g gs) k h = h
names_second e (faulty f fs) s k h = named_right e (f ∷ fs) (faults s) h

-- ## Demands that stand only where parts meet theirs

-- a demand that fails in the parts
pub names_parts : {A B : Type 0} (e : CheckError) (q : Checked A) (r : Checked B) → ((b : B) → r ≡ fine b → (a : A) × (q ≡ fine a)) → Names e (faults q) → Names e (faults (parts_first q r))
names_parts e (fine a) r k h = none_named e (parts_first (fine a) r) h
names_parts e (faulty g gs) (fine b) k h = absurd (let is = k b refl in let no : faulty g gs ≡ fine is.0 = is.1 in cc)
names_parts e (faulty g gs) (faulty f fs) k h = h

-- a demand on the node that fails where the parts are fine
pub names_node : {A B : Type 0} (e : CheckError) (q : Checked A) (r : Checked B) (a : A) → q ≡ fine a → Names e (faults r) → Names e (faults (parts_first q r))
names_node e (fine x) (fine b) a is h = h
names_node e (fine x) (faulty f fs) a is h = h
names_node e (faulty g gs) r a is h = absurd (cc)

-- what the node gives where the parts are fine
pub parts_judged : {X A B : Type 0} (view : X → B) (result : Result X CheckError) (q : Checked A) (r : Checked B) (a : A) → q ≡ fine a → AgreesWith view result r → AgreesWith view result (parts_first q r)
parts_judged view (Ok x) q r a is h = ap (parts_first q) h
parts_judged view (Err e) q r a is h = names_node e q r a is h

-- ## The exits of the code

-- by `?`, after an error of a part
pub raised : {X A : Type 0} (view : X → A) (found : Checked A) (result : Result X CheckError) (e : CheckError) → IsErr result × IsErrAnd result (λ y. y ≡ e) → Names e (faults found) → AgreesWith view result found
raised view found result e h n = let w = err_from_is_err_and result h.1 in rw (w.1, w.2) n
