-- How a node that is checked part by part ends.
use Rattle.std.proofs.Common.{◌≡◌, Result, Ok, Err, OnOk, IsErr, IsErrAnd, refl, ap, sym, subst, ◌∙◌}
use Rattle.std.proofs.lemmas.Result.{IfOk-from_err}
use Rattle.c_check_types.specs.CheckError.{CheckError}
use Rattle.c_check_types.specs.Agreement.{Names, AgreesWith}
use Rattle.c_check_types.proofs.Parts.{names_on, names_first, names_second, raised}
use Rattle.c_rules.specs.Scopes.{Before}
use Rattle.c_rules.specs.Checked.{Checked, fine, faults, on, both, beside, all_three}

-- a clause on Ok alone
pub on_ok : {X E : Type 0} (r : Result X E) (A : Type 0) → A → OnOk r A
on_ok (Ok x) A a = a
on_ok (Err e) A a = tt

-- the same after an error of a part
pub none_ok : {X E : Type 0} (r : Result X E) (A : Type 0) → IsErr r → OnOk r A
none_ok r A h = IfOk-from_err r (λ _. A) h

-- ## One part

pub named_on : {A C : Type 0} (e : CheckError) (N : Checked C) (P P' : Checked A) (k : A → Checked C) → N ≡ on P k → P' ≡ P → Names e (faults P') → Names e (faults N)
named_on e N P P' k node same h = subst (λ r. Names e (faults r)) (sym node) (names_on e P k (subst (λ r. Names e (faults r)) same h))

pub on_ended : {X A C : Type 0} (view : X → C) (result : Result X CheckError) (N : Checked C) (P P' : Checked A) (k : A → Checked C) (a : A) (s : Checked C) → N ≡ on P k → P' ≡ P → P' ≡ fine a → s ≡ k a → AgreesWith view result s → AgreesWith view result N
on_ended view result N P P' k a s node same p step j =
    subst (AgreesWith view result) (sym (node ∙ ap (λ r. on r k) (sym same ∙ p) ∙ sym step)) j

-- ## Two parts

pub named_first : {A B C : Type 0} (e : CheckError) (N : Checked C) (P P' : Checked A) (Q : Checked B) (k : A → B → Checked C) → N ≡ both P Q k → P' ≡ P → Names e (faults P') → Names e (faults N)
named_first e N P P' Q k node same h = subst (λ r. Names e (faults r)) (sym node) (names_first e P Q k (subst (λ r. Names e (faults r)) same h))

pub named_second : {A B C : Type 0} (e : CheckError) (N : Checked C) (P : Checked A) (Q Q' : Checked B) (k : A → B → Checked C) → N ≡ both P Q k → Q' ≡ Q → Names e (faults Q') → Names e (faults N)
named_second e N P Q Q' k node same h = subst (λ r. Names e (faults r)) (sym node) (names_second e P Q k (subst (λ r. Names e (faults r)) same h))

both_fine : {A B C : Type 0} (P : Checked A) (Q : Checked B) (k : A → B → Checked C) (a : A) (b : B) → P ≡ fine a → Q ≡ fine b → both P Q k ≡ k a b
both_fine P Q k a b p q = λ i. both (p i) (q i) k

pub two_ended : {X A B C : Type 0} (view : X → C) (result : Result X CheckError) (N : Checked C) (P P' : Checked A) (Q Q' : Checked B) (k : A → B → Checked C) (a : A) (b : B) (s : Checked C) → N ≡ both P Q k → P' ≡ P → P' ≡ fine a → Q' ≡ Q → Q' ≡ fine b → s ≡ k a b → AgreesWith view result s → AgreesWith view result N
two_ended view result N P P' Q Q' k a b s node first p second q step j =
    subst (AgreesWith view result) (sym (node ∙ both_fine P Q k a b (sym first ∙ p) (sym second ∙ q) ∙ sym step)) j

-- ## Three parts

pub named_first_of : {A B C D : Type 0} (e : CheckError) (N : Checked D) (P P' : Checked A) (Q : Checked B) (R : Checked C) (k : A → B → C → Checked D) → N ≡ all_three P Q R k → P' ≡ P → Names e (faults P') → Names e (faults N)
named_first_of e N P P' Q R k node same h = named_first e N P P' (beside Q R) (λ a t. k a t.first t.second) node same h

pub named_second_of : {A B C D : Type 0} (e : CheckError) (N : Checked D) (P : Checked A) (Q Q' : Checked B) (R : Checked C) (k : A → B → C → Checked D) → N ≡ all_three P Q R k → Q' ≡ Q → Names e (faults Q') → Names e (faults N)
named_second_of e N P Q Q' R k node same h =
    named_second e N P (beside Q R) (beside Q R) (λ a t. k a t.first t.second) node refl (named_first e (beside Q R) Q Q' R (λ a b. fine (record { first = a; second = b })) refl same h)

pub named_third_of : {A B C D : Type 0} (e : CheckError) (N : Checked D) (P : Checked A) (Q : Checked B) (R R' : Checked C) (k : A → B → C → Checked D) → N ≡ all_three P Q R k → R' ≡ R → Names e (faults R') → Names e (faults N)
named_third_of e N P Q R R' k node same h =
    named_second e N P (beside Q R) (beside Q R) (λ a t. k a t.first t.second) node refl (named_second e (beside Q R) Q R R' (λ a b. fine (record { first = a; second = b })) refl same h)

pub three_ended : {X A B C D : Type 0} (view : X → D) (result : Result X CheckError) (N : Checked D) (P P' : Checked A) (Q Q' : Checked B) (R R' : Checked C) (k : A → B → C → Checked D) (a : A) (b : B) (c : C) (s : Checked D) → N ≡ all_three P Q R k → P' ≡ P → P' ≡ fine a → Q' ≡ Q → Q' ≡ fine b → R' ≡ R → R' ≡ fine c → s ≡ k a b c → AgreesWith view result s → AgreesWith view result N
three_ended view result N P P' Q Q' R R' k a b c s node first p second q third r step j =
    let same : all_three P Q R k ≡ k a b c = λ i. all_three ((sym first ∙ p) i) ((sym second ∙ q) i) ((sym third ∙ r) i) k in
    subst (AgreesWith view result) (sym (node ∙ same ∙ sym step)) j

-- ## The exits of the code by `?`, after an error of a part

pub fails_on : {X A C : Type 0} (view : X → C) (result : Result X CheckError) (e : CheckError) (N : Checked C) (P : Checked A) (k : A → Checked C) → IsErr result × IsErrAnd result (λ y. y ≡ e) → N ≡ on P k → Names e (faults P) → AgreesWith view result N
fails_on view result e N P k by node h = raised view N result e by (named_on e N P P k node refl h)

pub fails_first : {X A B C : Type 0} (view : X → C) (result : Result X CheckError) (e : CheckError) (N : Checked C) (P : Checked A) (Q : Checked B) (k : A → B → Checked C) → IsErr result × IsErrAnd result (λ y. y ≡ e) → N ≡ both P Q k → Names e (faults P) → AgreesWith view result N
fails_first view result e N P Q k by node h = raised view N result e by (named_first e N P P Q k node refl h)

pub fails_second : {X A B C : Type 0} (view : X → C) (result : Result X CheckError) (e : CheckError) (N : Checked C) (P : Checked A) (Q Q' : Checked B) (k : A → B → Checked C) → IsErr result × IsErrAnd result (λ y. y ≡ e) → N ≡ both P Q k → Q' ≡ Q → Names e (faults Q') → AgreesWith view result N
fails_second view result e N P Q Q' k by node same h = raised view N result e by (named_second e N P Q Q' k node same h)

pub fails_first_of : {X A B C D : Type 0} (view : X → D) (result : Result X CheckError) (e : CheckError) (N : Checked D) (P : Checked A) (Q : Checked B) (R : Checked C) (k : A → B → C → Checked D) → IsErr result × IsErrAnd result (λ y. y ≡ e) → N ≡ all_three P Q R k → Names e (faults P) → AgreesWith view result N
fails_first_of view result e N P Q R k by node h = raised view N result e by (named_first_of e N P P Q R k node refl h)

pub fails_second_of : {X A B C D : Type 0} (view : X → D) (result : Result X CheckError) (e : CheckError) (N : Checked D) (P : Checked A) (Q Q' : Checked B) (R : Checked C) (k : A → B → C → Checked D) → IsErr result × IsErrAnd result (λ y. y ≡ e) → N ≡ all_three P Q R k → Q' ≡ Q → Names e (faults Q') → AgreesWith view result N
fails_second_of view result e N P Q Q' R k by node same h = raised view N result e by (named_second_of e N P Q Q' R k node same h)

pub fails_third_of : {X A B C D : Type 0} (view : X → D) (result : Result X CheckError) (e : CheckError) (N : Checked D) (P : Checked A) (Q : Checked B) (R R' : Checked C) (k : A → B → C → Checked D) → IsErr result × IsErrAnd result (λ y. y ≡ e) → N ≡ all_three P Q R k → R' ≡ R → Names e (faults R') → AgreesWith view result N
fails_third_of view result e N P Q R R' k by node same h = raised view N result e by (named_third_of e N P Q R R' k node same h)

-- what was counted, by other words
pub counted_as : {X E : Type 0} (r : Result X E) (new x y : Before) → OnOk r (new ≡ x) → x ≡ y → OnOk r (new ≡ y)
counted_as (Ok a) new x y h q = h ∙ q
counted_as (Err e) new x y h q = h

-- what stays as it is
pub same_ok : {X E A : Type 0} (r : Result X E) (a : A) → OnOk r (a ≡ a)
same_ok (Ok x) a = refl
same_ok (Err e) a = tt

pub kept_then : {X E A : Type 0} (r : Result X E) (c b a : A) → OnOk r (c ≡ b) → b ≡ a → OnOk r (c ≡ a)
kept_then (Ok x) c b a h q = h ∙ q
kept_then (Err e) c b a h q = h
