-- What follows a step that was answered.
use Rattle.std.proofs.Common.{◌≡◌, ℕ, ◌<◌, ◌≤◌, ◌-◌, Bool, true, false, if◌then◌else◌, nat_lt, length, List, [], ◌∷◌, ◌++◌, Some, None, nat_eq, sym, ap, ◌∙◌, subst, refl, append_assoc, append-nil}
use Rattle.std.specs.Prelude.{◌==◌}
use Rattle.std.proofs.Math.Dec.{eqb-suc-zero}
use Rattle.std.proofs.lemmas.Bool.{lt-ltb, le-ltb, le-leb, lt-leb, false≢true, true≢false}
use Rattle.dm_base.specs.declared.event.Event.{Event}
use Rattle.dm_base.specs.declared.event.Event.TheVariants.{Pre, Post}
use Rattle.dm_base.specs.declared.outcome.Outcome.TheVariants.{Undefined}
use Rattle.c_tree.specs.declared.value.Value.{Value}
use Rattle.c_tree.specs.declared.value.Value.TheVariants.{Indeterminate, Int, Uint, Char, Uchar, Null, Func, At}
use Rattle.c_tree.specs.Tree.{Expr, Exprs, no_exprs, more_exprs, Program}
use Rattle.c_tree.specs.declared.tree.TExpr.{TExpr}
use Rattle.c_tree.specs.View.{expr_of, exprs_of}
use Rattle.c_tree.specs.Functions.{defined}
use Rattle.c_values.specs.Answers.{Answer, gives, undefined}
use Rattle.c_values.specs.Memory.{Objects}
use Rattle.c_meaning.specs.Meaning.{Frame as Place, World, null_call}
use Rattle.c_meaning.specs.Results.{State, with_memory, Result, Go, Stop, then_do, answered, remembered}
use Rattle.c_meaning.specs.SystemCalls as calls
use Rattle.ref_machine_frames.specs.Held.{call_undefined, eval, eval_all, eval_each, system_call, system_call_alone}
use Rattle.ref_machine_frames.specs.declared.frames.Callee.{Callee}
use Rattle.ref_machine_frames.specs.Frames.{asked, made}
use Rattle.ref_machine_frames.proofs.Joining.{after_none, then_assoc, then_same}
use Rattle.ref_machine_expressions.specs.Asking.{site_of}

-- a step gave something, and the run goes on with it
pub goes_on_with : {A B C : Type 0} (answer : Answer A) (a : A) (st : State) (f : A → State → Result B) (k : B → State → Result C) (x : Result C) → gives a ≡ answer → x ≡ then_do (f a st) k → x ≡ then_do (then_do (answered answer st) f) k
goes_on_with answer a st f k x e h =
    h ∙ (ap (λ r. then_do r k) (sym (after_none (f a st))) ∙ ap (λ o. then_do (then_do (answered o st) f) k) e)

-- a step gave nothing, and the run stops
pub stops_with : {A B C D : Type 0} (answer : Answer A) (kind : ℕ) (st : State) (f : A → State → Result B) (k : B → State → Result C) (x : Result C) (g : D → State → Result C) → undefined kind ≡ answer → x ≡ then_do (answered (undefined kind) st) g → x ≡ then_do (then_do (answered answer st) f) k
stops_with answer kind st f k x g e h = h ∙ ap (λ o. then_do (then_do (answered o st) f) k) e

-- a place has its value
pub stored_on : (answer : Answer Objects) (new : Objects) (v : Value) (st : State) (k : Value → State → Result Value) → gives new ≡ answer → k v (with_memory st new) ≡ then_do (remembered answer v st) k
stored_on answer new v st k e =
    sym (after_none (k v (with_memory st new))) ∙ ap (λ o. then_do (remembered o v st) k) e

-- a place has it not
pub not_stored : (answer : Answer Objects) (kind : ℕ) (v : Value) (st other : State) (k : Value → State → Result Value) (x : Result Value) → undefined kind ≡ answer → x ≡ then_do (answered (undefined kind) other) k → x ≡ then_do (remembered answer v st) k
not_stored answer kind v st other k x e h = h ∙ ap (λ o. then_do (remembered o v st) k) e

-- a value is tested once it is there
pub asked_first : {B C : Type 0} (r : Result Value) (f : Bool → State → Result B) (k : B → State → Result C) (x : Result C) → x ≡ then_do (then_do r (λ v st. then_do (asked v st) f)) k → x ≡ then_do (then_do (then_do r asked) f) k
asked_first r f k x h = h ∙ ap (λ r. then_do r k) (sym (then_assoc r asked f))

-- no argument is left
pub no_argument : (p : Program) (w : World) (wanted : Bool) (whom : Callee) (before : List Value) (st : State) (fr : Place) (es : Exprs) (k : Value → State → Result Value) (x : Result Value) → es ≡ no_exprs → x ≡ then_do (made p w wanted whom before st) k → x ≡ then_do (then_do (eval_all p w fr es st) (λ vs st. made p w wanted whom (before ++ vs) st)) k
no_argument p w wanted whom before st fr es k x none h =
    h
    ∙ (ap (λ vs. then_do (made p w wanted whom vs st) k) (sym (append-nil before))
    ∙ (ap (λ r. then_do r k) (sym (after_none (made p w wanted whom (before ++ []) st)))
    ∙ ap (λ es. then_do (then_do (eval_all p w fr es st) (λ vs st. made p w wanted whom (before ++ vs) st)) k) (sym none)))

-- the values of the later arguments come after that of the first one
pub later_values : (p : Program) (w : World) (wanted : Bool) (whom : Callee) (before : List Value) (v : Value) (fr : Place) (rest : Exprs) (st : State) → then_do (then_do (eval_all p w fr rest st) (λ vs st. Go (v ∷ vs) st [])) (λ vs st. made p w wanted whom (before ++ vs) st) ≡ then_do (eval_all p w fr rest st) (λ vs st. made p w wanted whom (before ++ (v ∷ vs)) st)
later_values p w wanted whom before v fr rest st =
    then_assoc (eval_all p w fr rest st) (λ vs st. Go (v ∷ vs) st []) (λ vs st. made p w wanted whom (before ++ vs) st)
    ∙ then_same (eval_all p w fr rest st) _ _ (λ vs st. after_none (made p w wanted whom (before ++ (v ∷ vs)) st))

-- an argument is left
pub an_argument : (p : Program) (w : World) (wanted : Bool) (whom : Callee) (before : List Value) (st : State) (fr : Place) (es : Exprs) (e : Expr) (rest : Exprs) (k : Value → State → Result Value) (x : Result Value) → es ≡ more_exprs e rest → x ≡ then_do (then_do (eval p w fr true e st) (λ v st. then_do (eval_all p w fr rest st) (λ vs st. made p w wanted whom (before ++ (v ∷ vs)) st))) k → x ≡ then_do (then_do (eval_all p w fr es st) (λ vs st. made p w wanted whom (before ++ vs) st)) k
an_argument p w wanted whom before st fr es e rest k x is h =
    h
    ∙ (ap (λ r. then_do r k) (sym (then_assoc (eval p w fr true e st) (λ v st. then_do (eval_all p w fr rest st) (λ vs st. Go (v ∷ vs) st [])) (λ vs st. made p w wanted whom (before ++ vs) st)
    ∙ then_same (eval p w fr true e st) _ _ (λ v st. later_values p w wanted whom before v fr rest st)))
    ∙ ap (λ es. then_do (then_do (eval_all p w fr es st) (λ vs st. made p w wanted whom (before ++ vs) st)) k) (sym is))

-- one more value of an argument
pub one_more_value : (p : Program) (w : World) (wanted : Bool) (whom : Callee) (before all : List Value) (v : Value) (fr : Place) (rest : Exprs) (st : State) (k : Value → State → Result Value) (x : Result Value) → all ≡ before ++ (v ∷ []) → x ≡ then_do (then_do (eval_all p w fr rest st) (λ vs st. made p w wanted whom (all ++ vs) st)) k → x ≡ then_do (then_do (eval_all p w fr rest st) (λ vs st. made p w wanted whom (before ++ (v ∷ vs)) st)) k
one_more_value p w wanted whom before all v fr rest st k x e h =
    h
    ∙ ap (λ r. then_do r k) (then_same (eval_all p w fr rest st) _ _ (λ vs st. ap (λ us. made p w wanted whom us st) (ap (λ us. us ++ vs) e ∙ append_assoc before (v ∷ []) vs)))

-- the test of a number below another
pub if_below : {A : Type 0} (a b : ℕ) (x y : A) → a < b → (if nat_lt a b then x else y) ≡ x
if_below a b x y lt = ap (λ t. if t then x else y) (lt-ltb a b lt)

pub if_not_below : {A : Type 0} (a b : ℕ) (x y : A) → b ≤ a → (if nat_lt a b then x else y) ≡ y
if_not_below a b x y le = ap (λ t. if t then x else y) (le-ltb a b le)

-- a system call with at most three arguments, and one with more
pub few_values : (x : ℕ) (vs : List Value) (st : State) → length vs ≤ 3 → system_call x vs st ≡ calls.system_call x vs st
few_values x vs st le = ap (λ b. if b then calls.system_call x vs st else Stop (Undefined 13) []) (le-leb (length vs) 3 le)

pub many_values : (x : ℕ) (vs : List Value) (st : State) → 3 < length vs → system_call x vs st ≡ Stop (Undefined 13) []
many_values x vs st lt = ap (λ b. if b then calls.system_call x vs st else Stop (Undefined 13) []) (lt-leb (length vs) 3 lt)

-- a system call by its number
pub is_system_call : (x : ℕ) (vs : List Value) (st : State) → x < 24 → call_undefined x vs st ≡ system_call_alone x vs st
is_system_call x vs st lt =
    if_below x 24 (system_call x vs st) _ lt ∙ sym (if_below x 24 (system_call x vs st) (Stop (Undefined 13) []) lt)

pub alone : (x : ℕ) (vs : List Value) (st : State) → x < 24 → system_call_alone x vs st ≡ system_call x vs st
alone x vs st lt = if_below x 24 (system_call x vs st) (Stop (Undefined 13) []) lt

-- a call of a defined function by its number, or of another one
abbrev pub by_number : Program → World → Bool → ℕ → List Value → State → (ℕ → List Value → State → Result Value) → Result Value
by_number p w wanted f vs st other = if nat_lt f (defined p) then w.enter wanted f vs st else other (f - defined p) vs st

pub function_named : (p : Program) (w : World) (wanted : Bool) (f : ℕ) (vs : List Value) (st : State) (k : Value → State → Result Value) (count : ℕ) (other : ℕ → List Value → State → Result Value) → count ≡ defined p → f < count → then_do (w.enter wanted f vs st) k ≡ then_do (by_number p w wanted f vs st other) k
function_named p w wanted f vs st k count other e lt =
    ap (λ r. then_do r k) (sym (if_below f (defined p) (w.enter wanted f vs st) (other (f - defined p) vs st) (subst (λ n. f < n) e lt)))

pub other_named : (p : Program) (w : World) (wanted : Bool) (f : ℕ) (vs copy : List Value) (st : State) (k : Value → State → Result Value) (count : ℕ) (other : ℕ → List Value → State → Result Value) (x : Result Value) → count ≡ defined p → count ≤ f → copy ≡ vs → x ≡ then_do (other (f - count) copy st) k → x ≡ then_do (by_number p w wanted f vs st other) k
other_named p w wanted f vs copy st k count other x e le same h =
    h
    ∙ (ap (λ us. then_do (other (f - count) us st) k) same
    ∙ (ap (λ n. then_do (other (f - n) vs st) k) e
    ∙ ap (λ r. then_do r k) (sym (if_not_below f (defined p) (w.enter wanted f vs st) (other (f - defined p) vs st) (subst (λ n. n ≤ f) e le)))))

-- the last member of a comma expression
pub last_member : (p : Program) (w : World) (fr : Place) (wanted : Bool) (es : List TExpr) (e : TExpr) (rest : List TExpr) (st : State) (k : Value → State → Result Value) → es ≡ e ∷ rest → rest ≡ [] → then_do (eval p w fr wanted (expr_of e) st) k ≡ then_do (eval_each p w fr wanted (exprs_of es) st) k
last_member p w fr wanted es e rest st k is none =
    sym (ap (λ es. then_do (eval_each p w fr wanted (exprs_of es) st) k) (is ∙ ap (λ rest. e ∷ rest) none))

-- an earlier member of a comma expression
pub more_members : (p : Program) (w : World) (fr : Place) (wanted : Bool) (es : List TExpr) (e : TExpr) (rest : List TExpr) (st : State) (k : Value → State → Result Value) (x : Result Value) → es ≡ e ∷ rest → (rest ≡ [] → ⊥) → x ≡ then_do (then_do (eval p w fr false (expr_of e) st) (λ v st. eval_each p w fr wanted (exprs_of rest) st)) k → x ≡ then_do (eval_each p w fr wanted (exprs_of es) st) k
more_members p w fr wanted es e [] st k x is some h = absurd (some refl)
more_members p w fr wanted es e (f ∷ rest) st k x is some h =
    h ∙ sym (ap (λ es. then_do (eval_each p w fr wanted (exprs_of es) st) k) is)

-- whether a list has nothing
pub nothing_left : (xs : List TExpr) (b : Bool) → b ≡ (length xs == 0) → b ≡ true → xs ≡ []
nothing_left [] b e t = refl
nothing_left (x ∷ xs) b e t = absurd (false≢true (sym (e ∙ eqb-suc-zero (length xs)) ∙ t))

pub something_left : (xs : List TExpr) (b : Bool) → b ≡ (length xs == 0) → b ≡ false → xs ≡ [] → ⊥
something_left [] b e f h = true≢false (sym e ∙ f)
something_left (x ∷ xs) b e f h = cc

-- a system call by a number that none has
pub not_alone : (x : ℕ) (vs : List Value) (st : State) → 24 ≤ x → system_call_alone x vs st ≡ Stop (Undefined 13) []
not_alone x vs st le = if_not_below x 24 (system_call x vs st) (Stop (Undefined 13) []) le

-- a null call without its site
null_none : (event : ℕ → Event) (vs : List Value) (st : State) → site_of vs ≡ None → null_call event vs st ≡ Stop (Undefined 13) []
null_none event [] st e = refl
null_none event (Uint n ∷ []) st e = cc
null_none event (Uint n ∷ u ∷ us) st e = refl
null_none event (Indeterminate ∷ us) st e = refl
null_none event (Int z ∷ us) st e = refl
null_none event (Char z ∷ us) st e = refl
null_none event (Uchar n ∷ us) st e = refl
null_none event (Null ∷ us) st e = refl
null_none event (Func f ∷ us) st e = refl
null_none event (At q ∷ us) st e = refl

one_of_three : {A : Type 0} (b c : Bool) (x y z : A) → x ≡ z → y ≡ z → (if b then x else (if c then y else z)) ≡ z
one_of_three true c x y z p q = p
one_of_three false true x y z p q = q
one_of_three false false x y z p q = refl

pub no_site : (x : ℕ) (vs : List Value) (st : State) → 24 ≤ x → None ≡ site_of vs → call_undefined x vs st ≡ Stop (Undefined 13) []
no_site x vs st le none =
    if_not_below x 24 (system_call x vs st) (if nat_eq x 24 then null_call Pre vs st else (if nat_eq x 25 then null_call Post vs st else Stop (Undefined 13) [])) le
    ∙ one_of_three (nat_eq x 24) (nat_eq x 25) (null_call Pre vs st) (null_call Post vs st) (Stop (Undefined 13) []) (null_none Pre vs st (sym none)) (null_none Post vs st (sym none))

-- a null call with its site
pub with_site : (site : ℕ) (vs : List Value) → Some site ≡ site_of vs → Uint site ∷ [] ≡ vs
with_site site [] e = cc
with_site site (Uint n ∷ []) e =
    let same : site ≡ n = cc in
    ap (λ n. Uint n ∷ []) same
with_site site (Uint n ∷ u ∷ us) e = cc
with_site site (Indeterminate ∷ us) e = cc
with_site site (Int z ∷ us) e = cc
with_site site (Char z ∷ us) e = cc
with_site site (Uchar n ∷ us) e = cc
with_site site (Null ∷ us) e = cc
with_site site (Func f ∷ us) e = cc
with_site site (At q ∷ us) e = cc

-- no member of a comma expression
pub no_member : (p : Program) (w : World) (fr : Place) (wanted : Bool) (es : List TExpr) (st : State) (k : Value → State → Result Value) → es ≡ [] → Stop (Undefined 13) [] ≡ then_do (eval_each p w fr wanted (exprs_of es) st) k
no_member p w fr wanted es st k none = sym (ap (λ es. then_do (eval_each p w fr wanted (exprs_of es) st) k) none)
