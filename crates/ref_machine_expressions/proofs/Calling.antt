-- How the evaluation of an expression begins.
use Rattle.std.proofs.Common.{◌≡◌, ℕ, Bool, true, List, [], ◌++◌, IfOk, sym, ap, ◌∙◌}
use Rattle.std.specs.Prelude.{Result as OrError}
use Rattle.std.proofs.lemmas.Result.{MatchResult-weaker}
use Rattle.dm_base.specs.declared.memory.OutOfMemory.{OutOfMemory}
use Rattle.c_tree.specs.declared.value.Value.{Value}
use Rattle.c_tree.specs.declared.value.BinOp.{BinOp}
use Rattle.c_tree.specs.declared.tree.TExpr.{TExpr}
use Rattle.c_tree.specs.Tree.{CType, Expr, Exprs, decay, update, call, call_through, Program}
use Rattle.c_tree.specs.View.{ctype_of, expr_of}
use Rattle.c_values.specs.Memory.{Objects}
use Rattle.c_meaning.specs.Meaning.{Frame as Place, World, wants}
use Rattle.c_meaning.specs.Pointers.{load_place}
use Rattle.c_meaning.specs.Results.{State, with_memory, Result, Go, then_do, answered}
use Rattle.ref_machine_frames.specs.Held.{called, decayed, eval, eval_all}
use Rattle.ref_machine_frames.specs.declared.frames.Callee.TheVariants as callees
use Rattle.ref_machine_frames.specs.declared.frames.Here.{Here}
use Rattle.ref_machine_frames.specs.declared.frames.Frame.{Frame}
use Rattle.ref_machine_frames.specs.declared.frames.Now.{Now}
use Rattle.ref_machine_frames.specs.Frames.{place_of, stack, after_value, made}
use Rattle.ref_machine_frames.specs.Parts.{Gives}
use Rattle.ref_machine_expressions.specs.Renewing.{renewing}
use Rattle.ref_machine_frames.proofs.Joining.{after_none}
use Rattle.c_tree.proofs.CalledTypes.{type_is}

-- an expression that is seen as another term
pub begun : (p : Program) (w : World) (fr : Place) (wanted : Bool) (e f : Expr) (st : State) (k : Value → State → Result Value) (x : Result Value) → x ≡ then_do (eval p w fr wanted e st) k → e ≡ f → x ≡ then_do (eval p w fr wanted f st) k
begun p w fr wanted e f st k x h is = h ∙ ap (λ e. then_do (eval p w fr wanted e st) k) is

-- a step that begins the one begins the other
pub begins : (r : OrError Now OutOfMemory) (p : Program) (h : Here) (m : Objects) (old new : List Frame) (wanted : Bool) (e f : Expr)
    → IfOk r (λ now. (p : Program) (h : Here) (m : Objects) → Gives p h m old (λ w st. eval p w (place_of h) wanted e st) now m new)
    → e ≡ f → IfOk r (λ now. Gives p h m old (λ w st. eval p w (place_of h) wanted f st) now m new)
begins r p h m old new wanted e f is same =
    MatchResult-weaker r is (λ now gives w st. gives p h m w st ∙ ap (λ e. then_do (eval p w (place_of h) wanted e (with_memory st m)) (after_value p w (place_of h) (stack old))) same) (λ error none. none)

-- a value is there at once
pub at_once : (v : Value) (st : State) (k : Value → State → Result Value) → k v st ≡ then_do (Go v st []) k
at_once v st k = sym (after_none (k v st))

-- the arguments of a call by name are evaluated, and then it is made
pub call_begins : (p : Program) (w : World) (fr : Place) (wanted : Bool) (t : CType) (site f : ℕ) (es args : Exprs) (st : State) (k : Value → State → Result Value) (x : Result Value) (whether : Bool) (before : List Value) → whether ≡ wants wanted t → before ≡ [] → es ≡ args → x ≡ then_do (then_do (eval_all p w fr es st) (λ vs st. made p w whether (callees.Named f) (before ++ vs) st)) k → x ≡ then_do (eval p w fr wanted (call t site f args) st) k
call_begins p w fr wanted t site f es args st k x whether before same none are h =
    h
    ∙ (ap (λ b. then_do (then_do (eval_all p w fr es st) (λ vs st. made p w b (callees.Named f) (before ++ vs) st)) k) same
    ∙ (ap (λ us. then_do (then_do (eval_all p w fr es st) (λ vs st. made p w (wants wanted t) (callees.Named f) (us ++ vs) st)) k) none
    ∙ ap (λ es. then_do (then_do (eval_all p w fr es st) (λ vs st. called p w (wants wanted t) f vs st)) k) are))

-- the designator of a call is evaluated, then the arguments, and then it is made
pub through_begins : (p : Program) (w : World) (fr : Place) (wanted : Bool) (t : CType) (site : ℕ) (d e : Expr) (es args : Exprs) (st : State) (k : Value → State → Result Value) (x : Result Value) (whether : Bool) → whether ≡ wants wanted t → d ≡ e → es ≡ args → x ≡ then_do (then_do (eval p w fr true d st) (λ v st. then_do (eval_all p w fr es st) (λ vs st. made p w whether (callees.Through v) vs st))) k → x ≡ then_do (eval p w fr wanted (call_through t site e args) st) k
through_begins p w fr wanted t site d e es args st k x whether same is are h =
    h
    ∙ (ap (λ b. then_do (then_do (eval p w fr true d st) (λ v st. then_do (eval_all p w fr es st) (λ vs st. made p w b (callees.Through v) vs st))) k) same
    ∙ (ap (λ d. then_do (then_do (eval p w fr true d st) (λ v st. then_do (eval_all p w fr es st) (λ vs st. made p w (wants wanted t) (callees.Through v) vs st))) k) is
    ∙ ap (λ es. then_do (then_do (eval p w fr true e st) (λ v st. then_do (eval_all p w fr es st) (λ vs st. made p w (wants wanted t) (callees.Through v) vs st))) k) are))

-- an array or a function as a pointer
pub decay_begins : (p : Program) (w : World) (fr : Place) (wanted : Bool) (t : CType) (a : TExpr) (u : CType) (st : State) (k : Value → State → Result Value) (x : Result Value) → u ≡ ctype_of a.ctype → x ≡ then_do (then_do (eval p w fr true (expr_of a) st) (λ q st. answered (decayed p.structs u q) st)) k → x ≡ then_do (eval p w fr wanted (decay t (expr_of a)) st) k
decay_begins p w fr wanted t a u st k x is h =
    h ∙ ap (λ u. then_do (then_do (eval p w fr true (expr_of a) st) (λ q st. answered (decayed p.structs u q) st)) k) (is ∙ sym (type_is a))

-- a compound assignment
pub update_begins : (p : Program) (w : World) (fr : Place) (wanted : Bool) (t : CType) (op : BinOp) (old : Bool) (a : Expr) (b : TExpr) (st : State) (k : Value → State → Result Value) (x : Result Value) → x ≡ then_do (then_do (eval p w fr true a st) (λ q st. then_do (answered (load_place st.memory q) st) (λ before st. then_do (eval p w fr true (expr_of b) st) (renewing op old t (ctype_of b.ctype) q before)))) k → x ≡ then_do (eval p w fr wanted (update t op old a (expr_of b)) st) k
update_begins p w fr wanted t op old a b st k x h =
    h ∙ ap (λ u. then_do (then_do (eval p w fr true a st) (λ q st. then_do (answered (load_place st.memory q) st) (λ before st. then_do (eval p w fr true (expr_of b) st) (renewing op old t u q before)))) k) (sym (type_is b))
