-- What the words of a run rest on: an invariant of frames and states, and marks that are those of the words.
use Rattle.std.proofs.Common.{◌≡◌, ℕ, suc, ◌+◌, Bool, true, false, List, [], ◌∷◌, Contains, Some, slice_get}
use Rattle.dm_base.specs.declared.event.Arg.{Arg}
use Rattle.dm_base.specs.declared.event.Event.{Event}
use Rattle.dm_base.specs.declared.event.Event.TheVariants.{Sys, Pre, Post}
use Rattle.std.specs.Prelude.{ℤ}
use Rattle.c_meaning.specs.SysResult.{SysResult}
use Rattle.c_tree.specs.declared.value.Value.{Value}
use Rattle.c_tree.specs.Tree.{CType, pointer, function, CTypes, no_types, Expr, Exprs, Stmt, Function, Program, type_of}
use Rattle.c_tree.specs.Functions.{defined}
use Rattle.c_tree.specs.Layout.{flat, cells}
use Rattle.c_tree.specs.Typed.{IsValue, IsPlace, AreArguments, IsStmt}
use Rattle.c_meaning.specs.Answers.{gives}
use Rattle.c_meaning.specs.Memory.{declared}
use Rattle.c_meaning.specs.Mentions.{Direct, Through, Calls, mentions, mentions_of_all, mentions_of_stmt, mentions_of_program}
use Rattle.c_meaning.specs.CallGraph.{callees, marked}
use Rattle.c_meaning.specs.Words as words
use Rattle.c_meaning.specs.Meaning.{Marks, Frame, name_in, eval, eval_all, exec}
use Rattle.c_meaning.specs.Pointers.{callee, place, store_place}
use Rattle.c_meaning.specs.Results.{State, with_memory, Exit, remembered}
use Rattle.c_meaning.specs.Runs.{entered, world, beginning}
use Rattle.c_meaning.specs.TypedResults.{StandsIn}
use Rattle.c_meaning.proofs.Says.{told, Gives}

abbrev pub with_turns : State → ℕ → State
with_turns st k = record { memory = st.memory; entries = st.entries; records = st.records; taken = st.taken; turns = k }

-- the frame of a function that is entered
abbrev pub frame_of : Function → State → Frame
frame_of g st = record { activation = suc st.entries; types = g.variables }

-- Each part keeps what is good, and a function that is called through a pointer is a candidate of the site.
pub record IsGuarded (p : Program) (marks : Marks) (Good : Frame → State → Type 0) (Passed : CTypes → List Value → State → Type 0) : Type 0 where
  pub value : (k : ℕ) (fr : Frame) (wanted : Bool) (e : Expr) (st : State) → IsValue p fr.types e → StandsIn p (mentions e) → Good fr st → Gives {A = Value} (λ v st. Good fr st) (eval p (world p marks k) marks fr wanted e st)
  pub place_kept : (k : ℕ) (fr : Frame) (wanted : Bool) (e : Expr) (st : State) → IsPlace p fr.types e → StandsIn p (mentions e) → Good fr st → Gives {A = Value} (λ v st. Good fr st) (eval p (world p marks k) marks fr wanted e st)
  pub designator : (k : ℕ) (fr : Frame) (site : ℕ) (a : Expr) (r : CType) (ts : CTypes) (st : State) → type_of a ≡ pointer (function r ts) → IsValue p fr.types a → StandsIn p (mentions a) → Contains (mentions_of_program p) (Calls site (Through (type_of a))) → Good fr st → Gives {A = Value} (λ v u. (f : ℕ) → callee v ≡ gives f → Contains (callees p (Through (type_of a))) f) (eval p (world p marks k) marks fr true a st)
  pub arguments_kept : (k : ℕ) (fr : Frame) (ts : CTypes) (es : Exprs) (st : State) → AreArguments p fr.types ts es → StandsIn p (mentions_of_all es) → Good fr st → Gives {A = List Value} (λ vs u. Passed ts vs u) (eval_all p (world p marks k) marks fr es st)
  pub entering : (f : ℕ) (g : Function) (r : CType) (ts : CTypes) (vs : List Value) (st : State) (k : ℕ) → slice_get p.functions f ≡ Some g → g.ctype ≡ function r ts → Passed ts vs st → Good (frame_of g st) (entered vs (with_turns st k))
  pub fresh_kept : (fr : Frame) (x : ℕ) (t : CType) (st : State) → slice_get fr.types x ≡ Some t → Good fr st → Good fr (with_memory st (declared st.memory (name_in fr false x) (cells p.structs t)))
  pub stored : (k : ℕ) (fr : Frame) (x cell : ℕ) (t : CType) (e : Expr) (st : State) → slice_get fr.types x ≡ Some t → slice_get (flat p.structs t) cell ≡ Some (type_of e) → IsValue p fr.types e → StandsIn p (mentions e) → Good fr st → Gives {A = Value} (λ v u. Gives {A = Value} (λ y z. Good fr z) (remembered (store_place u.memory (place (name_in fr false x) cell 1) v) v u)) (eval p (world p marks k) marks fr true e st)
  pub statement : (k : ℕ) (fr : Frame) (r : CType) (breaks continues : Bool) (s : Stmt) (st : State) → IsStmt p fr.types r breaks continues s → StandsIn p (mentions_of_stmt s) → Good fr st → Gives {A = Exit} (λ x u. Good fr u) (exec p (world p marks k) marks fr s st)
  pub turn : (fr : Frame) (st : State) (k : ℕ) → Good fr st → Good fr (with_turns st k)
  pub begins : (records : List SysResult) (turns : ℕ) → Passed no_types [] (beginning p records turns)

-- The marks of a run are those of the words; a null call that the program makes itself is not read.
pub record IsTied (p : Program) (marks : Marks) (m : words.Marks) (keep : Event → List Event) : Type 0 where
  pub system : (x : ℕ) (xs : List Arg) (r : ℤ) → keep (Sys x xs r) ≡ Sys x xs r ∷ []
  pub before : (s : ℕ) → marked p s ≡ true → told keep ((marks s).0) ≡ m.pre s
  pub behind : (s : ℕ) → marked p s ≡ true → told keep ((marks s).1) ≡ m.post s
  pub none_before : (s : ℕ) → marked p s ≡ false → told keep ((marks s).0) ≡ []
  pub none_behind : (s : ℕ) → marked p s ≡ false → told keep ((marks s).1) ≡ []
  pub null_pre : (s f : ℕ) → Contains (mentions_of_program p) (Calls s (Direct f)) → f ≡ defined p + 24 → (site : ℕ) → keep (Pre site) ≡ []
  pub null_post : (s f : ℕ) → Contains (mentions_of_program p) (Calls s (Direct f)) → f ≡ defined p + 25 → (site : ℕ) → keep (Post site) ≡ []
