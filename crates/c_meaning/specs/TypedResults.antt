-- Typed results: what the parts of a well-typed program give from a typed state on.
use Rattle.std.specs.Prelude.{◌≡◌, ℕ, ◌≤◌, Bool, true, false, IsTrue, List, All, Contains, Some, None, slice_get, FitsSigned}
use Rattle.std.specs.Int.{w32}
use Rattle.std.specs.List.{AllZip}
use Rattle.dm_base.specs.declared.outcome.Outcome.{Outcome}
use Rattle.dm_base.specs.declared.outcome.Outcome.TheVariants.{Exit as ended_by, Undefined, Turns, Results, BadResult}
use Rattle.c_meaning.specs.Table.{IsRecorded}
use Rattle.c_tree.specs.declared.value.Value.{Value}
use Rattle.c_tree.specs.Tree.{CType, function, CTypes, list_of, Expr, Exprs, Stmt, type_of, Function, Program}
use Rattle.c_tree.specs.Typed.{IsValue, IsPlace, AreArguments, IsTest, IsStep, IsStmt}
use Rattle.c_tree.specs.Kinds.{Objects}
use Rattle.c_meaning.specs.Mentions.{Mention, mentions, mentions_of_all, mentions_of_maybe, mentions_of_stmt, mentions_of_program}
use Rattle.c_meaning.specs.Meaning.{Marks, Frame, Loop, World, wants, eval, eval_all, exec}
use Rattle.c_meaning.specs.Results.{State, Result, Go, Stop, Exit, on, broken, continued, returned}
use Rattle.c_meaning.specs.StoreTyping.{HasKind, IsGiven, IsPlaced, IsTypedState, Grows, TellsAlike, TellsOfStatics, IsTypedFrame}

-- A run ends by an int, by one of the kinds U1 to U12, or for want of turns or of an answer, where records are counted from 1. Kind U13, a value of another kind than its type, is none of them.
abbrev pub IsEnding : Outcome → Type 0
IsEnding (ended_by z) = FitsSigned w32 z
IsEnding (Undefined kind) = (1 ≤ kind) × (kind ≤ 12)
IsEnding Turns = Unit {0}
IsEnding Results = Unit {0}
IsEnding (BadResult k) = 1 ≤ k

-- A part that begins with this store typing, after so many entries of functions, gives what it should in a typed state; or the run stops by a right ending. Each event can be recorded. Of the activations that were entered before nothing more is told.
abbrev pub EndsTyped : Program → {A : Type 0} → (Objects → A → Type 0) → Objects → ℕ → Result A → Type 0
EndsTyped p ok o start (Go a st w) =
    (u : Objects) × Grows o u × ok u a × IsTypedState p u st × All IsRecorded w × TellsAlike start o u × (start ≤ st.entries)
EndsTyped p ok o start (Stop e w) = IsEnding e × All IsRecorded w

-- what is given where a value of this type is wanted, or not
abbrev pub Gives : Program → Bool → CType → Objects → Value → Type 0
Gives p wanted t o v = IsGiven p o (wants wanted t) t v

-- values of these types, as operands give them
abbrev pub GiveAll : Program → List CType → Objects → List Value → Type 0
GiveAll p ts o vs = AllZip (λ t v. Gives p true t o v) ts vs

-- a statement of a function with this result is left where it may be: by break and continue inside what they leave, and by return with a value of the type
abbrev pub IsExit : Program → CType → Bool → Bool → Objects → Exit → Type 0
IsExit p r breaks continues o on = Unit {0}
IsExit p r breaks continues o broken = IsTrue breaks
IsExit p r breaks continues o continued = IsTrue continues
IsExit p r breaks continues o (returned None) = Unit {0}
IsExit p r breaks continues o (returned (Some v)) = HasKind p o r v

-- what a part says of functions is said in the program
abbrev pub StandsIn : Program → List Mention → Type 0
StandsIn p ms = (m : Mention) → Contains ms m → Contains (mentions_of_program p) m

-- the parts of a loop stand in the program
pub record StandsRound (p : Program) (l : Loop) : Type 0 where
  pub test : StandsIn p (mentions_of_maybe l.test)
  pub body : StandsIn p (mentions_of_stmt l.body)
  pub step : StandsIn p (mentions_of_maybe l.step)

-- to enter a function, and to go round a loop, keeps types
pub record IsTypedWorld (p : Program) (w : World) : Type 0 where
  pub enter : (wanted : Bool) (f : ℕ) (g : Function) (r : CType) (ts : CTypes) (vs : List Value) (o : Objects) (st : State) → slice_get p.functions f ≡ Some g → g.ctype ≡ function r ts → TellsOfStatics p o → AllZip (HasKind p o) (list_of ts) vs → IsTypedState p o st → EndsTyped p {A = Value} (λ o v. IsGiven p o wanted r v) o st.entries (w.enter wanted f vs st)
  pub again : (fr : Frame) (r : CType) (l : Loop) (o : Objects) (st : State) → IsTypedFrame p o fr → IsTest p fr.types l.test → IsStmt p fr.types r true true l.body → IsStep p fr.types l.step → StandsRound p l → IsTypedState p o st → EndsTyped p {A = Exit} (IsExit p r false false) o st.entries (w.again fr l st)

-- the marks that stand round calls are events that can be recorded
abbrev pub AreRecorded : Marks → Type 0
AreRecorded marks = (site : ℕ) → All IsRecorded ((marks site).0) × All IsRecorded ((marks site).1)

-- a well-typed expression of the program gives a value of its type
abbrev pub ValuesAreTyped : Program → World → Marks → Type 0
ValuesAreTyped p w marks =
    (fr : Frame) (wanted : Bool) (e : Expr) (o : Objects) (st : State) → IsTypedFrame p o fr → IsValue p fr.types e → StandsIn p (mentions e) → IsTypedState p o st → EndsTyped p {A = Value} (Gives p wanted (type_of e)) o st.entries (eval p w marks fr wanted e st)

-- and a place gives an object or a function of its type
abbrev pub PlacesAreTyped : Program → World → Marks → Type 0
PlacesAreTyped p w marks =
    (fr : Frame) (wanted : Bool) (e : Expr) (o : Objects) (st : State) → IsTypedFrame p o fr → IsPlace p fr.types e → StandsIn p (mentions e) → IsTypedState p o st → EndsTyped p {A = Value} (λ o v. IsPlaced p o (type_of e) v) o st.entries (eval p w marks fr wanted e st)

-- arguments give values of the types of the parameters
abbrev pub ArgumentsAreTyped : Program → World → Marks → Type 0
ArgumentsAreTyped p w marks =
    (fr : Frame) (ts : CTypes) (es : Exprs) (o : Objects) (st : State) → IsTypedFrame p o fr → AreArguments p fr.types ts es → StandsIn p (mentions_of_all es) → IsTypedState p o st → EndsTyped p {A = List Value} (GiveAll p (list_of ts)) o st.entries (eval_all p w marks fr es st)

-- a statement of the program keeps types, and is left where it may be
abbrev pub StatementsAreTyped : Program → World → Marks → Type 0
StatementsAreTyped p w marks =
    (fr : Frame) (r : CType) (breaks continues : Bool) (s : Stmt) (o : Objects) (st : State) → IsTypedFrame p o fr → IsStmt p fr.types r breaks continues s → StandsIn p (mentions_of_stmt s) → IsTypedState p o st → EndsTyped p {A = Exit} (IsExit p r breaks continues) o st.entries (exec p w marks fr s st)
