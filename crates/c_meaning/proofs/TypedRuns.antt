-- Typed states are kept by runs, and a function value of the type of the pointer that is called is a candidate.
use Rattle.std.proofs.Common.{◌≡◌, ℕ, true, false, List, [], ◌∷◌, All, Contains, Some, sym, ap, ◌∙◌, subst}
use Rattle.std.proofs.lemmas.List.Elements.{All-nil, All-cons}
use Rattle.dm_base.specs.declared.event.Event.{Event}
use Rattle.dm_base.specs.declared.event.Event.TheVariants.{Pre, Post}
use Rattle.c_meaning.specs.Table.{IsRecorded}
use Rattle.c_tree.specs.declared.value.Value.{Value}
use Rattle.c_tree.specs.declared.value.Value.TheVariants.{Indeterminate, Func}
use Rattle.c_tree.specs.Tree.{CType, void, pointer, function, CTypes, list_of, Program, type_of}
use Rattle.c_tree.specs.Kinds.{Objects, static_objects}
use Rattle.c_tree.specs.Program.{IsProgram}
use Rattle.c_meaning.specs.Answers.{gives}
use Rattle.c_meaning.specs.Mentions.{Calls, Through, mentions_of_program}
use Rattle.c_meaning.specs.CallGraph.{callees, called_where, marked}
use Rattle.c_meaning.specs.Meaning.{Marks, Frame, static_name, name_in, fresh}
use Rattle.c_meaning.specs.Pointers.{callee, place, store_place}
use Rattle.c_meaning.specs.Results.{State, Result, Go, Stop, remembered, Exit}
use Rattle.c_meaning.specs.Runs.{no_marks, world}
use Rattle.c_meaning.specs.StoreTyping.{HasKind, IsPlaced, IsTypedState, Grows, TellsOfStatics, IsTypedFrame}
use Rattle.c_meaning.specs.TypedResults.{EndsTyped, IsExit, Gives as GivesTyped, GiveAll, AreRecorded}
use Rattle.c_meaning.specs.Laws.{PartsAreTyped}
use Rattle.c_meaning.proofs.Places.{flat_scalar}
use Rattle.c_meaning.proofs.Keeps.{scalar_kind, stands_on, arguments_kind, cell_ends, fresh_ends}
use Rattle.c_meaning.proofs.Candidates.{callees_are_candidates}
use Rattle.c_meaning.proofs.Worlds.{opens, types_are_kept, runs_begin_typed}
use Rattle.c_meaning.specs.MarkedRuns.{null_calls_of}
use Rattle.c_meaning.proofs.SitesSaid.{callee_found}
use Rattle.c_meaning.proofs.Lists.{if_has}
use Rattle.c_meaning.proofs.Says.{Gives}
use Rattle.c_meaning.proofs.Guards.{with_turns, IsGuarded}
use Rattle.c_meaning.proofs.FunctionPlaces.{type_of_function}

module _ (p : Program) (n : ℕ) (right : IsProgram p n) (marks : Marks) (recorded : AreRecorded marks) where
  -- the state is typed, and the variables of the frame are told of
  abbrev pub IsGood : Frame → State → Type 0
  IsGood fr st = (o : Objects) × IsTypedFrame p o fr × IsTypedState p o st

  -- and values of the types of parameters stand before an entry
  abbrev pub ArePassed : CTypes → List Value → State → Type 0
  ArePassed ts vs st = (o : Objects) × TellsOfStatics p o × GiveAll p (list_of ts) o vs × IsTypedState p o st

  good_after : {A : Type 0} (ok : Objects → A → Type 0) (o : Objects) (start : ℕ) (fr : Frame) (r : Result A) → IsTypedFrame p o fr → EndsTyped p {A = A} ok o start r → Gives {A = A} (λ a st. IsGood fr st) r
  good_after ok o start fr (Go a st w) f h = (h.0, stands_on p n right marks recorded o h.0 fr h.1 f, h.3)
  good_after ok o start fr (Stop e w) f h = tt

  given_after : {A : Type 0} (ok : Objects → A → Type 0) (P : A → State → Type 0) (o : Objects) (start : ℕ) (r : Result A) → ((u : Objects) (a : A) (st : State) → Grows o u → ok u a → IsTypedState p u st → P a st) → EndsTyped p {A = A} ok o start r → Gives {A = A} P r
  given_after ok P o start (Go a st w) up h = up h.0 a st h.1 h.2 h.3
  given_after ok P o start (Stop e w) up h = tt

  parts : (k : ℕ) → PartsAreTyped p marks k
  parts k = types_are_kept p n right marks recorded k

  -- the function that is called through a pointer of this type
  candidate : (s : ℕ) (t : CType) (o : Objects) (v : Value) → Contains (mentions_of_program p) (Calls s (Through t)) → HasKind p o t v → (f : ℕ) → callee v ≡ gives f → Contains (callees p (Through t)) f
  candidate s t o (Func g) k h f e =
      let same : g ≡ f = cc in
      subst (λ f. Contains (callees p (Through t)) f) same (subst (λ fs. Contains fs g) (ap (called_where p) (callee_found p n right s (Through t) k)) ((callees_are_candidates p n right).1 s g t o k h))
  candidate s t o Indeterminate k h f e = absurd h
  candidate s t o v k h f e = absurd (cc)

  pointer_kind : (t u : CType) (o : Objects) (v : Value) → t ≡ pointer u → GivesTyped p true t o v → HasKind p o t v
  pointer_kind t u o v e = subst (λ t. GivesTyped p true t o v → HasKind p o t v) (sym e) (λ h. h)

  pub typed_guard : IsGuarded p marks IsGood ArePassed
  typed_guard = record {
    value = λ k fr wanted e st h l g. good_after {A = Value} (GivesTyped p wanted (type_of e)) g.0 _ fr _ g.1 ((parts k).values fr wanted e g.0 st g.1 h l g.2);
    place_kept = λ k fr wanted e st h l g. good_after {A = Value} (λ o v. IsPlaced p o (type_of e) v) g.0 _ fr _ g.1 ((parts k).places fr wanted e g.0 st g.1 h l g.2);
    designator = λ k fr site a r ts st e h l c g. given_after {A = Value} (GivesTyped p true (type_of a)) (λ v u. (f : ℕ) → callee v ≡ gives f → Contains (callees p (Through (type_of a))) f) g.0 _ _ (λ u v st w ok s. candidate site (type_of a) u v c (pointer_kind (type_of a) (function r ts) u v e ok)) ((parts k).values fr true a g.0 st g.1 h l g.2);
    arguments_kept = λ k fr ts es st h l g. given_after {A = List Value} (GiveAll p (list_of ts)) (λ vs u. ArePassed ts vs u) g.0 _ _ (λ u vs st w ok s. (u, (λ x t e. w (static_name x) _ ((g.1).statics x t e)), ok, s)) ((parts k).arguments fr ts es g.0 st g.1 h l g.2);
    entering = λ f g r ts vs st k is type h.
        let b = opens p n right f g r ts vs h.0 (with_turns st k) is type h.1 (arguments_kind p n right marks recorded r r ts f h.0 vs (type_of_function p f g is ∙ ap (λ t. Some t) type) h.2) h.3 in
        (b.told, b.frame, b.state);
    fresh_kept = λ fr x t st e g. subst (λ c. Gives {A = Exit} (λ y u. IsGood fr u) (fresh p.structs fr x c st)) e (good_after {A = Exit} (IsExit p void false false) g.0 _ fr _ g.1 (fresh_ends p n right marks recorded (world p marks 0) (parts 0).turning fr void t x g.0 st g.1 e g.2));
    stored = λ k fr x cell t a st e c h l g. given_after {A = Value} (GivesTyped p true (type_of a)) (λ v u. Gives {A = Value} (λ y z. IsGood fr z) (remembered (store_place u.memory (place (name_in fr false x) cell 1) v) v u)) g.0 _ _ (λ u v st w ok s.
        let f = stands_on p n right marks recorded g.0 u fr w g.1 in
        good_after {A = Value} (λ o y. HasKind p o (type_of a) y) u _ fr _ f (cell_ends p n right marks recorded (world p marks k) (parts k).turning fr u x cell t (type_of a) v st f e c (scalar_kind p n right marks recorded (type_of a) u v (flat_scalar p.structs t cell (type_of a) c) ok) s)) ((parts k).values fr true a g.0 st g.1 h l g.2);
    statement = λ k fr r breaks continues s st h l g. good_after {A = Exit} (IsExit p r breaks continues) g.0 _ fr _ g.1 ((parts k).statements fr r breaks continues s g.0 st g.1 h l g.2);
    turn = λ fr st k g. (g.0, g.1, g.2);
    begins = λ records turns. let b = runs_begin_typed p n right records turns in (static_objects p, b.statics, tt, b.state);
  }

-- null calls are events that can be recorded
pub none_recorded : AreRecorded no_marks
none_recorded site = (All-nil IsRecorded, All-nil IsRecorded)

pub null_calls_recorded : (p : Program) → AreRecorded (null_calls_of p)
null_calls_recorded p site =
    if_has (λ (x : List Event × List Event). All IsRecorded (x.0) × All IsRecorded (x.1)) (marked p site) (Pre site ∷ [], Post site ∷ []) ([], []) (λ e. (All-cons IsRecorded (Pre site) [] tt (All-nil IsRecorded), All-cons IsRecorded (Post site) [] tt (All-nil IsRecorded))) (λ e. (All-nil IsRecorded, All-nil IsRecorded))
