-- The body of a function with its temporaries does what the body does: no object of the activation is left behind.
use Rattle.std.proofs.Common.{◌≡◌, ◌⊎◌, inl, inr, ℕ, suc, ◌+◌, ◌≤◌, ◌<◌, nat_eq, nat_lt, not, ◌&&◌, Bool, true, false, List, [], ◌∷◌, ◌++◌, All, length, replicate, Option, Some, None, sym, ap, ◌∙◌, subst, refl, arith}
use Rattle.std.proofs.Math.Nat.{eq-or-lt_of_le}
use Rattle.std.proofs.lemmas.Bool.Decides.{nat_tests}
use Rattle.std.proofs.lemmas.List.Elements.{All-head, All-tail}
use Rattle.c_tree.specs.declared.value.ObjectName.{ObjectName}
use Rattle.c_tree.specs.declared.value.Value.TheVariants.{Indeterminate}
use Rattle.c_tree.specs.Tree.{CType, integer, pointer, Program}
use Rattle.c_tree.specs.Tree.{Stmt, block, Stmts}
use Rattle.c_tree.specs.Layout.{Structs, cells}
use Rattle.c_tree.specs.Kinds.{Objects}
use Rattle.c_tree.specs.Operands.{IsScalar}
use Rattle.c_tree.specs.Program.{IsBlock, IsProgram}
use Rattle.c_tree.specs.Typed.{IsStmt, AreStmts}
use Rattle.c_values.specs.Memory.{Object, changed}
use Rattle.c_values.specs.Memory.{Objects as Memory}
use Rattle.c_values.proofs.StoreLemmas.{changed_there}
use Rattle.c_meaning.specs.Mentions.{mentions_of_stmt, mentions_of_stmts}
use Rattle.c_meaning.specs.Meaning.{Frame, World, name_in, declared_in, without, leaving, exec, exec_all}
use Rattle.c_meaning.specs.Results.{State, with_memory, Result, Go, Stop, Exit}
use Rattle.c_meaning.specs.Runs.{no_marks}
use Rattle.c_meaning.specs.StoreTyping.{IsTypedMemory, IsTypedFrame}
use Rattle.c_meaning.specs.TypedResults.{EndsTyped, IsExit, StandsIn, IsTypedWorld}
use Rattle.c_meaning.proofs.Places.{get_left, get_right}
use Rattle.c_meaning.proofs.Keeps.{stmts_end}
use Rattle.c_meaning.specs.FurtherObjects.{IsHidden, IsBeside, Stay, DoesAlike}
use Rattle.c_meaning.proofs.Together.{Now}
use Rattle.c_meaning.proofs.Statements.{AreShown, without_beside, without_stays}
use Rattle.c_meaning.proofs.FurtherWorlds.{later_shown}
use Rattle.null_calls_laws.specs.MarkedRuns.{null_calls_of}
use Rattle.null_calls_laws.proofs.Lists.{not_below, if_has}
use Rattle.null_calls_laws.proofs.TypedRuns.{null_calls_recorded}
use Rattle.null_calls_laws.specs.InstrumentedPrograms.{kept_of_stmt, kept_of_stmts, stmts, declared_from, items_of, body_from, instrumented_program}
use Rattle.null_calls_laws.specs.Pieces.{declaring}
use Rattle.null_calls_laws.proofs.PieceLemmas.{declarations_declare, shapes_stay}
use Rattle.null_calls_laws.proofs.Beside.{Does, Here}
use Rattle.null_calls_laws.proofs.Scalars.{stmts_scalars}
use Rattle.null_calls_laws.proofs.CallRuns.{changed_elsewhere, Enters}
use Rattle.null_calls_laws.proofs.StatementRuns.{Agains, stmts_do}

-- a temporary's number among the numbers from k on
abbrev Own : (activation k many : ℕ) → ObjectName → Type 0
Own a k many x = x.activation ≡ a → k ≤ x.variable → x.variable < k + many → ⊥

-- it is one of them, or it is not
own_or_not : (a k many : ℕ) (x : ObjectName) → ((x.activation ≡ a) × (k ≤ x.variable) × (x.variable < k + many)) ⊎ Own a k many x
own_or_not a k many x =
    if_has {A = Bool} (λ b. ((x.activation ≡ a) × (k ≤ x.variable) × (x.variable < k + many)) ⊎ Own a k many x) (nat_eq x.activation a && (not (nat_lt x.variable k) && nat_lt x.variable (k + many))) true false (λ e. inl (grind (arith, nat_tests, e), grind (arith, nat_tests, e), grind (arith, nat_tests, e))) (λ e. inr (λ i j l. absurd (grind (arith, nat_tests, e, i, j, l))))

-- ## Declarations of temporaries

scalar_cells : (structs : Structs) (t : CType) → IsScalar t → cells structs t ≡ 1
scalar_cells structs (integer i) h = refl
scalar_cells structs (pointer t) h = refl
scalar_cells structs t h = absurd h

-- memory in which temporaries of these types from k on are what `f` says of their types
abbrev all_changed : (f : CType → Option Object) → (activation k : ℕ) → List CType → Memory → Memory
all_changed f a k [] m = m
all_changed f a k (t ∷ ts) m = all_changed f a (suc k) ts (changed m (record { activation = a; variable = k }) (f t))

-- new cells
abbrev new_object : Structs → CType → Option Object
new_object structs t = Some (record { cells = replicate (cells structs t) Indeterminate; string = false })

abbrev no_object : CType → Option Object
no_object t = None

declaring_is : (structs : Structs) (fr : Frame) (k : ℕ) (ts : List CType) (st : State) (m : Memory) → declaring structs fr k ts (with_memory st m) ≡ with_memory st (all_changed (new_object structs) fr.activation k ts m)
declaring_is structs fr k [] st m = refl
declaring_is structs fr k (t ∷ ts) st m = declaring_is structs fr (suc k) ts st _

-- they end before what else is declared
they_end : (a k : ℕ) (ts : List CType) (p : Program) (ss : Stmts) (m : Memory) → without a (declared_in (declared_from p k ts ss)) m ≡ without a (declared_in ss) (all_changed no_object a k ts m)
they_end a k [] p ss m = refl
they_end a k (t ∷ ts) p ss m = they_end a (suc k) ts p ss _

apart_name : (a k many : ℕ) (x : ObjectName) → 0 < many → Own a k many x → record { activation = a; variable = k } ≡ x → ⊥
apart_name a k many x some out s =
    let e : k ≡ x.variable = ap (λ y. y.variable) s in out (sym (ap (λ y. y.activation) s)) (omega (arith, e)) (omega (arith, e, some))

all_elsewhere : (f : CType → Option Object) (a k : ℕ) (ts : List CType) (m : Memory) (x : ObjectName) → Own a k (length ts) x → all_changed f a k ts m x ≡ m x
all_elsewhere f a k [] m x out = refl
all_elsewhere f a k (t ∷ ts) m x out =
    all_elsewhere f a (suc k) ts _ x (λ e b c. out e (omega (arith, b)) (omega (arith, c))) ∙ changed_elsewhere m (record { activation = a; variable = k }) x _ (apart_name a k (suc (length ts)) x (omega arith) out)

all_there : (f : CType → Option Object) (c : Option Object) → ((t : CType) → IsScalar t → f t ≡ c) → (a k : ℕ) (ts : List CType) (m : Memory) (j : ℕ) → All IsScalar ts → k ≤ j → j < k + length ts → all_changed f a k ts m (record { activation = a; variable = j }) ≡ c
all_there f c same a k [] m j h low high = absurd (omega (arith, low, high))
all_there f c same a k (t ∷ ts) m j h low high = elim (eq-or-lt_of_le low) as (λ _. all_changed f a k (t ∷ ts) m (record { activation = a; variable = j }) ≡ c) [
  | inl here ↦
      subst (λ j. all_changed f a k (t ∷ ts) m (record { activation = a; variable = j }) ≡ c) here (all_elsewhere f a (suc k) ts _ (record { activation = a; variable = k }) (λ e b c. let b : suc k ≤ k = b in omega (arith, b)) ∙ (changed_there m (record { activation = a; variable = k }) _ ∙ same t (All-head IsScalar t ts h)))
  | inr later ↦ all_there f c same a (suc k) ts _ j (All-tail IsScalar t ts h) later (omega (arith, high))
]

-- what a store typing doesn't tell of isn't there
typed_none : (p : Program) (o : Objects) (m : Memory) (x : ObjectName) → IsTypedMemory p o m → o x ≡ None → m x ≡ None
typed_none p o m x h e = by (m x) refl
  where
    by : (c : Option Object) → m x ≡ c → c ≡ None
    by None f = refl
    by (Some ob) f = let t = h x ob f in absurd (cc (t.1))

all_shown : (known : Objects) (last a : ℕ) (xs : List ℕ) → last < a → AreShown known last a xs
all_shown known last a [] h = tt
all_shown known last a (x ∷ xs) h = (later_shown known last a x h, all_shown known last a xs h)

module _ (p : Program) (n : ℕ) (typed : IsProgram p n) (w w' : World) (goes : IsTypedWorld p w) (enters : Enters p w w') (agains : Agains p w w') (known : Objects) (last : ℕ) (fr : Frame) (ss : Stmts) (r : CType) (o : Objects) (st : State) (l : Memory) (s : IsTypedFrame p o fr) (h : AreStmts p fr.types r false false ss) (m : StandsIn p (mentions_of_stmts ss)) (k : Now known last p o st l) (above : last < fr.activation) (begun : fr.activation ≤ st.entries) (only : (j : ℕ) → length fr.types ≤ j → o (name_in fr false j) ≡ None) where
  abbrev limit : ℕ
  limit = length fr.types + length (kept_of_stmts p ss)

  abbrev wider_frame : Frame
  wider_frame = record { activation = fr.activation; types = fr.types ++ kept_of_stmts p ss }

  abbrev inside : Memory
  inside = all_changed (new_object p.structs) fr.activation (length fr.types) (kept_of_stmts p ss) l

  -- all variables that the body with its temporaries declares
  abbrev all : List ℕ
  all = declared_in (declared_from p (length fr.types) (kept_of_stmts p ss) (stmts p (length fr.types) ss))

  -- memory without the temporaries
  abbrev outside : Memory → Memory
  outside m = all_changed no_object fr.activation (length fr.types) (kept_of_stmts p ss) m

  own_name : (x : ObjectName) → x.activation ≡ fr.activation → name_in fr false x.variable ≡ x
  own_name x e i = record { activation = sym e i; variable = x.variable }

  -- what is hidden outside is hidden inside
  inner : (x : ObjectName) → IsHidden known last x → IsHidden o fr.activation x
  inner x hid = let a = hid.0 in (omega (arith, a, above), k.tells x hid.0 ∙ hid.1)

  ready : Here o fr limit p o st inside
  ready = record {
    now = record {
      state = k.state;
      tells = λ x a. refl;
      started = begun;
      beside = λ x shown. all_elsewhere (new_object p.structs) fr.activation (length fr.types) (kept_of_stmts p ss) l x (λ e b c. shown (omega (arith, e), ap o (sym (own_name x e)) ∙ only x.variable b)) ∙ k.beside x (λ hid. shown (inner x hid));
    };
    ready = λ j a b. (Indeterminate, all_there (new_object p.structs) (Some (record { cells = Indeterminate ∷ []; string = false })) (λ t s. ap (λ n. Some (record { cells = replicate n Indeterminate; string = false })) (scalar_cells p.structs t s)) fr.activation (length fr.types) (kept_of_stmts p ss) l j (stmts_scalars p n typed fr.types r false false ss h) a b);
  }

  -- the statements after the declarations
  after_declarations : exec_all (instrumented_program p) w' no_marks wider_frame (declared_from p (length fr.types) (kept_of_stmts p ss) (stmts p (length fr.types) ss)) (with_memory st l) ≡ exec_all (instrumented_program p) w' no_marks wider_frame (stmts p (length fr.types) ss) (with_memory st inside)
  after_declarations =
      declarations_declare p (instrumented_program p) w' no_marks wider_frame (length fr.types) (kept_of_stmts p ss) (stmts p (length fr.types) ss) (with_memory st l) (λ i t e. get_right fr.types (kept_of_stmts p ss) i ∙ e) ∙ ap (exec_all (instrumented_program p) w' no_marks wider_frame (stmts p (length fr.types) ss)) (declaring_is p.structs wider_frame (length fr.types) (kept_of_stmts p ss) st l)

  -- the body is left, and its temporaries end
  leaving_alike : (z q : Result Exit) → EndsTyped p {A = Exit} (IsExit p r false false) o st.entries z → Does o fr limit {A = Exit} true (length fr.types) inside z q → DoesAlike {A = Exit} known last l (leaving fr (declared_in ss) z) (leaving wider_frame (declared_in (declared_from p (length fr.types) (kept_of_stmts p ss) (stmts p (length fr.types) ss))) q)
  leaving_alike (Stop c u) q t d = ap (leaving wider_frame (declared_in (declared_from p (length fr.types) (kept_of_stmts p ss) (stmts p (length fr.types) ss)))) d
  leaving_alike (Go x z u) q t d = (without fr.activation all d.left, ap (leaving wider_frame all) (d.is ∙ ap (λ x. Go x (with_memory z d.left) u) d.same), subst (λ m. IsBeside known last (without fr.activation (declared_in ss) z.memory) m) (sym ends) (without_beside known last fr.activation (declared_in ss) z.memory (outside d.left) beside), subst (λ m. Stay known last l m) (sym ends) (without_stays known last fr.activation (declared_in ss) l (outside d.left) (all_shown known last fr.activation (declared_in ss) above) stays))
    where
      ends : without fr.activation all d.left ≡ without fr.activation (declared_in ss) (outside d.left)
      ends =
          they_end fr.activation (length fr.types) (kept_of_stmts p ss) p (stmts p (length fr.types) ss) d.left ∙ ap (λ xs. without fr.activation xs (outside d.left)) ((shapes_stay p).variables (length fr.types) ss)

      -- of this activation and those before it no more is told
      nothing : (x : ObjectName) → x.activation ≤ fr.activation → o x ≡ None → z.memory x ≡ None
      nothing x a e = typed_none p t.0 z.memory x t.3.memory (t.5 x (omega (arith, a, begun)) ∙ e)

      still : (x : ObjectName) → IsHidden o fr.activation x → Own fr.activation (length fr.types) (length (kept_of_stmts p ss)) x → outside d.left x ≡ l x
      still x hid out =
          all_elsewhere no_object fr.activation (length fr.types) (kept_of_stmts p ss) d.left x out ∙ (d.stay x hid out ∙ all_elsewhere (new_object p.structs) fr.activation (length fr.types) (kept_of_stmts p ss) l x out)

      stays : Stay known last l (outside d.left)
      stays x hid = let a = hid.0 in still x (inner x hid) (λ e b c. omega (arith, e, a, above))

      at : (x : ObjectName) → (IsHidden known last x → ⊥) → (b : Bool) (c : Option (List CType)) → nat_lt fr.activation x.activation ≡ b → o x ≡ c → Own fr.activation (length fr.types) (length (kept_of_stmts p ss)) x → outside d.left x ≡ z.memory x
      at x shown false None e f out =
          let a = not_below fr.activation x.activation e in
          still x (a, f) out ∙ (k.beside x shown ∙ (typed_none p o st.memory x k.state.memory f ∙ sym (nothing x a f)))
      at x shown b c e f out =
          all_elsewhere no_object fr.activation (length fr.types) (kept_of_stmts p ss) d.left x out ∙ d.beside x (λ hid. absurd (grind (arith, nat_tests, hid, e, f)))

      beside : IsBeside known last z.memory (outside d.left)
      beside x shown = elim (own_or_not fr.activation (length fr.types) (length (kept_of_stmts p ss)) x) as (λ c. outside d.left x ≡ z.memory x) [
        | inl own ↦
            subst (λ x. outside d.left x ≡ None) (own_name x own.0) (all_there no_object None (λ t s. refl) fr.activation (length fr.types) (kept_of_stmts p ss) d.left x.variable (stmts_scalars p n typed fr.types r false false ss h) own.1 own.2) ∙ sym (nothing x (let e = own.0 in omega (arith, e)) (ap o (sym (own_name x own.0)) ∙ only x.variable own.1))
        | inr out ↦ at x shown (nat_lt fr.activation x.activation) (o x) refl refl out
      ]

  pub block_alike : DoesAlike {A = Exit} known last l (exec p w (null_calls_of p) fr (block ss) st) (exec (instrumented_program p) w' no_marks wider_frame (body_from p (length fr.types) ss) (with_memory st l))
  block_alike =
      subst (λ q. DoesAlike {A = Exit} known last l (leaving fr (declared_in ss) (exec_all p w (null_calls_of p) fr ss st)) (leaving wider_frame (declared_in (declared_from p (length fr.types) (kept_of_stmts p ss) (stmts p (length fr.types) ss))) q)) (sym after_declarations) (leaving_alike _ _ (stmts_end p n typed (null_calls_of p) (null_calls_recorded p) w goes fr r false false ss o st s h m k.state) (stmts_do p n typed w w' goes enters agains o fr limit (fr.types ++ kept_of_stmts p ss) only (λ x t e. get_left fr.types (kept_of_stmts p ss) x t e) (length fr.types) r false false ss o st inside s h m (omega arith, omega arith) ready))

-- the body of a function, which is a block
pub body_alike : (p : Program) (n : ℕ) (typed : IsProgram p n) (w w' : World) (goes : IsTypedWorld p w) (enters : Enters p w w') (agains : Agains p w w') (known : Objects) (last : ℕ) (fr : Frame) (b : Stmt) (r : CType) (o : Objects) (st : State) (l : Memory) → IsBlock b → IsTypedFrame p o fr → IsStmt p fr.types r false false b → StandsIn p (mentions_of_stmt b) → Now known last p o st l → last < fr.activation → fr.activation ≤ st.entries → ((j : ℕ) → length fr.types ≤ j → o (name_in fr false j) ≡ None) → DoesAlike {A = Exit} known last l (exec p w (null_calls_of p) fr b st) (exec (instrumented_program p) w' no_marks (record { activation = fr.activation; types = fr.types ++ kept_of_stmt p b }) (body_from p (length fr.types) (items_of p b)) (with_memory st l))
body_alike p n typed w w' goes enters agains known last fr (block ss) r o st l is s h m k above begun only =
    block_alike p n typed w w' goes enters agains known last fr ss r o st l s h m k above begun only
body_alike p n typed w w' goes enters agains known last fr _ r o st l is s h m k above begun only = absurd is
