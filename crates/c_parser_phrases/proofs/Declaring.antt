-- What a reader of a declarator answers at each of its ends, from what the readers that it calls answered.
use Rattle.std.proofs.Common.{◌⊎◌, inl, inr, ◌≡◌, ◌<◌, ◌≤◌, ◌-◌, ℕ, max, length-append, Bool, true, false, List, [], ◌∷◌, ◌++◌, drop, length, Option, Some, None, Global, sym, ap, ◌∙◌, subst, arith}
use Rattle.std.specs.Prelude.{Box, Result, Ok, Err}
use Rattle.std.specs.Option.{is_some}
use Rattle.c_lexer.specs.declared.token.Token.{Token}
use Rattle.c_lexer.specs.declared.punctuator.TheConstants.{LEFT_PARENTHESIS, RIGHT_PARENTHESIS, ASTERISK, COMMA}
use Rattle.c_syntax.specs.declared.tree.Ident.{Ident as IdentTree}
use Rattle.c_syntax.specs.declared.tree.Param.{Param as ParamTree}
use Rattle.c_syntax.specs.declared.tree.Declarator.{Declarator as DeclaratorTree}
use Rattle.c_syntax.specs.Tree.{Spec, Declarator, nothing, named, pointer, Params, no_params, more_params}
use Rattle.c_syntax.specs.Tokens.{Is, place}
use Rattle.c_syntax.specs.Specifiers.{Consts}
use Rattle.c_syntax.specs.Limits.{height_of_params}
use Rattle.c_syntax.specs.Grammar.{HasName, IsThere, AreSome, Declares, a_pointer, a_direct, ReadsCore, a_declared, declarator_in_parentheses, no_core, ReadsParams, are_some, ReadsEach}
use Rattle.c_syntax.specs.View.{ident_of, param_before, declarator_of}
use Rattle.c_syntax.specs.Writes.{params_of, declarator_behind}
use Rattle.c_syntax_printing.specs.Starts.{start, EndsDeclarator}
use Rattle.c_syntax_printing.proofs.Ends.{started, started_name}
use Rattle.c_syntax_printing.proofs.FrontLemmas.{front_of_all}
use Rattle.c_syntax_printing.proofs.FrameGrammar.{declares_on}
use Rattle.c_parser_phrases.specs.declared.room.Room.{Room}
use Rattle.c_parser_phrases.specs.declared.depth.MeasuredDeclarator.{MeasuredDeclarator}
use Rattle.c_parser_phrases.specs.declared.form.Form.{Form}
use Rattle.c_parser_phrases.specs.declared.form.Form.TheVariants.{Named, Abstract, Either}
use Rattle.c_parser_phrases.specs.Making.{inner_of, MakesDeclarator, IsVoidAlone}
use Rattle.c_parser_phrases.specs.Phrases.{HasSpec, HasDeclarator}
use Rattle.c_parser_phrases.specs.Standing.{IsAt, TookName}
use Rattle.c_parser_phrases.specs.Reading.{Refused, Lacks, OpensDeclared, ParsesDeclared, ParsesCore, IsCored, Suits, IsParam}
use Rattle.c_syntax_printing.specs.Declarators.{ADeclared}
use Rattle.c_parser_phrases.specs.declared.error.PhraseError.{PhraseError}
use Rattle.c_parser_phrases.proofs.Raising.{no_memory}
use Rattle.c_parser_phrases.proofs.Exits.{taken_at, suits_pointer, suits_name, suits_nothing, suits_made, pointer_read, named_read, brackets_read}
use Rattle.c_parser_phrases.proofs.Lists.{each_one, each_more, some_more, some_one, none_read, params_height}
use Rattle.c_syntax_printing.proofs.Heads.{lengthened_name}
use Rattle.c_parser_phrases.proofs.Rows.{kind_there}

-- the declarator stands between, has a name or not as it is to, and what follows doesn't go on with it
abbrev pub IsDeclared : ℕ → Form → Declarator → List Token → List Token → Type 0
IsDeclared d form e i j = Declares d e i j × EndsDeclarator j × Suits form e

pub pointer_made :
    {d x at : ℕ} {e w : Declarator} {i j k m : List Token} (form : Form)
    → x ≡ d → at ≡ place i → IsAt ASTERISK i → j ≡ drop 1 i → Consts j k → IsDeclared x form e k m → w ≡ pointer at e → IsDeclared d form w i m
pointer_made {d} {at = at} {e = e} {w = w} {i = i} {j = j} {m = m} form q p h r c s v =
    let P : Declarator → Type 0 = λ z. Declares d z i m in
    let t = taken_at _ i j h r in
    (subst P (sym v) (pointer_read q p t.1 t.2 c s.0), s.1, suits_made form w (pointer at e) v (suits_pointer form at e s.2))

-- what a reader answers that returns a node as it is made
pub declared_made : (room : Room) (form : Form) {tree : Declarator} {i j : List Token} (r : Result MeasuredDeclarator PhraseError) → MakesDeclarator r tree → ((w : Declarator) → w ≡ tree → IsDeclared room.pairs form w i j) → ParsesDeclared room form r i j
declared_made room form (Ok m) h f = f (inner_of m) h
declared_made room form {i = i} {j = j} (Err e) h f = subst (λ z. Refused (Lacks (ADeclared (Suits form))) (OpensDeclared form) room z i j) (sym h) no_memory

pub core_made : (room : Room) (form : Form) {tree : Declarator} (i : List Token) {j : List Token} (r : Result MeasuredDeclarator PhraseError) → MakesDeclarator r tree → ((w : Declarator) → w ≡ tree → ReadsCore room.pairs w i j × Suits form w × IsCored w i j) → ParsesCore room form r i j
core_made room form i (Ok m) h f = f (inner_of m) h
core_made room form i {j = j} (Err e) h f = subst (λ z. Refused (Lacks (ADeclared (Suits form))) (OpensDeclared form) room z i j) (sym h) no_memory

-- what is at hand before the parts of a declarator
abbrev pub IsCore : ℕ → Form → Declarator → List Token → List Token → Type 0
IsCore d form e i j = ReadsCore d e i j × Suits form e

pub name_made :
    {d at : ℕ} {w : Declarator} {i j : List Token} (form : Form) (x : IdentTree)
    → at ≡ place i → TookName x i j → (form ≡ Abstract → ⊥) → w ≡ named at (ident_of x) → IsCore d form w i j
name_made {d} {at} {w} {i} {j} form x p n f v =
    let P : Declarator → Type 0 = λ z. ReadsCore d z i j in
    (subst P (sym v) (named_read p n.names n.stood), suits_made form w (named at (ident_of x)) v (suits_name form at (ident_of x) f))

pub nothing_made : {d : ℕ} {w : Declarator} {i : List Token} (form : Form) → (form ≡ Named → ⊥) → w ≡ nothing → IsCore d form w i i
nothing_made {d} {w} {i} form f v =
    let P : Declarator → Type 0 = λ z. ReadsCore d z i i in
    (subst P (sym v) no_core, suits_made form w nothing v (suits_nothing form f))

-- a declarator that is not None
pub there_is : (tree : Option (Box DeclaratorTree Global)) → is_some tree ≡ true → IsThere (declarator_behind tree)
there_is None e = absurd (let q : false ≡ true = e in cc)
there_is (Some b) e = kind_there b.value.at b.value.kind

pub brackets_made :
    {d x : ℕ} {e : Declarator} {i j k m : List Token} (form : Form)
    → x ≡ d - 1 → (d ≡ 0 → ⊥) → IsAt LEFT_PARENTHESIS i → j ≡ drop 1 i → IsDeclared x form e j k → IsThere e
    → ((u : Token) × Is RIGHT_PARENTHESIS u × (k ≡ u ∷ m)) → IsCore d form e i m
brackets_made {i = i} {j = j} form q l h r s there u =
    let t = taken_at _ i j h r in
    (brackets_read q (omega (arith, l)) t.1 t.2 s.0 there u.1 u.2, s.2)

-- a parameter that was read
pub param_made :
    {d at : ℕ} {s : Spec} {e : Declarator} {i k j : List Token} (p : ParamTree) (v : Bool)
    → at ≡ place i → HasSpec s i k → Declares d e k j × EndsDeclarator j × Suits Either e → ((rest : Params) → param_before p rest ≡ more_params at s e rest) → IsVoidAlone v s e → IsParam d p v i j
param_made {at = at} {s = s} {e = e} {k = k} p v b r c same alone = record {
  at = at;
  spec = s;
  inner = e;
  between = k;
  same = same;
  begins = b;
  specified = r.reads;
  spec_ends = r.ends;
  declared = c.0;
  ends = c.1;
  alone = λ q. subst (λ z. IsVoidAlone z s e) q alone;
  other = λ q. subst (λ z. IsVoidAlone z s e) q alone at;
}

-- parameters that are not `void` alone
pub params_read : {d : ℕ} {i j k : List Token} (ps : List ParamTree) → ReadsEach d (params_of ps) i j → AreSome (params_of ps) ⊎ IsAt COMMA j → (IsAt COMMA j → ⊥) × (k ≡ j) → ReadsParams d (params_of ps) i k
params_read {d} {i} {j} {k} ps r s n =
    let P : List Token → Type 0 = λ y. ReadsParams d (params_of ps) i y in
    subst P (sym n.1) (elim s [ inl a ↦ are_some r a | inr c ↦ absurd (n.0 c) ])

params_first : {xs ns : List ParamTree} {p : ParamTree} → xs ≡ ns ++ p ∷ [] → ns ≡ [] → xs ≡ p ∷ []
params_first {p = p} q n = q ∙ ap (λ y. y ++ p ∷ []) n

-- the first parameter alone
pub each_first : {d : ℕ} {v : Bool} {i j : List Token} {xs ns : List ParamTree} (p : ParamTree) → xs ≡ ns ++ p ∷ [] → ns ≡ [] → IsParam d p v i j → ReadsEach d (params_of xs) i j
each_first {d} {i = i} {j = j} p q n h =
    let Q : List ParamTree → Type 0 = λ y. ReadsEach d (params_of y) i j in
    subst Q (sym (params_first q n)) (each_one p h)

-- the first parameter, where it doesn't stand alone as `void`
pub some_first : {d : ℕ} {i j : List Token} {xs ns : List ParamTree} (p : ParamTree) (v : Bool) → xs ≡ ns ++ p ∷ [] → ns ≡ [] → IsParam d p v i j → (v ≡ false) ⊎ IsAt COMMA j → AreSome (params_of xs) ⊎ IsAt COMMA j
some_first {j = j} p v q n h s =
    let Q : List ParamTree → Type 0 = λ y. AreSome (params_of y) in
    elim s [ inl e ↦ inl (subst Q (sym (params_first q n)) (some_one p h e)) | inr c ↦ inr c ]

pub first_height : {h : ℕ} {xs ns : List ParamTree} (p : ParamTree) → xs ≡ ns ++ p ∷ [] → ns ≡ [] → ((rest : Params) → max h (height_of_params rest) ≡ height_of_params (param_before p rest)) → h ≡ height_of_params (params_of xs)
first_height {h} p q n f =
    let Q : List ParamTree → Type 0 = λ y. h ≡ height_of_params (params_of y) in
    subst Q (sym (params_first q n)) (omega (arith, f no_params))

pub grown_height : {h m : ℕ} {xs : List ParamTree} (g : ℕ) (ps : List ParamTree) (p : ParamTree) → xs ≡ ps ++ p ∷ [] → h ≡ max m g → m ≡ height_of_params (params_of ps) → ((rest : Params) → max g (height_of_params rest) ≡ height_of_params (param_before p rest)) → h ≡ height_of_params (params_of xs)
grown_height {h} g ps p q k a f =
    let Q : List ParamTree → Type 0 = λ y. h ≡ height_of_params (params_of y) in
    subst Q (sym q) (omega (arith, k, a, params_height ps p g f))

-- `void` alone
pub alone_read : {d : ℕ} {ps : Params} {i j : List Token} (p : ParamTree) (v : Bool) → IsParam d p v i j → v ≡ true → ps ≡ no_params → ReadsParams d ps i j
alone_read {d} {ps} {i} {j} p v h e q =
    let P : Params → Type 0 = λ z. ReadsParams d z i j in
    let Q : Bool → Type 0 = λ z. IsParam d p z i j in
    subst P (sym q) (none_read p (subst Q e h))

-- one parameter more, after a comma
pub each_grown :
    {d : ℕ} {v : Bool} {t : Token} {i z j k : List Token} {qs : List ParamTree} (ps : List ParamTree) (p : ParamTree)
    → ReadsEach d (params_of ps) i z → z ≡ t ∷ j → Is COMMA t → IsParam d p v j k → qs ≡ ps ++ p ∷ [] → ReadsEach d (params_of qs) i k
each_grown {d} {i = i} {k = k} ps p r q h w e =
    let P : List Token → Type 0 = λ y. ReadsEach d (params_of ps) i y in
    let Q : List ParamTree → Type 0 = λ y. ReadsEach d (params_of y) i k in
    subst Q (sym e) (each_more ps p (subst P q r) h w)

pub some_grown : {d : ℕ} {i z : List Token} {qs : List ParamTree} (ps : List ParamTree) (p : ParamTree) → ReadsEach d (params_of ps) i z → qs ≡ ps ++ p ∷ [] → AreSome (params_of qs)
some_grown ps p r e =
    let Q : List ParamTree → Type 0 = λ y. AreSome (params_of y) in
    subst Q (sym e) (some_more ps p r)

core_begins : {d : ℕ} {a : Declarator} {i j : List Token} → ReadsCore d a i j → HasName a → 2 ≤ start i
core_begins (a_declared n) h = omega (arith, started_name n.name)
core_begins (declarator_in_parentheses o r w c) h = omega (arith, started o)
core_begins no_core h = absurd h

named_begins : {d : ℕ} {e : Declarator} {i j : List Token} → Declares d e i j → HasName e → 2 ≤ start i
named_begins (a_pointer o c r) h = omega (arith, started o)
named_begins (a_direct p c l) h = core_begins c (lengthened_name l h)

after_front : {i : List Token} (front j : List Token) → i ≡ front ++ j → 2 ≤ start i → start j ≤ 1 → length j < length i
after_front [] j q b s = absurd (omega (arith, ap start q, b, s))
after_front (t ∷ front) j q b s = omega (arith, ap length q, length-append front j)

-- a declarator with a name is no list of no tokens
pub named_shorter : {d : ℕ} {e : Declarator} {i j : List Token} → Declares d e i j → HasName e → EndsDeclarator j → length j < length i
named_shorter {j = j} r h s =
    let f = front_of_all (declares_on r) in
    after_front f.front j f.is (named_begins r h) s

-- what the reader of declarators hands out
pub declarator_has :
    {room : Room} {i j : List Token} (m : MeasuredDeclarator) (b : Box DeclaratorTree Global) (e : DeclaratorTree)
    → IsDeclared room.pairs Named (inner_of m) i j → m.depth.height ≤ room.nodes → m.tree ≡ Some b → e ≡ b.value → HasDeclarator room (declarator_of e) i j
declarator_has {room} {i} {j} m b e s h q v =
    let P : Declarator → Type 0 = λ y. HasDeclarator room y i j in
    let same : inner_of m ≡ declarator_of e = ap declarator_behind q ∙ ap declarator_of (sym v) in
    subst P same (record { reads = s.0; nested = omega (arith, h, m.exact); named = s.2; ends = s.1; shorter = named_shorter s.0 s.2 s.1 })
