-- Where type names, declarators and initialisers go on past the limits.
use Rattle.std.proofs.Common.{◌≡◌, ◌≤◌, ◌<◌, ◌⊎◌, inl, inr, ℕ, zero, suc, Bool, true, List, [], ◌∷◌, ◌++◌, drop, length, length-append, refl, sym, ap, ◌∙◌, subst, arith}
use Rattle.std.proofs.Math.Logic.{⊎_map}
use Rattle.c_lexer.specs.declared.token.Token.{Token}
use Rattle.c_lexer.specs.declared.keyword.TheConstants.{VOID}
use Rattle.c_lexer.specs.declared.punctuator.TheConstants.{LEFT_BRACKET, LEFT_PARENTHESIS, RIGHT_PARENTHESIS, LEFT_BRACE, ASTERISK, COMMA}
use Rattle.c_syntax.specs.declared.tree.Param.{Param as ParamTree}
use Rattle.c_syntax.specs.Tree.{Ident, Spec, Declarator, nothing, named, pointer, array, function, absent, no_params, Init}
use Rattle.c_syntax.specs.Tokens.{Is, place}
use Rattle.c_syntax.specs.Specifiers.{Names, Consts, no_const, is_void}
use Rattle.c_syntax.specs.Grammar.{conditional_level, IsThere, no_size, Declares, a_pointer, a_direct, ReadsCore, a_declared, declarator_in_parentheses, no_core, Lengthens, no_more, an_array, a_function, are_none}
use Rattle.c_syntax.specs.Statements.{ReadsInit}
use Rattle.c_syntax_printing.specs.Twins.{On}
use Rattle.c_syntax_printing.proofs.Twins.{after, glue}
use Rattle.c_syntax_printing.specs.Starts.{start}
use Rattle.c_syntax_printing.proofs.FrontLemmas.{front_of_all}
use Rattle.c_syntax_printing.proofs.FrameGrammar.{declares_on, lengthens_on}
use Rattle.c_syntax_printing.proofs.MorePairs.{wide_core, wide_lengthens}
use Rattle.c_syntax_printing.specs.Fails.{Then, then, One, one}
use Rattle.c_syntax_printing.specs.Nodes.{InDeclarator, declarator_here}
use Rattle.c_syntax_printing.specs.Opens.{Opens, DeepExpr, DeepType, DeepDeclarator, DeepLengthens, DeepEach, DeepInit, DeepInits, Builds, Writes, Filled, Direct}
use Rattle.c_syntax_printing.proofs.Combine.{fronted, twin_alike}
use Rattle.c_syntax_printing.proofs.Fills.{name_token, word}
use Rattle.c_syntax_printing.proofs.Opening.{opens_under, opens_first, opens_here, closed_by}
use Rattle.c_syntax_printing.proofs.DeclOpens.{type_opens, pointer_opens, pointer_too_deep, named_too_deep, declarator_parentheses_open, lengthens_open, size_opens, array_too_high, function_too_high}
use Rattle.c_syntax_printing.proofs.PartOpens.{first_param_opens, later_param_opens, params_open}
use Rattle.c_syntax_printing.proofs.InitOpens.{list_too_deep, init_list_opens, first_init_opens, later_init_opens}
use Rattle.c_parser_phrases.specs.declared.room.Room.{Room}
use Rattle.c_parser_phrases.specs.declared.depth.Depth.{Depth}
use Rattle.c_parser_phrases.specs.Deepest.{IsPlace}
use Rattle.c_parser_phrases.specs.declared.form.Form.{Form}
use Rattle.c_parser_phrases.specs.declared.form.Form.TheVariants.{Named, Abstract, Either}
use Rattle.c_parser_phrases.specs.Looking.{OpensInside, BeginsDeclarator}
use Rattle.c_parser_phrases.specs.Standing.{IsAt}
use Rattle.c_parser_phrases.specs.Phrases.{HasSpec, HasInit}
use Rattle.c_parser_phrases.specs.Reading.{Suits, IsBare, IsCored, IsParam, OpensPart, OpensEachMore, OpensInitMore}
use Rattle.c_parser_phrases.proofs.Exits.{taken_at, suits_name, suits_nothing}
use Rattle.c_parser_phrases.proofs.Starts.{kind_of_name, star_there, opening_there, bracket_there}
use Rattle.c_parser_phrases.proofs.RefusalsOfDeclarators.{Read, unmoved, bare_lengthens, opening_taken}
use Rattle.c_syntax_printing.proofs.BodyOpens.{close_paren}
use Rattle.c_syntax_printing.proofs.DeclOpens.{close_bracket}
use Rattle.c_syntax_printing.proofs.DeclaratorFails.{core_on, place_alike}
use Rattle.c_parser_phrases.proofs.Opened.{moved_open}

abbrev some_name : Ident
some_name = record { name = 115 ∷ []; at = 0 }

some_names : Names some_name (name_token 0)
some_names = record { name = record { kind = refl }; at = refl }

-- what forms keep

pub builds : (form : Form) → Builds (Suits form)
builds Named = record { pointers = λ at e n. n; arrays = λ at e s n. n; functions = λ at e ps n. n }
builds Abstract = record { pointers = λ at e n. n; arrays = λ at e s n. n; functions = λ at e ps n. n }
builds Either = record { pointers = λ at e n. n; arrays = λ at e s n. n; functions = λ at e ps n. n }

pub writes : (form : Form) → Writes (Suits form)
writes Named = record { declarator = named 0 some_name; suits = tt; filled = λ d m. record { tokens = name_token 0 ∷ m; reads = a_direct refl (a_declared some_names) no_more } }
writes Abstract = record { declarator = nothing; suits = tt; filled = λ d m. record { tokens = m; reads = a_direct refl no_core no_more } }
writes Either = record { declarator = nothing; suits = tt; filled = λ d m. record { tokens = m; reads = a_direct refl no_core no_more } }

-- type names and parameters

pub type_declarator_opens : {at p n : ℕ} {s : Spec} {i j r : List Token} → HasSpec s i j → Opens (DeepDeclarator (Suits Abstract) at p n) j r → Opens (DeepType at p n) i r
type_declarator_opens s o = type_opens s.reads o

pub param_declarator_opens : {at p n : ℕ} {s : Spec} {i j r : List Token} → HasSpec s i j → Opens (DeepDeclarator (Suits Either) at p n) j r → Opens (DeepEach at p n) i r
param_declarator_opens s o = first_param_opens s.reads o

pub param_leads_open : {at p n : ℕ} {x : ParamTree} (v : Bool) {i j r : List Token} → IsParam p x v i j → OpensEachMore at p n j r → Opens (DeepEach at p n) i r
param_leads_open {p = p} v h o =
    let P : List Token → Type 0 = λ z. Declares p h.inner h.between z in later_param_opens (omega arith) h.specified (subst P o.is h.declared) o.comma o.opens

pub later_param_open : {at p n : ℕ} {t : Token} {i j r : List Token} → i ≡ t ∷ j → Is COMMA t → Opens (DeepEach at p n) j r → OpensEachMore at p n i r
later_param_open q c o = record { token = _; after = _; is = q; comma = c; opens = o }

-- pointers

place_deep : (A : ℕ → ℕ → List Token → List Token → Type 0) {at n : ℕ} {t : Token} {i j : List Token} → i ≡ t ∷ j → at ≡ place i → n ≡ 0 → Opens (A t.from 0) (t ∷ j) (t ∷ j) → Opens (A at n) i i
place_deep A {at} {n} {t} {i} {j} e q z o =
    let f : t.from ≡ at = sym (q ∙ ap place e) in
    subst (λ m. Opens (A at m) i i) (sym z) (subst (λ m. Opens (A m 0) i i) f (subst (λ y. Opens (A t.from 0) y y) (sym e) o))

pub pointer_opens_here : {at p n : ℕ} (form : Form) {i : List Token} → IsAt ASTERISK i → at ≡ place i → n ≡ 0 → Opens (DeepDeclarator (Suits form) at p n) i i
pointer_opens_here {at} {p} {n} form {i} h q z =
    let t = taken_at ASTERISK i (drop 1 i) h refl in
    place_deep (λ m k. DeepDeclarator (Suits form) m p k) t.2 q z (pointer_too_deep (builds form) (writes form) t.1)

pub pointer_inner_opens : {at p n : ℕ} (form : Form) {k m r : List Token} (i : List Token) → IsAt ASTERISK i → k ≡ drop 1 i → Consts k m → Opens (DeepDeclarator (Suits form) at p n) m r → Opens (DeepDeclarator (Suits form) at p (suc n)) i r
pointer_inner_opens form {k} i h e c o = let t = taken_at ASTERISK i k h e in moved_open t.2 (pointer_opens (builds form) t.1 c o)

-- names

pub name_opens : {at p n : ℕ} (form : Form) (i : List Token) → (form ≡ Abstract → ⊥) → start i ≡ 5 → at ≡ place i → n ≡ 0 → Opens (DeepDeclarator (Suits form) at p n) i i
name_opens form [] f s q z = absurd (omega (arith, s))
name_opens {at} {p} {n} form (t ∷ i) f s q z =
    let k = kind_of_name t.kind s in
    let x : Ident = record { name = k.0; at = t.from } in
    place_deep (λ m y. DeepDeclarator (Suits form) m p y) {t = t} {i = t ∷ i} {j = i} refl q z (named_too_deep {x = x} (suits_name form t.from x f) (record { name = record { kind = k.1 }; at = refl }))

-- declarators in parentheses

pair_named : {N : Declarator → Type 0} {n : ℕ} {t : Token} {i : List Token} → Is LEFT_PARENTHESIS t → N (named 0 some_name) → Opens (DeepDeclarator N t.from 0 n) (t ∷ i) (t ∷ i)
pair_named h s = opens_here (λ m. record {
  tokens = name_token 0 ∷ close_paren ∷ m;
  reads = record {
    tree = named 0 some_name;
    reads = a_direct refl (declarator_in_parentheses h (a_direct refl (a_declared some_names) no_more) tt (record { kind = refl })) no_more;
    suits = s;
    deep = inr (inl (inl (refl, refl)));
  };
})

named_suits : (form : Form) → form ≡ Named → Suits form (named 0 some_name)
named_suits Named e = tt
named_suits Abstract e = absurd (let q : Abstract ≡ Named = e in cc)
named_suits Either e = tt

pub named_pair_opens : {at p n : ℕ} (form : Form) {i : List Token} → OpensInside form true i → form ≡ Named → at ≡ place i → p ≡ 0 → Opens (DeepDeclarator (Suits form) at p n) i i
named_pair_opens {at} {p} {n} form {i} o e q z = place_deep (λ m y. DeepDeclarator (Suits form) m y n) o.2 q z (pair_named o.3 (named_suits form e))

-- a declarator that begins with the token
abbrev Begun : (Declarator → Type 0) → Token → List Token → List Token → Type 0
Begun N u k j = (e : Declarator) × Declares 0 e (u ∷ k) j × IsThere e × N e

pair_begun : {N : Declarator → Type 0} {n : ℕ} {t u : Token} {i : List Token} → Is LEFT_PARENTHESIS t → ((m : List Token) → Filled (Begun N u) m) → Opens (DeepDeclarator N t.from 0 n) (t ∷ u ∷ i) (u ∷ i)
pair_begun {N} {n} {t} {u} h f =
    opens_under (λ k m w. close h w) (opens_first (closed_by {P = Is RIGHT_PARENTHESIS} close_paren (record { kind = refl })) (opens_here {A = λ k j. (e : Declarator) × Declares 0 e k j × IsThere e × N e} f))
  where
    close : {t : Token} {k m : List Token} → Is LEFT_PARENTHESIS t → Then (λ k j. (e : Declarator) × Declares 0 e k j × IsThere e × N e) (One (Is RIGHT_PARENTHESIS)) k m → DeepDeclarator N t.from 0 n (t ∷ k) m
    close h (then a (one c)) = record { tree = a.0; reads = a_direct refl (declarator_in_parentheses h a.1 a.2 c) no_more; suits = a.3; deep = inr (inl (inl (refl, refl))) }

begun_at : (form : Form) (u : Token) (i : List Token) → (form ≡ Named → ⊥) → BeginsDeclarator form (u ∷ i) → start (u ∷ i) ≤ 6 → (m : List Token) → Filled (Begun (Suits form) u) m
begun_at form u i f b l m = go (start (u ∷ i)) refl b.some l b.no_constant
  where
    none : Suits form nothing
    none = suits_nothing form f

    go : (n : ℕ) → start (u ∷ i) ≡ n → 2 ≤ n → n ≤ 6 → (n ≡ 3 → ⊥) → Filled (Begun (Suits form) u) m
    go zero q l g h = absurd (omega (arith, l))
    go (suc zero) q l g h = absurd (omega (arith, l))
    go (suc (suc zero)) q l g h = record { tokens = m; reads = (pointer u.from nothing, a_pointer (star_there (u ∷ i) q) no_const (a_direct refl no_core no_more), tt, (builds form).pointers u.from nothing none) }
    go (suc (suc (suc zero))) q l g h = absurd (h refl)
    go (suc (suc (suc (suc zero)))) q l g h = record {
      tokens = word VOID (omega arith) ∷ close_paren ∷ m;
      reads = (function u.from nothing no_params, a_direct refl no_core (a_function (opening_there (u ∷ i) q) (are_none (is_void no_const (record { kind = refl }) no_const)) (record { kind = refl }) no_more), tt, (builds form).functions u.from nothing no_params none);
    }
    go (suc (suc (suc (suc (suc zero))))) q l g h =
        let k = kind_of_name u.kind q in
        let x : Ident = record { name = k.0; at = u.from } in
        record { tokens = m; reads = (named u.from x, a_direct refl (a_declared {ident = x} (record { name = record { kind = k.1 }; at = refl })) no_more, tt, suits_name form u.from x (λ a. b.no_name q a)) }
    go (suc (suc (suc (suc (suc (suc zero)))))) q l g h = record {
      tokens = close_bracket ∷ m;
      reads = (array u.from nothing absent, a_direct refl no_core (an_array (bracket_there (u ∷ i) q) no_size (record { kind = refl }) no_more), tt, (builds form).arrays u.from nothing absent none);
    }
    go (suc (suc (suc (suc (suc (suc (suc n))))))) q l g h = absurd (omega (arith, g))

pub declarator_pair_opens : {at p n : ℕ} (form : Form) {i : List Token} (k : List Token) → OpensInside form true i → k ≡ drop 1 i → (form ≡ Named → ⊥) → at ≡ place i → p ≡ 0 → BeginsDeclarator form k → Opens (DeepDeclarator (Suits form) at p n) i k
declarator_pair_opens form [] o e f q z b = absurd (omega (arith, b.some))
declarator_pair_opens {at} {p} {n} form {i} (u ∷ k) o e f q z b =
    let t = opening_taken form o e in
    let w : t.0.from ≡ at = sym (q ∙ ap place t.2) in
    moved_open t.2 (subst (λ m. Opens (DeepDeclarator (Suits form) at m n) (t.0 ∷ u ∷ k) (u ∷ k)) (sym z) (subst (λ m. Opens (DeepDeclarator (Suits form) m 0 n) (t.0 ∷ u ∷ k) (u ∷ k)) w (pair_begun t.1 (begun_at form u k f b (low o.4)))))
  where
    s : (u ∷ k) ≡ o.1
    s = e ∙ ap (drop 1) o.2

    low : (start o.1 ≤ 6) ⊎ (form ≡ Named) → start (u ∷ k) ≤ 6
    low (inl l) = omega (arith, l, ap start s)
    low (inr y) = absurd (f y)

pub inside_declarator_opens : {at p n : ℕ} (form : Form) {i k r : List Token} → OpensInside form true i → k ≡ drop 1 i → Opens (DeepDeclarator (Suits form) at p n) k r → Opens (DeepDeclarator (Suits form) at (suc p) n) i r
inside_declarator_opens form o e w = let t = opening_taken form o e in moved_open t.2 (declarator_parentheses_open t.1 w)

pub some_inside : (form : Form) {i : List Token} → OpensInside form true i → 0 < length i
some_inside form o = omega (arith, ap length o.2)

-- array sizes and parameters

place_front : {i z : List Token} (j k front : List Token) → i ≡ front ++ j → z ≡ front ++ k → length j < length i → place i ≡ place z
place_front j k [] q p l = absurd (omega (arith, ap length q, l))
place_front j k (t ∷ front) q p l = ap place q ∙ sym (ap place p)

direct_on : {d x q : ℕ} {core left : Declarator} {i h j : List Token} → d ≤ x → q ≡ place i → ReadsCore d core i h → Lengthens d q core left h j → length j < length i → (k : List Token) → On (Direct x q left) i j k
direct_on {j = j} g b c l s k =
    let y = lengthens_on (wide_lengthens l g) k in
    let z = core_on (wide_core c g) y.tokens in
    let w = glue y.twin z.twin in
    let f = fronted w in
    record { tokens = z.tokens; twin = w; reads = record { core = _; after = _; begins = b ∙ place_front j k f.0 f.1 f.2 s; stands = z.reads; lengthens = y.reads } }

core_shorter : {d : ℕ} {a : Declarator} {i h : List Token} → ReadsCore d a i h → IsThere a → length h < length i
core_shorter (a_declared n) t = omega arith
core_shorter (declarator_in_parentheses {u = u} {j = j} o r h c) t = let f = front_of_all (declares_on r) in omega (arith, ap length f.is, length-append f.front (u ∷ j))
core_shorter no_core t = absurd t

no_longer : {d q : ℕ} {a e : Declarator} {i j : List Token} → Lengthens d q a e i j → length j ≤ length i
no_longer {j = j} l = let f = front_of_all (lengthens_on l) in omega (arith, ap length f.is, length-append f.front j)

-- where nothing stands before them
bare_open : {N : Declarator → Type 0} {at p n q : ℕ} {i r : List Token} → q ≡ place i → N nothing → Opens (DeepLengthens N at p n q nothing) i r → Opens (DeepDeclarator N at p n) i r
bare_open {N} {at} {p} {n} {q} b s o = record {
  before = λ m.
      let x = o.before m in
      let y = x.reads in
      record { other = x.other; meets = x.meets; tokens = x.tokens; twin = x.twin; reads = record { tree = y.tree; reads = a_direct (b ∙ place_alike (twin_alike x.twin x.meets)) no_core y.reads; suits = y.suits s; deep = ⊎_map (λ a. a) (λ b. inr b) y.deep } };
}

pub parts_open : {at p n begins : ℕ} (form : Form) {core left : Declarator} {i h j r : List Token} → Read p begins core left i h j → Suits form left → OpensPart begins left at p n j r → Opens (DeepDeclarator (Suits form) at p n) i r
parts_open {at} {p} {n} {begins} form {core} {left} {i} {h} {j} {r} x s o = go x.cored
  where
    begun : IsBare core i h → ((left ≡ nothing) × (j ≡ i)) ⊎ (length j < length i) → Opens (DeepDeclarator (Suits form) at p n) i r
    begun c (inl e) =
        let P : Declarator → Type 0 = λ z. Suits form z in
        let R : Declarator → Type 0 = λ z. Opens (DeepLengthens (Suits form) at p n begins z) i r in
        bare_open x.begins (subst P e.0 s) (subst R e.0 (moved_open (sym e.1) (o form)))
    begun c (inr e) = lengthens_open s (direct_on (omega arith) x.begins x.core_reads x.lengthens e) (o form)

    go : IsCored core i h → Opens (DeepDeclarator (Suits form) at p n) i r
    go (inl t) = lengthens_open s (direct_on (omega arith) x.begins x.core_reads x.lengthens (omega (arith, core_shorter x.core_reads t, no_longer x.lengthens))) (o form)
    go (inr c) = begun c (unmoved (bare_lengthens c.empty c.stays x.lengthens))

limit_of : {at n h : ℕ} {e : Declarator} → n ≤ h → h ≤ n → InDeclarator at h e → InDeclarator at n e
limit_of {at} {n} {h} {e} l u d = let q : h ≡ n = omega (arith, l, u) in subst (λ m. InDeclarator at m e) q d

array_here : {N : Declarator → Type 0} {at p n q : ℕ} {a : Declarator} {t : Token} {i : List Token} → Builds N → Is LEFT_BRACKET t → at ≡ q → n ≡ 0 → Opens (DeepLengthens N at p n q a) (t ∷ i) (t ∷ i)
array_here {N} {at} {p} {n} {q} {a} {t} {i} b h e z =
    subst (λ m. Opens (DeepLengthens N at p m q a) (t ∷ i) (t ∷ i)) (sym z)
    (opens_here (λ m. record {
      tokens = close_bracket ∷ m;
      reads = record { tree = array q a absent; reads = an_array h no_size (record { kind = refl }) no_more; suits = λ s. b.arrays q a absent s; deep = inl (declarator_here tt e) };
    }))

function_here : {N : Declarator → Type 0} {at p n q : ℕ} {a : Declarator} {t : Token} {i : List Token} → Builds N → Is LEFT_PARENTHESIS t → at ≡ q → n ≡ 0 → Opens (DeepLengthens N at p n q a) (t ∷ i) (t ∷ i)
function_here {N} {at} {p} {n} {q} {a} {t} {i} b h e z =
    subst (λ m. Opens (DeepLengthens N at p m q a) (t ∷ i) (t ∷ i)) (sym z)
    (opens_here (λ m. record {
      tokens = word VOID (omega arith) ∷ close_paren ∷ m;
      reads = record { tree = function q a no_params; reads = a_function h (are_none (is_void no_const (record { kind = refl }) no_const)) (record { kind = refl }) no_more; suits = λ s. b.functions q a no_params s; deep = inl (declarator_here tt e) };
    }))

moved_in : {m n h : ℕ} {e : Declarator} → m ≡ h → InDeclarator h n e → InDeclarator m n e
moved_in {n = n} {e = e} q d = subst (λ z. InDeclarator z n e) (sym q) d

pub bracket_opens : {at p n begins : ℕ} {d : Depth} {left : Declarator} (j : List Token) → IsAt LEFT_BRACKET j → n ≤ d.height → d.height ≤ n → IsPlace begins d at → (d.height ≡ 0) ⊎ InDeclarator d.deepest d.height left → OpensPart begins left at p n j j
bracket_opens [] c l u w d form = absurd c
bracket_opens (t ∷ j) c l u (inl w) d form = array_here (builds form) c w.1 (omega (arith, l, w.0))
bracket_opens (t ∷ j) c l u (inr w) (inl z) form = absurd (w.0 z)
bracket_opens (t ∷ j) c l u (inr w) (inr d) form = array_too_high (builds form) c (moved_in w.1 (limit_of l u d))

pub parenthesis_opens : {at p n begins : ℕ} {d : Depth} {left : Declarator} (j : List Token) → IsAt LEFT_PARENTHESIS j → n ≤ d.height → d.height ≤ n → IsPlace begins d at → (d.height ≡ 0) ⊎ InDeclarator d.deepest d.height left → OpensPart begins left at p n j j
parenthesis_opens [] c l u w d form = absurd c
parenthesis_opens (t ∷ j) c l u (inl w) d form = function_here (builds form) c w.1 (omega (arith, l, w.0))
parenthesis_opens (t ∷ j) c l u (inr w) (inl z) form = absurd (w.0 z)
parenthesis_opens (t ∷ j) c l u (inr w) (inr d) form = function_too_high (builds form) c (moved_in w.1 (limit_of l u d))

pub size_part_opens : {at p n begins : ℕ} {left : Declarator} {t : Token} {i j r : List Token} → i ≡ t ∷ j → Is LEFT_BRACKET t → Opens (DeepExpr at p n conditional_level) j r → OpensPart begins left at p (suc n) i r
size_part_opens q h o form = moved_open q (size_opens (builds form) h o)

pub params_part_opens : {at p n begins : ℕ} {left : Declarator} {t : Token} {i j r : List Token} → i ≡ t ∷ j → Is LEFT_PARENTHESIS t → Opens (DeepEach at p n) j r → OpensPart begins left at p (suc n) i r
params_part_opens q h o form = moved_open q (params_open (builds form) h o)

-- initialisers (6.7.8)

pub list_opens_here : {at p n : ℕ} {i : List Token} → IsAt LEFT_BRACE i → at ≡ place i → n ≡ 0 → Opens (DeepInit at p n) i i
list_opens_here {at} {p} {n} {i} h q z = let t = taken_at LEFT_BRACE i (drop 1 i) h refl in place_deep (λ m y. DeepInit m p y) t.2 q z (list_too_deep t.1)

pub list_inside_opens : {at p n : ℕ} {k r : List Token} (i : List Token) → IsAt LEFT_BRACE i → k ≡ drop 1 i → Opens (DeepInits at p n) k r → Opens (DeepInit at p (suc n)) i r
list_inside_opens {k = k} i h e o = let t = taken_at LEFT_BRACE i k h e in moved_open t.2 (init_list_opens t.1 o)

pub later_init_open : {at p n : ℕ} {t : Token} {i j r : List Token} → i ≡ t ∷ j → Is COMMA t → Opens (DeepInit at p n) j r → OpensInitMore at p n i r
later_init_open q c o = record { token = _; after = _; is = q; comma = c; opens = first_init_opens o }

pub init_leads_open : {room : Room} {at n : ℕ} {v : Init} {i j r : List Token} → HasInit room v i j → OpensInitMore at room.pairs n j r → Opens (DeepInits at room.pairs n) i r
init_leads_open {room} {v = v} {i = i} h o = let P : List Token → Type 0 = λ z. ReadsInit room.pairs v i z in later_init_opens (omega arith) o.comma (subst P o.is h.reads) o.opens

pub later_leads_open : {room : Room} {at n : ℕ} {v : Init} {t : Token} {i j k r : List Token} → i ≡ t ∷ j → Is COMMA t → HasInit room v j k → OpensInitMore at room.pairs n k r → OpensInitMore at room.pairs n i r
later_leads_open q c h o = record { token = _; after = _; is = q; comma = c; opens = init_leads_open h o }

pub later_param_leads_open : {at p n : ℕ} {x : ParamTree} (v : Bool) {t : Token} {i j k r : List Token} → i ≡ t ∷ j → Is COMMA t → IsParam p x v j k → OpensEachMore at p n k r → OpensEachMore at p n i r
later_param_leads_open v q c h o = record { token = _; after = _; is = q; comma = c; opens = param_leads_open v h o }

-- a size or parameters at the limit
pub mark_opens :
    {at deepest p n begins : ℕ} (d : Depth) {left : Declarator} (j : List Token)
    → IsAt LEFT_BRACKET j ⊎ IsAt LEFT_PARENTHESIS j → n ≤ d.height → d.height ≤ n → at ≡ deepest → IsPlace begins d deepest → (d.height ≡ 0) ⊎ InDeclarator d.deepest d.height left
    → OpensPart begins left at p n j j
mark_opens {deepest = deepest} {p} {n} {begins} d {left} j c l u q w h = subst (λ z. OpensPart begins left z p n j j) (sym q) (go c)
  where
    go : IsAt LEFT_BRACKET j ⊎ IsAt LEFT_PARENTHESIS j → OpensPart begins left deepest p n j j
    go (inl b) = bracket_opens {d = d} j b l u w h
    go (inr b) = parenthesis_opens {d = d} j b l u w h
