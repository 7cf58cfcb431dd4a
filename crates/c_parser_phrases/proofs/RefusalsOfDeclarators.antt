-- Where specifiers, type names, declarators and initialisers are refused.
use Rattle.std.proofs.Common.{◌≡◌, ◌≤◌, ◌<◌, ℕ, List, [], ◌∷◌, drop, length, length-append, refl, sym, ap, ◌∙◌, subst, arith, ◌⊎◌, inl, inr}
use Rattle.c_lexer.specs.declared.token.Token.{Token}
use Rattle.c_lexer.specs.declared.keyword.TheConstants.{CONST}
use Rattle.c_lexer.specs.declared.punctuator.TheConstants.{LEFT_BRACKET, RIGHT_BRACKET, LEFT_PARENTHESIS, RIGHT_PARENTHESIS, LEFT_BRACE, RIGHT_BRACE, ASTERISK, COMMA}
use Rattle.std.proofs.Common.{Bool, true, false, Option, Some, None, Global}
use Rattle.std.specs.Prelude.{Box}
use Rattle.std.specs.Option.{is_some}
use Rattle.c_syntax.specs.declared.tree.Declarator.{Declarator as DeclaratorTree}
use Rattle.c_syntax.specs.declared.tree.Param.{Param as ParamTree}
use Rattle.c_syntax.specs.Writes.{declarator_behind}
use Rattle.c_syntax.specs.Tree.{Ident, Spec, Expr, Declarator, nothing, named, Init}
use Rattle.c_syntax.specs.Tokens.{Is, IsKeyword, place}
use Rattle.c_syntax.specs.Specifiers.{Consts}
use Rattle.c_syntax.specs.Grammar.{conditional_level, assignment_level, Reads, HasName, IsThere, Declares, a_pointer, a_direct, ReadsCore, a_declared, declarator_in_parentheses, no_core, Lengthens, no_more, an_array, a_function}
use Rattle.c_syntax.specs.Limits.{height_of_declarator}
use Rattle.c_syntax_printing.specs.Ranks.{Stops}
use Rattle.c_syntax_printing.specs.Starts.{start}
use Rattle.c_syntax_printing.proofs.Ends.{started}
use Rattle.c_syntax_printing.proofs.FrontLemmas.{front_of_all}
use Rattle.c_syntax_printing.proofs.FrameGrammar.{lengthens_on, size_on, params_on}
use Rattle.c_syntax_printing.specs.Fails.{Fails, then, One, one, NotAt}
use Rattle.c_syntax_printing.specs.Phrases.{Bound, any, within, inner, fits_any, ASpec, ADeclarator, AnExpr, AnInit}
use Rattle.c_syntax_printing.specs.Operands.{enclosed, AType, IsSomeName, Past}
use Rattle.c_syntax_printing.specs.Specs.{are_consts}
use Rattle.c_syntax_printing.specs.Declarators.{Carries, ADeclared, SomeLengthens, NoCore, SizeClosed, AParam, ParamsClosed, EachClosed, Lengthened}
use Rattle.c_syntax_printing.proofs.Combine.{meets_itself, fails_at, fails_first, fails_later, fails_missing, missing}
use Rattle.c_syntax_printing.specs.Initialisers.{InList, ListEnd}
use Rattle.c_syntax_printing.proofs.Fixed.{expr_fixes, spec_fixes}
use Rattle.c_syntax_printing.proofs.InitFails.{init_value_fails, no_init_left, init_list_fails, first_init_fails, first_init_leads, list_unclosed, list_goes_on}
use Rattle.c_syntax_printing.proofs.SpecFails.{consts_fixes}
use Rattle.c_syntax_printing.proofs.DeclaratorFails.{declared_fixes, declarator_fails_as, carries_name, carries_no_name, pointer_fails, no_declarator_left, named_fails, nameless_fails, declarator_tail_fails, nothing_inside, no_pair_for_declarator, no_pair_for_name, lengthened_fails, lengthened_too_high, bare_fails, bare_later_fails, bare_too_high, lengthens_wrong, array_fails, size_fails, function_fails, first_param_leads, next_param_fails, next_param_leads, params_unclosed, type_fails}
use Rattle.c_parser_phrases.specs.declared.room.Room.{Room}
use Rattle.c_parser_phrases.specs.declared.form.Form.{Form}
use Rattle.c_parser_phrases.specs.declared.form.Form.TheVariants.{Named, Abstract, Either}
use Rattle.c_parser_phrases.specs.Looking.{OpensInside, BeginsNoDeclarator}
use Rattle.c_parser_phrases.specs.Standing.{IsAt}
use Rattle.c_parser_phrases.specs.Phrases.{HasSpec, HasInit}
use Rattle.c_parser_phrases.specs.declared.error.PhraseError.{PhraseError}
use Rattle.c_parser_phrases.specs.declared.error.PhraseError.TheVariants.{Syntax, Nesting}
use Rattle.c_parser_phrases.specs.Lists.{IsUnclosed}
use Rattle.c_parser_phrases.specs.Reading.{Refused, Lacks, OpensInits, Suits, LacksPast, IsCored, IsParam, LeadsParams}
use Rattle.c_parser_phrases.proofs.Exits.{taken_at}
use Rattle.c_parser_phrases.proofs.Declaring.{IsDeclared}
use Rattle.c_parser_phrases.proofs.Raising.{not_at, ends_at}
use Rattle.c_parser_phrases.proofs.Refusals.{past_bare, past_after, past_front}
use Rattle.c_parser_phrases.proofs.Starts.{opening_there, kind_of_name}
use Rattle.c_syntax_printing.proofs.DeclOpens.{lengthens_there}

-- what was read, whatever its depth

pub a_spec : {s : Spec} {i j : List Token} → HasSpec s i j → ASpec i j
a_spec h = record { tree = _; reads = h.reads; ends = h.ends }

pub declared_any : {d : ℕ} (form : Form) {e : Declarator} {i j : List Token} → IsDeclared d form e i j → ADeclared (Suits form) any i j
declared_any form s = record { depth = _; tree = _; reads = s.0; suits = s.2; ends = s.1; fits = fits_any }

pub a_param : {d : ℕ} {p : ParamTree} (v : Bool) {i j : List Token} → IsParam d p v i j → AParam any i j
a_param v p = then (record { tree = _; reads = p.specified; ends = p.spec_ends }) (record { depth = _; tree = _; reads = p.declared; suits = tt; ends = p.ends; fits = fits_any })

pub carries : (form : Form) → Carries (Suits form)
carries Named = record { of_pointer = λ at e n. n; of_array = λ at e s n. n; of_function = λ at e ps n. n }
carries Abstract = record { of_pointer = λ at e n. n; of_array = λ at e s n. n; of_function = λ at e ps n. n }
carries Either = record { of_pointer = λ at e n. n; of_array = λ at e s n. n; of_function = λ at e ps n. n }

-- type names and parameters

pub type_spec_fails : {i : List Token} (b : Bound) (r : List Token) → Fails ASpec i r → Fails (AType b) i r
type_spec_fails b r f = type_fails (fails_first f)

pub type_declarator_fails : {s : Spec} {i j : List Token} → HasSpec s i j → (b : Bound) (r : List Token) → Fails (ADeclared (Suits Abstract) b) j r → Fails (AType b) i r
type_declarator_fails s b r f = type_fails (fails_later spec_fixes (a_spec s) f)

pub param_spec_fails : {i : List Token} (b : Bound) (r : List Token) → Fails ASpec i r → Fails (AParam b) i r
param_spec_fails b r f = fails_first f

pub param_declarator_fails : {s : Spec} {i j : List Token} → HasSpec s i j → (b : Bound) (r : List Token) → Fails (ADeclared (Suits Either) b) j r → Fails (AParam b) i r
param_declarator_fails s b r f = fails_later spec_fixes (a_spec s) f

-- no node is left
no_declarators : {pairs nodes : ℕ} (N : Declarator → Type 0) (i : List Token) → 2 ≤ start i → nodes ≡ 0 → Fails (ADeclared N (within pairs nodes)) i i
no_declarators {pairs} {nodes} N i l q = subst (λ n. Fails (ADeclared N (within pairs n)) i i) (sym q) (no_declarator_left i l)

starts_at : (i : List Token) → IsAt ASTERISK i → start i ≡ 2
starts_at [] h = absurd h
starts_at (t ∷ i) h = started h

-- pointers

pub pointer_deep : {pairs nodes : ℕ} (form : Form) {i : List Token} → IsAt ASTERISK i → nodes ≡ 0 → Fails (ADeclared (Suits form) (within pairs nodes)) i i
pointer_deep form {i} h q = no_declarators (Suits form) i (omega (arith, starts_at i h)) q

pub pointer_inner_fails : (form : Form) {i k m : List Token} → IsAt ASTERISK i → k ≡ drop 1 i → Consts k m → NotAt (IsKeyword CONST) m → (b : Bound) (r : List Token) → Fails (ADeclared (Suits form) (inner b)) m r → Fails (ADeclared (Suits form) b) i r
pointer_inner_fails form {i} {k} h e c n b r f =
    let t = taken_at ASTERISK i k h e in fails_at t.2 (pointer_fails (carries form) t.1 (fails_later consts_fixes (are_consts c n) f))

-- names, declarators in parentheses, and nothing

pub name_wrong : (form : Form) {i : List Token} → form ≡ Abstract → start i ≡ 5 → (b : Bound) → Fails (ADeclared (Suits form) b) i i
name_wrong form {i} e q b = subst (λ z. Fails (ADeclared (Suits z) b) i i) (sym e) (named_fails i carries_no_name (λ at x n. n) q)

pub name_deep : {pairs nodes : ℕ} (form : Form) {i : List Token} → start i ≡ 5 → nodes ≡ 0 → Fails (ADeclared (Suits form) (within pairs nodes)) i i
name_deep form {i} q z = no_declarators (Suits form) i (omega (arith, q)) z

pub no_name_wrong : (form : Form) {i : List Token} → form ≡ Named → (start i ≡ 2 → ⊥) → (IsAt LEFT_PARENTHESIS i → ⊥) → (start i ≡ 5 → ⊥) → (b : Bound) → Fails (ADeclared (Suits form) b) i i
no_name_wrong form {i} e f g h b = subst (λ z. Fails (ADeclared (Suits z) b) i i) (sym e) (nameless_fails i carries_name (λ n. n) f (λ q. g (opening_there i q)) h)

-- where a name must stand, a parenthesis opens no parameters
pub no_opening : (form : Form) {i : List Token} → OpensInside form false i → form ≡ Named → IsAt LEFT_PARENTHESIS i → ⊥
no_opening form (inl f) e h = f h
no_opening form (inr f) e h = f.0 e

-- a name that stands there is read
pub name_stands : {i r : List Token} → start i ≡ 5 → Fails (One IsSomeName) i r → ⊥
name_stands {i = []} q f = omega (arith, q)
name_stands {i = t ∷ j} {r = r} q f =
    let k = kind_of_name t.kind q in
    let P : List Token → Type 0 = λ z. One IsSomeName z j in
    f.none r (meets_itself r) j (subst P f.is (one (record { ident = record { name = k.0; at = t.from }; names = record { name = record { kind = k.1 }; at = refl } })))

pub named_there : {e : Declarator} {at : ℕ} {x : Ident} → e ≡ named at x → IsThere e
named_there q = subst IsThere (sym q) tt

-- no declarator was read
pub none_is : (tree : Option (Box DeclaratorTree Global)) → is_some tree ≡ false → declarator_behind tree ≡ nothing
none_is None e = refl
none_is (Some b) e = absurd (let q : true ≡ false = e in cc)

pub opens_at : {form : Form} {i : List Token} → OpensInside form true i → IsAt LEFT_PARENTHESIS i
opens_at o = subst (λ z. IsAt LEFT_PARENTHESIS z) (sym o.2) o.3

-- nothing stands there
pub bare_core : (form : Form) {i : List Token} {e : Declarator} → e ≡ nothing → (start i ≡ 2 → ⊥) → (start i ≡ 5 → ⊥) → OpensInside form false i → IsCored e i i
bare_core form {i} q f g h = inr (record { empty = q; stays = refl; bare = record { no_star = f; no_name = g; no_opening = λ t j e o. past h e o } })
  where
    past : {t : Token} {j : List Token} → OpensInside form false i → i ≡ t ∷ j → Is LEFT_PARENTHESIS t → 7 ≤ start j
    past (inl f) e o = absurd (f (subst (λ z. IsAt LEFT_PARENTHESIS z) (sym e) o))
    past (inr f) e o = f.1 _ _ e

suits_no_name : (form : Form) → form ≡ Named → Suits form nothing → ⊥
suits_no_name Named e n = n
suits_no_name Abstract e n = let q : Abstract ≡ Named = e in cc
suits_no_name Either e n = let q : Either ≡ Named = e in cc

inside_of : (form : Form) (k : List Token) → (start k ≤ 6) ⊎ (form ≡ Named) → (start k ≤ 6) ⊎ (Suits form nothing → ⊥)
inside_of form k (inl l) = inl l
inside_of form k (inr e) = inr (suits_no_name form e)

-- the parenthesis was taken
pub opening_taken : (form : Form) {i k : List Token} → OpensInside form true i → k ≡ drop 1 i → (t : Token) × Is LEFT_PARENTHESIS t × (i ≡ t ∷ k) × ((start k ≤ 6) ⊎ (Suits form nothing → ⊥))
opening_taken form {i} {k} o e = (o.0, o.3, o.2 ∙ ap (λ z. o.0 ∷ z) (sym s), inside_of form k (subst (λ z. (start z ≤ 6) ⊎ (form ≡ Named)) (sym s) o.4))
  where
    s : k ≡ o.1
    s = e ∙ ap (drop 1) o.2

pub pair_deep_named : {pairs nodes : ℕ} (form : Form) {i : List Token} → OpensInside form true i → form ≡ Named → pairs ≡ 0 → Fails (ADeclared (Suits form) (within pairs nodes)) i i
pair_deep_named {pairs} {nodes} form {i} o e q =
    let f = subst (λ n. Fails (ADeclared (Suits form) (within n nodes)) (o.0 ∷ o.1) (o.0 ∷ o.1)) (sym q) (no_pair_for_name (carries form) (suits_no_name form e) o.3) in
    ends_at o.2 (fails_at o.2 f)

pub pair_deep_declarator : {pairs nodes : ℕ} (form : Form) {i k : List Token} → OpensInside form true i → k ≡ drop 1 i → (form ≡ Named → ⊥) → pairs ≡ 0 → Fails (ADeclared (Suits form) (within pairs nodes)) i k
pair_deep_declarator {pairs} {nodes} form {i} {k} o e n q =
    let t = opening_taken form o e in
    let l : start k ≤ 6 = low o.4 in
    fails_at t.2 (subst (λ z. Fails (ADeclared (Suits form) (within z nodes)) (t.0 ∷ k) k) (sym q) (no_pair_for_declarator (carries form) t.1 l))
  where
    s : k ≡ o.1
    s = e ∙ ap (drop 1) o.2

    low : (start o.1 ≤ 6) ⊎ (form ≡ Named) → start k ≤ 6
    low (inl l) = omega (arith, l, ap start s)
    low (inr z) = absurd (n z)

-- no declarator begins with a constant
constant_wrong : {N : Declarator → Type 0} (b : Bound) (i : List Token) → start i ≡ 3 → Fails (ADeclared N b) i i
constant_wrong b i q =
    bare_fails
    (record { no_star = λ h. omega (arith, q, h); no_name = λ h. omega (arith, q, h); no_opening = λ t j e o. absurd (omega (arith, q, ap start e, started o)) })
    (record { behind = λ t j e o. absurd (omega (arith, q, ap start e, started o)) })
    (lengthens_wrong i (omega (arith, q)) (λ t j e o. omega (arith, q, ap start e, started o)) (λ t j e o. omega (arith, q, ap start e, started o)))

pub pair_wrong_declarator : (form : Form) {i k : List Token} → OpensInside form true i → k ≡ drop 1 i → BeginsNoDeclarator form k → (b : Bound) → Fails (ADeclared (Suits form) b) i k
pair_wrong_declarator form {i} {k} o e w b = let t = opening_taken form o e in fails_at t.2 (inside t.1 t.3 w)
  where
    inside : {t : Token} → Is LEFT_PARENTHESIS t → (start k ≤ 6) ⊎ (Suits form nothing → ⊥) → BeginsNoDeclarator form k → Fails (ADeclared (Suits form) b) (t ∷ k) k
    inside h u (inl l) = nothing_inside h l
    inside h u (inr (inl q)) = declarator_tail_fails (carries form) h u (fails_first (constant_wrong (enclosed b) k q))
    inside h u (inr (inr q)) = declarator_tail_fails (carries form) h u (fails_first (name_wrong form q.1 q.0 (enclosed b)))

pub inside_declarator_fails : (form : Form) {i k : List Token} → OpensInside form true i → k ≡ drop 1 i → (b : Bound) (r : List Token) → Fails (ADeclared (Suits form) (enclosed b)) k r → Fails (ADeclared (Suits form) b) i r
inside_declarator_fails form o e b r f = let t = opening_taken form o e in fails_at t.2 (declarator_tail_fails (carries form) t.1 t.3 (fails_first f))

-- what is made of something is something
not_there : {e : Declarator} → e ≡ nothing → IsThere e → ⊥
not_there q h = subst IsThere q h

core_stays : {d : ℕ} {e : Declarator} {i j : List Token} → e ≡ nothing → ReadsCore d e i j → i ≡ j
core_stays q (a_declared n) = absurd (not_there q tt)
core_stays q (declarator_in_parentheses o r h c) = absurd (not_there q h)
core_stays q no_core = refl

nothing_is : {d : ℕ} {e : Declarator} {i j : List Token} → e ≡ nothing → Declares d e i j → i ≡ j
nothing_is q (a_pointer o c r) = absurd (not_there q tt)
nothing_is q (a_direct p c no_more) = core_stays q c
nothing_is q (a_direct p c (an_array o s z l)) = absurd (not_there q (lengthens_there l tt))
nothing_is q (a_direct p c (a_function o s z l)) = absurd (not_there q (lengthens_there l tt))

pub nothing_wrong : (form : Form) {d : ℕ} {e : Declarator} {i k m : List Token} → OpensInside form true i → k ≡ drop 1 i → IsDeclared d form e k m → e ≡ nothing → (b : Bound) → Fails (ADeclared (Suits form) b) i m
nothing_wrong form {i = i} {k = k} o e s q b =
    let t = opening_taken form o e in
    let z = nothing_is q s.0 in ends_at (sym z) (fails_at t.2 (nothing_inside t.1 (omega (arith, s.1, ap start z))))

pub declarator_unclosed : (form : Form) {d : ℕ} {e : Declarator} {i k m : List Token} → OpensInside form true i → k ≡ drop 1 i → IsDeclared d form e k m → (IsAt RIGHT_PARENTHESIS m → ⊥) → (b : Bound) → Fails (ADeclared (Suits form) b) i m
declarator_unclosed form {m = m} o e s n b =
    let t = opening_taken form o e in
    fails_at t.2 (declarator_tail_fails (carries form) t.1 t.3 (fails_later (declared_fixes (Suits form) any (enclosed b)) (declared_any form s) (fails_missing m (not_at n))))

-- array sizes and parameters

-- nothing was read of them, or something
pub unmoved : {d at : ℕ} {a e : Declarator} {i j : List Token} → Lengthens d at a e i j → ((e ≡ a) × (j ≡ i)) ⊎ (length j < length i)
unmoved no_more = inl (refl, refl)
unmoved (an_array {u = u} {j = j} {k = k} o s c l) = let f = front_of_all (size_on s) in let g = front_of_all (lengthens_on l) in inr (omega (arith, ap length f.is, ap length g.is, length-append f.front (u ∷ j), length-append g.front k))
unmoved (a_function {u = u} {j = j} {k = k} o s c l) = let f = front_of_all (params_on s) in let g = front_of_all (lengthens_on l) in inr (omega (arith, ap length f.is, ap length g.is, length-append f.front (u ∷ j), length-append g.front k))

past_lengthens : {d at : ℕ} {a e : Declarator} {i j : List Token} → Lengthens d at a e i j → length j < length i → Past i j
past_lengthens l h = let f = front_of_all (lengthens_on l) in past_front f.front [] f.is h refl

-- what was read of a declarator so far
pub record Read (d at : ℕ) (core left : Declarator) (i h j : List Token) : Type 0 where
  pub begins : at ≡ place i
  pub core_reads : ReadsCore d core i h
  pub cored : IsCored core i h
  pub lengthens : Lengthens d at core left h j

pub read_so_far : {d at : ℕ} {core left : Declarator} {i h j : List Token} → at ≡ place i → ReadsCore d core i h → IsCored core i h → ((e : Declarator) (k : List Token) → Lengthens d at left e j k → Lengthens d at core e h k) → Read d at core left i h j
read_so_far {left = left} {j = j} p r c l = record { begins = p; core_reads = r; cored = c; lengthens = l left j no_more }

whole : {d at : ℕ} {core left : Declarator} {i h j : List Token} → IsThere core → Read d at core left i h j → Lengthened d left i j
whole t r = record { at = _; middle = _; after = _; begins = r.begins; core = r.core_reads; stands = t; lengthens = r.lengthens }

pub bare_lengthens : {d at : ℕ} {core left : Declarator} {i h j : List Token} → core ≡ nothing → h ≡ i → Lengthens d at core left h j → Lengthens d at nothing left i j
bare_lengthens {d} {at} {left = left} {h = h} {j = j} p q l =
    let P : Declarator → Type 0 = λ z. Lengthens d at z left h j in
    let Q : List Token → Type 0 = λ z. Lengthens d at nothing left z j in subst Q q (subst P p l)

pub part_fails : (form : Form) {d at : ℕ} {core left : Declarator} {i h j : List Token} → Read d at core left i h j → (b : Bound) (r : List Token) → LacksPast SomeLengthens b j r → Fails (ADeclared (Suits form) b) i r
part_fails form {d} {at} {core = core} {left = left} {i = i} {h = h} {j = j} x b r f = go x.cored
  where
    begun : {i : List Token} → NoCore i → at ≡ place i → ((left ≡ nothing) × (j ≡ i)) ⊎ (length j < length i) → Lengthens d at nothing left i j → Fails (ADeclared (Suits form) b) i r
    begun {i} n p (inl q) l = bare_fails n (subst (λ z. Past z r) q.1 f.past) (fails_at (sym q.1) f.fails)
    begun n p (inr q) l = bare_later_fails n (past_lengthens l q) (record { at = at; begins = p; lengthens = l }) f.fails

    go : IsCored core i h → Fails (ADeclared (Suits form) b) i r
    go (inl t) = lengthened_fails (whole t x) f.fails
    go (inr n) = let l = bare_lengthens n.empty n.stays x.lengthens in begun n.bare x.begins (unmoved l) l

pub part_high : {pairs nodes : ℕ} (form : Form) {d at h : ℕ} {core left : Declarator} {i g j : List Token} → Read d at core left i g j → 2 ≤ start j → nodes ≤ h → h ≡ height_of_declarator left → Fails (ADeclared (Suits form) (within pairs nodes)) i j
part_high {pairs} {nodes} form {d} {at} {core = core} {left = left} {i = i} {g = g} {j = j} x l n q = go x.cored
  where
    begun : {i : List Token} → NoCore i → at ≡ place i → ((left ≡ nothing) × (j ≡ i)) ⊎ (length j < length i) → Lengthens d at nothing left i j → Fails (ADeclared (Suits form) (within pairs nodes)) i j
    begun {i} c p (inl e) w = ends_at e.1 (no_declarators (Suits form) i (omega (arith, l, ap start e.1)) (omega (arith, n, q, ap height_of_declarator e.0)))
    begun c p (inr e) w = bare_too_high c (past_lengthens w e) (record { at = at; begins = p; lengthens = w }) l (omega (arith, n, q))

    go : IsCored core i g → Fails (ADeclared (Suits form) (within pairs nodes)) i j
    go (inl t) = lengthened_too_high (whole t x) l (omega (arith, n, q))
    go (inr c) = let w = bare_lengthens c.empty c.stays x.lengthens in begun c.bare x.begins (unmoved w) w

pub neither : {i : List Token} → 2 ≤ start i → (IsAt LEFT_BRACKET i → ⊥) → (IsAt LEFT_PARENTHESIS i → ⊥) → (b : Bound) → LacksPast SomeLengthens b i i
neither {i} l f g b = record { fails = lengthens_wrong i l (not_at f) (not_at g); past = past_bare g }

pub size_part_fails : {t : Token} {i j : List Token} → i ≡ t ∷ j → Is LEFT_BRACKET t → (b : Bound) (r : List Token) → Fails (SizeClosed (inner b)) j r → LacksPast SomeLengthens b i r
size_part_fails q h b r f = record { fails = fails_at q (array_fails h f); past = past_after f.front q f.is }

pub params_part_fails : {t : Token} {i j : List Token} → i ≡ t ∷ j → Is LEFT_PARENTHESIS t → (b : Bound) (r : List Token) → Fails (ParamsClosed (inner b)) j r → LacksPast SomeLengthens b i r
params_part_fails q h b r f = record { fails = fails_at q (function_fails h f); past = past_after f.front q f.is }

-- the size of an array

pub size_expression_fails : {i : List Token} → (IsAt RIGHT_BRACKET i → ⊥) → (b : Bound) (r : List Token) → Fails (AnExpr b conditional_level) i r → Fails (SizeClosed b) i r
size_expression_fails n b r f = size_fails (not_at n) (fails_first f)

pub size_unclosed : {d : ℕ} {e : Expr} {i j : List Token} → (IsAt RIGHT_BRACKET i → ⊥) → Reads d conditional_level e i j × Stops conditional_level j → (IsAt RIGHT_BRACKET j → ⊥) → (b : Bound) → Fails (SizeClosed b) i j
size_unclosed {j = j} n s f b =
    size_fails (not_at n) (fails_later (expr_fixes any b conditional_level) (record { depth = _; tree = _; reads = s.0; stops = s.1; fits = fits_any }) (missing j (not_at f)))

-- parameters

pub param_leads : {d : ℕ} {p : ParamTree} (v : Bool) {i j : List Token} → IsParam d p v i j → (b : Bound) (r : List Token) → Fails (EachClosed b) j r → Fails (ParamsClosed b) i r
param_leads v p b r f = first_param_leads (a_param v p) f

pub later_param_fails : {t : Token} {i j : List Token} → i ≡ t ∷ j → Is COMMA t → (b : Bound) (r : List Token) → Fails (AParam b) j r → Fails (EachClosed b) i r
later_param_fails q c b r f = fails_at q (next_param_fails c f)

pub later_param_leads : {d : ℕ} {p : ParamTree} (v : Bool) {t : Token} {i j k : List Token} → i ≡ t ∷ j → Is COMMA t → IsParam d p v j k → (b : Bound) (r : List Token) → Fails (EachClosed b) k r → Fails (EachClosed b) i r
later_param_leads v q c p b r f = fails_at q (next_param_leads c (a_param v p) f)

pub params_not_closed : {i j : List Token} → LeadsParams i j → (IsAt RIGHT_PARENTHESIS j → ⊥) → (b : Bound) → Fails (ParamsClosed b) i j
params_not_closed {j = j} l n b = l.leads b j (params_unclosed j (not_at l.no_comma) (not_at n))

-- what a reader of declarators with a name hands out
pub declarator_as : {i : List Token} (b : Bound) (r : List Token) → Fails (ADeclared (Suits Named) b) i r → Fails (ADeclarator b) i r
declarator_as b r f = declarator_fails_as f

-- initialisers (6.7.8)

pub init_deep : {pairs nodes : ℕ} (i : List Token) → nodes ≡ 0 → Fails (AnInit (within pairs nodes)) i i
init_deep {pairs} {nodes} i q = subst (λ n. Fails (AnInit (within pairs n)) i i) (sym q) (no_init_left i)

pub value_init_fails : {i : List Token} → (IsAt LEFT_BRACE i → ⊥) → (b : Bound) (r : List Token) → Fails (AnExpr b assignment_level) i r → Fails (AnInit b) i r
value_init_fails n b r f = init_value_fails (not_at n) f

pub list_fails : {i k : List Token} → IsAt LEFT_BRACE i → k ≡ drop 1 i → (b : Bound) (r : List Token) → Fails (InList (inner b)) k r → Fails (AnInit b) i r
list_fails {i} {k} h e b r f = let t = taken_at LEFT_BRACE i k h e in fails_at t.2 (init_list_fails t.1 f)

pub an_init : {room : Room} {v : Init} {i j : List Token} → HasInit room v i j → AnInit any i j
an_init h = record { depth = _; tree = _; reads = h.reads; stops = h.stops; fits = fits_any }

pub init_leads : {room : Room} {v : Init} {i j : List Token} → HasInit room v i j → (b : Bound) (r : List Token) → Fails (ListEnd b) j r → Fails (InList b) i r
init_leads h b r f = first_init_leads (an_init h) f

pub later_init_fails : {t : Token} {i j : List Token} → i ≡ t ∷ j → Is COMMA t → (IsAt RIGHT_BRACE j → ⊥) → (b : Bound) (r : List Token) → Fails (AnInit b) j r → Fails (ListEnd b) i r
later_init_fails q c n b r f = fails_at q (list_goes_on c (not_at n) (first_init_fails f))

pub later_init_leads : {room : Room} {v : Init} {t : Token} {i j k : List Token} → i ≡ t ∷ j → Is COMMA t → (IsAt RIGHT_BRACE j → ⊥) → HasInit room v j k → (b : Bound) (r : List Token) → Fails (ListEnd b) k r → Fails (ListEnd b) i r
later_init_leads q c n h b r f = fails_at q (list_goes_on c (not_at n) (first_init_leads (an_init h) f))

pub list_wrong : {i j : List Token} → (IsAt COMMA i → ⊥) × (IsAt RIGHT_BRACE i → ⊥) × (j ≡ i) → (b : Bound) → Fails (ListEnd b) i j
list_wrong {i} w b = ends_at w.2 (list_unclosed i (not_at w.0) (not_at w.1))

-- neither a comma nor a brace stands there
pub unclosed : {i j : List Token} → (IsAt COMMA i → ⊥) → (IsAt RIGHT_BRACE i → ⊥) → j ≡ i → IsUnclosed Syntax i j
unclosed f g q = record { wrong = λ e. (f, g, q); deep = λ at e. let p : Syntax ≡ Nesting at = e in cc }

pub list_refused : {room : Room} {e : PhraseError} {i j k : List Token} → ((b : Bound) (r : List Token) → Fails (ListEnd b) j r → Fails (InList b) i r) → IsUnclosed e j k → Refused (Lacks InList) OpensInits room e i k
list_refused f h = record { wrong = λ q. f any _ (list_wrong (h.wrong q) any); deep = λ at q. absurd (h.deep at q) }

-- a declarator with a name was read
pub none_named : {tree : Option (Box DeclaratorTree Global)} → tree ≡ None → HasName (declarator_behind tree) → ⊥
none_named q h = subst (λ z. HasName (declarator_behind z)) q h
