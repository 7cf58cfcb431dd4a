-- Where structs, enums, declarations and functions at file scope stop, and units.
use Rattle.std.proofs.Common.{◌≡◌, ◌≤◌, ◌<◌, ℕ, false, List, [], ◌∷◌, Result, Ok, Err, ◌⊎◌, inl, inr, sym, ap, ◌∙◌, subst, drop, length, arith}
use Rattle.std.specs.Bool.{◌==◌}
use Rattle.std.proofs.lemmas.Bool.{cases_eq}
use Rattle.c_lexer.specs.declared.token.Token.{Token}
use Rattle.c_lexer.specs.declared.token.TokenKind.{TokenKind}
use Rattle.c_lexer.specs.declared.token.TokenKind.TheVariants.{Keyword}
use Rattle.c_lexer.specs.declared.punctuator.TheConstants.{ASSIGN, COMMA, LEFT_BRACE, RIGHT_BRACE, SEMICOLON}
use Rattle.c_lexer.specs.declared.keyword.TheConstants.{ENUM, EXTERN, STATIC, STRUCT}
use Rattle.c_syntax.specs.declared.tree.Ident.{Ident as Named}
use Rattle.c_syntax.specs.declared.tree.Declarator.{Declarator as DeclaratorTree}
use Rattle.c_syntax.specs.Tree.{Storage, Spec, Expr, Declarator, Item, Tag}
use Rattle.c_syntax.specs.Tokens.{Is, IsKeyword}
use Rattle.c_syntax.specs.Specifiers.{ReadsStorage, no_storage_stands, static_stands, extern_stands}
use Rattle.c_syntax.specs.Grammar.{conditional_level}
use Rattle.c_syntax.specs.Statements.{ReadsTag, no_name, a_tag}
use Rattle.c_syntax_printing.specs.Starts.{start}
use Rattle.c_syntax_printing.proofs.Ends.{started_word}
use Rattle.c_parser_phrases.specs.declared.room.Room.{Room}
use Rattle.c_parser_phrases.specs.declared.error.PhraseError.{PhraseError}
use Rattle.c_parser_phrases.specs.declared.error.PhraseError.TheVariants.{OutOfMemory, Syntax, Nesting}
use Rattle.c_parser_phrases.specs.Phrases.{HasRead, HasSpec, HasDeclarator}
use Rattle.c_parser_phrases.specs.Standing.{IsAt, IsAtKeyword, TookName}
use Rattle.c_parser_phrases.specs.Refusing.{bound_of, Stops}
use Rattle.c_syntax_printing.specs.Fails.{Fails, then, One, one, NotAt}
use Rattle.c_syntax_printing.specs.Phrases.{Bound, any, Fits, fits_any, fits_within, inner, ADeclarator, AnExpr, InBlock, Punctuator}
use Rattle.c_syntax_printing.specs.Operands.{IsSomeName}
use Rattle.c_syntax_printing.specs.Declarations.{PartsTail}
use Rattle.c_syntax_printing.specs.Units.{AUnit}
use Rattle.c_syntax_printing.specs.Items.{DeclaratorsClosed, declarators_closed, DeclaratorsEnd, AMember, InStruct, MembersRest, InEnum, EnumEnd, ValueRest, OtherRest, AnOther, AnItem, UnitRest, NoStruct, NoEnum}
use Rattle.c_syntax_printing.proofs.Combine.{meets_itself, fails_at, fails_first, fails_later, fails_under, fails_further, missing}
use Rattle.c_syntax_printing.proofs.Fixed.{expr_fixes, spec_fixes, declarator_fixes}
use Rattle.c_syntax_printing.proofs.ItemFails.{first_declarator_leads, declarators_unclosed, next_declarator_fails, more_members_fail, members_close, struct_fails, struct_nameless}
use Rattle.c_syntax_printing.proofs.ItemFails.{enum_nameless, enumerator_fails, enumerator_value_fails, no_value_fails, enum_unclosed, enum_closes, enum_closes_after_comma, enum_goes_on, enum_tagless, bare_enum_fails, tagged_enum_fails}
use Rattle.c_syntax_printing.proofs.ItemFails.{storage_fixes, other_fails, other_struct_fails, other_enum_fails, body_fails, no_body_fails, item_leads, more_items_fail}
use Rattle.c_parser.specs.Refusing.{AfterStorage}
use Rattle.c_parser.specs.Starting.{BeginsTagged, BeginsEnum, BeginsOther}
use Rattle.c_parser.specs.Parsed.{HasDeclarators, HasItem}
use Rattle.c_parser.proofs.Firsts.{not_at, not_at_word, no_storage_first}
use Rattle.c_parser.proofs.StmtStops.{an_expr}
use Rattle.c_parser.proofs.DeclStops.{a_spec, a_declarator}

-- names

-- where one token with the property fails, none stands first
not_one : {P : Token → Type 0} {j r : List Token} → Fails (One P) j r → NotAt P j
not_one {P} {r = r} f = λ t k q p. f.none r (meets_itself r) k (subst (λ z. One P z k) (sym q ∙ f.is) (one p))

nameless : {P : Token → Type 0} {A : List Token → List Token → Type 0} {i j r : List Token} → (NotAt P j → Fails A i j) → Fails (One P) j r → Fails A i r
nameless g f = fails_further f.front f.is (g (not_one f))

-- structs

pub third_at : {code : ℕ} {t u : Token} {i j k : List Token} → i ≡ t ∷ j → j ≡ u ∷ k → BeginsTagged code i → IsAt code k
third_at {code} {t} {u} {i} {j} {k} p q h = at_third (subst (λ z. BeginsTagged code z) (p ∙ ap (λ z. t ∷ z) q) h)
  where
    at_third : BeginsTagged code (t ∷ u ∷ k) → IsAt code k
    at_third b = b.third

pub struct_unnamed : (x : Bound) {t : Token} {i j r : List Token} → i ≡ t ∷ j → IsKeyword STRUCT t → Fails (One IsSomeName) j r → Fails (AnItem x) i r
struct_unnamed x {j = j} q w f = fails_at q (nameless (λ g. struct_nameless j w g) f)

pub struct_leads : (x : Bound) {n : Named} {t l : Token} {i j k m r : List Token} → i ≡ t ∷ j → IsKeyword STRUCT t → TookName n j k → k ≡ l ∷ m → Is LEFT_BRACE l → Fails (InStruct x) m r → Fails (AnItem x) i r
struct_leads x {t = t} p w n q h f = fails_at (p ∙ ap (λ z. t ∷ z) (n.stood ∙ ap (λ z. n.token ∷ z) q)) (struct_fails w h f)

pub no_ending : {i : List Token} → (IsAt SEMICOLON i → ⊥) → Fails (Punctuator SEMICOLON) i i
no_ending {i} f = missing i (not_at f)

-- members

pub declarators_of_member_fail : (x : Bound) {s : Spec} {i j r : List Token} → HasSpec s i j → Fails (DeclaratorsClosed x) j r → Fails (AMember x) i r
declarators_of_member_fail x s f = fails_later spec_fixes (a_spec s) f

pub a_member : {room : Room} {s : Spec} {xs : List DeclaratorTree} {i j k : List Token} → HasSpec s i j → HasDeclarators room xs j k → AMember any i k
a_member s d = then (a_spec s) (declarators_closed d.declarators.reads d.closes fits_any)

pub next_member_fails : (x : Bound) {i j r : List Token} → j ≡ i → (IsAt RIGHT_BRACE i → ⊥) → Fails (InStruct x) j r → Fails (MembersRest x) i r
next_member_fails x q n f = more_members_fail (not_at n) (fails_at (sym q) f)

pub members_closed : (x : Bound) {t : Token} {i j r : List Token} → i ≡ t ∷ j → Is RIGHT_BRACE t → Fails (Punctuator SEMICOLON) j r → Fails (MembersRest x) i r
members_closed x q h f = fails_at q (members_close h f)

-- declarators of a member

pub one_declarator_leads : (x : Bound) {room : Room} {e : Declarator} {i j r : List Token} → HasDeclarator room e i j → Fails (DeclaratorsEnd x) j r → Fails (DeclaratorsClosed x) i r
one_declarator_leads x d f = first_declarator_leads (a_declarator d) f

pub another_declarator_fails : (x : Bound) {t : Token} {i j k r : List Token} → j ≡ i → j ≡ t ∷ k → Is COMMA t → Fails (DeclaratorsClosed x) k r → Fails (DeclaratorsEnd x) i r
another_declarator_fails x p q h f = fails_at (sym p ∙ q) (next_declarator_fails h f)

pub no_declarators_end : (x : Bound) {i j : List Token} → j ≡ i → (IsAt SEMICOLON i → ⊥) → (IsAt COMMA j → ⊥) → Fails (DeclaratorsEnd x) i i
no_declarators_end x {i} q f g = declarators_unclosed i (not_at f) (not_at (λ h. g (subst (λ z. IsAt COMMA z) (sym q) h)))

-- enums

pub enum_untagged : (x : Bound) {t : Token} {j r : List Token} → IsKeyword ENUM t → (IsAt LEFT_BRACE j → ⊥) → Fails (One IsSomeName) j r → Fails (AnItem x) (t ∷ j) r
enum_untagged x {j = j} w n f = nameless (λ g. enum_tagless j w g (not_at n)) f

pub begins_from : {i j : List Token} → i ≡ j → BeginsEnum i → BeginsEnum j
begins_from q b = subst (λ z. BeginsEnum z) q b

-- where no brace stands first, it stands after the tag
pub brace_after_tag : {n : Named} {t : Token} {j k : List Token} → (IsAt LEFT_BRACE j → ⊥) → TookName n j k → BeginsEnum (t ∷ j) → IsAt LEFT_BRACE k
brace_after_tag {t = t} {j} {k} f n b = at_brace (subst (λ z. IsAt LEFT_BRACE z → ⊥) n.stood f) (subst (λ z. BeginsEnum (t ∷ z)) n.stood b)
  where
    which : {u : Token} → (IsAt LEFT_BRACE (u ∷ k) → ⊥) → IsAt LEFT_BRACE (u ∷ k) ⊎ IsAt LEFT_BRACE k → IsAt LEFT_BRACE k
    which f (inl h) = absurd (f h)
    which f (inr h) = h

    at_brace : {u : Token} → (IsAt LEFT_BRACE (u ∷ k) → ⊥) → BeginsEnum (t ∷ u ∷ k) → IsAt LEFT_BRACE k
    at_brace f b = which f b.brace

enum_leads_from : (x : Bound) {g : Tag} {t l : Token} {j k m r : List Token} → IsKeyword ENUM t → ReadsTag g j k → k ≡ l ∷ m → Is LEFT_BRACE l → Fails (InEnum x) m r → Fails (AnItem x) (t ∷ j) r
enum_leads_from x {t = t} w no_name q h f = fails_at (ap (λ z. t ∷ z) q) (bare_enum_fails w h f)
enum_leads_from x {t = t} w (a_tag {t = u} n) q h f = fails_at (ap (λ z. t ∷ u ∷ z) q) (tagged_enum_fails w (record { ident = _; names = n }) h f)

pub enum_leads : (x : Bound) {g : Tag} {t l : Token} {i j k m r : List Token} → i ≡ t ∷ j → IsKeyword ENUM t → ReadsTag g j k → k ≡ l ∷ m → Is LEFT_BRACE l → Fails (InEnum x) m r → Fails (AnItem x) i r
enum_leads x p w g q h f = fails_at p (enum_leads_from x w g q h f)

-- enumerators

pub enumerator_unnamed : (x : Bound) {i r : List Token} → Fails (One IsSomeName) i r → Fails (InEnum x) i r
enumerator_unnamed x {i} f = nameless (λ g. enum_nameless i g) f

pub enumerator_rest_fails : (x : Bound) {n : Named} {i j r : List Token} → TookName n i j → Fails (ValueRest x) j r → Fails (InEnum x) i r
enumerator_rest_fails x n f = fails_at n.stood (enumerator_fails f)

pub value_fails : (x : Bound) {t : Token} {i j r : List Token} → i ≡ t ∷ j → Is ASSIGN t → Fails (AnExpr x conditional_level) j r → Fails (ValueRest x) i r
value_fails x q h f = fails_at q (enumerator_value_fails h (fails_first f))

pub value_leads : (x : Bound) {room : Room} {e : Expr} {t : Token} {i j k r : List Token} → i ≡ t ∷ j → Is ASSIGN t → HasRead room conditional_level e j k → Fails (EnumEnd x) k r → Fails (ValueRest x) i r
value_leads x q h v f = fails_at q (enumerator_value_fails h (fails_later (expr_fixes any x conditional_level) (an_expr v) f))

pub no_value_leads : (x : Bound) {i j r : List Token} → j ≡ i → (IsAt ASSIGN i → ⊥) → Fails (EnumEnd x) j r → Fails (ValueRest x) i r
no_value_leads x q n f = no_value_fails (not_at n) (fails_at (sym q) f)

pub enum_closed : (x : Bound) {t : Token} {i j r : List Token} → i ≡ t ∷ j → Is RIGHT_BRACE t → Fails (Punctuator SEMICOLON) j r → Fails (EnumEnd x) i r
enum_closed x q h f = fails_at q (enum_closes h f)

pub enum_closed_after_comma : (x : Bound) {t u : Token} {i j k m r : List Token} → j ≡ i → j ≡ t ∷ k → Is COMMA t → k ≡ u ∷ m → Is RIGHT_BRACE u → Fails (Punctuator SEMICOLON) m r → Fails (EnumEnd x) i r
enum_closed_after_comma x {t = t} p q c s b f = fails_at (sym p ∙ q ∙ ap (λ z. t ∷ z) s) (enum_closes_after_comma c b f)

pub no_enum_end : (x : Bound) {i j : List Token} → j ≡ i → (IsAt RIGHT_BRACE i → ⊥) → (IsAt COMMA j → ⊥) → Fails (EnumEnd x) i i
no_enum_end x {i} q f g = enum_unclosed i (not_at f) (not_at (λ h. g (subst (λ z. IsAt COMMA z) (sym q) h)))

pub another_enumerator_fails : (x : Bound) {t : Token} {i j k m r : List Token} → j ≡ i → j ≡ t ∷ k → Is COMMA t → m ≡ k → (IsAt RIGHT_BRACE k → ⊥) → Fails (InEnum x) m r → Fails (EnumEnd x) i r
another_enumerator_fails x p q c s n f = fails_at (sym p ∙ q) (enum_goes_on c (not_at n) (fails_at (sym s) f))

-- declarations and functions

after_word : (x : Bound) {t : Token} {i j : List Token} → start (t ∷ i) ≡ 15 → AnOther x (t ∷ i) j → AfterStorage x i j
after_word x {t} {i} {j} q (then a rest) = at_storage a.reads a.ends rest
  where
    at_storage : {st : Storage} {m : List Token} → ReadsStorage st (t ∷ i) m → start m ≤ 14 → AfterStorage x m j → AfterStorage x i j
    at_storage no_storage_stands e w = absurd (omega (arith, q, e))
    at_storage (static_stands h) e w = w
    at_storage (extern_stands h) e w = w

pub static_leads : (x : Bound) {t : Token} {i j r : List Token} → i ≡ t ∷ j → IsKeyword STATIC t → Fails (AfterStorage x) j r → Fails (AnOther x) i r
static_leads x q w f = fails_at q (fails_under (λ k j a. after_word x (started_word w) a) f)

pub extern_leads : (x : Bound) {t : Token} {i j r : List Token} → i ≡ t ∷ j → IsKeyword EXTERN t → Fails (AfterStorage x) j r → Fails (AnOther x) i r
extern_leads x q w f = fails_at q (fails_under (λ k j a. after_word x (started_word w) a) f)

pub no_storage_leads : (x : Bound) {i j k r : List Token} → j ≡ i → k ≡ j → (IsAtKeyword STATIC i → ⊥) → (IsAtKeyword EXTERN j → ⊥) → Fails (AfterStorage x) k r → Fails (AnOther x) i r
no_storage_leads x {i} p q f g w =
    fails_later storage_fixes (record { storage = _; reads = no_storage_stands; ends = no_storage_first i f (λ h. g (subst (λ z. IsAtKeyword EXTERN z) (sym p) h)) })
    (fails_at (sym (q ∙ p)) w)

pub declarator_of_item_fails : (x : Bound) {s : Spec} {i j r : List Token} → HasSpec s i j → Fails (ADeclarator x) j r → Fails (AfterStorage x) i r
declarator_of_item_fails x s f = fails_later spec_fixes (a_spec s) (fails_first f)

rest_of_item_fails : (x : Bound) {room : Room} {s : Spec} {e : Declarator} {i j k r : List Token} → HasSpec s i j → HasDeclarator room e j k → Fails (OtherRest x) k r → Fails (AfterStorage x) i r
rest_of_item_fails x s d f = fails_later spec_fixes (a_spec s) (fails_later (declarator_fixes any x) (a_declarator d) f)

pub body_of_item_fails : (x : Bound) {room : Room} {s : Spec} {e : Declarator} {i j k r : List Token} → HasSpec s i j → HasDeclarator room e j k → IsAt LEFT_BRACE k → Fails (InBlock (inner x)) (drop 1 k) r → Fails (AfterStorage x) i r
body_of_item_fails x {k = []} s d h f = absurd h
body_of_item_fails x {k = t ∷ k} s d h f = rest_of_item_fails x s d (body_fails h f)

pub parts_of_item_fail : (x : Bound) {room : Room} {s : Spec} {e : Declarator} {i j k r : List Token} → HasSpec s i j → HasDeclarator room e j k → (IsAt LEFT_BRACE k → ⊥) → Fails (PartsTail x) k r → Fails (AfterStorage x) i r
parts_of_item_fail x s d n f = rest_of_item_fails x s d (no_body_fails (not_at n) f)

-- which item stands first

kind_or_not : (word : ℕ) (k : TokenKind) → (k ≡ Keyword word) ⊎ (k ≡ Keyword word → ⊥)
kind_or_not word (Keyword other) = elim (cases_eq other word) [ inl q ↦ inl (ap Keyword q) | inr f ↦ inr (λ e. f (cc)) ]
kind_or_not word k = inr (λ e. cc)

word_or_not : (word : ℕ) (t : Token) → IsKeyword word t ⊎ (IsKeyword word t → ⊥)
word_or_not word t = elim (kind_or_not word t.kind) [ inl q ↦ inl (record { kind = q }) | inr f ↦ inr (λ h. f h.kind) ]

at_second : (code : ℕ) {n : Token} {k m : List Token} → k ≡ n ∷ m → IsAt code m → IsAt code (drop 1 k)
at_second code q h = subst (λ z. IsAt code (drop 1 z)) (sym q) h

at_first : {code : ℕ} {l : Token} {m j : List Token} → m ≡ l ∷ j → Is code l → IsAt code m
at_first {code} q h = subst (λ z. IsAt code z) (sym q) h

no_struct : {t : Token} {k : List Token} → IsKeyword STRUCT t → BeginsOther (t ∷ k) → NoStruct k
no_struct w b = λ n m q. ((λ l j e h. b.no_struct (record { word = w; third = at_second LEFT_BRACE q (at_first e h) })), (λ l j e h. b.no_tag (record { word = w; third = at_second SEMICOLON q (at_first e h) })))

no_enum : {t : Token} {k : List Token} → IsKeyword ENUM t → BeginsOther (t ∷ k) → NoEnum k
no_enum w b = record {
  no_brace = λ l j e h. b.no_enum (record { word = w; brace = inl (at_first e h) });
  no_later = λ n m q. λ l j e h. b.no_enum (record { word = w; brace = inr (at_second LEFT_BRACE q (at_first e h)) });
}

not_word_first : {word : ℕ} {t : Token} {k : List Token} → (IsKeyword word t → ⊥) → NotAt (IsKeyword word) (t ∷ k)
not_word_first f = not_at_word f

pub other_item_fails : (x : Bound) {i r : List Token} → Fits x 0 1 → BeginsOther i → Fails (AnOther x) i r → Fails (AnItem x) i r
other_item_fails x {i = []} g b f = other_fails (λ t j q h. cc) (λ t j q h. cc) f
other_item_fails x {i = t ∷ k} {r = r} g b f = by_struct (word_or_not STRUCT t)
  where
    by_enum : (IsKeyword STRUCT t → ⊥) → IsKeyword ENUM t ⊎ (IsKeyword ENUM t → ⊥) → Fails (AnItem x) (t ∷ k) r
    by_enum n (inl w) = other_enum_fails g w (no_enum w b) f
    by_enum n (inr m) = other_fails (not_word_first n) (not_word_first m) f

    by_struct : IsKeyword STRUCT t ⊎ (IsKeyword STRUCT t → ⊥) → Fails (AnItem x) (t ∷ k) r
    by_struct (inl w) = other_struct_fails g w (no_struct w b) f
    by_struct (inr n) = by_enum n (word_or_not ENUM t)

-- a declaration or a function where no other item stands
pub stops_other : {T : Type 0} (room : Room) (i k : List Token) (result : Result T PhraseError) → 0 < room.nodes → BeginsOther i → Stops AnOther (bound_of room) result i k → Stops AnItem (bound_of room) result i k
stops_other room i k (Ok x) l b s = tt
stops_other room i k (Err OutOfMemory) l b s = tt
stops_other room i k (Err Syntax) l b s = other_item_fails any fits_any b s
stops_other room i k (Err (Nesting at)) l b s = (s.0, other_item_fails (bound_of room) (fits_within (omega arith) (omega (arith, l))) b s.1)

-- units

-- where the tokens are not empty
pub some_left : (i : List Token) → false ≡ (length i == 0) → 0 < length i
some_left [] q = absurd (cc)
some_left (t ∷ i) q = omega arith

pub first_item_leads : (x : Bound) {room : Room} {a : Item} {i j r : List Token} → HasItem room a i j → Fails (UnitRest x) j r → Fails (AUnit x) i r
first_item_leads x h f = item_leads (record { depth = _; tree = _; reads = h.reads; fits = fits_any }) f

pub next_item_fails : (x : Bound) {i r : List Token} → 0 < length i → Fails (AUnit x) i r → Fails (UnitRest x) i r
next_item_fails x {i = []} l f = absurd (omega (arith, l))
next_item_fails x {i = t ∷ i} l f = more_items_fail f
