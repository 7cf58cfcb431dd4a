-- Where structs, enums, declarations and functions at file scope fail, and units of them (C99 6.7.2, 6.9).
use Rattle.std.proofs.Common.{◌≡◌, ◌⊎◌, inl, inr, ◌≤◌, suc, List, ◌∷◌, ◌++◌, refl, sym, subst, arith, ℕ, []}
use Rattle.c_lexer.specs.declared.token.Token.{Token}
use Rattle.c_lexer.specs.declared.punctuator.TheConstants.{LEFT_BRACE, RIGHT_BRACE, SEMICOLON, COMMA, ASSIGN}
use Rattle.c_lexer.specs.declared.keyword.TheConstants.{ENUM, STRUCT}
use Rattle.c_syntax.specs.Tree.{Ident, Storage, Spec, struct, enum, Declarator, named, Maybe, MaybeInit, Tag, BlockItems, block, Decl, Item, function_item, Items}
use Rattle.c_syntax.specs.Tokens.{Is, IsKeyword}
use Rattle.c_syntax.specs.Specifiers.{Names, no_const, ReadsStorage, no_storage_stands, ReadsSpec, is_struct, is_enum}
use Rattle.c_syntax.specs.Grammar.{conditional_level, Declares, a_direct, a_declared, no_more, HasName}
use Rattle.c_syntax.specs.Statements.{ReadsMaybeInit, no_initialiser, an_initialiser, ReadsBlockItems, ReadsDecl, a_declaration, last_declarator, next_declarator, last_member, next_member}
use Rattle.c_syntax.specs.Statements.{ReadsEnumeratorValue, no_enumerator_value, an_enumerator_value, last_enumerator, next_enumerator, ReadsTag, no_name, a_tag}
use Rattle.c_syntax.specs.Statements.{ReadsItem, a_struct, an_enum, an_enum_with_comma, a_tag_alone, an_item_declaration, a_definition, ReadsItems, last_item, next_item}
use Rattle.c_syntax.specs.Limits.{height_of_maybe, height_of_item, height_of_unit, height_of_decl, height_of_block_items}
use Rattle.c_syntax_printing.specs.Twins.{On}
use Rattle.c_syntax_printing.proofs.Twins.{after}
use Rattle.c_syntax_printing.specs.Ranks.{Stops}
use Rattle.c_syntax_printing.proofs.Ranks.{ranked, heads, apart, words_apart}
use Rattle.c_syntax_printing.proofs.Ends.{started_word, comma_ends_declarator, semicolon_ends_declarator, brace_ends_declarator, name_ends_spec}
use Rattle.c_syntax_printing.proofs.Begins.{named_ends_spec}
use Rattle.c_syntax_printing.specs.Heads.{head}
use Rattle.c_syntax_printing.proofs.Heads.{headed, worded, name_head, spec_head, no_storage_at}
use Rattle.c_syntax_printing.proofs.FrameSpecifiers.{storage_on}
use Rattle.c_syntax_printing.proofs.FrameStatements.{declarators_on, item_on}
use Rattle.c_syntax_printing.proofs.One.{same_storage, spec_ends_storage}
use Rattle.c_syntax_printing.proofs.OneDecl.{Leads, decl_leads, moved_spec, parts_end_spec}
use Rattle.c_syntax_printing.specs.Fails.{Meets, at_end, at_token, Fails, Then, then, first, second, One, one, NotAt}
use Rattle.c_syntax_printing.specs.Phrases.{Bound, Fits, inner, ADeclarator, AnExpr, InBlock, in_block, Punctuator}
use Rattle.c_syntax_printing.specs.Operands.{IsSomeName}
use Rattle.c_syntax_printing.specs.Specs.{TagTail}
use Rattle.c_syntax_printing.specs.Declarations.{PartsTail, last_stands, more_stand, SomeParts}
use Rattle.c_syntax_printing.specs.Units.{AUnit}
use Rattle.c_syntax_printing.specs.Items.{DeclaratorsClosed, declarators_closed, DeclaratorsEnd, AMember, InStruct, in_struct, MembersRest, InEnum, in_enum, in_enum_comma, EnumEnd, ValueRest, AStorage, OtherRest, AnOther, AnItem, AtEnd, none_left, UnitRest, NoStruct, NoEnum}
use Rattle.c_syntax_printing.proofs.Combine.{Fixes, on_as, at_same, at_first, other_mark, other_token, missing, fails_both, fails_not_or, fails_or_not, fails_as, fails_first, fails_second, fails_later, fails_after, fails_under, fails_behind, fails_missing, then_fixes, not_at_alike, alike, alike_at}
use Rattle.c_syntax_printing.proofs.Fixed.{start_alike, spec_fixes, declarator_fixes}
use Rattle.c_syntax_printing.proofs.StmtForms.{fits_part}
use Rattle.c_syntax_printing.proofs.BlockForms.{fits_under}
use Rattle.c_syntax_printing.proofs.DeclForms.{parts_reads}
use Rattle.c_syntax_printing.proofs.Fills.{name_token}
use Rattle.c_syntax_printing.proofs.SpecFails.{struct_tail, enum_tail, other_word}
use Rattle.c_syntax_printing.proofs.OneUnit.{same_tag, struct_leads, same_declarators, semicolon_ends, declarators_end_spec, enum_leads, same_item, defines}
use Rattle.c_syntax_printing.proofs.BodyOpens.{semicolon}

-- declarators in a row

first_reads : (b : Bound) {i j : List Token} → DeclaratorsClosed b i j → Then (ADeclarator b) (DeclaratorsEnd b) i j
first_reads b (declarators_closed (last_declarator e n) c f) = then (record { depth = _; tree = _; reads = e; named = n; ends = semicolon_ends_declarator c; fits = fits_under b f (omega arith) }) (first (one c))
first_reads b (declarators_closed (next_declarator e n h r) c f) =
    then (record { depth = _; tree = _; reads = e; named = n; ends = comma_ends_declarator h; fits = fits_under b f (omega arith) }) (second (then (one h) (declarators_closed r c (fits_under b f (omega arith)))))

-- the first of them fails
pub first_declarator_fails : {b : Bound} {i r : List Token} → Fails (ADeclarator b) i r → Fails (DeclaratorsClosed b) i r
first_declarator_fails {b} f = fails_as (λ k j m a. first_reads b a) (fails_first f)

-- the first of them stands
pub first_declarator_leads : {b c : Bound} {i j r : List Token} → ADeclarator c i j → Fails (DeclaratorsEnd b) j r → Fails (DeclaratorsClosed b) i r
first_declarator_leads {b} {c} a f = fails_as (λ k j m a. first_reads b a) (fails_later (declarator_fixes c b) a f)

-- neither a comma nor a semicolon follows
pub declarators_unclosed : {b : Bound} (i : List Token) → NotAt (Is SEMICOLON) i → NotAt (Is COMMA) i → Fails (DeclaratorsEnd b) i i
declarators_unclosed i f g = fails_both (missing i f) (fails_missing i g)

-- what follows a comma
pub next_declarator_fails : {b : Bound} {t : Token} {i r : List Token} → Is COMMA t → Fails (DeclaratorsClosed b) i r → Fails (DeclaratorsEnd b) (t ∷ i) r
next_declarator_fails h f = fails_not_or (missing _ (other_mark h (λ q. omega arith))) (fails_after f)

pub declarators_fixes : (b c : Bound) → Fixes (DeclaratorsClosed b) (DeclaratorsClosed c)
declarators_fixes b c = record { moves = λ i j a k m. moved a k; once = λ i j k a e. one_end a e }
  where
    moved : {i j : List Token} → DeclaratorsClosed b i j → (k : List Token) → On (DeclaratorsClosed b) i j k
    moved (declarators_closed {u = u} r h f) k = let x = declarators_on r (u ∷ k) in record { tokens = x.tokens; twin = after x.twin; reads = declarators_closed x.reads h f }

    one_end : {i j k : List Token} → DeclaratorsClosed b i j → DeclaratorsClosed c i k → j ≡ k
    one_end (declarators_closed r h f) (declarators_closed v o g) = (heads (same_declarators r v (semicolon_ends h) (semicolon_ends o)).1).1

-- structs (6.7.2.1)

members_read : (b : Bound) {i j : List Token} → InStruct b i j → Then (AMember b) (MembersRest b) i j
members_read b (in_struct (last_member p s e h) r u f) =
    then (then (record { tree = _; reads = s; ends = declarators_end_spec e }) (declarators_closed e h (fits_under b f (omega arith)))) (first (then (one r) (one u)))
members_read b (in_struct (next_member p s e h w) r u f) =
    then (then (record { tree = _; reads = s; ends = declarators_end_spec e }) (declarators_closed e h (fits_under b f (omega arith)))) (second (in_struct w r u (fits_under b f (omega arith))))

pub member_fixes : (b c : Bound) → Fixes (AMember b) (AMember c)
member_fixes b c = then_fixes spec_fixes (declarators_fixes b c)

-- the first member fails
pub member_fails : {b : Bound} {i r : List Token} → Fails (AMember b) i r → Fails (InStruct b) i r
member_fails {b} f = fails_as (λ k j m a. members_read b a) (fails_first f)

-- the first member stands
pub member_leads : {b c : Bound} {i j r : List Token} → AMember c i j → Fails (MembersRest b) j r → Fails (InStruct b) i r
member_leads {b} {c} a f = fails_as (λ k j m a. members_read b a) (fails_later (member_fixes c b) a f)

-- after a member stands no brace
pub more_members_fail : {b : Bound} {i r : List Token} → NotAt (Is RIGHT_BRACE) i → Fails (InStruct b) i r → Fails (MembersRest b) i r
more_members_fail n f = fails_not_or (fails_missing _ n) f

-- after a member stands the brace
pub members_close : {b : Bound} {t : Token} {i r : List Token} → Is RIGHT_BRACE t → Fails (Punctuator SEMICOLON) i r → Fails (MembersRest b) (t ∷ i) r
members_close h f = fails_or_not (fails_after f) (member_fails (fails_first (at_first {P = Is RIGHT_BRACE} h (λ u k j h a. omega (arith, headed h, spec_head a.reads)))))

-- a name and a brace after `struct` begin neither a declaration nor a definition

tag_name : {n : Token} {i m : List Token} → TagTail (n ∷ i) m → IsSomeName n
tag_name (then (one x) e) = x

struct_specs : {t : Token} {i : List Token} → IsKeyword STRUCT t → (a : Leads (t ∷ i)) → TagTail i a.names
struct_specs w a = struct_tail w (moved_spec (no_storage_at a.stands (worded w)) a.specifies) (named_ends_spec a.declares a.named)

no_struct_leads : {t n l : Token} {i : List Token} → IsKeyword STRUCT t → Is LEFT_BRACE l → Leads (t ∷ n ∷ l ∷ i) → ⊥
no_struct_leads w h a = struct_leads w (tag_name (struct_specs w a)).names h a

struct_reads : (b : Bound) {d : ℕ} {x : Item} {t n l : Token} {i j : List Token} → IsKeyword STRUCT t → Is LEFT_BRACE l → ReadsItem d x (t ∷ n ∷ l ∷ i) j → Fits b d (height_of_item x) → InStruct b i j
struct_reads b w h (a_struct v m l f c u) g = in_struct f c u g
struct_reads b w h (an_enum v r l f c u) g = absurd (omega (arith, words_apart w v))
struct_reads b w h (an_enum_with_comma v r l f e c u) g = absurd (omega (arith, words_apart w v))
struct_reads b w h (a_tag_alone v m u) g = absurd (omega (arith, apart h u))
struct_reads b w h (an_item_declaration p r) g = absurd (no_struct_leads w h (decl_leads r).lead)
struct_reads b w h (a_definition p r s e n o q c) g = absurd (no_struct_leads w h (defines r s e n o))

-- what follows `struct`, a name and a brace
pub struct_fails : {b : Bound} {t n l : Token} {i r : List Token} → IsKeyword STRUCT t → Is LEFT_BRACE l → Fails (InStruct b) i r → Fails (AnItem b) (t ∷ n ∷ l ∷ i) r
struct_fails {b} {t} {n} {l} w h f = fails_behind {A = AnItem b} (t ∷ n ∷ l ∷ []) (λ k j m a. struct_reads b w h a.reads a.fits) f

some_name : {ident : Ident} {t : Token} → Names ident t → IsSomeName t
some_name n = record { ident = _; names = n }

tag_named : {s j : List Token} → TagTail s j → NotAt IsSomeName s → ⊥
tag_named (then (one x) e) f = f _ _ refl x

no_struct_name : {d : ℕ} {x : Item} {t : Token} {s j : List Token} → IsKeyword STRUCT t → NotAt IsSomeName s → ReadsItem d x (t ∷ s) j → ⊥
no_struct_name w f (a_struct v m l g c u) = f _ _ refl (some_name m)
no_struct_name w f (an_enum v r l g c u) = omega (arith, words_apart w v)
no_struct_name w f (an_enum_with_comma v r l g e c u) = omega (arith, words_apart w v)
no_struct_name w f (a_tag_alone v m u) = f _ _ refl (some_name m)
no_struct_name w f (an_item_declaration p r) = tag_named (struct_specs w (decl_leads r).lead) f
no_struct_name w f (a_definition p r s e n o q c) = tag_named (struct_specs w (defines r s e n o)) f

-- no name follows `struct`
pub struct_nameless : {b : Bound} {t : Token} (i : List Token) → IsKeyword STRUCT t → NotAt IsSomeName i → Fails (AnItem b) (t ∷ i) i
struct_nameless {t = t} i w f = record { front = t ∷ []; is = refl; none = λ s m j a. no_struct_name w (not_at_alike m f) a.reads }

-- enums (6.7.2.2)

value_then : (b : Bound) {d : ℕ} {e : Maybe} {i j k : List Token} → ReadsEnumeratorValue d e i j → Stops conditional_level j → Fits b d (height_of_maybe e) → EnumEnd b j k → ValueRest b i k
value_then b no_enumerator_value s f w = second w
value_then b (an_enumerator_value o r) s f w = first (then (one o) (then (record { depth = _; tree = _; reads = r; stops = s; fits = f }) w))

enums_read : (b : Bound) {i j : List Token} → InEnum b i j → Then (One IsSomeName) (ValueRest b) i j
enums_read b (in_enum (last_enumerator n v) r u f) = then (one (some_name n)) (value_then b v (omega (arith, ranked r)) (fits_under b f (omega arith)) (first (then (one r) (one u))))
enums_read b (in_enum (next_enumerator n v c w) r u f) =
    then (one (some_name n)) (value_then b v (omega (arith, ranked c)) (fits_under b f (omega arith)) (second (then (one c) (second (in_enum w r u (fits_under b f (omega arith)))))))
enums_read b (in_enum_comma (last_enumerator n v) c r u f) = then (one (some_name n)) (value_then b v (omega (arith, ranked c)) (fits_under b f (omega arith)) (second (then (one c) (first (then (one r) (one u))))))
enums_read b (in_enum_comma (next_enumerator n v o w) c r u f) =
    then (one (some_name n)) (value_then b v (omega (arith, ranked o)) (fits_under b f (omega arith)) (second (then (one o) (second (in_enum_comma w c r u (fits_under b f (omega arith)))))))

-- no name stands where an enumerator must
pub enum_nameless : {b : Bound} (i : List Token) → NotAt IsSomeName i → Fails (InEnum b) i i
enum_nameless {b} i f = fails_as (λ k j m a. enums_read b a) (fails_missing i f)

-- what follows the name of an enumerator
pub enumerator_fails : {b : Bound} {t : Token} {i r : List Token} → Fails (ValueRest b) i r → Fails (InEnum b) (t ∷ i) r
enumerator_fails {b} f = fails_as (λ k j m a. enums_read b a) (fails_after f)

-- neither a comma nor a brace follows
pub enum_unclosed : {b : Bound} (i : List Token) → NotAt (Is RIGHT_BRACE) i → NotAt (Is COMMA) i → Fails (EnumEnd b) i i
enum_unclosed i f g = fails_both (fails_missing i f) (fails_missing i g)

-- what follows the = of an enumerator
pub enumerator_value_fails : {b : Bound} {t : Token} {i r : List Token} → Is ASSIGN t → Fails (Then (AnExpr b conditional_level) (EnumEnd b)) i r → Fails (ValueRest b) (t ∷ i) r
enumerator_value_fails h f = fails_or_not (fails_after f) (enum_unclosed _ (other_mark h (λ q. omega arith)) (other_mark h (λ q. omega arith)))

-- no = stands
pub no_value_fails : {b : Bound} {i r : List Token} → NotAt (Is ASSIGN) i → Fails (EnumEnd b) i r → Fails (ValueRest b) i r
no_value_fails n f = fails_not_or (fails_missing _ n) f

-- the brace stands
pub enum_closes : {b : Bound} {t : Token} {i r : List Token} → Is RIGHT_BRACE t → Fails (Punctuator SEMICOLON) i r → Fails (EnumEnd b) (t ∷ i) r
enum_closes h f = fails_or_not (fails_after f) (fails_missing _ (other_mark h (λ q. omega arith)))

-- a comma and the brace stand
pub enum_closes_after_comma : {b : Bound} {t u : Token} {i r : List Token} → Is COMMA t → Is RIGHT_BRACE u → Fails (Punctuator SEMICOLON) i r → Fails (EnumEnd b) (t ∷ u ∷ i) r
enum_closes_after_comma {u = u} h o f =
    fails_not_or (fails_missing _ (other_mark h (λ q. omega arith))) (fails_after (fails_or_not (fails_after f) (enum_nameless _ (other_token {P = Is RIGHT_BRACE} o (λ v c x. omega (arith, headed c, name_head x.names))))))

-- after a comma another enumerator stands
pub enum_goes_on : {b : Bound} {t : Token} {i r : List Token} → Is COMMA t → NotAt (Is RIGHT_BRACE) i → Fails (InEnum b) i r → Fails (EnumEnd b) (t ∷ i) r
enum_goes_on h n f = fails_not_or (fails_missing _ (other_mark h (λ q. omega arith))) (fails_after (fails_not_or (fails_missing _ n) f))

enum_specs : {t : Token} {i : List Token} → IsKeyword ENUM t → (a : Leads (t ∷ i)) → TagTail i a.names
enum_specs w a = enum_tail w (moved_spec (no_storage_at a.stands (worded w)) a.specifies) (named_ends_spec a.declares a.named)

no_such_tag : {g : Tag} {s j : List Token} {l : Token} → NotAt IsSomeName s → NotAt (Is LEFT_BRACE) s → ReadsTag g s (l ∷ j) → Is LEFT_BRACE l → ⊥
no_such_tag f g no_name h = g _ _ refl h
no_such_tag f g (a_tag n) h = f _ _ refl (some_name n)

no_enum_name : {d : ℕ} {x : Item} {t : Token} {s j : List Token} → IsKeyword ENUM t → NotAt IsSomeName s → NotAt (Is LEFT_BRACE) s → ReadsItem d x (t ∷ s) j → ⊥
no_enum_name w f g (a_struct v m l h c u) = omega (arith, words_apart w v)
no_enum_name w f g (an_enum v r l h c u) = no_such_tag f g r l
no_enum_name w f g (an_enum_with_comma v r l h e c u) = no_such_tag f g r l
no_enum_name w f g (a_tag_alone v m u) = omega (arith, words_apart w v)
no_enum_name w f g (an_item_declaration p r) = tag_named (enum_specs w (decl_leads r).lead) f
no_enum_name w f g (a_definition p r s e n o q c) = tag_named (enum_specs w (defines r s e n o)) f

-- neither a name nor a brace follows `enum`
pub enum_tagless : {b : Bound} {t : Token} (i : List Token) → IsKeyword ENUM t → NotAt IsSomeName i → NotAt (Is LEFT_BRACE) i → Fails (AnItem b) (t ∷ i) i
enum_tagless {t = t} i w f g = record { front = t ∷ []; is = refl; none = λ s m j a. no_enum_name w (not_at_alike m f) (not_at_alike m g) a.reads }

enum_reads : (b : Bound) {d : ℕ} {z : Tag} {x : Item} {t l : Token} {i j k : List Token} → IsKeyword ENUM t → ReadsTag z i (l ∷ j) → Is LEFT_BRACE l → ReadsItem d x (t ∷ i) k → Fits b d (height_of_item x) → InEnum b j k
enum_reads b w y h (a_struct v m l f c u) g = absurd (omega (arith, words_apart w v))
enum_reads b w y h (an_enum v r l f c u) g = at_same (InEnum b) _ (heads (same_tag r y (headed l) (headed h)).1).1 (in_enum f c u g)
enum_reads b w y h (an_enum_with_comma v r l f e c u) g = at_same (InEnum b) _ (heads (same_tag r y (headed l) (headed h)).1).1 (in_enum_comma f e c u g)
enum_reads b w y h (a_tag_alone v m u) g = absurd (omega (arith, words_apart w v))
enum_reads b w y h (an_item_declaration p r) g = absurd (enum_leads w y h (decl_leads r).lead)
enum_reads b w y h (a_definition p r s e n o q c) g = absurd (enum_leads w y h (defines r s e n o))

-- what follows `enum` and a brace
pub bare_enum_fails : {b : Bound} {t l : Token} {i r : List Token} → IsKeyword ENUM t → Is LEFT_BRACE l → Fails (InEnum b) i r → Fails (AnItem b) (t ∷ l ∷ i) r
bare_enum_fails {b} {t} {l} w h f = fails_behind {A = AnItem b} (t ∷ l ∷ []) (λ k j m a. enum_reads b w no_name h a.reads a.fits) f

-- what follows `enum`, a name and a brace
pub tagged_enum_fails : {b : Bound} {t n l : Token} {i r : List Token} → IsKeyword ENUM t → IsSomeName n → Is LEFT_BRACE l → Fails (InEnum b) i r → Fails (AnItem b) (t ∷ n ∷ l ∷ i) r
tagged_enum_fails {b} {t} {n} {l} w y h f = fails_behind {A = AnItem b} (t ∷ n ∷ l ∷ []) (λ k j m a. enum_reads b w (a_tag y.names) h a.reads a.fits) f

-- declarations and definitions (6.9)

pub storage_fixes : Fixes AStorage AStorage
storage_fixes = record {
  moves = λ i j a k m. on_as (storage_on a.reads k) (λ h r. record { storage = a.storage; reads = r; ends = omega (arith, start_alike m, a.ends) });
  once = λ i j k a e. (same_storage a.reads e.reads a.ends e.ends).1;
}

with_rest : {b : Bound} {i j : List Token} → SomeParts b i j → Then (ADeclarator b) (OtherRest b) i j
with_rest (then e t) = then e (second t)

declaration_reads : (b : Bound) {d : ℕ} {x : Decl} {i j : List Token} → ReadsDecl d x i j → Fits b d (height_of_decl x) → AnOther b i j
declaration_reads b (a_declaration p st s ps h) f =
    then (record { storage = _; reads = st; ends = spec_ends_storage s }) (then (record { tree = _; reads = s; ends = parts_end_spec ps }) (with_rest (parts_reads b ps h f)))

body_reads : (b : Bound) {d : ℕ} {items : BlockItems} {t u : Token} {i j : List Token} → Is LEFT_BRACE t → ReadsBlockItems d items i (u ∷ j) → Is RIGHT_BRACE u → {n : ℕ} → Fits b d n → suc (height_of_block_items items) ≤ n → OtherRest b (t ∷ i) j
body_reads b h r c f l = first (then (one h) (in_block r c (fits_part b f l)))

definition_reads : (b : Bound) (at : ℕ) {d : ℕ} {st : Storage} {z : Spec} {e : Declarator} {items : BlockItems} {t u : Token} {i j k m n : List Token} → ReadsStorage st i j → ReadsSpec z j k → Declares d e k (t ∷ m) → HasName e → Is LEFT_BRACE t → ReadsBlockItems d items m (u ∷ n) → Is RIGHT_BRACE u → Fits b d (height_of_item (function_item at st z e (block t.from items))) → AnOther b i n
definition_reads b at r z c n h q o g =
    then (record { storage = _; reads = r; ends = spec_ends_storage z })
    (then (record { tree = _; reads = z; ends = named_ends_spec c n })
    (then (record { depth = _; tree = _; reads = c; named = n; ends = brace_ends_declarator h; fits = fits_under b g (omega arith) }) (body_reads b h q o g (omega arith))))

-- a name declared with the tag stands after `struct` and after `enum`

declares_name : (b : Bound) → Fits b 0 1 → Then (ADeclarator b) (OtherRest b) (name_token 0 ∷ semicolon ∷ []) []
declares_name b f =
    then
    (record { depth = 0; tree = named 0 (record { name = 115 ∷ []; at = 0 }); reads = a_direct refl (a_declared (record { name = record { kind = refl }; at = refl })) no_more; named = tt; ends = semicolon_ends_declarator {t = semicolon} (record { kind = refl }); fits = f })
    (second (last_stands no_initialiser (record { kind = refl }) (fits_under b f (omega arith))))

tagged_declares : {b : Bound} {x : Ident} {t n : Token} → Fits b 0 1 → IsKeyword STRUCT t → Names x n → AnOther b (t ∷ n ∷ name_token 0 ∷ semicolon ∷ []) []
tagged_declares {b} {x} f w n =
    then (record { storage = _; reads = no_storage_stands; ends = omega (arith, started_word w) })
    (then (record { tree = struct x; reads = is_struct no_const w n no_const; ends = name_ends_spec {name = 115 ∷ []} {t = name_token 0} (record { kind = refl }) }) (declares_name b f))

enum_declares : {b : Bound} {x : Ident} {t n : Token} → Fits b 0 1 → IsKeyword ENUM t → Names x n → AnOther b (t ∷ n ∷ name_token 0 ∷ semicolon ∷ []) []
enum_declares {b} {x} f w n =
    then (record { storage = _; reads = no_storage_stands; ends = omega (arith, started_word w) })
    (then (record { tree = enum x; reads = is_enum no_const w n no_const; ends = name_ends_spec {name = 115 ∷ []} {t = name_token 0} (record { kind = refl }) }) (declares_name b f))

-- a struct or a tag alone
record Tagged (h : List Token) : Type 0 where
  word : Token
  name : Token
  next : Token
  rest : List Token
  is : h ≡ word ∷ name ∷ next ∷ rest
  struct_word : IsKeyword STRUCT word
  named : IsSomeName name
  ends : Is LEFT_BRACE next ⊎ Is SEMICOLON next

-- an enum
record Enumerated (h : List Token) : Type 0 where
  word : Token
  rest : List Token
  brace : Token
  after : List Token
  tag : Tag
  is : h ≡ word ∷ rest
  enum_word : IsKeyword ENUM word
  tagged : ReadsTag tag rest (brace ∷ after)
  opens : Is LEFT_BRACE brace

-- what is read is another item, or one of these
item_or : (b : Bound) {d : ℕ} {x : Item} {i j : List Token} → ReadsItem d x i j → Fits b d (height_of_item x) → AnOther b i j ⊎ (Tagged i ⊎ Enumerated i)
item_or b (a_struct w m l f c u) g = inr (inl (record { word = _; name = _; next = _; rest = _; is = refl; struct_word = w; named = some_name m; ends = inl l }))
item_or b (an_enum w r l f c u) g = inr (inr (record { word = _; rest = _; brace = _; after = _; tag = _; is = refl; enum_word = w; tagged = r; opens = l }))
item_or b (an_enum_with_comma w r l f e c u) g = inr (inr (record { word = _; rest = _; brace = _; after = _; tag = _; is = refl; enum_word = w; tagged = r; opens = l }))
item_or b (a_tag_alone w m u) g = inr (inl (record { word = _; name = _; next = _; rest = _; is = refl; struct_word = w; named = some_name m; ends = inr u }))
item_or b (an_item_declaration p r) g = inl (declaration_reads b r g)
item_or b (a_definition {at = y} p r z c m h q o) g = inl (definition_reads b y r z c m h q o g)

-- another item fails, and none of these stands
other_item_fails : {b : Bound} {i r : List Token} (f : Fails (AnOther b) i r) → ((s : List Token) → Meets r s → Tagged (f.front ++ s) → ⊥) → ((s : List Token) → Meets r s → Enumerated (f.front ++ s) → ⊥) → Fails (AnItem b) i r
other_item_fails {b} {r = r} f g h = record { front = f.front; is = f.is; none = λ s m j a. none m (item_or b a.reads a.fits) }
  where
    none : {s j : List Token} → Meets r s → AnOther b (f.front ++ s) j ⊎ (Tagged (f.front ++ s) ⊎ Enumerated (f.front ++ s)) → ⊥
    none m (inl a) = f.none _ m _ a
    none m (inr (inl a)) = g _ m a
    none m (inr (inr a)) = h _ m a

-- neither `struct` nor `enum` stands first
pub other_fails : {b : Bound} {i r : List Token} → NotAt (IsKeyword STRUCT) i → NotAt (IsKeyword ENUM) i → Fails (AnOther b) i r → Fails (AnItem b) i r
other_fails s e f =
    other_item_fails f (λ k m a. not_at_alike (alike_at f.front f.is m) s _ _ a.is a.struct_word) (λ k m a. not_at_alike (alike_at f.front f.is m) e _ _ a.is a.enum_word)

meets_first : {r s : List Token} {u : Token} {k v : List Token} → Meets r s → s ≡ u ∷ k → Meets r (u ∷ v)
meets_first at_end q = absurd (cc)
meets_first {r = t ∷ r} {v = v} at_token q = subst (λ z. Meets (t ∷ r) (z ∷ v)) (heads q).0 at_token

no_tagged : {b : Bound} {t : Token} {k r s : List Token} → Fits b 0 1 → IsKeyword STRUCT t → NoStruct k → (f : Fails (AnOther b) (t ∷ k) r) → Meets r s → Tagged (f.front ++ s) → ⊥
no_tagged {b} {t} {k} {r} {s} g w n f m a = go f.front f.is f.none a.is
  where
    go : (front : List Token) → t ∷ k ≡ front ++ r → ((s : List Token) → Meets r s → (j : List Token) → AnOther b (front ++ s) j → ⊥) → front ++ s ≡ a.word ∷ a.name ∷ a.next ∷ a.rest → ⊥
    go [] q none e = none _ (meets_first m e) [] (tagged_declares g a.struct_word a.named.names)
    go (u ∷ []) q none e = none _ (meets_first m (heads e).1) [] (tagged_declares g (subst (IsKeyword STRUCT) (heads q).0 w) a.named.names)
    go (u ∷ v ∷ front) q none e =
        let h = n v (front ++ r) (heads q).1 in
        closes a.ends (not_at_alike (alike front m) h.0) (not_at_alike (alike front m) h.1) (heads (heads e).1).1
      where
        closes : {l : Token} {k j : List Token} → Is LEFT_BRACE l ⊎ Is SEMICOLON l → NotAt (Is LEFT_BRACE) k → NotAt (Is SEMICOLON) k → k ≡ l ∷ j → ⊥
        closes (inl o) x y q = x _ _ q o
        closes (inr o) x y q = y _ _ q o

-- `struct` stands first, and neither a struct nor a tag alone
pub other_struct_fails : {b : Bound} {t : Token} {k r : List Token} → Fits b 0 1 → IsKeyword STRUCT t → NoStruct k → Fails (AnOther b) (t ∷ k) r → Fails (AnItem b) (t ∷ k) r
other_struct_fails g w n f =
    other_item_fails f (λ s m a. no_tagged g w n f m a) (λ s m a. not_at_alike (alike_at f.front f.is m) (other_word w (λ q. omega arith)) _ _ a.is a.enum_word)

no_enumerated : {b : Bound} {t : Token} {k r s : List Token} → Fits b 0 1 → IsKeyword ENUM t → NoEnum k → (f : Fails (AnOther b) (t ∷ k) r) → Meets r s → Enumerated (f.front ++ s) → ⊥
no_enumerated {b} {t} {k} {r} {s} g w n f m a = at_front f.front f.is f.none a.is a.tagged
  where
    at_front : {z : Tag} {h : List Token} (front : List Token) → t ∷ k ≡ front ++ r → ((s : List Token) → Meets r s → (j : List Token) → AnOther b (front ++ s) j → ⊥) → front ++ s ≡ a.word ∷ h → ReadsTag z h (a.brace ∷ a.after) → ⊥
    at_front [] q none e x = none _ (meets_first m e) [] (enum_declares {x = record { name = 115 ∷ []; at = 0 }} {n = name_token 0} g a.enum_word (record { name = record { kind = refl }; at = refl }))
    at_front (u ∷ []) q none e no_name = let h : NotAt (Is LEFT_BRACE) r = subst (NotAt (Is LEFT_BRACE)) (heads q).1 n.no_brace in not_at_alike m h _ _ (heads e).1 a.opens
    at_front (u ∷ []) q none e (a_tag x) = none _ (meets_first m (heads e).1) [] (enum_declares g (subst (IsKeyword ENUM) (heads q).0 w) x)
    at_front (u ∷ v ∷ front) q none e no_name = n.no_brace v (front ++ r) (heads q).1 (subst (Is LEFT_BRACE) (sym (heads (heads e).1).0) a.opens)
    at_front (u ∷ v ∷ front) q none e (a_tag x) = not_at_alike (alike front m) (n.no_later v (front ++ r) (heads q).1) _ _ (heads (heads e).1).1 a.opens

-- `enum` stands first, and no enum
pub other_enum_fails : {b : Bound} {t : Token} {k r : List Token} → Fits b 0 1 → IsKeyword ENUM t → NoEnum k → Fails (AnOther b) (t ∷ k) r → Fails (AnItem b) (t ∷ k) r
other_enum_fails g w n f =
    other_item_fails f (λ s m a. not_at_alike (alike_at f.front f.is m) (other_word w (λ q. omega arith)) _ _ a.is a.struct_word) (λ s m a. no_enumerated g w n f m a)

-- what follows the first declarator

no_part_at : {d : ℕ} {v : MaybeInit} {t : Token} {i j : List Token} → Is LEFT_BRACE t → ReadsMaybeInit d v (t ∷ i) j → (head j ≡ 21 → ⊥) → ⊥
no_part_at h no_initialiser f = f (headed h)
no_part_at h (an_initialiser o r) f = omega (arith, apart h o)

body_starts : {b : Bound} {t : Token} {i j : List Token} → Is LEFT_BRACE t → OtherRest b (t ∷ i) j → InBlock (inner b) i j
body_starts h (first (then (one o) w)) = w
body_starts h (second (last_stands v c f)) = absurd (no_part_at h v (λ q. omega (arith, headed c, q)))
body_starts h (second (more_stand v c ps u f)) = absurd (no_part_at h v (λ q. omega (arith, headed c, q)))

-- the body of a function
pub body_fails : {b : Bound} {t : Token} {i r : List Token} → Is LEFT_BRACE t → Fails (InBlock (inner b)) i r → Fails (OtherRest b) (t ∷ i) r
body_fails {b} h f = fails_under (λ k j a. body_starts h a) f

-- no body stands
pub no_body_fails : {b : Bound} {i r : List Token} → NotAt (Is LEFT_BRACE) i → Fails (PartsTail b) i r → Fails (OtherRest b) i r
no_body_fails n f = fails_not_or (fails_missing _ n) f

-- units

unit_reads : (b : Bound) {d : ℕ} {u : Items} {i j : List Token} → ReadsItems d u i j → j ≡ [] → Fits b d (height_of_unit u) → Then (AnItem b) (UnitRest b) i j
unit_reads b (last_item r) q f = then (record { depth = _; tree = _; reads = r; fits = fits_under b f (omega arith) }) (first (subst (λ z. AtEnd z z) (sym q) none_left))
unit_reads b (next_item r w) q f = then (record { depth = _; tree = _; reads = r; fits = fits_under b f (omega arith) }) (second (record { depth = _; tree = _; reads = w; ends = q; fits = fits_under b f (omega arith) }))

pub item_fixes : (b c : Bound) → Fixes (AnItem b) (AnItem c)
item_fixes b c = record {
  moves = λ i j a k m. on_as (item_on a.reads k) (λ h r. record { depth = a.depth; tree = a.tree; reads = r; fits = a.fits });
  once = λ i j k a e. (same_item a.reads e.reads).1;
}

-- the first item fails
pub item_fails : {b : Bound} {i r : List Token} → Fails (AnItem b) i r → Fails (AUnit b) i r
item_fails {b} f = fails_as (λ k j m a. unit_reads b a.reads a.ends a.fits) (fails_first f)

-- the first item stands
pub item_leads : {b c : Bound} {i j r : List Token} → AnItem c i j → Fails (UnitRest b) j r → Fails (AUnit b) i r
item_leads {b} {c} a f = fails_as (λ k j m a. unit_reads b a.reads a.ends a.fits) (fails_later (item_fixes c b) a f)

-- more tokens are left
pub more_items_fail : {b : Bound} {t : Token} {i r : List Token} → Fails (AUnit b) (t ∷ i) r → Fails (UnitRest b) (t ∷ i) r
more_items_fail {b} f = fails_second (λ k j m a. none m a) f
  where
    none : {t : Token} {i k j : List Token} → Meets (t ∷ i) k → AtEnd k j → ⊥
    none at_token a = elim a [ ]
