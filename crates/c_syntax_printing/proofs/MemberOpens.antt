-- Where structs and enums open past the limits (C99 6.7.2).
use Rattle.std.proofs.Common.{inr, ◌≤◌, ℕ, suc, List, ◌∷◌, refl}
use Rattle.c_lexer.specs.declared.token.Token.{Token}
use Rattle.c_lexer.specs.declared.punctuator.TheConstants.{LEFT_BRACE, SEMICOLON, COMMA, ASSIGN}
use Rattle.c_lexer.specs.declared.keyword.TheConstants.{ENUM, STRUCT}
use Rattle.c_syntax.specs.Tree.{Ident, Spec, Declarator, Maybe, there, Declarators, no_declarators, more_declarators, no_members, more_members, no_enumerators, more_enumerators, Tag, struct_item, enum_item}
use Rattle.c_syntax.specs.Tokens.{Is, IsKeyword}
use Rattle.c_syntax.specs.Specifiers.{Names, ReadsSpec}
use Rattle.c_syntax.specs.Grammar.{conditional_level, HasName, Declares}
use Rattle.c_syntax.specs.Statements.{ReadsDeclarators, last_declarator, next_declarator, last_member, next_member, ReadsEnumeratorValue, an_enumerator_value, last_enumerator, next_enumerator, ReadsTag, a_struct, an_enum}
use Rattle.c_syntax_printing.proofs.FrameSpecifiers.{spec_on}
use Rattle.c_syntax_printing.proofs.FrameGrammar.{declares_on}
use Rattle.c_syntax_printing.proofs.FrameStatements.{declarators_on, enumerator_value_on, tag_on}
use Rattle.c_syntax_printing.proofs.MorePairs.{wide_declarator}
use Rattle.c_syntax_printing.specs.Nodes.{in_first_declarator, in_later_declarator, in_first_member, in_later_member, in_there, in_first_enumerator, in_later_enumerator, in_struct_item, in_enum_item}
use Rattle.c_syntax_printing.specs.Opens.{Opens, DeepExpr, DeepDeclarator, DeepItem}
use Rattle.c_syntax_printing.specs.Deep.{DeepDeclarators, DeepMembers, DeepEnumerators}
use Rattle.c_syntax_printing.proofs.Opening.{opens_as, opens_under, opens_past, opens_before, opens_token}
use Rattle.c_syntax_printing.proofs.ExprOpens.{either}
use Rattle.c_syntax_printing.proofs.BodyOpens.{close_brace, semicolon}
use Rattle.c_syntax_printing.proofs.Fixed.{placeless}
use Rattle.c_syntax_printing.proofs.MorePairsOfUnits.{wide_declarators, wide_enumerator_value}

pub first_declarator_opens : {at p n : ℕ} {i r : List Token} → Opens (DeepDeclarator HasName at p n) i r → Opens (DeepDeclarators at p n) i r
first_declarator_opens o = opens_as (λ k m a. record { trees = more_declarators a.tree no_declarators; reads = last_declarator a.reads a.suits; deep = either in_first_declarator (λ y. y) a.deep }) o

pub later_declarator_opens : {at p n d : ℕ} {e : Declarator} {t : Token} {i j r : List Token} → d ≤ suc p → Declares d e i (t ∷ j) → HasName e → Is COMMA t → Opens (DeepDeclarators at p n) j r → Opens (DeepDeclarators at p n) i r
later_declarator_opens {e = e} g c x h o =
    opens_past (declares_on (wide_declarator c g)) (opens_under (λ k m y l b. record { trees = more_declarators e y.trees; reads = next_declarator b x h y.reads; deep = either in_later_declarator (λ z. inr z) y.deep }) o)

pub first_member_opens : {at p n : ℕ} {s : Spec} {i j r : List Token} → ReadsSpec s i j → Opens (DeepDeclarators at p n) j r → Opens (DeepMembers at p n) i r
first_member_opens {s = s} w o =
    opens_past (placeless (spec_on w)) (opens_before o (λ m. record {
      tokens = semicolon ∷ m;
      reads = λ k y l b. record { trees = more_members _ s y.trees no_members; reads = last_member refl b y.reads (record { kind = refl }); deep = either in_first_member (λ z. z) y.deep };
    }))

pub later_member_opens : {at p n d : ℕ} {s : Spec} {es : Declarators} {t : Token} {i j k r : List Token} → d ≤ suc p → ReadsSpec s i j → ReadsDeclarators d es j (t ∷ k) → Is SEMICOLON t → Opens (DeepMembers at p n) k r → Opens (DeepMembers at p n) i r
later_member_opens {s = s} {es = es} g w c h o =
    opens_past (placeless (spec_on w)) (opens_past (declarators_on (wide_declarators c g))
    (opens_under (λ k m y l f i b. record { trees = more_members _ s es y.trees; reads = next_member refl b f h y.reads; deep = either in_later_member (λ z. inr z) y.deep }) o))

pub struct_opens : {at p n : ℕ} {x : Ident} {t u l : Token} {i r : List Token} → IsKeyword STRUCT t → Names x u → Is LEFT_BRACE l → Opens (DeepMembers at p n) i r → Opens (DeepItem at p n) (t ∷ u ∷ l ∷ i) r
struct_opens {x = x} h y q o =
    opens_token (opens_token (opens_token (opens_before o (λ m. record {
      tokens = close_brace ∷ semicolon ∷ m;
      reads = λ k a. record { tree = struct_item _ x a.trees; reads = a_struct h y q a.reads (record { kind = refl }) (record { kind = refl }); deep = either in_struct_item (λ v. v) a.deep };
    }))))

pub enumerator_value_opens : {at p n : ℕ} {x : Ident} {t u : Token} {i r : List Token} → Names x t → Is ASSIGN u → Opens (DeepExpr at p n conditional_level) i r → Opens (DeepEnumerators at p n) (t ∷ u ∷ i) r
enumerator_value_opens {x = x} y h o =
    opens_token (opens_under (λ k m a. record { trees = more_enumerators x (there a.tree) no_enumerators; reads = last_enumerator y (an_enumerator_value h a.reads); deep = either (λ z. in_first_enumerator (in_there z)) (λ z. z) a.deep }) o)

pub later_enumerator_opens : {at p n d : ℕ} {x : Ident} {e : Maybe} {t u : Token} {i j r : List Token} → d ≤ suc p → Names x t → ReadsEnumeratorValue d e i (u ∷ j) → Is COMMA u → Opens (DeepEnumerators at p n) j r → Opens (DeepEnumerators at p n) (t ∷ i) r
later_enumerator_opens {x = x} {e = e} g y c h o =
    opens_token (opens_past (enumerator_value_on (wide_enumerator_value c g))
    (opens_under (λ k m v l b. record { trees = more_enumerators x e v.trees; reads = next_enumerator y b h v.reads; deep = either in_later_enumerator (λ z. inr z) v.deep }) o))

pub enum_opens : {at p n : ℕ} {z : Tag} {t l : Token} {i j r : List Token} → IsKeyword ENUM t → ReadsTag z i (l ∷ j) → Is LEFT_BRACE l → Opens (DeepEnumerators at p n) j r → Opens (DeepItem at p n) (t ∷ i) r
enum_opens {z = z} h y q o =
    opens_token (opens_past (tag_on y) (opens_token (opens_before o (λ m. record {
      tokens = close_brace ∷ semicolon ∷ m;
      reads = λ k a l b. record { tree = enum_item _ z a.trees; reads = an_enum h b q a.reads (record { kind = refl }) (record { kind = refl }); deep = either in_enum_item (λ v. v) a.deep };
    }))))
