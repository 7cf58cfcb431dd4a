-- Where declarations, structs, enums, functions and units go on past the limits, part by part.
use Rattle.std.proofs.Common.{◌≡◌, ◌<◌, ℕ, zero, suc, List, [], ◌∷◌, refl, ap, ◌∙◌, subst, drop, arith}
use Rattle.c_lexer.specs.declared.token.Token.{Token}
use Rattle.c_lexer.specs.declared.punctuator.TheConstants.{ASSIGN, COMMA, LEFT_BRACE}
use Rattle.c_lexer.specs.declared.keyword.TheConstants.{ENUM, STRUCT}
use Rattle.c_syntax.specs.declared.tree.Ident.{Ident as Named}
use Rattle.c_syntax.specs.declared.tree.Declarator.{Declarator as DeclaratorTree}
use Rattle.c_syntax.specs.Tree.{Storage, Spec, Declarator, Maybe, MaybeInit, Item, Tag}
use Rattle.c_syntax.specs.Tokens.{Is, IsKeyword}
use Rattle.c_syntax.specs.Specifiers.{ReadsStorage}
use Rattle.c_syntax.specs.Grammar.{conditional_level, HasName, Declares}
use Rattle.c_syntax.specs.Statements.{ReadsMaybeInit, ReadsEnumeratorValue, ReadsTag}
use Rattle.c_parser_phrases.specs.declared.room.Room.{Room}
use Rattle.c_parser_phrases.specs.Phrases.{HasSpec, HasDeclarator}
use Rattle.c_parser_phrases.specs.Standing.{IsAt, TookName}
use Rattle.c_syntax_printing.specs.Opens.{Opens, DeepExpr, DeepDeclarator, DeepInit, DeepParts, DeepDecl, DeepBlock, DeepItem, DeepUnit}
use Rattle.c_syntax_printing.proofs.PartOpens.{part_declarator_opens, part_init_opens, next_part_opens, decl_opens}
use Rattle.c_syntax_printing.proofs.UnitOpens.{item_parts_open, item_body_opens, later_item_opens}
use Rattle.c_syntax_printing.specs.Deep.{DeepDeclarators, DeepMembers, DeepEnumerators}
use Rattle.c_syntax_printing.proofs.MemberOpens.{later_declarator_opens, later_member_opens, struct_opens, enumerator_value_opens, later_enumerator_opens, enum_opens}
use Rattle.c_parser.specs.Parsed.{HasMaybeInit, HasDeclarators, HasEnumeratorValue, HasItem}
use Rattle.c_parser.specs.Nesting.{OpensInBlock}
use Rattle.c_parser.proofs.Ended.{ends_at}
use Rattle.c_parser.proofs.StmtGoesOn.{opens_at}

-- declarations

pub first_declarator_goes_on : {at p n : ℕ} {s : Spec} {i j q : List Token} → HasSpec s i j → Opens (DeepDeclarator HasName at p n) j q → Opens (DeepDecl at p n) i q
first_declarator_goes_on s o = decl_opens s.reads (part_declarator_opens o)

pub initialiser_goes_on : {room : Room} {at n : ℕ} {e : Declarator} {t : Token} {i j k q : List Token} → HasDeclarator room e i j → j ≡ t ∷ k → Is ASSIGN t → Opens (DeepInit at room.pairs n) k q → Opens (DeepParts at room.pairs n) i q
initialiser_goes_on d e h o = part_init_opens (omega arith) (ends_at (Declares _ _) e d.reads) d.named h o

pub part_then : {room : Room} {at n : ℕ} {e : Declarator} {v : MaybeInit} {t : Token} {i j k m q : List Token} → HasDeclarator room e i j → HasMaybeInit room v j k → k ≡ t ∷ m → Is COMMA t → Opens (DeepParts at room.pairs n) m q → Opens (DeepParts at room.pairs n) i q
part_then {room} {v = v} {j = j} d f e h o = next_part_opens (omega arith) d.reads d.named (subst (λ z. ReadsMaybeInit room.pairs v j z) e f.reads) h o

-- members

pub declarator_then : {room : Room} {at n : ℕ} {e : Declarator} {t : Token} {i j k q : List Token} → HasDeclarator room e i j → j ≡ t ∷ k → Is COMMA t → Opens (DeepDeclarators at room.pairs n) k q → Opens (DeepDeclarators at room.pairs n) i q
declarator_then d e h o = later_declarator_opens (omega arith) (ends_at (Declares _ _) e d.reads) d.named h o

pub member_then : {room : Room} {at n : ℕ} {s : Spec} {xs : List DeclaratorTree} {i j k q : List Token} → HasSpec s i j → HasDeclarators room xs j k → Opens (DeepMembers at room.pairs n) k q → Opens (DeepMembers at room.pairs n) i q
member_then s d o = later_member_opens (omega arith) s.reads d.declarators.reads d.closes o

pub struct_goes_on : {at p n : ℕ} {x : Named} {t l : Token} {i j k m q : List Token} → i ≡ t ∷ j → IsKeyword STRUCT t → TookName x j k → k ≡ l ∷ m → Is LEFT_BRACE l → Opens (DeepMembers at p n) m q → Opens (DeepItem at p n) i q
struct_goes_on {t = t} e w x f h o = opens_at (e ∙ ap (λ z. t ∷ z) (x.stood ∙ ap (λ z. x.token ∷ z) f)) (struct_opens w x.names h o)

-- enumerators

pub value_goes_on : {at p n : ℕ} {x : Named} {t : Token} {i j k q : List Token} → TookName x i j → j ≡ t ∷ k → Is ASSIGN t → Opens (DeepExpr at p n conditional_level) k q → Opens (DeepEnumerators at p n) i q
value_goes_on x e h o = opens_at (x.stood ∙ ap (λ z. x.token ∷ z) e) (enumerator_value_opens x.names h o)

pub enumerator_then : {room : Room} {at n : ℕ} {x : Named} {v : Maybe} {t : Token} {i j k m q : List Token} → TookName x i j → HasEnumeratorValue room v j k → k ≡ t ∷ m → Is COMMA t → Opens (DeepEnumerators at room.pairs n) m q → Opens (DeepEnumerators at room.pairs n) i q
enumerator_then {room} {v = v} {j = j} x f e h o = opens_at x.stood (later_enumerator_opens (omega arith) x.names (value_to e f) h o)
  where
    value_to : {k m : List Token} → k ≡ m → HasEnumeratorValue room v j k → ReadsEnumeratorValue room.pairs v j m
    value_to q w = subst (λ z. ReadsEnumeratorValue room.pairs v j z) q w.reads

pub enum_goes_on : {at p n : ℕ} {g : Tag} {t l : Token} {i j k m q : List Token} → i ≡ t ∷ j → IsKeyword ENUM t → ReadsTag g j k → k ≡ l ∷ m → Is LEFT_BRACE l → Opens (DeepEnumerators at p n) m q → Opens (DeepItem at p n) i q
enum_goes_on e w g f h o = opens_at e (enum_opens w (ends_at (ReadsTag _) f g) h o)

-- declarations and functions at file scope

pub item_declarator_goes_on : {at p n : ℕ} {st : Storage} {s : Spec} {i j k q : List Token} → ReadsStorage st i j → HasSpec s j k → Opens (DeepDeclarator HasName at p n) k q → Opens (DeepItem at p n) i q
item_declarator_goes_on c s o = item_parts_open c s.reads (part_declarator_opens o)

pub body_goes_on : {room : Room} {at n : ℕ} {st : Storage} {s : Spec} {e : Declarator} {i j k m q : List Token} → ReadsStorage st i j → HasSpec s j k → HasDeclarator room e k m → IsAt LEFT_BRACE m → Opens (DeepBlock at room.pairs n) (drop 1 m) q → Opens (DeepItem at room.pairs (suc n)) i q
body_goes_on {m = []} c s d h o = absurd h
body_goes_on {m = t ∷ m} c s d h o = item_body_opens (omega arith) c s.reads d.reads d.named h o

-- the same, where there is a node for the body
pub body_then : {room : Room} {at : ℕ} (n : ℕ) {st : Storage} {s : Spec} {e : Declarator} {i j k m q : List Token} → 0 < n → ReadsStorage st i j → HasSpec s j k → HasDeclarator room e k m → IsAt LEFT_BRACE m → OpensInBlock at room.pairs n (drop 1 m) q → Opens (DeepItem at room.pairs n) i q
body_then zero l c s d h o = absurd (omega (arith, l))
body_then (suc n) l c s d h o = body_goes_on c s d h (o n refl)

-- units

pub item_then : {room : Room} {at n : ℕ} {a : Item} {i j q : List Token} → HasItem room a i j → Opens (DeepUnit at room.pairs n) j q → Opens (DeepUnit at room.pairs n) i q
item_then h o = later_item_opens (omega arith) h.reads o
