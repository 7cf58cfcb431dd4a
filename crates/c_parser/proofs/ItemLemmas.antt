-- Items of a unit, put together of their parts.
use Rattle.std.proofs.Common.{◌≡◌, ◌≤◌, ℕ, List, ◌∷◌, sym, ap, ◌∙◌, subst, arith, length}
use Rattle.c_lexer.specs.declared.token.Token.{Token}
use Rattle.c_lexer.specs.declared.punctuator.TheConstants.{ASSIGN, COMMA, LEFT_BRACE, RIGHT_BRACE, SEMICOLON}
use Rattle.c_lexer.specs.declared.keyword.TheConstants.{ENUM, STRUCT}
use Rattle.c_syntax.specs.declared.tree.DeclPart.{DeclPart}
use Rattle.c_syntax.specs.declared.tree.Declarator.{Declarator as DeclaratorTree}
use Rattle.c_syntax.specs.declared.tree.Member.{Member}
use Rattle.c_syntax.specs.declared.tree.Enumerator.{Enumerator}
use Rattle.c_syntax.specs.declared.tree.Item.{Item as ItemTree}
use Rattle.c_syntax.specs.declared.tree.Stmt.{Stmt as StmtTree}
use Rattle.c_syntax.specs.declared.tree.Ident.{Ident as Named}
use Rattle.c_syntax.specs.Tree.{Storage, Spec, Expr, absent, there, Declarator, Stmt, Tag, no_tag, tag, struct_item, enum_item, tag_item, decl_item, function_item, decl}
use Rattle.c_syntax.specs.Tokens.{Is, IsKeyword, place}
use Rattle.c_syntax.specs.Specifiers.{ReadsStorage, no_storage_stands, static_stands, extern_stands}
use Rattle.c_syntax.specs.Grammar.{conditional_level, Declares}
use Rattle.c_syntax.specs.Statements.{last_declarator, next_declarator, last_member, next_member, no_enumerator_value, an_enumerator_value, last_enumerator, next_enumerator, ReadsTag, no_name, a_tag, ReadsEnumerators, ReadsMembers}
use Rattle.c_syntax.specs.Statements.{a_struct, an_enum, an_enum_with_comma, a_tag_alone, an_item_declaration, a_definition, last_item, next_item}
use Rattle.c_syntax.specs.View.{ident_of, spec_of, declarator_of}
use Rattle.c_syntax.specs.UnitView.{maybe_of, stmt_of, parts_of, members_of, enumerators_of, item_at}
use Rattle.c_parser_phrases.specs.declared.room.Room.{Room}
use Rattle.c_parser_phrases.specs.Phrases.{HasRead, HasSpec, HasDeclarator}
use Rattle.c_parser_phrases.specs.Standing.{TookName}
use Rattle.c_parser.specs.Lists.{Goes, Rest, ends, goes_on, RestAfterComma, no_comma_stands, after_comma}
use Rattle.c_parser.specs.Parsed.{HasBlock, HasParts, AreDeclarators, HasDeclarators, AreMembers, HasMembers, AreEnumerators, HasEnumeratorValue, HasEnumerators, brace_follows, comma_follows, HasItem, AreItems}
use Rattle.c_parser.proofs.ListLemmas.{goes_until}
use Rattle.c_parser.proofs.Ended.{ends_at}
use Rattle.c_parser.proofs.DeclLemmas.{decl_reads}

pub declarator_before : {room : Room} (x : DeclaratorTree) {i j : List Token} → HasDeclarator room (declarator_of x) i j → (more : List DeclaratorTree) (k : List Token) → RestAfterComma (AreDeclarators room) more j k → AreDeclarators room (x ∷ more) i k
declarator_before x e _ _ no_comma_stands = record { reads = last_declarator e.reads e.named; nested = omega (arith, e.nested) }
declarator_before x e _ _ (after_comma c r) = record { reads = next_declarator e.reads e.named c r.reads; nested = omega (arith, e.nested, r.nested) }

pub member_before : {room : Room} (x : Member) {i j k : List Token} → x.at ≡ place i → HasSpec (spec_of x.spec) i j → HasDeclarators room x.declarators.items j k → (more : List Member) (m : List Token) → Rest (AreMembers room) more k m → AreMembers room (x ∷ more) i m
member_before x p s es _ _ ends = record { reads = last_member p s.reads es.declarators.reads es.closes; nested = omega (arith, es.declarators.nested) }
member_before x p s es _ _ (goes_on r) = record { reads = next_member p s.reads es.declarators.reads es.closes r.reads; nested = omega (arith, es.declarators.nested, r.nested) }

pub no_value_stands : {room : Room} {i j : List Token} → j ≡ i → HasEnumeratorValue room absent i j
no_value_stands q = rw q (record { reads = no_enumerator_value; nested = omega arith; no_longer = omega arith })

pub value_stands : {room : Room} {e : Expr} {t : Token} {i j k : List Token} → i ≡ t ∷ j → Is ASSIGN t → HasRead room conditional_level e j k → HasEnumeratorValue room (there e) i k
value_stands {i = i} {j = j} q h r = record { reads = rw q (an_enumerator_value h r.reads); nested = r.nested; no_longer = omega (arith, ap length q, r.shorter) }

pub enumerator_before : {room : Room} (x : Enumerator) {i j k : List Token} → TookName x.name i j → HasEnumeratorValue room (maybe_of x.value) j k → (more : List Enumerator) (m : List Token) → RestAfterComma (AreEnumerators room) more k m → AreEnumerators room (x ∷ more) i m
enumerator_before x n v _ _ no_comma_stands = record { reads = rw n.stood (last_enumerator n.names v.reads); nested = omega (arith, v.nested) }
enumerator_before x n v _ _ (after_comma c r) = record { reads = rw n.stood (next_enumerator n.names v.reads c r.reads); nested = omega (arith, v.nested, r.nested) }

pub no_tag_stands : {i j : List Token} → j ≡ i → ReadsTag no_tag i j
no_tag_stands q = rw q no_name

pub tag_stands : {x : Named} {i j : List Token} → TookName x i j → ReadsTag (tag (ident_of x)) i j
tag_stands n = rw n.stood (a_tag n.names)

pub tag_no_longer : {g : Tag} {i j : List Token} → ReadsTag g i j → length j ≤ length i
tag_no_longer no_name = omega arith
tag_no_longer (a_tag n) = omega arith

pub storage_no_longer : {st : Storage} {i j : List Token} → ReadsStorage st i j → length j ≤ length i
storage_no_longer no_storage_stands = omega arith
storage_no_longer (static_stands w) = omega arith
storage_no_longer (extern_stands w) = omega arith

pub is_struct_item : {room : Room} {at : ℕ} {x : Named} {ms : List Member} {t l u : Token} {i j k m n o : List Token} → at ≡ place i → i ≡ t ∷ j → IsKeyword STRUCT t → TookName x j k → k ≡ l ∷ m → Is LEFT_BRACE l → HasMembers room ms m n → n ≡ u ∷ o → Is SEMICOLON u → HasItem room (struct_item at (ident_of x) (members_of ms)) i o
is_struct_item p q w x r l ms s u = record {
  reads = rw (p ∙ ap place q, q, x.stood, r) (a_struct w x.names l (ends_at (ReadsMembers _ _) (ap (λ x. ms.right ∷ x) s) ms.members.reads) ms.closes u);
  nested = ms.members.nested;
}

pub is_tag_item : {room : Room} {at : ℕ} {x : Named} {t u : Token} {i j k m : List Token} → at ≡ place i → i ≡ t ∷ j → IsKeyword STRUCT t → TookName x j k → k ≡ u ∷ m → Is SEMICOLON u → HasItem room (tag_item at (ident_of x)) i m
is_tag_item p q w x r u = record { reads = rw (p ∙ ap place q, q, x.stood, r) (a_tag_alone w x.names u); nested = omega arith }

pub is_enum_item : {room : Room} {at : ℕ} {g : Tag} {es : List Enumerator} {t l u : Token} {i j k m n o : List Token} → at ≡ place i → i ≡ t ∷ j → IsKeyword ENUM t → ReadsTag g j k → k ≡ l ∷ m → Is LEFT_BRACE l → HasEnumerators room es m n → n ≡ u ∷ o → Is SEMICOLON u → HasItem room (enum_item at g (enumerators_of es)) i o
is_enum_item p q w g r l (brace_follows {r = z} es b) s u = record { reads = rw (p ∙ ap place q, q) (an_enum w (ends_at (ReadsTag _) r g) l (ends_at (ReadsEnumerators _ _) (ap (λ x. z ∷ x) s) es.reads) b u); nested = es.nested }
is_enum_item p q w g r l (comma_follows {c = y} {r = z} es c b) s u = record { reads = rw (p ∙ ap place q, q) (an_enum_with_comma w (ends_at (ReadsTag _) r g) l (ends_at (ReadsEnumerators _ _) (ap (λ x. y ∷ z ∷ x) s) es.reads) c b u); nested = es.nested }

pub is_decl_item : {room : Room} {at : ℕ} {st : Storage} {s : Spec} {ps : List DeclPart} {i j k m : List Token} → at ≡ place i → ReadsStorage st i j → HasSpec s j k → HasParts room ps k m → HasItem room (decl_item at (decl at st s (parts_of ps))) i m
is_decl_item p st s ps = record { reads = an_item_declaration p (decl_reads p st s ps); nested = ps.parts.nested }

pub block_of : {room : Room} {a b : StmtTree} {i j : List Token} → a ≡ b → HasBlock room (stmt_of b) i j → HasBlock room (stmt_of a) i j
block_of {room} {i = i} {j = j} q h = subst (λ z. HasBlock room (stmt_of z) i j) (sym q) h

pub is_definition : {room : Room} {at : ℕ} {st : Storage} {s : Spec} {e : Declarator} {b : Stmt} {i j k m n : List Token} → at ≡ place i → ReadsStorage st i j → HasSpec s j k → HasDeclarator room e k m → HasBlock room b m n → HasItem room (function_item at st s e b) i n
is_definition {m = m} p st s e b = record {
  reads = rw b.is (a_definition p st s.reads (ends_at (Declares _ _) b.stood e.reads) e.named b.opens b.reads b.closes);
  nested = rw b.is (omega (arith, e.nested, b.nested));
}

pub item_before : {room : Room} (x : ItemTree) {i j : List Token} → HasItem room (item_at x.at x.kind) i j → (more : List ItemTree) (k : List Token) → Rest (AreItems room) more j k → AreItems room (x ∷ more) i k
item_before x h _ _ ends = record { reads = last_item h.reads; nested = omega (arith, h.nested) }
item_before x h _ _ (goes_on r) = record { reads = next_item h.reads r.reads; nested = omega (arith, h.nested, r.nested) }

pub declarators_done : {room : Room} (xs : List DeclaratorTree) {t : Token} {i k m : List Token} → Goes (AreDeclarators room) (RestAfterComma (AreDeclarators room)) xs i k → k ≡ t ∷ m → Is SEMICOLON t → HasDeclarators room xs i m
declarators_done xs g q c = record { right = _; declarators = goes_until xs g no_comma_stands q; closes = c }

pub members_done : {room : Room} (xs : List Member) {t : Token} {i k m : List Token} → Goes (AreMembers room) (Rest (AreMembers room)) xs i k → k ≡ t ∷ m → Is RIGHT_BRACE t → HasMembers room xs i m
members_done xs g q c = record { right = _; members = goes_until xs g ends q; closes = c }

pub enumerators_done : {room : Room} (xs : List Enumerator) {t : Token} {i k m : List Token} → Goes (AreEnumerators room) (RestAfterComma (AreEnumerators room)) xs i k → k ≡ t ∷ m → Is RIGHT_BRACE t → HasEnumerators room xs i m
enumerators_done xs g q c = brace_follows (goes_until xs g no_comma_stands q) c

pub enumerators_closed : {room : Room} (xs : List Enumerator) {t u : Token} {i k m n : List Token} → Goes (AreEnumerators room) (RestAfterComma (AreEnumerators room)) xs i k → k ≡ t ∷ m → Is COMMA t → m ≡ u ∷ n → Is RIGHT_BRACE u → HasEnumerators room xs i n
enumerators_closed xs {t = t} g q c r b = comma_follows (goes_until xs g no_comma_stands (q ∙ ap (λ z. t ∷ z) r)) c b
