-- Declarations, put together of their parts.
use Rattle.std.proofs.Common.{◌≡◌, ℕ, List, ◌∷◌, refl, sym, ap, ◌∙◌, subst, arith, length}
use Rattle.c_lexer.specs.declared.token.Token.{Token}
use Rattle.c_lexer.specs.declared.punctuator.TheConstants.{ASSIGN, SEMICOLON}
use Rattle.c_lexer.specs.declared.keyword.TheConstants.{EXTERN, STATIC}
use Rattle.c_syntax.specs.declared.tree.DeclPart.{DeclPart}
use Rattle.c_syntax.specs.Tree.{Storage, no_storage, static, extern, Spec, Init, no_init, an_init, decl}
use Rattle.c_syntax.specs.Tokens.{Is, IsKeyword, place}
use Rattle.c_syntax.specs.Specifiers.{ReadsStorage, no_storage_stands, static_stands, extern_stands}
use Rattle.c_syntax.specs.Statements.{no_initialiser, an_initialiser, last_part, next_part, ReadsDecl, a_declaration}
use Rattle.c_syntax.specs.View.{declarator_of}
use Rattle.c_syntax.specs.UnitView.{maybe_init_of, parts_of}
use Rattle.c_parser_phrases.specs.declared.room.Room.{Room}
use Rattle.c_parser_phrases.specs.Phrases.{HasSpec, HasDeclarator, HasInit}
use Rattle.c_parser.specs.Lists.{Goes, RestAfterComma, no_comma_stands, after_comma}
use Rattle.c_parser.proofs.ListLemmas.{goes_until}
use Rattle.c_parser.specs.Parsed.{HasMaybeInit, AreParts, HasParts, HasPlainDecl}

pub no_init_stands : {room : Room} {i j : List Token} → j ≡ i → HasMaybeInit room no_init i j
no_init_stands q = rw q (record { reads = no_initialiser; nested = omega arith; no_longer = omega arith })

pub init_stands : {room : Room} {v : Init} {t : Token} {i j k : List Token} → i ≡ t ∷ j → Is ASSIGN t → HasInit room v j k → HasMaybeInit room (an_init v) i k
init_stands {i = i} {j = j} q h v = record { reads = rw q (an_initialiser h v.reads); nested = v.nested; no_longer = omega (arith, ap length q, v.shorter) }

pub part_before : {room : Room} (x : DeclPart) {i j k : List Token} → HasDeclarator room (declarator_of x.declarator) i j → HasMaybeInit room (maybe_init_of x.init) j k → (more : List DeclPart) (m : List Token) → RestAfterComma (AreParts room) more k m → AreParts room (x ∷ more) i m
part_before x e v _ _ no_comma_stands = record { reads = last_part e.reads e.named v.reads; nested = omega (arith, e.nested, v.nested) }
part_before x e v _ _ (after_comma c r) = record { reads = next_part e.reads e.named v.reads c r.reads; nested = omega (arith, e.nested, v.nested, r.nested) }

pub decl_reads : {room : Room} {at : ℕ} {st : Storage} {s : Spec} {ps : List DeclPart} {i j k m : List Token} → at ≡ place i → ReadsStorage st i j → HasSpec s j k → HasParts room ps k m → ReadsDecl room.pairs (decl at st s (parts_of ps)) i m
decl_reads p st s ps = a_declaration p st s.reads ps.parts.reads ps.closes

pub plain_decl : {room : Room} {at : ℕ} {s : Spec} {ps : List DeclPart} {i j k : List Token} → at ≡ place i → HasSpec s i j → HasParts room ps j k → HasPlainDecl room (decl at no_storage s (parts_of ps)) i k
plain_decl p s ps = record { reads = decl_reads p no_storage_stands s ps; plain = refl; nested = ps.parts.nested }

pub parts_done : {room : Room} (xs : List DeclPart) {t : Token} {i k m : List Token} → Goes (AreParts room) (RestAfterComma (AreParts room)) xs i k → k ≡ t ∷ m → Is SEMICOLON t → HasParts room xs i m
parts_done xs g q c = record { right = _; parts = goes_until xs g no_comma_stands q; closes = c }

-- the storage class that was taken

pub static_taken : {t : Token} {i j : List Token} → i ≡ t ∷ j → IsKeyword STATIC t → ReadsStorage static i j
static_taken q w = rw q (static_stands w)

pub extern_taken : {t : Token} {i j k : List Token} → j ≡ i → j ≡ t ∷ k → IsKeyword EXTERN t → ReadsStorage extern i k
extern_taken n q w = rw (sym n ∙ q) (extern_stands w)

pub none_taken : {i j k : List Token} → j ≡ i → k ≡ j → ReadsStorage no_storage i k
none_taken {i} n m = subst (λ z. ReadsStorage no_storage i z) (sym (m ∙ n)) no_storage_stands
