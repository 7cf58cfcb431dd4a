-- Where declarations stop, part by part.
use Rattle.std.proofs.Common.{◌≡◌, List, ◌∷◌, sym, subst}
use Rattle.c_lexer.specs.declared.token.Token.{Token}
use Rattle.c_lexer.specs.declared.punctuator.TheConstants.{ASSIGN, COMMA, SEMICOLON}
use Rattle.c_syntax.specs.Tree.{Spec, Declarator, Init}
use Rattle.c_syntax.specs.Tokens.{Is}
use Rattle.c_parser_phrases.specs.declared.room.Room.{Room}
use Rattle.c_parser_phrases.specs.Phrases.{HasSpec, HasDeclarator, HasInit}
use Rattle.c_parser_phrases.specs.Standing.{IsAt}
use Rattle.c_syntax_printing.specs.Fails.{Fails}
use Rattle.c_parser_phrases.specs.Refusing.{bound_of}
use Rattle.c_syntax_printing.specs.Phrases.{Bound, any, within, fits_any, ADeclarator, AnInit, APlainDecl}
use Rattle.c_syntax_printing.specs.Declarations.{PartsTail, PartsEnd}
use Rattle.c_syntax_printing.proofs.Combine.{fails_at}
use Rattle.c_syntax_printing.proofs.DeclForms.{parts_fail, declarator_fails, tail_fails, init_fails, end_fails, no_assign_fails}
use Rattle.c_syntax_printing.proofs.PartFails.{parts_unclosed, next_part_fails, no_decl_left}
use Rattle.c_parser.proofs.Firsts.{not_at}
use Rattle.c_parser_phrases.proofs.RefusalsOfDeclarators.{an_init}
pub use Rattle.c_parser_phrases.proofs.RefusalsOfDeclarators.{a_spec}

pub a_declarator : {room : Room} {e : Declarator} {i j : List Token} → HasDeclarator room e i j → ADeclarator any i j
a_declarator h = record { depth = _; tree = _; reads = h.reads; named = h.named; ends = h.ends; fits = fits_any }

pub first_declarator_fails : (x : Bound) {s : Spec} {i j r : List Token} → HasSpec s i j → Fails (ADeclarator x) j r → Fails (APlainDecl x) i r
first_declarator_fails x s f = parts_fail x (a_spec s) (declarator_fails x f)

pub parts_tail_fails : (x : Bound) {room : Room} {s : Spec} {e : Declarator} {i j k r : List Token} → HasSpec s i j → HasDeclarator room e j k → Fails (PartsTail x) k r → Fails (APlainDecl x) i r
parts_tail_fails x s d f = parts_fail x (a_spec s) (tail_fails x any (a_declarator d) f)

-- an initialiser, where one stands

pub initialiser_fails : (x : Bound) {t : Token} {i j r : List Token} → i ≡ t ∷ j → Is ASSIGN t → Fails (AnInit x) j r → Fails (PartsTail x) i r
initialiser_fails x q h f = fails_at q (init_fails x h f)

pub initialiser_leads : (x : Bound) {room : Room} {v : Init} {t : Token} {i j k r : List Token} → i ≡ t ∷ j → Is ASSIGN t → HasInit room v j k → Fails (PartsEnd x) k r → Fails (PartsTail x) i r
initialiser_leads x q h v f = fails_at q (end_fails x any h (an_init v) f)

pub no_initialiser_leads : (x : Bound) {i r : List Token} → (IsAt ASSIGN i → ⊥) → Fails (PartsEnd x) i r → Fails (PartsTail x) i r
no_initialiser_leads x f g = no_assign_fails x (not_at f) g

-- what stands after a declarator and its initialiser

pub no_end : (x : Bound) (i : List Token) → (IsAt SEMICOLON i → ⊥) → (IsAt COMMA i → ⊥) → Fails (PartsEnd x) i i
no_end x i f g = parts_unclosed i (not_at f) (not_at g)

pub no_end_from : (x : Bound) {i j : List Token} → j ≡ i → (IsAt SEMICOLON i → ⊥) → (IsAt COMMA j → ⊥) → Fails (PartsEnd x) i i
no_end_from x {i} q f g = no_end x i f (λ h. g (subst (λ z. IsAt COMMA z) (sym q) h))

pub next_declarator_fails : (x : Bound) {t : Token} {i j r : List Token} → i ≡ t ∷ j → Is COMMA t → Fails (ADeclarator x) j r → Fails (PartsEnd x) i r
next_declarator_fails x q h f = fails_at q (next_part_fails h (declarator_fails x f))

pub next_tail_fails : (x : Bound) {room : Room} {e : Declarator} {t : Token} {i j k r : List Token} → i ≡ t ∷ j → Is COMMA t → HasDeclarator room e j k → Fails (PartsTail x) k r → Fails (PartsEnd x) i r
next_tail_fails x q h d f = fails_at q (next_part_fails h (tail_fails x any (a_declarator d) f))

-- declarators are nodes
pub no_decl_room : {room : Room} (i : List Token) → room.nodes ≡ 0 → Fails (APlainDecl (bound_of room)) i i
no_decl_room {room} i q = subst (λ n. Fails (APlainDecl (within room.pairs n)) i i) (sym q) (no_decl_left i)
