-- For private contracts and proofs alone: what is read of statements, declarations and items. It stands between what was left before
-- and what is left now, and is within the room.
use Rattle.std.specs.Prelude.{◌≡◌, ◌≤◌, ◌<◌, ℕ, suc, List, [], ◌∷◌, ◌++◌, length}
use Rattle.c_lexer.specs.declared.token.Token.{Token}
use Rattle.c_lexer.specs.declared.punctuator.TheConstants.{LEFT_PARENTHESIS, RIGHT_PARENTHESIS, LEFT_BRACE, RIGHT_BRACE, SEMICOLON, COMMA}
use Rattle.c_lexer.specs.declared.keyword.TheConstants.{ELSE}
use Rattle.c_syntax.specs.declared.tree.DeclPart.{DeclPart}
use Rattle.c_syntax.specs.declared.tree.Declarator.{Declarator as DeclaratorTree}
use Rattle.c_syntax.specs.declared.tree.Label.{Label}
use Rattle.c_syntax.specs.declared.tree.Stmt.{Stmt as StmtTree}
use Rattle.c_syntax.specs.declared.tree.BlockItem.{BlockItem}
use Rattle.c_syntax.specs.declared.tree.Group.{Group}
use Rattle.c_syntax.specs.declared.tree.Member.{Member}
use Rattle.c_syntax.specs.declared.tree.Enumerator.{Enumerator}
use Rattle.c_syntax.specs.declared.tree.Item.{Item as ItemTree}
use Rattle.c_syntax.specs.Tree.{Expr, Maybe, MaybeInit, Decl, First, Stmt, block, BlockItems, Item}
use Rattle.c_syntax.specs.Tokens.{Is}
use Rattle.c_syntax.specs.Grammar.{expression_level, Reads}
use Rattle.c_syntax.specs.Statements.{ReadsMaybe, ReadsMaybeInit, ReadsParts, ReadsDecl, IsPlainDecl, ReadsFirst, ReadsLabels, ReadsStmt, IsClosed, ReadsBlockItems, ReadsStmts, ReadsGroups, ReadsDeclarators, ReadsMembers, ReadsEnumeratorValue, ReadsEnumerators, ReadsItem, ReadsItems}
use Rattle.c_syntax.specs.Limits.{height, height_of_maybe, height_of_maybe_init, height_of_parts, height_of_decl, height_of_first, height_of_labels, height_of_stmt, height_of_block_items, height_of_stmts, height_of_groups, height_of_declarators, height_of_members, height_of_enumerators, height_of_item, height_of_unit}
use Rattle.c_syntax.specs.View.{expr_behind}
use Rattle.c_syntax.specs.UnitView.{first_of_head, parts_of, labels_of, declarators_of, members_of, enumerators_of, items_of}
use Rattle.c_syntax.specs.WritesUnit.{block_items_of, stmts_of, groups_of}
use Rattle.c_parser_phrases.specs.declared.room.Room.{Room}
use Rattle.c_parser_phrases.specs.Standing.{IsAtKeyword}
use Rattle.c_syntax_printing.specs.Phrases.{any, ABlockItem}
use Rattle.c_parser.specs.declared.nodes.ForHead.{ForHead}
use Rattle.c_parser.specs.Lists.{Rest, RestAfterComma}

-- an expression in parentheses
pub record HasCondition (room : Room) (e : Expr) (i j : List Token) : Type 0 where
  pub left : Token
  pub right : Token
  pub inside : List Token
  pub stood : i ≡ left ∷ inside
  pub opens : Is LEFT_PARENTHESIS left
  pub reads : Reads room.pairs expression_level e inside (right ∷ j)
  pub closes : Is RIGHT_PARENTHESIS right
  pub nested : height e ≤ room.nodes

-- an expression or nothing, and then the punctuator
pub record HasMaybe (room : Room) (end : ℕ) (e : Maybe) (i j : List Token) : Type 0 where
  pub right : Token
  pub reads : ReadsMaybe room.pairs e i (right ∷ j)
  pub closes : Is end right
  pub nested : height_of_maybe e ≤ room.nodes

pub record HasMaybeInit (room : Room) (v : MaybeInit) (i j : List Token) : Type 0 where
  pub reads : ReadsMaybeInit room.pairs v i j
  pub nested : height_of_maybe_init v ≤ room.nodes
  pub no_longer : length j ≤ length i

-- parts of a declaration
pub record AreParts (room : Room) (ps : List DeclPart) (i j : List Token) : Type 0 where
  pub reads : ReadsParts room.pairs (parts_of ps) i j
  pub nested : height_of_parts (parts_of ps) ≤ room.nodes

-- and the semicolon after them
pub record HasParts (room : Room) (ps : List DeclPart) (i j : List Token) : Type 0 where
  pub right : Token
  pub parts : AreParts room ps i (right ∷ j)
  pub closes : Is SEMICOLON right

pub record HasPlainDecl (room : Room) (x : Decl) (i j : List Token) : Type 0 where
  pub reads : ReadsDecl room.pairs x i j
  pub plain : IsPlainDecl x
  pub nested : height_of_decl x ≤ room.nodes

pub record HasFirst (room : Room) (x : First) (i j : List Token) : Type 0 where
  pub reads : ReadsFirst room.pairs x i j
  pub nested : height_of_first x ≤ room.nodes

-- what stands in the parentheses after for, with them
pub record HasHead (room : Room) (h : ForHead) (i j : List Token) : Type 0 where
  pub left : Token
  pub inside : List Token
  pub after_first : List Token
  pub after_test : List Token
  pub stood : i ≡ left ∷ inside
  pub opens : Is LEFT_PARENTHESIS left
  pub first : HasFirst room (first_of_head h.first) inside after_first
  pub test : HasMaybe room SEMICOLON (expr_behind h.test) after_first after_test
  pub step : HasMaybe room RIGHT_PARENTHESIS (expr_behind h.step) after_test j

pub record AreLabels (room : Room) (xs : List Label) (i j : List Token) : Type 0 where
  pub reads : ReadsLabels room.pairs (labels_of xs) i j
  pub nested : height_of_labels (labels_of xs) ≤ room.nodes

-- a label: with nothing more, or more labels after it, it makes labels
pub record HasLabel (room : Room) (x : Label) (i j : List Token) : Type 0 where
  pub before : (more : List Label) (k : List Token) → Rest (AreLabels room) more j k → AreLabels room (x ∷ more) i k

-- A statement. Where an else follows, it ends in no if without else.
pub record HasStmt (room : Room) (s : Stmt) (i j : List Token) : Type 0 where
  pub reads : ReadsStmt room.pairs s i j
  pub nested : height_of_stmt s ≤ room.nodes
  pub closed : IsAtKeyword ELSE j → IsClosed s

-- the same, where the room is that inside the statement
pub record HasNode (room : Room) (s : Stmt) (i j : List Token) : Type 0 where
  pub reads : ReadsStmt room.pairs s i j
  pub nested : height_of_stmt s ≤ suc room.nodes
  pub closed : IsAtKeyword ELSE j → IsClosed s

-- a block
pub record HasBlock (room : Room) (s : Stmt) (i j : List Token) : Type 0 where
  pub items : BlockItems
  pub left : Token
  pub right : Token
  pub inside : List Token
  pub is : s ≡ block left.from items
  pub stood : i ≡ left ∷ inside
  pub opens : Is LEFT_BRACE left
  pub reads : ReadsBlockItems room.pairs items inside (right ∷ j)
  pub closes : Is RIGHT_BRACE right
  pub nested : height_of_block_items items < room.nodes

pub record AreBlockItems (room : Room) (xs : List BlockItem) (i j : List Token) : Type 0 where
  pub reads : ReadsBlockItems room.pairs (block_items_of xs) i j
  pub nested : height_of_block_items (block_items_of xs) ≤ room.nodes

pub record HasBlockItem (room : Room) (x : BlockItem) (i j : List Token) : Type 0 where
  pub item : ABlockItem any i j
  pub before : (more : List BlockItem) (k : List Token) → AreBlockItems room more j k → AreBlockItems room (x ∷ more) i k

-- an item that was added to those before it
pub record AddsBlockItem (room : Room) (old new : List BlockItem) (i j : List Token) : Type 0 where
  pub item : BlockItem
  pub added : new ≡ old ++ item ∷ []
  pub stands : HasBlockItem room item i j

pub record AreStmts (room : Room) (xs : List StmtTree) (i j : List Token) : Type 0 where
  pub reads : ReadsStmts room.pairs (stmts_of xs) i j
  pub nested : height_of_stmts (stmts_of xs) ≤ room.nodes

pub record AreGroups (room : Room) (xs : List Group) (i j : List Token) : Type 0 where
  pub reads : ReadsGroups room.pairs (groups_of xs) i j
  pub nested : height_of_groups (groups_of xs) ≤ room.nodes

-- groups and the brace after them
pub record HasGroups (room : Room) (xs : List Group) (i j : List Token) : Type 0 where
  pub right : Token
  pub groups : AreGroups room xs i (right ∷ j)
  pub closes : Is RIGHT_BRACE right

pub record AreDeclarators (room : Room) (xs : List DeclaratorTree) (i j : List Token) : Type 0 where
  pub reads : ReadsDeclarators room.pairs (declarators_of xs) i j
  pub nested : height_of_declarators (declarators_of xs) ≤ room.nodes

-- declarators and the semicolon after them
pub record HasDeclarators (room : Room) (xs : List DeclaratorTree) (i j : List Token) : Type 0 where
  pub right : Token
  pub declarators : AreDeclarators room xs i (right ∷ j)
  pub closes : Is SEMICOLON right

pub record AreMembers (room : Room) (xs : List Member) (i j : List Token) : Type 0 where
  pub reads : ReadsMembers room.pairs (members_of xs) i j
  pub nested : height_of_members (members_of xs) ≤ room.nodes

pub record HasMember (room : Room) (x : Member) (i j : List Token) : Type 0 where
  pub before : (more : List Member) (k : List Token) → Rest (AreMembers room) more j k → AreMembers room (x ∷ more) i k

-- members and the brace after them
pub record HasMembers (room : Room) (xs : List Member) (i j : List Token) : Type 0 where
  pub right : Token
  pub members : AreMembers room xs i (right ∷ j)
  pub closes : Is RIGHT_BRACE right

pub record AreEnumerators (room : Room) (xs : List Enumerator) (i j : List Token) : Type 0 where
  pub reads : ReadsEnumerators room.pairs (enumerators_of xs) i j
  pub nested : height_of_enumerators (enumerators_of xs) ≤ room.nodes

pub record HasEnumeratorValue (room : Room) (e : Maybe) (i j : List Token) : Type 0 where
  pub reads : ReadsEnumeratorValue room.pairs e i j
  pub nested : height_of_maybe e ≤ room.nodes
  pub no_longer : length j ≤ length i

pub record HasEnumerator (room : Room) (x : Enumerator) (i j : List Token) : Type 0 where
  pub before : (more : List Enumerator) (k : List Token) → RestAfterComma (AreEnumerators room) more j k → AreEnumerators room (x ∷ more) i k

-- Enumerators and the brace after them, perhaps with a comma before it.
pub data HasEnumerators (room : Room) (xs : List Enumerator) : List Token → List Token → Type 0 where
  brace_follows : {r : Token} {i j : List Token} → AreEnumerators room xs i (r ∷ j) → Is RIGHT_BRACE r → HasEnumerators room xs i j
  comma_follows : {c r : Token} {i j : List Token} → AreEnumerators room xs i (c ∷ r ∷ j) → Is COMMA c → Is RIGHT_BRACE r → HasEnumerators room xs i j

pub record HasItem (room : Room) (x : Item) (i j : List Token) : Type 0 where
  pub reads : ReadsItem room.pairs x i j
  pub nested : height_of_item x ≤ room.nodes

pub record AreItems (room : Room) (xs : List ItemTree) (i j : List Token) : Type 0 where
  pub reads : ReadsItems room.pairs (items_of xs) i j
  pub nested : height_of_unit (items_of xs) ≤ room.nodes
