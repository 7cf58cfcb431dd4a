-- For private contracts and proofs alone: statements and units while they are written: lists of trees of Rust as terms, and the tokens of single parts.
use Rattle.std.specs.Prelude.{ℕ, Bool, true, false, Option, Some, None, List, [], ◌∷◌, Box}
use Rattle.std.specs.Global.{Global}
use Rattle.c_lexer.specs.declared.token.TokenKind.TheVariants.{Name, Keyword, Punct}
use Rattle.c_lexer.specs.declared.punctuator.TheConstants as p
use Rattle.c_lexer.specs.declared.keyword.TheConstants as w
use Rattle.c_syntax.specs.declared.tree.Init.{Init as InitTree}
use Rattle.c_syntax.specs.declared.tree.LabelKind.{LabelKind}
use Rattle.c_syntax.specs.declared.tree.Stmt.{Stmt as StmtTree}
use Rattle.c_syntax.specs.declared.tree.BlockItem.{BlockItem}
use Rattle.c_syntax.specs.declared.tree.Group.{Group}
use Rattle.c_syntax.specs.Tree.{Ident, Spec, Expr, Maybe, Inits, no_inits, more_inits, Parts, First, no_labels, Stmt, BlockItems, no_block_items, Stmts, no_stmts, more_stmts, Groups, no_groups, Declarators, Enumerators}
use Rattle.c_syntax.specs.UnitView.{init_of, label_before, stmt_of, block_item_before, group_before}
use Rattle.c_syntax.specs.Print.{Kinds, inits_kinds, next_inits, parts_kinds, next_parts, first_kinds, maybe_kinds, head_kinds, labels_kinds, stmt_kinds, spec_kinds, declarators_kinds, next_declarators, enumerator_value_kinds, enumerators_kinds, next_enumerators}

abbrev pub inits_of : List InitTree → Inits
inits_of [] = no_inits
inits_of (x ∷ xs) = more_inits (init_of x) (inits_of xs)

abbrev pub block_items_of : List BlockItem → BlockItems
block_items_of [] = no_block_items
block_items_of (x ∷ xs) = block_item_before x (block_items_of xs)

abbrev pub stmts_of : List StmtTree → Stmts
stmts_of [] = no_stmts
stmts_of (x ∷ xs) = more_stmts (stmt_of x) (stmts_of xs)

abbrev pub groups_of : List Group → Groups
groups_of [] = no_groups
groups_of (x ∷ xs) = group_before x (groups_of xs)

abbrev pub else_behind : Option (Box StmtTree Global) → Option Stmt
else_behind None = None
else_behind (Some b) = Some (stmt_of b.value)

abbrev pub else_kinds : Option Stmt → Kinds → Kinds
else_kinds None k = k
else_kinds (Some s) k = Keyword w.ELSE ∷ stmt_kinds s k

-- the head of a for
abbrev pub for_kinds : First → Maybe → Maybe → Kinds → Kinds
for_kinds first test step k = Keyword w.FOR ∷ Punct p.LEFT_PARENTHESIS ∷ first_kinds first (maybe_kinds test (Punct p.SEMICOLON ∷ maybe_kinds step (Punct p.RIGHT_PARENTHESIS ∷ k)))

-- a keyword and an expression in parentheses
abbrev pub worded_kinds : ℕ → Expr → Kinds → Kinds
worded_kinds keyword e k = Keyword keyword ∷ head_kinds e k

abbrev pub jump_kinds : ℕ → Kinds → Kinds
jump_kinds keyword k = Keyword keyword ∷ Punct p.SEMICOLON ∷ k

abbrev pub return_kinds : Maybe → Kinds → Kinds
return_kinds e k = Keyword w.RETURN ∷ maybe_kinds e (Punct p.SEMICOLON ∷ k)

abbrev pub label_kinds : LabelKind → Kinds → Kinds
label_kinds kind k = labels_kinds (label_before 0 kind no_labels) k

abbrev pub member_kinds : Spec → Declarators → Kinds → Kinds
member_kinds s es k = spec_kinds s (declarators_kinds es (Punct p.SEMICOLON ∷ k))

abbrev pub enumerator_kinds : Ident → Maybe → Kinds → Kinds
enumerator_kinds x e k = Name x.name ∷ enumerator_value_kinds e k

-- what is left of a list, at its beginning or after others
abbrev pub left_inits : Bool → Inits → Kinds → Kinds
left_inits true xs k = inits_kinds xs k
left_inits false xs k = next_inits xs k

abbrev pub left_parts : Bool → Parts → Kinds → Kinds
left_parts true xs k = parts_kinds xs k
left_parts false xs k = next_parts xs k

abbrev pub left_declarators : Bool → Declarators → Kinds → Kinds
left_declarators true xs k = declarators_kinds xs k
left_declarators false xs k = next_declarators xs k

abbrev pub left_enumerators : Bool → Enumerators → Kinds → Kinds
left_enumerators true xs k = enumerators_kinds xs k
left_enumerators false xs k = next_enumerators xs k
