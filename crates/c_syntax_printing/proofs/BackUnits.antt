-- The tokens that a unit is printed with are read back as the same unit, apart from places.
use Rattle.std.proofs.Common.{◌≡◌, ℕ, ◌≤◌, List, [], ◌∷◌, refl, ap, ap₂, subst}
use Rattle.std.proofs.Math.Nat.{le_of_suc-le}
use Rattle.c_lexer.specs.declared.token.Token.{Token}
use Rattle.c_lexer.specs.declared.token.TokenKind.{TokenKind}
use Rattle.c_lexer.specs.declared.token.TokenKind.TheVariants.{Name, Keyword, Punct}
use Rattle.c_lexer.specs.declared.punctuator.TheConstants as p
use Rattle.c_lexer.specs.declared.keyword.TheConstants as w
use Rattle.c_syntax.specs.Tree.{Ident, Spec, Maybe, absent, there, Declarator, block, BlockItems}
use Rattle.c_syntax.specs.Tree.{Declarators, no_declarators, more_declarators, Members, no_members, more_members, Enumerators, no_enumerators, more_enumerators, Tag, no_tag, tag, Item, struct_item, enum_item, tag_item, decl_item, function_item, Items, no_items, more_items}
use Rattle.c_syntax.specs.Tokens.{Is, place}
use Rattle.c_syntax.specs.Specifiers.{Names, ReadsSpec}
use Rattle.c_syntax.specs.Grammar.{Declares, HasName}
use Rattle.c_syntax.specs.Statements.{ReadsBlockItems, ReadsDeclarators, last_declarator, next_declarator, ReadsMembers, last_member, next_member, ReadsEnumeratorValue, no_enumerator_value, an_enumerator_value, ReadsEnumerators, last_enumerator, next_enumerator, ReadsTag, no_name, a_tag}
use Rattle.c_syntax.specs.Statements.{ReadsItem, a_struct, an_enum, a_tag_alone, an_item_declaration, a_definition, ReadsItems, last_item, next_item}
use Rattle.c_syntax.specs.Limits.{height_of_declarator, height_of_stmt, height_of_maybe, height_of_declarators, height_of_members, height_of_enumerators, height_of_item, height_of_unit}
use Rattle.c_syntax.specs.Same.{unplaced_maybe, unplaced_declarators, unplaced_members, unplaced_enumerators, unplaced_tag, unplaced_item, unplaced_unit, AreSame}
use Rattle.c_syntax.specs.Print.{is_direct, spec_kinds, declarator_kinds, operand_kinds, stmt_kinds, block_items_kinds, next_declarators, declarators_kinds, members_kinds, enumerator_value_kinds, next_enumerators, enumerators_kinds, tag_kinds, item_kinds, unit_kinds}
use Rattle.c_syntax_printing.specs.Fine.{IsFineMaybe}
use Rattle.c_syntax_printing.specs.FineUnits.{AreFineDeclarators, AreFineMembers, AreSomeMembers, AreFineEnumerators, IsFineItem, AreFineItems, AreSomeItems}
use Rattle.c_syntax_printing.proofs.FineUnitLemmas.{members_are_fine}
use Rattle.c_syntax.proofs.BackTokens.{kinds, headed, mark, word, BackOf, ends_at, begins_at, two, ap_three, as_choosing, as_casting}
use Rattle.c_syntax_printing.proofs.Depths.{both, deeper}
use Rattle.c_syntax_printing.proofs.BackParts.{back_name, back_storage, back_spec, has_name, declares_of}
use Rattle.c_syntax_printing.proofs.BackExpressions.{back_declarator}
use Rattle.c_syntax_printing.proofs.BackDeclarations.{operand_of, back_decl}
use Rattle.c_syntax_printing.proofs.BackStatements.{back_block_items}

back_declarators : (es : Declarators) → AreFineDeclarators es → (d : ℕ) → height_of_declarators es ≤ d → (e : Declarator) (i after : List Token) (k : List TokenKind) → Declares d e i after → HasName e → kinds after ≡ next_declarators es k → BackOf (λ (xs : Declarators). ReadsDeclarators d (more_declarators e xs)) unplaced_declarators es i k
back_declarators no_declarators f d v e i after k r h q = record { tree = no_declarators; after = after; reads = last_declarator r h; same = refl; left = q }
back_declarators (more_declarators e' es) f d v e i after k r h q =
    let low = both (height_of_declarator e') (height_of_declarators es) v in
    let c = headed (Punct p.COMMA) after (declarator_kinds e' (next_declarators es k)) q in
    let a = back_declarator e' f.0 d (deeper (height_of_declarator e') low.0) c.rest (next_declarators es k) c.left in
    let z = back_declarators es f.2 d low.1 a.tree c.rest a.after k (declares_of (is_direct e') a.reads) (has_name e' a.tree a.same f.1) a.left in
    record { tree = more_declarators a.tree z.tree; after = z.after; reads = next_declarator (ends_at (Declares d e) c.is r) h (mark c) z.reads; same = ap₂ more_declarators a.same z.same; left = z.left }

-- members, or none
abbrev MembersOrNone : ℕ → Members → List Token → List Token → Type 0
MembersOrNone d no_members i j = i ≡ j
MembersOrNone d (more_members at s es rest) i j = ReadsMembers d (more_members at s es rest) i j

member_before : {d at : ℕ} {s : Spec} {es : Declarators} {t : Token} {i j k m : List Token} (rest : Members) → at ≡ place i → ReadsSpec s i j → ReadsDeclarators d es j (t ∷ k) → Is p.SEMICOLON t → MembersOrNone d rest k m → ReadsMembers d (more_members at s es rest) i m
member_before {d} {at} {s} {es} {t} {i} {j} {k} {m} no_members g r x h q = subst (λ (y : List Token). ReadsMembers d (more_members at s es no_members) i y) q (last_member g r x h)
member_before (more_members at' s' es' rest) g r x h f = next_member g r x h f

back_members : (ms : Members) → AreFineMembers ms → (d : ℕ) → height_of_members ms ≤ d → (ts : List Token) (k : List TokenKind) → kinds ts ≡ members_kinds ms k → BackOf (MembersOrNone d) unplaced_members ms ts k
back_members no_members f d v ts k q = record { tree = no_members; after = ts; reads = refl; same = refl; left = q }
back_members (more_members at s no_declarators ms) f d v ts k q = absurd f.0
back_members (more_members at s (more_declarators e es) ms) f d v ts k q =
    let low = both (height_of_declarators (more_declarators e es)) (height_of_members ms) v in
    let lower = both (height_of_declarator e) (height_of_declarators es) low.0 in
    let k2 : List TokenKind = Punct p.SEMICOLON ∷ members_kinds ms k in
    let b = back_spec s ts (declarators_kinds (more_declarators e es) k2) q in
    let a = back_declarator e f.0.0 d (deeper (height_of_declarator e) lower.0) b.after (next_declarators es k2) b.left in
    let x = back_declarators es f.0.2 d lower.1 a.tree b.after a.after k2 (declares_of (is_direct e) a.reads) (has_name e a.tree a.same f.0.1) a.left in
    let c = headed (Punct p.SEMICOLON) x.after (members_kinds ms k) x.left in
    let z = back_members ms f.1 d low.1 c.rest k c.left in
    record {
      tree = more_members (place ts) b.tree (more_declarators a.tree x.tree) z.tree;
      after = z.after;
      reads = member_before z.tree refl b.reads (ends_at (ReadsDeclarators d (more_declarators a.tree x.tree)) c.is x.reads) (mark c) z.reads;
      same = ap_three (more_members 0) b.same (ap₂ more_declarators a.same x.same) z.same;
      left = z.left;
    }

members_stand : {d : ℕ} {i j : List Token} (ms ns : Members) → unplaced_members ns ≡ unplaced_members ms → AreSomeMembers ms → MembersOrNone d ns i j → ReadsMembers d ns i j
members_stand no_members ns q f r = absurd f
members_stand (more_members at s es ms) no_members q f r = absurd (cc)
members_stand ms ns q f r = r

back_enumerator_value : (e : Maybe) → IsFineMaybe e → (d : ℕ) → height_of_maybe e ≤ d → (ts : List Token) (k : List TokenKind) → kinds ts ≡ enumerator_value_kinds e k → BackOf (ReadsEnumeratorValue d) unplaced_maybe e ts k
back_enumerator_value absent f d v ts k q = record { tree = absent; after = ts; reads = no_enumerator_value; same = refl; left = q }
back_enumerator_value (there e) f d v ts k q =
    let h = headed (Punct p.ASSIGN) ts (operand_kinds e k) q in
    let x = operand_of e f d v h.rest k h.left in
    record { tree = there x.tree; after = x.after; reads = begins_at (ReadsEnumeratorValue d (there x.tree)) h.is (an_enumerator_value (mark h) (as_choosing (as_casting x.reads))); same = ap there x.same; left = x.left }

back_enumerators : (es : Enumerators) → AreFineEnumerators es → (d : ℕ) → height_of_enumerators es ≤ d → (x : Ident) (e : Maybe) (t : Token) (i after : List Token) (k : List TokenKind) → Names x t → ReadsEnumeratorValue d e i after → kinds after ≡ next_enumerators es k → BackOf (λ (fs : Enumerators). ReadsEnumerators d (more_enumerators x e fs)) unplaced_enumerators es (t ∷ i) k
back_enumerators no_enumerators f d v x e t i after k n r q = record { tree = no_enumerators; after = after; reads = last_enumerator n r; same = refl; left = q }
back_enumerators (more_enumerators x' e' es) f d v x e t i after k n r q =
    let low = both (height_of_maybe e') (height_of_enumerators es) v in
    let c = headed (Punct p.COMMA) after (Name x'.name ∷ enumerator_value_kinds e' (next_enumerators es k)) q in
    let g = back_name x' c.rest (enumerator_value_kinds e' (next_enumerators es k)) c.left in
    let a = back_enumerator_value e' f.0 d low.0 g.heads.rest (next_enumerators es k) g.heads.left in
    let z = back_enumerators es f.1 d low.1 g.ident a.tree g.heads.token g.heads.rest a.after k g.names a.reads a.left in
    record {
      tree = more_enumerators g.ident a.tree z.tree;
      after = z.after;
      reads = next_enumerator n (ends_at (ReadsEnumeratorValue d e) c.is r) (mark c) (begins_at (λ (i : List Token) (j : List Token). ReadsEnumerators d (more_enumerators g.ident a.tree z.tree) i j) g.heads.is z.reads);
      same = ap_three more_enumerators g.same a.same z.same;
      left = z.left;
    }

back_tag : (g : Tag) (ts : List Token) (k : List TokenKind) → kinds ts ≡ tag_kinds g k → BackOf ReadsTag unplaced_tag g ts k
back_tag no_tag ts k q = record { tree = no_tag; after = ts; reads = no_name; same = refl; left = q }
back_tag (tag x) ts k q =
    let g = back_name x ts k q in
    record { tree = tag g.ident; after = g.heads.rest; reads = begins_at (ReadsTag (tag g.ident)) g.heads.is (a_tag g.names); same = ap tag g.same; left = g.heads.left }

three : {ts a b c : List Token} {t u v : Token} → ts ≡ t ∷ a → a ≡ u ∷ b → b ≡ v ∷ c → ts ≡ t ∷ u ∷ v ∷ c
three q r s = cc

back_item : (a : Item) → IsFineItem a → (d : ℕ) → height_of_item a ≤ d → (ts : List Token) (k : List TokenKind) → kinds ts ≡ item_kinds a k → BackOf (ReadsItem d) unplaced_item a ts k
back_item (struct_item at x ms) f d v ts k q =
    let k2 : List TokenKind = Punct p.RIGHT_BRACE ∷ Punct p.SEMICOLON ∷ k in
    let h = headed (Keyword w.STRUCT) ts (Name x.name ∷ Punct p.LEFT_BRACE ∷ members_kinds ms k2) q in
    let g = back_name x h.rest (Punct p.LEFT_BRACE ∷ members_kinds ms k2) h.left in
    let l = headed (Punct p.LEFT_BRACE) g.heads.rest (members_kinds ms k2) g.heads.left in
    let y = back_members ms (members_are_fine ms f) d v l.rest k2 l.left in
    let r = headed (Punct p.RIGHT_BRACE) y.after (Punct p.SEMICOLON ∷ k) y.left in
    let u = headed (Punct p.SEMICOLON) r.rest k r.left in
    let tree : Item = struct_item h.token.from g.ident y.tree in
    record {
      tree = tree;
      after = u.rest;
      reads = begins_at (ReadsItem d tree) (three h.is g.heads.is l.is) (a_struct (word h) g.names (mark l) (ends_at (ReadsMembers d y.tree) (two r.is u.is) (members_stand ms y.tree y.same f y.reads)) (mark r) (mark u));
      same = ap₂ (struct_item 0) g.same y.same;
      left = u.left;
    }
back_item (enum_item at g no_enumerators) f d v ts k q = absurd f
back_item (enum_item at g (more_enumerators x e es)) f d v ts k q =
    let low = both (height_of_maybe e) (height_of_enumerators es) v in
    let k2 : List TokenKind = Punct p.RIGHT_BRACE ∷ Punct p.SEMICOLON ∷ k in
    let h = headed (Keyword w.ENUM) ts (tag_kinds g (Punct p.LEFT_BRACE ∷ enumerators_kinds (more_enumerators x e es) k2)) q in
    let b = back_tag g h.rest (Punct p.LEFT_BRACE ∷ enumerators_kinds (more_enumerators x e es) k2) h.left in
    let l = headed (Punct p.LEFT_BRACE) b.after (enumerators_kinds (more_enumerators x e es) k2) b.left in
    let n = back_name x l.rest (enumerator_value_kinds e (next_enumerators es k2)) l.left in
    let a = back_enumerator_value e f.0 d low.0 n.heads.rest (next_enumerators es k2) n.heads.left in
    let z = back_enumerators es f.1 d low.1 n.ident a.tree n.heads.token n.heads.rest a.after k2 n.names a.reads a.left in
    let r = headed (Punct p.RIGHT_BRACE) z.after (Punct p.SEMICOLON ∷ k) z.left in
    let u = headed (Punct p.SEMICOLON) r.rest k r.left in
    let trees : Enumerators = more_enumerators n.ident a.tree z.tree in
    let tree : Item = enum_item h.token.from b.tree trees in
    record {
      tree = tree;
      after = u.rest;
      reads = begins_at (ReadsItem d tree) h.is (an_enum (word h) (ends_at (ReadsTag b.tree) l.is b.reads) (mark l) (ends_at (ReadsEnumerators d trees) (two r.is u.is) (begins_at (ReadsEnumerators d trees) n.heads.is z.reads)) (mark r) (mark u));
      same = ap₂ (enum_item 0) b.same (ap_three more_enumerators n.same a.same z.same);
      left = u.left;
    }
back_item (tag_item at x) f d v ts k q =
    let h = headed (Keyword w.STRUCT) ts (Name x.name ∷ Punct p.SEMICOLON ∷ k) q in
    let g = back_name x h.rest (Punct p.SEMICOLON ∷ k) h.left in
    let u = headed (Punct p.SEMICOLON) g.heads.rest k g.heads.left in
    let tree : Item = tag_item h.token.from g.ident in
    record { tree = tree; after = u.rest; reads = begins_at (ReadsItem d tree) (three h.is g.heads.is u.is) (a_tag_alone (word h) g.names (mark u)); same = ap (tag_item 0) g.same; left = u.left }
back_item (decl_item at x) f d v ts k q =
    let y = back_decl x f d v ts k q in record { tree = decl_item (place ts) y.tree; after = y.after; reads = an_item_declaration refl y.reads; same = ap (decl_item 0) y.same; left = y.left }
back_item (function_item at st s e (block at' is)) f d v ts k q =
    let low = both (height_of_declarator e) (height_of_stmt (block at' is)) v in
    let g = back_storage st ts (spec_kinds s (declarator_kinds e (stmt_kinds (block at' is) k))) q in
    let b = back_spec s g.after (declarator_kinds e (stmt_kinds (block at' is) k)) g.left in
    let y = back_declarator e f.0 d (deeper (height_of_declarator e) low.0) b.after (stmt_kinds (block at' is) k) b.left in
    let h = headed (Punct p.LEFT_BRACE) y.after (block_items_kinds is (Punct p.RIGHT_BRACE ∷ k)) y.left in
    let x = back_block_items is f.2 d (le_of_suc-le low.1) h.rest (Punct p.RIGHT_BRACE ∷ k) h.left in
    let c = headed (Punct p.RIGHT_BRACE) x.after k x.left in
    record {
      tree = function_item (place ts) st b.tree y.tree (block h.token.from x.tree);
      after = c.rest;
      reads = a_definition refl g.reads b.reads (ends_at (Declares d y.tree) h.is (declares_of (is_direct e) y.reads)) (has_name e y.tree y.same f.1) (mark h) (ends_at (ReadsBlockItems d x.tree) c.is x.reads) (mark c);
      same = ap_three (λ (z : Spec) (y : Declarator) (js : BlockItems). function_item 0 st z y (block 0 js)) b.same y.same x.same;
      left = c.left;
    }
back_item a f d v ts k q = absurd f.2

-- items of a unit, or none
abbrev ItemsOrNone : ℕ → Items → List Token → List Token → Type 0
ItemsOrNone d no_items i j = i ≡ j
ItemsOrNone d (more_items a rest) i j = ReadsItems d (more_items a rest) i j

item_before : {d : ℕ} {a : Item} {i j k : List Token} (rest : Items) → ReadsItem d a i j → ItemsOrNone d rest j k → ReadsItems d (more_items a rest) i k
item_before {d} {a} {i} {j} {k} no_items r q = subst (λ (x : List Token). ReadsItems d (more_items a no_items) i x) q (last_item r)
item_before (more_items b rest) r f = next_item r f

back_items : (u : Items) → AreFineItems u → (d : ℕ) → height_of_unit u ≤ d → (ts : List Token) (k : List TokenKind) → kinds ts ≡ unit_kinds u k → BackOf (ItemsOrNone d) unplaced_unit u ts k
back_items no_items f d v ts k q = record { tree = no_items; after = ts; reads = refl; same = refl; left = q }
back_items (more_items a u) f d v ts k q =
    let low = both (height_of_item a) (height_of_unit u) v in
    let x = back_item a f.0 d low.0 ts (unit_kinds u k) q in
    let z = back_items u f.1 d low.1 x.after k x.left in
    record { tree = more_items x.tree z.tree; after = z.after; reads = item_before z.tree x.reads z.reads; same = ap₂ more_items x.same z.same; left = z.left }

-- what is read back of a whole unit
pub record BackUnit (d : ℕ) (u : Items) (ts : List Token) : Type 0 where
  pub other : Items
  pub reads : ReadsItems d other ts []
  pub same : AreSame other u

no_kinds : (ts : List Token) → kinds ts ≡ [] → ts ≡ []
no_kinds [] q = refl
no_kinds (t ∷ ts) q = absurd (cc)

pub back_unit : (u : Items) → AreSomeItems u → (d : ℕ) → height_of_unit u ≤ d → (ts : List Token) → kinds ts ≡ unit_kinds u [] → BackUnit d u ts
back_unit no_items f d v ts q = absurd f
back_unit (more_items a u) f d v ts q =
    let low = both (height_of_item a) (height_of_unit u) v in
    let x = back_item a f.0 d low.0 ts (unit_kinds u []) q in
    let z = back_items u f.1 d low.1 x.after [] x.left in
    record {
      other = more_items x.tree z.tree;
      reads = ends_at (ReadsItems d (more_items x.tree z.tree)) (no_kinds z.after z.left) (item_before z.tree x.reads z.reads);
      same = ap₂ more_items x.same z.same;
    }
