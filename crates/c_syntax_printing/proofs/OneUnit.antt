-- No tokens spell two units.
use Rattle.std.proofs.Common.{◌≡◌, ℕ, ◌≤◌, List, ◌∷◌, refl, ap, sym, ◌∙◌, arith}
use Rattle.c_lexer.specs.declared.token.Token.{Token}
use Rattle.c_lexer.specs.declared.punctuator.TheConstants.{LEFT_BRACE, RIGHT_BRACE, SEMICOLON, COMMA}
use Rattle.c_lexer.specs.declared.keyword.TheConstants.{ENUM, STRUCT}
use Rattle.c_syntax.proofs.BackTokens.{begins_at}
use Rattle.c_syntax_printing.specs.Ranks.{rank}
use Rattle.c_syntax.specs.Tree.{Ident, Storage, Spec, Maybe, Declarator, Declarators, Members, Enumerators, Tag, Item, Items, BlockItems, Decl}
use Rattle.c_syntax.specs.Tree.{block, struct_item, enum_item, tag_item, decl_item, function_item}
use Rattle.c_syntax.specs.Tokens.{Is, IsKeyword, place}
use Rattle.c_syntax.specs.Specifiers.{Names, no_const, ReadsStorage, ReadsSpec, is_struct, is_enum}
use Rattle.c_syntax.specs.Grammar.{Declares, HasName}
use Rattle.c_syntax.specs.Statements.{ReadsDecl, ReadsBlockItems}
use Rattle.c_syntax.specs.Statements.{ReadsDeclarators, last_declarator, next_declarator, ReadsMembers, last_member, next_member}
use Rattle.c_syntax.specs.Statements.{ReadsEnumeratorValue, no_enumerator_value, an_enumerator_value, ReadsEnumerators, last_enumerator, next_enumerator, ReadsTag, no_name, a_tag}
use Rattle.c_syntax.specs.Statements.{ReadsItem, a_struct, an_enum, an_enum_with_comma, a_tag_alone, an_item_declaration, a_definition, ReadsItems, last_item, next_item}
use Rattle.c_syntax_printing.proofs.Ranks.{ranked, heads, one_ident, words_apart}
use Rattle.c_syntax_printing.specs.Starts.{EndsDeclarator, EndsSpec}
use Rattle.c_syntax_printing.proofs.Ends.{started}
use Rattle.c_syntax_printing.specs.Heads.{head}
use Rattle.c_syntax_printing.proofs.Heads.{headed, worded, name_head, spec_head, declarator_head, no_storage_at}
use Rattle.c_syntax_printing.proofs.OneSpecifier.{no_bare_enum}
use Rattle.c_syntax_printing.proofs.One.{same, same_declarator, same_spec, named_ends_spec}
use Rattle.c_syntax_printing.proofs.OneDecl.{moved_spec, EndsList, brace_ends, comma_ends, after_comma, Leads, same_leads, decl_leads, same_decl, decl_head, storage_head}
use Rattle.c_syntax_printing.proofs.OneStmt.{same_block_items}

-- declarators end at a semicolon
pub record EndsDeclarators (j : List Token) : Type 0 where
  pub semicolon : head j ≡ 22
  pub ends : EndsDeclarator j

pub semicolon_ends : {t : Token} {j : List Token} → Is SEMICOLON t → EndsDeclarators (t ∷ j)
semicolon_ends h = record { semicolon = headed h; ends = omega (arith, started h) }

pub same_declarators : {d x : ℕ} {a b : Declarators} {i j k : List Token} → ReadsDeclarators d a i j → ReadsDeclarators x b i k → EndsDeclarators j → EndsDeclarators k → (a ≡ b) × (j ≡ k)
same_declarators (last_declarator r n) (last_declarator v m) s z = let y = same_declarator r v s.ends z.ends in (cc, y.1)
same_declarators (last_declarator r n) (next_declarator v m c b) s z =
    let y = same_declarator r v s.ends (omega (arith, started c)) in absurd (omega (arith, ap head y.1, headed c, s.semicolon))
same_declarators (next_declarator r n h f) (last_declarator v m) s z =
    let y = same_declarator r v (omega (arith, started h)) z.ends in absurd (omega (arith, ap head y.1, headed h, z.semicolon))
same_declarators (next_declarator r n h f) (next_declarator v m c b) s z =
    let y = same_declarator r v (omega (arith, started h)) (omega (arith, started c)) in
    let w = same_declarators f (begins_at (ReadsDeclarators _ _) (heads y.1).1 b) s z in (cc, w.1)

pub declarators_end_spec : {d : ℕ} {a : Declarators} {i j : List Token} → ReadsDeclarators d a i j → EndsSpec i
declarators_end_spec (last_declarator r n) = named_ends_spec r n
declarators_end_spec (next_declarator r n c b) = named_ends_spec r n

-- one line of members: the specifiers, the declarators and the semicolon
pub same_line : {d x : ℕ} {s z : Spec} {a b : Declarators} {t u : Token} {i j k m n : List Token} → ReadsSpec s i j → ReadsDeclarators d a j (t ∷ k) → Is SEMICOLON t →
    ReadsSpec z i m → ReadsDeclarators x b m (u ∷ n) → Is SEMICOLON u → (s ≡ z) × (a ≡ b) × (k ≡ n)
same_line s f h z b c =
    let y = same_spec s z (declarators_end_spec f) (declarators_end_spec b) in
    let w = same_declarators f (begins_at (ReadsDeclarators _ _) y.1 b) (semicolon_ends h) (semicolon_ends c) in (y.0, w.0, (heads w.1).1)

pub members_head : {d : ℕ} {a : Members} {i j : List Token} → ReadsMembers d a i j → head i ≡ 2
members_head (last_member p s f h) = spec_head s
members_head (next_member p s f h g) = spec_head s

pub same_members : {d x : ℕ} {a b : Members} {i j k : List Token} → ReadsMembers d a i j → ReadsMembers x b i k → head j ≡ 5 → head k ≡ 5 → (a ≡ b) × (j ≡ k)
same_members (last_member p s f h) (last_member q z b c) o e = let y = same_line s f h z b c in (cc, y.2)
same_members (last_member p s f h) (next_member q z b c l) o e = let y = same_line s f h z b c in absurd (omega (arith, ap head y.2, members_head l))
same_members (next_member p s f h g) (last_member q z b c) o e = let y = same_line s f h z b c in absurd (omega (arith, ap head y.2, members_head g))
same_members (next_member p s f h g) (next_member q z b c l) o e =
    let y = same_line s f h z b c in let w = same_members g (begins_at (ReadsMembers _ _) y.2 l) o e in (cc, w.1)

pub same_enumerator_value : {d x : ℕ} {a b : Maybe} {i j k : List Token} → ReadsEnumeratorValue d a i j → ReadsEnumeratorValue x b i k → 14 ≤ rank j → 14 ≤ rank k → (a ≡ b) × (j ≡ k)
same_enumerator_value no_enumerator_value no_enumerator_value s z = (refl, refl)
same_enumerator_value no_enumerator_value (an_enumerator_value o v) s z = absurd (omega (arith, ranked o))
same_enumerator_value (an_enumerator_value h r) no_enumerator_value s z = absurd (omega (arith, ranked h))
same_enumerator_value (an_enumerator_value h r) (an_enumerator_value o v) s z = let y = same r v (omega arith) (omega arith) in (cc, y.1)

pub enumerators_head : {d : ℕ} {a : Enumerators} {i j : List Token} → ReadsEnumerators d a i j → head i ≡ 20
enumerators_head (last_enumerator n r) = name_head n
enumerators_head (next_enumerator n r c b) = name_head n

pub same_enumerators : {d x : ℕ} {a b : Enumerators} {i j k : List Token} → ReadsEnumerators d a i j → ReadsEnumerators x b i k → EndsList j → EndsList k → (a ≡ b) × (j ≡ k)
same_enumerators (last_enumerator n r) (last_enumerator m v) s z = let o = one_ident n m in let y = same_enumerator_value r v s.stops z.stops in (cc, y.1)
same_enumerators (last_enumerator n r) (next_enumerator m v c b) s z =
    let y = same_enumerator_value r v s.stops (omega (arith, ranked c)) in absurd (omega (arith, after_comma y.1 s c, enumerators_head b))
same_enumerators (next_enumerator n r h f) (last_enumerator m v) s z =
    let y = same_enumerator_value r v (omega (arith, ranked h)) z.stops in absurd (omega (arith, after_comma (sym y.1) z h, enumerators_head f))
same_enumerators (next_enumerator n r h f) (next_enumerator m v c b) s z =
    let o = one_ident n m in
    let y = same_enumerator_value r v (omega (arith, ranked h)) (omega (arith, ranked c)) in
    let w = same_enumerators f (begins_at (ReadsEnumerators _ _) (heads y.1).1 b) s z in (cc, w.1)

pub same_tag : {g h : Tag} {i j k : List Token} → ReadsTag g i j → ReadsTag h i k → head j ≡ 21 → head k ≡ 21 → (g ≡ h) × (j ≡ k)
same_tag no_name no_name s z = (refl, refl)
same_tag no_name (a_tag m) s z = absurd (omega (arith, name_head m))
same_tag (a_tag n) no_name s z = absurd (omega (arith, name_head n))
same_tag (a_tag n) (a_tag m) s z = let o = one_ident n m in (cc, refl)

-- the front of a definition
abbrev pub defines : {d : ℕ} {st : Storage} {s : Spec} {e : Declarator} {t : Token} {i j k m : List Token} → ReadsStorage st i j → ReadsSpec s j k → Declares d e k (t ∷ m) → HasName e → Is LEFT_BRACE t → Leads i
defines {d} {st} {s} {e} {t} {i} {j} {k} {m} r z c n h = record {
  depth = d;
  storage = st;
  spec = s;
  declarator = e;
  types = j;
  names = k;
  after = t ∷ m;
  stands = r;
  specifies = z;
  declares = c;
  named = n;
  ends = omega (arith, started h);
}

-- a type that no name follows begins neither a declaration nor a definition
pub no_name_after : {z : Spec} {i m : List Token} → ReadsSpec z i m → EndsSpec m → (head m ≡ 20 → ⊥) → Leads i → ⊥
no_name_after s z f a =
    let y = no_storage_at a.stands (spec_head s) in
    let w = same_spec s (moved_spec y a.specifies) z (named_ends_spec a.declares a.named) in
    f (ap head w.1 ∙ declarator_head a.declares a.named)

pub struct_leads : {ident : Ident} {t n l : Token} {i : List Token} → IsKeyword STRUCT t → Names ident n → Is LEFT_BRACE l → Leads (t ∷ n ∷ l ∷ i) → ⊥
struct_leads w n h a = no_name_after (is_struct no_const w n no_const) (omega (arith, started h)) (λ k. omega (arith, headed h)) a

pub tag_leads : {ident : Ident} {t n u : Token} {i : List Token} → IsKeyword STRUCT t → Names ident n → Is SEMICOLON u → Leads (t ∷ n ∷ u ∷ i) → ⊥
tag_leads w n h a = no_name_after (is_struct no_const w n no_const) (omega (arith, started h)) (λ k. omega (arith, headed h)) a

pub moved_enum : {s : Spec} {t l : Token} {i j k : List Token} → t ∷ l ∷ i ≡ j → ReadsSpec s j k → ReadsSpec s (t ∷ l ∷ i) k
moved_enum q r = rw q r

pub enum_leads : {g : Tag} {t l : Token} {i j : List Token} → IsKeyword ENUM t → ReadsTag g i (l ∷ j) → Is LEFT_BRACE l → Leads (t ∷ i) → ⊥
enum_leads w no_name h a = no_bare_enum (moved_enum (no_storage_at a.stands (worded w)) a.specifies) w h
enum_leads w (a_tag n) h a = no_name_after (is_enum no_const w n no_const) (omega (arith, started h)) (λ k. omega (arith, headed h)) a

-- the inside of an enum
pub same_enum : {d x : ℕ} {g h : Tag} {a b : Enumerators} {l m : Token} {i j k n o : List Token} → ReadsTag g i (l ∷ j) → Is LEFT_BRACE l → ReadsEnumerators d a j k → EndsList k →
    ReadsTag h i (m ∷ n) → Is LEFT_BRACE m → ReadsEnumerators x b n o → EndsList o → (g ≡ h) × (a ≡ b) × (k ≡ o)
same_enum r l f s v m b z =
    let y = same_tag r v (headed l) (headed m) in
    let w = same_enumerators f (begins_at (ReadsEnumerators _ _) (heads y.1).1 b) s z in (y.0, w.0, w.1)

struct_case : {d x : ℕ} {ident : Ident} {a : Members} {z : Item} {t n l r u : Token} {i j k : List Token} → IsKeyword STRUCT t → Names ident n → Is LEFT_BRACE l → ReadsMembers d a i (r ∷ u ∷ j) → Is RIGHT_BRACE r →
    ReadsItem x z (t ∷ n ∷ l ∷ i) k → (struct_item t.from ident a ≡ z) × (j ≡ k)
struct_case w n l f h (a_struct p m o b c q) = let y = one_ident n m in let v = same_members f b (headed h) (headed c) in (cc, (heads (heads v.1).1).1)
struct_case w n l f h (an_enum p r o b c q) = absurd (omega (arith, words_apart w p))
struct_case w n l f h (an_enum_with_comma p r o b e c q) = absurd (omega (arith, words_apart w p))
struct_case w n l f h (a_tag_alone p m q) = absurd (omega (arith, headed l, headed q))
struct_case w n l f h (an_item_declaration p r) = absurd (struct_leads w n l (decl_leads r).lead)
struct_case w n l f h (a_definition p r s e m o b c) = absurd (struct_leads w n l (defines r s e m o))

enum_case : {d x : ℕ} {g : Tag} {a : Enumerators} {z : Item} {t l r u : Token} {i j k m : List Token} → IsKeyword ENUM t → ReadsTag g i (l ∷ j) → Is LEFT_BRACE l → ReadsEnumerators d a j (r ∷ u ∷ k) → Is RIGHT_BRACE r →
    ReadsItem x z (t ∷ i) m → (enum_item t.from g a ≡ z) × (k ≡ m)
enum_case w r l f h (a_struct p m o b c q) = absurd (omega (arith, words_apart w p))
enum_case w r l f h (an_enum p v o b c q) = let y = same_enum r l f (brace_ends h) v o b (brace_ends c) in (cc, (heads (heads y.2).1).1)
enum_case w r l f h (an_enum_with_comma p v o b e c q) = let y = same_enum r l f (brace_ends h) v o b (comma_ends e c) in absurd (omega (arith, ap head y.2, headed h, headed e))
enum_case w r l f h (a_tag_alone p m q) = absurd (omega (arith, words_apart w p))
enum_case w r l f h (an_item_declaration p v) = absurd (enum_leads w r l (decl_leads v).lead)
enum_case w r l f h (a_definition p v s e m o b c) = absurd (enum_leads w r l (defines v s e m o))

enum_with_comma_case : {d x : ℕ} {g : Tag} {a : Enumerators} {z : Item} {t l c r u : Token} {i j k m : List Token} → IsKeyword ENUM t → ReadsTag g i (l ∷ j) → Is LEFT_BRACE l → ReadsEnumerators d a j (c ∷ r ∷ u ∷ k) → Is COMMA c → Is RIGHT_BRACE r →
    ReadsItem x z (t ∷ i) m → (enum_item t.from g a ≡ z) × (k ≡ m)
enum_with_comma_case w r l f n h (a_struct p m o b c q) = absurd (omega (arith, words_apart w p))
enum_with_comma_case w r l f n h (an_enum p v o b c q) = let y = same_enum r l f (comma_ends n h) v o b (brace_ends c) in absurd (omega (arith, ap head y.2, headed c, headed n))
enum_with_comma_case w r l f n h (an_enum_with_comma p v o b e c q) = let y = same_enum r l f (comma_ends n h) v o b (comma_ends e c) in (cc, (heads (heads (heads y.2).1).1).1)
enum_with_comma_case w r l f n h (a_tag_alone p m q) = absurd (omega (arith, words_apart w p))
enum_with_comma_case w r l f n h (an_item_declaration p v) = absurd (enum_leads w r l (decl_leads v).lead)
enum_with_comma_case w r l f n h (a_definition p v s e m o b c) = absurd (enum_leads w r l (defines v s e m o))

tag_case : {x : ℕ} {ident : Ident} {z : Item} {t n u : Token} {i k : List Token} → IsKeyword STRUCT t → Names ident n → Is SEMICOLON u → ReadsItem x z (t ∷ n ∷ u ∷ i) k → (tag_item t.from ident ≡ z) × (i ≡ k)
tag_case w n h (a_struct p m o b c q) = absurd (omega (arith, headed h, headed o))
tag_case w n h (an_enum p r o b c q) = absurd (omega (arith, words_apart w p))
tag_case w n h (an_enum_with_comma p r o b e c q) = absurd (omega (arith, words_apart w p))
tag_case w n h (a_tag_alone p m q) = let y = one_ident n m in (cc, refl)
tag_case w n h (an_item_declaration p r) = absurd (tag_leads w n h (decl_leads r).lead)
tag_case w n h (a_definition p r s e m o b c) = absurd (tag_leads w n h (defines r s e m o))

declaration_case : {d x at : ℕ} {a : Decl} {z : Item} {i j k : List Token} → at ≡ place i → ReadsDecl d a i j → ReadsItem x z i k → (decl_item at a ≡ z) × (j ≡ k)
declaration_case p r (a_struct w n l b c q) = absurd (struct_leads w n l (decl_leads r).lead)
declaration_case p r (an_enum w v l b c q) = absurd (enum_leads w v l (decl_leads r).lead)
declaration_case p r (an_enum_with_comma w v l b e c q) = absurd (enum_leads w v l (decl_leads r).lead)
declaration_case p r (a_tag_alone w n q) = absurd (tag_leads w n q (decl_leads r).lead)
declaration_case p r (an_item_declaration q v) = let y = same_decl r v in (cc, y.1)
declaration_case p r (a_definition q v s e m o b c) =
    let y = same_leads (decl_leads r).lead (defines v s e m o) in absurd ((decl_leads r).no_brace (ap head y.3 ∙ headed o))

pub same_function : {at it : ℕ} {st su : Storage} {s z : Spec} {e f : Declarator} {a b : BlockItems} {t u : Token} → at ≡ it → st ≡ su → s ≡ z → e ≡ f → t ≡ u → a ≡ b →
    function_item at st s e (block t.from a) ≡ function_item it su z f (block u.from b)
same_function {t = t} {u = u} p q r v h w = let y : t.from ≡ u.from = ap (λ (k : Token). k.from) h in cc

definition_case : {d x at : ℕ} {st : Storage} {s : Spec} {e : Declarator} {a : BlockItems} {z : Item} {t u : Token} {i j k m n o : List Token} → at ≡ place i → ReadsStorage st i j → ReadsSpec s j k → Declares d e k (t ∷ m) → HasName e → Is LEFT_BRACE t → ReadsBlockItems d a m (u ∷ n) → Is RIGHT_BRACE u →
    ReadsItem x z i o → (function_item at st s e (block t.from a) ≡ z) × (n ≡ o)
definition_case p r s e n h f c (a_struct w m l b q o) = absurd (struct_leads w m l (defines r s e n h))
definition_case p r s e n h f c (an_enum w v l b q o) = absurd (enum_leads w v l (defines r s e n h))
definition_case p r s e n h f c (an_enum_with_comma w v l b k q o) = absurd (enum_leads w v l (defines r s e n h))
definition_case p r s e n h f c (a_tag_alone w m q) = absurd (tag_leads w m q (defines r s e n h))
definition_case p r s e n h f c (an_item_declaration q v) =
    let y = same_leads (decl_leads v).lead (defines r s e n h) in absurd ((decl_leads v).no_brace (ap head y.3 ∙ headed h))
definition_case p r s e n h f c (a_definition q v z g m o b l) =
    let y = same_leads (defines r s e n h) (defines v z g m o) in
    let k = heads y.3 in
    let w = same_block_items f (begins_at (ReadsBlockItems _ _) k.1 b) (headed c) (headed l) in (same_function (p ∙ sym q) y.0 y.1 y.2 k.0 w.0, (heads w.1).1)

pub same_item : {d x : ℕ} {a b : Item} {i j k : List Token} → ReadsItem d a i j → ReadsItem x b i k → (a ≡ b) × (j ≡ k)
same_item (a_struct w n l f c u) v = struct_case w n l f c v
same_item (an_enum w r l f c u) v = enum_case w r l f c v
same_item (an_enum_with_comma w r l f e c u) v = enum_with_comma_case w r l f e c v
same_item (a_tag_alone w n u) v = tag_case w n u v
same_item (an_item_declaration p r) v = declaration_case p r v
same_item (a_definition p r s e n h f c) v = definition_case p r s e n h f c v

item_head : {d : ℕ} {a : Item} {i j : List Token} → ReadsItem d a i j → 2 ≤ head i
item_head (a_struct w n l f c u) = omega (arith, worded w)
item_head (an_enum w r l f c u) = omega (arith, worded w)
item_head (an_enum_with_comma w r l f e c u) = omega (arith, worded w)
item_head (a_tag_alone w n u) = omega (arith, worded w)
item_head (an_item_declaration p r) = (decl_head r).0
item_head (a_definition p r s e n h f c) = (storage_head r (spec_head s)).0

items_head : {d : ℕ} {a : Items} {i j : List Token} → ReadsItems d a i j → 2 ≤ head i
items_head (last_item r) = item_head r
items_head (next_item r f) = item_head r

pub same_items : {d x : ℕ} {a b : Items} {i j k : List Token} → ReadsItems d a i j → ReadsItems x b i k → head j ≡ 0 → head k ≡ 0 → (a ≡ b) × (j ≡ k)
same_items (last_item r) (last_item v) s z = let y = same_item r v in (cc, y.1)
same_items (last_item r) (next_item v b) s z = let y = same_item r v in absurd (omega (arith, ap head y.1, items_head b))
same_items (next_item r f) (last_item v) s z = let y = same_item r v in absurd (omega (arith, ap head y.1, items_head f))
same_items (next_item r f) (next_item v b) s z = let y = same_item r v in let w = same_items f (begins_at (ReadsItems _ _) y.1 b) s z in (cc, w.1)
