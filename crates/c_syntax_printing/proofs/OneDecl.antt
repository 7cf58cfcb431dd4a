-- No tokens spell two initialisers, two declarations, or two lists of labels.
use Rattle.std.proofs.Common.{◌≡◌, ℕ, ◌≤◌, List, ◌∷◌, refl, ap, sym, ◌∙◌, arith}
use Rattle.c_lexer.specs.declared.token.Token.{Token}
use Rattle.c_lexer.specs.declared.punctuator.TheConstants.{RIGHT_BRACE, SEMICOLON, COMMA}
use Rattle.c_syntax.proofs.BackTokens.{begins_at}
use Rattle.c_syntax_printing.specs.Ranks.{rank}
use Rattle.c_syntax.specs.Tree.{Storage, no_storage, Spec, Maybe, Declarator, Init, Inits, MaybeInit, Parts, Decl, First, Labels}
use Rattle.c_syntax.specs.Tokens.{Is}
use Rattle.c_syntax.specs.Specifiers.{ReadsStorage, static_stands, extern_stands, ReadsSpec}
use Rattle.c_syntax.specs.Specifiers.ReadsStorage.{no_storage_stands}
use Rattle.c_syntax.specs.Grammar.{Declares, HasName}
use Rattle.c_syntax.specs.Statements.{ReadsInit, an_expression, a_list, a_list_with_comma, ReadsInits, last_init, next_init, ReadsMaybeInit, no_initialiser, an_initialiser, ReadsParts, last_part, next_part, ReadsDecl, a_declaration, IsPlainDecl}
use Rattle.c_syntax.specs.Statements.{ReadsMaybe, no_expression_stands, an_expression_stands, ReadsFirst, first_nothing, first_expression, first_declaration, ReadsLabels, last_case, last_default, next_case, next_default}
use Rattle.c_syntax_printing.proofs.Ranks.{ranked, heads}
use Rattle.c_syntax_printing.specs.Starts.{EndsDeclarator, EndsSpec}
use Rattle.c_syntax_printing.proofs.Ends.{started}
use Rattle.c_syntax_printing.specs.Heads.{head, second}
use Rattle.c_syntax_printing.proofs.Heads.{headed, worded, expression_head, spec_head}
use Rattle.c_syntax_printing.proofs.One.{same, same_declarator, same_spec, same_storage, named_ends_spec, spec_ends_storage}

-- the same phrase, read from an equal list
pub moved_inits : {d : ℕ} {a : Inits} {i m j : List Token} → i ≡ m → ReadsInits d a m j → ReadsInits d a i j
moved_inits q r = rw q r

pub moved_spec : {s : Spec} {i m j : List Token} → i ≡ m → ReadsSpec s m j → ReadsSpec s i j
moved_spec q r = rw q r

-- a list with commas between goes on after a comma, unless a brace follows it
pub record EndsList (j : List Token) : Type 0 where
  pub stops : 14 ≤ rank j
  pub ends : head j ≡ 7 → second j ≡ 5

pub brace_ends : {t : Token} {j : List Token} → Is RIGHT_BRACE t → EndsList (t ∷ j)
brace_ends h = record { stops = omega (arith, ranked h); ends = λ k. absurd (omega (arith, headed h)) }

pub comma_ends : {t u : Token} {j : List Token} → Is COMMA t → Is RIGHT_BRACE u → EndsList (t ∷ u ∷ j)
comma_ends h b = record { stops = omega (arith, ranked h); ends = λ k. headed b }

-- what stands after a comma where the list ends
pub after_comma : {t : Token} {i k : List Token} → k ≡ t ∷ i → EndsList k → Is COMMA t → head i ≡ 5
after_comma {t} {i} q e h = let f : EndsList (t ∷ i) = rw q at e in f.ends (headed h)

init_head : {d : ℕ} {a : Init} {i j : List Token} → ReadsInit d a i j → head i ≡ 5 → ⊥
init_head (an_expression r p) h = omega (arith, expression_head r)
init_head (a_list o r c) h = omega (arith, headed o)
init_head (a_list_with_comma o r c b) h = omega (arith, headed o)

inits_head : {d : ℕ} {a : Inits} {i j : List Token} → ReadsInits d a i j → head i ≡ 5 → ⊥
inits_head (last_init r) h = init_head r h
inits_head (next_init r c b) h = init_head r h

mutual
  pub same_init : {d x : ℕ} {a b : Init} {i j k : List Token} → ReadsInit d a i j → ReadsInit x b i k → 14 ≤ rank j → 14 ≤ rank k → (a ≡ b) × (j ≡ k)
  same_init (an_expression r p) (an_expression v q) s z = let y = same r v s z in (cc, y.1)
  same_init (an_expression r p) (a_list o v b) s z = absurd (omega (arith, expression_head r, headed o))
  same_init (an_expression r p) (a_list_with_comma o v b e) s z = absurd (omega (arith, expression_head r, headed o))
  same_init (a_list h r c) (an_expression v q) s z = absurd (omega (arith, expression_head v, headed h))
  same_init (a_list_with_comma h r c e) (an_expression v q) s z = absurd (omega (arith, expression_head v, headed h))
  same_init (a_list h r c) (a_list o v b) s z =
      let y = same_inits r v (brace_ends c) (brace_ends b) in (cc, (heads y.1).1)
  same_init (a_list h r c) (a_list_with_comma o v b e) s z =
      let y = same_inits r v (brace_ends c) (comma_ends b e) in absurd (omega (arith, ap head y.1, headed c, headed b))
  same_init (a_list_with_comma h r c e) (a_list o v b) s z =
      let y = same_inits r v (comma_ends c e) (brace_ends b) in absurd (omega (arith, ap head y.1, headed c, headed b))
  same_init (a_list_with_comma h r c e) (a_list_with_comma o v b l) s z =
      let y = same_inits r v (comma_ends c e) (comma_ends b l) in (cc, (heads (heads y.1).1).1)

  pub same_inits : {d x : ℕ} {a b : Inits} {i j k : List Token} → ReadsInits d a i j → ReadsInits x b i k → EndsList j → EndsList k → (a ≡ b) × (j ≡ k)
  same_inits (last_init r) (last_init v) s z = let y = same_init r v s.stops z.stops in (cc, y.1)
  same_inits (last_init r) (next_init v b l) s z =
      let y = same_init r v s.stops (omega (arith, ranked b)) in absurd (inits_head l (after_comma y.1 s b))
  same_inits (next_init r c f) (last_init v) s z =
      let y = same_init r v (omega (arith, ranked c)) z.stops in absurd (inits_head f (after_comma (sym y.1) z c))
  same_inits (next_init r c f) (next_init v b l) s z =
      let y = same_init r v (omega (arith, ranked c)) (omega (arith, ranked b)) in
      let w = same_inits f (moved_inits (heads y.1).1 l) s z in (cc, w.1)

same_maybe_init : {d x : ℕ} {a b : MaybeInit} {i j k : List Token} → ReadsMaybeInit d a i j → ReadsMaybeInit x b i k → 14 ≤ rank j → 14 ≤ rank k → (a ≡ b) × (j ≡ k)
same_maybe_init no_initialiser no_initialiser s z = (refl, refl)
same_maybe_init no_initialiser (an_initialiser h r) s z = absurd (omega (arith, ranked h))
same_maybe_init (an_initialiser h r) no_initialiser s z = absurd (omega (arith, ranked h))
same_maybe_init (an_initialiser h r) (an_initialiser o v) s z = let y = same_init r v s z in (cc, y.1)

-- a declarator ends where its initialiser, if any, begins
pub maybe_init_ends : {d : ℕ} {a : MaybeInit} {i j : List Token} → ReadsMaybeInit d a i j → EndsDeclarator j → EndsDeclarator i
maybe_init_ends no_initialiser s = s
maybe_init_ends (an_initialiser h r) s = omega (arith, started h)

pub maybe_init_head : {d : ℕ} {a : MaybeInit} {i j : List Token} → ReadsMaybeInit d a i j → (head j ≡ 21 → ⊥) → head i ≡ 21 → ⊥
maybe_init_head no_initialiser f = f
maybe_init_head (an_initialiser h r) f = λ k. omega (arith, headed h)

pub maybe_init_at : {d : ℕ} {a : MaybeInit} {t : Token} {i j : List Token} → ReadsMaybeInit d a i (t ∷ j) → Is COMMA t → EndsDeclarator i
maybe_init_at r c = maybe_init_ends r (omega (arith, started c))

-- the parts of a declaration end at a semicolon
record EndsParts (j : List Token) : Type 0 where
  semicolon : head j ≡ 22
  stops : 14 ≤ rank j
  ends : EndsDeclarator j

semicolon_ends : {t : Token} {j : List Token} → Is SEMICOLON t → EndsParts (t ∷ j)
semicolon_ends h = record { semicolon = headed h; stops = omega (arith, ranked h); ends = omega (arith, started h) }

same_parts : {d x : ℕ} {a b : Parts} {i j k : List Token} → ReadsParts d a i j → ReadsParts x b i k → EndsParts j → EndsParts k → (a ≡ b) × (j ≡ k)
same_parts (last_part r n f) (last_part v m b) s z =
    let y = same_declarator r v (maybe_init_ends f s.ends) (maybe_init_ends b z.ends) in
    let w = same_maybe_init f (begins_at (ReadsMaybeInit _ _) y.1 b) s.stops z.stops in (cc, w.1)
same_parts (last_part r n f) (next_part v m b c l) s z =
    let y = same_declarator r v (maybe_init_ends f s.ends) (maybe_init_at b c) in
    let w = same_maybe_init f (begins_at (ReadsMaybeInit _ _) y.1 b) s.stops (omega (arith, ranked c)) in absurd (omega (arith, ap head w.1, headed c, s.semicolon))
same_parts (next_part r n f h g) (last_part v m b) s z =
    let y = same_declarator r v (maybe_init_at f h) (maybe_init_ends b z.ends) in
    let w = same_maybe_init f (begins_at (ReadsMaybeInit _ _) y.1 b) (omega (arith, ranked h)) z.stops in absurd (omega (arith, ap head w.1, headed h, z.semicolon))
same_parts (next_part r n f h g) (next_part v m b c l) s z =
    let y = same_declarator r v (maybe_init_at f h) (maybe_init_at b c) in
    let w = same_maybe_init f (begins_at (ReadsMaybeInit _ _) y.1 b) (omega (arith, ranked h)) (omega (arith, ranked c)) in
    let u = same_parts g (begins_at (ReadsParts _ _) (heads w.1).1 l) s z in (cc, u.1)

pub parts_end_spec : {d : ℕ} {a : Parts} {i j : List Token} → ReadsParts d a i j → EndsSpec i
parts_end_spec (last_part r n f) = named_ends_spec r n
parts_end_spec (next_part r n f h g) = named_ends_spec r n

-- what a declaration or a definition of a function begins with
pub record Leads (i : List Token) : Type 0 where
  pub depth : ℕ
  pub storage : Storage
  pub spec : Spec
  pub declarator : Declarator
  pub types : List Token
  pub names : List Token
  pub after : List Token
  pub stands : ReadsStorage storage i types
  pub specifies : ReadsSpec spec types names
  pub declares : Declares depth declarator names after
  pub named : HasName declarator
  pub ends : EndsDeclarator after

pub same_leads : {i : List Token} (a b : Leads i) → (a.storage ≡ b.storage) × (a.spec ≡ b.spec) × (a.declarator ≡ b.declarator) × (a.after ≡ b.after)
same_leads a b =
    let y = same_storage a.stands b.stands (spec_ends_storage a.specifies) (spec_ends_storage b.specifies) in
    let w = same_spec a.specifies (moved_spec y.1 b.specifies) (named_ends_spec a.declares a.named) (named_ends_spec b.declares b.named) in
    let u = same_declarator a.declares (begins_at (Declares _ _) w.1 b.declares) a.ends b.ends in
    (y.0, w.0, u.0, u.1)

-- what a declaration begins with; it has no brace there
pub record LeadsDecl (i : List Token) : Type 0 where
  pub lead : Leads i
  pub no_brace : head lead.after ≡ 21 → ⊥

pub decl_leads : {d : ℕ} {a : Decl} {i j : List Token} → ReadsDecl d a i j → LeadsDecl i
decl_leads {d} (a_declaration p r s (last_part e n v) h) = record {
  lead = record { depth = d; storage = _; spec = _; declarator = _; types = _; names = _; after = _; stands = r; specifies = s; declares = e; named = n; ends = maybe_init_ends v (omega (arith, started h)) };
  no_brace = maybe_init_head v (λ k. omega (arith, headed h));
}
decl_leads {d} (a_declaration p r s (next_part e n v c f) h) = record {
  lead = record { depth = d; storage = _; spec = _; declarator = _; types = _; names = _; after = _; stands = r; specifies = s; declares = e; named = n; ends = maybe_init_at v c };
  no_brace = maybe_init_head v (λ k. omega (arith, headed c));
}

pub same_decl : {d x : ℕ} {a b : Decl} {i j k : List Token} → ReadsDecl d a i j → ReadsDecl x b i k → (a ≡ b) × (j ≡ k)
same_decl (a_declaration p r s f h) (a_declaration q v z b c) =
    let y = same_storage r v (spec_ends_storage s) (spec_ends_storage z) in
    let w = same_spec s (moved_spec y.1 z) (parts_end_spec f) (parts_end_spec b) in
    let u = same_parts f (begins_at (ReadsParts _ _) w.1 b) (semicolon_ends h) (semicolon_ends c) in
    (cc, (heads u.1).1)

pub storage_head : {s : Storage} {i j : List Token} → ReadsStorage s i j → head j ≡ 2 → (2 ≤ head i) × (head i ≤ 3)
storage_head no_storage_stands h = (omega arith, omega arith)
storage_head (static_stands w) h = (omega (arith, worded w), omega (arith, worded w))
storage_head (extern_stands w) h = (omega (arith, worded w), omega (arith, worded w))

pub decl_head : {d : ℕ} {a : Decl} {i j : List Token} → ReadsDecl d a i j → (2 ≤ head i) × (head i ≤ 3)
decl_head (a_declaration p r s f h) = storage_head r (spec_head s)

bare_storage : {s : Storage} {i j : List Token} → ReadsStorage s i j → s ≡ no_storage → i ≡ j
bare_storage no_storage_stands h = refl
bare_storage (static_stands w) h = absurd (cc)
bare_storage (extern_stands w) h = absurd (cc)

pub plain_head : {d : ℕ} {a : Decl} {i j : List Token} → ReadsDecl d a i j → IsPlainDecl a → head i ≡ 2
plain_head (a_declaration p r s f h) q = ap head (bare_storage r q) ∙ spec_head s

-- an expression that may be left out ends before the token
pub record Closes (j : List Token) : Type 0 where
  pub stops : 15 ≤ rank j
  pub ends : head j ≡ 20 → ⊥

pub same_maybe : {d x : ℕ} {a b : Maybe} {i j k : List Token} → ReadsMaybe d a i j → ReadsMaybe x b i k → Closes j → Closes k → (a ≡ b) × (j ≡ k)
same_maybe no_expression_stands no_expression_stands s z = (refl, refl)
same_maybe no_expression_stands (an_expression_stands v) s z = absurd (s.ends (expression_head v))
same_maybe (an_expression_stands r) no_expression_stands s z = absurd (z.ends (expression_head r))
same_maybe (an_expression_stands r) (an_expression_stands v) s z = let y = same r v s.stops z.stops in (cc, y.1)

pub same_first : {d x : ℕ} {a b : First} {i j k : List Token} → ReadsFirst d a i j → ReadsFirst x b i k → (a ≡ b) × (j ≡ k)
same_first (first_nothing h) (first_nothing o) = (refl, refl)
same_first (first_nothing h) (first_expression v c) = absurd (omega (arith, headed h, expression_head v))
same_first (first_nothing h) (first_declaration v p) = absurd (omega (arith, headed h, plain_head v p))
same_first (first_expression r h) (first_nothing o) = absurd (omega (arith, headed o, expression_head r))
same_first (first_expression r h) (first_expression v o) =
    let y = same r v (omega (arith, ranked h)) (omega (arith, ranked o)) in (cc, (heads y.1).1)
same_first (first_expression r h) (first_declaration v p) = absurd (omega (arith, expression_head r, plain_head v p))
same_first (first_declaration r q) (first_nothing o) = absurd (omega (arith, headed o, plain_head r q))
same_first (first_declaration r q) (first_expression v o) = absurd (omega (arith, expression_head v, plain_head r q))
same_first (first_declaration r q) (first_declaration v p) = let y = same_decl r v in (cc, y.1)

pub labels_head : {d : ℕ} {a : Labels} {i j : List Token} → ReadsLabels d a i j → (11 ≤ head i) × (head i ≤ 12)
labels_head (last_case w r c) = (omega (arith, worded w), omega (arith, worded w))
labels_head (last_default w c) = (omega (arith, worded w), omega (arith, worded w))
labels_head (next_case w r c f) = (omega (arith, worded w), omega (arith, worded w))
labels_head (next_default w c f) = (omega (arith, worded w), omega (arith, worded w))

no_label : {d : ℕ} {a : Labels} {i j k : List Token} → k ≡ j → 20 ≤ head k → ReadsLabels d a j i → ⊥
no_label q h r = omega (arith, ap head q, (labels_head r).1, (labels_head r).0)

-- labels end before a statement
pub same_labels : {d x : ℕ} {a b : Labels} {i j k : List Token} → ReadsLabels d a i j → ReadsLabels x b i k → 20 ≤ head j → 20 ≤ head k → (a ≡ b) × (j ≡ k)
same_labels (last_case w r c) (last_case u v b) s z =
    let y = same r v (omega (arith, ranked c)) (omega (arith, ranked b)) in (cc, (heads y.1).1)
same_labels (last_case w r c) (next_case u v b l) s z =
    let y = same r v (omega (arith, ranked c)) (omega (arith, ranked b)) in absurd (no_label (heads y.1).1 s l)
same_labels (next_case w r c f) (last_case u v b) s z =
    let y = same r v (omega (arith, ranked c)) (omega (arith, ranked b)) in absurd (no_label (sym (heads y.1).1) z f)
same_labels (next_case w r c f) (next_case u v b l) s z =
    let y = same r v (omega (arith, ranked c)) (omega (arith, ranked b)) in
    let o = same_labels f (begins_at (ReadsLabels _ _) (heads y.1).1 l) s z in (cc, o.1)
same_labels (last_default w c) (last_default u b) s z = (refl, refl)
same_labels (last_default w c) (next_default u b l) s z = absurd (no_label refl s l)
same_labels (next_default w c f) (last_default u b) s z = absurd (no_label refl z f)
same_labels (next_default w c f) (next_default u b l) s z = let o = same_labels f l s z in (cc, o.1)
same_labels (last_case w r c) (last_default u b) s z = absurd (omega (arith, worded w, worded u))
same_labels (last_case w r c) (next_default u b l) s z = absurd (omega (arith, worded w, worded u))
same_labels (next_case w r c f) (last_default u b) s z = absurd (omega (arith, worded w, worded u))
same_labels (next_case w r c f) (next_default u b l) s z = absurd (omega (arith, worded w, worded u))
same_labels (last_default w c) (last_case u v b) s z = absurd (omega (arith, worded w, worded u))
same_labels (last_default w c) (next_case u v b l) s z = absurd (omega (arith, worded w, worded u))
same_labels (next_default w c f) (last_case u v b) s z = absurd (omega (arith, worded w, worded u))
same_labels (next_default w c f) (next_case u v b l) s z = absurd (omega (arith, worded w, worded u))
