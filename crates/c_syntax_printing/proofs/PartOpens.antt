-- Where parameters and declarations open past the limits (C99 6.7).
use Rattle.std.proofs.Common.{◌≡◌, ◌⊎◌, inl, inr, ◌≤◌, ℕ, zero, suc, List, ◌∷◌, refl, arith, []}
use Rattle.c_lexer.specs.declared.token.Token.{Token}
use Rattle.c_lexer.specs.declared.token.TokenKind.{TokenKind}
use Rattle.c_lexer.specs.declared.token.TokenKind.TheVariants.{Keyword, Punct}
use Rattle.c_lexer.specs.declared.punctuator.TheConstants.{LEFT_PARENTHESIS, COMMA, ASSIGN}
use Rattle.c_lexer.specs.declared.keyword.TheConstants.{INT}
use Rattle.c_syntax.specs.Tree.{Ident, Spec, void, char, int, unsigned_int, struct, enum, Declarator, nothing, named, function, Params, no_params, more_params, MaybeInit, no_init, an_init, no_parts, more_parts, no_storage, decl}
use Rattle.c_syntax.specs.Tokens.{Is}
use Rattle.c_syntax.specs.Specifiers.{no_const, a_const, no_storage_stands, ReadsSpec, is_void, is_char, is_int, is_signed, is_unsigned, is_struct, is_enum}
use Rattle.c_syntax.specs.Grammar.{IsThere, HasName, AreSome, Declares, a_direct, a_declared, no_more, a_function, are_some, ReadsEach, last_param, next_param}
use Rattle.c_syntax.specs.Statements.{ReadsMaybeInit, no_initialiser, an_initialiser, last_part, next_part, a_declaration}
use Rattle.c_syntax_printing.specs.Starts.{start_of_kind, start_of_code, start_of_word}
use Rattle.c_syntax_printing.proofs.FrameGrammar.{declares_on}
use Rattle.c_syntax_printing.proofs.FrameStatements.{maybe_init_on}
use Rattle.c_syntax_printing.proofs.MorePairs.{wide_declarator}
use Rattle.c_syntax_printing.proofs.MorePairsOfUnits.{wide_maybe_init}
use Rattle.c_syntax_printing.specs.Nodes.{InParams, in_first_param, in_later_param, in_params, in_part_declarator, in_part_init, in_later_part, in_an_init, in_decl, declarator_here}
use Rattle.c_syntax_printing.specs.Pairs.{PairInEach}
use Rattle.c_syntax_printing.specs.Declarators.{AnyName}
use Rattle.c_syntax_printing.specs.Opens.{Opens, Filled, Builds, DeepDeclarator, DeepEach, DeepLengthens, DeepInit, DeepParts, DeepDecl}
use Rattle.c_syntax_printing.proofs.Opening.{opens_as, opens_under, opens_here, opens_past, opens_before, opens_token}
use Rattle.c_syntax_printing.proofs.Fills.{name_token, word}
use Rattle.c_syntax_printing.proofs.ExprOpens.{either, close_paren}
use Rattle.c_syntax_printing.proofs.DeclOpens.{node_there, pair_there}
use Rattle.c_syntax_printing.proofs.BodyOpens.{semicolon}
use Rattle.c_syntax_printing.proofs.Fixed.{placeless}
use Rattle.c_syntax_printing.proofs.FrameSpecifiers.{spec_on}

-- parameters (6.7.5.3)

some_there : (at : ℕ) (s : Spec) (e : Declarator) → IsThere e → AreSome (more_params at s e no_params)
some_there at void nothing h = absurd h
some_there at s e h = tt

pub some_more : (at : ℕ) (s : Spec) (e : Declarator) (q : ℕ) (z : Spec) (f : Declarator) (rest : Params) → AreSome (more_params at s e (more_params q z f rest))
some_more at void nothing q z f rest = tt
some_more at s e q z f rest = tt

only_node : {at n q : ℕ} {s : Spec} {e : Declarator} → InParams at n (more_params q s e no_params) → IsThere e
only_node (in_first_param x) = node_there x
only_node (in_later_param x) = elim x [ ]

deep_some : (at n p : ℕ) {d : ℕ} {ps : Params} {i j : List Token} (r : ReadsEach d ps i j) → InParams at n ps ⊎ PairInEach at r p → AreSome ps
deep_some at n p (last_param {at = y} {s = z} {e = f} q s e) (inl x) = some_there y z f (only_node x)
deep_some at n p (last_param {at = y} {s = z} {e = f} q s e) (inr u) = some_there y z f (pair_there at p e u)
deep_some at n p (next_param {at = y} {s = z} {e = f} q s e c (last_param {at = u} {s = v} {e = w} o h g)) x = some_more y z f u v w no_params
deep_some at n p (next_param {at = y} {s = z} {e = f} q s e c (next_param {at = u} {s = v} {e = w} {rest = rest} o h g k l)) x = some_more y z f u v w rest

pub first_param_opens : {at p n : ℕ} {s : Spec} {i j r : List Token} → ReadsSpec s i j → Opens (DeepDeclarator AnyName at p n) j r → Opens (DeepEach at p n) i r
first_param_opens {s = s} w o =
    opens_past (placeless (spec_on w)) (opens_as (λ k m e l b. record { trees = more_params _ s e.tree no_params; reads = last_param refl b e.reads; deep = either in_first_param (λ y. y) e.deep }) o)

pub later_param_opens : {at p n d : ℕ} {s : Spec} {e : Declarator} {t : Token} {i j k r : List Token} → d ≤ suc p → ReadsSpec s i j → Declares d e j (t ∷ k) → Is COMMA t → Opens (DeepEach at p n) k r → Opens (DeepEach at p n) i r
later_param_opens {s = s} {e = e} g w c h o =
    opens_past (placeless (spec_on w)) (opens_past (declares_on (wide_declarator c g))
    (opens_under (λ k m y l f i b. record { trees = more_params _ s e y.trees; reads = next_param refl b f h y.reads; deep = either in_later_param (λ z. inr z) y.deep }) o))

pub params_open : {N : Declarator → Type 0} {at p n q : ℕ} {a : Declarator} {t : Token} {i r : List Token} → Builds N → Is LEFT_PARENTHESIS t → Opens (DeepEach at p n) i r → Opens (DeepLengthens N at p (suc n) q a) (t ∷ i) r
params_open {at = at} {p} {n} {q} {a} b h o =
    opens_token (opens_before o (λ m. record {
      tokens = close_paren ∷ m;
      reads = λ k e. record {
        tree = function q a e.trees;
        reads = a_function h (are_some e.reads (deep_some at (suc n) p e.reads e.deep)) (record { kind = refl }) no_more;
        suits = λ n. b.functions _ _ _ n;
        deep = either in_params (λ y. inl y) e.deep;
      };
    }))

-- declarations

pub part_declarator_opens : {at p n : ℕ} {i r : List Token} → Opens (DeepDeclarator HasName at p n) i r → Opens (DeepParts at p n) i r
part_declarator_opens o = opens_as (λ k m a. record { trees = more_parts a.tree no_init no_parts; reads = last_part a.reads a.suits no_initialiser; deep = either in_part_declarator (λ y. inl y) a.deep }) o

pub part_init_opens : {at p n d : ℕ} {e : Declarator} {t : Token} {i j r : List Token} → d ≤ suc p → Declares d e i (t ∷ j) → HasName e → Is ASSIGN t → Opens (DeepInit at p n) j r → Opens (DeepParts at p n) i r
part_init_opens {e = e} g c x h o =
    opens_past (declares_on (wide_declarator c g))
    (opens_under (λ k m y l b. record { trees = more_parts e (an_init y.tree) no_parts; reads = last_part b x (an_initialiser h y.reads); deep = either (λ z. in_part_init (in_an_init z)) (λ z. inr z) y.deep }) o)

pub next_part_opens : {at p n d : ℕ} {e : Declarator} {v : MaybeInit} {t : Token} {i j k r : List Token} → d ≤ suc p → Declares d e i j → HasName e → ReadsMaybeInit d v j (t ∷ k) → Is COMMA t → Opens (DeepParts at p n) k r → Opens (DeepParts at p n) i r
next_part_opens {e = e} {v = v} g c x w h o =
    opens_past (declares_on (wide_declarator c g)) (opens_past (maybe_init_on (wide_maybe_init w g))
    (opens_under (λ k m y l f i b. record { trees = more_parts e v y.trees; reads = next_part b x f h y.reads; deep = either in_later_part (λ z. inr (inr z)) y.deep }) o))

pub decl_opens : {at p n : ℕ} {s : Spec} {i j r : List Token} → ReadsSpec s i j → Opens (DeepParts at p n) j r → Opens (DeepDecl at p n) i r
decl_opens {s = s} w o =
    opens_past (placeless (spec_on w)) (opens_before o (λ m. record {
      tokens = semicolon ∷ m;
      reads = λ k y l b. record { tree = decl _ no_storage s y.trees; reads = a_declaration refl no_storage_stands b y.reads (record { kind = refl }); plain = refl; deep = either in_decl (λ z. z) y.deep };
    }))

-- some specifiers begin with each word that can begin them

abbrev s_ident : Ident
s_ident = record { name = 115 ∷ []; at = 0 }

abbrev Specified : Token → List Token → List Token → Type 0
Specified u k j = (s : Spec) × ReadsSpec s (u ∷ k) j

by_word : (u : Token) (code : ℕ) → u.kind ≡ Keyword code → 7 ≤ start_of_word code → start_of_word code ≤ 14 → (m : List Token) → Filled (Specified u) m
by_word u (suc (suc (suc (suc (suc (suc (suc (suc (suc (suc (suc (suc (suc (suc (suc (suc (suc (suc (suc (suc (suc n))))))))))))))))))))) q l g m = absurd (omega (arith, l, g))
by_word u (suc (suc zero)) q l g m = record { tokens = m; reads = (char, is_char no_const (record { kind = q }) no_const) }
by_word u (suc (suc (suc zero))) q l g m = record { tokens = word INT (omega arith) ∷ m; reads = (int, is_int (a_const (record { kind = q }) no_const) (record { kind = refl }) no_const) }
by_word u (suc (suc (suc (suc (suc (suc (suc (suc zero)))))))) q l g m = record { tokens = name_token 0 ∷ m; reads = (enum s_ident, is_enum no_const (record { kind = q }) (record { name = record { kind = refl }; at = refl }) no_const) }
by_word u (suc (suc (suc (suc (suc (suc (suc (suc (suc (suc (suc (suc zero)))))))))))) q l g m = record { tokens = m; reads = (int, is_int no_const (record { kind = q }) no_const) }
by_word u (suc (suc (suc (suc (suc (suc (suc (suc (suc (suc (suc (suc (suc (suc zero)))))))))))))) q l g m = record { tokens = m; reads = (int, is_signed no_const (record { kind = q }) no_const) }
by_word u (suc (suc (suc (suc (suc (suc (suc (suc (suc (suc (suc (suc (suc (suc (suc (suc (suc zero))))))))))))))))) q l g m = record { tokens = name_token 0 ∷ m; reads = (struct s_ident, is_struct no_const (record { kind = q }) (record { name = record { kind = refl }; at = refl }) no_const) }
by_word u (suc (suc (suc (suc (suc (suc (suc (suc (suc (suc (suc (suc (suc (suc (suc (suc (suc (suc (suc zero))))))))))))))))))) q l g m = record { tokens = m; reads = (unsigned_int, is_unsigned no_const (record { kind = q }) no_const) }
by_word u (suc (suc (suc (suc (suc (suc (suc (suc (suc (suc (suc (suc (suc (suc (suc (suc (suc (suc (suc (suc zero)))))))))))))))))))) q l g m = record { tokens = m; reads = (void, is_void no_const (record { kind = q }) no_const) }
by_word u code q l g m = absurd (omega (arith, l, g))

pub code_low : (k : ℕ) → start_of_code k ≤ 6
code_low (suc (suc (suc (suc (suc (suc (suc (suc (suc (suc (suc (suc (suc (suc (suc (suc k)))))))))))))))) = omega arith
code_low k = omega arith

by_kind : (u : Token) (k : TokenKind) → u.kind ≡ k → 7 ≤ start_of_kind k → start_of_kind k ≤ 14 → (m : List Token) → Filled (Specified u) m
unfolding start_of_kind
by_kind u (Punct code) q l g m = absurd (omega (arith, l, code_low code))
by_kind u (Keyword code) q l g m = by_word u code q l g m
by_kind u k q l g m = absurd (omega (arith, l))

-- a word after which a declarator is sure to stand: it may begin at any place
pub decl_is_deep : {at p : ℕ} {u : Token} {i : List Token} → 7 ≤ start_of_kind u.kind → start_of_kind u.kind ≤ 14 → Opens (DeepDecl at p 0) (u ∷ i) (u ∷ i)
decl_is_deep {at} {p} {u} l g = opens_here (λ m. let x = by_kind u u.kind refl l g (name_token at ∷ semicolon ∷ m) in record {
  tokens = x.tokens;
  reads = record {
    tree = decl _ no_storage x.reads.0 (more_parts (named at (record { name = 115 ∷ []; at = at })) no_init no_parts);
    reads = a_declaration refl no_storage_stands x.reads.1 (last_part (a_direct refl (a_declared (record { name = record { kind = refl }; at = refl })) no_more) tt no_initialiser) (record { kind = refl });
    plain = refl;
    deep = inl (in_decl (in_part_declarator (declarator_here tt refl)));
  };
})
