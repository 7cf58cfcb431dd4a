-- Expressions, type names and declarators are read whatever follows them.
use Rattle.std.proofs.Common.{ℕ, List, ◌∷◌, refl, ◌∙◌}
use Rattle.c_lexer.specs.declared.token.Token.{Token}
use Rattle.c_syntax.specs.Tree.{Expr, Exprs, Maybe, TypeName, Declarator, Params}
use Rattle.c_syntax.specs.Grammar.{Level, ReadsStrings, last_string, next_string}
use Rattle.c_syntax.specs.Grammar.{Reads, is_name, is_int, is_char, are_strings, in_parentheses, with_suffixes, no_prefix, a_prefix, a_unary, a_sizeof_type, no_cast, a_cast, no_chain, a_chain, no_choice, a_choice, no_assignment, an_assignment, no_comma, a_comma}
use Rattle.c_syntax.specs.Grammar.{ReadsList, last_expr, next_expr, Suffixes, no_suffix, an_index, an_empty_call, a_call, a_member, a_postfix, Chain, no_operator, an_operator}
use Rattle.c_syntax.specs.Grammar.{ReadsSize, no_size, a_size, ReadsType, a_type, Declares, a_pointer, a_direct, a_declared, declarator_in_parentheses, no_core, Lengthens, no_more, an_array, a_function, ReadsParams, are_none, are_some, ReadsEach, last_param, next_param}
use Rattle.c_syntax_printing.specs.Twins.{here, along, On, OnAt}
use Rattle.c_syntax_printing.proofs.Twins.{glue, after}
use Rattle.c_syntax_printing.proofs.FrameSpecifiers.{consts_on, spec_on}

pub strings_on : {bytes : List ℕ} {i j : List Token} → ReadsStrings bytes i j → (k : List Token) → OnAt (ReadsStrings bytes) i j k
strings_on (last_string {t = t} h) k = record { tokens = t ∷ k; twin = along here; reads = last_string h; same = refl }
strings_on (next_string {t = t} h r e) k =
    let x = strings_on r k in record { tokens = t ∷ x.tokens; twin = along x.twin; reads = next_string h x.reads e; same = refl }

mutual
  pub reads_on : {d : ℕ} {l : Level} {e : Expr} {i j : List Token} → Reads d l e i j → (k : List Token) → OnAt (Reads d l e) i j k
  reads_on (is_name {t = t} h) k = record { tokens = t ∷ k; twin = along here; reads = is_name h; same = refl }
  reads_on (is_int {t = t} h) k = record { tokens = t ∷ k; twin = along here; reads = is_int h; same = refl }
  reads_on (is_char {t = t} h) k = record { tokens = t ∷ k; twin = along here; reads = is_char h; same = refl }
  reads_on (are_strings p r) k =
      let x = strings_on r k in record { tokens = x.tokens; twin = x.twin; reads = are_strings (p ∙ x.same) x.reads; same = x.same }
  reads_on (in_parentheses {t = t} {u = u} o r c) k =
      let x = reads_on r (u ∷ k) in record { tokens = t ∷ x.tokens; twin = along (after x.twin); reads = in_parentheses o x.reads c; same = refl }
  reads_on (with_suffixes p r c) k =
      let y = suffixes_on c k in let x = reads_on r y.tokens in
      record { tokens = x.tokens; twin = glue y.twin x.twin; reads = with_suffixes (p ∙ x.same) x.reads y.reads; same = x.same }
  reads_on (no_prefix r) k = let x = reads_on r k in record { tokens = x.tokens; twin = x.twin; reads = no_prefix x.reads; same = x.same }
  reads_on (a_prefix {t = t} h r) k = let x = reads_on r k in record { tokens = t ∷ x.tokens; twin = along x.twin; reads = a_prefix h x.reads; same = refl }
  reads_on (a_unary {t = t} h q r) k = let x = reads_on r k in record { tokens = t ∷ x.tokens; twin = along x.twin; reads = a_unary h q x.reads; same = refl }
  reads_on (a_sizeof_type {t = t} {o = o} {c = c} h p r q) k =
      let x = type_on r (c ∷ k) in record { tokens = t ∷ o ∷ x.tokens; twin = along (along (after x.twin)); reads = a_sizeof_type h p x.reads q; same = refl }
  reads_on (no_cast r) k = let x = reads_on r k in record { tokens = x.tokens; twin = x.twin; reads = no_cast x.reads; same = x.same }
  reads_on (a_cast {t = t} {u = u} o r c f) k =
      let y = reads_on f k in let x = type_on r (u ∷ y.tokens) in
      record { tokens = t ∷ x.tokens; twin = along (glue y.twin (after x.twin)); reads = a_cast o x.reads c y.reads; same = refl }
  reads_on (no_chain r) k = let x = reads_on r k in record { tokens = x.tokens; twin = x.twin; reads = no_chain x.reads; same = x.same }
  reads_on (a_chain p r c) k =
      let y = chain_on c k in let x = reads_on r y.tokens in
      record { tokens = x.tokens; twin = glue y.twin x.twin; reads = a_chain (p ∙ x.same) x.reads y.reads; same = x.same }
  reads_on (no_choice r) k = let x = reads_on r k in record { tokens = x.tokens; twin = x.twin; reads = no_choice x.reads; same = x.same }
  reads_on (a_choice {t = t} {u = u} p r o f c g) k =
      let z = reads_on g k in let y = reads_on f (u ∷ z.tokens) in let x = reads_on r (t ∷ y.tokens) in
      record { tokens = x.tokens; twin = glue z.twin (glue (after y.twin) (after x.twin)); reads = a_choice (p ∙ x.same) x.reads o y.reads c z.reads; same = x.same }
  reads_on (no_assignment r) k = let x = reads_on r k in record { tokens = x.tokens; twin = x.twin; reads = no_assignment x.reads; same = x.same }
  reads_on (an_assignment {t = t} p r h q f) k =
      let y = reads_on f k in let x = reads_on r (t ∷ y.tokens) in
      record { tokens = x.tokens; twin = glue y.twin (after x.twin); reads = an_assignment (p ∙ x.same) x.reads h q y.reads; same = x.same }
  reads_on (no_comma r) k = let x = reads_on r k in record { tokens = x.tokens; twin = x.twin; reads = no_comma x.reads; same = x.same }
  reads_on (a_comma {t = t} p r h f) k =
      let y = list_on f k in let x = reads_on r (t ∷ y.tokens) in
      record { tokens = x.tokens; twin = glue y.twin (after x.twin); reads = a_comma (p ∙ x.same) x.reads h y.reads; same = x.same }

  pub list_on : {d : ℕ} {e : Exprs} {i j : List Token} → ReadsList d e i j → (k : List Token) → On (ReadsList d e) i j k
  list_on (last_expr r) k = let x = reads_on r k in record { tokens = x.tokens; twin = x.twin; reads = last_expr x.reads }
  list_on (next_expr {t = t} r h f) k =
      let y = list_on f k in let x = reads_on r (t ∷ y.tokens) in record { tokens = x.tokens; twin = glue y.twin (after x.twin); reads = next_expr x.reads h y.reads }

  pub suffixes_on : {d at : ℕ} {a e : Expr} {i j : List Token} → Suffixes d at a e i j → (k : List Token) → On (Suffixes d at a e) i j k
  suffixes_on no_suffix k = record { tokens = k; twin = here; reads = no_suffix }
  suffixes_on (an_index {t = t} {u = u} h r c f) k =
      let y = suffixes_on f k in let x = reads_on r (u ∷ y.tokens) in
      record { tokens = t ∷ x.tokens; twin = along (glue y.twin (after x.twin)); reads = an_index h x.reads c y.reads }
  suffixes_on (an_empty_call {t = t} {u = u} h c f) k =
      let y = suffixes_on f k in record { tokens = t ∷ u ∷ y.tokens; twin = along (along y.twin); reads = an_empty_call h c y.reads }
  suffixes_on (a_call {t = t} {u = u} h r c f) k =
      let y = suffixes_on f k in let x = list_on r (u ∷ y.tokens) in
      record { tokens = t ∷ x.tokens; twin = along (glue y.twin (after x.twin)); reads = a_call h x.reads c y.reads }
  suffixes_on (a_member {t = t} {u = u} h n f) k =
      let y = suffixes_on f k in record { tokens = t ∷ u ∷ y.tokens; twin = along (along y.twin); reads = a_member h n y.reads }
  suffixes_on (a_postfix {t = t} h f) k = let y = suffixes_on f k in record { tokens = t ∷ y.tokens; twin = along y.twin; reads = a_postfix h y.reads }

  pub chain_on : {d n at : ℕ} {a e : Expr} {i j : List Token} → Chain d n at a e i j → (k : List Token) → On (Chain d n at a e) i j k
  chain_on no_operator k = record { tokens = k; twin = here; reads = no_operator }
  chain_on (an_operator {t = t} q h r f) k =
      let y = chain_on f k in let x = reads_on r y.tokens in
      record { tokens = t ∷ x.tokens; twin = along (glue y.twin x.twin); reads = an_operator q h x.reads y.reads }

  pub size_on : {d : ℕ} {e : Maybe} {i j : List Token} → ReadsSize d e i j → (k : List Token) → On (ReadsSize d e) i j k
  size_on no_size k = record { tokens = k; twin = here; reads = no_size }
  size_on (a_size r) k = let x = reads_on r k in record { tokens = x.tokens; twin = x.twin; reads = a_size x.reads }

  pub type_on : {d : ℕ} {n : TypeName} {i j : List Token} → ReadsType d n i j → (k : List Token) → On (ReadsType d n) i j k
  type_on (a_type p s e h) k =
      let y = declares_on e k in let x = spec_on s y.tokens in
      record { tokens = x.tokens; twin = glue y.twin x.twin; reads = a_type (p ∙ x.same) x.reads y.reads h }

  pub declares_on : {d : ℕ} {e : Declarator} {i j : List Token} → Declares d e i j → (k : List Token) → On (Declares d e) i j k
  declares_on (a_pointer {t = t} h c r) k =
      let y = declares_on r k in let x = consts_on c y.tokens in
      record { tokens = t ∷ x.tokens; twin = along (glue y.twin x.twin); reads = a_pointer h x.reads y.reads }
  declares_on (a_direct p (a_declared {t = t} n) f) k =
      let y = lengthens_on f k in record { tokens = t ∷ y.tokens; twin = along y.twin; reads = a_direct p (a_declared n) y.reads }
  declares_on (a_direct p (declarator_in_parentheses {t = t} {u = u} o r q c) f) k =
      let y = lengthens_on f k in let x = declares_on r (u ∷ y.tokens) in
      record { tokens = t ∷ x.tokens; twin = along (glue y.twin (after x.twin)); reads = a_direct p (declarator_in_parentheses o x.reads q c) y.reads }
  declares_on (a_direct p no_core no_more) k = record { tokens = k; twin = here; reads = a_direct refl no_core no_more }
  declares_on (a_direct p no_core (an_array {t = t} {u = u} h r c f)) k =
      let y = lengthens_on f k in let x = size_on r (u ∷ y.tokens) in
      record { tokens = t ∷ x.tokens; twin = along (glue y.twin (after x.twin)); reads = a_direct p no_core (an_array h x.reads c y.reads) }
  declares_on (a_direct p no_core (a_function {t = t} {u = u} h r c f)) k =
      let y = lengthens_on f k in let x = params_on r (u ∷ y.tokens) in
      record { tokens = t ∷ x.tokens; twin = along (glue y.twin (after x.twin)); reads = a_direct p no_core (a_function h x.reads c y.reads) }

  pub lengthens_on : {d at : ℕ} {a e : Declarator} {i j : List Token} → Lengthens d at a e i j → (k : List Token) → On (Lengthens d at a e) i j k
  lengthens_on no_more k = record { tokens = k; twin = here; reads = no_more }
  lengthens_on (an_array {t = t} {u = u} h r c f) k =
      let y = lengthens_on f k in let x = size_on r (u ∷ y.tokens) in
      record { tokens = t ∷ x.tokens; twin = along (glue y.twin (after x.twin)); reads = an_array h x.reads c y.reads }
  lengthens_on (a_function {t = t} {u = u} h r c f) k =
      let y = lengthens_on f k in let x = params_on r (u ∷ y.tokens) in
      record { tokens = t ∷ x.tokens; twin = along (glue y.twin (after x.twin)); reads = a_function h x.reads c y.reads }

  pub params_on : {d : ℕ} {ps : Params} {i j : List Token} → ReadsParams d ps i j → (k : List Token) → On (ReadsParams d ps) i j k
  params_on (are_none s) k = let x = spec_on s k in record { tokens = x.tokens; twin = x.twin; reads = are_none x.reads }
  params_on (are_some r h) k = let x = each_on r k in record { tokens = x.tokens; twin = x.twin; reads = are_some x.reads h }

  pub each_on : {d : ℕ} {ps : Params} {i j : List Token} → ReadsEach d ps i j → (k : List Token) → On (ReadsEach d ps) i j k
  each_on (last_param p s e) k =
      let y = declares_on e k in let x = spec_on s y.tokens in
      record { tokens = x.tokens; twin = glue y.twin x.twin; reads = last_param (p ∙ x.same) x.reads y.reads }
  each_on (next_param {t = t} p s e h f) k =
      let z = each_on f k in let y = declares_on e (t ∷ z.tokens) in let x = spec_on s y.tokens in
      record { tokens = x.tokens; twin = glue z.twin (glue (after y.twin) x.twin); reads = next_param (p ∙ x.same) x.reads y.reads h z.reads }
