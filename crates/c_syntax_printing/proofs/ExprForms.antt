-- What follows the first token of an operand, form by form, and operands that others begin with.
use Rattle.std.proofs.Common.{◌≤◌, suc, List, ◌∷◌, arith, ℕ}
use Rattle.c_lexer.specs.declared.token.Token.{Token}
use Rattle.c_lexer.specs.declared.punctuator.TheConstants.{LEFT_PARENTHESIS, LEFT_BRACKET}
use Rattle.c_syntax.specs.Tree.{Expr, Access}
use Rattle.c_syntax.specs.Tokens.{Is, IsAccess}
use Rattle.c_syntax.specs.Grammar.{primary_level, postfix_level, cast_level, binary_level}
use Rattle.c_syntax.specs.Grammar.{Reads, is_name, is_int, is_char, are_strings, in_parentheses, with_suffixes, no_cast, a_cast, a_chain}
use Rattle.c_syntax.specs.Grammar.{Suffixes, no_suffix, an_index, an_empty_call, a_call, a_member, a_postfix, Chain, no_operator, an_operator}
use Rattle.c_syntax.specs.Limits.{height}
use Rattle.c_syntax_printing.specs.Ranks.{Stops}
use Rattle.c_syntax_printing.proofs.Ranks.{ranked, apart, not_name, ranked_access, postfix_apart, access_apart, step_apart}
use Rattle.c_syntax_printing.specs.Starts.{start}
use Rattle.c_syntax_printing.proofs.Ends.{started, started_int, started_char, parenthesis_ends_declarator}
use Rattle.c_syntax_printing.proofs.Begins.{strings_begin, prefixed_inside}
use Rattle.c_syntax_printing.proofs.OneOperand.{suffix_stops}
use Rattle.c_syntax_printing.proofs.OneChain.{chain_stops}
use Rattle.c_syntax_printing.specs.Fails.{Then, then, first, second, one}
use Rattle.c_syntax_printing.specs.Phrases.{Bound, any, within, Fits, fits_any, fits_within, inner, AnExpr}
use Rattle.c_syntax_printing.specs.Operands.{enclosed, SomeSuffixes, SomeChain, ParenthesisTail, IndexTail, CallTail, MemberTail, CastTail}
use Rattle.c_syntax_printing.proofs.StmtForms.{fits_part, an_expr}
use Rattle.c_syntax_printing.proofs.BlockForms.{fits_under}

pub fits_enclosed : (b : Bound) {d h : ℕ} → Fits b (suc d) h → Fits (enclosed b) d h
fits_enclosed any fits_any = fits_any
fits_enclosed (within p n) (fits_within f g) = fits_within (omega arith) g

-- suffixes and operators only add height
pub suffixes_rise : {d at : ℕ} {a e : Expr} {i j : List Token} → Suffixes d at a e i j → height a ≤ height e
suffixes_rise no_suffix = omega arith
suffixes_rise (an_index o r c w) = omega (arith, suffixes_rise w)
suffixes_rise (an_empty_call o c w) = omega (arith, suffixes_rise w)
suffixes_rise (a_call o r c w) = omega (arith, suffixes_rise w)
suffixes_rise (a_member h n w) = omega (arith, suffixes_rise w)
suffixes_rise (a_postfix h w) = omega (arith, suffixes_rise w)

pub chain_rises : {d n at : ℕ} {a e : Expr} {i j : List Token} → Chain d n at a e i j → height a ≤ height e
chain_rises no_operator = omega arith
chain_rises (an_operator l h r c) = omega (arith, chain_rises c)

-- primary expressions (C99 6.5.1)

paren_reads : (b : Bound) {d : ℕ} {e : Expr} {t : Token} {i j : List Token} → Is LEFT_PARENTHESIS t → Reads d primary_level e (t ∷ i) j → Fits b d (height e) → ParenthesisTail (enclosed b) i j
paren_reads b h (is_name n) f = absurd (not_name h n)
paren_reads b h (is_int n) f = absurd (omega (arith, started h, started_int n))
paren_reads b h (is_char n) f = absurd (omega (arith, started h, started_char n))
paren_reads b h (are_strings p r) f = absurd (omega (arith, started h, strings_begin r))
paren_reads b h (in_parentheses o r c) f =
    then (record { depth = _; tree = _; reads = r; stops = omega (arith, ranked c); fits = fits_enclosed b f }) (one c)

pub paren_form : (b : Bound) {t : Token} {i j : List Token} → Is LEFT_PARENTHESIS t → AnExpr b primary_level (t ∷ i) j → ParenthesisTail (enclosed b) i j
paren_form b h a = paren_reads b h a.reads a.fits

-- postfix expressions (C99 6.5.2)

some_suffixes : (b : Bound) {d at : ℕ} {a e : Expr} {i j : List Token} → Suffixes d at a e i j → Stops postfix_level j → Fits b d (height e) → SomeSuffixes b i j
some_suffixes b r s f = record { depth = _; at = _; operand = _; tree = _; reads = r; stops = s; fits = f }

postfix_reads : (b : Bound) {d : ℕ} {e : Expr} {i j : List Token} → Reads d postfix_level e i j → Stops postfix_level j → Fits b d (height e) → Then (AnExpr b primary_level) (SomeSuffixes b) i j
postfix_reads b (with_suffixes p r c) s f = then (an_expr r (suffix_stops c s) (fits_under b f (suffixes_rise c))) (some_suffixes b c s f)

pub postfix_form : (b : Bound) {i j : List Token} → AnExpr b postfix_level i j → Then (AnExpr b primary_level) (SomeSuffixes b) i j
postfix_form b a = postfix_reads b a.reads a.stops a.fits

index_reads : (b : Bound) {d at : ℕ} {a e : Expr} {t : Token} {i j : List Token} → Is LEFT_BRACKET t → Suffixes d at a e (t ∷ i) j → Stops postfix_level j → Fits b d (height e) → IndexTail b i j
index_reads b h no_suffix s f = absurd (omega (arith, ranked h))
index_reads b h (an_index o r c w) s f =
    then (record { depth = _; tree = _; reads = r; stops = omega (arith, ranked c); fits = fits_part b f (omega (arith, suffixes_rise w)) }) (then (one c) (some_suffixes b w s f))
index_reads b h (an_empty_call o c w) s f = absurd (omega (arith, apart h o))
index_reads b h (a_call o r c w) s f = absurd (omega (arith, apart h o))
index_reads b h (a_member {access = x} o n w) s f = absurd (omega (arith, access_apart x o h))
index_reads b h (a_postfix {p = p} o w) s f = absurd (omega (arith, postfix_apart p o h))

pub index_form : (b : Bound) {t : Token} {i j : List Token} → Is LEFT_BRACKET t → SomeSuffixes b (t ∷ i) j → IndexTail b i j
index_form b h a = index_reads b h a.reads a.stops a.fits

call_reads : (b : Bound) {d at : ℕ} {a e : Expr} {t : Token} {i j : List Token} → Is LEFT_PARENTHESIS t → Suffixes d at a e (t ∷ i) j → Stops postfix_level j → Fits b d (height e) → CallTail b i j
call_reads b h no_suffix s f = absurd (omega (arith, ranked h))
call_reads b h (an_index o r c w) s f = absurd (omega (arith, apart h o))
call_reads b h (an_empty_call o c w) s f = first (then (one c) (some_suffixes b w s f))
call_reads b h (a_call o r c w) s f =
    second (then (record { depth = _; trees = _; reads = r; stops = omega (arith, ranked c); fits = fits_part b f (omega (arith, suffixes_rise w)) }) (then (one c) (some_suffixes b w s f)))
call_reads b h (a_member {access = x} o n w) s f = absurd (omega (arith, access_apart x o h))
call_reads b h (a_postfix {p = p} o w) s f = absurd (omega (arith, postfix_apart p o h))

pub call_form : (b : Bound) {t : Token} {i j : List Token} → Is LEFT_PARENTHESIS t → SomeSuffixes b (t ∷ i) j → CallTail b i j
call_form b h a = call_reads b h a.reads a.stops a.fits

member_reads : (b : Bound) (x : Access) {d at : ℕ} {a e : Expr} {t : Token} {i j : List Token} → IsAccess x t → Suffixes d at a e (t ∷ i) j → Stops postfix_level j → Fits b d (height e) → MemberTail b i j
member_reads b x {t = t} h no_suffix s f = absurd (omega (arith, ranked_access t x h))
member_reads b x h (an_index o r c w) s f = absurd (omega (arith, access_apart x h o))
member_reads b x h (an_empty_call o c w) s f = absurd (omega (arith, access_apart x h o))
member_reads b x h (a_call o r c w) s f = absurd (omega (arith, access_apart x h o))
member_reads b x h (a_member o n w) s f = then (one (record { ident = _; names = n })) (some_suffixes b w s f)
member_reads b x {t = t} h (a_postfix {p = p} o w) s f = absurd (step_apart t p x o h)

pub member_form : (b : Bound) (x : Access) {t : Token} {i j : List Token} → IsAccess x t → SomeSuffixes b (t ∷ i) j → MemberTail b i j
member_form b x h a = member_reads b x h a.reads a.stops a.fits

-- cast expressions (C99 6.5.4)

cast_reads : (b : Bound) {d : ℕ} {e : Expr} {t : Token} {i j : List Token} → Is LEFT_PARENTHESIS t → 7 ≤ start i → Reads d cast_level e (t ∷ i) j → Stops cast_level j → Fits b d (height e) → CastTail (inner b) i j
cast_reads b h l (no_cast r) s f = absurd (omega (arith, prefixed_inside r h))
cast_reads b h l (a_cast o n c r) s f =
    then (record { depth = _; tree = _; reads = n; ends = parenthesis_ends_declarator c; fits = fits_part b f (omega arith) })
    (then (one c) (record { depth = _; tree = _; reads = r; stops = s; fits = fits_part b f (omega arith) }))

-- a parenthesis and a word of a type
pub cast_form : (b : Bound) {t : Token} {i j : List Token} → Is LEFT_PARENTHESIS t → 7 ≤ start i → AnExpr b cast_level (t ∷ i) j → CastTail (inner b) i j
cast_form b h l a = cast_reads b h l a.reads a.stops a.fits

-- binary operators (C99 6.5.5 to 6.5.14)

pub some_chain : {b : Bound} {n d at : ℕ} {a e : Expr} {i j : List Token} → Chain d n at a e i j → Stops (binary_level (suc n)) j → Fits b d (height e) → SomeChain b n i j
some_chain c s f = record { depth = _; at = _; operand = _; tree = _; reads = c; stops = s; fits = f }

chain_reads : (b : Bound) (n : ℕ) {d : ℕ} {e : Expr} {i j : List Token} → Reads d (binary_level (suc n)) e i j → Stops (binary_level (suc n)) j → Fits b d (height e) → Then (AnExpr b (binary_level n)) (SomeChain b n) i j
chain_reads b n (a_chain p r c) s f = then (an_expr r (chain_stops c s) (fits_under b f (chain_rises c))) (some_chain c s f)

-- a first operand, and operators of the level with their right operands
pub chain_form : (b : Bound) (n : ℕ) {i j : List Token} → AnExpr b (binary_level (suc n)) i j → Then (AnExpr b (binary_level n)) (SomeChain b n) i j
chain_form b n a = chain_reads b n a.reads a.stops a.fits
