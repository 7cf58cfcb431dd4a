-- Where initialisers fail (C99 6.7.8).
use Rattle.std.proofs.Common.{◌≤◌, List, ◌∷◌, refl, arith, ℕ}
use Rattle.c_lexer.specs.declared.token.Token.{Token}
use Rattle.c_lexer.specs.declared.punctuator.TheConstants.{LEFT_BRACE, RIGHT_BRACE, COMMA}
use Rattle.c_syntax.specs.Tree.{Init, Inits}
use Rattle.c_syntax.specs.Tokens.{Is}
use Rattle.c_syntax.specs.Grammar.{assignment_level}
use Rattle.c_syntax.specs.Statements.{ReadsInit, an_expression, a_list, a_list_with_comma, ReadsInits, last_init, next_init}
use Rattle.c_syntax.specs.Limits.{height_of_init, height_of_inits}
use Rattle.c_syntax_printing.proofs.Ranks.{ranked}
use Rattle.c_syntax_printing.specs.Ranks.{Stops}
use Rattle.c_syntax_printing.proofs.Heads.{headed, expression_head}
use Rattle.c_syntax_printing.specs.Fails.{Fails, Then, then, first, second, one, NotAt}
use Rattle.c_syntax_printing.specs.Phrases.{Bound, within, Fits, inner, AnExpr, AnInit}
use Rattle.c_syntax_printing.specs.Initialisers.{InList, brace_ends, comma_ends, ListEnd}
use Rattle.c_syntax_printing.proofs.Combine.{fails_here, fails_both, fails_not_or, fails_after, fails_missing, missing, other_mark, fails_as, fails_first, fails_later, fails_under, not_at_alike}
use Rattle.c_syntax_printing.proofs.Fixed.{init_fixes}
use Rattle.c_syntax_printing.proofs.StmtForms.{fits_part}
use Rattle.c_syntax_printing.proofs.BlockForms.{fits_under}
use Rattle.c_syntax_printing.proofs.PrefixFails.{fits_low, tall}

value_reads : {b : Bound} {d : ℕ} {v : Init} {i j : List Token} → NotAt (Is LEFT_BRACE) i → ReadsInit d v i j → Stops assignment_level j → Fits b d (height_of_init v) → AnExpr b assignment_level i j
value_reads n (an_expression r p) s f = record { depth = _; tree = _; reads = r; stops = s; fits = f }
value_reads n (a_list o r c) s f = absurd (n _ _ refl o)
value_reads n (a_list_with_comma o r c e) s f = absurd (n _ _ refl o)

-- where no brace begins a list
pub init_value_fails : {b : Bound} {i r : List Token} → NotAt (Is LEFT_BRACE) i → Fails (AnExpr b assignment_level) i r → Fails (AnInit b) i r
init_value_fails n f = fails_as (λ k j m a. value_reads (not_at_alike m n) a.reads a.stops a.fits) f

tall_init : {d : ℕ} {v : Init} {i j : List Token} → ReadsInit d v i j → 1 ≤ height_of_init v
tall_init (an_expression {e = e} r p) = tall e
tall_init a = omega arith

-- no initialiser stands without a node
pub no_init_left : {p : ℕ} (i : List Token) → Fails (AnInit (within p 0)) i i
no_init_left i = fails_here (λ s m j a. omega (arith, tall_init a.reads, (fits_low a.fits).1))

list_begins : (b : Bound) {d : ℕ} {v : Init} {t : Token} {i j : List Token} → Is LEFT_BRACE t → ReadsInit d v (t ∷ i) j → Fits b d (height_of_init v) → InList (inner b) i j
list_begins b h (an_expression r p) f = absurd (omega (arith, headed h, expression_head r))
list_begins b h (a_list o r c) f = brace_ends r c (fits_part b f (omega arith))
list_begins b h (a_list_with_comma o r c e) f = comma_ends r c e (fits_part b f (omega arith))

-- what follows the brace
pub init_list_fails : {b : Bound} {t : Token} {i r : List Token} → Is LEFT_BRACE t → Fails (InList (inner b)) i r → Fails (AnInit b) (t ∷ i) r
init_list_fails {b} h f = fails_under (λ k j a. list_begins b h a.reads a.fits) f

-- an initialiser, and what follows the last one or the others
inits_then : (b : Bound) {d : ℕ} {is : Inits} {i j k : List Token} → ReadsInits d is i j → Stops assignment_level j → Fits b d (height_of_inits is) → ListEnd b j k → ((rest : Inits) (h : List Token) → ReadsInits d rest h j → Fits b d (height_of_inits rest) → InList b h k) → Then (AnInit b) (ListEnd b) i k
inits_then b (last_init r) s f e g = then (record { depth = _; tree = _; reads = r; stops = s; fits = fits_under b f (omega arith) }) e
inits_then b (next_init r h w) s f e g =
    then (record { depth = _; tree = _; reads = r; stops = omega (arith, ranked h); fits = fits_under b f (omega arith) }) (second (then (one h) (second (g _ _ w (fits_under b f (omega arith))))))

list_form : (b : Bound) {i j : List Token} → InList b i j → Then (AnInit b) (ListEnd b) i j
list_form b (brace_ends r c f) = inits_then b r (omega (arith, ranked c)) f (first (one c)) (λ x h w g. brace_ends w c g)
list_form b (comma_ends r c u f) = inits_then b r (omega (arith, ranked c)) f (second (then (one c) (first (one u)))) (λ x h w g. comma_ends w c u g)

-- the first initialiser of a list fails
pub first_init_fails : {b : Bound} {i r : List Token} → Fails (AnInit b) i r → Fails (InList b) i r
first_init_fails {b} f = fails_as (λ k j m a. list_form b a) (fails_first f)

-- the first initialiser of a list stands
pub first_init_leads : {b c : Bound} {i j r : List Token} → AnInit c i j → Fails (ListEnd b) j r → Fails (InList b) i r
first_init_leads {b} {c} a f = fails_as (λ k j m a. list_form b a) (fails_later (init_fixes c b) a f)

-- neither a comma nor a brace follows
pub list_unclosed : {b : Bound} (i : List Token) → NotAt (Is COMMA) i → NotAt (Is RIGHT_BRACE) i → Fails (ListEnd b) i i
list_unclosed i f g = fails_both (missing i g) (fails_missing i f)

-- after a comma the list goes on
pub list_goes_on : {b : Bound} {t : Token} {i r : List Token} → Is COMMA t → NotAt (Is RIGHT_BRACE) i → Fails (InList b) i r → Fails (ListEnd b) (t ∷ i) r
list_goes_on h n f = fails_not_or (missing _ (other_mark h (λ q. omega arith))) (fails_after (fails_not_or (missing _ n) f))
