-- Where the suffixes of an operand fail (C99 6.5.2).
use Rattle.std.proofs.Common.{◌≡◌, ◌≤◌, suc, List, ◌∷◌, sym, ◌∙◌, arith, ℕ}
use Rattle.c_lexer.specs.declared.token.Token.{Token}
use Rattle.c_lexer.specs.declared.punctuator.TheConstants.{LEFT_PARENTHESIS, RIGHT_PARENTHESIS}
use Rattle.c_syntax.specs.Tree.{Expr}
use Rattle.c_syntax.specs.Tokens.{Is}
use Rattle.c_syntax.specs.Grammar.{primary_level, postfix_level, Reads, with_suffixes, Suffixes, no_suffix, an_index, an_empty_call, a_call, a_member, a_postfix}
use Rattle.c_syntax.specs.Limits.{height}
use Rattle.c_syntax_printing.specs.Ranks.{rank, Stops}
use Rattle.c_syntax_printing.specs.Twins.{On}
use Rattle.c_syntax_printing.proofs.Twins.{glue}
use Rattle.c_syntax_printing.proofs.Ranks.{ranked, ranked_postfix, ranked_access}
use Rattle.c_syntax_printing.proofs.FrameGrammar.{reads_on, suffixes_on}
use Rattle.c_syntax_printing.proofs.OneOperand.{suffix_stops, moved_suffixes}
use Rattle.c_syntax_printing.proofs.One.{same, suffixes_pass}
use Rattle.c_syntax_printing.specs.Fails.{Meets, Fails, Then, then, Or, first, second, NotAt}
use Rattle.c_syntax_printing.specs.Phrases.{Bound, within, inner, AnExpr, Punctuator}
use Rattle.c_syntax_printing.specs.Operands.{SomeExprs, SomeSuffixes, SomeArguments, Postfixed}
use Rattle.c_syntax_printing.proofs.Combine.{fails_here, fails_not_or, missing, fails_under_begun, fails_beside, fails_past, twin_alike, Begins}
use Rattle.c_syntax_printing.proofs.Fixed.{rank_alike, stops_alike}
use Rattle.c_syntax_printing.proofs.ExprForms.{suffixes_rise, call_form}
use Rattle.c_syntax_printing.proofs.PrefixFails.{fits_low}
use Rattle.c_syntax_printing.proofs.DeclaratorFails.{place_alike}

postfixed_on : {d : ℕ} {e : Expr} {i j : List Token} → Postfixed d e i j → (k : List Token) → Meets j k → On (Postfixed d e) i j k
postfixed_on a k m =
    let x = suffixes_on a.suffixes k in
    let y = reads_on a.reads x.tokens in
    let w = glue x.twin y.twin in
    record {
      tokens = y.tokens;
      twin = w;
      reads = record {
        at = a.at;
        operand = a.operand;
        after = x.tokens;
        begins = a.begins ∙ place_alike (twin_alike w m);
        reads = y.reads;
        stops = stops_alike primary_level (twin_alike x.twin m) a.stops;
        suffixes = x.reads;
      };
    }

postfixed_passes : {d x : ℕ} {e f : Expr} {i j k : List Token} → Postfixed d e i j → Reads x postfix_level f i k → Stops postfix_level k → (at : ℕ) × Suffixes x at e f j k
postfixed_passes a (with_suffixes p r w) z = let u = same a.reads r a.stops (suffix_stops w z) in (a.at, (suffixes_pass a.suffixes).is _ _ _ (moved_suffixes (a.begins ∙ sym p) u.0 u.1 w) z)

-- what follows them fails
pub postfixed_fails : {b : Bound} {d : ℕ} {e : Expr} {i j r : List Token} → Postfixed d e i j → Fails (SomeSuffixes b) j r → Fails (AnExpr b postfix_level) i r
postfixed_fails {b} {d} {e} a f =
    fails_past {R = Postfixed d e} {C = SomeSuffixes b} (λ k m. postfixed_on a k m)
    (λ h k l m v y. let w = postfixed_passes v y.reads y.stops in record { rest = l; reads = record { depth = y.depth; at = w.0; operand = _; tree = y.tree; reads = w.1; stops = y.stops; fits = y.fits } })
    f

no_suffix_at : {d at : ℕ} {a e : Expr} {i j : List Token} → rank i ≡ 0 → Suffixes d at a e i j → Stops postfix_level j → ⊥
no_suffix_at q no_suffix z = omega (arith, q)
no_suffix_at q (an_index o r c v) z = omega (arith, ranked o)
no_suffix_at q (an_empty_call o c v) z = omega (arith, ranked o)
no_suffix_at q (a_call o r c v) z = omega (arith, ranked o)
no_suffix_at q (a_member {access = b} o n v) z = omega (arith, ranked_access _ b o)
no_suffix_at q (a_postfix {p = p} o v) z = omega (arith, ranked_postfix _ p o)

-- a string follows them
pub string_after_suffixes : {b : Bound} {d : ℕ} {e : Expr} {i j : List Token} → Postfixed d e i j → rank j ≡ 0 → Fails (AnExpr b postfix_level) i j
string_after_suffixes a q = postfixed_fails a (fails_here (λ s m k y. no_suffix_at (sym (rank_alike m) ∙ q) y.reads y.stops))

suffix_rises : {d at : ℕ} {a e : Expr} {i j : List Token} → rank i ≡ 1 → Suffixes d at a e i j → Stops postfix_level j → suc (height a) ≤ height e
suffix_rises q no_suffix z = absurd (omega (arith, q))
suffix_rises q (an_index o r c v) z = omega (arith, suffixes_rise v)
suffix_rises q (an_empty_call o c v) z = omega (arith, suffixes_rise v)
suffix_rises q (a_call o r c v) z = omega (arith, suffixes_rise v)
suffix_rises q (a_member o n v) z = omega (arith, suffixes_rise v)
suffix_rises q (a_postfix o v) z = omega (arith, suffixes_rise v)

-- what has them is as high as nodes may be
pub postfixed_too_high : {p n d : ℕ} {e : Expr} {i j : List Token} → Postfixed d e i j → rank j ≡ 1 → n ≤ height e → Fails (AnExpr (within p n) postfix_level) i j
postfixed_too_high {p} {n} {d} {e} a q g =
    fails_beside {R = Postfixed d e} (λ k m. postfixed_on a k m)
    (λ h k l m v y. let w = postfixed_passes v y.reads y.stops in omega (arith, g, (fits_low y.fits).1, suffix_rises (sym (rank_alike m) ∙ q) w.1 y.stops))

-- the arguments of a call

-- where no parenthesis ends them
pub arguments_fail : {b : Bound} {i r : List Token} → NotAt (Is RIGHT_PARENTHESIS) i → Fails (Then (SomeExprs b) (Punctuator RIGHT_PARENTHESIS)) i r → Fails (SomeArguments b) i r
arguments_fail n f = fails_not_or (missing _ n) f

call_begins : {b : Bound} {t : Token} {i j : List Token} → Is LEFT_PARENTHESIS t → SomeSuffixes b (t ∷ i) j → Begins (SomeArguments (inner b)) i
call_begins {b} h a = parts (call_form b h a)
  where
    parts : {b c : Bound} {i j : List Token} → Or (Then (Punctuator RIGHT_PARENTHESIS) (SomeSuffixes b)) (Then (SomeExprs c) (Then (Punctuator RIGHT_PARENTHESIS) (SomeSuffixes b))) i j → Begins (SomeArguments c) i
    parts (first (then a w)) = record { rest = _; reads = first a }
    parts (second (then a (then c w))) = record { rest = _; reads = second (then a c) }

-- a call whose arguments fail
pub call_fails : {b : Bound} {t : Token} {i r : List Token} → Is LEFT_PARENTHESIS t → Fails (SomeArguments (inner b)) i r → Fails (SomeSuffixes b) (t ∷ i) r
call_fails {b} h f = fails_under_begun (λ k j a. call_begins h a) f
