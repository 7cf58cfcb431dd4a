-- What the parts of the lexer show.
use Rattle.std.proofs.Common.{◌≡◌, ◌≢◌, ℕ, ◌+◌, ◌<◌, ◌≤◌, List, [], ◌∷◌, ◌++◌, length, take, drop, refl, sym, ap, ◌∙◌, subst, arith, length-take, length-drop}
use Rattle.std.specs.Prelude.{Result, Ok, Err, IfErr}
use Rattle.std.proofs.lemmas.List.{take-append-drop, drop-drop, length-take-le, append-nil}
use Rattle.dm_base.specs.declared.mode.Mode.{Mode}
use Rattle.c_lexer.specs.declared.token.TokenKind.{TokenKind}
use Rattle.c_lexer.specs.declared.token.Token.{Token}
use Rattle.c_lexer.specs.declared.error.LexError.{LexError}
use Rattle.c_lexer.specs.declared.error.LexError.TheVariants.{OutOfMemory, At}
use Rattle.c_lexer.specs.TokenSpelling.{IsWhite, IsToken, Stand, SpellsFrom, nothing, white, token}
use Rattle.c_lexer.specs.Refusals.{Stops, HasNoTokens}
use Rattle.c_lexer.specs.LexerParts.{Takes, HasStopped}
use Rattle.c_lexer.proofs.OneTokenText.{goes_on}
use Rattle.c_lexer.proofs.OneTokenWhite.{token_some}

-- readings one after another
pub reads_on : (text : List ℕ) (p q r : ℕ) (one other : List Token) → SpellsFrom text p q one → SpellsFrom text q r other → SpellsFrom text p r (one ++ other)
reads_on text p q r one other nothing more = more
reads_on text p q r one other (white {q = a} st piece first) more = white st piece (reads_on text a q r one other first more)
reads_on text p q r one other (token {q = a} {tokens = ts} st found from to first) more = token st found from to (reads_on text a q r ts other first more)

-- what is taken of the rest stands at the place
pub stand_at : (text : List ℕ) (p n : ℕ) → p ≤ length text → n ≤ length (drop p text) → Stand text (take n (drop p text)) p (p + n)
stand_at text p n at within =
    let long : length (take n (drop p text)) ≡ n = length-take-le n (drop p text) within in
    let rest = length-drop p text in
    record {
      long = omega arith;
      are = sym (take-append-drop n (drop p text)) ∙ ap (λ r. take n (drop p text) ++ r) (drop-drop n p text);
      within = omega arith;
    }

pub takes_white : (text : List ℕ) (at n : ℕ) (tokens : List Token) → at < length text → 0 < n → n ≤ length (drop at text) → IsWhite (take at text) (take n (drop at text)) (drop n (drop at text)) → Takes text at tokens tokens (at + n)
takes_white text at n tokens low some within piece =
    let st = stand_at text at n (omega arith) within in
    record {
      more = omega arith;
      within = st.within;
      added = [];
      is = sym (append-nil tokens);
      reads = white st (subst (IsWhite (take at text) (take n (drop at text))) (drop-drop n at text) piece) nothing;
    }

pub takes_token : (text : List ℕ) (at n : ℕ) (tokens : List Token) (t : Token) → at < length text → 0 < n → n ≤ length (drop at text) → IsToken t.kind (take n (drop at text)) (drop n (drop at text)) → t.from ≡ at → t.to ≡ at + n → Takes text at tokens (tokens ++ t ∷ []) (at + n)
takes_token text at n tokens t low some within found from to =
    let st = stand_at text at n (omega arith) within in
    record {
      more = omega arith;
      within = st.within;
      added = t ∷ [];
      is = refl;
      reads = token st (subst (IsToken t.kind (take n (drop at text))) (drop-drop n at text) found) from to nothing;
    }

-- one piece more was read
pub read_more : (text : List ℕ) (at next : ℕ) (old new : List Token) → SpellsFrom text 0 at old → Takes text at old new next → SpellsFrom text 0 next new
read_more text at next old new before takes = subst (SpellsFrom text 0 next) (sym takes.is) (reads_on text 0 at next old takes.added before takes.reads)

-- the token that was read is some bytes long
pub token_long : (kind : TokenKind) (i : List ℕ) (n : ℕ) → IsToken kind (take n i) (drop n i) → 0 < n
token_long kind i n found = omega (arith, token_some kind (take n i) (drop n i) found, length-take n i)

-- a text that stops has no tokens
no_more : (text : List ℕ) (p s : ℕ) (later : List Token) → Stops text p → SpellsFrom text p s later → s ≡ length text → ⊥
no_more text p s later stops nothing last = omega (arith, stops.within)
no_more text p s later stops (white {q} {w} st piece more) last = stops.no_white w q st piece
no_more text p s later stops (token {q} {w} {t} st found from to more) last = stops.no_token w q t.kind st found

no_tokens : (text : List ℕ) (p : ℕ) (tokens : List Token) → Stops text p → SpellsFrom text 0 (length text) tokens → ⊥
no_tokens text p tokens stops whole =
    let on = goes_on text 0 p 0 (length text) stops.tokens tokens stops.before whole refl refl in
    no_more text p (length text) on.later stops on.reads refl

pub none_from_stopped : {A : Type 0} (text : List ℕ) (mode : Mode) (r : Result A LexError) → IfErr r (HasStopped text) → IfErr r (HasNoTokens text mode)
none_from_stopped text mode (Ok a) stopped = tt
none_from_stopped text mode (Err OutOfMemory) stopped = tt
none_from_stopped text mode (Err (At code place)) stopped = λ tokens spells. no_tokens text place tokens stopped.2.stops spells.whole

pub some_rest : (text : List ℕ) (at : ℕ) → at < length text → drop at text ≢ []
some_rest text at low none = let e = ap length none in omega (arith, length-drop at text)
