-- Two readings of a text go the same way.
use Rattle.std.proofs.Common.{◌≡◌, ℕ, ◌<◌, List, [], ◌∷◌, ◌++◌, length, take, drop, refl, sym, ap, ◌∙◌, subst, arith}
use Rattle.std.proofs.lemmas.List.{append-nil}
use Rattle.dm_base.specs.declared.mode.Mode.{Mode}
use Rattle.c_lexer.specs.declared.token.Token.{Token}
use Rattle.c_lexer.specs.TokenSpelling.{IsWhite, Stand, SpellsFrom, nothing, white, token, SpellsTokens}
use std.HLevel.{prop→path_p}
use Rattle.c_lexer.specs.Kinds.{IsKind}
use Rattle.c_lexer.specs.KindProp.{IsKind-prop}
use Rattle.c_lexer.proofs.OneTokenWhite.{one_white, no_token_in_white, one_token, white_some, token_some}

-- tokens that are equal but for their ghost field are equal
token_same : (t u : Token) → t.kind ≡ u.kind → t.from ≡ u.from → t.to ≡ u.to → t ≡ u
token_same t u k f g = λ i. record { kind = k i; from = f i; to = g i; given = prop→path_p (λ j. IsKind (k j)) (IsKind-prop u.kind) t.given u.given i }

-- what stands at one place begins one text
same_text : (text v w : List ℕ) (p q a b : ℕ) → Stand text v p a → Stand text w q b → p ≡ q → v ++ drop a text ≡ w ++ drop b text
same_text text v w p q a b st st' same = sym st.are ∙ ap (λ k. drop k text) same ∙ st'.are

same_end : (text v w : List ℕ) (p q a b : ℕ) → Stand text v p a → Stand text w q b → p ≡ q → v ≡ w → a ≡ b
same_end text v w p q a b st st' same equal = let e = ap length equal in let f = st.long in let g = st'.long in omega arith

-- nothing stands at the text's end
none_at_end : (text w : List ℕ) (p q : ℕ) → Stand text w p q → 0 < length w → p ≡ length text → ⊥
none_at_end text w p q st some last = let e = st.long in let f = st.within in omega arith

white_here : (text w : List ℕ) (p q b : ℕ) → p ≡ q → IsWhite (take q text) w (drop b text) → IsWhite (take p text) w (drop b text)
white_here text w p q b same piece = subst (λ k. IsWhite (take k text) w (drop b text)) (sym same) piece

-- A reading of the whole text goes on from where another one stands.
pub record GoesOn (text : List ℕ) (r s : ℕ) (one other : List Token) : Type 0 where
  pub later : List Token
  pub reads : SpellsFrom text r s later
  pub is : other ≡ one ++ later

one_more : (text : List ℕ) (r s : ℕ) (t u : Token) (one other : List Token) → t ≡ u → GoesOn text r s one other → GoesOn text r s (t ∷ one) (u ∷ other)
one_more text r s t u one other same on = record { later = on.later; reads = on.reads; is = let e = on.is in cc }

pub goes_on : (text : List ℕ) (p r q s : ℕ) (one other : List Token) → SpellsFrom text p r one → SpellsFrom text q s other → p ≡ q → s ≡ length text → GoesOn text r s one other
goes_on text p r q s one other nothing reads same last = record { later = other; reads = subst (λ k. SpellsFrom text k s other) (sym same) reads; is = refl }
goes_on text p r q s one other (white {q = a} {w} st piece more) nothing same last = absurd (none_at_end text w p a st (white_some (take p text) w (drop a text) piece) (same ∙ last))
goes_on text p r q s one other (white {q = a} {w} st piece more) (white {q = b} {w = v} st' piece' more') same last =
    let is = same_text text w v p q a b st st' same in
    let equal = one_white (take p text) w v (drop a text) (drop b text) piece (white_here text v p q b same piece') is in
    goes_on text a r b s one other more more' (same_end text w v p q a b st st' same equal) last
goes_on text p r q s one other (white {q = a} {w} st piece more) (token {q = b} {w = v} {t} st' found from to more') same last =
    absurd (no_token_in_white (take p text) t.kind w v (drop a text) (drop b text) piece found (same_text text w v p q a b st st' same))
goes_on text p r q s one other (token {q = a} {w} {t} st found from to more) nothing same last = absurd (none_at_end text w p a st (token_some t.kind w (drop a text) found) (same ∙ last))
goes_on text p r q s one other (token {q = a} {w} {t} st found from to more) (white {q = b} {w = v} st' piece' more') same last =
    absurd (no_token_in_white (take q text) t.kind v w (drop b text) (drop a text) piece' found (sym (same_text text w v p q a b st st' same)))
goes_on text p r q s one other (token {q = a} {w} {t} {tokens = ts} st found from to more) (token {q = b} {w = v} {t = u} {tokens = us} st' found' from' to' more') same last =
    let equal = one_token t.kind u.kind w v (drop a text) (drop b text) found found' (same_text text w v p q a b st st' same) in
    let end = same_end text w v p q a b st st' same equal.0 in
    one_more text r s t u ts us (token_same t u equal.1 (from ∙ same ∙ sym from') (to ∙ end ∙ sym to')) (goes_on text a r b s ts us more more' end last)

-- no token stands at the end
none_later : (text : List ℕ) (p s : ℕ) (later : List Token) → SpellsFrom text p s later → p ≡ length text → later ≡ []
none_later text p s later nothing last = refl
none_later text p s later (white {q} {w} st piece more) last = absurd (none_at_end text w p q st (white_some (take p text) w (drop q text) piece) last)
none_later text p s later (token {q} {w} {t} st found from to more) last = absurd (none_at_end text w p q st (token_some t.kind w (drop q text) found) last)

pub one_reading : (text : List ℕ) (mode : Mode) (one other : List Token) → SpellsTokens text mode one → SpellsTokens text mode other → one ≡ other
one_reading text mode one other p q =
    let on = goes_on text 0 (length text) 0 (length text) one other p.whole q.whole refl refl in
    let none : on.later ≡ [] = none_later text (length text) (length text) on.later on.reads refl in
    sym (append-nil one) ∙ ap (λ l. one ++ l) (sym none) ∙ sym on.is
