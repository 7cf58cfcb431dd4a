-- From where items stop to what is refused.
use Rattle.std.proofs.Common.{◌≡◌, ◌≤◌, ◌<◌, ◌+◌, ℕ, suc, length, drop, get_or, drop-cons, add-one, List, [], ◌∷◌, Result, Err, IsErr, IsErrAnd, IfErr, refl, sym, ap, ◌∙◌, subst, append-nil}
use Rattle.std.proofs.lemmas.Result.{err_from_is_err_and}
use Rattle.std.proofs.lemmas.List.{drop_all}
use Rattle.dm_base.specs.declared.mode.Mode.{Mode}
use Rattle.c_lexer.specs.declared.token.Token.{Token}
use Rattle.c_syntax.specs.declared.unit.Unit.{Unit as UnitTree}
use Rattle.c_syntax.specs.Tree.{Items}
use Rattle.c_syntax.specs.Limits.{deepest}
use Rattle.c_syntax.specs.Spelling.{SpellsAnyDepth, SpellsUnit}
use Rattle.c_syntax_printing.proofs.OneUnit.{same_items}
use Rattle.c_syntax_printing.specs.Fails.{at_end, at_token, Fails}
use Rattle.c_syntax_printing.specs.Phrases.{Bound, any}
use Rattle.c_syntax_printing.specs.Units.{AUnit}
use Rattle.c_syntax_printing.specs.Opens.{DeepUnit}
use Rattle.c_syntax_printing.proofs.UnitFails.{none_spelled}
use Rattle.c_parser_phrases.specs.declared.error.PhraseError.{PhraseError}
use Rattle.c_parser_phrases.specs.declared.error.PhraseError.TheVariants as c
use Rattle.c_parser_phrases.specs.Refusing.{Refuses}
use Rattle.c_parser.specs.declared.error.ParseError.{ParseError}
use Rattle.c_parser.specs.declared.error.ParseError.TheVariants.{OutOfMemory, Syntax, Nesting}
use Rattle.c_parser.specs.Nesting.{PastAt, RefusesPast, OpensAs}
use Rattle.c_parser.specs.Refused.{end_of, SpellsNoUnit, stops_at, ends_early, IsRefused, Answers}
use Rattle.c_parser.specs.Refusing.{place_left}
use Rattle.c_parser.specs.TooDeep.{NestsTooDeep, nests}
use Rattle.c_parser.proofs.UnitGoesOn.{unit_nests}

no_unit : (tokens rest : List Token) (at : ℕ) → at ≡ place_left tokens rest → Fails (AUnit any) tokens rest → SpellsNoUnit tokens at
no_unit tokens [] at q f =
    subst (λ z. SpellsNoUnit tokens z) (sym q)
    (ends_early (λ u w. none_spelled tokens tokens [] f (sym (append-nil tokens)) [] at_end u (subst (λ z. SpellsAnyDepth u z) (sym (append-nil tokens)) w)))
no_unit tokens (t ∷ rest) at q f = subst (λ z. SpellsNoUnit tokens z) (sym q) (stops_at f.front t rest f.is (λ others u w. none_spelled tokens f.front (t ∷ rest) f f.is (t ∷ others) at_token u w))

-- the same of what the items answer

pub refused_as_syntax : (b : Bound) (e : PhraseError) (tokens rest : List Token) (at : ℕ) → e ≡ c.Syntax → at ≡ place_left tokens rest → Refuses AUnit b e tokens rest → SpellsNoUnit tokens at
refused_as_syntax b e tokens rest at q p f = no_unit tokens rest at p (subst (λ z. Refuses AUnit b z tokens rest) q f)

pub refused_as_nesting : (mode : Mode) (n at : ℕ) (e : PhraseError) (tokens : List Token) → e ≡ c.Nesting at → n ≡ deepest mode → RefusesPast AUnit (OpensAs DeepUnit) (record { nodes = n; pairs = 500 }) e tokens → NestsTooDeep mode tokens at
refused_as_nesting mode n at e tokens q p f = nested (subst (λ z. RefusesPast AUnit (OpensAs DeepUnit) (record { nodes = n; pairs = 500 }) z tokens) q f)
  where
    nested : PastAt AUnit (OpensAs DeepUnit) (record { nodes = n; pairs = 500 }) at tokens → NestsTooDeep mode tokens at
    nested s = unit_nests mode n tokens at s.token p s.some s.fails s.deep

-- what is handed on by `?`
pub refused_by : {T : Type 0} (tokens : List Token) (mode : Mode) (result : Result T ParseError) (e : ParseError) → IsErr result × IsErrAnd result (λ y. y ≡ e) → IsRefused tokens mode e → IfErr result (λ y. IsRefused tokens mode y)
refused_by tokens mode result e h p = let w = err_from_is_err_and result h.1 in rw (w.1, w.2) p

-- a text has one unit at most
pub one_unit : {u v : Items} {tokens : List Token} {mode : Mode} → SpellsUnit u tokens mode → SpellsUnit v tokens mode → u ≡ v
one_unit a b = (same_items a.reads b.reads refl refl).0

spelled_after_all : (mode : Mode) (unit : Items) (tokens : List Token) (at : ℕ) → SpellsNoUnit tokens at → SpellsUnit unit tokens mode → ⊥
spelled_after_all mode unit tokens _ (stops_at before token after q none) s = none after unit (subst (λ z. SpellsAnyDepth unit z) q (500, s.reads))
spelled_after_all mode unit tokens _ (ends_early none) s = none unit (500, s.reads)

spelled_within : (mode : Mode) (unit : Items) (tokens : List Token) (at : ℕ) → NestsTooDeep mode tokens at → SpellsUnit unit tokens mode → ⊥
spelled_within mode unit tokens at (nests before token after q none others tree reads deep) s = none after unit (subst (λ z. SpellsUnit unit z mode) q s)

no_answer : (tokens : List Token) (mode : Mode) (unit : Items) (e : ParseError) → IsRefused tokens mode e → SpellsUnit unit tokens mode → Answers unit (Err e)
no_answer tokens mode unit OutOfMemory p s = tt
no_answer tokens mode unit (Syntax at) p s = spelled_after_all mode unit tokens at p s
no_answer tokens mode unit (Nesting at) p s = spelled_within mode unit tokens at p s

-- what is refused was not spelled
pub answers_by : (tokens : List Token) (mode : Mode) (unit : Items) (result : Result UnitTree ParseError) (e : ParseError) → IsErr result × IsErrAnd result (λ y. y ≡ e) → IsRefused tokens mode e → SpellsUnit unit tokens mode → Answers unit result
answers_by tokens mode unit result e h p s = let w = err_from_is_err_and result h.1 in rw (w.1, w.2) (no_answer tokens mode unit e p s)

-- where the tokens end

pub end_step : (xs : List Token) (k e : ℕ) (t : Token) → t ≡ get_or xs k t → k < length xs → end_of e (drop k xs) ≡ end_of 0 xs → end_of t.to (drop (k + 1) xs) ≡ end_of 0 xs
end_step xs k e t p l q =
    let r : drop k xs ≡ t ∷ drop (suc k) xs = drop-cons xs k t l ∙ ap (λ z. z ∷ drop (suc k) xs) (sym p) in
    rw add-one (sym (ap (λ z. end_of e z) r) ∙ q)

pub end_done : (xs : List Token) (k e : ℕ) → length xs ≤ k → end_of e (drop k xs) ≡ end_of 0 xs → e ≡ end_of 0 xs
end_done xs k e l q = sym (ap (λ z. end_of e z) (drop_all k xs l)) ∙ q
