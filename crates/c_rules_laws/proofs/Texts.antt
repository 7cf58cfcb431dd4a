-- Accepted texts, by the laws of the lexer, of the grammar and of the rules.
use Rattle.std.proofs.Common.{◌≡◌, ℕ, List, [], subst, arith}
use Rattle.dm_base.specs.declared.mode.Mode.{Mode}
use Rattle.dm_base.specs.declared.mode.Mode.TheVariants.{Plain, Instrumented}
use Rattle.c_lexer.specs.declared.token.Token.{Token}
use Rattle.c_lexer.specs.TokenSpelling.{SpellsTokens}
use Rattle.c_syntax.specs.Tree.{Items}
use Rattle.c_syntax.specs.Limits.{most_pairs}
use Rattle.c_syntax.specs.Spelling.{SpellsUnit}
use Rattle.c_syntax.specs.Statements.{ReadsItems}
use Rattle.c_tree.specs.Tree.{Program}
use Rattle.c_rules.specs.Units.{IsTyped}
use Rattle.c_rules.specs.Accepted.{IsAcceptedAs}

-- one list of tokens, one unit, one program
pub one_program : ((text : List ℕ) (mode : Mode) (one other : List Token) → SpellsTokens text mode one → SpellsTokens text mode other → one ≡ other)
    → ((d x : ℕ) (one other : Items) (tokens : List Token) → ReadsItems d one tokens [] → ReadsItems x other tokens [] → one ≡ other)
    → ((u : Items) (m : Mode) (p q : Program) → IsTyped u m p → IsTyped u m q → p ≡ q)
    → (text : List ℕ) (m : Mode) (p q : Program) → IsAcceptedAs text m p → IsAcceptedAs text m q → p ≡ q
one_program tokens units programs text m p q h k =
    let t : h.tokens ≡ k.tokens = tokens text m h.tokens k.tokens h.lexed k.lexed in
    let u : h.unit ≡ k.unit = units most_pairs most_pairs h.unit k.unit k.tokens (subst (λ ts. ReadsItems most_pairs h.unit ts []) t h.spelled.reads) k.spelled.reads in
    programs k.unit m p q (subst (λ x. IsTyped x m p) u h.typed) k.typed

longer : (text : List ℕ) (tokens : List Token) → SpellsTokens text Plain tokens → SpellsTokens text Instrumented tokens
longer text tokens h = record { short = (let l = h.short in omega (arith, l)); whole = h.whole }

deeper : (u : Items) (tokens : List Token) → SpellsUnit u tokens Plain → SpellsUnit u tokens Instrumented
deeper u tokens h = record { reads = h.reads; nested = (let l = h.nested in omega (arith, l)) }

pub in_both_modes : ((u : Items) (p : Program) → IsTyped u Plain p → IsTyped u Instrumented p) → (text : List ℕ) (p : Program) → IsAcceptedAs text Plain p → IsAcceptedAs text Instrumented p
in_both_modes typed text p h = record { tokens = h.tokens; unit = h.unit; lexed = longer text h.tokens h.lexed; spelled = deeper h.unit h.tokens h.spelled; typed = typed h.unit p h.typed }
