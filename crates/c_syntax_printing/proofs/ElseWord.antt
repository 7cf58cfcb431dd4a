-- Only the keyword else has the number that it has as the first token.
use Rattle.std.proofs.Common.{◌≡◌, ℕ, zero, suc, refl, ap, arith}
use Rattle.c_lexer.specs.declared.token.Token.{Token}
use Rattle.c_lexer.specs.declared.token.TokenKind.{TokenKind}
use Rattle.c_lexer.specs.declared.token.TokenKind.TheVariants.{Keyword, Punct}
use Rattle.c_lexer.specs.declared.keyword.TheConstants.{ELSE}
use Rattle.c_syntax.specs.Tokens.{IsKeyword}
use Rattle.c_syntax_printing.specs.Heads.{head_of_code, head_of_word, head_of_kind}

else_word : (w : ℕ) → head_of_word w ≡ 13 → w ≡ 7
else_word (suc (suc (suc (suc (suc (suc (suc (suc (suc (suc (suc (suc (suc (suc (suc (suc (suc (suc (suc (suc (suc (suc n)))))))))))))))))))))) h = absurd (omega (arith, h))
else_word (suc (suc (suc (suc (suc (suc (suc zero))))))) h = refl
else_word w h = absurd (omega (arith, h))

no_else_code : (code : ℕ) → head_of_code code ≡ 13 → ⊥
no_else_code (suc (suc (suc (suc (suc (suc (suc (suc (suc (suc (suc (suc (suc (suc (suc (suc (suc (suc (suc (suc (suc (suc (suc (suc (suc (suc (suc (suc (suc (suc (suc (suc (suc (suc (suc (suc (suc (suc (suc (suc (suc (suc (suc (suc (suc n))))))))))))))))))))))))))))))))))))))))))))) h = omega (arith, h)
no_else_code code h = omega (arith, h)

else_kind : (k : TokenKind) → head_of_kind k ≡ 13 → k ≡ Keyword ELSE
unfolding head_of_kind
else_kind (Keyword w) h = ap Keyword (else_word w h)
else_kind (Punct code) h = absurd (no_else_code code h)
else_kind k h = absurd (omega (arith, h))

pub else_stands : {t : Token} → head_of_kind t.kind ≡ 13 → IsKeyword ELSE t
else_stands {t} h = record { kind = else_kind t.kind h }
