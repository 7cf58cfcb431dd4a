-- Each token that begins a statement begins one for which no node is left.
use Rattle.std.proofs.Common.{◌≡◌, ◌≤◌, ℕ, zero, suc, List, [], ◌∷◌, refl, sym, ap, subst, arith}
use Rattle.c_lexer.specs.declared.token.Token.{Token}
use Rattle.c_lexer.specs.declared.token.TokenKind.{TokenKind}
use Rattle.c_lexer.specs.declared.token.TokenKind.TheVariants.{Keyword, Punct}
use Rattle.c_syntax.specs.Tokens.{place}
use Rattle.c_syntax_printing.specs.Heads.{head, head_of_kind, head_of_code, head_of_word}
use Rattle.c_syntax_printing.specs.Starts.{start_of_kind}
use Rattle.c_parser_phrases.specs.declared.room.Room.{Room}
use Rattle.c_syntax_printing.specs.Phrases.{within, AStmt}
use Rattle.c_syntax_printing.specs.Fails.{Fails}
use Rattle.c_syntax_printing.specs.Opens.{Opens, DeepStmt}
use Rattle.c_syntax_printing.proofs.PartFails.{no_stmt_left}
use Rattle.c_syntax_printing.proofs.StmtOpens.{semicolon_too_deep, block_too_deep, if_too_deep, while_too_deep, for_too_deep, switch_too_deep}
use Rattle.c_syntax_printing.proofs.BodyOpens.{do_too_deep, break_too_deep, continue_too_deep, return_too_deep, evaluation_too_deep}
use Rattle.c_parser.specs.Nesting.{PastAt, OpensAs}

code_opens : {p : ℕ} (t : Token) (i : List Token) (code : ℕ) → t.kind ≡ Punct code → 20 ≤ head_of_code code → Opens (DeepStmt t.from p 0) (t ∷ i) (t ∷ i)
unfolding start_of_kind
code_opens t i (suc (suc (suc (suc (suc (suc (suc (suc (suc (suc (suc (suc (suc (suc (suc (suc (suc (suc (suc (suc (suc (suc (suc (suc (suc (suc (suc (suc (suc (suc (suc (suc (suc (suc (suc (suc (suc (suc (suc (suc (suc (suc (suc (suc (suc n))))))))))))))))))))))))))))))))))))))))))))) q l = absurd (omega (arith, l))
code_opens t i (suc (suc (suc (suc zero)))) q l = block_too_deep (record { kind = q })
code_opens t i (suc (suc (suc (suc (suc (suc (suc (suc (suc (suc (suc (suc (suc (suc (suc (suc (suc (suc (suc (suc (suc (suc (suc (suc (suc (suc (suc (suc (suc (suc (suc (suc zero)))))))))))))))))))))))))))))))) q l = semicolon_too_deep (record { kind = q })
code_opens t i code q l = evaluation_too_deep (omega (arith, ap start_of_kind q, l)) (omega (arith, ap start_of_kind q, l))

word_opens : {p : ℕ} (t : Token) (i : List Token) (word : ℕ) → t.kind ≡ Keyword word → 20 ≤ head_of_word word → Opens (DeepStmt t.from p 0) (t ∷ i) (t ∷ i)
unfolding start_of_kind
word_opens t i (suc (suc (suc (suc (suc (suc (suc (suc (suc (suc (suc (suc (suc (suc (suc (suc (suc (suc (suc (suc (suc (suc n)))))))))))))))))))))) q l = absurd (omega (arith, l))
word_opens t i zero q l = break_too_deep (record { kind = q })
word_opens t i (suc (suc (suc (suc zero)))) q l = continue_too_deep (record { kind = q })
word_opens t i (suc (suc (suc (suc (suc (suc zero)))))) q l = do_too_deep (record { kind = q })
word_opens t i (suc (suc (suc (suc (suc (suc (suc (suc (suc (suc zero)))))))))) q l = for_too_deep (record { kind = q })
word_opens t i (suc (suc (suc (suc (suc (suc (suc (suc (suc (suc (suc zero))))))))))) q l = if_too_deep (record { kind = q })
word_opens t i (suc (suc (suc (suc (suc (suc (suc (suc (suc (suc (suc (suc (suc zero))))))))))))) q l = return_too_deep (record { kind = q })
word_opens t i (suc (suc (suc (suc (suc (suc (suc (suc (suc (suc (suc (suc (suc (suc (suc (suc (suc (suc zero)))))))))))))))))) q l = switch_too_deep (record { kind = q })
word_opens t i (suc (suc (suc (suc (suc (suc (suc (suc (suc (suc (suc (suc (suc (suc (suc (suc (suc (suc (suc (suc (suc zero))))))))))))))))))))) q l = while_too_deep (record { kind = q })
word_opens t i word q l = evaluation_too_deep (omega (arith, ap start_of_kind q, l)) (omega (arith, ap start_of_kind q, l))

kind_opens : {p : ℕ} (t : Token) (i : List Token) (k : TokenKind) → t.kind ≡ k → 20 ≤ head_of_kind k → Opens (DeepStmt t.from p 0) (t ∷ i) (t ∷ i)
unfolding head_of_kind start_of_kind
kind_opens t i (Punct code) q l = code_opens t i code q l
kind_opens t i (Keyword word) q l = word_opens t i word q l
kind_opens t i k q l = evaluation_too_deep (omega (arith, ap start_of_kind q)) (omega (arith, ap start_of_kind q))

-- where no node is left, at the token that begins a statement
pub no_room_nests : (room : Room) (at : ℕ) (i : List Token) → room.nodes ≡ 0 → at ≡ place i → 20 ≤ head i → PastAt AStmt (OpensAs DeepStmt) room at i
no_room_nests room at [] z e l = absurd (omega (arith, l))
no_room_nests room at (t ∷ i) z e l = record {
  token = t ∷ i;
  fails = subst (λ n. Fails (AStmt (within room.pairs n)) (t ∷ i) (t ∷ i)) (sym z) (no_stmt_left (t ∷ i));
  deep = subst (λ n. Opens (DeepStmt at room.pairs n) (t ∷ i) (t ∷ i)) (sym z) (subst (λ a. Opens (DeepStmt a room.pairs 0) (t ∷ i) (t ∷ i)) (sym e) (kind_opens t i t.kind refl l));
  some = omega arith;
}
