-- The printed text of a writable unit is read back.
use Rattle.std.proofs.Common.{◌≤◌, ℕ, List, [], ◌∷◌, All, sym, subst, arith}
use Rattle.std.proofs.lemmas.List.Elements.{All-cons}
use Rattle.c_lexer.specs.declared.token.TokenKind.{TokenKind}
use Rattle.c_lexer.specs.Kinds.{IsKind}
use Rattle.c_syntax.specs.Print.{unit_kinds}
use Rattle.c_syntax_printing.proofs.BackUnits.{BackUnit, back_unit}
use Rattle.c_syntax_printing.proofs.KindsPrinted.{AreKinds}
use Rattle.c_syntax.proofs.HeightLemmas.{same_height}
use Rattle.c_syntax_printing.proofs.LexBack.{LexedBack, lexed_back}
use Rattle.c_syntax_printing.specs.Laws.{SpelledUnitsAreWritable, WritableUnitsAreReadBack}
use Rattle.c_syntax_printing.proofs.WritableRead as read
use Rattle.c_syntax_printing.proofs.WritablePrinted as written

all_kinds : (ks : List TokenKind) → AreKinds ks → All IsKind ks
all_kinds [] h = λ i d below. absurd (omega arith)
all_kinds (kind ∷ ks) h = All-cons IsKind kind ks h.0 (all_kinds ks h.1)

pub spelled_writable : SpelledUnitsAreWritable
spelled_writable u tokens m h = read.unit h.reads

pub writable_read_back : WritableUnitsAreReadBack
writable_read_back u fine writes deep short =
    let x : LexedBack (unit_kinds u []) = lexed_back (unit_kinds u []) (all_kinds (unit_kinds u []) ((written.unit u writes).put [] tt)) short in
    let y : BackUnit 500 u x.tokens = back_unit u fine 500 deep x.tokens x.are in
    record {
      tokens = x.tokens;
      other = y.other;
      lexed = x.spelled;
      spelled = record { reads = y.reads; nested = subst (λ (n : ℕ). n ≤ 500) (sym (same_height y.other u y.same)) deep };
      same = y.same;
    }
