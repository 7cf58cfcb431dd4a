-- Lemmas that several crates above use.
use Rattle.std.proofs.Common.{[], arith, inl, inr, ◌∷◌, ◌≡◌, ◌⊎◌}
use Rattle.std.proofs.lemmas.List.Elements.{All-cons, All-nil}
use Rattle.c_lexer.proofs.WordTables.{c99_is_fixed}
use Rattle.c_lexer.specs.Name.{IsDigit, IsLetter, IsName}

pub s_is_name : IsName (115 ∷ [])
s_is_name =
    record {
      some = omega arith;
      short = omega arith;
      begins = λ b rest q. let e : 115 ≡ b = cc in inr (inl (omega arith, omega arith));
      bytes = All-cons (λ b. IsLetter b ⊎ IsDigit b) 115 [] (inl (inr (inl (omega arith, omega arith)))) (All-nil (λ b. IsLetter b ⊎ IsDigit b));
      free = λ among. let fixed = c99_is_fixed (115 ∷ []) among in omega (arith, fixed.long);
    }
