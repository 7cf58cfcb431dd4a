use Rattle.std.proofs.Common.{◌∷◌, ◌++◌, [], List, ℕ, Option, subst, sym}
use Rattle.c_lexer.specs.Elements.{KeepsByte, HasValues}
use Rattle.c_lexer.proofs.LiteralValues.{large_value, byte_value}
use Rattle.c_lexer.proofs.literal.Elements.push.Goals as goal

pub returns-in_default-clause-values : goal.returns-in_default-clause-values
returns-in_default-clause-values c = λ vs v keeps have. large_value vs v (subst (λ (o : Option ℕ). KeepsByte v o) c.in_default.is keeps)

pub returns-clause-values : goal.returns-clause-values
returns-clause-values c = λ vs v keeps have.
    subst (λ (x : List ℕ). HasValues c.args.self.now.large x (vs ++ v ∷ [])) (sym c.in_ok-push.ensures.items)
    (byte_value c.args.self.now.large c.args.self.now.bytes.items vs v c.in-Some.byte (subst (λ (o : Option ℕ). KeepsByte v o) c.in-Some.is keeps) have)
