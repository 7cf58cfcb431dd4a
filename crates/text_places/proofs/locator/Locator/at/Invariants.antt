use Rattle.std.proofs.Common.{◌≡◌}
use Rattle.text_places.proofs.locator.Locator.at.Given as goal

abbrev pub invariant-loop : goal.invariant-loop
invariant-loop l = record { file : l.self.file ≡ l.fn.self.file; text : l.self.text ≡ l.fn.self.text; passed : l.self.passed ≡ l.counter }
