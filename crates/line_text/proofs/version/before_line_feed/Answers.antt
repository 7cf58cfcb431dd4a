use Rattle.std.proofs.Common.{ℕ, List, [], ◌∷◌, ◌++◌, ◌∙◌, sym, ap, inl}
use Rattle.line_text.proofs.VersionLemmas.{last_part}
use Rattle.line_text.proofs.version.before_line_feed.Goals as goal

pub returns-in-Some : goal.returns-in-Some
returns-in-Some c =
    inl (last_part (10 ∷ []) c.args.text.now c.in-Some.ensures.cases.0 ∙ ap (λ (w : List ℕ). w ++ 10 ∷ []) (sym c.in-Some.ensures.cases.1))
