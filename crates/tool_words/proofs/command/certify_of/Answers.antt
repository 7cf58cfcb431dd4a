use Rattle.std.proofs.Common.{◌≡◌, ℕ, List, [], ◌∷◌}
use Rattle.certify_facts.specs.declared.fact.Judge.{Judge}
use Rattle.tool_words.specs.Command.{IsCommandLine, judge_word}
use Rattle.tool_words.specs.Command.Command.{Certify}
use Rattle.tool_words.proofs.command.certify_of.Goals as goal

no_certify : (word model trace last : List ℕ) → ((judge : Judge) → last ≡ judge_word judge → ⊥) → (m t : List ℕ) (judge : Judge) → IsCommandLine (Certify m t judge) (word ∷ model ∷ trace ∷ last ∷ []) → ⊥
no_certify word model trace last none m t judge line =
    let same : last ≡ judge_word judge = cc line in
    none judge same

pub returns-in_err-judge-clause-none : goal.returns-in_err-judge-clause-none
returns-in_err-judge-clause-none c =
    rw c.from_residual.ensures (no_certify c.args.word.now c.args.model.now c.args.trace.now c.args.which.now c.in_err-judge.ensures.none)
