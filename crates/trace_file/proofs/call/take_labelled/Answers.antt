use Rattle.std.proofs.Common.{◌≡◌, ◌≤◌, ℕ, true, List, ◌++◌, refl, arith}
use Rattle.line_text.specs.Words.{number_word}
use Rattle.line_text.proofs.Splits.{IsSplit, err_first}
use Rattle.trace_file.specs.LineParts.{has_no_feed}
use Rattle.trace_file.proofs.Parts.{is_in_line-plain, word_split, then_next, reads_err}
use Rattle.trace_file.proofs.call.take_labelled.Goals as goal

label_split : (label : List ℕ) (least most : ℕ) → has_no_feed label ≡ true → least ≤ most → IsSplit (λ n. (least ≤ n) × (n ≤ most)) (λ n. label ++ number_word 10 n) (λ (u : Unit {0}). Unit {0}) (λ u. label) (λ u n. (least ≤ n) × (n ≤ most)) (λ u. number_word 10) (λ u n. n)
label_split label least most plain range =
    word_split (λ n. (least ≤ n) × (n ≤ most)) (λ n. label ++ number_word 10 n) (number_word 10) label plain (λ n fits. refl) least (omega arith, range)

pub take-requires : goal.take-requires
take-requires c = is_in_line-plain c.args.label.now c.requires.label

pub returns-in_err-take : goal.returns-in_err-take
returns-in_err-take c =
    let rest = c.take.new.self.rest.now in
    reads_err _ _ _ _ _ c.from_residual.result c.from_residual.ensures.1 (err_first (label_split c.args.label.now c.args.least c.args.most c.requires.label c.requires.range) _ rest rest _ c.in_err-take.ensures.reads)

pub returns : goal.returns
returns c =
    then_next (label_split c.args.label.now c.args.least c.args.most c.requires.label c.requires.range) _ _ _ tt c.in_ok-take.ensures.reads _ c.number.ensures.reads
