use Rattle.std.proofs.Common.{◌+◌, ◌∷◌, ◌++◌, take, drop, get_or, sym, ◌∙◌, ap}
use Rattle.std.proofs.lemmas.List.{take_rest}
use Rattle.line_text.proofs.WordLemmas.{split_at, word_stands, word_is_cut, other_end}
use Rattle.line_text.proofs.cursor.Cursor.word.Goals as goal

pub returns-in_default-clause-reads : goal.returns-in_default-clause-reads
returns-in_default-clause-reads c = word_is_cut c.args.end c.args.self.now.rest.now c.in_default.ensures.none

pub returns-then-rest-place-clause-reads : goal.returns-then-rest-place-clause-reads
returns-then-rest-place-clause-reads c =
    let text = c.args.self.now.rest.now in
    let i = c.in-Some.place in
    let there = c.in-Some.ensures.there in
    other_end c.args.end text (take i text) (drop (i + 1) text) (get_or text i 0) c.requires there.1 (λ is. c.if-rest-place.true (sym is)) c.in-Some.ensures.first (split_at text i there.0)

pub returns-clause-reads : goal.returns-clause-reads
returns-clause-reads c =
    let text = c.args.self.now.rest.now in
    let i = c.in-Some.place in
    let there = c.in-Some.ensures.there in
    rw take_rest (word_stands c.args.end text (drop (i + 1) text) (take i text) c.requires c.in-Some.ensures.first (split_at text i there.0 ∙ ap (λ e. take i text ++ e ∷ drop (i + 1) text) c.if-rest-place.false))
