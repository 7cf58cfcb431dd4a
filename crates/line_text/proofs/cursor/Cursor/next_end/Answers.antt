use Rattle.std.proofs.Common.{◌+◌, take, drop}
use Rattle.line_text.proofs.WordLemmas.{split_at}
use Rattle.line_text.proofs.cursor.Cursor.next_end.Goals as goal

pub returns : goal.returns
returns c =
    let text = c.args.self.now.rest.now in
    let i = c.in_ok-place.place in
    let there = c.in_ok-place.ensures.there in
    (there.1, (take i text, drop (i + 1) text, c.in_ok-place.ensures.first, split_at text i there.0))
