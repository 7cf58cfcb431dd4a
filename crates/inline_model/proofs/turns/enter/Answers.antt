use Rattle.std.proofs.Common.{length, set, refl, sym, ap, subst, arith}
use Rattle.std.specs.Prelude.{sum_by}
use Rattle.inline_model.specs.declared.search.Mark.TheVariants.{Open}
use Rattle.inline_model.specs.Searching.{AreSearching, frame_left}
use Rattle.inline_model.proofs.SearchLemmas.{enter_left, enter_unseen}
use Rattle.inline_model.proofs.turns.enter.Goals as goal

pub returns : goal.returns
returns c =
    let g = c.args.model.now in
    let n = length g.calls in
    let old = c.args.search.now.marks.items in
    let marks = set old c.args.place Open in (
      subst (AreSearching g marks c.args.search.now.heights.items) (sym c.in_ok-push.ensures)
          (enter_unseen g old c.args.search.now.heights.items c.args.search.now.path c.args.frame c.requires.top.0 c.requires.top.1 c.requires.search c.args.place marks c.requires.next c.requires.unseen refl),
      omega (arith, enter_left n old marks c.args.search.now.path c.args.place c.requires.unseen refl, ap (sum_by (frame_left n)) c.in_ok-push.ensures),
    )
