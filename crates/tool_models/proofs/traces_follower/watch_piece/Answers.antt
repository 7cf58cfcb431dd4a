use Rattle.std.proofs.Common.{rules, List, ◌++◌, Option, sym, ◌∙◌, subst}
use Rattle.trace_file.specs.declared.record.Record.{Record}
use Rattle.trace_file.specs.declared.version.TracesVersion.{TracesVersion}
use Rattle.trace_file.specs.TracesReading.{traces_version}
use Rattle.tool_models.specs.Following.{AreFew, HasBegun}
use Rattle.tool_models.proofs.FollowingLemmas.{given_few}
use Rattle.tool_models.proofs.traces_follower.watch_piece.Goals as goal

pub go_on-requires : goal.go_on-requires
go_on-requires g c =
    let (text, at) = c.requires.read in
    let few = given_few c.feed.new.self (text ++ c.args.piece.now) (at.records ++ c.in-Ok.records.items) (c.in-Ok.ensures.stands text at.records at.stand) in (
      c.args.model.now,
      c.args.bound,
      c.version.result,
      at.records,
      c.in_ok-begin-in-Ok.ensures (traces_version c.args.reader.now) at.records at.followed (λ v is. c.version.ensures.version ∙ c.in-Ok.ensures.kept text at.records v at.stand is),
      subst (λ (o : Option TracesVersion). AreFew o (at.records ++ c.deref.result.now)) (sym c.version.ensures.version)
          (subst (λ (t : List Record). AreFew (traces_version c.feed.new.self) (at.records ++ t)) (sym c.deref.ensures.value) few),
    )

pub returns-in_ok-go_on-in-Ok : goal.returns-in_ok-go_on-in-Ok
returns-in_ok-go_on-in-Ok g c = λ text at.
    let R : g.row.W.Denot → TracesVersion → List Record → Type 0 = λ w v rs. g.W.Watches.watched w c.args.model.now c.args.bound v rs in
    let few = given_few c.feed.new.self (text ++ c.args.piece.now) (at.records ++ c.in-Ok.records.items) (c.in-Ok.ensures.stands text at.records at.stand) in
    let begun = c.in_ok-begin-in-Ok.ensures (traces_version c.args.reader.now) at.records at.followed (λ v is. c.version.ensures.version ∙ c.in-Ok.ensures.kept text at.records v at.stand is) in
    let few' : AreFew c.version.result (at.records ++ c.deref.result.now) =
    subst (λ (o : Option TracesVersion). AreFew o (at.records ++ c.deref.result.now)) (sym c.version.ensures.version)
    (subst (λ (t : List Record). AreFew (traces_version c.feed.new.self) (at.records ++ t)) (sym c.deref.ensures.value) few) in
    let done = c.in_ok-go_on-in-Ok.ensures c.args.model.now c.args.bound c.version.result at.records begun few' in
    record {
      records = at.records ++ c.in-Ok.records.items;
      stand = c.in-Ok.ensures.stands text at.records at.stand;
      followed = subst (λ (o : Option TracesVersion). HasBegun {W = g.row.W.Denot} R c.go_on.new.watches o (at.records ++ c.in-Ok.records.items)) c.version.ensures.version
          (subst (λ (t : List Record). HasBegun {W = g.row.W.Denot} R c.go_on.new.watches c.version.result (at.records ++ t)) c.deref.ensures.value done);
    }

pub returns-else-eq : goal.returns-else-eq
returns-else-eq g c = λ text at. record { named = search rules; shown = c.in-Err.ensures.shown text at.records at.stand }
