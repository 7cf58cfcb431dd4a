use Rattle.std.proofs.Common.{◌≡◌, ◌<◌, ℕ, List, ◌++◌, Err, length, subst, Global, Vec}
use Rattle.std.specs.Prelude.{IfOk, IfErr}
use Rattle.std.proofs.lemmas.Result.{IfErr-weaker}
use Rattle.trace_file.specs.declared.record.Record.{Record}
use Rattle.trace_file.specs.declared.error.TraceError.TheVariants.{TooLong, OutOfMemory}
use Rattle.trace_file.specs.declared.traces_place.TracesPlace.{TracesPlace}
use Rattle.trace_file.specs.Held.{Held}
use Rattle.trace_file.specs.Pieces.{IsShown}
use Rattle.trace_file.specs.Refusals.{IsRefusedAt}
use Rattle.trace_file.specs.Trace.{longest}
use Rattle.trace_file.specs.TracesReading.{StandForTraces}
use Rattle.trace_file.proofs.TracesLemmas.{feed_kept, feed_first, feed_told}
use Rattle.trace_file.proofs.traces_reader.TracesReader.feed.Goals as goal

-- what the pieces tell, of the reader as it is seen

long_here : (c : goal.After-feed) → (text : List ℕ) (records : List Record) → StandForTraces c.args.self.now text records → longest < length (text ++ c.args.piece.now) → (c.feed.result ≡ Err TooLong) × (c.feed.new.self.place ≡ c.args.self.now.place)
long_here c =
    subst (λ (held : Held TracesPlace). (text : List ℕ) (records : List Record) → StandForTraces held text records → longest < length (text ++ c.args.piece.now) → (c.feed.result ≡ Err TooLong) × (c.feed.new.self.place ≡ held.place)) c.self.view_is c.feed.ensures.long

shown_here : (c : goal.After-feed) → IfErr c.feed.result (λ error. (text : List ℕ) (records : List Record) → StandForTraces c.args.self.now text records → IsShown (IsRefusedAt c.feed.new.self.place.stage) error (text ++ c.args.piece.now))
shown_here c =
    subst (λ (held : Held TracesPlace). IfErr c.feed.result (λ error. (text : List ℕ) (records : List Record) → StandForTraces held text records → IsShown (IsRefusedAt c.feed.new.self.place.stage) error (text ++ c.args.piece.now))) c.self.view_is c.feed.ensures.shown

stands_here : (c : goal.After-feed) → IfOk c.feed.result (λ given. (text : List ℕ) (records : List Record) → StandForTraces c.args.self.now text records → StandForTraces c.feed.new.self (text ++ c.args.piece.now) (records ++ given.items))
stands_here c =
    subst (λ (held : Held TracesPlace). IfOk c.feed.result (λ given. (text : List ℕ) (records : List Record) → StandForTraces held text records → StandForTraces c.feed.new.self (text ++ c.args.piece.now) (records ++ given.items))) c.self.view_is c.feed.ensures.stands

memory_here : (c : goal.After-feed) → c.feed.result ≡ Err OutOfMemory → c.feed.new.self ≡ c.args.self.now
memory_here c = subst (λ (held : Held TracesPlace). c.feed.result ≡ Err OutOfMemory → c.feed.new.self ≡ held) c.self.view_is c.feed.ensures.memory

pub returns-clause-stands : goal.returns-clause-stands
returns-clause-stands c = stands_here c

pub returns-clause-memory : goal.returns-clause-memory
returns-clause-memory c = memory_here c

pub returns-clause-long : goal.returns-clause-long
returns-clause-long c text records before over = (long_here c text records before over).0

pub returns-clause-shown : goal.returns-clause-shown
returns-clause-shown c = IfErr-weaker c.feed.result _ _ (λ error all text records before more short. (all text records before more short).refusal) (shown_here c)

pub returns-clause-kept : goal.returns-clause-kept
returns-clause-kept c =
    feed_kept (λ (v : Vec Record Global). v.items) c.args.self.now c.feed.new.self c.args.piece.now c.feed.result (stands_here c) (memory_here c) (long_here c) (shown_here c)

pub returns-clause-first : goal.returns-clause-first
returns-clause-first c =
    feed_first (λ (v : Vec Record Global). v.items) c.args.self.now c.feed.new.self c.args.piece.now c.feed.result (stands_here c) (memory_here c) (long_here c) (shown_here c)

pub returns-clause-told : goal.returns-clause-told
returns-clause-told c =
    IfErr-weaker c.feed.result _ _ (feed_told (λ (v : Vec Record Global). v.items) c.args.self.now c.feed.new.self c.args.piece.now) (shown_here c)
