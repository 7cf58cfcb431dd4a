use Rattle.std.proofs.Common.{rules, ◌≡◌, List, ℕ, ◌++◌, ◌≤◌, length, take, sym, subst}
use Rattle.dm_io.specs.Front.{ReadsFront}
use Rattle.dm_io.proofs.Parts.{ReadsFront-append}
use Rattle.dm_io.proofs.whole.read_on.Goals as goal

pub returns-clause-front : goal.returns-clause-front
returns-clause-front g c = λ front.
    let added : c.extend_from_slice.new.self.items ≡ c.args.text.now.items ++ take c.in_ok-count.count c.read.new.into = search rules in
    let here : c.len.result ≡ length c.args.text.now.items = search rules in
    let within : c.in_ok-count.count ≤ length c.read.new.into = search rules in
    let P : List ℕ → Type 0 = λ t. ReadsFront (g.S.Store.files c.args.store.now) c.args.name.now t in
    subst P (sym added) (ReadsFront-append _ _ _ c.read.new.into _ _ here within front c.in_ok-count.ensures.part)
