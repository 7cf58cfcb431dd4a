use Rattle.std.proofs.Common.{◌≡◌, ◌≤◌, ◌-◌, vec_len}
use Rattle.dm_io.specs.Front.{ReadsFront}
use Rattle.dm_io.proofs.whole.read_whole.Given as goal

abbrev pub invariant-loop-text : goal.invariant-loop-text
invariant-loop-text g l = record {
  short : vec_len l.text ≤ l.most;
  piece : vec_len l.piece ≡ 65536;
  same : g.S.Store.files l.store ≡ g.S.Store.files l.fn.store;
  front : ReadsFront (g.S.Store.files l.fn.store) l.name l.text.items;
  faults : g.S.Store.faults l.fn.store ≤ g.S.Store.faults l.store;
}

abbrev pub decreases-loop-text : goal.decreases-loop-text
decreases-loop-text g l = l.most - vec_len l.text
