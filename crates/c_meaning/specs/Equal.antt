-- Languages of shapes and of graphs that have the same words.
use Rattle.std.specs.Prelude.{List}
use Rattle.dm_base.specs.declared.event.Event.{Event}

-- each word of the one language is a word of the other
pub record AreEqual (one other : List Event → Type 0) : Type 0 where
  pub into : (t : List Event) → one t → other t
  pub back : (t : List Event) → other t → one t
