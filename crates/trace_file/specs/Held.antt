-- What a reader of a text that comes in pieces holds, and what it stands for.
use Rattle.std.specs.Prelude.{◌≡◌, ◌≤◌, ℕ, List, ◌++◌, Contains, length, Option, None}
use Rattle.trace_file.specs.declared.error.TraceError.{TraceError}
use Rattle.trace_file.specs.Trace.{longest}

-- what a reader holds between two pieces: how far it came, the bytes of the unfinished line, how many bytes came in all, and its refusal
pub record Held (P : Type 0) : Type 0 where
  pub place : P
  pub tail : List ℕ
  pub size : ℕ
  pub refused : Option TraceError

-- the reader was given this text, whose lines gave these items, and didn't refuse it
pub record StandsFor {P I : Type 0} (Reaches : P → List ℕ → List I → Type 0) (held : Held P) (text : List ℕ) (items : List I) : Type 0 where
  pub done : List ℕ
  pub unrefused : held.refused ≡ None
  pub reached : Reaches held.place done items
  pub parts : text ≡ done ++ held.tail
  pub plain : Contains held.tail 10 → ⊥
  pub size : held.size ≡ length text
  pub short : length text ≤ longest
