-- A file read in parts.
use Rattle.std.proofs.Common.{◌≡◌, ℕ, ◌+◌, ◌≤◌, List, ◌++◌, length, take, drop, Option, Some, None, sym, ◌∙◌, ap, arith, length-append}
use Rattle.std.proofs.Math.Seq.{take-add}
use Rattle.std.proofs.lemmas.List.{length-take}
use Rattle.dm_io.specs.Front.{ReadsFront}
use Rattle.dm_io.specs.Store.{Files, ReadsPart, file_at}

-- a front of the file, and the part behind it
pub ReadsFront-append : (told : Option Files) (name text into : List ℕ) (at k : ℕ) → at ≡ length text → k ≤ length into
    → ReadsFront told name text → ReadsPart told name at k into → ReadsFront told name (text ++ take k into)
ReadsFront-append None name text into at k is le front part = tt
ReadsFront-append (Some files) name text into at k is le front part =
    let file : List ℕ = file_at files name in
    let long : at + k ≡ length (text ++ take k into) = omega (arith, length-append text (take k into), length-take k into) in
    let begun : text ≡ take at file = front ∙ ap (λ n. take n file) (sym is) in
    let joined : text ++ take k into ≡ take at file ++ take k (drop at file) = ap (λ x. x ++ take k into) begun ∙ ap (λ y. take at file ++ y) part.bytes in
    joined ∙ sym (take-add at k file) ∙ ap (λ n. take n file) long
