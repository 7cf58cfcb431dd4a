-- The values of a literal's elements, one after the other.
use Rattle.std.proofs.Common.{◌≡◌, ℕ, ◌+◌, ◌-◌, ◌<◌, ◌≤◌, Bool, true, false, List, [], ◌∷◌, ◌++◌, length, take, drop, ◌∙◌, ap, subst, arith}
use Rattle.std.specs.Prelude.{Any, Some}
use Rattle.std.proofs.lemmas.List.{length-append, length-drop, get_or_append_left, drop-drop}
use Rattle.std.proofs.Math.Seq.{take-length}
use Rattle.std.proofs.lemmas.List.Elements.{All-push}
use Rattle.std.proofs.lemmas.List.Quantifiers.{Any-push}
use Rattle.c_lexer.specs.Kinds.{IsByte}
use Rattle.c_lexer.specs.Literals.{HasElement}
use Rattle.c_lexer.specs.declared.escape.Element.{Element}
use Rattle.c_lexer.specs.declared.literal.Elements.{Elements}
use Rattle.c_lexer.specs.Elements.{KeepsByte, HasValues, HasRead, ReadsElement, AddsValue}
use Rattle.c_lexer.proofs.EscapeFronts.{Front, front}
use Rattle.c_lexer.proofs.LiteralParts.{elements_push}
use Rattle.c_lexer.proofs.EscapeFronts.Front.{an_octal, a_hexadecimal}

pub large_value : (vs : List ℕ) (v : ℕ) → 255 < v → Any (λ x. 255 < x) (vs ++ v ∷ [])
large_value vs v large = Any-push (λ x. 255 < x) vs v large

pub byte_value : (large : Bool) (bytes vs : List ℕ) (v value : ℕ) → KeepsByte v (Some value) → HasValues large bytes vs → HasValues large (bytes ++ value ∷ []) (vs ++ v ∷ [])
byte_value false bytes vs v value (same, small) (e, all) =
    (ap (λ (x : List ℕ). x ++ v ∷ []) e ∙ ap (λ (x : ℕ). bytes ++ x ∷ []) same, All-push IsByte vs v all small)
byte_value true bytes vs v value keeps (k, x, within, at, large) =
    (k, x, omega (arith, within, length-append vs (v ∷ [])), get_or_append_left vs (v ∷ []) x k within ∙ at, large)

-- an element has a byte at least
front_shorter : {q v : ℕ} {i j : List ℕ} → Front q i j v → length j < length i
front_shorter (an_octal ds {j = j} is one few low ended value) =
    let size = ap length is in
    omega (arith, size, length-append ds j)
front_shorter (a_hexadecimal ds {j = j} is one low ended value) =
    let size = ap length is in
    omega (arith, size, length-append ds j)
front_shorter a = omega arith

pub element_moves : (q n v : ℕ) (i : List ℕ) → HasElement q i (drop n i) v → 1 ≤ n
element_moves q n v i h =
    let shorter = front_shorter (front h) in
    omega (arith, shorter, length-drop n i)

-- the rest of a text from a place, as a slice
pub slice_rest : (n : ℕ) (text : List ℕ) → take (length text - n) (drop n text) ≡ drop n text
slice_rest n text = rw (← (length-drop n text)) (take-length (drop n text))

pub slice_later : (b : ℕ) (text rest : List ℕ) → text ≡ b ∷ rest → take (length text - 1) (drop 1 text) ≡ rest
slice_later b text rest is = slice_rest 1 text ∙ ap (λ (x : List ℕ). drop 1 x) is

-- one more element is read
pub read_more : (q : ℕ) (text : List ℕ) (old new : Elements) (e : Element) → HasRead q text old → ReadsElement q (drop old.length text) (Some e) → new.length ≡ old.length → AddsValue old new e.value → HasRead q text (record { bytes = new.bytes; large = new.large; length = new.length + e.length })
read_more q text old new e read (within, (v, h, is)) same adds =
    let n : ℕ = old.length in
    let place : n + e.length ≡ new.length + e.length = omega arith in
    let end : drop e.length (drop n text) ≡ drop (new.length + e.length) text = drop-drop e.length n text ∙ ap (λ (x : ℕ). drop x text) place in
    let before = read.within in
    record {
      values = read.values ++ v ∷ [];
      within = omega (arith, within, length-drop n text);
      are = elements_push read.are (subst (λ (x : List ℕ). HasElement q (drop n text) x v) end h);
      have = adds read.values v is read.have;
    }

pub read_further : (q : ℕ) (text : List ℕ) (old new : Elements) (e : Element) → HasRead q text old → ReadsElement q (drop old.length text) (Some e) → new.length ≡ old.length → length text - (new.length + e.length) < length text - old.length
read_further q text old new e read (within, (v, h, is)) same =
    let moves = element_moves q e.length v (drop old.length text) h in
    let before = read.within in
    omega (arith, within, length-drop old.length text)
