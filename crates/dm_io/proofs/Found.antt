-- A search for a file by its name, from the front.
use Rattle.std.proofs.Common.{◌≡◌, ℕ, ◌<◌, ◌+◌, Bool, List, ◌∷◌, map, length, drop, get_or, suc, cond, Option, Some, Vec, String, string_bytes, bytes_eq, sym, ◌∙◌, ap, add-one}
use Rattle.std.proofs.Math.Seq.{drop-cons}
use Rattle.std.proofs.lemmas.Map.Text.{is_eq-slice_cmp}
use Rattle.std.specs.declared.alloc.Global.{Global}
use Rattle.std.specs.Ordering.{nat_cmp}
use Rattle.std.specs.Cmp.Lexicographic.{slice_cmp, nat_list_cmp_total}
use Rattle.std.specs.FinMap.{find, get, get-from_entries}
use Rattle.dm_io.specs.Memory.{entry_of, files_of}

-- the first of the files with this name
abbrev pub first_named : List ℕ → List (String Global × Vec ℕ Global) → Option (List ℕ)
first_named q es = find (slice_cmp nat_cmp) q (map entry_of es)

pub get-files_of : (q : List ℕ) (es : List (String Global × Vec ℕ Global)) → get (files_of es) q ≡ first_named q es
get-files_of q es = get-from_entries nat_list_cmp_total (map entry_of es) q

-- one file more is looked at
pub first_named-drop : (q : List ℕ) (es : List (String Global × Vec ℕ Global)) (i : ℕ) (e : String Global × Vec ℕ Global) (b : Bool)
    → i < length es → e ≡ get_or es i e → bytes_eq q (string_bytes e.0) ≡ b
    → first_named q (drop i es) ≡ cond b (Some e.1.items) (first_named q (drop (i + 1) es))
first_named-drop q es i e b lt is t =
    ap (first_named q) (drop-cons es i e lt)
    ∙ ap (λ d. first_named q (d ∷ drop (suc i) es)) (sym is)
    ∙ ap (λ s. cond s (Some e.1.items) (first_named q (drop (suc i) es))) (is_eq-slice_cmp q (string_bytes e.0) ∙ t)
    ∙ ap (λ n. cond b (Some e.1.items) (first_named q (drop n es))) (sym (add-one i))
