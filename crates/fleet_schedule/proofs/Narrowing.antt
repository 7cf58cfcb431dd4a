-- How a line is read part by part: after each part, the values that are left are those with the parts that were read. These are lemmas of `model_file`, which stands on models; this crate needs none of those.
use Rattle.std.proofs.Common.{◌≡◌, ℕ, List, [], ◌∷◌, ◌++◌, refl, ap, subst, ◌∙◌, Contains}
use Rattle.std.specs.Prelude.{Result, Ok, Err}
use Rattle.line_text.specs.declared.miss.Miss.{Miss}
use Rattle.line_text.specs.declared.miss.Miss.TheVariants.{OutOfMemory, Short, Wrong}
use Rattle.line_text.specs.OneLine.{IsLine}
use Rattle.line_text.specs.Reading.{StandsFirst, Reads}
use Rattle.line_text.proofs.FilesLemmas.{ends_line}
use Rattle.line_text.proofs.Splits.{IsSplit, IsCase, err_first, err_next, ok_both, err_case, ok_case}
pub use Rattle.line_text.proofs.Narrowing.{Leads, With, IsPart, IsWhole, leads_start, whole_line}

module _ {V A : Type 0} {Fits : V → Type 0} {text : V → List ℕ} {part : V → A} {First : A → Type 0} {first : A → List ℕ} {rest : V → List ℕ} where
  pub split_part : IsPart Fits text part First first rest → IsSplit Fits text First first (With Fits part) (λ a. rest) (λ a v. v)
  split_part p = record {
    apart = λ v fits. (part v, v, p.into v fits, (fits, refl), refl);
    joined = λ a v in_first next. (next.0, p.splits v next.0 ∙ ap (λ x. first x ++ rest v) next.1);
    goes_on = λ a in_first. let found = p.some a in_first in (found.0, (found.1, found.2));
    plain = p.plain;
  }

module _ {V A : Type 0} {Fits : V → Type 0} {text : V → List ℕ} {Left : V → Type 0} {left : V → List ℕ} {part : V → A} {First : A → Type 0} {first : A → List ℕ} {rest : V → List ℕ} where
  -- a part was read
  pub leads_on : (old mid new : List ℕ) → Leads Fits text old Left left mid → IsPart Left left part First first rest → (a : A) → StandsFirst First first mid new a → Leads Fits text old (With Left part a) rest new
  leads_on old mid new leads p a taken = record {
    err = λ later miss reads. leads.err later miss (err_next (split_part p) mid new later a taken miss reads);
    ok = λ later v stands. leads.ok later v (ok_both (split_part p) mid new later a v taken stands);
  }

  -- a part was not read
  pub leads_miss : (old mid new : List ℕ) → Leads Fits text old Left left mid → IsPart Left left part First first rest → (miss : Miss) → Reads First first mid new (Err miss) → Reads Fits text old new (Err miss)
  leads_miss old mid new leads p miss reads = leads.err new miss (err_first (split_part p) mid new new miss reads)

module _ {V A : Type 0} {Fits : V → Type 0} {text : V → List ℕ} {First : A → Type 0} {first : A → List ℕ} {make : A → V} where
  case_whole : (old : List ℕ) → IsWhole Fits text First first make → IsCase Fits text First first make old
  case_whole old w = record { made = w.made; only = λ v fits agree. w.only v fits }

  pub whole_miss : (old new : List ℕ) → IsWhole Fits text First first make → (miss : Miss) → Reads First first old new (Err miss) → Reads Fits text old new (Err miss)
  whole_miss old new w miss reads = err_case old new new (case_whole old w) miss reads

  pub whole_stands : (old new : List ℕ) → IsWhole Fits text First first make → (a : A) → StandsFirst First first old new a → StandsFirst Fits text old new (make a)
  whole_stands old new w a taken = ok_case old new (case_whole old w) a taken
