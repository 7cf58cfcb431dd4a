-- A file of a certificate that was read up to one byte past its limit.
use Rattle.std.proofs.Common.{◌≡◌, ◌≢◌, ℕ, ◌≤◌, List, ◌++◌, length, take, drop, Option, Some, None, IfSome, inl, inr, refl, subst, ap, ◌∙◌, append_assoc, arith}
use Rattle.std.proofs.lemmas.List.{take_all, length-take, take-append-drop}
use Rattle.std.specs.Prelude.{flat_map}
use Rattle.dm_io.specs.Store.{Files, file_at, ReadsWhole, IsMissing}
use Rattle.certify_facts.specs.Told.{Told}
use Rattle.certify_file.specs.declared.error.CertificateError.{CertificateError}
use Rattle.certify_file.specs.declared.error.CertificateError.TheVariants.{OutOfMemory, BadLine, NoEnd, TooLong, Version}
use Rattle.certify_file.specs.CertificateText.{longest, certificate_head, which_line, verdict_line, fact_line, HasTooManyFacts, IsCertificateWithin, IsCertificateRefusal}
use Rattle.tool_frame.specs.declared.stop.Stop.{Stop}
use Rattle.tool_frame.specs.declared.stop.Stop.TheVariants as stops
use Rattle.tool_frame.specs.Stop.{Stops}
use Rattle.tool_reading.specs.Confirm.{certificate_refusal, RefusesText}
use Rattle.tool_reading.specs.Stopping.{IsRecordStop}

-- what is read is the file where it is within the limit
text_is_file : (file text : List ℕ) → text ≡ take 67108865 file → length text ≤ longest → text ≡ file
text_is_file file text is short =
    let long : length file ≤ 67108865 = omega (arith, length-take 67108865 file, ap length is, short) in
    is ∙ take_all 67108865 file long

pub certificate_of_file : (told : Option Files) (name text : List ℕ) (c : Told) → ReadsWhole told name 67108865 text → IsCertificateWithin text c → IfSome told (λ files. IsCertificateWithin (file_at files name) c)
certificate_of_file None name text c reads within = tt
certificate_of_file (Some files) name text c reads within = subst (λ (w : List ℕ). IsCertificateWithin w c) (text_is_file (file_at files name) text reads within.short) within

-- too many facts are too many, whatever follows
six : (a b c d e f more : List ℕ) → (a ++ (b ++ (c ++ (d ++ (e ++ f))))) ++ more ≡ a ++ (b ++ (c ++ (d ++ (e ++ (f ++ more)))))
six a b c d e f more =
    append_assoc a (b ++ (c ++ (d ++ (e ++ f)))) more
    ∙ ap (λ (w : List ℕ). a ++ w) (append_assoc b (c ++ (d ++ (e ++ f))) more
    ∙ ap (λ (w : List ℕ). b ++ w) (append_assoc c (d ++ (e ++ f)) more
    ∙ ap (λ (w : List ℕ). c ++ w) (append_assoc d (e ++ f) more
    ∙ ap (λ (w : List ℕ). d ++ w) (append_assoc e f more))))

many_more : (text more : List ℕ) → HasTooManyFacts text → HasTooManyFacts (text ++ more)
many_more text more many = record {
  front = many.front;
  last = many.last;
  rest = many.rest ++ more;
  full = many.full;
  counted = many.counted;
  right = many.right;
  right_last = many.right_last;
  is = ap (λ (w : List ℕ). w ++ more) many.is ∙ six certificate_head (which_line many.front.judge) (verdict_line many.front.verdict) (flat_map fact_line many.front.lines) (fact_line many.last) many.rest more;
}

refusal_of_file : (error : CertificateError) (file text : List ℕ) → text ≡ take 67108865 file → IsCertificateRefusal error text → IsCertificateRefusal error file
refusal_of_file OutOfMemory file text is refusal = tt
refusal_of_file TooLong file text is (inl long) = inl (omega (arith, long, length-take 67108865 file, ap length is))
refusal_of_file TooLong file text is (inr many) =
    inr (subst HasTooManyFacts (ap (λ (w : List ℕ). w ++ drop 67108865 file) is ∙ take-append-drop 67108865 file) (many_more text (drop 67108865 file) many))
refusal_of_file Version file text is refusal = subst (IsCertificateRefusal Version) (text_is_file file text is refusal.0) refusal
refusal_of_file (BadLine k) file text is refusal = subst (IsCertificateRefusal (BadLine k)) (text_is_file file text is refusal.0) refusal
refusal_of_file NoEnd file text is refusal = subst (IsCertificateRefusal NoEnd) (text_is_file file text is refusal.0) refusal

refusal_told : (told : Option Files) (name text : List ℕ) (error : CertificateError) → ReadsWhole told name 67108865 text → IsCertificateRefusal error text → IfSome told (λ files. IsCertificateRefusal error (file_at files name))
refusal_told None name text error reads refusal = tt
refusal_told (Some files) name text error reads refusal = refusal_of_file error (file_at files name) text reads refusal

-- why a certificate was not read
pub stops_text : (told : Option Files) (name text : List ℕ) (error : CertificateError) (stop : Stop) (before after : ℕ) → ReadsWhole told name 67108865 text → IsCertificateRefusal error text → IsRecordStop stop (error ≢ OutOfMemory) (certificate_refusal error)
    → Stops stop (RefusesText told name) (IsMissing told name) before after
stops_text told name text error stops.Usage before after reads refusal why = why
stops_text told name text error (stops.Source line) before after reads refusal why = absurd why
stops_text told name text error (stops.Model line) before after reads refusal why = absurd why
stops_text told name text error (stops.Record line) before after reads refusal why = (error, why.0, refl, why.1, refusal_told told name text error reads refusal)
stops_text told name text error stops.Read before after reads refusal why = absurd why
stops_text told name text error stops.Write before after reads refusal why = why
stops_text told name text error stops.OutOfMemory before after reads refusal why = tt
