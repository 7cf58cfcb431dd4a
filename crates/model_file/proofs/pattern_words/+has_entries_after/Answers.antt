use Rattle.std.proofs.Common.{refl, sym, ◌∙◌, inl, inr, arith}
use Rattle.std.proofs.lemmas.Bool.{false≢true}
use Rattle.sys_table.specs.declared.kinds.ArgKind.TheVariants.{Signed}
use Rattle.model_file.proofs.PatternLemmas.{list_parts, past_after, entry_goes_after, others_go_after, either_goes_after, no_kinds}
use Rattle.model_file.proofs.pattern_words.+has_entries_after.Goals as goal

pub returns-in_default : goal.returns-in_default
returns-in_default t c = (λ is. absurd (false≢true is), λ has. absurd (no_kinds c.args.kinds.now c.args.pattern.now c.args.place c.in_default.len_below has))

pub returns-then-place-count : goal.returns-then-place-count
returns-then-place-count t c = (λ is. past_after c.args.kinds.now _ _ (list_parts c.args.kinds.now Signed c.in-len1-up.len_at_least) c.args.pattern.now c.args.place (omega (arith, c.count.ensures.count)), λ has. refl)

pub returns-then-is_entry_after : goal.returns-then-is_entry_after
returns-then-is_entry_after t c = (λ is. entry_goes_after c.args.kinds.now _ _ (list_parts c.args.kinds.now Signed c.in-len1-up.len_at_least) c.args.pattern.now c.args.place _ c.get-entry.ensures (c.is_entry_after.ensures.0 c.if-is_entry_after.true), λ has. refl)

pub returns-then-kind_fits : goal.returns-then-kind_fits
returns-then-kind_fits t c = (
  λ is. others_go_after c.args.kinds.now _ _ (list_parts c.args.kinds.now Signed c.in-len1-up.len_at_least) c.args.pattern.now c.args.place _ c.get-entry.ensures (c.kind_fits.ensures.0 c.if-kind_fits.true) (c.has_entries_after.ensures.0 is),
  λ has. elim (either_goes_after c.args.kinds.now _ _ (list_parts c.args.kinds.now Signed c.in-len1-up.len_at_least) c.args.pattern.now c.args.place _ c.get-entry.ensures has) [
    | inl entry ↦ absurd (false≢true (sym c.if-is_entry_after.false ∙ c.is_entry_after.ensures.1 entry))
    | inr both ↦ c.has_entries_after.ensures.1 both.1
  ],
)

pub returns-else-kind_fits : goal.returns-else-kind_fits
returns-else-kind_fits t c = (
  λ is. absurd (false≢true (sym c.if-kind_fits.false ∙ is)),
  λ has. elim (either_goes_after c.args.kinds.now _ _ (list_parts c.args.kinds.now Signed c.in-len1-up.len_at_least) c.args.pattern.now c.args.place _ c.get-entry.ensures has) [
    | inl entry ↦ absurd (false≢true (sym c.if-is_entry_after.false ∙ c.is_entry_after.ensures.1 entry))
    | inr both ↦ c.kind_fits.ensures.1 both.0
  ],
)
