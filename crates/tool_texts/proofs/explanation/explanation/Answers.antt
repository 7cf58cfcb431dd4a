use Rattle.std.proofs.Common.{ℕ, List, ◌++◌, codes, ◌∙◌, ap}
use Rattle.code_reasons.specs.Reasons.{reason_of}
use Rattle.text_places.specs.Locations.{location_text}
use Rattle.text_places.specs.Views.{location_of}
use Rattle.tool_texts.proofs.ExplanationLemmas.{put_together}
use Rattle.tool_texts.proofs.explanation.explanation.Goals as goal

pub returns : goal.returns
returns c =
    put_together c.args.name.now c.args.text.now c.args.error c.place_of-place.result (location_of c.locate.result) c.deref.result.now c.excerpt_at.result.before.now c.excerpt_at.result.from.now c.push_reason.new.text.items c.push_excerpt.new.text.items
    c.place_of-place.ensures c.locate.ensures (c.deref.ensures.value ∙ c.in_ok-code.ensures) c.excerpt_at.ensures.before c.excerpt_at.ensures.from
    (c.in_ok-push_reason.ensures ∙ ap (λ (w : List ℕ). w ++ location_text (location_of c.locate.result) ++ codes ": " ++ c.deref.result.now ++ codes ": " ++ reason_of c.deref.result.now ++ codes "\n") c.new-lines.ensures.items)
    c.in_ok-push_excerpt.ensures
