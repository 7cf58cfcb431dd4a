use Rattle.std.proofs.Common.{ℕ, List, ◌++◌, ◌∙◌, ap}
use Rattle.model_picture.proofs.PictureLemmas.{six_parts}
use Rattle.model_picture.proofs.functions.push_head.Goals as goal

pub returns : goal.returns
returns c =
    six_parts c.args.text.now.items _ _ _ _ _ _ _ _ _ _ _ _ c.in_ok-push_bytes.ensures c.in_ok-push_decimal.ensures c.in_ok-push_bytes-2.ensures c.in_ok-push_bytes-3.ensures c.in_ok-push_bytes-4.ensures
    (c.in_ok-push_bytes-5.ensures ∙ ap (λ (w : List ℕ). c.push_bytes-4.new.text.items ++ w) c.start_style.ensures)
