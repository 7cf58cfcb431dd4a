use Rattle.std.proofs.Common.{sym, ◌∙◌, subst}
use Rattle.std.proofs.lemmas.Option.{none-some, same_Some}
use Rattle.inline_model.specs.Saturating.{ReturnsTo}
use Rattle.flow_model.proofs.Grown.{adds-like, adds-none}
use Rattle.inline_model.proofs.within.follow_returns.Goals as goal

pub returns-in-Some : goal.returns-in-Some
returns-in-Some c =
    adds-like c.args.pool.now c.return_from.new.pool c.return_from.ensures
    (λ b to. (c.in-Some.function, c.in-Some.ensures.some.0, c.in-Some.ensures.some.1, to))
    (λ b (f, entry, has, to). subst (λ h. ReturnsTo c.args.model.now c.args.done.now h b) (same_Some f c.in-Some.function (sym (c.function_that_ends_at.ensures.only f entry has) ∙ c.in-Some.is)) to)

pub returns-in_default : goal.returns-in_default
returns-in_default c = adds-none c.args.pool.now (λ b (f, entry, has, to). none-some f (sym c.in_default.is ∙ c.function_that_ends_at.ensures.only f entry has))
