use Rattle.std.proofs.Common.{◌≡◌, ltb, rules}
use Rattle.std.proofs.lemmas.Fn.{always_returns_same}
use borrow.Author.Tests.{tests}
use Rattle.flow_model.proofs.RulesLemmas.{rise_decides}
use Rattle.flow_model.proofs.rules.do_entries_rise.Goals as goal

pub returns : goal.returns
returns c = rise_decides (λ one. one.entry) c.args.functions.now _ (c.is_sorted_by.ensures.cases (λ d e. ltb d.entry e.entry) (always_returns_same _ (λ a r. r ≡ ltb a.0.now.entry a.1.0.now.entry) _ (λ a r f' k. search (rules, tests))))
