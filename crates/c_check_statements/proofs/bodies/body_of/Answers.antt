use Rattle.std.proofs.Common.{◌≡◌, false, OnOk, subst, sym}
use Rattle.c_check_bodies.specs.Numbered.{HaveNumbers, next_of}
use Rattle.c_check_declarations.specs.Agreement.{AgreesWith}
use Rattle.c_check_bodies.specs.StatementTreeView.{statement_trees_of}
use Rattle.c_rules.specs.Blocks.{held_by_block}
use Rattle.c_rules.specs.Counts.{past}
use Rattle.c_rules.specs.Statements.{items_of_block}
use Rattle.c_rules.specs.Functions.{items_of_body}
use Rattle.c_rules.specs.Variables.{calls_of_block, names_of_block}
use Rattle.c_check_scopes.specs.View.{before_of, env_of}
use Rattle.c_check_statements.proofs.NodeLemmas.{block_seen}
use Rattle.c_tree.specs.View.{ctype_of}
use Rattle.c_check_statements.proofs.bodies.body_of.Goals as goal

pub returns-in-Block-clause-judged : goal.returns-in-Block-clause-judged
returns-in-Block-clause-judged c =
    subst (λ z. AgreesWith statement_trees_of c.items_of_body.result (items_of_block (env_of c.args.env.now) (record { breaks = false; continues = false; returns = ctype_of c.args.returns.now }) (before_of c.args.before.now) (next_of c.args.next) (items_of_body z))) (block_seen c.args.body.now c.in-Block.items c.deref.result.now c.in-Block.is c.deref.ensures.value) c.items_of_body.ensures.judged

pub returns-in-Block-clause-counted : goal.returns-in-Block-clause-counted
returns-in-Block-clause-counted c =
    subst (λ z. OnOk c.items_of_body.result (before_of c.items_of_body.new.before ≡ past (before_of c.args.before.now) (calls_of_block (items_of_body z)) (held_by_block (env_of c.args.env.now) (next_of c.args.next) (items_of_body z)))) (block_seen c.args.body.now c.in-Block.items c.deref.result.now c.in-Block.is c.deref.ensures.value) c.items_of_body.ensures.counted

pub items_of_body-requires : goal.items_of_body-requires
items_of_body-requires c =
    subst (λ z. HaveNumbers (next_of c.args.next) (names_of_block (items_of_body z))) (sym (block_seen c.args.body.now c.in-Block.items c.deref.result.now c.in-Block.is c.deref.ensures.value)) c.requires
