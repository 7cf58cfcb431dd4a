use Rattle.std.proofs.Common.{rules}
use Rattle.dm_base.proofs.Names.{IsName-not_keyword}
use Rattle.dm_base.proofs.name.is_name.Goals as goal

pub returns-then-are_name_bytes : goal.returns-then-are_name_bytes
returns-then-are_name_bytes c =
    IsName-not_keyword c.args.text.now c.is_keyword.result c.in-len1-up.len_at_least c.if-text-gt-LONGEST.false (search rules) (c.are_name_bytes.ensures.0 c.if-are_name_bytes.true) c.is_keyword.ensures
