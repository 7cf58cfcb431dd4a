-- How it is written what may come next.
use Rattle.std.specs.Prelude.{ℕ, List, [], ◌++◌, Option, None, Some, slice_get, flat_map, codes, decimal}
use Rattle.flow_model.specs.declared.records.ModelFunction.{ModelFunction}
use Rattle.flow_model.specs.Graph.{Graph}
use Rattle.model_file.specs.ModelText.{entries_text}
use Rattle.sys_table.specs.Table.{name_of}
use Rattle.expected_events.specs.declared.called.Called.{Called}
use Rattle.expected_events.specs.Next.{Next}

-- `in NAME`, and a line feed
abbrev pub in_line : Option ModelFunction → List ℕ
in_line None = []
in_line (Some one) = codes "in " ++ one.name ++ codes "\n"

-- `may S NAME` and the entries of the pattern as in a model of version 2, and a line feed
abbrev pub call_line : Called → List ℕ
call_line c = codes "may S " ++ name_of c.name ++ entries_text c.args ++ codes "\n"

-- `may B SITE`, and a line feed
abbrev pub open_line : ℕ → List ℕ
open_line s = codes "may B " ++ decimal s ++ codes "\n"

-- `may E SITE`, and a line feed
abbrev pub close_line : Option ℕ → List ℕ
close_line None = []
close_line (Some s) = codes "may E " ++ decimal s ++ codes "\n"

-- a line for each function, each system call with its pattern, each site that may be opened, and the one that may be closed
abbrev pub next_text : Graph → Next → List ℕ
next_text g n = flat_map (λ f. in_line (slice_get g.functions f)) n.functions ++ flat_map call_line n.calls ++ flat_map open_line n.opened ++ close_line n.closed
