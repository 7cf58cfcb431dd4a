use Rattle.std.proofs.Common.{◌≡◌, ◌++◌, take, flat_map}
use Rattle.model_picture.specs.Picture.{call_arrow}
use Rattle.model_picture.proofs.edges.push_calls.Given as goal

abbrev pub invariant-loop-call : goal.invariant-loop-call
invariant-loop-call l = l.text.items ≡ l.fn.text.items ++ flat_map (call_arrow l.functions) (take l.call-index l.calls)
