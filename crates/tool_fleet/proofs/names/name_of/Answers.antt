use Rattle.std.proofs.Common.{List, ℕ, ◌<◌, sym, subst, arith}
use Rattle.std.specs.Str.{IsUtf8}
use Rattle.std.proofs.lemmas.List.Elements.{All-weaker}
use Rattle.std.proofs.lemmas.Str.{IsUtf8-from_ascii}
use Rattle.std.proofs.lemmas.Str.Ascii.{IsAscii-from_all}
use Rattle.fleet_schedule.specs.ScheduleText.{IsFileName, IsNameByte}
use Rattle.tool_fleet.proofs.names.name_of.Goals as goal

name_is_text : (name : List ℕ) → IsFileName name → IsUtf8 name
name_is_text name is = IsUtf8-from_ascii name (IsAscii-from_all name (All-weaker IsNameByte (λ (b : ℕ). b < 128) (λ b from. omega (arith, from.1)) name is.bytes))

pub unreachable-requires : goal.unreachable-requires
unreachable-requires c = c.in-Err.ensures.cases.0 (subst IsUtf8 (sym c.as_slice.ensures) (name_is_text c.args.bytes.now c.requires))
