use Rattle.std.proofs.Common.{◌≡◌, ◌+◌, ◌*◌, ◌<◌, ◌≤◌, ◌++◌, length, None}
use Rattle.std.specs.List.{flat_map}
use Rattle.arrayvec.specs.ArrayString.{array_string_len}
use Rattle.cells.specs.Components.{components_left}
use Rattle.denial.specs.Rules.{first}
use Rattle.listing_lines.specs.Lines.{nearest_field, signed_field}
use Rattle.listing_lines.specs.Nearest.{nearest_rules}
use Rattle.listing_lines.proofs.node.node_line_text.Given as goal

abbrev pub invariant-loop-numerator : goal.invariant-loop-numerator
invariant-loop-numerator g l = record {
  parts : l.yielded ++ components_left g.K.Kind.row l.numerator-iterator ≡ g.K.Kind.row l.cell;
  added : l.line.bytes ≡ l.initial.line.bytes ++ flat_map signed_field l.yielded;
  short : array_string_len l.line ≤ array_string_len l.initial.line + 21 * length l.yielded;
}

abbrev pub invariant-loop-numerator-2 : goal.invariant-loop-numerator-2
invariant-loop-numerator-2 g l = record {
  parts : l.yielded ++ components_left g.K.Kind.row l.numerator-iterator ≡ g.K.Kind.row l.fn.cell;
  added : l.line.bytes ≡ l.initial.line.bytes ++ flat_map (nearest_field l.denominator) l.yielded;
  short : array_string_len l.line ≤ array_string_len l.initial.line + 21 * length l.yielded;
  accepted : 0 < length l.yielded → first (nearest_rules l.denominator) ≡ None;
}
