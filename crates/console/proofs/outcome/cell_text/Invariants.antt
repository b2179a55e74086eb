use Rattle.std.proofs.Common.{◌≡◌, ◌++◌, codes, string_bytes}
use Rattle.std.specs.List.{flat_map}
use Rattle.cells.specs.Components.{components_left}
use Rattle.console.specs.Lines.{signed_field}
use Rattle.console.proofs.outcome.cell_text.Given as goal

abbrev pub invariant-loop-component : goal.invariant-loop-component
invariant-loop-component g l = record {
  parts : l.yielded ++ components_left g.K.Kind.row l.component-iterator ≡ g.K.Kind.row l.fn.cell;
  written : string_bytes l.text ≡ codes "ok" ++ flat_map signed_field l.yielded;
}
