use Rattle.std.proofs.Common.{arith}
use Rattle.std.proofs.lemmas.Grind.{common_steps}
use Rattle.tree_sheet.proofs.Ended.{empty-on, empty-hit, empty-end}
use Rattle.tree_sheet.proofs.sheet.Sheet.first_empty.Goals as goal

pub loop-v-preserved : goal.loop-v-preserved
loop-v-preserved g c = grind (arith, common_steps, empty-on)

pub returns-then-not-is_filled-clause-value : goal.returns-then-not-is_filled-clause-value
returns-then-not-is_filled-clause-value g c = grind (arith, common_steps, empty-hit)

pub returns-clause-value : goal.returns-clause-value
returns-clause-value g c = grind (arith, common_steps, empty-end)
