-- What a tree sheet holds.
use Rattle.history.specs.Contents.{Contents}
use Rattle.tree_sheet.specs.declared.sheet.Sheet.{Sheet}

abbrev pub contents : {K : Type 0} → Sheet K → Contents K
contents s = record { noisy = s.noisy.now; marks = s.marks.now; numerators = s.numerators.now; work = s.work.now; state = s.state }
