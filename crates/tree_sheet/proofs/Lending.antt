-- Which slices are lent, from one call to the next.
use Rattle.std.proofs.Common.{refl, ◌∙◌}
use Rattle.tree_sheet.specs.declared.sheet.Sheet.{Sheet}
use Rattle.tree_sheet.specs.Passes.{Lent}

pub lent_same : {K : Type 0} (s : Sheet K) → Lent s s
lent_same s = record { noisy = refl; marks = refl; numerators = refl; work = refl }

pub lent-then : {K : Type 0} (s s' s'' : Sheet K) → Lent s s' → Lent s' s'' → Lent s s''
lent-then s s' s'' l m = record {
  noisy = m.noisy ∙ l.noisy;
  marks = m.marks ∙ l.marks;
  numerators = m.numerators ∙ l.numerators;
  work = m.work ∙ l.work;
}
