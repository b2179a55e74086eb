use Rattle.std.proofs.Common.{ℕ, refl, ap, ◌∙◌}
use Rattle.std.proofs.lemmas.Nat.Gcd.{dvd_antisymm}
use Rattle.algebra.specs.Row.{row_at}
use Rattle.inference.specs.Formulas.{X}
use Rattle.shapes.proofs.Multiples.{rule}
use Rattle.tree_sheet.proofs.sheet.Sheet.settle.Goals as goal

pub returns-clause-freed : goal.returns-clause-freed
returns-clause-freed g c =
    let b = c.args.shape.fanout in
    let L = c.args.shape.height in
    let done = c.solve-denominator.ensures in
    let table = rule b L c.args.shape.shapely in
    -- the least common multiple is one number
    let one = dvd_antisymm (done.denominator.lcm.least _ table.lcm.each) (table.lcm.least _ done.denominator.lcm.each) in
    record {
      noisy = done.counted;
      marks = refl;
      numerators = λ v h. done.solved v h ∙ ap (λ (d : ℕ). X g.K.Kind.width b L d (row_at g.K.Kind.row c.args.self.now.noisy.now) v) one;
      rest = done.past;
      long = c.solve-denominator.auto.numerators;
      work = record { long = c.solve-denominator.auto.work; rest = done.scratch };
      state = c.advance.ensures;
    }
