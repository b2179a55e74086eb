use Rattle.std.proofs.Common.{ℕ, sym, ap, ◌∙◌, arith}
use Rattle.algebra.specs.Row.{row_at}
use Rattle.algebra.proofs.Places.{row_sized}
use Rattle.inference.specs.Formulas.{X}
use Rattle.inference.proofs.Final.{tree-nearest, nearest-same}
use Rattle.solver.proofs.solution.solve.Goals as goal

pub returns-clause-nearest : goal.returns-clause-nearest
returns-clause-nearest g c =
    let s = c.args.shape in
    let b = s.fanout in
    let L = s.height in
    let d = c.denominator.result in
    let row = g.K.Kind.row in
    let w = g.K.Kind.width in
    let dot = g.K.Kind.product in
    let t = row_at row c.args.noisy.now in
    nearest-same w b L d dot t (X w b L d t) _ s.shapely.2 (λ v h. sym (c.finish.ensures.finished.done v h h ∙ ap (λ (m : ℕ). X w b L m t v) (sym c.denominator.ensures.value)))
    (tree-nearest w b L d dot t (omega (arith, s.shapely.0)) s.shapely.2 c.denominator.ensures.law.lcm.each g.met.K.Kind.lawful
    (λ v h. row_sized row w g.met.K.Kind.sized c.args.noisy.now v (omega (arith, c.requires.noisy))))
