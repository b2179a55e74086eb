use Rattle.std.proofs.Common.{◌≡◌, ◌-◌, length, drop, length-take, length-drop, arith}
use Rattle.std.proofs.lemmas.Slice.{drop-put_mid}
use Rattle.solver.specs.Passes.{nodes}
use Rattle.solver.proofs.Upward.{leaves_raised}
use Rattle.solver.proofs.counts.Counts.raise_leaves.Goals as goal

pub returns-clause-raised : goal.returns-clause-raised
returns-clause-raised g c =
    leaves_raised c.args.self.now _ _ c.args.work.now c.copy_from_slice.new.self c.level-first.ensures.first c.level-first.ensures.end c.requires c.copy_from_slice.ensures.after

pub returns-clause-past : goal.returns-clause-past
returns-clause-past g c =
    let s = c.args.self.now in
    let l = c.level-first in
    let whole = s.whole in
    let long : length c.copy_from_slice.new.self ≡ l.result.1 - l.result.0 = omega (arith, c.copy_from_slice.ensures.len, l.ensures.inside, length-take (l.result.1 - l.result.0) (drop l.result.0 s.cells.now), length-drop l.result.0 s.cells.now) in
    drop-put_mid l.result.0 (l.result.1 - l.result.0) c.args.work.now c.copy_from_slice.new.self (nodes s) (omega (arith, l.ensures.rising, l.ensures.inside)) (omega (arith, l.ensures.rising, l.ensures.inside, c.requires)) long
