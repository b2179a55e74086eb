use Rattle.std.proofs.Common.{rules}
use Rattle.formats.proofs.Named.{kind_named}
use Rattle.formats.proofs.header.Header.cell_kind.Goals as goal

pub returns : goal.returns
returns c = kind_named c.args.self.kind c.try_from.result c.map_err.result c.try_from.ensures c.map_err.ensures.cases (λ u e q. search rules)
