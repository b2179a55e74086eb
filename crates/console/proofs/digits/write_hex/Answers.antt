use Rattle.std.proofs.Common.{◌∙◌, arith}
use Rattle.std.proofs.lemmas.Result.{IfOk-weaker}
use Rattle.console.proofs.Pairs.{encoded, reads-back}
use Rattle.console.proofs.digits.write_hex.Goals as goal

pub returns-clause-bytes : goal.returns-clause-bytes
returns-clause-bytes c =
    IfOk-weaker c.encode.result _ _ (λ t e. e ∙ encoded c.args.bytes.now (λ k. omega (arith, (c.type_inv.bytes k).fits))) c.encode.ensures

pub returns-clause-back : goal.returns-clause-back
returns-clause-back c =
    IfOk-weaker c.encode.result _ _ (λ t e. reads-back c.args.bytes.now (λ k. omega (arith, (c.type_inv.bytes k).fits))) c.encode.ensures
