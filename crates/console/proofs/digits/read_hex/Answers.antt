use Rattle.std.proofs.Common.{inr, refl, sym, ◌∙◌}
use Rattle.std.proofs.lemmas.Result.{err_from_is_err_and}
use Rattle.console.proofs.Pairs.{decoded-hex, hex-refused, no-digits}
use Rattle.console.proofs.digits.read_hex.Goals as goal

pub returns-then-not-is_digits : goal.returns-then-not-is_digits
returns-then-not-is_digits c = inr (refl, no-digits c.args.word.now (sym c.is_digits.ensures ∙ c.if-not-is_digits.true))

pub returns-in_err-decode : goal.returns-in_err-decode
returns-in_err-decode c =
    let p = err_from_is_err_and c.from_residual.result c.from_residual.ensures.1 in
    rw p.1 (hex-refused c.args.word.now c.in_err-decode.field-0.0 p.0 p.2 c.in_err-decode.ensures.err)

pub returns : goal.returns
returns c = decoded-hex c.args.word.now _ c.in_ok-decode.ensures.ok
