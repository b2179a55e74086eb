use Rattle.std.proofs.Common.{ap, inl, inr, arith, ◌∙◌}
use Rattle.std.proofs.lemmas.Result.{MatchResult-from_err, err_from_is_err_and}
use Rattle.console.proofs.Names.{verb, to_lay, to_enter, to_wire, to_load}
use Rattle.console.proofs.Spelt.{misspelt}
use Rattle.console.proofs.call.read_call.Goals as goal

pub returns-in_err-fanout-in-lay : goal.returns-in_err-fanout-in-lay
returns-in_err-fanout-in-lay g c =
    MatchResult-from_err _ _ _ c.from_residual.ensures.0
    (λ _. inr (misspelt g.K.Kind.width c.args.words.now _ (omega arith) to_lay (ap verb c.in-lay.is) c.in_err-fanout-in-lay.ensures))

pub returns-in_err-node-in-enter : goal.returns-in_err-node-in-enter
returns-in_err-node-in-enter g c =
    MatchResult-from_err _ _ _ c.from_residual-in_err-node-in-enter.ensures.0
    (λ _. inr (misspelt g.K.Kind.width c.args.words.now _ (omega arith) to_enter (ap verb c.in-enter.is) c.in_err-node-in-enter.ensures))

pub returns-in_err-wire-in-wire : goal.returns-in_err-wire-in-wire
returns-in_err-wire-in-wire g c =
    MatchResult-from_err _ _ _ c.from_residual-in_err-wire-in-wire.ensures.0
    (λ _. inr (misspelt g.K.Kind.width c.args.words.now _ (omega arith) to_wire (ap verb c.in-wire.is) c.in_err-wire-in-wire.ensures))

pub returns-in_err-bytes-in-load : goal.returns-in_err-bytes-in-load
returns-in_err-bytes-in-load g c =
    let p = err_from_is_err_and c.from_residual-in_err-bytes-in-load.result c.from_residual-in_err-bytes-in-load.ensures.1 in
    rw p.1 (elim c.in_err-bytes-in-load.ensures [
      | inl e ↦ inl (p.2 ∙ e)
      | inr h ↦ inr (misspelt g.K.Kind.width c.args.words.now _ (omega arith) to_load (ap verb c.in-load.is) h)
    ])
