-- The same counts on the same shape have one publication.
use Rattle.std.proofs.Common.{◌≡◌, [], Some, unwrap_or, sym, ap, ◌∙◌}
use mathlib.Core.Path.{fun_ext}
use Rattle.formats.specs.Publication.{publication}
use Rattle.history.specs.Effects.{denominator, solution}
use Rattle.history.specs.Events.{standing_rows}
use Rattle.history.specs.Replies.{SameBytes}

pub same_bytes : SameBytes
same_bytes k w dot h h' out out' p q s t =
    let both : Some q.form ≡ Some p.form = sym q.laid ∙ s ∙ p.laid in
    let f : q.form ≡ p.form = cc in
    let rows : standing_rows w h' ≡ standing_rows w h = fun_ext (λ v. ap (λ o. unwrap_or o []) (t v)) in
    q.whole ∙ (λ i. publication k (f i).fanout (f i).height (denominator (f i)) (solution w (f i) (rows i))) ∙ sym p.whole
