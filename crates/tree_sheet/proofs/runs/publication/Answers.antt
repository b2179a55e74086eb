use Rattle.std.proofs.Common.{◌≡◌, ℕ, min, List, length, take, replicate, vec_items, sym, ap, ◌∙◌, subst}
use Rattle.std.specs.Vec.{with_items}
use Rattle.std.proofs.lemmas.List.{with_items_is, length-replicate}
use Rattle.history.specs.Events.{publish}
use Rattle.history.specs.Replies.{printed}
use Rattle.tree_sheet.specs.Calls.{Carries}
use Rattle.tree_sheet.specs.Held.{contents}
use Rattle.tree_sheet.proofs.Wider.{wider}
use Rattle.tree_sheet.proofs.runs.publication.Goals as goal

pub returns-in-Ok-clause-answer : goal.returns-in-Ok-clause-answer
returns-in-Ok-clause-answer g c =
    let s = c.args.sheet.now in
    let s' = c.publish.new.self in
    let zeros : vec_items c.in_ok-bytes.bytes ≡ replicate c.min.result 0 = c.in_ok-bytes.ensures.items_if_clones_equal (λ y q. q) in
    let long : length c.as_mut_slice.result.now ≡ min c.args.room 65488
    = ap length (c.as_mut_slice.ensures.value ∙ zeros) ∙ length-replicate c.min.result 0 ∙ c.min.ensures in
    let bytes : vec_items (with_items c.in_ok-bytes.bytes c.publish.new.out) ≡ c.publish.new.out
    = with_items_is c.in_ok-bytes.bytes c.publish.new.out (c.publish.auto.out ∙ c.as_mut_slice.ensures.len) in
    let cut = c.truncate.ensures.items ∙ ap (take c.in-Ok.n) bytes in
    subst (λ (out : List ℕ). Carries g.K.Kind s s' (publish c.args.room) (printed out)) (sym cut)
    (wider g.K.Kind.row g.K.Kind.number g.K.Kind.width g.K.Kind.product (contents s) (contents s') g.met.K.Kind.narrow.1 (length c.as_mut_slice.result.now) c.args.room long _ c.in-Ok.ensures.history)

pub returns-in-Err-clause-answer : goal.returns-in-Err-clause-answer
returns-in-Err-clause-answer g c =
    let zeros : vec_items c.in_ok-bytes.bytes ≡ replicate c.min.result 0 = c.in_ok-bytes.ensures.items_if_clones_equal (λ y q. q) in
    let long : length c.as_mut_slice.result.now ≡ min c.args.room 65488
    = ap length (c.as_mut_slice.ensures.value ∙ zeros) ∙ length-replicate c.min.result 0 ∙ c.min.ensures in
    wider g.K.Kind.row g.K.Kind.number g.K.Kind.width g.K.Kind.product _ _ g.met.K.Kind.narrow.1 (length c.as_mut_slice.result.now) c.args.room long _ c.in-Err.ensures.history
