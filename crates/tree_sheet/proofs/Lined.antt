-- The line of a node that was read.
use Rattle.std.proofs.Common.{◌≡◌, ℕ, List, [], ◌∷◌, length, None, Ok, Err, Option, Result, sym, ap, ◌∙◌, subst, arith}
use Rattle.std.proofs.lemmas.Bool.{ne_eqb}
use Rattle.algebra.specs.Row.{Row}
use Rattle.algebra.proofs.Places.{row_read}
use Rattle.denial.specs.Rules.{rule, first, Answers}
use Rattle.denial.specs.declared.denial.Denial.{Denial}
use Rattle.denial.specs.declared.reason.Reason.TheVariants.{ZeroDenominator}
use Rattle.shapes.specs.Denominator.{denominator_of}
use Rattle.shapes.proofs.Multiples.{rule as denominator-rule}
use Rattle.listing_lines.specs.Buffer.{buffered, line_rules}
use Rattle.listing_lines.specs.Lines.{node_line, node_rules}
use Rattle.history.specs.Contents.{Contents, rooms, facts}
use Rattle.history.specs.Effects.{Answered}
use Rattle.history.specs.Facts.{Form, nodes, fanout_of, height_of}
use Rattle.history.specs.Refusals.{read_rules, buffer_rule}
use Rattle.history.proofs.Shaped.{laid-roomy, laid-shapely, room-parts}
use Rattle.history.proofs.Tables.{back}
use Rattle.tree_sheet.specs.Lines.{NodeLine, node_line_of}

-- a line was put into a buffer
Put : List ℕ → List ℕ → List ℕ → Result ℕ Denial → Type 0
Put line before after r = Answers (line_rules line before) (λ n. n ≡ length line) r × (after ≡ buffered line before r)

module _ {K : Type 0} (row : K → Row) (c : Contents K) (v : ℕ) (x : K) (d : ℕ) (a : Answered c v x d) where
  some : d ≡ 0 → ⊥
  some z = omega (arith, a.over, (denominator-rule a.form.fanout a.form.height (laid-shapely c.state (rooms c) a.form a.shape)).low)

  line-is : node_line v (row x) d ≡ node_line_of row c v
  line-is =
      let room = room-parts (nodes a.form) (rooms c) (laid-roomy c.state (rooms c) a.form a.shape) in
      λ i. node_line v (row_read row c.numerators v x (omega (arith, room.2, a.node)) a.cell i) ((a.over ∙ ap (λ (o : Option Form). denominator_of (fanout_of o) (height_of o)) (sym a.shape)) i)

  -- the denominator is not 0
  put : (before after : List ℕ) (r : Result ℕ Denial) → Answers (node_rules v (row x) d before) (λ n. n ≡ length (node_line v (row x) d)) r → after ≡ buffered (node_line v (row x) d) before r
      → Put (node_line v (row x) d) before after r
  unfolding Put
  put before after (Ok n) q b = ((sym (ap (λ z. first (rule z ZeroDenominator 0 ∷ line_rules (node_line v (row x) d) before)) (ne_eqb d 0 some)) ∙ q.0, q.1), b)
  put before after (Err e) q b = (sym (ap (λ z. first (rule z ZeroDenominator 0 ∷ line_rules (node_line v (row x) d) before)) (ne_eqb d 0 some)) ∙ q, b)

  lined : (before after : List ℕ) (r : Result ℕ Denial) → first (read_rules (facts row c) v) ≡ None → Put (node_line_of row c v) before after r
      → NodeLine row c v before r × (after ≡ buffered (node_line_of row c v) before r)
  unfolding Put
  lined before after (Ok n) e p = ((back (read_rules (facts row c) v) (buffer_rule (length before) (length (node_line_of row c v)) ∷ []) e ∙ p.0.0, p.0.1), p.1)
  lined before after (Err z) e p = (back (read_rules (facts row c) v) (buffer_rule (length before) (length (node_line_of row c v)) ∷ []) e ∙ p.0, p.1)

  pub line-so : (before after : List ℕ) (r : Result ℕ Denial) → first (read_rules (facts row c) v) ≡ None
      → Answers (node_rules v (row x) d before) (λ n. n ≡ length (node_line v (row x) d)) r → after ≡ buffered (node_line v (row x) d) before r
      → NodeLine row c v before r × (after ≡ buffered (node_line_of row c v) before r)
  line-so before after r e q b = lined before after r e (subst (λ (line : List ℕ). Put line before after r) line-is (put before after r q b))
