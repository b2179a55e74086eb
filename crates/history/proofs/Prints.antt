-- A publication of what a sheet holds is the publication of the counts that stand, and nearest to them.
use Rattle.std.proofs.Common.{◌≡◌, ℕ, zero, suc, ◌+◌, ◌<◌, ◌≤◌, true, List, [], ◌++◌, length, take, drop, ℤ, is_some, Some, None, Option, unwrap_or, sym, refl, ap, ◌∙◌, subst, arith}
use Rattle.std.specs.List.{range_with_len, flat_map}
use Rattle.std.proofs.lemmas.List.{take_at}
use Rattle.std.proofs.lemmas.Bool.{false≢true}
use Rattle.algebra.specs.Row.{Row, row_at, Within, Product}
use Rattle.algebra.proofs.Places.{row_sized}
use Rattle.cells.specs.Calls.{carry_limit}
use Rattle.shapes.specs.Denominator.{Denominator}
use Rattle.shapes.specs.Laid.{Shapely}
use Rattle.shapes.proofs.Multiples.{rule as denominator-rule}
use Rattle.inference.specs.Nearest.{Nearest}
use Rattle.inference.specs.Table.{Sized}
use Rattle.inference.proofs.Final.{tree-nearest, nearest-same}
use Rattle.formats.specs.Publication.{publication, publication_header, row_bytes, published_row, row_from, cut_rules, NodePart, OfCells, Says}
use Rattle.formats.proofs.Cuts.{cuts_back}
use Rattle.formats.proofs.ReadBack.{publication-length, reads-back, row-held}
use Rattle.denial.specs.Rules.{first}
use Rattle.history.specs.Contents.{Contents, rooms}
use Rattle.history.specs.Effects.{Written, denominator, solution}
use Rattle.history.specs.Events.{Event, shape_after, standing, standing_rows, released_after, Represents}
use Rattle.history.specs.Facts.{Form, nodes, limit}
use Rattle.history.specs.Replies.{Published}
use Rattle.history.proofs.Shaped.{laid-roomy, laid-shapely, room-parts}
use Rattle.history.proofs.Counts.{count-row}

rows-joined : (f g : ℕ → Row) (a n : ℕ) → ((v : ℕ) → v < a + n → f v ≡ g v) → flat_map (λ v. row_bytes (f v)) (range_with_len a n) ≡ flat_map (λ v. row_bytes (g v)) (range_with_len a n)
rows-joined f g a zero h = refl
rows-joined f g a (suc n) h = λ i. row_bytes (h a (omega arith) i) ++ rows-joined f g (a + 1) n (λ v l. h v (omega arith)) i

given : (o : Option Row) → is_some o ≡ true → o ≡ Some (unwrap_or o [])
given None z = absurd (false≢true z)
given (Some r) z = refl

module _ {K : Type 0} (row : K → Row) (k w : ℕ) (dot : Row → Row → ℤ) (sized : (x : K) → length (row x) ≡ w) (held : (x : K) → Within carry_limit (row x)) (laws : Product w dot)
    (h : List Event) (c : Contents K) (p : Represents row w h c) (z : released_after h ≡ true) (n : ℕ) (before after : List ℕ) (d : Written row k w c n before after) where
  abbrev f : Form
  f = d.form

  abbrev b : ℕ
  b = d.form.fanout

  abbrev L : ℕ
  L = d.form.height

  abbrev D : ℕ
  D = denominator d.form

  abbrev rows : ℕ → Row
  rows = row_at row c.numerators

  abbrev T : ℕ → Row
  T = standing_rows w h

  abbrev X : ℕ → Row
  X = solution w d.form (standing_rows w h)

  shape : shape_after h ≡ Some d.form
  shape = sym p.shape ∙ d.shape

  room : (nodes d.form ≤ length c.noisy) × (nodes d.form ≤ length c.marks) × (nodes d.form ≤ length c.numerators) × (nodes d.form ≤ length c.work)
  room = room-parts (nodes d.form) (rooms c) (laid-roomy c.state (rooms c) d.form d.shape)

  shapely : Shapely b L
  shapely = laid-shapely c.state (rooms c) d.form d.shape

  agree : (v : ℕ) → v < nodes f → rows v ≡ X v
  agree v l = p.table f shape z v l

  rows-cells : OfCells w (nodes f) rows
  rows-cells v l = (row_sized row w sized c.numerators v (omega (arith, room.2)), row-held row carry_limit held c.numerators v)

  X-cells : OfCells w (nodes f) X
  X-cells v l = subst (λ (r : Row). (length r ≡ w) × Within carry_limit r) (agree v l) (rows-cells v l)

  stands : (v : ℕ) → v < nodes f → standing w h v ≡ Some (standing_rows w h v)
  stands v l = given (standing w h v) (p.full f shape z v l)

  T-sized : Sized w b L T
  T-sized v l =
      ap length (count-row row (limit f) c v (standing_rows w h v) (p.counts f shape v l ∙ stands v l)).0
      ∙ row_sized row w sized c.noisy v (omega (arith, room.0))

  whole : take n after ≡ publication k b L D X
  whole =
      ap (take n) d.buffer
      ∙ take_at (publication k b L D rows) (drop n before) n (publication-length k w b L D rows rows-cells ∙ sym d.long)
      ∙ ap (λ t. publication_header k b L D ++ t) (rows-joined rows X 0 (nodes f) (λ v l. agree v (omega arith)))

  common : Denominator b L D
  common = denominator-rule b L shapely

  says : Says (publication k b L D X) k w b L D X
  says = reads-back k w b L D X (omega (arith, common.high)) X-cells

  nearest : Nearest w b L D dot T X
  nearest = tree-nearest w b L D dot T (omega (arith, shapely.0)) shapely.2 common.lcm.each laws T-sized

  -- what is true of the publication, for bytes that are it
  told : (bytes : List ℕ) → bytes ≡ publication k b L D X → Published k w dot h bytes
  told bytes e =
      let s = subst (λ (t : List ℕ). Says t k w b L D X) (sym e) says in
      record {
        form = f;
        laid = shape;
        full = stands;
        whole = e;
        says = s;
        common = subst (Denominator b L) (sym s.denominator) common;
        nearest = subst (λ (m : ℕ). Nearest w b L m dot T (published_row w bytes)) (sym s.denominator)
            (nearest-same w b L D dot T X (published_row w bytes) shapely.2 (λ v l. sym (s.numerators v l)) nearest);
        cuts = λ v l.
            let q = subst (λ (t : List ℕ). (first (cut_rules k w t v) ≡ None) × ((at : ℕ) (part : List ℕ) → NodePart w t v at part → row_from w part 0 ≡ X v)) (sym e)
            (cuts_back k w b L X shapely X-cells v l) in
            (q.0, λ at part m. q.1 at part m ∙ sym (s.numerators v l));
      }

  pub published : Published k w dot h (take n after)
  published = told (take n after) whole
