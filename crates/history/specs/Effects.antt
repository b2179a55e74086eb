-- What an accepted call makes of what a tree sheet held. A denied call and a question change nothing.
use Rattle.std.specs.Prelude.{◌≡◌, ℕ, ◌<◌, List, ◌++◌, length, drop, replicate, Some, None, Ok, Err, Result, slice_index_or, slice_set}
use Rattle.algebra.specs.Row.{Row, row_at}
use Rattle.denial.specs.Rules.{Rule, first}
use Rattle.denial.specs.declared.denial.Denial.{Denial}
use Rattle.shapes.specs.Denominator.{denominator_of}
use Rattle.shapes.specs.declared.shape.Shape.{Shape}
use Rattle.inference.specs.Table.{Table}
use Rattle.inference.specs.Formulas.{X}
use Rattle.formats.specs.NoisyTable.{table_row}
use Rattle.formats.specs.Publication.{publication, publication_length}
use Rattle.history.specs.Contents.{Contents, laid, form_of}
use Rattle.history.specs.Facts.{Form, nodes}
use Rattle.history.specs.States.{next}
use Rattle.history.specs.declared.state.Action.TheVariants.{Lay, Change, Release}

-- A call on a sheet with the contents c: it is denied by the first row that applies, and leaves c; it is accepted where none does,
-- with an answer of which P holds.
abbrev pub Ends : {A K : Type 0} → List Rule → (A → Type 0) → Contents K → Contents K → Result A Denial → Type 0
Ends rules P c c' (Ok x) = (first rules ≡ None) × P x
Ends rules P c c' (Err e) = (first rules ≡ Some e) × (c' ≡ c)

-- The common denominator, and the table that is released for the counts t.
abbrev pub denominator : Form → ℕ
denominator f = denominator_of f.fanout f.height

abbrev pub solution : ℕ → Form → Table → Table
solution w f t = X w f.fanout f.height (denominator f) t

pub record Laid {K : Type 0} (f : Form) (c c' : Contents K) : Type 0 where
  pub shape : Shape
  pub formed : form_of shape ≡ f
  pub noisy : c'.noisy ≡ c.noisy
  pub marks : c'.marks ≡ replicate (nodes f) 0 ++ drop (nodes f) c.marks
  pub numerators : c'.numerators ≡ c.numerators
  pub work : c'.work ≡ c.work
  pub state : c'.state ≡ next c.state (Lay shape)

-- The cell x is entered at node v.
pub record Entered {K : Type 0} (v : ℕ) (x : K) (c c' : Contents K) : Type 0 where
  pub noisy : c'.noisy ≡ slice_set c.noisy v x
  pub marks : c'.marks ≡ slice_set c.marks v 1
  pub numerators : c'.numerators ≡ c.numerators
  pub work : c'.work ≡ c.work
  pub state : c'.state ≡ next c.state Change

pub record Struck {K : Type 0} (v : ℕ) (c c' : Contents K) : Type 0 where
  pub noisy : c'.noisy ≡ c.noisy
  pub marks : c'.marks ≡ slice_set c.marks v 0
  pub numerators : c'.numerators ≡ c.numerators
  pub work : c'.work ≡ c.work
  pub state : c'.state ≡ next c.state Change

-- A table of rows of width w is loaded onto n nodes.
pub record Loaded {K : Type 0} (row : K → Row) (w n : ℕ) (table : List ℕ) (c c' : Contents K) : Type 0 where
  pub noisy : (v : ℕ) → v < n → row_at row c'.noisy v ≡ table_row w table v
  pub rest : drop n c'.noisy ≡ drop n c.noisy
  pub long : length c'.noisy ≡ length c.noisy
  pub marks : c'.marks ≡ replicate n 1 ++ drop n c.marks
  pub numerators : c'.numerators ≡ c.numerators
  pub work : c'.work ≡ c.work
  pub state : c'.state ≡ next c.state Change

-- The first n work cells after a release may be any cells: only their number is known.
pub record Scratch {K : Type 0} (n : ℕ) (before after : List K) : Type 0 where
  pub long : length after ≡ length before
  pub rest : drop n after ≡ drop n before

-- The counts of the shape f are released: each numerator is the solution's.
pub record Freed {K : Type 0} (row : K → Row) (w : ℕ) (f : Form) (c c' : Contents K) : Type 0 where
  pub noisy : c'.noisy ≡ c.noisy
  pub marks : c'.marks ≡ c.marks
  pub numerators : (v : ℕ) → v < nodes f → row_at row c'.numerators v ≡ solution w f (row_at row c.noisy) v
  pub rest : drop (nodes f) c'.numerators ≡ drop (nodes f) c.numerators
  pub long : length c'.numerators ≡ length c.numerators
  pub work : Scratch (nodes f) c.work c'.work
  pub state : c'.state ≡ next c.state Release

-- The counts of the laid shape are released.
abbrev pub Frees : {K : Type 0} → (K → Row) → ℕ → Contents K → Contents K → Type 0
Frees row w c c' = (f : Form) × ((laid c ≡ Some f) × Freed row w f c c')

-- The numerators of node v, and the denominator.
pub record Answered {K : Type 0} (c : Contents K) (v : ℕ) (x : K) (d : ℕ) : Type 0 where
  pub form : Form
  pub shape : laid c ≡ Some form
  pub node : v < nodes form
  pub cell : x ≡ slice_index_or c.numerators v x
  pub over : d ≡ denominator form

-- The publication of the numerators, for a kind of number k and width w, stands in the first n bytes of a buffer; the rest is as before.
pub record Written {K : Type 0} (row : K → Row) (k w : ℕ) (c : Contents K) (n : ℕ) (before after : List ℕ) : Type 0 where
  pub form : Form
  pub shape : laid c ≡ Some form
  pub long : n ≡ publication_length w (nodes form)
  pub buffer : after ≡ publication k form.fanout form.height (denominator form) (row_at row c.numerators) ++ drop n before
