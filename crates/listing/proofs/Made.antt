-- The text that is made of a table is its listing.
use Rattle.std.proofs.Common.{◌≡◌, ℕ, zero, suc, ◌+◌, ◌<◌, Bool, true, false, not, ◌||◌, cond, rules, List, [], ◌∷◌, ◌++◌, length, take, drop, Some, None, Err, Option, Result, sym, refl, ap, ◌∙◌, subst, arith}
use Rattle.std.specs.List.{range_with_len, flat_map}
use Rattle.std.specs.Option.{option_or}
use Rattle.std.specs.Prelude.{◌==◌}
use Rattle.std.proofs.lemmas.List.{take_at}
use Rattle.algebra.specs.Row.{Row, row_at}
use Rattle.denial.specs.Rules.{Rule, rule, first, denied}
use Rattle.denial.specs.declared.denial.Denial.{Denial}
use Rattle.denial.specs.declared.reason.Reason.TheVariants.{WrongKind}
use Rattle.shapes.specs.Denominator.{Denominator}
use Rattle.shapes.specs.Tree.{size}
use Rattle.shapes.specs.declared.shape.Shape.{Shape}
use Rattle.inference.specs.Formulas.{X}
use Rattle.formats.specs.NoisyTable.{kind_in, fanout_in, height_in, table_row, form_rules, read_rules, any_kind_rules, TableRead}
use Rattle.formats.proofs.Tables.{first-append}
use Rattle.listing_lines.specs.Lines.{first_line, node_line}
use Rattle.listing.specs.Listing.{Listed, Tells, most_nodes, rules_at, table_rules, width_of}
use Rattle.listing.specs.declared.halt.Halt.{Halt}
use Rattle.listing.specs.declared.halt.Halt.TheVariants.{Denied}
use Rattle.listing.specs.Text.{node_lines}
use Rattle.inference.proofs.Agree.{X-agree}

joined_same : (f g : ℕ → List ℕ) (a n : ℕ) → ((v : ℕ) → v < a + n → f v ≡ g v) → flat_map f (range_with_len a n) ≡ flat_map g (range_with_len a n)
joined_same f g a zero h = refl
joined_same f g a (suc n) h = λ i. h a (omega arith) i ++ joined_same f g (a + 1) n (λ v l. h v (omega arith)) i

nodes-same : (rows rows' : ℕ → Row) (d n : ℕ) → ((v : ℕ) → v < n → rows v ≡ rows' v) → node_lines rows d n ≡ node_lines rows' d n
nodes-same rows rows' d n h = joined_same (λ v. node_line v (rows v) d) (λ v. node_line v (rows' v) d) 0 n (λ v l. ap (λ (r : Row). node_line v r d) (h v (omega arith)))

-- the lines of X over D, on a tree of fan-out b and height L
abbrev lines_of : (k w b L D : ℕ) → List ℕ → List ℕ
lines_of k w b L D table = first_line k b L D ++ node_lines (X w b L D (table_row w table)) D (size b L)

abbrev Made : (k w b L D : ℕ) → List ℕ → List ℕ → Type 0
Made k w b L D table text = Denominator b L D × (text ≡ lines_of k w b L D table)

-- The table was read into `noisy` and solved from `counts`, the same cells, into `numerators`, which `shown` are.
pub listed-so : {K : Type 0} (row : K → Row) (k w D : ℕ) (table text : List ℕ) (s : Shape) (before noisy counts numerators shown : List K)
    → TableRead row w table s before noisy → counts ≡ noisy → Denominator s.fanout s.height D
    → ((v : ℕ) → v < size s.fanout s.height → row_at row numerators v ≡ X w s.fanout s.height D (row_at row counts) v) → shown ≡ numerators
    → text ≡ first_line k s.fanout s.height D ++ node_lines (row_at row shown) D (size s.fanout s.height)
    → Listed k w table text
listed-so row k w D table text s before noisy counts numerators shown read same den solved shows e =
    let b = s.fanout in
    let L = s.height in
    let rows : (v : ℕ) → v < size b L → row_at row shown v ≡ X w b L D (table_row w table) v
    = λ v h. ap (λ (xs : List _). row_at row xs v) shows ∙ solved v h
    ∙ X-agree w b L D (row_at row counts) (table_row w table) (omega (arith, s.shapely)) (λ u l. ap (λ (xs : List _). row_at row xs u) same ∙ read.rows u l) v h in
    let here : Made k w b L D table text
    = (den, e ∙ ap (λ (x : List ℕ). first_line k b L D ++ x) (nodes-same (row_at row shown) (X w b L D (table_row w table)) D (size b L) rows)) in
    let there : Made k w (fanout_in table) (height_in table) D table text
    = subst (λ (x : ℕ). Made k w (fanout_in table) x D table text) read.height (subst (λ (x : ℕ). Made k w x L D table text) read.fanout here) in
    record { D = D; denominator = there.0; lines = there.1 }

-- what a vector holds after its slice was written
pub refilled-is : {K : Type 0} (n : ℕ) (xs ws ys : List K) → length ws ≡ n → ys ≡ take n (ws ++ drop (length ws) xs) → ys ≡ ws
refilled-is n xs ws ys e f = f ∙ take_at ws (drop (length ws) xs) n e

-- the rules of reading into a slice of most_nodes cells
pub read_as : (kind w n : ℕ) (table : List ℕ) (o : Option Denial) → n ≡ most_nodes → first (read_rules kind w n table) ≡ o → first (read_rules kind w most_nodes table) ≡ o
read_as kind w n table o e h = ap (λ (m : ℕ). first (read_rules kind w m table)) (sym e) ∙ h

-- a denial that comes through a `?`
pub refused-so : {A : Type 0} (rules : List Rule) (P : A → Type 0) (r : Result A Halt) (y : Halt) (e : Denial) → first rules ≡ Some e → r ≡ Err y → y ≡ Denied e → Tells rules P r
refused-so rules P r y e h p q = subst (Tells rules P) (sym (p ∙ ap Err q)) h

-- a number that is no kind's has no width
no_width : (n : ℕ) (e : Denial) → first (any_kind_rules n) ≡ Some e → (width_of n ≡ None) × (e ≡ denied WrongKind 5)
no_width n e = by_cases (n == 1) (n == 2) (n == 3)
  where
    by_cases : (a b c : Bool) → cond (not (a || b || c)) (Some (denied WrongKind 5)) None ≡ Some e
        → (cond {A = Option ℕ} a (Some 1) (cond b (Some 2) (cond c (Some 4) None)) ≡ None) × (e ≡ denied WrongKind 5)
    by_cases true b c h = search rules
    by_cases false true c h = search rules
    by_cases false false true h = search rules
    by_cases false false false h = (refl, search rules)

-- The kind in a header is no kind's number, so that the table is refused.
pub unknown-refused : (k : ℕ) (table : List ℕ) (e : Denial) → first (form_rules table) ≡ None → k ≡ kind_in table → first (any_kind_rules k) ≡ Some e → first (table_rules table) ≡ Some e
unknown-refused k table e form same refused =
    let (none, denies) = no_width k e refused in
    ap (λ (w : Option ℕ). first (rules_at w table)) (ap width_of (sym same) ∙ none) ∙ first-append (form_rules table) (rule true WrongKind 5 ∷ [])
    ∙ ap (λ (o : Option Denial). option_or o (Some (denied WrongKind 5))) form ∙ ap Some (sym denies)
