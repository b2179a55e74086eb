-- The format of a tree publication: a header of 16 bytes, which are the mark, a version of two bytes, the kind, the fan-out,
-- the height, and the denominator in eight bytes; then the numerators of nodes 0, 1, 2 …, eight signed bytes a component,
-- those of one node side by side.
use Rattle.std.specs.Prelude.{◌≡◌, ℕ, ◌+◌, ◌*◌, ◌^◌, ◌<◌, not, List, [], ◌∷◌, ◌++◌, length, take, drop, is_some, None, codes, ◌==◌, nat_le, nat_lt}
use Rattle.std.specs.List.{range_with_len, flat_map}
use Rattle.algebra.specs.Row.{Row, tabulate, Within}
use Rattle.cells.specs.Calls.{carry_limit}
use Rattle.denial.specs.Rules.{Rule, rule, first}
use Rattle.denial.specs.declared.reason.Reason.TheVariants.{SliceTooShort, TableTooShort, WrongShape, WrongLength, WrongDenominator, NoSuchNode, BufferTooShort}
use Rattle.shapes.specs.Denominator.{denominator_of}
use Rattle.shapes.specs.Laid.{Shapely, shape_rules}
use Rattle.shapes.specs.Tree.{size}
use Rattle.formats.specs.Bytes.{AreBytes, bytes_at, unsigned, signed_eight, bytes_of, eight_bytes}
use Rattle.formats.specs.NoisyTable.{kind_in, fanout_in, height_in, mark_rules, kind_rules}

abbrev pub publication_mark : List ℕ
publication_mark = codes "HCR"

-- The header up to the denominator, for kind k, fan-out b and height L.
abbrev pub publication_front : ℕ → ℕ → ℕ → List ℕ
publication_front k b L = publication_mark ++ (0 ∷ 1 ∷ k ∷ b ∷ L ∷ [])

abbrev pub publication_header : ℕ → ℕ → ℕ → ℕ → List ℕ
publication_header k b L D = publication_front k b L ++ bytes_of 8 D

abbrev pub row_bytes : Row → List ℕ
row_bytes r = flat_map eight_bytes r

-- The bytes of the first n rows of a table.
abbrev pub table_bytes : ℕ → (ℕ → Row) → List ℕ
table_bytes n rows = flat_map (λ v. row_bytes (rows v)) (range_with_len 0 n)

-- The publication of a table of kind k, over the denominator D.
abbrev pub publication : ℕ → ℕ → ℕ → ℕ → (ℕ → Row) → List ℕ
publication k b L D rows = publication_header k b L D ++ table_bytes (size b L) rows

-- Where the numerators of node v begin, for rows of width w.
abbrev pub place_of : ℕ → ℕ → ℕ
place_of w v = 16 + 8 * (w * v)

-- How many bytes a publication of n rows has: it ends where one more node would begin.
abbrev pub publication_length : ℕ → ℕ → ℕ
publication_length w n = place_of w n

-- How many bytes the publication of fan-out b and height L has, with rows of width w.
abbrev pub laid_length : ℕ → ℕ → ℕ → ℕ
laid_length w b L = publication_length w (size b L)

abbrev pub denominator_in : List ℕ → ℕ
denominator_in bytes = unsigned (bytes_at bytes 8 8)

-- The row of width w in the bytes from an offset on.
abbrev pub row_from : ℕ → List ℕ → ℕ → Row
row_from w bytes at = tabulate w (λ i. signed_eight (bytes_at bytes (at + 8 * i) 8))

abbrev pub published_row : ℕ → List ℕ → ℕ → Row
published_row w bytes v = row_from w bytes (place_of w v)

-- What bytes say, read as a publication of rows of width w.
pub record Says (bytes : List ℕ) (k w b L D : ℕ) (rows : ℕ → Row) : Type 0 where
  pub whole : length bytes ≡ laid_length w b L
  pub kind : kind_in bytes ≡ k
  pub fanout : fanout_in bytes ≡ b
  pub height : height_in bytes ≡ L
  pub denominator : denominator_in bytes ≡ D
  pub numerators : (v : ℕ) → v < size b L → published_row w bytes v ≡ rows v

-- The first n rows of a table are those of cells of width w.
abbrev pub OfCells : ℕ → ℕ → (ℕ → Row) → Type 0
OfCells w n rows = (v : ℕ) → v < n → (length (rows v) ≡ w) × Within carry_limit (rows v)

-- A publication says what was written into it.
abbrev pub ReadsBack : Type 0
ReadsBack = (k w b L D : ℕ) (rows : ℕ → Row) → D < 2 ^ 64 → OfCells w (size b L) rows → Says (publication k b L D rows) k w b L D rows

-- Writing a publication of n rows of width w from so many cells into a buffer of so many bytes.
abbrev pub write_rules : ℕ → ℕ → ℕ → ℕ → List Rule
write_rules cells room w n =
    rule (nat_lt cells n) SliceTooShort 1
    ∷ rule (nat_lt room (publication_length w n)) BufferTooShort (publication_length w n)
    ∷ []

-- Whether these bytes are a publication at all.
abbrev pub header_rules : List ℕ → List Rule
header_rules bytes = rule (nat_lt (length bytes) 16) TableTooShort (length bytes) ∷ mark_rules publication_mark bytes

-- Bytes that are a publication at all are the one that was written of what they say.
abbrev pub OnePublication : Type 0
OnePublication =
    (bytes : List ℕ) (k w b L D : ℕ) (rows : ℕ → Row) → AreBytes bytes → first (header_rules bytes) ≡ None → Says bytes k w b L D rows
    → bytes ≡ publication k b L D rows

-- Whether n bytes can be a publication of rows of width w that names fan-out b, height L and the denominator D.
abbrev pub content_rules : ℕ → ℕ → ℕ → ℕ → ℕ → List Rule
content_rules w b L D n =
    rule (is_some (first (shape_rules b L))) WrongShape 6
    ∷ rule (not (D == denominator_of b L)) WrongDenominator 8
    ∷ rule (not (n == laid_length w b L)) WrongLength (laid_length w b L)
    ∷ []

-- Taking bytes as a publication of a kind of width w.
abbrev pub published_rules : ℕ → ℕ → List ℕ → List Rule
published_rules kind w bytes =
    header_rules bytes ++ kind_rules kind (kind_in bytes)
    ++ content_rules w (fanout_in bytes) (height_in bytes) (denominator_in bytes) (length bytes)

-- Cutting node v out of a publication of a kind of width w.
abbrev pub cut_rules : ℕ → ℕ → List ℕ → ℕ → List Rule
cut_rules kind w bytes v = published_rules kind w bytes ++ (rule (nat_le (size (fanout_in bytes) (height_in bytes)) v) NoSuchNode v ∷ [])

-- A header taken apart: its kind, fan-out, height and denominator.
pub record PublicationOf (bytes : List ℕ) (k b L D : ℕ) : Type 0 where
  pub kind : k ≡ kind_in bytes
  pub fanout : b ≡ fanout_in bytes
  pub height : L ≡ height_in bytes
  pub denominator : D ≡ denominator_in bytes

-- The numerators of node v as a part of a publication, and where they begin.
pub record NodePart (w : ℕ) (bytes : List ℕ) (v at : ℕ) (part : List ℕ) : Type 0 where
  pub begins : at ≡ place_of w v
  pub holds : part ≡ take (8 * w) (drop (place_of w v) bytes)

-- A node of a shape's publication is cut out, and what is cut out is read as that node's row.
abbrev pub CutsBack : Type 0
CutsBack =
    (k w b L : ℕ) (rows : ℕ → Row) → Shapely b L → OfCells w (size b L) rows → (v : ℕ) → v < size b L
    → (first (cut_rules k w (publication k b L (denominator_of b L) rows) v) ≡ None)
    × ((at : ℕ) (part : List ℕ) → NodePart w (publication k b L (denominator_of b L) rows) v at part → row_from w part 0 ≡ rows v)
