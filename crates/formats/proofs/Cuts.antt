-- The refusals of taking bytes as a publication, stage by stage, and what is cut out of them.
use Rattle.std.proofs.Common.{◌≡◌, ℕ, ◌+◌, ◌*◌, ◌<◌, ◌≤◌, Bool, false, not, ◌&&◌, eqb, ltb, leb, List, [], ◌∷◌, ◌++◌, length, is_some, Some, None, Ok, Err, Option, Result, sym, refl, ap, ◌∙◌, zero-add, arith}
use Rattle.std.specs.Option.{option_or}
use Rattle.std.proofs.lemmas.Bool.{and_from, le-leb, lt-leb, le-ltb, eq-eqb}
use Rattle.denial.specs.Rules.{rule, first, Answers}
use Rattle.denial.specs.declared.denial.Denial.{Denial}
use Rattle.denial.specs.declared.reason.Reason.TheVariants.{FanoutRange, HeightRange, TooManyNodes, TableTooShort, WrongKind, WrongShape, WrongDenominator, WrongLength, NoSuchNode}
use Rattle.shapes.specs.Denominator.{denominator_of}
use Rattle.shapes.specs.Laid.{Shapely, shape_rules}
use Rattle.shapes.specs.Tree.{size}
use Rattle.shapes.specs.declared.shape.Shape.{Shape}
use Rattle.shapes.proofs.Multiples.{rule as denominator-rule}
use Rattle.formats.specs.Bytes.{bytes_at, signed_eight}
use Rattle.formats.specs.NoisyTable.{kind_in, fanout_in, height_in, kind_rules}
use Rattle.formats.specs.Publication.{publication, place_of, publication_length, denominator_in, row_from, published_row, header_rules, content_rules, published_rules, PublicationOf, NodePart, CutsBack}
use Rattle.formats.proofs.Overlay.{place-room}
use Rattle.formats.proofs.ReadBack.{bytes-within, reads-back}
use Rattle.formats.proofs.Tables.{first-append, second_none}
use Rattle.formats.proofs.Words.{tabulate-same}

-- the last of three rows does not apply
third-passed : (x y : Bool) (n m : ℕ)
    → first (rule x WrongShape 6 ∷ rule y WrongDenominator 8 ∷ rule (not (eqb n m)) WrongLength m ∷ []) ≡ None → n ≡ m
third-passed x y n m e = grind arith

module _ (kind w : ℕ) (t : List ℕ) where
  -- the stages in their order, for a header that names k, b, L and D
  abbrev staged : ℕ → ℕ → ℕ → ℕ → Option Denial
  staged k b L D = option_or (option_or (first (header_rules t)) (first (kind_rules kind k))) (first (content_rules w b L D (length t)))

  all : first (published_rules kind w t) ≡ staged (kind_in t) (fanout_in t) (height_in t) (denominator_in t)
  all =
      let content = content_rules w (fanout_in t) (height_in t) (denominator_in t) (length t) in
      first-append (header_rules t ++ kind_rules kind (kind_in t)) content
      ∙ ap (λ o. option_or o (first content)) (first-append (header_rules t) (kind_rules kind (kind_in t)))

  at-content : (k b L D : ℕ) → PublicationOf t k b L D → first (header_rules t) ≡ None → first (kind_rules kind k) ≡ None
      → (o : Option Denial) → first (content_rules w b L D (length t)) ≡ o → first (published_rules kind w t) ≡ o
  at-content k b L D h header kinds o e =
      all ∙ (λ i. staged (sym h.kind i) (sym h.fanout i) (sym h.height i) (sym h.denominator i)) ∙ simp (header, kinds, e)

  pub answered : (k b L D : ℕ) → PublicationOf t k b L D → first (header_rules t) ≡ None → first (kind_rules kind k) ≡ None
      → (r : Result Shape Denial) → Answers (content_rules w b L D (length t)) (λ s. (s.fanout ≡ b) × (s.height ≡ L)) r
      → Answers (published_rules kind w t) (λ s. (s.fanout ≡ fanout_in t) × (s.height ≡ height_in t)) r
  answered k b L D h header kinds (Ok s) a =
      (at-content k b L D h header kinds None a.0, (a.1.0 ∙ h.fanout, a.1.1 ∙ h.height))
  answered k b L D h header kinds (Err d) a = at-content k b L D h header kinds (Some d) a

  -- bytes that are taken as a publication have its length
  pub whole : first (published_rules kind w t) ≡ None → length t ≡ publication_length w (size (fanout_in t) (height_in t))
  whole e =
      let b = fanout_in t in
      let L = height_in t in
      third-passed (is_some (first (shape_rules b L))) (not (eqb (denominator_in t) (denominator_of b L))) (length t) (publication_length w (size b L))
      (second_none (option_or (first (header_rules t)) (first (kind_rules kind (kind_in t)))) (first (content_rules w b L (denominator_in t) (length t))) (sym all ∙ e))

  -- a node's numerators lie within
  pub node-within : (b L v n : ℕ) → first (published_rules kind w t) ≡ None → b ≡ fanout_in t → L ≡ height_in t → n ≡ size b L → v < n
      → place_of w v + 8 * w ≤ length t
  node-within b L v n e p q s h =
      place-room w v n (length t) h (omega (arith, whole e, ap (λ m. w * m) (s ∙ (λ i. size (p i) (q i)))))

-- a part read alone
pub part-reads : (w : ℕ) (bytes : List ℕ) (v at : ℕ) (part : List ℕ) → NodePart w bytes v at part → row_from w part 0 ≡ published_row w bytes v
part-reads w bytes v at part p =
    tabulate-same w (λ i. signed_eight (bytes_at part (0 + 8 * i) 8)) (λ i. signed_eight (bytes_at bytes (place_of w v + 8 * i) 8))
    (λ i h. ap signed_eight ((λ j. bytes_at (p.holds j) (zero-add (8 * i) j) 8) ∙ bytes-within 8 (8 * i) (8 * w) (place_of w v) bytes (omega arith)))

-- what a shape's publication passes
shape-passed : (b L : ℕ) → Shapely b L → is_some (first (shape_rules b L)) ≡ false
shape-passed b L (p, q, r, s, n) =
    ap (λ x. is_some (first (rule (not x) FanoutRange b ∷ rule (not (leb 1 L && leb L 10)) HeightRange L ∷ rule (ltb 1023 (size b L)) TooManyNodes 0 ∷ [])))
    (and_from (leb 2 b) (leb b 16) (le-leb 2 b p) (le-leb b 16 q))
    ∙ ap (λ x. is_some (first (rule (not x) HeightRange L ∷ rule (ltb 1023 (size b L)) TooManyNodes 0 ∷ []))) (and_from (leb 1 L) (leb L 10) (le-leb 1 L r) (le-leb L 10 s))
    ∙ ap (λ x. is_some (first (rule x TooManyNodes 0 ∷ []))) (le-ltb 1023 (size b L) n)

content-passed : (w b L D n : ℕ) → Shapely b L → D ≡ denominator_of b L → n ≡ publication_length w (size b L) → first (content_rules w b L D n) ≡ None
content-passed w b L D n laid p q =
    let m = publication_length w (size b L) in
    let E = denominator_of b L in
    ap (λ x. first (rule x WrongShape 6 ∷ rule (not (eqb D E)) WrongDenominator 8 ∷ rule (not (eqb n m)) WrongLength m ∷ [])) (shape-passed b L laid)
    ∙ ap (λ x. first (rule (not x) WrongDenominator 8 ∷ rule (not (eqb n m)) WrongLength m ∷ [])) (eq-eqb D E p)
    ∙ ap (λ x. first (rule (not x) WrongLength m ∷ [])) (eq-eqb n m q)

pub cuts_back : CutsBack
cuts_back k w b L rows laid cells v h =
    let D = denominator_of b L in
    let bytes = publication k b L D rows in
    let said = reads-back k w b L D rows (omega (arith, (denominator-rule b L laid).high)) cells in
    let long : ltb (length bytes) 16 ≡ false = le-ltb (length bytes) 16 (omega (arith, said.whole)) in
    let header : first (header_rules bytes) ≡ None = ap (λ x. first (rule x TableTooShort (length bytes) ∷ [])) long in
    let kinds : first (kind_rules k k) ≡ None = ap (λ x. first (rule (not x) WrongKind 5 ∷ [])) (eq-eqb k k refl) in
    let passed = at-content k w bytes k b L D (record { kind = refl; fanout = refl; height = refl; denominator = sym said.denominator })
    header kinds None (content-passed w b L D (length bytes) laid refl said.whole) in
    let node : first (rule (leb (size b L) v) NoSuchNode v ∷ []) ≡ None = ap (λ x. first (rule x NoSuchNode v ∷ [])) (lt-leb (size b L) v h) in (
      first-append (published_rules k w bytes) (rule (leb (size b L) v) NoSuchNode v ∷ []) ∙ (λ i. option_or (passed i) (node i)),
      λ at part p. part-reads w bytes v at part p ∙ said.numerators v h,
    )
