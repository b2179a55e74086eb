-- The refusals of reading a table, stage by stage.
use Rattle.std.proofs.Common.{◌≡◌, ℕ, ◌+◌, ◌*◌, ◌/◌, ◌<◌, ◌≤◌, Bool, true, false, cond, not, eqb, List, [], ◌∷◌, ◌++◌, length, drop, Some, None, Option, sym, refl, ap, ◌∙◌, subst, arith}
use Rattle.std.specs.List.{position}
use Rattle.std.specs.Option.{option_map, option_or}
use Rattle.std.specs.Simd.{first_chunks}
use Rattle.std.proofs.lemmas.Bool.{le-ltb, eq-eqb}
use Rattle.algebra.specs.Row.{Row, tabulate, row_at, beyond, Within}
use Rattle.denial.specs.Rules.{Rule, rule, rule_at, first, denied}
use Rattle.denial.specs.declared.reason.Reason.TheVariants.{SliceTooShort, WrongLength, LoadedBeyondLimit}
use Rattle.shapes.specs.Laid.{shape_rules, entry_limit}
use Rattle.shapes.specs.Tree.{size}
use Rattle.shapes.specs.declared.shape.Shape.{Shape}
use Rattle.formats.specs.Bytes.{signed, word}
use Rattle.formats.specs.NoisyTable.{kind_in, fanout_in, height_in, body_of, body_row, table_length, HeaderOf, TableRead, form_rules, kind_rules, head_rules, body_rules, laid_rules, room_rules, fill_rules, read_rules, Filled}
use Rattle.formats.proofs.Words.{over, first-over, rows-within}

-- the first row of one table and then another
pub first-append : (xs ys : List Rule) → first (xs ++ ys) ≡ option_or (first xs) (first ys)
first-append [] ys = refl
first-append (x ∷ xs) ys = go x.when (first-append xs ys)
  where
    go : (b : Bool) → first (xs ++ ys) ≡ option_or (first xs) (first ys)
        → cond b (Some x.denial) (first (xs ++ ys)) ≡ option_or (cond b (Some x.denial) (first xs)) (first ys)
    go true e = refl
    go false e = e

pub first-none : {A : Type 0} (o p : Option A) → option_or o p ≡ None → o ≡ None
first-none None p e = refl
first-none (Some x) p e = e

pub second_none : {A : Type 0} (o p : Option A) → option_or o p ≡ None → p ≡ None
second_none None p e = e
second_none (Some x) p e = let z : ◌≡◌ {A = ℕ} 0 1 = cc in absurd (omega arith)

pub roomy : (room n : ℕ) → n ≤ room → first (room_rules room n) ≡ None
roomy room n fits = ap (λ x. cond x (Some (denied SliceTooShort 1)) None) (le-ltb room n fits)

-- a body of the right length
pub body-answered : (limit w n : ℕ) (body : List ℕ) (o : Option ℕ) → length body ≡ 4 * (w * n) → o ≡ beyond limit (tabulate (w * n) (word body))
    → first (body_rules limit w n body) ≡ option_map (λ i. denied LoadedBeyondLimit (8 + 4 * i)) o
body-answered limit w n body o l e =
    let m = table_length w n in
    ap (λ x. first (rule (not x) WrongLength m ∷ rule_at LoadedBeyondLimit (option_map (λ i. 8 + 4 * i) (beyond limit (tabulate (w * n) (word body)))) ∷ []))
    (eq-eqb (8 + length body) m (omega arith))
    ∙ ap (λ p. first (rule_at LoadedBeyondLimit (option_map (λ i. 8 + 4 * i) p) ∷ [])) (sym e) ∙ told o
  where
    told : (p : Option ℕ) → first (rule_at LoadedBeyondLimit (option_map (λ i. 8 + 4 * i) p) ∷ []) ≡ option_map (λ i. denied LoadedBeyondLimit (8 + 4 * i)) p
    told None = refl
    told (Some i) = refl

-- the same where the words of the body were searched
pub body-searched : (limit l w n m : ℕ) (body : List ℕ) (words : List (List ℕ)) (o p : Option ℕ) → m ≡ w * n → length body ≡ 4 * m → l ≡ limit
    → words ≡ first_chunks 4 (length body / 4) body → p ≡ position (over l signed) words → p ≡ o
    → first (body_rules limit w n body) ≡ option_map (λ i. denied LoadedBeyondLimit (8 + 4 * i)) o
body-searched limit l w n m body words o p count long same cut found told =
    let whole : length body ≡ 4 * (w * n) = omega arith in
    body-answered limit w n body o whole
    (sym told ∙ found ∙ ap (λ k. position (over k signed) words) same ∙ first-over limit (w * n) body words cut whole)

-- a body that is not refused
pub body-whole : (limit w n : ℕ) (body : List ℕ) → first (body_rules limit w n body) ≡ None → length body ≡ 4 * (w * n)
body-whole limit w n body e = grind arith

pub body-within : (limit w n : ℕ) (body : List ℕ) → first (body_rules limit w n body) ≡ None → (v : ℕ) → v < n → Within limit (body_row w body v)
body-within limit w n body e = rows-within limit w n body (none (beyond limit (tabulate (w * n) (word body))) (not (eqb (8 + length body) (table_length w n))) e)
  where
    none : (o : Option ℕ) (b : Bool)
        → first (rule b WrongLength (table_length w n) ∷ rule_at LoadedBeyondLimit (option_map (λ i. 8 + 4 * i) o) ∷ []) ≡ None → o ≡ None
    none None b p = refl
    none (Some i) true p = let z : ◌≡◌ {A = ℕ} 0 1 = cc in absurd (omega arith)
    none (Some i) false p = let z : ◌≡◌ {A = ℕ} 0 1 = cc in absurd (omega arith)

-- rows that do not apply leave what comes after them
pub passed : (xs ys : List Rule) → first xs ≡ None → first (xs ++ ys) ≡ first ys
passed xs ys e = first-append xs ys ∙ ap (λ o. option_or o (first ys)) e

-- the first rows of a table that was taken apart
pub heads : (kind : ℕ) (t : List ℕ) (k b L : ℕ) (body : List ℕ) → HeaderOf t k b L body → first (form_rules t) ≡ None → first (kind_rules kind k) ≡ None
    → first (head_rules kind t) ≡ None
heads kind t k b L body h form kinds =
    passed (form_rules t) (kind_rules kind (kind_in t)) form ∙ ap (λ n. first (kind_rules kind n)) (sym h.kind) ∙ kinds

-- a slice that is long enough, and was filled
pub filled : {K : Type 0} (row : K → Row) (w b L room n : ℕ) (body : List ℕ) (before after : List K) → n ≡ size b L → n ≤ room
    → first (laid_rules w b L body) ≡ None
    → ((v : ℕ) → v < n → row_at row after v ≡ body_row w body v) → drop n after ≡ drop n before → length after ≡ length before
    → (first (fill_rules w b L room body) ≡ None) × Filled row w b L body before after
filled row w b L room n body before after e fits checked rows rest same = (
  passed (room_rules room (size b L)) (laid_rules w b L body) (roomy room (size b L) (omega arith)) ∙ checked,
  record {
    rows = λ v l. rows v (omega arith);
    within = λ v l. subst (Within (entry_limit b L)) (sym (rows v (omega arith))) (body-within _ w _ body checked v l);
    rest = subst (λ m. drop m after ≡ drop m before) e rest;
    same_length = same;
  },
)

-- what was filled in is what is promised of a table that was read
pub read-whole : {K : Type 0} (row : K → Row) (kind w : ℕ) (t : List ℕ) (s : Shape) (before after : List K) (k b L : ℕ) (body : List ℕ) → HeaderOf t k b L body
    → first (form_rules t) ≡ None → first (kind_rules kind k) ≡ None → first (shape_rules b L) ≡ None → s.fanout ≡ b → s.height ≡ L
    → first (fill_rules w s.fanout s.height (length before) body) ≡ None → Filled row w s.fanout s.height body before after
    → (first (read_rules kind w (length before) t) ≡ None) × TableRead row w t s before after
read-whole row kind w t s before after k b L body h form kinds shape p q fill f =
    let fanout = p ∙ h.fanout in
    let height = q ∙ h.height in
    let heading : first (head_rules kind t ++ shape_rules (fanout_in t) (height_in t)) ≡ None
    = passed (head_rules kind t) (shape_rules (fanout_in t) (height_in t)) (heads kind t k b L body h form kinds)
    ∙ (λ i. first (shape_rules (sym h.fanout i) (sym h.height i))) ∙ shape in (
      passed (head_rules kind t ++ shape_rules (fanout_in t) (height_in t)) (fill_rules w (fanout_in t) (height_in t) (length before) (body_of t)) heading
          ∙ (λ i. first (fill_rules w (sym fanout i) (sym height i) (length before) (sym h.body i))) ∙ fill,
      record {
        fanout = fanout;
        height = height;
        rows = λ v l. f.rows v l ∙ ap (λ y. body_row w y v) h.body;
        within = f.within;
        rest = f.rest;
        same_length = f.same_length;
      },
    )
