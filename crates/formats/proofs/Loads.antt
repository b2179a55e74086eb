-- The refusals of loading a table onto a shape, stage by stage.
use Rattle.std.proofs.Common.{◌≡◌, ℕ, ◌≤◌, List, ◌++◌, length, None, Ok, Err, Option, Result, sym, ap, ◌∙◌, arith}
use Rattle.std.specs.Option.{option_or}
use Rattle.algebra.specs.Row.{Row}
use Rattle.denial.specs.Rules.{first, Answers}
use Rattle.denial.specs.declared.denial.Denial.{Denial}
use Rattle.shapes.specs.Laid.{entry_limit}
use Rattle.shapes.specs.Tree.{size}
use Rattle.formats.specs.NoisyTable.{kind_in, fanout_in, height_in, body_of, body_row, HeaderOf, TableLoaded, form_rules, kind_rules, head_rules, body_rules, like_rules, match_rules, laid_rules, room_rules, fill_rules, load_rules, load_into_rules, Filled}
use Rattle.formats.proofs.Tables.{first-append, passed, heads, roomy}

-- a header that names a shape
pub named : (b L c l : ℕ) → first (like_rules b L c l) ≡ None → (c ≡ b) × (l ≡ L)
named b L c l e = (grind arith, grind arith)

module _ (kind w b L : ℕ) (t : List ℕ) where
  -- the stages in their order, for a header that names k, c and l
  abbrev pub heading : ℕ → ℕ → ℕ → Option Denial
  heading k c l = option_or (option_or (first (form_rules t)) (first (kind_rules kind k))) (first (like_rules b L c l))

  head : first (head_rules kind t ++ match_rules b L t) ≡ heading (kind_in t) (fanout_in t) (height_in t)
  head =
      first-append (head_rules kind t) (match_rules b L t)
      ∙ ap (λ o. option_or o (first (match_rules b L t))) (first-append (form_rules t) (kind_rules kind (kind_in t)))

  -- the stages of loading
  pub loaded : first (load_rules kind w b L t)
      ≡ option_or (heading (kind_in t) (fanout_in t) (height_in t)) (first (body_rules (entry_limit b L) w (size b L) (body_of t)))
  loaded =
      let body = body_rules (entry_limit b L) w (size b L) (body_of t) in
      first-append (head_rules kind t ++ match_rules b L t) body ∙ ap (λ o. option_or o (first body)) head

-- a slice that is long enough is no reason to refuse
pub room-enough : (kind w b L room : ℕ) (t : List ℕ) → size b L ≤ room → first (load_into_rules kind w b L room t) ≡ first (load_rules kind w b L t)
room-enough kind w b L room t fits =
    let body = laid_rules w b L (body_of t) in
    first-append (head_rules kind t ++ match_rules b L t) (fill_rules w b L room (body_of t))
    ∙ ap (option_or (first (head_rules kind t ++ match_rules b L t))) (passed (room_rules room (size b L)) body (roomy room (size b L) fits))
    ∙ sym (first-append (head_rules kind t ++ match_rules b L t) body)

-- what was filled in is what is promised of a table that was loaded
pub load-whole : {A K : Type 0} (row : K → Row) (kind w : ℕ) (t : List ℕ) (b L : ℕ) (before after : List K) (k c l : ℕ) (body : List ℕ) → HeaderOf t k c l body
    → first (form_rules t) ≡ None → first (kind_rules kind k) ≡ None → first (like_rules b L c l) ≡ None
    → (r : Result A Denial) → Answers (fill_rules w b L (length before) body) (λ _. Filled row w b L body before after) r
    → Answers (load_into_rules kind w b L (length before) t) (λ _. TableLoaded row w t b L before after) r
load-whole {A = A} {K = K} row kind w t b L before after k c l body h form kinds like = whole
  where
    heading : first (head_rules kind t ++ match_rules b L t) ≡ None
    heading =
        passed (head_rules kind t) (match_rules b L t) (heads kind t k c l body h form kinds)
        ∙ (λ i. first (like_rules b L (sym h.fanout i) (sym h.height i))) ∙ like

    rules : first (load_into_rules kind w b L (length before) t) ≡ first (fill_rules w b L (length before) body)
    rules =
        passed (head_rules kind t ++ match_rules b L t) (fill_rules w b L (length before) (body_of t)) heading
        ∙ ap (λ y. first (fill_rules w b L (length before) y)) (sym h.body)

    whole : (r : Result A Denial) → Answers (fill_rules w b L (length before) body) (λ _. Filled row w b L body before after) r
        → Answers (load_into_rules kind w b L (length before) t) (λ _. TableLoaded row w t b L before after) r
    whole (Ok x) (fill, f) = (
      rules ∙ fill,
      record {
        fanout = sym h.fanout ∙ (named b L c l like).0;
        height = sym h.height ∙ (named b L c l like).1;
        rows = λ v m. f.rows v m ∙ ap (λ y. body_row w y v) h.body;
        within = f.within;
        rest = f.rest;
        same_length = f.same_length;
      },
    )
    whole (Err d) e = rules ∙ e
