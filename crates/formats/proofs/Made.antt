-- A noisy table is made of its rows, and its rows are read out of it.
use Rattle.std.proofs.Common.{◌≡◌, ℕ, zero, suc, ◌+◌, ◌*◌, ◌/◌, ◌^◌, ◌<◌, ◌≤◌, not, eqb, ltb, List, [], ◌∷◌, ◌++◌, length, take, drop, ℤ, pos, negsuc, nat_abs, None, sym, refl, ap, ◌∙◌, subst, mod-lt, arith, w32, SFits, to_z, of_z}
use Rattle.std.specs.List.{range_with_len, flat_map}
use Rattle.std.specs.Option.{option_or}
use Rattle.std.proofs.ByRecursion.{All-append, All-drop}
use Rattle.std.proofs.lemmas.List.{take-append-drop}
use Rattle.std.proofs.lemmas.Slice.{between_to_end}
use Rattle.std.proofs.lemmas.Int.{to_z-of_z}
use Rattle.std.proofs.lemmas.Bool.{le-ltb, eq-eqb}
use Rattle.algebra.specs.Row.{Row, part, tabulate, Within}
use Rattle.denial.specs.Rules.{Rule, rule, first}
use Rattle.denial.specs.declared.reason.Reason.{Reason}
use Rattle.denial.specs.declared.reason.Reason.TheVariants.{TableTooShort, WrongKind, WrongShape}
use Rattle.shapes.specs.Laid.{entry_limit}
use Rattle.shapes.specs.Tree.{size}
use Rattle.formats.specs.Bytes.{AreBytes, bytes_at, signed, word, bytes_of, four_bytes}
use Rattle.formats.specs.NoisyTable.{mark, kind_in, fanout_in, height_in, body_of, body_row, table_row, mark_rules, form_rules, kind_rules, like_rules, body_rules, load_rules, noisy_table, RowsWithin, LaysOut}
use Rattle.formats.proofs.Again.{row_made, table-made, four-again, rest-none, front-made}
use Rattle.formats.proofs.Blocks.{byte_is, length-bytes_of, rows_long, rows-block}
use Rattle.formats.proofs.ReadBack.{unsigned-back-four, row-read}
use Rattle.formats.proofs.Loads.{named, heading, loaded}
use Rattle.formats.proofs.Tables.{first-none, second_none, body-answered, body-whole}
use Rattle.formats.proofs.Words.{bytes-taken, tabulate-same, room-below, rows_none}

bytes_of-bytes : (n x : ℕ) → AreBytes (bytes_of n x)
unfolding bytes_of
bytes_of-bytes zero x = tt
bytes_of-bytes (suc n) x = (subst (λ m. m < 256) (sym (byte_is n x)) (mod-lt (x / 256 ^ n) (omega arith)), bytes_of-bytes n x)

joined_bytes : {X : Type 0} (f : X → List ℕ) → ((x : X) → AreBytes (f x)) → (xs : List X) → AreBytes (flat_map f xs)
joined_bytes f h [] = tt
joined_bytes f h (x ∷ xs) = All-append (λ y. y < 256) (f x) (flat_map f xs) (h x) (joined_bytes f h xs)

four-long : (x : ℤ) → length (four_bytes x) ≡ 4
four-long x = length-bytes_of 4 (of_z w32 x)

four-back : (z : ℤ) → nat_abs z ≤ 1000000 → signed (four_bytes z) ≡ z
four-back z h = ap (to_z w32) (unsigned-back-four (of_z w32 z) (small z h)) ∙ to_z-of_z w32 z (fits z h)
  where
    small : (z : ℤ) → nat_abs z ≤ 1000000 → of_z w32 z < 2 ^ 32
    small (pos n) h = omega arith
    small (negsuc n) h = omega arith

    fits : (z : ℤ) → nat_abs z ≤ 1000000 → SFits w32 z
    fits (pos n) h = record { sfits = omega arith }
    fits (negsuc n) h = record { sfits = omega arith }

-- the words of a row, as the bytes from its offset on
row_words : (w v : ℕ) (body : List ℕ) → body_row w body v ≡ tabulate w (λ i. signed (bytes_at body (4 * (w * v) + 4 * i) 4))
row_words w v body =
    tabulate-same w (λ i. word body (w * v + i)) (λ i. signed (bytes_at body (4 * (w * v) + 4 * i) 4))
    (λ i h. ap (λ m. signed (bytes_at body m 4)) (omega arith))

-- what stands after the header
body_is : (t : List ℕ) → body_of t ≡ drop 8 t
body_is t = between_to_end t 8 (length t) (omega arith)

body-passed : (limit w n : ℕ) (body : List ℕ) → length body ≡ 4 * (w * n) → ((v : ℕ) → v < n → Within limit (body_row w body v))
    → first (body_rules limit w n body) ≡ None
body-passed limit w n body l within = body-answered limit w n body None l (sym (rows_none limit w n body within))

like-passed : (b L : ℕ) → first (like_rules b L b L) ≡ None
like-passed b L =
    ap (λ x. first (rule (not x) WrongShape 6 ∷ rule (not (eqb L L)) WrongShape 7 ∷ [])) (eq-eqb b b refl)
    ∙ ap (λ x. first (rule (not x) WrongShape 7 ∷ [])) (eq-eqb L L refl)

-- a table that is made of rows
module _ (k w b L : ℕ) (rows : ℕ → Row) (held : RowsWithin (entry_limit b L) w (size b L) rows) where
  abbrev table : List ℕ
  table = noisy_table k b L rows

  abbrev body : List ℕ
  body = flat_map (λ v. flat_map four_bytes (rows v)) (range_with_len 0 (size b L))

  sized : (v : ℕ) → v < size b L → length (rows v) ≡ w
  sized v h = (held v h).0

  body-rows : (v : ℕ) → v < size b L → body_row w body v ≡ rows v
  body-rows v h =
      row_words w v body
      ∙ row-read four_bytes signed 4 four-long w (4 * (w * v)) body (rows v) (sized v h) (λ i. four-back (part (rows v) i) ((held v h).1 i))
      (rows-block four_bytes 4 four-long w (size b L) rows sized v h)

  table-rows : (v : ℕ) → v < size b L → table_row w table v ≡ rows v
  table-rows v h = ap (λ t. body_row w t v) (body_is table) ∙ body-rows v h

  table-passed : first (load_rules k w b L table) ≡ None
  table-passed =
      let form : first (form_rules table) ≡ None = ap (λ x. first (rule x TableTooShort (length table) ∷ [])) (le-ltb (length table) 8 (omega arith)) in
      let kinds : first (kind_rules k k) ≡ None = ap (λ x. first (rule (not x) WrongKind 5 ∷ [])) (eq-eqb k k refl) in
      let passed = body-passed (entry_limit b L) w (size b L) body (rows_long four_bytes 4 four-long w (size b L) rows sized)
      (λ v h. subst (Within (entry_limit b L)) (sym (body-rows v h)) (held v h).1) in
      loaded k w b L table
      ∙ (λ i. option_or (option_or (option_or (form i) (kinds i)) (like-passed b L i)) (first (body_rules (entry_limit b L) w (size b L) (body_is table i))))
      ∙ passed

-- what passing a row says
long-enough : (n m : ℕ) (why : Reason) (at : ℕ) (xs : List Rule) → first (rule (ltb n m) why at ∷ xs) ≡ None → m ≤ n
long-enough n m why at xs e = grind arith

kind-same : (k found : ℕ) → first (kind_rules k found) ≡ None → found ≡ k
kind-same k found e = grind arith

-- a table that is loaded
module _ (k w b L : ℕ) (t : List ℕ) (u : AreBytes t) (e : first (load_rules k w b L t) ≡ None) where
  abbrev n : ℕ
  n = size b L

  abbrev rest : List ℕ
  rest = body_of t

  staged : option_or (heading k w b L t (kind_in t) (fanout_in t) (height_in t)) (first (body_rules (entry_limit b L) w n rest)) ≡ None
  staged = sym (loaded k w b L t) ∙ e

  headed : option_or (option_or (first (form_rules t)) (first (kind_rules k (kind_in t)))) (first (like_rules b L (fanout_in t) (height_in t))) ≡ None
  headed = first-none (heading k w b L t (kind_in t) (fanout_in t) (height_in t)) (first (body_rules (entry_limit b L) w n rest)) staged

  formed : option_or (first (form_rules t)) (first (kind_rules k (kind_in t))) ≡ None
  formed = first-none (option_or (first (form_rules t)) (first (kind_rules k (kind_in t)))) (first (like_rules b L (fanout_in t) (height_in t))) headed

  long : length rest ≡ 4 * (w * n)
  long =
      body-whole (entry_limit b L) w n rest
      (second_none (heading k w b L t (kind_in t) (fanout_in t) (height_in t)) (first (body_rules (entry_limit b L) w n rest)) staged)

  front : take 8 t ≡ mark ++ (0 ∷ 1 ∷ k ∷ b ∷ L ∷ [])
  front =
      let form = first-none (first (form_rules t)) (first (kind_rules k (kind_in t))) formed in
      let same = named b L (fanout_in t) (height_in t)
      (second_none (option_or (first (form_rules t)) (first (kind_rules k (kind_in t)))) (first (like_rules b L (fanout_in t) (height_in t))) headed) in
      sym (bytes-taken 8 0 t (long-enough (length t) 8 TableTooShort (length t) (mark_rules mark t) form))
      ∙ front-made 72 67 84 t [] k b L (rest-none _ (mark_rules mark t) form)
      (kind-same k (kind_in t) (second_none (first (form_rules t)) (first (kind_rules k (kind_in t))) formed)) same.0 same.1

  body-made : flat_map (λ v. flat_map four_bytes (table_row w t v)) (range_with_len 0 n) ≡ rest
  body-made =
      let bytes : AreBytes rest = subst AreBytes (sym (body_is t)) (All-drop (λ x. x < 256) 8 t u) in
      table-made four_bytes signed 4 four-again w n (table_row w t) rest long
      (λ v h. ap (flat_map four_bytes) (row_words w v rest)
      ∙ row_made four_bytes signed 4 four-again w (4 * (w * v)) rest bytes (omega (arith, room-below w v n (length rest) h (omega (arith, long)))))

  made_again : noisy_table k b L (table_row w t) ≡ t
  made_again = (λ i. sym front i ++ (body-made ∙ body_is t) i) ∙ take-append-drop 8 t

pub lays_out : LaysOut
lays_out = record {
  made = λ k w b L rows p q r held. (
    let body = joined_bytes (λ v. flat_map four_bytes (rows v)) (λ v. joined_bytes four_bytes (λ x. bytes_of-bytes 4 (of_z w32 x)) (rows v)) (range_with_len 0 (size b L)) in
        (omega arith, (omega arith, (omega arith, (omega arith, (omega arith, (p, (q, (r, body)))))))),
    table-passed k w b L rows held,
    table-rows k w b L rows held,
  );
  again = made_again;
}
