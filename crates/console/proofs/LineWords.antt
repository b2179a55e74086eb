-- The words that are taken off a line are those of its text.
use Rattle.std.proofs.Common.{◌≡◌, ℕ, ◌<◌, ◌≤◌, true, false, not, cond, List, [], ◌∷◌, ◌++◌, length, get_or, sym, refl, ap, ◌∙◌, subst, arith, append-nil, ⊎_elim}
use Rattle.std.specs.Char.{is_ascii_whitespace}
use Rattle.std.specs.List.{All, AllPass, filter}
use Rattle.std.specs.Str.Iter.{IsAsciiSeparator, split_ascii_whitespace_steps, split_ascii_whitespace_text}
use Rattle.std.specs.Str.{NoCharPasses}
use Rattle.std.proofs.lemmas.Bool.{ne_eqb, cases_lt}
use Rattle.std.proofs.lemmas.Bool.Decides.{nat_tests}
use Rattle.std.proofs.lemmas.Iterator.{YieldsList}
use Rattle.std.proofs.lemmas.Iterator.Consumers.{YieldsList-from_shown}
use Rattle.std.proofs.lemmas.List.{get_or_default, nil_from_length}
use Rattle.std.proofs.lemmas.List.Elements.{All-head, All-tail, All-nil}
use Rattle.std.proofs.lemmas.List.Splits.{slice_split_none, slice_split_at}
use Rattle.std.proofs.lemmas.Str.{NoCharPasses-byte}
use Rattle.console.specs.Script.{is_some_word, words}

-- white space in front
words-space : (c : ℕ) (rest : List ℕ) → is_ascii_whitespace c ≡ true → words (c ∷ rest) ≡ words rest
words-space c rest h =
    ap (filter is_some_word) (slice_split_at is_ascii_whitespace [] c rest (All-nil (λ x. is_ascii_whitespace x ≡ false)) h)

words-gap : (gap rest : List ℕ) → AllPass is_ascii_whitespace gap → words (gap ++ rest) ≡ words rest
words-gap [] rest h = refl
words-gap (c ∷ gap) rest h =
    words-space c (gap ++ rest) (All-head (λ x. is_ascii_whitespace x ≡ true) c gap h)
    ∙ words-gap gap rest (All-tail (λ x. is_ascii_whitespace x ≡ true) c gap h)

words-one : (x sep rest : List ℕ) → 0 < length x → All (λ c. is_ascii_whitespace c ≡ false) x → IsAsciiSeparator sep rest → words (x ++ (sep ++ rest)) ≡ x ∷ words rest
words-one x [] rest some h s =
    let e : rest ≡ [] = nil_from_length rest (s.2 refl) in
    ap words (ap (λ v. x ++ v) e ∙ append-nil x)
    ∙ ap (filter is_some_word) (slice_split_none is_ascii_whitespace x h)
    ∙ ap (λ b. cond (not b) (x ∷ []) []) (ne_eqb (length x) 0 (λ z. omega arith))
    ∙ ap (λ v. x ∷ words v) (sym e)
words-one x (c ∷ []) rest some h s =
    let space : is_ascii_whitespace c ≡ true = All-head (λ z. is_ascii_whitespace z ≡ true) c [] s.0 in
    ap (filter is_some_word) (slice_split_at is_ascii_whitespace x c rest h space)
    ∙ ap (λ b. cond (not b) (x ∷ words rest) (words rest)) (ne_eqb (length x) 0 (λ z. omega arith))
words-one x (c ∷ d ∷ sep) rest some h s = absurd (omega (arith, s.1))

-- a word has no white space
high : (c : ℕ) → 128 ≤ c → is_ascii_whitespace c ≡ false
high c h = grind (arith, nat_tests)

clear : (x : List ℕ) → NoCharPasses is_ascii_whitespace x → All (λ c. is_ascii_whitespace c ≡ false) x
clear x h k d l =
    let here : get_or x k d ≡ get_or x k 0 = get_or_default x k d 0 l in
    subst (λ c. is_ascii_whitespace c ≡ false) (sym here) (⊎_elim (NoCharPasses-byte is_ascii_whitespace x k h l) (high (get_or x k 0)) (cases_lt (get_or x k 0) 128))

-- the words of a text; the fact is the call's clause `text`
pub YieldsList-from_words : {s : _} (bs : List ℕ) → split_ascii_whitespace_text s ≡ bs → YieldsList split_ascii_whitespace_steps (λ x. x.now) s (words bs)
YieldsList-from_words {s} bs e = subst (λ v. YieldsList split_ascii_whitespace_steps (λ x. x.now) s (words v)) e
    (YieldsList-from_shown split_ascii_whitespace_steps (λ x. x.now) (λ t. words (split_ascii_whitespace_text t))
    (λ t u k. ap length (ap words (sym (append-nil (split_ascii_whitespace_text t))) ∙ words-gap (split_ascii_whitespace_text t) [] k.0))
    (λ t x u k. ap words k.3.2 ∙ words-gap k.3.0 (x.now ++ (k.3.1 ++ split_ascii_whitespace_text u)) k.3.3
    ∙ words-one x.now k.3.1 (split_ascii_whitespace_text u) k.0 (clear x.now k.1) k.3.4)
    s)
