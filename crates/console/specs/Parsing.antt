-- What is parsed is what a word writes.
use Rattle.std.specs.Prelude.{ℕ, ◌^◌, ◌<◌, List, ℤ, Result, Ok, Err, FitsSigned, MatchResult}
use Rattle.std.proofs.Common.{subst, sym}
use Rattle.std.specs.Int.{w64}
use Rattle.std.specs.Str.Parse.{ParsesUnsigned, ParsesSigned}
use Rattle.console.specs.Words.{Integer, Number}

pub number_parsed : {E : Type 0} (k : ℕ) (word : List ℕ) (r : Result ℕ E) → ParsesUnsigned k 10 word r
    → MatchResult r (λ n. Number k word n) (λ _. (n : ℕ) → Number k word n → ⊥)
number_parsed k word (Ok n) h = record { numeral = h.0.0; written = h.1; fits = subst (λ (x : ℕ). x < 2 ^ k) (sym h.1) h.0.1 }
number_parsed k word (Err e) h = λ n m. h (m.numeral, subst (λ (x : ℕ). x < 2 ^ k) m.written m.fits)

pub integer_parsed : {E : Type 0} (word : List ℕ) (r : Result ℤ E) → ParsesSigned w64 10 word r
    → MatchResult r (λ x. Integer word x) (λ _. (x : ℤ) → Integer word x → ⊥)
integer_parsed word (Ok x) h = record { numeral = h.0.0; written = h.1; fits = subst (λ (y : ℤ). FitsSigned w64 y) (sym h.1) h.0.1 }
integer_parsed word (Err e) h = λ x m. h (m.numeral, subst (λ (y : ℤ). FitsSigned w64 y) m.written m.fits)
